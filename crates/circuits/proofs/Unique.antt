-- An answer is known by its outcome: two answers that a contract allows are equal. Assumes nothing.
use Prim.Native.Nat.{ℕ}
use mathlib.Core.Path.{◌≡◌, refl, ap}
use Rattle.std.specs.Prelude.{Option, None, Some, Result, Ok, Err}
use Rattle.records.specs.Refusals.{number_of}
use Rattle.records.specs.declared.refusals.Refusal.{Refusal}
use Rattle.records.specs.declared.instructions.Instruction.{Instruction}
use Rattle.records.proofs.Unique.{number_one, refusal_one}
use Rattle.circuits.specs.Judging.{verdict_of}
use Rattle.circuits.specs.Stepping.{found_of}
use Rattle.circuits.specs.Sketching.{glimpsed}
use Rattle.circuits.specs.declared.judging.Fault.{Fault}
use Rattle.circuits.specs.declared.sketching.Sketch.{Sketch}

pub verdict_one : (a b : Result (Unit {0}) Fault) → verdict_of a ≡ verdict_of b → a ≡ b
verdict_one (Ok u) (Ok v) e = refl
verdict_one (Err f) (Err g) e =
    let n : number_of f.cause ≡ number_of g.cause = cc in
    let c : f.cause ≡ g.cause = number_one _ _ n in
    let o : f.operand ≡ g.operand = cc in
    λ i. Err (record { cause = c i; operand = o i })
verdict_one (Ok u) (Err g) e = cc
verdict_one (Err f) (Ok u) e = cc

pub found_one : (a b : Result (Option (Instruction × ℕ)) Refusal) → found_of a ≡ found_of b → a ≡ b
found_one (Ok (Some (i, m))) (Ok (Some (j, n))) e = cc
found_one (Ok None) (Ok None) e = refl
found_one (Err r) (Err q) e = ap (λ (x : Refusal). Err x) (refusal_one e)
found_one (Ok (Some (i, m))) (Ok None) e = cc
found_one (Ok (Some (i, m))) (Err q) e = cc
found_one (Ok None) (Ok (Some (j, n))) e = cc
found_one (Ok None) (Err q) e = cc
found_one (Err r) (Ok (Some (j, n))) e = cc
found_one (Err r) (Ok None) e = cc

pub glimpse_one : (a b : Result (Option (Sketch × ℕ)) Refusal) → glimpsed a ≡ glimpsed b → a ≡ b
glimpse_one (Ok (Some (i, m))) (Ok (Some (j, n))) e = cc
glimpse_one (Ok None) (Ok None) e = refl
glimpse_one (Err r) (Err q) e = ap (λ (x : Refusal). Err x) (refusal_one e)
glimpse_one (Ok (Some (i, m))) (Ok None) e = cc
glimpse_one (Ok (Some (i, m))) (Err q) e = cc
glimpse_one (Ok None) (Ok (Some (j, n))) e = cc
glimpse_one (Ok None) (Err q) e = cc
glimpse_one (Err r) (Ok (Some (j, n))) e = cc
glimpse_one (Err r) (Ok None) e = cc
