-- An answer is known by its outcome: two answers that a contract allows are equal. Assumes nothing.
use Prim.Native.Nat.{ℕ}
use mathlib.Core.Path.{◌≡◌, refl, sym, ap, ◌∙◌}
use lib.Dec.{eqb}
use Rattle.std.specs.Prelude.{Option, Some, None, Result, Ok, Err, IsOk}
use Rattle.basics.proofs.Outcomes.{not_refused}
use Rattle.basics.specs.Choice.{pick}
use Rattle.std.specs.Result.{result_unwrap_or}
use Rattle.basics.specs.Outcome.{Outcome, done, beside}
use Rattle.records.specs.Refusals.{number_of, refusal_of, outcome_of}
use Rattle.records.specs.Records.{answered}
use Rattle.records.specs.declared.refusals.Cause.{Cause}
use Rattle.records.specs.declared.refusals.Cause.TheVariants as cause
use Rattle.records.specs.declared.refusals.Refusal.{Refusal}
use Rattle.records.specs.declared.instructions.Record.{Record}

-- the cause of a number
cause_of : ℕ → Cause
cause_of k =
    pick (eqb k 1) cause.NoStaticWidth (
    pick (eqb k 2) cause.CutBody (
    pick (eqb k 3) cause.WrongWidth (
    pick (eqb k 4) cause.NoInstruction (
    pick (eqb k 5) cause.TooManyInstructions (
    pick (eqb k 6) cause.LineOutside (
    pick (eqb k 7) cause.LineNamedTwice (
    pick (eqb k 8) cause.NotYetReset (
    pick (eqb k 9) cause.AlreadyReset (
    pick (eqb k 10) cause.AlreadyMeasured (
    pick (eqb k 11) cause.BitOutside (
    pick (eqb k 12) cause.BitAlreadyUsed (
    pick (eqb k 13) cause.NeverMeasured (
    pick (eqb k 20) cause.PairOutside (
    pick (eqb k 21) cause.LenderAlreadyLends (
    pick (eqb k 22) cause.TakerAlreadyTakes (
    pick (eqb k 23) cause.ClosesLoop (
    pick (eqb k 24) cause.NoPair (
    pick (eqb k 25) cause.CutPair (
    pick (eqb k 27) cause.WrongTableWidth (
    cause.NoRoom))))))))))))))))))))

caused : (c : Cause) → cause_of (number_of c) ≡ c
unfolding cause_of
caused cause.NoStaticWidth = refl
caused cause.CutBody = refl
caused cause.WrongWidth = refl
caused cause.NoInstruction = refl
caused cause.TooManyInstructions = refl
caused cause.LineOutside = refl
caused cause.LineNamedTwice = refl
caused cause.NotYetReset = refl
caused cause.AlreadyReset = refl
caused cause.AlreadyMeasured = refl
caused cause.BitOutside = refl
caused cause.BitAlreadyUsed = refl
caused cause.NeverMeasured = refl
caused cause.PairOutside = refl
caused cause.LenderAlreadyLends = refl
caused cause.TakerAlreadyTakes = refl
caused cause.ClosesLoop = refl
caused cause.NoPair = refl
caused cause.CutPair = refl
caused cause.WrongTableWidth = refl
caused cause.NoRoom = refl

-- no two causes have one number
pub number_one : (a b : Cause) → number_of a ≡ number_of b → a ≡ b
number_one a b e = sym (caused a) ∙ ap cause_of e ∙ caused b

-- a refusal by its number and its place
pub refusal_one : {A : Type 0} {r q : Refusal} → ◌≡◌ {A = Outcome A} (refusal_of r) (refusal_of q) → r ≡ q
refusal_one {A} {r} {q} e =
    let n : number_of r.cause ≡ number_of q.cause = cc in
    let c : r.cause ≡ q.cause = number_one _ _ n in
    let p : r.place ≡ q.place = cc in
    λ i. record { cause = c i; place = p i }

-- an answer that is a value or a refusal
pub outcome_one : {A : Type 0} (a b : Result A Refusal) → outcome_of a ≡ outcome_of b → a ≡ b
outcome_one (Ok x) (Ok y) e = cc
outcome_one (Err r) (Err q) e = ap (λ (x : Refusal). Err x) (refusal_one e)
outcome_one (Ok x) (Err q) e = cc
outcome_one (Err r) (Ok y) e = cc

pub answered_one : (a b : Result (Option (Record × ℕ)) Refusal) → answered a ≡ answered b → a ≡ b
answered_one (Ok (Some (x, m))) (Ok (Some (y, n))) e = cc
answered_one (Ok None) (Ok None) e = refl
answered_one (Err r) (Err q) e = ap (λ (x : Refusal). Err x) (refusal_one e)
answered_one (Ok (Some (x, m))) (Ok None) e = cc
answered_one (Ok (Some (x, m))) (Err q) e = cc
answered_one (Ok None) (Ok (Some (y, n))) e = cc
answered_one (Ok None) (Err q) e = cc
answered_one (Err r) (Ok (Some (y, n))) e = cc
answered_one (Err r) (Ok None) e = cc

-- what stands beside a refusal is what the caller puts there
pub unwrapped : {A : Type 0} (r : Result A Refusal) (given : A) → result_unwrap_or r given ≡ beside given (outcome_of r)
unwrapped (Ok a) given = refl
unwrapped (Err r) given = refl

pub unwraps : {A : Type 0} (r : Result A Refusal) {o : Outcome A} (given : A) → outcome_of r ≡ o → result_unwrap_or r given ≡ beside given o
unwraps r given e = unwrapped r given ∙ ap (beside given) e

-- a value that is done is told by `Ok`
pub done_ok : {A : Type 0} (r : Result A Refusal) {a : A} → outcome_of r ≡ done a → IsOk r
done_ok (Ok a) e = refl
done_ok (Err r) e = absurd (not_refused e)
