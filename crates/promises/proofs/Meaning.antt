-- What is kept: a circuit written again is the same bytes, and the dynamic circuit's instructions do, in their order, what the static
-- circuit's do, if instructions that share no wire commute. Assumes nothing.
use Prim.Native.Nat.{ℕ, ◌≤◌}
use mathlib.Core.Path.{◌≡◌, sym, ap, ◌∙◌}
use mathlib.Core.Logic.{inl, inr}
use mathlib.Core.Bool.{true, false}
use mathlib.Core.List.{List}
use native.Mathlib.Omega.{arith}
use lib.ListN.{length}
use Rattle.basics.specs.Outcome.{done}
use Rattle.basics.proofs.Tests.{same_or_other}
use Rattle.writing.proofs.Puts.{fitted-done}
use Rattle.orders.specs.Indices.{input_order}
use Rattle.orders.specs.Runs.{Pair}
use Rattle.orders.specs.Swaps.{effect}
use Rattle.orders.proofs.Swaps.{effect-kept}
use Rattle.circuits.specs.Reading.{Static, read_circuit}
use Rattle.circuits.specs.Rewriting.{again_of, rewritten}
use Rattle.circuits.proofs.Validity.{read_valid}
use Rattle.precedence.specs.Precedence.{on, circuit_of}
use Rattle.precedence.proofs.Precedence.{read_wired, circuit_lawful}
use Rattle.writer.specs.Compiling.{Dynamic}
use Rattle.writer.proofs.Allowed.{share_no_wire}
use Rattle.promises.specs.Dynamic.{Faithful}

module _ (s : List ℕ) (c : Static) (e : read_circuit s ≡ done c) where
  -- THEOREM: reading a valid circuit and writing its records again gives the same bytes.
  pub rewrite_is_identity : (room : ℕ) → length s ≤ room → rewritten s room ≡ done s
  unfolding rewritten
  rewrite_is_identity room h =
      let same = (read_valid s e).bytes in
      ap (again_of room) e ∙ fitted-done room _ (let size = ap length same in omega arith) ∙ ap (λ (bytes : List ℕ). done bytes) (sym same)

  -- THEOREM: whatever the instructions do to a state, if two that share no wire commute, then in the order of the dynamic circuit they leave the
  -- state that they leave in input order.
  pub meaning-kept {ℓ} : {S : Type ℓ} (does : ℕ → S → S)
      → ((i j : ℕ) → ((x : ℕ) → on c.steps x i ≡ true → on c.steps x j ≡ true → ⊥) → (z : S) → does j (does i z) ≡ does i (does j z))
      → (ps : List Pair) (d : Dynamic) (f : Faithful c ps d) (z : S) → effect does (input_order (length c.steps)) z ≡ effect does f.order z
  meaning-kept {S = S} does commute ps d f z = effect-kept (circuit_of c) (circuit_lawful c (read_wired s e)) does apart ps f.order f.runs z
    where
      apart : (i j : ℕ) → (circuit_of c).prec i j ≡ false → (circuit_of c).prec j i ≡ false → (z : S) → does j (does i z) ≡ does i (does j z)
      apart i j a b z = elim (same_or_other i j) [
        | inl q ↦ rw q
        | inr d ↦ commute i j (share_no_wire c i j d a b) z
      ]
