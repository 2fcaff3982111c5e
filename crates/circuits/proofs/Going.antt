-- A loop over a valid circuit, which has no fault: what it goes on by, and where it ends. Assumes nothing.
use Prim.Native.Nat.{ℕ}
use mathlib.Core.Path.{◌≡◌, sym, ap, ◌∙◌}
use Rattle.std.specs.Prelude.{Option, None, Some, Result, Ok, Err}
use Rattle.std.specs.Result.{result_unwrap_or}
use Rattle.basics.specs.Outcome.{Outcome}
use Rattle.records.specs.declared.refusals.Refusal.{Refusal}

-- an answer of the code in which a fault counts as the end, by what it says
module _ {X Y : Type 0} (says : Result (Option (X × ℕ)) Refusal → Outcome Y) {o : Outcome Y} where
  pub goes_on : (r : Result (Option (X × ℕ)) Refusal) {x : X} {next : ℕ} → says r ≡ o → result_unwrap_or r None ≡ Some (x, next)
      → o ≡ says (Ok (Some (x, next)))
  goes_on (Ok u) s e = sym s ∙ ap (λ v. says (Ok v)) e
  goes_on (Err q) s e = absurd cc

  pub goes_out : (r : Result (Option (X × ℕ)) Refusal) → says r ≡ o → ((q : Refusal) → says (Err q) ≡ o → ⊥)
      → result_unwrap_or r None ≡ None → o ≡ says (Ok None)
  goes_out (Ok u) s f e = sym s ∙ ap (λ v. says (Ok v)) e
  goes_out (Err q) s f e = absurd (f q s)
