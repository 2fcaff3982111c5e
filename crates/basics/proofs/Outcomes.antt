-- Laws of outcomes: a refusal is not done, and what a value that was handed back says of it. Assumes nothing.
use Prim.Native.Nat.{ℕ}
use mathlib.Core.Path.{◌≡◌, refl}
use native.Mathlib.Omega.{arith}
use Rattle.basics.specs.Outcome.{Outcome, done, refused, handing}

-- a refusal is not done
pub not_refused : {A : Type 0} {a : A} {number place : ℕ} → refused number place ≡ done a → ⊥
not_refused {A} {a} {number} {place} e = let z : ◌≡◌ {A = ℕ} 0 1 = cc in omega arith

module _ {A B : Type 0} (given back : B) where
  -- the value handed back is the one given
  pub handing_value : (o : Outcome A) → handing given o ≡ done back → back ≡ given
  handing_value (done a) e = cc
  handing_value (refused number place) e = absurd (not_refused e)

-- and where there was nothing else to hand back, all was done
pub handing-done : {B : Type 0} (given back : B) (o : Outcome (Unit {0})) → handing given o ≡ done back → o ≡ done tt
handing-done given back (done tt) e = refl
handing-done given back (refused number place) e = absurd (not_refused e)
