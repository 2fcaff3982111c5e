-- Laws of the least number that passes a test. Assumes nothing.
use Prim.Native.Nat.{ℕ, zero, suc, ◌+◌, ◌≤◌, ◌<◌}
use mathlib.Core.Path.{◌≡◌, sym, subst}
use mathlib.Core.Logic.{inl, inr}
use mathlib.Core.Bool.{Bool, true, false}
use native.Mathlib.Omega.{arith}
use Rattle.basics.proofs.Tests.{true_or_false, not_both, same_or_other, below_or_not}
use Rattle.orders.specs.Schedule.{least}

least_here : (p : ℕ → Bool) (k i : ℕ) → p i ≡ true → least p (suc k) i ≡ i
unfolding least
least_here p k i e = rw (least, e)

least_on : (p : ℕ → Bool) (k i : ℕ) → p i ≡ false → least p (suc k) i ≡ least p k (suc i)
unfolding least
least_on p k i e = rw (least, e)

-- what is below it does not pass
pub least_miss : (p : ℕ → Bool) (k i m : ℕ) → i ≤ m → m < least p k i → p m ≡ false
unfolding least
least_miss p zero i m a b = absurd (omega arith)
least_miss p (suc k) i m a b = elim (true_or_false (p i)) [
  | inl t ↦ absurd (omega (arith, least_here p k i t))
  | inr f ↦ elim (same_or_other m i) [
    | inl e ↦ subst (λ z. p z ≡ false) (sym e) f
    | inr d ↦ (let q = least_on p k i f in least_miss p k (suc i) m (omega arith) (omega arith))
  ]
]

-- it passes, unless it is the end
pub least_hit : (p : ℕ → Bool) (k i : ℕ) → least p k i < i + k → p (least p k i) ≡ true
unfolding least
least_hit p zero i b = absurd (omega arith)
least_hit p (suc k) i b = elim (true_or_false (p i)) [
  | inl t ↦ rw (least_here p k i t) t
  | inr f ↦ (let q = least_on p k i f in rw q (least_hit p k (suc i) (omega arith)))
]

-- one that passes, and none below it: that one
pub least_is : (p : ℕ → Bool) (k j : ℕ) → j < k → ((m : ℕ) → m < j → p m ≡ false) → p j ≡ true → least p k 0 ≡ j
least_is p k j l below t = elim (below_or_not (least p k 0) j) [
  | inl a ↦ absurd (not_both (p (least p k 0)) (least_hit p k 0 (omega arith)) (below (least p k 0) a))
  | inr b ↦ elim (below_or_not j (least p k 0)) [
    | inl c ↦ absurd (not_both (p j) t (least_miss p k 0 j (omega arith) c))
    | inr d ↦ omega arith
  ]
]
