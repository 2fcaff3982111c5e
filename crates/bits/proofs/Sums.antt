-- Laws of sums and of counts of bits. Assumes nothing.
use mathlib.Core.Path.{◌≡◌, refl, sym, ap, ap₂, ◌∙◌}
use mathlib.Core.Bool.{Bool, true, false}
use mathlib.Core.Logic.{⊎_elim}
use Prim.Native.Nat.{ℕ, zero, suc, ◌+◌, ◌*◌, ◌≤◌, ◌<◌, zero-le}
use native.Mathlib.Nat.{le_refl, le_of_suc-le-suc, eq-or-lt_of_le, not-suc-le-zero, add_comm, suc-mul}
use native.Mathlib.Omega.{arith}
use native.Mathlib.Numerals.{add-one}
use lib.Dec.{lit<, lit≤}
use lib.Count.{ones, ones_cat}
use Rattle.bits.specs.Bits.{digit, pack, total, tally}
use Rattle.bits.proofs.Packing.{digit_lt, pack_lt}
use Rattle.bits.proofs.Operations.{Packs}

total_more : (k : ℕ) (f : ℕ → ℕ) → total (k + 1) f ≡ total k f + f k
unfolding total
total_more k f = rw add-one

pub total_le : (k m : ℕ) (f : ℕ → ℕ) → ((i : ℕ) → i < k → f i ≤ m) → total k f ≤ k * m
unfolding total
total_le zero m f h = zero-le
total_le (suc k) m f h = omega (arith, suc-mul k m, total_le k m f (λ i l. h i (omega arith)), h k (le_refl (suc k)))

pub tally_le : (k : ℕ) (f : ℕ → Bool) → tally k f ≤ k
tally_le k f = omega (arith, total_le k 1 (λ i. digit (f i)) (λ i l. le_of_suc-le-suc (digit_lt (f i))))

-- parts that are 0 add nothing
pub total_none : (k : ℕ) (f : ℕ → ℕ) → ((i : ℕ) → f i ≡ 0) → total k f ≡ 0
unfolding total
total_none zero f h = refl
total_none (suc k) f h = omega (arith, total_none k f h, h k)

pub total_cut : (w k : ℕ) (f : ℕ → ℕ) → w ≤ k → ((i : ℕ) → w ≤ i → f i ≡ 0) → total k f ≡ total w f
unfolding total
total_cut zero zero f le h = refl
total_cut (suc w) zero f le h = absurd (not-suc-le-zero le)
total_cut w (suc k) f le h =
    ⊎_elim (λ e. ap (λ (n : ℕ). total n f) (sym e))
    (λ l. let s : w ≤ k = le_of_suc-le-suc l in omega (arith, total_cut w k f s h, h k s))
    (eq-or-lt_of_le le)

-- a sum of no larger parts is no larger
total_mono : (k : ℕ) (f g : ℕ → ℕ) → ((i : ℕ) → i < k → f i ≤ g i) → total k f ≤ total k g
unfolding total
total_mono zero f g h = zero-le
total_mono (suc k) f g h = omega (arith, total_mono k f g (λ i l. h i (omega arith)), h k (le_refl (suc k)))

-- and is smaller where one part is
pub total_less : (k : ℕ) (f g : ℕ → ℕ) → ((i : ℕ) → i < k → f i ≤ g i) → (j : ℕ) → j < k → f j < g j → total k f < total k g
unfolding total
total_less zero f g h j l s = absurd (not-suc-le-zero l)
total_less (suc k) f g h j l s =
    ⊎_elim (λ e. top e)
    (λ m. omega (arith, total_less k f g (λ i n. h i (omega arith)) j m s, h k (le_refl (suc k))))
    (eq-or-lt_of_le (le_of_suc-le-suc l))
  where
    top : j ≡ k → total k f + f k < total k g + g k
    top e = let s' : f k < g k = rw e at s in omega (arith, total_mono k f g (λ i n. h i (omega arith)))

digit_mono : (a b : Bool) → (a ≡ true → b ≡ true) → digit a ≤ digit b
digit_mono false b h = zero-le
digit_mono true b h = rw (h refl) (lit≤ tt)

digit_less : (a b : Bool) → a ≡ false → b ≡ true → digit a < digit b
digit_less a b e h = rw (e, h) (lit< tt)

-- the same of counts
module _ (k : ℕ) (f g : ℕ → Bool) (h : (i : ℕ) → f i ≡ true → g i ≡ true) where
  pub tally_mono : tally k f ≤ tally k g
  tally_mono = total_mono k (λ i. digit (f i)) (λ i. digit (g i)) (λ i l. digit_mono (f i) (g i) (h i))

  pub tally_less : (j : ℕ) → j < k → f j ≡ false → g j ≡ true → tally k f < tally k g
  tally_less j l e y =
      total_less k (λ i. digit (f i)) (λ i. digit (g i)) (λ i m. digit_mono (f i) (g i) (h i)) j l (digit_less (f j) (g j) e y)

tally_all : (k : ℕ) → tally k (λ i. true) ≡ k
unfolding total
tally_all zero = refl
tally_all (suc k) = omega (arith, tally_all k)

-- where one of k is missing, fewer than k are there
pub tally_missing : (k : ℕ) (f : ℕ → Bool) (j : ℕ) → j < k → f j ≡ false → tally k f < k
tally_missing k f j l e = omega (arith, tally_less k f (λ i. true) (λ i h. refl) j l e refl, tally_all k)

-- ---- the set bits of a number

ones-digit : (b : Bool) → ones (digit b) ≡ digit b
unfolding ones
ones-digit true = refl
ones-digit false = refl

ones-pack : (k : ℕ) (f : ℕ → Bool) → ones (pack k f) ≡ tally k f
unfolding pack total ones
ones-pack zero f = refl
ones-pack (suc k) f = ones_cat k (digit (f k)) (pack k f) (pack_lt k f) ∙ add_comm _ _ ∙ ap₂ (λ (x y : ℕ). x + y) (ones-pack k f) (ones-digit (f k))

-- `count_ones` counts the bits
ones_is : {k : ℕ} {a : ℕ} {f : ℕ → Bool} → Packs k f a → ones a ≡ tally k f
ones_is {k} {a} {f} p = ap ones p.is ∙ ones-pack k f

-- the counts of the first rows, and of one row more
pub tallies_more : (k : ℕ) (f : ℕ → ℕ → Bool) (u n r : ℕ) → n ≡ total u (λ j. tally k (f j)) → Packs k (f u) r
    → n + ones r ≡ total (u + 1) (λ j. tally k (f j))
tallies_more k f u n r e p = ap₂ (λ (x y : ℕ). x + y) e (ones_is p) ∙ sym (total_more u (λ j. tally k (f j)))

pub tallies_le : (k : ℕ) (f : ℕ → ℕ → Bool) (u n : ℕ) → n ≡ total u (λ j. tally k (f j)) → n ≤ u * k
tallies_le k f u n e = rw e (total_le u k _ (λ i l. tally_le k (f i)))
