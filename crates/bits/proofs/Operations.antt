-- The operations of code on rows of bits, at any number of bits k. `Packs k f n` says that n is the pack of f: each law
-- takes operands of which that is known, and `.is` hands the equation over. Assumes nothing.
use mathlib.Core.Path.{◌≡◌, refl, sym, ap, ap₂, ◌∙◌, subst}
use mathlib.Core.Bool.{Bool, true, false, not, ◌&&◌, ◌||◌}
use mathlib.Core.Logic.{⊎_elim}
use Prim.Native.Nat.{ℕ, zero, suc, ◌+◌, ◌-◌, ◌*◌, ◌%◌, ◌^◌, ◌≤◌, ◌<◌}
use native.Mathlib.Nat.{eq-or-lt_of_le, le_of_suc-le-suc, not-suc-le-zero, mod-eq_of_lt, pow-suc, one-mul}
use native.Mathlib.Omega.{arith}
use borrow.Author.Tests.{lt-ltb, le-ltb, eq-eqb, ne_eqb}
use lib.Dec.{eqb, ltb}
use lib.Arith.{le-zero}
use lib.Pow.{pow_pos, pow-lt}
use lib.Bits.{bit_and, bit_or, and_block, or_block}
use Rattle.bits.specs.Bits.{bit, digit, pack}
use Rattle.bits.proofs.Packing.{pack_lt, pack_ext, pack-bit, bit-pack, none_pack}

pub record Packs (k : ℕ) (f : ℕ → Bool) (n : ℕ) : Type 0 where
  pub is : n ≡ pack k f

-- a number that fits
pub own : (k : ℕ) {n : ℕ} → n < 2 ^ k → Packs k (λ i. bit i n) n
own k h = record { is = pack-bit k h }

-- ---- and, or

digit_and : (a b : Bool) → bit_and (digit a) (digit b) ≡ digit (a && b)
digit_and true true = refl
digit_and true false = refl
digit_and false b = refl

digit_or : (a b : Bool) → bit_or (digit a) (digit b) ≡ digit (a || b)
digit_or true true = refl
digit_or true false = refl
digit_or false b = refl

and_pack : (k : ℕ) (f g : ℕ → Bool) → bit_and (pack k f) (pack k g) ≡ pack k (λ i. f i && g i)
unfolding pack
and_pack zero f g = refl
and_pack (suc k) f g =
    and_block k (digit (f k)) (digit (g k)) (pack k f) (pack k g) (pack_lt k f) (pack_lt k g)
    ∙ ap₂ (λ (x y : ℕ). x * 2 ^ k + y) (digit_and (f k) (g k)) (and_pack k f g)

or_pack : (k : ℕ) (f g : ℕ → Bool) → bit_or (pack k f) (pack k g) ≡ pack k (λ i. f i || g i)
unfolding pack
or_pack zero f g = refl
or_pack (suc k) f g =
    or_block k (digit (f k)) (digit (g k)) (pack k f) (pack k g) (pack_lt k f) (pack_lt k g)
    ∙ ap₂ (λ (x y : ℕ). x * 2 ^ k + y) (digit_or (f k) (g k)) (or_pack k f g)

module _ {k : ℕ} {a b : ℕ} {f g : ℕ → Bool} where
  pub and_is : Packs k f a → Packs k g b → Packs k (λ i. f i && g i) (bit_and a b)
  and_is p q = record { is = ap₂ bit_and p.is q.is ∙ and_pack k f g }

  pub or_is : Packs k f a → Packs k g b → Packs k (λ i. f i || g i) (bit_or a b)
  or_is p q = record { is = ap₂ bit_or p.is q.is ∙ or_pack k f g }

-- ---- not

not_step : (b : Bool) (p q r s : ℕ) → q ≡ p * 2 → r < p → (p - 1) - r ≡ s → (q - 1) - (digit b * p + r) ≡ digit (not b) * p + s
not_step true p q r s e h i = omega arith
not_step false p q r s e h i = omega arith

not-pack : (k : ℕ) (f : ℕ → Bool) → (2 ^ k - 1) - pack k f ≡ pack k (λ i. not (f i))
unfolding pack
not-pack zero f = refl
not-pack (suc k) f = not_step (f k) (2 ^ k) (2 ^ suc k) (pack k f) _ (pow-suc 2 k) (pack_lt k f) (not-pack k f)

module _ {k : ℕ} {a : ℕ} {f : ℕ → Bool} where
  pub not_is : Packs k f a → Packs k (λ i. not (f i)) ((2 ^ k - 1) - a)
  not_is p = record { is = ap (λ (x : ℕ). (2 ^ k - 1) - x) p.is ∙ not-pack k f }

  -- the same bits, said otherwise
  pub same : {g : ℕ → Bool} → Packs k f a → ((i : ℕ) → i < k → f i ≡ g i) → Packs k g a
  same p h = record { is = p.is ∙ pack_ext k h }

  pub bit_is : Packs k f a → (i : ℕ) → i < k → bit i a ≡ f i
  bit_is p i h = ap (bit i) p.is ∙ bit-pack k f i h

  pub lt_is : Packs k f a → a < 2 ^ k
  lt_is p = subst (λ (x : ℕ). x < 2 ^ k) (sym p.is) (pack_lt k f)

-- ---- the w low bits: `(1 << w) - 1`

all_pack : (k : ℕ) → pack k (λ i. true) ≡ 2 ^ k - 1
unfolding pack
all_pack zero = refl
all_pack (suc k) = omega (arith, all_pack k, pow-suc 2 k, pow_pos k)

ones_low : (k w : ℕ) → w ≤ k → 2 ^ w - 1 ≡ pack k (λ i. ltb i w)
unfolding pack
ones_low zero w h = ap (λ (x : ℕ). 2 ^ x - 1) (le-zero h)
ones_low (suc k) w h =
    ⊎_elim (λ e. ap (λ (x : ℕ). 2 ^ x - 1) e ∙ sym (all_pack (suc k)) ∙ pack_ext (suc k) (λ i l. sym (lt-ltb i w (omega arith))))
    (λ l. ones_low k w (le_of_suc-le-suc l) ∙ rw (le-ltb k w (le_of_suc-le-suc l)) (omega arith))
    (eq-or-lt_of_le h)

pub low_is : (k w : ℕ) → w ≤ k → Packs k (λ i. ltb i w) (2 ^ w - 1)
low_is k w h = record { is = ones_low k w h }

-- all of them, where w is past the last
pub low_all : (k w : ℕ) → k ≤ w → Packs k (λ i. ltb i w) (2 ^ k - 1)
low_all k w h = record { is = sym (all_pack k) ∙ pack_ext k (λ i l. sym (lt-ltb i w (omega arith))) }

-- ---- bit j alone: `1 << j`

power_is : (k j : ℕ) → j < k → 2 ^ j ≡ pack k (λ i. eqb i j)
unfolding pack
power_is zero j h = absurd (not-suc-le-zero h)
power_is (suc k) j h =
    ⊎_elim (λ e. ap (λ (x : ℕ). 2 ^ x) e ∙ top e)
    (λ l. power_is k j l ∙ rw (ne_eqb k j (λ e. omega arith)) (omega arith))
    (eq-or-lt_of_le (le_of_suc-le-suc h))
  where
    below : j ≡ k → pack k (λ i. eqb i j) ≡ 0
    below e = pack_ext k (λ i l. ne_eqb i j (λ d. omega arith)) ∙ none_pack k

    top : j ≡ k → 2 ^ k ≡ digit (eqb k j) * 2 ^ k + pack k (λ i. eqb i j)
    top e = rw (below e, eq-eqb k j (sym e)) (omega arith)

pub shl_one : (k j : ℕ) → j < k → (1 * 2 ^ j) % 2 ^ k ≡ 2 ^ j
shl_one k j h = rw (one-mul (2 ^ j)) (mod-eq_of_lt (pow-lt h))

pub shl_is : (k j : ℕ) → j < k → Packs k (λ i. eqb i j) ((1 * 2 ^ j) % 2 ^ k)
shl_is k j h = record { is = shl_one k j h ∙ power_is k j h }
