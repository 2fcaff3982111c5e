-- Laws of `bit` and `pack`, at any number of bits k: a number below 2 ^ k is the pack of its bits, and a pack has the
-- bits that were packed. Assumes nothing.
use mathlib.Core.Path.{◌≡◌, refl, sym, ap, ap₂, ◌∙◌}
use mathlib.Core.Bool.{Bool, true, false}
use mathlib.Core.Logic.{⊎_elim}
use Prim.Native.Nat.{ℕ, zero, suc, ◌+◌, ◌-◌, ◌*◌, ◌/◌, ◌%◌, ◌^◌, ◌≤◌, ◌<◌}
use native.Mathlib.Nat.{le_refl, lt_of_lt_of_le, eq-or-lt_of_le, le_of_suc-le-suc, not-suc-le-zero, mod-lt, mod-eq_of_lt, div-eq_of_lt, pow-suc, mul_comm, mod-one}
use native.Mathlib.Omega.{arith}
use lib.Dec.{eqb, lit<}
use lib.Arith.{digits_lt}
use lib.Pow.{pow_mono, high, low, mod-pow-add, field, mod-mod-pow}
use Rattle.bits.specs.Bits.{bit, digit, pack}

pub digit_lt : (b : Bool) → digit b < 2
digit_lt true = lit< tt
digit_lt false = lit< tt

pub pack_lt : (k : ℕ) (f : ℕ → Bool) → pack k f < 2 ^ k
unfolding pack
pack_lt zero f = lit< tt
pack_lt (suc k) f = rw (pow-suc, mul_comm (2 ^ k) 2) (digits_lt (digit_lt (f k)) (pack_lt k f))

-- only the k bits matter
pub pack_ext : (k : ℕ) {f g : ℕ → Bool} → ((i : ℕ) → i < k → f i ≡ g i) → pack k f ≡ pack k g
unfolding pack
pack_ext zero h = refl
pack_ext (suc k) h = ap₂ (λ (b : Bool) (r : ℕ). digit b * 2 ^ k + r) (h k (le_refl (suc k))) (pack_ext k (λ i l. h i (omega arith)))

-- ---- a number below 2 ^ k is the pack of its bits

digit_mod : (x : ℕ) → x < 2 → digit (eqb x 1) ≡ x
digit_mod zero h = refl
digit_mod (suc zero) h = refl
digit_mod (suc (suc x)) h = absurd (omega arith)

bit-digit : (i n : ℕ) → digit (bit i n) ≡ n / 2 ^ i % 2
unfolding bit
bit-digit i n = digit_mod (n / 2 ^ i % 2) (mod-lt (n / 2 ^ i) (lit< tt))

-- n's k + 1 low bits are bit k and the k low ones
low_suc : (k n : ℕ) → n % 2 ^ suc k ≡ digit (bit k n) * 2 ^ k + n % 2 ^ k
low_suc k n = rw (bit-digit, ← mod-pow-add n 1 k) (ap (λ (x : ℕ). n % 2 ^ x) (omega arith))

low_pack : (k n : ℕ) → n % 2 ^ k ≡ pack k (λ i. bit i n)
unfolding pack
low_pack zero n = mod-one n
low_pack (suc k) n = low_suc k n ∙ ap (λ (x : ℕ). digit (bit k n) * 2 ^ k + x) (low_pack k n)

pub pack-bit : (k : ℕ) {n : ℕ} → n < 2 ^ k → n ≡ pack k (λ i. bit i n)
pack-bit k {n} h = sym (mod-eq_of_lt h) ∙ low_pack k n

-- ---- a pack has the bits that were packed

-- the bit at the seam
bit_top : (k : ℕ) (b : Bool) {r : ℕ} → r < 2 ^ k → bit k (digit b * 2 ^ k + r) ≡ b
unfolding bit
bit_top k true h = ap (λ (x : ℕ). eqb (x % 2) 1) (high 1 k h)
bit_top k false h = ap (λ (x : ℕ). eqb (x % 2) 1) (high 0 k h)

-- the bits below k are those of the k low bits
bit_mod : (j i n : ℕ) → bit i (n % 2 ^ (j + 1 + i)) ≡ bit i n
unfolding bit
bit_mod j i n = ap (λ (x : ℕ). eqb (x % 2) 1) (field n (j + 1) i) ∙ ap (λ (x : ℕ). eqb x 1) (mod-mod-pow (n / 2 ^ i) j 1)

bit_low : (k i n : ℕ) → i < k → bit i (n % 2 ^ k) ≡ bit i n
bit_low k i n h =
    let e : k ≡ (k - suc i) + 1 + i = omega arith in
    ap (λ (x : ℕ). bit i (n % 2 ^ x)) e ∙ bit_mod (k - suc i) i n

pub bit-pack : (k : ℕ) (f : ℕ → Bool) (i : ℕ) → i < k → bit i (pack k f) ≡ f i
unfolding pack
bit-pack zero f i h = absurd (not-suc-le-zero h)
bit-pack (suc k) f i h =
    ⊎_elim (λ e. ap (λ (x : ℕ). bit x (digit (f k) * 2 ^ k + pack k f)) e ∙ bit_top k (f k) (pack_lt k f) ∙ ap f (sym e))
    (λ l. sym (bit_low k i _ l) ∙ ap (bit i) (low (digit (f k)) k (pack_lt k f)) ∙ bit-pack k f i l)
    (eq-or-lt_of_le (le_of_suc-le-suc h))

-- past its k bits a number has none
pub bit_past : (k : ℕ) {n : ℕ} (i : ℕ) → n < 2 ^ k → k ≤ i → bit i n ≡ false
unfolding bit
bit_past k i h l = ap (λ (x : ℕ). eqb (x % 2) 1) (div-eq_of_lt (lt_of_lt_of_le h (pow_mono l)))

-- ---- no bit, and all of them

pub none_pack : (k : ℕ) → pack k (λ i. false) ≡ 0
unfolding pack
none_pack zero = refl
none_pack (suc k) = omega (arith, none_pack k)

pub nothing_packed : (k : ℕ) {f : ℕ → Bool} → ((i : ℕ) → f i ≡ false) → 0 ≡ pack k f
nothing_packed k h = sym (none_pack k) ∙ pack_ext k (λ i l. sym (h i))
