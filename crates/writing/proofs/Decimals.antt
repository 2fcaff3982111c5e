-- Laws of decimals: how one grows by a digit, that it has a digit and no leading zero, that its bytes are digits, that
-- different numbers have different decimals, and how long one is. Assumes nothing.
use Prim.Native.Nat.{ℕ, zero, suc, ◌+◌, ◌*◌, ◌-◌, ◌/◌, ◌%◌, ◌^◌, ◌≤◌, ◌<◌}
use mathlib.Core.Path.{◌≡◌, refl, sym, ap, ◌∙◌}
use mathlib.Core.Logic.{⊎_elim, ◌≢◌}
use mathlib.Core.List.{List, [], ◌∷◌, ◌++◌}
use native.Mathlib.Omega.{arith}
use native.Mathlib.Nat.{pow-suc, div-eq_of_lt, mod-eq_of_lt}
use lib.ListN.{length, get_or, length-append, get_or-append}
use lib.Seq.{get_or-append_seam}
use Rattle.basics.proofs.Tests.{below_or_not}
use Rattle.writing.specs.Decimals.{digit, digits_of, decimal, most_digits}

digits_none : (a n : ℕ) → n ≡ 0 → digits_of a n ≡ []
digits_none zero n e = refl
digits_none (suc a) zero e = refl
digits_none (suc a) (suc n) e = absurd (omega arith)

-- the bound does not matter
digits_same : (a b n : ℕ) → n ≤ a → n ≤ b → digits_of a n ≡ digits_of b n
digits_same zero b n h k = sym (digits_none b n (omega arith))
digits_same (suc a) zero n h k = digits_none (suc a) n (omega arith)
digits_same (suc a) (suc b) zero h k = refl
digits_same (suc a) (suc b) (suc n) h k =
    ap (λ (l : List ℕ). l ++ (digit (suc n % 10) ∷ [])) (digits_same a b (suc n / 10) (omega arith) (omega arith))

-- a number below ten is one digit
pub decimal_one : (n : ℕ) → n < 10 → decimal n ≡ digit n ∷ []
unfolding decimal
decimal_one n l = rw (digits_none n (n / 10) (div-eq_of_lt l), mod-eq_of_lt l)

-- any other has its last digit behind the decimal of what that leaves
pub decimal_more : (n : ℕ) → 10 ≤ n → decimal n ≡ decimal (n / 10) ++ (digit (n % 10) ∷ [])
unfolding decimal
decimal_more n l = ap (λ (xs : List ℕ). xs ++ (digit (n % 10) ∷ [])) (go n (n / 10) (omega arith) (omega arith))
  where
    go : (a q : ℕ) → 0 < q → q ≤ a → digits_of a q ≡ digits_of q (q / 10) ++ (digit (q % 10) ∷ [])
    go zero q p k = absurd (omega arith)
    go (suc a) zero p k = absurd (omega arith)
    go (suc a) (suc q) p k =
        ap (λ (xs : List ℕ). xs ++ (digit (suc q % 10) ∷ [])) (digits_same a (suc q) (suc q / 10) (omega arith) (omega arith))

-- what holds of one digit, and of a digit behind what it holds of, holds of every decimal
module _ (P : ℕ → List ℕ → Type 0) (one : (n : ℕ) → n < 10 → P n (digit n ∷ []))
    (more : (n : ℕ) (xs : List ℕ) → 10 ≤ n → P (n / 10) xs → P n (xs ++ (digit (n % 10) ∷ []))) where
  up : (bound n : ℕ) → n ≤ bound → P n (decimal n)
  up zero n h = rw (decimal_one n (omega arith)) (one n (omega arith))
  up (suc bound) n h =
      ⊎_elim (λ (l : n < 10). rw (decimal_one n l) (one n l))
      (λ (l : 10 ≤ n). rw (decimal_more n l) (more n (decimal (n / 10)) l (up bound (n / 10) (omega arith))))
      (below_or_not n 10)

  each_decimal : (n : ℕ) → P n (decimal n)
  each_decimal n = up n n (omega arith)

-- a decimal has a digit, and no leading zero
pub decimal_some : (n : ℕ) → 0 < length (decimal n)
decimal_some =
    each_decimal (λ n xs. 0 < length xs) (λ n l. omega arith) (λ n xs l p. omega (arith, length-append xs (digit (n % 10) ∷ [])))

pub decimal_no_leading_zero : (n : ℕ) → 0 < n → get_or (decimal n) 0 0 ≢ digit 0
decimal_no_leading_zero n = (each_decimal Leads (λ m l. (omega arith, λ p e. omega arith)) more n).1
  where
    Leads : ℕ → List ℕ → Type 0
    Leads m xs = (0 < length xs) × (0 < m → get_or xs 0 0 ≢ digit 0)

    more : (m : ℕ) (xs : List ℕ) → 10 ≤ m → Leads (m / 10) xs → Leads m (xs ++ (digit (m % 10) ∷ []))
    more m xs l p = (
      omega (arith, length-append xs (digit (m % 10) ∷ []), p.0),
      λ h e. p.1 (omega arith) (sym (get_or-append xs (digit (m % 10) ∷ []) 0 0 p.0) ∙ e),
    )

-- every byte of a decimal is a digit's
pub decimal_digits : (n i : ℕ) → i < length (decimal n) → (digit 0 ≤ get_or (decimal n) i 0) × (get_or (decimal n) i 0 ≤ digit 9)
decimal_digits = each_decimal Digits one more
  where
    Digits : ℕ → List ℕ → Type 0
    Digits m xs = (i : ℕ) → i < length xs → (digit 0 ≤ get_or xs i 0) × (get_or xs i 0 ≤ digit 9)

    one : (m : ℕ) → m < 10 → Digits m (digit m ∷ [])
    one m l zero h = (omega arith, omega arith)
    one m l (suc i) h = absurd (omega arith)

    more : (m : ℕ) (xs : List ℕ) → 10 ≤ m → Digits (m / 10) xs → Digits m (xs ++ (digit (m % 10) ∷ []))
    more m xs l p i h =
        ⊎_elim (λ (k : i < length xs). rw (get_or-append xs (digit (m % 10) ∷ []) 0 i k) (p i k))
        (λ (k : length xs ≤ i).
        let e : i ≡ length xs = omega (arith, length-append xs (digit (m % 10) ∷ [])) in
        let last = get_or-append_seam xs (digit (m % 10)) [] 0 in
        let d : get_or (xs ++ (digit (m % 10) ∷ [])) i 0 ≡ digit (m % 10) = rw e last in
        (omega arith, omega arith))
        (below_or_not i (length xs))

-- the number that digits name, behind the number that is read already
abbrev named : ℕ → List ℕ → ℕ
named n [] = n
named n (x ∷ xs) = named (n * 10 + (x - digit 0)) xs

named_append : (n : ℕ) (xs : List ℕ) (x : ℕ) → named n (xs ++ (x ∷ [])) ≡ named n xs * 10 + (x - digit 0)
named_append n [] x = refl
named_append n (y ∷ xs) x = named_append (n * 10 + (y - digit 0)) xs x

-- a decimal names its number, so different numbers have different decimals
decimal_names : (n : ℕ) → named 0 (decimal n) ≡ n
decimal_names =
    each_decimal (λ n xs. named 0 xs ≡ n) (λ n l. omega arith) (λ n xs l p. named_append 0 xs (digit (n % 10)) ∙ (omega arith))

pub decimal_injective : {m n : ℕ} → decimal m ≡ decimal n → m ≡ n
decimal_injective {m} {n} e = sym (decimal_names m) ∙ ap (named 0) e ∙ decimal_names n

-- a number below 10 ^ k has at most k digits
pub decimal-length : (n k : ℕ) → n < 10 ^ suc k → length (decimal n) ≤ suc k
decimal-length = each_decimal Short (λ m l k h. omega arith) more
  where
    Short : ℕ → List ℕ → Type 0
    Short m xs = (k : ℕ) → m < 10 ^ suc k → length xs ≤ suc k

    more : (m : ℕ) (xs : List ℕ) → 10 ≤ m → Short (m / 10) xs → Short m (xs ++ (digit (m % 10) ∷ []))
    more m xs l p zero h = absurd (omega arith)
    more m xs l p (suc k) h =
        let less : m < 10 ^ suc k * 10 = rw pow-suc at h in
        omega (arith, length-append xs (digit (m % 10) ∷ []), p k (omega arith))

-- so one of 64 bits has at most `most_digits`
pub decimal_short : (n : ℕ) → n < 2 ^ 64 → length (decimal n) ≤ most_digits
decimal_short n l = decimal-length n 19 (omega arith)
