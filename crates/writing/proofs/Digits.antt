-- Laws of a number's bytes, at any number of bytes k: how many they are, and the way there and back. Assumes nothing.
use mathlib.Core.Path.{◌≡◌, refl, sym, ap, ◌∙◌}
use mathlib.Core.List.{List, [], ◌∷◌, ◌++◌, append_assoc}
use Prim.Native.Nat.{ℕ, zero, suc, ◌+◌, ◌*◌, ◌/◌, ◌%◌, ◌^◌, ◌≤◌, ◌<◌}
use native.Mathlib.Nat.{pow-suc, not-suc-le-zero, le_of_suc-le-suc, suc-mul, mul-zero, mul-suc, add_comm}
use native.Mathlib.Decide.{dec_lt}
use native.Mathlib.Omega.{arith}
use native.Mathlib.Numerals.{add-one}
use lib.ListN.{length, get_or, take, drop, length-append, get_or-eq_default, drop_of_length-le}
use lib.Seq.{drop-cons, drop-append-add}
use Rattle.writing.specs.Numbers.{byte_values, bytes_of, bytes_of_all, number_of}

pub length_bytes_of : (k n : ℕ) → length (bytes_of k n) ≡ k
unfolding bytes_of
length_bytes_of zero n = refl
length_bytes_of (suc k) n = ap suc (length_bytes_of k (n / byte_values))

pub length-bytes_of_all : (k : ℕ) (ns : List ℕ) → length (bytes_of_all k ns) ≡ length ns * k
unfolding bytes_of_all
length-bytes_of_all k [] = omega arith
length-bytes_of_all k (n ∷ ns) =
    length-append (bytes_of k n) (bytes_of_all k ns) ∙ omega (arith, length_bytes_of k n, length-bytes_of_all k ns, suc-mul (length ns) k)

pub bytes_of_all_append : (k : ℕ) (ms ns : List ℕ) → bytes_of_all k (ms ++ ns) ≡ bytes_of_all k ms ++ bytes_of_all k ns
unfolding bytes_of_all
bytes_of_all_append k [] ns = refl
bytes_of_all_append k (m ∷ ms) ns = ap (λ (x : List ℕ). bytes_of k m ++ x) (bytes_of_all_append k ms ns) ∙ sym (append_assoc (bytes_of k m) (bytes_of_all k ms) (bytes_of_all k ns))

-- the first of what is left of them, and nothing left
pub all_next : (k i : ℕ) (ns : List ℕ) → i < length ns → bytes_of_all k (drop i ns) ≡ bytes_of k (get_or ns i 0) ++ bytes_of_all k (drop (i + 1) ns)
unfolding bytes_of_all
all_next k i ns l = rw add-one (ap (bytes_of_all k) (drop-cons ns i 0 l))

pub all_none : (k i : ℕ) (ns : List ℕ) → length ns ≤ i → bytes_of_all k (drop i ns) ≡ []
unfolding bytes_of_all
all_none k i ns l = ap (bytes_of_all k) (drop_of_length-le ns {i = i} l)

-- ---- from a number to its bytes and back

number_bytes : (k n : ℕ) (rest : List ℕ) → n < byte_values ^ k → number_of k (bytes_of k n ++ rest) ≡ n
unfolding bytes_of number_of
number_bytes zero n rest h = omega arith
number_bytes (suc k) n rest h =
    let high : n / byte_values < byte_values ^ k = omega (arith, h, pow-suc byte_values k) in
    ap (λ (x : ℕ). n % byte_values + byte_values * x) (number_bytes k (n / byte_values) rest high) ∙ omega arith

-- ---- from bytes to their number and back

-- every byte is one
abbrev pub Bytes : List ℕ → Type 0
Bytes s = (i : ℕ) → get_or s i 0 < byte_values

pub bytes_number : (k : ℕ) (s : List ℕ) → k ≤ length s → Bytes s → bytes_of k (number_of k s) ≡ take k s
unfolding bytes_of number_of
bytes_number zero s l h = refl
bytes_number (suc k) [] l h = absurd (not-suc-le-zero l)
bytes_number (suc k) (b ∷ s) l h =
    let low : (b + byte_values * number_of k s) % byte_values ≡ b = omega (arith, h 0) in
    let high : (b + byte_values * number_of k s) / byte_values ≡ number_of k s = omega (arith, h 0) in
    rw (low, high) (ap (λ (x : List ℕ). b ∷ x) (bytes_number k s (le_of_suc-le-suc l) (λ i. h (suc i))))

-- ---- one byte more, as a loop reads it

none_is : (k : ℕ) → number_of k [] ≡ 0
unfolding number_of
none_is zero = refl
none_is (suc k) = refl

number_cons : (k b : ℕ) (s : List ℕ) → number_of (suc k) (b ∷ s) ≡ b + byte_values * number_of k s
unfolding number_of
number_cons k b s = refl

pub number_more : (k at : ℕ) (s : List ℕ) → number_of (suc k) (drop at s) ≡ get_or s at 0 + byte_values * number_of k (drop (at + 1) s)
number_more k at s = go (dec_lt at (length s))
  where
    go : Dec (at < length s) → number_of (suc k) (drop at s) ≡ get_or s at 0 + byte_values * number_of k (drop (at + 1) s)
    go (yes l) = rw add-one (ap (number_of (suc k)) (drop-cons s at 0 l) ∙ number_cons k (get_or s at 0) (drop (suc at) s))
    go (no l) =
        rw (drop_of_length-le s {i = at} (omega arith), drop_of_length-le s {i = at + 1} (omega arith), get_or-eq_default s 0 {n = at} (omega arith), none_is (suc k), none_is k)

-- ---- the numbers of a list, each from its place

-- past the first part of a list
drop_past : (xs ys : List ℕ) (k j : ℕ) → length xs ≡ k → drop (k + j) (xs ++ ys) ≡ drop j ys
drop_past xs ys k j e = ap (λ (x : ℕ). drop (x + j) (xs ++ ys)) (sym e) ∙ drop-append-add xs ys j

pub number_at : (k : ℕ) (ns : List ℕ) → ((i : ℕ) → get_or ns i 0 < byte_values ^ k) → (i : ℕ) → i < length ns
    → number_of k (drop (k * i) (bytes_of_all k ns)) ≡ get_or ns i 0
unfolding bytes_of_all
number_at k [] h i l = absurd (not-suc-le-zero l)
number_at k (n ∷ ns) h zero l =
    ap (λ (x : ℕ). number_of k (drop x (bytes_of k n ++ bytes_of_all k ns))) (mul-zero k) ∙ number_bytes k n (bytes_of_all k ns) (h 0)
number_at k (n ∷ ns) h (suc i) l =
    ap (λ (x : ℕ). number_of k (drop x (bytes_of k n ++ bytes_of_all k ns))) (mul-suc k i ∙ add_comm (k * i) k)
    ∙ ap (number_of k) (drop_past (bytes_of k n) (bytes_of_all k ns) k (k * i) (length_bytes_of k n))
    ∙ number_at k ns (λ j. h (suc j)) i (le_of_suc-le-suc l)
