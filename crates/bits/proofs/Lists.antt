-- Laws of `each`, and of a loop that fills a list from the front. Assumes nothing.
use mathlib.Core.Path.{◌≡◌, refl, sym, ap, ap₂, ◌∙◌}
use mathlib.Core.Logic.{⊎_elim}
use mathlib.Core.List.{List, [], ◌∷◌, ◌++◌, append_assoc}
use Prim.Native.Nat.{ℕ, zero, suc, ◌+◌, ◌<◌}
use native.Mathlib.Nat.{eq-or-lt_of_le, le_of_suc-le-suc, not-suc-le-zero}
use native.Mathlib.Omega.{arith}
use native.Mathlib.Numerals.{add-one}
use borrow.Author.Count.{below_more}
use lib.ListN.{length, get_or, set, length-append, get_or-append}
use lib.Seq.{ext_get_or, get_or_at, get_or-set_same, get_or-set_other}
use Rattle.bits.specs.Bits.{each}

pub length-each : (k : ℕ) (f : ℕ → ℕ) → length (each k f) ≡ k
unfolding each
length-each zero f = refl
length-each (suc k) f = length-append (each k f) (f k ∷ []) ∙ rw (length-each k f) (add-one k)

pub get_or-each : (k : ℕ) (f : ℕ → ℕ) (i : ℕ) → i < k → get_or (each k f) i 0 ≡ f i
unfolding each
get_or-each zero f i h = absurd (not-suc-le-zero h)
get_or-each (suc k) f i h =
    ⊎_elim (λ e. get_or_at (each k f) (f k) [] 0 i (length-each k f ∙ sym e) ∙ ap f (sym e))
    (λ l. get_or-append (each k f) (f k ∷ []) 0 i (omega (arith, length-each k f)) ∙ get_or-each k f i l)
    (eq-or-lt_of_le (le_of_suc-le-suc h))

-- a list of k elements whose element i is f i
pub each_eq : (k : ℕ) (f : ℕ → ℕ) (xs : List ℕ) → length xs ≡ k → ((i : ℕ) → i < k → get_or xs i 0 ≡ f i) → xs ≡ each k f
each_eq k f xs e h =
    ext_get_or 0 xs (each k f) (e ∙ sym (length-each k f)) (λ i l. h i (omega arith) ∙ sym (get_or-each k f i (omega arith)))

-- the same elements, said otherwise; and two elements more
pub each_ext : (n : ℕ) (f g : ℕ → ℕ) → ((i : ℕ) → f i ≡ g i) → each n f ≡ each n g
unfolding each
each_ext zero f g h = refl
each_ext (suc n) f g h = ap₂ (λ (xs : List ℕ) (x : ℕ). xs ++ (x ∷ [])) (each_ext n f g h) (h n)

pub each_two : (n : ℕ) (f : ℕ → ℕ) → each n f ++ (f n ∷ f (n + 1) ∷ []) ≡ each (n + 2) f
unfolding each
each_two n f =
    let e : n + 2 ≡ suc (suc n) = omega arith in
    sym (append_assoc (each n f) (f n ∷ []) (f (n + 1) ∷ [])) ∙ ap (λ (x : ℕ). (each n f ++ (f n ∷ [])) ++ (f x ∷ [])) (add-one n) ∙ ap (λ (x : ℕ). each x f) (sym e)

-- what holds below i, and is stored at i, holds below i + 1
pub filled : (f : ℕ → ℕ) (xs : List ℕ) (i x : ℕ) → i < length xs → ((j : ℕ) → j < i → get_or xs j 0 ≡ f j) → x ≡ f i
    → (j : ℕ) → j < i + 1 → get_or (set xs i x) j 0 ≡ f j
filled f xs i x l h e =
    below_more (λ (j : ℕ). get_or (set xs i x) j 0 ≡ f j) i
    (λ j m. get_or-set_other xs i j x 0 (λ d. omega arith) ∙ h j m)
    (get_or-set_same xs i x 0 l ∙ e)
