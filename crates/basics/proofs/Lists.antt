-- Laws of lists that the kit lacks. Assumes nothing.
use mathlib.Core.Path.{◌≡◌, refl, ap}
use mathlib.Core.List.{List, [], ◌∷◌}
use Prim.Native.Nat.{ℕ, zero, suc, ◌≤◌, ◌<◌}
use native.Mathlib.Nat.{not-suc-le-zero, le_of_suc-le-suc}
use lib.ListN.{length, get_or, set}

-- a store past the end changes nothing
pub set_past : (xs : List ℕ) (i x : ℕ) → length xs ≤ i → set xs i x ≡ xs
set_past [] i x h = refl
set_past (y ∷ xs) zero x h = absurd (not-suc-le-zero h)
set_past (y ∷ xs) (suc i) x h = ap (λ (r : List ℕ). y ∷ r) (set_past xs i x (le_of_suc-le-suc h))

-- inside a list the default does not matter
pub get_or-inside : (xs : List ℕ) (i d e : ℕ) → i < length xs → get_or xs i d ≡ get_or xs i e
get_or-inside [] i d e h = absurd (not-suc-le-zero h)
get_or-inside (y ∷ xs) zero d e h = refl
get_or-inside (y ∷ xs) (suc i) d e h = get_or-inside xs i d e (le_of_suc-le-suc h)
