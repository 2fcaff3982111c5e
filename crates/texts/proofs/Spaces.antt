-- Laws of numbers behind spaces, and of an angle behind its word. Assumes nothing.
use Prim.Native.Nat.{ℕ, ◌+◌, ◌<◌}
use mathlib.Core.Path.{◌≡◌, refl, ap, ◌∙◌}
use mathlib.Core.Logic.{◌≢◌}
use mathlib.Core.List.{List, [], ◌∷◌, ◌++◌, append_assoc, append-nil}
use native.Mathlib.Omega.{arith}
use native.Mathlib.Numerals.{add-one}
use lib.ListN.{length, get_or, take}
use lib.Seq.{take-suc}
use Rattle.writing.specs.Texts.{text}
use Rattle.writing.specs.Decimals.{decimal}
use Rattle.texts.specs.Lines.{spaced, angle_text}

spaced_append : (xs ys : List ℕ) → spaced (xs ++ ys) ≡ spaced xs ++ spaced ys
spaced_append [] ys = refl
spaced_append (x ∷ xs) ys =
    ap (λ (zs : List ℕ). (text " " ++ decimal x) ++ zs) (spaced_append xs ys)
    ∙ simp append_assoc

-- one number more
pub spaced_next : (xs : List ℕ) (i : ℕ) → i < length xs
    → spaced (take (i + 1) xs) ≡ spaced (take i xs) ++ (text " " ++ decimal (get_or xs i 0))
spaced_next xs i l =
    ap (λ (n : ℕ). spaced (take n xs)) (add-one i)
    ∙ ap spaced (take-suc xs i 0 l)
    ∙ spaced_append (take i xs) (get_or xs i 0 ∷ [])
    ∙ ap (λ (zs : List ℕ). spaced (take i xs) ++ zs) (append-nil _)

pub angle_none : (xs : List ℕ) → length xs ≡ 0 → angle_text xs ≡ []
angle_none [] e = refl
angle_none (x ∷ xs) e = absurd (omega arith)

pub angle_some : (xs : List ℕ) → length xs ≢ 0 → angle_text xs ≡ text " angle" ++ spaced xs
angle_some [] e = absurd (e refl)
angle_some (x ∷ xs) e = refl
