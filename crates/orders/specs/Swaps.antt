-- Exchanging neighbours that need not keep their order, and what effect a list of instructions has. Definitions alone.
use Rattle.std.specs.Prelude.{ℕ, ◌≡◌, false, List, [], ◌∷◌, ◌++◌}
use Rattle.orders.specs.Runs.{Circuit}

-- two neighbours are exchanged, of which neither must come before the other
pub data Exchanged (C : Circuit) : List ℕ → List ℕ → Type 0 where
  neighbours : {i j : ℕ} {rest : List ℕ} → C.prec i j ≡ false → C.prec j i ≡ false → Exchanged C (i ∷ j ∷ rest) (j ∷ i ∷ rest)
  later : {x : ℕ} {xs ys : List ℕ} → Exchanged C xs ys → Exchanged C (x ∷ xs) (x ∷ ys)

-- one list is reached from the other by such exchanges
pub data Reached (C : Circuit) : List ℕ → List ℕ → Type 0 where
  same : {xs : List ℕ} → Reached C xs xs
  swap : {xs ys zs : List ℕ} → Exchanged C xs ys → Reached C ys zs → Reached C xs zs

-- neighbours that need not keep their order commute in what a list means
abbrev pub Commute {ℓ} : {M : Type ℓ} → Circuit → (List ℕ → M) → Type ℓ
Commute C meaning =
    (front back : List ℕ) (i j : ℕ) → C.prec i j ≡ false → C.prec j i ≡ false → meaning (front ++ i ∷ j ∷ back) ≡ meaning (front ++ j ∷ i ∷ back)

-- what the instructions of a list do to a state, one after the other
unfoldable pub effect {ℓ} : {S : Type ℓ} → (ℕ → S → S) → List ℕ → S → S
effect does [] s = s
effect does (i ∷ is) s = effect does is (does i s)
