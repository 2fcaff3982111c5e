-- Lists of indices: what stands in one, what stands before what, and when one is an order of a circuit's instructions.
-- Definitions alone; their laws are in proofs/Indices. An instruction's index counts instructions from 0.
use Rattle.std.specs.Prelude.{ℕ, zero, suc, ◌<◌, ◌≡◌, ◌⊎◌, Bool, true, false, ◌&&◌, ◌||◌, List, [], ◌∷◌, eqb}

-- a stands in the list
abbrev pub In : {A : Type 0} → A → List A → Type 0
In a [] = ⊥
In a (x ∷ xs) = (a ≡ x) ⊎ In a xs

-- i stands in the list, and j behind it
abbrev pub Before : ℕ → ℕ → List ℕ → Type 0
Before i j [] = ⊥
Before i j (x ∷ xs) = ((i ≡ x) × In j xs) ⊎ Before i j xs

-- nothing stands twice
abbrev pub Once : {A : Type 0} → List A → Type 0
Once [] = Unit {0}
Once (x ∷ xs) = (¬ In x xs) × Once xs

-- an order of n instructions: each index below n stands in it once, and nothing else does
pub record Order (n : ℕ) (σ : List ℕ) : Type 0 where
  pub all : (i : ℕ) → i < n → In i σ
  pub only : (i : ℕ) → In i σ → i < n
  pub once : Once σ

-- whether some member passes the test
unfoldable pub any : {A : Type 0} → (A → Bool) → List A → Bool
any p [] = false
any p (x ∷ xs) = p x || any p xs

-- whether each member passes the test
unfoldable pub every : {A : Type 0} → (A → Bool) → List A → Bool
every p [] = true
every p (x ∷ xs) = p x && every p xs

-- whether i stands in the list
unfoldable pub stands : ℕ → List ℕ → Bool
stands i xs = any (eqb i) xs

-- k, k + 1, .., c of them
unfoldable pub from : ℕ → ℕ → List ℕ
from k zero = []
from k (suc c) = k ∷ from (suc k) c

-- the input order of n instructions: 0, 1, .., n - 1
abbrev pub input_order : ℕ → List ℕ
input_order n = from 0 n
