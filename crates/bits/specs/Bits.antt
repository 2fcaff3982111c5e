-- A number as a row of bits, lowest first, and back; sums and lists over the numbers below a bound.
use Rattle.std.specs.Prelude.{ℕ, zero, suc, ◌+◌, ◌*◌, ◌/◌, ◌%◌, ◌^◌, Bool, true, false, List, [], ◌∷◌, ◌++◌, eqb}

-- bit i of n
unfoldable pub bit : ℕ → ℕ → Bool
bit i n = eqb (n / 2 ^ i % 2) 1

-- a bit as a number
abbrev pub digit : Bool → ℕ
digit true = 1
digit false = 0

-- the number below 2 ^ k whose bit i is f i, for each i below k
unfoldable pub pack : ℕ → (ℕ → Bool) → ℕ
pack zero f = 0
pack (suc k) f = digit (f k) * 2 ^ k + pack k f

-- f 0 + .. + f (k - 1)
unfoldable pub total : ℕ → (ℕ → ℕ) → ℕ
total zero f = 0
total (suc k) f = total k f + f k

-- how many i below k have f i
abbrev pub tally : ℕ → (ℕ → Bool) → ℕ
tally k f = total k (λ i. digit (f i))

-- f 0, .., f (k - 1)
unfoldable pub each : ℕ → (ℕ → ℕ) → List ℕ
each zero f = []
each (suc k) f = each k f ++ (f k ∷ [])
