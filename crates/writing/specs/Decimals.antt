-- A number in decimal: the bytes of its digits, the highest first, without leading zeros; 0 is one digit.
use Rattle.std.specs.Prelude.{ℕ, zero, suc, ◌+◌, ◌/◌, ◌%◌, List, [], ◌∷◌, ◌++◌}

-- the byte of a digit: `0` is 48 and `9` is 57
abbrev pub digit : ℕ → ℕ
digit d = 48 + d

-- the digits of a number that is at most `bound`, and none of 0
abbrev pub digits_of : ℕ → ℕ → List ℕ
digits_of zero n = []
digits_of (suc bound) zero = []
digits_of (suc bound) (suc n) = digits_of bound (suc n / 10) ++ (digit (suc n % 10) ∷ [])

-- the last digit, behind the digits of what it leaves
unfoldable pub decimal : ℕ → List ℕ
decimal n = digits_of n (n / 10) ++ (digit (n % 10) ∷ [])

-- the digits of the largest number of 64 bits
abbrev pub most_digits : ℕ
most_digits = 20
