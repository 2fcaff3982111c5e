-- A number's bytes, lowest first, and the number of bytes.
use Rattle.std.specs.Prelude.{ℕ, zero, suc, ◌+◌, ◌*◌, ◌/◌, ◌%◌, List, [], ◌∷◌, ◌++◌}

-- how many values a byte has
abbrev pub byte_values : ℕ
byte_values = 256

-- the k lowest bytes of a number, lowest first
unfoldable pub bytes_of : ℕ → ℕ → List ℕ
bytes_of zero n = []
bytes_of (suc k) n = n % byte_values ∷ bytes_of k (n / byte_values)

-- k bytes for each number of a list
unfoldable pub bytes_of_all : ℕ → List ℕ → List ℕ
bytes_of_all k [] = []
bytes_of_all k (n ∷ ns) = bytes_of k n ++ bytes_of_all k ns

-- the number of the first k bytes of a list, lowest first; missing bytes count as 0
unfoldable pub number_of : ℕ → List ℕ → ℕ
number_of zero s = 0
number_of (suc k) [] = 0
number_of (suc k) (b ∷ s) = b + byte_values * number_of k s
