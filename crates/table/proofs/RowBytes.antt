-- The four bytes of a row, as the library of the language says them. Assumes nothing.
use mathlib.Core.Path.{◌≡◌}
use mathlib.Core.List.{List}
use Prim.Native.Nat.{ℕ, ◌+◌, ◌*◌, ◌/◌}
use native.Mathlib.Omega.{arith}
use lib.ListN.{get_or, drop}
use Rattle.std.specs.Int.{w32, to_le_bytes}
use Rattle.writing.specs.Numbers.{byte_values, bytes_of, number_of}
use Rattle.writing.proofs.Digits.{number_more}
use Rattle.table.specs.Limits.{row_bytes}

-- the number of the four bytes at a place
pub row_number : (at : ℕ) (s : List ℕ) → number_of row_bytes (drop at s)
    ≡ get_or s at 0 + byte_values * (get_or s (at + 1) 0 + byte_values * (get_or s (at + 2) 0 + byte_values * get_or s (at + 3) 0))
unfolding number_of
row_number at s =
    let second : at + 1 + 1 ≡ at + 2 = omega arith in
    let third : at + 2 + 1 ≡ at + 3 = omega arith in
    rw (number_more 3 at s, number_more 2 (at + 1) s, second, number_more 1 (at + 2) s, third, number_more 0 (at + 3) s) (omega arith)

-- the four bytes of a row
pub row_digits : (row : ℕ) → to_le_bytes w32 row ≡ bytes_of row_bytes row
unfolding bytes_of
row_digits row =
    let third : row / 65536 ≡ row / 256 / 256 = omega arith in
    let fourth : row / 16777216 ≡ row / 256 / 256 / 256 = omega arith in
    rw (third, fourth)
