-- How much room the parts of a line take at most, so that the code has room for any line.
use Rattle.std.specs.Prelude.{ℕ, ◌+◌, ◌*◌, List, length}
use Rattle.writing.specs.Decimals.{most_digits}

-- a space and the digits of a byte
abbrev pub spaced_byte : ℕ
spaced_byte = 4

-- bytes, each behind a space
abbrev pub spaced_room : List ℕ → ℕ
spaced_room xs = length xs * spaced_byte

-- ` dynamic width`
abbrev pub longest_name : ℕ
longest_name = 14

-- a gate's kind and its two lines
abbrev pub most_numbers : ℕ
most_numbers = 3

abbrev pub angle_length : ℕ
angle_length = 8

-- the word before an angle's bytes
abbrev pub angle_word : ℕ
angle_word = 6

-- an angle's bytes behind their word
abbrev pub angle_room : List ℕ → ℕ
angle_room xs = angle_word + spaced_room xs

abbrev pub longest_angle : ℕ
longest_angle = angle_word + angle_length * spaced_byte

-- the place, the name, the numbers, the angle and the line feed
abbrev pub longest_line : ℕ
longest_line = most_digits + longest_name + most_numbers * spaced_byte + longest_angle + 1

-- the first word, a number that is a byte, the second word, the place and the line feed
abbrev pub longest_refusal : ℕ
longest_refusal = 8 + 3 + 4 + most_digits + 1
