-- The limits of document 01. No other file has these numbers.
use Rattle.std.specs.Prelude.{ℕ, ◌+◌, ◌*◌}
use Rattle.records.specs.Bytes.{longest_record}

-- width is 1 to 32
abbrev pub most_wires : ℕ
most_wires = 32

-- instructions at most 2,048
abbrev pub most_instructions : ℕ
most_instructions = 2048

-- the bytes of the width record
abbrev pub header_length : ℕ
header_length = 2

-- so many first bytes decide a reading: the header, the most and the longest instructions, and one byte more
abbrev pub deciding_bytes : ℕ
deciding_bytes = header_length + most_instructions * longest_record + 1
