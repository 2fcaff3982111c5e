-- `inputs::fill` is safe and ends, its count is within the buffer, and what is read up to it came from the reader. The loop's
-- invariant: the buffer keeps its length, the count is within it, and so far the reader lost what was read. The measure is the
-- room left. Assumes nothing.
use Rattle.std.proofs.Common.{◌≡◌, ◌-◌, ◌≤◌, length, take}
use Rattle.std.specs.Io.KnownBytes.{Consumes}
use Rattle.inputs.proofs.fill.Given as goal

abbrev pub invariant-loop-count : goal.invariant-loop-count
invariant-loop-count g l =
    (length l.buffer ≡ length l.initial.buffer)
    × (l.count ≤ length l.buffer)
    × Consumes (g.R.Read.remaining l.initial.reader) (g.R.Read.remaining l.reader) (take l.count l.buffer)

abbrev pub decreases-loop-count : goal.decreases-loop-count
decreases-loop-count g l = length l.initial.buffer - l.count
