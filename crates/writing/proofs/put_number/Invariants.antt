-- `writing::put_number` meets its contract. The loop's invariant: the decimal of what is left, and the digits stored, are the
-- number's decimal. Assumes nothing.
use mathlib.Core.Path.{◌≡◌}
use lib.ListN.{length}
use Rattle.writing.specs.Decimals.{most_digits}
use Rattle.writing.proofs.Spelling.{Spelling}
use Rattle.writing.proofs.put_number.Given as goal

abbrev pub invariant-loop-rest : goal.invariant-loop-rest
invariant-loop-rest l = (length l.digits ≡ most_digits) × Spelling l.n l.digits l.from l.rest

abbrev pub decreases-loop-rest : goal.decreases-loop-rest
decreases-loop-rest l = l.rest
