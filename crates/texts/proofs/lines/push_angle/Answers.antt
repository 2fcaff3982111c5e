-- `texts::lines::push_angle` meets its contract: nothing, or the word and the numbers. Assumes nothing.
use native.Mathlib.Omega.{arith}
use Rattle.std.proofs.lemmas.Bool.Decides.{nat_tests}
use Rattle.writing.proofs.Rows.{written_none, placed_written, written_place, written_length, written_call}
use Rattle.texts.specs.Room.{angle_word}
use Rattle.texts.proofs.Spaces.{angle_none, angle_some}
use Rattle.texts.proofs.lines.push_angle.Goals as goal

pub push_numbers-requires : goal.push_numbers-requires
push_numbers-requires c = let word = placed_written c.push.ensures angle_word (omega arith) (omega arith) in
    omega (arith, written_place word, written_length word (omega arith))

pub returns-then-not-is_empty : goal.returns-then-not-is_empty
returns-then-not-is_empty c = rw (angle_some c.args.angle.now (λ e. grind (arith, nat_tests)))
    (written_call (placed_written c.push.ensures angle_word (omega arith) (omega arith)) c.push_numbers.ensures (omega arith))

pub returns-else-not-is_empty : goal.returns-else-not-is_empty
returns-else-not-is_empty c = rw (angle_none c.args.angle.now (grind (arith, nat_tests))) written_none
