-- `texts::lines::push_numbers` meets its contract. The loop's invariant: the numbers so far are written. Assumes nothing.
use Prim.Native.Nat.{◌+◌, ◌*◌}
use mathlib.Core.Path.{◌≡◌, refl, ◌∙◌}
use native.Mathlib.Omega.{arith}
use lib.ListN.{get_or}
use Rattle.writing.proofs.Decimals.{decimal-length}
use Rattle.writing.proofs.Rows.{written_none, placed_written, written_place, written_length, written_call, written_put}
use Rattle.texts.specs.Room.{spaced_byte}
use Rattle.texts.proofs.Spaces.{spaced_next}
use Rattle.texts.proofs.lines.push_numbers.Goals as goal

pub loop-number-init : goal.loop-number-init
loop-number-init c = (refl, written_none)

pub loop-number-preserved : goal.loop-number-preserved
loop-number-preserved c = let turn = c.loop-number in
    let numbers = c.args.numbers.now in
    let place = written_place turn.invariant.1 in
    let one = placed_written c.push.ensures 1 (omega arith) (omega arith) in
    let put = written_put one c.push_number.ensures 3 (decimal-length (get_or numbers turn.number-index 0) 2 (omega arith)) (omega arith) in
    let room : (turn.number-index + 1) * spaced_byte ≡ turn.number-index * spaced_byte + spaced_byte = omega arith in (
      written_length put (omega arith) ∙ turn.invariant.0,
      rw (room, spaced_next numbers turn.number-index (omega arith)) (written_call turn.invariant.1 put (omega arith)),
    )
