-- `texts::lines::put_line` meets its contract: the parts of the record's bytes are its numbers and its angle, and the parts of the
-- line are put one after the other. Assumes nothing.
use native.Mathlib.Omega.{arith}
use lib.Dec.{lit≤}
use lib.ListN.{replicate}
use Rattle.writing.proofs.Rows.{written_front}
use Rattle.texts.specs.Room.{longest_line}
use Rattle.texts.proofs.Sizes.{parted}
use Rattle.texts.proofs.Begun.{begun}
use Rattle.texts.proofs.Whole.{Asked, line_named, numbers_room, line_numbered, angle_room_lem, line_whole}
use Rattle.texts.proofs.lines.put_line.Goals as goal

pub push_numbers-requires : goal.push_numbers-requires
push_numbers-requires c = let asked : Asked c.args.place c.args.r (replicate longest_line 0) = record { fits = c.ranges.place.fits; room = lit≤ tt } in
    let p = parted c.args.r c.encode-encoded.ensures c.record_parts-parts.ensures in
    let named = line_named asked (begun c.new-line.ensures c.push_number.ensures) (rw c.name_of.ensures at c.push.ensures) in
    numbers_room asked p.numbers named

pub slice_bounds-push_angle-count : goal.slice_bounds-push_angle-count
slice_bounds-push_angle-count c = let p = parted c.args.r c.encode-encoded.ensures c.record_parts-parts.ensures in
    p.within

pub slice_bounds-push_angle-start : goal.slice_bounds-push_angle-start
slice_bounds-push_angle-start c = let p = parted c.args.r c.encode-encoded.ensures c.record_parts-parts.ensures in
    omega (arith, p.within)

pub slice_bounds-push_angle-end : goal.slice_bounds-push_angle-end
slice_bounds-push_angle-end c = let p = parted c.args.r c.encode-encoded.ensures c.record_parts-parts.ensures in
    omega (arith, p.within, p.end, p.all)

pub push_angle-requires : goal.push_angle-requires
push_angle-requires c = let asked : Asked c.args.place c.args.r (replicate longest_line 0) = record { fits = c.ranges.place.fits; room = lit≤ tt } in
    let p = parted c.args.r c.encode-encoded.ensures c.record_parts-parts.ensures in
    let named = line_named asked (begun c.new-line.ensures c.push_number.ensures) (rw c.name_of.ensures at c.push.ensures) in
    angle_room_lem asked p.angle (line_numbered asked p.numbers named c.push_numbers.ensures)

pub returns : goal.returns
returns c = let asked : Asked c.args.place c.args.r (replicate longest_line 0) = record { fits = c.ranges.place.fits; room = lit≤ tt } in
    let p = parted c.args.r c.encode-encoded.ensures c.record_parts-parts.ensures in
    let named = line_named asked (begun c.new-line.ensures c.push_number.ensures) (rw c.name_of.ensures at c.push.ensures) in
    let numbered = line_numbered asked p.numbers named c.push_numbers.ensures in
    rw (written_front (line_whole asked p.angle numbered c.push_angle.ensures c.push-2.ensures)) at c.put.ensures
