-- Whole lines, from the puts of their parts one after the other. Assumes nothing.
use Prim.Native.Nat.{ℕ, ◌+◌, ◌*◌, ◌^◌, ◌≤◌, ◌<◌}
use mathlib.Core.Path.{◌≡◌, ap}
use mathlib.Core.List.{List, ◌++◌}
use native.Mathlib.Omega.{arith}
use lib.ListN.{length}
use Rattle.writing.specs.Writing.{Placed, Written}
use Rattle.writing.specs.Texts.{text}
use Rattle.writing.specs.Decimals.{decimal, most_digits}
use Rattle.writing.proofs.Decimals.{decimal-length, decimal_short}
use Rattle.writing.proofs.Rows.{placed_written, written_place, written_length, written_call, written_more, written_put}
use Rattle.records.specs.declared.instructions.Record.{Record}
use Rattle.texts.specs.Lines.{name_of, numbers_of, angle_of, spaced, angle_text, line_of, refusal_line}
use Rattle.texts.specs.Room.{spaced_byte, spaced_room, angle_room, longest_name, most_numbers, longest_angle, longest_line, longest_refusal}
use Rattle.texts.proofs.Sizes.{short}

-- the place and the name
abbrev named_room : ℕ
named_room = most_digits + longest_name

-- and the numbers
abbrev numbered_room : ℕ
numbered_room = named_room + most_numbers * spaced_byte

-- the place is a number of the machine, and any line has room
pub record Asked (place : ℕ) (r : Record) (line : List ℕ) : Type 0 where
  pub fits : place < 2 ^ 64
  pub room : longest_line ≤ length line

module _ {place : ℕ} {r : Record} {line : List ℕ} (asked : Asked place r line) where
  pub line_named : {l m : List ℕ} {a b : ℕ} → Placed line 0 (decimal place) l a → Placed l a (name_of r) m b
      → Written line 0 named_room (decimal place ++ name_of r) m b
  line_named first then =
      let room = asked.room in
      written_put (placed_written first most_digits (decimal_short place asked.fits) (omega arith)) then longest_name (short r).name (omega arith)

  module _ {numbers : List ℕ} (is : numbers ≡ numbers_of r) {m : List ℕ} {b : ℕ}
      (before : Written line 0 named_room (decimal place ++ name_of r) m b) where
    pub numbers_room : b + spaced_room numbers ≤ length m
    numbers_room =
        let room = asked.room in
        omega (arith, written_place before, written_length before (omega arith), ap length is, (short r).numbers)

    pub line_numbered : {n : List ℕ} {c : ℕ} → Written m b (spaced_room numbers) (spaced numbers) n c
        → Written line 0 numbered_room (decimal place ++ name_of r ++ spaced (numbers_of r)) n c
    line_numbered {n} {c} then =
        let room = asked.room in
        let size = ap length is in
        let few = (short r).numbers in
        let more : Written m b (most_numbers * spaced_byte) (spaced numbers) n c = written_more then (omega arith) in
        written_call before (rw is at more) (omega arith)

  module _ {angle : List ℕ} (is : angle ≡ angle_of r) {n : List ℕ} {c : ℕ}
      (before : Written line 0 numbered_room (decimal place ++ name_of r ++ spaced (numbers_of r)) n c) where
    pub angle_room_lem : c + angle_room angle ≤ length n
    angle_room_lem =
        let room = asked.room in
        omega (arith, written_place before, written_length before (omega arith), ap length is, (short r).angle)

    pub line_whole : {o end : List ℕ} {d to : ℕ} → Written n c (angle_room angle) (angle_text angle) o d → Placed o d (text "\n") end to
        → Written line 0 longest_line (line_of place r) end to
    unfolding line_of
    line_whole {o} {end} {d} then last =
        let room = asked.room in
        let size = ap length is in
        let eight = (short r).angle in
        let more : Written n c longest_angle (angle_text angle) o d = written_more then (omega arith) in
        written_put (written_call before (rw is at more) (omega arith)) last 1 (omega arith) (omega arith)

module _ (number place : ℕ) (small : number < 256) (fits : place < 2 ^ 64) (line : List ℕ) (room : longest_refusal ≤ length line) where
  pub refusal_whole : {l m n o end : List ℕ} {a b c d to : ℕ} → Placed line 0 (text "refused ") l a → Placed l a (decimal number) m b
      → Placed m b (text " at ") n c → Placed n c (decimal place) o d → Placed o d (text "\n") end to
      → Written line 0 longest_refusal (refusal_line number place) end to
  unfolding refusal_line
  refusal_whole refused numbered at placed last =
      written_put (written_put (written_put (written_put (placed_written refused 8 (omega arith) (omega arith))
      numbered 3 (decimal-length number 2 (omega arith)) (omega arith))
      at 4 (omega arith) (omega arith))
      placed most_digits (decimal_short place fits) (omega arith))
      last 1 (omega arith) (omega arith)
