-- A row of puts into a buffer with room for the longest that each may put: what is written grows by each. Assumes nothing.
use mathlib.Core.Path.{◌≡◌, sym, ap, ◌∙◌}
use mathlib.Core.List.{List, [], ◌++◌}
use Prim.Native.Nat.{ℕ, ◌+◌, ◌≤◌}
use native.Mathlib.Omega.{arith}
use lib.ListN.{length, take, drop, length-append}
use lib.Seq.{take_at}
use Rattle.writing.specs.Writing.{Placed, Written}
use Rattle.writing.proofs.Puts.{put_none, length-put, put-put, put_start, placed_wrote}

-- nothing yet
pub written_none : {old : List ℕ} {at most : ℕ} → Written old at most [] old at
written_none {old} {at} {most} = record { wrote = record { holds = sym (put_none old at); end = omega arith }; short = omega arith }

-- what was put, where there is room
pub placed_written : {old : List ℕ} {at : ℕ} {xs new : List ℕ} {to : ℕ} → Placed old at xs new to → (most : ℕ) → length xs ≤ most
    → at + most ≤ length old → Written old at most xs new to
placed_written p most s l = record { wrote = placed_wrote p (omega arith); short = s }

module _ {old : List ℕ} {at most : ℕ} {xs mid : List ℕ} {to : ℕ} (w : Written old at most xs mid to) where
  -- the place is within the room
  pub written_place : to ≤ at + most
  written_place = omega (arith, w.wrote.end, w.short)

  pub written_length : at + most ≤ length old → length mid ≡ length old
  written_length l = ap length w.wrote.holds ∙ length-put old at xs (omega (arith, w.short))

  -- and then what a call wrote
  pub written_call : {more : ℕ} {ys new : List ℕ} {end : ℕ} → Written mid to more ys new end → at + most ≤ length old
      → Written old at (most + more) (xs ++ ys) new end
  written_call {more} {ys} {new} {end} v l = record {
    wrote = record {
      holds = v.wrote.holds ∙ rw (w.wrote.holds, w.wrote.end) (put-put old at xs ys (omega (arith, w.short)));
      end = omega (arith, v.wrote.end, w.wrote.end, length-append xs ys);
    };
    short = omega (arith, v.short, w.short, length-append xs ys);
  }

  -- the room may be more
  pub written_more : {more : ℕ} → most ≤ more → Written old at more xs mid to
  written_more l = record { wrote = w.wrote; short = omega (arith, w.short) }

  -- and then what was put
  pub written_put : {ys new : List ℕ} {end : ℕ} → Placed mid to ys new end → (more : ℕ) → length ys ≤ more
      → at + (most + more) ≤ length old → Written old at (most + more) (xs ++ ys) new end
  written_put {ys} p more s l =
      let size = written_length (omega arith) in
      let place = written_place in
      written_call (placed_written p more s (omega arith)) (omega arith)

-- from the start: what is written is the front of the buffer
module _ {old : List ℕ} {most : ℕ} {xs new : List ℕ} {to : ℕ} (w : Written old 0 most xs new to) where
  pub written_front : take to new ≡ xs
  written_front =
      ap (take to) (w.wrote.holds ∙ put_start old xs) ∙ take_at xs (drop (length xs) old) to (omega (arith, w.wrote.end))

  pub written_front_length : to ≡ length (take to new)
  written_front_length = omega (arith, w.wrote.end, ap length written_front)
