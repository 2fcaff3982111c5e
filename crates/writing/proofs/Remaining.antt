-- What is still to be written: the invariant of every loop and row of calls that fills a buffer. One law to start,
-- one for a store, one for each kind of call, one to end. Assumes nothing.
use mathlib.Core.Path.{◌≡◌, refl, sym, ap, ◌∙◌}
use mathlib.Core.List.{List, [], ◌∷◌, ◌++◌}
use Prim.Native.Nat.{ℕ, ◌+◌, ◌≤◌, ◌<◌}
use native.Mathlib.Omega.{arith}
use native.Mathlib.Numerals.{add-one}
use lib.ListN.{length, get_or, drop, set, length-append, length-set}
use lib.Seq.{drop-cons}
use Rattle.writing.specs.Writing.{put, Wrote, Placed}
use Rattle.writing.proofs.Puts.{put_none, length-put, put-put, put_store, placed_wrote}

-- once `rest` is put into `out` at `to`, `all` stands over `old` from `at` on
pub record Remaining (old : List ℕ) (at : ℕ) (all out : List ℕ) (to : ℕ) (rest : List ℕ) : Type 0 where
  pub room : at + length all ≤ length old
  pub same : length out ≡ length old
  pub size : to + length rest ≡ at + length all
  pub goes : put out to rest ≡ put old at all

pub remaining_start : {old : List ℕ} {at : ℕ} {all : List ℕ} → at + length all ≤ length old → Remaining old at all old at all
remaining_start l = record { room = l; same = refl; size = refl; goes = refl }

module _ {old : List ℕ} {at : ℕ} {all out : List ℕ} {to : ℕ} where
  pub remaining_fits : {rest : List ℕ} → Remaining old at all out to rest → to + length rest ≤ length out
  remaining_fits g = omega (arith, g.room, g.same, g.size)

  -- after a store
  pub remaining_store : {x : ℕ} {rest : List ℕ} → Remaining old at all out to (x ∷ rest) → Remaining old at all (set out to x) (to + 1) rest
  remaining_store {x} {rest} g =
      let fits = remaining_fits g in
      record {
        room = g.room;
        same = length-set out to x ∙ g.same;
        size = omega (arith, g.size);
        goes = put_store out to x rest (omega (arith, fits)) ∙ g.goes;
      }

  -- after a call that wrote the first part
  pub remaining_call : {xs new : List ℕ} {end : ℕ} (rest : List ℕ) → Wrote out to xs new end → Remaining old at all out to (xs ++ rest)
      → Remaining old at all new end rest
  remaining_call {xs} {new} {end} rest w g =
      let fits = remaining_fits g in
      let parts = length-append xs rest in
      record {
        room = g.room;
        same = ap length w.holds ∙ length-put out to xs (omega (arith, fits, parts)) ∙ g.same;
        size = omega (arith, w.end, parts, g.size);
        goes = rw (w.holds, w.end) (put-put out to xs rest (omega (arith, fits, parts))) ∙ g.goes;
      }

  -- the same of a call that places it where there is room
  pub remaining_placed : {xs new : List ℕ} {end : ℕ} (rest : List ℕ) → Placed out to xs new end → Remaining old at all out to (xs ++ rest)
      → Remaining old at all new end rest
  remaining_placed {xs} rest p g = remaining_call rest (placed_wrote p (omega (arith, remaining_fits g, length-append xs rest))) g

  -- nothing is left
  pub remaining_end : {rest : List ℕ} → rest ≡ [] → Remaining old at all out to rest → Wrote old at all out to
  remaining_end {rest} e g = record {
    holds = sym (put_none out to) ∙ ap (put out to) (sym e) ∙ g.goes;
    end = omega (arith, g.size, ap length e);
  }

-- the first of what is left of a list
pub drop_next : (xs : List ℕ) (i : ℕ) → i < length xs → drop i xs ≡ get_or xs i 0 ∷ drop (i + 1) xs
drop_next xs i l = rw add-one (drop-cons xs i 0 l)
