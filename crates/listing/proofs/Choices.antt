-- What the code chose is what greedy chooses, so the first line and the lines of its list are the listing. Assumes nothing.
use Prim.Native.Nat.{ℕ, ◌+◌, ◌≤◌, ◌<◌}
use mathlib.Core.Path.{◌≡◌, refl, sym, ap, subst, ◌∙◌}
use mathlib.Core.Bool.{false}
use mathlib.Core.List.{List, [], ◌++◌, map, append-nil}
use native.Mathlib.Omega.{arith}
use lib.ListN.{length, get_or, drop}
use Rattle.basics.specs.Outcome.{Outcome, done, refused, beside}
use Rattle.basics.proofs.Outcomes.{not_refused}
use Rattle.orders.specs.Runs as runs
use Rattle.writing.specs.Writing.{Wrote, Placed, Written}
use Rattle.writing.proofs.Puts.{placed_wrote}
use Rattle.writing.proofs.Remaining.{Remaining, remaining_start, remaining_fits, remaining_placed, remaining_call, remaining_end}
use Rattle.texts.specs.Lines.{refusal_line}
use Rattle.texts.specs.Listings.{summary_line, pair_line}
use Rattle.circuits.specs.Reading.{Static, read_circuit}
use Rattle.table.specs.Calls.{wrong_width}
use Rattle.table.specs.Starting.{started, table_at_start, start_table}
use Rattle.table.specs.declared.tables.Table.{Table}
use Rattle.table.proofs.DemandThree.{start_width}
use Rattle.choosers.specs.Greedy.{ended, greedy_from}
use Rattle.choosers.specs.declared.answers.Pair.{Pair}
use Rattle.choosers.specs.Results.{numbers_of, pairs_of, Sized, handed_back, greedy_of}
use Rattle.choosers.specs.declared.answers.Rounds.{Rounds}
use Rattle.choosers.proofs.Settling.{greedy_made}
use Rattle.choosers.proofs.HandedLists.{pairs_back, pair_next, pairs_over, greedy_sized}
use Rattle.listing.specs.Printing.{pair_lines, chosen_lines, lines_of, printed, longest_listing}
use Rattle.listing.proofs.Lengths.{chosen_length, printed-length}

-- From the entries of a list: the line of the first that is left, and none left

module _ {old all out : List ℕ} {at to i : ℕ} (entries : List Pair) (r : Remaining old at all out to (pair_lines (drop i (map numbers_of entries)))) where
  pub line_next : i < length entries → (d : Pair) → {new : List ℕ} {end : ℕ}
      → Placed out to (pair_line (get_or entries i d).lender.0 (get_or entries i d).taker.0) new end
      → Remaining old at all new end (pair_lines (drop (i + 1) (map numbers_of entries)))
  line_next more d p = remaining_placed _ p (rw (pair_next entries i d more) at r)

  pub lines_end : length entries ≤ i → Wrote old at all out to
  lines_end none = remaining_end (ap pair_lines (pairs_over entries i none)) r

-- From a table of the right width

module _ (t : Table) (right : wrong_width t ≡ false) (r : Rounds) (made : r ≡ beside (handed_back (ended t)) (greedy_of t)) where
  rounds_are : handed_back (greedy_from t) ≡ r
  rounds_are = sym (made ∙ ap (beside (handed_back (ended t))) (greedy_made t right))

  -- the list has room for its entries
  pub list_sized : Sized r.list
  list_sized = subst (λ (x : Rounds). Sized x.list) rounds_are (greedy_sized t (handed_back (greedy_from t)) (greedy_made t right))

  abbrev first_line : List ℕ
  first_line = summary_line t.width r.list.length r.trials

  abbrev further_lines : List ℕ
  further_lines = pair_lines (pairs_of r.list)

  two_parts : chosen_lines t ≡ first_line ++ further_lines
  two_parts =
      subst (λ (x : Rounds). chosen_lines t ≡ summary_line t.width x.list.length x.trials ++ pair_lines (pairs_of x.list)) rounds_are
      (ap (λ (ps : List runs.Pair). summary_line t.width (length (greedy_from t).pairs) (greedy_from t).trials ++ pair_lines ps) (sym (pairs_back (greedy_from t).pairs)))

  module _ {old : List ℕ} (room : longest_listing ≤ length old) {mid : List ℕ} {seam : ℕ} (first : Placed old 0 first_line mid seam) where
    further : Remaining old 0 (chosen_lines t) mid seam further_lines
    further =
        remaining_placed further_lines first
        (subst (λ (rest : List ℕ). Remaining old 0 (chosen_lines t) old 0 rest) two_parts (remaining_start (omega (arith, chosen_length t right))))

    pub further_room : seam + length further_lines ≤ length mid
    further_room = remaining_fits further

    -- once the pairs are written, all is
    pub listing_written : {new : List ℕ} {to : ℕ} → Wrote mid seam further_lines new to → Wrote old 0 (chosen_lines t) new to
    listing_written w =
        remaining_end refl (remaining_call [] w (subst (λ (rest : List ℕ). Remaining old 0 (chosen_lines t) mid seam rest) (sym (append-nil further_lines)) further))

-- From a byte string

module _ (s : List ℕ) where
  -- the table of a circuit has a right width
  pub started_right : {t : Table} → started s ≡ done t → wrong_width t ≡ false
  started_right {t} e = go (read_circuit s) refl e
    where
      go : (o : Outcome Static) → read_circuit s ≡ o → table_at_start o ≡ done t → wrong_width t ≡ false
      go (done c) read e = let z : start_table c ≡ t = cc in subst (λ (x : Table). wrong_width x ≡ false) z (start_width s c read [])
      go (refused number place) read e = absurd (not_refused e)

  module _ {old new : List ℕ} {to : ℕ} where
    -- the listing of its table, or the line of its refusal, is what is printed
    pub listing_printed : {t : Table} → started s ≡ done t → Wrote old 0 (chosen_lines t) new to → Written old 0 longest_listing (printed s) new to
    unfolding printed
    listing_printed e w = record { wrote = subst (λ (o : Outcome Table). Wrote old 0 (lines_of o) new to) (sym e) w; short = printed-length s }

    pub refusal_printed : {number place : ℕ} → started s ≡ refused number place → longest_listing ≤ length old
        → Placed old 0 (refusal_line number place) new to → Written old 0 longest_listing (printed s) new to
    unfolding printed
    refusal_printed e room p = record {
      wrote = placed_wrote (subst (λ (o : Outcome Table). Placed old 0 (lines_of o) new to) (sym e) p) (omega (arith, printed-length s));
      short = printed-length s;
    }
