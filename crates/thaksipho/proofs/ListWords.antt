-- The records of a list that is handed back: whether there is room for them, and what is told. Assumes nothing.
use Prim.Native.Nat.{ℕ, ◌+◌, ◌*◌, ◌%◌, ◌≤◌, ◌<◌}
use mathlib.Core.Bool.{Bool, true, false}
use mathlib.Core.Path.{◌≡◌, sym, ap, ◌∙◌}
use mathlib.Core.List.{List}
use native.Mathlib.Omega.{arith}
use lib.ListN.{length}
use Rattle.basics.specs.Choice.{pick}
use Rattle.basics.specs.Outcome.{Outcome, done, refused, handing}
use Rattle.basics.proofs.Outcomes.{not_refused}
use Rattle.writing.specs.Writing.{Wrote, fitted, holding}
use Rattle.writing.proofs.Puts.{fitted-done, fitted-refused}
use Rattle.table.specs.Calls.{wrong_width}
use Rattle.table.specs.declared.tables.Table.{Table}
use Rattle.choosers.specs.Greedy.{greedy_from}
use Rattle.choosers.specs.Results.{pairs_of, Sized, handed_back, greedy_of}
use Rattle.choosers.specs.declared.answers.PairList.{PairList}
use Rattle.choosers.specs.declared.answers.Rounds.{Rounds}
use Rattle.choosers.proofs.HandedLists.{size}
use Rattle.lists.specs.ListBytes.{list_bytes}
use Rattle.lists.proofs.Records.{records_length}
use Rattle.thaksipho.specs.Words.{places_end, word}
use Rattle.thaksipho.specs.Lists.{list_written, list_value, Listed}
use Rattle.thaksipho.proofs.Fitting.{kept}

-- no room, and room
module _ (l : PairList) (sized : Sized l) (room : ℕ) where
  pub records : length (list_bytes l) ≡ l.length * 3
  records = omega (arith, records_length (pairs_of l), size l.pairs l.length sized.held)

  pub list_cut : room < l.length * 3 → fitted room (list_bytes l) ≡ refused 31 (l.length * 3)
  list_cut h = fitted-refused room (list_bytes l) (omega (arith, records)) ∙ ap (λ (n : ℕ). refused 31 n) records

  pub list_fits : l.length * 3 ≤ room → fitted room (list_bytes l) ≡ done (list_bytes l)
  list_fits h = fitted-done room (list_bytes l) (omega (arith, records))

pub listed_refused : {old : List ℕ} {o : Outcome Rounds} {w number place : ℕ} → w ≡ word (refused number (place % places_end)) → place < places_end
    → list_value (length old) o ≡ refused number place → list_written (length old) o ≡ refused number place → Listed old o w old
listed_refused {old} {number = number} {place = place} e h v l = record { tells = e ∙ kept number place h ∙ ap word (sym v); leaves = ap (holding old) (sym l) }

pub listed_done : {old : List ℕ} {r : Rounds} {w : ℕ} {new : List ℕ} {to : ℕ} → fitted (length old) (list_bytes r.list) ≡ done (list_bytes r.list)
    → Wrote old 0 (list_bytes r.list) new to → w ≡ r.trials * 256 + r.list.length → Listed old (done r) w new
listed_done {old} {r} e v f = record {
  tells = f ∙ ap (λ (o : Outcome (List ℕ)). word (handing (r.trials * 256 + r.list.length) o)) (sym e);
  leaves = v.holds ∙ ap (holding old) (sym e);
}

-- its refusal has place 0
pub greedy_place : (t : Table) {number place : ℕ} → greedy_of t ≡ refused number place → place < places_end
unfolding greedy_of
greedy_place t e = go (wrong_width t) e
  where
    go : (b : Bool) {number place : ℕ} → pick b (refused 27 0) (done (handed_back (greedy_from t))) ≡ refused number place → place < places_end
    go true {number} {place} e = let z : 0 ≡ place = cc in omega arith
    go false e = absurd (not_refused (sym e))
