-- The list that is taken where none is given: the code makes it, and it is short. Assumes nothing.
use Prim.Native.Nat.{ℕ, ◌≤◌}
use mathlib.Core.Path.{◌≡◌, refl, sym, ap, ◌∙◌}
use mathlib.Core.Bool.{false}
use mathlib.Core.List.{List, []}
use native.Mathlib.Omega.{arith}
use lib.ListN.{length}
use Rattle.basics.specs.Outcome.{Outcome, done, refused, beside}
use Rattle.basics.proofs.Outcomes.{not_refused}
use Rattle.circuits.specs.Reading.{Static, read_circuit}
use Rattle.table.specs.Calls.{wrong_width}
use Rattle.table.specs.Starting.{start_table, table_at_start, started}
use Rattle.table.specs.declared.tables.Table.{Table}
use Rattle.table.proofs.DemandThree.{start_width}
use Rattle.pairs.specs.Listing.{pairs_bytes, deciding_list_bytes}
use Rattle.choosers.specs.Greedy.{greedy_from}
use Rattle.choosers.specs.Results.{handed_back, greedy_of}
use Rattle.choosers.specs.declared.answers.Rounds.{Rounds}
use Rattle.choosers.proofs.Settling.{greedy_made}
use Rattle.choosers.proofs.YesPairs.{fits}
use Rattle.choosers.proofs.GreedyRounds.{pairs_any}
use Rattle.choosers.proofs.HandedLists.{pairs_back}
use Rattle.lists.specs.ListBytes.{list_bytes}
use Rattle.lists.proofs.Records.{records_length}
use Rattle.compile.specs.Running.{chosen_list}

-- what the code's list is: by the table of the circuit, and what greedy leaves
module _ (s : List ℕ) (t : Table) (start : done t ≡ started s) where
  pub started_right : wrong_width t ≡ false
  started_right = go (read_circuit s) refl start
    where
      go : (o : Outcome Static) → read_circuit s ≡ o → done t ≡ table_at_start o → wrong_width t ≡ false
      go (done c) e z = let same : t ≡ start_table c = cc in ap wrong_width same ∙ start_width s c e []
      go (refused number place) e z = absurd (not_refused (sym z))

  pub list_chosen : (r : Rounds) → done r ≡ greedy_of t → list_bytes r.list ≡ chosen_list (started s)
  list_chosen r made =
      let left = handed_back (greedy_from t) in
      ap (λ (x : Rounds). list_bytes x.list) (ap (beside left) (made ∙ greedy_made t started_right))
      ∙ ap pairs_bytes (pairs_back (greedy_from t).pairs)
      ∙ ap chosen_list start

-- it has at most a record for each wire
pub chosen_short : (s : List ℕ) → length (chosen_list (started s)) ≤ deciding_list_bytes
chosen_short s = go (read_circuit s) refl
  where
    go : (o : Outcome Static) → read_circuit s ≡ o → length (chosen_list (table_at_start o)) ≤ deciding_list_bytes
    go (done c) e =
        let t = start_table c in
        let right = start_width s c e [] in
        omega (arith, records_length (greedy_from t).pairs, pairs_any t right, fits t right)
    go (refused number place) e = omega arith
