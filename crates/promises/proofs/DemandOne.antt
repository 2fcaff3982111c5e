-- Demand 1: each refusal of each call is a number of document 01's table with its place, and a refused call leaves every lent buffer as it
-- was. That every call answers and ends is what the contracts of the functions are. Assumes nothing.
use Prim.Native.Nat.{ℕ, ◌+◌}
use mathlib.Core.Path.{◌≡◌, refl, sym, ap, subst, ◌∙◌}
use mathlib.Core.Logic.{inl, inr}
use mathlib.Core.Bool.{Bool, true, false}
use mathlib.Core.List.{List}
use lib.Dec.{ltb}
use lib.ListN.{length}
use Rattle.basics.specs.Choice.{pick}
use Rattle.basics.specs.Outcome.{Outcome, done, refused, handing}
use Rattle.basics.proofs.Outcomes.{not_refused}
use Rattle.writing.specs.Writing.{fitted, sized, holding, Settled}
use Rattle.circuits.specs.Reading.{Static, circuit_of, read_circuit}
use Rattle.circuits.specs.Rewriting.{again_of, rewritten}
use Rattle.circuits.specs.Validity.{circuit_bytes}
use Rattle.circuits.specs.Places.{OfCircuit}
use Rattle.circuits.proofs.Validity.{read_valid}
use Rattle.circuits.proofs.Refusals.{refused_place}
use Rattle.circuits.proofs.Rewrites.{Accepted}
use Rattle.table.specs.Marks.{counts, marks_of}
use Rattle.table.specs.Rule.{accepted}
use Rattle.table.specs.Calls.{wrong_width, may_lend, judged, offered, count_of, score_of}
use Rattle.table.specs.Growing.{Growing}
use Rattle.table.specs.Starting.{start_table, table_at_start, started}
use Rattle.table.specs.declared.tables.Table.{Table}
use Rattle.table.proofs.Judgements.{wrong_table}
use Rattle.table.proofs.Numbers.{RefusesPair, pair_numbers}
use Rattle.pairs.specs.Lending.{lenders_in}
use Rattle.pairs.specs.Listing.{read_pairs}
use Rattle.pairs.proofs.PairLaws.{list_refusal}
use Rattle.choosers.specs.Greedy.{greedy_from}
use Rattle.choosers.specs.Results.{handed_back, greedy_of}
use Rattle.writer.specs.Outputs.{output_of}
use Rattle.writer.specs.Compiling.{Dynamic, dynamic_of, written_for, compiled_from, compiled, bytes_of, counts_of, Compiled}
use Rattle.writer.specs.declared.compiling.Counts.{Counts}
use Rattle.writer.proofs.Compiles.{compiled_length}
use Rattle.promises.specs.Refusals.{OfTable, OfRoom, OfRewriting, OfCompiling, OfOffering}

-- equal refusals have equal numbers and places
same_refusal : {A : Type 0} {m q n p : ℕ} → ◌≡◌ {A = Outcome A} (refused m q) (refused n p) → (m ≡ n) × (q ≡ p)
same_refusal {A} {m} {q} {n} {p} e = let a : m ≡ n = cc in let b : q ≡ p = cc in (a, b)

-- a refusal by 31 has the length needed
room-refused : (room : ℕ) (bytes : List ℕ) (needed : ℕ) → length bytes ≡ needed → {n p : ℕ} → fitted room bytes ≡ refused n p → OfRoom needed n p
unfolding fitted
room-refused room bytes needed size e = go (ltb room (length bytes)) e
  where
    go : (b : Bool) {n p : ℕ} → pick b (refused 31 (length bytes)) (done bytes) ≡ refused n p → OfRoom needed n p
    go true e = let r = same_refusal e in record { is = sym r.0; length_needed = sym r.1 ∙ size }
    go false e = absurd (not_refused (sym e))

-- ## Circuits

module _ (s : List ℕ) where
  pub demand_1_read : {n p : ℕ} → read_circuit s ≡ refused n p → OfCircuit s n p
  demand_1_read e = refused_place s e

  pub demand_1_start : {n p : ℕ} → started s ≡ refused n p → OfCircuit s n p
  demand_1_start e = go (read_circuit s) refl e
    where
      go : (o : Outcome Static) → read_circuit s ≡ o → {n p : ℕ} → table_at_start o ≡ refused n p → OfCircuit s n p
      go (done c) z e = absurd (not_refused (sym e))
      go (refused m q) z {n} {p} e = let r = same_refusal e in demand_1_read (z ∙ rw (r.0, r.1))

  pub demand_1_rewrite : (room : ℕ) {n p : ℕ} → rewritten s room ≡ refused n p → OfRewriting s n p
  unfolding rewritten
  demand_1_rewrite room e = go (read_circuit s) refl e
    where
      go : (o : Outcome Static) → read_circuit s ≡ o → {n p : ℕ} → again_of room o ≡ refused n p → OfRewriting s n p
      go (done c) z e = inr (room-refused room (circuit_bytes c) (length s) (ap length (sym (read_valid s z).bytes)) e)
      go (refused m q) z e = let r = same_refusal e in inl (demand_1_read (z ∙ rw (r.0, r.1)))

  pub demand_1_compile : (list : List ℕ) (room : ℕ) {n p : ℕ} → compiled s list room ≡ refused n p → OfCompiling s list n p
  unfolding compiled
  demand_1_compile list room e = go (read_circuit s) refl e
    where
      told : (c : Static) → read_circuit s ≡ done c → Accepted s (circuit_of c.width (length c.steps))
      told c z = record { circuit = c; is = z; width = refl; instructions = refl }

      written : (d : Dynamic) → length d.bytes ≡ length s + 1 → (o : Outcome (List ℕ)) → fitted room d.bytes ≡ o → {n p : ℕ} → handing d o ≡ refused n p
          → OfRoom (length s + 1) n p
      written d size (done bytes) f e = absurd (not_refused (sym e))
      written d size (refused m q) f e = let r = same_refusal e in room-refused room d.bytes (length s + 1) size (f ∙ rw (r.0, r.1))

      listed : (c : Static) → read_circuit s ≡ done c → (o : Outcome Growing) → read_pairs (start_table c) list ≡ o → {n p : ℕ} → written_for room c o ≡ refused n p
          → OfCompiling s list n p
      listed c z (done g) f e =
          let size = subst (λ (o : Outcome Static). length (output_of (lenders_in g.pairs) o) ≡ length s + 1) z (compiled_length s list (told c z) g f) in
          inr (inr (written (dynamic_of c g.pairs) size (fitted room (dynamic_of c g.pairs).bytes) refl e))
      listed c z (refused m q) f {n} {p} e =
          let r = same_refusal e in
          inr (inl (record { circuit = c; valid = read_valid s z; pair = list_refusal s list c z (f ∙ rw (r.0, r.1)) }))

      go : (o : Outcome Static) → read_circuit s ≡ o → {n p : ℕ} → compiled_from room list o ≡ refused n p → OfCompiling s list n p
      go (done c) z e = listed c z (read_pairs (start_table c) list) refl e
      go (refused m q) z e = let r = same_refusal e in inl (demand_1_read (z ∙ rw (r.0, r.1)))

-- ## Tables

-- a call that refuses a wrong width only
by_width : {A : Type 0} (b : Bool) (a : A) {n p : ℕ} → pick b (refused 27 0) (done a) ≡ refused n p → OfTable n p
by_width true a e = let r = same_refusal e in record { is = sym r.0; first = sym r.1 }
by_width false a e = absurd (not_refused (sym e))

module _ (t : Table) where
  pub demand_1_may : (lender taker : ℕ) {n p : ℕ} → may_lend t lender taker ≡ refused n p → OfTable n p
  unfolding may_lend
  demand_1_may lender taker e = by_width (wrong_width t) (counts t lender taker) e

  pub demand_1_count : {n p : ℕ} → count_of t ≡ refused n p → OfTable n p
  unfolding count_of
  demand_1_count e = by_width (wrong_width t) (marks_of t) e

  pub demand_1_greedy : {n p : ℕ} → greedy_of t ≡ refused n p → OfTable n p
  unfolding greedy_of
  demand_1_greedy e = by_width (wrong_width t) (handed_back (greedy_from t)) e

  -- whatever is handed back when the offer is taken
  by_offer : (lender taker : ℕ) {A : Type 0} (a : A) {n p : ℕ} → handing a (judged t lender taker) ≡ refused n p → OfOffering n p
  by_offer lender taker {A} a e = go (wrong_width t) refl e
    where
      go : (b : Bool) → wrong_width t ≡ b → {n p : ℕ} → handing a (judged t lender taker) ≡ refused n p → OfOffering n p
      go true w e =
          let r = same_refusal (sym (ap (handing a) (wrong_table t lender taker w)) ∙ e) in
          inl (record { is = sym r.0; first = sym r.1 })
      go false w e =
          let r = subst (λ (o : Outcome A). RefusesPair o) e (pair_numbers t lender taker w a) in
          inr (record { least = r.0.0; most = r.0.1; first = r.1 })

  pub demand_1_offer : (lender taker : ℕ) {n p : ℕ} → offered t lender taker ≡ refused n p → OfOffering n p
  demand_1_offer lender taker e = by_offer lender taker (accepted t lender taker) e

  pub demand_1_score : (lender taker : ℕ) {n p : ℕ} → score_of t lender taker ≡ refused n p → OfOffering n p
  demand_1_score lender taker e = by_offer lender taker (marks_of (accepted t lender taker)) e

-- ## Lent buffers

-- a refused call that writes tells the refusal and leaves the buffer as it was
pub demand_1_buffer : {old new : List ℕ} {o : Outcome (List ℕ)} {told : Outcome ℕ} {n p : ℕ} → Settled old o told new → o ≡ refused n p
    → (told ≡ refused n p) × (new ≡ old)
demand_1_buffer {old} h e = (h.tells ∙ ap sized e, h.leaves ∙ ap (holding old) e)

-- so does a refused compilation
pub demand_1_compile_buffer : {old new : List ℕ} {o : Outcome Dynamic} {told : Outcome Counts} {n p : ℕ} → Compiled old o told new → o ≡ refused n p
    → (told ≡ refused n p) × (new ≡ old)
demand_1_compile_buffer {old} h e = (h.tells ∙ ap counts_of e, h.leaves ∙ ap (λ (x : Outcome Dynamic). holding old (bytes_of x)) e)
