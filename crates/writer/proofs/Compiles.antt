-- The compiler: what a refused list and an accepted one give. Assumes nothing.
use Prim.Native.Nat.{ℕ, ◌+◌, ◌≤◌, ◌<◌}
use mathlib.Core.Path.{◌≡◌, refl, sym, ap, subst, ◌∙◌}
use mathlib.Core.List.{List}
use native.Mathlib.Omega.{arith}
use lib.ListN.{length}
use Rattle.basics.specs.Outcome.{Outcome, done, refused, handing}
use Rattle.basics.proofs.Outcomes.{not_refused}
use Rattle.writing.specs.Writing.{Wrote, holding}
use Rattle.writing.proofs.Puts.{fitted-done, fitted-refused}
use Rattle.orders.specs.Runs.{Allowed, SamePairs}
use Rattle.circuits.specs.Reading.{Static, read_circuit}
use Rattle.circuits.specs.declared.circuit.Circuit.{Circuit}
use Rattle.circuits.proofs.Rewrites.{Accepted}
use Rattle.circuits.proofs.Validity.{read_valid}
use Rattle.precedence.specs.Precedence.{circuit_of, Wired}
use Rattle.precedence.proofs.Precedence.{read_wired, circuit_lawful}
use Rattle.table.specs.Growing.{Growing}
use Rattle.table.specs.Starting.{no_rows, rows_pass, start_from, start_table}
use Rattle.table.specs.declared.tables.Table.{Table}
use Rattle.table.proofs.StartRows.{start_is}
use Rattle.pairs.specs.Lending.{lenders_in, pairs_of}
use Rattle.pairs.specs.Listing.{read_pairs, paired}
use Rattle.pairs.specs.declared.listing.Paired.{Paired}
use Rattle.pairs.proofs.PairLaws.{pairs_allowed}
use Rattle.writer.specs.Chains.{qubits}
use Rattle.writer.specs.Outputs.{output, output_of}
use Rattle.writer.specs.Compiling.{Dynamic, dynamic, dynamic_of, in_room, written_for, compiled_from, compiled, bytes_of, counts_of, Compiled}
use Rattle.writer.specs.declared.compiling.Counts.{Counts}
use Rattle.writer.proofs.Listed.{same_pairs}
use Rattle.writer.proofs.Allowed.{list_length, qubits_and_list}

-- ## What the pair list's answer says

list_refused : (o : Outcome Growing) {number place : ℕ} → refused number place ≡ paired o → o ≡ refused number place
list_refused (done g) e = absurd (not_refused e)
list_refused (refused n q) {number} {place} e =
    let a : number ≡ n = cc in
    let b : place ≡ q = cc in
    cc

-- the pairs of an accepted list, how many they are, and their lenders
record Listed (o : Outcome Growing) (p : Paired) : Type 0 where
  pub growing : Growing
  pub is : o ≡ done growing
  pub counted : p.count ≡ length growing.pairs
  pub lenders : p.lenders.lenders ≡ lenders_in growing.pairs

list_accepted : (o : Outcome Growing) (p : Paired) → done p ≡ paired o → Listed o p
list_accepted (done g) p e =
    let told : Paired = record { count = length g.pairs; table = g.table; lenders = record { lenders = lenders_in g.pairs } } in
    let z : p ≡ told = cc in record {
      growing = g;
      is = refl;
      counted = ap (λ (q : Paired). q.count) z;
      lenders = ap (λ (q : Paired). q.lenders.lenders) z;
    }
list_accepted (refused n q) p e = absurd (not_refused (sym e))

-- ## Room

-- a refusal stores nothing
pub compiled_refused : {old : List ℕ} {o : Outcome Dynamic} {n p : ℕ} → o ≡ refused n p → Compiled old o (refused n p) old
compiled_refused {old} e = record { tells = ap counts_of (sym e); leaves = ap (λ (o : Outcome Dynamic). holding old (bytes_of o)) (sym e) }

-- one byte more than a circuit has is asked for
module _ (old circuit : List ℕ) (d : Dynamic) (size : length d.bytes ≡ length circuit + 1) where
  pub room_short : length old ≤ length circuit → Compiled old (in_room (length old) d) (refused 31 (length circuit + 1)) old
  room_short h = compiled_refused (ap (handing d) (fitted-refused (length old) d.bytes (omega (arith, size))) ∙ ap (refused 31) size)

  pub room_enough : length circuit < length old → {told qubits : ℕ} {new : List ℕ} → Wrote old 0 d.bytes new told → qubits ≡ d.qubits
      → Compiled old (in_room (length old) d) (done (record { bytes = told; qubits = qubits; pairs = d.pairs })) new
  room_enough h {told} w q =
      let e : in_room (length old) d ≡ done d = ap (handing d) (fitted-done (length old) d.bytes (omega (arith, size))) in
      let z : told ≡ length d.bytes = omega (arith, w.end) in
      record {
        tells = (λ i. done (record { bytes = z i; qubits = q i; pairs = d.pairs })) ∙ ap counts_of (sym e);
        leaves = w.holds ∙ ap (λ (o : Outcome Dynamic). holding old (bytes_of o)) (sym e);
      }

-- what is settled is settled as what is equal to it
pub compiled_to : {old new : List ℕ} {o q : Outcome Dynamic} {told : Outcome Counts} → o ≡ q → Compiled old o told new → Compiled old q told new
compiled_to {old} {new} {o} {q} {told} e h = subst (λ (r : Outcome Dynamic). Compiled old r told new) e h

-- ## What is written

pub circuit_refused : (s list : List ℕ) (room : ℕ) {n p : ℕ} → read_circuit s ≡ refused n p → compiled s list room ≡ refused n p
unfolding compiled
circuit_refused s list room e = rw e

module _ (s list : List ℕ) {told : Circuit} (a : Accepted s told) where
  -- the table by the sets of resets is the circuit's
  pub table_is : {t : Table} {rows : List ℕ} → ((c : Static) → read_circuit s ≡ done c → rows ≡ rows_pass c.steps no_rows) → t ≡ start_from told.width rows
      → t ≡ start_table a.circuit
  table_is {t} {rows} f e =
      e ∙ ap (λ (w : ℕ). start_from w rows) a.width ∙ ap (start_from a.circuit.width) (f a.circuit a.is) ∙ start_is s a.circuit (read_valid s a.is)

  pub pair_refused : (room : ℕ) {n p : ℕ} → read_pairs (start_table a.circuit) list ≡ refused n p → compiled s list room ≡ refused n p
  unfolding compiled
  pair_refused room e = ap (compiled_from room list) a.is ∙ ap (written_for room a.circuit) e

  module _ (g : Growing) (e : read_pairs (start_table a.circuit) list ≡ done g) where
    pub compiled_as : (room : ℕ) → compiled s list room ≡ in_room room (dynamic_of a.circuit g.pairs)
    unfolding compiled
    compiled_as room = ap (compiled_from room list) a.is ∙ ap (written_for room a.circuit) e

    allowed : Allowed (circuit_of a.circuit) g.pairs
    allowed = pairs_allowed s list a.circuit a.is g e

    wired : Wired a.circuit
    wired = read_wired s a.is

    same : SamePairs g.pairs (pairs_of (lenders_in g.pairs) a.circuit.width)
    same = same_pairs g.pairs a.circuit.width (read_valid s a.is).narrow allowed.take_once (λ l t h. let b = allowed.between l t h in
        ((circuit_lawful a.circuit wired).low l b.0, (circuit_lawful a.circuit wired).low t b.1))

    -- the dynamic circuit has one byte more than the static one
    pub compiled_length : length (output_of (lenders_in g.pairs) (read_circuit s)) ≡ length s + 1
    compiled_length = list_length a.circuit wired (lenders_in g.pairs) g.pairs same allowed s a.is

    -- its qubits and its pairs together are as many as the wires
    pub compiled_qubits : qubits (lenders_in g.pairs) a.circuit.width + length g.pairs ≡ a.circuit.width
    compiled_qubits = qubits_and_list a.circuit wired (lenders_in g.pairs) g.pairs same allowed

  -- by what the code told of the list
  module _ {t : Table} (start : t ≡ start_table a.circuit) where
    from_start : {o : Outcome Growing} → read_pairs t list ≡ o → read_pairs (start_table a.circuit) list ≡ o
    from_start e = ap (λ (u : Table). read_pairs u list) (sym start) ∙ e

    pub told_refused : {number place : ℕ} → refused number place ≡ paired (read_pairs t list) → (room : ℕ) → compiled s list room ≡ refused number place
    told_refused e room = pair_refused room (from_start (list_refused (read_pairs t list) e))

    module _ (p : Paired) (e : done p ≡ paired (read_pairs t list)) where
      listed : Listed (read_pairs t list) p
      listed = list_accepted (read_pairs t list) p e

      pub told_length : length (output_of p.lenders.lenders (read_circuit s)) ≡ length s + 1
      told_length =
          ap (λ (ls : List ℕ). length (output_of ls (read_circuit s))) listed.lenders ∙ compiled_length listed.growing (from_start listed.is)

      pub told_accepted : (room : ℕ)
          → in_room room (dynamic (output_of p.lenders.lenders (read_circuit s)) (qubits p.lenders.lenders told.width) p.count) ≡ compiled s list room
      told_accepted room =
          ap (λ (ls : List ℕ). in_room room (dynamic (output_of ls (read_circuit s)) (qubits ls told.width) p.count)) listed.lenders
          ∙ ap (λ (o : Outcome Static). in_room room (dynamic (output_of lenders o) (qubits lenders told.width) p.count)) a.is
          ∙ ap (λ (w : ℕ). in_room room (dynamic (output lenders a.circuit) (qubits lenders w) p.count)) a.width
          ∙ ap (λ (k : ℕ). in_room room (dynamic (output lenders a.circuit) (qubits lenders a.circuit.width) k)) listed.counted
          ∙ sym (compiled_as listed.growing (from_start listed.is) room)
        where
          lenders : List ℕ
          lenders = lenders_in listed.growing.pairs
