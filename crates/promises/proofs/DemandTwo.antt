-- Demand 2: with a valid circuit and room a pair list is accepted exactly under the three conditions of Theorem 1, and the output is the
-- dynamic circuit for its pairs. Assumes nothing.
use Prim.Native.Nat.{ℕ, ◌+◌, ◌≤◌}
use mathlib.Core.Path.{◌≡◌, refl, sym, ap, subst, ◌∙◌}
use mathlib.Core.Logic.{◌↔◌}
use mathlib.Core.List.{List, [], ◌∷◌, ◌++◌}
use native.Mathlib.Omega.{arith}
use lib.ListN.{length, take}
use Rattle.basics.specs.Outcome.{done}
use Rattle.orders.specs.Indices.{In}
use Rattle.orders.specs.Runs.{Pair, Runs, BetweenWires, Allowed, SamePairs}
use Rattle.orders.specs.Graph.{Acyclic}
use Rattle.orders.proofs.Runs.{run_fewer, runs_none}
use Rattle.records.specs.Bytes.{record_bytes}
use Rattle.records.specs.declared.instructions.Record.TheVariants.{DynamicWidth}
use Rattle.circuits.specs.Reading.{Static, read_circuit}
use Rattle.circuits.specs.Validity.{steps_bytes}
use Rattle.circuits.proofs.Validity.{read_valid}
use Rattle.precedence.specs.Precedence.{circuit_of, drawn_of, Wired}
use Rattle.precedence.proofs.Precedence.{read_wired, circuit_lawful}
use Rattle.precedence.proofs.Neighbours.{runs_exactly_drawn}
use Rattle.pairs.specs.Lending.{lenders_in, pairs_of}
use Rattle.pairs.specs.Listing.{pairs_bytes, AllowedList, deciding_list_bytes}
use Rattle.writer.specs.Chains.{qubit_of, qubits, Begun, Joined, same, lends, takes_from}
use Rattle.writer.specs.Outputs.{order_of}
use Rattle.writer.specs.Compiling.{Dynamic, dynamic, dynamic_of, compiled}
use Rattle.writer.proofs.Chains.{qubits_and_pairs, qubits_none, qubit_exactly, qubit_below, qubit_used}
use Rattle.writer.proofs.Listed.{same_pairs}
use Rattle.writer.proofs.Outputs.{order_runs, order_reached, dynamic_has, dynamic_count, result_kept, output-length, output_none}
use Rattle.writer.proofs.Allowed.{order_of_list, list_runs, list_begun, qubits_and_list, list_apart}
use Rattle.writer.proofs.Exactly.{allowed_written, written_allowed, first_bytes_compiled}
use Rattle.promises.specs.Dynamic.{Faithful}

-- pairs that are among others join what these join
joined_by : {ps qs : List Pair} {x y : ℕ} → ((l t : ℕ) → In (l, t) ps → In (l, t) qs) → Joined ps x y → Joined qs x y
joined_by sub same = same
joined_by sub (lends {x = x} {y = y} h j) = lends (sub x y h) (joined_by sub j)
joined_by sub (takes_from {x = x} {y = y} h j) = takes_from (sub y x h) (joined_by sub j)

module _ (s : List ℕ) (c : Static) (e : read_circuit s ≡ done c) where
  wired : Wired c
  wired = read_wired s e

  module _ (ps : List Pair) (ok : Allowed (circuit_of c) ps) where
    -- the lenders of the wires say the pairs
    said : SamePairs ps (pairs_of (lenders_in ps) c.width)
    said = same_pairs ps c.width (read_valid s e).narrow ok.take_once (λ l t h. let b = ok.between l t h in
        ((circuit_lawful c wired).low l b.0, (circuit_lawful c wired).low t b.1))

    run : Runs (circuit_of c) (pairs_of (lenders_in ps) c.width)
    run = list_runs c wired (lenders_in ps) ps said ok

    begun : Begun (lenders_in ps) c.width
    begun = list_begun c wired (lenders_in ps) ps said ok

    pub faithful : Faithful c ps (dynamic_of c ps)
    faithful = record {
      order = order_of (lenders_in ps) c;
      qubit = qubit_of (lenders_in ps) c.width;
      fixed = order_of_list c wired (lenders_in ps) ps said;
      runs =
          run_fewer (circuit_of c) (pairs_of (lenders_in ps) c.width) ps (order_of (lenders_in ps) c) (λ l t. (said l t).0)
          (order_runs c wired (lenders_in ps) run);
      bytes = refl;
      each = λ j i f. dynamic_has c wired (lenders_in ps) run j f;
      no_others = dynamic_count c wired (lenders_in ps) run;
      results = result_kept c wired (lenders_in ps) run;
      pairs_told = refl;
      qubits_told = qubits_and_list c wired (lenders_in ps) ps said ok;
      below = qubit_below (lenders_in ps) c.width begun;
      used = qubit_used (lenders_in ps) c.width begun;
      joined = λ x y a b. (let q = qubit_exactly (lenders_in ps) c.width begun x y a b in
          (λ f. joined_by (λ l t. (said l t).1) (q.0 f), λ j. q.1 (joined_by (λ l t. (said l t).0) j)));
      apart = list_apart c wired (lenders_in ps) ps said ok;
      reached = order_reached c wired (lenders_in ps) run;
      size = output-length c wired (lenders_in ps) run;
    }

  module _ (list : List ℕ) (room : ℕ) (enough : length s + 1 ≤ room) where
    -- DEMAND 2: with a valid circuit and room, something is written exactly when the list is well formed and its pairs are between wires, share no
    -- lender and no taker, and can run.
    pub demand_2_accepts : ((d : Dynamic) × (compiled s list room ≡ done d)) ↔ AllowedList (circuit_of c) list
    demand_2_accepts = (
      λ w. (written_allowed s list c e room enough w.0 w.1).0,
      λ a. (dynamic_of c a.pairs, allowed_written s list c e room enough a),
    )

    -- DEMAND 2: and what is written is the dynamic circuit for the pairs of the list.
    pub demand_2_output : (d : Dynamic) → compiled s list room ≡ done d → (a : AllowedList (circuit_of c) list) × Faithful c a.pairs d
    demand_2_output d f =
        let r = written_allowed s list c e room enough d f in
        (r.0, subst (λ (x : Dynamic). Faithful c r.0.pairs x) (sym r.1) (faithful r.0.pairs r.0.allowed))

  -- The third condition as Theorem 1 has it: the document's graph, with arrows between neighbouring instructions of each wire and from each
  -- lender's measurement to its taker's reset, has no cycle.
  pub demand_2_graph : (ps : List Pair) → BetweenWires (circuit_of c) ps → Runs (circuit_of c) ps ↔ Acyclic (drawn_of c) ps
  demand_2_graph ps between = runs_exactly_drawn c ps wired between

  -- with no pairs the instructions stand in input order, and qubit w is wire w
  pub demand_2_no_pairs : (room : ℕ) → length s + 1 ≤ room
      → compiled s [] room ≡ done (dynamic (record_bytes (DynamicWidth c.width c.width) ++ steps_bytes c.steps) c.width 0)
  unfolding pairs_bytes
  demand_2_no_pairs room enough =
      allowed_written s [] c e room enough (record { pairs = []; bytes = refl; allowed = nothing })
      ∙ ap (λ (bytes : List ℕ). done (dynamic bytes (qubits (lenders_in []) c.width) 0)) (output_none c wired (lenders_in []) none)
      ∙ ap (λ (n : ℕ). done (dynamic (record_bytes (DynamicWidth c.width c.width) ++ steps_bytes c.steps) n 0)) (qubits_none (lenders_in []) c.width none)
    where
      nothing : Allowed (circuit_of c) []
      nothing = record { between = λ l t h. absurd h; lend_once = tt; take_once = tt; runs = runs_none (circuit_of c) (circuit_lawful c wired) }

      empty : (ps : List Pair) → length ps ≡ 0 → ps ≡ []
      empty [] z = refl
      empty (p ∷ ps) z = absurd (omega arith)

      none : pairs_of (lenders_in []) c.width ≡ []
      none =
          let a = qubits_and_pairs (lenders_in []) c.width in
          let b : qubits (lenders_in []) c.width + 0 ≡ c.width = (faithful [] nothing).qubits_told in
          empty (pairs_of (lenders_in []) c.width) (omega arith)

-- of a pair list the first 96 bytes decide
pub demand_2_first_bytes : (s list : List ℕ) (room : ℕ) → compiled s (take deciding_list_bytes list) room ≡ compiled s list room
demand_2_first_bytes = first_bytes_compiled
