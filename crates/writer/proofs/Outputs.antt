-- Laws of the dynamic circuit: where the pairs run it has each instruction once, renamed and otherwise unchanged, each wire's in their old
-- order, and one byte more than the circuit; with no pairs it is the circuit behind a 02 record. Assumes nothing.
use Prim.Native.Nat.{ℕ, zero, suc, ◌+◌, ◌<◌}
use mathlib.Core.Path.{◌≡◌, refl, sym, ap, ◌∙◌}
use mathlib.Core.Logic.{inl, inr}
use mathlib.Core.Bool.{true}
use mathlib.Core.List.{List, [], ◌∷◌, ◌++◌, map, append_assoc}
use mathlib.Core.Option.{Option, none, some}
use native.Mathlib.Omega.{arith}
use lib.ListN.{length, get_elem?, length-append}
use borrow.Author.Tests.{ltb-true}
use Rattle.orders.specs.Indices.{In, from, input_order}
use Rattle.orders.specs.Runs.{Circuit, Run, Runs}
use Rattle.orders.specs.Schedule.{schedule}
use Rattle.orders.specs.Swaps.{Exchanged, neighbours, later, Reached}
use Rattle.orders.specs.Swaps as swaps
use Rattle.orders.proofs.Indices.{in_stands, order_length}
use Rattle.orders.proofs.Schedule.{schedule_runs, schedule_none}
use Rattle.orders.proofs.Swaps.{run_reached}
use Rattle.records.specs.Bytes.{instruction_bytes, record_bytes}
use Rattle.records.specs.Records.{line}
use Rattle.records.specs.declared.numbers.Bit.{Bit}
use Rattle.records.specs.declared.instructions.Instruction.{Instruction}
use Rattle.records.specs.declared.instructions.Instruction.TheVariants.{Reset, Measurement, Gate, AngledGate, TwoLineGate, AngledTwoLineGate}
use Rattle.records.specs.declared.instructions.Record.TheVariants.{DynamicWidth}
use Rattle.circuits.specs.Reading.{Static}
use Rattle.circuits.specs.Validity.{steps_bytes, circuit_bytes}
use Rattle.precedence.specs.Lives.{lines_of}
use Rattle.precedence.specs.Precedence.{holds, on, circuit_of, Wired}
use Rattle.precedence.proofs.Precedence.{circuit_lawful}
use Rattle.precedence.proofs.Spans.{at_inside}
use Rattle.pairs.specs.Lending.{pairs_of}
use Rattle.writer.specs.Chains.{qubit_of}
use Rattle.writer.specs.Outputs.{renamed, leading, in_order, order_of, dynamic_steps, output}
use Rattle.writer.proofs.Chains.{qubit_none, qubits_none}
use Rattle.writer.proofs.Wires.{there}
use Rattle.writer.proofs.Copies.{renamed-length}
use Rattle.writer.proofs.Turns.{renamed_same, order_next}

-- ## Renamed instructions

renamed_still : (i : Instruction) → renamed (λ x. x) i ≡ i
renamed_still (Reset l) = refl
renamed_still (Measurement l b) = refl
renamed_still (Gate k l) = refl
renamed_still (AngledGate k l a) = refl
renamed_still (TwoLineGate k l m) = refl
renamed_still (AngledTwoLineGate k l m a) = refl

-- how many bytes an instruction has, where there is one
abbrev bytes_at : Option Instruction → ℕ
bytes_at none = 0
bytes_at (some i) = length (instruction_bytes i)

leading_size : (q : ℕ → ℕ) (o : Option Instruction) (is : List Instruction) → length (steps_bytes (leading q o is)) ≡ bytes_at o + length (steps_bytes is)
leading_size q none is = omega arith
leading_size q (some i) is = length-append (instruction_bytes (renamed q i)) (steps_bytes is) ∙ ap (λ n. n + length (steps_bytes is)) (renamed-length q i)

-- ## The instructions in an order

module _ (q : ℕ → ℕ) (is : List Instruction) where
  -- the k-th instruction of the output is the renamed one at the k-th index of the order
  order_at : (σ : List ℕ) → ((j : ℕ) → In j σ → j < length is) → (k j : ℕ) → get_elem? σ k ≡ some j
      → (i : Instruction) × (get_elem? is j ≡ some i) × (get_elem? (in_order q is σ) k ≡ some (renamed q i))
  order_at [] h k j e = let z : ◌≡◌ {A = ℕ} 0 1 = cc in absurd (omega arith)
  order_at (m ∷ σ) h zero j e =
      let n : m ≡ j = cc in
      let r = there is m (h m (inl refl)) in
      (r.0, ap (get_elem? is) (sym n) ∙ r.1, ap (λ l. get_elem? l 0) (order_next q is m σ r.1))
  order_at (m ∷ σ) h (suc k) j e =
      let r = there is m (h m (inl refl)) in
      let s = order_at σ (λ v w. h v (inr w)) k j e in
      (s.0, s.1, ap (λ l. get_elem? l (suc k)) (order_next q is m σ r.1) ∙ s.2)

  -- and there are as many as indices
  order_count : (σ : List ℕ) → ((j : ℕ) → In j σ → j < length is) → length (in_order q is σ) ≡ length σ
  unfolding in_order
  order_count [] h = refl
  order_count (m ∷ σ) h =
      let r = there is m (h m (inl refl)) in
      ap length (order_next q is m σ r.1) ∙ ap suc (order_count σ (λ v w. h v (inr w)))

  size_more : (k : ℕ) (σ : List ℕ) → length (steps_bytes (in_order q is (k ∷ σ))) ≡ bytes_at (get_elem? is k) + length (steps_bytes (in_order q is σ))
  unfolding in_order
  size_more k σ = leading_size q (get_elem? is k) (in_order q is σ)

  -- exchanges do not change the length
  exchanged_size : {C : Circuit} {σ τ : List ℕ} → Exchanged C σ τ → length (steps_bytes (in_order q is σ)) ≡ length (steps_bytes (in_order q is τ))
  exchanged_size (neighbours {i = i} {j = j} {rest = rest} a b) =
      omega (arith, size_more i (j ∷ rest), size_more j rest, size_more j (i ∷ rest), size_more i rest)
  exchanged_size (later {x = x} {xs = xs} {ys = ys} e) = omega (arith, size_more x xs, size_more x ys, exchanged_size e)

  reached_size : {C : Circuit} {σ τ : List ℕ} → Reached C σ τ → length (steps_bytes (in_order q is σ)) ≡ length (steps_bytes (in_order q is τ))
  reached_size swaps.same = refl
  reached_size (swaps.swap e r) = exchanged_size e ∙ reached_size r

-- in the input order all are renamed
seam : (front : List Instruction) (i : Instruction) (back : List Instruction) → get_elem? (front ++ i ∷ back) (length front) ≡ some i
seam [] i back = refl
seam (j ∷ front) i back = seam front i back

input_from : (q : ℕ → ℕ) (front is : List Instruction) → in_order q (front ++ is) (from (length front) (length is)) ≡ map (renamed q) is
unfolding from in_order
input_from q front [] = refl
input_from q front (i ∷ is) =
    order_next q (front ++ i ∷ is) (length front) (from (suc (length front)) (length is)) (seam front i is)
    ∙ ap (λ l. renamed q i ∷ l)
    (ap (λ l. in_order q l (from (suc (length front)) (length is))) (sym (append_assoc front (i ∷ []) is))
    ∙ ap (λ n. in_order q ((front ++ i ∷ []) ++ is) (from n (length is))) (sym more)
    ∙ input_from q (front ++ i ∷ []) is)
  where
    more : length (front ++ i ∷ []) ≡ suc (length front)
    more = omega (arith, length-append front (i ∷ []))

input_all : (q : ℕ → ℕ) (is : List Instruction) → in_order q is (input_order (length is)) ≡ map (renamed q) is
input_all q is = input_from q [] is

all_size : (q : ℕ → ℕ) (is : List Instruction) → length (steps_bytes (map (renamed q) is)) ≡ length (steps_bytes is)
all_size q [] = refl
all_size q (i ∷ is) =
    omega (arith, length-append (instruction_bytes (renamed q i)) (steps_bytes (map (renamed q) is)), length-append (instruction_bytes i) (steps_bytes is), renamed-length q i, all_size q is)

-- a renaming that keeps each line's number keeps the instructions
all_still : (q : ℕ → ℕ) (is : List Instruction) → ((x k : ℕ) → on is x k ≡ true → q x ≡ x) → map (renamed q) is ≡ is
all_still q [] h = refl
all_still q (i ∷ is) h =
    ap (λ j. j ∷ map (renamed q) is) (renamed_same q (λ x. x) i (λ x k. h x 0 (in_stands x (lines_of i) k)) ∙ renamed_still i)
    ∙ ap (λ l. i ∷ l) (all_still q is (λ x k. h x (suc k)))

-- what stands in a list stands at some index of it
in_at : (σ : List ℕ) (j : ℕ) → In j σ → (k : ℕ) × (get_elem? σ k ≡ some j)
in_at [] j h = absurd h
in_at (m ∷ σ) j (inl e) = (0, ap some (sym e))
in_at (m ∷ σ) j (inr h) = let r = in_at σ j h in (suc r.0, r.1)

-- ## The dynamic circuit

module _ (c : Static) (wired : Wired c) (lenders : List ℕ) where
  module _ (runs : Runs (circuit_of c) (pairs_of lenders c.width)) where
    -- THEOREM: the order of writing has each instruction once, keeps each wire's order, and has each lender's measurement before its taker's reset.
    pub order_runs : Run (circuit_of c) (pairs_of lenders c.width) (order_of lenders c)
    order_runs = schedule_runs (circuit_of c) (circuit_lawful c wired) (pairs_of lenders c.width) runs

    -- THEOREM: the order is reached from the input order by exchanges of neighbours that share no wire.
    pub order_reached : Reached (circuit_of c) (input_order (length c.steps)) (order_of lenders c)
    order_reached = run_reached (circuit_of c) (circuit_lawful c wired) (pairs_of lenders c.width) (order_of lenders c) order_runs

    -- THEOREM: the k-th instruction of the dynamic circuit is the one at the k-th index of the order, renamed and otherwise unchanged.
    pub dynamic_at : (k j : ℕ) → get_elem? (order_of lenders c) k ≡ some j
        → (i : Instruction) × (get_elem? c.steps j ≡ some i) × (get_elem? (dynamic_steps lenders c) k ≡ some (renamed (qubit_of lenders c.width) i))
    dynamic_at k j e = order_at (qubit_of lenders c.width) c.steps (order_of lenders c) order_runs.order.only k j e

    -- THEOREM: each instruction stands in the dynamic circuit, renamed, and it has no others.
    pub dynamic_has : (j : ℕ) {i : Instruction} → get_elem? c.steps j ≡ some i
        → (k : ℕ) × (get_elem? (order_of lenders c) k ≡ some j) × (get_elem? (dynamic_steps lenders c) k ≡ some (renamed (qubit_of lenders c.width) i))
    dynamic_has j {i} e =
        let inside = at_inside (λ k. true) c.steps j (ap (holds (λ k. true)) e) in
        let k = in_at (order_of lenders c) j (order_runs.order.all j inside) in
        let r = dynamic_at k.0 j k.1 in
        let same : r.0 ≡ i = cc (r.1, e) in
        (k.0, k.1, r.2 ∙ ap (λ z. some (renamed (qubit_of lenders c.width) z)) same)

    pub dynamic_count : length (dynamic_steps lenders c) ≡ length c.steps
    dynamic_count =
        order_count (qubit_of lenders c.width) c.steps (order_of lenders c) order_runs.order.only
        ∙ order_length (length c.steps) (order_of lenders c) order_runs.order

    -- THEOREM: each result has its old bit.
    pub result_kept : (j x : ℕ) (b : Bit) → get_elem? c.steps j ≡ some (Measurement (line x) b)
        → (k : ℕ) × (get_elem? (dynamic_steps lenders c) k ≡ some (Measurement (line (qubit_of lenders c.width x)) b))
    result_kept j x b e = let r = dynamic_has j e in (r.0, r.2)

    -- THEOREM: the output has one byte more than the circuit.
    pub output-length : length (output lenders c) ≡ length (circuit_bytes c) + 1
    output-length =
        let q = qubit_of lenders c.width in
        omega (arith, reached_size q c.steps order_reached, ap (λ is. length (steps_bytes is)) (input_all q c.steps), all_size q c.steps)

  module _ (none : pairs_of lenders c.width ≡ []) where
    -- THEOREM: with no pairs the instructions stand in input order,
    pub order_input : order_of lenders c ≡ input_order (length c.steps)
    order_input = ap (schedule (circuit_of c)) none ∙ schedule_none (circuit_of c) (circuit_lawful c wired)

    -- and the output is the circuit's instructions as they are, behind the 02 record.
    pub output_none : output lenders c ≡ record_bytes (DynamicWidth c.width c.width) ++ steps_bytes c.steps
    output_none =
        ap (λ n. record_bytes (DynamicWidth n c.width) ++ steps_bytes (dynamic_steps lenders c)) (qubits_none lenders c.width none)
        ∙ ap (λ is. record_bytes (DynamicWidth c.width c.width) ++ steps_bytes is)
        (ap (in_order (qubit_of lenders c.width) c.steps) order_input
        ∙ input_all (qubit_of lenders c.width) c.steps
        ∙ all_still (qubit_of lenders c.width) c.steps (λ x k o. qubit_none lenders c.width none x (ltb-true x c.width (wired.named x k o))))
