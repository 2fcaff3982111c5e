-- The loop that writes: what is still to be written is the rest of the order, and each turn writes the first of it. Assumes nothing.
use Prim.Native.Nat.{ℕ, zero, suc, ◌+◌, ◌-◌, ◌≤◌, ◌<◌}
use mathlib.Core.Path.{◌≡◌, refl, sym, ap, subst, ◌∙◌}
use mathlib.Core.Logic.{inl, inr, ◌⊎◌}
use mathlib.Core.Bool.{true, false}
use mathlib.Core.List.{List, [], ◌∷◌, ◌++◌, append_assoc, append-nil}
use mathlib.Core.Option.{some}
use native.Mathlib.Omega.{arith}
use lib.ListN.{length, get_or, get_elem?, replicate, length-append, length-replicate, get_or-replicate}
use lib.Dec.{ltb}
use borrow.Author.Tests.{lt-ltb, le-ltb, ltb-true}
use Rattle.basics.proofs.Tests.{refuted, below_or_not, true_or_false}
use Rattle.bits.proofs.Lists.{get_or-each}
use Rattle.orders.specs.Indices.{In}
use Rattle.orders.specs.Runs.{Pair}
use Rattle.orders.specs.Runs as runs
use Rattle.orders.specs.Schedule.{ready, next, write_on, schedule}
use Rattle.orders.proofs.Schedule.{Written, written_none, written_more, next-ready, next_is, write_on_more, write_on_stuck, write_on_end}
use Rattle.writing.specs.Writing.{Wrote}
use Rattle.writing.proofs.Remaining.{Remaining, remaining_start, remaining_call, remaining_fits, remaining_end}
use Rattle.records.specs.Bytes.{instruction_bytes}
use Rattle.records.specs.Records.{line}
use Rattle.records.specs.declared.instructions.Instruction.{Instruction}
use Rattle.records.specs.declared.instructions.Instruction.TheVariants.{Reset, Measurement, Gate, AngledGate, TwoLineGate, AngledTwoLineGate}
use Rattle.circuits.specs.Limits.{most_wires}
use Rattle.circuits.specs.Validity.{steps_bytes}
use Rattle.circuits.specs.Rewriting.{steps_of}
use Rattle.circuits.proofs.Rewrites.{Accepted, accepted}
use Rattle.precedence.specs.Lives.{lines_of}
use Rattle.precedence.specs.Precedence.{circuit_of, Wired}
use Rattle.precedence.proofs.Precedence.{read_wired, circuit_lawful}
use Rattle.pairs.specs.Lending.{pairs_of}
use Rattle.writer.specs.Chains.{qubit_of}
use Rattle.writer.specs.Outputs.{renamed, in_order, dynamic_in, Renames}
use Rattle.writer.specs.Notes.{is_reset, form_of, first_wire, second_wire, note_at, first_at, second_at, place_at, Noted}
use Rattle.writer.specs.Heads.{TrueSource, steps_from, NextOn, Tabled, after_at, Linked, headed, candidate, candidate_of, tried_below, tried_both, Least}
use Rattle.writer.specs.declared.heads.After.{After}
use Rattle.writer.specs.declared.heads.Heads.{Heads}
use Rattle.writer.specs.declared.source.Source.{Source}
use Rattle.writer.proofs.Wires.{first_in, second_in, headed_each, there, wire_on, wire_off, on_wire, first_noted, second_noted, reset_noted}
use Rattle.writer.proofs.Ready.{Head, head_first, head_kept, head_moved, may-ready, ready_head, ready_may, may_tells}
use Rattle.writer.proofs.Copies.{noted_length, renamed-length}
use Rattle.writer.proofs.Moves.{moves_right}
use Rattle.writer.proofs.Candidates.{Better, below_right, better_below}

-- ## The rest of the order

module _ (C : runs.Circuit) (ps : List Pair) where
  -- what comes after `written`, at most `fuel` of it
  pub rest_on : ℕ → List ℕ → List ℕ
  rest_on zero written = []
  rest_on (suc fuel) written = elim (ltb (next C ps written) C.size) [ true ↦ next C ps written ∷ rest_on fuel (written ++ next C ps written ∷ []) | false ↦ [] ]

  rest_more : (fuel : ℕ) (written : List ℕ) → next C ps written < C.size
      → rest_on (suc fuel) written ≡ next C ps written ∷ rest_on fuel (written ++ next C ps written ∷ [])
  unfolding rest_on
  rest_more fuel written l = rw (rest_on, lt-ltb (next C ps written) C.size l)

  rest_stuck : (fuel : ℕ) (written : List ℕ) → C.size ≤ next C ps written → rest_on fuel written ≡ []
  unfolding rest_on
  rest_stuck zero written l = refl
  rest_stuck (suc fuel) written l = rw (rest_on, le-ltb (next C ps written) C.size l)

  rest_none : (written : List ℕ) → rest_on 0 written ≡ []
  unfolding rest_on
  rest_none written = refl

  rest_written : (fuel : ℕ) (written : List ℕ) → write_on C ps fuel written ≡ written ++ rest_on fuel written
  rest_written zero written = write_on_end C ps written ∙ sym (ap (λ z. written ++ z) (rest_none written) ∙ append-nil written)
  rest_written (suc fuel) written = elim (below_or_not (next C ps written) C.size) [
    | inl l ↦
        write_on_more C ps written fuel l ∙ rest_written fuel (written ++ next C ps written ∷ [])
        ∙ append_assoc written (next C ps written ∷ []) (rest_on fuel (written ++ next C ps written ∷ []))
        ∙ sym (ap (λ z. written ++ z) (rest_more fuel written l))
    | inr l ↦ write_on_stuck C ps written fuel l ∙ sym (ap (λ z. written ++ z) (rest_stuck (suc fuel) written l) ∙ append-nil written)
  ]

  rest_all : schedule C ps ≡ rest_on C.size []
  unfolding schedule
  rest_all = rest_written C.size []

-- ## Renaming

-- two numberings that agree on its lines rename an instruction alike
pub renamed_same : (q r : ℕ → ℕ) (i : Instruction) → ((x : ℕ) → In x (lines_of i) → q x ≡ r x) → renamed q i ≡ renamed r i
renamed_same q r (Reset l) h = ap (λ z. Reset (line z)) (h l.0 (inl refl))
renamed_same q r (Measurement l b) h = ap (λ z. Measurement (line z) b) (h l.0 (inl refl))
renamed_same q r (Gate k l) h = ap (λ z. Gate k (line z)) (h l.0 (inl refl))
renamed_same q r (AngledGate k l a) h = ap (λ z. AngledGate k (line z) a) (h l.0 (inl refl))
renamed_same q r (TwoLineGate k l m) h =
    ap (λ z. TwoLineGate k (line z) (line (q m.0))) (h l.0 (inl refl)) ∙ ap (λ z. TwoLineGate k (line (r l.0)) (line z)) (h m.0 (inr (inl refl)))
renamed_same q r (AngledTwoLineGate k l m a) h =
    ap (λ z. AngledTwoLineGate k (line z) (line (q m.0)) a) (h l.0 (inl refl))
    ∙ ap (λ z. AngledTwoLineGate k (line (r l.0)) (line z) a) (h m.0 (inr (inl refl)))

order_none : (q : ℕ → ℕ) (is : List Instruction) (ks : List ℕ) → ks ≡ [] → in_order q is ks ≡ []
unfolding in_order
order_none q is ks e = rw e

pub order_next : (q : ℕ → ℕ) (is : List Instruction) (k : ℕ) (ks : List ℕ) {i : Instruction} → get_elem? is k ≡ some i → in_order q is (k ∷ ks) ≡ renamed q i ∷ in_order q is ks
unfolding in_order
order_next q is k ks e = rw (in_order, e)

-- a reset is on one wire
reset_wire : (i : Instruction) → is_reset (form_of i) ≡ true → first_wire i ≡ second_wire i
reset_wire (Reset l) h = refl
reset_wire (Measurement l b) h = refl
reset_wire (Gate k l) h = refl
reset_wire (AngledGate k l a) h = refl
reset_wire (TwoLineGate k l m) h = cc
reset_wire (AngledTwoLineGate k l m a) h = cc

-- ## The turns

module _ (s : Source) (told : TrueSource s) where
  abbrev a : Accepted s.circuit.now s.valid
  a = accepted s.circuit.now told.valid

  abbrev is : List Instruction
  is = a.circuit.steps

  abbrev C : runs.Circuit
  C = circuit_of a.circuit

  abbrev ps : List Pair
  ps = pairs_of s.lenders.lenders a.circuit.width

  abbrev q : ℕ → ℕ
  q = qubit_of s.lenders.lenders a.circuit.width

  wired : Wired a.circuit
  wired = read_wired s.circuit.now a.is

  -- what is kept of an instruction
  noted : (k : ℕ) (i : Instruction) → get_elem? is k ≡ some i → Noted s.circuit.now s.notes.now k i
  noted k i e = told.kept.each k i (subst (λ z. get_elem? z k ≡ some i) (sym (ap steps_of a.is)) e)

  wire_low : (k : ℕ) {i : Instruction} → get_elem? is k ≡ some i → (x : ℕ) → In x (lines_of i) → x < a.circuit.width
  wire_low k e x h = ltb-true x a.circuit.width (wired.named x k (wire_on is k e x h))

  tab : Tabled is s
  tab = record {
    all = sym a.instructions;
    named = λ x k o. omega (arith, ltb-true x a.circuit.width (wired.named x k o), a.width, s.narrow);
    note = λ k i e. (noted k i e).note;
  }

  -- a wire is one of its head's
  owns : (indices written : List ℕ) → ((x : ℕ) → x < most_wires → Head is written x (get_or indices x 0)) → (x : ℕ) → x < most_wires
      → get_or indices x 0 < s.valid.instructions → (x ≡ first_at s.notes.now (get_or indices x 0)) ⊎ (x ≡ second_at s.notes.now (get_or indices x 0))
  owns indices written heads x b l =
      let k = get_or indices x 0 in
      let it = there is k (omega (arith, a.instructions)) in
      let n = noted k it.0 it.1 in
      elim (on_wire is k it.1 x ((heads x b).here (omega (arith, a.instructions)))) [
        | inl e ↦ inl (e ∙ sym (first_noted n))
        | inr e ↦ inr (e ∙ sym (second_noted n))
      ]

  -- a wire that has a head is below the width
  narrow_head : (indices written : List ℕ) → ((x : ℕ) → x < most_wires → Head is written x (get_or indices x 0)) → (x : ℕ) → x < most_wires
      → candidate s indices x ≡ true → x < a.circuit.width
  narrow_head indices written heads x b m =
      ltb-true x a.circuit.width (wired.named x (get_or indices x 0) ((heads x b).here (omega (arith, (may_tells s indices x m).inside, a.instructions))))

  -- the heads are those after what is written, what is kept of each wire is its candidate, and what is still to be written is the rest of the order
  pub record Going (old : List ℕ) (from : ℕ) (h : Heads) (out : List ℕ) (to left : ℕ) : Type 0 where
    pub written : List ℕ
    pub kept : Written C ps written
    pub heads : (x : ℕ) → x < most_wires → Head is written x (get_or h.indices x 0)
    pub right : (x : ℕ) → x < most_wires → get_or h.candidates x 0 ≡ candidate_of s h.indices x
    pub rest : Remaining old from (steps_from s) out to (steps_bytes (in_order q is (rest_on C ps left written)))

  pub going_start : {old : List ℕ} {from left : ℕ} {h : Heads} {links : List After} → left ≡ s.valid.instructions → from + length (steps_from s) ≤ length old → ((is : List Instruction) → Tabled is s → Linked is 0 h.indices links)
      → h.candidates ≡ tried_below s h.indices s.valid.width (replicate most_wires s.valid.instructions)
      → Going old from h old from left
  going_start {old} {from} {h = h} e room linked found = record {
    written = [];
    kept = written_none C ps;
    heads = heads;
    right = λ x b. ap (λ z. get_or z x 0) found ∙ elim (below_or_not x s.valid.width) [
      | inl l ↦ below_right s h.indices own s.valid.width start start_sized s.narrow x l
      | inr l ↦ better.kept x (get_or-replicate most_wires x s.valid.instructions 0 b ∙ sym (rw (refuted _ (λ m. let z = narrow_head h.indices [] heads x b m in omega (arith, a.width)))))
    ];
    rest = subst (λ z. Remaining old from (steps_from s) old from z)
        (ap (λ o. steps_bytes (dynamic_in s.lenders.lenders o)) a.is ∙ ap (λ ks. steps_bytes (in_order q is ks)) (rest_all C ps ∙ ap (λ n. rest_on C ps n []) (sym (e ∙ a.instructions))))
        (remaining_start room);
  }
    where
      heads : (x : ℕ) → x < most_wires → Head is [] x (get_or h.indices x 0)
      heads x b = head_first is x ((linked is tab).heads x b)

      own : (x : ℕ) → x < most_wires → get_or h.indices x 0 < s.valid.instructions → (x ≡ first_at s.notes.now (get_or h.indices x 0)) ⊎ (x ≡ second_at s.notes.now (get_or h.indices x 0))
      own = owns h.indices [] heads

      start : List ℕ
      start = replicate most_wires s.valid.instructions

      start_sized : length start ≡ most_wires
      start_sized = length-replicate most_wires s.valid.instructions

      better : Better s h.indices own start (tried_below s h.indices s.valid.width start)
      better = better_below s h.indices own s.valid.width start start_sized s.narrow

  module _ {old : List ℕ} {from : ℕ} {h : Heads} {out : List ℕ} {to left : ℕ} (g : Going old from h out to left) where
    ended : rest_on C ps left g.written ≡ [] → Wrote old from (steps_from s) out to
    ended e = remaining_end (ap steps_bytes (order_none q is (rest_on C ps left g.written) e)) g.rest

    -- all that may be written is
    pub going_end : left ≡ 0 → Wrote old from (steps_from s) out to
    going_end e = ended (ap (λ n. rest_on C ps n g.written) e ∙ rest_none C ps g.written)

    abbrev below_heads : (x : ℕ) → x < a.circuit.width → Head is g.written x (get_or h.indices x 0)
    below_heads x l = g.heads x (omega (arith, a.width, s.narrow))

    module _ {index : ℕ} (least : Least h.candidates most_wires index) where
      -- what is ready is no lower than what was chosen
      no_lower : (m : ℕ) → m < length is → ready C ps g.written m ≡ true → index ≤ m
      no_lower m l r =
          let x = ready_may a.circuit wired s h.indices a.width g.written g.kept tab below_heads m l r in
          let b : x.0 < most_wires = omega (arith, x.1, a.width, s.narrow) in
          let e : get_or h.candidates x.0 0 ≡ get_or h.indices x.0 0 = g.right x.0 b ∙ rw x.3 in
          omega (arith, least.least x.0 b, x.2)

      -- where nothing was chosen nothing is ready
      pub going_stuck : s.valid.instructions ≤ index → Wrote old from (steps_from s) out to
      going_stuck b = elim (below_or_not (next C ps g.written) (length is)) [
        | inl l ↦ (let z = no_lower (next C ps g.written) l (next-ready C ps g.written l) in absurd (omega (arith, a.instructions)))
        | inr l ↦ ended (rest_stuck C ps left g.written l)
      ]

      module _ (b : index < s.valid.instructions) where
        chosen_inside : index < length is
        chosen_inside = omega (arith, a.instructions)

        -- a wire whose head is chosen
        chosen_wire : (x : ℕ) × (x < most_wires) × (candidate s h.indices x ≡ true) × (get_or h.indices x 0 ≡ index)
        chosen_wire =
            let x = least.one.0 in
            elim (true_or_false (candidate s h.indices x)) [
              | inl m ↦ (x, least.one.1, m, sym (g.right x least.one.1 ∙ rw m) ∙ least.one.2)
              | inr m ↦ (let z : get_or h.candidates x 0 ≡ s.valid.instructions = g.right x least.one.1 ∙ rw m in absurd (omega (arith, least.one.2)))
            ]

        chosen_ready : ready C ps g.written index ≡ true
        chosen_ready =
            let x = chosen_wire in
            subst (λ k. ready C ps g.written k ≡ true) x.3
            (may-ready a.circuit wired s h.indices a.width g.written g.kept tab below_heads x.0 (narrow_head h.indices g.written g.heads x.0 x.1 x.2) x.2)

        -- so it is what comes next
        chosen_next : next C ps g.written ≡ index
        chosen_next = next_is C ps g.written index chosen_inside
            (λ m l. refuted _ (λ r. let z = no_lower m (omega (arith, chosen_inside)) r in omega arith))
            chosen_ready

        abbrev it : Instruction
        it = (there is index chosen_inside).0

        this : get_elem? is index ≡ some it
        this = (there is index chosen_inside).1

        chosen_noted : Noted s.circuit.now s.notes.now index it
        chosen_noted = noted index it this

        order : (less : ℕ) → left ≡ less + 1 → rest_on C ps left g.written ≡ index ∷ rest_on C ps less (g.written ++ index ∷ [])
        order less e =
            let z : left ≡ suc less = omega arith in
            ap (λ n. rest_on C ps n g.written) z ∙ rest_more C ps less g.written (omega (arith, chosen_next, chosen_inside))
            ∙ ap (λ k. k ∷ rest_on C ps less (g.written ++ k ∷ [])) chosen_next

        -- it is the first of what is still to be written
        comes_first : (less : ℕ) → left ≡ less + 1
            → Remaining old from (steps_from s) out to (instruction_bytes (renamed q it) ++ steps_bytes (in_order q is (rest_on C ps less (g.written ++ index ∷ []))))
        comes_first less e = subst (λ z. Remaining old from (steps_from s) out to (steps_bytes z)) (ap (in_order q is) (order less e) ∙ order_next q is index _ this) g.rest

        -- and there is room for it
        pub chosen_room : 0 < left → to + (place_at s.notes.now (index + 1) - place_at s.notes.now index) ≤ length out
        chosen_room l =
            let fits = simp length-append at (remaining_fits (comes_first (left - 1) (omega arith))) in
            omega (arith, noted_length chosen_noted, renamed-length q it)

        resets : (k : ℕ) → k < s.valid.instructions → is_reset (note_at s.notes.now k).form ≡ true → first_at s.notes.now k ≡ second_at s.notes.now k
        resets k l r =
            let i = there is k (omega (arith, a.instructions)) in
            let n = noted k i.0 i.1 in
            first_noted n ∙ reset_wire i.0 (sym (reset_noted n) ∙ r) ∙ sym (second_noted n)

        below_width : (k : ℕ) → k < s.valid.instructions → first_at s.notes.now k < s.valid.width
        below_width k l =
            let i = there is k (omega (arith, a.instructions)) in
            omega (arith, first_noted (noted k i.0 i.1), wire_low k i.1 (first_wire i.0) (first_in i.0), a.width)

        -- the head of one of its wires is the instruction, and then the next on the wire
        was_head : (x : ℕ) → In x (lines_of it) → get_or h.indices x 0 ≡ index
        was_head x w = ready_head a.circuit wired s h.indices a.width g.written g.kept tab below_heads index chosen_ready x (wire_on is index this x w)

        head_of_wire : (x : ℕ) → In x (lines_of it) → {k : ℕ} → NextOn is x (index + 1) k → Head is (g.written ++ index ∷ []) x k
        head_of_wire x w n = head_moved is x g.written index (subst (Head is g.written x) (was_head x w) (below_heads x (wire_low index this x w))) n

        module _ {links : List After} {started : List ℕ} (new : Heads) (linked : (is : List Instruction) → Tabled is s → Linked is 0 started links)
            (set : new.indices ≡ headed (first_at s.notes.now index) (second_at s.notes.now index) (after_at links index).first (after_at links index).second h.indices) where
          new_heads : (x : ℕ) → x < most_wires → Head is (g.written ++ index ∷ []) x (get_or new.indices x 0)
          new_heads x l =
              let links_of = linked is tab in
              let n = chosen_noted in
              let low = s.low index b in
              subst (λ z. Head is (g.written ++ index ∷ []) x (get_or z x 0)) (sym set)
              (headed_each (λ y k. Head is (g.written ++ index ∷ []) y k) (first_at s.notes.now index) (second_at s.notes.now index) (after_at links index).first (after_at links index).second h.indices
              (omega (arith, low.0, h.sized)) (omega (arith, low.1, h.sized))
              (subst (λ y. Head is (g.written ++ index ∷ []) y (after_at links index).first) (sym (first_noted n)) (head_of_wire _ (first_in it) (links_of.after_first index it (omega arith) this)))
              (subst (λ y. Head is (g.written ++ index ∷ []) y (after_at links index).second) (sym (second_noted n)) (head_of_wire _ (second_in it) (links_of.after_second index it (omega arith) this)))
              x (λ f s'. head_kept is x g.written index (wire_off is index this x (λ e. f (e ∙ sym (first_noted n))) (λ e. s' (e ∙ sym (second_noted n)))) (g.heads x l)))

          new_right : new.candidates ≡ tried_both s new.indices (first_at s.notes.now index) (second_at s.notes.now index) h.candidates
              → (x : ℕ) → x < most_wires → get_or new.candidates x 0 ≡ candidate_of s new.indices x
          new_right e x l =
              let n = chosen_noted in
              let moved = headed (first_at s.notes.now index) (second_at s.notes.now index) (after_at links index).first (after_at links index).second h.indices in
              ap (λ z. get_or z x 0) e
              ∙ subst (λ z. get_or (tried_both s z (first_at s.notes.now index) (second_at s.notes.now index) h.candidates) x 0 ≡ candidate_of s z x) (sym set)
              (moves_right s below_width resets h.indices h.sized index _ _ b
              (owns moved (g.written ++ index ∷ []) (λ y k. subst (λ z. Head is (g.written ++ index ∷ []) y (get_or z y 0)) set (new_heads y k)))
              (ap (λ z. get_or h.indices z 0) (first_noted n) ∙ was_head _ (first_in it)) (ap (λ z. get_or h.indices z 0) (second_noted n) ∙ was_head _ (second_in it))
              h.candidates h.sized_candidates g.right x l)

          pub going_on : (numbers : List ℕ) {after : List ℕ} {stop less : ℕ} → left ≡ less + 1 → Renames s.lenders.lenders s.valid.width numbers
              → new.candidates ≡ tried_both s new.indices (first_at s.notes.now index) (second_at s.notes.now index) h.candidates
              → ((i : Instruction) → Noted s.circuit.now s.notes.now index i → Wrote out to (instruction_bytes (renamed (λ x. get_or numbers x 0) i)) after stop)
              → Going old from new after stop less
          going_on numbers {after} {stop} {less} e r tried-again wrote = record {
            written = g.written ++ index ∷ [];
            kept = written_more C (circuit_lawful a.circuit wired) ps g.written index g.kept chosen_inside chosen_ready;
            heads = new_heads;
            right = new_right tried-again;
            rest = remaining_call (steps_bytes (in_order q is (rest_on C ps less (g.written ++ index ∷ []))))
                (subst (λ z. Wrote out to (instruction_bytes z) after stop) (renamed_same _ q it agree) (wrote it chosen_noted))
                (comes_first less e);
          }
            where
              agree : (x : ℕ) → In x (lines_of it) → get_or numbers x 0 ≡ q x
              agree x w = ap (λ z. get_or z x 0) r ∙ get_or-each most_wires _ x (omega (arith, wire_low index this x w, a.width, s.narrow)) ∙ ap (λ w. qubit_of s.lenders.lenders w x) a.width
