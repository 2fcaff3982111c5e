-- What is kept of each instruction: the turns of the pass that reads each once. Assumes nothing.
use Prim.Native.Nat.{ℕ, zero, suc, ◌+◌, ◌*◌, ◌-◌, ◌≤◌, ◌<◌}
use mathlib.Core.Path.{◌≡◌, refl, sym, ap, subst, ◌∙◌}
use mathlib.Core.Logic.{inl, inr, ◌⊎◌}
use mathlib.Core.List.{List, [], ◌∷◌, ◌++◌}
use mathlib.Core.Option.{some}
use native.Mathlib.Omega.{arith}
use lib.ListN.{length, get_or, get_elem?, set, length-append}
use lib.Dec.{ltb}
use lib.Seq.{get_or-set_same, get_or-set_other}
use Rattle.basics.specs.Outcome.{Outcome, done, refused}
use Rattle.basics.proofs.Tests.{true_or_false}
use Rattle.records.specs.Bytes.{longest_record}
use Rattle.records.specs.declared.instructions.Instruction.{Instruction}
use Rattle.records.specs.declared.instructions.Instruction.TheVariants.{Reset, Measurement, Gate, AngledGate, TwoLineGate, AngledTwoLineGate}
use Rattle.circuits.specs.Limits.{most_instructions, header_length, deciding_bytes}
use Rattle.circuits.specs.Judging.{states_of, fresh_states, first_unfinished}
use Rattle.circuits.specs.Sketching.{sketch_of}
use Rattle.circuits.specs.Reading.{Static, before, ending, read_from, widthened, header_of, read_circuit, counted, summary}
use Rattle.circuits.specs.Rewriting.{steps_of}
use Rattle.circuits.specs.declared.sketching.Sketch.{Sketch}
use Rattle.circuits.proofs.FirstBytes.{step_short}
use Rattle.circuits.proofs.Takes.{Taken}
use Rattle.circuits.proofs.Turns.{counted-before, reads_after}
use Rattle.table.specs.Starting.{no_rows, rows_sketched, rows_pass}
use Rattle.table.proofs.StartRows.{pass_more, pass_over}
use Rattle.writer.specs.Notes.{noted, note_of, note_sketched, place_at, Noted, Kept}
use Rattle.writer.specs.declared.notes.Form.TheVariants as form
use Rattle.writer.specs.declared.notes.Notes.{Notes}

-- ## An instruction and its sketch

note_like : (i : Instruction) → note_sketched (sketch_of i) ≡ note_of i
note_like (Reset l) = refl
note_like (Measurement l b) = refl
note_like (Gate k l) = refl
note_like (AngledGate k l a) = refl
note_like (TwoLineGate k l m) = refl
note_like (AngledTwoLineGate k l m a) = refl

-- ## The instructions read so far, before what is read from there on

pub behind_all : List Instruction → Outcome (List Instruction) → Outcome (List Instruction)
behind_all [] o = o
behind_all (j ∷ js) o = before j (behind_all js o)

behind_last : (js : List Instruction) (i : Instruction) (o : Outcome (List Instruction)) → behind_all (js ++ i ∷ []) o ≡ behind_all js (before i o)
unfolding behind_all
behind_last [] i o = refl
behind_last (j ∷ js) i o = ap (before j) (behind_last js i o)

behind_refused : (js : List Instruction) (n p : ℕ) → behind_all js (refused n p) ≡ refused n p
unfolding behind_all
behind_refused [] n p = refl
behind_refused (j ∷ js) n p = ap (before j) (behind_refused js n p)

behind_ended : (js : List Instruction) → behind_all js (done []) ≡ done js
unfolding behind_all
behind_ended [] = refl
behind_ended (j ∷ js) = ap (before j) (behind_ended js)

behind_counted : (width n : ℕ) (js : List Instruction) (o : Outcome (List Instruction)) → counted width n (behind_all js o) ≡ counted width (n + length js) o
unfolding behind_all
behind_counted width n [] o = let z : n ≡ n + 0 = omega arith in ap (λ m. counted width m o) z
behind_counted width n (j ∷ js) o =
    let z : n + 1 + length js ≡ n + suc (length js) = omega arith in
    counted-before width n j (behind_all js o) ∙ behind_counted width (n + 1) js o ∙ ap (λ m. counted width m o) z

-- ## One instruction more

last_or_before : (xs : List Instruction) (x : Instruction) (k : ℕ) {j : Instruction} → get_elem? (xs ++ x ∷ []) k ≡ some j
    → ((k ≡ length xs) × (j ≡ x)) ⊎ ((k < length xs) × (get_elem? xs k ≡ some j))
last_or_before [] x zero e = inl (refl, cc)
last_or_before [] x (suc k) e = let z : ◌≡◌ {A = ℕ} 0 1 = cc in absurd (omega arith)
last_or_before (y ∷ ys) x zero e = inr (omega arith, e)
last_or_before (y ∷ ys) x (suc k) e = elim (last_or_before ys x k e) [
  | inl q ↦ inl (ap suc q.0, q.1)
  | inr q ↦ inr (omega (arith, q.0), q.1)
]

-- of a refused circuit nothing need be kept
module _ {s : List ℕ} {n p : ℕ} {notes : Notes} {rows : List ℕ} where
  refused_kept : read_circuit s ≡ refused n p
      → Kept s (steps_of (read_circuit s)) notes × ((c : Static) → read_circuit s ≡ done c → rows ≡ rows_pass c.steps no_rows)
  refused_kept e = (
    subst (λ is. Kept s is notes) (sym (ap steps_of e)) (record { each = λ k i h. (let z : ◌≡◌ {A = ℕ} 0 1 = cc in absurd (omega arith)) }),
    λ c h. (let z : ◌≡◌ {A = ℕ} 0 1 = cc in absurd (omega arith)),
  )

  pub header_refused : header_of s ≡ refused n p
      → (refused n p ≡ summary (read_circuit s))
      × (Kept s (steps_of (read_circuit s)) notes × ((c : Static) → read_circuit s ≡ done c → rows ≡ rows_pass c.steps no_rows))
  unfolding read_circuit
  header_refused h = let e : read_circuit s ≡ refused n p = rw h in (sym (ap summary e), refused_kept e)

module _ (s : List ℕ) (width : ℕ) where
  -- so many instructions are read and kept, and the next stands at a place, which is near enough for its number to fit
  pub record Noting (progress uses : List ℕ) (at index : ℕ) (notes : Notes) (rows : List ℕ) : Type 0 where
    pub read : List Instruction
    pub many : length read ≡ index
    pub few : index ≤ most_instructions
    pub whole : read_from most_instructions s width fresh_states header_length ≡ behind_all read (read_from (most_instructions - index) s width (states_of progress uses) at)
    pub all : Kept s read notes
    pub here : place_at notes index ≡ at
    pub near : at ≤ header_length + index * longest_record
    pub passed : rows ≡ rows_pass read no_rows

  pub noting_start : {progress uses : List ℕ} {notes : Notes} {rows : List ℕ} → states_of progress uses ≡ fresh_states → rows ≡ no_rows
      → Noting progress uses header_length 0 notes rows
  unfolding behind_all
  noting_start {notes = notes} e r = record {
    read = [];
    many = refl;
    few = omega arith;
    whole = ap (λ c. read_from most_instructions s width c header_length) (sym e);
    all = record { each = λ k i h. (let z : ◌≡◌ {A = ℕ} 0 1 = cc in absurd (omega arith)) };
    here = notes.header;
    near = omega arith;
    passed = r ∙ sym (pass_over no_rows refl);
  }

  module _ {progress uses : List ℕ} {at index : ℕ} {notes : Notes} {rows : List ℕ} (g : Noting progress uses at index notes rows) where
    abbrev left : ℕ
    left = most_instructions - index

    -- ## The end

    module _ (header : header_of s ≡ done width) {o : Outcome (List Instruction)} (ends : read_from left s width (states_of progress uses) at ≡ o) where
      -- what is told of the whole circuit
      pub noting_told : counted width index o ≡ summary (read_circuit s)
      noting_told =
          let z : index ≡ 0 + length g.read = omega (arith, g.many) in
          ap (λ n. counted width n o) z ∙ sym (behind_counted width 0 g.read o) ∙ ap (λ r. counted width 0 (behind_all g.read r)) (sym ends)
          ∙ ap (counted width 0) (sym g.whole) ∙ reads_after s width header

      is_read : read_circuit s ≡ widthened width (behind_all g.read o)
      unfolding read_circuit
      is_read = rw header (ap (widthened width) (g.whole ∙ ap (behind_all g.read) ends))

      -- what is kept at the end is kept of all instructions
      abbrev pub AllKept : Type 0
      AllKept = Kept s (steps_of (read_circuit s)) notes × ((c : Static) → read_circuit s ≡ done c → rows ≡ rows_pass c.steps no_rows)

      pub kept_refused : {n p : ℕ} → o ≡ refused n p → AllKept
      kept_refused {n} {p} e =
          refused_kept (is_read ∙ ap (λ r. widthened width (behind_all g.read r)) e ∙ ap (widthened width) (behind_refused g.read n p))

      kept_ended : o ≡ done [] → AllKept
      kept_ended e =
          let z : read_circuit s ≡ done (record { width = width; steps = g.read }) =
          is_read ∙ ap (λ r. widthened width (behind_all g.read r)) e ∙ ap (widthened width) (behind_ended g.read) in (
            subst (λ is. Kept s is notes) (sym (ap steps_of z)) g.all,
            λ c h. g.passed ∙ ap (λ r. rows_pass (steps_of r) no_rows) (sym z ∙ h),
          )

    pub kept_all : header_of s ≡ done width → (lines : List ℕ) → read_from left s width (states_of progress uses) at ≡ ending width lines
        → Kept s (steps_of (read_circuit s)) notes × ((c : Static) → read_circuit s ≡ done c → rows ≡ rows_pass c.steps no_rows)
    unfolding ending
    kept_all header lines e = elim (true_or_false (ltb (first_unfinished width lines 0) width)) [
      | inl h ↦ kept_refused header e {n = 13} {p = first_unfinished width lines 0} (rw h)
      | inr h ↦ kept_ended header e (rw h)
    ]

    -- ## A turn

    module _ {newProgress newUses : List ℕ} {k : Sketch} {next : ℕ} (t : Taken s at left width (states_of progress uses) (states_of newProgress newUses) k next) where
      pub noting_below : index < most_instructions
      noting_below = omega (arith, t.allowed)

      pub noting_near : next < deciding_bytes
      noting_near = omega (arith, g.near, step_short s at left t.stands, noting_below)

      pub noting_on : {newNotes : Notes} {newRows : List ℕ} → newNotes.all ≡ set notes.all index (note_sketched k) → newNotes.places ≡ set notes.places (index + 1) next
          → newRows ≡ rows_sketched k rows → Noting newProgress newUses next (index + 1) newNotes newRows
      noting_on {newNotes} all-are places-are rows_are =
          let it = t.instruction in
          let low = noting_below in
          let less : left - 1 ≡ most_instructions - (index + 1) = omega arith in
          record {
            read = g.read ++ it ∷ [];
            many = length-append g.read (it ∷ []) ∙ omega (arith, g.many);
            few = omega arith;
            whole = g.whole ∙ ap (behind_all g.read) t.goes_on ∙ sym (behind_last g.read it _)
                ∙ ap (λ n. behind_all (g.read ++ it ∷ []) (read_from n s width (states_of newProgress newUses) next)) less;
            all = record {
              each = λ j i e. elim (last_or_before g.read it j e) [
                | inl q ↦ subst (λ z. Noted s newNotes z i) (sym (q.0 ∙ g.many)) (subst (Noted s newNotes index) (sym q.1) new_noted)
                | inr q ↦ old_noted j i (omega (arith, q.0, g.many)) (g.all.each j i q.1)
              ];
            };
            here = after;
            near = omega (arith, g.near, step_short s at left t.stands);
            passed = pass_more g.read it g.passed t.like rows_are;
          }
        where
          after : place_at newNotes (index + 1) ≡ next
          after = ap (λ z. get_or z (index + 1) 0) places-are ∙ get_or-set_same notes.places (index + 1) next 0 (omega (arith, noting_below, notes.sized_places))

          new_noted : Noted s newNotes index t.instruction
          new_noted =
              let low = noting_below in
              let stood : place_at newNotes index ≡ at = ap (λ z. get_or z index 0) places-are ∙ get_or-set_other notes.places (index + 1) index next 0 (λ e. omega arith) ∙ g.here in
              record {
                stands = rw (stood, after) t.stands;
                note = ap (λ z. get_or z index (noted form.Reset 0 0)) all-are ∙ get_or-set_same notes.all index _ _ (omega (arith, notes.sized))
                    ∙ ap note_sketched (sym t.like) ∙ note_like t.instruction;
              }

          old_noted : (j : ℕ) (i : Instruction) → j < index → Noted s notes j i → Noted s newNotes j i
          old_noted j i l n = record {
            stands = rw (
              ap (λ z. get_or z j 0) places-are ∙ get_or-set_other notes.places (index + 1) j next 0 (λ e. omega arith),
              ap (λ z. get_or z (j + 1) 0) places-are ∙ get_or-set_other notes.places (index + 1) (j + 1) next 0 (λ e. omega arith),
            ) n.stands;
            note = ap (λ z. get_or z j (noted form.Reset 0 0)) all-are ∙ get_or-set_other notes.all index j _ _ (λ e. omega arith) ∙ n.note;
          }
