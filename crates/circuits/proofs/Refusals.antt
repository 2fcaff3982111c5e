-- How a reading refuses: each number with its place. By the turns of the reading: the instructions that were read stand from the start on
-- and pass, and behind them the next record is at fault, or the input ends. Assumes nothing.
use Prim.Native.Nat.{ℕ, suc, ◌+◌, ◌-◌, ◌*◌, ◌≤◌, ◌<◌}
use mathlib.Core.Bool.{Bool, true, false}
use mathlib.Core.Path.{◌≡◌, refl, sym, ap, subst, ◌∙◌}
use mathlib.Core.Logic.{◌⊎◌, inl, inr, ◌≢◌}
use mathlib.Core.List.{List, [], ◌∷◌, ◌++◌, append_assoc}
use mathlib.Core.Option.{some}
use Rattle.std.specs.Prelude.{Option, None, Some}
use native.Mathlib.Omega.{arith}
use native.Mathlib.Nat.{suc-mul, mul-le-mul_right}
use lib.ListN.{length, get_or, drop, get_elem?, length-append, length-set, drop_of_length-le, get_or-replicate}
use lib.Dec.{leb, ltb, eqb}
use borrow.Author.Tests.{ltb-true}
use Rattle.basics.specs.Choice.{pick}
use Rattle.basics.specs.Outcome.{Outcome, done, refused}
use Rattle.records.specs.Kinds.{shape_of}
use Rattle.records.specs.declared.kinds.Outline.{Outline}
use Rattle.records.specs.Bytes.{longest_record, instruction_bytes}
use Rattle.records.specs.Records.{Standing, stands, over, record_at, bodied}
use Rattle.records.specs.declared.numbers.Line.{Line}
use Rattle.records.specs.declared.instructions.Instruction.{Instruction}
use Rattle.records.specs.declared.instructions.Instruction.TheVariants.{Reset, Measurement, Gate, AngledGate, TwoLineGate, AngledTwoLineGate}
use Rattle.records.specs.declared.instructions.Record.TheVariants.{StaticWidth, DynamicWidth, Step, Reuse}
use Rattle.records.proofs.Prefixes.{record_short}
use Rattle.records.proofs.RoundTrip.{round_trip, rest_behind, back_length}
use Rattle.circuits.specs.Limits.{most_wires, most_instructions, header_length, deciding_bytes}
use Rattle.circuits.specs.Judging.{Verdict, passed, fault, ◌then◌, faulty, fresh, in_use, finished, used, line_state, bit_state, live, judge_reset, judge_gate, judge_measurement, judge_two, judge_of, advance_of, fresh_states, first_unfinished}
use Rattle.circuits.specs.Stepping.{Next, step, end, kind_allowed, step_of, instruction_at, step_at}
use Rattle.circuits.specs.Reading.{Static, headed, header_of, static_form, shape_static, width_read, judged, checked, checked_at, ending, before, read_from, widthened, after_header, read_circuit}
use Rattle.circuits.specs.Validity.{steps_bytes, KindsFit, Valid}
use Rattle.circuits.specs.Places.{InstructionNumber, Passing, states_behind, Begins, Measured, OfHeader, OfCircuit}
use Rattle.circuits.specs.declared.states.States.{States}
use Rattle.circuits.proofs.Turns.{checked_step, by_turns}
use Rattle.circuits.proofs.Steps.{step_record, step_end}
use Rattle.circuits.proofs.Validity.{checked_end, header_told}
use Rattle.circuits.proofs.Unmeasured.{lower_finished, found_open, finished_behind, open_before, open_unmeasured}

-- Refused outcomes

-- what holds of the number and the place, where an outcome is a refusal
abbrev Refuses : {A : Type 0} → (ℕ → ℕ → Type 0) → Outcome A → Type 0
Refuses R (done a) = Unit {0}
Refuses R (refused n p) = R n p

chosen : {A : Type 0} (R : ℕ → ℕ → Type 0) (b : Bool) (x y : Outcome A) → Refuses R x → Refuses R y → Refuses R (pick b x y)
chosen R true x y p q = p
chosen R false x y p q = q

-- Verdicts

abbrev FaultNumber : ℕ → Type 0
FaultNumber n = (6 ≤ n) × (n ≤ 12)

-- a fault has a number of 6 to 12
record Faults (v : Verdict) : Type 0 where
  numbered : (n o : ℕ) → v ≡ fault n o → FaultNumber n

or_else : {u v : Verdict} → Faults u → Faults v → Faults (◌then◌ u v)
or_else {u} {v} p q = record { numbered = go u p.numbered }
  where
    go : (u : Verdict) → ((n o : ℕ) → u ≡ fault n o → FaultNumber n) → (n o : ℕ) → ◌then◌ u v ≡ fault n o → FaultNumber n
    go passed h n o e = q.numbered n o e
    go (fault m w) h n o e = h n o e

number : (m w : ℕ) (b : Bool) → FaultNumber m → Faults (faulty m w b)
number m w b h = record { numbered = go b }
  where
    go : (b : Bool) (n o : ℕ) → faulty m w b ≡ fault n o → FaultNumber n
    go true n o e = let z : m ≡ n = cc in (omega arith, omega arith)
    go false n o e = let z : ◌≡◌ {A = ℕ} 0 1 = cc in absurd (omega arith)

module _ (lines : ℕ) (c : States) where
  live_faults : (o : ℕ) (l : Line) → Faults (live o c l)
  unfolding live
  live_faults o l =
      or_else (number 10 o (eqb (line_state c l) finished) (omega arith, omega arith)) (number 8 o (eqb (line_state c l) fresh) (omega arith, omega arith))

  gate_faults : (l : Line) → Faults (judge_gate lines c l)
  unfolding judge_gate
  gate_faults l = or_else (number 6 1 (leb lines l.0) (omega arith, omega arith)) (live_faults 1 l)

  two_faults : (l m : Line) → Faults (judge_two lines c l m)
  unfolding judge_two
  two_faults l m =
      or_else (number 6 1 (leb lines l.0) (omega arith, omega arith))
      (or_else (number 6 2 (leb lines m.0) (omega arith, omega arith))
      (or_else (number 7 2 (eqb l.0 m.0) (omega arith, omega arith)) (or_else (live_faults 1 l) (live_faults 2 m))))

  judge_faults : (bits : ℕ) (i : Instruction) → Faults (judge_of lines bits c i)
  unfolding judge_reset judge_measurement
  judge_faults bits (Reset l) =
      or_else (number 6 1 (leb lines l.0) (omega arith, omega arith))
      (or_else (number 10 1 (eqb (line_state c l) finished) (omega arith, omega arith)) (number 9 1 (eqb (line_state c l) in_use) (omega arith, omega arith)))
  judge_faults bits (Measurement l b) =
      or_else (gate_faults l)
      (or_else (number 11 2 (leb bits b.0) (omega arith, omega arith)) (number 12 2 (eqb (bit_state c b) used) (omega arith, omega arith)))
  judge_faults bits (Gate k l) = gate_faults l
  judge_faults bits (AngledGate k l a) = gate_faults l
  judge_faults bits (TwoLineGate k l m) = two_faults l m
  judge_faults bits (AngledTwoLineGate k l m a) = two_faults l m

-- Steps: at their own place

module _ (s : List ℕ) (at : ℕ) where
  abbrev Here : ℕ → ℕ → Type 0
  Here n p = InstructionNumber n × (p ≡ at)

  four : Here 4 at
  four = (inr (omega arith, omega arith), refl)

  record_refuses : Refuses Here (record_at s at)
  unfolding record_at
  record_refuses = chosen Here (leb (length s) at) _ _ tt (known (shape_of (get_or s at 0)))
    where
      known : (o : Option Outline) → Refuses Here (bodied s at o)
      known None = four
      known (Some h) = chosen Here (leb (length s - at) h.body) _ _ (inl refl, refl) tt

  step_refuses : (left : ℕ) → Refuses Here (step_at s at left)
  unfolding step_at instruction_at
  step_refuses left =
      chosen Here (leb (length s) at) _ _ tt
      (chosen Here (eqb left 0) _ _ (inr (omega arith, omega arith), refl)
      (chosen Here (kind_allowed (get_or s at 0)) _ _ (stepped (record_at s at) record_refuses) four))
    where
      stepped : (o : Outcome Standing) → Refuses Here o → Refuses Here (step_of at o)
      stepped (done (stands (Step i) next)) h = tt
      stepped (done (stands (StaticWidth w) next)) h = four
      stepped (done (stands (DynamicWidth q b) next)) h = four
      stepped (done (stands (Reuse l t) next)) h = four
      stepped (done over) h = four
      stepped (refused n p) h = h

  checked_refuses : (left width : ℕ) (c : States) → Refuses Here (checked_at s at left width c)
  unfolding checked_at
  checked_refuses left width c = go (step_at s at left) (step_refuses left)
    where
      verdict : (i : Instruction) (next : ℕ) (v : Verdict) → Faults v → Refuses Here (judged at i next v)
      verdict i next passed h = tt
      verdict i next (fault n o) h = let f = h.numbered n o refl in (inr (omega (arith, f.0), f.1), refl)

      go : (o : Outcome Next) → Refuses Here o → Refuses Here (checked at width c o)
      go (done (step i next)) h = verdict i next (judge_of width width c i) (judge_faults width c width i)
      go (done end) h = tt
      go (refused n p) h = h

-- The header

header_refuses : (s : List ℕ) → Refuses OfHeader (header_of s)
unfolding header_of width_read record_at
header_refuses s =
    chosen OfHeader (eqb (length s) 0) _ _ one
    (known (shape_of (get_or s 0 0)))
  where
    one : OfHeader 1 0
    one = record { least = omega arith; most = omega arith; first = refl }

    two : OfHeader 2 0
    two = record { least = omega arith; most = omega arith; first = refl }

    three : OfHeader 3 0
    three = record { least = omega arith; most = omega arith; first = refl }

    answer : (o : Outcome Standing) → Refuses OfHeader o → Refuses OfHeader (headed o)
    answer (done (stands (StaticWidth w) next)) h = chosen OfHeader (eqb w 0) _ _ three (chosen OfHeader (ltb most_wires w) _ _ three tt)
    answer (done (stands (DynamicWidth q b) next)) h = one
    answer (done (stands (Step i) next)) h = one
    answer (done (stands (Reuse l t) next)) h = one
    answer (done over) h = one
    answer (refused n p) h = h

    known : (o : Option Outline) → Refuses OfHeader (pick (shape_static o) (headed (pick (leb (length s) 0) (done over) (bodied s 0 o))) (refused 1 0))
    known None = one
    known (Some h) =
        chosen OfHeader (static_form h.form) _ _
        (answer (pick (leb (length s) 0) (done over) (bodied s 0 (Some h))) (chosen OfHeader (leb (length s) 0) _ _ tt (chosen OfHeader (leb (length s - 0) h.body) _ _ two tt)))
        one

-- The reading

module _ (s : List ℕ) (width : ℕ) (narrow : width ≤ most_wires) where
  -- the lowest line that is not measured, where the states say what came before
  record Lowest (c : States) (is : List Instruction) (p : ℕ) : Type 0 where
    low : p < width
    not_finished : get_or c.lines p fresh ≢ finished
    not_measured : ¬ Measured is p
    lower : (x : ℕ) → x < p → (get_or c.lines x fresh ≡ finished) ⊎ Measured is x

  -- the instruction behind those that were read is at fault
  record AtFault (left : ℕ) (c : States) (at n p : ℕ) (is : List Instruction) : Type 0 where
    numbered : InstructionNumber n
    place : p ≡ at + length (steps_bytes is)
    fault : checked_at s p (left - length is) width (states_behind c is) ≡ refused n p

  -- the instructions that were read from a place on, and why the reading stopped behind them
  record Stopped (left : ℕ) (c : States) (at n p : ℕ) : Type 0 where
    steps : List Instruction
    rest : List ℕ
    bytes : drop at s ≡ steps_bytes steps ++ rest
    few : length steps ≤ left
    kinds : KindsFit steps
    passing : Passing width c steps
    why : AtFault left c at n p steps ⊎ ((n ≡ 13) × (rest ≡ []) × Lowest c steps p)

  none_there : (k : ℕ) {i : Instruction} → get_elem? [] k ≡ some i → ⊥
  none_there k {i} e = let z : ◌≡◌ {A = ℕ} 0 1 = cc in omega arith

  -- one instruction more
  lowest_before : (c : States) (i : Instruction) (is : List Instruction) (p : ℕ) → length c.lines ≡ most_wires → judge_of width width c i ≡ passed
      → Lowest (advance_of c i) is p → Lowest c (i ∷ is) p
  lowest_before c i is p many j l =
      let low = l.low in
      record {
        low = low;
        not_finished = open_before p c is (omega arith) width i j l.not_finished;
        not_measured = open_unmeasured p c is (omega arith) i l.not_finished l.not_measured;
        lower = λ x h. elim (l.lower x h) [
          | inl f ↦ finished_behind x c is (omega arith) i f
          | inr m ↦ inr (suc m.0, m.1, m.2)
        ];
      }

  still_many : (c : States) (i : Instruction) → length c.lines ≡ most_wires → length (advance_of c i).lines ≡ most_wires
  still_many c (Reset l) e = length-set c.lines l.0 in_use ∙ e
  still_many c (Measurement l b) e = length-set c.lines l.0 finished ∙ e
  still_many c (Gate k l) e = e
  still_many c (AngledGate k l a) e = e
  still_many c (TwoLineGate k l m) e = e
  still_many c (AngledTwoLineGate k l m a) e = e

  -- at the end of the input
  ending_stopped : (left : ℕ) (c : States) (at : ℕ) → length s ≤ at → Refuses (Stopped left c at) (ending width c.lines)
  unfolding ending
  ending_stopped left c at past = go (ltb (first_unfinished width c.lines 0) width) refl
    where
      go : (b : Bool) → ltb (first_unfinished width c.lines 0) width ≡ b
          → Refuses (Stopped left c at) (pick {A = Outcome (List Instruction)} b (refused 13 (first_unfinished width c.lines 0)) (done []))
      go false t = tt
      go true t =
          let low = ltb-true (first_unfinished width c.lines 0) width t in
          record {
            steps = [];
            rest = [];
            bytes = drop_of_length-le s past;
            few = omega arith;
            kinds = tt;
            passing = tt;
            why = inr (
              refl,
              refl,
              record {
                low = low;
                not_finished = found_open width c.lines 0 (omega arith);
                not_measured = λ m. none_there m.0 m.2;
                lower = λ x h. inl (lower_finished width c.lines 0 x (omega arith) h);
              },
            );
          }

  reading_stopped : (left : ℕ) (c : States) (at : ℕ) → length c.lines ≡ most_wires → Refuses (Stopped left c at) (read_from left s width c at)
  reading_stopped = by_turns s width P at_end at_refusal at_step
    where
      P : ℕ → States → ℕ → Outcome (List Instruction) → Type 0
      P left c at o = length c.lines ≡ most_wires → Refuses (Stopped left c at) o

      at_end : (left : ℕ) (c : States) (at : ℕ) → checked_at s at left width c ≡ done end → P left c at (ending width c.lines)
      at_end left c at e many = ending_stopped left c at (step_end s at left (checked_end s width at left c e))

      at_refusal : (left : ℕ) (c : States) (at n p : ℕ) → checked_at s at left width c ≡ refused n p → P left c at (refused n p)
      at_refusal left c at n p e many =
          let h : Refuses {A = Next} (Here s at) (refused n p) = subst (Refuses (Here s at)) e (checked_refuses s at left width c) in
          let whole : left - 0 ≡ left = omega arith in
          record {
            steps = [];
            rest = drop at s;
            bytes = refl;
            few = omega arith;
            kinds = tt;
            passing = tt;
            why = inl (record {
              numbered = h.0;
              place = omega (arith, h.1);
              fault = ap (λ (m : ℕ). checked_at s m (left - 0) width c) h.1 ∙ ap (λ (m : ℕ). checked_at s at m width c) whole ∙ e;
            });
          }

      at_step : (left : ℕ) (c : States) (at : ℕ) (i : Instruction) (next : ℕ) (o : Outcome (List Instruction))
          → checked_at s at (suc left) width c ≡ done (step i next) → P left (advance_of c i) next o → P (suc left) c at (before i o)
      at_step left c at i next (done is) e behind many = tt
      at_step left c at i next (refused n p) e behind many =
          let z = checked_step s at (suc left) width c e in
          let b = round_trip s at (step_record s at (suc left) z.0) in
          let r = behind (still_many c i many) in
          let few : length r.steps ≤ left = r.few in
          let fewer : suc left - suc (length r.steps) ≡ left - length r.steps = omega arith in
          record {
            steps = i ∷ r.steps;
            rest = r.rest;
            bytes = rest_behind s at b ∙ ap (λ (l : List ℕ). instruction_bytes i ++ l) r.bytes ∙ sym (append_assoc (instruction_bytes i) (steps_bytes r.steps) r.rest);
            few = omega arith;
            kinds = (b.fits, r.kinds);
            passing = (z.1, r.passing);
            why = elim r.why [
              | inl w ↦ inl (record {
                numbered = w.numbered;
                place = omega (arith, w.place, back_length s at b, length-append (instruction_bytes i) (steps_bytes r.steps));
                fault = ap (λ (m : ℕ). checked_at s p m width (states_behind (advance_of c i) r.steps)) fewer ∙ w.fault;
              })
              | inr w ↦ inr (w.0, w.1, lowest_before c i r.steps p many z.1 w.2)
            ];
          }

-- THEOREM: a refused circuit has a number of 1 to 13 with its place.
pub refused_place : (s : List ℕ) {n p : ℕ} → read_circuit s ≡ refused n p → OfCircuit s n p
unfolding read_circuit
refused_place s {n} {p} e =
    let h : Refuses {A = Static} (OfCircuit s) (refused n p) = subst (Refuses (OfCircuit s)) e (go (header_of s) refl (header_refuses s)) in
    h
  where
    stopped : (w : ℕ) → header_of s ≡ done w → (n p : ℕ) → (narrow : w ≤ most_wires) → Stopped s w narrow most_instructions fresh_states header_length n p → OfCircuit s n p
    stopped w z n p narrow r =
        let h = header_told s z in
        let begins : Begins s (record { width = w; steps = r.steps }) r.rest = record {
          bytes = h.bytes ∙ ap (λ (l : List ℕ). 0x01 ∷ w ∷ l) r.bytes;
          wide = h.wide;
          narrow = narrow;
          few = r.few;
          kinds = r.kinds;
          passing = r.passing;
        } in
        inr (elim r.why [
          | inl v ↦ inl (record { numbered = v.numbered; before = record { width = w; steps = r.steps }; rest = r.rest; begins = begins; offset = omega (arith, v.place); fault = v.fault })
          | inr v ↦ inr (record {
            is = v.0;
            whole = record { width = w; steps = r.steps };
            begins = subst (Begins s (record { width = w; steps = r.steps })) v.1 begins;
            wire = v.2.low;
            not_measured = v.2.not_measured;
            lowest = λ x h. elim (v.2.lower x h) [ inl f ↦ absurd (let low = v.2.low in omega (arith, f, get_or-replicate most_wires x fresh fresh (omega arith))) | inr m ↦ m ];
          })
        ])

    steps : (w : ℕ) → header_of s ≡ done w → (narrow : w ≤ most_wires) → (o : Outcome (List Instruction)) → Refuses (Stopped s w narrow most_instructions fresh_states header_length) o
        → Refuses (OfCircuit s) (widthened w o)
    steps w z narrow (done is) h = tt
    steps w z narrow (refused m q) h = stopped w z m q narrow h

    go : (o : Outcome ℕ) → header_of s ≡ o → Refuses OfHeader o → Refuses (OfCircuit s) (after_header s o)
    go (done w) z h =
        let narrow = (header_told s z).narrow in
        steps w z narrow (read_from most_instructions s w fresh_states header_length) (reading_stopped s w narrow most_instructions fresh_states header_length refl)
    go (refused m q) z h = inl h

-- How far a place is

steps_short : (is : List Instruction) → length (steps_bytes is) ≤ length is * longest_record
steps_short [] = omega arith
steps_short (i ∷ is) = omega (arith, length-append (instruction_bytes i) (steps_bytes is), record_short (Step i), suc-mul (length is) longest_record, steps_short is)

few_short : (is : List Instruction) → length is ≤ most_instructions → length (steps_bytes is) ≤ most_instructions * longest_record
few_short is few = omega (arith, steps_short is, mul-le-mul_right longest_record few)

-- a refused circuit has a number of 1 to 13, and a place among the first bytes that decide
pub refused_circuit : (s : List ℕ) {n p : ℕ} → read_circuit s ≡ refused n p → ((1 ≤ n) × (n ≤ 13)) × (p < deciding_bytes)
refused_circuit s {n} {p} e = go (refused_place s e)
  where
    go : OfCircuit s n p → ((1 ≤ n) × (n ≤ 13)) × (p < deciding_bytes)
    go (inl h) = ((h.least, omega (arith, h.most)), omega (arith, h.first))
    go (inr (inl h)) =
        let far : p < deciding_bytes = omega (arith, h.offset, few_short h.before.steps h.begins.few) in
        elim h.numbered [ inl z ↦ ((omega arith, omega arith), far) | inr z ↦ ((omega (arith, z.0), omega (arith, z.1)), far) ]
    go (inr (inr h)) = ((omega (arith, h.is), omega (arith, h.is)), omega (arith, h.wire, h.begins.narrow))

-- and a valid circuit is shorter than these
pub valid_short : (s : List ℕ) (c : Static) → Valid s c → length s < deciding_bytes
valid_short s c v = omega (arith, ap length v.bytes, few_short c.steps v.few)
