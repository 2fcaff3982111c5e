-- `read_circuit s` is a circuit exactly when s is its bytes and it passes every check. Both ways by the turns of the reading.
-- Assumes nothing.
use Prim.Native.Nat.{ℕ, suc, ◌≤◌}
use mathlib.Core.Bool.{Bool, true, false}
use mathlib.Core.Path.{◌≡◌, refl, sym, ap, subst, ◌∙◌}
use mathlib.Core.Logic.{◌↔◌}
use mathlib.Core.List.{List, [], ◌∷◌, ◌++◌}
use native.Mathlib.Omega.{arith}
use lib.ListN.{length, get_or, drop}
use lib.Dec.{ltb, eqb}
use borrow.Author.Tests.{ltb-false, le-ltb, eqb-false, ne_eqb}
use Rattle.basics.specs.Choice.{pick}
use Rattle.basics.specs.Outcome.{Outcome, done, refused}
use Rattle.records.specs.Kinds.{shape_of}
use Rattle.records.specs.Bytes.{record_bytes}
use Rattle.records.specs.Records.{Standing, stands, over, record_at}
use Rattle.records.specs.declared.instructions.Instruction.{Instruction}
use Rattle.records.specs.declared.instructions.Record.TheVariants.{StaticWidth, DynamicWidth, Step, Reuse}
use Rattle.records.proofs.RoundTrip.{round_trip, rest_behind, back_length, reads_back}
use Rattle.circuits.specs.Limits.{most_wires, most_instructions, header_length}
use Rattle.circuits.specs.Judging.{Verdict, passed, fault, judge_of, advance_of, fresh_states, first_unfinished}
use Rattle.circuits.specs.Stepping.{Next, step, end, step_at, Steps, ended, more}
use Rattle.circuits.specs.Reading.{Static, header_of, headed, width_read, static_kind, judged, checked, checked_at, ending, before, read_from, widthened, after_header, read_circuit}
use Rattle.circuits.specs.Validity.{steps_bytes, Passes, none, also, Valid}
use Rattle.circuits.specs.declared.states.States.{States}
use Rattle.basics.proofs.Outcomes.{not_refused}
use Rattle.circuits.proofs.Turns.{not_over, checked_step, step_checked, reads_end, reads_step, by_turns}
use Rattle.circuits.proofs.Steps.{step_end, end_step}
use Rattle.circuits.proofs.Walks.{steps_bytes_lem, bytes_steps}

module _ (s : List ℕ) (width : ℕ) where
  -- From a reading to what stands

  ended_passes : (c : States) {is : List Instruction} → ending width c.lines ≡ done is → (is ≡ []) × Passes width c is
  unfolding ending
  ended_passes c e = go (ltb (first_unfinished width c.lines 0) width) refl e
    where
      go : (b : Bool) {is : List Instruction} → ltb (first_unfinished width c.lines 0) width ≡ b
          → pick b (refused 13 (first_unfinished width c.lines 0)) (done []) ≡ done is → (is ≡ []) × Passes width c is
      go true t e = absurd (not_refused e)
      go false {is} t e = let z : [] ≡ is = cc in (sym z, subst (Passes width c) z (none (ltb-false _ _ t)))

  pub checked_end : (at left : ℕ) (c : States) → checked_at s at left width c ≡ done end → step_at s at left ≡ done end
  unfolding checked_at
  checked_end at left c e = go (step_at s at left) e
    where
      judge : (i : Instruction) (next : ℕ) (v : Verdict) → judged at i next v ≡ done end → ⊥
      judge i next passed e = not_over (sym e)
      judge i next (fault n o) e = not_refused e

      go : (o : Outcome Next) → checked at width c o ≡ done end → o ≡ done end
      go (done (step i next)) e = absurd (judge i next (judge_of width width c i) e)
      go (done end) e = refl
      go (refused n p) e = absurd (not_refused e)

  -- the instructions that were read stand there and pass
  abbrev Stand : ℕ → States → ℕ → List Instruction → Type 0
  Stand left c at is = Steps s at left is × Passes width c is

  pub read_stand : (left : ℕ) (c : States) (at : ℕ) {is : List Instruction} → read_from left s width c at ≡ done is → Stand left c at is
  read_stand left c at {is} e = by_turns s width P at_end at_refusal at_step left c at is e
    where
      P : ℕ → States → ℕ → Outcome (List Instruction) → Type 0
      P left c at o = (is : List Instruction) → o ≡ done is → Stand left c at is

      at_end : (left : ℕ) (c : States) (at : ℕ) → checked_at s at left width c ≡ done end → P left c at (ending width c.lines)
      at_end left c at z is e =
          let p = ended_passes c e in
          (subst (Steps s at left) (sym p.0) (ended (step_end s at left (checked_end at left c z))), p.1)

      at_refusal : (left : ℕ) (c : States) (at n p : ℕ) → checked_at s at left width c ≡ refused n p → P left c at (refused n p)
      at_refusal left c at n p z is e = absurd (not_refused e)

      at_step : (left : ℕ) (c : States) (at : ℕ) (i : Instruction) (next : ℕ) (o : Outcome (List Instruction))
          → checked_at s at (suc left) width c ≡ done (step i next) → P left (advance_of c i) next o → P (suc left) c at (before i o)
      at_step left c at i next (refused n p) z behind is e = absurd (not_refused e)
      at_step left c at i next (done js) z behind is e =
          let p = checked_step s at (suc left) width c z in
          let g = behind js refl in
          let y : i ∷ js ≡ is = cc in
          subst (Stand (suc left) c at) y (more p.0 g.0, also p.1 g.1)

  -- From what stands to a reading

  pub stand_read : {left : ℕ} {c : States} {at : ℕ} {is : List Instruction} → Steps s at left is → Passes width c is → read_from left s width c at ≡ done is
  unfolding checked_at ending
  stand_read {left} {c} {at} (ended h) (none p) = reads_end s width c at left (rw (end_step s at left h)) ∙ rw (le-ltb _ _ p)
  stand_read {c = c} (more {at = at} {left = left} {i = i} z w) (also j p) =
      reads_step s width c at left (step_checked s at (suc left) width c z j) ∙ ap (before i) (stand_read w p)

-- The header

width_told : (v w : ℕ) → width_read v ≡ done w → (v ≡ w) × (1 ≤ w) × (w ≤ most_wires)
unfolding width_read
width_told v w e = go (eqb v 0) (ltb most_wires v) refl refl e
  where
    go : (a b : Bool) → eqb v 0 ≡ a → ltb most_wires v ≡ b → pick a (refused 3 0) (pick b (refused 3 0) (done v)) ≡ done w → (v ≡ w) × (1 ≤ w) × (w ≤ most_wires)
    go true b p q e = absurd (not_refused e)
    go false true p q e = absurd (not_refused e)
    go false false p q e =
        let z : v ≡ w = cc in
        let some : (v ≡ 0 → ⊥) = eqb-false v 0 p in
        let most = ltb-false most_wires v q in
        (z, omega (arith, some), omega arith)

module _ (s : List ℕ) where
  -- a header that was read is the width record
  pub record Headed (w : ℕ) : Type 0 where
    pub bytes : s ≡ record_bytes (StaticWidth w) ++ drop header_length s
    pub wide : 1 ≤ w
    pub narrow : w ≤ most_wires

  pub header_told : {w : ℕ} → header_of s ≡ done w → Headed w
  unfolding header_of
  header_told e = go (eqb (length s) 0) (static_kind (get_or s 0 0)) e
    where
      answer : (o : Outcome Standing) {w : ℕ} → record_at s 0 ≡ o → headed o ≡ done w → Headed w
      answer (done (stands (StaticWidth v) next)) {w} z e =
          let t = width_told v w e in
          let b = round_trip s 0 z in
          let n : next ≡ header_length = sym (back_length s 0 b) in
          record {
            bytes = rest_behind s 0 b ∙ ap (λ (m : ℕ). 0x01 ∷ v ∷ drop m s) n ∙ ap (λ (x : ℕ). 0x01 ∷ x ∷ drop header_length s) t.0;
            wide = t.1;
            narrow = t.2;
          }
      answer (done (stands (DynamicWidth q b) next)) z e = absurd (not_refused e)
      answer (done (stands (Step i) next)) z e = absurd (not_refused e)
      answer (done (stands (Reuse l t) next)) z e = absurd (not_refused e)
      answer (done over) z e = absurd (not_refused e)
      answer (refused n p) z e = absurd (not_refused e)

      go : (a b : Bool) {w : ℕ} → pick a (refused 1 0) (pick b (headed (record_at s 0)) (refused 1 0)) ≡ done w → Headed w
      go true b e = absurd (not_refused e)
      go false true e = answer (record_at s 0) refl e
      go false false e = absurd (not_refused e)

  told_header : (w : ℕ) (rest : List ℕ) → s ≡ record_bytes (StaticWidth w) ++ rest → 1 ≤ w → w ≤ most_wires → header_of s ≡ done w
  unfolding header_of width_read shape_of
  told_header w rest e wide narrow =
      rw (
        ne_eqb (length s) 0 (λ z. omega (arith, ap length e)),
        ap (λ (l : List ℕ). static_kind (get_or l 0 0)) e,
        reads_back s 0 (StaticWidth w) rest e refl,
        ne_eqb w 0 (λ z. omega arith),
        le-ltb most_wires w narrow,
      )

-- The theorem

pub read_valid : (s : List ℕ) {c : Static} → read_circuit s ≡ done c → Valid s c
unfolding read_circuit
read_valid s e = go (header_of s) refl e
  where
    steps : (w : ℕ) → header_of s ≡ done w → (o : Outcome (List Instruction)) → read_from most_instructions s w fresh_states header_length ≡ o
        → {c : Static} → widthened w o ≡ done c → Valid s c
    steps w z (done is) r {c} e =
        let h = header_told s z in
        let g = read_stand s w most_instructions fresh_states header_length r in
        let b = steps_bytes_lem s g.0 in
        let y : record { width = w; steps = is } ≡ c = cc in
        subst (Valid s) y (record {
          bytes = h.bytes ∙ ap (λ (l : List ℕ). 0x01 ∷ w ∷ l) b.bytes;
          wide = h.wide;
          narrow = h.narrow;
          few = b.few;
          kinds = b.kinds;
          passes = g.1;
        })
    steps w z (refused n p) r e = absurd (not_refused e)

    go : (o : Outcome ℕ) → header_of s ≡ o → {c : Static} → after_header s o ≡ done c → Valid s c
    go (done w) z e = steps w z (read_from most_instructions s w fresh_states header_length) refl e
    go (refused n p) z e = absurd (not_refused e)

pub valid_read : (s : List ℕ) (c : Static) → Valid s c → read_circuit s ≡ done c
unfolding read_circuit
valid_read s c v =
    let rest : drop header_length s ≡ steps_bytes c.steps = ap (drop header_length) v.bytes in
    rw (
      told_header s c.width (steps_bytes c.steps) v.bytes v.wide v.narrow,
      stand_read s c.width (bytes_steps s header_length most_instructions c.steps rest v.few v.kinds) v.passes,
    )

-- a byte string is read as a circuit exactly when it is a valid one
pub valid_exactly : (s : List ℕ) (c : Static) → (read_circuit s ≡ done c) ↔ Valid s c
valid_exactly s c = (λ e. read_valid s e, λ v. valid_read s c v)
