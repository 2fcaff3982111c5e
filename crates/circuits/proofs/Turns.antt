-- The reading, one turn at a time: what follows from the next step, judged. Assumes nothing.
use Prim.Native.Nat.{ℕ, zero, suc, ◌+◌, ◌-◌, ◌≤◌, ◌<◌}
use mathlib.Core.Bool.{Bool, true, false}
use mathlib.Core.Path.{◌≡◌, refl, sym, ap, ◌∙◌}
use mathlib.Core.List.{List}
use native.Mathlib.Omega.{arith}
use lib.ListN.{length, get_or}
use lib.Dec.{leb}
use borrow.Author.Tests.{eq-eqb, ne_eqb}
use Rattle.basics.specs.Choice.{pick}
use Rattle.basics.specs.Outcome.{Outcome, done, refused}
use Rattle.basics.proofs.Outcomes.{not_refused}
use Rattle.records.specs.declared.instructions.Instruction.{Instruction}
use Rattle.circuits.specs.Limits.{most_instructions, header_length}
use Rattle.circuits.specs.Judging.{Verdict, passed, fault, judge_of, advance_of, fresh_states, finished, fresh, first_unfinished}
use Rattle.circuits.specs.Stepping.{Next, step, end, step_at}
use Rattle.circuits.specs.Reading.{header_of, judged, checked, checked_at, ending, before, read_from, counted, widthened, summary, circuit_of, read_circuit}
use Rattle.circuits.specs.declared.states.States.{States}

-- a step is not the end
pub not_over : {i : Instruction} {next : ℕ} → ◌≡◌ {A = Outcome Next} (done end) (done (step i next)) → ⊥
not_over {i} {next} e = let z : ◌≡◌ {A = ℕ} 0 1 = cc in omega arith

-- The next step

module _ (s : List ℕ) (at : ℕ) where
  -- a step is taken only where one more is allowed
  pub some_left : (left : ℕ) {i : Instruction} {next : ℕ} → step_at s at left ≡ done (step i next) → 0 < left
  unfolding step_at
  some_left zero e = absurd (go (leb (length s) at) e)
    where
      go : (b : Bool) {i : Instruction} {next : ℕ} → pick b (done end) (refused 5 at) ≡ done (step i next) → ⊥
      go true e = not_over e
      go false e = not_refused e
  some_left (suc left) e = omega arith

  module _ (left width : ℕ) (c : States) where
    -- a step that passed was there, and was judged
    pub checked_step : {i : Instruction} {next : ℕ} → checked_at s at left width c ≡ done (step i next)
        → (step_at s at left ≡ done (step i next)) × (judge_of width width c i ≡ passed)
    unfolding checked_at
    checked_step e = go (step_at s at left) e
      where
        same : (j : Instruction) (next : ℕ) (v : Verdict) {i : Instruction} {n : ℕ} → judge_of width width c j ≡ v → judged at j next v ≡ done (step i n)
            → (◌≡◌ {A = Outcome Next} (done (step j next)) (done (step i n))) × (judge_of width width c i ≡ passed)
        same j next passed {i} {n} z e =
            let y : j ≡ i = cc in
            (e, ap (judge_of width width c) (sym y) ∙ z)
        same j next (fault number operand) z e = absurd (not_refused e)

        go : (o : Outcome Next) {i : Instruction} {next : ℕ} → checked at width c o ≡ done (step i next)
            → (o ≡ done (step i next)) × (judge_of width width c i ≡ passed)
        go (done (step j next)) e = same j next (judge_of width width c j) refl e
        go (done end) e = absurd (not_over e)
        go (refused n p) e = absurd (not_refused e)

    -- and a step that is there and passes is taken
    pub step_checked : {i : Instruction} {next : ℕ} → step_at s at left ≡ done (step i next) → judge_of width width c i ≡ passed
        → checked_at s at left width c ≡ done (step i next)
    unfolding checked_at
    step_checked e j = rw (e, j)

-- The reading from a place on

module _ (s : List ℕ) (width : ℕ) (c : States) (at : ℕ) where
  pub reads_end : (left : ℕ) → checked_at s at left width c ≡ done end → read_from left s width c at ≡ ending width c.lines
  unfolding read_from
  reads_end zero e = rw e
  reads_end (suc left) e = rw e

  pub reads_refused : (left : ℕ) {n p : ℕ} → checked_at s at left width c ≡ refused n p → read_from left s width c at ≡ refused n p
  unfolding read_from
  reads_refused zero e = rw e
  reads_refused (suc left) e = rw e

  pub reads_step : (left : ℕ) {i : Instruction} {next : ℕ} → checked_at s at (suc left) width c ≡ done (step i next)
      → read_from (suc left) s width c at ≡ before i (read_from left s width (advance_of c i) next)
  unfolding read_from
  reads_step left e = rw e

-- an instruction counts one
pub counted-before : (width n : ℕ) (i : Instruction) (o : Outcome (List Instruction)) → counted width n (before i o) ≡ counted width (n + 1) o
counted-before width n i (done is) =
    let e : n + suc (length is) ≡ n + 1 + length is = omega arith in
    ap (λ (m : ℕ). done (circuit_of width m)) e
counted-before width n i (refused number place) = refl

-- The search for an unfinished line

module _ (width : ℕ) (states : List ℕ) (i : ℕ) where
  pub unfinished_on : i < width → get_or states i fresh ≡ finished
      → first_unfinished (width - i) states i ≡ first_unfinished (width - (i + 1)) states (i + 1)
  unfolding first_unfinished
  unfinished_on h e =
      let z : width - i ≡ suc (width - (i + 1)) = omega arith in
      ap (λ (n : ℕ). first_unfinished n states i) z ∙ rw (eq-eqb (get_or states i fresh) finished e)

  pub unfinished_here : i < width → (get_or states i fresh ≡ finished → ⊥) → first_unfinished (width - i) states i ≡ i
  unfolding first_unfinished
  unfinished_here h e =
      let z : width - i ≡ suc (width - (i + 1)) = omega arith in
      ap (λ (n : ℕ). first_unfinished n states i) z ∙ rw (ne_eqb (get_or states i fresh) finished e)

  pub unfinished_none : width ≤ i → first_unfinished (width - i) states i ≡ i
  unfolding first_unfinished
  unfinished_none h = let z : width - i ≡ 0 = omega arith in ap (λ (n : ℕ). first_unfinished n states i) z

-- a step that passed: the reading goes on behind it, with one instruction less allowed
module _ (s : List ℕ) (width : ℕ) (c : States) (at left : ℕ) {i : Instruction} {next : ℕ} (e : checked_at s at left width c ≡ done (step i next)) where
  pub passed_left : 0 < left
  passed_left = some_left s at left (checked_step s at left width c e).0

  pub reads_on : read_from left s width c at ≡ before i (read_from (left - 1) s width (advance_of c i) next)
  reads_on =
      let z : left ≡ suc (left - 1) = omega (arith, passed_left) in
      ap (λ (n : ℕ). read_from n s width c at) z
      ∙ reads_step s width c at (left - 1) (ap (λ (n : ℕ). checked_at s at n width c) (sym z) ∙ e)

-- after the header: the width, and the count of the instructions from none on
pub reads_after : (s : List ℕ) (w : ℕ) → header_of s ≡ done w
    → counted w 0 (read_from most_instructions s w fresh_states header_length) ≡ summary (read_circuit s)
unfolding read_circuit
reads_after s w e = rw e (told (read_from most_instructions s w fresh_states header_length))
  where
    told : (o : Outcome (List Instruction)) → counted w 0 o ≡ summary (widthened w o)
    told (done is) = let z : 0 + length is ≡ length is = omega arith in ap (λ (n : ℕ). done (circuit_of w n)) z
    told (refused n p) = refl

-- What holds at the end, at a refusal and before each instruction that passed holds of every reading.
module _ (s : List ℕ) (width : ℕ) (P : ℕ → States → ℕ → Outcome (List Instruction) → Type 0)
    (at_end : (left : ℕ) (c : States) (at : ℕ) → checked_at s at left width c ≡ done end → P left c at (ending width c.lines))
    (at_refusal : (left : ℕ) (c : States) (at n p : ℕ) → checked_at s at left width c ≡ refused n p → P left c at (refused n p))
    (at_step : (left : ℕ) (c : States) (at : ℕ) (i : Instruction) (next : ℕ) (o : Outcome (List Instruction))
    → checked_at s at (suc left) width c ≡ done (step i next) → P left (advance_of c i) next o → P (suc left) c at (before i o)) where
  turn : (left : ℕ) (c : States) (at : ℕ) (o : Outcome Next) → checked_at s at left width c ≡ o
      → ((i : Instruction) (next : ℕ) → checked_at s at left width c ≡ done (step i next) → P left c at (read_from left s width c at)) → P left c at (read_from left s width c at)
  turn left c at (done end) e go = rw (reads_end s width c at left e) (at_end left c at e)
  turn left c at (refused n p) e go = rw (reads_refused s width c at left e) (at_refusal left c at n p e)
  turn left c at (done (step i next)) e go = go i next e

  pub by_turns : (left : ℕ) (c : States) (at : ℕ) → P left c at (read_from left s width c at)
  by_turns zero c at = turn zero c at (checked_at s at zero width c) refl (λ i next e. absurd (omega (arith, passed_left s width c at zero e)))
  by_turns (suc left) c at =
      turn (suc left) c at (checked_at s at (suc left) width c) refl
      (λ i next e. rw (reads_step s width c at left e) (at_step left c at i next _ e (by_turns left (advance_of c i) next)))
