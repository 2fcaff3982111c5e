-- How far a reading looks, and that the first bytes decide it.
-- With `left` instructions still allowed the reading looks at most so many longest records further. Assumes nothing.
use Prim.Native.Nat.{ℕ, zero, suc, ◌+◌, ◌*◌, ◌≤◌, ◌<◌}
use mathlib.Core.Bool.{Bool, true, false}
use mathlib.Core.Path.{◌≡◌, refl, ap, ◌∙◌}
use mathlib.Core.List.{List}
use native.Mathlib.Omega.{arith}
use native.Mathlib.Nat.{suc-mul}
use lib.ListN.{length, take}
use lib.Seq.{get_or-take, length-take-le, take_all}
use lib.Dec.{ltb}
use borrow.Author.Tests.{lt-leb, ltb-true, ltb-false, ne_eqb}
use Rattle.basics.specs.Outcome.{Outcome, done, refused}
use Rattle.records.specs.Bytes.{longest_record}
use Rattle.records.specs.declared.instructions.Instruction.{Instruction}
use Rattle.records.specs.declared.instructions.Record.TheVariants.{Step}
use Rattle.records.proofs.RoundTrip.{round_trip, back_length}
use Rattle.records.proofs.Prefixes.{record_short, first_bytes_decide}
use Rattle.circuits.specs.Limits.{most_instructions, header_length, deciding_bytes}
use Rattle.circuits.specs.Judging.{advance_of, fresh_states}
use Rattle.circuits.specs.Stepping.{step, end, instruction_at, step_at}
use Rattle.circuits.specs.Reading.{header_of, checked, checked_at, ending, before, read_from, widthened, after_header, read_circuit}
use Rattle.circuits.specs.declared.states.States.{States}
use Rattle.circuits.proofs.Turns.{checked_step, reads_end, reads_refused, reads_step, by_turns}
use Rattle.circuits.proofs.Steps.{step_record}

-- so many bytes may be looked at from a place on
abbrev reach_of : ℕ → ℕ → ℕ
reach_of left at = at + left * longest_record

-- a step's record is no longer than the longest
pub step_short : (s : List ℕ) (at left : ℕ) {i : Instruction} {next : ℕ} → step_at s at left ≡ done (step i next) → next ≤ at + longest_record
step_short s at left {i} {next} e =
    let b = round_trip s at (step_record s at left e) in
    omega (arith, back_length s at b, record_short (Step i))

-- The first bytes decide

module _ (s : List ℕ) (n : ℕ) (long : n < length s) where
  size : length (take n s) ≡ n
  size = length-take-le n s (omega arith)

  step_same : (at left : ℕ) → reach_of left at < n → step_at (take n s) at left ≡ step_at s at left
  unfolding step_at instruction_at
  step_same at zero h =
      let l = size in
      rw (lt-leb (length (take n s)) at (omega arith), lt-leb (length s) at (omega arith))
  step_same at (suc left) h =
      let l = size in
      let m = suc-mul left longest_record in
      rw (
        lt-leb (length (take n s)) at (omega arith),
        lt-leb (length s) at (omega arith),
        get_or-take n s at 0 (omega arith),
        first_bytes_decide s n at (omega arith),
      )

  checked_same : (width : ℕ) (c : States) (at left : ℕ) → reach_of left at < n → checked_at (take n s) at left width c ≡ checked_at s at left width c
  unfolding checked_at
  checked_same width c at left h = ap (checked at width c) (step_same at left h)

  read_same : (width left : ℕ) (c : States) (at : ℕ) → reach_of left at < n → read_from left (take n s) width c at ≡ read_from left s width c at
  read_same width left c at = by_turns s width P at_end at_refusal at_step left c at
    where
      P : ℕ → States → ℕ → Outcome (List Instruction) → Type 0
      P left c at o = reach_of left at < n → read_from left (take n s) width c at ≡ o

      at_end : (left : ℕ) (c : States) (at : ℕ) → checked_at s at left width c ≡ done end → P left c at (ending width c.lines)
      at_end left c at e h = reads_end (take n s) width c at left (checked_same width c at left h ∙ e)

      at_refusal : (left : ℕ) (c : States) (at m p : ℕ) → checked_at s at left width c ≡ refused m p → P left c at (refused m p)
      at_refusal left c at m p e h = reads_refused (take n s) width c at left (checked_same width c at left h ∙ e)

      at_step : (left : ℕ) (c : States) (at : ℕ) (i : Instruction) (next : ℕ) (o : Outcome (List Instruction))
          → checked_at s at (suc left) width c ≡ done (step i next) → P left (advance_of c i) next o → P (suc left) c at (before i o)
      at_step left c at i next o e behind h =
          let short = step_short s at (suc left) (checked_step s at (suc left) width c e).0 in
          reads_step (take n s) width c at left (checked_same width c at (suc left) h ∙ e)
          ∙ ap (before i) (behind (omega (arith, suc-mul left longest_record)))

  header_same : longest_record ≤ n → header_of (take n s) ≡ header_of s
  unfolding header_of
  header_same h =
      let l = size in
      rw (
        ne_eqb (length (take n s)) 0 (λ z. omega arith),
        ne_eqb (length s) 0 (λ z. omega arith),
        get_or-take n s 0 0 (omega arith),
        first_bytes_decide s n 0 (omega arith),
      )

  longer_same : deciding_bytes ≤ n → read_circuit (take n s) ≡ read_circuit s
  unfolding read_circuit
  longer_same h = ap (after_header (take n s)) (header_same (omega arith)) ∙ go (header_of s)
    where
      go : (o : Outcome ℕ) → after_header (take n s) o ≡ after_header s o
      go (done w) = ap (widthened w) (read_same w most_instructions fresh_states header_length (omega arith))
      go (refused m p) = refl

-- reading the first bytes of a longer input gives the answer of the whole
pub first_bytes_of_circuit : (s : List ℕ) (n : ℕ) → deciding_bytes ≤ n → read_circuit (take n s) ≡ read_circuit s
first_bytes_of_circuit s n h = go (ltb n (length s)) refl
  where
    go : (b : Bool) → ltb n (length s) ≡ b → read_circuit (take n s) ≡ read_circuit s
    go true e = longer_same s n (ltb-true n (length s) e) h
    go false e = ap read_circuit (take_all n s (ltb-false n (length s) e))
