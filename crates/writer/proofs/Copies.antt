-- An instruction copied with other numbers for its wires: the kind, the numbers, and what stands behind them are the bytes of the renamed
-- instruction. Assumes nothing.
use Prim.Native.Nat.{ℕ, suc, ◌+◌, ◌-◌, ◌≤◌, ◌<◌}
use mathlib.Core.Path.{◌≡◌, refl, sym, ap, subst, ◌∙◌}
use mathlib.Core.Bool.{Bool, true, false}
use mathlib.Core.List.{List, [], ◌∷◌, append-nil}
use native.Mathlib.Omega.{arith}
use lib.ListN.{length, get_or, set, take, drop, length-take, length-drop}
use Rattle.writing.specs.Writing.{Wrote, Placed}
use Rattle.writing.proofs.Remaining.{Remaining, remaining_start, remaining_store, remaining_placed, remaining_end, drop_next}
use Rattle.records.specs.Bytes.{instruction_bytes}
use Rattle.records.proofs.RoundTrip.{Back, round_trip, back_length}
use Rattle.records.specs.declared.instructions.Instruction.{Instruction}
use Rattle.records.specs.declared.instructions.Instruction.TheVariants.{Reset, Measurement, Gate, AngledGate, TwoLineGate, AngledTwoLineGate}
use Rattle.records.specs.declared.instructions.Record.TheVariants.{Step}
use Rattle.circuits.proofs.Steps.{step_record}
use Rattle.writer.specs.Notes.{is_two, form_of, first_wire, second_wire, note_at, first_at, second_at, place_at, Noted}
use Rattle.writer.specs.declared.notes.Notes.{Notes}
use Rattle.writer.specs.Outputs.{renamed, behind}
use Rattle.writer.proofs.Wires.{two_noted, first_noted, second_noted}

-- ## What is stored

behind-length : (s : List ℕ) (from next : ℕ) → next ≤ length s → length (behind s from next) ≡ next - from
behind-length s from next l = simp (length-take, length-drop) (omega arith)

module _ (out s : List ℕ) (to from next : ℕ) (room : to + (next - from) ≤ length out) (inside : next ≤ length s) where
  -- the last of what is stored
  ended : {all mid : List ℕ} {at : ℕ} {rest new : List ℕ} {stop : ℕ} → Remaining out to all mid at rest → Placed mid at rest new stop → Wrote out to all new stop
  ended {all} {mid} {at} {rest} g p = remaining_end refl (remaining_placed [] p (subst (Remaining out to all mid at) (sym (append-nil rest)) g))

  pub copied_one : (q : ℕ) {new : List ℕ} {stop : ℕ} → from + 2 ≤ next
      → Placed (set (set out to (get_or s from 0)) (to + 1) q) (to + 2) (behind s (from + 2) next) new stop
      → Wrote out to (get_or s from 0 ∷ q ∷ behind s (from + 2) next) new stop
  copied_one q {new} {stop} l p =
      let size = behind-length s (from + 2) next inside in
      let at : to + 1 + 1 ≡ to + 2 = omega arith in
      ended
      (subst (λ z. Remaining out to (get_or s from 0 ∷ q ∷ behind s (from + 2) next) (set (set out to (get_or s from 0)) (to + 1) q) z (behind s (from + 2) next)) at
      (remaining_store (remaining_store (remaining_start (omega arith)))))
      p

  pub copied_two : (q r : ℕ) {new : List ℕ} {stop : ℕ} → from + 3 ≤ next
      → Placed (set (set (set out to (get_or s from 0)) (to + 1) q) (to + 2) r) (to + 3) (behind s (from + 3) next) new stop
      → Wrote out to (get_or s from 0 ∷ q ∷ r ∷ behind s (from + 3) next) new stop
  copied_two q r {new} {stop} l p =
      let size = behind-length s (from + 3) next inside in
      let mid : to + 1 + 1 ≡ to + 2 = omega arith in
      let at : to + 2 + 1 ≡ to + 3 = omega arith in
      let all = get_or s from 0 ∷ q ∷ r ∷ behind s (from + 3) next in
      ended
      (subst (λ z. Remaining out to all (set (set (set out to (get_or s from 0)) (to + 1) q) (to + 2) r) z (behind s (from + 3) next)) at
      (remaining_store (subst (λ z. Remaining out to all (set (set out to (get_or s from 0)) (to + 1) q) z (r ∷ behind s (from + 3) next)) mid
      (remaining_store (remaining_store (remaining_start (omega arith)))))))
      p

-- ## What stands in the circuit

behind_first : (s : List ℕ) (from next : ℕ) → from < next → next ≤ length s → behind s from next ≡ get_or s from 0 ∷ behind s (from + 1) next
behind_first s from next l b =
    let n : next - from ≡ suc (next - (from + 1)) = omega arith in
    ap (λ k. take k (drop from s)) n ∙ ap (take (suc (next - (from + 1)))) (drop_next s from (omega arith))

module _ (q : ℕ → ℕ) where
  one_bytes : (i : Instruction) (a b : ℕ) (rest : List ℕ) → is_two (form_of i) ≡ false → instruction_bytes i ≡ a ∷ b ∷ rest
      → instruction_bytes (renamed q i) ≡ a ∷ q (first_wire i) ∷ rest
  one_bytes (Reset l) a b rest n e = cc
  one_bytes (Measurement l m) a b rest n e = cc
  one_bytes (Gate k l) a b rest n e = cc
  one_bytes (AngledGate k l g) a b rest n e = cc
  one_bytes (TwoLineGate k l m) a b rest n e = cc
  one_bytes (AngledTwoLineGate k l m g) a b rest n e = cc

  two_bytes : (i : Instruction) (a b d : ℕ) (rest : List ℕ) → is_two (form_of i) ≡ true → instruction_bytes i ≡ a ∷ b ∷ d ∷ rest
      → instruction_bytes (renamed q i) ≡ a ∷ q (first_wire i) ∷ q (second_wire i) ∷ rest
  two_bytes (Reset l) a b d rest n e = cc
  two_bytes (Measurement l m) a b d rest n e = cc
  two_bytes (Gate k l) a b d rest n e = cc
  two_bytes (AngledGate k l g) a b d rest n e = cc
  two_bytes (TwoLineGate k l m) a b d rest n e = cc
  two_bytes (AngledTwoLineGate k l m g) a b d rest n e = cc

-- as many bytes as before
pub renamed-length : (q : ℕ → ℕ) (i : Instruction) → length (instruction_bytes (renamed q i)) ≡ length (instruction_bytes i)
renamed-length q (Reset l) = refl
renamed-length q (Measurement l b) = refl
renamed-length q (Gate k l) = refl
renamed-length q (AngledGate k l a) = refl
renamed-length q (TwoLineGate k l m) = refl
renamed-length q (AngledTwoLineGate k l m a) = refl

one_long : (i : Instruction) → 2 ≤ length (instruction_bytes i)
one_long (Reset l) = omega arith
one_long (Measurement l m) = omega arith
one_long (Gate k l) = omega arith
one_long (AngledGate k l g) = omega arith
one_long (TwoLineGate k l m) = omega arith
one_long (AngledTwoLineGate k l m g) = omega arith

two_long : (i : Instruction) → is_two (form_of i) ≡ true → 3 ≤ length (instruction_bytes i)
two_long (Reset l) n = cc
two_long (Measurement l m) n = cc
two_long (Gate k l) n = cc
two_long (AngledGate k l g) n = cc
two_long (TwoLineGate k l m) n = omega arith
two_long (AngledTwoLineGate k l m g) n = omega arith

module _ {s : List ℕ} {notes : Notes} {k : ℕ} {i : Instruction} (h : Noted s notes k i) where
  abbrev from : ℕ
  from = place_at notes k

  abbrev next : ℕ
  next = place_at notes (k + 1)

  abbrev first : ℕ
  first = first_at notes k

  abbrev second : ℕ
  second = second_at notes k

  abbrev two : Bool
  two = is_two (note_at notes k).form

  back : Back s from (Step i) next
  back = round_trip s from (step_record s from _ h.stands)

  pub noted_within : next ≤ length s
  noted_within = back.within

  pub noted_length : from + length (instruction_bytes i) ≡ next
  noted_length = back_length s from back

  pub noted_one : from + 2 ≤ next
  noted_one = omega (arith, noted_length, one_long i)

  pub noted_two : two ≡ true → from + 3 ≤ next
  noted_two e = omega (arith, noted_length, two_long i (sym (two_noted h) ∙ e))

  from_one : instruction_bytes i ≡ get_or s from 0 ∷ get_or s (from + 1) 0 ∷ behind s (from + 2) next
  from_one =
      let w = back.within in
      let l = noted_one in
      let at : from + 1 + 1 ≡ from + 2 = omega arith in
      back.same ∙ behind_first s from next (omega arith) w
      ∙ ap (λ z. get_or s from 0 ∷ z) (behind_first s (from + 1) next (omega arith) w ∙ ap (λ z. get_or s (from + 1) 0 ∷ behind s z next) at)

  module _ (q : ℕ → ℕ) where
    renamed_one : two ≡ false → instruction_bytes (renamed q i) ≡ get_or s from 0 ∷ q first ∷ behind s (from + 2) next
    renamed_one n = one_bytes q i _ _ _ (sym (two_noted h) ∙ n) from_one ∙ ap (λ z. get_or s from 0 ∷ q z ∷ behind s (from + 2) next) (sym (first_noted h))

    renamed_two : two ≡ true → instruction_bytes (renamed q i) ≡ get_or s from 0 ∷ q first ∷ q second ∷ behind s (from + 3) next
    renamed_two e =
        let w = back.within in
        let l = noted_two e in
        let at : from + 2 + 1 ≡ from + 3 = omega arith in
        let third = behind_first s (from + 2) next (omega arith) w ∙ ap (λ z. get_or s (from + 2) 0 ∷ behind s z next) at in
        two_bytes q i _ _ _ _ (sym (two_noted h) ∙ e) (from_one ∙ ap (λ z. get_or s from 0 ∷ get_or s (from + 1) 0 ∷ z) third)
        ∙ ap (λ z. get_or s from 0 ∷ q z ∷ q (second_wire i) ∷ behind s (from + 3) next) (sym (first_noted h))
        ∙ ap (λ z. get_or s from 0 ∷ q first ∷ q z ∷ behind s (from + 3) next) (sym (second_noted h))

    module _ {out new : List ℕ} {to stop : ℕ} where
      pub wrote_one : {a : ℕ} → two ≡ false → a ≡ q first → Wrote out to (get_or s from 0 ∷ a ∷ behind s (from + 2) next) new stop
          → Wrote out to (instruction_bytes (renamed q i)) new stop
      wrote_one n e w = subst (λ xs. Wrote out to xs new stop) (ap (λ z. get_or s from 0 ∷ z ∷ behind s (from + 2) next) e ∙ sym (renamed_one n)) w

      pub wrote_two : {a b : ℕ} → two ≡ true → a ≡ q first → b ≡ q second → Wrote out to (get_or s from 0 ∷ a ∷ b ∷ behind s (from + 3) next) new stop
          → Wrote out to (instruction_bytes (renamed q i)) new stop
      wrote_two {a} {b} f e d w = subst (λ xs. Wrote out to xs new stop)
          (ap (λ z. get_or s from 0 ∷ z ∷ b ∷ behind s (from + 3) next) e ∙ ap (λ z. get_or s from 0 ∷ q first ∷ z ∷ behind s (from + 3) next) d ∙ sym (renamed_two f)) w
