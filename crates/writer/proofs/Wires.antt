-- The wires of an instruction, first and second, what is kept of it, and what is kept of the wires after an instruction's were set. Assumes nothing.
use Prim.Native.Nat.{ℕ, zero, suc, ◌<◌}
use mathlib.Core.Path.{◌≡◌, refl, sym, ap, subst, ◌∙◌}
use mathlib.Core.Logic.{inl, inr, ◌⊎◌, ◌≢◌}
use mathlib.Core.Bool.{true, false}
use mathlib.Core.List.{List, [], ◌∷◌}
use mathlib.Core.Option.{some}
use native.Mathlib.Omega.{arith}
use lib.ListN.{length, get_or, get_elem?, set, length-set}
use lib.Seq.{get_or-set_same, get_or-set_other, lt-length-set}
use Rattle.basics.proofs.Tests.{same_or_other, refuted}
use Rattle.orders.specs.Indices.{In}
use Rattle.orders.proofs.Indices.{in_stands, stands_in}
use Rattle.records.specs.declared.instructions.Instruction.{Instruction}
use Rattle.records.specs.declared.instructions.Instruction.TheVariants.{Reset, Measurement, Gate, AngledGate, TwoLineGate, AngledTwoLineGate}
use Rattle.precedence.specs.Lives.{lines_of, touches}
use Rattle.precedence.specs.Precedence.{holds, on}
use Rattle.writer.specs.Notes.{is_reset, is_two, form_of, first_wire, second_wire, note_at, first_at, second_at, Noted}
use Rattle.writer.specs.Heads.{Tabled, headed}
use Rattle.writer.specs.declared.notes.Note.{Note}
use Rattle.writer.specs.declared.notes.Notes.{Notes}
use Rattle.writer.specs.declared.source.Source.{Source}

-- ## The wires of an instruction

pub first_in : (i : Instruction) → In (first_wire i) (lines_of i)
first_in (Reset l) = inl refl
first_in (Measurement l b) = inl refl
first_in (Gate k l) = inl refl
first_in (AngledGate k l a) = inl refl
first_in (TwoLineGate k l m) = inl refl
first_in (AngledTwoLineGate k l m a) = inl refl

pub second_in : (i : Instruction) → In (second_wire i) (lines_of i)
second_in (Reset l) = inl refl
second_in (Measurement l b) = inl refl
second_in (Gate k l) = inl refl
second_in (AngledGate k l a) = inl refl
second_in (TwoLineGate k l m) = inr (inl refl)
second_in (AngledTwoLineGate k l m a) = inr (inl refl)

only : {x a : ℕ} → In x (a ∷ []) → x ≡ a
only (inl e) = e
only (inr k) = absurd k

first_or_second : {x a b : ℕ} → In x (a ∷ b ∷ []) → (x ≡ a) ⊎ (x ≡ b)
first_or_second (inl e) = inl e
first_or_second (inr k) = inr (only k)

pub wire_is : (i : Instruction) {x : ℕ} → In x (lines_of i) → (x ≡ first_wire i) ⊎ (x ≡ second_wire i)
wire_is (Reset l) h = inl (only h)
wire_is (Measurement l b) h = inl (only h)
wire_is (Gate k l) h = inl (only h)
wire_is (AngledGate k l a) h = inl (only h)
wire_is (TwoLineGate k l m) h = first_or_second h
wire_is (AngledTwoLineGate k l m a) h = first_or_second h

-- ## The instruction at an index

-- there is one at each index below their number
pub there : (is : List Instruction) (k : ℕ) → k < length is → (i : Instruction) × (get_elem? is k ≡ some i)
there [] k l = absurd (omega arith)
there (i ∷ is) zero l = (i, refl)
there (i ∷ is) (suc k) l = there is k (omega arith)

module _ (is : List Instruction) (k : ℕ) {i : Instruction} (e : get_elem? is k ≡ some i) where
  pub wire_on : (x : ℕ) → In x (lines_of i) → on is x k ≡ true
  wire_on x h = ap (holds (touches x)) e ∙ in_stands x (lines_of i) h

  pub on_wire : (x : ℕ) → on is x k ≡ true → (x ≡ first_wire i) ⊎ (x ≡ second_wire i)
  on_wire x o = wire_is i (stands_in x (lines_of i) (sym (ap (holds (touches x)) e) ∙ o))

  pub wire_off : (x : ℕ) → x ≢ first_wire i → x ≢ second_wire i → on is x k ≡ false
  wire_off x f s = refuted _ (λ o. elim (on_wire x o) [ inl q ↦ f q | inr q ↦ s q ])

-- ## What is kept of an instruction

module _ {is : List Instruction} {s : Source} (tab : Tabled is s) (k : ℕ) (i : Instruction) (e : get_elem? is k ≡ some i) where
  pub first_tabled : first_at s.notes.now k ≡ first_wire i
  first_tabled = ap (λ (z : Note). z.first.0) (tab.note k i e)

  pub second_tabled : second_at s.notes.now k ≡ second_wire i
  second_tabled = ap (λ (z : Note). z.second.0) (tab.note k i e)

  pub reset_tabled : is_reset (note_at s.notes.now k).form ≡ is_reset (form_of i)
  reset_tabled = ap (λ (z : Note). is_reset z.form) (tab.note k i e)

module _ {s : List ℕ} {notes : Notes} {k : ℕ} {i : Instruction} (n : Noted s notes k i) where
  pub first_noted : first_at notes k ≡ first_wire i
  first_noted = ap (λ (z : Note). z.first.0) n.note

  pub second_noted : second_at notes k ≡ second_wire i
  second_noted = ap (λ (z : Note). z.second.0) n.note

  pub two_noted : is_two (note_at notes k).form ≡ is_two (form_of i)
  two_noted = ap (λ (z : Note). is_two z.form) n.note

  pub reset_noted : is_reset (note_at notes k).form ≡ is_reset (form_of i)
  reset_noted = ap (λ (z : Note). is_reset z.form) n.note

-- ## What is kept of the wires

pub headed-length : (a b n m : ℕ) (kept : List ℕ) → length (headed a b n m kept) ≡ length kept
headed-length a b n m kept = length-set (set kept a n) b m ∙ length-set kept a n

-- what holds of the wires set with what they are set to, and of the others with what they had, holds of each wire
pub headed_each : (P : ℕ → ℕ → Type 0) (a b n m : ℕ) (kept : List ℕ) → a < length kept → b < length kept → P a n → P b m
    → (x : ℕ) → (x ≢ a → x ≢ b → P x (get_or kept x 0)) → P x (get_or (headed a b n m kept) x 0)
headed_each P a b n m kept la lb p q x r = elim (same_or_other x b) [
  | inl e ↦ subst (λ z. P z (get_or (headed a b n m kept) z 0)) (sym e) (subst (P b) (sym (get_or-set_same (set kept a n) b m 0 (lt-length-set kept a n lb))) q)
  | inr d ↦ subst (P x) (sym (get_or-set_other (set kept a n) b x m 0 d)) (elim (same_or_other x a) [
    | inl e ↦ subst (λ z. P z (get_or (set kept a n) z 0)) (sym e) (subst (P a) (sym (get_or-set_same kept a n 0 la)) p)
    | inr f ↦ subst (P x) (sym (get_or-set_other kept a x n 0 f)) (r f d)
  ])
]
