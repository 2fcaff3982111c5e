-- The lowest line that is not measured: the search for it, and that a line is finished exactly where some instruction has measured it.
-- Assumes nothing.
use Prim.Native.Nat.{ℕ, zero, suc, ◌+◌, ◌≤◌, ◌<◌}
use mathlib.Core.Path.{◌≡◌, refl, sym, ap, subst, ◌∙◌}
use mathlib.Core.Logic.{◌⊎◌, inl, inr, ◌≢◌}
use mathlib.Core.Bool.{Bool, true, false}
use mathlib.Core.List.{List, ◌∷◌}
use mathlib.Core.Option.{some}
use native.Mathlib.Omega.{arith}
use lib.ListN.{length, get_or, set, get_elem?}
use lib.Seq.{get_or-set_same, get_or-set_other}
use borrow.Author.Tests.{eqb-true, eqb-false, not-false, not-true}
use Rattle.basics.specs.Choice.{pick}
use Rattle.basics.proofs.Tests.{same_or_other}
use Rattle.records.specs.Records.{line}
use Rattle.records.specs.declared.numbers.Line.{Line}
use Rattle.records.specs.declared.numbers.Bit.{Bit}
use Rattle.records.specs.declared.instructions.Instruction.{Instruction}
use Rattle.records.specs.declared.instructions.Instruction.TheVariants.{Reset, Measurement, Gate, AngledGate, TwoLineGate, AngledTwoLineGate}
use Rattle.circuits.specs.Judging.{fresh, in_use, finished, unfinished, first_unfinished, passed, judge_of, advance_of}
use Rattle.circuits.specs.Places.{Measured}
use Rattle.circuits.specs.declared.states.States.{States}
use Rattle.circuits.proofs.Passed.{reset_passed}

-- The search

-- the lines below the one that is found are finished
pub lower_finished : (n : ℕ) (states : List ℕ) (i x : ℕ) → i ≤ x → x < first_unfinished n states i → get_or states x fresh ≡ finished
unfolding first_unfinished
lower_finished zero states i x a b = absurd (omega arith)
lower_finished (suc n) states i x a b = go (unfinished (get_or states i fresh)) refl b (same_or_other i x) (lower_finished n states (i + 1) x)
  where
    go : (t : Bool) → unfinished (get_or states i fresh) ≡ t → x < pick t i (first_unfinished n states (i + 1)) → (i ≡ x) ⊎ (i ≢ x)
        → (i + 1 ≤ x → x < first_unfinished n states (i + 1) → get_or states x fresh ≡ finished) → get_or states x fresh ≡ finished
    go true u b e later = absurd (omega arith)
    go false u b (inl e) later = subst (λ z. get_or states z fresh ≡ finished) e (eqb-true _ _ (not-false _ u))
    go false u b (inr d) later = later (omega arith) b

-- and the one that is found is not
pub found_open : (n : ℕ) (states : List ℕ) (i : ℕ) → first_unfinished n states i < i + n → get_or states (first_unfinished n states i) fresh ≢ finished
unfolding first_unfinished
found_open zero states i b = absurd (omega arith)
found_open (suc n) states i b = go (unfinished (get_or states i fresh)) refl b (found_open n states (i + 1))
  where
    go : (t : Bool) → unfinished (get_or states i fresh) ≡ t → pick t i (first_unfinished n states (i + 1)) < i + suc n
        → (first_unfinished n states (i + 1) < i + 1 + n → get_or states (first_unfinished n states (i + 1)) fresh ≢ finished)
        → get_or states (pick t i (first_unfinished n states (i + 1))) fresh ≢ finished
    go true u b later = eqb-false _ _ (not-true _ u)
    go false u b later = later (omega arith)

-- One instruction more, for a line that has a state

module _ (x : ℕ) (c : States) (is : List Instruction) (stated : x < length c.lines) where
  abbrev Finished : States → Type 0
  Finished c = get_or c.lines x fresh ≡ finished

  stored : (y state : ℕ) → x ≡ y → get_or (set c.lines y state) x fresh ≡ state
  stored y state e = subst (λ z. get_or (set c.lines z state) x fresh ≡ state) e (get_or-set_same c.lines x state fresh stated)

  kept : (y state : ℕ) → x ≢ y → get_or (set c.lines y state) x fresh ≡ get_or c.lines x fresh
  kept y state d = get_or-set_other c.lines y x state fresh d

  -- a line that is finished behind an instruction was so before it, or the instruction measures it
  pub finished_behind : (i : Instruction) → Finished (advance_of c i) → Finished c ⊎ Measured (i ∷ is) x
  finished_behind (Reset l) f = elim (same_or_other x l.0) [
    | inl e ↦ absurd (omega (arith, f, stored l.0 in_use e))
    | inr d ↦ inl (sym (kept l.0 in_use d) ∙ f)
  ]
  finished_behind (Measurement l b) f = elim (same_or_other x l.0) [
    | inl e ↦ inr (0, b, ap (λ (y : ℕ). some (Measurement (line y) b)) (sym e))
    | inr d ↦ inl (sym (kept l.0 finished d) ∙ f)
  ]
  finished_behind (Gate k l) f = inl f
  finished_behind (AngledGate k l a) f = inl f
  finished_behind (TwoLineGate k l m) f = inl f
  finished_behind (AngledTwoLineGate k l m a) f = inl f

  -- a line that is not finished behind an instruction that passed was not so before it
  pub open_before : (width : ℕ) (i : Instruction) → judge_of width width c i ≡ passed → ¬ Finished (advance_of c i) → ¬ Finished c
  open_before width (Reset l) j h f = elim (same_or_other x l.0) [
    | inl e ↦ (reset_passed width c l j).1 (subst (λ z. get_or c.lines z fresh ≡ finished) e f)
    | inr d ↦ h (kept l.0 in_use d ∙ f)
  ]
  open_before width (Measurement l b) j h f = elim (same_or_other x l.0) [
    | inl e ↦ h (stored l.0 finished e)
    | inr d ↦ h (kept l.0 finished d ∙ f)
  ]
  open_before width (Gate k l) j h f = h f
  open_before width (AngledGate k l a) j h f = h f
  open_before width (TwoLineGate k l m) j h f = h f
  open_before width (AngledTwoLineGate k l m a) j h f = h f

  -- and is not measured by it
  pub open_unmeasured : (i : Instruction) → ¬ Finished (advance_of c i) → ¬ Measured is x → ¬ Measured (i ∷ is) x
  open_unmeasured i h rest m = go m.0 m.1 m.2
    where
      here : (i : Instruction) (b : Bit) → ¬ Finished (advance_of c i) → i ≡ Measurement (line x) b → ⊥
      here (Measurement l a) b h e = let z : l ≡ line x = cc in h (stored l.0 finished (sym (ap (λ (y : Line). y.0) z)))
      here (Reset l) b h e = let z : ◌≡◌ {A = ℕ} 0 1 = cc in omega arith
      here (Gate k l) b h e = let z : ◌≡◌ {A = ℕ} 0 1 = cc in omega arith
      here (AngledGate k l a) b h e = let z : ◌≡◌ {A = ℕ} 0 1 = cc in omega arith
      here (TwoLineGate k l m) b h e = let z : ◌≡◌ {A = ℕ} 0 1 = cc in omega arith
      here (AngledTwoLineGate k l m a) b h e = let z : ◌≡◌ {A = ℕ} 0 1 = cc in omega arith

      go : (k : ℕ) (b : Bit) → get_elem? (i ∷ is) k ≡ some (Measurement (line x) b) → ⊥
      go zero b e = let z : i ≡ Measurement (line x) b = cc in here i b h z
      go (suc k) b e = rest (k, b, e)
