-- The links by which the heads move: the turns of the pass that links the instructions from the last back. Assumes nothing.
use Prim.Native.Nat.{ℕ, ◌+◌, ◌≤◌, ◌<◌}
use mathlib.Core.Path.{◌≡◌, sym, ap, subst, ◌∙◌}
use mathlib.Core.Logic.{inl, inr}
use mathlib.Core.Bool.{true, false}
use mathlib.Core.List.{List}
use mathlib.Core.Option.{some}
use native.Mathlib.Omega.{arith}
use lib.ListN.{length, get_or, get_elem?, set, replicate, get_or-replicate}
use lib.Seq.{get_or-set_same, get_or-set_other}
use Rattle.basics.proofs.Tests.{same_or_other}
use Rattle.orders.specs.Indices.{In}
use Rattle.records.specs.declared.instructions.Instruction.{Instruction}
use Rattle.circuits.specs.Limits.{most_wires, most_instructions}
use Rattle.precedence.specs.Lives.{lines_of, touches}
use Rattle.precedence.specs.Precedence.{holds, on}
use Rattle.precedence.proofs.Spans.{at_inside}
use Rattle.writer.specs.Notes.{first_wire, second_wire, first_at, second_at}
use Rattle.writer.specs.Heads.{headed, NextOn, Tabled, after_at, Linked}
use Rattle.writer.specs.declared.heads.After.{After}
use Rattle.writer.specs.declared.source.Source.{Source}
use Rattle.writer.proofs.Wires.{first_in, second_in, headed_each, there, wire_on, wire_off, first_tabled, second_tabled}

-- ## The pass from the last back

-- past the last instruction every wire's head is their number
pub linked_none : {is : List Instruction} {n : ℕ} {indices : List ℕ} {links : List After} → length is ≡ n → indices ≡ replicate most_wires n
    → Linked is n indices links
linked_none {is} {n} {indices} e h = record {
  heads = λ x l. subst (NextOn is x n) (sym (ap (λ z. get_or z x 0) h ∙ get_or-replicate most_wires x n 0 l))
      (record { onward = omega arith; inside = omega arith; between = λ k a b. absurd (omega arith); here = λ l. absurd (omega arith) });
  after_first = λ k i l g. absurd (outside k i l g);
  after_second = λ k i l g. absurd (outside k i l g);
}
  where
    outside : (k : ℕ) (i : Instruction) → n ≤ k → get_elem? is k ≡ some i → ⊥
    outside k i l g = omega (arith, at_inside (λ j. true) is k (ap (holds (λ j. true)) g))

module _ {is : List Instruction} {x k : ℕ} where
  next_here : on is x k ≡ true → NextOn is x k k
  next_here o = record {
    onward = omega arith;
    inside = omega (arith, at_inside (touches x) is k o);
    between = λ j a b. absurd (omega arith);
    here = λ l. o;
  }

  next_back : {h : ℕ} → on is x k ≡ false → NextOn is x (k + 1) h → NextOn is x k h
  next_back o g = record {
    onward = omega (arith, g.onward);
    inside = g.inside;
    between = λ j a b. elim (same_or_other j k) [
      | inl e ↦ subst (λ z. on is x z ≡ false) (sym e) o
      | inr d ↦ g.between j (omega arith) b
    ];
    here = g.here;
  }

-- one instruction more
module _ {is : List Instruction} {s : Source} {k : ℕ} (tab : Tabled is s) (inside : k < s.valid.instructions) (indices : List ℕ)
    (size : length indices ≡ most_wires) where
  abbrev it : Instruction
  it = (there is k (omega (arith, tab.all))).0

  here : get_elem? is k ≡ some it
  here = (there is k (omega (arith, tab.all))).1

  named : (x : ℕ) → In x (lines_of it) → x < most_wires
  named x h = tab.named x k (wire_on is k here x h)

  -- what is kept for one of its wires
  after_more : (wire : Instruction → ℕ) → ((i : Instruction) → In (wire i) (lines_of i)) → (part : After → ℕ)
      → ((x : ℕ) → x < most_wires → NextOn is x (k + 1) (get_or indices x 0))
      → (links : List After) {new : List After} {after : After} → length links ≡ most_instructions → new ≡ set links k after → part after ≡ get_or indices (wire it) 0
      → ((j : ℕ) (i : Instruction) → k + 1 ≤ j → get_elem? is j ≡ some i → NextOn is (wire i) (j + 1) (part (after_at links j)))
      → (j : ℕ) (i : Instruction) → k ≤ j → get_elem? is j ≡ some i → NextOn is (wire i) (j + 1) (part (after_at new j))
  after_more wire among part heads links {new} {after} sized e told rest j i l g = elim (same_or_other j k) [
    | inl q ↦ (let same : i ≡ it = cc (ap (get_elem? is) q, here) in
        subst (λ z. NextOn is (wire i) (z + 1) (part (after_at new z))) (sym q) (subst (λ z. NextOn is (wire z) (k + 1) (part (after_at new k))) (sym same)
        (subst (NextOn is (wire it) (k + 1)) (sym (ap (λ z. part (after_at z k)) e ∙ ap part (get_or-set_same links k after _ (omega (arith, s.few))) ∙ told))
        (heads (wire it) (named (wire it) (among it))))))
    | inr d ↦ subst (NextOn is (wire i) (j + 1)) (sym (ap (λ z. part (after_at z j)) e ∙ ap part (get_or-set_other links k j after _ d))) (rest j i (omega arith) g)
  ]

  pub linked_more : {v : ℕ} {links newLinks : List After} {newIndices : List ℕ} {after : After} → v ≡ k + 1 → Linked is v indices links → length links ≡ most_instructions
      → newIndices ≡ headed (first_at s.notes.now k) (second_at s.notes.now k) k k indices → newLinks ≡ set links k after
      → after.first ≡ get_or indices (first_at s.notes.now k) 0 → after.second ≡ get_or indices (second_at s.notes.now k) 0 → Linked is k newIndices newLinks
  linked_more {v} {links} {newLinks} {newIndices} {after} v-is g sized indices-are links-are first_is second_is =
      let same_first = first_tabled tab k it here in
      let same_second = second_tabled tab k it here in
      let back : Linked is (k + 1) indices links = subst (λ z. Linked is z indices links) v-is g in
      record {
        heads = λ x b. subst (λ z. NextOn is x k (get_or z x 0))
            (sym (indices-are ∙ ap (λ a. headed a (second_at s.notes.now k) k k indices) same_first ∙ ap (λ a. headed (first_wire it) a k k indices) same_second))
            (headed_each (λ y h. NextOn is y k h) (first_wire it) (second_wire it) k k indices (omega (arith, named _ (first_in it))) (omega (arith, named _ (second_in it)))
            (next_here (wire_on is k here _ (first_in it))) (next_here (wire_on is k here _ (second_in it)))
            x (λ f s. next_back (wire_off is k here x f s) (back.heads x b)));
        after_first = after_more first_wire first_in (λ z. z.first) back.heads links sized links-are (first_is ∙ ap (λ a. get_or indices a 0) same_first) back.after_first;
        after_second = after_more second_wire second_in (λ z. z.second) back.heads links sized links-are (second_is ∙ ap (λ a. get_or indices a 0) same_second) back.after_second;
      }
