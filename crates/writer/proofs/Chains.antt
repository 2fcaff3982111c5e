-- Laws of chains: where each has a first wire, two wires have the same qubit exactly when the pairs join them, the qubits are the numbers
-- below wires less pairs, each used, and with no pairs qubit w is wire w. Assumes nothing.
use Prim.Native.Nat.{ℕ, zero, suc, ◌+◌, ◌-◌, ◌≤◌, ◌<◌}
use mathlib.Core.Path.{◌≡◌, refl, sym, ap, subst, ◌∙◌}
use mathlib.Core.Logic.{inl, inr, ◌↔◌}
use mathlib.Core.Bool.{true, false}
use mathlib.Core.List.{List, []}
use native.Mathlib.Omega.{arith}
use lib.ListN.{length, get_or}
use borrow.Author.Tests.{ltb-true}
use Rattle.std.proofs.Common.{Option, Some, None}
use Rattle.basics.proofs.Tests.{true_or_false, refuted, same_or_other, below_or_not}
use Rattle.bits.specs.Bits.{each}
use Rattle.bits.proofs.Lists.{get_or-each}
use Rattle.circuits.specs.Limits.{most_wires}
use Rattle.orders.specs.Indices.{In}
use Rattle.orders.specs.Runs.{Pair}
use Rattle.records.specs.declared.numbers.Qubit.{Qubit}
use Rattle.pairs.specs.Lending.{lender_of, takes, pairs_below, pairs_of}
use Rattle.writer.specs.Chains.{first_from, first_of, firsts_below, qubit_of, qubits, Falls, Tells}
use Rattle.writer.specs.Chains.{Begun, Joined, same, lends, takes_from}
use Rattle.writer.proofs.Pairs.{pairs_none, pairs_taker, pairs_first, pair_in, pair_says}

module _ (lenders : List ℕ) (width : ℕ) where
  -- ## The way to the first wire

  -- a wire that takes from nobody is the first
  pub first_here : (steps x : ℕ) → takes lenders width x ≡ false → first_from lenders width steps x ≡ x
  unfolding first_from
  first_here zero x e = refl
  first_here (suc steps) x e = rw e

  pub first_end : (steps x : ℕ) → steps ≡ 0 → x ≡ first_from lenders width steps x
  unfolding first_from
  first_end steps x e = rw e

  -- the way from a wire that takes goes on from its lender
  pub first_on : (steps x next : ℕ) → 0 < steps → takes lenders width x ≡ true → next ≡ lender_of lenders x
      → first_from lenders width (steps - 1) next ≡ first_from lenders width steps x
  unfolding first_from
  first_on zero x next l t e = absurd (omega arith)
  first_on (suc steps) x next l t e = let z : suc steps - 1 ≡ steps = omega arith in rw (z, t, e)

  -- ## Ways that lead down

  -- a wire that takes from nobody tells its own number
  pub tells_first : (x : ℕ) (q : Qubit) → takes lenders width x ≡ false → q.0 ≡ firsts_below lenders width x → Tells lenders width x (Some q)
  unfolding qubit_of
  tells_first x q t e = (e ∙ ap (firsts_below lenders width) (sym (first_here width x t)), λ steps l. first_here steps x t ∙ sym (first_here width x t))

  -- and one that takes from a lower wire what that one tells: its first wire is the same, and is reached in time
  module _ (x next : ℕ) (t : takes lenders width x ≡ true) (e : next ≡ lender_of lenders x) (lower : next < x) where
    one_on : Falls lenders width next → (steps : ℕ) → next < steps → first_from lenders width steps x ≡ first_of lenders width next
    one_on falls steps l = sym (first_on steps x next (omega arith) t e) ∙ falls (steps - 1) (omega arith)

    same_first : Falls lenders width next → first_of lenders width x ≡ first_of lenders width next
    same_first falls = one_on falls width (omega (arith, ltb-true (lender_of lenders x) width t))

    pub tells_on : (told : Option Qubit) → Tells lenders width next told → Tells lenders width x told
    unfolding qubit_of
    tells_on None h = h
    tells_on (Some q) (here, falls) =
        (here ∙ ap (firsts_below lenders width) (sym (same_first falls)), λ steps l. one_on falls steps (omega arith) ∙ sym (same_first falls))

  -- ## Counting first wires

  pub firsts_none : firsts_below lenders width 0 ≡ 0
  unfolding firsts_below
  firsts_none = refl

  pub count_at : (counts : List ℕ) → counts ≡ each most_wires (firsts_below lenders width) → (x : ℕ) → x < most_wires → get_or counts x 0 ≡ firsts_below lenders width x
  count_at counts e x l = ap (λ (xs : List ℕ). get_or xs x 0) e ∙ get_or-each most_wires (firsts_below lenders width) x l

  first_counted : (x : ℕ) → takes lenders width x ≡ false → firsts_below lenders width (suc x) ≡ firsts_below lenders width x + 1
  unfolding firsts_below
  first_counted x t = rw (firsts_below, t)

  taker_counted : (x : ℕ) → takes lenders width x ≡ true → firsts_below lenders width (suc x) ≡ firsts_below lenders width x
  unfolding firsts_below
  taker_counted x t = rw (firsts_below, t) (omega arith)

  -- a wire that takes from nobody is counted above it
  firsts_rise : (b x : ℕ) → x < b → takes lenders width x ≡ false → firsts_below lenders width x < firsts_below lenders width b
  firsts_rise zero x l t = absurd (omega arith)
  firsts_rise (suc b) x l t = elim (same_or_other x b) [
    | inl e ↦ (let one = first_counted x t in let here = ap (λ z. firsts_below lenders width (suc z)) e in omega arith)
    | inr d ↦ (let low = firsts_rise b x (omega arith) t in elim (true_or_false (takes lenders width b)) [
      | inl u ↦ omega (arith, taker_counted b u)
      | inr u ↦ omega (arith, first_counted b u)
    ])
  ]

  -- the qubits' number of a first wire tells it
  first_same : (f g : ℕ) → takes lenders width f ≡ false → takes lenders width g ≡ false → firsts_below lenders width f ≡ firsts_below lenders width g → f ≡ g
  first_same f g a b e = elim (below_or_not f g) [
    | inl l ↦ (let r = firsts_rise g f l a in absurd (omega arith))
    | inr l ↦ elim (same_or_other f g) [
      | inl q ↦ q
      | inr d ↦ (let r = firsts_rise f g (omega arith) b in absurd (omega arith))
    ]
  ]

  -- the number of each count is that of a first wire
  first_numbered : (k n : ℕ) → n < firsts_below lenders width k → (x : ℕ) × (x < k) × (takes lenders width x ≡ false) × (firsts_below lenders width x ≡ n)
  first_numbered zero n l = let z = firsts_none in absurd (omega arith)
  first_numbered (suc k) n l = elim (below_or_not n (firsts_below lenders width k)) [
    | inl b ↦ (let r = first_numbered k n b in (r.0, omega (arith, r.1), r.2, r.3))
    | inr b ↦ elim (true_or_false (takes lenders width k)) [
      | inl t ↦ absurd (omega (arith, taker_counted k t))
      | inr t ↦ (let one = first_counted k t in (k, omega arith, t, omega arith))
    ]
  ]

  -- ## As many qubits as wires less pairs

  counted : (k : ℕ) → firsts_below lenders width k + length (pairs_below lenders width k) ≡ k
  counted zero = let z = firsts_none in let n = ap length (pairs_none lenders width) in omega arith
  counted (suc k) = elim (true_or_false (takes lenders width k)) [
    | inl t ↦ omega (arith, counted k, taker_counted k t, ap length (pairs_taker lenders width k t))
    | inr t ↦ omega (arith, counted k, first_counted k t, ap length (pairs_first lenders width k t))
  ]

  -- THEOREM: qubits and pairs together are as many as wires.
  pub qubits_and_pairs : qubits lenders width + length (pairs_of lenders width) ≡ width
  qubits_and_pairs = counted width

  -- ## No pairs

  module _ (none : pairs_of lenders width ≡ []) where
    all_first : (x : ℕ) → x < width → takes lenders width x ≡ false
    all_first x l = refuted (takes lenders width x) (λ t. subst (In (lender_of lenders x, x)) none (pair_says lenders width x l t))

    all_counted : (k : ℕ) → k ≤ width → firsts_below lenders width k ≡ k
    all_counted zero l = firsts_none
    all_counted (suc k) l = omega (arith, all_counted k (omega arith), first_counted k (all_first k (omega arith)))

    -- THEOREM: with no pairs qubit w is wire w, and there are as many qubits as wires.
    pub qubit_none : (x : ℕ) → x < width → qubit_of lenders width x ≡ x
    unfolding qubit_of
    qubit_none x l = ap (firsts_below lenders width) (first_here width x (all_first x l)) ∙ all_counted x (omega arith)

    pub qubits_none : qubits lenders width ≡ width
    qubits_none = all_counted width (omega arith)

  -- ## The first wire of a chain

  pub first_low : (steps x : ℕ) → x < width → first_from lenders width steps x < width
  unfolding first_from
  first_low zero x l = l
  first_low (suc steps) x l = elim (true_or_false (takes lenders width x)) [
    | inl t ↦ rw (first_from, t) (first_low steps (lender_of lenders x) (ltb-true _ _ t))
    | inr t ↦ rw (first_from, t) l
  ]

  pub first_takes : (steps x : ℕ) → takes lenders width x ≡ true → first_from lenders width (suc steps) x ≡ first_from lenders width steps (lender_of lenders x)
  unfolding first_from
  first_takes steps x t = rw (first_from, t)

  -- once at a first wire the way goes no further
  first_stays : (steps x : ℕ) → takes lenders width (first_from lenders width steps x) ≡ false
      → first_from lenders width (suc steps) x ≡ first_from lenders width steps x
  first_stays zero x h = let z = first_end 0 x refl in first_here 1 x (subst (λ y. takes lenders width y ≡ false) (sym z) h) ∙ z
  first_stays (suc steps) x h = elim (true_or_false (takes lenders width x)) [
    | inl t ↦ (let e = first_takes steps x t in
        first_takes (suc steps) x t ∙ first_stays steps (lender_of lenders x) (subst (λ y. takes lenders width y ≡ false) e h) ∙ sym e)
    | inr t ↦ first_here (suc (suc steps)) x t ∙ sym (first_here (suc steps) x t)
  ]

  joined_first : (steps x : ℕ) → x < width → Joined (pairs_of lenders width) x (first_from lenders width steps x)
  unfolding first_from
  joined_first zero x l = same
  joined_first (suc steps) x l = elim (true_or_false (takes lenders width x)) [
    | inl t ↦ rw (first_from, t) (takes_from (pair_says lenders width x l t) (joined_first steps (lender_of lenders x) (ltb-true _ _ t)))
    | inr t ↦ rw (first_from, t) same
  ]

-- ## Chains

pub joined_trans : {ps : List Pair} {x y z : ℕ} → Joined ps x y → Joined ps y z → Joined ps x z
joined_trans same k = k
joined_trans (lends h j) k = lends h (joined_trans j k)
joined_trans (takes_from h j) k = takes_from h (joined_trans j k)

pub joined_sym : {ps : List Pair} {x y : ℕ} → Joined ps x y → Joined ps y x
joined_sym same = same
joined_sym (lends h j) = joined_trans (joined_sym j) (takes_from h same)
joined_sym (takes_from h j) = joined_trans (joined_sym j) (lends h same)

module _ (lenders : List ℕ) (width : ℕ) (begun : Begun lenders width) where
  -- lender and taker have one first wire
  lender_first : (l t : ℕ) → In (l, t) (pairs_of lenders width) → first_of lenders width l ≡ first_of lenders width t
  lender_first l t h =
      let r = pair_in lenders width l t h in
      ap (first_from lenders width width) r.is ∙ sym (first_takes lenders width width t r.takes) ∙ first_stays lenders width width t (begun t r.taker)

  joined_firsts : {x y : ℕ} → Joined (pairs_of lenders width) x y → first_of lenders width x ≡ first_of lenders width y
  joined_firsts same = refl
  joined_firsts (lends {x = x} {y = y} h j) = lender_first x y h ∙ joined_firsts j
  joined_firsts (takes_from {x = x} {y = y} h j) = sym (lender_first y x h) ∙ joined_firsts j

  -- wires of one qubit have one first wire
  pub one_first : (x y : ℕ) → x < width → y < width → qubit_of lenders width x ≡ qubit_of lenders width y → first_of lenders width x ≡ first_of lenders width y
  unfolding qubit_of
  one_first x y a b e = first_same lenders width (first_of lenders width x) (first_of lenders width y) (begun x a) (begun y b) e

  -- THEOREM: two wires have the same qubit exactly when the pairs join them.
  pub qubit_exactly : (x y : ℕ) → x < width → y < width → (qubit_of lenders width x ≡ qubit_of lenders width y) ↔ Joined (pairs_of lenders width) x y
  unfolding qubit_of
  qubit_exactly x y a b = (
    λ e. joined_trans (joined_first lenders width width x a)
        (subst (λ z. Joined (pairs_of lenders width) z y) (sym (one_first x y a b e)) (joined_sym (joined_first lenders width width y b))),
    λ j. ap (firsts_below lenders width) (joined_firsts j),
  )

  -- THEOREM: the qubits of wires are the numbers below the number of qubits, and each is one's.
  pub qubit_below : (x : ℕ) → x < width → qubit_of lenders width x < qubits lenders width
  unfolding qubit_of
  qubit_below x l = firsts_rise lenders width width (first_of lenders width x) (first_low lenders width width x l) (begun x l)

  pub qubit_used : (n : ℕ) → n < qubits lenders width → (x : ℕ) × (x < width) × (qubit_of lenders width x ≡ n)
  unfolding qubit_of
  qubit_used n l =
      let r = first_numbered lenders width width n l in
      (r.0, r.1, ap (firsts_below lenders width) (first_here lenders width width r.0 r.2) ∙ r.3)
