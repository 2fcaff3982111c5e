-- After the heads of an instruction's wires were moved and tried again, what is kept of every wire is its candidate. A wire that was not tried has the
-- candidate that it had, since its head's wires and its lender are none of those that were moved, or were moved to where it may not be written. Assumes
-- nothing.
use Prim.Native.Nat.{ℕ, ◌<◌}
use mathlib.Core.Path.{◌≡◌, refl, sym, ap, subst, ◌∙◌}
use mathlib.Core.Logic.{inl, inr, ◌⊎◌, ◌≢◌}
use mathlib.Core.Bool.{true, false}
use mathlib.Core.List.{List}
use native.Mathlib.Omega.{arith}
use lib.ListN.{length, get_or}
use Rattle.basics.specs.Choice.{pick}
use Rattle.basics.proofs.Tests.{same_or_other, true_or_false, not_both, refuted}
use Rattle.circuits.specs.Limits.{most_wires}
use Rattle.pairs.specs.Lending.{lender_of, takes}
use Rattle.writer.specs.Notes.{is_reset, note_at, first_at, second_at}
use Rattle.writer.specs.Heads.{headed, candidate, candidate_of, tried_both}
use Rattle.writer.specs.declared.source.Source.{Source}
use Rattle.writer.proofs.Wires.{headed_each}
use Rattle.writer.proofs.Ready.{May, may_tells, may_holds, may_same}
use Rattle.writer.proofs.Candidates.{Right, Settled, both_better, both_settled}

module _ (s : Source) (wires : (k : ℕ) → k < s.valid.instructions → first_at s.notes.now k < s.valid.width)
    (resets : (k : ℕ) → k < s.valid.instructions → is_reset (note_at s.notes.now k).form ≡ true → first_at s.notes.now k ≡ second_at s.notes.now k)
    (indices : List ℕ) (size : length indices ≡ most_wires) (index n m : ℕ) (inside : index < s.valid.instructions) where
  abbrev first : ℕ
  first = first_at s.notes.now index

  abbrev second : ℕ
  second = second_at s.notes.now index

  abbrev moved : List ℕ
  moved = headed first second n m indices

  -- a wire whose head is not moved
  other : (x : ℕ) → x ≢ first → x ≢ second → get_or moved x 0 ≡ get_or indices x 0
  other x f s' = headed_each (λ y k. y ≡ x → k ≡ get_or indices x 0) first second n m indices (omega (arith, (s.low index inside).0)) (omega (arith, (s.low index inside).1))
      (λ e. absurd (f (sym e))) (λ e. absurd (s' (sym e))) x (λ f'' s'' e. refl) refl

  -- a wire is one of those moved or none
  moved_or_not : (x : ℕ) → ((x ≡ first) ⊎ (x ≡ second)) ⊎ ((x ≢ first) × (x ≢ second))
  moved_or_not x = elim (same_or_other x first) [
    | inl e ↦ inl (inl e)
    | inr f ↦ elim (same_or_other x second) [
      | inl e ↦ inl (inr e)
      | inr d ↦ inr (f, d)
    ]
  ]

  module _ (own : (x : ℕ) → x < most_wires → get_or moved x 0 < s.valid.instructions → (x ≡ first_at s.notes.now (get_or moved x 0)) ⊎ (x ≡ second_at s.notes.now (get_or moved x 0)))
      (at_first : get_or indices first 0 ≡ index) (at_second : get_or indices second 0 ≡ index) (kept : List ℕ) (sized : length kept ≡ most_wires)
      (right : (x : ℕ) → x < most_wires → get_or kept x 0 ≡ candidate_of s indices x) where
    abbrev tried : List ℕ
    tried = tried_both s moved first second kept

    abbrev Good : List ℕ → ℕ → Type 0
    Good ks x = Right s moved own ks x

    settled : (x : ℕ) → (x ≡ first) ⊎ (x ≡ second) → Settled s moved own x tried
    settled = both_settled s moved own first second (s.low index inside).0 (s.low index inside).1 kept sized

    kept_on : (x : ℕ) → Good kept x → Good tried x
    kept_on = (both_better s moved own first second (s.low index inside).0 (s.low index inside).1 kept sized).kept

    -- the head of a wire that is moved was the instruction written
    was : (x : ℕ) → (x ≡ first) ⊎ (x ≡ second) → get_or indices x 0 ≡ index
    was x w = elim w [
      | inl e ↦ ap (λ z. get_or indices z 0) e ∙ at_first
      | inr e ↦ ap (λ z. get_or indices z 0) e ∙ at_second
    ]

    module _ (y : ℕ) (b : y < most_wires) (not_first : y ≢ first) (not-second : y ≢ second) where
      abbrev h : ℕ
      h = get_or indices y 0

      stays : get_or moved y 0 ≡ h
      stays = other y not_first not-second

      -- it is one of its head's wires
      owned : h < s.valid.instructions → (y ≡ first_at s.notes.now h) ⊎ (y ≡ second_at s.notes.now h)
      owned l = subst (λ k. (y ≡ first_at s.notes.now k) ⊎ (y ≡ second_at s.notes.now k)) stays (own y b (omega (arith, stays)))

      -- its head is not the instruction written
      another : h < s.valid.instructions → h ≢ index
      another l e = elim (subst (λ k. (y ≡ first_at s.notes.now k) ⊎ (y ≡ second_at s.notes.now k)) e (owned l)) [ inl o ↦ not_first o | inr o ↦ not-second o ]

      -- a wire of its head that is moved
      by_wire : (z : ℕ) → (z ≡ first) ⊎ (z ≡ second) → get_or moved z 0 ≡ h → candidate s moved y ≡ true → Good tried y
      by_wire z w e m = (settled z w).shared y (may_same s moved y z (e ∙ sym stays) m)
          (subst (λ k. (y ≡ first_at s.notes.now k) ⊎ (y ≡ second_at s.notes.now k)) (sym e) (owned (omega (arith, stays, (may_tells s moved y m).inside))))

      -- it might be written before, and may be now
      both_may : May s indices h → candidate s moved y ≡ true → Good tried y
      both_may g m = kept_on y (right y b ∙ ap (λ t. pick t h s.valid.instructions) (may_holds s indices y g)
          ∙ sym (ap (λ t. pick t (get_or moved y 0) s.valid.instructions) m ∙ stays))

      -- it may be written now: so it might before, or a wire of its head was moved, or its lender
      now_may : candidate s moved y ≡ true → Good tried y
      now_may m =
          let g = subst (May s moved) stays (may_tells s moved y m) in
          elim (moved_or_not (first_at s.notes.now h)) [
            | inl w ↦ by_wire (first_at s.notes.now h) w g.first m
            | inr f ↦ elim (moved_or_not (second_at s.notes.now h)) [
              | inl w ↦ by_wire (second_at s.notes.now h) w g.second m
              | inr d ↦ by_lender g (sym (other _ f.0 f.1) ∙ g.first) (sym (other _ d.0 d.1) ∙ g.second)
            ]
          ]
        where
          by_lender : May s moved h → get_or indices (first_at s.notes.now h) 0 ≡ h → get_or indices (second_at s.notes.now h) 0 ≡ h → Good tried y
          by_lender g f d =
              let lender = lender_of s.lenders.lenders (first_at s.notes.now h) in
              let with-free : ((is_reset (note_at s.notes.now h).form ≡ true → takes s.lenders.lenders s.valid.width (first_at s.notes.now h) ≡ true → get_or indices lender 0 ≡ s.valid.instructions) → Good tried y) =
              λ free. both_may (record { inside = g.inside; first = f; second = d; free = free }) m in
              elim (true_or_false (is_reset (note_at s.notes.now h).form)) [
                | inr other-form ↦ with-free (λ r. absurd (not_both _ r other-form))
                | inl r ↦ elim (true_or_false (takes s.lenders.lenders s.valid.width (first_at s.notes.now h))) [
                  | inr alone ↦ with-free (λ r t. absurd (not_both _ t alone))
                  | inl t ↦ elim (moved_or_not lender) [
                    | inr o ↦ with-free (λ r t. sym (other lender o.0 o.1) ∙ g.free r t)
                    | inl w ↦ (let own-wire : y ≡ first_at s.notes.now h = elim (owned g.inside) [ inl e ↦ e | inr e ↦ e ∙ sym (resets h g.inside r) ] in
                        (settled lender w).takers (omega (arith, g.free r t)) y (omega (arith, wires h g.inside)) (ap (lender_of s.lenders.lenders) own-wire))
                  ]
                ]
              ]

      -- it may not be written now: so it might not before
      now_not : candidate s moved y ≡ false → Good tried y
      now_not f =
          let before : candidate s indices y ≡ false = refuted _ (λ m. not_both _ (still (may_tells s indices y m)) f) in
          kept_on y (right y b ∙ ap (λ t. pick t h s.valid.instructions) before ∙ sym (ap (λ t. pick t (get_or moved y 0) s.valid.instructions) f))
        where
          -- a wire that was not at the instruction written was not moved
          unmoved : (x : ℕ) → get_or indices x 0 ≢ index → get_or moved x 0 ≡ get_or indices x 0
          unmoved x n = elim (moved_or_not x) [ inl w ↦ absurd (n (was x w)) | inr o ↦ other x o.0 o.1 ]

          still : May s indices h → candidate s moved y ≡ true
          still g = may_holds s moved y (subst (May s moved) (sym stays) (record {
            inside = g.inside;
            first = unmoved _ (λ e. another g.inside (sym g.first ∙ e)) ∙ g.first;
            second = unmoved _ (λ e. another g.inside (sym g.second ∙ e)) ∙ g.second;
            free = λ r t. unmoved _ (λ e. omega (arith, g.free r t)) ∙ g.free r t;
          }))

    pub moves_right : (y : ℕ) → y < most_wires → get_or tried y 0 ≡ candidate_of s moved y
    moves_right y b = elim (moved_or_not y) [
      | inl w ↦ (settled y w).here
      | inr o ↦ elim (true_or_false (candidate s moved y)) [
        | inl m ↦ now_may y b o.0 o.1 m
        | inr m ↦ now_not y b o.0 o.1 m
      ]
    ]
