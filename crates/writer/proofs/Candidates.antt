-- The candidates that are kept: those of wires that were right stay right where another wire's head is tried, and those of the wire that is tried
-- and of all wires of its head become right. Assumes nothing.
use Prim.Native.Nat.{ℕ, zero, suc, ◌+◌, ◌≤◌, ◌<◌}
use mathlib.Core.Path.{◌≡◌, refl, sym, ap, subst, ◌∙◌}
use mathlib.Core.Logic.{inl, inr, ◌⊎◌}
use mathlib.Core.Bool.{true}
use mathlib.Core.List.{List}
use native.Mathlib.Omega.{arith}
use lib.ListN.{length, get_or, set, length-set}
use lib.Seq.{get_or-set_same, get_or-set_other}
use lib.Dec.{eqb, leb}
use borrow.Author.Tests.{eqb-true, eq-eqb, le-leb}
use Rattle.basics.proofs.Tests.{same_or_other, below_or_not, true_or_false, not_both}
use Rattle.circuits.specs.Limits.{most_wires}
use Rattle.pairs.specs.Lending.{lender_of}
use Rattle.writer.specs.Notes.{first_at, second_at}
use Rattle.writer.specs.Heads.{candidate, candidate_of, tried, tried_below, tried_takers, tried_moved, tried_both, Least}
use Rattle.writer.specs.declared.source.Source.{Source}
use Rattle.writer.proofs.Wires.{headed-length, headed_each}
use Rattle.writer.proofs.Ready.{may_tells, may_same}

-- ## The least of a list

pub least_first : (kept : List ℕ) → Least kept 1 (get_or kept 0 0)
least_first kept = record { one = (0, omega arith, refl); least = λ x l. (let e : x ≡ 0 = omega arith in let r = ap (λ z. get_or kept z 0) e in omega arith) }

-- one number more: the lower of the two
pub least_more : {kept : List ℕ} {x lowest new : ℕ} → Least kept x lowest → new ≤ lowest → new ≤ get_or kept x 0
    → (new < lowest → get_or kept x 0 ≡ new) → Least kept (x + 1) new
least_more {kept} {x} {lowest} {new} g under below same = record {
  one = elim (below_or_not new lowest) [
    | inl l ↦ (x, omega arith, same l)
    | inr l ↦ (g.one.0, omega (arith, g.one.1), omega (arith, g.one.2))
  ];
  least = λ y l. elim (same_or_other y x) [
    | inl e ↦ (let r = ap (λ z. get_or kept z 0) e in omega arith)
    | inr d ↦ (let r = g.least y (omega arith) in omega arith)
  ];
}

-- ## The candidates after a head was tried

module _ (s : Source) (indices : List ℕ) where
  pub tried-length : (x : ℕ) (kept : List ℕ) → length (tried s indices x kept) ≡ length kept
  unfolding tried
  tried-length x kept = elim (true_or_false (candidate s indices x)) [
    | inl h ↦ rw h (headed-length _ _ _ _ kept)
    | inr h ↦ rw h (length-set kept x _)
  ]

-- ## The candidates that are right

module _ (s : Source) (indices : List ℕ)
    (own : (x : ℕ) → x < most_wires → get_or indices x 0 < s.valid.instructions → (x ≡ first_at s.notes.now (get_or indices x 0)) ⊎ (x ≡ second_at s.notes.now (get_or indices x 0))) where
  abbrev may : ℕ → Type 0
  may x = candidate s indices x ≡ true

  -- what is kept of a wire is its candidate
  abbrev pub Right : List ℕ → ℕ → Type 0
  Right kept x = get_or kept x 0 ≡ candidate_of s indices x

  inside : (x : ℕ) → may x → get_or indices x 0 < s.valid.instructions
  inside x h = (may_tells s indices x h).inside

  -- the wires of a head that may be written have the same head
  shared : (x y : ℕ) → may x → (y ≡ first_at s.notes.now (get_or indices x 0)) ⊎ (y ≡ second_at s.notes.now (get_or indices x 0))
      → get_or indices x 0 ≡ candidate_of s indices y
  shared x y h w =
      let g = may_tells s indices x h in
      let same : get_or indices y 0 ≡ get_or indices x 0 = elim w [
        | inl e ↦ ap (λ z. get_or indices z 0) e ∙ g.first
        | inr e ↦ ap (λ z. get_or indices z 0) e ∙ g.second
      ] in
      rw (may_same s indices x y same h) (sym same)

  module _ (kept : List ℕ) (size : length kept ≡ most_wires) where
    tried_each : (x y : ℕ) → x < most_wires → ((y ≡ x) ⊎ Right kept y) ⊎ (may x × ((y ≡ first_at s.notes.now (get_or indices x 0)) ⊎ (y ≡ second_at s.notes.now (get_or indices x 0))))
        → Right (tried s indices x kept) y
    unfolding tried
    tried_each x y b r = elim (true_or_false (candidate s indices x)) [
      | inl h ↦ (let index = get_or indices x 0 in
          let l = s.low index (inside x h) in
          rw h (headed_each (λ z k. k ≡ candidate_of s indices z) (first_at s.notes.now index) (second_at s.notes.now index) index index kept
          (omega (arith, l.0)) (omega (arith, l.1)) (shared x _ h (inl refl)) (shared x _ h (inr refl)) y
          (λ f s'. elim r [
            | inl q ↦ elim q [
              | inl e ↦ absurd (elim (own x b (inside x h)) [ inl o ↦ f (e ∙ o) | inr o ↦ s' (e ∙ o) ])
              | inr k ↦ k
            ]
            | inr q ↦ absurd (elim q.1 [ inl o ↦ f o | inr o ↦ s' o ])
          ])))
      | inr h ↦ rw h (elim (same_or_other y x) [
        | inl e ↦ subst (λ z. get_or (set kept x s.valid.instructions) z 0 ≡ candidate_of s indices z) (sym e)
            (rw (h, get_or-set_same kept x s.valid.instructions 0 (omega arith)))
        | inr d ↦ rw (get_or-set_other kept x y s.valid.instructions 0 d) (elim r [
          | inl q ↦ elim q [ inl e ↦ absurd (d e) | inr k ↦ k ]
          | inr q ↦ absurd (not_both _ q.0 h)
        ])
      ])
    ]

  abbrev try : ℕ → List ℕ → List ℕ
  try = tried s indices

  -- a state of what is kept is no worse than another: as long, and what was right in the other is right in it
  pub record Better (old new : List ℕ) : Type 0 where
    pub sized : length new ≡ most_wires
    pub kept : (y : ℕ) → Right old y → Right new y

  pub better_same : {kept : List ℕ} → length kept ≡ most_wires → Better kept kept
  better_same size = record { sized = size; kept = λ y r. r }

  pub better_tried : (x : ℕ) {old kept : List ℕ} → x < most_wires → Better old kept → Better old (try x kept)
  better_tried x {old} {kept} b g = record {
    sized = tried-length s indices x kept ∙ g.sized;
    kept = λ y r. tried_each kept g.sized x y b (inl (inr (g.kept y r)));
  }

  pub tried_here : (x : ℕ) (kept : List ℕ) → length kept ≡ most_wires → x < most_wires → Right (try x kept) x
  tried_here x kept size b = tried_each kept size x x b (inl (inl refl))

  pub tried_shared : (x y : ℕ) (kept : List ℕ) → length kept ≡ most_wires → x < most_wires → may x
      → (y ≡ first_at s.notes.now (get_or indices x 0)) ⊎ (y ≡ second_at s.notes.now (get_or indices x 0)) → Right (try x kept) y
  tried_shared x y kept size b m w = tried_each kept size x y b (inr (m, w))

  -- ## All wires below a number

  pub better_below : (k : ℕ) (kept : List ℕ) → length kept ≡ most_wires → k ≤ most_wires → Better kept (tried_below s indices k kept)
  unfolding tried_below
  better_below zero kept size l = better_same size
  better_below (suc k) kept size l = better_tried k (omega arith) (better_below k kept size (omega arith))

  pub below_right : (k : ℕ) (kept : List ℕ) → length kept ≡ most_wires → k ≤ most_wires → (y : ℕ) → y < k
      → Right (tried_below s indices k kept) y
  unfolding tried_below
  below_right zero kept size l y b = absurd (omega arith)
  below_right (suc k) kept size l y b =
      let g = better_below k kept size (omega arith) in
      elim (same_or_other y k) [
        | inl e ↦ subst (Right (try k (tried_below s indices k kept))) (sym e) (tried_here k _ g.sized (omega arith))
        | inr d ↦ (better_tried k (omega arith) (better_same g.sized)).kept y (below_right k kept size (omega arith) y (omega arith))
      ]

  -- ## The takers of a wire

  module _ (lender : ℕ) where
    abbrev takers : ℕ → List ℕ → List ℕ
    takers = tried_takers s indices lender

    pub better_takers : (k : ℕ) {old : List ℕ} (kept : List ℕ) → k ≤ most_wires → Better old kept → Better old (takers k kept)
    unfolding tried_takers
    better_takers zero kept l g = g
    better_takers (suc k) kept l g =
        let r = better_takers k kept (omega arith) g in
        elim (true_or_false (eqb (lender_of s.lenders.lenders k) lender)) [ inl h ↦ rw h (better_tried k (omega arith) r) | inr h ↦ rw h r ]

    pub takers_right : (k : ℕ) (kept : List ℕ) → length kept ≡ most_wires → k ≤ most_wires → (y : ℕ) → y < k → lender_of s.lenders.lenders y ≡ lender → Right (takers k kept) y
    unfolding tried_takers
    takers_right zero kept size l y b e = absurd (omega arith)
    takers_right (suc k) kept size l y b e =
        let g = better_takers k kept (omega arith) (better_same size) in
        elim (same_or_other y k) [
          | inl q ↦ rw (eq-eqb _ _ (sym (ap (lender_of s.lenders.lenders) q) ∙ e)) (subst (Right (try k (takers k kept))) (sym q) (tried_here k _ g.sized (omega arith)))
          | inr d ↦ (let r = takers_right k kept size (omega arith) y (omega arith) e in
              elim (true_or_false (eqb (lender_of s.lenders.lenders k) lender)) [
                | inl h ↦ rw h ((better_tried k (omega arith) (better_same g.sized)).kept y r)
                | inr h ↦ rw h r
              ])
        ]

  -- ## The wires whose heads were moved

  -- what is kept of a wire is right, and what is kept of all wires whose candidates its head decides
  pub record Settled (x : ℕ) (kept : List ℕ) : Type 0 where
    pub here : Right kept x
    pub shared : (y : ℕ) → may x → (y ≡ first_at s.notes.now (get_or indices x 0)) ⊎ (y ≡ second_at s.notes.now (get_or indices x 0)) → Right kept y
    pub takers : s.valid.instructions ≤ get_or indices x 0 → (y : ℕ) → y < s.valid.width → lender_of s.lenders.lenders y ≡ x → Right kept y

  settled_better : (x : ℕ) {old new : List ℕ} → Better old new → Settled x old → Settled x new
  settled_better x g r = record {
    here = g.kept x r.here;
    shared = λ y m w. g.kept y (r.shared y m w);
    takers = λ h y l e. g.kept y (r.takers h y l e);
  }

  abbrev moved : ℕ → List ℕ → List ℕ
  moved = tried_moved s indices

  -- from what is kept after the wire itself was tried
  after_try : (x : ℕ) {old : List ℕ} (kept : List ℕ) → Better old (try x kept) → Better old (moved x kept)
  unfolding tried_moved
  after_try x kept g = elim (true_or_false (leb s.valid.instructions (get_or indices x 0))) [
    | inl h ↦ rw h (better_takers x s.valid.width (try x kept) s.narrow g)
    | inr h ↦ rw h g
  ]

  better_moved : (x : ℕ) → x < most_wires → {old kept : List ℕ} → Better old kept → Better old (moved x kept)
  better_moved x b {kept = kept} g = after_try x kept (better_tried x b g)

  moved_takers : (x : ℕ) (kept : List ℕ) → length kept ≡ most_wires → s.valid.instructions ≤ get_or indices x 0 → (y : ℕ) → y < s.valid.width → lender_of s.lenders.lenders y ≡ x
      → Right (moved x kept) y
  unfolding tried_moved
  moved_takers x kept size h y l e =
      rw (le-leb _ _ h) (takers_right x s.valid.width (try x kept) (tried-length s indices x kept ∙ size) s.narrow y l e)

  moved_settled : (x : ℕ) → x < most_wires → (kept : List ℕ) → length kept ≡ most_wires → Settled x (moved x kept)
  moved_settled x b kept size =
      let g = after_try x kept (better_same (tried-length s indices x kept ∙ size)) in
      record {
        here = g.kept x (tried_here x kept size b);
        shared = λ y m w. g.kept y (tried_shared x y kept size b m w);
        takers = moved_takers x kept size;
      }

  -- both wires of an instruction
  module _ (a b : ℕ) (la : a < most_wires) (lb : b < most_wires) (kept : List ℕ) (size : length kept ≡ most_wires) where
    first_better : Better kept (moved a kept)
    first_better = better_moved a la (better_same size)

    pub both_better : Better kept (tried_both s indices a b kept)
    unfolding tried_both
    both_better = elim (true_or_false (eqb a b)) [ inl h ↦ rw h first_better | inr h ↦ rw h (better_moved b lb first_better) ]

    pub both_settled : (x : ℕ) → (x ≡ a) ⊎ (x ≡ b) → Settled x (tried_both s indices a b kept)
    unfolding tried_both
    both_settled x w =
        let first = moved_settled a la kept size in
        elim (true_or_false (eqb a b)) [
          | inl h ↦ rw h (elim w [
            | inl e ↦ subst (λ z. Settled z (moved a kept)) (sym e) first
            | inr e ↦ subst (λ z. Settled z (moved a kept)) (eqb-true a b h ∙ sym e) first
          ])
          | inr h ↦ rw h (elim w [
            | inl e ↦ subst (λ z. Settled z (moved b (moved a kept))) (sym e) (settled_better a (better_moved b lb (better_same first_better.sized)) first)
            | inr e ↦ subst (λ z. Settled z (moved b (moved a kept))) (sym e) (moved_settled b lb (moved a kept) first_better.sized)
          ])
        ]
