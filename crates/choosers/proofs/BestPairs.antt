-- The pair that the trials leave is the best: at each point of them it is the best of the pairs tried so far, which are those that come
-- earlier by lender, then taker. Assumes nothing.
use Prim.Native.Nat.{ℕ, zero, suc, ◌≤◌, ◌<◌}
use mathlib.Core.Path.{◌≡◌, refl, sym, ap, subst, ◌∙◌}
use mathlib.Core.Logic.{◌⊎◌, inl, inr}
use mathlib.Core.Bool.{Bool, true, false}
use mathlib.Core.Option.{Option, none, some, map, some-injective, none-ne-some, some-ne-none}
use native.Mathlib.Nat.{le_refl}
use native.Mathlib.Omega.{arith}
use borrow.Author.Tests.{ltb-true, ltb-false}
use lib.Dec.{ltb}
use Rattle.basics.specs.Choice.{pick}
use Rattle.basics.proofs.Tests.{not_both, refuted, same_or_other}
use Rattle.orders.specs.Runs.{Pair}
use Rattle.choosers.specs.Trying.{Tried, better, try_pair, try_takers, try_lenders, best_below, Best}

-- (l, t) comes before (u, v), by lender, then taker
abbrev Earlier : ℕ → ℕ → ℕ → ℕ → Type 0
Earlier u v l t = (l < u) ⊎ ((l ≡ u) × (t < v))

-- the pairs before the next one are those before, and this one
earlier_more : (u v l t : ℕ) → Earlier u (suc v) l t → Earlier u v l t ⊎ ((l ≡ u) × (t ≡ v))
earlier_more u v l t (inl h) = inl (inl h)
earlier_more u v l t (inr (e, h)) = elim (same_or_other t v) [ inl d ↦ inr (e, d) | inr d ↦ inl (inr (e, omega arith)) ]

earlier_next : (u v l t : ℕ) → Earlier u v l t → Earlier u (suc v) l t
earlier_next u v l t (inl h) = inl h
earlier_next u v l t (inr (e, h)) = inr (e, omega arith)

-- (a, b) is not after (l, t)
abbrev NotAfter : ℕ → ℕ → ℕ → ℕ → Type 0
NotAfter a b l t = (a < l) ⊎ ((a ≡ l) × (b ≤ t))

module _ (mark : ℕ → ℕ → Bool) (score : ℕ → ℕ → ℕ) where
  -- b is the best of the pairs before (u, v)
  record Leads (u v : ℕ) (b : Tried) : Type 0 where
    scored : b.score ≡ score b.pair.0 b.pair.1
    is_yes : mark b.pair.0 b.pair.1 ≡ true
    among : Earlier u v b.pair.0 b.pair.1
    highest : (l t : ℕ) → Earlier u v l t → mark l t ≡ true → score l t ≤ b.score
    lowest : (l t : ℕ) → Earlier u v l t → mark l t ≡ true → score l t ≡ b.score → NotAfter b.pair.0 b.pair.1 l t

  -- the best of them, or none where none of them is yes
  abbrev Led : ℕ → ℕ → Option Tried → Type 0
  Led u v none = (l t : ℕ) → Earlier u v l t → mark l t ≡ false
  Led u v (some b) = Leads u v b

  module _ (u v : ℕ) where
    -- what holds of the earlier ones and of this one
    one_more : (P : ℕ → ℕ → Type 0) → ((l t : ℕ) → Earlier u v l t → P l t) → P u v → (l t : ℕ) → Earlier u (suc v) l t → P l t
    one_more P h here l t k = elim (earlier_more u v l t k) [
      | inl e ↦ h l t e
      | inr (d, e) ↦ subst (λ (x : ℕ). P x t) (sym d) (subst (λ (x : ℕ). P u x) (sym e) here)
    ]

    -- a pair that is not yes changes nothing
    passed : mark u v ≡ false → (o : Option Tried) → Led u v o → Led u (suc v) o
    passed skip none h = one_more (λ l t. mark l t ≡ false) h skip
    passed skip (some b) h = record {
      scored = h.scored;
      is_yes = h.is_yes;
      among = earlier_next u v _ _ h.among;
      highest = one_more (λ l t. mark l t ≡ true → score l t ≤ b.score) h.highest (λ k. absurd (not_both (mark u v) k skip));
      lowest = one_more (λ l t. mark l t ≡ true → score l t ≡ b.score → NotAfter b.pair.0 b.pair.1 l t) h.lowest (λ k. absurd (not_both (mark u v) k skip));
    }

    abbrev new : Tried
    new = record { pair = (u, v); score = score u v }

    module _ (is : mark u v ≡ true) where
      -- a first yes, or a higher score, leads
      leads_new : ((l t : ℕ) → Earlier u v l t → mark l t ≡ true → score l t < score u v) → Leads u (suc v) new
      leads_new h = record {
        scored = refl;
        is_yes = is;
        among = inr (refl, le_refl (suc v));
        highest = one_more (λ l t. mark l t ≡ true → score l t ≤ score u v) (λ l t e k. let b = h l t e k in omega arith) (λ k. le_refl (score u v));
        lowest = one_more (λ l t. mark l t ≡ true → score l t ≡ score u v → NotAfter u v l t) (λ l t e k s. let b = h l t e k in absurd (omega arith)) (λ k s. inr (refl, le_refl v));
      }

      -- on a tie the earlier one stays
      leads_still : (b : Tried) → Leads u v b → score u v ≤ b.score → Leads u (suc v) b
      leads_still b h le = record {
        scored = h.scored;
        is_yes = h.is_yes;
        among = earlier_next u v _ _ h.among;
        highest = one_more (λ l t. mark l t ≡ true → score l t ≤ b.score) h.highest (λ k. le);
        lowest = one_more (λ l t. mark l t ≡ true → score l t ≡ b.score → NotAfter b.pair.0 b.pair.1 l t) h.lowest (λ k s. elim h.among [
          | inl a ↦ inl a
          | inr (d, a) ↦ inr (d, omega arith)
        ]);
      }

      tried : (o : Option Tried) → Led u v o → Led u (suc v) (better o new)
      tried none h = leads_new (λ l t e k. absurd (not_both (mark l t) k (h l t e)))
      tried (some b) h = go (ltb b.score (score u v)) refl
        where
          go : (c : Bool) → ltb b.score (score u v) ≡ c → Leads u (suc v) (pick (ltb b.score (score u v)) new b)
          go true e = rw e (leads_new (λ l t a k. let s = h.highest l t a k in let m = ltb-true b.score (score u v) e in omega arith))
          go false e = rw e (leads_still b h (ltb-false b.score (score u v) e))

    try_pair_lem : (o : Option Tried) → Led u v o → Led u (suc v) (try_pair mark score u v o)
    try_pair_lem o h = go (mark u v) refl
      where
        go : (c : Bool) → mark u v ≡ c → Led u (suc v) (try_pair mark score u v o)
        go true e = subst (λ (c : Bool). Led u (suc v) (pick c (better o new) o)) (sym e) (tried e o h)
        go false e = subst (λ (c : Bool). Led u (suc v) (pick c (better o new) o)) (sym e) (passed e o h)

  try_takers_lem : (u v : ℕ) (o : Option Tried) → Led u 0 o → Led u v (try_takers mark score u v o)
  unfolding try_takers
  try_takers_lem u zero o h = h
  try_takers_lem u (suc v) o h = try_pair_lem u v (try_takers mark score u v o) (try_takers_lem u v o h)

  -- yes marks are below the width only
  module _ (w : ℕ) (within : (l t : ℕ) → mark l t ≡ true → (l < w) × (t < w)) where
    -- after the last taker of a lender comes the next lender
    row_earlier : (u l t : ℕ) → Earlier (suc u) 0 l t → mark l t ≡ true → Earlier u w l t
    row_earlier u l t (inl h) m = elim (same_or_other l u) [ inl e ↦ inr (e, (within l t m).1) | inr d ↦ inl (omega arith) ]
    row_earlier u l t (inr (e, h)) m = absurd (omega arith)

    earlier_row : (u l t : ℕ) → Earlier u w l t → Earlier (suc u) 0 l t
    earlier_row u l t (inl h) = inl (omega arith)
    earlier_row u l t (inr (e, h)) = inl (omega arith)

    next_lender : (u : ℕ) (o : Option Tried) → Led u w o → Led (suc u) 0 o
    next_lender u none h = λ l t e. refuted (mark l t) (λ m. not_both (mark l t) m (h l t (row_earlier u l t e m)))
    next_lender u (some b) h = record {
      scored = h.scored;
      is_yes = h.is_yes;
      among = earlier_row u _ _ h.among;
      highest = λ l t e m. h.highest l t (row_earlier u l t e m) m;
      lowest = λ l t e m. h.lowest l t (row_earlier u l t e m) m;
    }

    try_lenders_lem : (u : ℕ) → Led u 0 (try_lenders mark score w u)
    unfolding try_lenders
    try_lenders_lem zero = λ l t e. elim e [ inl h ↦ absurd (omega arith) | inr (d, h) ↦ absurd (omega arith) ]
    try_lenders_lem (suc u) = next_lender u (try_takers mark score u w (try_lenders mark score w u)) (try_takers_lem u w (try_lenders mark score w u) (try_lenders_lem u))

    -- THEOREM: what is chosen is the best pair.
    pub best_found : (p : Pair) → best_below mark score w ≡ some p → Best mark score p
    best_found p = go (try_lenders mark score w w) (try_lenders_lem w)
      where
        all : (b : Tried) → Leads w 0 b → Best mark score b.pair
        all b h = record {
          is_yes = h.is_yes;
          highest = λ l t m. subst (λ (x : ℕ). score l t ≤ x) h.scored (h.highest l t (inl (within l t m).0) m);
          lowest = λ l t m s. let same : score l t ≡ b.score = cc in h.lowest l t (inl (within l t m).0) m same;
        }

        go : (o : Option Tried) → Led w 0 o → map (λ (b : Tried). b.pair) o ≡ some p → Best mark score p
        go none h e = absurd (none-ne-some p e)
        go (some b) h e = subst (λ (q : Pair). Best mark score q) (some-injective b.pair p e) (all b h)

    -- THEOREM: none is chosen only where no yes is left.
    pub best_none : best_below mark score w ≡ none → (l t : ℕ) → mark l t ≡ false
    best_none = go (try_lenders mark score w w) (try_lenders_lem w)
      where
        go : (o : Option Tried) → Led w 0 o → map (λ (b : Tried). b.pair) o ≡ none → (l t : ℕ) → mark l t ≡ false
        go none h e = λ l t. refuted (mark l t) (λ m. not_both (mark l t) m (h l t (inl (within l t m).0)))
        go (some b) h e = absurd (some-ne-none b.pair e)

    -- and where no yes is left, none is
    pub none_best : ((l t : ℕ) → mark l t ≡ false) → best_below mark score w ≡ none
    none_best none-yes = go (best_below mark score w) refl
      where
        go : (o : Option Pair) → best_below mark score w ≡ o → best_below mark score w ≡ none
        go none e = e
        go (some p) e = absurd (not_both (mark p.0 p.1) (best_found p e).is_yes (none-yes p.0 p.1))

  -- THEOREM: there is one best pair.
  pub best_one : (p q : Pair) → Best mark score p → Best mark score q → p ≡ q
  best_one p q h k =
      let le : score q.0 q.1 ≤ score p.0 p.1 = h.highest q.0 q.1 k.is_yes in
      let ge : score p.0 p.1 ≤ score q.0 q.1 = k.highest p.0 p.1 h.is_yes in
      let same : score q.0 q.1 ≡ score p.0 p.1 = omega arith in
      both_ways (h.lowest q.0 q.1 k.is_yes same) (k.lowest p.0 p.1 h.is_yes (sym same))
    where
      both_ways : NotAfter p.0 p.1 q.0 q.1 → NotAfter q.0 q.1 p.0 p.1 → p ≡ q
      both_ways (inl a) (inl b) = absurd (omega arith)
      both_ways (inl a) (inr (e, b)) = absurd (omega arith)
      both_ways (inr (d, a)) (inl b) = absurd (omega arith)
      both_ways (inr (d, a)) (inr (e, b)) = let t : p.1 ≡ q.1 = omega arith in λ i. (d i, t i)

-- scores matter where the mark is yes alone
module _ (mark : ℕ → ℕ → Bool) (f g : ℕ → ℕ → ℕ) (same : (l t : ℕ) → mark l t ≡ true → f l t ≡ g l t) where
  pair_same : (u v : ℕ) (o : Option Tried) → try_pair mark f u v o ≡ try_pair mark g u v o
  pair_same u v o = go (mark u v) refl
    where
      go : (c : Bool) → mark u v ≡ c → try_pair mark f u v o ≡ try_pair mark g u v o
      go true e = rw e (ap (λ (n : ℕ). better o (record { pair = (u, v); score = n })) (same u v e))
      go false e = rw e

  takers_same : (u v : ℕ) (o : Option Tried) → try_takers mark f u v o ≡ try_takers mark g u v o
  unfolding try_takers
  takers_same u zero o = refl
  takers_same u (suc v) o = pair_same u v (try_takers mark f u v o) ∙ ap (try_pair mark g u v) (takers_same u v o)

  lenders_same : (w u : ℕ) → try_lenders mark f w u ≡ try_lenders mark g w u
  unfolding try_lenders
  lenders_same w zero = refl
  lenders_same w (suc u) = takers_same u w (try_lenders mark f w u) ∙ ap (try_takers mark g u w) (lenders_same w u)

  pub best_same : (w : ℕ) → best_below mark f w ≡ best_below mark g w
  best_same w = ap (map (λ (b : Tried). b.pair)) (lenders_same w w)
