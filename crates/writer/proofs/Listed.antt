-- The lenders that a pair list says, say the list's pairs again. Assumes nothing.
use Prim.Native.Nat.{ℕ, ◌≤◌, ◌<◌}
use mathlib.Core.Path.{◌≡◌, refl, sym, ap, subst, ◌∙◌}
use mathlib.Core.Logic.{inl, inr, ◌≢◌}
use mathlib.Core.Bool.{true}
use mathlib.Core.List.{List, [], ◌∷◌}
use native.Mathlib.Omega.{arith}
use borrow.Author.Tests.{ltb-true, lt-ltb}
use lib.Dec.{ltb}
use lib.ListN.{length, length-set, length-replicate, get_or-replicate}
use lib.Seq.{get_or-set_same, get_or-set_other, ext_get_or}
use Rattle.basics.proofs.Tests.{same_or_other}
use Rattle.orders.specs.Indices.{In, Once}
use Rattle.orders.specs.Runs.{Pair, SamePairs, takers_of}
use Rattle.orders.proofs.Indices.{in_or_out}
use Rattle.orders.proofs.Pairs.{taker_in}
use Rattle.circuits.specs.Limits.{most_wires}
use Rattle.pairs.specs.Lending.{nobody, lender_of, lenders_in, takes, pairs_of}
use Rattle.writer.proofs.Pairs.{pair_in, pair_says}
use Rattle.writer.proofs.Allowed.{in_takers}

-- the takers are wires
abbrev pub TakersLow : List Pair → Type 0
TakersLow ps = (l t : ℕ) → In (l, t) ps → t < most_wires

lenders_length : (ps : List Pair) → length (lenders_in ps) ≡ most_wires
unfolding lenders_in
lenders_length [] = length-replicate most_wires nobody
lenders_length (p ∷ ps) = length-set (lenders_in ps) p.1 p.0 ∙ lenders_length ps

-- with no pairs no wire has a lender
lender_nobody : (t : ℕ) → t < most_wires → lender_of (lenders_in []) t ≡ nobody
unfolding lenders_in
lender_nobody t h = get_or-replicate most_wires t nobody nobody h

-- a pair more is that taker's lender
lender_first : (p : Pair) (ps : List Pair) → p.1 < most_wires → lender_of (lenders_in (p ∷ ps)) p.1 ≡ p.0
unfolding lenders_in
lender_first p ps h = get_or-set_same (lenders_in ps) p.1 p.0 nobody (omega (arith, lenders_length ps))

-- and no other's
lender_other : (p : Pair) (ps : List Pair) (t : ℕ) → t ≢ p.1 → lender_of (lenders_in (p ∷ ps)) t ≡ lender_of (lenders_in ps) t
unfolding lenders_in
lender_other p ps t d = get_or-set_other (lenders_in ps) p.1 t p.0 nobody d

-- a pair of the list has its lender there, where each taker takes once
in_listed : (ps : List Pair) → Once (takers_of ps) → TakersLow ps → (l t : ℕ) → In (l, t) ps → lender_of (lenders_in ps) t ≡ l
in_listed [] once low l t h = absurd h
in_listed (p ∷ ps) once low l t (inl e) =
    let a : l ≡ p.0 = ap (λ (q : Pair). q.0) e in
    let b : t ≡ p.1 = ap (λ (q : Pair). q.1) e in
    ap (lender_of (lenders_in (p ∷ ps))) b ∙ lender_first p ps (low p.0 p.1 (inl refl)) ∙ sym a
in_listed (p ∷ ps) once low l t (inr h) =
    lender_other p ps t (λ e. once.0 (subst (λ z. In z (takers_of ps)) e (in_takers ps l t h)))
    ∙ in_listed ps once.1 (λ x y k. low x y (inr k)) l t h

-- one that takes from nobody has nobody there
out_listed : (ps : List Pair) (t : ℕ) → t < most_wires → ¬ In t (takers_of ps) → lender_of (lenders_in ps) t ≡ nobody
out_listed [] t l h = lender_nobody t l
out_listed (p ∷ ps) t l h = lender_other p ps t (λ e. h (inl e)) ∙ out_listed ps t l (λ k. h (inr k))

-- THEOREM: the same pairs in any order have the same lenders.
pub same_lenders : (ps qs : List Pair) → SamePairs ps qs → Once (takers_of ps) → Once (takers_of qs) → TakersLow ps → lenders_in ps ≡ lenders_in qs
same_lenders ps qs same a b low =
    ext_get_or nobody (lenders_in ps) (lenders_in qs) (lenders_length ps ∙ sym (lenders_length qs)) (λ t l. lender t (omega (arith, l, lenders_length ps)))
  where
    low_too : TakersLow qs
    low_too l t h = low l t ((same l t).1 h)

    lender : (t : ℕ) → t < most_wires → lender_of (lenders_in ps) t ≡ lender_of (lenders_in qs) t
    lender t l = elim (in_or_out t (takers_of ps)) [
      | inl h ↦ (let r = taker_in ps t h in
          in_listed ps a low r.0 t r.1 ∙ sym (in_listed qs b low_too r.0 t ((same r.0 t).0 r.1)))
      | inr n ↦ out_listed ps t l n ∙ sym (out_listed qs t l (λ h. let r = taker_in qs t h in n (in_takers ps r.0 t ((same r.0 t).1 r.1))))
    ]

-- a wire that takes by the lenders does so by the list
listed_in : (ps : List Pair) → TakersLow ps → (width t : ℕ) → width ≤ most_wires → t < width → takes (lenders_in ps) width t ≡ true
    → In (lender_of (lenders_in ps) t, t) ps
listed_in [] low width t narrow below e =
    let a : lender_of (lenders_in []) t < width = ltb-true _ _ e in
    let b = lender_nobody t (omega arith) in
    absurd (omega arith)
listed_in (p ∷ ps) low width t narrow below e = elim (same_or_other t p.1) [
  | inl q ↦ (let a : lender_of (lenders_in (p ∷ ps)) t ≡ p.0 = ap (lender_of (lenders_in (p ∷ ps))) q ∙ lender_first p ps (low p.0 p.1 (inl refl)) in
      inl (ap (λ l. (l, t)) a ∙ ap (λ z. (p.0, z)) q))
  | inr d ↦ (let a = lender_other p ps t d in
      inr (subst (λ l. In (l, t) ps) (sym a) (listed_in ps (λ x y k. low x y (inr k)) width t narrow below (ap (λ l. ltb l width) (sym a) ∙ e))))
]

-- THEOREM: the lenders say the pairs of the list, where each taker takes once and all are wires.
pub same_pairs : (ps : List Pair) (width : ℕ) → width ≤ most_wires → Once (takers_of ps) → ((l t : ℕ) → In (l, t) ps → (l < width) × (t < width))
    → SamePairs ps (pairs_of (lenders_in ps) width)
same_pairs ps width narrow once low l t = (there, back)
  where
    takers_low : TakersLow ps
    takers_low x y k = omega (arith, (low x y k).1)

    there : In (l, t) ps → In (l, t) (pairs_of (lenders_in ps) width)
    there h =
        let a = in_listed ps once takers_low l t h in
        subst (λ z. In (z, t) (pairs_of (lenders_in ps) width)) a
        (pair_says (lenders_in ps) width t (low l t h).1 (ap (λ z. ltb z width) a ∙ lt-ltb l width (low l t h).0))

    back : In (l, t) (pairs_of (lenders_in ps) width) → In (l, t) ps
    back h =
        let r = pair_in (lenders_in ps) width l t h in
        subst (λ z. In (z, t) ps) (sym r.is) (listed_in ps takers_low width t narrow r.taker r.takes)
