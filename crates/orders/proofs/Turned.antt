-- The order of a pair list does not matter: what is allowed, or maximal, with the latest pair first is so in the order chosen, and the
-- pairs before a pair are allowed without it. Assumes nothing.
use Prim.Native.Nat.{ℕ}
use mathlib.Core.Path.{◌≡◌, refl, sym, subst, ◌∙◌}
use mathlib.Core.Logic.{◌⊎◌, inl, inr}
use mathlib.Core.List.{List, [], ◌∷◌, ◌++◌, reverse, reverse_aux, append-nil}
use Rattle.orders.specs.Indices.{In, Once}
use Rattle.orders.specs.Runs.{Circuit, Pair, Allowed, SamePairs, lenders_of, takers_of}
use Rattle.orders.specs.Rounds.{Maximal}
use Rattle.orders.proofs.Runs.{runs_dropped, runs_same}

-- ---- what stands in a list that is turned

in_turned : {A : Type 0} (a : A) (xs ys : List A) → In a (reverse_aux xs ys) → In a xs ⊎ In a ys
in_turned a [] ys h = inr h
in_turned a (x ∷ xs) ys h = elim (in_turned a xs (x ∷ ys) h) [
  | inl k ↦ inl (inr k)
  | inr (inl e) ↦ inl (inl e)
  | inr (inr k) ↦ inr k
]

turned_in : {A : Type 0} (a : A) (xs ys : List A) → In a xs ⊎ In a ys → In a (reverse_aux xs ys)
turned_in a [] ys (inl h) = absurd h
turned_in a [] ys (inr h) = h
turned_in a (x ∷ xs) ys (inl (inl e)) = turned_in a xs (x ∷ ys) (inr (inl e))
turned_in a (x ∷ xs) ys (inl (inr k)) = turned_in a xs (x ∷ ys) (inl k)
turned_in a (x ∷ xs) ys (inr k) = turned_in a xs (x ∷ ys) (inr (inr k))

once_turned : {A : Type 0} (xs ys : List A) → Once xs → Once ys → ((a : A) → In a xs → In a ys → ⊥) → Once (reverse_aux xs ys)
once_turned [] ys o p apart = p
once_turned (x ∷ xs) ys o p apart = once_turned xs (x ∷ ys) o.1 (apart x (inl refl), p) (λ a h k. elim k [
  | inl e ↦ o.0 (subst (λ z. In z xs) e h)
  | inr m ↦ apart a (inr h) m
])

turned_twice : {A : Type 0} (xs ys zs : List A) → reverse_aux (reverse_aux xs ys) zs ≡ reverse_aux ys (xs ++ zs)
turned_twice [] ys zs = refl
turned_twice (x ∷ xs) ys zs = turned_twice xs (x ∷ ys) zs

pub reverse_twice : {A : Type 0} (xs : List A) → reverse (reverse xs) ≡ xs
reverse_twice xs = turned_twice xs [] [] ∙ append-nil xs

lenders_turned : (ps qs : List Pair) → lenders_of (reverse_aux ps qs) ≡ reverse_aux (lenders_of ps) (lenders_of qs)
lenders_turned [] qs = refl
lenders_turned (p ∷ ps) qs = lenders_turned ps (p ∷ qs)

takers_turned : (ps qs : List Pair) → takers_of (reverse_aux ps qs) ≡ reverse_aux (takers_of ps) (takers_of qs)
takers_turned [] qs = refl
takers_turned (p ∷ ps) qs = takers_turned ps (p ∷ qs)

-- ---- pairs

module _ (C : Circuit) where
  allowed_same : (ps qs : List Pair) → SamePairs ps qs → Once (lenders_of qs) → Once (takers_of qs) → Allowed C ps → Allowed C qs
  allowed_same ps qs same lends takes a = record {
    between = λ l t h. a.between l t ((same l t).1 h);
    lend_once = lends;
    take_once = takes;
    runs = (runs_same C ps qs same).0 a.runs;
  }

  -- a pair dropped, the others are still allowed
  allowed_dropped : (p : Pair) (ps : List Pair) → Allowed C (p ∷ ps) → Allowed C ps
  allowed_dropped p ps a = record {
    between = λ l t h. a.between l t (inr h);
    lend_once = a.lend_once.1;
    take_once = a.take_once.1;
    runs = runs_dropped C p ps a.runs;
  }

  -- so are they with the pairs of a longer list left out that came later
  pub allowed_before : (ps qs : List Pair) → Allowed C (reverse_aux ps qs) → Allowed C qs
  allowed_before [] qs a = a
  allowed_before (p ∷ ps) qs a = allowed_dropped p qs (allowed_before ps (p ∷ qs) a)

  module _ (ps : List Pair) where
    pub same_turned : SamePairs ps (reverse ps)
    same_turned l t = (λ h. turned_in (l, t) ps [] (inl h), λ h. elim (in_turned (l, t) ps [] h) [ inl k ↦ k | inr k ↦ absurd k ])

    once : (xs : List ℕ) → Once xs → Once (reverse xs)
    once xs o = once_turned xs [] o tt (λ a h k. k)

    pub allowed_turned : Allowed C ps → Allowed C (reverse ps)
    allowed_turned a =
        allowed_same ps (reverse ps) same_turned
        (subst (λ (xs : List ℕ). Once xs) (sym (lenders_turned ps [])) (once (lenders_of ps) a.lend_once))
        (subst (λ (xs : List ℕ). Once xs) (sym (takers_turned ps [])) (once (takers_of ps) a.take_once))
        a

    -- a lender, or a taker, that is new to the turned list is new to the list
    new_to : (x : ℕ) (xs ys : List ℕ) → ys ≡ reverse xs → (In x ys → ⊥) → In x xs → ⊥
    new_to x xs ys e fresh h = fresh (subst (λ z. In x z) (sym e) (turned_in x xs [] (inl h)))

    more : (l t : ℕ) → SamePairs ((l, t) ∷ reverse ps) ((l, t) ∷ ps)
    more l t u v = (
      λ h. elim h [ inl e ↦ inl e | inr k ↦ inr ((same_turned u v).1 k) ],
      λ h. elim h [ inl e ↦ inl e | inr k ↦ inr ((same_turned u v).0 k) ],
    )

    pub maximal_turned : Maximal C ps → Maximal C (reverse ps)
    maximal_turned max = record {
      allowed = allowed_turned max.allowed;
      no_more = λ l t a.
          max.no_more l t
          (allowed_same ((l, t) ∷ reverse ps) ((l, t) ∷ ps) (more l t)
          (new_to l (lenders_of ps) _ (lenders_turned ps []) a.lend_once.0, max.allowed.lend_once)
          (new_to t (takers_of ps) _ (takers_turned ps []) a.take_once.0, max.allowed.take_once)
          a);
    }
