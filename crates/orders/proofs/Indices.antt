-- Laws of lists of indices: before is a strict order; one more put into a list, anywhere; the tests on a list; the numbers from k on;
-- and that a list of n different numbers below n has them all. Assumes nothing.
use Prim.Native.Nat.{ℕ, zero, suc, ◌+◌, ◌≤◌, ◌<◌}
use mathlib.Core.Path.{◌≡◌, refl, sym, ◌∙◌, ap, subst}
use mathlib.Core.Logic.{◌⊎◌, inl, inr, ◌≢◌}
use mathlib.Core.Bool.{Bool, true, false, false≢true}
use mathlib.Core.List.{List, [], ◌∷◌, ◌++◌}
use native.Mathlib.Omega.{arith}
use lib.ListN.{length}
use lib.Dec.{eqb}
use borrow.Author.Tests.{eqb-true, eq-eqb}
use Rattle.basics.proofs.Tests.{true_or_false, not_both, both, and_intro, either, or_left, or_right, same_or_other}
use Rattle.orders.specs.Indices.{In, Before, Once, Order, any, every, stands, from}

-- ## Before is a strict order on a list in which nothing stands twice

pub before_left : (i j : ℕ) (xs : List ℕ) → Before i j xs → In i xs
before_left i j [] h = absurd h
before_left i j (x ∷ xs) (inl h) = inl h.0
before_left i j (x ∷ xs) (inr h) = inr (before_left i j xs h)

pub before_right : (i j : ℕ) (xs : List ℕ) → Before i j xs → In j xs
before_right i j [] h = absurd h
before_right i j (x ∷ xs) (inl h) = inr h.1
before_right i j (x ∷ xs) (inr h) = inr (before_right i j xs h)

pub before_trans : (i j k : ℕ) (xs : List ℕ) → Once xs → Before i j xs → Before j k xs → Before i k xs
before_trans i j k [] o a b = absurd a
before_trans i j k (x ∷ xs) o (inl a) (inl b) = inl (a.0, b.1)
before_trans i j k (x ∷ xs) o (inl a) (inr b) = inl (a.0, before_right j k xs b)
before_trans i j k (x ∷ xs) o (inr a) (inl b) = absurd (o.0 (subst (λ z. In z xs) b.0 (before_right i j xs a)))
before_trans i j k (x ∷ xs) o (inr a) (inr b) = inr (before_trans i j k xs o.1 a b)

pub before_irrefl : (i : ℕ) (xs : List ℕ) → Once xs → Before i i xs → ⊥
before_irrefl i [] o h = h
before_irrefl i (x ∷ xs) o (inl h) = o.0 (subst (λ z. In z xs) h.0 h.1)
before_irrefl i (x ∷ xs) o (inr h) = before_irrefl i xs o.1 h

-- ## Two lists, one behind the other

pub in_left : (a : ℕ) (xs ys : List ℕ) → In a xs → In a (xs ++ ys)
in_left a [] ys h = absurd h
in_left a (x ∷ xs) ys (inl e) = inl e
in_left a (x ∷ xs) ys (inr h) = inr (in_left a xs ys h)

pub in_right : (a : ℕ) (xs ys : List ℕ) → In a ys → In a (xs ++ ys)
in_right a [] ys h = h
in_right a (x ∷ xs) ys h = inr (in_right a xs ys h)

pub before_right_part : (i j : ℕ) (xs ys : List ℕ) → Before i j ys → Before i j (xs ++ ys)
before_right_part i j [] ys h = h
before_right_part i j (x ∷ xs) ys h = inr (before_right_part i j xs ys h)

pub before_across : (i j : ℕ) (xs ys : List ℕ) → In i xs → In j ys → Before i j (xs ++ ys)
before_across i j [] ys a b = absurd a
before_across i j (x ∷ xs) ys (inl e) b = inl (e, in_right j xs ys b)
before_across i j (x ∷ xs) ys (inr a) b = inr (before_across i j xs ys a b)

-- ## One more put into a list: at its front, or anywhere later

pub data Put (a : ℕ) : List ℕ → List ℕ → Type 0 where
  first : {xs : List ℕ} → Put a xs (a ∷ xs)
  further : {x : ℕ} {xs ys : List ℕ} → Put a xs ys → Put a (x ∷ xs) (x ∷ ys)

pub put_between : (a : ℕ) (xs ys : List ℕ) → Put a (xs ++ ys) (xs ++ a ∷ ys)
put_between a [] ys = first
put_between a (x ∷ xs) ys = further (put_between a xs ys)

pub put_last : (a : ℕ) (xs : List ℕ) → Put a xs (xs ++ a ∷ [])
put_last a [] = first
put_last a (x ∷ xs) = further (put_last a xs)

-- what stands in a list was put into the rest of it
pub put_out : (a : ℕ) (ys : List ℕ) → In a ys → (xs : List ℕ) × Put a xs ys
put_out a [] h = absurd h
put_out a (y ∷ ys) (inl e) = (ys, subst (λ z. Put a ys (z ∷ ys)) e first)
put_out a (y ∷ ys) (inr h) = let r = put_out a ys h in (y ∷ r.0, further r.1)

pub put_in : {a : ℕ} {xs ys : List ℕ} → Put a xs ys → (b : ℕ) → In b xs → In b ys
put_in first b h = inr h
put_in (further p) b (inl e) = inl e
put_in (further p) b (inr h) = inr (put_in p b h)

pub put_there : {a : ℕ} {xs ys : List ℕ} → Put a xs ys → In a ys
put_there first = inl refl
put_there (further p) = inr (put_there p)

pub in_put : {a : ℕ} {xs ys : List ℕ} → Put a xs ys → (b : ℕ) → In b ys → (b ≡ a) ⊎ In b xs
in_put first b h = h
in_put (further p) b (inl e) = inr (inl e)
in_put (further p) b (inr h) = elim (in_put p b h) [ inl e ↦ inl e | inr k ↦ inr (inr k) ]

pub put_before : {a : ℕ} {xs ys : List ℕ} → Put a xs ys → (i j : ℕ) → Before i j xs → Before i j ys
put_before first i j h = inr h
put_before (further p) i j (inl h) = inl (h.0, put_in p j h.1)
put_before (further p) i j (inr h) = inr (put_before p i j h)

pub before_put : {a : ℕ} {xs ys : List ℕ} → Put a xs ys → (i j : ℕ) → i ≢ a → j ≢ a → Before i j ys → Before i j xs
before_put first i j u v (inl h) = absurd (u h.0)
before_put first i j u v (inr h) = h
before_put (further p) i j u v (inl h) = elim (in_put p j h.1) [ inl e ↦ absurd (v e) | inr k ↦ inl (h.0, k) ]
before_put (further p) i j u v (inr h) = inr (before_put p i j u v h)

pub put_once : {a : ℕ} {xs ys : List ℕ} → Put a xs ys → ¬ In a xs → Once xs → Once ys
put_once first n o = (n, o)
put_once (further {x = x} p) n o = (
  λ h. elim (in_put p x h) [ inl e ↦ n (inl (sym e)) | inr k ↦ o.0 k ],
  put_once p (λ h. n (inr h)) o.1,
)

pub once_put : {a : ℕ} {xs ys : List ℕ} → Put a xs ys → Once ys → (¬ In a xs) × Once xs
once_put first o = o
once_put {a} (further {x = x} {xs = xs} {ys = ys} p) o = let r = once_put p o.1 in (
  λ h. elim h [ inl e ↦ o.0 (subst (λ z. In z ys) e (put_there p)) | inr k ↦ r.0 k ],
  (λ h. o.0 (put_in p x h), r.1),
)

put_length : {a : ℕ} {xs ys : List ℕ} → Put a xs ys → length ys ≡ suc (length xs)
put_length first = refl
put_length (further p) = ap suc (put_length p)

-- ## Tests on a list

pub any_in : {A : Type 0} (p : A → Bool) (a : A) (xs : List A) → In a xs → p a ≡ true → any p xs ≡ true
unfolding any
any_in p a [] h t = absurd h
any_in p a (x ∷ xs) (inl e) t = or_left (p x) (any p xs) (subst (λ z. p z ≡ true) e t)
any_in p a (x ∷ xs) (inr h) t = or_right (p x) (any p xs) (any_in p a xs h t)

pub any_which : {A : Type 0} (p : A → Bool) (xs : List A) → any p xs ≡ true → (a : A) × In a xs × (p a ≡ true)
unfolding any
any_which p [] h = absurd (false≢true h)
any_which {A} p (x ∷ xs) h = go (any_which p xs) (either (p x) (any p xs) h)
  where
    go : (any p xs ≡ true → (a : A) × In a xs × (p a ≡ true)) → (p x ≡ true) ⊎ (any p xs ≡ true) → (a : A) × In a (x ∷ xs) × (p a ≡ true)
    go ih (inl e) = (x, inl refl, e)
    go ih (inr m) = let r = ih m in (r.0, inr r.1, r.2)

pub every_at : {A : Type 0} (p : A → Bool) (xs : List A) → every p xs ≡ true → (a : A) → In a xs → p a ≡ true
unfolding every
every_at p [] h a k = absurd k
every_at p (x ∷ xs) h a (inl e) = subst (λ z. p z ≡ true) (sym e) (both (p x) (every p xs) h).0
every_at p (x ∷ xs) h a (inr k) = every_at p xs (both (p x) (every p xs) h).1 a k

pub every_from : {A : Type 0} (p : A → Bool) (xs : List A) → ((a : A) → In a xs → p a ≡ true) → every p xs ≡ true
unfolding every
every_from p [] h = refl
every_from p (x ∷ xs) h = and_intro (p x) (every p xs) (h x (inl refl)) (every_from p xs (λ a k. h a (inr k)))

pub stands_in : (i : ℕ) (xs : List ℕ) → stands i xs ≡ true → In i xs
unfolding stands
stands_in i xs h = let r = any_which (eqb i) xs h in subst (λ z. In z xs) (sym (eqb-true i r.0 r.2)) r.1

pub in_stands : (i : ℕ) (xs : List ℕ) → In i xs → stands i xs ≡ true
unfolding stands
in_stands i xs h = any_in (eqb i) i xs h (eq-eqb i i refl)

pub in_or_out : (i : ℕ) (xs : List ℕ) → In i xs ⊎ (¬ In i xs)
in_or_out i xs = elim (true_or_false (stands i xs)) [
  | inl t ↦ inl (stands_in i xs t)
  | inr f ↦ inr (λ h. not_both (stands i xs) (in_stands i xs h) f)
]

-- The first member that passes: none before it does.
pub record First (p : ℕ → Bool) (xs : List ℕ) : Type 0 where
  pub at : ℕ
  pub among : In at xs
  pub passes : p at ≡ true
  pub before : (i : ℕ) → Before i at xs → p i ≡ false

pub first_or_none : (p : ℕ → Bool) (xs : List ℕ) → Once xs → First p xs ⊎ ((i : ℕ) → In i xs → p i ≡ false)
first_or_none p [] o = inr (λ i h. absurd h)
first_or_none p (x ∷ xs) o = elim (true_or_false (p x)) [
  | inl t ↦ inl (record {
    at = x;
    among = inl refl;
    passes = t;
    before = λ i h. absurd (before_irrefl x (x ∷ xs) o (elim h [ inl e ↦ inl (refl, e.1) | inr b ↦ inl (refl, before_right i x xs b) ]));
  })
  | inr f ↦ elim (first_or_none p xs o.1) [
    | inl r ↦ inl (record {
      at = r.at;
      among = inr r.among;
      passes = r.passes;
      before = λ i h. elim h [ inl e ↦ subst (λ z. p z ≡ false) (sym e.0) f | inr b ↦ r.before i b ];
    })
    | inr n ↦ inr (λ i h. elim h [ inl e ↦ subst (λ z. p z ≡ false) (sym e) f | inr k ↦ n i k ])
  ]
]

-- ## The numbers from k on

pub from_in : (k c i : ℕ) → k ≤ i → i < k + c → In i (from k c)
unfolding from
from_in k zero i a b = absurd (omega arith)
from_in k (suc c) i a b = elim (same_or_other i k) [ inl e ↦ inl e | inr d ↦ inr (from_in (suc k) c i (omega arith) (omega arith)) ]

pub in_from : (k c i : ℕ) → In i (from k c) → (k ≤ i) × (i < k + c)
unfolding from
in_from k zero i h = absurd h
in_from k (suc c) i (inl e) = (omega arith, omega arith)
in_from k (suc c) i (inr h) = let r = in_from (suc k) c i h in (omega arith, omega arith)

from_once : (k c : ℕ) → Once (from k c)
unfolding from
from_once k zero = tt
from_once k (suc c) = (λ h. let r = in_from (suc k) c k h in omega arith, from_once (suc k) c)

from_before : (k c i j : ℕ) → k ≤ i → i < j → j < k + c → Before i j (from k c)
unfolding from
from_before k zero i j a b h = absurd (omega arith)
from_before k (suc c) i j a b h =
    elim (same_or_other i k) [
      | inl e ↦ inl (e, from_in (suc k) c j (omega arith) (omega arith))
      | inr d ↦ inr (from_before (suc k) c i j (omega arith) b (omega arith))
    ]

pub from-length : (k c : ℕ) → length (from k c) ≡ c
unfolding from
from-length k zero = refl
from-length k (suc c) = ap suc (from-length (suc k) c)

pub from_last : (k c : ℕ) → from k c ++ (k + c) ∷ [] ≡ from k (suc c)
unfolding from
from_last k zero = let e : k + 0 ≡ k = omega arith in ap (λ z. z ∷ []) e
from_last k (suc c) =
    let e : k + suc c ≡ suc k + c = omega arith in
    ap (λ z. k ∷ z) (ap (λ z. from (suc k) c ++ z ∷ []) e ∙ from_last (suc k) c)

pub input_order_lem : (n : ℕ) → Order n (from 0 n)
input_order_lem n = record {
  all = λ i h. from_in 0 n i (omega arith) (omega arith);
  only = λ i h. let r = in_from 0 n i h in omega arith;
  once = from_once 0 n;
}

-- the input order has the lower index first
pub input_before : (n i j : ℕ) → i < j → j < n → Before i j (from 0 n)
input_before n i j a b = from_before 0 n i j (omega arith) a (omega arith)

-- ## Counting: different members of a list are no more than the list has

pub once_fits : (xs ys : List ℕ) → Once xs → ((a : ℕ) → In a xs → In a ys) → length xs ≤ length ys
once_fits [] ys o h = omega arith
once_fits (x ∷ xs) ys o h =
    let r = put_out x ys (h x (inl refl)) in
    let rest : ((a : ℕ) → In a xs → In a r.0) =
    λ a k. elim (in_put r.1 a (h a (inr k))) [ inl e ↦ absurd (o.0 (subst (λ z. In z xs) e k)) | inr m ↦ m ] in
    omega (arith, once_fits xs r.0 o.1 rest, put_length r.1)

-- different numbers below n are at most n
pub once_below : (n : ℕ) (xs : List ℕ) → Once xs → ((i : ℕ) → In i xs → i < n) → length xs ≤ n
once_below n xs o h = omega (arith, once_fits xs (from 0 n) o (λ a k. (input_order_lem n).all a (h a k)), from-length 0 n)

-- and n of them are all
pub once_full : (n : ℕ) (xs : List ℕ) → Once xs → ((i : ℕ) → In i xs → i < n) → length xs ≡ n → (i : ℕ) → i < n → In i xs
once_full n xs o h e i l = elim (in_or_out i xs) [
  | inl k ↦ k
  | inr m ↦ absurd (
      let b = once_below n (i ∷ xs) (m, o) (λ a k. elim k [ inl q ↦ subst (λ z. z < n) (sym q) l | inr w ↦ h a w ]) in
      omega (arith, b)
      )
]

-- a list that has all numbers below n has n at least
pub full_length : (n : ℕ) (xs : List ℕ) → ((i : ℕ) → i < n → In i xs) → n ≤ length xs
full_length n xs all = omega (arith, once_fits (from 0 n) xs (from_once 0 n) (λ a k. all a ((input_order_lem n).only a k)), from-length 0 n)

-- an order of n instructions has n
pub order_length : (n : ℕ) (σ : List ℕ) → Order n σ → length σ ≡ n
order_length n σ o = omega (arith, once_below n σ o.once o.only, full_length n σ o.all)
