-- Swaps: the orders that keep the precedence are exactly those reached from the input order by exchanging neighbours that need not keep their
-- order. To reach one list from another, bring its first member to the front, and go on with the rest. So whatever meaning instructions have
-- in which such neighbours commute, every run means what the input meant. Assumes nothing.
use Prim.Native.Nat.{ℕ}
use mathlib.Core.Path.{◌≡◌, refl, sym, ◌∙◌, ap, subst}
use mathlib.Core.Logic.{inl, inr, ◌↔◌, ◌≢◌}
use mathlib.Core.Bool.{true, false}
use mathlib.Core.List.{List, [], ◌∷◌, ◌++◌}
use Rattle.basics.proofs.Tests.{not_both, refuted}
use Rattle.orders.specs.Indices.{In, Before, Once, input_order}
use Rattle.orders.specs.Runs.{Circuit, Lawful, Pair, Run}
use Rattle.orders.specs.Swaps.{Exchanged, neighbours, later, Reached, same, swap, Commute, effect}
use Rattle.orders.proofs.Indices.{before_left, before_right, before_trans, before_irrefl}
use Rattle.orders.proofs.Indices.{Put, first, further, put_out, put_in, put_there, in_put, before_put, once_put}
use Rattle.orders.proofs.Runs.{run_fewer, input_run}

-- ## Reached lists

reached_trans : {C : Circuit} {xs ys zs : List ℕ} → Reached C xs ys → Reached C ys zs → Reached C xs zs
reached_trans same q = q
reached_trans (swap e p) q = swap e (reached_trans p q)

reached_later : {C : Circuit} {xs ys : List ℕ} (x : ℕ) → Reached C xs ys → Reached C (x ∷ xs) (x ∷ ys)
reached_later x same = same
reached_later x (swap e p) = swap (later e) (reached_later x p)

module _ (C : Circuit) where
  -- ## From one list to another

  -- what holds of a part of an order: nothing stands twice, and its members keep the precedence
  record Kept (xs : List ℕ) : Type 0 where
    once : Once xs
    keeps : (i j : ℕ) → In i xs → In j xs → C.prec i j ≡ true → Before i j xs

  -- one taken out, the rest is kept
  kept_less : {a : ℕ} {xs ys : List ℕ} → Put a xs ys → Kept ys → Kept xs
  kept_less {a} {xs} p k = record {
    once = out.1;
    keeps = λ i j hi hj e. before_put p i j (other i hi) (other j hj) (k.keeps i j (put_in p i hi) (put_in p j hj) e);
  }
    where
      out : (¬ In a xs) × Once xs
      out = once_put p k.once

      other : (i : ℕ) → In i xs → i ≢ a
      other i h e = out.0 (subst (λ z. In z xs) e h)

  -- a member is brought to the front where it and each before it need not keep their order
  fronted : {a : ℕ} {xs ys : List ℕ} → Put a xs ys → ((f : ℕ) → Before f a ys → (C.prec f a ≡ false) × (C.prec a f ≡ false)) → Reached C ys (a ∷ xs)
  fronted first free = same
  fronted {a} (further {x = x} {ys = ys} p) free =
      let r = free x (inl (refl, put_there p)) in
      reached_trans (reached_later x (fronted p (λ f b. free f (inr b)))) (swap (neighbours r.0 r.1) same)

  -- two lists of the same members that keep the precedence are reached from each other
  reached_between : (ys xs : List ℕ) → Kept xs → Kept ys → ((a : ℕ) → In a xs → In a ys) → ((a : ℕ) → In a ys → In a xs) → Reached C xs ys
  reached_between [] [] kx ky to back = same
  reached_between [] (x ∷ xs) kx ky to back = absurd (to x (inl refl))
  reached_between (y ∷ ys) xs kx ky to back =
      let r = put_out y xs (back y (inl refl)) in
      let p = r.1 in
      let out = once_put p kx.once in
      reached_trans (fronted p free)
      (reached_later y (reached_between ys r.0 (kept_less p kx) (kept_less first ky)
      (λ a h. elim (to a (put_in p a h)) [ inl e ↦ absurd (out.0 (subst (λ z. In z r.0) e h)) | inr k ↦ k ])
      (λ a h. elim (in_put p a (back a (inr h))) [ inl e ↦ absurd (ky.once.0 (subst (λ z. In z ys) e h)) | inr k ↦ k ])))
    where
      -- f stands before y in xs and behind it in ys
      free : (f : ℕ) → Before f y xs → (C.prec f y ≡ false) × (C.prec y f ≡ false)
      free f b = (
        refuted (C.prec f y) (λ e. elim (ky.keeps f y (to f (before_left f y xs b)) (inl refl) e) [
          | inl k ↦ ky.once.0 k.1
          | inr k ↦ ky.once.0 (before_right f y ys k)
        ]),
        refuted (C.prec y f) (λ e.
            before_irrefl f xs kx.once
            (before_trans f y f xs kx.once b (kx.keeps y f (before_right f y xs b) (before_left f y xs b) e))),
      )

  run_kept : (ps : List Pair) (σ : List ℕ) → Run C ps σ → Kept σ
  run_kept ps σ r = record { once = r.order.once; keeps = λ i j hi hj. r.keeps i j }

  -- any two runs are reached from each other
  pub runs_reached : (ps qs : List Pair) (σ τ : List ℕ) → Run C ps σ → Run C qs τ → Reached C σ τ
  runs_reached ps qs σ τ r q =
      reached_between τ σ (run_kept ps σ r) (run_kept qs τ q)
      (λ a h. q.order.all a (r.order.only a h))
      (λ a h. r.order.all a (q.order.only a h))

  -- ## An exchange keeps a run

  in_exchanged : (a i j : ℕ) (rest : List ℕ) → In a (i ∷ j ∷ rest) → In a (j ∷ i ∷ rest)
  in_exchanged a i j rest (inl p) = inr (inl p)
  in_exchanged a i j rest (inr (inl p)) = inl p
  in_exchanged a i j rest (inr (inr h)) = inr (inr h)

  exchanged_in : {xs ys : List ℕ} → Exchanged C xs ys → (a : ℕ) → In a xs ↔ In a ys
  exchanged_in (neighbours {i = i} {j = j} {rest = rest} e f) a = (in_exchanged a i j rest, in_exchanged a j i rest)
  exchanged_in (later q) a = let r = exchanged_in q a in (
    λ h. elim h [ inl p ↦ inl p | inr k ↦ inr (r.0 k) ],
    λ h. elim h [ inl p ↦ inl p | inr k ↦ inr (r.1 k) ],
  )

  exchanged_once : {xs ys : List ℕ} → Exchanged C xs ys → Once xs → Once ys
  exchanged_once (neighbours e f) o = (
    λ h. elim h [ inl p ↦ o.0 (inl (sym p)) | inr k ↦ o.1.0 k ],
    (λ h. o.0 (inr h), o.1.1),
  )
  exchanged_once (later {x = x} q) o = (λ h. o.0 ((exchanged_in q x).1 h), exchanged_once q o.1)

  -- what must come before another still does
  exchanged_before : {xs ys : List ℕ} → Exchanged C xs ys → (i j : ℕ) → C.prec i j ≡ true → Before i j xs → Before i j ys
  exchanged_before (neighbours {i = x} {j = y} e f) i j h (inl (p, inl q)) =
      absurd (not_both (C.prec x y) (subst (λ z. C.prec z y ≡ true) p (subst (λ z. C.prec i z ≡ true) q h)) e)
  exchanged_before (neighbours e f) i j h (inl (p, inr k)) = inr (inl (p, k))
  exchanged_before (neighbours e f) i j h (inr (inl k)) = inl (k.0, inr k.1)
  exchanged_before (neighbours e f) i j h (inr (inr k)) = inr (inr k)
  exchanged_before (later q) i j h (inl k) = inl (k.0, (exchanged_in q j).0 k.1)
  exchanged_before (later q) i j h (inr k) = inr (exchanged_before q i j h k)

  exchanged_run : {xs ys : List ℕ} → Exchanged C xs ys → Run C [] xs → Run C [] ys
  exchanged_run q r = record {
    order = record {
      all = λ i h. (exchanged_in q i).0 (r.order.all i h);
      only = λ i h. r.order.only i ((exchanged_in q i).1 h);
      once = exchanged_once q r.order.once;
    };
    keeps = λ i j h. exchanged_before q i j h (r.keeps i j h);
    honours = λ l t h. absurd h;
  }

  reached_run : {xs ys : List ℕ} → Reached C xs ys → Run C [] xs → Run C [] ys
  reached_run same r = r
  reached_run (swap q p) r = reached_run p (exchanged_run q r)

  -- ## Meaning

  -- an exchange keeps what exchanging such neighbours keeps, and so do many
  exchanged-meaning {ℓ} : {M : Type ℓ} (meaning : List ℕ → M) → Commute C meaning → {xs ys : List ℕ} → Exchanged C xs ys → meaning xs ≡ meaning ys
  exchanged-meaning meaning commute (neighbours {i = i} {j = j} {rest = rest} e f) = commute [] rest i j e f
  exchanged-meaning meaning commute (later {x = x} q) = exchanged-meaning (λ zs. meaning (x ∷ zs)) (λ front. commute (x ∷ front)) q

  reached-meaning {ℓ} : {M : Type ℓ} (meaning : List ℕ → M) → Commute C meaning → {xs ys : List ℕ} → Reached C xs ys → meaning xs ≡ meaning ys
  reached-meaning meaning commute same = refl
  reached-meaning meaning commute (swap q p) = exchanged-meaning meaning commute q ∙ reached-meaning meaning commute p

module _ (C : Circuit) (law : Lawful C) where
  -- THEOREM: the orders that keep the precedence are exactly those reached from the input order by exchanging neighbours that need not keep
  -- their order.
  pub swaps_exactly : (σ : List ℕ) → Run C [] σ ↔ Reached C (input_order C.size) σ
  swaps_exactly σ = (
    λ r. runs_reached C [] [] (input_order C.size) σ (input_run C law) r,
    λ q. reached_run C q (input_run C law),
  )

  -- every run is among them, whatever its pairs
  pub run_reached : (ps : List Pair) (σ : List ℕ) → Run C ps σ → Reached C (input_order C.size) σ
  run_reached ps σ r = (swaps_exactly σ).0 (run_fewer C ps [] σ (λ l t h. absurd h) r)

  -- THEOREM: whatever lists of instructions mean, if exchanging neighbours that need not keep their order keeps the meaning, then every
  -- run means what the input meant.
  pub meaning-kept {ℓ} : {M : Type ℓ} (meaning : List ℕ → M) → Commute C meaning → (ps : List Pair) (σ : List ℕ) → Run C ps σ → meaning (input_order C.size) ≡ meaning σ
  meaning-kept meaning commute ps σ r = reached-meaning C meaning commute (run_reached ps σ r)

  -- THEOREM: in particular, where each instruction does something to a state, and those that need not keep their order commute, every run
  -- leaves the state that the input leaves.
  pub effect-kept {ℓ} : {S : Type ℓ} (does : ℕ → S → S)
      → ((i j : ℕ) → C.prec i j ≡ false → C.prec j i ≡ false → (s : S) → does j (does i s) ≡ does i (does j s))
      → (ps : List Pair) (σ : List ℕ) → Run C ps σ → (s : S) → effect does (input_order C.size) s ≡ effect does σ s
  unfolding effect
  effect-kept {S = S} does commute ps σ r s = meaning-kept (λ xs. effect does xs s) (λ front back i j e f. behind front back i j e f s) ps σ r
    where
      behind : (front back : List ℕ) (i j : ℕ) → C.prec i j ≡ false → C.prec j i ≡ false → (s : S)
          → effect does (front ++ i ∷ j ∷ back) s ≡ effect does (front ++ j ∷ i ∷ back) s
      behind [] back i j e f s = ap (effect does back) (commute i j e f s)
      behind (x ∷ front) back i j e f s = behind front back i j e f (does x s)
