-- A pair list is accepted exactly when it is well formed and its pairs meet Theorem 1's conditions: at each pair the table is exact for the
-- pairs before it. Assumes nothing.
use Prim.Native.Nat.{ℕ, zero, suc, ◌+◌, ◌-◌, ◌≤◌, ◌<◌}
use mathlib.Core.Path.{◌≡◌, refl, sym, ap, subst, ◌∙◌}
use mathlib.Core.List.{List, [], ◌∷◌, ◌++◌, reverse, reverse_aux, reverse_aux-append}
use native.Mathlib.Omega.{arith}
use lib.ListN.{length, drop, length-drop}
use Rattle.basics.specs.Outcome.{Outcome, done, refused}
use Rattle.basics.proofs.Outcomes.{not_refused}
use Rattle.orders.specs.Runs.{Pair, Circuit, Lawful, Allowed}
use Rattle.orders.specs.Table as orders
use Rattle.orders.proofs.Table.{offers_grown, start_exact, exact_allowed}
use Rattle.orders.proofs.Pairs.{allowed_few}
use Rattle.orders.proofs.Turned.{reverse_twice, allowed_before, allowed_turned}
use Rattle.records.specs.Bytes.{record_bytes}
use Rattle.records.proofs.RoundTrip.{rest_behind}
use Rattle.circuits.specs.Reading.{Static, read_circuit}
use Rattle.precedence.specs.Precedence.{circuit_of}
use Rattle.precedence.proofs.Precedence.{read_wired, circuit_lawful}
use Rattle.table.specs.Marks.{counts}
use Rattle.table.specs.Rule.{accepted}
use Rattle.table.specs.Calls.{offered}
use Rattle.table.specs.Starting.{start_table}
use Rattle.table.specs.Growing.{view, Growing, offer_to, taking, grown_from, state_of}
use Rattle.table.specs.declared.tables.Table.{Table}
use Rattle.table.proofs.Offers.{yes_taken}
use Rattle.table.proofs.Numbers.{RefusesPair, pair_numbers}
use Rattle.table.proofs.DemandThree.{Right, may_counts, offer_state, offer_right, start_view, start_width}
use Rattle.pairs.proofs.PairTurns.{pair_back, pair_refusal, pair_inside, pairs_end, pairs_on}
use Rattle.pairs.proofs.ListForms.{Listed, pairs_listed, end_there, pair_there, rest_there, pairs_short}
use Rattle.pairs.specs.Listing.{pair_record, pairs_bytes, AllowedList, Next, pair, end, pair_at, tried, pursued, onward, pairs_from, read_pairs}
use Rattle.pairs.specs.Places.{OfPair}

-- the reading ends with these pairs, the latest first
pub record Whole (o : Outcome Growing) (pairs : List Pair) : Type 0 where
  pub growing : Growing
  pub is : o ≡ done growing
  pub same : growing.pairs ≡ pairs

module _ (C : Circuit) (law : Lawful C) where
  -- a table that is exact for its pairs, of a width that document 01 takes
  abbrev pub Sound : Growing → Type 0
  Sound g = orders.Grown C (state_of g) × Right g.table

  one_grown : (p : Pair) (s : orders.State) → orders.Grown C s → orders.Grown C (orders.offer p s)
  unfolding orders.offers
  one_grown p s k = offers_grown C law (p ∷ []) s k

  pub offer_sound : (p : Pair) (g : Growing) → Sound g → Sound (offer_to p g)
  offer_sound p g h = (
    subst (orders.Grown C) (sym (offer_state p g h.1 (counts g.table p.0 p.1) refl)) (one_grown p (state_of g) h.0),
    offer_right p g h.1,
  )

  -- so is the table after all pairs that were taken
  pairs_sound : (more : ℕ) (s : List ℕ) (at index : ℕ) (g h : Growing) → Sound g → pairs_from more s at index g ≡ done h → Sound h
  unfolding pairs_from
  pairs_sound zero s at index g h sound e = let z : g ≡ h = cc in subst Sound z sound
  pairs_sound (suc more) s at index g h sound e = go (pair_at s at index) (λ next k sound f. pairs_sound more s next (index + 1) k h sound f) e
    where
      taken : (p : Pair) (next : ℕ) (o : Outcome Table) → offered g.table p.0 p.1 ≡ o
          → ((k : Growing) → Sound k → pairs_from more s next (index + 1) k ≡ done h → Sound h)
          → onward (tried index p g o) (λ k. pairs_from more s next (index + 1) k) ≡ done h → Sound h
      taken p next (done t) z behind e = behind (record { table = t; pairs = p ∷ g.pairs }) (subst (λ (o : Outcome Table). Sound (taking p g o)) z (offer_sound p g sound)) e
      taken p next (refused n q) z behind e = absurd (not_refused e)

      go : (o : Outcome Next) → ((next : ℕ) (k : Growing) → Sound k → pairs_from more s next (index + 1) k ≡ done h → Sound h)
          → pursued g o (λ p next. onward (tried index p g (offered g.table p.0 p.1)) (λ k. pairs_from more s next (index + 1) k)) ≡ done h → Sound h
      go (done (pair p next)) behind e = taken p next (offered g.table p.0 p.1) refl (behind next) e
      go (done end) behind e = let z : g ≡ h = cc in subst Sound z sound
      go (refused n q) behind e = absurd (not_refused e)

  -- a pair that is allowed after those before it is taken
  allowed_taken : (p : Pair) (g : Growing) → Sound g → Allowed C (p ∷ g.pairs) → offered g.table p.0 p.1 ≡ done (accepted g.table p.0 p.1)
  allowed_taken p g sound a =
      let yes_is = (exact_allowed C law (view g.table) g.pairs sound.0 p.0 p.1).1 a in
      yes_taken g.table p.0 p.1 ((may_counts g.table p.0 p.1 sound.1).1 yes_is)

  -- the records of allowed pairs are taken, one after the other
  pairs_taken : (s : List ℕ) (ps : List Pair) (more at index : ℕ) (g : Growing) → Sound g → length ps < more → drop at s ≡ pairs_bytes ps
      → Allowed C (reverse_aux ps g.pairs) → Whole (pairs_from more s at index g) (reverse_aux ps g.pairs)
  unfolding pairs_bytes
  pairs_taken s [] more at index g sound l e a = record {
    growing = g;
    is = pairs_end s at index more g l (end_there s at index e);
    same = refl;
  }
  pairs_taken s (p ∷ ps) more at index g sound l e a =
      let taken = allowed_taken p g sound (allowed_before C ps (p ∷ g.pairs) a) in
      let after = taking p g (done (accepted g.table p.0 p.1)) in
      let rest =
      pairs_taken s ps (more - 1) (at + 3) (index + 1) after
      (subst (λ (o : Outcome Table). Sound (taking p g o)) taken (offer_sound p g sound))
      (omega arith) (rest_there s at index p (pairs_bytes ps) e) a in
      record {
        growing = rest.growing;
        is = pairs_on s at index more g (omega arith) (pair_there s at index p (pairs_bytes ps) e) taken ∙ rest.is;
        same = rest.same;
      }

  -- the pairs that were taken from a place on, and the number that the next one has
  record Stopped (s : List ℕ) (at index : ℕ) (g : Growing) (n p : ℕ) : Type 0 where
    least : 20 ≤ n
    most : n ≤ 25
    pairs : List Pair
    rest : List ℕ
    bytes : drop at s ≡ pairs_bytes pairs ++ rest
    more : 0 < length rest
    place : p ≡ index + length pairs
    allowed : Allowed C (reverse_aux pairs g.pairs)
    fault : (q : Pair) (behind : List ℕ) → rest ≡ record_bytes (pair_record q) ++ behind → ¬ Allowed C (q ∷ reverse_aux pairs g.pairs)

  list_stopped : (more : ℕ) (s : List ℕ) (at index : ℕ) (g : Growing) → Sound g → (n p : ℕ) → pairs_from more s at index g ≡ refused n p → Stopped s at index g n p
  unfolding pairs_from pairs_bytes
  list_stopped zero s at index g sound n p e = absurd (not_refused (sym e))
  list_stopped (suc more) s at index g sound n p e =
      go (pair_at s at index) refl (λ next k sound m q f. list_stopped more s next (index + 1) k sound m q f) n p e
    where
      told : {m n p : ℕ} → (20 ≤ m) × (m ≤ 25) → at < length s
          → ((q : Pair) (behind : List ℕ) → drop at s ≡ record_bytes (pair_record q) ++ behind → ¬ Allowed C (q ∷ g.pairs))
          → ◌≡◌ {A = Outcome Growing} (refused m index) (refused n p) → Stopped s at index g n p
      told {m} {n} {p} h inside fault e =
          let a : m ≡ n = cc in
          let b : index ≡ p = cc in
          record {
            least = omega (arith, h.0);
            most = omega (arith, h.1);
            pairs = [];
            rest = drop at s;
            bytes = refl;
            more = simp length-drop (omega arith);
            place = omega arith;
            allowed = sound.0.allowed;
            fault = fault;
          }

      taken : (p : Pair) (next : ℕ) → pair_at s at index ≡ done (pair p next) → (o : Outcome Table) → offered g.table p.0 p.1 ≡ o
          → ((k : Growing) → Sound k → (n q : ℕ) → pairs_from more s next (index + 1) k ≡ refused n q → Stopped s next (index + 1) k n q)
          → (n q : ℕ) → onward (tried index p g o) (λ k. pairs_from more s next (index + 1) k) ≡ refused n q → Stopped s at index g n q
      taken p next z (done t) y behind n q e =
          let r = behind (record { table = t; pairs = p ∷ g.pairs }) (subst (λ (o : Outcome Table). Sound (taking p g o)) y (offer_sound p g sound)) n q e in
          record {
            least = r.least;
            most = r.most;
            pairs = p ∷ r.pairs;
            rest = r.rest;
            bytes = rest_behind s at (pair_back s at index z) ∙ ap (λ (xs : List ℕ). record_bytes (pair_record p) ++ xs) r.bytes;
            more = r.more;
            place = omega (arith, r.place);
            allowed = r.allowed;
            fault = r.fault;
          }
      taken p next z (refused m o) y behind n q e =
          let r = subst (λ (o : Outcome Table). RefusesPair o) y (pair_numbers g.table p.0 p.1 sound.1 (accepted g.table p.0 p.1)) in
          let b = pair_back s at index z in
          told (r.0.0, omega (arith, r.0.1)) (omega (arith, b.past, b.within)) untaken e
        where
          untaken : (a : Pair) (behind : List ℕ) → drop at s ≡ record_bytes (pair_record a) ++ behind → ¬ Allowed C (a ∷ g.pairs)
          untaken a behind f all =
              let same : done (pair p next) ≡ done (pair a (at + 3)) = sym z ∙ pair_there s at index a behind f in
              let x : p ≡ a = cc in
              not_refused (sym y ∙ allowed_taken p g sound (subst (λ (b : Pair). Allowed C (b ∷ g.pairs)) (sym x) all))

      go : (o : Outcome Next) → pair_at s at index ≡ o
          → ((next : ℕ) (k : Growing) → Sound k → (n q : ℕ) → pairs_from more s next (index + 1) k ≡ refused n q → Stopped s next (index + 1) k n q)
          → (n q : ℕ) → pursued g o (λ p next. onward (tried index p g (offered g.table p.0 p.1)) (λ k. pairs_from more s next (index + 1) k)) ≡ refused n q
          → Stopped s at index g n q
      go (done (pair p next)) z behind n q e = taken p next z (offered g.table p.0 p.1) refl (behind next) n q e
      go (done end) z behind n q e = absurd (not_refused (sym e))
      go (refused m o) z behind n q e =
          let r = pair_refusal s at index z in
          told (omega (arith, r.0), r.1) (pair_inside s at index z) (λ a behind f all. not_refused (sym z ∙ pair_there s at index a behind f)) (ap (λ (x : ℕ). refused m x) (sym r.2) ∙ e)

module _ (s list : List ℕ) (c : Static) (e : read_circuit s ≡ done c) where
  pub law : Lawful (circuit_of c)
  law = circuit_lawful c (read_wired s e)

  pub at_start : Sound (circuit_of c) law (grown_from c)
  at_start = (start_exact (circuit_of c) law (view (start_table c)) (start_view s c e), start_width s c e [])

  -- the order of pairs does not matter
  in_order_lem : (ps : List Pair) → Allowed (circuit_of c) (reverse ps) → Allowed (circuit_of c) ps
  in_order_lem ps a = subst (λ (qs : List Pair). Allowed (circuit_of c) qs) (reverse_twice ps) (allowed_turned (circuit_of c) (reverse ps) a)

  -- an accepted list
  module _ (g : Growing) (f : read_pairs (start_table c) list ≡ done g) where
    -- its table is exact for its pairs
    pub pairs_exact : orders.Exact (circuit_of c) (view g.table) g.pairs
    pairs_exact = (pairs_sound (circuit_of c) law (suc (length list)) list 0 0 (grown_from c) g at_start f).0

    -- so its pairs meet Theorem 1's conditions
    pub pairs_allowed : Allowed (circuit_of c) g.pairs
    pairs_allowed = pairs_exact.allowed

    -- and there are fewer of them than wires
    pub pairs_few : length g.pairs ≤ c.width - 1
    pairs_few = allowed_few (circuit_of c) law g.pairs pairs_allowed

    listed : Listed list 0 [] g.pairs
    listed = pairs_listed list (suc (length list)) 0 0 (grown_from c) g (omega arith) f

    -- THEOREM: it is well formed, and its pairs, left to right, meet Theorem 1's conditions.
    pub accepted_list : AllowedList (circuit_of c) list
    accepted_list = record {
      pairs = listed.pairs;
      bytes = listed.bytes;
      allowed = in_order_lem listed.pairs (subst (λ (ps : List Pair). Allowed (circuit_of c) ps) listed.taken pairs_allowed);
    }

  -- THEOREM: the records of pairs that meet Theorem 1's conditions are accepted.
  pub list_accepted : (a : AllowedList (circuit_of c) list) → Whole (read_pairs (start_table c) list) (reverse a.pairs)
  list_accepted a =
      pairs_taken (circuit_of c) law list a.pairs (suc (length list)) 0 0 (grown_from c) at_start
      (let size = ap length a.bytes in let few = pairs_short a.pairs in omega arith)
      a.bytes (allowed_turned (circuit_of c) a.pairs a.allowed)

  -- THEOREM: a refused list has a number of 20 to 25 with the pair's index.
  pub list_refusal : {n p : ℕ} → read_pairs (start_table c) list ≡ refused n p → OfPair (circuit_of c) list n p
  list_refusal {n} {p} f =
      let r = list_stopped (circuit_of c) law (suc (length list)) list 0 0 (grown_from c) at_start n p f in
      record {
        least = r.least;
        most = r.most;
        before = r.pairs;
        rest = r.rest;
        bytes = r.bytes;
        more = r.more;
        index = omega (arith, r.place);
        allowed = in_order_lem r.pairs r.allowed;
        fault = λ q behind e all. r.fault q behind e (subst (λ (ps : List Pair). Allowed (circuit_of c) ps) (reverse_aux-append r.pairs (q ∷ []) []) (allowed_turned (circuit_of c) (r.pairs ++ (q ∷ [])) all));
      }

  -- and that is below the number of wires
  pub refusal_low : {n p : ℕ} → read_pairs (start_table c) list ≡ refused n p → p ≤ c.width - 1
  refusal_low f = let r = list_refusal f in omega (arith, r.index, allowed_few (circuit_of c) law r.before r.allowed)
