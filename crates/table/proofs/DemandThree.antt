-- Demand 3 of the calls that ship: from the table of any circuit that the reader accepts, whatever is offered, the table is exact.
-- An offer on rows is the rule of crate `orders` on their marks, so its theorem speaks of them. Assumes nothing.
use Prim.Native.Nat.{ℕ, ◌≤◌, ◌<◌}
use mathlib.Core.Bool.{Bool, true, false, not, ◌&&◌, ◌||◌, and-false}
use mathlib.Core.Path.{◌≡◌, refl, sym, ap, subst, ◌∙◌}
use mathlib.Core.Logic.{◌↔◌}
use mathlib.Core.List.{List, [], ◌∷◌}
use native.Mathlib.Omega.{arith}
use lib.Dec.{eqb, ltb}
use lib.ListN.{get_or}
use borrow.Author.Tests.{eqb-true, ltb-true, ne_eqb, le-ltb}
use Rattle.basics.specs.Choice.{pick}
use Rattle.basics.specs.Outcome.{Outcome, done, refused}
use Rattle.basics.proofs.Tests.{both, and_intro, not_both, refuted, not_of_false, same_test}
use Rattle.bits.specs.Bits.{bit, pack}
use Rattle.bits.proofs.Packing.{bit-pack, bit_past}
use Rattle.bits.proofs.Lists.{get_or-each}
use Rattle.orders.specs.Runs.{Pair, Allowed}
use Rattle.orders.specs.Table as orders
use Rattle.orders.specs.Table.{Start, Exact}
use Rattle.orders.proofs.Table.{start_exact, offers_grown, exact_self, exact_allowed}
use Rattle.circuits.specs.Limits.{most_wires}
use Rattle.circuits.specs.Reading.{Static, read_circuit}
use Rattle.circuits.specs.Validity.{Valid}
use Rattle.circuits.proofs.Validity.{read_valid}
use Rattle.precedence.specs.Precedence.{circuit_of, wire}
use Rattle.precedence.specs.Starts.{start_of}
use Rattle.precedence.proofs.Precedence.{read_wired, circuit_lawful}
use Rattle.precedence.proofs.Starts.{start_right}
use Rattle.table.specs.Marks.{free, counts}
use Rattle.table.specs.Rule.{accepted, Updated}
use Rattle.table.specs.Calls.{wrong_width, may_lend, offered}
use Rattle.table.specs.Starting.{start_table}
use Rattle.table.specs.Growing.{view, Growing, taking, offer_to, offers_to, grown_from, state_of}
use Rattle.table.specs.declared.tables.Table.{Table}
use Rattle.table.proofs.Offers.{yes_taken, taken_yes, taken_updated}

-- The start

module _ (c : Static) (narrow : c.width ≤ most_wires) where
  -- a bit of a start row is the mark of the start
  start_bit : (l t : ℕ) → l < most_wires → t < most_wires → bit t (get_or (start_table c).rows l 0) ≡ (start_of c).mark l t
  unfolding start_table
  start_bit l t h k =
      ap (bit t) (get_or-each most_wires (λ lender. pack most_wires ((start_of c).mark lender)) l h) ∙ bit-pack most_wires ((start_of c).mark l) t k

  -- no wire is used
  start_free : (x : ℕ) → wire c x ≡ true → free c.width 0 x ≡ true
  start_free x w = rw (w, bit_past 0 {n = 0} x (omega arith) (omega arith))

module _ (s : List ℕ) (c : Static) (e : read_circuit s ≡ done c) where
  v : Valid s c
  v = read_valid s e

  start_self : (x : ℕ) → (start_of c).mark x x ≡ false
  start_self = exact_self (circuit_of c) (circuit_lawful c (read_wired s e)) (start_of c) [] (start_exact (circuit_of c) (circuit_lawful c (read_wired s e)) (start_of c) (start_right c (read_wired s e)))

  start_counts : (l t : ℕ) → counts (start_table c) l t ≡ (start_of c).mark l t
  unfolding counts start_table
  start_counts l t = same_test (counts (start_table c) l t) ((start_of c).mark l t) to back
    where
      row : ℕ
      row = get_or (start_table c).rows l 0

      to : counts (start_table c) l t ≡ true → (start_of c).mark l t ≡ true
      to m =
          let a = both (free c.width 0 l) (not (eqb t l) && (bit t row && free c.width 0 t)) m in
          let b = both (not (eqb t l)) (bit t row && free c.width 0 t) a.1 in
          let d = both (bit t row) (free c.width 0 t) b.1 in
          let lender = ltb-true l c.width (both (ltb l c.width) (not (bit l 0)) a.0).0 in
          let taker = ltb-true t c.width (both (ltb t c.width) (not (bit t 0)) d.1).0 in
          let n = v.narrow in
          sym (start_bit c v.narrow l t (omega arith) (omega arith)) ∙ d.0

      back : (start_of c).mark l t ≡ true → counts (start_table c) l t ≡ true
      back m =
          let w = ((start_right c (read_wired s e)).marks l t).0 m in
          let lender = ltb-true l c.width w.0 in
          let taker = ltb-true t c.width w.1 in
          let n = v.narrow in
          let apart = refuted (eqb t l) (λ q. not_both ((start_of c).mark l l) (subst (λ (x : ℕ). (start_of c).mark l x ≡ true) (eqb-true t l q) m) (start_self l)) in
          and_intro (free c.width 0 l) (not (eqb t l) && (bit t row && free c.width 0 t)) (start_free c v.narrow l w.0)
          (and_intro (not (eqb t l)) (bit t row && free c.width 0 t) (not_of_false (eqb t l) apart)
          (and_intro (bit t row) (free c.width 0 t) (start_bit c v.narrow l t (omega arith) (omega arith) ∙ m) (start_free c v.narrow t w.1)))

  -- the shipped start table is the start of crate `orders`
  pub start_view : Start (circuit_of c) (view (start_table c))
  unfolding start_table
  start_view = record {
    marks = λ l t. (λ m. (right.marks l t).0 (sym (start_counts l t) ∙ m), λ q. start_counts l t ∙ (right.marks l t).1 q);
    none_lent = λ x h. unused x;
    none_taken = λ x h. unused x;
  }
    where
      right : Start (circuit_of c) (start_of c)
      right = start_right c (read_wired s e)

      unused : (x : ℕ) → (ltb x c.width && bit x 0) ≡ false
      unused x = rw (bit_past 0 {n = 0} x (omega arith) (omega arith)) (and-false (ltb x c.width))

-- An offer

-- the width is one that document 01 takes
abbrev pub Right : Table → Type 0
Right t = wrong_width t ≡ false

module _ (p : Pair) (g : Growing) (right : Right g.table) where
  abbrev pub t : Table
  t = g.table

  says : {b : Bool} → counts t p.0 p.1 ≡ b → may_lend t p.0 p.1 ≡ done b
  unfolding may_lend
  says m = rw (right, m)

  -- a taken offer is the rule of crate `orders` on the marks
  taken_view : (after : Table) → Updated t p.0 p.1 after → view after ≡ orders.accept p (view t)
  unfolding orders.accept
  taken_view after u = λ i. record { mark = λ x y. u.marks x y i; lent = λ x. u.lenders x i; taken = λ y. u.takers y i }

  -- a yes is taken, a no is refused
  pub offer_state : (b : Bool) → counts t p.0 p.1 ≡ b → state_of (offer_to p g) ≡ orders.offer p (state_of g)
  unfolding orders.offer orders.offered
  offer_state true m =
      let yes_is = yes_taken t p.0 p.1 (says m) in
      let after = accepted t p.0 p.1 in
      ap (λ (o : Outcome Table). state_of (taking p g o)) yes_is
      ∙ rw m (λ i. record { table = taken_view after (taken_updated t p.0 p.1 after yes_is) i; pairs = p ∷ g.pairs })
  offer_state false m = go (offered t p.0 p.1) refl
    where
      go : (o : Outcome Table) → offered t p.0 p.1 ≡ o
          → state_of (taking p g o) ≡ record { table = pick (counts t p.0 p.1) (orders.accept p (view t)) (view t); pairs = pick (counts t p.0 p.1) (p ∷ g.pairs) g.pairs }
      go (done after) z =
          let y : done true ≡ done false = sym (taken_yes t p.0 p.1 after z) ∙ says m in
          let x : true ≡ false = cc in
          absurd (not_both true refl x)
      go (refused n q) z = rw m refl

  -- and the width stays
  pub offer_right : Right (offer_to p g).table
  offer_right = go (offered t p.0 p.1) refl
    where
      go : (o : Outcome Table) → offered t p.0 p.1 ≡ o → Right (taking p g o).table
      go (done after) z = ap (λ (w : ℕ). eqb w 0 || ltb most_wires w) (taken_updated t p.0 p.1 after z).width ∙ right
      go (refused n q) z = right

offers_state : (ps : List Pair) (g : Growing) → Right g.table → state_of (offers_to ps g) ≡ orders.offers ps (state_of g)
unfolding offers_to orders.offers
offers_state [] g right = refl
offers_state (p ∷ ps) g right =
    offers_state ps (offer_to p g) (offer_right p g right) ∙ ap (orders.offers ps) (offer_state p g right (counts g.table p.0 p.1) refl)

pub offers_right : (ps : List Pair) (g : Growing) → Right g.table → Right (offers_to ps g).table
unfolding offers_to
offers_right [] g right = right
offers_right (p ∷ ps) g right = offers_right ps (offer_to p g) (offer_right p g right)

-- the width is the one given
offer_width : (p : Pair) (g : Growing) → (offer_to p g).table.width ≡ g.table.width
offer_width p g = go (offered g.table p.0 p.1) refl
  where
    go : (o : Outcome Table) → offered g.table p.0 p.1 ≡ o → (taking p g o).table.width ≡ g.table.width
    go (done after) z = (taken_updated g.table p.0 p.1 after z).width
    go (refused n q) z = refl

pub offers_width : (ps : List Pair) (g : Growing) → (offers_to ps g).table.width ≡ g.table.width
unfolding offers_to
offers_width [] g = refl
offers_width (p ∷ ps) g = offers_width ps (offer_to p g) ∙ offer_width p g

-- on such a table `may` says what counts
pub may_counts : (t : Table) (l k : ℕ) → Right t → (may_lend t l k ≡ done true) ↔ (counts t l k ≡ true)
unfolding may_lend
may_counts t l k right = (λ m. let z : done (counts t l k) ≡ done true = sym (rw right refl) ∙ m in cc, λ m. rw (right, m))

-- The theorem

module _ (s : List ℕ) (c : Static) (e : read_circuit s ≡ done c) (os : List Pair) where
  grown : Growing
  grown = offers_to os (grown_from c)

  pub start_width : Right (start_table c)
  unfolding start_table
  start_width =
      let w = read_valid s e in
      rw (ne_eqb c.width 0 (λ z. omega (arith, w.wide)), le-ltb most_wires c.width w.narrow)

  -- DEMAND 3: after any offers of any numbers the table is exact for the pairs accepted so far
  pub demand_three : Exact (circuit_of c) (view (offers_to os (grown_from c)).table) (offers_to os (grown_from c)).pairs
  demand_three =
      subst (λ (g : orders.State). Exact (circuit_of c) g.table g.pairs) (sym (offers_state os (grown_from c) start_width))
      (offers_grown (circuit_of c) (circuit_lawful c (read_wired s e)) os (state_of (grown_from c))
      (start_exact (circuit_of c) (circuit_lawful c (read_wired s e)) (view (start_table c)) (start_view s c e)))

  -- so at every moment `may` says yes exactly when the list meets Theorem 1's conditions with this pair added
  pub may_exactly : (l t : ℕ) → (may_lend (offers_to os (grown_from c)).table l t ≡ done true) ↔ Allowed (circuit_of c) ((l, t) ∷ (offers_to os (grown_from c)).pairs)
  may_exactly l t =
      let exactly = exact_allowed (circuit_of c) (circuit_lawful c (read_wired s e)) (view (offers_to os (grown_from c)).table) (offers_to os (grown_from c)).pairs demand_three l t in
      let width = offers_right os (grown_from c) start_width in
      (λ m. exactly.0 ((may_counts _ l t width).0 m), λ a. (may_counts _ l t width).1 (exactly.1 a))
