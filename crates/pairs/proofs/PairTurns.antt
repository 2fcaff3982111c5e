-- The reading of a pair list, one pair at a time. Assumes nothing.
use Prim.Native.Nat.{ℕ, suc, ◌+◌, ◌-◌, ◌≤◌, ◌<◌}
use mathlib.Core.Bool.{Bool, true, false}
use mathlib.Core.Path.{◌≡◌, refl, sym, ap, subst, ◌∙◌}
use mathlib.Core.List.{List, [], ◌∷◌}
use native.Mathlib.Omega.{arith}
use lib.ListN.{length, get_or}
use lib.Dec.{leb}
use borrow.Author.Tests.{leb-true, leb-false}
use Rattle.basics.specs.Choice.{pick}
use Rattle.basics.specs.Outcome.{Outcome, done, refused}
use Rattle.basics.proofs.Outcomes.{not_refused}
use Rattle.orders.specs.Runs.{Pair}
use Rattle.records.specs.Records.{Standing, stands, over, record_at}
use Rattle.records.specs.declared.instructions.Record.TheVariants.{StaticWidth, DynamicWidth, Step, Reuse}
use Rattle.records.proofs.Standings.{over_end}
use Rattle.records.proofs.RoundTrip.{Back, round_trip}
use Rattle.table.specs.Marks.{Clean}
use Rattle.table.specs.Calls.{offered}
use Rattle.table.specs.Growing.{Growing}
use Rattle.table.specs.declared.tables.Table.{Table}
use Rattle.table.proofs.Offers.{taken_updated}
use Rattle.pairs.specs.Lending.{nobody_lends, lent, lenders_in}
use Rattle.pairs.specs.Listing.{Next, pair, end, pair_kind, pair_record, pair_of, pair_at, pairs_from, read_pairs, paired}
use Rattle.pairs.specs.declared.lending.Lenders.{Lenders}

not_end : {p : Pair} {next : ℕ} → ◌≡◌ {A = Outcome Next} (done end) (done (pair p next)) → ⊥
not_end {p} {next} e = let z : ◌≡◌ {A = ℕ} 0 1 = cc in omega arith

-- a pair that was found: its record's bytes stand there
pub pair_back : (s : List ℕ) (at index : ℕ) {p : Pair} {next : ℕ} → pair_at s at index ≡ done (pair p next) → Back s at (pair_record p) next
unfolding pair_at
pair_back s at index e = go (leb (length s) at) (pair_kind (get_or s at 0)) e
  where
    answer : (o : Outcome Standing) → record_at s at ≡ o → {p : Pair} {next : ℕ} → pair_of index o ≡ done (pair p next) → Back s at (pair_record p) next
    answer (done (stands (Reuse l t) n)) z {p} {next} e =
        let x : (l.0, t.0) ≡ p = cc in
        let y : n ≡ next = cc in
        subst (λ (m : ℕ). Back s at (pair_record p) m) y (subst (λ (q : Pair). Back s at (pair_record q) n) x (round_trip s at z))
    answer (done (stands (StaticWidth w) n)) z e = absurd (not_refused e)
    answer (done (stands (DynamicWidth q b) n)) z e = absurd (not_refused e)
    answer (done (stands (Step i) n)) z e = absurd (not_refused e)
    answer (done over) z e = absurd (not_end e)
    answer (refused n q) z e = absurd (not_refused e)

    go : (a b : Bool) {p : Pair} {next : ℕ} → pick a (done end) (pick b (pair_of index (record_at s at)) (refused 24 index)) ≡ done (pair p next) → Back s at (pair_record p) next
    go true b e = absurd (not_end e)
    go false true e = answer (record_at s at) refl e
    go false false e = absurd (not_refused e)

-- the end is at the list's end only
pub pair_end : (s : List ℕ) (at index : ℕ) → pair_at s at index ≡ done end → length s ≤ at
unfolding pair_at
pair_end s at index e = go (leb (length s) at) refl (pair_kind (get_or s at 0)) e
  where
    answer : at < length s → (o : Outcome Standing) → record_at s at ≡ o → pair_of index o ≡ done end → length s ≤ at
    answer l (done (stands (Reuse x t) n)) z e = absurd (not_end (sym e))
    answer l (done (stands (StaticWidth w) n)) z e = absurd (not_refused e)
    answer l (done (stands (DynamicWidth q b) n)) z e = absurd (not_refused e)
    answer l (done (stands (Step i) n)) z e = absurd (not_refused e)
    answer l (done over) z e = over_end s at z
    answer l (refused n q) z e = absurd (not_refused e)

    go : (a : Bool) → leb (length s) at ≡ a → (b : Bool) → pick a (done end) (pick b (pair_of index (record_at s at)) (refused 24 index)) ≡ done end → length s ≤ at
    go true q b e = leb-true (length s) at q
    go false q true e = answer (leb-false (length s) at q) (record_at s at) refl e
    go false q false e = absurd (not_refused e)

-- a refusal there is 24 or 25, and has the pair's index for its place
pub pair_refusal : (s : List ℕ) (at index : ℕ) {n p : ℕ} → pair_at s at index ≡ refused n p → (24 ≤ n) × (n ≤ 25) × (p ≡ index)
unfolding pair_at
pair_refusal s at index e = go (leb (length s) at) (pair_kind (get_or s at 0)) e
  where
    told : {m n p : ℕ} → (24 ≤ m) × (m ≤ 25) → ◌≡◌ {A = Outcome Next} (refused m index) (refused n p) → (24 ≤ n) × (n ≤ 25) × (p ≡ index)
    told {m} {n} {p} h e =
        let a : m ≡ n = cc in
        let b : index ≡ p = cc in
        (omega (arith, h.0), omega (arith, h.1), sym b)

    answer : (o : Outcome Standing) {n p : ℕ} → pair_of index o ≡ refused n p → (24 ≤ n) × (n ≤ 25) × (p ≡ index)
    answer (done (stands (Reuse l t) next)) e = absurd (not_refused (sym e))
    answer (done (stands (StaticWidth w) next)) e = told (omega arith, omega arith) e
    answer (done (stands (DynamicWidth q b) next)) e = told (omega arith, omega arith) e
    answer (done (stands (Step i) next)) e = told (omega arith, omega arith) e
    answer (done over) e = absurd (not_refused (sym e))
    answer (refused m q) e = told (omega arith, omega arith) e

    go : (a b : Bool) {n p : ℕ} → pick a (done end) (pick b (pair_of index (record_at s at)) (refused 24 index)) ≡ refused n p → (24 ≤ n) × (n ≤ 25) × (p ≡ index)
    go true b e = absurd (not_refused (sym e))
    go false true e = answer (record_at s at) e
    go false false e = told (omega arith, omega arith) e

-- and it stands before the end of the list
pub pair_inside : (s : List ℕ) (at index : ℕ) {n p : ℕ} → pair_at s at index ≡ refused n p → at < length s
unfolding pair_at
pair_inside s at index e = go (leb (length s) at) refl e
  where
    go : (b : Bool) → leb (length s) at ≡ b → {n p : ℕ} → pick b (done end) (pick (pair_kind (get_or s at 0)) (pair_of index (record_at s at)) (refused 24 index)) ≡ refused n p → at < length s
    go true t e = absurd (not_refused (sym e))
    go false t e = leb-false (length s) at t

-- the reading with some pairs still to come
module _ (s : List ℕ) (at index more : ℕ) (g : Growing) (some : 0 < more) where
  one_more : suc (more - 1) ≡ more
  one_more = omega arith

  pub pairs_end : pair_at s at index ≡ done end → pairs_from more s at index g ≡ done g
  unfolding pairs_from
  pairs_end e = ap (λ (n : ℕ). pairs_from n s at index g) (sym one_more) ∙ rw e

  pub pairs_refused : {n p : ℕ} → pair_at s at index ≡ refused n p → pairs_from more s at index g ≡ refused n p
  unfolding pairs_from
  pairs_refused e = ap (λ (n : ℕ). pairs_from n s at index g) (sym one_more) ∙ rw e

  module _ {p : Pair} {next : ℕ} (e : pair_at s at index ≡ done (pair p next)) where
    pub offer_refused : {n q : ℕ} → offered g.table p.0 p.1 ≡ refused n q → pairs_from more s at index g ≡ refused n index
    unfolding pairs_from
    offer_refused f = ap (λ (n : ℕ). pairs_from n s at index g) (sym one_more) ∙ rw (e, f)

    pub pairs_on : {t : Table} → offered g.table p.0 p.1 ≡ done t
        → pairs_from more s at index g ≡ pairs_from (more - 1) s next (index + 1) (record { table = t; pairs = p ∷ g.pairs })
    unfolding pairs_from
    pairs_on f = ap (λ (n : ℕ). pairs_from n s at index g) (sym one_more) ∙ rw (e, f)

-- The loop

-- the pairs taken so far, that after the first the table is clean, and that reading on from here ends where the whole reading does
pub record Going (t : Table) (s : List ℕ) (now : Table) (lenders : Lenders) (at index : ℕ) : Type 0 where
  pub pairs : List Pair
  pub counted : length pairs ≡ index
  pub lends : lenders.lenders ≡ lenders_in pairs
  pub clean : 0 < index → Clean now
  pub onward : index ≤ at
  pub inside : at ≤ length s
  pub reads : pairs_from (suc (length s) - index) s at index (record { table = now; pairs = pairs }) ≡ read_pairs t s

module _ (t : Table) (s : List ℕ) where
  pub going_start : (lenders : Lenders) → lenders.lenders ≡ nobody_lends → Going t s t lenders 0 0
  unfolding lenders_in
  going_start lenders e = record {
    pairs = [];
    counted = refl;
    lends = e;
    clean = λ l. absurd (omega arith);
    onward = omega arith;
    inside = omega arith;
    reads = let z : suc (length s) - 0 ≡ suc (length s) = omega arith in ap (λ (n : ℕ). pairs_from n s 0 0 (record { table = t; pairs = [] })) z;
  }

  module _ (now : Table) (lenders : Lenders) (at index : ℕ) (g : Going t s now lenders at index) where
    growing : Growing
    growing = record { table = now; pairs = g.pairs }

    some : 0 < suc (length s) - index
    some = omega (arith, g.onward, g.inside)

    -- at the end of the list
    pub going_end : pair_at s at index ≡ done end → done (record { count = index; table = now; lenders = lenders }) ≡ paired (read_pairs t s)
    unfolding growing
    going_end e =
        (λ i. done (record { count = sym g.counted i; table = now; lenders = record { lenders = g.lends i } }))
        ∙ ap paired (sym (pairs_end s at index (suc (length s) - index) growing some e) ∙ g.reads)

    -- at a refusal
    pub going_refused : {n p : ℕ} → pair_at s at index ≡ refused n p → refused n p ≡ read_pairs t s
    unfolding growing
    going_refused e = sym (pairs_refused s at index (suc (length s) - index) growing some e) ∙ g.reads

    module _ {p : Pair} {next : ℕ} (e : pair_at s at index ≡ done (pair p next)) where
      pub going_untaken : {n q : ℕ} → offered now p.0 p.1 ≡ refused n q → refused n index ≡ read_pairs t s
      unfolding growing
      going_untaken f = sym (offer_refused s at index (suc (length s) - index) growing some e f) ∙ g.reads

      pub going_on : {after : Table} {more : Lenders} → offered now p.0 p.1 ≡ done after → more.lenders ≡ lent lenders.lenders p.0 p.1
          → Going t s after more next (index + 1)
      unfolding growing lenders_in
      going_on {after} {more} f l =
          let back = pair_back s at index e in
          let past = back.past in
          let onward = g.onward in
          let counted : length g.pairs ≡ index = g.counted in
          let z : suc (length s) - index - 1 ≡ suc (length s) - (index + 1) = omega arith in
          record {
            pairs = p ∷ g.pairs;
            counted = omega arith;
            lends = l ∙ ap (λ (ls : List ℕ). lent ls p.0 p.1) g.lends;
            clean = λ some-taken. (taken_updated now p.0 p.1 after f).clean;
            onward = omega arith;
            inside = back.within;
            reads =
                ap (λ (n : ℕ). pairs_from n s next (index + 1) (record { table = after; pairs = p ∷ g.pairs })) (sym z)
                ∙ sym (pairs_on s at index (suc (length s) - index) growing some e f)
                ∙ g.reads;
          }
