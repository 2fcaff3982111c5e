-- Past the rows of the wires below the width no mark counts, so a pass over the rows ends there: a sum is whole, and rows that were
-- 0 stay so. Assumes nothing.
use mathlib.Core.Path.{◌≡◌, refl, sym, ap, ◌∙◌}
use mathlib.Core.Bool.{Bool, true, false}
use mathlib.Core.List.{List}
use Prim.Native.Nat.{ℕ, ◌+◌, ◌≤◌, ◌<◌}
use native.Mathlib.Nat.{le_refl}
use native.Mathlib.Omega.{arith}
use native.Mathlib.Decide.{dec_lt}
use borrow.Author.Tests.{le-ltb, ltb-true}
use lib.Dec.{ltb}
use lib.ListN.{length, get_or, set, replicate, length-set, length-replicate, get_or-replicate, get_or-eq_default}
use lib.Seq.{get_or-set_other}
use Rattle.basics.specs.Choice.{pick}
use Rattle.bits.specs.Bits.{digit, total, tally, pack, each}
use Rattle.bits.proofs.Packing.{nothing_packed}
use Rattle.bits.proofs.Lists.{filled, each_eq}
use Rattle.bits.proofs.Sums.{total_none, total_cut}
use Rattle.table.specs.Limits.{most_wires}
use Rattle.table.specs.Marks.{counts, marks_of, rows_below}
use Rattle.table.specs.Rule.{mark_after}
use Rattle.table.specs.declared.tables.Table.{Table}
use Rattle.table.proofs.Updates.{lender_far, stays_no}

module _ (w : ℕ) where
  pub below_most : rows_below w ≤ most_wires
  below_most = go (ltb w most_wires) refl
    where
      go : (b : Bool) → ltb w most_wires ≡ b → pick b w most_wires ≤ most_wires
      go true e = omega (arith, ltb-true w most_wires e)
      go false e = le_refl most_wires

  pub below_past : (u : ℕ) → rows_below w ≤ u → u < most_wires → w ≤ u
  below_past u = go (ltb w most_wires)
    where
      go : (b : Bool) → pick b w most_wires ≤ u → u < most_wires → w ≤ u
      go true h l = h
      go false h l = absurd (omega arith)

module _ (t : Table) where
  -- the sum of the rows below the width is that of all rows
  pub marks_below : total (rows_below t.width) (λ lender. tally most_wires (counts t lender)) ≡ marks_of t
  unfolding marks_of
  marks_below = go (ltb t.width most_wires) refl
    where
      none : (u : ℕ) → t.width ≤ u → tally most_wires (counts t u) ≡ 0
      none u h = total_none most_wires _ (λ v. ap digit (lender_far t u v (le-ltb u t.width h)))

      go : (b : Bool) → ltb t.width most_wires ≡ b → total (pick b t.width most_wires) (λ lender. tally most_wires (counts t lender)) ≡ marks_of t
      go true e = sym (total_cut t.width most_wires _ (omega (arith, ltb-true t.width most_wires e)) none)
      go false e = refl

  -- and the rows past it pack nothing, now or after an offer
  pub no_marks : (u : ℕ) → t.width ≤ u → 0 ≡ pack most_wires (counts t u)
  no_marks u h = nothing_packed most_wires (λ v. lender_far t u v (le-ltb u t.width h))

  pub none_after : (lender taker u : ℕ) → t.width ≤ u → 0 ≡ pack most_wires (mark_after (counts t) lender taker u)
  none_after lender taker u h = nothing_packed most_wires (λ v. stays_no t lender taker u v (lender_far t u v (le-ltb u t.width h)))

-- ---- rows that are filled from the front, and are as they were past that

pub record Filling (f : ℕ → ℕ) (old : List ℕ) (u : ℕ) (rows : List ℕ) : Type 0 where
  pub size : length rows ≡ length old
  pub front : (j : ℕ) → j < u → get_or rows j 0 ≡ f j
  pub rest : (j : ℕ) → u ≤ j → get_or rows j 0 ≡ get_or old j 0

-- zeros, and past them 0
pub zero_at : (n i : ℕ) → get_or {A = ℕ} (replicate n 0) i 0 ≡ 0
zero_at n i = go (dec_lt i n)
  where
    go : Dec (i < n) → get_or {A = ℕ} (replicate n 0) i 0 ≡ 0
    go (yes l) = get_or-replicate n i 0 0 l
    go (no l) = get_or-eq_default (replicate n 0) 0 {n = i} (omega (arith, length-replicate {A = ℕ} n 0))

module _ (f : ℕ → ℕ) where
  pub filling_more : (u : ℕ) {old : List ℕ} (rows : List ℕ) (x : ℕ) → u < length old → Filling f old u rows → x ≡ f u
      → Filling f old (u + 1) (set rows u x)
  filling_more u rows x l h e = record {
    size = length-set rows u x ∙ h.size;
    front = filled f rows u x (omega (arith, h.size)) h.front e;
    rest = λ j m. get_or-set_other rows u j x 0 (λ d. omega arith) ∙ h.rest j (omega arith);
  }

  -- with other rows that are the same below u
  pub filling_same : {g : ℕ → ℕ} (u : ℕ) {old : List ℕ} (rows : List ℕ) → Filling g old u rows → ((j : ℕ) → j < u → g j ≡ f j) → Filling f old u rows
  filling_same u rows h same = record {
    size = h.size;
    front = λ j l. h.front j l ∙ same j l;
    rest = h.rest;
  }

  -- once all are
  pub filling_all : (u : ℕ) {old : List ℕ} (rows : List ℕ) → Filling f old u rows → length old ≡ most_wires → most_wires ≤ u → rows ≡ each most_wires f
  filling_all u rows h size all = each_eq most_wires f rows (h.size ∙ size) (λ j l. h.front j (omega arith))

  -- once those below the width are, and the others stayed 0
  pub filling_ends : (w : ℕ) (rows : List ℕ) → Filling f (replicate most_wires 0) (rows_below w) rows → ((u : ℕ) → w ≤ u → 0 ≡ f u) → rows ≡ each most_wires f
  filling_ends w rows h none = each_eq most_wires f rows (h.size ∙ length-replicate {A = ℕ} most_wires 0) (λ u l. go u l (dec_lt u (rows_below w)))
    where
      go : (u : ℕ) → u < most_wires → Dec (u < rows_below w) → get_or rows u 0 ≡ f u
      go u l (yes m) = h.front u m
      go u l (no m) = h.rest u (omega arith) ∙ zero_at most_wires u ∙ none u (below_past w u (omega arith) l)
