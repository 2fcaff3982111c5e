-- The table that an accepted offer leaves, read as marks: rows of any number of bits do what the rule says. Assumes nothing.
use mathlib.Core.Path.{◌≡◌, refl, sym, ap, ◌∙◌}
use mathlib.Core.Bool.{Bool, true, false, not, ◌&&◌, ◌||◌, and-false}
use Prim.Native.Nat.{ℕ, ◌≤◌, ◌<◌, zero-le}
use native.Mathlib.Omega.{arith}
use native.Mathlib.Decide.{dec_lt}
use borrow.Author.Tests.{le-ltb, ltb-true, ltb-false, ne_eqb, eq-eqb}
use lib.Dec.{eqb, ltb, lit<}
use lib.ListN.{length, get_or, get_or-eq_default}
use Rattle.basics.proofs.Tests.{not_both, both}
use Rattle.bits.specs.Bits.{bit, pack, each, tally}
use Rattle.bits.proofs.Packing.{bit-pack, bit_past, pack_lt}
use Rattle.bits.proofs.Lists.{get_or-each, length-each}
use Rattle.bits.proofs.Sums.{total_less, tally_mono, tally_less}
use Rattle.table.specs.Limits.{most_wires}
use Rattle.table.specs.Marks.{used, counts, lends, takes, marks_of}
use Rattle.table.specs.Rule.{mark_after, used_after, accepted_in, accepted, Updated}
use Rattle.table.specs.declared.tables.Table.{Table}

-- ---- a mark of a wire at or above the width does not count

pub lender_far : (t : Table) (u v : ℕ) → ltb u t.width ≡ false → counts t u v ≡ false
unfolding counts
lender_far t u v e = rw e

taker_far : (t : Table) (u v : ℕ) → ltb v t.width ≡ false → counts t u v ≡ false
unfolding counts
taker_far t u v e = rw (e, and-false (bit v (get_or t.rows u 0)), and-false (not (eqb v u)), and-false (ltb u t.width && not (bit u t.lending)))

pub stays_no : (t : Table) (lender taker u v : ℕ) → counts t u v ≡ false → mark_after (counts t) lender taker u v ≡ false
stays_no t lender taker u v e = rw (e, and-false (not (eqb v taker)), and-false (not (eqb u lender)))

-- ---- the marks

-- `x` is "u is the lender", `y` "v is the taker", and the others are the tests of the mark (u, v)
folds : (x y a b c d e f z : Bool)
    → ((a && not (x || (a && b))) && (not d && ((not x && (not y && (((a && not b) && (not d && (f && (c && not e)))) && z))) && (c && not (y || (c && e))))))
    ≡ (not x && (not y && (((a && not b) && (not d && (f && (c && not e)))) && z)))
folds true y true b c d e f z = refl
folds true y false b c d e f z = refl
folds false true a b c d e f z = rw (and-false (not d), and-false (a && not (a && b)))
folds false false false b c d e f z = refl
folds false false true true c d e f z = refl
folds false false true false c true e f z = refl
folds false false true false c false e false z = refl
folds false false true false false false e true z = refl
folds false false true false true false true true z = refl
folds false false true false true false false true true = refl
folds false false true false true false false true false = refl

module _ (most : ℕ) (t : Table) (lender taker : ℕ) where
  marks_near : (u v : ℕ) → u < most → v < most → counts (accepted_in most t lender taker) u v ≡ mark_after (counts t) lender taker u v
  unfolding accepted_in counts
  marks_near u v hu hv =
      rw (
        get_or-each most (λ w. pack most (mark_after (counts t) lender taker w)) u hu,
        bit-pack most (mark_after (counts t) lender taker u) v hv,
        bit-pack most (used_after (lends t) lender) u hu,
        bit-pack most (used_after (takes t) taker) v hv,
      )
      (folds (eqb u lender) (eqb v taker) (ltb u t.width) (bit u t.lending) (ltb v t.width) (eqb v u) (bit v t.taking) (bit v (get_or t.rows u 0)) (counts t lender v || counts t u taker))

  width_same : (accepted_in most t lender taker).width ≡ t.width
  unfolding accepted_in
  width_same = refl

  module _ (fits : t.width ≤ most) where
    far : (u : ℕ) → most ≤ u → ltb u t.width ≡ false
    far u h = le-ltb u t.width (omega arith)

    marks_after : (u v : ℕ) → counts (accepted_in most t lender taker) u v ≡ mark_after (counts t) lender taker u v
    marks_after u v = go (dec_lt u most) (dec_lt v most)
      where
        after_far : (w : ℕ) → most ≤ w → ltb w (accepted_in most t lender taker).width ≡ false
        after_far w h = rw width_same (far w h)

        go : Dec (u < most) → Dec (v < most) → counts (accepted_in most t lender taker) u v ≡ mark_after (counts t) lender taker u v
        go (yes hu) (yes hv) = marks_near u v hu hv
        go (yes hu) (no hv) = taker_far (accepted_in most t lender taker) u v (after_far v (omega arith)) ∙ sym (stays_no t lender taker u v (taker_far t u v (far v (omega arith))))
        go (no hu) d = lender_far (accepted_in most t lender taker) u v (after_far u (omega arith)) ∙ sym (stays_no t lender taker u v (lender_far t u v (far u (omega arith))))

-- ---- the used wires: one law for lenders and takers

module _ (most width row wire : ℕ) (inside : wire < width) where
  abbrev after : ℕ → Bool
  after = used_after (used width row) wire

  -- at or above the width none is used
  after_far : (u : ℕ) → ltb u width ≡ false → after u ≡ false
  after_far u e = rw (ne_eqb u wire (λ d. omega (arith, ltb-false u width e, d)), e)

  used_after_lem : width ≤ most → (u : ℕ) → used width (pack most after) u ≡ after u
  used_after_lem fits u = go (ltb u width) refl
    where
      go : (b : Bool) → ltb u width ≡ b → used width (pack most after) u ≡ after u
      go true e = rw (bit-pack most after u (omega (arith, ltb-true u width e)), e)
      go false e = rw (after_far u e, e)

  used_below : (u : ℕ) → bit u (pack most after) ≡ true → u < width
  used_below u h = go (dec_lt u most) (ltb u width) refl
    where
      go : Dec (u < most) → (b : Bool) → ltb u width ≡ b → u < width
      go d true e = ltb-true u width e
      go (yes l) false e = absurd (not_both (after u) (sym (bit-pack most after u l) ∙ h) (after_far u e))
      go (no l) false e = absurd (not_both (bit u (pack most after)) h (bit_past most u (pack_lt most after) (omega arith)))

-- ---- no mark is set that does not count

module _ (most : ℕ) (t : Table) (lender taker : ℕ) where
  set_near : (u v : ℕ) → u < most → v < most → bit v (get_or (accepted_in most t lender taker).rows u 0) ≡ mark_after (counts t) lender taker u v
  unfolding accepted_in
  set_near u v hu hv =
      rw (get_or-each most (λ w. pack most (mark_after (counts t) lender taker w)) u hu)
      (bit-pack most (mark_after (counts t) lender taker u) v hv)

  -- past the last row, and past a row's last mark
  row_far : (u v : ℕ) → most ≤ u → bit v (get_or (accepted_in most t lender taker).rows u 0) ≡ false
  unfolding accepted_in
  row_far u v h =
      let rows = each most (λ w. pack most (mark_after (counts t) lender taker w)) in
      let past : length rows ≤ u = omega (arith, length-each most (λ w. pack most (mark_after (counts t) lender taker w))) in
      ap (bit v) (get_or-eq_default rows 0 {n = u} past) ∙ bit_past 0 v (lit< tt) zero-le

  mark_far : (u v : ℕ) → u < most → most ≤ v → bit v (get_or (accepted_in most t lender taker).rows u 0) ≡ false
  unfolding accepted_in
  mark_far u v hu hv =
      rw (get_or-each most (λ w. pack most (mark_after (counts t) lender taker w)) u hu)
      (bit_past most v (pack_lt most (mark_after (counts t) lender taker u)) hv)

  set_counts : (u v : ℕ) → bit v (get_or (accepted_in most t lender taker).rows u 0) ≡ true → counts (accepted_in most t lender taker) u v ≡ true
  set_counts u v h = go (dec_lt u most) (dec_lt v most)
    where
      go : Dec (u < most) → Dec (v < most) → counts (accepted_in most t lender taker) u v ≡ true
      go (yes hu) (yes hv) = marks_near most t lender taker u v hu hv ∙ sym (set_near u v hu hv) ∙ h
      go (yes hu) (no hv) = absurd (not_both _ h (mark_far u v hu (omega arith)))
      go (no hu) d = absurd (not_both _ h (row_far u v (omega arith)))

-- ---- fewer marks count

module _ (t : Table) (lender taker : ℕ) (fits : t.width ≤ most_wires) where
  stays : (u v : ℕ) → counts (accepted t lender taker) u v ≡ true → counts t u v ≡ true
  stays u v h =
      third (not (eqb u lender)) (not (eqb v taker)) (counts t u v) (counts t lender v || counts t u taker) (sym (marks_after most_wires t lender taker fits u v) ∙ h)
    where
      third : (a b c d : Bool) → (a && (b && (c && d))) ≡ true → c ≡ true
      third a b c d h = (both c d (both b (c && d) (both a (b && (c && d)) h).1).1).0

  gone : counts (accepted t lender taker) lender taker ≡ false
  gone = marks_after most_wires t lender taker fits lender taker ∙ rw (eq-eqb lender lender refl)

  fewer : lender < most_wires → taker < most_wires → counts t lender taker ≡ true → marks_of (accepted t lender taker) < marks_of t
  unfolding marks_of
  fewer hl hk mark =
      total_less most_wires (λ u. tally most_wires (counts (accepted t lender taker) u)) (λ u. tally most_wires (counts t u))
      (λ u l. tally_mono most_wires (counts (accepted t lender taker) u) (counts t u) (stays u))
      lender hl
      (tally_less most_wires (counts (accepted t lender taker) lender) (counts t lender) (stays lender) taker hk gone mark)

-- ---- all of it

pub accepted_updated : (t : Table) (lender taker : ℕ) → t.width ≤ most_wires → lender < t.width → taker < t.width → counts t lender taker ≡ true
    → Updated t lender taker (accepted t lender taker)
unfolding accepted_in
accepted_updated t lender taker fits hl hk mark = record {
  width = refl;
  marks = marks_after most_wires t lender taker fits;
  lenders = used_after_lem most_wires t.width t.lending lender hl fits;
  takers = used_after_lem most_wires t.width t.taking taker hk fits;
  clean = record {
    marks = set_counts most_wires t lender taker;
    lenders = used_below most_wires t.width t.lending lender hl;
    takers = used_below most_wires t.width t.taking taker hk;
  };
  fewer = fewer t lender taker fits (omega arith) (omega arith) mark;
}
