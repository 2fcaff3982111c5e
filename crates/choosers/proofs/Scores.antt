-- A pair's score without the table after it: the marks that the rows of the other lenders keep. Assumes nothing.
use Prim.Native.Nat.{ℕ, zero, suc, ◌/◌, ◌%◌, ◌^◌, ◌≤◌, ◌<◌}
use native.Mathlib.Nat.{le_refl}
use mathlib.Core.Path.{◌≡◌, refl, sym, ap, ◌∙◌}
use mathlib.Core.Logic.{◌⊎◌, inl, inr, ◌≢◌}
use mathlib.Core.Bool.{true, false, not, ◌&&◌}
use mathlib.Core.List.{List}
use mathlib.Core.Option.{Option}
use native.Mathlib.Omega.{arith}
use borrow.Author.Tests.{eq-eqb, ne_eqb}
use lib.Dec.{eqb, lit<}
use lib.ListN.{length, get_or, set, length-set}
use lib.Seq.{get_or-set_same, get_or-set_other}
use Rattle.basics.proofs.Tests.{same_or_other}
use Rattle.bits.specs.Bits.{bit, digit, pack, total, tally}
use Rattle.bits.proofs.Packing.{nothing_packed, bit-pack, bit_past}
use Rattle.bits.proofs.Lists.{length-each, get_or-each, each_eq}
use Rattle.bits.proofs.Sums.{total_cut}
use Rattle.table.specs.Limits.{most_wires}
use Rattle.table.specs.Marks.{counts, marks_of, mark_rows}
use Rattle.table.specs.Rule.{row_after, accepted}
use Rattle.table.specs.Calls.{wrong_width}
use Rattle.table.specs.declared.tables.Table.{Table}
use Rattle.table.proofs.TableMarks.{spread}
use Rattle.choosers.specs.Trying.{Tried, better, try_pair, try_takers, score_in}
use Rattle.choosers.specs.Results.{other_rows, marks_left}
use Rattle.choosers.proofs.YesPairs.{counts_within, far_lender, fits, yes_updated}

-- sums of the same parts
total_same : (k : ℕ) (f g : ℕ → ℕ) → ((i : ℕ) → i < k → f i ≡ g i) → total k f ≡ total k g
unfolding total
total_same zero f g h = refl
total_same (suc k) f g h = omega (arith, total_same k f g (λ i l. h i (omega arith)), h k (le_refl (suc k)))

module _ (t : Table) (right : wrong_width t ≡ false) (lender : ℕ) (rows : List ℕ) (given : ℕ) (held : rows ≡ other_rows t lender) (own : given ≡ pack most_wires (counts t lender)) where
  -- the marks that are held, bit by bit
  row_bit : (u v : ℕ) → u < most_wires → v < most_wires → bit v (get_or rows u 0) ≡ (not (eqb u lender) && counts t u v)
  row_bit u v hu hv =
      ap (λ (xs : List ℕ). bit v (get_or xs u 0)) held
      ∙ ap (bit v) (get_or-each most_wires (λ w. pack most_wires (λ x. not (eqb w lender) && counts t w x)) u hu)
      ∙ bit-pack most_wires (λ x. not (eqb u lender) && counts t u x) v hv

  given-bit : (v : ℕ) → v < most_wires → bit v given ≡ counts t lender v
  given-bit v hv = ap (bit v) own ∙ bit-pack most_wires (counts t lender) v hv

  module _ (taker : ℕ) (mark : counts t lender taker ≡ true) where
    inside : taker < most_wires
    inside = omega (arith, (counts_within t lender taker mark).1, fits t right)

    -- what a row keeps is the row of the table after the offer
    row_kept : (u v : ℕ) → u < most_wires → v < most_wires
        → row_after (λ w. bit w given) (λ w. bit w (get_or rows u 0)) taker v ≡ counts (accepted t lender taker) u v
    row_kept u v hu hv =
        rw (row_bit u v hu hv, row_bit u taker hu inside, given-bit v hv)
        (spread (not (eqb u lender)) (not (eqb v taker)) (counts t u v) (counts t lender v) (counts t u taker) ∙ sym ((yes_updated t right lender taker mark).marks u v))

    score_is : marks_left rows t.width given taker ≡ score_in t lender taker
    unfolding marks_of
    score_is =
        let after = accepted t lender taker in
        let kept = (yes_updated t right lender taker mark).width in
        total_same t.width _ (λ u. tally most_wires (counts after u))
        (λ u l. total_same most_wires _ (λ v. digit (counts after u v)) (λ v m. ap digit (row_kept u v (omega (arith, fits t right)) m)))
        ∙ sym (total_cut t.width most_wires _ (fits t right) (λ u l. far_lender after u (omega arith)))

  -- what a trial does, by the bit of the lender's marks
  module _ (taker : ℕ) (below : taker < t.width) (o : Option Tried) where
    marked : bit taker given ≡ counts t lender taker
    marked = given-bit taker (omega (arith, fits t right))

    pub tries_yes : given / 2 ^ taker % 2 ≡ 1 → (n : ℕ) → n ≡ marks_left rows t.width given taker
        → better o (record { pair = (lender, taker); score = n }) ≡ try_pair (counts t) (score_in t) lender taker o
    unfolding bit
    tries_yes set n e =
        let mark : counts t lender taker ≡ true = sym marked ∙ eq-eqb _ _ set in
        rw mark (ap (λ (x : ℕ). better o (record { pair = (lender, taker); score = x })) (e ∙ score_is taker mark))

    pub tries_not : given / 2 ^ taker % 2 ≢ 1 → o ≡ try_pair (counts t) (score_in t) lender taker o
    unfolding bit
    tries_not unset =
        let mark : counts t lender taker ≡ false = sym marked ∙ ne_eqb _ _ unset in
        rw mark

  -- a lender without marks tries nobody
  pub tries_none : given ≡ 0 → (n : ℕ) → n ≤ t.width → (o : Option Tried) → o ≡ try_takers (counts t) (score_in t) lender n o
  unfolding try_takers
  tries_none none zero l o = refl
  tries_none none (suc n) l o =
      let mark : counts t lender n ≡ false = sym (given-bit n (omega (arith, fits t right))) ∙ ap (bit n) none ∙ bit_past 0 n (lit< tt) (omega arith) in
      rw mark (tries_none none n (omega arith) o)

-- ---- one lender's row put aside, and put back

module _ (t : Table) (rows : List ℕ) (held : rows ≡ mark_rows t) (lender : ℕ) (inside : lender < most_wires) where
  row_of : (u : ℕ) → u < most_wires → get_or rows u 0 ≡ pack most_wires (counts t u)
  row_of u l = ap (λ (xs : List ℕ). get_or xs u 0) held ∙ get_or-each most_wires (λ w. pack most_wires (counts t w)) u l

  size : length rows ≡ most_wires
  size = ap length held ∙ length-each most_wires (λ w. pack most_wires (counts t w))

  pub own_row : get_or rows lender 0 ≡ pack most_wires (counts t lender)
  own_row = row_of lender inside

  pub set_aside : set rows lender 0 ≡ other_rows t lender
  set_aside = each_eq most_wires _ (set rows lender 0) (simp length-set size) (λ u l. go u l (same_or_other u lender))
    where
      go : (u : ℕ) → u < most_wires → (u ≡ lender) ⊎ (u ≢ lender) → get_or (set rows lender 0) u 0 ≡ pack most_wires (λ v. not (eqb u lender) && counts t u v)
      go u l (inl e) =
          ap (λ (x : ℕ). get_or (set rows lender 0) x 0) e
          ∙ get_or-set_same rows lender 0 0 (omega (arith, size))
          ∙ nothing_packed most_wires (λ v. rw (eq-eqb u lender e))
      go u l (inr d) = get_or-set_other rows lender u 0 0 d ∙ row_of u l ∙ rw (ne_eqb u lender d)

  pub put_back : set (set rows lender 0) lender (get_or rows lender 0) ≡ mark_rows t
  put_back = each_eq most_wires _ (set (set rows lender 0) lender (get_or rows lender 0)) (simp length-set size) (λ u l. go u l (same_or_other u lender))
    where
      go : (u : ℕ) → u < most_wires → (u ≡ lender) ⊎ (u ≢ lender) → get_or (set (set rows lender 0) lender (get_or rows lender 0)) u 0 ≡ pack most_wires (counts t u)
      go u l (inl e) =
          ap (λ (x : ℕ). get_or (set (set rows lender 0) lender (get_or rows lender 0)) x 0) e
          ∙ get_or-set_same (set rows lender 0) lender (get_or rows lender 0) 0 (simp length-set (omega (arith, size)))
          ∙ own_row
          ∙ ap (λ (x : ℕ). pack most_wires (counts t x)) (sym e)
      go u l (inr d) = get_or-set_other (set rows lender 0) lender u (get_or rows lender 0) 0 d ∙ get_or-set_other rows lender u 0 0 d ∙ row_of u l
