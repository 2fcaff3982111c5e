-- The bits that the functions of one row compute, at any number of bits k. Assumes nothing.
use mathlib.Core.Path.{◌≡◌, refl, sym, ap, ◌∙◌}
use mathlib.Core.Logic.{◌≢◌}
use mathlib.Core.Bool.{Bool, true, false, not, ◌&&◌, ◌||◌, and-false}
use Prim.Native.Nat.{ℕ, ◌^◌, ◌<◌, zero-le}
use native.Mathlib.Omega.{arith}
use native.Mathlib.Decide.{dec_lt}
use borrow.Author.Tests.{ne_eqb, eq-eqb, eqb-true}
use lib.Dec.{eqb, lit<}
use lib.Bits.{bit_and}
use Rattle.basics.proofs.Tests.{not_both}
use Rattle.bits.specs.Bits.{bit, pack}
use Rattle.bits.proofs.Packing.{pack_ext, nothing_packed, bit_past}
use Rattle.bits.proofs.Operations.{Packs, own, and_is, same, bit_is, lt_is}
use Rattle.table.specs.Marks.{counts_among}
use Rattle.table.specs.Rule.{row_after}

-- what a row has of one wire alone is not 0 where the row has it
pub one_mark : {k row m : ℕ} (wire : ℕ) → row < 2 ^ k → Packs k (λ v. bit v row && eqb v wire) m → not (eqb m 0) ≡ bit wire row
one_mark {k} {row} {m} wire r p = go (bit wire row) refl
  where
    alone : (v : ℕ) (d : Bool) → eqb v wire ≡ d → bit wire row ≡ false → (bit v row && d) ≡ false
    alone v true e h = rw (eqb-true v wire e, h)
    alone v false e h = and-false (bit v row)

    go : (b : Bool) → bit wire row ≡ b → not (eqb m 0) ≡ b
    go true h = rw (ne_eqb m 0 some) refl
      where
        inside : Dec (wire < k) → wire < k
        inside (yes l) = l
        inside (no l) = absurd (not_both (bit wire row) h (bit_past k wire r (omega arith)))

        some : m ≢ 0
        some e =
            let kept : bit wire m ≡ true = bit_is p wire (inside (dec_lt wire k)) ∙ rw (h, eq-eqb wire wire refl) refl in
            not_both (bit wire m) kept (rw e (bit_past 0 wire (lit< tt) zero-le))
    go false h =
        let none : m ≡ 0 = p.is ∙ sym (nothing_packed k (λ v. alone v (eqb v wire) refl h)) in
        rw none refl

-- a row without a wire, by marks that are known
pub less_is : {k : ℕ} {f : ℕ → Bool} {a n : ℕ} (wire : ℕ) → Packs k f a → n ≡ pack k (λ v. not (eqb v wire) && bit v a) → n ≡ pack k (λ v. not (eqb v wire) && f v)
less_is {k} {f} {a} wire p e = e ∙ pack_ext k (λ v l. ap (λ (b : Bool). not (eqb v wire) && b) (bit_is p v l))

module _ (k lenders takers row lender : ℕ) where
  pub counting_free : row < 2 ^ k → takers < 2 ^ k → bit lender lenders ≡ true
      → pack k (λ v. not (eqb v lender) && bit v (bit_and row takers)) ≡ pack k (counts_among (λ i. bit i lenders) (λ i. bit i takers) row lender)
  counting_free r t h = pack_ext k one
    where
      one : (v : ℕ) → v < k → (not (eqb v lender) && bit v (bit_and row takers)) ≡ counts_among (λ i. bit i lenders) (λ i. bit i takers) row lender v
      one v l = rw (h, bit_is (and_is (own k r) (own k t)) v l)

  pub counting_used : bit lender lenders ≡ false → 0 ≡ pack k (counts_among (λ i. bit i lenders) (λ i. bit i takers) row lender)
  counting_used h = nothing_packed k (λ v. rw h)

module _ (k given row taker : ℕ) where
  same_no : (v : ℕ) (d : Bool) → eqb v taker ≡ d → bit taker row ≡ false → (bit v row && bit v given) ≡ (not d && (bit v row && (bit v given || bit taker row)))
  same_no v true e h = let z : bit v row ≡ false = ap (λ (x : ℕ). bit x row) (eqb-true v taker e) ∙ h in rw z
  same_no v false e h = rw h (or_false (bit v row) (bit v given))
    where
      or_false : (a b : Bool) → (a && b) ≡ (a && (b || false))
      or_false a true = refl
      or_false a false = refl

  pub left_no : row < 2 ^ k → given < 2 ^ k → bit taker row ≡ false → bit_and row given ≡ pack k (row_after (λ v. bit v given) (λ v. bit v row) taker)
  left_no r g h = (same (and_is (own k r) (own k g)) (λ v l. same_no v (eqb v taker) refl h)).is

-- ---- a row whose marks are known

-- a bit that is not set does not count
pub unmarked : (f g : ℕ → Bool) (row lender v : ℕ) → bit v row ≡ false → counts_among f g row lender v ≡ false
unmarked f g row lender v h = rw (h, and-false (not (eqb v lender)), and-false (f lender))

module _ {k : ℕ} {f g : ℕ → Bool} {lenders takers : ℕ} (p : Packs k f lenders) (q : Packs k g takers) (row lender : ℕ) (fits : row < 2 ^ k) (inside : lender < k) where
  -- the sets of free wires, said by their bits
  pub among_is : (v : ℕ) → counts_among (λ i. bit i lenders) (λ i. bit i takers) row lender v ≡ counts_among f g row lender v
  among_is v = go (dec_lt v k)
    where
      go : Dec (v < k) → counts_among (λ i. bit i lenders) (λ i. bit i takers) row lender v ≡ counts_among f g row lender v
      go (yes l) = rw (bit_is p lender inside, bit_is q v l)
      go (no l) = rw (bit_is p lender inside, bit_past k v fits (omega arith))

-- a number that packs the marks has each of them as its bit, at any wire
pub marked : (k : ℕ) (f g : ℕ → Bool) (row lender : ℕ) → row < 2 ^ k → (m : ℕ) → m ≡ pack k (counts_among f g row lender)
    → (v : ℕ) → bit v m ≡ counts_among f g row lender v
marked k f g row lender fits m e v = go (dec_lt v k)
  where
    packed : Packs k (counts_among f g row lender) m
    packed = record { is = e }

    go : Dec (v < k) → bit v m ≡ counts_among f g row lender v
    go (yes l) = bit_is packed v l
    go (no l) = bit_past k v (lt_is packed) (omega arith) ∙ sym (unmarked f g row lender v (bit_past k v fits (omega arith)))

-- what an offer leaves of a row, by marks that are known
pub left_is : (k given taker : ℕ) (f : ℕ → Bool) (m : ℕ) → ((v : ℕ) → bit v m ≡ f v)
    → pack k (row_after (λ v. bit v given) (λ v. bit v m) taker) ≡ pack k (row_after (λ v. bit v given) f taker)
left_is k given taker f m h = pack_ext k one
  where
    one : (v : ℕ) → v < k → row_after (λ w. bit w given) (λ w. bit w m) taker v ≡ row_after (λ w. bit w given) f taker v
    one v l = rw (h v, h taker)
