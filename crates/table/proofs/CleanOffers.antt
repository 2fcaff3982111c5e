-- In a clean table every mark that is set counts, so an offer goes by the marks that are set. Assumes nothing.
use mathlib.Core.Path.{◌≡◌, ap, ◌∙◌}
use mathlib.Core.Logic.{◌⊎◌, inl, inr, ◌≢◌}
use mathlib.Core.Bool.{true, not, ◌&&◌}
use mathlib.Core.List.{List}
use Prim.Native.Nat.{ℕ, ◌<◌}
use native.Mathlib.Omega.{arith}
use borrow.Author.Tests.{eq-eqb, ne_eqb}
use lib.Dec.{eqb, ltb}
use lib.ListN.{length, get_or, set, length-set}
use lib.Seq.{get_or-set_same, get_or-set_other}
use Rattle.basics.specs.Outcome.{handing}
use Rattle.basics.proofs.Tests.{both, same_test, same_or_other}
use Rattle.bits.specs.Bits.{bit, pack, each}
use Rattle.bits.proofs.Packing.{pack_ext, nothing_packed}
use Rattle.bits.proofs.Lists.{each_eq}
use Rattle.table.specs.Limits.{most_wires}
use Rattle.table.specs.Marks.{counts, lends, takes, Clean}
use Rattle.table.specs.Rule.{row_after, mark_after, used_after, is_set, accepted_in, accepted, accepted_clean}
use Rattle.table.specs.Calls.{judged, offered, offered_clean}
use Rattle.table.specs.declared.tables.Table.{Table}

module _ (t : Table) (lender taker : ℕ) where
  -- the rows that the rule leaves of each other lender, and the lender's own row, which becomes 0
  pub own_row_gone : (rows : List ℕ) → length rows ≡ most_wires → lender < most_wires → ((u : ℕ) → u < most_wires → get_or rows u 0 ≡ pack most_wires (row_after (is_set t lender) (is_set t u) taker))
      → set rows lender 0 ≡ each most_wires (λ u. pack most_wires (mark_after (is_set t) lender taker u))
  own_row_gone rows size inside left = each_eq most_wires _ (set rows lender 0) (simp length-set size) (λ u l. go u l (same_or_other u lender))
    where
      go : (u : ℕ) → u < most_wires → (u ≡ lender) ⊎ (u ≢ lender) → get_or (set rows lender 0) u 0 ≡ pack most_wires (mark_after (is_set t) lender taker u)
      go u l (inl e) =
          ap (λ (x : ℕ). get_or (set rows lender 0) x 0) e
          ∙ get_or-set_same rows lender 0 0 (omega (arith, size))
          ∙ nothing_packed most_wires (λ v. rw (eq-eqb u lender e))
      go u l (inr d) = get_or-set_other rows lender u 0 0 d ∙ left u l ∙ pack_ext most_wires (λ v m. rw (ne_eqb u lender d))

  module _ (clean : Clean t) where
    -- what counts is set
    counts_set : (u v : ℕ) → counts t u v ≡ true → is_set t u v ≡ true
    unfolding counts
    counts_set u v h = (both (is_set t u v) _ (both (not (eqb v u)) _ (both (ltb u t.width && not (bit u t.lending)) _ h).1).1).0

    same_marks : (u v : ℕ) → is_set t u v ≡ counts t u v
    same_marks u v = same_test (is_set t u v) (counts t u v) (clean.marks u v) (counts_set u v)

    same_accepted : accepted_clean t lender taker ≡ accepted t lender taker
    unfolding accepted_clean accepted_in
    same_accepted = λ i. record {
      width = t.width;
      rows = each most_wires (λ u. pack most_wires (mark_after (λ x y. same_marks x y i) lender taker u));
      lending = pack most_wires (used_after (lends t) lender);
      taking = pack most_wires (used_after (takes t) taker);
    }

    pub same_offered : offered_clean t lender taker ≡ offered t lender taker
    same_offered = ap (λ (after : Table). handing after (judged t lender taker)) same_accepted
