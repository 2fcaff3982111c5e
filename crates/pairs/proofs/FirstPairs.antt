-- The first 96 bytes of a pair list decide: an accepted list has fewer pairs than wires, so of a longer one a record in these bytes is
-- refused. Assumes nothing.
use Prim.Native.Nat.{ℕ, zero, suc, ◌+◌, ◌-◌, ◌*◌, ◌/◌, ◌≤◌, ◌<◌}
use mathlib.Core.Path.{◌≡◌, refl, sym, ap, subst, ◌∙◌}
use mathlib.Core.Logic.{inl, inr}
use mathlib.Core.Bool.{Bool, true, false}
use mathlib.Core.List.{List, ◌∷◌}
use Rattle.std.specs.Prelude.{Option}
use native.Mathlib.Omega.{arith}
use lib.Dec.{eqb}
use lib.ListN.{length, get_or, take}
use lib.Seq.{get_or-take, length-take-le, take_all}
use borrow.Author.Tests.{eqb-true, lt-leb}
use Rattle.basics.specs.Choice.{pick}
use Rattle.basics.specs.Outcome.{Outcome, done, refused}
use Rattle.basics.proofs.Tests.{true_or_false, not_both, below_or_not}
use Rattle.orders.specs.Runs.{Pair, Circuit, Lawful}
use Rattle.orders.proofs.Pairs.{allowed_few}
use Rattle.records.specs.Kinds.{shape_of}
use Rattle.records.specs.declared.kinds.Outline.{Outline}
use Rattle.records.specs.Records.{stands, record_at, wire}
use Rattle.records.specs.declared.instructions.Record.TheVariants.{Reuse}
use Rattle.records.specs.declared.kinds.Form.TheVariants as form
use Rattle.records.proofs.Standings.{at_record}
use Rattle.records.proofs.RoundTrip.{back_length}
use Rattle.circuits.specs.Limits.{most_wires}
use Rattle.circuits.specs.Reading.{Static, read_circuit}
use Rattle.circuits.proofs.Validity.{read_valid}
use Rattle.precedence.specs.Precedence.{circuit_of}
use Rattle.table.specs.Calls.{offered}
use Rattle.table.specs.Starting.{start_table}
use Rattle.table.specs.Growing.{Growing, taking, grown_from}
use Rattle.table.specs.declared.tables.Table.{Table}
use Rattle.pairs.specs.Listing.{Next, pair, end, shape_pair, pair_kind, pair_of, pair_at, tried, pursued, onward, pairs_from, read_pairs, deciding_list_bytes}
use Rattle.pairs.proofs.PairTurns.{pair_back}
use Rattle.pairs.proofs.PairLaws.{Sound, offer_sound, at_start, law}

-- the kind of a reuse pair is 60
pair_kind_lem : (k : ℕ) → pair_kind k ≡ true → k ≡ 0x60
unfolding shape_of
pair_kind_lem k e = elim (true_or_false (eqb k 0x60)) [
  | inl t ↦ eqb-true k 0x60 t
  | inr f ↦ absurd (
      not_both (pair_kind k) e (other (eqb k 0x01) _ _ refl (other (eqb k 0x02) _ _ refl (other (eqb k 0x10) _ _ refl (other (eqb k 0x11) _ _ refl
      (rw f (other (eqb (k / 16) 2) _ _ refl (other (eqb (k / 16) 3) _ _ refl (other (eqb (k / 16) 4) _ _ refl (other (eqb (k / 16) 5) _ _ refl refl)))))))))
      )
]
  where
    other : (b : Bool) (x y : Option Outline) → shape_pair x ≡ false → shape_pair y ≡ false → shape_pair (pick b x y) ≡ false
    other true x y e f = e
    other false x y e f = f

-- a pair's record that stands whole in the first bytes is read from them as from all
module _ (s : List ℕ) (n at : ℕ) (far : at + 3 ≤ n) (long : n < length s) where
  cut : length (take n s) ≡ n
  cut = length-take-le n s (omega arith)

  byte : (k : ℕ) → k < 3 → get_or (take n s) (at + k) 0 ≡ get_or s (at + k) 0
  byte k h = get_or-take n s (at + k) 0 (omega arith)

  kind : get_or (take n s) at 0 ≡ get_or s at 0
  kind = get_or-take n s at 0 (omega arith)

  whole : (xs : List ℕ) → at + 3 ≤ length xs → get_or xs at 0 ≡ 0x60
      → record_at xs at ≡ done (stands (Reuse (wire (get_or xs (at + 1) 0)) (wire (get_or xs (at + 2) 0))) (at + 1 + 2))
  unfolding shape_of
  whole xs room k = at_record xs at (omega arith) {h = record { form = form.Reuse; body = 2; operands = 2 }} (ap shape_of k) (omega arith)

  record_first : get_or s at 0 ≡ 0x60 → record_at (take n s) at ≡ record_at s at
  record_first k =
      whole (take n s) (omega (arith, cut)) (kind ∙ k)
      ∙ rw (byte 1 (omega arith), byte 2 (omega arith)) (sym (whole s (omega arith) k))

  pair_first : (index : ℕ) → pair_at (take n s) at index ≡ pair_at s at index
  unfolding pair_at
  pair_first index = rw (lt-leb (length (take n s)) at (omega (arith, cut)), lt-leb (length s) at (omega arith), kind) (go (pair_kind (get_or s at 0)) refl)
    where
      go : (b : Bool) → pair_kind (get_or s at 0) ≡ b
          → pick b (pair_of index (record_at (take n s) at)) (refused 24 index) ≡ pick b (pair_of index (record_at s at)) (refused 24 index)
      go true e = ap (pair_of index) (record_first (pair_kind_lem _ e))
      go false e = refl

module _ (C : Circuit) (law : Lawful C) (narrow : C.width ≤ most_wires) (s : List ℕ) (long : deciding_list_bytes < length s) where
  abbrev first : List ℕ
  first = take deciding_list_bytes s

  -- from any pair on, with enough turns left for as many pairs as wires
  pairs_first : (more less at index : ℕ) (g : Growing) → Sound C law g → length g.pairs ≡ index → at ≡ 3 * index
      → most_wires < more + index → most_wires < less + index → pairs_from less first at index g ≡ pairs_from more s at index g
  unfolding pairs_from
  pairs_first zero less at index g sound size place m n = absurd (omega (arith, allowed_few C law g.pairs sound.0.allowed))
  pairs_first (suc more) zero at index g sound size place m n = absurd (omega (arith, allowed_few C law g.pairs sound.0.allowed))
  pairs_first (suc more) (suc less) at index g sound size place m n =
      ap (λ (o : Outcome Next). pursued g o (λ p next. onward (tried index p g (offered g.table p.0 p.1)) (λ h. pairs_from less first next (index + 1) h)))
      (pair_first s deciding_list_bytes at (omega (arith, few)) long index)
      ∙ go (pair_at s at index) refl (λ next h sound size place. pairs_first more less next (index + 1) h sound size place (omega arith) (omega arith))
    where
      few : length g.pairs ≤ C.width - 1
      few = allowed_few C law g.pairs sound.0.allowed

      taken : (p : Pair) (next : ℕ) → next ≡ 3 * (index + 1) → (o : Outcome Table) → offered g.table p.0 p.1 ≡ o
          → ((h : Growing) → Sound C law h → length h.pairs ≡ index + 1 → next ≡ 3 * (index + 1)
          → pairs_from less first next (index + 1) h ≡ pairs_from more s next (index + 1) h)
          → onward (tried index p g o) (λ h. pairs_from less first next (index + 1) h) ≡ onward (tried index p g o) (λ h. pairs_from more s next (index + 1) h)
      taken p next e (done t) z later =
          later (record { table = t; pairs = p ∷ g.pairs }) (subst (λ (o : Outcome Table). Sound C law (taking p g o)) z (offer_sound C law p g sound)) (omega (arith, size)) e
      taken p next e (refused k q) z later = refl

      go : (o : Outcome Next) → pair_at s at index ≡ o
          → ((next : ℕ) (h : Growing) → Sound C law h → length h.pairs ≡ index + 1 → next ≡ 3 * (index + 1)
          → pairs_from less first next (index + 1) h ≡ pairs_from more s next (index + 1) h)
          → pursued g o (λ p next. onward (tried index p g (offered g.table p.0 p.1)) (λ h. pairs_from less first next (index + 1) h))
          ≡ pursued g o (λ p next. onward (tried index p g (offered g.table p.0 p.1)) (λ h. pairs_from more s next (index + 1) h))
      go (done (pair p next)) z later =
          let moved : at + 3 ≡ next = back_length s at (pair_back s at index z) in
          taken p next (omega arith) (offered g.table p.0 p.1) refl (later next)
      go (done end) z later = refl
      go (refused k q) z later = refl

-- THEOREM: what a pair list is against a circuit's table, its first 96 bytes decide.
pub first_bytes_of_list : (s list : List ℕ) (c : Static) → read_circuit s ≡ done c
    → read_pairs (start_table c) (take deciding_list_bytes list) ≡ read_pairs (start_table c) list
first_bytes_of_list s list c e = elim (below_or_not deciding_list_bytes (length list)) [
  | inl long ↦ (let cut = length-take-le deciding_list_bytes list (omega arith) in
      pairs_first (circuit_of c) (law s list c e) (read_valid s e).narrow list long (suc (length list)) (suc (length (take deciding_list_bytes list))) 0 0 (grown_from c)
      (at_start s list c e) refl refl (omega arith) (omega arith))
  | inr short ↦ ap (read_pairs (start_table c)) (take_all deciding_list_bytes list short)
]
