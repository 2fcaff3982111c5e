-- The bytes of a pair list that is read to its end: a record for each pair, left to right. Assumes nothing.
use Prim.Native.Nat.{ℕ, zero, suc, ◌+◌, ◌-◌, ◌≤◌, ◌<◌}
use mathlib.Core.Bool.{true}
use mathlib.Core.Path.{◌≡◌, refl, sym, ap, ◌∙◌}
use mathlib.Core.List.{List, [], ◌∷◌, ◌++◌, reverse_aux, append_cancel_left}
use native.Mathlib.Omega.{arith}
use lib.ListN.{length, get_or, drop, length-drop}
use lib.Seq.{get_or-drop}
use borrow.Author.Tests.{le-leb, lt-leb}
use Rattle.basics.specs.Outcome.{Outcome, done, refused}
use Rattle.basics.proofs.Outcomes.{not_refused}
use Rattle.orders.specs.Runs.{Pair}
use Rattle.records.specs.Kinds.{shape_of}
use Rattle.records.specs.Bytes.{record_bytes}
use Rattle.records.proofs.RoundTrip.{round_trip, rest_behind, reads_back}
use Rattle.table.specs.Calls.{offered}
use Rattle.table.specs.Growing.{Growing}
use Rattle.table.specs.declared.tables.Table.{Table}
use Rattle.pairs.specs.Listing.{Next, pair, end, pair_kind, pair_record, pairs_bytes, pair_of, pair_at, tried, pursued, onward, pairs_from}
use Rattle.pairs.proofs.PairTurns.{pair_back, pair_end}

-- a place past the end has nothing behind it
nothing_behind : (s : List ℕ) (at : ℕ) → length s ≤ at → drop at s ≡ []
nothing_behind s at h = go (drop at s) (let l = length-drop at s in omega arith)
  where
    go : (xs : List ℕ) → length xs ≡ 0 → xs ≡ []
    go [] e = refl
    go (x ∷ xs) e = absurd (omega arith)

-- a list has no more pairs than bytes
pub pairs_short : (ps : List Pair) → length ps ≤ length (pairs_bytes ps)
unfolding pairs_bytes
pairs_short [] = omega arith
pairs_short (p ∷ ps) = let l = pairs_short ps in omega arith

-- the pairs of a list: those that were taken before, with the later ones in front, and their records from a place on
pub record Listed (s : List ℕ) (at : ℕ) (before after : List Pair) : Type 0 where
  pub pairs : List Pair
  pub taken : after ≡ reverse_aux pairs before
  pub bytes : drop at s ≡ pairs_bytes pairs

module _ (s : List ℕ) where
  -- the reading from a later place on is of records
  abbrev Later : ℕ → ℕ → Growing → ℕ → Type 0
  Later more index h next = (k : Growing) → length s - next < more → pairs_from more s next (index + 1) k ≡ done h → Listed s next k.pairs h.pairs

  -- what was read to its end are the records of its pairs
  pub pairs_listed : (more at index : ℕ) (g h : Growing) → length s - at < more → pairs_from more s at index g ≡ done h → Listed s at g.pairs h.pairs
  unfolding pairs_from pairs_bytes
  pairs_listed zero at index g h l e = absurd (omega arith)
  pairs_listed (suc more) at index g h l e = go (pair_at s at index) refl (λ next k m f. pairs_listed more next (index + 1) k h m f) e
    where
      taken : (p : Pair) (next : ℕ) → pair_at s at index ≡ done (pair p next) → (o : Outcome Table) → Later more index h next
          → onward (tried index p g o) (λ k. pairs_from more s next (index + 1) k) ≡ done h → Listed s at g.pairs h.pairs
      taken p next z (done t) later e =
          let b = pair_back s at index z in
          let past = b.past in
          let within = b.within in
          let r = later (record { table = t; pairs = p ∷ g.pairs }) (omega arith) e in
          record {
            pairs = p ∷ r.pairs;
            taken = r.taken;
            bytes = rest_behind s at b ∙ ap (λ (xs : List ℕ). record_bytes (pair_record p) ++ xs) r.bytes;
          }
      taken p next z (refused n q) later e = absurd (not_refused e)

      go : (o : Outcome Next) → pair_at s at index ≡ o → ((next : ℕ) → Later more index h next)
          → pursued g o (λ p next. onward (tried index p g (offered g.table p.0 p.1)) (λ k. pairs_from more s next (index + 1) k)) ≡ done h
          → Listed s at g.pairs h.pairs
      go (done (pair p next)) z later e = taken p next z (offered g.table p.0 p.1) (later next) e
      go (done end) z later e =
          let y : h ≡ g = cc in
          record { pairs = []; taken = ap (λ (k : Growing). k.pairs) y; bytes = nothing_behind s at (pair_end s at index z) }
      go (refused n q) z later e = absurd (not_refused e)

  module _ (at index : ℕ) where
    -- where nothing is left the list ends
    pub end_there : drop at s ≡ pairs_bytes [] → pair_at s at index ≡ done end
    unfolding pair_at pairs_bytes
    end_there e = let l = ap length e in rw (le-leb (length s) at (omega (arith, length-drop at s)))

    module _ (p : Pair) (behind : List ℕ) (e : drop at s ≡ record_bytes (pair_record p) ++ behind) where
      -- where a pair's record stands, that pair is found
      pub pair_there : pair_at s at index ≡ done (pair p (at + 3))
      unfolding pair_at shape_of
      pair_there =
          let size : length (drop at s) ≡ suc (suc (suc (length behind))) = ap length e in
          let kind : get_or s at 0 ≡ 0x60 = ap (λ (m : ℕ). get_or s m 0) (omega arith) ∙ sym (get_or-drop at s 0 0) ∙ ap (λ (xs : List ℕ). get_or xs 0 0) e in
          let known : pair_kind (get_or s at 0) ≡ true = ap pair_kind kind in
          rw (lt-leb (length s) at (omega (arith, length-drop at s)), known) (ap (pair_of index) (reads_back s at (pair_record p) behind e refl))

      -- and the rest of the list stands behind it
      pub rest_there : drop (at + 3) s ≡ behind
      rest_there =
          let back = round_trip s at (reads_back s at (pair_record p) behind e refl) in
          append_cancel_left (record_bytes (pair_record p)) (drop (at + 3) s) behind (sym (rest_behind s at back) ∙ e)
