-- Laws of the walk: it hands out exactly the records of the circuit, each at its place, up to the end or the first fault.
-- Assumes nothing.
use Prim.Native.Nat.{ℕ, zero, suc, ◌+◌, ◌≤◌}
use mathlib.Core.Path.{◌≡◌, refl, sym, ap, ◌∙◌}
use mathlib.Core.Bool.{true, false≢true}
use mathlib.Core.List.{List, [], ◌∷◌, ◌++◌, append_assoc, append_cancel_left}
use native.Mathlib.Omega.{arith}
use lib.ListN.{length, take, drop, length-append, length-drop}
use lib.Seq.{take_at, take_all}
use Rattle.basics.specs.Outcome.{Outcome, done, refused}
use Rattle.basics.proofs.Tests.{both, and_intro}
use Rattle.records.specs.Records.{Standing, stands, over, record_at}
use Rattle.records.specs.Bytes.{record_bytes, kind_fits}
use Rattle.records.specs.declared.instructions.Record.{Record}
use Rattle.records.proofs.Standings.{at_end, over_end, refused_here}
use Rattle.records.proofs.RoundTrip.{Back, round_trip, rest_behind, back_length, reads_back}
use Rattle.walk.specs.Walks.{moved_to, place_after, Walked, hands, ends, refuses, onward, walk_from, walk_of, Goes}
use Rattle.walk.specs.Walks.{handed, stops_at, finishes, all_bytes, all_fit, hands_out}

-- The walk goes by what stands

walk_from_lem : (s : List ℕ) (left at : ℕ) → length s ≤ at + left → Goes s at (walk_from left s at)
walk_from_lem s zero at l = (refl, at_end s at (omega arith))
walk_from_lem s (suc left) at l = go (λ next m. walk_from_lem s left next m) (record_at s at) refl
  where
    go : ((next : ℕ) → length s ≤ next + left → Goes s next (walk_from left s next)) → (o : Outcome Standing) → record_at s at ≡ o
        → Goes s at (onward at o (λ next. walk_from left s next))
    go rest (done (stands r next)) e =
        let past = (round_trip s at e).past in
        let moved : place_after s at ≡ next = ap (moved_to at) e in
        (refl, rw moved e, rw moved (rest next (omega arith)))
    go rest (done over) e = (refl, e)
    go rest (refused number place) e = ((refused_here s at e).0, e)

-- from the start: each record at its place, the next one where the walk moves to, up to the end or the first fault
pub walk_goes : (s : List ℕ) → Goes s 0 (walk_of s)
unfolding walk_of
walk_goes s = walk_from_lem s (length s) 0 (omega arith)

-- What is handed out

-- the bytes of what is handed out are as many as the walk passes
bytes_length : (s : List ℕ) (at : ℕ) (w : Walked) → Goes s at w → at + length (all_bytes (handed w)) ≡ stops_at w
bytes_length s at (hands place r w) (e, stood, g) =
    let size = back_length s at (round_trip s at stood) in
    let rest = bytes_length s (place_after s at) w g in
    omega (arith, length-append (record_bytes r) (all_bytes (handed w)))
bytes_length s at (ends place) g = let e = g.0 in omega arith
bytes_length s at (refuses number place) g = let e = g.0 in omega arith

-- and they stand before what the walk leaves
bytes_before : (s : List ℕ) (at : ℕ) (w : Walked) → Goes s at w → all_bytes (handed w) ++ drop (stops_at w) s ≡ drop at s
bytes_before s at (hands place r w) (e, stood, g) =
    append_assoc (record_bytes r) (all_bytes (handed w)) (drop (stops_at w) s)
    ∙ ap (λ (xs : List ℕ). record_bytes r ++ xs) (bytes_before s (place_after s at) w g)
    ∙ sym (rest_behind s at (round_trip s at stood))
bytes_before s at (ends place) g = ap (λ (p : ℕ). drop p s) g.0
bytes_before s at (refuses number place) g = ap (λ (p : ℕ). drop p s) g.0

-- every kind that is handed out is one of its form's
kinds_fit : (s : List ℕ) (at : ℕ) (w : Walked) → Goes s at w → all_fit (handed w) ≡ true
kinds_fit s at (hands place r w) (e, stood, g) =
    and_intro (kind_fits r) (all_fit (handed w)) (round_trip s at stood).fits (kinds_fit s (place_after s at) w g)
kinds_fit s at (ends place) g = refl
kinds_fit s at (refuses number place) g = refl

-- a walk that comes to the end leaves nothing
nothing_left : (s : List ℕ) (at : ℕ) (w : Walked) → Goes s at w → finishes w ≡ true → length s ≤ stops_at w
nothing_left s at (hands place r w) (e, stood, g) f = nothing_left s (place_after s at) w g f
nothing_left s at (ends place) (e, stood) f = let l = over_end s at stood in omega arith
nothing_left s at (refuses number place) g f = absurd (false≢true f)

-- the bytes of the records that are handed out, joined, are the bytes walked
pub walk_bytes : (s : List ℕ) → all_bytes (handed (walk_of s)) ≡ take (stops_at (walk_of s)) s
walk_bytes s =
    let w : Walked = walk_of s in
    let size : length (all_bytes (handed w)) ≡ stops_at w = omega (arith, bytes_length s 0 w (walk_goes s)) in
    sym (take_at (all_bytes (handed w)) (drop (stops_at w) s) (stops_at w) size)
    ∙ ap (take (stops_at w)) (bytes_before s 0 w (walk_goes s))

-- Whole records

-- the first of them is read
read : (s : List ℕ) (r : Record) (rs : List Record) (at : ℕ) → drop at s ≡ all_bytes (r ∷ rs) → all_fit (r ∷ rs) ≡ true
    → (record_at s at ≡ done (stands r (at + length (record_bytes r)))) × Back s at r (at + length (record_bytes r))
read s r rs at e f =
    let stood = reads_back s at r (all_bytes rs) e (both (kind_fits r) (all_fit rs) f).0 in
    (stood, round_trip s at stood)

-- where whole records stand, up to the end, the walk hands out just these
records_from : (s : List ℕ) (rs : List Record) (left at : ℕ) → drop at s ≡ all_bytes rs → all_fit rs ≡ true
    → length (all_bytes rs) ≤ left → walk_from left s at ≡ hands_out at rs
records_from s [] zero at e f l = refl
records_from s [] (suc left) at e f l =
    let none = sym (length-drop at s) ∙ ap length e in
    ap (λ (o : Outcome Standing). onward at o (λ next. walk_from left s next)) (at_end s at (omega arith))
records_from s (r ∷ rs) zero at e f l =
    let past = (read s r rs at e f).1.past in
    absurd (omega (arith, length-append (record_bytes r) (all_bytes rs)))
records_from s (r ∷ rs) (suc left) at e f l =
    let past = (read s r rs at e f).1.past in
    ap (λ (o : Outcome Standing). onward at o (λ next. walk_from left s next)) (read s r rs at e f).0
    ∙ ap (hands at r)
    (records_from s rs left (at + length (record_bytes r))
    (append_cancel_left (record_bytes r) _ _ (sym (rest_behind s at (read s r rs at e f).1) ∙ e))
    (both (kind_fits r) (all_fit rs) f).1
    (omega (arith, length-append (record_bytes r) (all_bytes rs))))

-- of the bytes of records whose kinds fit, the walk hands out exactly these, each at its place
pub walk_of_records : (rs : List Record) → all_fit rs ≡ true → walk_of (all_bytes rs) ≡ hands_out 0 rs
unfolding walk_of
walk_of_records rs f = records_from (all_bytes rs) rs (length (all_bytes rs)) 0 refl f (omega arith)

hands_out-finishes : (at : ℕ) (rs : List Record) → finishes (hands_out at rs) ≡ true
hands_out-finishes at [] = refl
hands_out-finishes at (r ∷ rs) = hands_out-finishes (at + length (record_bytes r)) rs

-- the walk comes to the end exactly where the bytes are those of whole records whose kinds fit, which are then handed out
pub whole_finishes : (s : List ℕ) (rs : List Record) → all_fit rs ≡ true → all_bytes rs ≡ s → finishes (walk_of s) ≡ true
whole_finishes s rs f e =
    ap (λ (t : List ℕ). finishes (walk_of t)) (sym e) ∙ ap finishes (walk_of_records rs f) ∙ hands_out-finishes 0 rs

pub finishes_whole : (s : List ℕ) → finishes (walk_of s) ≡ true
    → (all_fit (handed (walk_of s)) ≡ true) × (all_bytes (handed (walk_of s)) ≡ s)
finishes_whole s f = (
  kinds_fit s 0 (walk_of s) (walk_goes s),
  walk_bytes s ∙ take_all (stops_at (walk_of s)) s (nothing_left s 0 (walk_of s) (walk_goes s) f),
)
