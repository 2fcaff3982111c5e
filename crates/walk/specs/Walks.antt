-- A walk over a circuit or a pair list: where it moves to, and what it hands out from the start on up to the end or a fault.
use Rattle.std.specs.Prelude.{ℕ, zero, suc, ◌+◌, ◌≡◌, Bool, true, false, ◌&&◌, List, [], ◌∷◌, ◌++◌, length}
use Rattle.basics.specs.Outcome.{Outcome, done, refused}
use Rattle.records.specs.Records.{Standing, stands, over, record_at}
use Rattle.records.specs.Bytes.{record_bytes, kind_fits}
use Rattle.records.specs.declared.instructions.Record.{Record}

-- past a record: the place after it; at the end or at a fault: the same place
abbrev pub moved_to : ℕ → Outcome Standing → ℕ
moved_to at (done (stands r next)) = next
moved_to at (done over) = at
moved_to at (refused number place) = at

-- the place that a walk moves to
abbrev pub place_after : List ℕ → ℕ → ℕ
place_after s at = moved_to at (record_at s at)

-- what a walk hands out: a record with its place, and so on; then the end, at its place, or a refusal
pub data Walked : Type 0 where
  hands : ℕ → Record → Walked → Walked
  ends : ℕ → Walked
  refuses : ℕ → ℕ → Walked

-- one step: what stands at a place, and the walk from the place after it
abbrev pub onward : ℕ → Outcome Standing → (ℕ → Walked) → Walked
onward at (done (stands r next)) rest = hands at r (rest next)
onward at (done over) rest = ends at
onward at (refused number place) rest = refuses number place

-- the walk from a place on; `left` is any number that is not below the bytes left
abbrev pub walk_from : ℕ → List ℕ → ℕ → Walked
walk_from zero s at = ends at
walk_from (suc left) s at = onward at (record_at s at) (λ next. walk_from left s next)

-- the walk from the start
unfoldable pub walk_of : List ℕ → Walked
walk_of s = walk_from (length s) s 0

-- a walk hands out what stands at its place, and goes on from the place that it moves to
abbrev pub Goes : List ℕ → ℕ → Walked → Type 0
Goes s at (hands place r w) =
    (place ≡ at) × (record_at s at ≡ done (stands r (place_after s at))) × Goes s (place_after s at) w
Goes s at (ends place) = (place ≡ at) × (record_at s at ≡ done over)
Goes s at (refuses number place) = (place ≡ at) × (record_at s at ≡ refused number place)

-- the records that a walk hands out
abbrev pub handed : Walked → List Record
handed (hands at r w) = r ∷ handed w
handed (ends at) = []
handed (refuses number place) = []

-- the place where a walk stops
abbrev pub stops_at : Walked → ℕ
stops_at (hands at r w) = stops_at w
stops_at (ends at) = at
stops_at (refuses number place) = place

-- a walk that comes to the end
abbrev pub finishes : Walked → Bool
finishes (hands at r w) = finishes w
finishes (ends at) = true
finishes (refuses number place) = false

-- the bytes of records, one after the other
abbrev pub all_bytes : List Record → List ℕ
all_bytes [] = []
all_bytes (r ∷ rs) = record_bytes r ++ all_bytes rs

-- every gate's kind is one of its form's
abbrev pub all_fit : List Record → Bool
all_fit [] = true
all_fit (r ∷ rs) = kind_fits r && all_fit rs

-- the walk that hands out given records, the first one at a place
abbrev pub hands_out : ℕ → List Record → Walked
hands_out at [] = ends at
hands_out at (r ∷ rs) = hands at r (hands_out (at + length (record_bytes r)) rs)
