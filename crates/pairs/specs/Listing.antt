-- What any byte string is as a pair list against a table: the pairs, each taken in turn, or a refusal at a pair's index.
use Rattle.std.specs.Prelude.{ℕ, zero, suc, ◌+◌, ◌*◌, ◌≡◌, Bool, true, false, List, [], ◌∷◌, ◌++◌, length, get_or, leb, Option, None, Some, Result, Ok, Err}
use Rattle.basics.specs.Choice.{pick}
use Rattle.basics.specs.Outcome.{Outcome, done, refused}
use Rattle.orders.specs.Runs.{Circuit, Pair, Allowed}
use Rattle.records.specs.Kinds.{shape_of}
use Rattle.records.specs.declared.kinds.Outline.{Outline}
use Rattle.records.specs.Records.{Standing, stands, over, record_at, wire}
use Rattle.records.specs.Bytes.{record_bytes}
use Rattle.records.specs.declared.instructions.Record.{Record}
use Rattle.records.specs.declared.kinds.Form.{Form}
use Rattle.records.specs.declared.kinds.Form.TheVariants as form
use Rattle.records.specs.declared.instructions.Record.TheVariants.{StaticWidth, DynamicWidth, Step, Reuse}
use Rattle.circuits.specs.Limits.{most_wires}
use Rattle.table.specs.Calls.{offered}
use Rattle.table.specs.Growing.{Growing}
use Rattle.table.specs.declared.tables.Table.{Table}
use Rattle.pairs.specs.Lending.{nobody_lends, lenders_in}
use Rattle.records.specs.Refusals.{refusal_of}
use Rattle.records.specs.declared.numbers.Wire.{Wire}
use Rattle.records.specs.declared.refusals.Refusal.{Refusal}
use Rattle.pairs.specs.declared.listing.Paired.{Paired}

abbrev pub pair_form : Form → Bool
pair_form form.StaticWidth = false
pair_form form.DynamicWidth = false
pair_form form.Reset = false
pair_form form.Measurement = false
pair_form form.Gate = false
pair_form form.AngledGate = false
pair_form form.TwoLineGate = false
pair_form form.AngledTwoLineGate = false
pair_form form.Reuse = true

abbrev pub shape_pair : Option Outline → Bool
shape_pair None = false
shape_pair (Some h) = pair_form h.form

-- the kind of a reuse pair: 60, by the table of kinds
abbrev pub pair_kind : ℕ → Bool
pair_kind k = shape_pair (shape_of k)

-- the record of a pair, and the bytes of a pair list: a record for each pair, left to right
abbrev pub pair_record : Pair → Record
pair_record p = Reuse (wire p.0) (wire p.1)

unfoldable pub pairs_bytes : List Pair → List ℕ
pairs_bytes [] = []
pairs_bytes (p ∷ ps) = record_bytes (pair_record p) ++ pairs_bytes ps

-- so many first bytes decide a list: a record for each wire, and an accepted list has fewer
abbrev pub deciding_list_bytes : ℕ
deciding_list_bytes = 3 * most_wires

-- a pair list that is well formed, the records of pairs, and its pairs meet the three conditions of Theorem 1
pub record AllowedList (C : Circuit) (list : List ℕ) : Type 0 where
  pub pairs : List Pair
  pub bytes : list ≡ pairs_bytes pairs
  pub allowed : Allowed C pairs

-- a pair and the place after its record, or the end of the list
pub data Next : Type 0 where
  pair : Pair → ℕ → Next
  end : Next

-- what the code answers
abbrev pub found_pair : Result (Option (Wire × Wire × ℕ)) Refusal → Outcome Next
found_pair (Ok (Some (lender, taker, next))) = done (pair (lender.0, taker.0) next)
found_pair (Ok None) = done end
found_pair (Err r) = refusal_of r

-- a record as the next pair: 24 where it is none, 25 where it is cut short
abbrev pub pair_of : ℕ → Outcome Standing → Outcome Next
pair_of index (done (stands (Reuse lender taker) next)) = done (pair (lender.0, taker.0) next)
pair_of index (done (stands (StaticWidth w) next)) = refused 24 index
pair_of index (done (stands (DynamicWidth q b) next)) = refused 24 index
pair_of index (done (stands (Step i) next)) = refused 24 index
pair_of index (done over) = done end
pair_of index (refused number place) = refused 25 index

-- the pair at a place, which has an index in the list: the end, 24, 25, or a pair
unfoldable pub pair_at : List ℕ → ℕ → ℕ → Outcome Next
pair_at s at index =
    pick (leb (length s) at) (done end) (pick (pair_kind (get_or s at 0)) (pair_of index (record_at s at)) (refused 24 index))

-- what the table answers to an offer, at the pair's index
abbrev pub tried : ℕ → Pair → Growing → Outcome Table → Outcome Growing
tried index p g (done t) = done (record { table = t; pairs = p ∷ g.pairs })
tried index p g (refused number place) = refused number index

abbrev pub pursued : Growing → Outcome Next → (Pair → ℕ → Outcome Growing) → Outcome Growing
pursued g (done (pair p next)) rest = rest p next
pursued g (done end) rest = done g
pursued g (refused number place) rest = refused number place

abbrev pub onward : Outcome Growing → (Growing → Outcome Growing) → Outcome Growing
onward (done g) rest = rest g
onward (refused number place) rest = refused number place

-- the pairs from a place on, each offered to the table as the pairs before it leave it; a list has fewer pairs than bytes
unfoldable pub pairs_from : ℕ → List ℕ → ℕ → ℕ → Growing → Outcome Growing
pairs_from zero s at index g = done g
pairs_from (suc more) s at index g =
    pursued g (pair_at s at index)
    (λ p next. onward (tried index p g (offered g.table p.0 p.1)) (λ h. pairs_from more s next (index + 1) h))

-- the table and its pairs after all pairs of the list, or the first refusal
abbrev pub read_pairs : Table → List ℕ → Outcome Growing
read_pairs t s = pairs_from (suc (length s)) s 0 0 (record { table = t; pairs = [] })

-- what is told of a list: how many pairs were taken, the table after them all, and each wire's lender
abbrev pub paired : Outcome Growing → Outcome Paired
paired (done g) = done (record { count = length g.pairs; table = g.table; lenders = record { lenders = lenders_in g.pairs } })
paired (refused number place) = refused number place

-- beside a refusal: no pairs, the table given, and nobody lends
abbrev pub unpaired : Table → Paired
unpaired t = record { count = 0; table = t; lenders = record { lenders = nobody_lends } }
