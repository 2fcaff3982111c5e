-- Where a refusal of a pair list is told: the numbers 20 to 25 of document 01's table, at the pair's index.
use Rattle.std.specs.Prelude.{ℕ, ◌≤◌, ◌<◌, ◌≡◌, List, [], ◌∷◌, ◌++◌, length}
use Rattle.orders.specs.Runs.{Circuit, Pair, Allowed}
use Rattle.records.specs.Bytes.{record_bytes}
use Rattle.pairs.specs.Listing.{pair_record, pairs_bytes}

-- a refusal of a pair: before its record stand the records of so many pairs, which meet the conditions of Theorem 1, and with the pair that
-- stands there, if one does, they do not
pub record OfPair (C : Circuit) (list : List ℕ) (number place : ℕ) : Type 0 where
  pub least : 20 ≤ number
  pub most : number ≤ 25
  pub before : List Pair
  pub rest : List ℕ
  pub bytes : list ≡ pairs_bytes before ++ rest
  pub more : 0 < length rest
  pub index : place ≡ length before
  pub allowed : Allowed C before
  pub fault : (p : Pair) (behind : List ℕ) → rest ≡ record_bytes (pair_record p) ++ behind → ¬ Allowed C (before ++ (p ∷ []))
