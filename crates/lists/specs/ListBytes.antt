-- A chooser's list as the bytes of a pair list.
use Rattle.std.specs.Prelude.{ℕ, List}
use Rattle.pairs.specs.Listing.{pairs_bytes}
use Rattle.choosers.specs.Results.{pairs_of}
use Rattle.choosers.specs.declared.answers.PairList.{PairList}

-- the records of the pairs, in the order of the list
abbrev pub list_bytes : PairList → List ℕ
list_bytes l = pairs_bytes (pairs_of l)
