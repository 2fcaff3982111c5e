-- The words of a refusal, as programs print it.
use Rattle.std.specs.Prelude.{ℕ, List, ◌++◌, codes, decimal}
use Rattle.records.specs.Refusals.{number_of}
use Rattle.records.specs.declared.refusals.Refusal.{Refusal}

abbrev pub words_of : Refusal → List ℕ
words_of r = codes "refused " ++ decimal (number_of r.cause) ++ codes " at " ++ decimal r.place
