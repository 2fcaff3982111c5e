-- The greedy choice handed back as 60 records, with the number of trials and of pairs.
use Rattle.std.specs.Prelude.{ℕ, ◌+◌, ◌*◌, ◌≡◌, List, length}
use Rattle.basics.specs.Outcome.{Outcome, done, refused, handing}
use Rattle.writing.specs.Writing.{fitted, holding}
use Rattle.choosers.specs.declared.answers.Rounds.{Rounds}
use Rattle.lists.specs.ListBytes.{list_bytes}
use Rattle.thaksipho.specs.Words.{word}

-- the list's records, where there is room for them
abbrev pub list_written : ℕ → Outcome Rounds → Outcome (List ℕ)
list_written room (done r) = fitted room (list_bytes r.list)
list_written room (refused number place) = refused number place

-- trials * 256 + pairs, where the list is written
abbrev pub list_value : ℕ → Outcome Rounds → Outcome ℕ
list_value room (done r) = handing (r.trials * 256 + r.list.length) (fitted room (list_bytes r.list))
list_value room (refused number place) = refused number place

-- the call returns the value or its refusal as a word, and leaves the buffer so
pub record Listed (old : List ℕ) (o : Outcome Rounds) (w : ℕ) (new : List ℕ) : Type 0 where
  pub tells : w ≡ word (list_value (length old) o)
  pub leaves : new ≡ holding old (list_written (length old) o)
