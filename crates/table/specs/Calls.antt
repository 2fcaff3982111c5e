-- What each call on a table settles.
use Rattle.std.specs.Prelude.{ℕ, Bool, ◌||◌, eqb, ltb, leb}
use Rattle.basics.specs.Choice.{pick}
use Rattle.basics.specs.Outcome.{Outcome, done, refused, handing}
use Rattle.bits.specs.Bits.{bit}
use Rattle.table.specs.Limits.{most_wires}
use Rattle.table.specs.Marks.{counts, marks_of}
use Rattle.table.specs.Rule.{accepted, accepted_clean}
use Rattle.table.specs.declared.tables.Table.{Table}

-- width 0 or above the most wires
abbrev pub wrong_width : Table → Bool
wrong_width t = eqb t.width 0 || ltb most_wires t.width

-- the lender or the taker is not below the width
abbrev pub outside_width : Table → ℕ → ℕ → Bool
outside_width t lender taker = leb t.width lender || leb t.width taker

-- whether the lender may lend to the taker
unfoldable pub may_lend : Table → ℕ → ℕ → Outcome Bool
may_lend t lender taker = pick (wrong_width t) (refused 27 0) (done (counts t lender taker))

-- what becomes of an offer: the first of these refuses it, or it is taken
unfoldable pub judged : Table → ℕ → ℕ → Outcome (Unit {0})
judged t lender taker =
    pick (wrong_width t) (refused 27 0)
    (pick (outside_width t lender taker) (refused 20 0)
    (pick (bit lender t.lending) (refused 21 0)
    (pick (bit taker t.taking) (refused 22 0)
    (pick (counts t lender taker) (done tt)
    (refused 23 0)))))

-- an offer that is taken hands back the table after it
abbrev pub offered : Table → ℕ → ℕ → Outcome Table
offered t lender taker = handing (accepted t lender taker) (judged t lender taker)

-- the same by the marks that are set, for a table in which all of them count
abbrev pub offered_clean : Table → ℕ → ℕ → Outcome Table
offered_clean t lender taker = handing (accepted_clean t lender taker) (judged t lender taker)

-- how many marks count
unfoldable pub count_of : Table → Outcome ℕ
count_of t = pick (wrong_width t) (refused 27 0) (done (marks_of t))

-- a pair's score: how many marks count after the offer; where that is refused, so is the score
abbrev pub score_of : Table → ℕ → ℕ → Outcome ℕ
score_of t lender taker = handing (marks_of (accepted t lender taker)) (judged t lender taker)
