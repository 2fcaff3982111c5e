-- Document 01's table of refusals: the number of each cause. And what an answer of the code says: it is done, or refused with the
-- cause's number and the place.
use Rattle.std.specs.Prelude.{ℕ, Result, Ok, Err}
use Rattle.basics.specs.Outcome.{Outcome, done, refused}
use Rattle.records.specs.declared.refusals.Cause.{Cause}
use Rattle.records.specs.declared.refusals.Cause.TheVariants as cause
use Rattle.records.specs.declared.refusals.Refusal.{Refusal}

abbrev pub number_of : Cause → ℕ
number_of cause.NoStaticWidth = 1
number_of cause.CutBody = 2
number_of cause.WrongWidth = 3
number_of cause.NoInstruction = 4
number_of cause.TooManyInstructions = 5
number_of cause.LineOutside = 6
number_of cause.LineNamedTwice = 7
number_of cause.NotYetReset = 8
number_of cause.AlreadyReset = 9
number_of cause.AlreadyMeasured = 10
number_of cause.BitOutside = 11
number_of cause.BitAlreadyUsed = 12
number_of cause.NeverMeasured = 13
number_of cause.PairOutside = 20
number_of cause.LenderAlreadyLends = 21
number_of cause.TakerAlreadyTakes = 22
number_of cause.ClosesLoop = 23
number_of cause.NoPair = 24
number_of cause.CutPair = 25
number_of cause.WrongTableWidth = 27
number_of cause.NoRoom = 31

abbrev pub refusal_at : Cause → ℕ → Refusal
refusal_at c at = record { cause = c; place = at }

-- what is refused: document 01's number, and the place
abbrev pub refusal_of : {A : Type 0} → Refusal → Outcome A
refusal_of r = refused (number_of r.cause) r.place

-- what an answer of the code says
abbrev pub outcome_of : {A : Type 0} → Result A Refusal → Outcome A
outcome_of (Ok a) = done a
outcome_of (Err r) = refusal_of r
