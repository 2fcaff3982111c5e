-- What a call settles, in the document's words. Each answer of the code has a definition that gives its outcome.
use Rattle.std.specs.Prelude.{ℕ}

-- done, with the values that the call hands back; or refused, with the document's number and its place
pub data Outcome (A : Type 0) : Type 0 where
  done : A → Outcome A
  refused : ℕ → ℕ → Outcome A

-- the same outcome, handing back another value
abbrev pub handing : {A B : Type 0} → B → Outcome A → Outcome B
handing b (done a) = done b
handing b (refused number place) = refused number place

-- the value that stands beside the answer: what is handed back, or beside a refusal the value given
abbrev pub beside : {A : Type 0} → A → Outcome A → A
beside given (done a) = a
beside given (refused number place) = given
