-- A call's outcome as the one word that it returns.
use Rattle.std.specs.Prelude.{ℕ, ◌+◌, ◌*◌, Bool, true, false, ◌≡◌, List}
use Rattle.basics.specs.Outcome.{Outcome, done, refused}
use Rattle.writing.specs.Writing.{sized, holding}
use Rattle.circuits.specs.declared.circuit.Circuit.{Circuit}

-- values and places are below 2 ^ 32
abbrev pub places_end : ℕ
places_end = 4294967296

-- the value, or the refusal's number times 2 ^ 32 plus its place
abbrev pub word : Outcome ℕ → ℕ
word (done value) = value
word (refused number place) = number * places_end + place

-- instructions * 256 + wires
abbrev pub circuit_value : Outcome Circuit → Outcome ℕ
circuit_value (done c) = done (c.instructions * 256 + c.width)
circuit_value (refused number place) = refused number place

-- 1 yes, 0 no
abbrev pub flag : Outcome Bool → Outcome ℕ
flag (done true) = done 1
flag (done false) = done 0
flag (refused number place) = refused number place

-- a call that writes returns how many bytes, or its refusal, as a word, and leaves the buffer so
pub record Worded (old : List ℕ) (o : Outcome (List ℕ)) (w : ℕ) (new : List ℕ) : Type 0 where
  pub tells : w ≡ word (sized o)
  pub leaves : new ≡ holding old o
