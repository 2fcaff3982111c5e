-- Which numbers of document 01's table a call can give, each with its place. For 1 to 13, of a circuit, that is `OfCircuit` of crate circuits,
-- and for 20 to 25, of a pair, `OfPair` of crate pairs.
use Rattle.std.specs.Prelude.{ℕ, ◌+◌, ◌≤◌, ◌≡◌, ◌⊎◌, List, length}
use Rattle.circuits.specs.Reading.{Static}
use Rattle.circuits.specs.Validity.{Valid}
use Rattle.circuits.specs.Places.{OfCircuit}
use Rattle.precedence.specs.Precedence.{circuit_of}
use Rattle.pairs.specs.Places.{OfPair}

-- 20 to 25, of a pair in a list for a valid circuit
pub record OfList (s list : List ℕ) (number place : ℕ) : Type 0 where
  pub circuit : Static
  pub valid : Valid s circuit
  pub pair : OfPair (circuit_of circuit) list number place

-- 20 to 23 of a single offer, which has index 0
pub record OfOffer (number place : ℕ) : Type 0 where
  pub least : 20 ≤ number
  pub most : number ≤ 23
  pub first : place ≡ 0

-- 27, of a table that was given
pub record OfTable (number place : ℕ) : Type 0 where
  pub is : number ≡ 27
  pub first : place ≡ 0

-- 31, of the room: the place is the length needed
pub record OfRoom (needed number place : ℕ) : Type 0 where
  pub is : number ≡ 31
  pub length_needed : place ≡ needed

-- what writing a circuit again can give, and what compiling can
abbrev pub OfRewriting : List ℕ → ℕ → ℕ → Type 0
OfRewriting s number place = OfCircuit s number place ⊎ OfRoom (length s) number place

abbrev pub OfCompiling : List ℕ → List ℕ → ℕ → ℕ → Type 0
OfCompiling s list number place = OfCircuit s number place ⊎ OfList s list number place ⊎ OfRoom (length s + 1) number place

-- what an offer to a table, or a score on it, can give
abbrev pub OfOffering : ℕ → ℕ → Type 0
OfOffering number place = OfTable number place ⊎ OfOffer number place
