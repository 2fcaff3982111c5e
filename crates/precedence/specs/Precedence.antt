-- The precedence of a static circuit's instructions, by their indices: what must come before what, each wire's reset and measurement, the
-- document's graph of neighbours, and the circuit that the laws of crate `orders` speak of. Definitions alone.
use Rattle.std.specs.Prelude.{ℕ, suc, ◌-◌, ◌≤◌, ◌≡◌, Bool, true, false, not, ◌&&◌, List, [], ◌∷◌, length, ltb}
use Rattle.std.proofs.Math.Option.{Option, none, some}
use Rattle.std.proofs.Math.ListN.{get_elem?}
use Rattle.orders.specs.Indices.{any, from}
use Rattle.orders.specs.Runs.{Circuit}
use Rattle.records.specs.declared.instructions.Instruction.{Instruction}
use Rattle.circuits.specs.Judging.{fresh}
use Rattle.circuits.specs.Reading.{Static}
use Rattle.precedence.specs.Lives.{lines_of, touches, resets, measures, Life}

-- ## Instructions by their index

-- whether an instruction passes the test; where there is none, none does
abbrev pub holds : (Instruction → Bool) → Option Instruction → Bool
holds p none = false
holds p (some i) = p i

-- whether there is an instruction at an index and it passes the test
abbrev pub at : (Instruction → Bool) → List Instruction → ℕ → Bool
at p is k = holds p (get_elem? is k)

-- whether the instruction at an index is on line x
abbrev pub on : List Instruction → ℕ → ℕ → Bool
on is x k = at (touches x) is k

-- the lines of an instruction; where there is none, none
abbrev pub lines_in : Option Instruction → List ℕ
lines_in none = []
lines_in (some i) = lines_of i

-- the lines of the instruction at an index
abbrev pub lines_at : List Instruction → ℕ → List ℕ
lines_at is k = lines_in (get_elem? is k)

-- the index of the first instruction that passes the test, and the number of instructions where none does
unfoldable pub first_of : (Instruction → Bool) → List Instruction → ℕ
first_of p [] = 0
first_of p (i ∷ is) = elim (p i) [ true ↦ 0 | false ↦ suc (first_of p is) ]

-- the index of a line's reset
abbrev pub reset_of : List Instruction → ℕ → ℕ
reset_of is x = first_of (resets x) is

-- the index of a line's measurement
abbrev pub meas_of : List Instruction → ℕ → ℕ
meas_of is x = first_of (measures x) is

-- ## Precedence

-- line x forces i before j: i stands before j, and both are on x
unfoldable pub must_on : List Instruction → ℕ → ℕ → ℕ → Bool
must_on is x i j = ltb i j && (on is x i && on is x j)

-- i must come before j: some line forces it
unfoldable pub prec : List Instruction → ℕ → ℕ → Bool
prec is i j = any (λ x. must_on is x i j) (lines_at is i)

-- a line that may lend and take: one below the width
abbrev pub wire : Static → ℕ → Bool
wire c x = ltb x c.width

-- a static circuit by its rule of precedence
abbrev pub circuit_of : Static → Circuit
circuit_of c = record {
  size = length c.steps;
  width = c.width;
  prec = prec c.steps;
  wire = wire c;
  reset_of = reset_of c.steps;
  meas_of = meas_of c.steps;
}

-- ## The graph of neighbours

-- i and j are neighbours on line x: it forces i before j, and no instruction between them is on it
unfoldable pub next_on : List Instruction → ℕ → ℕ → ℕ → Bool
next_on is x i j = must_on is x i j && not (any (on is x) (from (suc i) (j - suc i)))

-- i and j are neighbours on some line
unfoldable pub neighbours : List Instruction → ℕ → ℕ → Bool
neighbours is i j = any (λ x. next_on is x i j) (lines_at is i)

-- the same circuit with the document's arrows: those between neighbouring instructions of each wire
abbrev pub drawn_of : Static → Circuit
drawn_of c = record {
  size = length c.steps;
  width = c.width;
  prec = neighbours c.steps;
  wire = wire c;
  reset_of = reset_of c.steps;
  meas_of = meas_of c.steps;
}

-- ## What the checks ask of the lines

-- every line named is a wire, and each wire has its reset first, its measurement last, one of each, and gates between
pub record Wired (c : Static) : Type 0 where
  pub named : (x k : ℕ) → on c.steps x k ≡ true → wire c x ≡ true
  pub lives : (x : ℕ) → wire c x ≡ true → Life x fresh c.steps

-- the same by the indices of a line's instructions
pub record Spans (is : List Instruction) (x : ℕ) : Type 0 where
  pub reset_at : at (resets x) is (reset_of is x) ≡ true
  pub meas_at : at (measures x) is (meas_of is x) ≡ true
  pub first : (k : ℕ) → on is x k ≡ true → reset_of is x ≤ k
  pub last : (k : ℕ) → on is x k ≡ true → k ≤ meas_of is x
  pub one_reset : (k : ℕ) → at (resets x) is k ≡ true → k ≡ reset_of is x
  pub one_meas : (k : ℕ) → at (measures x) is k ≡ true → k ≡ meas_of is x
