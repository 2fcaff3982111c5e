-- The start of the table: one pass over the instructions, left to right, with a set of resets for each line.
-- Definitions alone.
use Rattle.std.specs.Prelude.{ℕ, Bool, false, not, ◌&&◌, ◌||◌, List, [], ◌∷◌}
use Rattle.orders.specs.Indices.{any}
use Rattle.orders.specs.Table.{Table}
use Rattle.records.specs.declared.instructions.Instruction.{Instruction}
use Rattle.circuits.specs.Reading.{Static}
use Rattle.precedence.specs.Lives.{lines_of, touches, resets}
use Rattle.precedence.specs.Precedence.{wire}

-- `s x t`: t's reset leads to an instruction on line x that the pass has come by
abbrev pub Sets : Type 0
Sets = ℕ → ℕ → Bool

-- before the first instruction
abbrev pub no_sets : Sets
no_sets x t = false

-- the set that an instruction reads on a line
abbrev pub read_on : Sets → ℕ → ℕ → Bool
read_on s x t = s x t

-- the resets that lead to an instruction: itself where it is one, and those in the sets that it reads on its lines
unfoldable pub leading_to : Instruction → Sets → ℕ → Bool
leading_to i s t = resets t i || any (λ x. read_on s x t) (lines_of i)

-- the sets after an instruction: it adds the resets that lead to it to the set of each of its lines
unfoldable pub after : Instruction → Sets → Sets
after i s x t = s x t || (touches x i && leading_to i s t)

-- the sets after one instruction after the other
unfoldable pub pass : List Instruction → Sets → Sets
pass [] s = s
pass (i ∷ is) s = pass is (after i s)

-- the sets at the end: t is in l's set exactly when t's reset leads to l's measurement
abbrev pub leading_sets : List Instruction → Sets
leading_sets is = pass is no_sets

-- the table at the start: "l may lend to t" is yes between wires where t is not in l's set, and no wire is used
abbrev pub start_of : Static → Table
start_of c = record {
  mark = λ l t. wire c l && (wire c t && not (leading_sets c.steps l t));
  lent = λ x. false;
  taken = λ x. false;
}
