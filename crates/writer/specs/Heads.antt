-- The heads, by which the order of writing is computed: for each wire the index of its first instruction that is not yet written. What may be
-- written. Definitions alone.
use Rattle.std.specs.Prelude.{ℕ, zero, suc, ◌+◌, ◌≤◌, ◌<◌, ◌≡◌, Bool, true, false, not, ◌&&◌, ◌||◌, List, length, get_or, set, eqb, ltb, leb}
use Rattle.std.proofs.Math.Option.{some}
use Rattle.std.proofs.Math.ListN.{get_elem?}
use Rattle.basics.specs.Choice.{pick}
use Rattle.basics.specs.Outcome.{done}
use Rattle.records.specs.declared.instructions.Instruction.{Instruction}
use Rattle.circuits.specs.Limits.{most_wires}
use Rattle.circuits.specs.Reading.{read_circuit, summary}
use Rattle.circuits.specs.Rewriting.{steps_of}
use Rattle.circuits.specs.Validity.{steps_bytes}
use Rattle.precedence.specs.Precedence.{on}
use Rattle.pairs.specs.Lending.{lender_of, takes}
use Rattle.writer.specs.Outputs.{output_of, dynamic_in}
use Rattle.writer.specs.Notes.{is_reset, note_of, first_wire, second_wire, note_at, first_at, second_at, Kept}
use Rattle.writer.specs.declared.heads.After.{After}
use Rattle.writer.specs.declared.source.Source.{Source}

-- the circuit is valid, its numbers are those told, and all its instructions are kept
pub record TrueSource (s : Source) : Type 0 where
  pub valid : done s.valid ≡ summary (read_circuit s.circuit.now)
  pub kept : Kept s.circuit.now (steps_of (read_circuit s.circuit.now)) s.notes.now

-- the bytes of the dynamic circuit, and those of its instructions
abbrev pub output_from : Source → List ℕ
output_from s = output_of s.lenders.lenders (read_circuit s.circuit.now)

abbrev pub steps_from : Source → List ℕ
steps_from s = steps_bytes (dynamic_in s.lenders.lenders (read_circuit s.circuit.now))

-- an index is that of the first instruction on a wire from another on; the number of instructions where there is none
pub record NextOn (is : List Instruction) (x start index : ℕ) : Type 0 where
  pub onward : start ≤ index
  pub inside : index ≤ length is
  pub between : (k : ℕ) → start ≤ k → k < index → on is x k ≡ false
  pub here : index < length is → on is x index ≡ true

-- ## The links

-- these are the instructions of which the form and the wires are kept
pub record Tabled (is : List Instruction) (s : Source) : Type 0 where
  pub all : length is ≡ s.valid.instructions
  pub named : (x k : ℕ) → on is x k ≡ true → x < most_wires
  pub note : (k : ℕ) (i : Instruction) → get_elem? is k ≡ some i → note_at s.notes.now k ≡ note_of i

-- what comes after an instruction on its wires
abbrev pub after_at : List After → ℕ → After
after_at links k = get_or links k (record { first = 0; second = 0 })

-- each wire's head is its first instruction from an index on, and for each instruction from there on the next on its wires are kept
pub record Linked (is : List Instruction) (start : ℕ) (indices : List ℕ) (links : List After) : Type 0 where
  pub heads : (x : ℕ) → x < most_wires → NextOn is x start (get_or indices x 0)
  pub after_first : (k : ℕ) (i : Instruction) → start ≤ k → get_elem? is k ≡ some i → NextOn is (first_wire i) (k + 1) (after_at links k).first
  pub after_second : (k : ℕ) (i : Instruction) → start ≤ k → get_elem? is k ≡ some i → NextOn is (second_wire i) (k + 1) (after_at links k).second

-- what is kept of the wires after those of an instruction were set, each to its own index
abbrev pub headed : ℕ → ℕ → ℕ → ℕ → List ℕ → List ℕ
headed first second n m kept = set (set kept first n) second m

-- ## What may be written

module _ (s : Source) (indices : List ℕ) where
  -- a wire's head has an index
  abbrev pub is_head : ℕ → ℕ → Bool
  is_head index x = eqb (get_or indices x 0) index

  -- a wire takes from nobody, or all on its lender is written
  unfoldable pub is_free : ℕ → Bool
  is_free x = not (takes s.lenders.lenders s.valid.width x) || eqb (get_or indices (lender_of s.lenders.lenders x) 0) s.valid.instructions

  -- an instruction may be written: it is the head of each of its wires, and the wire of a reset is free
  unfoldable pub may_write : ℕ → Bool
  may_write k = is_head k (first_at s.notes.now k) && (is_head k (second_at s.notes.now k) && (not (is_reset (note_at s.notes.now k).form) || is_free (first_at s.notes.now k)))

  -- whether the head of a wire may be written
  unfoldable pub candidate : ℕ → Bool
  candidate x =
      let index = get_or indices x 0 in
      ltb index s.valid.instructions && may_write index

  -- the candidate of a wire: the index of its head where that may be written, and else the number of instructions
  abbrev pub candidate_of : ℕ → ℕ
  candidate_of x = pick (candidate x) (get_or indices x 0) s.valid.instructions

  -- the candidates that are kept after the head of a wire was tried: that of each wire of the head where it may be written
  unfoldable pub tried : ℕ → List ℕ → List ℕ
  tried x kept =
      let index = get_or indices x 0 in
      pick (candidate x) (headed (first_at s.notes.now index) (second_at s.notes.now index) index index kept) (set kept x s.valid.instructions)

  -- after the heads of all wires below k were tried
  unfoldable pub tried_below : ℕ → List ℕ → List ℕ
  tried_below zero kept = kept
  tried_below (suc k) kept = tried k (tried_below k kept)

  -- after those of the wires below k that take from a wire
  unfoldable pub tried_takers : ℕ → ℕ → List ℕ → List ℕ
  tried_takers lender zero kept = kept
  tried_takers lender (suc k) kept =
      let before = tried_takers lender k kept in
      pick (eqb (lender_of s.lenders.lenders k) lender) (tried k before) before

  -- after that of a wire and, where all on the wire is written, those of its takers
  unfoldable pub tried_moved : ℕ → List ℕ → List ℕ
  tried_moved x kept =
      let here = tried x kept in
      pick (leb s.valid.instructions (get_or indices x 0)) (tried_takers x s.valid.width here) here

  -- after those of both wires of an instruction
  unfoldable pub tried_both : ℕ → ℕ → List ℕ → List ℕ
  tried_both first second kept =
      let here = tried_moved first kept in
      pick (eqb first second) here (tried_moved second here)

-- the least of the first numbers of a list, one of them
pub record Least (kept : List ℕ) (many lowest : ℕ) : Type 0 where
  pub one : (x : ℕ) × (x < many) × (get_or kept x 0 ≡ lowest)
  pub least : (x : ℕ) → x < many → lowest ≤ get_or kept x 0
