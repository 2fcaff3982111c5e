-- Lines and what happens on them: the lines that an instruction names, the life of a line from its reset to its measurement, and the bits that
-- receive a measurement. Definitions alone.
use Rattle.std.specs.Prelude.{ℕ, ◌≡◌, Bool, true, false, List, [], ◌∷◌, eqb}
use Rattle.orders.specs.Indices.{stands}
use Rattle.records.specs.declared.instructions.Instruction.{Instruction}
use Rattle.records.specs.declared.instructions.Instruction.TheVariants.{Reset, Measurement, Gate, AngledGate, TwoLineGate, AngledTwoLineGate}
use Rattle.circuits.specs.Judging.{fresh, in_use, finished}

-- the lines that an instruction names, in order
abbrev pub lines_of : Instruction → List ℕ
lines_of (Reset l) = l.0 ∷ []
lines_of (Measurement l b) = l.0 ∷ []
lines_of (Gate k l) = l.0 ∷ []
lines_of (AngledGate k l a) = l.0 ∷ []
lines_of (TwoLineGate k l m) = l.0 ∷ m.0 ∷ []
lines_of (AngledTwoLineGate k l m a) = l.0 ∷ m.0 ∷ []

-- whether an instruction is on line x
abbrev pub touches : ℕ → Instruction → Bool
touches x i = stands x (lines_of i)

-- whether it is the reset of line x
abbrev pub resets : ℕ → Instruction → Bool
resets x (Reset l) = eqb x l.0
resets x (Measurement l b) = false
resets x (Gate k l) = false
resets x (AngledGate k l a) = false
resets x (TwoLineGate k l m) = false
resets x (AngledTwoLineGate k l m a) = false

-- whether it is the measurement of line x
abbrev pub measures : ℕ → Instruction → Bool
measures x (Reset l) = false
measures x (Measurement l b) = eqb x l.0
measures x (Gate k l) = false
measures x (AngledGate k l a) = false
measures x (TwoLineGate k l m) = false
measures x (AngledTwoLineGate k l m a) = false

-- whether it is a gate
abbrev pub is_gate : Instruction → Bool
is_gate (Reset l) = false
is_gate (Measurement l b) = false
is_gate (Gate k l) = true
is_gate (AngledGate k l a) = true
is_gate (TwoLineGate k l m) = true
is_gate (AngledTwoLineGate k l m a) = true

-- The life of line x, from a state on: its reset first, its measurement last, one of each, with any number of gates between.
pub data Life (x : ℕ) : ℕ → List Instruction → Type 0 where
  over : Life x finished []
  apart : {state : ℕ} {i : Instruction} {is : List Instruction} → touches x i ≡ false → Life x state is → Life x state (i ∷ is)
  begins : {i : Instruction} {is : List Instruction} → resets x i ≡ true → Life x in_use is → Life x fresh (i ∷ is)
  works : {i : Instruction} {is : List Instruction} → touches x i ≡ true → is_gate i ≡ true → Life x in_use is → Life x in_use (i ∷ is)
  ends : {i : Instruction} {is : List Instruction} → measures x i ≡ true → Life x finished is → Life x in_use (i ∷ is)

-- the bits that measurements receive, in order
abbrev pub bits_of : List Instruction → List ℕ
bits_of [] = []
bits_of (Measurement l b ∷ is) = b.0 ∷ bits_of is
bits_of (Reset l ∷ is) = bits_of is
bits_of (Gate k l ∷ is) = bits_of is
bits_of (AngledGate k l a ∷ is) = bits_of is
bits_of (TwoLineGate k l m ∷ is) = bits_of is
bits_of (AngledTwoLineGate k l m a ∷ is) = bits_of is
