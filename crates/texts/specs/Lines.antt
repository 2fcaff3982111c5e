-- The lines of text that programs print: one for a record at its place, one for a refusal; and which of them is printed of
-- what stands at a place. Numbers are decimal, and each line ends in one line feed.
use Rattle.std.specs.Prelude.{ℕ, Bool, ◌&&◌, not, List, [], ◌∷◌, ◌++◌, eqb}
use Rattle.basics.specs.Choice.{pick}
use Rattle.basics.specs.Outcome.{Outcome, done, refused}
use Rattle.writing.specs.Texts.{text}
use Rattle.writing.specs.Decimals.{decimal}
use Rattle.records.specs.Records.{Standing, stands, over}
use Rattle.records.specs.Bytes.{angle_bytes}
use Rattle.records.specs.declared.instructions.Record.{Record}
use Rattle.records.specs.declared.instructions.Record.TheVariants.{StaticWidth, DynamicWidth, Step, Reuse}
use Rattle.records.specs.declared.instructions.Instruction.{Instruction}
use Rattle.records.specs.declared.instructions.Instruction.TheVariants.{Reset, Measurement, Gate, AngledGate, TwoLineGate, AngledTwoLineGate}

-- the name of an instruction's kind
abbrev pub instruction_name : Instruction → List ℕ
instruction_name (Reset l) = text " reset"
instruction_name (Measurement l b) = text " measurement"
instruction_name (Gate k l) = text " gate"
instruction_name (AngledGate k l a) = text " gate"
instruction_name (TwoLineGate k l m) = text " gate"
instruction_name (AngledTwoLineGate k l m a) = text " gate"

-- the name of a record's kind
abbrev pub name_of : Record → List ℕ
name_of (StaticWidth wires) = text " static width"
name_of (DynamicWidth qubits bits) = text " dynamic width"
name_of (Step i) = instruction_name i
name_of (Reuse lender taker) = text " reuse pair"

-- the numbers behind the name: the operands, and before a gate's its kind
abbrev pub numbers_of : Record → List ℕ
numbers_of (StaticWidth wires) = wires ∷ []
numbers_of (DynamicWidth qubits bits) = qubits ∷ bits ∷ []
numbers_of (Step (Reset l)) = l.0 ∷ []
numbers_of (Step (Measurement l b)) = l.0 ∷ b.0 ∷ []
numbers_of (Step (Gate k l)) = k ∷ l.0 ∷ []
numbers_of (Step (AngledGate k l a)) = k ∷ l.0 ∷ []
numbers_of (Step (TwoLineGate k l m)) = k ∷ l.0 ∷ m.0 ∷ []
numbers_of (Step (AngledTwoLineGate k l m a)) = k ∷ l.0 ∷ m.0 ∷ []
numbers_of (Reuse lender taker) = lender.0 ∷ taker.0 ∷ []

-- the bytes of the angle, where there is one
abbrev pub angle_of : Record → List ℕ
angle_of (StaticWidth wires) = []
angle_of (DynamicWidth qubits bits) = []
angle_of (Step (Reset l)) = []
angle_of (Step (Measurement l b)) = []
angle_of (Step (Gate k l)) = []
angle_of (Step (AngledGate k l a)) = angle_bytes a
angle_of (Step (TwoLineGate k l m)) = []
angle_of (Step (AngledTwoLineGate k l m a)) = angle_bytes a
angle_of (Reuse lender taker) = []

-- numbers, each behind a space
abbrev pub spaced : List ℕ → List ℕ
spaced [] = []
spaced (n ∷ ns) = (text " " ++ decimal n) ++ spaced ns

-- an angle's bytes behind its word
abbrev pub angle_text : List ℕ → List ℕ
angle_text [] = []
angle_text (x ∷ xs) = text " angle" ++ spaced (x ∷ xs)

-- the line of a record at a place
unfoldable pub line_of : ℕ → Record → List ℕ
line_of place r = decimal place ++ name_of r ++ spaced (numbers_of r) ++ angle_text (angle_of r) ++ text "\n"

-- the line of a refusal
unfoldable pub refusal_line : ℕ → ℕ → List ℕ
refusal_line number place = text "refused " ++ decimal number ++ text " at " ++ decimal place ++ text "\n"

-- document 01's number for a body that runs past the end
abbrev pub cut : ℕ
cut = 2

-- a refusal of a body that is cut where more may follow
abbrev pub awaited : ℕ → Bool → Bool
awaited number last = eqb number cut && not last

-- what is printed of what stands at a place: a record's line, a refusal's line, nothing at the end, and nothing of a body that
-- is cut where more may follow
abbrev pub text_at : ℕ → Bool → Outcome Standing → List ℕ
text_at place last (done (stands r next)) = line_of place r
text_at place last (done over) = []
text_at place last (refused number at) = pick (awaited number last) [] (refusal_line number place)
