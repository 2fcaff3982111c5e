-- Document 01's table of kinds: what a kind byte says of the record that it begins.
use Rattle.std.specs.Prelude.{ℕ, ◌/◌, Bool, true, false, eqb, Option, None, Some}
use Rattle.basics.specs.Choice.{pick}
use Rattle.records.specs.declared.kinds.Form.{Form}
use Rattle.records.specs.declared.kinds.Form.TheVariants as form
use Rattle.records.specs.declared.kinds.Outline.{Outline}

-- the form of a record, the length of its body and the count of its operands
abbrev pub shaped : Form → ℕ → ℕ → Option Outline
shaped f body operands = Some (record { form = f; body = body; operands = operands })

-- the kinds that stand alone, and then the sixteen kinds of each of the high digits 2 to 5; no other is known
unfoldable pub shape_of : ℕ → Option Outline
shape_of k =
    pick (eqb k 0x01) (shaped form.StaticWidth 1 1)
    (pick (eqb k 0x02) (shaped form.DynamicWidth 2 2)
    (pick (eqb k 0x10) (shaped form.Reset 1 1)
    (pick (eqb k 0x11) (shaped form.Measurement 2 2)
    (pick (eqb k 0x60) (shaped form.Reuse 2 2)
    (pick (eqb (k / 16) 2) (shaped form.Gate 1 1)
    (pick (eqb (k / 16) 3) (shaped form.AngledGate 9 1)
    (pick (eqb (k / 16) 4) (shaped form.TwoLineGate 2 2)
    (pick (eqb (k / 16) 5) (shaped form.AngledTwoLineGate 10 2)
    None))))))))

-- resets, measurements and gates are instructions
abbrev pub instruction_form : Form → Bool
instruction_form form.StaticWidth = false
instruction_form form.DynamicWidth = false
instruction_form form.Reset = true
instruction_form form.Measurement = true
instruction_form form.Gate = true
instruction_form form.AngledGate = true
instruction_form form.TwoLineGate = true
instruction_form form.AngledTwoLineGate = true
instruction_form form.Reuse = false
