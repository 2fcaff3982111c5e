-- What the table of kinds says of a kind that does not stand alone: its high digit decides. Assumes nothing.
use Prim.Native.Nat.{ℕ, ◌/◌}
use mathlib.Core.Path.{◌≡◌, sym, ap, ◌∙◌}
use Rattle.std.specs.Prelude.{Option, None}
use lib.Dec.{eqb}
use borrow.Author.Tests.{ne_eqb}
use Rattle.basics.specs.Choice.{pick}
use Rattle.records.specs.Kinds.{shaped, shape_of}
use Rattle.records.specs.declared.kinds.Outline.{Outline}
use Rattle.records.specs.declared.kinds.Form.TheVariants as form

-- the kind is none of those that stand alone, as a `match` says it
abbrev pub Other : ℕ → Type 0
Other k =
    ((((Unit {0} × (k ≡ 0x01 → ⊥)) × (k ≡ 0x02 → ⊥)) × (k ≡ 0x10 → ⊥)) × (k ≡ 0x11 → ⊥)) × (k ≡ 0x60 → ⊥)

-- the shape by the high digit
abbrev pub by_digit : ℕ → Option Outline
by_digit d =
    pick (eqb d 2) (shaped form.Gate 1 1)
    (pick (eqb d 3) (shaped form.AngledGate 9 1)
    (pick (eqb d 4) (shaped form.TwoLineGate 2 2)
    (pick (eqb d 5) (shaped form.AngledTwoLineGate 10 2)
    None)))

digits : (k : ℕ) → Other k → by_digit (k / 16) ≡ shape_of k
unfolding shape_of
digits k o =
    simp (ne_eqb k 0x01 o.0.0.0.0.1, ne_eqb k 0x02 o.0.0.0.1, ne_eqb k 0x10 o.0.0.1, ne_eqb k 0x11 o.0.1, ne_eqb k 0x60 o.1)

-- the sixteen kinds of one digit
pub sixteen : (k d : ℕ) → Other k → d ≡ k / 16 → by_digit d ≡ shape_of k
sixteen k d o e = ap by_digit e ∙ digits k o

-- the digits below 2 and above 5
pub outside : (k : ℕ) → Other k → (k / 16 ≡ 2 → ⊥) → (k / 16 ≡ 3 → ⊥) → (k / 16 ≡ 4 → ⊥) → (k / 16 ≡ 5 → ⊥) → None ≡ shape_of k
outside k o a b c d =
    sym (simp (ne_eqb (k / 16) 2 a, ne_eqb (k / 16) 3 b, ne_eqb (k / 16) 4 c, ne_eqb (k / 16) 5 d)) ∙ digits k o
