-- What is put into a blank draft first is put into zeros from the start. Assumes nothing.
use Prim.Native.Nat.{ℕ}
use mathlib.Core.Path.{◌≡◌, subst}
use mathlib.Core.List.{List}
use lib.ListN.{replicate}
use Rattle.writing.specs.Writing.{Placed}
use Rattle.texts.specs.Drafts.{blank}
use Rattle.texts.specs.declared.drafts.Draft.{Draft}

pub begun : {room : ℕ} {d : Draft room} {xs new : List ℕ} {to : ℕ} → d ≡ blank room → Placed d.bytes d.length xs new to
    → Placed (replicate room 0) 0 xs new to
begun {room} {d} {xs} {new} {to} e p = subst (λ (x : Draft room). Placed x.bytes x.length xs new to) e p
