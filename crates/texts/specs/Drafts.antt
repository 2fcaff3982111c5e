-- A line that is put together: what it begins as, and its bytes so far.
use Rattle.std.specs.Prelude.{ℕ, List, take, replicate}
use Rattle.texts.specs.declared.drafts.Draft.{Draft}

abbrev pub blank : (room : ℕ) → Draft room
blank room = record { bytes = replicate room 0; length = 0 }

abbrev pub drafted : {room : ℕ} → Draft room → List ℕ
drafted d = take d.length d.bytes
