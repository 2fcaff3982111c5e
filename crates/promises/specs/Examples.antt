-- The circuits of document 01 that everyone must agree on, and what is asked of them.
use Rattle.std.specs.Prelude.{ℕ, List, [], ◌∷◌}
use Rattle.basics.specs.Outcome.{Outcome, done, refused}
use Rattle.orders.specs.Runs.{Pair}
use Rattle.table.specs.Starting.{started}
use Rattle.table.specs.declared.tables.Table.{Table}
use Rattle.pairs.specs.Listing.{pairs_bytes}
use Rattle.choosers.specs.Greedy.{greedy_from}
use Rattle.writer.specs.Compiling.{compiled, bytes_of}

abbrev pub A : List ℕ
A =
    0x01 ∷ 0x03 ∷ 0x10 ∷ 0x00 ∷ 0x10 ∷ 0x01 ∷ 0x10 ∷ 0x02 ∷ 0x40 ∷ 0x00 ∷ 0x01 ∷ 0x40 ∷ 0x01 ∷ 0x02
    ∷ 0x11 ∷ 0x00 ∷ 0x00 ∷ 0x11 ∷ 0x01 ∷ 0x01 ∷ 0x11 ∷ 0x02 ∷ 0x02 ∷ []

abbrev pub B : List ℕ
B = 0x01 ∷ 0x03 ∷ 0x10 ∷ 0x00 ∷ 0x10 ∷ 0x01 ∷ 0x10 ∷ 0x02 ∷ 0x11 ∷ 0x00 ∷ 0x00 ∷ 0x11 ∷ 0x01 ∷ 0x01 ∷ 0x11 ∷ 0x02 ∷ 0x02 ∷ []

abbrev pub of_p6 : List ℕ
of_p6 = 0x01 ∷ 0x01 ∷ 0x10 ∷ 0x00 ∷ 0x11 ∷ 0x00 ∷ 0x00 ∷ []

abbrev pub of_p11 : List ℕ
of_p11 =
    0x01 ∷ 0x04 ∷ 0x10 ∷ 0x00 ∷ 0x10 ∷ 0x01 ∷ 0x10 ∷ 0x02 ∷ 0x10 ∷ 0x03 ∷ 0x40 ∷ 0x00 ∷ 0x01 ∷ 0x40 ∷ 0x02 ∷ 0x03
    ∷ 0x11 ∷ 0x00 ∷ 0x00 ∷ 0x11 ∷ 0x01 ∷ 0x01 ∷ 0x11 ∷ 0x02 ∷ 0x02 ∷ 0x11 ∷ 0x03 ∷ 0x03 ∷ []

-- the room that the worked circuits are given
abbrev pub room_of_examples : ℕ
room_of_examples = 64

-- what a circuit with these pairs compiles to
abbrev pub compiled_with : List ℕ → List Pair → Outcome (List ℕ)
compiled_with s ps = bytes_of (compiled s (pairs_bytes ps) room_of_examples)

-- the pairs that greedy chooses, and its trials
abbrev pub chosen_on : Outcome Table → Outcome (List Pair × ℕ)
chosen_on (done t) = done ((greedy_from t).pairs, (greedy_from t).trials)
chosen_on (refused number place) = refused number place

abbrev pub greedy_on : List ℕ → Outcome (List Pair × ℕ)
greedy_on s = chosen_on (started s)
