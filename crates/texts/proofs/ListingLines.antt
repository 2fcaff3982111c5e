-- The whole lines of counts and of a pair, from the puts of their parts one after the other. Assumes nothing.
use Prim.Native.Nat.{ℕ, ◌^◌, ◌≤◌, ◌<◌}
use mathlib.Core.List.{List}
use native.Mathlib.Omega.{arith}
use lib.ListN.{length}
use Rattle.writing.specs.Writing.{Placed, Written}
use Rattle.writing.specs.Texts.{text}
use Rattle.writing.specs.Decimals.{decimal, most_digits}
use Rattle.writing.proofs.Decimals.{decimal-length, decimal_short}
use Rattle.writing.proofs.Rows.{placed_written, written_put, written_more}
use Rattle.texts.specs.Listings.{counts_line, pair_line, longest_word, longest_counts, longest_pair, byte_digits}

-- the numbers are numbers of the machine, and any line of counts has room
pub record Asked (wires qubits pairs : ℕ) (word : List ℕ) (last : ℕ) (line : List ℕ) : Type 0 where
  pub wide : wires < 2 ^ 64
  pub narrow : qubits < 2 ^ 64
  pub paired : pairs < 2 ^ 64
  pub short : length word ≤ longest_word
  pub ended : last < 2 ^ 64
  pub room : longest_counts ≤ length line

pub counts_whole : {wires qubits pairs : ℕ} {word : List ℕ} {last : ℕ} {line : List ℕ} → Asked wires qubits pairs word last line
    → {l m n o p q r s end : List ℕ} {a b c d e f g h to : ℕ}
    → Placed line 0 (text "wires ") l a → Placed l a (decimal wires) m b
    → Placed m b (text " qubits ") n c → Placed n c (decimal qubits) o d
    → Placed o d (text " pairs ") p e → Placed p e (decimal pairs) q f
    → Placed q f word r g → Placed r g (decimal last) s h
    → Placed s h (text "\n") end to
    → Written line 0 longest_counts (counts_line wires qubits pairs word last) end to
unfolding counts_line
counts_whole {wires} {qubits} {pairs} {word} {last} asked named wide narrowing narrow pairing paired ending ended feed =
    let room = asked.room in
    written_more (written_put (written_put (written_put (written_put (written_put (written_put (written_put (written_put
    (placed_written named 6 (omega arith) (omega arith))
    wide most_digits (decimal_short wires asked.wide) (omega arith))
    narrowing 8 (omega arith) (omega arith))
    narrow most_digits (decimal_short qubits asked.narrow) (omega arith))
    pairing 7 (omega arith) (omega arith))
    paired most_digits (decimal_short pairs asked.paired) (omega arith))
    ending longest_word asked.short (omega arith))
    ended most_digits (decimal_short last asked.ended) (omega arith))
    feed 1 (omega arith) (omega arith)) (omega arith)

module _ (lender taker : ℕ) (small : lender < 256) (little : taker < 256) (line : List ℕ) (room : longest_pair ≤ length line) where
  pub pair_whole : {l m n end : List ℕ} {a b c to : ℕ} → Placed line 0 (decimal lender) l a → Placed l a (text " lends to ") m b
      → Placed m b (decimal taker) n c → Placed n c (text "\n") end to
      → Written line 0 longest_pair (pair_line lender taker) end to
  unfolding pair_line
  pair_whole lent between taken last =
      written_put (written_put (written_put (placed_written lent byte_digits (decimal-length lender 2 (omega arith)) (omega arith))
      between 10 (omega arith) (omega arith))
      taken byte_digits (decimal-length taker 2 (omega arith)) (omega arith))
      last 1 (omega arith) (omega arith)
