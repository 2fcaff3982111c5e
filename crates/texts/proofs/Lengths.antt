-- How long the lines of a refusal, of counts and of a pair are at most. Assumes nothing.
use Prim.Native.Nat.{ℕ, ◌^◌, ◌≤◌, ◌<◌}
use mathlib.Core.List.{List}
use native.Mathlib.Omega.{arith}
use lib.ListN.{length, length-append}
use Rattle.writing.proofs.Decimals.{decimal-length, decimal_short}
use Rattle.texts.specs.Lines.{refusal_line}
use Rattle.texts.specs.Room.{longest_refusal}
use Rattle.texts.specs.Listings.{counts_line, pair_line, longest_word, longest_counts, longest_pair}

pub refusal_length : (number place : ℕ) → number < 256 → place < 2 ^ 64 → length (refusal_line number place) ≤ longest_refusal
unfolding refusal_line
refusal_length number place small fits = simp length-append (omega (arith, decimal-length number 2 (omega arith), decimal_short place fits))

pub counts_length : (wires qubits pairs : ℕ) (word : List ℕ) (last : ℕ) → wires < 2 ^ 64 → qubits < 2 ^ 64 → pairs < 2 ^ 64
    → length word ≤ longest_word → last < 2 ^ 64 → length (counts_line wires qubits pairs word last) ≤ longest_counts
unfolding counts_line
counts_length wires qubits pairs word last wide narrow paired short ended =
    simp length-append
    (omega (arith, decimal_short wires wide, decimal_short qubits narrow, decimal_short pairs paired, decimal_short last ended))

pub pair_length : (lender taker : ℕ) → lender < 256 → taker < 256 → length (pair_line lender taker) ≤ longest_pair
unfolding pair_line
pair_length lender taker small little =
    simp length-append (omega (arith, decimal-length lender 2 (omega arith), decimal-length taker 2 (omega arith)))
