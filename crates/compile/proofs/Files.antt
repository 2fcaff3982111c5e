-- How much of the files is read, and room for the output: nothing more changes what is compiled. Assumes nothing.
use Prim.Native.Nat.{ℕ, ◌+◌, ◌≤◌}
use mathlib.Core.Path.{◌≡◌, refl, sym, ap, subst, ◌∙◌}
use mathlib.Core.List.{List}
use native.Mathlib.Omega.{arith}
use lib.ListN.{length, take}
use Rattle.basics.specs.Outcome.{Outcome, done, refused, handing}
use Rattle.writing.proofs.Puts.{fitted-done}
use Rattle.circuits.specs.Limits.{deciding_bytes}
use Rattle.circuits.specs.Reading.{Static, read_circuit}
use Rattle.circuits.proofs.FirstBytes.{first_bytes_of_circuit}
use Rattle.circuits.proofs.Refusals.{valid_short}
use Rattle.circuits.proofs.Validity.{read_valid}
use Rattle.table.specs.Growing.{Growing}
use Rattle.table.specs.Starting.{start_table}
use Rattle.pairs.specs.Lending.{lenders_in}
use Rattle.pairs.specs.Listing.{read_pairs, deciding_list_bytes}
use Rattle.writer.specs.Outputs.{output_of}
use Rattle.writer.specs.Compiling.{Dynamic, dynamic_of, compiled_from, compiled}
use Rattle.writer.proofs.Compiles.{circuit_refused, pair_refused, compiled_as, compiled_length}
use Rattle.writer.proofs.Exactly.{first_bytes_compiled}
use Rattle.compile.proofs.Answers.{valid}

-- THEOREM: so many first bytes of the circuit and of the pair list are compiled as the whole files are.
pub first_bytes_of_files : (s list : List ℕ) (room : ℕ)
    → compiled (take deciding_bytes s) (take deciding_list_bytes list) room ≡ compiled s list room
unfolding compiled
first_bytes_of_files s list room =
    ap (compiled_from room (take deciding_list_bytes list)) (first_bytes_of_circuit s deciding_bytes (omega arith))
    ∙ first_bytes_compiled s list room

-- THEOREM: with as much room as bytes of a circuit decide, more room changes nothing.
module _ (s list : List ℕ) (room : ℕ) (enough : deciding_bytes ≤ room) where
  by_list : (c : Static) (e : read_circuit s ≡ done c) (o : Outcome Growing) → read_pairs (start_table c) list ≡ o
      → compiled s list room ≡ compiled s list deciding_bytes
  by_list c e (refused n p) f = pair_refused s list (valid s c e) room f ∙ sym (pair_refused s list (valid s c e) deciding_bytes f)
  by_list c e (done g) f = written room enough ∙ sym (written deciding_bytes (omega arith))
    where
      whole : Dynamic
      whole = dynamic_of c g.pairs

      size : length whole.bytes ≡ length s + 1
      size = subst (λ (o : Outcome Static). length (output_of (lenders_in g.pairs) o) ≡ length s + 1) e (compiled_length s list (valid s c e) g f)

      written : (more : ℕ) → deciding_bytes ≤ more → compiled s list more ≡ done whole
      written more h =
          compiled_as s list (valid s c e) g f more
          ∙ ap (handing whole) (fitted-done more whole.bytes (omega (arith, size, valid_short s c (read_valid s e))))

  pub room_enough : compiled s list room ≡ compiled s list deciding_bytes
  room_enough = go (read_circuit s) refl
    where
      go : (o : Outcome Static) → read_circuit s ≡ o → compiled s list room ≡ compiled s list deciding_bytes
      go (done c) e = by_list c e (read_pairs (start_table c) list) refl
      go (refused n p) e = circuit_refused s list room e ∙ sym (circuit_refused s list deciding_bytes e)
