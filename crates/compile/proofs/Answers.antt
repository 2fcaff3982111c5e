-- What is told of a compiled circuit: the wires are the circuit's, and the bytes fit the room. Assumes nothing.
use Prim.Native.Nat.{ℕ, ◌+◌, ◌≤◌}
use mathlib.Core.Path.{◌≡◌, refl, sym, ap, subst, ◌∙◌}
use mathlib.Core.Logic.{inl, inr}
use mathlib.Core.List.{List}
use native.Mathlib.Omega.{arith}
use lib.ListN.{length}
use Rattle.basics.specs.Outcome.{Outcome, done, refused, handing}
use Rattle.basics.proofs.Outcomes.{not_refused}
use Rattle.basics.proofs.Tests.{below_or_not}
use Rattle.writing.proofs.Puts.{fitted-done, fitted-refused}
use Rattle.circuits.specs.Limits.{most_wires}
use Rattle.circuits.specs.Reading.{Static, circuit_of, read_circuit}
use Rattle.circuits.proofs.Rewrites.{Accepted}
use Rattle.circuits.proofs.Validity.{read_valid}
use Rattle.table.specs.Growing.{Growing}
use Rattle.table.specs.Starting.{start_table}
use Rattle.pairs.specs.Listing.{read_pairs}
use Rattle.writer.specs.Compiling.{Dynamic, dynamic_of, counts_of, compiled}
use Rattle.writer.proofs.Compiles.{circuit_refused, pair_refused, compiled_as, compiled_qubits}
use Rattle.compile.specs.Running.{wires_told, bytes_told}

-- a circuit that was read, as the laws of the compiler take it
abbrev pub valid : (s : List ℕ) (c : Static) → read_circuit s ≡ done c → Accepted s (circuit_of c.width (length c.steps))
valid s c e = record { circuit = c; is = e; width = refl; instructions = refl }

module _ (s list : List ℕ) (room : ℕ) where
  -- a dynamic circuit that is written comes from a valid circuit, has a qubit less for each pair, and fits
  pub record Fits (d : Dynamic) : Type 0 where
    pub circuit : Static
    pub is : read_circuit s ≡ done circuit
    pub wires : d.qubits + d.pairs ≡ circuit.width
    pub bytes : length d.bytes ≤ room

  module _ (d : Dynamic) (told : compiled s list room ≡ done d) where
    by_room : (c : Static) (e : read_circuit s ≡ done c) (g : Growing) → read_pairs (start_table c) list ≡ done g → Fits d
    by_room c e g f =
        let whole = dynamic_of c g.pairs in
        let bytes = whole.bytes in
        elim (below_or_not room (length bytes)) [
          | inl short ↦ absurd (not_refused (sym (compiled_as s list (valid s c e) g f room ∙ ap (handing whole) (fitted-refused room bytes short)) ∙ told))
          | inr enough ↦ (
              let is : done whole ≡ done d = sym (compiled_as s list (valid s c e) g f room ∙ ap (handing whole) (fitted-done room bytes enough)) ∙ told in
              let same : whole ≡ d = cc in
              subst Fits same (record { circuit = c; is = e; wires = compiled_qubits s list (valid s c e) g f; bytes = enough })
              )
        ]

    by_list : (c : Static) (e : read_circuit s ≡ done c) (o : Outcome Growing) → read_pairs (start_table c) list ≡ o → Fits d
    by_list c e (done g) f = by_room c e g f
    by_list c e (refused n p) f = absurd (not_refused (sym (pair_refused s list (valid s c e) room f) ∙ told))

    -- THEOREM
    pub written_fits : Fits d
    written_fits = go (read_circuit s) refl
      where
        go : (o : Outcome Static) → read_circuit s ≡ o → Fits d
        go (done c) e = by_list c e (read_pairs (start_table c) list) refl
        go (refused n p) e = absurd (not_refused (sym (circuit_refused s list room e) ∙ told))

  -- so the counts are small
  pub few_wires : wires_told (counts_of (compiled s list room)) ≤ most_wires
  few_wires = go (compiled s list room) refl
    where
      go : (o : Outcome Dynamic) → compiled s list room ≡ o → wires_told (counts_of o) ≤ most_wires
      go (done d) e = let w = written_fits d e in omega (arith, w.wires, (read_valid s w.is).narrow)
      go (refused n p) e = omega arith

  -- and so are the bytes
  pub bytes_fit : bytes_told (counts_of (compiled s list room)) ≤ room
  bytes_fit = go (compiled s list room) refl
    where
      go : (o : Outcome Dynamic) → compiled s list room ≡ o → bytes_told (counts_of o) ≤ room
      go (done d) e = (written_fits d e).bytes
      go (refused n p) e = omega arith
