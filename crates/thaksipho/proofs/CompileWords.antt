-- What the compiler tells fits a word. Assumes nothing.
use Prim.Native.Nat.{ℕ, ◌+◌, ◌<◌}
use mathlib.Core.Path.{◌≡◌, refl, ap, subst, ◌∙◌}
use mathlib.Core.List.{List}
use native.Mathlib.Omega.{arith}
use lib.ListN.{length}
use Rattle.basics.specs.Outcome.{Outcome, done, refused, handing}
use Rattle.writing.specs.Writing.{fitted, sized, Settled}
use Rattle.circuits.specs.Reading.{Static, circuit_of, read_circuit}
use Rattle.circuits.proofs.Validity.{read_valid}
use Rattle.circuits.proofs.Refusals.{refused_circuit, valid_short}
use Rattle.circuits.proofs.Rewrites.{Accepted}
use Rattle.table.specs.Growing.{Growing}
use Rattle.table.specs.Starting.{start_table}
use Rattle.pairs.specs.Listing.{read_pairs}
use Rattle.pairs.proofs.PairLaws.{list_refusal, refusal_low}
use Rattle.writer.specs.Outputs.{output, output_of}
use Rattle.writer.specs.Compiling.{Dynamic, dynamic_of, in_room, written_for, compiled_from, compiled, bytes_of, counts_of, Compiled}
use Rattle.writer.specs.declared.compiling.Counts.{Counts}
use Rattle.writer.proofs.Compiles.{compiled_length}
use Rattle.pairs.specs.Lending.{lenders_in}
use Rattle.thaksipho.specs.Words.{places_end}
use Rattle.thaksipho.proofs.Fitting.{Fits, fitted_fits}

-- what is told of the bytes is how many they are
abbrev pub bytes_told : Outcome Counts → Outcome ℕ
bytes_told (done counts) = done counts.bytes
bytes_told (refused number place) = refused number place

same_bytes : (o : Outcome Dynamic) → bytes_told (counts_of o) ≡ sized (bytes_of o)
same_bytes (done d) = refl
same_bytes (refused n p) = refl

-- so the call settles its bytes
pub compiled_settled : {old new : List ℕ} {o : Outcome Dynamic} {told : Outcome Counts} → Compiled old o told new → Settled old (bytes_of o) (bytes_told told) new
compiled_settled {o = o} h = record { tells = ap bytes_told h.tells ∙ same_bytes o; leaves = h.leaves }

-- where the bytes fit, so does the circuit
fits_in_room : (room : ℕ) (d : Dynamic) → length d.bytes < places_end → Fits (sized (bytes_of (in_room room d)))
fits_in_room room d h = go (fitted room d.bytes) refl
  where
    go : (o : Outcome (List ℕ)) → fitted room d.bytes ≡ o → Fits (sized (bytes_of (handing d o)))
    go (done bytes) e = h
    go (refused n p) e = subst (λ (o : Outcome (List ℕ)). Fits (sized o)) e (fitted_fits room d.bytes h)

module _ (s list : List ℕ) (room : ℕ) where
  pub compile_fits : Fits (sized (bytes_of (compiled s list room)))
  unfolding compiled
  compile_fits = go (read_circuit s) refl
    where
      accepted : (c : Static) → read_circuit s ≡ done c → Accepted s (circuit_of c.width (length c.steps))
      accepted c e = record { circuit = c; is = e; width = refl; instructions = refl }

      listed : (c : Static) → read_circuit s ≡ done c → (o : Outcome Growing) → read_pairs (start_table c) list ≡ o → Fits (sized (bytes_of (written_for room c o)))
      listed c e (done g) f =
          fits_in_room room (dynamic_of c g.pairs)
          (let size : length (output (lenders_in g.pairs) c) ≡ length s + 1 = subst (λ (o : Outcome Static). length (output_of (lenders_in g.pairs) o) ≡ length s + 1) e (compiled_length s list (accepted c e) g f) in
          omega (arith, size, valid_short s c (read_valid s e)))
      listed c e (refused n p) f =
          (omega (arith, (list_refusal s list c e f).least), omega (arith, refusal_low s list c e f, (read_valid s e).narrow))

      go : (o : Outcome Static) → read_circuit s ≡ o → Fits (sized (bytes_of (compiled_from room list o)))
      go (done c) e = listed c e (read_pairs (start_table c) list) refl
      go (refused n p) e = let r = refused_circuit s e in (r.0.0, omega (arith, r.1))
