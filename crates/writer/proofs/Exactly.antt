-- Demand 2, acceptance: with a valid circuit and room, the dynamic circuit is written exactly when the pair list is well formed and its pairs
-- meet the three conditions of Theorem 1; what is written is the dynamic circuit for these pairs. Assumes nothing.
use Prim.Native.Nat.{ℕ, ◌+◌, ◌≤◌}
use mathlib.Core.Path.{◌≡◌, refl, sym, ap, subst, ◌∙◌}
use mathlib.Core.List.{List, reverse}
use native.Mathlib.Omega.{arith}
use lib.ListN.{length, take, length-reverse}
use Rattle.basics.specs.Outcome.{Outcome, done, refused, handing}
use Rattle.basics.proofs.Outcomes.{not_refused}
use Rattle.writing.proofs.Puts.{fitted-done}
use Rattle.orders.specs.Runs.{Pair, Allowed}
use Rattle.orders.proofs.Turned.{same_turned, allowed_turned}
use Rattle.circuits.specs.Reading.{Static, circuit_of, read_circuit}
use Rattle.circuits.proofs.Rewrites.{Accepted}
use Rattle.circuits.proofs.Validity.{read_valid}
use Rattle.precedence.specs.Precedence as precedence
use Rattle.precedence.proofs.Precedence.{read_wired, circuit_lawful}
use Rattle.table.specs.Growing.{Growing}
use Rattle.table.specs.Starting.{start_table}
use Rattle.pairs.specs.Lending.{lenders_in}
use Rattle.pairs.specs.Listing.{AllowedList, read_pairs, deciding_list_bytes}
use Rattle.pairs.proofs.PairLaws.{accepted_list, list_accepted}
use Rattle.pairs.proofs.FirstPairs.{first_bytes_of_list}
use Rattle.writer.specs.Chains.{qubits}
use Rattle.writer.specs.Outputs.{output, output_of}
use Rattle.writer.specs.Compiling.{Dynamic, dynamic, dynamic_of, written_for, compiled_from, compiled}
use Rattle.writer.proofs.Listed.{same_lenders}
use Rattle.writer.proofs.Compiles.{compiled_as, compiled_length, pair_refused}

module _ (s list : List ℕ) (c : Static) (e : read_circuit s ≡ done c) where
  abbrev told : Accepted s (circuit_of c.width (length c.steps))
  told = record { circuit = c; is = e; width = refl; instructions = refl }

  -- the pairs in the order of the list give what they give with the latest first
  turned : (ps : List Pair) → Allowed (precedence.circuit_of c) ps → dynamic_of c (reverse ps) ≡ dynamic_of c ps
  turned ps a =
      ap (λ (ls : List ℕ). dynamic (output ls c) (qubits ls c.width) (length (reverse ps))) lenders
      ∙ ap (λ (n : ℕ). dynamic (output (lenders_in ps) c) (qubits (lenders_in ps) c.width) n) (length-reverse ps)
    where
      lenders : lenders_in (reverse ps) ≡ lenders_in ps
      lenders =
          sym (same_lenders ps (reverse ps) (same_turned (precedence.circuit_of c) ps) a.take_once (allowed_turned (precedence.circuit_of c) ps a).take_once
          (λ l t h. let low = (circuit_lawful c (read_wired s e)).low t (a.between l t h).1 in let n = (read_valid s e).narrow in omega arith))

  module _ (room : ℕ) (enough : length s + 1 ≤ room) where
    -- an accepted list is written
    accepted_written : (g : Growing) → read_pairs (start_table c) list ≡ done g → compiled s list room ≡ done (dynamic_of c g.pairs)
    accepted_written g f =
        let size : length (output (lenders_in g.pairs) c) ≡ length s + 1 =
        subst (λ (o : Outcome Static). length (output_of (lenders_in g.pairs) o) ≡ length s + 1) e (compiled_length s list told g f) in
        compiled_as s list told g f room
        ∙ ap (handing (dynamic_of c g.pairs)) (fitted-done room (output (lenders_in g.pairs) c) (omega (arith, size)))

    -- THEOREM: a well formed list whose pairs meet Theorem 1's conditions is accepted, and their dynamic circuit is written.
    pub allowed_written : (a : AllowedList (precedence.circuit_of c) list) → compiled s list room ≡ done (dynamic_of c a.pairs)
    allowed_written a =
        let w = list_accepted s list c e a in
        accepted_written w.growing w.is
        ∙ ap (λ (ps : List Pair). done (dynamic_of c ps)) w.same
        ∙ ap (λ (d : Dynamic). done d) (turned a.pairs a.allowed)

    -- THEOREM: only of such a list is anything written, and it is their dynamic circuit.
    pub written_allowed : (d : Dynamic) → compiled s list room ≡ done d → (a : AllowedList (precedence.circuit_of c) list) × (d ≡ dynamic_of c a.pairs)
    written_allowed d f = go (read_pairs (start_table c) list) refl
      where
        go : (o : Outcome Growing) → read_pairs (start_table c) list ≡ o → (a : AllowedList (precedence.circuit_of c) list) × (d ≡ dynamic_of c a.pairs)
        go (done g) z =
            let a = accepted_list s list c e g z in
            let y : done d ≡ done (dynamic_of c a.pairs) = sym f ∙ allowed_written a in
            (a, cc)
        go (refused n p) z = absurd (not_refused (sym (pair_refused s list told room z) ∙ f))

-- THEOREM: the first 96 bytes of a pair list decide what is compiled.
pub first_bytes_compiled : (s list : List ℕ) (room : ℕ) → compiled s (take deciding_list_bytes list) room ≡ compiled s list room
unfolding compiled
first_bytes_compiled s list room = go (read_circuit s) refl
  where
    go : (o : Outcome Static) → read_circuit s ≡ o → compiled_from room (take deciding_list_bytes list) o ≡ compiled_from room list o
    go (done c) e = ap (written_for room c) (first_bytes_of_list s list c e)
    go (refused n p) e = refl
