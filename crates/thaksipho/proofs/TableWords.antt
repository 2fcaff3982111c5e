-- What the calls on tables tell fits a word. Assumes nothing.
use Prim.Native.Nat.{ℕ, ◌≤◌, ◌<◌}
use mathlib.Core.Bool.{Bool, true, false}
use mathlib.Core.Path.{◌≡◌, refl, ap, subst, ◌∙◌}
use mathlib.Core.List.{List}
use native.Mathlib.Omega.{arith}
use lib.ListN.{length}
use Rattle.basics.specs.Choice.{pick}
use Rattle.basics.specs.Outcome.{Outcome, done, refused, handing}
use Rattle.bits.specs.Bits.{bit}
use Rattle.bits.proofs.Sums.{tallies_le}
use Rattle.circuits.specs.Reading.{Static, read_circuit}
use Rattle.circuits.proofs.Refusals.{refused_circuit}
use Rattle.table.specs.Limits.{most_wires, table_length}
use Rattle.table.specs.Marks.{counts, marks_of}
use Rattle.table.specs.Rule.{accepted}
use Rattle.table.specs.Calls.{wrong_width, outside_width, may_lend, judged, offered, count_of, score_of}
use Rattle.table.specs.Starting.{table_at_start, started}
use Rattle.table.specs.TableBytes.{table_bytes}
use Rattle.table.specs.declared.tables.Table.{Table}
use Rattle.thaksipho.specs.Words.{places_end, flag}
use Rattle.thaksipho.specs.Tables.{table_written}
use Rattle.table.proofs.SavedTables.{length-table_bytes}
use Rattle.writing.proofs.Puts.{fitted-done, fitted-refused}
use Rattle.thaksipho.proofs.Fitting.{Fits}

-- a refusal has a number and a place that fit
abbrev Sound : {A : Type 0} → Outcome A → Type 0
Sound (done a) = Unit {0}
Sound (refused number place) = (1 ≤ number) × (place < places_end)

chosen : {A : Type 0} (b : Bool) (x y : Outcome A) → Sound x → Sound y → Sound (pick b x y)
chosen true x y p q = p
chosen false x y p q = q

handed : {A B : Type 0} (b : B) (o : Outcome A) → Sound o → Sound (handing b o)
handed b (done a) h = tt
handed b (refused n p) h = h

module _ (t : Table) (lender taker : ℕ) where
  judged_sound : Sound (judged t lender taker)
  unfolding judged
  judged_sound =
      chosen (wrong_width t) _ _ (omega arith, omega arith)
      (chosen (outside_width t lender taker) _ _ (omega arith, omega arith)
      (chosen (bit lender t.lending) _ _ (omega arith, omega arith)
      (chosen (bit taker t.taking) _ _ (omega arith, omega arith) (chosen (counts t lender taker) _ _ tt (omega arith, omega arith)))))

  pub offered_sound : Sound (offered t lender taker)
  offered_sound = handed (accepted t lender taker) (judged t lender taker) judged_sound

  pub may_fits : Fits (flag (may_lend t lender taker))
  unfolding may_lend
  may_fits = go (wrong_width t) (counts t lender taker)
    where
      go : (a b : Bool) → Fits (flag (pick a (refused 27 0) (done b)))
      go true b = (omega arith, omega arith)
      go false true = omega arith
      go false false = omega arith

few_marks : (t : Table) → marks_of t < places_end
unfolding marks_of
few_marks t = omega (arith, tallies_le most_wires (counts t) most_wires (marks_of t) refl)

pub count_fits : (t : Table) → Fits (count_of t)
unfolding count_of
count_fits t = go (wrong_width t)
  where
    go : (b : Bool) → Fits (pick b (refused 27 0) (done (marks_of t)))
    go true = (omega arith, omega arith)
    go false = few_marks t

pub score_fits : (t : Table) (lender taker : ℕ) → Fits (score_of t lender taker)
score_fits t lender taker = go (judged t lender taker) (judged_sound t lender taker)
  where
    go : (o : Outcome (Unit {0})) → Sound o → Fits (handing (marks_of (accepted t lender taker)) o)
    go (done tt) h = few_marks (accepted t lender taker)
    go (refused n p) h = h

pub started_sound : (s : List ℕ) → Sound (started s)
started_sound s = go (read_circuit s) refl
  where
    go : (o : Outcome Static) → read_circuit s ≡ o → Sound (table_at_start o)
    go (done c) e = tt
    go (refused n p) e = let r = refused_circuit s e in (r.0.0, omega (arith, r.1))

-- a table that is handed back
pub sound_place : {A : Type 0} {o : Outcome A} {number place : ℕ} → o ≡ refused number place → Sound o → place < places_end
sound_place {A} {number = number} {place = place} e h = (subst (Sound {A = A}) e h).1

-- where the call's own outcome is a refusal, so is what is written
pub refused_written : (room : ℕ) {o : Outcome Table} {number place : ℕ} → o ≡ refused number place → table_written room o ≡ refused number place
refused_written room e = ap (table_written room) e

-- a table that there is no room for, and one that there is
module _ (t : Table) (many : length t.rows ≡ most_wires) (room : ℕ) where
  pub no_room_for : room < table_length → table_written room (done t) ≡ refused 31 table_length
  no_room_for h =
      let size = length-table_bytes t many in
      fitted-refused room (table_bytes t) (omega arith) ∙ ap (λ (n : ℕ). refused 31 n) size

  pub room_for : table_length ≤ room → table_written room (done t) ≡ done (table_bytes t)
  room_for h = let size = length-table_bytes t many in fitted-done room (table_bytes t) (omega arith)
