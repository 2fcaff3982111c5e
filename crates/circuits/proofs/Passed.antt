-- What it says of an instruction that it passed: its lines and bits are below the width, and their states are such as it asks for.
-- Assumes nothing.
use Prim.Native.Nat.{ℕ, ◌<◌}
use mathlib.Core.Path.{◌≡◌, refl}
use mathlib.Core.Logic.{◌≢◌}
use mathlib.Core.Bool.{Bool, true, false}
use native.Mathlib.Omega.{arith}
use lib.Dec.{eqb, leb}
use borrow.Author.Tests.{eqb-false, leb-false}
use Rattle.records.specs.declared.numbers.Line.{Line}
use Rattle.records.specs.declared.numbers.Bit.{Bit}
use Rattle.circuits.specs.Judging.{fresh, in_use, finished, used, line_state, bit_state, Verdict, passed, fault, ◌then◌, faulty, live, judge_reset, judge_gate, judge_measurement, judge_two}
use Rattle.circuits.specs.declared.states.States.{States}

both_passed : (u v : Verdict) → u then v ≡ passed → (u ≡ passed) × (v ≡ passed)
both_passed passed v e = (refl, e)
both_passed (fault n o) v e = let z : ◌≡◌ {A = ℕ} 0 1 = cc in absurd (omega arith)

not_faulty : (n o : ℕ) (t : Bool) → faulty n o t ≡ passed → t ≡ false
not_faulty n o true e = let z : ◌≡◌ {A = ℕ} 0 1 = cc in absurd (omega arith)
not_faulty n o false e = refl

module _ (width : ℕ) (c : States) where
  live-passed : (o : ℕ) (l : Line) → live o c l ≡ passed → (line_state c l ≢ finished) × (line_state c l ≢ fresh)
  unfolding live
  live-passed o l e =
      let p = both_passed (faulty 10 o (eqb (line_state c l) finished)) _ e in
      (eqb-false _ _ (not_faulty 10 o _ p.0), eqb-false _ _ (not_faulty 8 o _ p.1))

  pub reset_passed : (l : Line) → judge_reset width c l ≡ passed → (l.0 < width) × (line_state c l ≢ finished) × (line_state c l ≢ in_use)
  unfolding judge_reset
  reset_passed l e =
      let p = both_passed (faulty 6 1 (leb width l.0)) _ e in
      let q = both_passed (faulty 10 1 (eqb (line_state c l) finished)) _ p.1 in
      (leb-false _ _ (not_faulty 6 1 _ p.0), eqb-false _ _ (not_faulty 10 1 _ q.0), eqb-false _ _ (not_faulty 9 1 _ q.1))

  -- a line that an instruction other than a reset may be on
  abbrev pub Live : Line → Type 0
  Live l = (l.0 < width) × ((line_state c l ≢ finished) × (line_state c l ≢ fresh))

  pub gate_passed : (l : Line) → judge_gate width c l ≡ passed → Live l
  unfolding judge_gate
  gate_passed l e =
      let p = both_passed (faulty 6 1 (leb width l.0)) _ e in
      (leb-false _ _ (not_faulty 6 1 _ p.0), live-passed 1 l p.1)

  pub measurement_passed : (l : Line) (b : Bit) → judge_measurement width width c l b ≡ passed → Live l × (b.0 < width) × (bit_state c b ≢ used)
  unfolding judge_measurement
  measurement_passed l b e =
      let p = both_passed (judge_gate width c l) _ e in
      let q = both_passed (faulty 11 2 (leb width b.0)) _ p.1 in
      (gate_passed l p.0, leb-false _ _ (not_faulty 11 2 _ q.0), eqb-false _ _ (not_faulty 12 2 _ q.1))

  pub two_passed : (l m : Line) → judge_two width c l m ≡ passed → Live l × Live m × (l.0 ≢ m.0)
  unfolding judge_two
  two_passed l m e =
      let p = both_passed (faulty 6 1 (leb width l.0)) _ e in
      let q = both_passed (faulty 6 2 (leb width m.0)) _ p.1 in
      let r = both_passed (faulty 7 2 (eqb l.0 m.0)) _ q.1 in
      let s = both_passed (live 1 c l) _ r.1 in (
        (leb-false _ _ (not_faulty 6 1 _ p.0), live-passed 1 l s.0),
        (leb-false _ _ (not_faulty 6 2 _ q.0), live-passed 2 m s.1),
        eqb-false _ _ (not_faulty 7 2 _ r.0),
      )
