-- The first bytes decide: a record is read alike from the whole and from a part of it that goes on for the longest record
-- past its place. Assumes nothing.
use Prim.Native.Nat.{ℕ, zero, suc, ◌+◌, ◌≤◌, ◌<◌}
use mathlib.Core.Path.{◌≡◌, refl, sym, ap, subst, ◌∙◌}
use mathlib.Core.Bool.{Bool, true, false}
use mathlib.Core.List.{List}
use Rattle.std.specs.Prelude.{Option, None, Some}
use native.Mathlib.Omega.{arith}
use lib.Dec.{ltb}
use borrow.Author.Tests.{ltb-true, ltb-false}
use lib.ListN.{length, get_or, take}
use lib.Seq.{get_or-take, length-take-le, take_all}
use Rattle.records.specs.Kinds.{shape_of}
use Rattle.records.specs.declared.kinds.Outline.{Outline}
use Rattle.records.specs.Records.{record_at, decode_at, stands}
use Rattle.basics.specs.Outcome.{done}
use Rattle.records.specs.Bytes.{record_bytes, longest_record}
use Rattle.records.specs.declared.instructions.Record.{Record}
use Rattle.records.specs.declared.instructions.Record.TheVariants.{StaticWidth, DynamicWidth, Step, Reuse}
use Rattle.records.specs.declared.instructions.Instruction.TheVariants.{Reset, Measurement, Gate, AngledGate, TwoLineGate, AngledTwoLineGate}
use Rattle.records.specs.declared.kinds.Form.{Form}
use Rattle.records.specs.declared.kinds.Form.TheVariants as form
use Rattle.records.proofs.Standings.{at_unknown, at_record}
use Rattle.records.proofs.RoundTrip.{Covers, covers, bytes_from}

-- no record is longer than the longest
pub record_short : (r : Record) → length (record_bytes r) ≤ longest_record
record_short (StaticWidth wires) = omega arith
record_short (DynamicWidth qubits bits) = omega arith
record_short (Reuse lender taker) = omega arith
record_short (Step (Reset l)) = omega arith
record_short (Step (Measurement l b)) = omega arith
record_short (Step (Gate k l)) = omega arith
record_short (Step (AngledGate k l a)) = omega arith
record_short (Step (TwoLineGate k l m)) = omega arith
record_short (Step (AngledTwoLineGate k l m a)) = omega arith

length-bytes_from : (s : List ℕ) (at k n : ℕ) → length (bytes_from s at k n) ≡ n
length-bytes_from s at k zero = refl
length-bytes_from s at k (suc n) = ap suc (length-bytes_from s at (suc k) n)

module _ (s : List ℕ) (n at : ℕ) (far : at + longest_record ≤ n) where
  same : (k : ℕ) → k < longest_record → get_or (take n s) (at + k) 0 ≡ get_or s (at + k) 0
  same k h = get_or-take n s (at + k) 0 (omega arith)

  decode_same : (f : Form) → decode_at f (take n s) at ≡ decode_at f s at
  decode_same form.StaticWidth = rw (same 1 (omega arith))
  decode_same form.DynamicWidth = rw (same 1 (omega arith), same 2 (omega arith))
  decode_same form.Reset = rw (same 1 (omega arith))
  decode_same form.Measurement = rw (same 1 (omega arith), same 2 (omega arith))
  decode_same form.Reuse = rw (same 1 (omega arith), same 2 (omega arith))
  decode_same form.Gate = rw (same 0 (omega arith), same 1 (omega arith))
  decode_same form.TwoLineGate = rw (same 0 (omega arith), same 1 (omega arith), same 2 (omega arith))
  decode_same form.AngledGate =
      simp (
        same 0 (omega arith),
        same 1 (omega arith),
        same 2 (omega arith),
        same 3 (omega arith),
        same 4 (omega arith),
        same 5 (omega arith),
        same 6 (omega arith),
        same 7 (omega arith),
        same 8 (omega arith),
        same 9 (omega arith),
      )
  decode_same form.AngledTwoLineGate =
      simp (
        same 0 (omega arith),
        same 1 (omega arith),
        same 2 (omega arith),
        same 3 (omega arith),
        same 4 (omega arith),
        same 5 (omega arith),
        same 6 (omega arith),
        same 7 (omega arith),
        same 8 (omega arith),
        same 9 (omega arith),
        same 10 (omega arith),
      )

  -- a shape of the table has a body that is no longer than the longest record's
  body_short : {h : Outline} → shape_of (get_or s at 0) ≡ Some h → suc h.body ≤ longest_record
  body_short {h} e =
      let here : at + 0 ≡ at = omega arith in
      let c : Covers s at (Some h) = subst (Covers s at) e (subst (λ (m : ℕ). Covers s at (shape_of (get_or s m 0))) here (covers s at)) in
      let l = ap length c.0 ∙ length-bytes_from s at 0 (suc h.body) in
      omega (arith, record_short (decode_at h.form s at))

  pub first_bytes_decide : record_at (take n s) at ≡ record_at s at
  first_bytes_decide = go (ltb n (length s)) refl
    where
      kind : {o : Option Outline} → shape_of (get_or s at 0) ≡ o → shape_of (get_or (take n s) at 0) ≡ o
      kind e = ap shape_of (get_or-take n s at 0 (omega arith)) ∙ e

      cut : n < length s → (o : Option Outline) → shape_of (get_or s at 0) ≡ o → record_at (take n s) at ≡ record_at s at
      cut l None e =
          let size = length-take-le n s (omega arith) in
          at_unknown (take n s) at (omega arith) (kind e) ∙ sym (at_unknown s at (omega arith) e)
      cut l (Some h) e =
          let size = length-take-le n s (omega arith) in
          let short = body_short e in
          at_record (take n s) at (omega arith) (kind e) (omega arith)
          ∙ ap (λ (r : Record). done (stands r (at + 1 + h.body))) (decode_same h.form)
          ∙ sym (at_record s at (omega arith) e (omega arith))

      go : (b : Bool) → ltb n (length s) ≡ b → record_at (take n s) at ≡ record_at s at
      go true e = cut (ltb-true n (length s) e) (shape_of (get_or s at 0)) refl
      go false e = ap (λ (t : List ℕ). record_at t at) (take_all n s (ltb-false n (length s) e))
