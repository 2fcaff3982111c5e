-- A record and its bytes say the same: the record that stands at a place has the bytes that stand there, and where a
-- record's bytes stand that record is read. Assumes nothing.
use Prim.Native.Nat.{ℕ, zero, suc, ◌+◌, ◌-◌, ◌/◌, ◌≤◌, ◌<◌}
use mathlib.Core.Bool.{Bool, true, false}
use mathlib.Core.Path.{◌≡◌, refl, sym, ap, subst, ◌∙◌}
use mathlib.Core.List.{List, [], ◌∷◌, ◌++◌}
use Rattle.std.specs.Prelude.{Option, None, Some}
use native.Mathlib.Omega.{arith}
use lib.ListN.{length, get_or, take, drop, length-drop, take-append-drop}
use lib.Seq.{drop-cons, get_or-drop, drop-drop, length-take-le}
use lib.Dec.{leb, eqb}
use borrow.Author.Tests.{leb-false, eqb-true}
use Rattle.basics.specs.Choice.{pick}
use Rattle.basics.specs.Outcome.{Outcome, done, refused}
use Rattle.records.specs.Kinds.{shaped, shape_of}
use Rattle.records.specs.declared.kinds.Outline.{Outline}
use Rattle.records.specs.Records.{Standing, stands, over, record_at, bodied, decode_at}
use Rattle.records.specs.Bytes.{record_bytes, kind_fits}
use Rattle.records.specs.declared.instructions.Record.{Record}
use Rattle.records.specs.declared.instructions.Record.TheVariants.{StaticWidth, DynamicWidth, Step, Reuse}
use Rattle.records.specs.declared.instructions.Instruction.TheVariants.{Reset, Measurement, Gate, AngledGate, TwoLineGate, AngledTwoLineGate}
use Rattle.records.specs.declared.kinds.Form.{Form}
use Rattle.records.specs.declared.kinds.Form.TheVariants as form
use Rattle.records.proofs.Shapes.{Other, by_digit, sixteen}
use Rattle.records.proofs.Standings.{at_record}

-- From bytes to a record and back

-- n bytes from a place on
abbrev pub bytes_from : List ℕ → ℕ → ℕ → ℕ → List ℕ
bytes_from s at k zero = []
bytes_from s at k (suc n) = get_or s (at + k) 0 ∷ bytes_from s at (suc k) n

part : (s : List ℕ) (at k n : ℕ) → at + k + n ≤ length s → take n (drop (at + k) s) ≡ bytes_from s at k n
part s at k zero h = refl
part s at k (suc n) h =
    let l : at + k < length s = omega arith in
    let z : suc (at + k) ≡ at + suc k = omega arith in
    ap (take (suc n)) (drop-cons s (at + k) 0 l)
    ∙ ap (λ (m : ℕ). get_or s (at + k) 0 ∷ take n (drop m s)) z
    ∙ ap (λ (r : List ℕ). get_or s (at + k) 0 ∷ r) (part s at (suc k) n (omega arith))

module _ (s : List ℕ) (at : ℕ) where
  -- the bytes of a record that stands here are the bytes that stand here, up to the place after it
  pub record Back (r : Record) (next : ℕ) : Type 0 where
    pub past : at < next
    pub within : next ≤ length s
    pub same : record_bytes r ≡ take (next - at) (drop at s)
    pub fits : kind_fits r ≡ true

  -- a shape's record has the kind byte and the body, and the kind is one of its form's
  abbrev pub Covers : Option Outline → Type 0
  Covers None = Unit {0}
  Covers (Some h) =
      (record_bytes (decode_at h.form s at) ≡ bytes_from s at 0 (suc h.body)) × (kind_fits (decode_at h.form s at) ≡ true)

  picked : (b : Bool) (x y : Option Outline) → (b ≡ true → Covers x) → Covers y → Covers (pick b x y)
  picked true x y p q = p refl
  picked false x y p q = q

  pub covers : Covers (shape_of (get_or s (at + 0) 0))
  unfolding shape_of
  covers =
      let k : ℕ = get_or s (at + 0) 0 in
      picked (eqb k 0x01) _ _ (λ e. (sole (eqb-true k 0x01 e), refl)) (picked (eqb k 0x02) _ _ (λ e. (sole (eqb-true k 0x02 e), refl))
      (picked (eqb k 0x10) _ _ (λ e. (sole (eqb-true k 0x10 e), refl)) (picked (eqb k 0x11) _ _ (λ e. (sole (eqb-true k 0x11 e), refl))
      (picked (eqb k 0x60) _ _ (λ e. (sole (eqb-true k 0x60 e), refl)) (picked (eqb (k / 16) 2) _ _ (λ e. (refl, e)) (picked (eqb (k / 16) 3) _ _ (λ e. (refl, e))
      (picked (eqb (k / 16) 4) _ _ (λ e. (refl, e))
      (picked (eqb (k / 16) 5) (shaped form.AngledTwoLineGate 10 2) None (λ e. (refl, e)) tt))))))))
    where
      -- the kind of a form that has one only
      sole : {k : ℕ} {body : List ℕ} → get_or s (at + 0) 0 ≡ k → k ∷ body ≡ get_or s (at + 0) 0 ∷ body
      sole {k} {body} e = ap (λ (x : ℕ). x ∷ body) (sym e)

  abbrev Backs : Outcome Standing → Type 0
  Backs (done (stands r next)) = Back r next
  Backs (done over) = Unit {0}
  Backs (refused number place) = Unit {0}

  whole : (h : Outline) → Covers (Some h) → h.body < length s - at → Back (decode_at h.form s at) (at + 1 + h.body)
  whole h e l = record {
    past = omega arith;
    within = omega arith;
    same =
        let z : suc h.body ≡ at + 1 + h.body - at = omega arith in
        let y : at + 0 ≡ at = omega arith in
        e.0
        ∙ sym (part s at 0 (suc h.body) (omega arith))
        ∙ ap (λ (m : ℕ). take (suc h.body) (drop m s)) y
        ∙ ap (λ (n : ℕ). take n (drop at s)) z;
    fits = e.1;
  }

  backs : Backs (record_at s at)
  unfolding record_at
  backs = ended (leb (length s) at) _ (known (shape_of (get_or s at 0)) (subst (λ (m : ℕ). Covers (shape_of (get_or s m 0))) (omega arith) covers))
    where
      cut : (h : Outline) → Covers (Some h) → (b : Bool) → leb (length s - at) h.body ≡ b
          → Backs (pick b (refused 2 at) (done (stands (decode_at h.form s at) (at + 1 + h.body))))
      cut h e true t = tt
      cut h e false t = whole h e (leb-false _ _ t)

      known : (o : Option Outline) → Covers o → Backs (bodied s at o)
      known None e = tt
      known (Some h) e = cut h e (leb (length s - at) h.body) refl

      ended : (b : Bool) (o : Outcome Standing) → Backs o → Backs (pick b (done over) o)
      ended true o p = tt
      ended false o p = p

  pub round_trip : {r : Record} {next : ℕ} → record_at s at ≡ done (stands r next) → Back r next
  round_trip e = subst Backs e backs

  -- so the rest begins where the record ends
  pub rest_behind : {r : Record} {next : ℕ} → Back r next → drop at s ≡ record_bytes r ++ drop next s
  rest_behind {r} {next} b =
      let past = b.past in
      let z : at + (next - at) ≡ next = omega arith in
      sym (take-append-drop (next - at) (drop at s))
      ∙ ap (λ (l : List ℕ). l ++ drop (next - at) (drop at s)) (sym b.same)
      ∙ ap (λ (l : List ℕ). record_bytes r ++ l) (drop-drop (next - at) at s ∙ ap (λ (n : ℕ). drop n s) z)

  -- the place after a record is as far as its bytes are long
  pub back_length : {r : Record} {next : ℕ} → Back r next → at + length (record_bytes r) ≡ next
  back_length {r} {next} b =
      let past = b.past in
      let within = b.within in
      let l : length (take (next - at) (drop at s)) ≡ next - at = length-take-le _ _ (simp length-drop (omega arith)) in
      let e : length (record_bytes r) ≡ length (take (next - at) (drop at s)) = ap length b.same in
      omega arith

-- From a record to bytes and back

module _ (s : List ℕ) (at : ℕ) {xs : List ℕ} (e : drop at s ≡ xs) where
  byte_there : (k : ℕ) → get_or s (at + k) 0 ≡ get_or xs k 0
  byte_there k = sym (get_or-drop at s k 0) ∙ ap (λ (l : List ℕ). get_or l k 0) e

  size_there : length s - at ≡ length xs
  size_there = sym (length-drop at s) ∙ ap length e

  -- a record is read where a kind of its shape and its whole body stand
  shaped_there : {r : Record} (h : Outline) → shape_of (get_or xs 0 0) ≡ Some h → h.body < length xs → suc h.body ≡ length (record_bytes r)
      → decode_at h.form s at ≡ r → record_at s at ≡ done (stands r (at + length (record_bytes r)))
  shaped_there {r} h k l z d =
      let size = size_there in
      let next : at + 1 + h.body ≡ at + length (record_bytes r) = omega arith in
      let kind : shape_of (get_or s at 0) ≡ Some h = ap shape_of (ap (λ (m : ℕ). get_or s m 0) (omega arith) ∙ byte_there 0) ∙ k in
      at_record s at (omega arith) kind (omega arith)
      ∙ ap (λ (q : Record). done (stands q (at + 1 + h.body))) d
      ∙ ap (λ (n : ℕ). done (stands r n)) next

abbrev shape : Form → ℕ → ℕ → Outline
shape f body operands = record { form = f; body = body; operands = operands }

-- a kind with this high digit does not stand alone
other : (k d : ℕ) → k / 16 ≡ d → 2 ≤ d → d ≤ 5 → Other k
other k d e l m =
    (((((tt, λ q. omega arith), λ q. omega arith), λ q. omega arith), λ q. omega arith), λ q. omega arith)

digit : (k d : ℕ) → 2 ≤ d → d ≤ 5 → eqb (k / 16) d ≡ true → by_digit d ≡ shape_of k
digit k d l m f = let e = eqb-true (k / 16) d f in sixteen k d (other k d e l m) (sym e)

-- where a record's bytes stand that record is read, if a gate's kind is one of its form's
pub reads_back : (s : List ℕ) (at : ℕ) (r : Record) (rest : List ℕ) → drop at s ≡ record_bytes r ++ rest → kind_fits r ≡ true
    → record_at s at ≡ done (stands r (at + length (record_bytes r)))
unfolding shape_of
reads_back s at (StaticWidth wires) rest e f =
    shaped_there s at e (shape form.StaticWidth 1 1) refl (omega arith) refl (rw (byte_there s at e 1))
reads_back s at (DynamicWidth qubits bits) rest e f =
    shaped_there s at e (shape form.DynamicWidth 2 2) refl (omega arith) refl (rw (byte_there s at e 1, byte_there s at e 2))
reads_back s at (Reuse lender taker) rest e f =
    shaped_there s at e (shape form.Reuse 2 2) refl (omega arith) refl (rw (byte_there s at e 1, byte_there s at e 2))
reads_back s at (Step (Reset l)) rest e f =
    shaped_there s at e (shape form.Reset 1 1) refl (omega arith) refl (rw (byte_there s at e 1))
reads_back s at (Step (Measurement l b)) rest e f =
    shaped_there s at e (shape form.Measurement 2 2) refl (omega arith) refl (rw (byte_there s at e 1, byte_there s at e 2))
reads_back s at (Step (Gate k l)) rest e f =
    shaped_there s at e (shape form.Gate 1 1) (sym (digit k 2 (omega arith) (omega arith) f)) (omega arith) refl
    (rw (byte_there s at e 0, byte_there s at e 1))
reads_back s at (Step (AngledGate k l a)) rest e f =
    shaped_there s at e (shape form.AngledGate 9 1) (sym (digit k 3 (omega arith) (omega arith) f)) (omega arith) refl
    (simp (
      byte_there s at e 0,
      byte_there s at e 1,
      byte_there s at e 2,
      byte_there s at e 3,
      byte_there s at e 4,
      byte_there s at e 5,
      byte_there s at e 6,
      byte_there s at e 7,
      byte_there s at e 8,
      byte_there s at e 9,
    ))
reads_back s at (Step (TwoLineGate k l m)) rest e f =
    shaped_there s at e (shape form.TwoLineGate 2 2) (sym (digit k 4 (omega arith) (omega arith) f)) (omega arith) refl
    (rw (byte_there s at e 0, byte_there s at e 1, byte_there s at e 2))
reads_back s at (Step (AngledTwoLineGate k l m a)) rest e f =
    shaped_there s at e (shape form.AngledTwoLineGate 10 2) (sym (digit k 5 (omega arith) (omega arith) f)) (omega arith) refl
    (simp (
      byte_there s at e 0,
      byte_there s at e 1,
      byte_there s at e 2,
      byte_there s at e 3,
      byte_there s at e 4,
      byte_there s at e 5,
      byte_there s at e 6,
      byte_there s at e 7,
      byte_there s at e 8,
      byte_there s at e 9,
      byte_there s at e 10,
    ))
