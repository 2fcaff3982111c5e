-- The start pass in rows: each turn does to the rows what it does to the sets, so the rows at the end are the start table.
-- Assumes nothing.
use Prim.Native.Nat.{ℕ, suc, ◌^◌, ◌<◌}
use mathlib.Core.Bool.{Bool, true, false, not, ◌&&◌, ◌||◌, or-false}
use mathlib.Core.Path.{◌≡◌, refl, sym, ap, ap₂, ◌∙◌}
use mathlib.Core.Logic.{inl, inr}
use mathlib.Core.List.{List, [], ◌∷◌, ◌++◌}
use mathlib.Core.Option.{some}
use native.Mathlib.Omega.{arith}
use lib.Dec.{eqb, ltb, lit<}
use lib.ListN.{length, get_or, set, get_elem?, length-set, length-replicate, get_or-replicate, get_or-eq_default}
use lib.Seq.{get_or-set_same, get_or-set_other}
use borrow.Author.Tests.{eqb-true, eqb-false}
use Rattle.basics.specs.Choice.{pick}
use Rattle.basics.proofs.Tests.{below_or_not}
use Rattle.bits.specs.Bits.{bit, pack, each}
use Rattle.bits.proofs.Packing.{pack_lt, pack_ext, pack-bit, bit-pack, bit_past}
use Rattle.bits.proofs.Lists.{length-each, get_or-each, each_eq}
use Rattle.orders.specs.Indices.{In}
use Rattle.records.specs.declared.numbers.Line.{Line}
use Rattle.records.specs.declared.instructions.Instruction.{Instruction}
use Rattle.records.specs.declared.instructions.Instruction.TheVariants.{Reset, Measurement, Gate, AngledGate, TwoLineGate, AngledTwoLineGate}
use Rattle.basics.specs.Outcome.{done}
use Rattle.circuits.specs.Reading.{Static, read_circuit}
use Rattle.circuits.specs.Rewriting.{steps_of}
use Rattle.circuits.specs.Sketching.{sketch_of}
use Rattle.circuits.specs.declared.circuit.Circuit.{Circuit}
use Rattle.circuits.specs.declared.sketching.Sketch.{Sketch}
use Rattle.circuits.proofs.Validity.{read_valid}
use Rattle.circuits.proofs.Rewrites.{Accepted}
use Rattle.circuits.specs.Validity.{Valid}
use Rattle.precedence.specs.Lives.{lines_of}
use Rattle.precedence.specs.Starts.{Sets, no_sets, after, pass, leading_sets, start_of}
use Rattle.precedence.proofs.Lives.{valid_below}
use Rattle.precedence.proofs.Starts.{after_reset, after_measurement, after_gate, after_angled_gate, after_two, after_angled_two}
use Rattle.table.specs.Limits.{most_wires}
use Rattle.table.specs.Starting.{sets_in, rows_of, no_rows, rows_after, rows_sketched, rows_pass, start_from, start_table, table_at_start, started}
use Rattle.table.specs.declared.tables.Table.{Table}

-- a row that was stored, read back
row_stored : (rows : List ℕ) (l row x : ℕ) → x < length rows → get_or (set rows l row) x 0 ≡ pick (eqb x l) row (get_or rows x 0)
row_stored rows l row x h = go (eqb x l) refl
  where
    go : (b : Bool) → eqb x l ≡ b → get_or (set rows l row) x 0 ≡ pick b row (get_or rows x 0)
    go true e =
        let z = eqb-true x l e in
        ap (λ (y : ℕ). get_or (set rows l row) y 0) z ∙ get_or-set_same rows l row 0 (omega arith)
    go false e = get_or-set_other rows l x row 0 (eqb-false x l e)

-- One turn on rows that are held: so many, and each fits

module _ (rows : List ℕ) (many : length rows ≡ most_wires) (fits : (x : ℕ) → get_or rows x 0 < 2 ^ most_wires) where
  own_row : (x : ℕ) → get_or rows x 0 ≡ pack most_wires (sets_in rows x)
  own_row x = pack-bit most_wires (fits x)

  pub unchanged_rows : (i : Instruction) → ((x t : ℕ) → after i (sets_in rows) x t ≡ sets_in rows x t) → rows ≡ rows_after i rows
  unfolding rows_after
  unchanged_rows i h =
      each_eq most_wires (λ x. pack most_wires (after i (sets_in rows) x)) rows many (λ x l. own_row x ∙ pack_ext most_wires (λ t k. sym (h x t)))

  pub reset_rows : (l : Line) → set rows l.0 (pack most_wires (λ t. bit t (get_or rows l.0 0) || eqb t l.0)) ≡ rows_after (Reset l) rows
  unfolding rows_after
  reset_rows l =
      each_eq most_wires (λ x. pack most_wires (after (Reset l) (sets_in rows) x)) _ (length-set rows l.0 _ ∙ many)
      (λ x h. row_stored rows l.0 _ x (omega arith) ∙ go x (eqb x l.0) refl)
    where
      go : (x : ℕ) (b : Bool) → eqb x l.0 ≡ b
          → pick b (pack most_wires (λ t. bit t (get_or rows l.0 0) || eqb t l.0)) (get_or rows x 0) ≡ pack most_wires (after (Reset l) (sets_in rows) x)
      go x true e =
          pack_ext most_wires (λ t k. sym (after_reset (sets_in rows) x t l ∙ ap (λ (b : Bool). sets_in rows x t || (b && eqb t l.0)) e
          ∙ ap (λ (y : ℕ). sets_in rows y t || eqb t l.0) (eqb-true x l.0 e)))
      go x false e =
          own_row x
          ∙ pack_ext most_wires (λ t k. sym (after_reset (sets_in rows) x t l ∙ ap (λ (b : Bool). sets_in rows x t || (b && eqb t l.0)) e ∙ or-false (sets_in rows x t)))

  -- both wires of a gate on two get the union of their sets
  pub two_rows : (l m : ℕ) (i : Instruction)
      → ((x t : ℕ) → after i (sets_in rows) x t ≡ pick (eqb x l || eqb x m) (sets_in rows l t || sets_in rows m t) (sets_in rows x t))
      → let both = pack most_wires (λ t. sets_in rows l t || sets_in rows m t) in set (set rows l both) m both ≡ rows_after i rows
  unfolding rows_after
  two_rows l m i h =
      each_eq most_wires (λ x. pack most_wires (after i (sets_in rows) x)) _ (length-set (set rows l both) m both ∙ length-set rows l both ∙ many)
      (λ x k. row_stored (set rows l both) m both x (omega (arith, length-set rows l both))
      ∙ ap (λ (y : ℕ). pick (eqb x m) both y) (row_stored rows l both x (omega arith))
      ∙ go x (eqb x l) (eqb x m) refl refl)
    where
      both : ℕ
      both = pack most_wires (λ t. sets_in rows l t || sets_in rows m t)

      row : (x : ℕ) (a b : Bool) → eqb x l ≡ a → eqb x m ≡ b
          → pack most_wires (λ t. pick (a || b) (sets_in rows l t || sets_in rows m t) (sets_in rows x t)) ≡ pack most_wires (after i (sets_in rows) x)
      row x a b e f =
          pack_ext most_wires (λ t k. ap₂ (λ (p q : Bool). pick (p || q) (sets_in rows l t || sets_in rows m t) (sets_in rows x t)) (sym e) (sym f) ∙ sym (h x t))

      go : (x : ℕ) (a b : Bool) → eqb x l ≡ a → eqb x m ≡ b → pick b both (pick a both (get_or rows x 0)) ≡ pack most_wires (after i (sets_in rows) x)
      go x true true e f = row x true true e f
      go x true false e f = row x true false e f
      go x false true e f = row x false true e f
      go x false false e f = own_row x ∙ row x false false e f

  -- the rows after an instruction, by its sketch
  pub sketched_rows : (i : Instruction) → rows_sketched (sketch_of i) rows ≡ rows_after i rows
  sketched_rows (Reset l) = reset_rows l
  sketched_rows (Measurement l b) = unchanged_rows _ (λ x t. after_measurement _ x t _ _)
  sketched_rows (Gate k l) = unchanged_rows _ (λ x t. after_gate _ x t _ _)
  sketched_rows (AngledGate k l a) = unchanged_rows _ (λ x t. after_angled_gate _ x t _ _ _)
  sketched_rows (TwoLineGate k l m) = two_rows l.0 m.0 _ (λ x t. after_two _ x t _ _ _)
  sketched_rows (AngledTwoLineGate k l m a) = two_rows l.0 m.0 _ (λ x t. after_angled_two _ x t _ _ _ _)

-- The whole pass

-- rows that can be held: so many, and each fits
pub record Holdable (rows : List ℕ) : Type 0 where
  pub many : length rows ≡ most_wires
  pub fits : (x : ℕ) → get_or rows x 0 < 2 ^ most_wires

below_most : (rows : List ℕ) → length rows ≡ most_wires → ((x : ℕ) → x < most_wires → get_or rows x 0 < 2 ^ most_wires) → Holdable rows
below_most rows e f = record {
  many = e;
  fits = λ x. elim (below_or_not x most_wires) [
    | inl l ↦ f x l
    | inr l ↦ rw (get_or-eq_default rows 0 {n = x} (omega arith)) (lit< tt)
  ];
}

pub holdable_none : Holdable no_rows
holdable_none = below_most no_rows (length-replicate {A = ℕ} most_wires 0) (λ x l. rw (get_or-replicate {A = ℕ} most_wires x 0 0 l) (lit< tt))

pub holdable_after : (i : Instruction) (rows : List ℕ) → Holdable (rows_after i rows)
unfolding rows_after
holdable_after i rows = below_most _ (length-each most_wires _) (λ x l. rw (get_or-each most_wires _ x l) (pack_lt most_wires _))

holdable_pass : (is : List Instruction) (rows : List ℕ) → Holdable rows → Holdable (rows_pass is rows)
unfolding rows_pass
holdable_pass [] rows h = h
holdable_pass (i ∷ is) rows h = holdable_pass is (rows_after i rows) (holdable_after i rows)

pass_last : (js : List Instruction) (i : Instruction) (rows : List ℕ) → rows_pass (js ++ i ∷ []) rows ≡ rows_after i (rows_pass js rows)
unfolding rows_pass
pass_last [] i rows = refl
pass_last (j ∷ js) i rows = pass_last js i (rows_after j rows)

-- one instruction more, by its sketch
pub pass_more : (js : List Instruction) (i : Instruction) {k : Sketch} {rows new : List ℕ} → rows ≡ rows_pass js no_rows → sketch_of i ≡ k → new ≡ rows_sketched k rows
    → new ≡ rows_pass (js ++ i ∷ []) no_rows
pass_more js i {k} {rows} e like f =
    let h = holdable_pass js no_rows holdable_none in
    f ∙ ap (λ (z : Sketch). rows_sketched z rows) (sym like) ∙ ap (rows_sketched (sketch_of i)) e
    ∙ sketched_rows (rows_pass js no_rows) h.many h.fits i ∙ sym (pass_last js i no_rows)

-- sets that agree about wires
abbrev Agree : Sets → Sets → Type 0
Agree r s = (x t : ℕ) → x < most_wires → t < most_wires → r x t ≡ s x t

-- every line named is below the most wires
abbrev Named : List Instruction → Type 0
Named is = (k : ℕ) (i : Instruction) → get_elem? is k ≡ some i → (x : ℕ) → In x (lines_of i) → x < most_wires

after_agree : (i : Instruction) (r s : Sets) → ((x : ℕ) → In x (lines_of i) → x < most_wires) → Agree r s → Agree (after i r) (after i s)
after_agree (Reset l) r s low e x t h k =
    after_reset r x t l ∙ ap (λ (b : Bool). b || (eqb x l.0 && eqb t l.0)) (e x t h k) ∙ sym (after_reset s x t l)
after_agree (Measurement l b) r s low e x t h k = after_measurement r x t l b ∙ e x t h k ∙ sym (after_measurement s x t l b)
after_agree (Gate g l) r s low e x t h k = after_gate r x t g l ∙ e x t h k ∙ sym (after_gate s x t g l)
after_agree (AngledGate g l a) r s low e x t h k = after_angled_gate r x t g l a ∙ e x t h k ∙ sym (after_angled_gate s x t g l a)
after_agree (TwoLineGate g l m) r s low e x t h k =
    after_two r x t g l m ∙ rw (e x t h k, e l.0 t (low l.0 (inl refl)) k, e m.0 t (low m.0 (inr (inl refl))) k) (sym (after_two s x t g l m))
after_agree (AngledTwoLineGate g l m a) r s low e x t h k =
    after_angled_two r x t g l m a
    ∙ rw (e x t h k, e l.0 t (low l.0 (inl refl)) k, e m.0 t (low m.0 (inr (inl refl))) k) (sym (after_angled_two s x t g l m a))

pass_agree : (is : List Instruction) (r s : Sets) → Named is → Agree r s → Agree (pass is r) (pass is s)
unfolding pass
pass_agree [] r s low e = e
pass_agree (i ∷ is) r s low e = pass_agree is (after i r) (after i s) (λ k. low (suc k)) (after_agree i r s (low 0 i refl) e)

-- rows say the sets that they were made of
rows_say : (s : Sets) → Agree (sets_in (rows_of s)) s
rows_say s x t h k = ap (bit t) (get_or-each most_wires (λ y. pack most_wires (s y)) x h) ∙ bit-pack most_wires (s x) t k

rows_pass_lem : (is : List Instruction) (rows : List ℕ) → Named is → Agree (sets_in (rows_pass is rows)) (pass is (sets_in rows))
unfolding rows_pass pass rows_after
rows_pass_lem [] rows low x t h k = refl
rows_pass_lem (i ∷ is) rows low x t h k =
    rows_pass_lem is (rows_of (after i (sets_in rows))) (λ n. low (suc n)) x t h k
    ∙ pass_agree is (sets_in (rows_of (after i (sets_in rows)))) (after i (sets_in rows)) (λ n. low (suc n)) (rows_say (after i (sets_in rows))) x t h k

-- the pass goes on behind an instruction
pub pass_on : (i : Instruction) {is js : List Instruction} (rows : List ℕ) {new : List ℕ} → is ≡ i ∷ js → new ≡ rows_after i rows → rows_pass js new ≡ rows_pass is rows
unfolding rows_pass
pass_on i {js = js} rows e f = ap (rows_pass js) f ∙ ap (λ (x : List Instruction). rows_pass x rows) (sym e)

pub pass_over : {is : List Instruction} (rows : List ℕ) → is ≡ [] → rows_pass is rows ≡ rows
unfolding rows_pass
pass_over rows e = ap (λ (x : List Instruction). rows_pass x rows) e

-- at the end the table by the rows is the circuit's
pub start_is : (s : List ℕ) (c : Static) → Valid s c → start_from c.width (rows_pass c.steps no_rows) ≡ start_table c
unfolding start_from start_table
start_is s c v = λ i. record { width = c.width; rows = rows i; lending = 0; taking = 0 }
  where
    is : List Instruction
    is = c.steps

    low : Named is
    low k i e x h = let l = valid_below v k i e x h in omega (arith, v.narrow)

    none : Agree (sets_in no_rows) no_sets
    none x t h k = ap (λ (n : ℕ). bit t n) (get_or-replicate most_wires x 0 0 h) ∙ bit_past 0 t (lit< tt) (omega arith)

    mark : (l t : ℕ) → l < most_wires → t < most_wires → bit t (get_or (rows_pass is no_rows) l 0) ≡ leading_sets is l t
    mark l t h k = rows_pass_lem is no_rows low l t h k ∙ pass_agree is (sets_in no_rows) no_sets low none l t h k

    rows : each most_wires (λ l. pack most_wires (λ t. ltb l c.width && (ltb t c.width && not (bit t (get_or (rows_pass is no_rows) l 0))))) ≡ each most_wires (λ l. pack most_wires ((start_of c).mark l))
    rows =
        each_eq most_wires (λ l. pack most_wires ((start_of c).mark l)) _ (length-each most_wires _)
        (λ l h. get_or-each most_wires _ l h
        ∙ pack_ext most_wires (λ t k. ap (λ (b : Bool). ltb l c.width && (ltb t c.width && not b)) (mark l t h k)))

-- the same of a circuit that the reader accepted
pub start_told : (s : List ℕ) {told : Circuit} → Accepted s told → {table : Table} {rows : List ℕ} → rows ≡ rows_pass (steps_of (read_circuit s)) no_rows
    → table ≡ start_from told.width rows → started s ≡ done table
start_told s {told} a {table} {rows} f e =
    ap table_at_start a.is
    ∙ ap (λ (t : Table). done t)
    (sym (e ∙ ap₂ (λ (w : ℕ) (r : List ℕ). start_from w r) a.width (f ∙ ap (λ (is : List Instruction). rows_pass is no_rows) (ap steps_of a.is))
    ∙ start_is s a.circuit (read_valid s a.is)))
