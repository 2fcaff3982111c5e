-- In a circuit that passes the checks every line named is below the width, each line below it lives from its reset to its measurement, and the
-- bits below it receive one measurement each. By induction over the checks, with the state of one line. Assumes nothing.
use Prim.Native.Nat.{ℕ, zero, suc, ◌≤◌, ◌<◌}
use mathlib.Core.Path.{◌≡◌, refl, sym, ap, subst, ◌∙◌}
use mathlib.Core.Logic.{◌⊎◌, inl, inr, ◌≢◌}
use mathlib.Core.Bool.{true, false, false≢true}
use mathlib.Core.List.{List, [], ◌∷◌}
use mathlib.Core.Option.{some}
use native.Mathlib.Omega.{arith}
use lib.ListN.{length, get_or, set, get_elem?, length-set, get_or-replicate}
use lib.Seq.{get_or-set_same, get_or-set_other}
use borrow.Author.Tests.{eqb-true, eq-eqb}
use Rattle.basics.proofs.Tests.{not_both, true_or_false, refuted, same_or_other}
use Rattle.orders.specs.Indices.{In, Once, Order, stands}
use Rattle.orders.proofs.Indices.{stands_in, in_stands, once_full, order_length}
use Rattle.records.specs.declared.numbers.Line.{Line}
use Rattle.records.specs.declared.numbers.Bit.{Bit}
use Rattle.records.specs.declared.instructions.Instruction.{Instruction}
use Rattle.records.specs.declared.instructions.Instruction.TheVariants.{Reset, Measurement, Gate, AngledGate, TwoLineGate, AngledTwoLineGate}
use Rattle.circuits.specs.Limits.{most_wires}
use Rattle.circuits.specs.Judging.{fresh, in_use, finished, used, fresh_states, line_state, bit_state, advance_of, passed, judge_of}
use Rattle.circuits.specs.Reading.{Static}
use Rattle.circuits.specs.Validity.{Passes, none, also, Valid}
use Rattle.circuits.specs.declared.states.States.{States}
use Rattle.circuits.proofs.Passed.{Live, reset_passed, gate_passed, measurement_passed, two_passed}
use Rattle.circuits.proofs.Unmeasured.{lower_finished}
use Rattle.precedence.specs.Lives.{lines_of, touches, measures, is_gate, Life, over, apart, begins, works, ends, bits_of}

-- ## The lines of an instruction that passed

module _ (width : ℕ) (c : States) where
  -- every line that an instruction names is below the width, and it names none twice
  named_below : (i : Instruction) → judge_of width width c i ≡ passed → (x : ℕ) → In x (lines_of i) → x < width
  named_below (Reset l) e x (inl h) = subst (λ z. z < width) (sym h) (reset_passed width c l e).0
  named_below (Measurement l b) e x (inl h) = subst (λ z. z < width) (sym h) (measurement_passed width c l b e).0.0
  named_below (Gate k l) e x (inl h) = subst (λ z. z < width) (sym h) (gate_passed width c l e).0
  named_below (AngledGate k l a) e x (inl h) = subst (λ z. z < width) (sym h) (gate_passed width c l e).0
  named_below (TwoLineGate k l m) e x (inl h) = subst (λ z. z < width) (sym h) (two_passed width c l m e).0.0
  named_below (TwoLineGate k l m) e x (inr (inl h)) = subst (λ z. z < width) (sym h) (two_passed width c l m e).1.0
  named_below (AngledTwoLineGate k l m a) e x (inl h) = subst (λ z. z < width) (sym h) (two_passed width c l m e).0.0
  named_below (AngledTwoLineGate k l m a) e x (inr (inl h)) = subst (λ z. z < width) (sym h) (two_passed width c l m e).1.0
  named_below (Reset l) e x (inr z) = elim z [ ]
  named_below (Measurement l b) e x (inr z) = elim z [ ]
  named_below (Gate k l) e x (inr z) = elim z [ ]
  named_below (AngledGate k l a) e x (inr z) = elim z [ ]
  named_below (TwoLineGate k l m) e x (inr (inr z)) = elim z [ ]
  named_below (AngledTwoLineGate k l m a) e x (inr (inr z)) = elim z [ ]

  named_once : (i : Instruction) → judge_of width width c i ≡ passed → Once (lines_of i)
  named_once (Reset l) e = (λ h. h, tt)
  named_once (Measurement l b) e = (λ h. h, tt)
  named_once (Gate k l) e = (λ h. h, tt)
  named_once (AngledGate k l a) e = (λ h. h, tt)
  named_once (TwoLineGate k l m) e = (λ h. elim h [ inl z ↦ (two_passed width c l m e).2 z | inr z ↦ z ], (λ h. h, tt))
  named_once (AngledTwoLineGate k l m a) e = (λ h. elim h [ inl z ↦ (two_passed width c l m e).2 z | inr z ↦ z ], (λ h. h, tt))

-- ## The life of one line

module _ (width : ℕ) (narrow : width ≤ most_wires) (x : ℕ) (h : x < width) where
  -- the state of line x
  abbrev state_of : States → ℕ
  state_of c = get_or c.lines x fresh

  -- the states are as many as the most wires, and that of line x is one of the three
  record Stated (c : States) : Type 0 where
    many : length c.lines ≡ most_wires
    three : state_of c ≤ finished

  same_line : (c : States) (l : Line) → x ≡ l.0 → line_state c l ≡ state_of c
  same_line c l e = ap (λ (z : ℕ). get_or c.lines z fresh) (sym e)

  stored : (ls : List ℕ) (y state : ℕ) → length ls ≡ most_wires → x ≡ y → get_or (set ls y state) x fresh ≡ state
  stored ls y state m e = subst (λ z. get_or (set ls z state) x fresh ≡ state) e (get_or-set_same ls x state fresh (omega arith))

  kept : (ls : List ℕ) (y state : ℕ) → x ≢ y → get_or (set ls y state) x fresh ≡ get_or ls x fresh
  kept ls y state d = get_or-set_other ls y x state fresh d

  set_stated : (ls : List ℕ) (y state : ℕ) → length ls ≡ most_wires → get_or ls x fresh ≤ finished → state ≤ finished → get_or (set ls y state) x fresh ≤ finished
  set_stated ls y state m t s = elim (same_or_other x y) [
    | inl e ↦ (let z = stored ls y state m e in omega arith)
    | inr d ↦ (let z = kept ls y state d in omega arith)
  ]

  stated_after : (c : States) (i : Instruction) → Stated c → Stated (advance_of c i)
  stated_after c (Reset l) s = record { many = length-set c.lines l.0 in_use ∙ s.many; three = set_stated c.lines l.0 in_use s.many s.three (omega arith) }
  stated_after c (Measurement l b) s =
      record { many = length-set c.lines l.0 finished ∙ s.many; three = set_stated c.lines l.0 finished s.many s.three (omega arith) }
  stated_after c (Gate k l) s = s
  stated_after c (AngledGate k l a) s = s
  stated_after c (TwoLineGate k l m) s = s
  stated_after c (AngledTwoLineGate k l m a) s = s

  running : (c : States) (l : Line) → Stated c → Live width c l → x ≡ l.0 → state_of c ≡ in_use
  running c l s v e =
      let z = same_line c l e in
      let p : line_state c l ≢ finished = v.1.0 in
      let q : line_state c l ≢ fresh = v.1.1 in
      let t = s.three in
      omega (arith, p, q)

  untouched : (y : ℕ) → x ≢ y → stands x (y ∷ []) ≡ false
  untouched y d = refuted _ (λ t. elim (stands_in x (y ∷ []) t) [ inl e ↦ d e | inr z ↦ z ])

  -- a gate on lines that are in use
  gate_life : (c : States) (i : Instruction) (is : List Instruction) → is_gate i ≡ true → (In x (lines_of i) → state_of c ≡ in_use) → Life x (state_of c) is
      → Life x (state_of c) (i ∷ is)
  gate_life c i is g running r = elim (true_or_false (touches x i)) [
    | inl t ↦ (let e = running (stands_in x (lines_of i) t) in subst (λ n. Life x n (i ∷ is)) (sym e) (works t g (subst (λ n. Life x n is) e r)))
    | inr t ↦ apart t r
  ]

  one_running : (c : States) (l : Line) → Stated c → Live width c l → In x (l.0 ∷ []) → state_of c ≡ in_use
  one_running c l s v (inl e) = running c l s v e
  one_running c l s v (inr z) = elim z [ ]

  two_running : (c : States) (l m : Line) → Stated c → Live width c l → Live width c m → In x (l.0 ∷ m.0 ∷ []) → state_of c ≡ in_use
  two_running c l m s u v (inl e) = running c l s u e
  two_running c l m s u v (inr (inl e)) = running c m s v e
  two_running c l m s u v (inr (inr z)) = elim z [ ]

  -- one instruction before the rest of a life
  life_step : (c : States) (i : Instruction) (is : List Instruction) → judge_of width width c i ≡ passed → Stated c → Life x (state_of (advance_of c i)) is
      → Life x (state_of c) (i ∷ is)
  life_step c (Reset l) is j s r = elim (same_or_other x l.0) [
    | inl e ↦
        let p = reset_passed width c l j in
        let a : line_state c l ≢ finished = p.1 in
        let b : line_state c l ≢ in_use = p.2 in
        let z = same_line c l e in
        let t = s.three in
        let f : state_of c ≡ fresh = omega (arith, a, b) in
        subst (λ n. Life x n (Reset l ∷ is)) (sym f) (begins (eq-eqb x l.0 e) (subst (λ n. Life x n is) (stored c.lines l.0 in_use s.many e) r))
    | inr d ↦ apart (untouched l.0 d) (subst (λ n. Life x n is) (kept c.lines l.0 in_use d) r)
  ]
  life_step c (Measurement l b) is j s r = elim (same_or_other x l.0) [
    | inl e ↦
        let f = running c l s (measurement_passed width c l b j).0 e in
        subst (λ n. Life x n (Measurement l b ∷ is)) (sym f)
        (ends (eq-eqb x l.0 e) (subst (λ n. Life x n is) (stored c.lines l.0 finished s.many e) r))
    | inr d ↦ apart (untouched l.0 d) (subst (λ n. Life x n is) (kept c.lines l.0 finished d) r)
  ]
  life_step c (Gate k l) is j s r = gate_life c (Gate k l) is refl (one_running c l s (gate_passed width c l j)) r
  life_step c (AngledGate k l a) is j s r = gate_life c (AngledGate k l a) is refl (one_running c l s (gate_passed width c l j)) r
  life_step c (TwoLineGate k l m) is j s r =
      let p = two_passed width c l m j in
      gate_life c (TwoLineGate k l m) is refl (two_running c l m s p.0 p.1) r
  life_step c (AngledTwoLineGate k l m a) is j s r =
      let p = two_passed width c l m j in
      gate_life c (AngledTwoLineGate k l m a) is refl (two_running c l m s p.0 p.1) r

  -- from any states on, line x lives to its end
  lives_from : {c : States} {is : List Instruction} → Passes width c is → Stated c → Life x (state_of c) is
  lives_from (none {c} e) s = subst (λ n. Life x n []) (sym (lower_finished width c.lines 0 x (omega arith) (omega arith))) over
  lives_from (also {c} {i} {is} j p) s = life_step c i is j s (lives_from p (stated_after c i s))

  fresh_state : state_of fresh_states ≡ fresh
  fresh_state = get_or-replicate most_wires x fresh fresh (omega arith)

  fresh_stated : Stated fresh_states
  fresh_stated = let e = fresh_state in record { many = refl; three = omega arith }

  -- each line below the width has its reset first and its measurement last, one of each, with gates between
  pub passes_life : {is : List Instruction} → Passes width fresh_states is → Life x fresh is
  passes_life {is} p = subst (λ n. Life x n is) fresh_state (lives_from p fresh_stated)

-- ## Lines and bits

-- every line named is below the width
pub passes_below : {width : ℕ} {c : States} {is : List Instruction} → Passes width c is
    → (k : ℕ) (i : Instruction) → get_elem? is k ≡ some i → (x : ℕ) → In x (lines_of i) → x < width
passes_below (none e) k i z = absurd (let z : ◌≡◌ {A = ℕ} 0 1 = cc in omega arith)
passes_below {width} (also {c} {i} j p) zero a z = let e : i ≡ a = cc in named_below width c a (subst (λ b. judge_of width width c b ≡ passed) e j)
passes_below (also j p) (suc k) a z = passes_below p k a z

-- an instruction names no line twice: the lines of a gate on two are different
pub passes_once : {width : ℕ} {c : States} {is : List Instruction} → Passes width c is
    → (k : ℕ) (i : Instruction) → get_elem? is k ≡ some i → Once (lines_of i)
passes_once (none e) k i z = absurd (let z : ◌≡◌ {A = ℕ} 0 1 = cc in omega arith)
passes_once {width} (also {c} {i} j p) zero a z = let e : i ≡ a = cc in named_once width c a (subst (λ b. judge_of width width c b ≡ passed) e j)
passes_once (also j p) (suc k) a z = passes_once p k a z

module _ (width : ℕ) (narrow : width ≤ most_wires) where
  -- a bit that is still to receive is below the width and not used, and none receives twice
  abbrev Awaited : States → List Instruction → Type 0
  Awaited c is = ((b : ℕ) → In b (bits_of is) → (b < width) × (get_or c.bits b 0 ≢ used)) × Once (bits_of is)

  received : (c : States) (b : Bit) (is : List Instruction) → length c.bits ≡ most_wires → b.0 < width → bit_state c b ≢ used
      → ((a : ℕ) → In a (bits_of is) → (a < width) × (get_or (set c.bits b.0 used) a 0 ≢ used))
      → (a : ℕ) → In a (bits_of is) → (a ≢ b.0) × (get_or c.bits a 0 ≢ used)
  received c b is m l f later a h =
      let n : a ≢ b.0 = λ e. (later a h).1 (subst (λ z. get_or (set c.bits b.0 used) z 0 ≡ used) (sym e) (get_or-set_same c.bits b.0 used 0 (omega arith))) in
      (n, λ e. (later a h).1 (get_or-set_other c.bits b.0 a used 0 n ∙ e))

  awaited : {c : States} {is : List Instruction} → Passes width c is → length c.bits ≡ most_wires → Awaited c is
  awaited (none e) m = (λ b h. absurd h, tt)
  awaited (also {c} {i = Measurement l b} {is} j p) m =
      let q = measurement_passed width c l b j in
      let r = awaited p (length-set c.bits b.0 used ∙ m) in
      let g = received c b is m q.1 q.2 r.0 in (
        λ a h. elim h [ inl e ↦ (subst (λ z. z < width) (sym e) q.1, subst (λ z. get_or c.bits z 0 ≢ used) (sym e) q.2) | inr t ↦ ((r.0 a t).0, (g a t).1) ],
        (λ h. (g b.0 h).0 refl, r.1),
      )
  awaited (also {c} {i = Reset l} j p) m = awaited p m
  awaited (also {c} {i = Gate k l} j p) m = awaited p m
  awaited (also {c} {i = AngledGate k l a} j p) m = awaited p m
  awaited (also {c} {i = TwoLineGate k l n} j p) m = awaited p m
  awaited (also {c} {i = AngledTwoLineGate k l n a} j p) m = awaited p m

-- the lines that are measured, in order
abbrev measured_of : List Instruction → List ℕ
measured_of [] = []
measured_of (Measurement l b ∷ is) = l.0 ∷ measured_of is
measured_of (Reset l ∷ is) = measured_of is
measured_of (Gate k l ∷ is) = measured_of is
measured_of (AngledGate k l a ∷ is) = measured_of is
measured_of (TwoLineGate k l m ∷ is) = measured_of is
measured_of (AngledTwoLineGate k l m a ∷ is) = measured_of is

same_count : (is : List Instruction) → length (measured_of is) ≡ length (bits_of is)
same_count [] = refl
same_count (Measurement l b ∷ is) = ap suc (same_count is)
same_count (Reset l ∷ is) = same_count is
same_count (Gate k l ∷ is) = same_count is
same_count (AngledGate k l a ∷ is) = same_count is
same_count (TwoLineGate k l m ∷ is) = same_count is
same_count (AngledTwoLineGate k l m a ∷ is) = same_count is

module _ (x : ℕ) where
  measured_now : (i : Instruction) (is : List Instruction) → measures x i ≡ true → In x (measured_of (i ∷ is))
  measured_now (Measurement l b) is h = inl (eqb-true x l.0 h)
  measured_now (Reset l) is h = absurd (false≢true h)
  measured_now (Gate k l) is h = absurd (false≢true h)
  measured_now (AngledGate k l a) is h = absurd (false≢true h)
  measured_now (TwoLineGate k l m) is h = absurd (false≢true h)
  measured_now (AngledTwoLineGate k l m a) is h = absurd (false≢true h)

  measured_later : (i : Instruction) (is : List Instruction) → In x (measured_of is) → In x (measured_of (i ∷ is))
  measured_later (Measurement l b) is h = inr h
  measured_later (Reset l) is h = h
  measured_later (Gate k l) is h = h
  measured_later (AngledGate k l a) is h = h
  measured_later (TwoLineGate k l m) is h = h
  measured_later (AngledTwoLineGate k l m a) is h = h

  measured_cases : (i : Instruction) (is : List Instruction) → In x (measured_of (i ∷ is)) → In x (lines_of i) ⊎ In x (measured_of is)
  measured_cases (Measurement l b) is (inl e) = inl (inl e)
  measured_cases (Measurement l b) is (inr h) = inr h
  measured_cases (Reset l) is h = inr h
  measured_cases (Gate k l) is h = inr h
  measured_cases (AngledGate k l a) is h = inr h
  measured_cases (TwoLineGate k l m) is h = inr h
  measured_cases (AngledTwoLineGate k l m a) is h = inr h

  -- a line that is not finished will be measured
  life_measured : {n : ℕ} {is : List Instruction} → Life x n is → n ≤ in_use → In x (measured_of is)
  life_measured over h = absurd (omega arith)
  life_measured (apart {i = i} {is = is} t r) h = measured_later i is (life_measured r h)
  life_measured (begins {i} {is} t r) h = measured_later i is (life_measured r (omega arith))
  life_measured (works {i} {is} t g r) h = measured_later i is (life_measured r h)
  life_measured (ends {i} {is} t r) h = measured_now i is t

  -- and one that is finished will not
  life_finished : {n : ℕ} {is : List Instruction} → Life x n is → n ≡ finished → ¬ In x (measured_of is)
  life_finished over e h = h
  life_finished (apart {i = i} {is = is} t r) e h = elim (measured_cases i is h) [
    | inl g ↦ not_both (touches x i) (in_stands x (lines_of i) g) t
    | inr g ↦ life_finished r e g
  ]
  life_finished (begins t r) e h = omega arith
  life_finished (works t g r) e h = omega arith
  life_finished (ends t r) e h = omega arith

module _ (width : ℕ) (narrow : width ≤ most_wires) where
  abbrev AllStated : States → Type 0
  AllStated c = (x : ℕ) (h : x < width) → Stated width narrow x h c

  measured_once : {c : States} {is : List Instruction} → Passes width c is → AllStated c → Once (measured_of is)
  measured_once (none e) s = tt
  measured_once (also {c} {i = Measurement l b} {is} j p) s =
      let h = (measurement_passed width c l b j).0.0 in
      let r = lives_from width narrow l.0 h p (stated_after width narrow l.0 h c (Measurement l b) (s l.0 h)) in
      let z = stored width narrow l.0 h c.lines l.0 finished (s l.0 h).many refl in
      (life_finished l.0 r z, measured_once p (λ x h. stated_after width narrow x h c (Measurement l b) (s x h)))
  measured_once (also {c} {i = Reset l} j p) s = measured_once p (λ x h. stated_after width narrow x h c (Reset l) (s x h))
  measured_once (also {c} {i = Gate k l} j p) s = measured_once p s
  measured_once (also {c} {i = AngledGate k l a} j p) s = measured_once p s
  measured_once (also {c} {i = TwoLineGate k l m} j p) s = measured_once p s
  measured_once (also {c} {i = AngledTwoLineGate k l m a} j p) s = measured_once p s

  measured_below : {c : States} {is : List Instruction} → Passes width c is → (x : ℕ) → In x (measured_of is) → x < width
  measured_below (none e) x h = absurd h
  measured_below (also {c} {i} {is} j p) x h = elim (measured_cases x i is h) [ inl g ↦ named_below width c i j x g | inr g ↦ measured_below p x g ]

  module _ {is : List Instruction} (p : Passes width fresh_states is) where
    -- one measurement for each line below the width
    measured_order : Order width (measured_of is)
    measured_order = record {
      all = λ x h. life_measured x (passes_life width narrow x h p) (omega arith);
      only = measured_below p;
      once = measured_once p (λ x h. fresh_stated width narrow x h);
    }

    -- so as many bits receive one as there are wires
    pub passes_count : length (bits_of is) ≡ width
    passes_count = sym (same_count is) ∙ order_length width (measured_of is) measured_order

    -- each bit below the width receives one measurement, and no other bit does
    pub passes_bits : Order width (bits_of is)
    passes_bits =
        let a = awaited width narrow p refl in
        record {
          all = once_full width (bits_of is) a.1 (λ b h. (a.0 b h).0) passes_count;
          only = λ b h. (a.0 b h).0;
          once = a.1;
        }

-- ## Of a valid circuit

module _ {s : List ℕ} {c : Static} (v : Valid s c) where
  pub valid_life : (x : ℕ) → x < c.width → Life x fresh c.steps
  valid_life x h = passes_life c.width v.narrow x h v.passes

  pub valid_below : (k : ℕ) (i : Instruction) → get_elem? c.steps k ≡ some i → (x : ℕ) → In x (lines_of i) → x < c.width
  valid_below = passes_below v.passes

  pub valid_once : (k : ℕ) (i : Instruction) → get_elem? c.steps k ≡ some i → Once (lines_of i)
  valid_once = passes_once v.passes

  pub valid_bits : Order c.width (bits_of c.steps)
  valid_bits = passes_bits c.width v.narrow v.passes
