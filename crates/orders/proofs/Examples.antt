-- The circuits A, B and P11 of document 01 as precedences, at which each theorem says something: what runs and what does not, the marks after
-- offers, the order of writing, its swaps, and a chooser's list. Assumes nothing.
use Prim.Native.Nat.{ℕ, ◌+◌, ◌-◌, ◌≤◌, ◌<◌}
use mathlib.Core.Path.{◌≡◌, refl, sym, ◌∙◌, ap, subst}
use mathlib.Core.Logic.{◌⊎◌, inl, inr}
use mathlib.Core.Bool.{Bool, true, false, ◌&&◌}
use mathlib.Core.Option.{Option, none, some}
use mathlib.Core.List.{List, [], ◌∷◌}
use native.Mathlib.Omega.{arith}
use lib.ListN.{length, get_or}
use lib.Dec.{ltb}
use borrow.Author.Tests.{ltb-true, ltb-false, lt-ltb, le-ltb}
use Rattle.basics.specs.Choice.{pick}
use Rattle.basics.proofs.Tests.{true_or_false, not_both, refuted, both, and_intro, below_or_not}
use Rattle.orders.specs.Indices.{any, every, stands, from, input_order}
use Rattle.orders.specs.Runs.{Circuit, Lawful, Pair, Run, Runs, BetweenWires, Allowed, SamePairs}
use Rattle.orders.specs.Graph.{lends, arrow, here, step, Reach, Cycle, Acyclic}
use Rattle.orders.specs.Table.{Table, State, Exact, ExactByReach, Within, accept, accepted, fresh, offered, offer, offers}
use Rattle.orders.specs.Schedule.{earlier_written, lender_written, ready, least, next, write_on, schedule, complete, start_table}
use Rattle.orders.specs.Swaps.{neighbours, Reached, same, swap, effect}
use Rattle.orders.specs.Rounds.{Chooser, Chooses, rounds, NoneLeft, Maximal, total, row_count, yes_count}
use Rattle.orders.proofs.Indices.{any_in, every_at, stands_in, in_stands}
use Rattle.orders.proofs.Runs.{runs_exactly_acyclic, runs_added, runs_dropped, runs_same}
use Rattle.orders.proofs.Table.{demand_three, demand_three_by_reach, exact_loop}
use Rattle.orders.proofs.Least.{least_hit, least_miss}
use Rattle.orders.proofs.Schedule.{schedule_runs, schedule_complete, complete_exactly, schedule_none, schedule_same, start_table_lem}
use Rattle.orders.proofs.Swaps.{swaps_exactly, run_reached, effect-kept}
use Rattle.orders.proofs.Pairs.{allowed_few}
use Rattle.orders.proofs.Rounds.{rounds_end, rounds_start}

-- ## Circuits as the worked ones are laid out: a reset of each wire in turn, gates on two wires, a measurement of each wire in turn

-- the wires of instruction i
wires_of : ℕ → List Pair → ℕ → List ℕ
wires_of w gates i =
    pick (ltb i w)
    (i ∷ [])
    (pick (ltb i (w + length gates))
    ((get_or gates (i - w) (0, 0)).0 ∷ (get_or gates (i - w) (0, 0)).1 ∷ [])
    ((i - (w + length gates)) ∷ []))

worked : ℕ → List Pair → Circuit
worked w gates = record {
  size = w + length gates + w;
  width = w;
  prec = λ i j. ltb i j && (ltb j (w + length gates + w) && any (λ x. stands x (wires_of w gates j)) (wires_of w gates i));
  wire = λ x. ltb x w;
  reset_of = λ x. x;
  meas_of = λ x. w + length gates + x;
}

wires_reset : (w : ℕ) (gates : List Pair) (x : ℕ) → x < w → wires_of w gates x ≡ x ∷ []
unfolding wires_of
wires_reset w gates x l = rw (lt-ltb x w l)

wires_measured : (w : ℕ) (gates : List Pair) (x : ℕ) → x < w → wires_of w gates (w + length gates + x) ≡ x ∷ []
unfolding wires_of
wires_measured w gates x l =
    let e : (w + length gates + x) - (w + length gates) ≡ x = omega arith in
    rw (le-ltb (w + length gates + x) w (omega arith), le-ltb (w + length gates + x) (w + length gates) (omega arith), e)

worked_lawful : (w : ℕ) (gates : List Pair) → Lawful (worked w gates)
unfolding worked
worked_lawful w gates = record {
  upward = λ i j h. ltb-true i j (both (ltb i j) _ h).0;
  inside = λ i j h. ltb-true j (w + length gates + w) (both (ltb j (w + length gates + w)) _ (both (ltb i j) _ h).1).0;
  low = λ x h. ltb-true x w h;
  reset_in = λ x h. let l = ltb-true x w h in omega arith;
  meas_in = λ x h. let l = ltb-true x w h in omega arith;
  spans = λ x h.
      let l = ltb-true x w h in
      and_intro _ _ (lt-ltb x (w + length gates + x) (omega arith))
      (and_intro _ _ (lt-ltb (w + length gates + x) (w + length gates + w) (omega arith))
      (any_in _ x (wires_of w gates x) (rw (wires_reset w gates x l) (inl refl))
      (in_stands x _ (rw (wires_measured w gates x l) (inl refl)))));
}

A : Circuit
A = worked 3 ((0, 1) ∷ (1, 2) ∷ [])

B : Circuit
B = worked 3 []

P11 : Circuit
P11 = worked 4 ((0, 1) ∷ (2, 3) ∷ [])

lawful_A : Lawful A
unfolding A
lawful_A = worked_lawful 3 ((0, 1) ∷ (1, 2) ∷ [])

lawful_B : Lawful B
unfolding B
lawful_B = worked_lawful 3 []

lawful_P11 : Lawful P11
unfolding P11
lawful_P11 = worked_lawful 4 ((0, 1) ∷ (2, 3) ∷ [])

-- pairs of wires, by a test
paired : Circuit → List Pair → Bool
paired C ps = every (λ (p : Pair). C.wire p.0 && C.wire p.1) ps

between : (C : Circuit) (ps : List Pair) → paired C ps ≡ true → BetweenWires C ps
unfolding paired
between C ps h l t k = both (C.wire l) (C.wire t) (every_at (λ (p : Pair). C.wire p.0 && C.wire p.1) ps h (l, t) k)

-- ## The order of writing

-- P1: the order of A with 0 to 2
order_A : schedule A ((0, 2) ∷ []) ≡ 0 ∷ 1 ∷ 3 ∷ 5 ∷ 2 ∷ 4 ∷ 6 ∷ 7 ∷ []
unfolding schedule write_on next least ready earlier_written lender_written every stands any from A worked wires_of
order_A = refl

-- P3: the order of B with 0 to 1, 1 to 2, and with the pairs exchanged
order_B : schedule B ((0, 1) ∷ (1, 2) ∷ []) ≡ 0 ∷ 3 ∷ 1 ∷ 4 ∷ 2 ∷ 5 ∷ []
unfolding schedule write_on next least ready earlier_written lender_written every stands any from B worked wires_of
order_B = refl

exchanged : SamePairs ((1, 2) ∷ (0, 1) ∷ []) ((0, 1) ∷ (1, 2) ∷ [])
exchanged l t = (turned, turned)
  where
    turned : {p q : Pair} → ((l, t) ≡ p) ⊎ ((l, t) ≡ q) ⊎ ⊥ → ((l, t) ≡ q) ⊎ ((l, t) ≡ p) ⊎ ⊥
    turned (inl e) = inr (inl e)
    turned (inr (inl e)) = inl e
    turned (inr (inr e)) = absurd e

order_B_exchanged : schedule B ((1, 2) ∷ (0, 1) ∷ []) ≡ 0 ∷ 3 ∷ 1 ∷ 4 ∷ 2 ∷ 5 ∷ []
order_B_exchanged = schedule_same B ((1, 2) ∷ (0, 1) ∷ []) ((0, 1) ∷ (1, 2) ∷ []) exchanged ∙ order_B

-- with no pairs nothing moves
order_P11 : schedule P11 [] ≡ input_order 10
unfolding P11 worked
order_P11 = schedule_none P11 lawful_P11

-- ## What runs, and what does not

runs_A : Runs A ((0, 2) ∷ [])
unfolding A worked paired every
runs_A = (schedule_complete A lawful_A ((0, 2) ∷ []) (between A ((0, 2) ∷ []) refl)).0 (ap length order_A)

acyclic_A : Acyclic A ((0, 2) ∷ [])
unfolding A worked paired every
acyclic_A = (runs_exactly_acyclic A lawful_A ((0, 2) ∷ []) (between A ((0, 2) ∷ []) refl)).0 runs_A

-- P2: with 1 to 2, from 1's measurement to 2's reset, to the gate of both, and back
cycle_A : Cycle A ((1, 2) ∷ [])
unfolding arrow lends any stands A worked wires_of
cycle_A = (6, 2, refl, step {j = 4} refl (step {j = 6} refl (here refl)))

loop_A : ¬ Runs A ((1, 2) ∷ [])
unfolding A worked paired every
loop_A r = (runs_exactly_acyclic A lawful_A ((1, 2) ∷ []) (between A ((1, 2) ∷ []) refl)).0 r cycle_A

-- P3, with a pair dropped and with the pairs exchanged
runs_B : Runs B ((0, 1) ∷ (1, 2) ∷ [])
unfolding B worked paired every
runs_B = (schedule_complete B lawful_B ((0, 1) ∷ (1, 2) ∷ []) (between B ((0, 1) ∷ (1, 2) ∷ []) refl)).0 (ap length order_B)

dropped_B : Runs B ((1, 2) ∷ [])
dropped_B = runs_dropped B (0, 1) ((1, 2) ∷ []) runs_B

exchanged_B : Runs B ((1, 2) ∷ (0, 1) ∷ [])
exchanged_B = (runs_same B ((1, 2) ∷ (0, 1) ∷ []) ((0, 1) ∷ (1, 2) ∷ []) exchanged).1 runs_B

-- P4: 2 to 0 closes a loop, for 0's reset leads to 2's measurement
leads_B : Reach B ((0, 1) ∷ (1, 2) ∷ []) 0 5
unfolding arrow lends any stands B worked wires_of
leads_B = step {j = 3} refl (step {j = 1} refl (step {j = 4} refl (step {j = 2} refl (step {j = 5} refl (here refl)))))

loop_B : ¬ Runs B ((2, 0) ∷ (0, 1) ∷ (1, 2) ∷ [])
unfolding B worked
loop_B r = (runs_added B lawful_B 2 0 ((0, 1) ∷ (1, 2) ∷ []) refl refl runs_B).0 r leads_B

-- ## The table

-- P11: 3 to 1 is yes at the start, and no once 0 to 2 is accepted
start_P11 : (start_table P11).mark 3 1 ≡ true
unfolding start_table complete schedule write_on next least ready earlier_written lender_written every stands any from P11 worked wires_of
start_P11 = refl

after_P11 : offers ((0, 2) ∷ []) (fresh (start_table P11)) ≡ accepted (0, 2) (fresh (start_table P11))
unfolding offers offer offered start_table complete schedule write_on next least ready earlier_written lender_written every stands any from P11 worked wires_of
after_P11 = refl

no_P11 : (accept (0, 2) (start_table P11)).mark 3 1 ≡ false
unfolding accept start_table complete schedule write_on next least ready earlier_written lender_written every stands any from P11 worked wires_of
no_P11 = refl

exact_P11 : Exact P11 (accept (0, 2) (start_table P11)) ((0, 2) ∷ [])
exact_P11 = subst (λ (s : State). Exact P11 s.table s.pairs) after_P11
    (demand_three P11 lawful_P11 (start_table P11) (start_table_lem P11 lawful_P11) ((0, 2) ∷ []))

-- so the two cannot run together
loop_P11 : ¬ Runs P11 ((3, 1) ∷ (0, 2) ∷ [])
unfolding accept start_table P11 worked
loop_P11 = (exact_loop P11 lawful_P11 (accept (0, 2) (start_table P11)) ((0, 2) ∷ []) exact_P11 3 1 refl refl refl refl).0 no_P11

-- though each alone can
alone_P11 : Runs P11 ((3, 1) ∷ [])
unfolding complete schedule write_on next least ready earlier_written lender_written stands any from P11 worked wires_of paired every
alone_P11 = (complete_exactly P11 lawful_P11 ((3, 1) ∷ []) (between P11 ((3, 1) ∷ []) refl)).0 refl

-- of any numbers that are offered, those that can be are taken
some_offers : List Pair
some_offers = (9, 1) ∷ (2, 2) ∷ (0, 2) ∷ (3, 1) ∷ (0, 3) ∷ (1, 2) ∷ (1, 3) ∷ []

taken_P11 : (offers some_offers (fresh (start_table P11))).pairs ≡ (1, 3) ∷ (0, 2) ∷ []
unfolding some_offers offers offer offered accept start_table complete schedule write_on next least ready earlier_written lender_written every stands any from P11 worked wires_of
taken_P11 = refl

-- and the marks are right, by the graph too
offered_P11 : ExactByReach P11 (offers some_offers (fresh (start_table P11))).table (offers some_offers (fresh (start_table P11))).pairs
offered_P11 = demand_three_by_reach P11 lawful_P11 (start_table P11) (start_table_lem P11 lawful_P11) some_offers

-- ## Swaps

-- what is written for P1 is reached from A by swaps
swapped_A : Reached A (input_order 8) (0 ∷ 1 ∷ 3 ∷ 5 ∷ 2 ∷ 4 ∷ 6 ∷ 7 ∷ [])
unfolding A worked
swapped_A = subst (Reached A (input_order 8)) order_A (run_reached A lawful_A ((0, 2) ∷ []) (schedule A ((0, 2) ∷ [])) (schedule_runs A lawful_A ((0, 2) ∷ []) runs_A))

-- B's first two resets need not keep their order: exchanged, they leave an order that keeps the precedence
run_B : Run B [] (1 ∷ 0 ∷ 2 ∷ 3 ∷ 4 ∷ 5 ∷ [])
unfolding from B worked wires_of stands any
run_B = (swaps_exactly B lawful_B (1 ∷ 0 ∷ 2 ∷ 3 ∷ 4 ∷ 5 ∷ [])).1 (swap (neighbours refl refl) same)

-- An effect: the instructions of wire x are noted down. Two that need not keep their order are not both on it, or are the same.
module _ (w : ℕ) (gates : List Pair) (x : ℕ) where
  on : ℕ → Bool
  on i = ltb i (w + length gates + w) && stands x (wires_of w gates i)

  note : ℕ → List ℕ → List ℕ
  note i xs = pick (on i) (i ∷ xs) xs

  on-prec : (i j : ℕ) → on i ≡ true → on j ≡ true → i < j → (worked w gates).prec i j ≡ true
  unfolding on worked
  on-prec i j a b l =
      let p = both (ltb i (w + length gates + w)) _ a in
      let q = both (ltb j (w + length gates + w)) _ b in
      and_intro _ _ (lt-ltb i j l) (and_intro _ _ q.0 (any_in _ x (wires_of w gates i) (stands_in x _ p.1) q.1))

  note_off : (i : ℕ) (s : List ℕ) → on i ≡ false → note i s ≡ s
  unfolding note
  note_off i s n = rw n

  notes_commute : (i j : ℕ) → (worked w gates).prec i j ≡ false → (worked w gates).prec j i ≡ false
      → (s : List ℕ) → note j (note i s) ≡ note i (note j s)
  notes_commute i j e f s = elim (true_or_false (on i)) [
    | inr n ↦ ap (note j) (note_off i s n) ∙ sym (note_off i (note j s) n)
    | inl a ↦ elim (true_or_false (on j)) [
      | inr n ↦ note_off j (note i s) n ∙ ap (note i) (sym (note_off j s n))
      | inl b ↦ elim (below_or_not i j) [
        | inl l ↦ absurd (not_both _ (on-prec i j a b l) e)
        | inr m ↦ elim (below_or_not j i) [
          | inl l ↦ absurd (not_both _ (on-prec j i b a l) f)
          | inr k ↦ (let q : i ≡ j = omega arith in subst (λ z. note z (note i s) ≡ note i (note z s)) q refl)
        ]
      ]
    ]
  ]

-- what P1 writes has wire 1's instructions as A has them: its reset, the two gates, its measurement
story_A : effect (note 3 ((0, 1) ∷ (1, 2) ∷ []) 1) (0 ∷ 1 ∷ 3 ∷ 5 ∷ 2 ∷ 4 ∷ 6 ∷ 7 ∷ []) [] ≡ 6 ∷ 4 ∷ 3 ∷ 1 ∷ []
unfolding A worked effect note on stands any wires_of from
story_A = ap (λ σ. effect (note 3 ((0, 1) ∷ (1, 2) ∷ []) 1) σ []) (sym order_A)
    ∙ sym (effect-kept A lawful_A (note 3 ((0, 1) ∷ (1, 2) ∷ []) 1) (notes_commute 3 ((0, 1) ∷ (1, 2) ∷ []) 1)
    ((0, 2) ∷ []) (schedule A ((0, 2) ∷ [])) (schedule_runs A lawful_A ((0, 2) ∷ []) runs_A) [])

-- ## A chooser: the first yes, by lender, then by taker

taker_of : ℕ → Table → ℕ → ℕ
taker_of w T l = least (T.mark l) w 0

lender_of : ℕ → Table → ℕ
lender_of w T = least (λ l. ltb (taker_of w T l) w) w 0

first_yes : ℕ → Chooser
first_yes w T = elim (ltb (lender_of w T) w) [ true ↦ some (lender_of w T, taker_of w T (lender_of w T)) | false ↦ none ]

first_yes_lem : (w : ℕ) → Chooses w (first_yes w)
unfolding first_yes taker_of lender_of
first_yes_lem w = record { only_yes = λ T h l t e. found T l t _ refl e; none_left = λ T h e l t. nothing T h l t _ refl e }
  where
    -- whether lender l has a yes in its row
    row : Table → ℕ → Bool
    row T l = ltb (taker_of w T l) w

    found : (T : Table) (l t : ℕ) (b : Bool) → ltb (lender_of w T) w ≡ b
        → ◌≡◌ {A = Option Pair} (elim b [ true ↦ some (lender_of w T, taker_of w T (lender_of w T)) | false ↦ none ]) (some (l, t)) → T.mark l t ≡ true
    found T l t true e q =
        let p : ◌≡◌ {A = Pair} (lender_of w T, taker_of w T (lender_of w T)) (l, t) = cc in
        let r : row T (lender_of w T) ≡ true = least_hit (row T) w 0 (omega (arith, ltb-true (lender_of w T) w e)) in
        subst (λ (p : Pair). T.mark p.0 p.1 ≡ true) p
        (least_hit (T.mark (lender_of w T)) w 0 (omega (arith, ltb-true (taker_of w T (lender_of w T)) w r)))
    found T l t false e q = let z : ◌≡◌ {A = ℕ} 0 1 = cc in absurd (omega arith)

    nothing : (T : Table) → Within w T → (l t : ℕ) (b : Bool) → ltb (lender_of w T) w ≡ b
        → ◌≡◌ {A = Option Pair} (elim b [ true ↦ some (lender_of w T, taker_of w T (lender_of w T)) | false ↦ none ]) none → T.mark l t ≡ false
    nothing T h l t true e q = let z : ◌≡◌ {A = ℕ} 0 1 = cc in absurd (omega arith)
    nothing T h l t false e q = refuted (T.mark l t) (λ m.
        let b = h l t m in
        let r : row T l ≡ false = least_miss (row T) w 0 l (omega arith) (omega (arith, ltb-false (lender_of w T) w e)) in
        not_both (T.mark l t) m (least_miss (T.mark l) w 0 t (omega arith) (omega (arith, ltb-false (taker_of w T l) w r))))

-- P5's list: 0 to 1, then 1 to 2 (the latest stands first)
chosen_B : (rounds (first_yes 3) 2 (fresh (start_table B))).pairs ≡ (1, 2) ∷ (0, 1) ∷ []
unfolding rounds first_yes lender_of taker_of offer offered accept start_table complete schedule write_on next least ready earlier_written lender_written every stands any from B worked wires_of
chosen_B = refl

-- no pair can be added to it
maximal_B : Maximal B ((1, 2) ∷ (0, 1) ∷ [])
unfolding B worked
maximal_B = subst (Maximal B) chosen_B (rounds_start B lawful_B (first_yes 3) (first_yes_lem 3) (start_table B) (start_table_lem B lawful_B)).maximal

-- and no list for B is longer
few_B : (ps : List Pair) → Allowed B ps → length ps ≤ 2
unfolding B worked
few_B ps a = allowed_few B lawful_B ps a

-- On a table made by hand, of all yes below 2, four rounds leave no yes.
by_hand : Table
by_hand = record { mark = λ l t. ltb l 2 && ltb t 2; lent = λ x. false; taken = λ x. false }

count_by_hand : yes_count 2 by_hand ≡ 4
unfolding yes_count row_count total from by_hand
count_by_hand = refl

ends_by_hand : NoneLeft (rounds (first_yes 2) 4 (fresh by_hand)).table
unfolding by_hand
ends_by_hand = rounds_end 2 (first_yes 2) (first_yes_lem 2) (fresh by_hand)
    (λ l t m. let b = both (ltb l 2) (ltb t 2) m in (ltb-true l 2 b.0, ltb-true t 2 b.1)) 4 (omega (arith, count_by_hand))
