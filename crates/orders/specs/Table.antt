-- The table: a yes mark for each lender and taker, and the lenders and takers already used; the rule by which an offer changes it; and what
-- its marks are to say. A new table comes from the last table and the offer alone. Definitions alone.
use Rattle.std.specs.Prelude.{ℕ, ◌<◌, ◌≡◌, ◌↔◌, Bool, true, false, not, ◌&&◌, ◌||◌, List, [], ◌∷◌, eqb}
use Rattle.basics.specs.Choice.{pick}
use Rattle.orders.specs.Indices.{In}
use Rattle.orders.specs.Runs.{Circuit, Pair, Runs, Allowed, lenders_of, takers_of}
use Rattle.orders.specs.Graph.{Clear}

-- `mark l t` is true where "l may lend to t" is yes; `lent` and `taken` mark what is used
pub record Table : Type 0 where
  pub mark : ℕ → ℕ → Bool
  pub lent : ℕ → Bool
  pub taken : ℕ → Bool

-- Accepting l to t: where (l, v) and (u, t) are both no, (u, v) becomes no; then row l and column t become no, and both are marked used.
unfoldable pub accept : Pair → Table → Table
accept p T = record {
  mark = λ u v. not (eqb u p.0) && (not (eqb v p.1) && (T.mark u v && (T.mark p.0 v || T.mark u p.1)));
  lent = λ u. eqb u p.0 || T.lent u;
  taken = λ v. eqb v p.1 || T.taken v;
}

-- An offer on a table: it is taken exactly when its mark is yes; refused, it hands the same table back.
unfoldable pub offered : Pair → Table → Table
offered p T = pick (T.mark p.0 p.1) (accept p T) T

-- a table and the pairs accepted so far, the latest first
pub record State : Type 0 where
  pub table : Table
  pub pairs : List Pair

-- a table that has taken no offer yet
abbrev pub fresh : Table → State
fresh T = record { table = T; pairs = [] }

-- the pair is accepted
abbrev pub accepted : Pair → State → State
accepted p s = record { table = accept p s.table; pairs = p ∷ s.pairs }

-- an offer, with the list of what was accepted
unfoldable pub offer : Pair → State → State
offer p s = record { table = offered p s.table; pairs = pick (s.table.mark p.0 p.1) (p ∷ s.pairs) s.pairs }

-- one offer after the other
unfoldable pub offers : List Pair → State → State
offers [] s = s
offers (p ∷ ps) s = offers ps (offer p s)

-- the table at the start: between wires, yes exactly where the taker's reset does not lead to the lender's measurement; no wire is used
pub record Start (C : Circuit) (T : Table) : Type 0 where
  pub marks : (l t : ℕ) → (T.mark l t ≡ true) ↔ ((C.wire l ≡ true) × (C.wire t ≡ true) × Clear C [] l t)
  pub none_lent : (x : ℕ) → C.wire x ≡ true → T.lent x ≡ false
  pub none_taken : (x : ℕ) → C.wire x ≡ true → T.taken x ≡ false

-- nothing speaks against l to t: both are wires, l has not lent, t has not taken, and `May` holds of them
pub record Open (C : Circuit) (T : Table) (May : ℕ → ℕ → Type 0) (l t : ℕ) : Type 0 where
  pub lender : C.wire l ≡ true
  pub taker : C.wire t ≡ true
  pub not_lent : T.lent l ≡ false
  pub not_taken : T.taken t ≡ false
  pub may : May l t

-- The table T says of the pairs ps what `May` says: a mark is yes exactly where nothing speaks against the pair, and no everywhere else.
-- The pairs are allowed, and the used marks of wires are the pairs'.
pub record Says (C : Circuit) (T : Table) (ps : List Pair) (May : ℕ → ℕ → Type 0) : Type 0 where
  pub allowed : Allowed C ps
  pub marks : (l t : ℕ) → (T.mark l t ≡ true) ↔ Open C T May l t
  pub lenders : (x : ℕ) → C.wire x ≡ true → (T.lent x ≡ true) ↔ In x (lenders_of ps)
  pub takers : (x : ℕ) → C.wire x ≡ true → (T.taken x ≡ true) ↔ In x (takers_of ps)

-- Demand 3: yes exactly where the pairs can run with this one added.
abbrev pub Exact : Circuit → Table → List Pair → Type 0
Exact C T ps = Says C T ps (λ l t. Runs C ((l, t) ∷ ps))

-- The same by the graph: yes exactly where the taker's reset does not lead to the lender's measurement.
abbrev pub ExactByReach : Circuit → Table → List Pair → Type 0
ExactByReach C T ps = Says C T ps (Clear C ps)

-- a table grown from a circuit: it is exact for the pairs accepted so far
abbrev pub Grown : Circuit → State → Type 0
Grown C s = Exact C s.table s.pairs

-- a table of width w: yes marks are below it only
abbrev pub Within : ℕ → Table → Type 0
Within w T = (l t : ℕ) → T.mark l t ≡ true → (l < w) × (t < w)
