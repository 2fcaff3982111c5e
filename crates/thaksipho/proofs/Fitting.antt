-- Values and places fit a word: they are below 2 ^ 32, and a refusal's number is not 0, so a word has one meaning. Assumes nothing.
use Prim.Native.Nat.{ℕ, zero, suc, ◌+◌, ◌*◌, ◌%◌, ◌≤◌, ◌<◌}
use mathlib.Core.Bool.{Bool, true, false}
use mathlib.Core.Path.{◌≡◌, refl, sym, ap, subst, ◌∙◌}
use mathlib.Core.List.{List}
use native.Mathlib.Omega.{arith}
use native.Mathlib.Nat.{suc-mul, mod-eq_of_lt}
use lib.ListN.{length}
use lib.Dec.{ltb}
use Rattle.basics.specs.Choice.{pick}
use Rattle.basics.specs.Outcome.{Outcome, done, refused}
use Rattle.writing.specs.Writing.{fitted, sized, Settled}
use Rattle.writing.proofs.Puts.{settled_refused}
use Rattle.circuits.specs.Reading.{Static, summary, read_circuit}
use Rattle.circuits.specs.Validity.{circuit_bytes}
use Rattle.circuits.specs.Rewriting.{again_of, rewritten}
use Rattle.circuits.proofs.Validity.{read_valid}
use Rattle.circuits.proofs.Refusals.{refused_circuit, valid_short}
use Rattle.thaksipho.specs.Words.{places_end, word, circuit_value, Worded}
use Rattle.thaksipho.specs.Tables.{Small}

-- an outcome that fits a word
abbrev pub Fits : Outcome ℕ → Type 0
Fits (done value) = value < places_end
Fits (refused number place) = (1 ≤ number) × (place < places_end)

-- two outcomes that fit and have the same word are the same
pub word_one : (o p : Outcome ℕ) → Fits o → Fits p → word o ≡ word p → o ≡ p
word_one (done v) (done w) f g e = ap (λ (x : ℕ). done x) e
word_one (done v) (refused (suc n) p) f g e = absurd (omega (arith, suc-mul n places_end))
word_one (refused (suc n) p) (done v) f g e = absurd (omega (arith, suc-mul n places_end))
word_one (done v) (refused zero p) f g e = absurd (omega arith)
word_one (refused zero p) (done v) f g e = absurd (omega arith)
word_one (refused m p) (refused n q) f g e =
    let a : m ≡ n = omega arith in
    let b : p ≡ q = omega arith in
    ap (λ (x : ℕ). refused x p) a ∙ ap (refused n) b

-- bytes that are few enough fit, with room or without
pub fitted_fits : (room : ℕ) (bytes : List ℕ) → length bytes < places_end → Fits (sized (fitted room bytes))
unfolding fitted
fitted_fits room bytes h = go (ltb room (length bytes))
  where
    go : (b : Bool) → Fits (sized (pick b (refused 31 (length bytes)) (done bytes)))
    go true = (omega arith, h)
    go false = h

module _ (s : List ℕ) where
  -- what the reader tells fits
  pub read_fits : Fits (circuit_value (summary (read_circuit s)))
  read_fits = go (read_circuit s) refl
    where
      go : (o : Outcome Static) → read_circuit s ≡ o → Fits (circuit_value (summary o))
      go (done c) e = let v = read_valid s e in omega (arith, v.few, v.narrow)
      go (refused n p) e = let r = refused_circuit s e in (r.0.0, omega (arith, r.1))

  -- what is written again fits
  pub rewrite_fits : (room : ℕ) → Fits (sized (rewritten s room))
  unfolding rewritten
  rewrite_fits room = go (read_circuit s) refl
    where
      go : (o : Outcome Static) → read_circuit s ≡ o → Fits (sized (again_of room o))
      go (done c) e =
          let v = read_valid s e in
          fitted_fits room (circuit_bytes c) (omega (arith, valid_short s c v, ap length v.bytes))
      go (refused n p) e = let r = refused_circuit s e in (r.0.0, omega (arith, r.1))

-- what a call told fits, since its outcome does
pub told_fits : {told o : Outcome ℕ} → told ≡ o → Fits o → Fits told
told_fits e f = subst Fits (sym e) f

-- the word of what a writing call told
pub worded : {old : List ℕ} {o : Outcome (List ℕ)} {told : Outcome ℕ} {new : List ℕ} {w : ℕ} → Settled old o told new → w ≡ word told → Worded old o w new
worded s e = record { tells = e ∙ ap word s.tells; leaves = s.leaves }

-- A refusal as a word: its place is below 2 ^ 32, so the remainder is the place

pub kept : (number place : ℕ) → place < places_end → word (refused number (place % places_end)) ≡ word (refused number place)
kept number place h = ap (λ (p : ℕ). number * places_end + p) (mod-eq_of_lt h)

pub refusal_tells : {w number place : ℕ} {o : Outcome ℕ} → w ≡ word (refused number (place % places_end)) → refused number place ≡ o → Fits o → w ≡ word o
refusal_tells {number = number} {place = place} e z f = e ∙ kept number place (told_fits z f).1 ∙ ap word z

pub refusal_worded : {old : List ℕ} {o : Outcome (List ℕ)} {w number place : ℕ} → w ≡ word (refused number (place % places_end)) → o ≡ refused number place
    → place < places_end → Worded old o w old
refusal_worded {number = number} {place = place} e z h = worded (settled_refused z) (e ∙ kept number place h)

pub fits_small : (o : Outcome ℕ) → Fits o → Small o
fits_small (done v) f = tt
fits_small (refused n p) f = f.1
