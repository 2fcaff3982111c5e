-- Laws of `put`: one after the other, a single store, and the whole from the start. Assumes nothing.
use mathlib.Core.Bool.{Bool, true, false}
use mathlib.Core.Path.{◌≡◌, refl, sym, ap, subst, ◌∙◌}
use mathlib.Core.List.{List, [], ◌∷◌, ◌++◌, append_assoc, append-nil}
use mathlib.Core.Logic.{⊎_elim}
use Prim.Native.Nat.{ℕ, ◌+◌, ◌≤◌, ◌<◌}
use native.Mathlib.Omega.{arith}
use native.Mathlib.Numerals.{add-one}
use lib.ListN.{length, take, drop, set, length-append, length-take, length-drop, take-append-drop, drop_of_length-le}
use lib.Seq.{set_split, take_at, drop_at, drop-drop, length-take-le}
use borrow.Author.Tests.{le-leb, lt-leb, le-ltb, lt-ltb, leb-true}
use Rattle.basics.specs.Choice.{pick}
use Rattle.basics.specs.Outcome.{Outcome, done, refused}
use Rattle.writing.specs.Writing.{put, fits, Wrote, Placed, Settled, fitted, sized, holding}
use Rattle.basics.proofs.Tests.{below_or_not}

pub put_none : (old : List ℕ) (at : ℕ) → put old at [] ≡ old
unfolding put
put_none old at = let e : at + 0 ≡ at = omega arith in rw e (take-append-drop at old)

pub length-put : (old : List ℕ) (at : ℕ) (xs : List ℕ) → at + length xs ≤ length old → length (put old at xs) ≡ length old
unfolding put
length-put old at xs l = simp (length-append, length-take, length-drop) (omega arith)

-- one after the other
pub put-put : (old : List ℕ) (at : ℕ) (xs ys : List ℕ) → at ≤ length old
    → put (put old at xs) (at + length xs) ys ≡ put old at (xs ++ ys)
unfolding put
put-put old at xs ys l =
    ap (λ (z : List ℕ). take m z ++ (ys ++ drop (m + length ys) z)) (sym (append_assoc (take at old) xs r))
    ∙ ap (λ (z : List ℕ). z ++ (ys ++ drop (m + length ys) (p ++ r))) (take_at p r m size)
    ∙ ap (λ (z : List ℕ). p ++ (ys ++ z))
    (sym (drop-drop (length ys) m (p ++ r)) ∙ ap (drop (length ys)) (drop_at p r m size) ∙ drop-drop (length ys) m old)
    ∙ append_assoc (take at old) xs (ys ++ drop (m + length ys) old)
    ∙ ap (λ (z : List ℕ). take at old ++ z) (sym (append_assoc xs ys (drop (m + length ys) old)))
    ∙ ap (λ (z : ℕ). take at old ++ (xs ++ ys ++ drop z old)) sum
  where
    m : ℕ
    m = at + length xs

    p : List ℕ
    p = take at old ++ xs

    r : List ℕ
    r = drop m old

    size : length p ≡ m
    size = length-append (take at old) xs ∙ ap (λ (z : ℕ). z + length xs) (length-take-le at old l)

    sum : m + length ys ≡ at + length (xs ++ ys)
    sum = omega (arith, length-append xs ys)

-- a single store
put-set : (old : List ℕ) (at x : ℕ) → at < length old → set old at x ≡ put old at (x ∷ [])
unfolding put
put-set old at x l = rw add-one (set_split old at x l)

-- a single store, and what is put after it
pub put_store : (out : List ℕ) (at x : ℕ) (rest : List ℕ) → at < length out → put (set out at x) (at + 1) rest ≡ put out at (x ∷ rest)
put_store out at x rest l =
    ap (λ (z : List ℕ). put z (at + 1) rest) (put-set out at x l) ∙ put-put out at (x ∷ []) rest (omega arith)

-- from the start: the bytes, and the rest of the buffer
pub put_start : (old xs : List ℕ) → put old 0 xs ≡ xs ++ drop (length xs) old
unfolding put
put_start old xs = let e : 0 + length xs ≡ length xs = omega arith in rw e refl

-- a buffer that is written whole
pub put_whole : (old xs : List ℕ) → length old ≡ length xs → put old 0 xs ≡ xs
put_whole old xs e = put_start old xs ∙ ap (λ (z : List ℕ). xs ++ z) (drop_of_length-le old {i = length xs} (omega arith)) ∙ append-nil xs

-- one written after the other is both written
pub wrote_on : {old : List ℕ} {at : ℕ} {xs mid : List ℕ} {seam : ℕ} {ys new : List ℕ} {to : ℕ} → at ≤ length old → Wrote old at xs mid seam
    → Wrote mid seam ys new to → Wrote old at (xs ++ ys) new to
wrote_on {old} {at} {xs} {mid} {seam} {ys} {new} {to} l v w = record {
  holds = w.holds ∙ rw (v.holds, v.end) (put-put old at xs ys l);
  end = omega (arith, v.end, w.end, length-append xs ys);
}

-- where there is room, what was placed was written
module _ {old : List ℕ} {at : ℕ} {xs new : List ℕ} {to : ℕ} where
  pub placed_wrote : Placed old at xs new to → at + length xs ≤ length old → Wrote old at xs new to
  placed_wrote p l = record {
    holds = rw (le-leb (at + length xs) (length old) l) at p.holds;
    end = rw (le-leb (at + length xs) (length old) l) at p.end;
  }

  pub wrote_placed : Wrote old at xs new to → at + length xs ≤ length old → Placed old at xs new to
  wrote_placed w l = record {
    holds = rw (le-leb (at + length xs) (length old) l) w.holds;
    end = rw (le-leb (at + length xs) (length old) l) w.end;
  }

-- where there is not, nothing is stored and the place stays
pub no_room : {old : List ℕ} {at : ℕ} {xs : List ℕ} → length old < at + length xs → Placed old at xs old at
no_room {old} {at} {xs} l = record {
  holds = rw (lt-leb (at + length xs) (length old) l);
  end = rw (lt-leb (at + length xs) (length old) l);
}

-- a call that is refused, and one that wrote its bytes from the start
pub settled_refused : {old : List ℕ} {o : Outcome (List ℕ)} {n p : ℕ} → o ≡ refused n p → Settled old o (refused n p) old
settled_refused {old} e = record { tells = ap sized (sym e); leaves = ap (holding old) (sym e) }

pub settled_done : {old : List ℕ} {o : Outcome (List ℕ)} {bytes new : List ℕ} {to : ℕ} → o ≡ done bytes → Wrote old 0 bytes new to
    → Settled old o (done to) new
settled_done {old} {bytes = bytes} {to = to} e w = record {
  tells = let z : to ≡ length bytes = omega (arith, w.end) in ap (λ (n : ℕ). done n) z ∙ ap sized (sym e);
  leaves = w.holds ∙ ap (holding old) (sym e);
}

-- whether there is room
pub fitted-done : (room : ℕ) (bytes : List ℕ) → length bytes ≤ room → fitted room bytes ≡ done bytes
unfolding fitted
fitted-done room bytes h = rw (le-ltb room (length bytes) h)

pub fitted-refused : (room : ℕ) (bytes : List ℕ) → room < length bytes → fitted room bytes ≡ refused 31 (length bytes)
unfolding fitted
fitted-refused room bytes h = rw (lt-ltb room (length bytes) h)

-- a buffer keeps its length, and the place stays inside it
module _ {old : List ℕ} {at : ℕ} {xs new : List ℕ} {to : ℕ} (p : Placed old at xs new to) where
  pub placed_length : length new ≡ length old
  placed_length = ap length p.holds ∙ go (fits old at xs) refl
    where
      go : (b : Bool) → fits old at xs ≡ b → length (pick b (put old at xs) old) ≡ length old
      go true e = length-put old at xs (leb-true (at + length xs) (length old) e)
      go false e = refl

  pub placed_within : at ≤ length old → to ≤ length new
  placed_within l =
      omega (arith, placed_length, subst (λ (n : ℕ). n ≤ length old) (sym p.end) (go (fits old at xs) refl))
    where
      go : (b : Bool) → fits old at xs ≡ b → pick b (at + length xs) at ≤ length old
      go true e = leb-true (at + length xs) (length old) e
      go false e = l

  pub placed_front : at ≤ length old → to ≡ length (take to new)
  placed_front l = sym (length-take-le to new (placed_within l))

-- nothing is always placed
pub placed_none : {old : List ℕ} {at : ℕ} → Placed old at [] old at
placed_none {old} {at} =
    ⊎_elim (λ (l : length old < at + 0). no_room l)
    (λ (l : at + 0 ≤ length old). wrote_placed (record { holds = sym (put_none old at); end = omega arith }) l)
    (below_or_not (length old) (at + 0))
