-- Spelling a number from its last digit: what the loop that does so keeps. Assumes nothing.
use Prim.Native.Nat.{ℕ, ◌+◌, ◌-◌, ◌/◌, ◌%◌, ◌^◌, ◌≤◌, ◌<◌}
use mathlib.Core.Path.{◌≡◌, sym, ap, ◌∙◌}
use mathlib.Core.List.{List, [], ◌∷◌, ◌++◌, append_assoc, append-nil}
use native.Mathlib.Omega.{arith}
use native.Mathlib.Numerals.{add-one}
use lib.ListN.{length, take, drop, set, length-append, length-drop, length-set, drop_of_length-le}
use lib.Seq.{set_split, drop_at, length-take-le, take_all}
use Rattle.writing.specs.Decimals.{digit, decimal, most_digits}
use Rattle.writing.proofs.Decimals.{decimal_one, decimal_more, decimal_some, decimal_short}

-- the decimal of `rest`, and the bytes from `from` on, are the decimal of `n`, and there is room for the former
pub record Spelling (n : ℕ) (bytes : List ℕ) (from rest : ℕ) : Type 0 where
  pub within : from ≤ length bytes
  pub room : length (decimal rest) ≤ from
  pub goes : decimal rest ++ drop from bytes ≡ decimal n

-- one byte more, just before those that are there
drop_before : (bytes : List ℕ) (from x : ℕ) → 0 < from → from ≤ length bytes
    → drop (from - 1) (set bytes (from - 1) x) ≡ x ∷ drop from bytes
drop_before bytes from x some within =
    let i : from - 1 < length bytes = omega arith in
    let z : from - 1 + 1 ≡ from = omega arith in
    ap (drop (from - 1)) (set_split bytes (from - 1) x i)
    ∙ drop_at (take (from - 1) bytes) _ (from - 1) (length-take-le (from - 1) bytes (omega arith))
    ∙ ap (λ (m : ℕ). x ∷ drop m bytes) (sym (add-one (from - 1)) ∙ z)

-- nothing is stored
pub spelling_start : (n : ℕ) (bytes : List ℕ) → n < 2 ^ 64 → length bytes ≡ most_digits → Spelling n bytes most_digits n
spelling_start n bytes l e = record {
  within = omega arith;
  room = decimal_short n l;
  goes = ap (λ (xs : List ℕ). decimal n ++ xs) (drop_of_length-le bytes {i = most_digits} (omega arith)) ∙ append-nil (decimal n);
}

module _ {n : ℕ} {bytes : List ℕ} {from rest : ℕ} (s : Spelling n bytes from rest) where
  pub spelling_room : 0 < from
  spelling_room = omega (arith, s.room, decimal_some rest)

  -- after a digit that is not the last
  pub spelling_more : 9 < rest → Spelling n (set bytes (from - 1) (digit (rest % 10))) (from - 1) (rest / 10)
  spelling_more l =
      let d : List ℕ = digit (rest % 10) ∷ [] in
      let e : decimal rest ≡ decimal (rest / 10) ++ d = decimal_more rest (omega arith) in
      record {
        within = omega (arith, length-set bytes (from - 1) (digit (rest % 10)), s.within);
        room = omega (arith, s.room, ap length e, length-append (decimal (rest / 10)) d);
        goes =
            ap (λ (xs : List ℕ). decimal (rest / 10) ++ xs) (drop_before bytes from (digit (rest % 10)) spelling_room s.within)
            ∙ sym (append_assoc (decimal (rest / 10)) d (drop from bytes))
            ∙ ap (λ (xs : List ℕ). xs ++ drop from bytes) (sym e)
            ∙ s.goes;
      }

  -- after the last: the part from there on is the decimal
  pub spelling_last : rest ≤ 9 → (size : ℕ) → length bytes ≡ size
      → take (size - (from - 1)) (drop (from - 1) (set bytes (from - 1) (digit rest))) ≡ decimal n
  spelling_last l size e =
      take_all (size - (from - 1)) _
      (omega (arith, length-drop (from - 1) (set bytes (from - 1) (digit rest)), length-set bytes (from - 1) (digit rest)))
      ∙ drop_before bytes from (digit rest) spelling_room s.within
      ∙ ap (λ (xs : List ℕ). xs ++ drop from bytes) (sym (decimal_one rest (omega arith)))
      ∙ s.goes
