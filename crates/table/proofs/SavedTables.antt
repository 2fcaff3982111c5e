-- The bytes of a table, part by part, and the way there and back. Assumes nothing.
use mathlib.Core.Path.{◌≡◌, sym, ap, ap₂, ◌∙◌}
use mathlib.Core.List.{List, [], ◌∷◌, ◌++◌, append-nil}
use Prim.Native.Nat.{ℕ, zero, suc, ◌+◌, ◌*◌, ◌^◌, ◌≤◌, ◌<◌}
use native.Mathlib.Nat.{mul-suc}
use native.Mathlib.Omega.{arith}
use lib.ListN.{length, get_or, take, drop, length-append, length-drop, get_or-append}
use lib.Seq.{get_or_at, get_or-append-add, get_or-drop, take-add, take_all}
use Rattle.bits.specs.Bits.{each}
use Rattle.bits.proofs.Lists.{each_eq, each_ext, each_two}
use Rattle.writing.specs.Numbers.{byte_values, bytes_of, bytes_of_all, number_of}
use Rattle.writing.proofs.Digits.{Bytes, length-bytes_of_all, bytes_of_all_append, number_at, bytes_number}
use Rattle.table.specs.Limits.{most_wires, row_bytes, table_length}
use Rattle.table.specs.TableBytes.{sets_of, set_at, table_bytes, table_of, Fits}
use Rattle.table.specs.declared.tables.Table.{Table}

module _ (t : Table) where
  pub table_parts : table_bytes t ≡ t.width ∷ (bytes_of_all row_bytes t.rows ++ (bytes_of row_bytes t.lending ++ (bytes_of row_bytes t.taking ++ [])))
  unfolding table_bytes bytes_of_all
  table_parts = ap (λ (x : List ℕ). t.width ∷ x) (bytes_of_all_append row_bytes t.rows (t.lending ∷ t.taking ∷ []))

  pub length-table_bytes : length t.rows ≡ most_wires → length (table_bytes t) ≡ table_length
  unfolding table_bytes
  length-table_bytes e =
      let sets = length-append t.rows (t.lending ∷ t.taking ∷ []) in
      let bytes = length-bytes_of_all row_bytes (sets_of t) in
      omega (arith, sets, bytes, e)

-- ---- from a table to its bytes and back

-- past the width
after_width : (w : ℕ) (s : List ℕ) (index : ℕ) → set_at (w ∷ s) index ≡ number_of row_bytes (drop (row_bytes * index) s)
after_width w s index = let e : 1 + row_bytes * index ≡ suc (row_bytes * index) = omega arith in ap (λ (x : ℕ). number_of row_bytes (drop x (w ∷ s))) e

-- what is below a bound in each of two lists is so in both together
append_below : (m : ℕ) (xs ys : List ℕ) → ((i : ℕ) → get_or xs i 0 < m) → ((i : ℕ) → get_or ys i 0 < m) → (i : ℕ) → get_or (xs ++ ys) i 0 < m
append_below m [] ys h l i = l i
append_below m (x ∷ xs) ys h l zero = h 0
append_below m (x ∷ xs) ys h l (suc i) = append_below m xs ys (λ j. h (suc j)) l i

pair_below : (m a b : ℕ) → a < m → b < m → (i : ℕ) → get_or (a ∷ b ∷ []) i 0 < m
pair_below m a b h l zero = h
pair_below m a b h l (suc zero) = l
pair_below m a b h l (suc (suc i)) = omega arith

module _ (t : Table) (f : Fits t) where
  set_back : (i : ℕ) → i < most_wires + 2 → set_at (table_bytes t) i ≡ get_or (sets_of t) i 0
  unfolding table_bytes
  set_back i l =
      after_width t.width (bytes_of_all row_bytes (sets_of t)) i
      ∙ number_at row_bytes (sets_of t)
      (append_below (byte_values ^ row_bytes) t.rows (t.lending ∷ t.taking ∷ []) f.row (pair_below (byte_values ^ row_bytes) t.lending t.taking f.lending f.taking))
      i (omega (arith, length-append t.rows (t.lending ∷ t.taking ∷ []), f.rows))

  rows_back : each most_wires (set_at (table_bytes t)) ≡ t.rows
  rows_back =
      sym (each_eq most_wires (set_at (table_bytes t)) t.rows f.rows (λ i l. sym (set_back i (omega arith) ∙ get_or-append t.rows (t.lending ∷ t.taking ∷ []) 0 i (omega (arith, f.rows)))))

  lending_back : set_at (table_bytes t) most_wires ≡ t.lending
  lending_back = set_back most_wires (omega arith) ∙ get_or_at t.rows t.lending (t.taking ∷ []) 0 most_wires f.rows

  taking_back : set_at (table_bytes t) (most_wires + 1) ≡ t.taking
  taking_back =
      set_back (most_wires + 1) (omega arith)
      ∙ ap (λ (x : ℕ). get_or (sets_of t) (x + 1) 0) (sym f.rows)
      ∙ get_or-append-add t.rows (t.lending ∷ t.taking ∷ []) 1 0

  pub read_back : table_of (table_bytes t) ≡ t
  unfolding table_of table_bytes
  read_back = λ i. record { width = t.width; rows = rows_back i; lending = lending_back i; taking = taking_back i }

-- ---- from bytes to a table and back

-- the bytes of the numbers that bytes say
all_back : (k n : ℕ) (s : List ℕ) → k * n ≤ length s → Bytes s → bytes_of_all k (each n (λ i. number_of k (drop (k * i) s))) ≡ take (k * n) s
unfolding each bytes_of_all
all_back k zero s l h = let e : k * 0 ≡ 0 = omega arith in ap (λ (x : ℕ). take x s) (sym e)
all_back k (suc n) s l h =
    bytes_of_all_append k (each n (λ i. number_of k (drop (k * i) s))) (number_of k (drop (k * n) s) ∷ [])
    ∙ ap₂ (λ (x y : List ℕ). x ++ y) (all_back k n s (omega (arith, mul-suc k n)) h)
    (append-nil (bytes_of k (number_of k (drop (k * n) s))) ∙ bytes_number k (drop (k * n) s) (omega (arith, mul-suc k n, length-drop (k * n) s)) rest)
    ∙ sym (ap (λ (x : ℕ). take x s) (mul-suc k n) ∙ take-add (k * n) k s)
  where
    rest : Bytes (drop (k * n) s)
    rest i = rw (get_or-drop (k * n) s i 0) (h (k * n + i))

pub write_back : (s : List ℕ) → length s ≡ table_length → Bytes s → table_bytes (table_of s) ≡ s
unfolding table_of table_bytes
write_back [] e h = absurd (omega arith)
write_back (w ∷ s) e h =
    ap (λ (x : List ℕ). w ∷ bytes_of_all row_bytes x) (each_two most_wires (set_at (w ∷ s)) ∙ each_ext (most_wires + 2) (set_at (w ∷ s)) (λ i. number_of row_bytes (drop (row_bytes * i) s)) (after_width w s))
    ∙ ap (λ (x : List ℕ). w ∷ x) (all_back row_bytes (most_wires + 2) s (omega arith) (λ i. h (suc i)) ∙ take_all (row_bytes * (most_wires + 2)) s (omega arith))
