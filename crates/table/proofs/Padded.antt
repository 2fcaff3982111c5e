-- Bytes, and the same with zeros after them, say the same table: a table goes by its bytes, and missing ones count as 0. Assumes nothing.
use mathlib.Core.Path.{◌≡◌, refl, sym, ap₂, ◌∙◌}
use mathlib.Core.List.{List, [], ◌∷◌, ◌++◌}
use Prim.Native.Nat.{ℕ, zero, suc, ◌+◌, ◌*◌}
use lib.ListN.{length, get_or, drop, replicate}
use lib.Seq.{get_or-drop}
use Rattle.bits.proofs.Lists.{each_ext}
use Rattle.writing.specs.Numbers.{byte_values, number_of}
use Rattle.writing.specs.Writing.{put}
use Rattle.writing.proofs.Digits.{number_more}
use Rattle.writing.proofs.Puts.{put_start}
use Rattle.table.specs.Limits.{most_wires, row_bytes}
use Rattle.table.specs.TableBytes.{set_at, table_of}
use Rattle.table.proofs.RowsBelow.{zero_at}

-- two lists with the same bytes, 0 past the end
module _ (s t : List ℕ) (same : (i : ℕ) → get_or s i 0 ≡ get_or t i 0) where
  same_number : (k at : ℕ) → number_of k (drop at s) ≡ number_of k (drop at t)
  unfolding number_of
  same_number zero at = refl
  same_number (suc k) at = number_more k at s ∙ ap₂ (λ (x y : ℕ). x + byte_values * y) (same at) (same_number k (at + 1)) ∙ sym (number_more k at t)

  same_set : (index : ℕ) → set_at s index ≡ set_at t index
  same_set index = same_number row_bytes (1 + row_bytes * index)

  same_table : table_of s ≡ table_of t
  unfolding table_of
  same_table = λ i. record {
    width = same 0 i;
    rows = each_ext most_wires (set_at s) (set_at t) same_set i;
    lending = same_set most_wires i;
    taking = same_set (most_wires + 1) i;
  }

zeros_after : (s zeros : List ℕ) → ((i : ℕ) → get_or zeros i 0 ≡ 0) → (i : ℕ) → get_or (s ++ zeros) i 0 ≡ get_or s i 0
zeros_after [] zeros h i = h i
zeros_after (b ∷ s) zeros h zero = refl
zeros_after (b ∷ s) zeros h (suc i) = zeros_after s zeros h i

-- bytes put from the start over zeros
pub padded_table : (n : ℕ) (s : List ℕ) → table_of (put (replicate n 0) 0 s) ≡ table_of s
padded_table n s = rw (put_start (replicate n 0) s) (same_table (s ++ rest) s (zeros_after s rest none))
  where
    rest : List ℕ
    rest = drop (length s) (replicate n 0)

    none : (i : ℕ) → get_or rest i 0 ≡ 0
    none i = rw (get_or-drop {A = ℕ} (length s) (replicate n 0) i 0) (zero_at n (length s + i))
