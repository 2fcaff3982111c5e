-- What an encoded record holds at its front. Assumes nothing.
use Prim.Native.Nat.{ℕ, ◌≤◌, ◌-◌}
use mathlib.Core.Path.{◌≡◌, refl, ap, ◌∙◌}
use mathlib.Core.List.{List}
use native.Mathlib.Omega.{arith}
use lib.ListN.{length, take, replicate, length-append}
use lib.Seq.{take_at}
use Rattle.records.specs.Bytes.{encoded, longest_record}
use Rattle.records.specs.declared.encoding.Encoded.{Encoded}

module _ {e : Encoded} (xs : List ℕ) (is : e ≡ encoded xs) where
  pub encoded_front : take e.length e.bytes ≡ xs
  unfolding encoded
  encoded_front =
      ap (λ (f : Encoded). take f.length f.bytes) is ∙ take_at xs (replicate (longest_record - length xs) 0) (length xs) refl

  pub encoded_room : e.length ≤ length e.bytes
  unfolding encoded
  encoded_room =
      let front = ap (λ (f : Encoded). f.length) is in
      let all = ap (λ (f : Encoded). length f.bytes) is in
      let parts = length-append xs (replicate (longest_record - length xs) 0) in
      omega arith
