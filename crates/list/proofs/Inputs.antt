-- What was read of an input, up to its end or as much as decides, is listed as the whole input is. Assumes nothing.
use Rattle.std.proofs.Common.{◌≡◌, ℕ, ◌≤◌, ◌<◌, List, ◌++◌, None, Some, IfSome, length, take, sym, ap, ◌∙◌, arith, append-nil, inl, inr}
use Rattle.std.specs.declared.option.Option.{Option}
use Rattle.std.specs.Io.KnownBytes.{Consumes, IsAtEnd}
use Rattle.std.proofs.lemmas.List.{take_at}
use lib.Seq.{length-take-le}
use Rattle.basics.proofs.Tests.{below_or_not}
use Rattle.circuits.specs.Limits.{deciding_bytes}
use Rattle.listing.specs.Printing.{printed}
use Rattle.listing.proofs.FirstBytes.{first_bytes_decide}

module _ (buffer : List ℕ) (n : ℕ) (within : n ≤ length buffer) (enough : deciding_bytes ≤ length buffer) where
  pub listed_whole : (old new : Option (List ℕ)) (lines : List ℕ) → lines ≡ printed (take n buffer)
      → Consumes old new (take n buffer) → (n < length buffer → IsAtEnd new) → IfSome old (λ s. lines ≡ printed s)
  listed_whole None new lines e p q = tt
  listed_whole (Some s) None lines e p q = absurd p
  listed_whole (Some s) (Some rest) lines e p q = elim (below_or_not n (length buffer)) [
    | inl short ↦ e ∙ ap printed (sym (p ∙ ap (λ l. take n buffer ++ l) (q short) ∙ append-nil (take n buffer)))
    | inr full ↦ (
        let front : take n s ≡ take n buffer =
        ap (take n) p ∙ take_at (take n buffer) rest n (length-take-le n buffer within) in
        e ∙ ap printed (sym front) ∙ first_bytes_decide s n (omega arith)
        )
  ]
