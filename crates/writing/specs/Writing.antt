-- What a lent buffer holds after bytes are put into it: those bytes from a place on, and the rest as it was.
use Rattle.std.specs.Prelude.{◌≡◌, Bool, List, ◌++◌, ℕ, ◌+◌, ◌≤◌, leb, ltb, length, take, drop}
use Rattle.basics.specs.Choice.{pick}
use Rattle.basics.specs.Outcome.{Outcome, done, refused}

-- `old` with `xs` over it from `at` on
unfoldable pub put : List ℕ → ℕ → List ℕ → List ℕ
put old at xs = take at old ++ (xs ++ drop (at + length xs) old)

-- there is room for all of `xs` from `at` on
abbrev pub fits : List ℕ → ℕ → List ℕ → Bool
fits old at xs = leb (at + length xs) (length old)

-- `new` is `old` with `xs` over it from `at` up to `to`
pub record Wrote (old : List ℕ) (at : ℕ) (xs new : List ℕ) (to : ℕ) : Type 0 where
  pub holds : new ≡ put old at xs
  pub end : to ≡ at + length xs

-- the same where there is room; where there is not, the buffer and the place are as they were
pub record Placed (old : List ℕ) (at : ℕ) (xs new : List ℕ) (to : ℕ) : Type 0 where
  pub holds : new ≡ pick (fits old at xs) (put old at xs) old
  pub end : to ≡ pick (fits old at xs) (at + length xs) at

-- Calls that write bytes from a buffer's start

-- the bytes to be written; 31 with the length needed where the room is shorter
unfoldable pub fitted : ℕ → List ℕ → Outcome (List ℕ)
fitted room bytes = pick (ltb room (length bytes)) (refused 31 (length bytes)) (done bytes)

-- what is told: how many bytes are written
abbrev pub sized : Outcome (List ℕ) → Outcome ℕ
sized (done bytes) = done (length bytes)
sized (refused n p) = refused n p

-- what the buffer holds: the bytes from its start and the rest as it was; where the call is refused all as it was
abbrev pub holding : List ℕ → Outcome (List ℕ) → List ℕ
holding old (done bytes) = put old 0 bytes
holding old (refused n p) = old

-- a call that writes tells how many bytes, or its refusal, and leaves the buffer so
pub record Settled (old : List ℕ) (o : Outcome (List ℕ)) (told : Outcome ℕ) (new : List ℕ) : Type 0 where
  pub tells : told ≡ sized o
  pub leaves : new ≡ holding old o

-- what is written takes no more than `most` bytes
pub record Written (old : List ℕ) (at most : ℕ) (xs new : List ℕ) (to : ℕ) : Type 0 where
  pub wrote : Wrote old at xs new to
  pub short : length xs ≤ most
