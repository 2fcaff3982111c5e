-- `writing::put_number` meets its contract. The loop's invariant: the decimal of what is left, and the digits stored, are the
-- number's decimal. Assumes nothing.
use mathlib.Core.Path.{refl, ◌∙◌}
use native.Mathlib.Omega.{arith}
use lib.ListN.{length-set}
use Rattle.writing.specs.Decimals.{most_digits}
use Rattle.writing.proofs.Spelling.{spelling_start, spelling_more, spelling_last}
use Rattle.writing.proofs.put_number.Goals as goal

pub loop-rest-init : goal.loop-rest-init
loop-rest-init c = (refl, spelling_start c.args.n _ (omega arith) refl)

pub loop-rest-preserved : goal.loop-rest-preserved
loop-rest-preserved c = (
  length-set c.loop-rest.digits _ _ ∙ c.loop-rest.invariant.0,
  spelling_more c.loop-rest.invariant.1 (omega arith),
)

pub returns : goal.returns
returns c = let inv = c.loop-rest.invariant in
    rw (spelling_last inv.1 (omega arith) most_digits inv.0) at c.put_bytes.ensures
