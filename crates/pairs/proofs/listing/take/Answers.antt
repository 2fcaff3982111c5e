-- `pairs::listing::take` meets its contract: to a clean table both offers are the same. Assumes nothing.
use mathlib.Core.Path.{◌∙◌}
use native.Mathlib.Omega.{arith}
use Rattle.table.proofs.CleanOffers.{same_offered}
use Rattle.pairs.proofs.listing.take.Goals as goal

pub returns : goal.returns
returns c = c.offer_clean.ensures.value ∙ same_offered c.args.table c.args.lender.0 c.args.taker.0 (c.requires (omega arith))
