-- `pairs::listing::read_pairs` meets its contract. The loop's invariant: reading on from here ends where the whole reading does.
-- Assumes nothing.
use mathlib.Core.Path.{◌≡◌, sym, ap, ◌∙◌}
use native.Mathlib.Omega.{arith}
use Rattle.std.specs.Prelude.{Ok, Err}
use Rattle.std.proofs.lemmas.Result.{err_from_is_err_and}
use Rattle.records.specs.Refusals.{outcome_of}
use Rattle.records.proofs.Unique.{unwraps}
use Rattle.pairs.specs.Listing.{found_pair, read_pairs, paired, unpaired}
use Rattle.pairs.proofs.PairTurns.{going_start, going_end, going_refused, going_untaken, going_on, pair_back}
use Rattle.pairs.proofs.listing.read_pairs.Goals as goal

pub loop-lender-init : goal.loop-lender-init
loop-lender-init c = going_start _ _ _ c.none-lenders.ensures

pub returns-in_err-lender : goal.returns-in_err-lender
returns-in_err-lender c = let t = c.args.table in
    let r = c.from_residual.result in
    let p = err_from_is_err_and r c.from_residual.ensures.1 in
    let told : outcome_of r ≡ paired (read_pairs t c.args.list.now) =
    rw (p.1, p.2) (ap paired (going_refused _ _ _ _ _ _ c.loop-lender.invariant (sym c.in_err-lender.ensures))) in
    record { value = told; kept = unwraps r (unpaired t) told }

pub returns-in-Err : goal.returns-in-Err
returns-in-Err c = let t = c.args.table in
    let r = Err c.at.result in
    let told : outcome_of r ≡ paired (read_pairs t c.args.list.now) =
    rw c.at.ensures
    (ap paired (going_untaken _ _ _ _ _ _ c.loop-lender.invariant (sym c.in_ok-lender.ensures ∙ ap (λ o. found_pair (Ok o)) c.in-Some.is)
    (sym c.in-Err.ensures))) in
    record { value = told; kept = unwraps r (unpaired t) told }

pub loop-lender-smaller : goal.loop-lender-smaller
loop-lender-smaller c = let back = pair_back _ _ _ (sym c.in_ok-lender.ensures ∙ ap (λ o. found_pair (Ok o)) c.in-Some.is) in
    omega (arith, c.loop-lender.invariant.inside, back.past, back.within)

pub loop-lender-preserved : goal.loop-lender-preserved
loop-lender-preserved c = going_on _ _ _ _ _ _ c.loop-lender.invariant (sym c.in_ok-lender.ensures ∙ ap (λ o. found_pair (Ok o)) c.in-Some.is)
    (sym c.in-Ok.ensures)
    c.with_pair-lenders.ensures

pub returns : goal.returns
returns c = let t = c.args.table in
    let l = c.loop-lender in
    let told = going_end _ _ _ _ _ _ l.invariant (sym c.in_ok-lender.ensures ∙ ap (λ o. found_pair (Ok o)) c.in_default.is) in
    record { value = told; kept = unwraps (Ok (record { count = l.index; table = l.now; lenders = l.lenders })) (unpaired t) told }
