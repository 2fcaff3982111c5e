-- `thaksipho::choosing::hand_list` meets its contract: 31, or the list's records. Assumes nothing.
use Prim.Native.Nat.{ℕ, ◌+◌, ◌*◌}
use mathlib.Core.Path.{refl, ap}
use mathlib.Core.List.{List}
use native.Mathlib.Omega.{arith}
use Rattle.basics.specs.Outcome.{Outcome, handing}
use Rattle.writing.proofs.Puts.{placed_wrote}
use Rattle.thaksipho.proofs.ListWords.{records, list_cut, list_fits, listed_refused, listed_done}
use Rattle.thaksipho.proofs.choosing.hand_list.Goals as goal

pub returns-then-out-count : goal.returns-then-out-count
returns-then-out-count c = let r = c.args.rounds in
    let cut = list_cut r.list c.requires _ c.if-out-count.true in
    listed_refused (rw c.at.ensures at c.word_of.ensures) (omega (arith, c.requires.few))
    (ap (λ (o : Outcome (List ℕ)). handing (r.trials * 256 + r.list.length) o) cut) cut

pub returns : goal.returns
returns c = let r = c.args.rounds in
    let size = records r.list c.requires 0 in
    let put = placed_wrote c.put_list.ensures (omega arith) in
    listed_done (list_fits r.list c.requires _ c.if-out-count.false) put refl
