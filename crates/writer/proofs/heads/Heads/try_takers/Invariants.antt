-- `writer::heads::Heads::try_takers` meets its contract: before turn x the heads of the takers below x are tried. Assumes nothing.
use mathlib.Core.Path.{◌≡◌}
use Rattle.writer.specs.Heads.{tried_takers}
use Rattle.writer.proofs.heads.Heads.try_takers.Given as goal

abbrev pub invariant-loop-x : goal.invariant-loop-x
invariant-loop-x l = record {
  same : l.self.indices ≡ l.initial.self.indices;
  tried : l.self.candidates ≡ tried_takers l.source l.initial.self.indices l.lender.0 l.x l.initial.self.candidates;
}
