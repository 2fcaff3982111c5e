-- `writer::heads::Heads::try_all` meets its contract: before turn x the heads of the wires below x are tried. Assumes nothing.
use mathlib.Core.Path.{◌≡◌}
use Rattle.writer.specs.Heads.{tried_below}
use Rattle.writer.proofs.heads.Heads.try_all.Given as goal

abbrev pub invariant-loop-x : goal.invariant-loop-x
invariant-loop-x l = record {
  same : l.self.indices ≡ l.initial.self.indices;
  tried : l.self.candidates ≡ tried_below l.source l.initial.self.indices l.x l.initial.self.candidates;
}
