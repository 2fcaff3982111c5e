-- `thaksipho::thaksipho_read` meets its contract: what the reader told, as a word that it fits. Assumes nothing.
use mathlib.Core.Path.{ap}
use native.Mathlib.Omega.{arith}
use Rattle.thaksipho.specs.Words.{circuit_value}
use Rattle.thaksipho.proofs.Fitting.{told_fits, read_fits}
use Rattle.thaksipho.proofs.thaksipho_read.Goals as goal

pub overflow_mul-result : goal.overflow_mul-result
overflow_mul-result c = omega (arith, told_fits (ap circuit_value (c.in-Ok.ensures)) (read_fits c.args.circuit.now))

pub overflow_add-result : goal.overflow_add-result
overflow_add-result c = omega (arith, told_fits (ap circuit_value (c.in-Ok.ensures)) (read_fits c.args.circuit.now))
