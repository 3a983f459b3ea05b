use Rattle.std.proofs.Common.{◌≡◌, drop}
use Rattle.gsl_cmd.specs.Machine.{in_function}
use Rattle.gsl_slow.proofs.machine.function_at.Given as goal

abbrev pub invariant-loop-i : goal.invariant-loop-i
invariant-loop-i l = in_function l.function (drop l.i l.instrs) ≡ in_function l.function l.instrs
