use Rattle.std.proofs.Common.{◌≡◌, [], drop}
use Rattle.gsl_valid.specs.CallRules.{pointers_differ}
use Rattle.gsl_valid_calls.specs.Calls.{differ_behind}
use Rattle.gsl_valid_calls.proofs.pointers.pointers_differ.Given as goal

abbrev pub invariant-loop-id : goal.invariant-loop-id
invariant-loop-id l = differ_behind l.definitions l.pointers.keys (drop l.id-index l.arguments) ≡ pointers_differ l.definitions l.arguments
