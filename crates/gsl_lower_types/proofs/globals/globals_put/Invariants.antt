use Rattle.std.proofs.Common.{◌≡◌, drop}
use Rattle.gsl_lower_types.specs.Globals.{global_put}
use Rattle.gsl_lower_types.specs.Known.{each, with_front}
use Rattle.gsl_lower_types.proofs.globals.globals_put.Given as goal

abbrev pub invariant-loop-k : goal.invariant-loop-k
invariant-loop-k l = with_front l.ids (each (global_put l.structs) (drop l.k l.globals) l.known l.b) ≡ each (global_put l.structs) l.globals l.initial.known l.initial.b
