use Rattle.std.proofs.Common.{sym, ◌∙◌}
use Rattle.gsl_step_values.proofs.Serving.{serve_each}
use Rattle.gsl_step_values.proofs.functions.put_given.Goals as goal

pub builtin_lanes-requires-clause-serve : goal.builtin_lanes-requires-clause-serve
builtin_lanes-requires-clause-serve c = serve_each c.args.parts.now c.args.at c.args.count (sym c.all_serve-serve.ensures ∙ c.if-serve.true)
