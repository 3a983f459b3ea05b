use Rattle.std.proofs.Common.{◌∙◌, ap}
use Rattle.gsl_spv.specs.Declarations.{instr}
use Rattle.gsl_spv.specs.Once.{interface_at}
use Rattle.gsl_spv.proofs.builder.Builder.declare.Goals as goal

pub put_anew-requires-clause-interface : goal.put_anew-requires-clause-interface
put_anew-requires-clause-interface c = ap (λ l. interface_at (instr c.args.op l)) (c.as_slice.ensures ∙ c.in-Ok.ensures) ∙ c.requires.interface c.in_ok-id.id
