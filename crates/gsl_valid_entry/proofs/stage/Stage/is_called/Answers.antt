use Rattle.std.proofs.Common.{ap, ◌∙◌, is_some}
use Rattle.gsl_decorations.proofs.Fronts.{somewhere}
use Rattle.gsl_valid.specs.Instruction.{read}
use Rattle.gsl_valid.specs.EntryRules.{is_call_of}
use Rattle.gsl_valid_entry.proofs.stage.Stage.is_called.Goals as goal

pub returns : goal.returns
returns c = c.is_some.ensures ∙ ap is_some c.first_call.ensures ∙ somewhere (λ i. is_call_of c.args.function (read i)) 0 c.args.self.now.instrs
