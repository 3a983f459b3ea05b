use Rattle.std.proofs.Common.{ap, ◌∙◌, Some}
use Rattle.gsl_words.specs.declared.module.Module.{Module}
use Rattle.gsl_decorations.specs.Firsts.{first_from}
use Rattle.gsl_valid.specs.Instruction.{read}
use Rattle.gsl_valid.specs.EntryRules.{gives_location}
use Rattle.gsl_valid_entry.proofs.stage.Stage.first_located.Goals as goal

pub returns : goal.returns
returns c =
    c.copied.ensures ∙ c.get.ensures.value ∙ c.self.invariant.2 (c.args.class, c.args.location)
    ∙ ap (λ (m : Module). first_from (λ i. gives_location m (Some c.args.class) c.args.location (read i)) 0 m.instrs) c.self.view_is
