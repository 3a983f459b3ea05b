use Rattle.std.proofs.Common.{ap, ◌∙◌, Some}
use Rattle.gsl_words.specs.declared.module.Module.{Module}
use Rattle.gsl_decorations.specs.Firsts.{first_from}
use Rattle.gsl_valid.specs.Instruction.{read}
use Rattle.gsl_valid.specs.EntryRules.{gives_location}
use Rattle.gsl_valid_entry.proofs.stage.locations_of.Goals as goal

pub returns : goal.returns
returns c = λ l.
    c.in_ok-rows.ensures l
    ∙ ap (λ (m : Module). first_from (λ i. gives_location c.definitions-definitions.result.now (Some l.0) l.1 (read i)) 0 m.instrs) (c.module.ensures ∙ c.definitions-definitions.ensures)
    ∙ ap (λ (m : Module). first_from (λ i. gives_location m (Some l.0) l.1 (read i)) 0 c.args.decorations.now.instrs) c.definitions-definitions.ensures
