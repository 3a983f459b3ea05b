use Rattle.std.proofs.Common.{ap, ◌∙◌}
use Rattle.gsl_words.specs.declared.module.Module.{Module}
use Rattle.gsl_valid.specs.Placed.{placed, header_size}
use Rattle.gsl_valid_blocks.specs.Guards.{rows_from}
use Rattle.gsl_valid_blocks.proofs.Guarding.{rows_are}
use Rattle.gsl_valid_blocks.proofs.guards.rows_of.Goals as goal

pub returns : goal.returns
returns c =
    let m = c.args.decorations.now in
    c.in_ok-rows.ensures ∙ ap (rows_from m c.args.kind) (c.new.ensures ∙ ap (λ (m : Module). placed m) (c.module.ensures ∙ c.definitions.ensures))
    ∙ rows_are m c.args.kind header_size m.instrs
