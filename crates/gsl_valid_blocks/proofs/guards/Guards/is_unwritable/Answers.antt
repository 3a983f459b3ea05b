use Rattle.std.proofs.Common.{ap, ◌∙◌}
use Rattle.gsl_words.specs.declared.module.Module.{Module}
use Rattle.gsl_instr.specs.declared.enumerant.decoration.TheConstants as decoration
use Rattle.gsl_ids.specs.Table.{number_of}
use Rattle.gsl_valid.specs.Types.{defined_as}
use Rattle.gsl_valid.specs.MemoryRules.{leads_through}
use Rattle.gsl_valid_blocks.specs.Guards.{row, rows_of}
use Rattle.gsl_valid_blocks.proofs.Guarding.{leads}
use Rattle.gsl_valid_blocks.proofs.guards.Guards.is_unwritable.Goals as goal

pub returns : goal.returns
returns c =
    let m = c.self.inside.decorations.now in
    let id = c.args.id in
    c.row.ensures ∙ ap (λ rows. row rows c.number.result) c.self.invariant.1
    ∙ ap (row (rows_of m decoration.NON_WRITABLE m.instrs)) (c.number.ensures ∙ ap (λ (m : Module). number_of m id) c.definitions.ensures)
    ∙ leads m decoration.NON_WRITABLE id ∙ ap (λ (m : Module). leads_through m decoration.NON_WRITABLE (defined_as m id)) c.self.view_is
