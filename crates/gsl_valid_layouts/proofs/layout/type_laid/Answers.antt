use Rattle.std.proofs.Common.{◌≡◌, sym, ap, ◌∙◌}
use Rattle.gsl_kinds.specs.Runtimes.{front}
use Rattle.gsl_kinds.specs.Seen.{shape_seen}
use Rattle.gsl_valid.specs.LayoutRules.{type_laid}
use Rattle.gsl_valid_layouts.proofs.Sizing.{laid_same}
use Rattle.gsl_valid_layouts.proofs.layout.type_laid.Goals as goal

pub returns-in-Struct : goal.returns-in-Struct
returns-in-Struct c =
    let m = c.args.reached.now in
    let before = front m c.args.at in
    c.are_laid.ensures ∙ laid_same m before c.args.needs.now c.args.extents.now c.requires.needs c.requires.extents c.in-Struct.id c.in-Struct.members.now
    ∙ sym (ap (λ s. type_laid m before c.args.id (shape_seen s)) c.in-Struct.is)
