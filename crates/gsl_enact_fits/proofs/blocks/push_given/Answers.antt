use Rattle.std.proofs.Common.{ap, ◌∙◌}
use Rattle.gsl_base.specs.declared.input.InputRefusal.TheVariants.{NoPush, PushShort}
use Rattle.gsl_inputs.specs.Demands.{bytes_met}
use Rattle.gsl_valid.specs.DecorationRules.{pointee}
use Rattle.gsl_valid.specs.LayoutRules.{need}
use Rattle.gsl_valid.specs.Search.{whole}
use Rattle.gsl_enact_fits.proofs.blocks.push_given.Goals as goal

pub returns : goal.returns
returns c =
    let m = c.args.decorations.now in
    let n = need m (whole m) (pointee m c.args.v.type_) in
    c.bytes_met.ensures n c.need_of.ensures ∙ ap (bytes_met NoPush PushShort n) c.push_bytes.ensures
