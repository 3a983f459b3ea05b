use Rattle.std.proofs.Common.{◌≡◌, ap, ◌∙◌, subst, ◌+◌, ◌≤◌}
use Rattle.std.specs.Prelude.{min}
use Rattle.gsl_leaves.specs.Table.{most}
use Rattle.gsl_frames.specs.Frames.{place}
use Rattle.gsl_operands.proofs.Rows.{told_place}
use Rattle.gsl_operands.proofs.operands.Operands.place.Goals as goal

pub returns : goal.returns
returns c = subst (λ m. c.args.slots + place m c.args.id ≤ most → c.saturating_add.result ≡ c.args.slots + place m c.args.id) c.self.view_is
    (λ low. c.saturating_add.ensures ∙ ap (λ n. min (c.args.slots + n) 18446744073709551615) c.place.ensures ∙ told_place c.args.slots (place c.self.inside.frames.now c.args.id) low)
