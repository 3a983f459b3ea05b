use Rattle.std.proofs.Common.{ap, length, reverse, ◌∙◌}
use Rattle.gsl_macros.proofs.Reversed.{first_ones}
use Rattle.gsl_macros.proofs.unread.Unread.skip.Goals as goal

pub returns : goal.returns
returns c = c.give_back.ensures ∙ ap reverse c.truncate.ensures.items ∙ first_ones c.args.count _ c.self.inside.items.items c.args.self.now c.self.view_is c.requires (ap length c.as_slice.ensures.value)
