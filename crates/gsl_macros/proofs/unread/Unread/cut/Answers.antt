use Rattle.std.proofs.Common.{length, reverse, ap, ◌∙◌}
use Rattle.gsl_macros.proofs.Reversed.{last_ones, first_ones}
use Rattle.gsl_macros.proofs.unread.Unread.cut.Goals as goal

pub returns-clause-front : goal.returns-clause-front
returns-clause-front c =
    ap reverse (c.in_ok-items.ensures.tail) ∙ last_ones c.args.count _ c.self.inside.items.items c.args.self.now c.self.view_is c.requires (ap length c.as_slice.ensures.value)

pub returns-clause-back : goal.returns-clause-back
returns-clause-back c =
    c.give_back.ensures ∙ ap reverse c.in_ok-items.ensures.items ∙ first_ones c.args.count _ c.self.inside.items.items c.args.self.now c.self.view_is c.requires (ap length c.as_slice.ensures.value)
