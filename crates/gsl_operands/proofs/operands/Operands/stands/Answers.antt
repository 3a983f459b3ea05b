use Rattle.std.proofs.Common.{◌≡◌, sym, ap, ◌∙◌, subst, ◌+◌, ◌<◌, ◌≤◌}
use Rattle.std.specs.Prelude.{min}
use Rattle.gsl_leaves.specs.Table.{most, told}
use Rattle.gsl_operands.specs.Operands.{stands}
use Rattle.gsl_operands.proofs.Rows.{stands_behind, stands_first}
use Rattle.gsl_operands.proofs.operands.Operands.stands.Goals as goal

pub returns-in-Some : goal.returns-in-Some
returns-in-Some c = subst (λ m. c.args.id < m.bound → stands m c.args.slots c.args.id ≤ most → c.in-Some.first ≡ stands m c.args.slots c.args.id) c.self.view_is
    (λ low told_at. stands_first c.self.inside.frames.now c.self.inside.firsts.items c.self.invariant.1 c.args.slots c.args.id low c.in-Some.first (sym c.first_in.ensures ∙ c.in-Some.is))

pub returns-in-None : goal.returns-in-None
returns-in-None c = subst (λ m. c.args.id < m.bound → stands m c.args.slots c.args.id ≤ most → c.saturating_add.result ≡ stands m c.args.slots c.args.id) c.self.view_is
    (λ low told_at. stands_behind c.self.inside.frames.now c.self.inside.firsts.items c.self.invariant.1 c.args.slots c.args.id low c.saturating_add.result (sym c.first_in.ensures ∙ c.in-None.is) (c.saturating_add.ensures ∙ ap (λ n. min (c.args.slots + n) 18446744073709551615) c.place.ensures) told_at)
