use Rattle.std.proofs.Common.{ap, sym, ◌∙◌}
use Rattle.gsl_pp.specs.Feeding.{goes_on}
use Rattle.gsl_pp.specs.Unit.{unit_from, rest_of, at_end}
use Rattle.gsl_pp.specs.Directives.{outermost}
use Rattle.gsl_pp.proofs.Fed.{draws_same, unit_none}
use Rattle.gsl_pp.proofs.feed.Feed.draw.Goals as goal

pub end-requires : goal.end-requires
end-requires c =
    let now = c.draw_here.new.self in
    let none = c.in_default-take.ensures in
    ap (λ raws. rest_of now.state now.stream raws) (none.1 ∙ sym none.0) ∙ (rw c.in_default.is at c.in_ok-token.ensures.drawn).1 ∙ ap (λ raws. unit_from raws 0 now.state) none.0 ∙ unit_none now.state

pub returns-in_default-take-clause-drawn : goal.returns-in_default-take-clause-drawn
returns-in_default-take-clause-drawn c =
    let now = c.draw_here.new.self.state in
    draws_same c.end.result (goes_on c.args.self.now) (at_end now (outermost now.groups)) _ now.left
    (sym c.loop-token.invariant.0 ∙ (rw c.in_default.is at c.in_ok-token.ensures.drawn).0 ∙ ap (λ raws. unit_from raws 0 now) c.in_default-take.ensures.0 ∙ unit_none now)
    c.end.ensures
