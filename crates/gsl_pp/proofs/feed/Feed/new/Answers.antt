use Rattle.std.proofs.Common.{refl, subst}
use Rattle.gsl_pp.specs.Unit.{Starts}
use Rattle.gsl_pp.specs.declared.feed.Feed.{Feed}
use Rattle.gsl_pp.proofs.Fed.{feed_at}
use Rattle.gsl_pp.proofs.feed.Feed.new.Goals as goal

pub returns : goal.returns
returns c =
    let feed : Feed = record { alloc = c.args.alloc; state = c.in_ok-state.state; stream = c.empty.result; rest = c.started.new.rest; refused = c.refusal_of.result } in
    let starts : Starts c.in_ok-fault.fault c.started.new.rest c.args.unit c.args.raws = subst (λ raws. Starts c.in_ok-fault.fault c.started.new.rest c.args.unit raws) c.of-rest.ensures c.in_ok-fault.ensures in
    feed_at c.args.unit c.args.raws c.started.new.rest c.in_ok-fault.fault c.in_ok-state.state c.empty.result c.refusal_of.result feed starts c.in_ok-state.ensures c.empty.ensures c.refusal_of.ensures
    refl refl refl refl
