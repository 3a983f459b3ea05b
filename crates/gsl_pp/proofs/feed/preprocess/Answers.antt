use Rattle.std.proofs.lemmas.Result.{err_from_is_err_and}
use Rattle.gsl_pp.specs.Unit.{preprocessed}
use Rattle.gsl_pp.specs.Feeding.{feeds}
use Rattle.gsl_pp.proofs.Fed.{feed_starts, feed_ends, feed_faults, feed_more}
use Rattle.gsl_pp.proofs.feed.preprocess.Goals as goal

pub loop-feed-init : goal.loop-feed-init
unfolding preprocessed
loop-feed-init c = feed_starts c.new-list.result _ _ c.new-list.ensures c.in_ok-feed.ensures

pub returns-in_err-token : goal.returns-in_err-token
returns-in_err-token c =
    let p = err_from_is_err_and c.from_residual-in_err-token.result c.from_residual-in_err-token.ensures.1 in
    rw (p.1, p.2) (feed_faults c.loop-feed.list _ _ _ _ c.in_err-token.ensures.next c.loop-feed.invariant)

pub loop-feed-preserved : goal.loop-feed-preserved
loop-feed-preserved c =
    feed_more c.loop-feed.list c.push.new.self _ _ _ c.in-Some.token (rw c.in-Some.is at c.in_ok-token.ensures.next) c.in_ok-push.ensures.ok c.loop-feed.invariant

pub returns : goal.returns
returns c = feed_ends c.loop-feed.list _ _ (feeds c.next.new.self) (rw c.in_default.is at c.in_ok-token.ensures.next) c.loop-feed.invariant
