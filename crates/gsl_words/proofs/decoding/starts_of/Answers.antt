use Rattle.std.proofs.Common.{◌+◌, arith, refl, subst}
use Rattle.std.proofs.lemmas.Result.{err_from_is_err_and}
use Rattle.std.proofs.lemmas.List.{take_rest}
use Rattle.gsl_words.specs.Faults.{Breaks, IsHead}
use Rattle.gsl_words.proofs.Found.{one_more, stopped, more_within}
use Rattle.gsl_words.proofs.decoding.starts_of.Goals as goal

pub returns-in_err-count-clause-fault : goal.returns-in_err-count-clause-fault
returns-in_err-count-clause-fault c =
    let p = err_from_is_err_and c.from_residual.result c.from_residual.ensures.1 in
    rw (p.1, p.2)
    (stopped c.args.words.now c.loop-at.starts c.loop-at.at (c.loop-at.at + 5) c.in_err-count.field-0.0 (omega arith) c.loop-at.invariant.read refl
    (subst (λ w. Breaks w (c.loop-at.at + 5) c.in_err-count.field-0.0) (take_rest c.args.words.now c.loop-at.at) c.in_err-count.ensures.fault))

pub loop-at-preserved : goal.loop-at-preserved
loop-at-preserved c =
    let head : IsHead _ c.in_ok-count.count = subst (λ w. IsHead w c.in_ok-count.count) (take_rest c.args.words.now c.loop-at.at) c.in_ok-count.ensures.ok in
    record {
      read = one_more c.args.words.now c.loop-at.starts c.push.new.self c.loop-at.at c.in_ok-count.count c.loop-at.invariant.within c.loop-at.invariant.read head c.in_ok-push.ensures.ok;
      within = more_within c.args.words.now c.loop-at.at c.in_ok-count.count c.loop-at.invariant.within head;
    }
