use Rattle.gsl_manifest.proofs.Readers.{numbers_full, numbers_bad, numbers_step, numbers_end}
use Rattle.gsl_manifest.proofs.fields.all_numbers.Goals as goal

pub returns-then-left-eq0 : goal.returns-then-left-eq0
returns-then-left-eq0 c = numbers_full c.loop-rest.numbers c.loop-rest.rest.now c.loop-rest.left _ c.loop-rest-test.ensures c.if-left-eq0.true c.loop-rest.invariant

pub returns-in_default : goal.returns-in_default
returns-in_default c = numbers_bad c.loop-rest.numbers c.loop-rest.rest.now c.loop-rest.left _ c.loop-rest-test.ensures c.in_default.ensures c.loop-rest.invariant

pub loop-rest-preserved : goal.loop-rest-preserved
loop-rest-preserved c =
    numbers_step c.loop-rest.numbers c.loop-rest.rest.now c.push.new.self c.in-Some.more.now c.loop-rest.left c.in-Some.value _
    c.loop-rest-test.ensures c.if-left-eq0.false c.in-Some.ensures c.in_ok-push.ensures.ok c.loop-rest.invariant

pub returns : goal.returns
returns c = numbers_end c.loop-rest.numbers c.loop-rest.rest.now c.loop-rest.left _ c.loop-rest-test.ensures c.loop-rest.invariant
