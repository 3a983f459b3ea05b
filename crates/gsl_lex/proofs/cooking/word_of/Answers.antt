use Rattle.std.proofs.Common.{◌∙◌}
use Rattle.gsl_lex.specs.Literals.{word_of}
use Rattle.gsl_lex.proofs.Values.{goes_on, stops, ends, if_small}
use Rattle.gsl_lex.proofs.cooking.word_of.Goals as goal

pub returns-in_err-value : goal.returns-in_err-value
returns-in_err-value c =
    c.from_residual-in_err-value.ensures
    ∙ stops c.args.base c.loop-digit.value c.loop-digit.digit-index c.from.result c.in_ok-digit.digit c.args.digits.now (word_of c.args.base c.args.digits.now)
    c.requires.low c.loop-digit-test.true c.from.ensures c.in_ok-digit.ensures.value.0 c.in_ok-digit.ensures.value.1 c.in_err-value.ensures c.loop-digit.invariant.0

pub loop-digit-preserved : goal.loop-digit-preserved
loop-digit-preserved c = (
  goes_on c.args.base c.loop-digit.value c.loop-digit.digit-index c.from.result c.in_ok-digit.digit c.in_ok-value.value c.args.digits.now (word_of c.args.base c.args.digits.now)
      c.loop-digit-test.true c.from.ensures c.in_ok-digit.ensures.value.0 c.in_ok-digit.ensures.value.1 c.in_ok-value.ensures c.loop-digit.invariant.0,
  if_small _ _ c.in_ok-value.ensures,
)

pub returns : goal.returns
returns c = ends c.args.base c.loop-digit.value c.loop-digit.digit-index c.args.digits.now (word_of c.args.base c.args.digits.now) c.loop-digit.invariant.1 c.loop-digit-test.false c.loop-digit.invariant.0
