use Rattle.std.proofs.Common.{sym, ap, ◌∙◌, arith}
use Rattle.gsl_text.proofs.Naturals.{digits_step, natural_of_none, natural_stops, natural_large_product, natural_large_sum, natural_ends, value_next}
use Rattle.std.specs.Char.{digit_value}
use Rattle.gsl_text.proofs.numbers.natural.Goals as goal

pub returns-then-is_empty : goal.returns-then-is_empty
returns-then-is_empty c = natural_of_none c.args.base c.args.digits.now (grind arith)

pub returns-in_err-digit : goal.returns-in_err-digit
returns-in_err-digit c = c.from_residual.ensures ∙ natural_stops c.args.base c.loop-byte.byte-index c.args.digits.now (omega arith) (grind arith)

pub returns-in_err-checked_mul : goal.returns-in_err-checked_mul
returns-in_err-checked_mul c =
    c.from_residual-in_err-checked_mul.ensures
    ∙ natural_large_product c.args.base c.loop-byte.byte-index c.loop-byte.value c.args.digits.now (omega arith) (omega arith) c.loop-byte.invariant.value c.in_err-checked_mul.ensures

pub returns-in_err-value : goal.returns-in_err-value
returns-in_err-value c =
    c.from_residual-in_err-value.ensures
    ∙ natural_large_sum c.args.base c.loop-byte.byte-index c.loop-byte.value _ _ c.args.digits.now (omega arith) (omega arith) c.loop-byte.invariant.value
    c.in_ok-checked_mul.ensures.1 (c.in_ok-digit.ensures.value.1 ∙ ap digit_value c.from.ensures) c.in_err-value.ensures

pub loop-byte-preserved : goal.loop-byte-preserved
loop-byte-preserved c = record {
  value = value_next c.args.base c.loop-byte.byte-index c.loop-byte.value _ _ _ c.args.digits.now (omega arith) c.loop-byte.invariant.value
      c.in_ok-checked_mul.ensures.1 (c.in_ok-digit.ensures.value.1 ∙ ap digit_value c.from.ensures) c.in_ok-value.ensures.1;
  fits = omega (arith, c.in_ok-value.ensures.0, c.in_ok-value.ensures.1);
  all = digits_step c.args.base c.loop-byte.byte-index c.args.digits.now (omega arith) c.loop-byte.invariant.all (grind arith);
}

pub returns : goal.returns
returns c = natural_ends c.args.base c.loop-byte.byte-index c.loop-byte.value c.args.digits.now (omega arith) (sym c.is_empty.ensures ∙ c.if-is_empty.false) c.loop-byte.invariant.all c.loop-byte.invariant.value c.loop-byte.invariant.fits
