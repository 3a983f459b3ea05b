use Rattle.std.proofs.Common.{sym, ◌∙◌}
use Rattle.gsl_asm.proofs.Strings.{text_bad, text_good}
use Rattle.gsl_asm.proofs.operand.put_bytes.Goals as goal

pub returns-in_default : goal.returns-in_default
returns-in_default c = text_bad c.args.bytes.now c.args.args.now c.in_default.ensures.cases.0

pub returns : goal.returns
returns c =
    text_good c.args.bytes.now c.in-Ok.text.now c.args.args.now c.push_string.new.args c.in-Ok.ensures.cases.1 (sym c.has_zero.ensures ∙ c.if-has_zero.false) c.in-Ok.ensures.cases.0
    c.in_ok-push_string.ensures
