use Rattle.gsl_instr.proofs.Utf8.{utf8_test}
use Rattle.gsl_asm.proofs.operand.is_utf8.Goals as goal

pub returns : goal.returns
returns c = utf8_test c.args.bytes.now c.from_utf8.result c.is_ok.result _ _ c.is_ok.ensures.value c.from_utf8.ensures.cases
