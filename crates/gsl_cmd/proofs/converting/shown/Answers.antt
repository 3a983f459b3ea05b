use Rattle.std.proofs.Common.{Ok, ap, arith}
use Rattle.gsl_words.proofs.Decoded.{are_bytes}
use Rattle.gsl_exec.proofs.Verdicts.{few_instrs, few_words}
use Rattle.gsl_cmd.proofs.Conversions.{rejects_gives}
use Rattle.gsl_cmd.proofs.converting.shown.Goals as goal

pub show-requires-clause-few : goal.show-requires-clause-few
show-requires-clause-few c = few_instrs c.in-Ok.module (few_words c.in-Ok.module c.args.bytes.now c.in-Ok.ensures.found.2 c.requires)

pub returns-in-Ok-show : goal.returns-in-Ok-show
returns-in-Ok-show c =
    let fit = are_bytes c.args.bytes.now (λ i. omega (arith, c.type_inv.bytes i)) in
    (Ok c.in-Ok.module, ((λ again. c.in-Ok.ensures.found), (λ other. absurd (other fit))), ap Ok c.in-Ok-show.ensures.shown)

pub returns : goal.returns
returns c =
    rejects_gives c.args.bytes.now c.in-Err.fault c.rejection.result c.refused.result (are_bytes c.args.bytes.now (λ i. omega (arith, c.type_inv.bytes i))) c.in-Err.ensures.fault
    c.rejection.ensures c.refused.ensures
