use Rattle.std.proofs.Common.{arith}
use Rattle.gsl_words.proofs.Decoded.{are_bytes}
use Rattle.gsl_exec.proofs.Verdicts.{few_words, judges_module, judges_fault}
use Rattle.gsl_exec.proofs.judging.judged.Goals as goal

pub judged_module-requires-clause-words : goal.judged_module-requires-clause-words
judged_module-requires-clause-words c = few_words c.in-Ok.module c.args.bytes.now c.in-Ok.ensures.found.2 c.requires

pub returns-in-Ok : goal.returns-in-Ok
returns-in-Ok c =
    judges_module c.args.bytes.now c.in-Ok.module c.judged_module.result (are_bytes c.args.bytes.now (λ i. omega (arith, c.type_inv.bytes i))) c.in-Ok.ensures.found
    c.judged_module.ensures

pub returns-in-Err : goal.returns-in-Err
returns-in-Err c =
    judges_fault c.args.bytes.now c.in-Err.fault c.rejection.result (are_bytes c.args.bytes.now (λ i. omega (arith, c.type_inv.bytes i))) c.in-Err.ensures.fault
    c.rejection.ensures
