use Rattle.std.proofs.Common.{subst}
use Rattle.gsl_expr.specs.Reading.{Tokens}
use Rattle.gsl_syntax.specs.Sentences.{IsUnit}
use Rattle.gsl_parse.specs.Judged.{unit_of, Judges}
use Rattle.gsl_parse.proofs.Settled.{only_answer}
use Rattle.gsl_parse.proofs.OneTree.{parsed, one_unit}
use Rattle.gsl_parse.proofs.judging.parse.Goals as goal

pub returns-clause-derived : goal.returns-clause-derived
returns-clause-derived c = parsed c.args.tokens.now c.listed.result (subst (λ (ts : Tokens). Judges c.listed.result (unit_of ts)) c.as_slice.ensures c.listed.ensures)

pub returns-clause-only : goal.returns-clause-only
returns-clause-only c =
    let p = parsed c.args.tokens.now c.listed.result (subst (λ (ts : Tokens). Judges c.listed.result (unit_of ts)) c.as_slice.ensures c.listed.ensures) in
    only_answer IsUnit c.args.tokens.now c.listed.result p (one_unit c.args.tokens.now)
