use Rattle.std.proofs.Common.{List, ap, subst, ◌∙◌}
use Rattle.gsl_base.specs.Checked.{Checked}
use Rattle.gsl_syntax.specs.declared.statement.Global.{Global}
use Rattle.gsl_parse.specs.Fed.{answer}
use Rattle.gsl_parse.specs.Judged.{Judges}
use Rattle.gsl_parse.proofs.Sourced.{list_answer}
use Rattle.gsl_parse.proofs.judging.listed.Goals as goal

pub returns : goal.returns
returns c = subst (λ (x : Checked (List Global)). Judges c.unit.result x) (ap answer c.in_ok-supply.ensures.comes ∙ list_answer c.args.tokens.now) c.unit.ensures
