use Rattle.gsl_base.proofs.Prefixes.{stripped}
use Rattle.gsl_lex.proofs.tables.after.Goals as goal

pub returns : goal.returns
returns c = stripped c.args.head.now c.args.word.now _ c.strip_prefix.ensures.cases
