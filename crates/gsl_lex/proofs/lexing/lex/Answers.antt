use Rattle.gsl_lex.specs.Raws.{raws_of, IsLexed}
use Rattle.gsl_lex.proofs.Answered.{gives_answers, is_lexed, gives_lines}
use Rattle.gsl_lex.proofs.lexing.lex.Goals as goal

pub returns : goal.returns
returns c = record {
  answer = c.tokens.ensures;
  cut = gives_answers (IsLexed c.args.unit c.args.bytes.now) c.tokens.result (raws_of c.args.unit c.args.bytes.now) c.tokens.ensures (is_lexed c.args.unit c.args.bytes.now);
  lines = gives_lines c.args.unit c.args.bytes.now c.tokens.result c.tokens.ensures;
}
