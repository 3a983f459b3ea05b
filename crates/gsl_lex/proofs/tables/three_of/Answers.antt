use Rattle.std.proofs.Common.{◌∙◌, [], ◌∷◌}
use Rattle.gsl_lex.specs.Spellings.{puncts}
use Rattle.gsl_lex.proofs.Lengths.{punct_among}
use Rattle.gsl_lex.proofs.tables.three_of.Goals as goal

pub returns : goal.returns
unfolding puncts
returns c = c.lookup.ensures ∙ punct_among (c.args.first ∷ c.args.second ∷ c.args.third ∷ [])
