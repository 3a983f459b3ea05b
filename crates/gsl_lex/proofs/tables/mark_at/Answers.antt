use Rattle.std.proofs.Common.{◌+◌, [], ◌∷◌, refl}
use Rattle.gsl_lex.specs.Spellings.{puncts}
use Rattle.gsl_lex.specs.Tables.{punct_of}
use Rattle.gsl_lex.proofs.Letters.{picked}
use Rattle.gsl_lex.proofs.tables.mark_at.Goals as goal

pub returns : goal.returns
unfolding puncts punct_of
returns c = picked (λ found. found) (λ i. punct_of ((33 + i) ∷ [])) _ c.args.index _ c.item_at.ensures refl c.requires
