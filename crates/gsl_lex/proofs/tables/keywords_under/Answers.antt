use Rattle.std.proofs.Common.{ℕ, List, map, refl, Bor}
use Rattle.gsl_base.specs.declared.token.Key.{Key}
use Rattle.gsl_lex.specs.Searching.{under}
use Rattle.gsl_lex.specs.Spellings.{keywords}
use Rattle.gsl_lex.proofs.Letters.{picked}
use Rattle.gsl_lex.proofs.tables.keywords_under.Goals as goal

pub returns : goal.returns
unfolding keywords
returns c =
    picked (λ (rows : Bor (List (Bor (List ℕ) × Key))). map (λ row. (row.0.now, row.1)) rows.now) (under (λ (row : List ℕ × Key). row.0) keywords) _ c.args.letter _ c.rows_at.ensures refl c.requires
