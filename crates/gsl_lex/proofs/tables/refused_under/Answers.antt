use Rattle.std.proofs.Common.{ℕ, List, map, refl, Bor}
use Rattle.gsl_lex.specs.Searching.{under}
use Rattle.gsl_lex.specs.Refused.{alone, other_types, other_keywords, reserved, functions, variables}
use Rattle.gsl_lex.proofs.Letters.{picked}
use Rattle.gsl_lex.proofs.tables.refused_under.Goals as goal

pub returns : goal.returns
unfolding other_types other_keywords reserved functions variables
returns c =
    picked (λ (rows : Bor (List (Bor (List ℕ)))). map (λ row. row.now) rows.now) (under (λ (row : List ℕ). row) alone) _ c.args.letter _ c.rows_at.ensures refl c.requires
