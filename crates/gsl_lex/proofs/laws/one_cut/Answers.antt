use Rattle.gsl_lex.specs.Reading.{cut_from}
use Rattle.gsl_lex.proofs.Cuts.{some_cutting, one_cutting, pieces_are_text}
use Rattle.gsl_lex.proofs.laws.one_cut.Goals as goal

pub returns : goal.returns
returns c = record { some = λ text. (cut_from text 0, some_cutting text); one = one_cutting; whole = pieces_are_text }
