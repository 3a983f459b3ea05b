-- What the front end makes of a source file: the definitions of the lexer, the preprocessor, the limit on nesting and the grammar, one after
-- the other.
use Rattle.std.specs.Prelude.{ℕ, List}
use Rattle.gsl_base.specs.Checked.{Checked, ◌>>=◌}
use Rattle.gsl_base.specs.declared.token.Token.{Token}
use Rattle.gsl_syntax.specs.declared.statement.Global.{Global}
use Rattle.gsl_lex.specs.Raws.{raws_of}
use Rattle.gsl_pp.specs.Unit.{preprocessed}
use Rattle.gsl_parse.specs.Judged.{unit_of}

-- the live tokens of the source file of this number, or its first fault up to there
abbrev pub tokens_in : ℕ → List ℕ → Checked (List Token)
tokens_in number source = raws_of number source >>= preprocessed number

-- the unit that they spell, or the first fault of the source file
abbrev pub unit_in : ℕ → List ℕ → Checked (List Global)
unit_in number source = tokens_in number source >>= unit_of
