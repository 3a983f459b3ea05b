-- What the tables of words and punctuators say of a spelling.
use Rattle.std.specs.Prelude.{ℕ, Bool, true, false, List, [], ◌∷◌, Option, Some, None, if◌then◌else◌}
use Rattle.std.specs.Str.{bytes_eq}
use Rattle.gsl_base.specs.declared.token.Key.{Key}
use Rattle.gsl_base.specs.declared.token.Punct.{Punct}
use Rattle.gsl_lex.specs.Spellings.{puncts, keywords}
use Rattle.gsl_lex.specs.Refused.{refused}

-- what the first row of a table says that has the spelling
abbrev pub lookup : {A : Type 0} → List (List ℕ × A) → List ℕ → Option A
lookup [] spelling = None
lookup (row ∷ rows) spelling = if bytes_eq row.0 spelling then Some row.1 else lookup rows spelling

-- the punctuator that is spelled so
unfoldable pub punct_of : List ℕ → Option Punct
punct_of spelling = lookup puncts spelling

-- the keyword that is spelled so
unfoldable pub key_of : List ℕ → Option Key
key_of spelling = lookup keywords spelling

-- whether one of the rows is the word
abbrev pub among : List (List ℕ) → List ℕ → Bool
among [] word = false
among (row ∷ rows) word = if bytes_eq row word then true else among rows word

-- whether the word is one that the profile refuses
unfoldable pub is_refused : List ℕ → Bool
is_refused word = among refused word
