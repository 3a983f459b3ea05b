-- The live token that a raw token becomes, or its fault.
use Rattle.std.specs.Prelude.{ℕ, nat_lt, List, length, Option, Some, None, Result, Ok, Err, if◌then◌else◌}
use Rattle.gsl_base.specs.declared.fault.Code.{Code}
use Rattle.gsl_base.specs.declared.fault.Code.TheVariants.{E0101, E0103, E0104, E0105, E0106}
use Rattle.gsl_base.specs.declared.fault.Place.{Place}
use Rattle.gsl_base.specs.declared.token.Key.{Key}
use Rattle.gsl_base.specs.declared.token.Kind.{Kind}
use Rattle.gsl_base.specs.declared.token.Kind.TheVariants as live
use Rattle.gsl_base.specs.declared.token.Raw.{Raw}
use Rattle.gsl_base.specs.declared.token.RawKind.{RawKind}
use Rattle.gsl_base.specs.declared.token.RawKind.TheVariants.{Word, Number, Punct, Stray}
use Rattle.gsl_base.specs.declared.token.Token.{Token}
use Rattle.gsl_base.specs.Checked.{Checked}
use Rattle.gsl_lex.specs.Literals.{is_floating, literal_of}
use Rattle.gsl_lex.specs.Tables.{key_of, is_refused}

-- a kind of token, or the code of a fault
abbrev pub Cooked : Type 0
Cooked = Result Kind Code

abbrev pub key_or_name : List ℕ → Option Key → Cooked
key_or_name text None = Ok (live.Name text)
key_or_name text (Some key) = Ok (live.Key key)

-- a keyword or a name: the word is not refused and has at most 1,024 bytes
abbrev pub word : List ℕ → Cooked
word text = if is_refused text then Err E0105 else (if nat_lt 1024 (length text) then Err E0106 else key_or_name text (key_of text))

abbrev pub literal_or : Option Kind → Cooked
literal_or None = Err E0103
literal_or (Some kind) = Ok kind

abbrev pub number : List ℕ → Cooked
number text = if is_floating text then Err E0104 else literal_or (literal_of text)

abbrev pub cooked : RawKind → Cooked
cooked (Word text) = word text
cooked (Number text) = number text
cooked (Punct punct) = Ok (live.Punct punct)
cooked (Stray a) = Err E0101

abbrev pub placed : Place → Cooked → Checked Token
placed place (Ok kind) = Ok (record { place = place; kind = kind })
placed place (Err code) = Err (record { place = place; code = code })

-- the token at the place of the raw token, or the fault there
unfoldable pub token_of : Raw → Checked Token
token_of raw = placed raw.place (cooked raw.kind)
