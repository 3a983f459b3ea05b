-- How a token is spelled, and what it is to a macro.
use Rattle.std.specs.Prelude.{ℕ, false, List, Option, Some, None}
use Rattle.std.specs.Fmt.{decimal}
use Rattle.gsl_base.specs.Checked.{Checked}
use Rattle.gsl_base.specs.declared.fault.Place.{Place}
use Rattle.gsl_base.specs.declared.token.Punct.{Punct}
use Rattle.gsl_base.specs.declared.token.Punct.TheVariants.{LeftParen, RightParen, Comma}
use Rattle.gsl_base.specs.declared.token.RawKind.{RawKind}
use Rattle.gsl_base.specs.declared.token.RawKind.TheVariants as raw
use Rattle.gsl_base.specs.declared.token.Token.{Token}
use Rattle.gsl_lex.specs.Cooking.{token_of}
use Rattle.gsl_macros.specs.declared.spelled.Mark.{Mark}
use Rattle.gsl_macros.specs.declared.spelled.Mark.TheVariants.{Opens, Closes, Parts, Stands}

-- a number as it is written in decimal
abbrev pub number : ℕ → RawKind
number n = raw.Number (decimal n)

abbrev pub shared_or : RawKind → Option RawKind → RawKind
shared_or own None = own
shared_or own (Some kind) = kind

abbrev pub word_of : RawKind → Option (List ℕ)
word_of (raw.Word text) = Some text
word_of (raw.Number text) = None
word_of (raw.Punct punct) = None
word_of (raw.Stray byte) = None

abbrev pub punct_of : RawKind → Option Punct
punct_of (raw.Word text) = None
punct_of (raw.Number text) = None
punct_of (raw.Punct punct) = Some punct
punct_of (raw.Stray byte) = None

abbrev pub mark_of_punct : Punct → Mark
mark_of_punct LeftParen = Opens
mark_of_punct RightParen = Closes
mark_of_punct Comma = Parts
mark_of_punct _ = Stands

abbrev pub mark_on : Option Punct → Mark
mark_on None = Stands
mark_on (Some punct) = mark_of_punct punct

-- what a token is to the arguments of a use
abbrev pub mark_of : RawKind → Mark
mark_of kind = mark_on (punct_of kind)

-- the live token of a spelling at a place, or its fault there
abbrev pub live : Place → RawKind → Checked Token
live place kind = token_of (record { place = place; kind = kind; starts_line = false; spaced = false })
