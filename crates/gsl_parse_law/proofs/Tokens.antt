-- The tokens of a source have literals that are words, and names that are names.
use Rattle.std.proofs.Common.{refl, ℕ, IsTrue, List, [], ◌∷◌, false, Ok, Err}
use Rattle.gsl_base.specs.Checked.{Checked, ◌>>=◌}
use Rattle.gsl_base.specs.declared.token.Raw.{Raw}
use Rattle.gsl_base.specs.declared.token.RawKind.{RawKind}
use Rattle.gsl_base.specs.declared.token.Token.{Token}
use Rattle.gsl_macros.specs.declared.stream.Hid.{Hid}
use Rattle.gsl_macros.specs.Expanding.{Seen}
use Rattle.gsl_lex.specs.Raws.{raws_of}
use Rattle.gsl_pp.specs.Unit.{unit_of, live_of, live_tokens, preprocessed}
use Rattle.gsl_parse_law.specs.Live.{is_live, AreLive}
use Rattle.gsl_parse_law.proofs.Raws.{is_whole, AreWhole, GivesWhole, raws_whole}
use Rattle.gsl_parse_law.proofs.Cooked.{GivesLive, token_live}
use Rattle.gsl_parse_law.proofs.Given.{Holds, holds_then, AllOf}
use Rattle.gsl_parse_law.proofs.Preprocessed.{unit_all}

abbrev IsWhole : RawKind → Type 0
IsWhole k = IsTrue (is_whole k)

abbrev LiveToken : Token → Type 0
LiveToken t = IsTrue (is_live t.kind)

gives_holds : (c : Checked Token) → GivesLive c → Holds LiveToken c
gives_holds (Ok t) h = h
gives_holds (Err fault) h = tt

looked_live : (t : Hid) → IsWhole t.spelled → Holds LiveToken (live_of t)
unfolding live_of
looked_live t whole = let raw : Raw = record { place = t.place; kind = t.spelled; starts_line = false; spaced = false } in gives_holds (live_of t) (token_live raw whole)

ended_live : (ends : Checked ℕ) → Holds AreLive (live_tokens [] ends)
unfolding live_tokens
ended_live (Ok left) = tt
ended_live (Err fault) = tt

tokens_live : (given : Seen) (ends : Checked ℕ) → AllOf IsWhole given → Holds AreLive (live_tokens given ends)
unfolding live_tokens
tokens_live [] ends all = ended_live ends
tokens_live (t ∷ given) ends all =
    holds_then LiveToken AreLive (live_of t) (λ first. live_tokens given ends >>= λ others. Ok (first ∷ others)) (looked_live t all.0)
    (λ first is. holds_then AreLive AreLive (live_tokens given ends) (λ others. Ok (first ∷ others)) (tokens_live given ends all.1) (λ others are. (is, are)))

-- the live tokens of raw tokens without a zero byte
pub preprocessed_live : (unit : ℕ) (raws : List Raw) → AreWhole raws → Holds AreLive (preprocessed unit raws)
unfolding preprocessed
preprocessed_live unit raws whole = tokens_live (unit_of unit raws).given (unit_of unit raws).ends (unit_all IsWhole (λ n. refl) unit raws whole)

whole_holds : (c : Checked (List Raw)) → GivesWhole c → Holds AreWhole c
whole_holds (Ok raws) h = h
whole_holds (Err fault) h = tt

-- and those of a source file
pub source_live : (unit : ℕ) (bytes : List ℕ) → Holds AreLive (raws_of unit bytes >>= preprocessed unit)
source_live unit bytes = holds_then AreWhole AreLive (raws_of unit bytes) (preprocessed unit) (whole_holds (raws_of unit bytes) (raws_whole unit bytes)) (preprocessed_live unit)
