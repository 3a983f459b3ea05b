-- What a live token is, by what the lexer makes of a spelling.
use Rattle.std.proofs.Common.{◌≡◌, refl, ℕ, ◌≤◌, ◌^◌, Bool, true, false, cond, ◌&&◌, IsTrue, nat_lt, List, length, Option, Some, None, Ok, Err}
use Rattle.std.specs.List.{list_all}
use Rattle.std.specs.Option.{option_map}
use Rattle.std.proofs.lemmas.Bool.{ltb-false, le-leb}
use Rattle.gsl_base.specs.declared.fault.Code.TheVariants.{E0104, E0105, E0106}
use Rattle.gsl_base.specs.declared.fault.Place.{Place}
use Rattle.gsl_base.specs.declared.token.Key.{Key}
use Rattle.gsl_base.specs.declared.token.Raw.{Raw}
use Rattle.gsl_base.specs.declared.token.RawKind.{RawKind}
use Rattle.gsl_base.specs.declared.token.RawKind.TheVariants as raw
use Rattle.gsl_base.specs.declared.token.Token.{Token}
use Rattle.gsl_base.specs.Checked.{Checked}
use Rattle.gsl_lex.specs.Literals.{is_floating, kind_of, if_word, is_digit_of, value_of, word_of, has_suffix, without_suffix, base_of, digits_of, literal_of}
use Rattle.gsl_lex.specs.Cooking.{Cooked, key_or_name, literal_or, cooked, placed, token_of}
use Rattle.gsl_lex.specs.Tables.{key_of, is_refused}
use Rattle.gsl_parse_law.specs.Live.{is_live}
use Rattle.gsl_parse_law.proofs.Phrases.{both}
use Rattle.gsl_parse_law.proofs.Raws.{is_whole}

abbrev CooksLive : Cooked → Type 0
CooksLive (Ok k) = IsTrue (is_live k)
CooksLive (Err code) = Unit {0}

-- ---- words

key_live : (text : List ℕ) (o : Option Key) → length text ≤ 1024 → IsTrue (list_all (λ byte. nat_lt 0 byte) text) → CooksLive (key_or_name text o)
key_live text None short whole = both (le-leb (length text) 1024 short) whole
key_live text (Some k) short whole = refl

long_live : (text : List ℕ) (b : Bool) → nat_lt 1024 (length text) ≡ b → IsTrue (list_all (λ byte. nat_lt 0 byte) text) → CooksLive (cond b (Err E0106) (key_or_name text (key_of text)))
long_live text true is whole = tt
long_live text false is whole = key_live text (key_of text) (ltb-false 1024 (length text) is) whole

word_live : (text : List ℕ) (b : Bool) → IsTrue (list_all (λ byte. nat_lt 0 byte) text) → CooksLive (cond b (Err E0105) (cond (nat_lt 1024 (length text)) (Err E0106) (key_or_name text (key_of text))))
word_live text true whole = tt
word_live text false whole = long_live text (nat_lt 1024 (length text)) refl whole

-- ---- numbers

abbrev IsWord : Option ℕ → Type 0
IsWord None = Unit {0}
IsWord (Some n) = IsTrue (nat_lt n (2 ^ 32))

if_word_is : (n : ℕ) (b : Bool) → nat_lt n (2 ^ 32) ≡ b → IsWord (cond b (Some n) None)
if_word_is n true is = is
if_word_is n false is = tt

digits_are : (b : Bool) (n : ℕ) → IsWord (cond b (if_word n) None)
digits_are true n = if_word_is n (nat_lt n (2 ^ 32)) refl
digits_are false n = tt

literal_by : (unsigned : Bool) (o : Option ℕ) → IsWord o → CooksLive (literal_or (option_map (kind_of unsigned) o))
literal_by unsigned None is = tt
literal_by true (Some n) is = is
literal_by false (Some n) is = is

literal_live : (text : List ℕ) → CooksLive (literal_or (literal_of text))
unfolding literal_of
literal_live text =
    let digits = digits_of (without_suffix text) in
    let base = base_of (without_suffix text) in
    literal_by (has_suffix text) (word_of base digits) (digits_are (nat_lt 0 (length digits) && list_all (is_digit_of base) digits) (value_of base digits))

number_live : (text : List ℕ) (b : Bool) → CooksLive (cond b (Err E0104) (literal_or (literal_of text)))
number_live text true = tt
number_live text false = literal_live text

-- ---- tokens

kind_live : (k : RawKind) → IsTrue (is_whole k) → CooksLive (cooked k)
kind_live (raw.Word text) whole = word_live text (is_refused text) whole
kind_live (raw.Number text) whole = number_live text (is_floating text)
kind_live (raw.Punct m) whole = refl
kind_live (raw.Stray a) whole = tt

abbrev pub GivesLive : Checked Token → Type 0
GivesLive (Ok t) = IsTrue (is_live t.kind)
GivesLive (Err fault) = Unit {0}

placed_live : (p : Place) (c : Cooked) → CooksLive c → GivesLive (placed p c)
placed_live p (Ok k) is = is
placed_live p (Err code) is = tt

-- The live token of a raw token has literals that are words, and names that are names.
pub token_live : (r : Raw) → IsTrue (is_whole r.kind) → GivesLive (token_of r)
unfolding token_of
token_live r whole = placed_live r.place (cooked r.kind) (kind_live r.kind whole)
