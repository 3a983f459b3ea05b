-- What the front end gives is as it is asked for.
use Rattle.std.proofs.Common.{◌≡◌, refl, subst, ℕ, List, [], ◌∷◌, length, Option, Some, None, Ok, Err}
use Rattle.std.specs.Option.{option_map}
use Rattle.gsl_base.specs.Checked.{Checked, ◌>>=◌}
use Rattle.gsl_base.specs.declared.token.Token.{Token}
use Rattle.gsl_syntax.specs.declared.statement.Global.{Global}
use Rattle.gsl_syntax.specs.Nesting.{first_deep}
use Rattle.gsl_syntax.specs.Sentences.{IsUnit}
use Rattle.gsl_expr.specs.Reading.{Tokens, Outcome}
use Rattle.gsl_parse.specs.Units.{globals}
use Rattle.gsl_parse.specs.Judged.{place_of, judged, unit_of}
use Rattle.gsl_parse.proofs.OneTree.{unit_is}
use Rattle.gsl_formed.specs.Formed.{IsParsed}
use Rattle.gsl_parse_law.specs.Live.{AreLive}
use Rattle.gsl_parse_law.specs.Sources.{tokens_in, unit_in}
use Rattle.gsl_parse_law.proofs.Given.{Holds}
use Rattle.gsl_parse_law.proofs.Statements.{unit_is_formed}
use Rattle.gsl_parse_law.proofs.UnitDepths.{unit_is_shallow}
use Rattle.gsl_parse_law.proofs.Tokens.{source_live}

-- what is in the answer
holds_of : {A : Type 0} (Q : A → Type 0) (c : Checked A) (x : A) → Holds Q c → c ≡ Ok x → Q x
holds_of {A = A} Q c x h is = subst (λ (d : Checked A). Holds Q d) is h

-- the tokens do not nest too deeply, and the reader took them all
read_by : (ts : Tokens) (us : List Global) (deep : Option Token) (o : Outcome (List Global)) → first_deep ts ≡ deep → judged ts (option_map place_of deep) o ≡ Ok us → (first_deep ts ≡ None) × (o ≡ Ok (us, []))
read_by ts us (Some t) o is e = absurd cc
read_by ts us None (Ok (tree, [])) is e = (is, all_read tree us e)
  where
    all_read : (a b : List Global) → (let r : Checked (List Global) = Ok a in r ≡ Ok b) → (let o : Outcome (List Global) = Ok (a, []) in o ≡ Ok (b, []))
    all_read a b e = cc
read_by ts us None (Ok (tree, t ∷ more)) is e = absurd cc
read_by ts us None (Err left) is e = absurd cc

-- a unit that stands for live tokens
pub derived_parsed : (ts : List Token) (us : List Global) → AreLive ts → IsUnit us ts → first_deep ts ≡ None → IsParsed us
derived_parsed ts us live derived shallow = record { formed = unit_is_formed derived live; shallow = unit_is_shallow derived shallow }

-- and the one that they read as
pub tokens_parsed : (ts : List Token) (us : List Global) → AreLive ts → unit_of ts ≡ Ok us → IsParsed us
tokens_parsed ts us live e =
    let read = read_by ts us (first_deep ts) (globals (length ts) ts) refl e in
    derived_parsed ts us live (unit_is (length ts) ts us read.1) read.0

pub source_is_live : (number : ℕ) (source : List ℕ) (ts : List Token) → tokens_in number source ≡ Ok ts → AreLive ts
source_is_live number source ts e = holds_of AreLive (tokens_in number source) ts (source_live number source) e

source_by : (c : Checked (List Token)) (us : List Global) → Holds AreLive c → (c >>= unit_of) ≡ Ok us → IsParsed us
source_by (Ok ts) us live e = tokens_parsed ts us live e
source_by (Err fault) us live e = absurd cc

-- the unit of a source file
pub source_parsed : (number : ℕ) (source : List ℕ) (us : List Global) → unit_in number source ≡ Ok us → IsParsed us
source_parsed number source us e = source_by (tokens_in number source) us (source_live number source) e

-- ---- what is made of it

parsed_holds : (c : Checked (List Global)) → ((us : List Global) → c ≡ Ok us → IsParsed us) → Holds IsParsed c
parsed_holds (Ok us) is = is us refl
parsed_holds (Err fault) is = tt

then_by : {A : Type 0} (Q : A → Type 0) (f : List Global → Checked A) (c : Checked (List Global)) (x : A) → Holds IsParsed c → ((us : List Global) (x : A) → IsParsed us → f us ≡ Ok x → Q x) → (c >>= f) ≡ Ok x → Q x
then_by Q f (Ok us) x is next e = next us x is e
then_by Q f (Err fault) x is next e = absurd cc

-- what each unit that is as it is asked for gives has a property, so what the unit of a source file gives has it
pub source_then : {A : Type 0} (Q : A → Type 0) (f : List Global → Checked A) → ((us : List Global) (x : A) → IsParsed us → f us ≡ Ok x → Q x) → (number : ℕ) (source : List ℕ) (x : A) → (unit_in number source >>= f) ≡ Ok x → Q x
source_then Q f next number source x e = then_by Q f (unit_in number source) x (parsed_holds (unit_in number source) (source_parsed number source)) next e
