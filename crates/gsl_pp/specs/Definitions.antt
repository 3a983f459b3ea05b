-- What `#define` and `#undef` do to the macros (GLSL 4.50, 3.3).
use Rattle.std.specs.Prelude.{ℕ, Bool, true, false, not, ◌==◌, ◌&&◌, ◌||◌, List, [], ◌∷◌, ◌++◌, map, Option, Some, None, Ok, Err, if◌then◌else◌}
use Rattle.std.specs.Str.{bytes_eq}
use denote.Enum.Bare.{sameb}
use Rattle.gsl_base.specs.contracts.token.Punct.{the_type as punct_type}
use Rattle.indexmap.specs.IndexMap.{insert_entry, swap_remove_entry}
use Rattle.gsl_base.specs.Checked.{Checked, ◌>>=◌}
use Rattle.gsl_base.specs.declared.fault.Code.TheVariants.{E0201, E0209, E0210, E0214, E0215}
use Rattle.gsl_base.specs.declared.fault.Place.{Place}
use Rattle.gsl_base.specs.declared.token.Raw.{Raw}
use Rattle.gsl_base.specs.declared.token.RawKind.{RawKind}
use Rattle.gsl_base.specs.declared.token.RawKind.TheVariants as raw
use Rattle.gsl_macros.specs.declared.spelled.Mark.{Mark}
use Rattle.gsl_macros.specs.declared.spelled.Mark.TheVariants.{Opens, Closes, Parts, Stands}
use Rattle.gsl_macros.specs.declared.table.Macro.{Macro}
use Rattle.gsl_macros.specs.declared.table.Macro.TheVariants.{Number, Object, Function}
use Rattle.gsl_macros.specs.Expanding.{Numbered, at, is_open}
use Rattle.gsl_macros.specs.Spelling.{number, word_of, mark_of}
use Rattle.gsl_macros.specs.Tables.{Entries, found}
use Rattle.gsl_pp.specs.declared.definition.Listed.{Listed}
use Rattle.gsl_pp.specs.Words.{is_hash, is_reserved}

abbrev pub kinds : List Raw → List RawKind
kinds raws = map (λ r. r.kind) raws

-- ---- the same definition

abbrev pub same_kind : RawKind → RawKind → Bool
same_kind (raw.Word a) (raw.Word b) = bytes_eq a b
same_kind (raw.Number a) (raw.Number b) = bytes_eq a b
same_kind (raw.Punct a) (raw.Punct b) = sameb punct_type a b
same_kind (raw.Stray a) (raw.Stray b) = a == b
same_kind _ _ = false

-- the same kinds and spellings
abbrev pub same_kinds : List RawKind → List RawKind → Bool
same_kinds [] [] = true
same_kinds [] (b ∷ bs) = false
same_kinds (a ∷ as_) [] = false
same_kinds (a ∷ as_) (b ∷ bs) = same_kind a b && same_kinds as_ bs

-- the same parameters in their order
abbrev pub same_names : List (List ℕ) → List (List ℕ) → Bool
same_names [] [] = true
same_names [] (b ∷ bs) = false
same_names (a ∷ as_) [] = false
same_names (a ∷ as_) (b ∷ bs) = bytes_eq a b && same_names as_ bs

-- whether a macro that there is is one that is defined
abbrev pub same_macro : Macro → Macro → Bool
same_macro (Number n) (Object body) = same_kinds (number n ∷ []) body
same_macro (Object a) (Object b) = same_kinds a b
same_macro (Function params a) (Function names b) = same_names params names && same_kinds a b
same_macro _ _ = false

-- ---- what a line defines

abbrev pub has : List (List ℕ) → List ℕ → Bool
has [] name = false
has (n ∷ names) name = bytes_eq n name || has names name

abbrev pub listed_on : (List (List ℕ) → Option Listed) → List (List ℕ) → List Raw → Mark → Option Listed
listed_on later names more Closes = Some (record { params = names; body = more })
listed_on later names more Parts = later names
listed_on later names more Opens = None
listed_on later names more Stands = None

abbrev pub listed_by : (List (List ℕ) → Option Listed) → List (List ℕ) → List Raw → Option (List ℕ) → Mark → Option Listed
listed_by later names more None mark = None
listed_by later names more (Some name) mark = if has names name then None else listed_on later (names ++ name ∷ []) more mark

-- The parameters, some of which were read, and what stands behind the parenthesis that closes them; none where one is no word or
-- stands twice.
unfoldable pub listed : List (List ℕ) → List Raw → Option Listed
listed names [] = None
listed names (a ∷ []) = None
listed names (a ∷ b ∷ more) = listed_by (λ names. listed names more) names more (word_of a.kind) (mark_of b.kind)

abbrev pub parameters_on : List Raw → List Raw → Mark → Option Listed
parameters_on raws more Closes = Some (record { params = []; body = more })
parameters_on raws more Opens = listed [] raws
parameters_on raws more Parts = listed [] raws
parameters_on raws more Stands = listed [] raws

-- the same from behind the `(`, where the list may be empty
abbrev pub parameters : List Raw → Option Listed
parameters [] = None
parameters (a ∷ more) = parameters_on (a ∷ more) more (mark_of a.kind)

abbrev pub has_hash : List Raw → Bool
has_hash [] = false
has_hash (r ∷ raws) = is_hash r.kind || has_hash raws

abbrev pub object : Place → List Raw → Checked Macro
object place body = if has_hash body then Err (at place E0215) else Ok (Object (kinds body))

abbrev pub function : Place → Option Listed → Checked Macro
function place None = Err (at place E0214)
function place (Some l) = if has_hash l.body then Err (at place E0215) else Ok (Function l.params (kinds l.body))

-- whether a list of parameters stands directly behind the name
abbrev pub has_list : Raw → Bool
has_list r = not r.spaced && is_open (mark_of r.kind)

-- what stands behind the name
abbrev pub meaning : Place → List Raw → Checked Macro
meaning place [] = object place []
meaning place (r ∷ more) = if has_list r then function place (parameters more) else object place (r ∷ more)

abbrev pub given_on : Place → Entries → List ℕ → Macro → Option Numbered → Checked Entries
given_on place table name m None = Ok (insert_entry bytes_eq table name m)
given_on place table name m (Some old) = if same_macro old.1 m then Ok table else Err (at place E0209)

abbrev pub given : Place → Entries → List ℕ → Macro → Checked Entries
given place table name m = given_on place table name m (found table name)

abbrev pub defined_as : Place → Entries → List Raw → Option (List ℕ) → Checked Entries
defined_as place table more None = Err (at place E0201)
defined_as place table more (Some name) = if is_reserved name then Err (at place E0210) else (meaning place more >>= λ m. given place table name m)

-- the macros after `#define`, of which this stands behind the word
abbrev pub define : Place → Entries → List Raw → Checked Entries
define place table [] = Err (at place E0201)
define place table (r ∷ more) = defined_as place table more (word_of r.kind)

abbrev pub alone : Place → List Raw → Option (List ℕ) → Checked (List ℕ)
alone place more None = Err (at place E0201)
alone place [] (Some name) = Ok name
alone place (r ∷ more) (Some name) = Err (at place E0201)

-- the one word that stands behind the word of a directive
abbrev pub one_name : Place → List Raw → Checked (List ℕ)
one_name place [] = Err (at place E0201)
one_name place (r ∷ more) = alone place more (word_of r.kind)

-- the macros after `#undef`
abbrev pub undef : Place → Entries → List Raw → Checked Entries
undef place table raws =
    one_name place raws >>= λ name. if is_reserved name then Err (at place E0210) else Ok (swap_remove_entry (bytes_eq name) table)
