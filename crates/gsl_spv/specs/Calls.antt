-- What each call of a builder does to its sections, and the id that it gives.
use Rattle.std.specs.Prelude.{◌≡◌, ℕ, ◌+◌, ◌<◌, ◌≤◌, Bool, true, false, List, [], ◌∷◌, ◌++◌, Option, Some, None, Result, Ok, Err, option_to_list, codes}
use Rattle.gsl_words.specs.declared.module.Instr.{Instr}
use Rattle.gsl_instr.specs.declared.op.TheConstants as op
use Rattle.gsl_instr.specs.declared.enumerant.decoration.TheConstants as decoration
use Rattle.gsl_instr.specs.Strings.{string_words}
use Rattle.gsl_spv.specs.declared.plain.PlainType.{PlainType}
use Rattle.gsl_spv.specs.declared.plain.PlainType.TheVariants as plain
use Rattle.gsl_spv.specs.declared.plain.PlainConst.{PlainConst}
use Rattle.gsl_spv.specs.declared.plain.PlainConst.TheVariants as of
use Rattle.gsl_spv.specs.declared.refusal.BuildRefusal.{BuildRefusal}
use Rattle.gsl_spv.specs.declared.refusal.BuildRefusal.TheVariants.{TooManyIds, Memory}
use Rattle.gsl_spv.specs.declared.refusal.TheConstants.{MOST_IDS}
use Rattle.gsl_spv.specs.Declarations as d
use Rattle.gsl_spv.specs.Declarations.{Declaration, instr, defining}
use Rattle.gsl_spv.specs.Once.{id_of}
use Rattle.gsl_spv.specs.Sections.{Sections}

-- an id, and the sections then
pub record Out : Type 0 where
  pub id : ℕ
  pub sections : Sections

abbrev pub out : ℕ → Sections → Out
out id s = record { id = id; sections = s }

-- the next id
abbrev pub take : Sections → Out
take s = out (s.last + 1) (record s { last = s.last + 1 })

-- a declaration under the next id
abbrev pub declare : Declaration → Sections → Out
declare d s = out (s.last + 1) (record s { globals = s.globals ++ defining d (s.last + 1) ∷ []; last = s.last + 1 })

abbrev pub known : Option ℕ → Declaration → Sections → Out
known (Some id) d s = out id s
known None d s = declare d s

-- a declaration under the id that it has, or, where it has none, the next
unfoldable pub intern : Declaration → Sections → Out
intern d s = known (id_of d s.globals) d s

abbrev pub plain_type : PlainType → Sections → Out
plain_type ty = intern (d.plain_type ty)

abbrev pub function_type : ℕ → List ℕ → Sections → Out
function_type returned params = intern (d.function_type returned params)

-- a truth value, whose type is declared with it
abbrev pub truth : Bool → Sections → Out
truth value s = let ty = plain_type plain.Bool s in intern (d.truth value ty.id) ty.sections

abbrev pub constant : PlainConst → Sections → Out
constant of.True = truth true
constant of.False = truth false
constant (of.Word ty bits) = intern (d.word ty bits)
constant (of.Null ty) = intern (d.null ty)

-- the declaration of a constant, where the type of truth values has this id
abbrev pub constant_by : PlainConst → ℕ → Declaration
constant_by of.True truths = d.truth true truths
constant_by of.False truths = d.truth false truths
constant_by (of.Word ty bits) truths = d.word ty bits
constant_by (of.Null ty) truths = d.null ty

abbrev pub composite : ℕ → List ℕ → Sections → Out
composite ty parts = intern (d.composite ty parts)

-- a decoration of an id, or of a member of it (SPIR-V 1.0, 3.32.3)
abbrev pub decorating : ℕ → Option ℕ → ℕ → Option ℕ → Instr
decorating target None what literal = instr op.DECORATE (target ∷ what ∷ option_to_list literal)
decorating target (Some member) what literal = instr op.MEMBER_DECORATE (target ∷ member ∷ what ∷ option_to_list literal)

abbrev pub decorate : ℕ → Option ℕ → ℕ → Option ℕ → Sections → Sections
decorate target member what literal s = record s { decorations = s.decorations ++ decorating target member what literal ∷ [] }

-- the stride of an array that has just been declared, if it has one
abbrev pub strided : Option ℕ → Out → Out
strided None o = o
strided (Some stride) o = out o.id (decorate o.id None decoration.ARRAY_STRIDE (Some stride) o.sections)

abbrev pub array_type : ℕ → ℕ → Option ℕ → Sections → Out
array_type element length stride s = strided stride (declare (d.array_type element length) s)

abbrev pub runtime_type : ℕ → ℕ → Sections → Out
runtime_type element stride s = strided (Some stride) (declare (d.runtime_type element) s)

abbrev pub struct_type : List ℕ → Sections → Out
struct_type members = declare (d.struct_type members)

abbrev pub global : ℕ → ℕ → Option ℕ → Sections → Out
global pointer class init = declare (d.variable pointer class init)

-- a name of an id, or of a member of it (SPIR-V 1.0, 3.32.2)
abbrev pub naming : ℕ → Option ℕ → List ℕ → Instr
naming target None text = instr op.NAME (target ∷ string_words text)
naming target (Some member) text = instr op.MEMBER_NAME (target ∷ member ∷ string_words text)

abbrev pub name : ℕ → Option ℕ → List ℕ → Sections → Sections
name target member text s = record s { names = s.names ++ naming target member text ∷ [] }

abbrev pub put : ℕ → List ℕ → Sections → Sections
put o args s = record s { functions = s.functions ++ instr o args ∷ [] }

-- the import of the instructions of GLSL under an id
abbrev pub importing : ℕ → Instr
importing id = instr op.EXT_INST_IMPORT (id ∷ string_words (codes "GLSL.std.450"))

-- the imports, where the set has this id or none
abbrev pub imports_of : Option ℕ → List Instr
imports_of None = []
imports_of (Some id) = importing id ∷ []

abbrev pub first_of : List ℕ → Option ℕ
first_of [] = None
first_of (id ∷ operands) = Some id

-- the id of the first import
abbrev pub imported : List Instr → Option ℕ
imported [] = None
imported (i ∷ more) = first_of i.args

abbrev pub with_import : Option ℕ → Sections → Out
with_import (Some id) s = out id s
with_import None s = out (s.last + 1) (record s { imports = s.imports ++ importing (s.last + 1) ∷ []; last = s.last + 1 })

abbrev pub glsl_set : Sections → Out
glsl_set s = with_import (imported s.imports) s

-- How a call answers that gives an id: as said, unless one of the ids would be too great or memory was wanting, now or before.
abbrev pub Answers : Sections → Result ℕ BuildRefusal → Sections → Out → Type 0
Answers before (Ok id) after said = (before.wanting ≡ false) × (said ≡ out id after) × (after.last ≤ MOST_IDS)
Answers before (Err TooManyIds) after said = (before.wanting ≡ false) × (after.wanting ≡ false) × (MOST_IDS < said.sections.last)
Answers before (Err Memory) after said = after.wanting ≡ true

-- How a call answers that takes no id.
abbrev pub Does : {A : Type 0} → Sections → Result A BuildRefusal → Sections → Sections → Type 0
Does before (Ok _) after said = (before.wanting ≡ false) × (after ≡ said)
Does before (Err TooManyIds) after said = ⊥
Does before (Err Memory) after said = after.wanting ≡ true
