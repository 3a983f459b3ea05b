-- What ids stand for while a function runs, and what a module says of types and constants.
use Rattle.std.specs.Prelude.{◌≡◌, ℕ, ◌<◌, Bool, true, List, [], ◌∷◌, length, Some, None}
use Rattle.std.specs.List.{AllByRecursion, Contains}
use Rattle.gsl_types.specs.declared.ty.Scalar.{Scalar}
use Rattle.gsl_words.specs.declared.module.Instr.{Instr}
use Rattle.gsl_words.specs.declared.module.Module.{Module}
use Rattle.gsl_values.specs.declared.value.Value.{Value}
use Rattle.gsl_values.specs.declared.value.Value.TheVariants.{Word, Many}
use Rattle.gsl_values.specs.Word.{word_of_bool}
use Rattle.gsl_tree.specs.Shapes.{Shape}
use Rattle.gsl_tree.specs.Values.{is_word_of, of_components}
use Rattle.gsl_valid.specs.Ids.{result}
use Rattle.gsl_valid.specs.Instruction.{read}
use Rattle.gsl_valid.specs.Kinds.{Gives, kind, shape_of}
use Rattle.gsl_valid.specs.OperandRules.{is_vector}
use Rattle.gsl_valid.specs.Types.{defined_as}
use Rattle.gsl_machine.specs.State.{Held, Ids, Whole}
use Rattle.gsl_spv.specs.Declarations as d
use Rattle.gsl_spv.specs.Declarations.{defining}
use Rattle.gsl_spv.specs.Sections.{Sections}
use Rattle.gsl_spv.specs.declared.plain.PlainType.TheVariants as plain

-- ---- ids

-- An id stands for a value.
abbrev pub Stands : Ids → ℕ → Value → Type 0
Stands ids id v = ids id ≡ Some (Whole v)

-- Ids stand for values, in their order.
abbrev pub StandEach : Ids → List ℕ → List Value → Type 0
StandEach ids [] [] = Unit {0}
StandEach ids [] (v ∷ vs) = ⊥
StandEach ids (id ∷ more) [] = ⊥
StandEach ids (id ∷ more) (v ∷ vs) = Stands ids id v × StandEach ids more vs

-- What stands for something stands for the same.
pub record Keeps (ids later : Ids) : Type 0 where
  pub same : (id : ℕ) (held : Held) → ids id ≡ Some held → later id ≡ Some held

-- Ids stand for what lasts for the whole function, and beside it those that were given up to the last for something: those that are
-- given later stand for nothing yet.
pub record Ready (last : ℕ) (own ids : Ids) : Type 0 where
  pub lasting : Keeps own ids
  pub later : (id : ℕ) → last < id → ids id ≡ own id

-- ---- values of shapes

-- These are words of a scalar type.
abbrev pub AreWords : Scalar → List ℕ → Type 0
AreWords s = AllByRecursion (λ word. is_word_of s word ≡ true)

-- A value is the scalar or vector of a shape with some words.
pub record IsOf (shape : Shape) (v : Value) : Type 0 where
  pub words : List ℕ
  pub is : v ≡ of_components words
  pub count : length words ≡ shape.1
  pub fits : AreWords shape.0 words

-- ---- the module

-- What a module says whose types, constants and functions are those of some sections, in a function where these are the ids that last: a
-- vector type is one, a constant's id stands for its value, and what an instruction of a block gives does not last.
pub record Text (m : Module) (sections : Sections) (own : Ids) : Type 0 where
  pub vector : (component count id : ℕ) → Contains sections.globals (defining (d.plain_type (plain.Vector component count)) id) → is_vector (shape_of (defined_as m id)) ≡ true
  pub truth : (value : Bool) (type id : ℕ) → Contains sections.globals (defining (d.truth value type) id) → Stands own id (Word (word_of_bool value))
  pub word : (type bits id : ℕ) → Contains sections.globals (defining (d.word type bits) id) → Stands own id (Word bits)
  pub composite : (type : ℕ) (parts : List ℕ) (id : ℕ) (vs : List Value) → Contains sections.globals (defining (d.composite type parts) id) → StandEach own parts vs → Stands own id (Many vs)
  pub apart : (i : Instr) (type id : ℕ) → Contains sections.functions i → kind (read i) ≡ Gives type → result (read i) ≡ Some id → own id ≡ None
