-- What is known of a module while it is made section by section: what its ids stand for, and what a step of lowering does to it.
use Rattle.std.specs.Prelude.{◌≡◌, ℕ, ◌+◌, Bool, true, false, ◌==◌, List, Option, Some, ◌∷◌, ◌≤◌}
use Rattle.std.specs.List.{AllByRecursion, Contains}
use Rattle.gsl_types.specs.declared.ty.Scalar.{Scalar}
use Rattle.gsl_tree.specs.Shapes.{Shape}
use Rattle.gsl_words.specs.declared.module.Instr.{Instr}
use Rattle.gsl_words.specs.declared.module.Module.{Module}
use Rattle.gsl_valid.specs.Instruction.{read}
use Rattle.gsl_valid.specs.Ids.{result}
use Rattle.gsl_valid.specs.Kinds as kinds
use Rattle.gsl_valid.specs.Kinds.{Decoration, constant_is, constant_type, kind, type_of}
use Rattle.gsl_valid.specs.Types.{defined_as}
use Rattle.gsl_spv.specs.Calls.{imports_of}
use Rattle.gsl_spv.specs.Declarations as d
use Rattle.gsl_spv.specs.Declarations.{instr}
use Rattle.gsl_spv.specs.Finished.{module_of}
use Rattle.gsl_spv.specs.Growing.{Extends, all_of}
use Rattle.gsl_spv.specs.Once.{id_of}
use Rattle.gsl_spv.specs.Sections.{Sections}
use Rattle.gsl_spv.specs.declared.plain.PlainType.TheVariants as plain
use Rattle.gsl_lower_values.specs.Building.{Built, Made, Full}
use Rattle.gsl_lower_values.specs.Types.{plain_scalar}
use Rattle.gsl_fitting.specs.Fits.{Frame, Sits, is_known}
use Rattle.gsl_fitting_sections.specs.Sections.{AreApart, count_of, declares}
use Rattle.gsl_fitting_steps.specs.Keeping.{Goes}

-- ---- sections

-- Each section has what belongs there, and ids are apart.
pub record AreSorted (s : Sections) : Type 0 where
  pub set : Option ℕ
  pub imports : s.imports ≡ imports_of set
  pub names : AllByRecursion (λ i. kind (read i) ≡ kinds.Debugs) s.names
  pub decorations : AllByRecursion (λ i. (what : Decoration) × (kind (read i) ≡ kinds.Decorates what)) s.decorations
  pub globals : AllByRecursion (λ i. declares (kind (read i)) ≡ true) s.globals
  pub apart : AreApart (s.last + 1) (all_of s)

-- What a builder held stays in its sections, they stay sorted, and what is defined are new ids.
pub record Stays (before after : Sections) : Type 0 where
  pub extends : Extends before after
  pub sorted : AreSorted before → AreSorted after
  pub anew : (id : ℕ) → id ≤ before.last → count_of id (all_of after) ≡ count_of id (all_of before)

-- A step leaves sections so, where it comes to something.
abbrev pub Sorts : {A : Type 0} → Sections → Built A → Type 0
Sorts before (Made a after) = Stays before after
Sorts before Full = Unit {0}

-- ---- types and constants of sections

-- A scalar has one component, and a vector two to four.
pub record IsSized (shape : Shape) : Type 0 where
  pub some : 1 ≤ shape.1
  pub few : shape.1 ≤ 4

-- An id is that of a scalar type.
abbrev pub IsScalarType : Sections → Scalar → ℕ → Type 0
IsScalarType at s id = id_of (d.plain_type (plain_scalar s)) at.globals ≡ Some id

-- An id is that of a vector type.
pub record IsVectorType (at : Sections) (shape : Shape) (id : ℕ) : Type 0 where
  pub component : ℕ
  pub scalar : IsScalarType at shape.0 component
  pub is : id_of (d.plain_type (plain.Vector component shape.1)) at.globals ≡ Some id

abbrev pub IsTypeBy : Bool → Sections → Shape → ℕ → Type 0
IsTypeBy true at shape id = IsScalarType at shape.0 id
IsTypeBy false at shape id = IsVectorType at shape id

-- An id is that of the type of a scalar or vector.
abbrev pub IsTypeOf : Sections → Shape → ℕ → Type 0
IsTypeOf at shape id = IsTypeBy (shape.1 == 1) at shape id

-- An id is that of a constant of the type of a scalar or vector.
pub record IsConstant (at : Sections) (shape : Shape) (id : ℕ) : Type 0 where
  pub type : ℕ
  pub of : IsTypeOf at shape type
  pub i : Instr
  pub stands : Contains at.globals i
  pub named : result (read i) ≡ Some id
  pub fixed : constant_type (constant_is (read i)) ≡ Some type
  pub typed : type_of (read i) ≡ Some type

-- ---- ids of the module that is made in the end

module _ (whole : Sections) (main : ℕ) (local_size : List ℕ) (rank : ℕ → ℕ) (f : Frame) where
  abbrev pub made : Module
  made = module_of whole main local_size

  -- An id stands for a scalar or vector, and may be used in a block that has given these ids.
  pub record IsValue (given : List ℕ) (shape : Shape) (id : ℕ) : Type 0 where
    pub type : ℕ
    pub of : IsTypeOf whole shape type
    pub typed : type_of (defined_as made id) ≡ Some type
    pub known : is_known made f given id ≡ true

  -- An instruction gives a value of a type under whatever id, and may stand in a block that has given these ids.
  pub record Stands (given : List ℕ) (op : ℕ) (operands : List ℕ) (type : ℕ) : Type 0 where
    pub named : (id : ℕ) → result (read (instr op (type ∷ id ∷ operands))) ≡ Some id
    pub gives : (id : ℕ) → kind (read (instr op (type ∷ id ∷ operands))) ≡ kinds.Gives type
    pub sits : (id : ℕ) → Sits made rank f given (instr op (type ∷ id ∷ operands))

  -- ---- steps

  -- From one builder to the next what was put fits in the block that is open, and what was given is so behind it.
  pub record Brings {A : Type 0} (given : List ℕ) (Is : A → List ℕ → Sections → Type 0) (before : Sections) (a : A) (after : Sections) : Type 0 where
    pub now : List ℕ
    pub goes : Goes made rank f given now before after
    pub is : Is a now after

  -- Where what the builder holds then is part of what the module is made of, a step that comes to something brings this.
  abbrev pub Comes : {A : Type 0} → List ℕ → (A → List ℕ → Sections → Type 0) → Sections → Built A → Type 0
  Comes given Is before (Made a after) = Extends after whole → Brings given Is before a after
  Comes given Is before Full = Unit {0}

  -- a step gives a value
  abbrev pub GivesValue : Shape → ℕ → List ℕ → Sections → Type 0
  GivesValue shape id now after = IsValue now shape id
