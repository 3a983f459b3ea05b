-- What a builder's sections have to be, so that the module that it gives of them keeps the rules.
use Rattle.std.specs.Prelude.{◌≡◌, ℕ, ◌+◌, ◌<◌, ◌≤◌, Bool, true, false, ◌==◌, ◌&&◌, not, List, [], ◌∷◌, length, Option, None, if◌then◌else◌}
use Rattle.std.specs.List.{AllByRecursion, list_all, list_any}
use Rattle.std.specs.Option.{option_map_or}
use Rattle.gsl_base.specs.declared.stage.Stage.{Stage}
use Rattle.gsl_base.specs.declared.stage.Stage.TheVariants.{Vertex, Fragment, Compute}
use Rattle.gsl_words.specs.declared.module.Instr.{Instr}
use Rattle.gsl_words.specs.declared.module.Module.{Module}
use Rattle.gsl_instr.specs.declared.enumerant.storage_class.TheConstants as storage_class
use Rattle.gsl_valid.specs.CallRules.{most_calls}
use Rattle.gsl_valid.specs.ConstantRules.{is_constant}
use Rattle.gsl_valid.specs.DecorationRules.{decoration_kept, is_decorated}
use Rattle.gsl_valid.specs.EntryRules.{is_call_of, is_main, is_size, mark_kept}
use Rattle.gsl_valid.specs.GlobalRules.{is_global}
use Rattle.gsl_valid.specs.Ids.{defined, defines, mentions, needs}
use Rattle.gsl_valid.specs.Instruction.{is_such, passes_if, read}
use Rattle.gsl_valid.specs.Kinds as kinds
use Rattle.gsl_valid.specs.Kinds.{Decoration, Kind, Variable, constant_is, kind, shape_of, variable_is}
use Rattle.gsl_valid.specs.LayoutRules.{laid}
use Rattle.gsl_valid.specs.LimitRules.{is_within}
use Rattle.gsl_valid.specs.LocalityRules.{of_block}
use Rattle.gsl_valid.specs.Placed.{Code}
use Rattle.gsl_valid.specs.Sections.{has_numbers, most_bound}
use Rattle.gsl_valid.specs.TypeRules.{is_first, is_made}
use Rattle.gsl_valid.specs.Types.{defined_as}
use Rattle.gsl_spv.specs.Calls.{imports_of}
use Rattle.gsl_spv.specs.Finished.{module_of}
use Rattle.gsl_spv.specs.Growing.{all_of}
use Rattle.gsl_spv.specs.Sections.{Sections}
use Rattle.gsl_fitting.specs.Functions.{AreFunctions}

-- Ids ---------------------------------------------------------------------------------------------------------------

-- one, if so
abbrev pub one_if : Bool → ℕ
one_if b = if b then 1 else 0

-- how often some code defines an id
abbrev pub count_of : ℕ → Code → ℕ
count_of id [] = 0
count_of id (i ∷ code) = one_if (defines i id) + count_of id code

-- Each id of some code is defined once, is at least 1, and is below a bound.
pub record AreApart (bound : ℕ) (code : Code) : Type 0 where
  pub once : (id : ℕ) → count_of id code ≤ 1
  pub least : (id : ℕ) → 1 ≤ count_of id code → 1 ≤ id
  pub below : (id : ℕ) → 1 ≤ count_of id code → id < bound

-- Each instruction of some code has a property behind those before it, the nearest first.
abbrev pub Each : (Code → Instr → Type 0) → Code → Code → Type 0
Each P before [] = Unit {0}
Each P before (i ∷ code) = P before i × Each P (i ∷ before) code

-- One instruction of a section -----------------------------------------------------------------------------------------

-- whether it declares a type, a constant or a global variable
abbrev pub declares : Kind → Bool
declares (kinds.Declares shape) = true
declares (kinds.Fixes type value) = true
declares (kinds.Holds v) = not (v.class == storage_class.FUNCTION)
declares _ = false

module _ (m : Module) where
  -- whether an id is one that names and decorations may speak of: a block's values are not
  abbrev pub is_lasting : ℕ → Bool
  is_lasting id = defined m.instrs id && not (of_block (defined_as m id))

  -- An instruction is a name.
  pub record IsName (i : Instr) : Type 0 where
    pub is : kind (read i) ≡ kinds.Debugs
    pub numbers : is_such (has_numbers m) (read i) ≡ true
    pub names : list_all is_lasting (mentions (read i)) ≡ true

  -- An instruction is a decoration that may stand behind these decorations.
  pub record IsDecoration (before : Code) (i : Instr) : Type 0 where
    pub decoration : Decoration
    pub is : kind (read i) ≡ kinds.Decorates decoration
    pub numbers : is_such (has_numbers m) (read i) ≡ true
    pub names : list_all is_lasting (mentions (read i)) ≡ true
    pub kept : decoration_kept m before decoration ≡ true
    pub entry : mark_kept m before decoration.kind decoration.literals decoration.place ≡ true

  -- whether a variable has the decorations that it needs, behind these types, constants and variables
  abbrev pub has_marks : Code → Variable → Bool
  has_marks before v = is_decorated m before v.type v.id v.class

  -- An instruction is a type, a constant or a global variable that may stand behind these.
  pub record IsDeclaration (before : Code) (i : Instr) : Type 0 where
    pub is : declares (kind (read i)) ≡ true
    pub numbers : is_such (has_numbers m) (read i) ≡ true
    pub uses : list_all (defined before) (needs (read i)) ≡ true
    pub made : is_made m (is_first before i) (shape_of (read i)) ≡ true
    pub fixed : is_constant m (constant_is (read i)) ≡ true
    pub holds : is_global m (variable_is (read i)) ≡ true
    pub marked : option_map_or (has_marks before) (variable_is (read i)) true ≡ true
    pub laid : laid m before i ≡ true
    pub limits : passes_if (is_within m before) (read i) ≡ true

-- The sections ------------------------------------------------------------------------------------------------------

-- The sizes of a work group are three from 1 to 1024, where a stage has them.
abbrev pub HasSizes : Stage → List ℕ → Type 0
HasSizes Vertex local_size = Unit {0}
HasSizes Fragment local_size = Unit {0}
HasSizes Compute local_size = (length local_size ≡ 3) × (list_all is_size local_size ≡ true)

-- A builder's sections make a valid module with this function as its entry point. `rank` orders the functions: each calls only
-- those of a lower rank.
pub record AreSound (s : Sections) (main : ℕ) (local_size : List ℕ) : Type 0 where
  pub set : Option ℕ
  pub rank : ℕ → ℕ
  pub bound : s.last + 1 ≤ most_bound
  pub apart : AreApart (s.last + 1) (all_of s)
  pub imports : s.imports ≡ imports_of set
  pub names : AllByRecursion (IsName (module_of s main local_size)) s.names
  pub decorations : Each (IsDecoration (module_of s main local_size)) [] s.decorations
  pub globals : Each (IsDeclaration (module_of s main local_size)) [] s.globals
  pub functions : AreFunctions (module_of s main local_size) rank s.functions
  pub shallow : (id : ℕ) → rank id ≤ most_calls
  pub main_is : is_main (module_of s main local_size) (defined_as (module_of s main local_size) main) ≡ true
  pub uncalled : list_any (λ i. is_call_of main (read i)) s.functions ≡ false
  pub sizes : HasSizes s.stage local_size

-- The module of sections that are sound breaks a rule nowhere.
abbrev pub Unbroken : (Module → Option ℕ) → Type 0
Unbroken rule = (s : Sections) (main : ℕ) (local_size : List ℕ) → AreSound s main local_size → rule (module_of s main local_size) ≡ None
