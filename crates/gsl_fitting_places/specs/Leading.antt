-- Pointers, and where parts lead from what they point to, as the rules of validity see it (SPIR-V 1.0, 2.16 and 3.32.8).
use Rattle.std.specs.Prelude.{◌≡◌, ℕ, ◌≤◌, Bool, true, false, ◌==◌, ◌&&◌, ◌||◌, not, if◌then◌else◌, List, [], ◌∷◌, length, Option, Some, None}
use Rattle.std.specs.List.{AllByRecursion, Contains, list_any}
use Rattle.gsl_instr.specs.declared.enumerant.decoration.TheConstants as decoration
use Rattle.gsl_instr.specs.declared.enumerant.storage_class.TheConstants as storage_class
use Rattle.gsl_tree.specs.Shapes.{is_integer}
use Rattle.gsl_words.specs.declared.module.Instr.{Instr}
use Rattle.gsl_words.specs.declared.module.Module.{Module}
use Rattle.gsl_valid.specs.CallRules.{target}
use Rattle.gsl_valid.specs.Ids.{result}
use Rattle.gsl_valid.specs.Instruction.{read}
use Rattle.gsl_valid.specs.Kinds.{kind, shape_of, variable_is}
use Rattle.gsl_valid.specs.LimitRules.{most_indexes}
use Rattle.gsl_valid.specs.MemoryRules.{is_base, is_in_buffer, leads_through, marks, part_by, stores}
use Rattle.gsl_valid.specs.Sections.{is_class}
use Rattle.gsl_valid.specs.Types.{defined_as, value_type}
use Rattle.gsl_spv.specs.Sections.{Sections}
use Rattle.gsl_lower_places.specs.declared.reached.Part.{Part}
use Rattle.gsl_lower_places.specs.declared.reached.Part.TheVariants.{Fixed, By}
use Rattle.gsl_fitting.specs.Fits.{Frame, is_known}
use Rattle.gsl_fitting_types.specs.Making.{IsValue, made}

-- An id is declared as a type of values: a scalar, a vector, an array or a struct.
pub record IsValueType (at : Sections) (type : ℕ) : Type 0 where
  pub i : Instr
  pub stands : Contains at.globals i
  pub named : result (read i) ≡ Some type
  pub value : value_type (read i) ≡ true

-- the number of a part, if it is known
abbrev pub told_number : Part → Option ℕ
told_number (Fixed number) = Some number
told_number (By s id) = None

-- ---- where parts lead

module _ (m : Module) where
  -- the type to which a part of a type leads: a member of a struct by a number that is known
  abbrev pub led_by : ℕ → Part → Option ℕ
  led_by type part = part_by true (told_number part) (shape_of (defined_as m type))

  -- the type to which parts lead, one within the other
  abbrev pub led : Option ℕ → List Part → Option ℕ
  led None parts = None
  led (Some type) [] = Some type
  led (Some type) (part ∷ parts) = led (led_by type part) parts

  -- whether a member on the way has a decoration
  abbrev pub marked_by : ℕ → Option ℕ → List Part → Bool
  marked_by kind None parts = false
  marked_by kind (Some type) [] = false
  marked_by kind (Some type) (part ∷ parts) = marks m kind (told_number part) (shape_of (defined_as m type)) || marked_by kind (led_by type part) parts

  -- whether parts of what a pointer leads to, or the pointer itself where there are none, lead through a member that has a decoration
  abbrev pub is_marked : ℕ → ℕ → ℕ → List Part → Bool
  is_marked kind id pointee [] = leads_through m kind (defined_as m id)
  is_marked kind id pointee (part ∷ parts) = marked_by kind (Some pointee) (part ∷ parts)

  -- whether they lead into a storage block
  abbrev pub is_buffered : ℕ → List Part → Bool
  is_buffered id [] = is_in_buffer m (defined_as m id)
  is_buffered id (part ∷ parts) = stores m (variable_is (defined_as m id))

  -- whether what parts of a pointer of a class lead to may be stored to
  abbrev pub may_change : ℕ → ℕ → ℕ → List Part → Bool
  may_change class id pointee parts =
      if class == storage_class.UNIFORM || class == storage_class.STORAGE_BUFFER
      then is_buffered id parts && not (is_marked decoration.NON_WRITABLE id pointee parts)
      else list_any (λ c. c == class) (storage_class.OUTPUT ∷ storage_class.PRIVATE ∷ storage_class.FUNCTION ∷ [])

  -- A chain may begin at an id, where there are parts: it is a variable or a parameter, and its class one of those that there are.
  abbrev pub MayBegin : ℕ → ℕ → List Part → Type 0
  MayBegin class id [] = Unit {0}
  MayBegin class id (part ∷ parts) = (is_base (kind (defined_as m id)) ≡ true) × (is_class m.version class ≡ true)

  -- Parts may be the indexes of a chain.
  pub record IsWay (class id : ℕ) (parts : List Part) : Type 0 where
    pub few : length parts ≤ most_indexes
    pub begins : MayBegin class id parts

-- ---- in the module that is made in the end

module _ (whole : Sections) (main : ℕ) (local_size : List ℕ) (rank : ℕ → ℕ) (f : Frame) where
  abbrev m : Module
  m = made whole main local_size rank f

  -- An id is a pointer of a class to a type, and may be used in a block that has given these ids.
  pub record IsPointer (given : List ℕ) (class pointee id : ℕ) : Type 0 where
    pub leads : target m id ≡ Some (record { class = class; pointee = pointee })
    pub known : is_known m f given id ≡ true

  -- A part is known by its number, or by an integer that such a block may use.
  abbrev pub IsIndex : List ℕ → Part → Type 0
  IsIndex given (Fixed number) = Unit {0}
  IsIndex given (By s id) = (is_integer s ≡ true) × IsValue whole main local_size rank f given (s, 1) id

  -- Parts lead from what a pointer leads to, to a type.
  pub record Leads (given : List ℕ) (class id pointee : ℕ) (parts : List Part) (type : ℕ) : Type 0 where
    pub pointer : IsPointer given class pointee id
    pub indexes : AllByRecursion (IsIndex given) parts
    pub leads : led m (Some pointee) parts ≡ Some type

  -- An id is a pointer to where parts of another lead.
  pub record IsLed (given : List ℕ) (class id pointee : ℕ) (parts : List Part) (type to : ℕ) : Type 0 where
    pub pointer : IsPointer given class type to
    pub marked : (kind : ℕ) → leads_through m kind (defined_as m to) ≡ is_marked m kind id pointee parts
    pub buffered : is_in_buffer m (defined_as m to) ≡ is_buffered m id parts

-- a step gives nothing
abbrev pub Nothing : Unit {0} → List ℕ → Sections → Type 0
Nothing done now after = Unit {0}
