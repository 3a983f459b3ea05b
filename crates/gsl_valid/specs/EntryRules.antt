-- V9: the entry point, its mode and its interface; the locations and built-in variables of its stage.
use Rattle.std.specs.Prelude.{ℕ, Bool, true, false, ◌==◌, ◌&&◌, ◌||◌, not, nat_le, List, [], ◌∷◌, codes, Option, Some, None, filter_map, if◌then◌else◌}
use Rattle.std.specs.List.{list_any, list_all}
use Rattle.std.specs.Str.{bytes_eq}
use Rattle.gsl_words.specs.declared.module.Instr.{Instr}
use Rattle.gsl_words.specs.declared.module.Module.{Module}
use Rattle.gsl_instr.specs.declared.instruction.Instruction.{Instruction}
use Rattle.gsl_instr.specs.declared.enumerant.execution_model.TheConstants as execution_model
use Rattle.gsl_instr.specs.declared.enumerant.execution_mode.TheConstants as execution_mode
use Rattle.gsl_instr.specs.declared.enumerant.storage_class.TheConstants as storage_class
use Rattle.gsl_instr.specs.declared.enumerant.decoration.TheConstants as decoration
use Rattle.gsl_instr.specs.declared.enumerant.built_in.TheConstants as built_in
use Rattle.gsl_instr.specs.Strings.{string_words}
use Rattle.gsl_valid.specs.Instruction.{read}
use Rattle.gsl_valid.specs.Kinds.{Kind, Asks, Imports, Sets, Enters, Modes, Debugs, Decorates, Declares, Fixes, Holds, Begins, Takes, Calls, Gives, Does, Opens, Merges, Leaves, Ended, Absent, Shape, OfVoid, OfBool, OfInt, OfVector, OfArray, OfRuntimeArray, OfStruct, OfPointer, OfFunction, NoType, Variable, Place, On, OnMember, Decoration, kind, shape_of, variable_is, decoration_of}
use Rattle.gsl_valid.specs.Placed.{Code}
use Rattle.gsl_valid.specs.Search.{first_broken}
use Rattle.gsl_valid.specs.Types.{Scalar, Truths, Words, Lanes, defined_as, is_void, outside_of, lanes_of}
use Rattle.gsl_valid.specs.Decorations.{has}
use Rattle.gsl_valid.specs.DecorationRules.{pointee}

-- The function ------------------------------------------------------------------------------------------------

-- whether there are no ids
abbrev pub is_none_of : List ℕ → Bool
is_none_of [] = true
is_none_of (id ∷ ids) = false

-- whether a type is that of functions of no parameters and result Void
abbrev pub is_main_shape : Module → Shape → Bool
is_main_shape m OfVoid = false
is_main_shape m OfBool = false
is_main_shape m (OfInt signedness) = false
is_main_shape m (OfVector component count) = false
is_main_shape m (OfArray element length) = false
is_main_shape m (OfRuntimeArray element) = false
is_main_shape m (OfStruct id members) = false
is_main_shape m (OfPointer class pointee) = false
is_main_shape m (OfFunction returned parameters) = is_none_of parameters && is_void m returned
is_main_shape m NoType = false

abbrev pub is_main_type : Module → Option Instruction → Bool
is_main_type m d = is_main_shape m (shape_of d)

-- whether an instruction begins a function of no parameters and result Void
abbrev pub begins_main : Module → Kind → Bool
begins_main m Asks = false
begins_main m Imports = false
begins_main m Sets = false
begins_main m (Enters model function name interface) = false
begins_main m (Modes function mode parts) = false
begins_main m Debugs = false
begins_main m (Decorates d) = false
begins_main m (Declares shape) = false
begins_main m (Fixes type value) = false
begins_main m (Holds v) = false
begins_main m (Begins type id function_type) = is_main_type m (defined_as m function_type)
begins_main m (Takes type) = false
begins_main m (Calls type function arguments) = false
begins_main m (Gives type) = false
begins_main m Does = false
begins_main m Opens = false
begins_main m Merges = false
begins_main m Leaves = false
begins_main m Ended = false
begins_main m Absent = false

abbrev pub is_main : Module → Option Instruction → Bool
is_main m d = begins_main m (kind d)

-- whether an instruction calls a function
abbrev pub calls_it : ℕ → Kind → Bool
calls_it callee Asks = false
calls_it callee Imports = false
calls_it callee Sets = false
calls_it callee (Enters model function name interface) = false
calls_it callee (Modes function mode parts) = false
calls_it callee Debugs = false
calls_it callee (Decorates d) = false
calls_it callee (Declares shape) = false
calls_it callee (Fixes type value) = false
calls_it callee (Holds v) = false
calls_it callee (Begins type id function_type) = false
calls_it callee (Takes type) = false
calls_it callee (Calls type function arguments) = function == callee
calls_it callee (Gives type) = false
calls_it callee Does = false
calls_it callee Opens = false
calls_it callee Merges = false
calls_it callee Leaves = false
calls_it callee Ended = false
calls_it callee Absent = false

abbrev pub is_call_of : ℕ → Option Instruction → Bool
is_call_of id d = calls_it id (kind d)

-- whether nothing calls a function
abbrev pub is_uncalled : Module → ℕ → Bool
is_uncalled m id = not (list_any (λ i. is_call_of id (read i)) m.instrs)

-- The interface -----------------------------------------------------------------------------------------------

-- the id of a variable, if there is one and it is of Input or Output
abbrev pub interface_id : Option Variable → Option ℕ
interface_id None = None
interface_id (Some v) = if v.class == storage_class.INPUT || v.class == storage_class.OUTPUT then Some v.id else None

abbrev pub interface_variable : Option Instruction → Option ℕ
interface_variable d = interface_id (variable_is d)

-- the Input and Output variables
abbrev pub interface_of : Module → List ℕ
interface_of m = filter_map (λ i. interface_variable (read i)) (outside_of m)

-- whether an id is among some
abbrev pub is_among : List ℕ → ℕ → Bool
is_among ids id = list_any (λ other. other == id) ids

-- whether no id stands twice
abbrev pub all_differ : List ℕ → Bool
all_differ [] = true
all_differ (id ∷ ids) = not (is_among ids id) && all_differ ids

-- whether each of the ids stands once among the others, and no other does
abbrev pub lists_each : List ℕ → List ℕ → Bool
lists_each ids listed = list_all (is_among listed) ids && list_all (is_among ids) listed && all_differ listed

-- The mode ----------------------------------------------------------------------------------------------------

-- A mode of a function.
pub record Mode : Type 0 where
  pub function : ℕ
  pub mode : ℕ
  pub parts : List ℕ

-- the mode that an instruction gives
abbrev pub mode_in : Kind → Option Mode
mode_in Asks = None
mode_in Imports = None
mode_in Sets = None
mode_in (Enters model function name interface) = None
mode_in (Modes function mode parts) = Some (record { function = function; mode = mode; parts = parts })
mode_in Debugs = None
mode_in (Decorates d) = None
mode_in (Declares shape) = None
mode_in (Fixes type value) = None
mode_in (Holds v) = None
mode_in (Begins type id function_type) = None
mode_in (Takes type) = None
mode_in (Calls type function arguments) = None
mode_in (Gives type) = None
mode_in Does = None
mode_in Opens = None
mode_in Merges = None
mode_in Leaves = None
mode_in Ended = None
mode_in Absent = None

abbrev pub mode_of : Option Instruction → Option Mode
mode_of d = mode_in (kind d)

-- all modes of a module
abbrev pub modes_of : Module → List Mode
modes_of m = filter_map (λ i. mode_of (read i)) m.instrs

-- whether a part of LocalSize is one that it may be
abbrev pub is_size : ℕ → Bool
is_size part = nat_le 1 part && nat_le part 1024

-- whether the modes are those of a stage: one LocalSize for a compute shader, one OriginUpperLeft for a fragment
-- shader, and none for a vertex shader
abbrev pub are_modes : ℕ → ℕ → List Mode → Bool
are_modes model function [] = model == execution_model.VERTEX
are_modes model function (mode ∷ []) =
    mode.function == function
    && (model == execution_model.GL_COMPUTE && mode.mode == execution_mode.LOCAL_SIZE && list_all is_size mode.parts
    || model == execution_model.FRAGMENT && mode.mode == execution_mode.ORIGIN_UPPER_LEFT)
are_modes model function (mode ∷ other ∷ modes) = false

-- Locations and built-in variables -----------------------------------------------------------------------------

-- the stage that an entry point names, or else another
abbrev pub model_in : ℕ → Kind → ℕ
model_in later Asks = later
model_in later Imports = later
model_in later Sets = later
model_in later (Enters model function name interface) = model
model_in later (Modes function mode parts) = later
model_in later Debugs = later
model_in later (Decorates d) = later
model_in later (Declares shape) = later
model_in later (Fixes type value) = later
model_in later (Holds v) = later
model_in later (Begins type id function_type) = later
model_in later (Takes type) = later
model_in later (Calls type function arguments) = later
model_in later (Gives type) = later
model_in later Does = later
model_in later Opens = later
model_in later Merges = later
model_in later Leaves = later
model_in later Ended = later
model_in later Absent = later

abbrev pub model_or : ℕ → Option Instruction → ℕ
model_or later d = model_in later (kind d)

-- the stage of the entry point
abbrev pub model_of : Code → ℕ
model_of [] = execution_model.GL_COMPUTE
model_of (i ∷ code) = model_or (model_of code) (read i)

-- the class of a variable, if there is one
abbrev pub class_in : Option Variable → Option ℕ
class_in None = None
class_in (Some v) = Some v.class

abbrev pub class_of : Option Instruction → Option ℕ
class_of d = class_in (variable_is d)

-- whether there is a class, and it is this
abbrev pub is_of_class : ℕ → Option ℕ → Bool
is_of_class class None = false
is_of_class class (Some other) = other == class

-- whether there are two classes, and they are one
abbrev pub same_class : Option ℕ → Option ℕ → Bool
same_class None other = false
same_class (Some class) other = is_of_class class other

-- whether literals begin with a number
abbrev pub begin_with : ℕ → List ℕ → Bool
begin_with n [] = false
begin_with n (literal ∷ literals) = literal == n

-- whether a decoration of such a place and kind gives a variable of a class a location
abbrev pub locates : Module → Option ℕ → ℕ → ℕ → List ℕ → Place → Bool
locates m class location kind literals (On target) =
    kind == decoration.LOCATION && begin_with location literals && same_class class (class_of (defined_as m target))
locates m class location kind literals (OnMember target member) = false

-- whether a decoration, if there is one, gives a variable of a class a location
abbrev pub locates_one : Module → Option ℕ → ℕ → Option Decoration → Bool
locates_one m class location None = false
locates_one m class location (Some d) = locates m class location d.kind d.literals d.place

abbrev pub gives_location : Module → Option ℕ → ℕ → Option Instruction → Bool
gives_location m class location d = locates_one m class location (decoration_of d)

-- whether a variable may have a location: in no compute shader, where no decoration before gives it to another of its
-- class, and where it is flat if it is an input of a fragment shader
abbrev pub may_be_at : Module → Code → ℕ → ℕ → Bool
may_be_at m before target location =
    let model = model_of m.instrs in
    let class = class_of (defined_as m target) in
    not (model == execution_model.GL_COMPUTE) && not (list_any (λ i. gives_location m class location (read i)) before)
    && (not (model == execution_model.FRAGMENT && is_of_class storage_class.INPUT class) || has m decoration.FLAT target)

abbrev pub may_have_location : Module → Code → ℕ → List ℕ → Bool
may_have_location m before target [] = false
may_have_location m before target (location ∷ literals) = may_be_at m before target location

abbrev pub are_words_of : ℕ → ℕ → Scalar → ℕ → Bool
are_words_of sign size Truths n = false
are_words_of sign size (Words signedness) n = signedness == sign && n == size

-- whether components are so many of `int`, where the sign is 1, or `uint`, where it is 0
abbrev pub are_words : ℕ → ℕ → Option Lanes → Bool
are_words sign size None = false
are_words sign size (Some lanes) = are_words_of sign size lanes.scalar lanes.size

-- whether these components are those of a built-in variable of a stage
abbrev pub is_built_in_type : ℕ → ℕ → Option Lanes → Bool
is_built_in_type model n lanes =
    model == execution_model.GL_COMPUTE
    && ((n == built_in.NUM_WORKGROUPS || n == built_in.WORKGROUP_ID || n == built_in.LOCAL_INVOCATION_ID || n == built_in.GLOBAL_INVOCATION_ID) && are_words 0 3 lanes
    || n == built_in.LOCAL_INVOCATION_INDEX && are_words 0 1 lanes)
    || model == execution_model.VERTEX && (n == built_in.VERTEX_INDEX || n == built_in.INSTANCE_INDEX) && are_words 1 1 lanes

-- whether a variable, if there is one, may be a built-in one of a number
abbrev pub is_built_in : Module → ℕ → Option Variable → Bool
is_built_in m n None = false
is_built_in m n (Some v) = v.class == storage_class.INPUT && is_built_in_type (model_of m.instrs) n (lanes_of m (pointee m v.type))

abbrev pub is_built_in_of : Module → List ℕ → Option Instruction → Bool
is_built_in_of m [] d = false
is_built_in_of m (n ∷ literals) d = is_built_in m n (variable_is d)

-- The rule ----------------------------------------------------------------------------------------------------

-- the words of the name of the entry point
abbrev pub main_words : List ℕ
main_words = string_words (codes "main")

-- whether a decoration of such a place and kind keeps V9
abbrev pub mark_kept : Module → Code → ℕ → List ℕ → Place → Bool
mark_kept m before kind literals (On target) =
    if kind == decoration.LOCATION then may_have_location m before target literals
    else if kind == decoration.BUILT_IN then is_built_in_of m literals (defined_as m target) else true
mark_kept m before kind literals (OnMember target member) = true

-- whether V9 is kept by an entry point or by a decoration
abbrev pub entry_of : Module → Code → Kind → Bool
entry_of m before Asks = true
entry_of m before Imports = true
entry_of m before Sets = true
entry_of m before (Enters model function name interface) =
    bytes_eq name main_words && is_main m (defined_as m function) && is_uncalled m function && lists_each (interface_of m) interface
    && are_modes model function (modes_of m)
entry_of m before (Modes function mode parts) = true
entry_of m before Debugs = true
entry_of m before (Decorates d) = mark_kept m before d.kind d.literals d.place
entry_of m before (Declares shape) = true
entry_of m before (Fixes type value) = true
entry_of m before (Holds v) = true
entry_of m before (Begins type id function_type) = true
entry_of m before (Takes type) = true
entry_of m before (Calls type function arguments) = true
entry_of m before (Gives type) = true
entry_of m before Does = true
entry_of m before Opens = true
entry_of m before Merges = true
entry_of m before Leaves = true
entry_of m before Ended = true
entry_of m before Absent = true

-- whether V9 is kept by an instruction
abbrev pub entry_kept : Module → Code → Instr → Bool
entry_kept m before i = entry_of m before (kind (read i))

-- the first instruction that breaks V9
abbrev pub entry : Module → Option ℕ
entry m = first_broken (entry_kept m) m
