-- V10: functions, their parameters and blocks, and the variables at their heads.
use Rattle.std.specs.Prelude.{ℕ, Bool, true, false, ◌==◌, ◌&&◌, List, [], ◌∷◌, drop, Option, Some, None}
use Rattle.gsl_words.specs.declared.module.Instr.{Instr}
use Rattle.gsl_words.specs.declared.module.Module.{Module}
use Rattle.gsl_instr.specs.declared.instruction.Instruction.{Instruction}
use Rattle.gsl_instr.specs.declared.enumerant.storage_class.TheConstants as storage_class
use Rattle.gsl_valid.specs.Instruction.{read}
use Rattle.gsl_valid.specs.Kinds.{Kind, Asks, Imports, Sets, Enters, Modes, Debugs, Decorates, Declares, Fixes, Holds, Begins, Takes, Calls, Gives, Does, Opens, Merges, Leaves, Ended, Absent, Shape, OfVoid, OfBool, OfInt, OfVector, OfArray, OfRuntimeArray, OfStruct, OfPointer, OfFunction, NoType, kind, shape_of}
use Rattle.gsl_valid.specs.Placed.{Code, count_of_words}
use Rattle.gsl_valid.specs.Search.{first_broken, from_here, whole, unless, ◌otherwise◌}
use Rattle.gsl_valid.specs.Types.{Target, target_of, defined_as, initialises}
use Rattle.gsl_valid.specs.Where.{Standing, Outside, Begun, AtHead, InBlock, AtMerge, Behind, ends_block, where_at}

-- whether it stands outside functions
abbrev pub outside : Standing → Bool
outside Outside = true
outside (Begun parameters) = false
outside AtHead = false
outside InBlock = false
outside AtMerge = false
outside Behind = false

-- whether no parameter is still to come
abbrev pub none_due : List ℕ → Bool
none_due [] = true
none_due (type ∷ types) = false

-- whether a block may begin: behind a Function of which no parameter is still to come, or behind a block
abbrev pub may_begin : Standing → Bool
may_begin Outside = false
may_begin (Begun parameters) = none_due parameters
may_begin AtHead = false
may_begin InBlock = false
may_begin AtMerge = false
may_begin Behind = true

-- whether the next parameter is of a type
abbrev pub is_due : ℕ → List ℕ → Bool
is_due type [] = false
is_due type (next ∷ types) = next == type

-- whether a parameter of a type may stand here
abbrev pub may_take : ℕ → Standing → Bool
may_take type Outside = false
may_take type (Begun parameters) = is_due type parameters
may_take type AtHead = false
may_take type InBlock = false
may_take type AtMerge = false
may_take type Behind = false

-- whether it stands in a block
abbrev pub in_block : Standing → Bool
in_block Outside = false
in_block (Begun parameters) = false
in_block AtHead = true
in_block InBlock = true
in_block AtMerge = true
in_block Behind = false

-- whether it stands behind a block
abbrev pub behind : Standing → Bool
behind Outside = false
behind (Begun parameters) = false
behind AtHead = false
behind InBlock = false
behind AtMerge = false
behind Behind = true

-- whether a function type has this result type
abbrev pub gives_type : ℕ → Shape → Bool
gives_type type OfVoid = false
gives_type type OfBool = false
gives_type type (OfInt signedness) = false
gives_type type (OfVector component count) = false
gives_type type (OfArray element length) = false
gives_type type (OfRuntimeArray element) = false
gives_type type (OfStruct id members) = false
gives_type type (OfPointer class pointee) = false
gives_type type (OfFunction returned parameters) = returned == type
gives_type type NoType = false

abbrev pub gives : ℕ → Option Instruction → Bool
gives type d = gives_type type (shape_of d)

-- whether a variable of a class, in a function, has its pointer's class and its initialiser
abbrev pub is_local_of : Module → ℕ → List ℕ → Option Target → Bool
is_local_of m class initialiser None = false
is_local_of m class initialiser (Some target) = target.class == class && class == storage_class.FUNCTION && initialises m target.pointee initialiser

-- whether a variable may stand here: anywhere outside functions, else of class Function at a function's head
abbrev pub may_be_variable : Module → ℕ → ℕ → List ℕ → Standing → Bool
may_be_variable m type class initialiser Outside = true
may_be_variable m type class initialiser (Begun parameters) = false
may_be_variable m type class initialiser AtHead = is_local_of m class initialiser (target_of (defined_as m type))
may_be_variable m type class initialiser InBlock = false
may_be_variable m type class initialiser AtMerge = false
may_be_variable m type class initialiser Behind = false

-- whether code begins with the last instruction of a block; where there is no more code, its end breaks the rule
abbrev pub block_ends : Code → Bool
block_ends [] = true
block_ends (i ∷ code) = ends_block (read i)

-- whether an instruction may stand where the code stands, with this code behind it
abbrev pub may_stand_here : Module → Code → Standing → Kind → Bool
may_stand_here m later standing Asks = true
may_stand_here m later standing Imports = true
may_stand_here m later standing Sets = true
may_stand_here m later standing (Enters model function name interface) = true
may_stand_here m later standing (Modes function mode parts) = true
may_stand_here m later standing Debugs = true
may_stand_here m later standing (Decorates d) = true
may_stand_here m later standing (Declares shape) = true
may_stand_here m later standing (Fixes type value) = true
may_stand_here m later standing (Holds v) = may_be_variable m v.type v.class v.initialiser standing
may_stand_here m later standing (Begins type id function_type) = outside standing && gives type (defined_as m function_type)
may_stand_here m later standing (Takes type) = may_take type standing
may_stand_here m later standing (Calls type function arguments) = in_block standing
may_stand_here m later standing (Gives type) = in_block standing
may_stand_here m later standing Does = in_block standing
may_stand_here m later standing Opens = may_begin standing
may_stand_here m later standing Merges = in_block standing && block_ends later
may_stand_here m later standing Leaves = in_block standing
may_stand_here m later standing Ended = behind standing
may_stand_here m later standing Absent = true

-- whether V10 is kept by an instruction
abbrev pub in_shape : Module → Code → Instr → Bool
in_shape m before i = may_stand_here m (drop 1 (from_here m before)) (where_at m before).standing (kind (read i))

-- the first instruction that breaks V10, or the end where a FunctionEnd must still come
abbrev pub function_shape : Module → Option ℕ
function_shape m = first_broken (in_shape m) m otherwise unless (outside (where_at m (whole m)).standing) (count_of_words m)
