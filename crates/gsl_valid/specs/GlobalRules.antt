-- V6: the classes, types and initialisers of global variables.
use Rattle.std.specs.Prelude.{ℕ, Bool, true, false, ◌==◌, ◌&&◌, ◌||◌, List, length, Option, Some, None, if◌then◌else◌}
use Rattle.gsl_words.specs.declared.module.Instr.{Instr}
use Rattle.gsl_words.specs.declared.module.Module.{Module}
use Rattle.gsl_instr.specs.declared.enumerant.storage_class.TheConstants as storage_class
use Rattle.gsl_valid.specs.Instruction.{read}
use Rattle.gsl_valid.specs.Kinds.{Variable, variable_is}
use Rattle.gsl_valid.specs.Placed.{Code}
use Rattle.gsl_valid.specs.Search.{first_broken}
use Rattle.gsl_valid.specs.Types.{Target, target_of, defined_as, is_ints, is_struct, is_block_class, initialises}
use Rattle.gsl_valid.specs.ConstantRules.{is_whole}
use Rattle.gsl_valid.specs.Where.{where_at}

-- whether a global variable of a class may hold values of a type
abbrev pub holds : Module → ℕ → ℕ → Bool
holds m class type =
    if class == storage_class.INPUT || class == storage_class.OUTPUT then is_ints m type
    else if class == storage_class.PRIVATE then is_whole m type
    else is_block_class class && is_struct m type

-- whether it has the initialiser that its class needs, or none
abbrev pub begins_with : Module → ℕ → ℕ → List ℕ → Bool
begins_with m class type initialiser =
    if class == storage_class.PRIVATE || class == storage_class.OUTPUT then initialises m type initialiser else length initialiser == 0

-- whether a global variable fits what its type points to
abbrev pub is_global_of : Module → ℕ → List ℕ → Option Target → Bool
is_global_of m class initialiser None = false
is_global_of m class initialiser (Some target) =
    target.class == class && holds m class target.pointee && begins_with m class target.pointee initialiser

-- whether a variable, if it is one, may be a global one
abbrev pub is_global : Module → Option Variable → Bool
is_global m None = true
is_global m (Some v) = is_global_of m v.class v.initialiser (target_of (defined_as m v.type))

-- whether V6 is kept by an instruction
abbrev pub global_kept : Module → Code → Instr → Bool
global_kept m before i = (where_at m before).inside || is_global m (variable_is (read i))

-- the first instruction that breaks V6
abbrev pub globals : Module → Option ℕ
globals m = first_broken (global_kept m) m
