-- V11: calls, their arguments, their cycles and their depth.
use Rattle.std.specs.Prelude.{ℕ, zero, suc, Bool, true, false, ◌==◌, ◌&&◌, ◌||◌, not, List, [], ◌∷◌, length, Option, Some, None, if◌then◌else◌}
use Rattle.std.specs.List.{list_any, list_all, cons_option}
use Rattle.gsl_words.specs.declared.module.Instr.{Instr}
use Rattle.gsl_words.specs.declared.module.Module.{Module}
use Rattle.gsl_instr.specs.declared.instruction.Instruction.{Instruction}
use Rattle.gsl_instr.specs.declared.enumerant.storage_class.TheConstants as storage_class
use Rattle.gsl_valid.specs.Instruction.{read}
use Rattle.gsl_valid.specs.Kinds.{Kind, Asks, Imports, Sets, Enters, Modes, Debugs, Decorates, Declares, Fixes, Holds, Begins, Takes, Calls, Gives, Does, Opens, Merges, Leaves, Ended, Absent, kind, type_of, variable_is}
use Rattle.gsl_valid.specs.Placed.{Code}
use Rattle.gsl_valid.specs.Search.{first_broken}
use Rattle.gsl_valid.specs.Ids.{defines, defined}
use Rattle.gsl_valid.specs.Types.{Target, target_of, defined_as, has_type, parameters_of, function_begins, is_variable_of}
use Rattle.gsl_valid.specs.ConstantRules.{have_each}
use Rattle.gsl_valid.specs.Where.{Where, where_at}

-- Who calls whom ------------------------------------------------------------------------------------------------

-- the function that an instruction calls
abbrev pub callee_in : Kind → Option ℕ
callee_in Asks = None
callee_in Imports = None
callee_in Sets = None
callee_in (Enters model function name interface) = None
callee_in (Modes function mode parts) = None
callee_in Debugs = None
callee_in (Decorates d) = None
callee_in (Declares shape) = None
callee_in (Fixes type value) = None
callee_in (Holds v) = None
callee_in (Begins type id function_type) = None
callee_in (Takes type) = None
callee_in (Calls type function arguments) = Some function
callee_in (Gives type) = None
callee_in Does = None
callee_in Opens = None
callee_in Merges = None
callee_in Leaves = None
callee_in Ended = None
callee_in Absent = None

abbrev pub callee : Option Instruction → Option ℕ
callee d = callee_in (kind d)

-- whether an instruction ends a function
abbrev pub is_last : Kind → Bool
is_last Asks = false
is_last Imports = false
is_last Sets = false
is_last (Enters model function name interface) = false
is_last (Modes function mode parts) = false
is_last Debugs = false
is_last (Decorates d) = false
is_last (Declares shape) = false
is_last (Fixes type value) = false
is_last (Holds v) = false
is_last (Begins type id function_type) = false
is_last (Takes type) = false
is_last (Calls type function arguments) = false
is_last (Gives type) = false
is_last Does = false
is_last Opens = false
is_last Merges = false
is_last Leaves = false
is_last Ended = true
is_last Absent = false

-- the functions that some code calls up to the end of its function
abbrev pub called : Code → List ℕ
called [] = []
called (i ∷ code) = if is_last (kind (read i)) then [] else cons_option (callee (read i)) (called code)

-- the functions that the function of an id calls
abbrev pub called_by : Code → ℕ → List ℕ
called_by [] id = []
called_by (i ∷ code) id = if function_begins (read i) && defines i id then called code else called_by code id

-- whether a function is another, or reaches it by at most so many calls
unfoldable pub reaches_by : Code → ℕ → ℕ → ℕ → Bool
reaches_by code zero from id = from == id
reaches_by code (suc most) from id = from == id || list_any (λ next. reaches_by code most next id) (called_by code from)

-- whether there are so many calls one within the other from a function on
unfoldable pub has_chain : Code → ℕ → ℕ → Bool
has_chain code zero from = true
has_chain code (suc count) from = list_any (has_chain code count) (called_by code from)

-- whether a function reaches another by calls; a shortest way has fewer calls than the module has instructions
abbrev pub leads_to : Module → ℕ → ℕ → Bool
leads_to m from id = reaches_by m.instrs (length m.instrs) from id

-- Arguments -----------------------------------------------------------------------------------------------------

-- the id of a function, if an instruction begins one
abbrev pub id_in : Kind → Option ℕ
id_in Asks = None
id_in Imports = None
id_in Sets = None
id_in (Enters model function name interface) = None
id_in (Modes function mode parts) = None
id_in Debugs = None
id_in (Decorates d) = None
id_in (Declares shape) = None
id_in (Fixes type value) = None
id_in (Holds v) = None
id_in (Begins type id function_type) = Some id
id_in (Takes type) = None
id_in (Calls type function arguments) = None
id_in (Gives type) = None
id_in Does = None
id_in Opens = None
id_in Merges = None
id_in Leaves = None
id_in Ended = None
id_in Absent = None

-- whether a function, if there is one, is reached
abbrev pub is_reached : Module → ℕ → Option ℕ → Bool
is_reached m from None = false
is_reached m from (Some id) = leads_to m from id

-- whether an instruction is a parameter of a function
abbrev pub takes : Kind → Bool
takes Asks = false
takes Imports = false
takes Sets = false
takes (Enters model function name interface) = false
takes (Modes function mode parts) = false
takes Debugs = false
takes (Decorates d) = false
takes (Declares shape) = false
takes (Fixes type value) = false
takes (Holds v) = false
takes (Begins type id function_type) = false
takes (Takes type) = true
takes (Calls type function arguments) = false
takes (Gives type) = false
takes Does = false
takes Opens = false
takes Merges = false
takes Leaves = false
takes Ended = false
takes Absent = false

abbrev pub is_parameter : Option Instruction → Bool
is_parameter d = takes (kind d)

-- whether a value of a type is a pointer
abbrev pub points : Module → Option ℕ → Option Target
points m None = None
points m (Some type) = target_of (defined_as m type)

-- what an id points to
abbrev pub target : Module → ℕ → Option Target
target m id = points m (type_of (defined_as m id))

abbrev pub is_some_target : Option Target → Bool
is_some_target None = false
is_some_target (Some target) = true

abbrev pub is_pointer : Module → ℕ → Bool
is_pointer m id = is_some_target (target m id)

-- whether an argument, if it is a pointer, is a Function variable or a parameter of the caller, of which this is the code so far
abbrev pub is_own : Module → Code → ℕ → Bool
is_own m body id =
    not (is_pointer m id)
    || defined body id && (is_variable_of storage_class.FUNCTION (variable_is (defined_as m id)) || is_parameter (defined_as m id))

-- whether no two pointers among arguments are one
abbrev pub pointers_differ : Module → List ℕ → Bool
pointers_differ m [] = true
pointers_differ m (id ∷ ids) = not (is_pointer m id && list_any (λ other. other == id) ids) && pointers_differ m ids

-- whether a call of such a function with these arguments gives a type
abbrev pub fits_function : Module → ℕ → List ℕ → Kind → Bool
fits_function m result given Asks = false
fits_function m result given Imports = false
fits_function m result given Sets = false
fits_function m result given (Enters model function name interface) = false
fits_function m result given (Modes function mode parts) = false
fits_function m result given Debugs = false
fits_function m result given (Decorates d) = false
fits_function m result given (Declares shape) = false
fits_function m result given (Fixes type value) = false
fits_function m result given (Holds v) = false
fits_function m result given (Begins type id function_type) = type == result && have_each (has_type m) (parameters_of (defined_as m function_type)) given
fits_function m result given (Takes type) = false
fits_function m result given (Calls type function arguments) = false
fits_function m result given (Gives type) = false
fits_function m result given Does = false
fits_function m result given Opens = false
fits_function m result given Merges = false
fits_function m result given Leaves = false
fits_function m result given Ended = false
fits_function m result given Absent = false

-- whether a call may stand where it does
abbrev pub may_call : Module → Where → ℕ → ℕ → List ℕ → Bool
may_call m w type function arguments =
    fits_function m type arguments (kind (defined_as m function)) && list_all (is_own m w.body) arguments && pointers_differ m arguments
    && not (is_reached m function (id_in (kind w.function)))

-- Depth ---------------------------------------------------------------------------------------------------------

-- whether an instruction begins a function that reaches itself by calls
abbrev pub begins_cycle : Module → Kind → Bool
begins_cycle m Asks = false
begins_cycle m Imports = false
begins_cycle m Sets = false
begins_cycle m (Enters model function name interface) = false
begins_cycle m (Modes function mode parts) = false
begins_cycle m Debugs = false
begins_cycle m (Decorates d) = false
begins_cycle m (Declares shape) = false
begins_cycle m (Fixes type value) = false
begins_cycle m (Holds v) = false
begins_cycle m (Begins type id function_type) = list_any (λ next. leads_to m next id) (called_by m.instrs id)
begins_cycle m (Takes type) = false
begins_cycle m (Calls type function arguments) = false
begins_cycle m (Gives type) = false
begins_cycle m Does = false
begins_cycle m Opens = false
begins_cycle m Merges = false
begins_cycle m Leaves = false
begins_cycle m Ended = false
begins_cycle m Absent = false

abbrev pub has_cycle : Module → Bool
has_cycle m = list_any (λ i. begins_cycle m (kind (read i))) m.instrs

-- how deep calls may nest
abbrev pub most_calls : ℕ
most_calls = 64

-- whether V11 is kept by a call, or by the beginning of a function
abbrev pub call_of : Module → Code → Kind → Bool
call_of m before Asks = true
call_of m before Imports = true
call_of m before Sets = true
call_of m before (Enters model function name interface) = true
call_of m before (Modes function mode parts) = true
call_of m before Debugs = true
call_of m before (Decorates d) = true
call_of m before (Declares shape) = true
call_of m before (Fixes type value) = true
call_of m before (Holds v) = true
call_of m before (Begins type id function_type) = not (has_chain m.instrs (suc most_calls) id) || has_cycle m
call_of m before (Takes type) = true
call_of m before (Calls type function arguments) = may_call m (where_at m before) type function arguments
call_of m before (Gives type) = true
call_of m before Does = true
call_of m before Opens = true
call_of m before Merges = true
call_of m before Leaves = true
call_of m before Ended = true
call_of m before Absent = true

-- whether V11 is kept by an instruction
abbrev pub call_kept : Module → Code → Instr → Bool
call_kept m before i = call_of m before (kind (read i))

-- the first instruction that breaks V11
abbrev pub calls : Module → Option ℕ
calls m = first_broken (call_kept m) m
