-- V11 by what a pass keeps: the function in which it stands, and the number of the instruction with which that began.
use Rattle.std.specs.Prelude.{ℕ, suc, ◌+◌, Bool, true, false, ◌&&◌, ◌||◌, not, nat_eq, nat_lt, nat_le, List, [], ◌∷◌, ◌++◌, Option, Some, if◌then◌else◌}
use Rattle.std.specs.List.{list_all, list_any}
use Rattle.gsl_words.specs.declared.module.Instr.{Instr}
use Rattle.gsl_words.specs.declared.module.Module.{Module}
use Rattle.gsl_instr.specs.declared.enumerant.storage_class.TheConstants as storage_class
use Rattle.gsl_valid.specs.Instruction.{read}
use Rattle.gsl_valid.specs.Kinds.{Kind, Asks, Imports, Sets, Enters, Modes, Debugs, Decorates, Declares, Fixes, Holds, Begins, Takes, Calls, Gives, Does, Opens, Merges, Leaves, Ended, Absent, kind, variable_is}
use Rattle.gsl_valid.specs.Types.{defined_as, is_variable_of}
use Rattle.gsl_valid.specs.Where.{bounds_one}
use Rattle.gsl_valid.specs.CallRules.{is_pointer, is_parameter, fits_function, pointers_differ, is_reached, has_chain, has_cycle, most_calls}
use Rattle.gsl_ids.specs.Table.{number_of, is_defined_from}

-- whether no two pointers are one among arguments, nor one of those that came before
abbrev pub differ_behind : Module → List ℕ → List ℕ → Bool
differ_behind m before [] = true
differ_behind m before (id ∷ ids) =
    if is_pointer m id then (if list_any (nat_eq id) before then false else differ_behind m (before ++ id ∷ []) ids) else differ_behind m before ids

-- whether an argument, if it is a pointer, is the caller's own
abbrev pub is_own_from : Module → ℕ → ℕ → ℕ → Bool
is_own_from m body at id =
    not (is_pointer m id)
    || is_defined_from m body at id && (is_variable_of storage_class.FUNCTION (variable_is (defined_as m id)) || is_parameter (defined_as m id))

-- whether a call may be made by a function, if there is one, which began with the instruction of a number
abbrev pub may_call_from : Module → Option ℕ → ℕ → ℕ → ℕ → ℕ → List ℕ → Bool
may_call_from m caller body at type function arguments =
    fits_function m type arguments (kind (defined_as m function)) && list_all (is_own_from m body at) arguments && pointers_differ m arguments
    && not (is_reached m function caller)

-- whether the instruction of a number keeps V11
abbrev pub call_from : Module → Option ℕ → ℕ → ℕ → Kind → Bool
call_from m caller body at Asks = true
call_from m caller body at Imports = true
call_from m caller body at Sets = true
call_from m caller body at (Enters model function name interface) = true
call_from m caller body at (Modes function mode parts) = true
call_from m caller body at Debugs = true
call_from m caller body at (Decorates d) = true
call_from m caller body at (Declares shape) = true
call_from m caller body at (Fixes type value) = true
call_from m caller body at (Holds v) = true
call_from m caller body at (Begins type id function_type) = not (has_chain m.instrs (suc most_calls) id) || has_cycle m
call_from m caller body at (Takes type) = true
call_from m caller body at (Calls type function arguments) = may_call_from m caller body at type function arguments
call_from m caller body at (Gives type) = true
call_from m caller body at Does = true
call_from m caller body at Opens = true
call_from m caller body at Merges = true
call_from m caller body at Leaves = true
call_from m caller body at Ended = true
call_from m caller body at Absent = true

-- the caller behind an instruction
abbrev pub caller_after : Option ℕ → Kind → Option ℕ
caller_after caller Asks = caller
caller_after caller Imports = caller
caller_after caller Sets = caller
caller_after caller (Enters model function name interface) = caller
caller_after caller (Modes function mode parts) = caller
caller_after caller Debugs = caller
caller_after caller (Decorates d) = caller
caller_after caller (Declares shape) = caller
caller_after caller (Fixes type value) = caller
caller_after caller (Holds v) = caller
caller_after caller (Begins type id function_type) = Some id
caller_after caller (Takes type) = caller
caller_after caller (Calls type function arguments) = caller
caller_after caller (Gives type) = caller
caller_after caller Does = caller
caller_after caller Opens = caller
caller_after caller Merges = caller
caller_after caller Leaves = caller
caller_after caller Ended = caller
caller_after caller Absent = caller

-- What a pass keeps.
pub record Kept : Type 0 where
  pub of : Module
  pub caller : Option ℕ
  pub body : ℕ

abbrev pub passes : Kept → ℕ → Instr → Bool
passes s at i = call_from s.of s.caller s.body at (kind (read i))

abbrev pub behind : Kept → ℕ → Instr → Kept
behind s at i =
    record {
      of = s.of;
      caller = caller_after s.caller (kind (read i));
      body = if bounds_one (kind (read i)) then at + 1 else s.body;
    }
