-- Modules with calls and operators, and modules that each break one rule on them.
use Rattle.std.proofs.Common.{◌≡◌, ℕ, List, [], ◌∷◌, ◌++◌, Some, None, refl}
use Rattle.std.specs.Prelude.{codes}
use Rattle.gsl_words.specs.declared.module.Module.{Module}
use Rattle.gsl_instr.specs.declared.op.TheConstants as op
use Rattle.gsl_instr.specs.declared.enumerant.storage_class.TheConstants as storage_class
use Rattle.gsl_instr.specs.declared.enumerant.glsl_std_450.TheConstants as extended_op
use Rattle.gsl_instr.specs.Forms.{form_of}
use Rattle.gsl_instr.specs.Strings.{string_words}
use Rattle.gsl_blocks.specs.Blocks.{blocks_from}
use Rattle.gsl_blocks.specs.Reading.{reads}
use Rattle.gsl_valid.specs.Placed.{Code}
use Rattle.gsl_valid.specs.CallRules.{has_chain, reaches_by}
use Rattle.gsl_valid.specs.Valid.{broken}
use Rattle.gsl_valid.proofs.Example.{i, module_with, begun, returned, ended, front, decorations, globals}

-- the module with more types, with other functions behind `main`, and with this code in `main`
abbrev with_code : ℕ → Code → Code → Code → Module
with_code bound more code others = module_with bound (front ++ decorations ++ globals ++ more ++ begun 1 4 ++ code ++ returned ++ ended ++ others)

-- functions: of an `int` with the result `int` (20, of type 21), and of a pointer to one (30, of type 31)
abbrev more : Code
more =
    i op.TYPE_FUNCTION (21 ∷ 5 ∷ 5 ∷ []) ∷ i op.TYPE_POINTER (22 ∷ storage_class.FUNCTION ∷ 5 ∷ []) ∷ i op.TYPE_FUNCTION (31 ∷ 2 ∷ 22 ∷ 22 ∷ []) ∷ i op.TYPE_BOOL (40 ∷ [])
    ∷ i op.TYPE_VECTOR (41 ∷ 5 ∷ 2 ∷ []) ∷ i op.TYPE_INT (42 ∷ 32 ∷ 0 ∷ []) ∷ i op.TYPE_VECTOR (43 ∷ 40 ∷ 2 ∷ []) ∷ []

-- the first of them, with what it gives
abbrev given : ℕ → Code
given value = i op.FUNCTION (5 ∷ 20 ∷ 0 ∷ 21 ∷ []) ∷ i op.FUNCTION_PARAMETER (5 ∷ 23 ∷ []) ∷ i op.LABEL (24 ∷ []) ∷ i op.RETURN_VALUE (value ∷ []) ∷ ended

-- the second, with what it does
abbrev taken : Code → Code
taken code =
    i op.FUNCTION (2 ∷ 30 ∷ 0 ∷ 31 ∷ []) ∷ i op.FUNCTION_PARAMETER (22 ∷ 32 ∷ []) ∷ i op.FUNCTION_PARAMETER (22 ∷ 33 ∷ []) ∷ i op.LABEL (34 ∷ []) ∷ code ++ returned ++ ended

abbrev called : List ℕ → Code
called arguments = i op.FUNCTION_CALL (5 ∷ 50 ∷ 20 ∷ arguments) ∷ []

abbrev local : ℕ → Code
local id = i op.VARIABLE (22 ∷ id ∷ storage_class.FUNCTION ∷ 10 ∷ []) ∷ []

a_call : broken (with_code 60 (more) (called (10 ∷ [])) (given 23)) ≡ None
unfolding form_of blocks_from reads has_chain reaches_by
a_call = refl

a_call_with_no_argument : broken (with_code 60 (more) (called []) (given 23)) ≡ Some (11, 106)
unfolding form_of blocks_from reads has_chain reaches_by
a_call_with_no_argument = refl

a_call_of_a_type : broken (with_code 60 (more) (i op.FUNCTION_CALL (5 ∷ 50 ∷ 21 ∷ 10 ∷ []) ∷ []) (given 23)) ≡ Some (11, 106)
unfolding form_of blocks_from reads has_chain reaches_by
a_call_of_a_type = refl

main_is_called : broken (with_code 60 (more) (i op.FUNCTION_CALL (2 ∷ 50 ∷ 1 ∷ []) ∷ []) ([])) ≡ Some (9, 10)
unfolding form_of blocks_from reads has_chain reaches_by
main_is_called = refl

a_function_that_calls_itself : broken (with_code 60 (more) ([]) (taken (i op.FUNCTION_CALL (2 ∷ 50 ∷ 30 ∷ 32 ∷ 33 ∷ []) ∷ []))) ≡ Some (11, 121)
unfolding form_of blocks_from reads has_chain reaches_by
a_function_that_calls_itself = refl

one_pointer_twice : broken (with_code 60 (more) (local 51 ++ i op.FUNCTION_CALL (2 ∷ 50 ∷ 30 ∷ 51 ∷ 51 ∷ []) ∷ []) (taken [])) ≡ Some (11, 111)
unfolding form_of blocks_from reads has_chain reaches_by
one_pointer_twice = refl

two_pointers : broken (with_code 60 (more) (local 51 ++ local 52 ++ i op.FUNCTION_CALL (2 ∷ 50 ∷ 30 ∷ 51 ∷ 52 ∷ []) ∷ []) (taken [])) ≡ None
unfolding form_of blocks_from reads has_chain reaches_by
two_pointers = refl

a_parameter_that_is_missing : broken (with_code 60 (more) ([]) (i op.FUNCTION (5 ∷ 20 ∷ 0 ∷ 21 ∷ []) ∷ i op.LABEL (24 ∷ []) ∷ i op.RETURN_VALUE (10 ∷ []) ∷ ended)) ≡ Some (10, 113)
unfolding form_of blocks_from reads has_chain reaches_by
a_parameter_that_is_missing = refl

a_parameter_of_another_function : broken (with_code 60 (more) ([]) (given 23 ++ taken (i op.STORE (32 ∷ 23 ∷ []) ∷ []))) ≡ Some (13, 134)
unfolding form_of blocks_from reads has_chain reaches_by
a_parameter_of_another_function = refl

a_result_of_another_type : broken (with_code 60 (more) ([]) (given 9)) ≡ Some (16, 118)
unfolding form_of blocks_from reads has_chain reaches_by
a_result_of_another_type = refl

a_sum_of_vectors : broken (with_code 60 (more) (i op.COMPOSITE_CONSTRUCT (41 ∷ 50 ∷ 10 ∷ 10 ∷ []) ∷ i op.I_ADD (41 ∷ 51 ∷ 50 ∷ 50 ∷ []) ∷ []) ([])) ≡ None
unfolding form_of blocks_from reads has_chain reaches_by
a_sum_of_vectors = refl

a_vector_of_three_parts : broken (with_code 60 (more) (i op.COMPOSITE_CONSTRUCT (41 ∷ 50 ∷ 10 ∷ 10 ∷ 10 ∷ []) ∷ []) ([])) ≡ Some (14, 106)
unfolding form_of blocks_from reads has_chain reaches_by
a_vector_of_three_parts = refl

a_quotient_without_sign : broken (with_code 60 (more) (i op.U_DIV (5 ∷ 50 ∷ 10 ∷ 10 ∷ []) ∷ []) ([])) ≡ Some (14, 106)
unfolding form_of blocks_from reads has_chain reaches_by
a_quotient_without_sign = refl

a_comparison_and_a_branch : broken (with_code 60 (more) (i op.S_LESS_THAN (40 ∷ 50 ∷ 10 ∷ 10 ∷ []) ∷ i op.SELECTION_MERGE (51 ∷ 0 ∷ []) ∷ i op.BRANCH_CONDITIONAL (50 ∷ 52 ∷ 51 ∷ []) ∷ i op.LABEL (52 ∷ []) ∷ i op.BRANCH (51 ∷ []) ∷ i op.LABEL (51 ∷ []) ∷ []) ([])) ≡ None
unfolding form_of blocks_from reads has_chain reaches_by
a_comparison_and_a_branch = refl

a_comparison_of_another_size : broken (with_code 60 (more) (i op.S_LESS_THAN (43 ∷ 50 ∷ 10 ∷ 10 ∷ []) ∷ []) ([])) ≡ Some (14, 106)
unfolding form_of blocks_from reads has_chain reaches_by
a_comparison_of_another_size = refl

a_component_that_is_missing : broken (with_code 60 (more) (i op.COMPOSITE_CONSTRUCT (41 ∷ 50 ∷ 10 ∷ 10 ∷ []) ∷ i op.COMPOSITE_EXTRACT (5 ∷ 51 ∷ 50 ∷ 2 ∷ []) ∷ []) ([])) ≡ Some (14, 111)
unfolding form_of blocks_from reads has_chain reaches_by
a_component_that_is_missing = refl

a_branch_on_an_int : broken (with_code 60 (more) (i op.SELECTION_MERGE (51 ∷ 0 ∷ []) ∷ i op.BRANCH_CONDITIONAL (10 ∷ 52 ∷ 51 ∷ []) ∷ i op.LABEL (52 ∷ []) ∷ i op.BRANCH (51 ∷ []) ∷ i op.LABEL (51 ∷ []) ∷ []) ([])) ≡ Some (14, 109)
unfolding form_of blocks_from reads has_chain reaches_by
a_branch_on_an_int = refl

a_value_of_another_block : broken (with_code 60 (more) (i op.S_LESS_THAN (40 ∷ 50 ∷ 10 ∷ 10 ∷ []) ∷ i op.SELECTION_MERGE (51 ∷ 0 ∷ []) ∷ i op.BRANCH_CONDITIONAL (50 ∷ 52 ∷ 51 ∷ []) ∷ i op.LABEL (52 ∷ []) ∷ i op.LOGICAL_NOT (40 ∷ 53 ∷ 50 ∷ []) ∷ i op.BRANCH (51 ∷ []) ∷ i op.LABEL (51 ∷ []) ∷ []) ([])) ≡ Some (13, 120)
unfolding form_of blocks_from reads has_chain reaches_by
a_value_of_another_block = refl

-- the module with the import of the extended instructions, and one of them in `main`
abbrev extended : List ℕ → Module
extended args =
    module_with 16 (i op.CAPABILITY (1 ∷ []) ∷ i op.EXT_INST_IMPORT (14 ∷ string_words (codes "GLSL.std.450")) ∷ i op.MEMORY_MODEL (0 ∷ 1 ∷ [])
    ∷ i op.ENTRY_POINT (5 ∷ 1 ∷ string_words (codes "main")) ∷ i op.EXECUTION_MODE (1 ∷ 17 ∷ 1 ∷ 1 ∷ 1 ∷ []) ∷ decorations ++ globals ++ begun 1 4 ++ i op.EXT_INST (5 ∷ 15 ∷ args) ∷ returned ++ ended)

an_absolute_value : broken (extended (14 ∷ extended_op.S_ABS ∷ 10 ∷ [])) ≡ None
unfolding form_of blocks_from reads has_chain reaches_by
an_absolute_value = refl

two_operands_for_one : broken (extended (14 ∷ extended_op.S_ABS ∷ 10 ∷ 10 ∷ [])) ≡ Some (17, 78)
unfolding form_of blocks_from reads has_chain reaches_by
two_operands_for_one = refl

a_set_that_is_no_import : broken (extended (5 ∷ extended_op.S_ABS ∷ 10 ∷ [])) ≡ Some (17, 78)
unfolding form_of blocks_from reads has_chain reaches_by
a_set_that_is_no_import = refl

unsigned_of_signed : broken (extended (14 ∷ extended_op.U_MIN ∷ 10 ∷ 10 ∷ [])) ≡ Some (17, 78)
unfolding form_of blocks_from reads has_chain reaches_by
unsigned_of_signed = refl
