-- Modules with vectors, arrays and constants of all kinds, and modules that each break one rule on them.
use Rattle.std.proofs.Common.{◌≡◌, ℕ, [], ◌∷◌, ◌++◌, Some, None, refl}
use Rattle.gsl_words.specs.declared.module.Module.{Module}
use Rattle.gsl_words.specs.declared.target.TheConstants.{VERSION_1_3}
use Rattle.gsl_instr.specs.declared.op.TheConstants as op
use Rattle.gsl_instr.specs.declared.enumerant.decoration.TheConstants as decoration
use Rattle.gsl_instr.specs.declared.enumerant.storage_class.TheConstants as storage_class
use Rattle.gsl_instr.specs.Forms.{form_of}
use Rattle.gsl_blocks.specs.Blocks.{blocks_from}
use Rattle.gsl_blocks.specs.Reading.{reads}
use Rattle.gsl_valid.specs.Placed.{Code}
use Rattle.gsl_valid.specs.CallRules.{has_chain, reaches_by}
use Rattle.gsl_valid.specs.Valid.{broken}
use Rattle.gsl_valid.proofs.Example.{i, module_with, block, set, binding, constant, buffer, begun, returned, ended, front, decorations, globals, main}

-- the module with more types, constants and variables
abbrev with_globals : ℕ → Code → Module
with_globals bound more = module_with bound (front ++ decorations ++ globals ++ more ++ main)

vector_of_five : broken (with_globals 15 (i op.TYPE_VECTOR (14 ∷ 5 ∷ 5 ∷ []) ∷ [])) ≡ Some (4, 72)
unfolding form_of blocks_from reads has_chain reaches_by
vector_of_five = refl

vector_of_structs : broken (with_globals 15 (i op.TYPE_VECTOR (14 ∷ 6 ∷ 2 ∷ []) ∷ [])) ≡ Some (4, 72)
unfolding form_of blocks_from reads has_chain reaches_by
vector_of_structs = refl

array_of_no_length : broken (with_globals 15 (i op.TYPE_ARRAY (14 ∷ 5 ∷ 10 ∷ []) ∷ [])) ≡ Some (4, 72)
unfolding form_of blocks_from reads has_chain reaches_by
array_of_no_length = refl

array_of_three : broken (with_globals 16 (i op.CONSTANT (5 ∷ 15 ∷ 3 ∷ []) ∷ i op.TYPE_ARRAY (14 ∷ 5 ∷ 15 ∷ []) ∷ [])) ≡ None
unfolding form_of blocks_from reads has_chain reaches_by
array_of_three = refl

pointer_to_an_array_without_length : broken (with_globals 16 (i op.TYPE_RUNTIME_ARRAY (14 ∷ 5 ∷ []) ∷ i op.TYPE_POINTER (15 ∷ storage_class.PRIVATE ∷ 14 ∷ []) ∷ [])) ≡ Some (4, 75)
unfolding form_of blocks_from reads has_chain reaches_by
pointer_to_an_array_without_length = refl

truth_of_int : broken (with_globals 15 (i op.CONSTANT_TRUE (5 ∷ 14 ∷ []) ∷ [])) ≡ Some (5, 72)
unfolding form_of blocks_from reads has_chain reaches_by
truth_of_int = refl

truth_of_bool : broken (with_globals 16 (i op.TYPE_BOOL (14 ∷ []) ∷ i op.CONSTANT_TRUE (14 ∷ 15 ∷ []) ∷ [])) ≡ None
unfolding form_of blocks_from reads has_chain reaches_by
truth_of_bool = refl

one_part_for_two : broken (with_globals 16 (i op.TYPE_VECTOR (14 ∷ 5 ∷ 2 ∷ []) ∷ i op.CONSTANT_COMPOSITE (14 ∷ 15 ∷ 10 ∷ []) ∷ [])) ≡ Some (5, 76)
unfolding form_of blocks_from reads has_chain reaches_by
one_part_for_two = refl

two_parts_for_two : broken (with_globals 16 (i op.TYPE_VECTOR (14 ∷ 5 ∷ 2 ∷ []) ∷ i op.CONSTANT_COMPOSITE (14 ∷ 15 ∷ 10 ∷ 10 ∷ []) ∷ [])) ≡ None
unfolding form_of blocks_from reads has_chain reaches_by
two_parts_for_two = refl

zeros_without_length : broken (with_globals 17 (i op.TYPE_RUNTIME_ARRAY (14 ∷ 5 ∷ []) ∷ i op.TYPE_STRUCT (15 ∷ 14 ∷ []) ∷ i op.CONSTANT_NULL (15 ∷ 16 ∷ []) ∷ [])) ≡ Some (5, 78)
unfolding form_of blocks_from reads has_chain reaches_by
zeros_without_length = refl

private_without_initialiser : broken (with_globals 16 (i op.TYPE_POINTER (14 ∷ storage_class.PRIVATE ∷ 5 ∷ []) ∷ i op.VARIABLE (14 ∷ 15 ∷ storage_class.PRIVATE ∷ []) ∷ [])) ≡ Some (6, 76)
unfolding form_of blocks_from reads has_chain reaches_by
private_without_initialiser = refl

private_with_initialiser : broken (with_globals 16 (i op.TYPE_POINTER (14 ∷ storage_class.PRIVATE ∷ 5 ∷ []) ∷ i op.VARIABLE (14 ∷ 15 ∷ storage_class.PRIVATE ∷ 10 ∷ []) ∷ [])) ≡ None
unfolding form_of blocks_from reads has_chain reaches_by
private_with_initialiser = refl

flat_local : broken (module_with 16 (front ++ decorations ++ i op.DECORATE (15 ∷ decoration.FLAT ∷ []) ∷ globals ++ i op.TYPE_POINTER (14 ∷ storage_class.FUNCTION ∷ 5 ∷ []) ∷ begun 1 4 ++ i op.VARIABLE (14 ∷ 15 ∷ storage_class.FUNCTION ∷ 10 ∷ []) ∷ returned ++ ended)) ≡ Some (7, 44)
unfolding form_of blocks_from reads has_chain reaches_by
flat_local = refl

buffer_block_in_1_3 : broken (record { version = VERSION_1_3; bound = 14; instrs = front ++ decorations ++ globals ++ main }) ≡ Some (7, 28)
unfolding form_of blocks_from reads has_chain reaches_by
buffer_block_in_1_3 = refl

-- the module whose block ends with an array without length of this stride, and is of this kind
abbrev grown : ℕ → ℕ → Module
grown kind stride =
    module_with 15 (front ++ block kind 0 ++ i op.MEMBER_DECORATE (6 ∷ 1 ∷ decoration.OFFSET ∷ 4 ∷ []) ∷ i op.DECORATE (14 ∷ decoration.ARRAY_STRIDE ∷ stride ∷ []) ∷ set ++ binding
    ++ i op.TYPE_VOID (2 ∷ []) ∷ i op.TYPE_FUNCTION (3 ∷ 2 ∷ []) ∷ i op.TYPE_INT (5 ∷ 32 ∷ 1 ∷ []) ∷ i op.TYPE_RUNTIME_ARRAY (14 ∷ 5 ∷ []) ∷ i op.TYPE_STRUCT (6 ∷ 5 ∷ 14 ∷ [])
    ∷ i op.TYPE_POINTER (7 ∷ 2 ∷ 6 ∷ []) ∷ i op.TYPE_POINTER (8 ∷ 2 ∷ 5 ∷ []) ∷ constant 5 ++ buffer storage_class.UNIFORM ++ begun 1 4 ++ returned ++ ended)

a_block_that_grows : broken (grown decoration.BUFFER_BLOCK 4) ≡ None
unfolding form_of blocks_from reads has_chain reaches_by
a_block_that_grows = refl

stride_of_two : broken (grown decoration.BUFFER_BLOCK 2) ≡ Some (8, 62)
unfolding form_of blocks_from reads has_chain reaches_by
stride_of_two = refl

a_uniform_block_that_grows : broken (grown decoration.BLOCK 4) ≡ Some (8, 65)
unfolding form_of blocks_from reads has_chain reaches_by
a_uniform_block_that_grows = refl
