-- Modules that keep the rules, and that other consumers take or refuse.
use Rattle.std.proofs.Common.{◌≡◌, ℕ, [], ◌∷◌, ◌++◌, Some, None, refl}
use Rattle.std.specs.Prelude.{codes}
use Rattle.gsl_words.specs.declared.module.Module.{Module}
use Rattle.gsl_instr.specs.declared.op.TheConstants as op
use Rattle.gsl_instr.specs.declared.enumerant.decoration.TheConstants as decoration
use Rattle.gsl_instr.specs.declared.enumerant.storage_class.TheConstants as storage_class
use Rattle.gsl_instr.specs.Forms.{form_of}
use Rattle.gsl_instr.specs.Strings.{string_words}
use Rattle.gsl_blocks.specs.Blocks.{blocks_from}
use Rattle.gsl_blocks.specs.Reading.{reads}
use Rattle.gsl_valid.specs.Placed.{Code}
use Rattle.gsl_valid.specs.CallRules.{has_chain, reaches_by}
use Rattle.gsl_valid.specs.Valid.{broken}
use Rattle.gsl_valid.specs.Portable.{Portable, HasFewVariables, most_globals, switches, nested_blocks, lengths, growing_parts, parts, marks, offsets}
use Rattle.gsl_valid.proofs.Example.{i, module_with, block, set, binding, constant, buffer, begun, returned, ended, front, decorations, globals, main}

-- the small module
a_module : Portable (module_with 14 (front ++ decorations ++ globals ++ main))
unfolding form_of
a_module = record { switched = refl; apart = refl; natural = refl; growing = refl; parted = refl; marked = refl; laid = refl }

-- Switches ------------------------------------------------------------------------------------------------------

-- with this code in its function
abbrev with_code : ℕ → Code → Module
with_code bound code = module_with bound (front ++ decorations ++ globals ++ begun 1 4 ++ code ++ ended)

-- a switch in a loop, with a target
abbrev in_loop : ℕ → Module
in_loop target =
    with_code 20 (
    i op.BRANCH (15 ∷ []) ∷ i op.LABEL (15 ∷ []) ∷ i op.LOOP_MERGE (14 ∷ 16 ∷ 0 ∷ []) ∷ i op.BRANCH (17 ∷ []) ∷ i op.LABEL (17 ∷ [])
    ∷ i op.SELECTION_MERGE (18 ∷ 0 ∷ []) ∷ i op.SWITCH (10 ∷ 18 ∷ 0 ∷ target ∷ []) ∷ i op.LABEL (18 ∷ []) ∷ i op.BRANCH (16 ∷ []) ∷ i op.LABEL (16 ∷ [])
    ∷ i op.BRANCH (15 ∷ []) ∷ i op.LABEL (14 ∷ []) ∷ returned
    )

out_of_the_loop : broken (in_loop 14) ≡ None
unfolding form_of blocks_from reads has_chain reaches_by
out_of_the_loop = refl

out_of_the_loop_at : switches (in_loop 14) ≡ Some 94
unfolding form_of
out_of_the_loop_at = refl

on_with_the_loop_at : switches (in_loop 16) ≡ Some 94
unfolding form_of
on_with_the_loop_at = refl

to_its_merge : switches (in_loop 18) ≡ None
unfolding form_of
to_its_merge = refl

-- a switch of two targets
abbrev over : Code → Module
over switch =
    with_code 17 (i op.SELECTION_MERGE (14 ∷ 0 ∷ []) ∷ switch ++ i op.LABEL (15 ∷ []) ∷ i op.BRANCH (14 ∷ []) ∷ i op.LABEL (16 ∷ []) ∷ i op.BRANCH (14 ∷ []) ∷ i op.LABEL (14 ∷ []) ∷ returned)

literals_apart : broken (over (i op.SWITCH (10 ∷ 14 ∷ 0 ∷ 15 ∷ 1 ∷ 16 ∷ 2 ∷ 15 ∷ []) ∷ [])) ≡ None
unfolding form_of blocks_from reads has_chain reaches_by
literals_apart = refl

literals_apart_at : switches (over (i op.SWITCH (10 ∷ 14 ∷ 0 ∷ 15 ∷ 1 ∷ 16 ∷ 2 ∷ 15 ∷ []) ∷ [])) ≡ Some 82
unfolding form_of
literals_apart_at = refl

merge_before_others_at : switches (over (i op.SWITCH (10 ∷ 14 ∷ 0 ∷ 15 ∷ 1 ∷ 14 ∷ 2 ∷ 16 ∷ []) ∷ [])) ≡ Some 82
unfolding form_of
merge_before_others_at = refl

literals_together : switches (over (i op.SWITCH (10 ∷ 14 ∷ 0 ∷ 15 ∷ 1 ∷ 15 ∷ 2 ∷ 16 ∷ 3 ∷ 14 ∷ []) ∷ [])) ≡ None
unfolding form_of
literals_together = refl

-- Types, parts and decorations --------------------------------------------------------------------------------------

-- with more decorations, and with more types and constants
abbrev with_globals : ℕ → Code → Code → Module
with_globals bound more others = module_with bound (front ++ decorations ++ more ++ globals ++ others ++ main)

block_in_a_block : nested_blocks (with_globals 15 (i op.DECORATE (14 ∷ decoration.BLOCK ∷ []) ∷ []) (i op.TYPE_STRUCT (14 ∷ 6 ∷ []) ∷ [])) ≡ Some 75
unfolding form_of
block_in_a_block = refl

negative_length : lengths (with_globals 16 [] (i op.CONSTANT (5 ∷ 15 ∷ 4294967295 ∷ []) ∷ i op.TYPE_ARRAY (14 ∷ 5 ∷ 15 ∷ []) ∷ [])) ≡ Some 76
unfolding form_of
negative_length = refl

grows_in_front : growing_parts (with_globals 16 [] (i op.TYPE_RUNTIME_ARRAY (14 ∷ 5 ∷ []) ∷ i op.TYPE_STRUCT (15 ∷ 14 ∷ 5 ∷ []) ∷ [])) ≡ Some 75
unfolding form_of
grows_in_front = refl

grows_behind : growing_parts (with_globals 16 [] (i op.TYPE_RUNTIME_ARRAY (14 ∷ 5 ∷ []) ∷ i op.TYPE_STRUCT (15 ∷ 5 ∷ 14 ∷ []) ∷ [])) ≡ None
unfolding form_of
grows_behind = refl

vector_of_one_part : parts (module_with 15 (front ++ decorations ++ globals ++ i op.TYPE_VECTOR (14 ∷ 5 ∷ 2 ∷ []) ∷ begun 1 4 ++ i op.COMPOSITE_CONSTRUCT (14 ∷ 11 ∷ 10 ∷ []) ∷ returned ++ ended)) ≡ Some 83
unfolding form_of
vector_of_one_part = refl

name_of_no_member : parts (module_with 14 (front ++ i op.MEMBER_NAME (6 ∷ 1 ∷ string_words (codes "b")) ∷ decorations ++ globals ++ main)) ≡ Some 28
unfolding form_of
name_of_no_member = refl

flat_on_a_block : marks (with_globals 14 (i op.DECORATE (9 ∷ decoration.FLAT ∷ []) ∷ []) []) ≡ Some 44
unfolding form_of
flat_on_a_block = refl

location_on_a_block : marks (with_globals 14 (i op.DECORATE (9 ∷ decoration.LOCATION ∷ 0 ∷ []) ∷ []) []) ≡ Some 44
unfolding form_of
location_on_a_block = refl

-- Layouts -------------------------------------------------------------------------------------------------------

-- a block of one array of three `int`, which stand so many bytes apart
abbrev array_in : ℕ → ℕ → Module
array_in kind stride =
    module_with 15 (
    front ++ block kind 0 ++ set ++ binding ++ i op.DECORATE (14 ∷ decoration.ARRAY_STRIDE ∷ stride ∷ []) ∷ i op.TYPE_VOID (2 ∷ [])
    ∷ i op.TYPE_FUNCTION (3 ∷ 2 ∷ []) ∷ i op.TYPE_INT (5 ∷ 32 ∷ 1 ∷ []) ∷ i op.CONSTANT (5 ∷ 10 ∷ 3 ∷ []) ∷ i op.TYPE_ARRAY (14 ∷ 5 ∷ 10 ∷ [])
    ∷ i op.TYPE_STRUCT (6 ∷ 14 ∷ []) ∷ i op.TYPE_POINTER (7 ∷ 2 ∷ 6 ∷ []) ∷ buffer storage_class.UNIFORM ++ begun 1 4 ++ returned ++ ended
    )

std430_array : offsets (array_in decoration.BUFFER_BLOCK 4) ≡ None
unfolding form_of
std430_array = refl

std430_array_in_a_uniform_block : broken (array_in decoration.BLOCK 4) ≡ None
unfolding form_of blocks_from reads has_chain reaches_by
std430_array_in_a_uniform_block = refl

std430_array_in_a_uniform_block_at : offsets (array_in decoration.BLOCK 4) ≡ Some 61
unfolding form_of
std430_array_in_a_uniform_block_at = refl

std140_array : offsets (array_in decoration.BLOCK 16) ≡ None
unfolding form_of
std140_array = refl

-- a storage block of an `int` and a vector of three at an offset
abbrev vector_at : ℕ → Module
vector_at offset =
    module_with 15 (
    front ++ block decoration.BUFFER_BLOCK 0 ++ i op.MEMBER_DECORATE (6 ∷ 1 ∷ decoration.OFFSET ∷ offset ∷ []) ∷ set ++ binding ++ i op.TYPE_VOID (2 ∷ [])
    ∷ i op.TYPE_FUNCTION (3 ∷ 2 ∷ []) ∷ i op.TYPE_INT (5 ∷ 32 ∷ 1 ∷ []) ∷ i op.TYPE_VECTOR (14 ∷ 5 ∷ 3 ∷ []) ∷ i op.TYPE_STRUCT (6 ∷ 5 ∷ 14 ∷ [])
    ∷ i op.TYPE_POINTER (7 ∷ 2 ∷ 6 ∷ []) ∷ buffer storage_class.UNIFORM ++ begun 1 4 ++ returned ++ ended
    )

vector_between_multiples : broken (vector_at 4) ≡ None
unfolding form_of blocks_from reads has_chain reaches_by
vector_between_multiples = refl

vector_between_multiples_at : offsets (vector_at 4) ≡ Some 62
unfolding form_of
vector_between_multiples_at = refl

vector_at_a_multiple : offsets (vector_at 16) ≡ None
unfolding form_of
vector_at_a_multiple = refl
