-- A small valid module, and modules that each break one rule.
use Rattle.std.proofs.Common.{◌≡◌, ℕ, List, [], ◌∷◌, ◌++◌, Some, None, refl}
use Rattle.std.specs.Prelude.{codes, replicate}
use Rattle.gsl_words.specs.declared.module.Instr.{Instr}
use Rattle.gsl_words.specs.declared.module.Module.{Module}
use Rattle.gsl_words.specs.declared.target.TheConstants.{VERSION_1_0}
use Rattle.gsl_instr.specs.declared.op.TheConstants as op
use Rattle.gsl_instr.specs.declared.enumerant.decoration.TheConstants as decoration
use Rattle.gsl_instr.specs.declared.enumerant.storage_class.TheConstants as storage_class
use Rattle.gsl_instr.specs.Forms.{form_of}
use Rattle.gsl_instr.specs.Strings.{string_words}
use Rattle.gsl_blocks.specs.Blocks.{blocks_from}
use Rattle.gsl_blocks.specs.Reading.{reads}
use Rattle.gsl_valid.specs.Placed.{Code}
use Rattle.gsl_valid.specs.CallRules.{has_chain, reaches_by}
use Rattle.gsl_valid.specs.Valid.{broken}

abbrev pub i : ℕ → List ℕ → Instr
i op args = record { op = op; args = args }

abbrev pub module_with : ℕ → Code → Module
module_with bound code = record { version = VERSION_1_0; bound = bound; instrs = code }

-- The parts of the module, with what the examples change in them -----------------------------------------------

-- with the parts of LocalSize
abbrev pub head : List ℕ → Code
head size =
    i op.CAPABILITY (1 ∷ []) ∷ i op.MEMORY_MODEL (0 ∷ 1 ∷ []) ∷ i op.ENTRY_POINT (5 ∷ 1 ∷ string_words (codes "main"))
    ∷ i op.EXECUTION_MODE (1 ∷ 17 ∷ size) ∷ []

abbrev pub names : Code
names = i op.NAME (6 ∷ string_words (codes "B")) ∷ i op.MEMBER_NAME (6 ∷ 0 ∷ string_words (codes "a")) ∷ []

-- with the block's decoration and its member's offset
abbrev pub block : ℕ → ℕ → Code
block kind offset = i op.DECORATE (6 ∷ kind ∷ []) ∷ i op.MEMBER_DECORATE (6 ∷ 0 ∷ decoration.OFFSET ∷ offset ∷ []) ∷ []

abbrev pub set : Code
set = i op.DECORATE (9 ∷ decoration.DESCRIPTOR_SET ∷ 0 ∷ []) ∷ []

abbrev pub binding : Code
binding = i op.DECORATE (9 ∷ decoration.BINDING ∷ 0 ∷ []) ∷ []

-- with the id of Void
abbrev pub types : ℕ → Code
types void =
    i op.TYPE_VOID (void ∷ []) ∷ i op.TYPE_FUNCTION (3 ∷ 2 ∷ []) ∷ i op.TYPE_INT (5 ∷ 32 ∷ 1 ∷ []) ∷ i op.TYPE_STRUCT (6 ∷ 5 ∷ [])
    ∷ i op.TYPE_POINTER (7 ∷ 2 ∷ 6 ∷ []) ∷ i op.TYPE_POINTER (8 ∷ 2 ∷ 5 ∷ []) ∷ []

-- a constant 0 of a type
abbrev pub constant : ℕ → Code
constant type = i op.CONSTANT (type ∷ 10 ∷ 0 ∷ []) ∷ []

abbrev pub buffer : ℕ → Code
buffer class = i op.VARIABLE (7 ∷ 9 ∷ class ∷ []) ∷ []

-- the beginning of a function with its block, and the end of both
abbrev pub begun : ℕ → ℕ → Code
begun function label = i op.FUNCTION (2 ∷ function ∷ 0 ∷ 3 ∷ []) ∷ i op.LABEL (label ∷ []) ∷ []

abbrev pub returned : Code
returned = i op.RETURN [] ∷ []

abbrev pub ended : Code
ended = i op.FUNCTION_END [] ∷ []

-- the sum of a and b; the member is 12
abbrev pub sum : ℕ → ℕ → Code
sum a b = i op.ACCESS_CHAIN (8 ∷ 11 ∷ 9 ∷ 10 ∷ []) ∷ i op.LOAD (5 ∷ 12 ∷ 11 ∷ []) ∷ i op.I_ADD (5 ∷ 13 ∷ a ∷ b ∷ []) ∷ []

abbrev pub store : ℕ → Code
store value = i op.STORE (11 ∷ value ∷ []) ∷ []

-- the valid parts
abbrev pub front : Code
front = head (1 ∷ 1 ∷ 1 ∷ []) ++ names

abbrev pub decorations : Code
decorations = block decoration.BUFFER_BLOCK 0 ++ set ++ binding

abbrev pub globals : Code
globals = types 2 ++ constant 5 ++ buffer storage_class.UNIFORM

abbrev pub main : Code
main = begun 1 4 ++ sum 12 10 ++ store 13 ++ returned ++ ended

-- What is broken first, and where ------------------------------------------------------------------------------

example_is_valid : broken (module_with 14 (front ++ decorations ++ globals ++ main)) ≡ None
unfolding form_of blocks_from reads has_chain reaches_by
example_is_valid = refl

no_bound : broken (module_with 0 (front ++ decorations ++ globals ++ main)) ≡ Some (1, 3)
unfolding form_of blocks_from reads has_chain reaches_by
no_bound = refl

names_after_decorations : broken (module_with 14 (head (1 ∷ 1 ∷ 1 ∷ []) ++ decorations ++ names ++ globals ++ main)) ≡ Some (1, 37)
unfolding form_of blocks_from reads has_chain reaches_by
names_after_decorations = refl

no_entry_point : broken (module_with 14 (i op.CAPABILITY (1 ∷ []) ∷ i op.MEMORY_MODEL (0 ∷ 1 ∷ []) ∷ [])) ≡ Some (1, 10)
unfolding form_of blocks_from reads has_chain reaches_by
no_entry_point = refl

variable_behind_the_function : broken (module_with 15 (front ++ decorations ++ globals ++ main ++ i op.VARIABLE (7 ∷ 14 ∷ storage_class.UNIFORM ∷ []) ∷ [])) ≡ Some (1, 98)
unfolding form_of blocks_from reads has_chain reaches_by
variable_behind_the_function = refl

unknown_opcode : broken (module_with 14 (front ++ decorations ++ globals ++ begun 1 4 ++ i 1 (5 ∷ 11 ∷ []) ∷ returned ++ ended)) ≡ Some (1, 79)
unfolding form_of blocks_from reads has_chain reaches_by
unknown_opcode = refl

bound_too_small : broken (module_with 13 (front ++ decorations ++ globals ++ main)) ≡ Some (2, 88)
unfolding form_of blocks_from reads has_chain reaches_by
bound_too_small = refl

id_defined_twice : broken (module_with 14 (front ++ decorations ++ types 3 ++ constant 5 ++ buffer storage_class.UNIFORM ++ main)) ≡ Some (2, 46)
unfolding form_of blocks_from reads has_chain reaches_by
id_defined_twice = refl

used_before_its_definition : broken (module_with 14 (front ++ decorations ++ globals ++ begun 1 4 ++ sum 13 10 ++ store 13 ++ returned ++ ended)) ≡ Some (3, 88)
unfolding form_of blocks_from reads has_chain reaches_by
used_before_its_definition = refl

type_declared_twice : broken (module_with 15 (front ++ decorations ++ globals ++ i op.TYPE_INT (14 ∷ 32 ∷ 1 ∷ []) ∷ main)) ≡ Some (4, 72)
unfolding form_of blocks_from reads has_chain reaches_by
type_declared_twice = refl

constant_of_void : broken (module_with 14 (front ++ decorations ++ types 2 ++ constant 2 ++ buffer storage_class.UNIFORM ++ main)) ≡ Some (5, 64)
unfolding form_of blocks_from reads has_chain reaches_by
constant_of_void = refl

class_other_than_the_pointers : broken (module_with 14 (front ++ decorations ++ types 2 ++ constant 5 ++ buffer storage_class.PUSH_CONSTANT ++ main)) ≡ Some (6, 68)
unfolding form_of blocks_from reads has_chain reaches_by
class_other_than_the_pointers = refl

no_set : broken (module_with 14 (front ++ block decoration.BUFFER_BLOCK 0 ++ binding ++ globals ++ main)) ≡ Some (7, 64)
unfolding form_of blocks_from reads has_chain reaches_by
no_set = refl

set_twice : broken (module_with 14 (front ++ decorations ++ set ++ globals ++ main)) ≡ Some (7, 44)
unfolding form_of blocks_from reads has_chain reaches_by
set_twice = refl

offset_of_two : broken (module_with 14 (front ++ block decoration.BUFFER_BLOCK 2 ++ set ++ binding ++ globals ++ main)) ≡ Some (8, 53)
unfolding form_of blocks_from reads has_chain reaches_by
offset_of_two = refl

size_of_none : broken (module_with 14 (head (1 ∷ 0 ∷ 1 ∷ []) ++ names ++ decorations ++ globals ++ main)) ≡ Some (9, 10)
unfolding form_of blocks_from reads has_chain reaches_by
size_of_none = refl

block_without_end : broken (module_with 14 (front ++ decorations ++ globals ++ begun 1 4 ++ sum 12 10 ++ store 13 ++ ended)) ≡ Some (10, 96)
unfolding form_of blocks_from reads has_chain reaches_by
block_without_end = refl

function_without_end : broken (module_with 14 (front ++ decorations ++ globals ++ begun 1 4 ++ sum 12 10 ++ store 13 ++ returned)) ≡ Some (10, 97)
unfolding form_of blocks_from reads has_chain reaches_by
function_without_end = refl

two_blocks : broken (module_with 15 (front ++ decorations ++ globals ++ begun 1 4 ++ returned ++ i op.LABEL (14 ∷ []) ∷ returned ++ ended)) ≡ Some (12, 72)
unfolding form_of blocks_from reads has_chain reaches_by
two_blocks = refl

a_switch : broken (module_with 17 (front ++ decorations ++ globals ++ begun 1 4 ++ i op.SELECTION_MERGE (14 ∷ 0 ∷ []) ∷ i op.SWITCH (10 ∷ 14 ∷ 0 ∷ 15 ∷ 1 ∷ 16 ∷ []) ∷ i op.LABEL (15 ∷ []) ∷ i op.BRANCH (16 ∷ []) ∷ i op.LABEL (16 ∷ []) ∷ i op.BRANCH (14 ∷ []) ∷ i op.LABEL (14 ∷ []) ∷ returned ++ ended)) ≡ None
unfolding form_of blocks_from reads has_chain reaches_by
a_switch = refl

cases_in_another_order : broken (module_with 17 (front ++ decorations ++ globals ++ begun 1 4 ++ i op.SELECTION_MERGE (14 ∷ 0 ∷ []) ∷ i op.SWITCH (10 ∷ 14 ∷ 0 ∷ 16 ∷ 1 ∷ 15 ∷ []) ∷ i op.LABEL (15 ∷ []) ∷ i op.BRANCH (14 ∷ []) ∷ i op.LABEL (16 ∷ []) ∷ i op.BRANCH (14 ∷ []) ∷ i op.LABEL (14 ∷ []) ∷ returned ++ ended)) ≡ Some (12, 72)
unfolding form_of blocks_from reads has_chain reaches_by
cases_in_another_order = refl

literal_twice : broken (module_with 16 (front ++ decorations ++ globals ++ begun 1 4 ++ i op.SELECTION_MERGE (14 ∷ 0 ∷ []) ∷ i op.SWITCH (10 ∷ 14 ∷ 0 ∷ 15 ∷ 0 ∷ 15 ∷ []) ∷ i op.LABEL (15 ∷ []) ∷ i op.BRANCH (14 ∷ []) ∷ i op.LABEL (14 ∷ []) ∷ returned ++ ended)) ≡ Some (12, 72)
unfolding form_of blocks_from reads has_chain reaches_by
literal_twice = refl

switch_on_a_pointer : broken (module_with 15 (front ++ decorations ++ globals ++ begun 1 4 ++ i op.SELECTION_MERGE (14 ∷ 0 ∷ []) ∷ i op.SWITCH (9 ∷ 14 ∷ []) ∷ i op.LABEL (14 ∷ []) ∷ returned ++ ended)) ≡ Some (14, 82)
unfolding form_of blocks_from reads has_chain reaches_by
switch_on_a_pointer = refl

merge_before_a_load : broken (module_with 15 (front ++ decorations ++ globals ++ begun 1 4 ++ i op.SELECTION_MERGE (14 ∷ 0 ∷ []) ∷ sum 12 10 ++ i op.BRANCH (14 ∷ []) ∷ i op.LABEL (14 ∷ []) ∷ returned ++ ended)) ≡ Some (10, 79)
unfolding form_of blocks_from reads has_chain reaches_by
merge_before_a_load = refl

a_loop : broken (module_with 18 (front ++ decorations ++ globals ++ begun 1 4 ++ i op.BRANCH (15 ∷ []) ∷ i op.LABEL (15 ∷ []) ∷ i op.LOOP_MERGE (14 ∷ 16 ∷ 0 ∷ []) ∷ i op.BRANCH (17 ∷ []) ∷ i op.LABEL (17 ∷ []) ∷ i op.BRANCH (14 ∷ []) ∷ i op.LABEL (16 ∷ []) ∷ i op.BRANCH (15 ∷ []) ∷ i op.LABEL (14 ∷ []) ∷ returned ++ ended)) ≡ None
unfolding form_of blocks_from reads has_chain reaches_by
a_loop = refl

a_return_in_a_continue_part : broken (module_with 18 (front ++ decorations ++ globals ++ begun 1 4 ++ i op.BRANCH (15 ∷ []) ∷ i op.LABEL (15 ∷ []) ∷ i op.LOOP_MERGE (14 ∷ 16 ∷ 0 ∷ []) ∷ i op.BRANCH (17 ∷ []) ∷ i op.LABEL (17 ∷ []) ∷ i op.BRANCH (14 ∷ []) ∷ i op.LABEL (16 ∷ []) ∷ i op.RETURN [] ∷ i op.LABEL (14 ∷ []) ∷ returned ++ ended)) ≡ Some (12, 72)
unfolding form_of blocks_from reads has_chain reaches_by
a_return_in_a_continue_part = refl

a_value_returned_from_main : broken (module_with 14 (front ++ decorations ++ globals ++ begun 1 4 ++ i op.RETURN_VALUE (10 ∷ []) ∷ ended)) ≡ Some (16, 79)
unfolding form_of blocks_from reads has_chain reaches_by
a_value_returned_from_main = refl

kill_in_a_compute_shader : broken (module_with 14 (front ++ decorations ++ globals ++ begun 1 4 ++ i op.KILL [] ∷ ended)) ≡ Some (16, 79)
unfolding form_of blocks_from reads has_chain reaches_by
kill_in_a_compute_shader = refl

value_of_another_function : broken (module_with 16 (front ++ decorations ++ globals ++ main ++ begun 14 15 ++ store 12 ++ returned ++ ended)) ≡ Some (13, 105)
unfolding form_of blocks_from reads has_chain reaches_by
value_of_another_function = refl

variable_without_initialiser : broken (module_with 16 (front ++ decorations ++ globals ++ i op.TYPE_POINTER (14 ∷ storage_class.FUNCTION ∷ 5 ∷ []) ∷ begun 1 4 ++ i op.VARIABLE (14 ∷ 15 ∷ storage_class.FUNCTION ∷ []) ∷ returned ++ ended)) ≡ Some (10, 83)
unfolding form_of blocks_from reads has_chain reaches_by
variable_without_initialiser = refl

variable_of_a_function : broken (module_with 16 (front ++ decorations ++ globals ++ i op.TYPE_POINTER (14 ∷ storage_class.FUNCTION ∷ 5 ∷ []) ∷ begun 1 4 ++ i op.VARIABLE (14 ∷ 15 ∷ storage_class.FUNCTION ∷ 10 ∷ []) ∷ i op.STORE (15 ∷ 10 ∷ []) ∷ returned ++ ended)) ≡ None
unfolding form_of blocks_from reads has_chain reaches_by
variable_of_a_function = refl

sum_of_a_pointer : broken (module_with 14 (front ++ decorations ++ globals ++ begun 1 4 ++ sum 11 10 ++ store 13 ++ returned ++ ended)) ≡ Some (14, 88)
unfolding form_of blocks_from reads has_chain reaches_by
sum_of_a_pointer = refl

store_of_a_pointer : broken (module_with 14 (front ++ decorations ++ globals ++ begun 1 4 ++ sum 12 10 ++ store 11 ++ returned ++ ended)) ≡ Some (15, 93)
unfolding form_of blocks_from reads has_chain reaches_by
store_of_a_pointer = refl

store_in_a_uniform_block : broken (module_with 14 (front ++ block decoration.BLOCK 0 ++ set ++ binding ++ globals ++ main)) ≡ Some (15, 93)
unfolding form_of blocks_from reads has_chain reaches_by
store_in_a_uniform_block = refl

nothing_returned : broken (module_with 18 (front ++ decorations ++ globals ++ i op.TYPE_FUNCTION (14 ∷ 5 ∷ []) ∷ main ++ i op.FUNCTION (5 ∷ 15 ∷ 0 ∷ 14 ∷ []) ∷ i op.LABEL (16 ∷ []) ∷ returned ++ ended)) ≡ Some (16, 108)
unfolding form_of blocks_from reads has_chain reaches_by
nothing_returned = refl

too_many_parameters : broken (module_with 15 (front ++ decorations ++ globals ++ i op.TYPE_FUNCTION (14 ∷ 2 ∷ replicate 256 5) ∷ main)) ≡ Some (18, 72)
unfolding form_of blocks_from reads has_chain reaches_by
too_many_parameters = refl
