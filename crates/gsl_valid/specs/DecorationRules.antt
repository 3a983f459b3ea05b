-- V7: where decorations may stand, and which ones a global variable and its struct must have.
use Rattle.std.specs.Prelude.{ℕ, Bool, true, false, ◌==◌, ◌&&◌, ◌||◌, not, nat_lt, List, [], ◌∷◌, length, Option, Some, None, if◌then◌else◌}
use Rattle.std.specs.List.{list_any}
use Rattle.std.specs.Option.{option_map_or}
use Rattle.gsl_words.specs.declared.module.Instr.{Instr}
use Rattle.gsl_words.specs.declared.module.Module.{Module}
use Rattle.gsl_words.specs.declared.target.TheConstants.{VERSION_1_3}
use Rattle.gsl_instr.specs.declared.instruction.Instruction.{Instruction}
use Rattle.gsl_instr.specs.declared.enumerant.storage_class.TheConstants as storage_class
use Rattle.gsl_instr.specs.declared.enumerant.decoration.TheConstants as decoration
use Rattle.gsl_valid.specs.Instruction.{read}
use Rattle.gsl_valid.specs.Kinds.{Shape, OfVoid, OfBool, OfInt, OfVector, OfArray, OfRuntimeArray, OfStruct, OfPointer, OfFunction, NoType, Variable, Place, On, OnMember, Decoration, shape_of, variable_is, decoration_of}
use Rattle.gsl_valid.specs.Placed.{Code}
use Rattle.gsl_valid.specs.Search.{first_broken}
use Rattle.gsl_valid.specs.Ids.{defined}
use Rattle.gsl_valid.specs.Types.{Target, target_of, defined_as, outside_of, variable_of}
use Rattle.gsl_valid.specs.Decorations.{stands_on, has, number_on, same_number}
use Rattle.gsl_valid.specs.Where.{where_at}

-- whether a kind is one of some
abbrev pub is_one_of : List ℕ → ℕ → Bool
is_one_of kinds kind = list_any (λ other. other == kind) kinds

-- the decorations that have a literal
abbrev pub with_literal : List ℕ
with_literal =
    decoration.ARRAY_STRIDE ∷ decoration.BUILT_IN ∷ decoration.LOCATION ∷ decoration.BINDING ∷ decoration.DESCRIPTOR_SET ∷ decoration.OFFSET ∷ []

-- the decorations that stand on structs, where BufferBlock is one of version 1.0 alone
abbrev pub on_structs : ℕ → List ℕ
on_structs version = if version == VERSION_1_3 then decoration.BLOCK ∷ [] else decoration.BLOCK ∷ decoration.BUFFER_BLOCK ∷ []

-- those that stand on arrays
abbrev pub on_arrays : List ℕ
on_arrays = decoration.ARRAY_STRIDE ∷ []

-- those that stand on members
abbrev pub on_members : List ℕ
on_members = decoration.OFFSET ∷ decoration.NON_WRITABLE ∷ decoration.NON_READABLE ∷ decoration.COHERENT ∷ decoration.VOLATILE ∷ []

-- those that stand on global variables
abbrev pub on_variables : List ℕ
on_variables = decoration.BUILT_IN ∷ decoration.FLAT ∷ decoration.LOCATION ∷ decoration.BINDING ∷ decoration.DESCRIPTOR_SET ∷ []

-- whether a decoration may stand on a type
abbrev pub may_stand_on_type : ℕ → ℕ → Shape → Bool
may_stand_on_type version kind OfVoid = false
may_stand_on_type version kind OfBool = false
may_stand_on_type version kind (OfInt signedness) = false
may_stand_on_type version kind (OfVector component count) = false
may_stand_on_type version kind (OfArray element length) = is_one_of on_arrays kind
may_stand_on_type version kind (OfRuntimeArray element) = is_one_of on_arrays kind
may_stand_on_type version kind (OfStruct id members) = is_one_of (on_structs version) kind
may_stand_on_type version kind (OfPointer class pointee) = false
may_stand_on_type version kind (OfFunction returned parameters) = false
may_stand_on_type version kind NoType = false

-- whether a decoration may stand on a variable, if there is one
abbrev pub may_stand_on_variable : ℕ → Option Variable → Bool
may_stand_on_variable kind None = false
may_stand_on_variable kind (Some v) = is_one_of on_variables kind

-- whether a decoration may stand on what an instruction outside functions defines
abbrev pub may_stand_on : ℕ → ℕ → Option Instruction → Bool
may_stand_on version kind d = may_stand_on_type version kind (shape_of d) || may_stand_on_variable kind (variable_is d)

-- whether a decoration may stand on a member of it
abbrev pub may_stand_on_part : ℕ → ℕ → Shape → Bool
may_stand_on_part kind member OfVoid = false
may_stand_on_part kind member OfBool = false
may_stand_on_part kind member (OfInt signedness) = false
may_stand_on_part kind member (OfVector component count) = false
may_stand_on_part kind member (OfArray element length) = false
may_stand_on_part kind member (OfRuntimeArray element) = false
may_stand_on_part kind member (OfStruct id members) = nat_lt member (length members) && is_one_of on_members kind
may_stand_on_part kind member (OfPointer class pointee) = false
may_stand_on_part kind member (OfFunction returned parameters) = false
may_stand_on_part kind member NoType = false

abbrev pub may_stand_on_member : ℕ → ℕ → Option Instruction → Bool
may_stand_on_member kind member d = may_stand_on_part kind member (shape_of d)

-- whether a decoration of a kind may stand on a place
abbrev pub may_stand : Module → ℕ → Place → Bool
may_stand m kind (On target) = defined (outside_of m) target && may_stand_on m.version kind (defined_as m target)
may_stand m kind (OnMember target member) = may_stand_on_member kind member (defined_as m target)

-- whether there is one literal where the kind needs one, and else none
abbrev pub has_literals : ℕ → List ℕ → Bool
has_literals kind literals = length literals == (if is_one_of with_literal kind then 1 else 0)

-- whether some code decorates a place with a kind
abbrev pub decorates : Code → Place → ℕ → Bool
decorates code place kind = list_any (λ i. option_map_or (stands_on place kind) (decoration_of (read i)) false) code

-- whether a decoration may stand where it does, with its literals and for the first time
abbrev pub decoration_kept : Module → Code → Decoration → Bool
decoration_kept m before d = may_stand m d.kind d.place && has_literals d.kind d.literals && not (decorates before d.place d.kind)

-- the type that a pointer type points to, 0 for any other
abbrev pub pointee_of : Option Target → ℕ
pointee_of None = 0
pointee_of (Some target) = target.pointee

-- the type that a variable's pointer type points to
abbrev pub pointee : Module → ℕ → ℕ
pointee m type = pointee_of (target_of (defined_as m type))

-- whether a class is one whose variables have a set and a binding
abbrev pub is_bound_class : ℕ → Bool
is_bound_class class = class == storage_class.UNIFORM || class == storage_class.STORAGE_BUFFER

-- whether a variable, if there is one, has a set and a binding
abbrev pub is_bound_variable : Module → Option ℕ → Option ℕ → Option Variable → Bool
is_bound_variable m set binding None = false
is_bound_variable m set binding (Some v) =
    is_bound_class v.class && same_number (number_on m decoration.DESCRIPTOR_SET v.id) set && same_number (number_on m decoration.BINDING v.id) binding

abbrev pub is_bound_to : Module → Option ℕ → Option ℕ → Option Instruction → Bool
is_bound_to m set binding d = is_bound_variable m set binding (variable_is d)

-- whether exactly one of two holds
abbrev pub differ : Bool → Bool → Bool
differ a b = a && not b || not a && b

-- whether a variable has a set and a binding that no variable before it has
abbrev pub is_bound : Module → Code → ℕ → Bool
is_bound m before r =
    has m decoration.DESCRIPTOR_SET r && has m decoration.BINDING r
    && not (list_any (λ i. is_bound_to m (number_on m decoration.DESCRIPTOR_SET r) (number_on m decoration.BINDING r) (read i)) before)

-- whether a variable and its struct have the decorations that its class needs
abbrev pub is_decorated : Module → Code → ℕ → ℕ → ℕ → Bool
is_decorated m before type r class =
    if class == storage_class.UNIFORM
    then differ (has m decoration.BLOCK (pointee m type)) (has m decoration.BUFFER_BLOCK (pointee m type)) && is_bound m before r
    else if class == storage_class.STORAGE_BUFFER
    then has m decoration.BLOCK (pointee m type) && is_bound m before r
    else if class == storage_class.PUSH_CONSTANT
    then has m decoration.BLOCK (pointee m type) && not (list_any (λ i. variable_of storage_class.PUSH_CONSTANT (read i)) before)
    else if class == storage_class.INPUT || class == storage_class.OUTPUT
    then differ (has m decoration.LOCATION r) (has m decoration.BUILT_IN r)
    else true

-- whether a variable, if there is one, and its struct have the decorations that they need
abbrev pub variable_decorated : Module → Code → Option Variable → Bool
variable_decorated m before None = true
variable_decorated m before (Some v) = (where_at m before).inside || is_decorated m before v.type v.id v.class

-- whether V7 is kept by an instruction
abbrev pub decorated : Module → Code → Instr → Bool
decorated m before i = option_map_or (decoration_kept m before) (decoration_of (read i)) true && variable_decorated m before (variable_is (read i))

-- the first instruction that breaks V7
abbrev pub decorations : Module → Option ℕ
decorations m = first_broken (decorated m) m
