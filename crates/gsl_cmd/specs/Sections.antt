-- What the instructions before a module's functions say of its ids (SPIR-V 1.0, 2.4).
use Rattle.std.specs.Prelude.{ℕ, Bool, true, false, ◌==◌, ◌&&◌, if◌then◌else◌, List, [], ◌∷◌, drop, slice_index, is_some, Option, Some, None, option_map}
use Rattle.gsl_instr.specs.declared.op.TheConstants as op
use Rattle.gsl_cmd.specs.Lowering.{Code}

-- whether the operand at a place is this word
abbrev pub has_at : ℕ → ℕ → List ℕ → Bool
has_at place word args = slice_index args place == word

-- whether the operands begin with these words
abbrev pub begin_with : List ℕ → List ℕ → Bool
begin_with [] args = true
begin_with (word ∷ words) [] = false
begin_with (word ∷ words) (arg ∷ args) = arg == word && begin_with words args

-- the operands of the first instruction of an opcode whose operands pass a test
abbrev pub operands : ℕ → (List ℕ → Bool) → Code → Option (List ℕ)
operands opcode test [] = None
operands opcode test (i ∷ code) = if i.op == opcode && test i.args then Some i.args else operands opcode test code

-- the operand at a place of that instruction
abbrev pub operand : ℕ → ℕ → (List ℕ → Bool) → Code → Option ℕ
operand place opcode test code = option_map (λ args. slice_index args place) (operands opcode test code)

-- the literal of a decoration of an id
abbrev pub decoration_of : Code → ℕ → ℕ → Option ℕ
decoration_of code target decoration = operand 2 op.DECORATE (begin_with (target ∷ decoration ∷ [])) code

-- the literal of a decoration of a struct's member
abbrev pub member_decoration_of : Code → ℕ → ℕ → ℕ → Option ℕ
member_decoration_of code struct member decoration = operand 3 op.MEMBER_DECORATE (begin_with (struct ∷ member ∷ decoration ∷ [])) code

-- whether a type is one of integers
abbrev pub is_int : Code → ℕ → Bool
is_int code type = is_some (operands op.TYPE_INT (has_at 0 type) code)

-- the types of a struct's members
abbrev pub members_of : Code → ℕ → Option (List ℕ)
members_of code type = option_map (drop 1) (operands op.TYPE_STRUCT (has_at 0 type) code)

-- the type that a pointer type points to
abbrev pub pointee_of : Code → ℕ → Option ℕ
pointee_of code type = operand 2 op.TYPE_POINTER (has_at 0 type) code

-- the word of a constant
abbrev pub constant_of : Code → ℕ → Option ℕ
constant_of code constant = operand 2 op.CONSTANT (has_at 1 constant) code

-- the type of a variable, which is a pointer type
abbrev pub variable_type_of : Code → ℕ → Option ℕ
variable_type_of code variable = operand 0 op.VARIABLE (has_at 1 variable) code
