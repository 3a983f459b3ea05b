-- Which inputs fit: by the shader's block, and by the module's variables, decorations and modes.
use Rattle.std.specs.Prelude.{ℕ, ◌+◌, ◌-◌, Bool, true, ◌==◌, ◌&&◌, ◌||◌, nat_lt, if◌then◌else◌, List, [], ◌∷◌, length, drop, slice_index, filter_map, Option, Some, None, option_and_then, option_map}
use Rattle.gsl_base.specs.declared.input.Input.{Input}
use Rattle.gsl_words.specs.declared.module.Instr.{Instr}
use Rattle.gsl_words.specs.declared.module.Module.{Module}
use Rattle.gsl_instr.specs.declared.op.TheConstants as op
use Rattle.gsl_instr.specs.declared.enumerant.execution_model.TheConstants as execution_model
use Rattle.gsl_instr.specs.declared.enumerant.execution_mode.TheConstants as execution_mode
use Rattle.gsl_instr.specs.declared.enumerant.storage_class.TheConstants as storage_class
use Rattle.gsl_instr.specs.declared.enumerant.decoration.TheConstants as decoration
use Rattle.gsl_form.specs.declared.program.Program.{Program}
use Rattle.gsl_cmd.specs.Lowering.{Code}
use Rattle.gsl_cmd.specs.Buffers.{word_offset}
use Rattle.gsl_cmd.specs.Needs.{Block, Needs, Met, meets}
use Rattle.gsl_cmd.specs.Sections.{begin_with, operands, decoration_of, member_decoration_of, is_int, members_of, pointee_of}
use Rattle.gsl_cmd.specs.Shader.{SET, BINDING}

-- The shader ---------------------------------------------------------------------------------------------

-- one block of as many words as it has members, and work groups of one invocation
abbrev pub needs_of : Program → Needs
needs_of p = record {
  blocks = record { set = SET; binding = BINDING; need = word_offset (length p.members) } ∷ [];
  local_size = Some (1 ∷ 1 ∷ 1 ∷ []);
}

-- the shader's answer to an input
abbrev pub fits : Program → Input → Met
fits p input = meets (needs_of p) input

-- The module ---------------------------------------------------------------------------------------------

-- whether a block comes before another, by set and then by binding
abbrev pub comes_before : Block → Block → Bool
comes_before a b = nat_lt a.set b.set || (a.set == b.set && nat_lt a.binding b.binding)

-- a block in its place among others in order
abbrev pub put_in_order : Block → List Block → List Block
put_in_order block [] = block ∷ []
put_in_order block (other ∷ others) = if comes_before other block then other ∷ put_in_order block others else block ∷ other ∷ others

-- blocks by set and binding
abbrev pub in_order : List Block → List Block
in_order [] = []
in_order (block ∷ blocks) = put_in_order block (in_order blocks)

module _ (code : Code) where
  -- where a struct's member ends, which is an integer
  abbrev pub member_end : ℕ → List ℕ → ℕ → Option ℕ
  member_end struct members i =
      if is_int code (slice_index members i) then option_map (λ offset. offset + 4) (member_decoration_of code struct i decoration.OFFSET) else None

  -- how many bytes a struct needs: up to the end of its last member
  abbrev pub need_of : ℕ → Option ℕ
  need_of struct = option_and_then (λ members. member_end struct members (length members - 1)) (members_of code struct)

  -- the block of a variable of this id that points to a struct
  abbrev pub variable_block : ℕ → ℕ → Option Block
  variable_block variable struct =
      option_and_then (λ set.
      option_and_then (λ binding. option_map (λ need. record { set = set; binding = binding; need = need }) (need_of struct)) (decoration_of code variable decoration.BINDING))
      (decoration_of code variable decoration.DESCRIPTOR_SET)

  -- the block of a variable by its operands
  abbrev pub operands_block : List ℕ → Option Block
  operands_block (type ∷ variable ∷ class ∷ []) =
      if class == storage_class.UNIFORM then option_and_then (variable_block variable) (pointee_of code type) else None
  operands_block _ = None

  -- the block of an instruction, where that is a variable of the class of blocks
  abbrev pub block_of : Instr → Option Block
  block_of i = if i.op == op.VARIABLE then operands_block i.args else None

  -- by the operands of the entry point
  abbrev pub size_of_entry : Option (List ℕ) → Option (List ℕ)
  size_of_entry None = None
  size_of_entry (Some entry) =
      if slice_index entry 0 == execution_model.GL_COMPUTE
      then option_map (drop 2) (operands op.EXECUTION_MODE (begin_with (slice_index entry 1 ∷ execution_mode.LOCAL_SIZE ∷ [])) code)
      else None

  -- the size of a work group, for compute
  abbrev pub local_size_of : Option (List ℕ)
  local_size_of = size_of_entry (operands op.ENTRY_POINT (λ args. true) code)

-- the blocks of the module's variables, and the size of its work groups
abbrev pub module_needs : Code → Needs
module_needs code = record { blocks = in_order (filter_map (block_of code) code); local_size = local_size_of code }

-- the module's answer to an input
abbrev pub fits_module : Module → Input → Met
fits_module m input = meets (module_needs m.instrs) input
