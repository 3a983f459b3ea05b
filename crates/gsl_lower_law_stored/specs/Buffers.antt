-- What is known of the buffers of blocks, and what a store into one leaves (GLSL 4.50, 4.4.5; Vulkan 1.0, 14.5; SPIR-V 1.0, 3.20).
use Rattle.std.specs.Prelude.{◌≡◌, ◌≤◌, ℕ, false, List, length, set, slice_get, Some}
use Rattle.gsl_base.specs.declared.input.Input.{Input}
use Rattle.gsl_instr.specs.declared.enumerant.decoration.TheConstants as decoration
use Rattle.gsl_layout.specs.Layout.{IsLayout, need}
use Rattle.gsl_words.specs.declared.module.Module.{Module}
use Rattle.gsl_values.specs.declared.value.Value.{Value}
use Rattle.gsl_tree.specs.Laying.{layout_of}
use Rattle.gsl_tree.specs.WellTyped.{is_push as is_push_kind}
use Rattle.gsl_tree.specs.declared.program.Program.{Program}
use Rattle.gsl_tree.specs.declared.unit.Block.{Block}
use Rattle.gsl_views.specs.Buffers.{bytes_at}
use Rattle.gsl_meaning.specs.State as shader
use Rattle.gsl_valid.specs.Decorations.{number_on}
use Rattle.gsl_machine.specs.Memory.{is_push}
use Rattle.gsl_machine.specs.State.{State}
use Rattle.gsl_spv.specs.Sections.{Sections}
use Rattle.gsl_lower_follows.specs.Frames.{Frame}
use Rattle.gsl_lower_law_members.specs.OfLawBytes.{IsOnly, StandsAlone}
use Rattle.gsl_lower_law_places.specs.Storing.{buffers_with}

-- The bytes that are given for a block are those of the one buffer at its set and binding, where no other block has its own; they are as many as
-- its layout needs.
pub record HasBuffer (input : Input) (p : Program) (number : ℕ) (block : Block) : Type 0 where
  pub alone : StandsAlone block.set block.binding p.blocks number block
  pub only : IsOnly block.set block.binding input.buffers
  pub given : List ℕ
  pub has : bytes_at input.buffers block.set block.binding ≡ Some given
  pub room : need (layout_of p.structs block) ≤ length given

-- The variable of a block is decorated as the block is: with its set and binding, where it is none of push constants.
pub record IsBound (m : Module) (id : ℕ) (block : Block) : Type 0 where
  pub pushes : is_push m id ≡ is_push_kind block.kind
  pub set : is_push_kind block.kind ≡ false → number_on m decoration.DESCRIPTOR_SET id ≡ Some block.set
  pub binding : is_push_kind block.kind ≡ false → number_on m decoration.BINDING id ≡ Some block.binding

module _ (m : Module) (input : Input) (whole : Sections) (f : Frame m input whole) (p : Program) where
  -- What is known of all blocks of a program.
  pub record KnowsBuffers : Type 0 where
    pub laid : (number : ℕ) (block : Block) → slice_get p.blocks number ≡ Some block → IsLayout (layout_of p.structs block)
    pub buffers : (number : ℕ) (block : Block) → slice_get p.blocks number ≡ Some block → is_push_kind block.kind ≡ false → HasBuffer input p number block
    pub bound : (number id : ℕ) (block : Block) → slice_get p.blocks number ≡ Some block → slice_get f.place.blocks number ≡ Some id → IsBound m id block

-- a state of the shader in which a block has another value
abbrev pub with_value : shader.State → ℕ → Value → shader.State
with_value s number v = record s { blocks = set s.blocks number v }

-- a state of the module in which the variable of a block has other bytes
abbrev pub with_bytes_of : Module → State → ℕ → List ℕ → State
with_bytes_of m state id bytes = record state { buffers = buffers_with m state id bytes }
