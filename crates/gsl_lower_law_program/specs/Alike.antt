-- What is so of variables outside functions and of blocks where a module and its shader begin (GLSL 4.50, 4.3 and 7.1; SPIR-V 1.0, 3.32.8).
use Rattle.std.specs.Prelude.{◌≡◌, ℕ, true, List, [], slice_get, Option, Some, Ok}
use Rattle.gsl_base.specs.Ranges.{FitsTypes}
use Rattle.gsl_base.specs.declared.input.Input.{Input}
use Rattle.gsl_types.specs.declared.ty.Ty.{Ty}
use Rattle.gsl_words.specs.declared.module.Module.{Module}
use Rattle.gsl_values.specs.declared.value.Value.{Value}
use Rattle.gsl_tree.specs.Values.{is_value_of}
use Rattle.gsl_tree.specs.declared.program.Program.{Program}
use Rattle.gsl_tree.specs.declared.unit.Block.{Block}
use Rattle.gsl_typed_law.specs.Given.{AreChoices}
use Rattle.gsl_meaning.specs.Blocks.{put_blocks, words_in}
use Rattle.gsl_meaning.specs.Shader.{begins}
use Rattle.gsl_machine.specs.Fits as input_fits
use Rattle.gsl_machine.specs.Machine.{start}
use Rattle.gsl_machine.specs.Memory.{bytes_of}
use Rattle.gsl_spv.specs.Sections.{Sections}
use Rattle.gsl_lower_holders.specs.declared.place.FlowPlace.{FlowPlace}
use Rattle.gsl_lower_follows.specs.Frames.{AreBytes, Frame, HasType, IsSeen, Name, Stage, stage_types, type_named, value_of}
use Rattle.gsl_lower_law_returns.specs.Calling.{is_shared}
use Rattle.gsl_lower_law_entered.specs.Modules.{IsFrame}
use Rattle.gsl_lower_law_main.specs.Ending.{HasOutputs}
use Rattle.gsl_lower_law_shader.specs.Depths.{globals_of}
use Rattle.gsl_lower_law_outside.specs.Beginning.{BeginsWith}

module _ (m : Module) (input : Input) (place : FlowPlace) (whole : Sections) (p : Program) (stages : List (Option Value)) where
  -- On an input that fits the module the variables outside functions begin with the values of the shader's, which are of their types, and the blocks of the module have the words that the shader sees; at the end the outputs of the module
  -- are those of the program.
  pub record BeginAlike : Type 0 where
    pub values : (name : Name) (v : Value) → is_shared name ≡ true → value_of stages (begins p input) name ≡ Some v → BeginsWith m input place name v
    pub typed : (f : Frame m input whole) (name : Name) → is_shared name ≡ true → HasType m input whole f p (globals_of p) (type_named (globals_of p) name) (value_of stages (begins p input) name)
    pub stages_typed : (number : ℕ) (t : Ty) (v : Value) → slice_get stage_types number ≡ Some t → value_of stages (begins p input) (Stage number) ≡ Some v → is_value_of p.structs t v ≡ true
    pub blocks : (number id : ℕ) (block : Block) → slice_get p.blocks number ≡ Some block → slice_get place.blocks number ≡ Some id
        → (bytes : List ℕ) × (bytes_of m input (start m input) id ≡ Some bytes) × (slice_get (begins p input).blocks number ≡ Some (words_in p.structs block bytes)) × AreBytes bytes
    pub seen : (f : Frame m input whole) (number : ℕ) (block : Block) → slice_get p.blocks number ≡ Some block → IsSeen m input whole f p (globals_of p) block (slice_get (begins p input).blocks number)
    pub buffers : input.buffers ≡ put_blocks p.structs p.blocks (begins p input).blocks input.buffers
    pub choices : AreChoices input.choices
    pub types : FitsTypes input
    pub fits : input_fits.fits m input ≡ Ok tt
    pub outs : (f : Frame m input whole) → IsFrame m input whole place stages f → f.waiting ≡ [] → HasOutputs m input whole f p
