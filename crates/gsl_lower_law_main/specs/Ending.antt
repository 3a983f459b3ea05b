-- What a module gives out at the end of main, and what the shader does (GLSL 4.50, 4.3.6; SPIR-V 1.0, 3.20).
use Rattle.std.specs.Prelude.{◌≡◌, ℕ, ◌≤◌, suc, ◌==◌, if◌then◌else◌, true, false, List, [], ◌∷◌, length, Option, Some, None}
use Rattle.std.specs.List.{cons_option}
use Rattle.gsl_base.specs.declared.input.Input.{Input}
use Rattle.gsl_instr.specs.declared.enumerant.decoration.TheConstants as decoration
use Rattle.gsl_instr.specs.declared.enumerant.storage_class.TheConstants as storage_class
use Rattle.gsl_words.specs.declared.module.Module.{Module}
use Rattle.gsl_tree.specs.declared.program.Program.{Program}
use Rattle.gsl_tree.specs.declared.unit.Interface.{Interface as Passed}
use Rattle.gsl_meaning.specs.Shader.{output_of}
use Rattle.gsl_meaning.specs.State as shader
use Rattle.gsl_valid.specs.Decorations.{number_on}
use Rattle.gsl_valid.specs.Kinds.{Variable}
use Rattle.gsl_machine.specs.Interfaces.{value_variables}
use Rattle.gsl_machine.specs.State.{Ended, State}
use Rattle.gsl_spv.specs.Sections.{Sections}
use Rattle.gsl_lower_follows.specs.Frames.{Frame, Interface, Name}
use Rattle.gsl_lower_follows.specs.Stretching.{Stretch}

-- an output by its position among the variables, and its location
abbrev pub out_at : ℕ → ℕ → Option ℕ → Option (ℕ × ℕ)
out_at position class None = None
out_at position class (Some location) = if class == storage_class.OUTPUT then Some (position, location) else None

-- the outputs among variables, the first of which is at a position
abbrev pub outs_from : Module → ℕ → List Variable → List (ℕ × ℕ)
outs_from m position [] = []
outs_from m position (v ∷ variables) = cons_option (out_at position v.class (number_on m decoration.LOCATION v.id)) (outs_from m (suc position) variables)

-- These are the outputs of a program, from the input or output of a number on: each is at the position of its variable, with its location.
pub data AreOuts (seat : Name → Option ℕ) : ℕ → List Passed → List (ℕ × ℕ) → Type 0 where
  none : {number : ℕ} → AreOuts seat number [] []
  input : {number : ℕ} {i : Passed} {interfaces : List Passed} {outs : List (ℕ × ℕ)} → i.output ≡ false → AreOuts seat (suc number) interfaces outs → AreOuts seat number (i ∷ interfaces) outs
  output : {number : ℕ} {i : Passed} {interfaces : List Passed} {outs : List (ℕ × ℕ)} (position : ℕ) → i.output ≡ true → seat (Interface number) ≡ Some position → AreOuts seat (suc number) interfaces outs
      → AreOuts seat number (i ∷ interfaces) ((position, i.location) ∷ outs)

module _ (m : Module) (input : Input) (whole : Sections) (f : Frame m input whole) (p : Program) where
  -- The outputs of the module are those of the program, in their order, and all variables outside functions run.
  pub record HasOutputs : Type 0 where
    pub outs : AreOuts f.seat 0 p.interfaces (outs_from m 0 (value_variables m))
    pub enough : length (value_variables m) ≤ length f.begun

-- From a state the module ends as the shader does, with its outputs.
pub record EndsAlike (m : Module) (input : Input) (p : Program) (lent units : ℕ) (state : State) (s : shader.State) : Type 0 where
  pub left : ℕ
  pub stretch : Stretch m input lent 0 units state left (Ended (output_of p input false s))
