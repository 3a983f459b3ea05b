-- How a module ends, and how its shader does (GLSL 4.50, 6.1 and 6.4; SPIR-V 1.0, 2.4).
use Rattle.std.specs.Prelude.{◌≡◌, ℕ, List, [], slice_get, Option, Some}
use Rattle.gsl_base.specs.declared.input.Input.{Input}
use Rattle.gsl_base.specs.declared.input.Output.{Output}
use Rattle.gsl_types.specs.declared.ty.Ty.TheVariants.{Void}
use Rattle.gsl_words.specs.declared.module.Module.{Module}
use Rattle.gsl_values.specs.declared.value.Value.{Value}
use Rattle.gsl_tree.specs.Around.{Around}
use Rattle.gsl_tree.specs.Statements.{IsBody}
use Rattle.gsl_tree.specs.Trees.{outside, with_exits}
use Rattle.gsl_tree.specs.WellTyped.{around_body, program_lists}
use Rattle.gsl_tree.specs.declared.program.Program.{Program}
use Rattle.gsl_tree.specs.declared.unit.Function.{Function}
use Rattle.gsl_meaning.specs.Shader as shader
use Rattle.gsl_meaning.specs.Shader.{Outcome, begins, entered, most_calls}
use Rattle.gsl_meaning.specs.State as meaning
use Rattle.gsl_machine.specs.State.{Ended, State}
use Rattle.gsl_spv.specs.Sections.{Sections}
use Rattle.gsl_lower_holders.specs.Flow.{Flow, Gives}
use Rattle.gsl_lower_holders.specs.declared.place.FlowPlace.{FlowPlace}
use Rattle.gsl_lower_used.specs.Lowered.{AlongAllLowered, up_to_jump}
use Rattle.gsl_lower_follows.specs.Following.{Faults, Lasts}
use Rattle.gsl_lower_follows.specs.Frames.{Frame, Inside}
use Rattle.gsl_lower_follows.specs.Stretching.{Stretch}
use Rattle.gsl_lower_law_entered.specs.Modules.{IsFrame}
use Rattle.gsl_lower_law_main.specs.Ending.{HasOutputs}
use Rattle.gsl_lower_law_evaluated.specs.Evaluating.{IsTyped}
use Rattle.gsl_lower_law_shader.specs.Typed.{KnowsTypes}
use Rattle.gsl_lower_law_shader.specs.Depths.{AreAskedOf, body_of}

-- It ends with an output after so many instructions, and so many units are left.
pub record EndsWith (m : Module) (input : Input) (units : ℕ) (state : State) (output : Output) : Type 0 where
  pub left : ℕ
  pub stretch : Stretch m input 0 0 units state left (Ended output)

-- From a state a module comes to what a shader comes to with so many units: it ends with the same output, it strays, or it is still going after as many instructions as there are units.
abbrev pub EndsAs : Module → Input → ℕ → State → Outcome → Type 0
EndsAs m input units state (shader.Ended output) = EndsWith m input units state output
EndsAs m input units state shader.Strayed = Faults m input 0 units state
EndsAs m input units state shader.Going = Lasts m input units state

-- the state in which the body of main begins
abbrev pub main_begins : Program → Input → Function → meaning.State
main_begins p input f = entered p.structs f.locals [] (begins p input)

-- what stands around the body of main
abbrev pub around_main : Program → Function → Around
around_main p f = around_body (program_lists p) [] f.locals

module _ (m : Module) (input : Input) (whole : Sections) (p : Program) (place : FlowPlace) (stages : List (Option Value)) (rank : ℕ → ℕ) (f : Frame m input whole) where
  -- Main is well typed and runs in a frame that no other called, where its body stands as it is lowered; the types and the outputs of the module are known, and what is asked of the expressions in it that are lowered is so.
  pub record IsMain (tree : Function) (begin : Flow) : Type 0 where
    pub found : slice_get p.functions p.main ≡ Some tree
    pub of_module : IsFrame m input whole place stages f
    pub alone : f.waiting ≡ []
    pub nothing : f.result ≡ Void
    pub outs : HasOutputs m input whole f p
    pub later : Flow
    pub lowered : body_of p tree f.result begin ≡ Gives tt later
    pub inside : Inside m input whole f later.sections
    pub typed : IsTyped p [] tree.locals
    pub body : IsBody (around_main p tree) f.result tree.body
    pub knows : KnowsTypes m input whole f p
    pub asks : AlongAllLowered (AreAskedOf m input whole p place stages rank most_calls most_calls f [] tree.locals) (with_exits outside (up_to_jump tree.body))
