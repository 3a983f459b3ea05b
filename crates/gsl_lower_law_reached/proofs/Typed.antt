-- The states of a function that are those of the shader are typed, since a run of the module comes to them.
use Rattle.gsl_base.specs.declared.input.Input.{Input}
use Rattle.gsl_words.specs.declared.module.Module.{Module}
use Rattle.gsl_tree.specs.Around.{Around}
use Rattle.gsl_tree.specs.declared.program.Program.{Program}
use Rattle.gsl_meaning.specs.State as shader
use Rattle.gsl_machine.specs.State.{State}
use Rattle.gsl_spv.specs.Sections.{Sections}
use Rattle.gsl_sound_types.specs.Typed.{Typed}
use Rattle.gsl_sound_types.proofs.Reached.{reached_typed}
use Rattle.gsl_lower_holders.specs.Flow.{Flow}
use Rattle.gsl_lower_follows.specs.Frames.{Frame, Good}
use Rattle.gsl_lower_follows.specs.Reached.{Reached}

pub typed_reached : (m : Module) (input : Input) (state : State) → Reached m input state → Typed m state
typed_reached m input state r = reached_typed m input r.count state r.valid r.types r.fits r.comes

pub good_typed : (m : Module) (input : Input) (whole : Sections) (f : Frame m input whole) (p : Program) (around : Around) (b : Flow) (s : shader.State) (state : State) → Good m input whole f p around b s state → Typed m state
good_typed m input whole f p around b s state good = typed_reached m input state good.reached
