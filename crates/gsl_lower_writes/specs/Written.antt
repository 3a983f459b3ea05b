-- What it is for a value to be stored where an expression leads (GLSL 4.50, 5.8).
use Rattle.std.specs.Prelude.{false}
use Rattle.gsl_base.specs.declared.input.Input.{Input}
use Rattle.gsl_words.specs.declared.module.Module.{Module}
use Rattle.gsl_tree.specs.Around.{Around}
use Rattle.gsl_tree.specs.declared.program.Program.{Program}
use Rattle.gsl_meaning.specs.State as shader
use Rattle.gsl_machine.specs.State.{State}
use Rattle.gsl_spv.specs.Sections.{Sections}
use Rattle.gsl_lower_holders.specs.Flow.{Flow}
use Rattle.gsl_lower_follows.specs.Frames.{Frame}
use Rattle.gsl_lower_follows.specs.Giving.{After}

-- The module's state is that of the shader then, in the same block; ids stand for what they did, and the holders that were in use are as they were.
abbrev pub IsWritten : (m : Module) (input : Input) (sections : Sections) → Frame m input sections → Program → Around → Flow → State → Unit {0} → Flow → Unit {0} → shader.State → State → Type 0
IsWritten m input sections f p around b state done later one u last = After m input sections f p around false b state later u last
