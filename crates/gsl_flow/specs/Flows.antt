-- How statements are left, as the code has it.
use Rattle.std.specs.Prelude.{◌≡◌, Result, Ok, Err}
use Rattle.gsl_meaning.specs.Running.{Ran, Got}
use Rattle.gsl_meaning.specs.Statements.{Flow, Normal, Broke, Continued, Returned}
use Rattle.gsl_perform.specs.declared.stop.Stop.{Stop}
use Rattle.gsl_perform.specs.declared.world.World.{World}
use Rattle.gsl_perform.specs.Does.{Stops}
use Rattle.gsl_flow.specs.declared.left.Left.{Left}
use Rattle.gsl_flow.specs.declared.left.Left.TheVariants as left

abbrev pub flow_of : Left → Flow
flow_of left.Normal = Normal
flow_of left.Broke = Broke
flow_of left.Continued = Continued
flow_of (left.Returned v) = Returned v

-- Unless the call wanted memory, the statement was left so.
abbrev pub Leaves : Result Left Stop → World → Ran Flow → Type 0
Leaves (Ok flow) world ran = ran ≡ Got (flow_of flow) world.store world.units
Leaves (Err stop) world ran = Stops stop world ran

-- `break` leaves the `switch`
abbrev pub behind_switch : Left → Left
behind_switch left.Broke = left.Normal
behind_switch flow = flow
