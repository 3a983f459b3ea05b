-- Calls that answer as a part of a shader does.
use Rattle.std.specs.Prelude.{◌≡◌, Result, Ok, Err}
use Rattle.gsl_perform.specs.declared.stop.Stop.{Stop}
use Rattle.gsl_perform.specs.declared.stop.Stop.TheVariants as stop
use Rattle.gsl_perform.specs.declared.world.World.{World}
use Rattle.gsl_meaning.specs.Running.{Ran, Got, Ends, Strays, Goes}

-- the call wanted memory, or gave nothing to go on with as it should; `discard` leaves the state as it is
abbrev pub Stops : {A : Type 0} → Stop → World → Ran A → Type 0
Stops stop.Ends world ran = ran ≡ Ends world.store
Stops stop.Strays world ran = ran ≡ Strays
Stops stop.Goes world ran = ran ≡ Goes
Stops stop.Memory world ran = Unit {0}

-- Unless the call wanted memory, it came to this, and left the world so.
abbrev pub Does : {A : Type 0} → Result A Stop → World → Ran A → Type 0
Does (Ok a) world ran = ran ≡ Got a world.store world.units
Does (Err stop) world ran = Stops stop world ran
