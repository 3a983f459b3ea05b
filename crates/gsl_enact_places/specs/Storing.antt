-- Whether a store goes on.
use Rattle.std.specs.Prelude.{Bool, true, false}
use Rattle.gsl_enact_steps.specs.declared.step.Step.{Step}
use Rattle.gsl_enact_steps.specs.declared.step.Step.TheVariants as step

abbrev pub going_if : Bool → Step
going_if true = step.Going
going_if false = step.Stuck
