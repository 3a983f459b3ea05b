-- A step to a part only adds, wherever it begins.
use Rattle.std.proofs.Common.{Option, Some, None, [], ◌∷◌}
use Rattle.gsl_base.specs.declared.input.Input.{Input}
use Rattle.gsl_words.specs.declared.module.Module.{Module}
use Rattle.gsl_tree.specs.Shapes.{Shape}
use Rattle.gsl_spv.specs.Sections.{Sections}
use Rattle.gsl_spv.proofs.Extending.{extends_same}
use Rattle.gsl_lower_values.specs.Building as steps
use Rattle.gsl_lower_places.specs.Reached.{component_at, component_if, component_in, picking, position_by, repicked, with_picked}
use Rattle.gsl_lower_places.specs.declared.reached.Part.{Part}
use Rattle.gsl_lower_places.specs.declared.reached.Part.TheVariants.{Fixed, By}
use Rattle.gsl_lower_places.specs.declared.reached.Picked.{Picked}
use Rattle.gsl_lower_places.specs.declared.reached.Reached.{Reached}
use Rattle.gsl_lower_expr.specs.Parts.{step_into}
use Rattle.gsl_lower_follows.proofs.Fetching.{no_state}
use Rattle.gsl_lower_law_expr.proofs.Steps.{Always, always_then}
use Rattle.gsl_lower_reads.proofs.OfElements.{position_grows}

module _ (m : Module) (input : Input) (sections : Sections) where
  always_in : (q : Picked) (part : Part) → Always (component_in q part)
  always_in q (Fixed number) = λ before. extends_same before
  always_in q (By s id) = always_then m input sections (position_by q.positions id) (λ position. steps.given (picking q.shape (repicked q.by position) (0 ∷ []))) (λ before. position_grows m input sections q.positions id 0 no_state before) (λ position before. extends_same before)

  always_if : (shape : Shape) (part : Part) (o : Option Picked) → Always (component_if shape part o)
  always_if shape part None = λ before. extends_same before
  always_if shape part (Some q) = always_in q part

  pub always_step : (o : Option Shape) (part : Part) (r : Reached) → Always (step_into o part r)
  unfolding component_at
  always_step None part r = λ before. extends_same before
  always_step (Some shape) part r = always_then m input sections (component_if shape part r.picked) (λ picked. steps.given (with_picked r picked)) (always_if shape part r.picked) (λ picked before. extends_same before)
