-- What the words `STAGE INPUTS FILE..` ask for. The first word is the program's own name.
use Rattle.std.specs.Prelude.{List, ◌∷◌, Option, Some, None, if◌then◌else◌}
use Rattle.gsl_base.specs.declared.stage.Stage.{Stage}
use Rattle.gsl_host.specs.Outside.{Name}
use Rattle.gsl_plan.specs.Plan.{are_files, stage_of}

pub record Asked : Type 0 where
  pub stage : Stage
  -- the name of the manifest
  pub inputs : Name
  -- the names of the source files
  pub sources : List Name

abbrev pub asked_in : Option Stage → Name → List Name → Option Asked
asked_in None inputs sources = None
asked_in (Some stage) inputs sources = Some (record { stage = stage; inputs = inputs; sources = sources })

-- one source file or more, and not too many
abbrev pub asked_for : Name → Name → List Name → Option Asked
asked_for stage inputs sources = if are_files sources then asked_in (stage_of stage) inputs sources else None

abbrev pub asked_of : List Name → Option Asked
asked_of (program ∷ stage ∷ inputs ∷ sources) = asked_for stage inputs sources
asked_of _ = None
