-- What a command may reach for, other than printing on standard error.
use Rattle.std.specs.Prelude.{List, [], ◌∷◌, ◌++◌, map, Option, Contains, ◌⊎◌}
use Rattle.gsl_host.specs.declared.target.Target.{Target}
use Rattle.gsl_host.specs.declared.target.Stream.TheVariants as stream
use Rattle.gsl_host.specs.declared.target.Target.TheVariants.{Reading, Writing, Printing}
use Rattle.gsl_host.specs.Outside.{Files}
use Rattle.gsl_exec.specs.Done.{MayName}
use Rattle.gsl_plan.specs.Plan.{Plan}

-- what its words name
abbrev pub targets_of : Plan → List Target
targets_of (Plan.Compile version stage out files) = map Reading files ++ Writing out ∷ []
targets_of (Plan.Disassemble file out) = Reading file ∷ Writing out ∷ []
targets_of (Plan.Assemble file out) = Reading file ∷ Writing out ∷ []
targets_of (Plan.Check file) = Reading file ∷ Printing stream.Out ∷ []
targets_of (Plan.Exec file inputs) = Reading file ∷ Reading inputs ∷ Printing stream.Out ∷ []
targets_of (Plan.Run stage inputs files) = map Reading files ++ Reading inputs ∷ Printing stream.Out ∷ []

-- It is what the words name, or a file that the manifest names among the files, where they are told.
abbrev pub MayReach : Plan → Option Files → Target → Type 0
MayReach (Plan.Compile version stage out files) known target = Contains (targets_of (Plan.Compile version stage out files)) target
MayReach (Plan.Disassemble file out) known target = Contains (targets_of (Plan.Disassemble file out)) target
MayReach (Plan.Assemble file out) known target = Contains (targets_of (Plan.Assemble file out)) target
MayReach (Plan.Check file) known target = Contains (targets_of (Plan.Check file)) target
MayReach (Plan.Exec file inputs) known target = Contains (targets_of (Plan.Exec file inputs)) target ⊎ MayName known inputs target
MayReach (Plan.Run stage inputs files) known target = Contains (targets_of (Plan.Run stage inputs files)) target ⊎ MayName known inputs target
