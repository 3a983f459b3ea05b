-- Functions that run, each behind all that the one takes that called it.
use Rattle.std.specs.Prelude.{◌≡◌, ℕ, ◌+◌, ◌≤◌, true, List, [], ◌∷◌, length}
use Rattle.gsl_words.specs.declared.module.Module.{Module}
use Rattle.gsl_valid.specs.Types.{defined_as, function_begins}
use Rattle.gsl_positions.specs.Positions.{left}
use Rattle.gsl_frames.specs.Frames.{frame}
use Rattle.gsl_chains.specs.Chains.{Calls, body_of, room}
use Rattle.gsl_step.specs.declared.machine.Machine.{Machine}
use Rattle.gsl_step.specs.declared.standing.Standing.{Standing}

-- A function calls another, whose slots and variables begin behind all that it takes.
pub record IsBehind (m : Module) (f caller : Standing) : Type 0 where
  pub calls : Calls m (left m caller.body) (left m f.body)
  pub slots : f.slots ≡ caller.slots + (frame m (left m caller.body)).most
  pub variables : f.variables ≡ caller.variables + (frame m (left m caller.body)).variables

-- So is each of the functions that run behind the one that waits for it, the last that waits first.
abbrev pub AreStacked : Module → Standing → List Standing → Type 0
AreStacked m f [] = Unit {0}
AreStacked m f (caller ∷ callers) = IsBehind m f caller × AreStacked m caller callers

-- the first function of a run
abbrev pub outermost : Standing → List Standing → Standing
outermost f [] = f
outermost f (caller ∷ callers) = outermost caller callers

-- There is room for what is taken at most in chains of calls that begin in the first function of a run, from where its slots and its variables begin.
pub record HasRoomForChains (m : Module) (machine : Machine) (entry : ℕ) : Type 0 where
  pub stacked : AreStacked m machine.standing machine.callers
  pub begins : function_begins (defined_as m entry) ≡ true
  pub body : left m (outermost machine.standing machine.callers).body ≡ body_of m entry
  pub slots : (outermost machine.standing machine.callers).slots + (room m entry).slots ≤ length machine.slots
  pub words : (outermost machine.standing machine.callers).variables + (room m entry).variables ≤ length machine.words
