-- What loops do, over what their tests and steps do (GLSL 4.50, 6.3).
use Rattle.std.specs.Prelude.{◌≢◌, ◌==◌, if◌then◌else◌, ℕ, Bool, true, false, Option, Some, None}
use Rattle.gsl_base.specs.declared.input.Input.{Input}
use Rattle.gsl_types.specs.declared.ty.Ty.{Ty}
use Rattle.gsl_types.specs.declared.ty.Ty.TheVariants.{Void}
use Rattle.gsl_words.specs.declared.module.Module.{Module}
use Rattle.gsl_values.specs.declared.value.Value.{Value}
use Rattle.gsl_tree.specs.Around.{Around}
use Rattle.gsl_tree.specs.Values.{word_in}
use Rattle.gsl_tree.specs.declared.program.Program.{Program}
use Rattle.gsl_meaning.specs.Running.{Run, given, ◌>>=◌}
use Rattle.gsl_meaning.specs.Statements as statement
use Rattle.gsl_meaning.specs.Statements.{Normal}
use Rattle.gsl_spv.specs.Sections.{Sections}
use Rattle.gsl_lower_holders.specs.Flow.{Emit}
use Rattle.gsl_lower_follows.specs.Frames.{Frame}
use Rattle.gsl_lower_follows.specs.Giving.{GivesValue}

-- whether a test holds, by what its value does; none always does
abbrev pub testing : Option (Run Value) → Run Bool
testing None = given true
testing (Some x) = x >>= (λ v. given (if word_in v == 0 then false else true))

-- what a step does, by what its value does, which is not used
abbrev pub stepping : Option (Run Value) → Run statement.Flow
stepping None = given Normal
stepping (Some x) = x >>= (λ v. given Normal)

-- what a loop does, whose test comes last or first, of a test, a step and a body
abbrev pub looped_means : Bool → Option (Run Value) → Option (Run Value) → Run statement.Flow → Run statement.Flow
looped_means last test step body = statement.looping last (testing test) (stepping step) body

-- What is lowered does what is meant, where there is something.
abbrev pub ForBoth : (Emit ℕ → Run Value → Type 0) → Option (Emit ℕ) → Option (Run Value) → Type 0
ForBoth Does None None = Unit {0}
ForBoth Does None (Some x) = ⊥
ForBoth Does (Some emit) None = ⊥
ForBoth Does (Some emit) (Some x) = Does emit x

module _ (m : Module) (input : Input) (sections : Sections) (f : Frame m input sections) (p : Program) (around : Around) where
  -- What a step is lowered to computes it, whatever its type.
  pub record IsStep (emit : Emit ℕ) (x : Run Value) : Type 0 where
    pub splits : Bool
    pub ty : Ty
    pub gives : GivesValue m input sections f p around splits ty emit x

  -- What a test is lowered to gives its value.
  pub record IsTest (emit : Emit ℕ) (x : Run Value) : Type 0 where
    pub splits : Bool
    pub ty : Ty
    pub real : ty ≢ Void
    pub gives : GivesValue m input sections f p around splits ty emit x
