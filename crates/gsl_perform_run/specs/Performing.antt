-- What a shader comes to, as the code has it.
use Rattle.gsl_meaning.specs.Shader.{Outcome, Ended, Strayed, Going}
use Rattle.gsl_perform_run.specs.declared.outcome.Performed.{Performed}
use Rattle.gsl_perform_run.specs.declared.outcome.Performed.TheVariants as performed

-- the outcome that an answer stands for
abbrev pub outcome : Performed → Outcome
outcome (performed.Ended output) = Ended output
outcome performed.Strayed = Strayed
outcome performed.Going = Going
