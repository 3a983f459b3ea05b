-- What is answered of a run of a valid module: the listing of what it gave, or why there is none.
use Rattle.std.specs.Prelude.{◌≡◌, ℕ, List, Result, Ok, Err}
use Rattle.gsl_base.specs.declared.input.Input.{Input}
use Rattle.gsl_base.specs.declared.input.InputRefusal.{InputRefusal}
use Rattle.gsl_base.specs.declared.input.Output.{Output}
use Rattle.gsl_given.specs.Texts.{misfit_text}
use Rattle.gsl_manifest.specs.Listing.{listing_of}
use Rattle.gsl_words.specs.declared.module.Module.{Module}
use Rattle.gsl_inputs.specs.Demands.{Met}
use Rattle.gsl_machine.specs.Fits.{fits}
use Rattle.gsl_machine.specs.Machine.{after}
use Rattle.gsl_enact_steps.specs.declared.step.Step.{Step}
use Rattle.gsl_enact_steps.specs.declared.step.Step.TheVariants as step
use Rattle.gsl_enact.specs.Came.{came}
use Rattle.gsl_enactor.specs.declared.stop.Stop.{Stop}
use Rattle.gsl_enactor.specs.declared.stop.Stop.TheVariants as stop

-- What is answered where a run ended with this.
abbrev pub Shows : Output → Result (List ℕ) Stop → Type 0
Shows output (Ok text) = text ≡ listing_of output
Shows output (Err stop.Memory) = Unit {0}
Shows output (Err _) = ⊥

-- What is answered where a run came to this.
abbrev pub Lists : Step → Result (List ℕ) Stop → Type 0
Lists (step.Ended output) answer = Shows output answer
Lists step.Going answer = answer ≡ Err stop.Going
Lists (step.Strayed place) answer = answer ≡ Err (stop.Strayed place)
Lists step.Stuck answer = answer ≡ Err stop.Stuck

-- What is said of an input that does not fit.
abbrev pub Refuses : InputRefusal → Stop → Type 0
Refuses refusal (stop.Input text) = text ≡ misfit_text refusal
Refuses refusal stop.Memory = Unit {0}
Refuses refusal _ = ⊥

abbrev pub RefusesIn : InputRefusal → Result (List ℕ) Stop → Type 0
RefusesIn refusal (Ok text) = ⊥
RefusesIn refusal (Err why) = Refuses refusal why

-- What is answered of an input that is refused, or of a run.
abbrev pub AnswersFit : Met → Step → Result (List ℕ) Stop → Type 0
AnswersFit (Ok met) s answer = Lists s answer
AnswersFit (Err refusal) s answer = RefusesIn refusal answer

-- What is answered of a module on an input after so many instructions, unless memory was wanting.
abbrev pub Answers : Module → Input → ℕ → Result (List ℕ) Stop → Type 0
Answers m input count (Err stop.Memory) = Unit {0}
Answers m input count answer = AnswersFit (fits m input) (came (after m count input)) answer
