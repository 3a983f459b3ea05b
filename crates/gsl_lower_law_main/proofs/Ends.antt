-- The return of main.
use Rattle.std.proofs.Common.{◌≡◌, ap, ◌∙◌, ℕ, suc, false, [], ◌∷◌, length, inl, inr, arith}
use Rattle.gsl_base.specs.declared.input.Input.{Input}
use Rattle.gsl_instr.specs.Forms.{form_of}
use Rattle.gsl_words.specs.declared.module.Module.{Module}
use Rattle.gsl_values.specs.declared.value.Value.{Value}
use Rattle.gsl_tree.specs.Around.{Around}
use Rattle.gsl_tree.specs.declared.program.Program.{Program}
use Rattle.gsl_meaning.specs.Shader.{output_of}
use Rattle.gsl_meaning.specs.State as shader
use Rattle.gsl_machine.specs.Interfaces as interfaces
use Rattle.gsl_machine.specs.Machine.{step}
use Rattle.gsl_machine.specs.State.{Ended, State, on_whole}
use Rattle.gsl_machine.specs.Steps.{returning, with_value, without_value}
use Rattle.gsl_spv.specs.Sections.{Sections}
use Rattle.gsl_lower_follows.specs.Frames.{Frame}
use Rattle.gsl_lower_follows.proofs.Stretches.{stretch_one}
use Rattle.gsl_lower_law_main.specs.Ending.{EndsAlike, HasOutputs}
use Rattle.gsl_lower_law_main.proofs.Outputs.{output_told}
use Rattle.gsl_lower_law_stmt.specs.Doing.{AtReturn, Returning}

module _ (m : Module) (input : Input) (whole : Sections) (f : Frame m input whole) (p : Program) (around : Around) (has : HasOutputs m input whole f p) (same : around.interfaces ≡ p.interfaces) (alone : f.waiting ≡ []) (v : Value) (s : shader.State) (units : ℕ) (state : State) (at : AtReturn m input whole f p around v s state) where
  waits : state.waiting ≡ []
  waits = at.state_is.waiting ∙ alone

  out : interfaces.output_of m false state ≡ output_of p input false s
  out = output_told m input whole f p around same s state at.state_is.holds at.state_is.typed has

  long : length state.rest ≡ suc (length at.rest)
  long = ap length at.is

  returns : Returning m input whole f p around at.i v state → step m input state ≡ Ended (output_of p input false s)
  unfolding form_of
  returns (inl is) =
      ap (λ l. step m input (record state { rest = l })) (at.is ∙ ap (λ i. record { at = at.place; instr = i } ∷ at.rest) is.0)
      ∙ ap (λ w. returning m (record state { rest = at.rest }) w without_value) waits ∙ ap Ended out
  returns (inr is) =
      ap (λ l. step m input (record state { rest = l })) (at.is ∙ ap (λ i. record { at = at.place; instr = i } ∷ at.rest) is.1)
      ∙ ap (λ o. on_whole o (λ v. returning m (record state { rest = at.rest }) state.waiting (with_value v))) is.2
      ∙ ap (λ w. returning m (record state { rest = at.rest }) w (with_value v)) waits ∙ ap Ended out

  pub ends : EndsAlike m input p 0 units state s
  ends = record { left = units; stretch = stretch_one m input units state (Ended (output_of p input false s)) (omega (arith, long)) (returns at.gives) }
