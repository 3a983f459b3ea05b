-- `discard`.
use Rattle.std.proofs.Common.{◌≡◌, refl, ap, ◌∙◌, ℕ, suc, true, List, [], ◌∷◌, length, arith}
use Rattle.gsl_base.specs.declared.input.Buffer.{Buffer}
use Rattle.gsl_base.specs.declared.input.Input.{Input}
use Rattle.gsl_base.specs.declared.input.Output.{Output}
use Rattle.gsl_instr.specs.Forms.{form_of}
use Rattle.gsl_instr.specs.declared.op.TheConstants as op
use Rattle.gsl_words.specs.declared.module.Module.{Module}
use Rattle.gsl_tree.specs.Around.{Around}
use Rattle.gsl_tree.specs.declared.program.Program.{Program}
use Rattle.gsl_meaning.specs.Blocks.{put_blocks}
use Rattle.gsl_meaning.specs.Running.{ending}
use Rattle.gsl_meaning.specs.Shader.{output_of}
use Rattle.gsl_meaning.specs.State as shader
use Rattle.gsl_machine.specs.Machine.{step}
use Rattle.gsl_machine.specs.State.{Ended, State}
use Rattle.gsl_spv.specs.Calls.{put}
use Rattle.gsl_spv.specs.Declarations.{instr}
use Rattle.gsl_spv.specs.Sections.{Sections}
use Rattle.gsl_lower_holders.specs.Flow.{Flow, putting_here}
use Rattle.gsl_lower_follows.specs.Following.{Kills}
use Rattle.gsl_lower_follows.specs.Frames.{Frame, Good, Inside, coming}
use Rattle.gsl_lower_follows.proofs.Placing.{coming_before}
use Rattle.gsl_lower_follows.proofs.Stretches.{stretch_one}
use Rattle.gsl_lower_law_stmt.specs.Doing.{DoesStatement}
use Rattle.gsl_lower_law_stmt.proofs.Exits.{adds_putting}

-- what is given out where an invocation is discarded
abbrev killed : List Buffer → List ℕ → Output
killed buffers choices = record { buffers = buffers; outs = []; killed = true; rest = length choices }

module _ (m : Module) (input : Input) (sections : Sections) (f : Frame m input sections) (p : Program) (around : Around) where
  kills : (b : Flow) (s : shader.State) (units : ℕ) (state : State) → Good m input sections f p around b s state → Inside m input sections f (put op.KILL [] b.sections) → Kills m input p 0 units state s
  unfolding form_of
  kills b s units state good inside = record {
    left = units;
    stretch = stretch_one m input units state (Ended (output_of p input true s)) (let long : length state.rest ≡ suc (length (coming m input sections f (put op.KILL [] b.sections))) = ap length rest_is in omega (arith, long))
        (ap (λ l. step m input (record state { rest = l })) rest_is ∙ ap (λ buffers. Ended (killed buffers state.choices)) good.holds.buffers ∙ ap (λ choices. Ended (killed (put_blocks p.structs p.blocks s.blocks input.buffers) choices)) good.holds.choices);
  }
    where
      at : (at : ℕ) × (coming m input sections f b.sections ≡ record { at = at; instr = instr op.KILL [] } ∷ coming m input sections f (put op.KILL [] b.sections))
      at = coming_before m input sections f b.sections (put op.KILL [] b.sections) (instr op.KILL [] ∷ []) good.inside inside refl

      rest_is : state.rest ≡ record { at = at.0; instr = instr op.KILL [] } ∷ coming m input sections f (put op.KILL [] b.sections)
      rest_is = good.rest ∙ at.1

  pub discard_does : DoesStatement m input sections f p around true (λ exits. putting_here op.KILL []) ending
  discard_does = record { adds = λ exits. adds_putting op.KILL []; does = λ exits b s units state good inside lead. kills b s units state good inside }
