-- One instruction that gives nothing.
use Rattle.std.proofs.Common.{◌≡◌, refl, ap, ℕ, List, [], ◌∷◌}
use Rattle.gsl_base.specs.declared.input.Input.{Input}
use Rattle.gsl_words.specs.declared.module.Module.{Module}
use Rattle.gsl_valid.specs.Instruction.{read}
use Rattle.gsl_valid.specs.Placed.{Placed}
use Rattle.gsl_machine.specs.Machine.{behind as going_on, run}
use Rattle.gsl_machine.specs.State.{Going, State, on}
use Rattle.gsl_machine.specs.Steps.{act}
use Rattle.gsl_spv.specs.Declarations.{instr}
use Rattle.gsl_spv.specs.Sections.{Sections}
use Rattle.gsl_lower_values.specs.Building.{putting}
use Rattle.gsl_lower_law.specs.Computing.{Acts, Left, leaving}
use Rattle.gsl_lower_law.proofs.Adding.{extends_put}
use Rattle.gsl_lower_law.proofs.Joining.{keeps_same}

module _ (m : Module) (input : Input) (whole : Sections) where
  pub putting_acts : (op : ℕ) (operands : List ℕ) (left : Left) (state : State) (before : Sections)
      → ((at : ℕ) (rest : List Placed) → on (read (instr op operands)) (act m input at (record state { rest = rest })) ≡ Going (record (leaving state left state.ids) { rest = rest }))
      → Acts m input whole (λ given ids. Unit {0}) left state before (putting op operands)
  putting_acts op operands left state before done = record {
    grows = extends_put op operands before;
    comes = λ text ready inside. record {
      code = instr op operands ∷ [];
      puts = refl;
      ids = state.ids;
      leads = λ at rest. ap (λ o. going_on o (run m input 0)) (done at rest);
      is = tt;
      keeps = keeps_same state.ids;
      ready = ready;
    };
  }
