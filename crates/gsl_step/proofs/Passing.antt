-- A function goes on behind a label or a merge.
use Rattle.std.proofs.Common.{◌≡◌, refl, sym, subst, ◌+◌, ◌^◌, ◌<◌, false, List, ◌∷◌, map, arith}
use Rattle.gsl_words.specs.declared.module.Module.{Module}
use Rattle.gsl_valid.specs.CallRules.{is_last}
use Rattle.gsl_valid.specs.Instruction.{read}
use Rattle.gsl_valid.specs.Kinds.{Kind, Merges, Opens, kind}
use Rattle.gsl_valid.specs.Placed.{Placed}
use Rattle.gsl_machine.specs.State.{State}
use Rattle.gsl_machine.specs.Steps.{in_new_block}
use Rattle.gsl_shown.specs.Shown.{Shows}
use Rattle.gsl_shown.proofs.Passing.{label_shown, merge_shown, stands}
use Rattle.gsl_step.specs.Machine.{IsShown, stood}
use Rattle.gsl_step.specs.declared.machine.Machine.{Machine}
use Rattle.gsl_step.specs.declared.standing.Standing.{Standing}

module _ (m : Module) (machine : Machine) (state : State) (shown : IsShown m machine state) (p : Placed) (more : List Placed) (comes : state.rest ≡ p ∷ more) where
  -- the number behind the next instruction is a word
  pub number_fits : (k : Kind) → kind (read p.instr) ≡ k → is_last k ≡ false → machine.standing.at + 1 < 2 ^ 32
  number_fits k is goes_on =
      let within = (stands m (stood machine.standing) (map stood machine.callers) machine.slots machine.words machine.buffers machine.choices state shown.shows p more comes k is goes_on).within in
      let numbers = shown.numbers in omega (arith, within, numbers)

  module _ (s : Standing) (passes : machine.standing.at + 1 < 2 ^ 32 → s ≡ record machine.standing { at = machine.standing.at + 1 }) where
    moved : (later : State) → s ≡ record machine.standing { at = machine.standing.at + 1 }
        → Shows m (stood (record machine.standing { at = machine.standing.at + 1 })) (map stood machine.callers) machine.slots machine.words machine.buffers machine.choices later → IsShown m (record machine { standing = s }) later
    moved later is shows =
        subst (λ f. IsShown m (record machine { standing = f }) later) (sym is)
        (record { shows = shows; constants_are = shown.constants_are; behind = shown.behind; places = shown.places; reach = shown.reach; numbers = shown.numbers })

    pub label_passed : kind (read p.instr) ≡ Opens → IsShown m (record machine { standing = s }) (in_new_block (record state { rest = more }))
    label_passed is =
        moved (in_new_block (record state { rest = more })) (passes (number_fits Opens is refl))
        (label_shown m (stood machine.standing) (map stood machine.callers) machine.slots machine.words machine.buffers machine.choices state shown.shows p more comes is)

    pub merge_passed : kind (read p.instr) ≡ Merges → IsShown m (record machine { standing = s }) (record state { rest = more })
    merge_passed is =
        moved (record state { rest = more }) (passes (number_fits Merges is refl))
        (merge_shown m (stood machine.standing) (map stood machine.callers) machine.slots machine.words machine.buffers machine.choices state shown.shows p more comes is)
