use Rattle.std.proofs.Common.{◌≡◌, subst, sym}
use Rattle.std.specs.Prelude.{IfOk}
use Rattle.gsl_enact_memory.specs.Reaching.{pointer_seen}
use Rattle.gsl_enact_state.specs.Seen.{state_seen}
use Rattle.gsl_enact_steps.specs.Outcomes.{outcome_seen}
use Rattle.gsl_machine.specs.Memory.{storing}
use Rattle.gsl_machine.specs.State.{Going}
use Rattle.gsl_enact_places.proofs.stores.store_at.Goals as goal

pub returns-in-InBlock : goal.returns-in-InBlock
returns-in-InBlock c =
    subst (λ to. IfOk c.store_in_block.result (λ s. outcome_seen c.args.globals.now c.store_in_block.new.state s ≡ storing c.args.globals.now c.args.input.now (state_seen c.args.globals.now c.args.state.now) (pointer_seen to) c.args.v Going)) (sym c.in-InBlock.is)
    (c.store_in_block.ensures c.in-InBlock.pointee)
