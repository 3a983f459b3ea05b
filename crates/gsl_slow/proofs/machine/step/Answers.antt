use Rattle.std.proofs.Common.{◌+◌, ap, sym, ◌∙◌, drop}
use Rattle.gsl_cmd.specs.Machine.{State, act, place_of}
use Rattle.gsl_cmd.specs.Machine as machine
use Rattle.gsl_slow.specs.States.{state_of, stepped_outcome}
use Rattle.gsl_slow.proofs.Searches.{step_here}
use Rattle.gsl_slow.proofs.machine.step.Goals as goal

pub returns-in-Going : goal.returns-in-Going
returns-in-Going c = λ choices.
    let m = c.args.m.now in
    let s = state_of m.instrs choices c.args.machine.now in
    let here = place_of m (drop c.args.machine.now.at m.instrs) in
    let behind : State = record s { rest = drop (c.args.machine.now.at + 1) m.instrs } in
    step_here m s c.args.machine.now.at c.op-opcode.result c.args-args.result.now c.op-opcode.ensures c.args-args.ensures
    ∙ ap (act m.instrs here behind) (sym c.action_of.ensures)
    ∙ c.in_ok-act.ensures here choices
    ∙ ap (λ stepped. stepped_outcome here stepped (state_of m.instrs choices c.act.new.machine)) c.in-Going.is

pub returns-in-Ended : goal.returns-in-Ended
returns-in-Ended c = λ choices.
    let m = c.args.m.now in
    let s = state_of m.instrs choices c.args.machine.now in
    let here = place_of m (drop c.args.machine.now.at m.instrs) in
    let behind : State = record s { rest = drop (c.args.machine.now.at + 1) m.instrs } in
    step_here m s c.args.machine.now.at c.op-opcode.result c.args-args.result.now c.op-opcode.ensures c.args-args.ensures
    ∙ ap (act m.instrs here behind) (sym c.action_of.ensures)
    ∙ c.in_ok-act.ensures here choices
    ∙ ap (λ stepped. stepped_outcome here stepped (state_of m.instrs choices c.act.new.machine)) c.in-Ended.is

pub returns-in_ok-place-in-Strayed : goal.returns-in_ok-place-in-Strayed
returns-in_ok-place-in-Strayed c = λ choices.
    let m = c.args.m.now in
    let s = state_of m.instrs choices c.args.machine.now in
    let here = place_of m (drop c.args.machine.now.at m.instrs) in
    let behind : State = record s { rest = drop (c.args.machine.now.at + 1) m.instrs } in
    step_here m s c.args.machine.now.at c.op-opcode.result c.args-args.result.now c.op-opcode.ensures c.args-args.ensures
    ∙ ap (act m.instrs here behind) (sym c.action_of.ensures)
    ∙ c.in_ok-act.ensures here choices
    ∙ ap (λ stepped. stepped_outcome here stepped (state_of m.instrs choices c.act.new.machine)) c.in-Strayed.is ∙ ap machine.Strayed (sym c.in_ok-place-in-Strayed.ensures)

pub returns-in-Stuck : goal.returns-in-Stuck
returns-in-Stuck c = λ choices.
    let m = c.args.m.now in
    let s = state_of m.instrs choices c.args.machine.now in
    let here = place_of m (drop c.args.machine.now.at m.instrs) in
    let behind : State = record s { rest = drop (c.args.machine.now.at + 1) m.instrs } in
    step_here m s c.args.machine.now.at c.op-opcode.result c.args-args.result.now c.op-opcode.ensures c.args-args.ensures
    ∙ ap (act m.instrs here behind) (sym c.action_of.ensures)
    ∙ c.in_ok-act.ensures here choices
    ∙ ap (λ stepped. stepped_outcome here stepped (state_of m.instrs choices c.act.new.machine)) c.in-Stuck.is
