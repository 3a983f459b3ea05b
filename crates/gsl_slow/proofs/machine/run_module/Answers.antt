use Rattle.std.proofs.Common.{ap, ◌∙◌, length, drop}
use Rattle.gsl_cmd.specs.Machine.{run}
use Rattle.gsl_slow.specs.States.{state_of, stopped_outcome}
use Rattle.gsl_slow.proofs.Actions.{started, ended_same}
use Rattle.gsl_slow.proofs.machine.run_module.Goals as goal

pub returns-in-Going : goal.returns-in-Going
returns-in-Going c =
    let m = c.args.m.now in
    let s = state_of m.instrs c.args.input.choices c.run.new.machine in (
      s,
      ap (run m c.args.steps) (started m c.args.input (drop c.entry_at.result m.instrs) c.new.result.items c.into_vec.result.items c.entry_at.ensures c.new.ensures.items c.into_vec.ensures)
          ∙ c.in_ok-stopped.ensures c.args.input.choices
          ∙ ap (λ stopped. stopped_outcome stopped s) c.in-Going.is,
    )

pub returns-in-Ended : goal.returns-in-Ended
returns-in-Ended c =
    let m = c.args.m.now in
    let s = state_of m.instrs c.args.input.choices c.run.new.machine in
    ap (run m c.args.steps) (started m c.args.input (drop c.entry_at.result m.instrs) c.new.result.items c.into_vec.result.items c.entry_at.ensures c.new.ensures.items c.into_vec.ensures)
    ∙ c.in_ok-stopped.ensures c.args.input.choices
    ∙ ap (λ stopped. stopped_outcome stopped s) c.in-Ended.is
    ∙ ended_same s.buffers c.from_vec.result c.new-in-Ended.result (length c.args.input.choices) c.len-in-Ended.result c.from_vec.ensures c.new-in-Ended.ensures c.len-in-Ended.ensures

pub returns-in-Strayed : goal.returns-in-Strayed
returns-in-Strayed c =
    let m = c.args.m.now in
    let s = state_of m.instrs c.args.input.choices c.run.new.machine in
    ap (run m c.args.steps) (started m c.args.input (drop c.entry_at.result m.instrs) c.new.result.items c.into_vec.result.items c.entry_at.ensures c.new.ensures.items c.into_vec.ensures)
    ∙ c.in_ok-stopped.ensures c.args.input.choices
    ∙ ap (λ stopped. stopped_outcome stopped s) c.in-Strayed.is

pub returns : goal.returns
returns c =
    let m = c.args.m.now in
    let s = state_of m.instrs c.args.input.choices c.run.new.machine in
    ap (run m c.args.steps) (started m c.args.input (drop c.entry_at.result m.instrs) c.new.result.items c.into_vec.result.items c.entry_at.ensures c.new.ensures.items c.into_vec.ensures)
    ∙ c.in_ok-stopped.ensures c.args.input.choices
    ∙ ap (λ stopped. stopped_outcome stopped s) c.in-Stuck.is
