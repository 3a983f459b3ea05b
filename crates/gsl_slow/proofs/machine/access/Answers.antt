use Rattle.std.proofs.Common.{ap, sym, ◌∙◌}
use Rattle.gsl_cmd.specs.Machine.{Pointer, State, Points, Going, give, walk}
use Rattle.gsl_slow.specs.States.{pointer_of, pointer_in, ids_of, state_of, walked_outcome}
use Rattle.gsl_slow.proofs.Actions.{pointer_given}
use Rattle.gsl_slow.proofs.machine.access.Goals as goal

pub returns-in_ok-give-in-Reached : goal.returns-in_ok-give-in-Reached
returns-in_ok-give-in-Reached c = λ place choices.
    let code = c.args.instrs.now in
    let s = state_of code choices c.args.machine.now in
    let go = λ (to : Pointer). let t : State = record s { ids = give s.ids c.args.id (Points to) } in Going t in
    pointer_given (s.ids c.args.base) (pointer_of c.in-Some.from) (λ from. walk code place s.ids from c.args.indexes.now go)
    (c.in-Some.ensures ∙ ap (λ entries. pointer_in (ids_of code entries c.args.base)) c.deref.ensures.value)
    ∙ sym (ap (λ entries. walk code place (ids_of code entries) (pointer_of c.in-Some.from) c.args.indexes.now go) c.deref-in-Some.ensures.value)
    ∙ c.in_ok-to-in-Some.ensures place go
    ∙ ap (walked_outcome place go) c.in-Reached.is
    ∙ ap Going (sym (c.in_ok-give-in-Reached.ensures code choices))
