use Rattle.std.proofs.Common.{ap, sym, ◌∙◌, ℕ}
use Rattle.gsl_cmd.specs.Machine.{State, Word, Going, give, read}
use Rattle.gsl_slow.specs.States.{pointer_of, pointer_in, ids_of, state_of}
use Rattle.gsl_slow.proofs.Actions.{pointer_given}
use Rattle.gsl_slow.proofs.machine.load.Goals as goal

pub returns-in-None-read : goal.returns-in-None-read
returns-in-None-read c = λ place choices.
    let code = c.args.instrs.now in
    let s = state_of code choices c.args.machine.now in
    let go = λ (word : ℕ). let t : State = record s { ids = give s.ids c.args.id (Word word) } in Going t in
    pointer_given (s.ids c.args.from) (pointer_of c.in-Some.from) (λ from. read code s.buffers from go)
    (c.in-Some.ensures ∙ ap (λ entries. pointer_in (ids_of code entries c.args.from)) c.deref.ensures.value)
    ∙ sym (ap (λ buffers. read code buffers (pointer_of c.in-Some.from) go) c.deref-in-Some.ensures.value)
    ∙ c.in-None-read.ensures go

pub returns-in_ok-give-in-Some-read : goal.returns-in_ok-give-in-Some-read
returns-in_ok-give-in-Some-read c = λ place choices.
    let code = c.args.instrs.now in
    let s = state_of code choices c.args.machine.now in
    let go = λ (word : ℕ). let t : State = record s { ids = give s.ids c.args.id (Word word) } in Going t in
    pointer_given (s.ids c.args.from) (pointer_of c.in-Some.from) (λ from. read code s.buffers from go)
    (c.in-Some.ensures ∙ ap (λ entries. pointer_in (ids_of code entries c.args.from)) c.deref.ensures.value)
    ∙ sym (ap (λ buffers. read code buffers (pointer_of c.in-Some.from) go) c.deref-in-Some.ensures.value)
    ∙ c.in-Some-read.ensures go
    ∙ ap Going (sym (c.in_ok-give-in-Some-read.ensures code choices))
