use Rattle.std.proofs.Common.{◌≡◌, ap, sym, ◌∙◌, List, length, arith}
use Rattle.std.proofs.lemmas.List.{with_items_is}
use Rattle.gsl_base.specs.declared.input.Buffer.{Buffer}
use Rattle.gsl_cmd.specs.Machine.{State, Going, on_word, write}
use Rattle.gsl_slow.specs.States.{pointer_of, pointer_in, word_in, ids_of, state_of, written_outcome}
use Rattle.gsl_slow.proofs.Actions.{pointer_given, word_given}
use Rattle.gsl_slow.proofs.machine.store.Goals as goal

pub returns-then-write : goal.returns-then-write
returns-then-write c = λ place choices.
    let code = c.args.instrs.now in
    let v = c.args.machine.now.buffers in
    let s = state_of code choices c.args.machine.now in
    let go = λ (buffers : List Buffer). let t : State = record s { buffers = buffers } in Going t in
    let count : length c.write.new.buffers ≡ v.len = omega (arith, c.write.ensures.count, ap length c.deref_mut.ensures.value, v.ok.0) in
    pointer_given (s.ids c.args.to) (pointer_of c.in-Some.to) (λ to. on_word (s.ids c.args.value) (λ word. write code s.buffers to word go))
    (c.in-Some.ensures ∙ ap (λ entries. pointer_in (ids_of code entries c.args.to)) c.deref.ensures.value)
    ∙ word_given (s.ids c.args.value) c.in-Some-word.word (λ word. write code s.buffers (pointer_of c.in-Some.to) word go)
    (c.in-Some-word.ensures ∙ ap (λ entries. word_in (ids_of code entries c.args.value)) c.deref-in-Some.ensures.value)
    ∙ sym (ap (λ buffers. write code buffers (pointer_of c.in-Some.to) c.in-Some-word.word go) c.deref_mut.ensures.value)
    ∙ c.write.ensures.write go
    ∙ ap (λ b. written_outcome b go c.write.new.buffers) c.if-write.true
    ∙ ap go (sym (with_items_is v c.write.new.buffers count))

pub returns-else-write : goal.returns-else-write
returns-else-write c = λ place choices.
    let code = c.args.instrs.now in
    let s = state_of code choices c.args.machine.now in
    let go = λ (buffers : List Buffer). let t : State = record s { buffers = buffers } in Going t in
    pointer_given (s.ids c.args.to) (pointer_of c.in-Some.to) (λ to. on_word (s.ids c.args.value) (λ word. write code s.buffers to word go))
    (c.in-Some.ensures ∙ ap (λ entries. pointer_in (ids_of code entries c.args.to)) c.deref.ensures.value)
    ∙ word_given (s.ids c.args.value) c.in-Some-word.word (λ word. write code s.buffers (pointer_of c.in-Some.to) word go)
    (c.in-Some-word.ensures ∙ ap (λ entries. word_in (ids_of code entries c.args.value)) c.deref-in-Some.ensures.value)
    ∙ sym (ap (λ buffers. write code buffers (pointer_of c.in-Some.to) c.in-Some-word.word go) c.deref_mut.ensures.value)
    ∙ c.write.ensures.write go
    ∙ ap (λ b. written_outcome b go c.write.new.buffers) c.if-write.false
