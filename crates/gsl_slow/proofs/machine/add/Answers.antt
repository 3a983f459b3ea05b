use Rattle.std.proofs.Common.{ap, sym, ◌∙◌, ℕ}
use Rattle.gsl_cmd.specs.Words.{word_sum}
use Rattle.gsl_cmd.specs.Machine.{State, Word, Going, give, on_word}
use Rattle.gsl_slow.specs.States.{word_in, ids_of, state_of}
use Rattle.gsl_slow.proofs.Actions.{word_given}
use Rattle.gsl_slow.proofs.machine.add.Goals as goal

pub returns-in_ok-give-in-Some-word : goal.returns-in_ok-give-in-Some-word
returns-in_ok-give-in-Some-word c = λ place choices.
    let code = c.args.instrs.now in
    let s = state_of code choices c.args.machine.now in
    let go = λ (word : ℕ). let t : State = record s { ids = give s.ids c.args.id (Word word) } in Going t in
    word_given (s.ids c.args.left) c.in-Some.x (λ x. on_word (s.ids c.args.right) (λ y. go (word_sum x y)))
    (c.in-Some.ensures ∙ ap (λ entries. word_in (ids_of code entries c.args.left)) c.deref.ensures.value)
    ∙ word_given (s.ids c.args.right) c.in-Some-word.y (λ y. go (word_sum c.in-Some.x y))
    (c.in-Some-word.ensures ∙ ap (λ entries. word_in (ids_of code entries c.args.right)) c.deref-in-Some.ensures.value)
    ∙ ap go (sym c.word_sum.ensures)
    ∙ ap Going (sym (c.in_ok-give-in-Some-word.ensures code choices))
