use Rattle.std.proofs.Common.{ap, sym, ◌∙◌, drop}
use Rattle.std.proofs.lemmas.List.{take_rest}
use Rattle.gsl_cmd.specs.Machine.{Pointer, walk}
use Rattle.gsl_slow.specs.States.{pointer_of, ids_of, walked_outcome}
use Rattle.gsl_slow.proofs.Actions.{walk_first}
use Rattle.gsl_slow.proofs.machine.+walk.Goals as goal

pub returns-in_ok-led-in-Reached : goal.returns-in_ok-led-in-Reached
returns-in_ok-led-in-Reached t c = λ place go.
    let code = c.args.instrs.now in
    let ids = ids_of code c.args.entries.now in
    let on_part = λ (to : Pointer). walk code place ids to (drop 1 c.args.indexes.now) go in
    walk_first code place ids (pointer_of c.args.from) c.args.indexes.now go c.in-Some.word c.in-len1-up.len_at_least c.in-Some.ensures
    ∙ c.in_ok-to-in-Some.ensures place on_part
    ∙ ap (walked_outcome place on_part) c.in-Reached.is
    ∙ sym (ap (λ indexes. walk code place ids (pointer_of c.in-Reached.to) indexes go) (take_rest c.args.indexes.now 1))
    ∙ c.in_ok-led-in-Reached.ensures place go

pub returns-in-Strayed : goal.returns-in-Strayed
returns-in-Strayed t c = λ place go.
    let code = c.args.instrs.now in
    let ids = ids_of code c.args.entries.now in
    let on_part = λ (to : Pointer). walk code place ids to (drop 1 c.args.indexes.now) go in
    walk_first code place ids (pointer_of c.args.from) c.args.indexes.now go c.in-Some.word c.in-len1-up.len_at_least c.in-Some.ensures
    ∙ c.in_ok-to-in-Some.ensures place on_part
    ∙ ap (walked_outcome place on_part) c.in-Strayed.is

pub returns-in-Stuck : goal.returns-in-Stuck
returns-in-Stuck t c = λ place go.
    let code = c.args.instrs.now in
    let ids = ids_of code c.args.entries.now in
    let on_part = λ (to : Pointer). walk code place ids to (drop 1 c.args.indexes.now) go in
    walk_first code place ids (pointer_of c.args.from) c.args.indexes.now go c.in-Some.word c.in-len1-up.len_at_least c.in-Some.ensures
    ∙ c.in_ok-to-in-Some.ensures place on_part
    ∙ ap (walked_outcome place on_part) c.in-Stuck.is
