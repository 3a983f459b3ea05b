use Rattle.std.proofs.Common.{◌≡◌, None, length, ap, sym, ◌∙◌}
use Rattle.gsl_words.specs.declared.module.Module.{Module}
use Rattle.gsl_valid.specs.Placed.{placed, header_size}
use Rattle.gsl_ids.specs.Pass.{first_failed}
use Rattle.gsl_ids.proofs.Passes.{as_many}
use Rattle.gsl_valid_calls.specs.Calls.{passes, behind}
use Rattle.gsl_valid_calls.proofs.Calling.{finds}
use Rattle.gsl_valid_calls.proofs.call.calls.Goals as goal

pub first_wrong-requires-clause-whole : goal.first_wrong-requires-clause-whole
first_wrong-requires-clause-whole c =
    ap length (c.new-2.ensures ∙ ap placed (c.module.ensures ∙ sym c.in_ok-graph.ensures)) ∙ as_many header_size c.in_ok-graph.graph.instrs

pub returns : goal.returns
returns c =
    let m = c.args.definitions.now in
    c.in_ok-place.ensures ∙ ap (λ (n : Module). first_failed passes behind (record { of = n; caller = None; body = 0 }) 0 c.new-2.result) c.in_ok-graph.ensures
    ∙ ap (first_failed passes behind (record { of = m; caller = None; body = 0 }) 0) (c.new-2.ensures ∙ ap placed c.module.ensures)
    ∙ finds m c.requires.once
