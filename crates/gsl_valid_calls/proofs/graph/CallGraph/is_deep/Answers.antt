use Rattle.std.proofs.Common.{◌≡◌, ap, ◌∙◌}
use Rattle.std.specs.Prelude.{nat_le, slice_index}
use Rattle.gsl_words.specs.declared.module.Module.{Module}
use Rattle.gsl_valid.specs.CallRules.{has_chain}
use Rattle.gsl_valid_calls.proofs.graph.CallGraph.is_deep.Goals as goal

pub returns : goal.returns
returns c =
    let row = c.byte_at.ensures ∙ ap (λ l. slice_index l c.args.id) c.deref.ensures.value in
    ap (λ n. nat_le 65 n) row ∙ c.self.invariant.1 c.args.id ∙ ap (λ (m : Module). has_chain m.instrs 65 c.args.id) c.self.view_is
