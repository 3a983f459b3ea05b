use Rattle.std.proofs.Common.{◌≡◌, ◌<◌, sym, ap, ◌∙◌, arith}
use Rattle.std.specs.Prelude.{slice_index}
use Rattle.gsl_words.specs.declared.module.Module.{Module}
use Rattle.gsl_valid.specs.CallRules.{leads_to}
use Rattle.gsl_valid_calls.proofs.Ranked.{not_reached}
use Rattle.gsl_valid_calls.proofs.reach.Calls.leads_to.Goals as goal

pub returns-then-word_at : goal.returns-then-word_at
returns-then-word_at c =
    let ranks = c.self.inside.ranks.items in
    let one : c.word_at.result ≡ slice_index ranks c.args.from = c.word_at.ensures ∙ ap (λ l. slice_index l c.args.from) c.deref.ensures.value in
    let other : c.word_at-2.result ≡ slice_index ranks c.args.id = c.word_at-2.ensures ∙ ap (λ l. slice_index l c.args.id) c.deref-2.ensures.value in
    let less = c.if-word_at.true in
    sym (ap (λ (m : Module). leads_to m c.args.from c.args.id) (sym c.self.view_is)
    ∙ not_reached ranks c.self.inside.definitions.now c.self.invariant.2 c.args.from c.args.id (omega (arith, one, other, less)))
