use Rattle.std.proofs.Common.{◌∙◌, [], ap, replicate, subst, sym}
use Rattle.gsl_words.specs.declared.module.Module.{Module}
use Rattle.gsl_constants.specs.Rows.{Tells}
use Rattle.gsl_constants.proofs.Put.{nothing_noted}
use Rattle.gsl_constants.proofs.constants.no_rows.Goals as goal

pub returns : goal.returns
returns c =
    let m = c.args.leaves.now in
    let firsts = c.in_ok-firsts.ensures.items_if_clones_equal (λ y same. same) in
    let counts = c.in_ok-counts.ensures.items_if_clones_equal (λ y same. same) in
    let bound = ap (λ (n : Module). n.bound) (c.module.ensures ∙ c.definitions.ensures) in (
      c.in_ok-firsts.ensures.len ∙ bound,
      c.in_ok-counts.ensures.len ∙ bound,
      subst (λ l. Tells l c.in_ok-firsts.firsts.items c.in_ok-counts.counts.items m []) (sym c.new.ensures.items)
          (subst (λ l. Tells [] l c.in_ok-counts.counts.items m []) (sym firsts) (subst (λ l. Tells [] (replicate c.module.result.now.bound 0) l m []) (sym counts) (nothing_noted m c.module.result.now.bound))),
    )
