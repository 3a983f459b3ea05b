use Rattle.std.proofs.Common.{◌≡◌, ◌≤◌, ◌∙◌, ap, length, subst}
use Rattle.gsl_enact_state.proofs.Gathered.{none_left}
use Rattle.gsl_enact_state.proofs.variables.holders.Goals as goal

pub returns : goal.returns
returns c =
    let are : c.len-at-end.result ≡ length c.args.definitions.now.instrs = c.len-at-end.ensures ∙ ap (λ m. length m.instrs) c.module.ensures in
    none_left _ _ c.args.blocks c.args.definitions.now.instrs c.loop-at.at (subst (λ n. n ≤ c.loop-at.at) are c.loop-at-test.false) c.loop-at.invariant
