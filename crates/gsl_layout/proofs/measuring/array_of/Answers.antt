use Rattle.std.proofs.Common.{◌∙◌, ◌≤◌, ◌*◌, MatchOption, sym, ap, subst, arith}
use Rattle.std.specs.Prelude.{⊤}
use Rattle.gsl_layout.specs.Layout.{IsLayout, array}
use Rattle.gsl_layout.specs.Rules.{IsAlignment, least_multiple}
use Rattle.gsl_layout.proofs.Arrays.{counted_array, open_array}
use Rattle.gsl_layout.proofs.measuring.array_of.Goals as goal
use Rattle.gsl_layout.proofs.measuring.array_of.Goals.{in-Some, in-None}

pub array-requires : goal.array-requires
array-requires g c =
    let raised = (g.met.R.Rules.raises c.args.rules.now c.args.element.align c.requires.align).alignment in
    let align = subst IsAlignment (sym c.raise-align.ensures) raised in
    let element = c.args.element in
    let stride = c.round_up-stride.result in
    let stays = subst (λ s. IsLayout (array s c.match-count.count element.laid)) (sym c.round_up-stride.ensures.least) in
    elim c.match-count.branch [
      | in-Some w ↦
          let n = w.in-Some.count in
          let some : 1 ≤ n = subst (λ count. MatchOption count ⊤ (λ n. 1 ≤ n)) w.in-Some.is c.requires.some in
          let is = ap (λ s. s * n) c.round_up-stride.ensures.least in
          stays (subst (λ count. IsLayout (array (least_multiple c.raise-align.result element.size) count element.laid)) (sym w.count-is)
          (counted_array c.raise-align.result align element c.requires.measured c.requires.closed c.requires.size n some (omega (arith, is, w.size-is, c.if-size.false))))
      | in-None w ↦ stays (subst (λ count. IsLayout (array (least_multiple c.raise-align.result element.size) count element.laid)) (sym (w.count-is ∙ w.in-None.is))
          (open_array c.raise-align.result align element c.requires.measured c.requires.closed c.requires.size))
    ]
