use Rattle.std.proofs.Common.{◌≡◌, drop}
use Rattle.gsl_perform.specs.Coming.{evaluates_all, passes_all, with_front}
use Rattle.gsl_perform.specs.Framed.{around}
use Rattle.gsl_perform.proofs.around.Around.+expressions.Given as goal

abbrev pub invariant-values-loop-k : goal.invariant-values-loop-k
invariant-values-loop-k g l =
    with_front l.given (evaluates_all (around l.self.frame.now l.self.depth) (drop l.k l.es) l.w.store l.w.units)
    ≡ evaluates_all (around l.self.frame.now l.self.depth) l.es l.initial.w.store l.initial.w.units

abbrev pub invariant-arguments-loop-k : goal.invariant-arguments-loop-k
invariant-arguments-loop-k g l =
    with_front l.given (passes_all (around l.self.frame.now l.self.depth) (drop l.k l.params) (drop l.k l.args) l.w.store l.w.units)
    ≡ passes_all (around l.self.frame.now l.self.depth) l.params l.args l.initial.w.store l.initial.w.units
