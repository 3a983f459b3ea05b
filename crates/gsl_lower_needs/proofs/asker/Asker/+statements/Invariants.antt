use Rattle.std.proofs.Common.{◌≡◌, drop}
use Rattle.gsl_lower_needs.specs.Bodies.{arms, row}
use Rattle.gsl_lower_needs.proofs.asker.Asker.+statements.Given as goal

abbrev pub invariant-body-loop-k : goal.invariant-body-loop-k
invariant-body-loop-k l = row l.self.prototypes.now (drop l.k l.ss) l.needs ≡ row l.self.prototypes.now l.ss l.initial.needs

abbrev pub invariant-arms-loop-k : goal.invariant-arms-loop-k
invariant-arms-loop-k l = arms l.self.prototypes.now (drop l.k l.arms) l.needs ≡ arms l.self.prototypes.now l.arms l.initial.needs
