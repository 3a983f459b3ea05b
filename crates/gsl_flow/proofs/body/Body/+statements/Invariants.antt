use Rattle.std.proofs.Common.{◌≡◌, drop}
use Rattle.gsl_perform.specs.Framed.{around}
use Rattle.gsl_flow.specs.Performing as spec
use Rattle.gsl_flow.proofs.body.Body.+statements.Given as goal

abbrev pub invariant-row-loop-k : goal.invariant-row-loop-k
invariant-row-loop-k g l =
    spec.row (around l.self.around.frame.now l.self.around.depth) l.self.locals.now (drop l.k l.ss) l.w.store l.w.units
    ≡ spec.row (around l.self.around.frame.now l.self.around.depth) l.self.locals.now l.ss l.initial.w.store l.initial.w.units

abbrev pub invariant-arms-loop-k : goal.invariant-arms-loop-k
invariant-arms-loop-k g l =
    spec.falls (around l.self.around.frame.now l.self.around.depth) l.self.locals.now (drop l.k l.arms) l.w.store l.w.units
    ≡ spec.falls (around l.self.around.frame.now l.self.around.depth) l.self.locals.now (drop l.from l.arms) l.initial.w.store l.initial.w.units

abbrev pub invariant-turns-loop-turn : goal.invariant-turns-loop-turn
invariant-turns-loop-turn g l =
    spec.turns_of (around l.self.around.frame.now l.self.around.depth) l.self.locals.now l.test l.step l.body l.w.store l.w.units
    ≡ spec.turns_of (around l.self.around.frame.now l.self.around.depth) l.self.locals.now l.test l.step l.body l.initial.w.store l.initial.w.units
