use Rattle.std.proofs.Common.{◌≡◌, ◌∷◌, ◌+◌, drop, subst}
use Rattle.gsl_words.specs.declared.module.Module.{Module}
use Rattle.gsl_ids.proofs.Places.{made, here}
use Rattle.gsl_ids.proofs.table.Definitions.instr.Goals as goal

pub returns-then-at-len : goal.returns-then-at-len
returns-then-at-len c =
    subst (λ (m : Module). drop c.args.at m.instrs ≡ made c.op.result c.args-then-at-len.result.now ∷ drop (c.args.at + 1) m.instrs) c.self.view_is
    (here c.self.inside.of.now.instrs c.args.at c.op.result c.args-then-at-len.result.now c.op.ensures c.args-then-at-len.ensures)
