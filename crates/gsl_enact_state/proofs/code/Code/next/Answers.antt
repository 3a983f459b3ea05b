use Rattle.std.proofs.Common.{◌+◌, ◌<◌, ◌∷◌, drop, ap, sym, subst, ◌∙◌}
use Rattle.gsl_valid.specs.Placed.{words_from, placed_from}
use Rattle.gsl_ids.proofs.Places.{made, here, room, fits, read_here}
use Rattle.gsl_enact_state.proofs.code.Code.next.Goals as goal

pub behind-self-inside-requires : goal.behind-self-inside-requires
behind-self-inside-requires c =
    let code = c.self.inside.instrs.now in
    let rest = drop (c.self.inside.at + 1) code in
    let cut = here code c.self.inside.at c.op-op.result c.args-args.result.now c.op-op.ensures c.args-args.ensures in
    fits c.self.inside.place 4294967296 rest c.args-args.result.now
    (room code c.self.inside.at c.self.inside.place c.op-op.result 4294967296 c.args-args.result.now cut c.self.invariant.1)

pub invariant_of-self : goal.invariant_of-self
invariant_of-self c =
    let code = c.self.inside.instrs.now in
    let rest = drop (c.self.inside.at + 1) code in
    let cut = here code c.self.inside.at c.op-op.result c.args-args.result.now c.op-op.ensures c.args-args.ensures in (
      c.self.invariant.0,
      subst (λ n. words_from n rest < 4294967296) (sym c.behind-self-inside.ensures)
          (room code c.self.inside.at c.self.inside.place c.op-op.result 4294967296 c.args-args.result.now cut c.self.invariant.1),
    )

pub returns : goal.returns
returns c =
    let code = c.self.inside.instrs.now in
    let rest = drop (c.self.inside.at + 1) code in
    let instr = made c.op-op.result c.args-args.result.now in
    let cut = here code c.self.inside.at c.op-op.result c.args-args.result.now c.op-op.ensures c.args-args.ensures in
    sym c.self.view_is ∙ read_here code c.self.inside.at c.self.inside.place c.op-op.result c.args-args.result.now cut
    ∙ ap (λ n. record { at = c.self.inside.place; instr = instr } ∷ placed_from n rest) (sym c.behind-self-inside.ensures)
