use Rattle.std.proofs.Common.{◌∷◌, [], ◌++◌, ap, ◌∙◌, arith}
use Rattle.gsl_words.proofs.Flattened.{put_there}
use Rattle.gsl_words.proofs.instrs.Instrs.put.Goals as goal

pub invariant_of-self-2 : goal.invariant_of-self-2
invariant_of-self-2 c =
    (put_there c.self.inside.words.items c.self.inside.starts.items c.reserve.new.self.items c.push.new.self.items c.extend_from_slice.new.self.items
    c.reserve-2.new.self.items c.push-2.new.self.items c.args.args.now c.args.op c.kept_first.result c.len-start.result c.self.invariant (omega arith)
    c.in_ok-reserve.ensures.items c.in_ok-reserve-2.ensures.items (omega arith) c.kept_first.ensures
    c.in_ok-push.ensures.items c.in_ok-extend_from_slice.ensures.items c.in_ok-push-2.ensures.items).flat

pub returns-clause-ok : goal.returns-clause-ok
returns-clause-ok c =
    (put_there c.self.inside.words.items c.self.inside.starts.items c.reserve.new.self.items c.push.new.self.items c.extend_from_slice.new.self.items
    c.reserve-2.new.self.items c.push-2.new.self.items c.args.args.now c.args.op c.kept_first.result c.len-start.result c.self.invariant (omega arith)
    c.in_ok-reserve.ensures.items c.in_ok-reserve-2.ensures.items (omega arith) c.kept_first.ensures
    c.in_ok-push.ensures.items c.in_ok-extend_from_slice.ensures.items c.in_ok-push-2.ensures.items).view
    ∙ ap (λ l. l ++ record { op = c.args.op; args = c.args.args.now } ∷ []) c.self.view_is
