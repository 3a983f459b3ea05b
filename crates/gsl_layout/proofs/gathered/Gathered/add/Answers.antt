use Rattle.std.proofs.Common.{◌∙◌, ap, arith, ◌∷◌, [], ◌++◌, ◌+◌, max}
use Rattle.gsl_layout.proofs.Multiples.{alignment_small}
use Rattle.gsl_layout.proofs.Pushes.{end_push, gathers_push}
use Rattle.gsl_layout.proofs.gathered.Gathered.add.Goals as goal

pub returns-then-end : goal.returns-then-end
returns-then-end c members gathers =
    omega (arith, end_push c.args.self.now members gathers (c.args.placing, c.args.measured), c.offset_behind-offset.ensures.least, c.if-end.true)

pub returns : goal.returns
returns c members gathers =
    gathers_push c.args.self.now members gathers (c.args.placing, c.args.measured) _ (alignment_small c.args.measured.align c.requires.align).0
    (c.in_ok-push.ensures.ok ∙ ap (λ o. c.args.self.now.offsets ++ o ∷ []) c.offset_behind-offset.ensures.least) c.in_ok-push-2.ensures.ok
    (ap (λ o. o + c.args.measured.size) c.offset_behind-offset.ensures.least) c.max-self.ensures (c.max-self-2.ensures ∙ ap (λ a. max c.args.self.now.align a) c.actual_align.ensures) (omega (arith, c.if-end.false))
