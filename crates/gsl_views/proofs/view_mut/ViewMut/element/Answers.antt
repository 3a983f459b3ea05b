use Rattle.std.proofs.Common.{length}
use Rattle.gsl_views.proofs.Parts.{element_is, element_need}
use Rattle.gsl_views.proofs.view_mut.ViewMut.element.Goals as goal

pub invariant_of-result-clause-fits : goal.invariant_of-result-clause-fits
invariant_of-result-clause-fits c =
    let layout = c.args.self.laid.now in
    element_need layout c.keeps.ensures c.args.self.start (length c.args.self.bytes.now) c.args.self.fits c.args.i c.requires c.stride.result c.stride.ensures c.part.result.now
    (element_is layout c.args.i c.args.self.start (length c.args.self.bytes.now) c.requires c.part.result.now c.part.ensures)
