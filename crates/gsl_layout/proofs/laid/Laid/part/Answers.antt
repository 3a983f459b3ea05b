use Rattle.std.proofs.Common.{◌∙◌, sym, ap, subst, IsSome}
use Rattle.gsl_layout.specs.Layout.{part_of, IsLayout}
use Rattle.gsl_layout.specs.Nodes.{IsPaired, layout_of}
use Rattle.gsl_layout.proofs.Bounds.{part_found, part_within}
use Rattle.gsl_layout.proofs.laid.Laid.part.Goals as goal

pub index-requires : goal.index-requires
index-requires c = part_within c.in-Group.field-0 c.in-Group.members c.args.i
    (subst (λ n. IsSome (part_of (layout_of n) c.args.i)) c.in-Group.is (subst (λ l. IsSome (part_of l c.args.i)) (sym c.self.view_is) c.requires))

pub returns-in-Group : goal.returns-in-Group
returns-in-Group c =
    let is = subst (λ n. IsPaired n × IsLayout (layout_of n)) c.in-Group.is c.self.invariant in
    ap (λ l. part_of l c.args.i) (sym c.self.view_is) ∙ ap (λ n. part_of (layout_of n) c.args.i) c.in-Group.is
    ∙ part_found c.in-Group.field-0 c.in-Group.members is.0 c.args.i c.index.result.now c.index.ensures
