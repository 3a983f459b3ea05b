use Rattle.std.proofs.Common.{◌∙◌, sym, ap, subst, IsSome}
use Rattle.gsl_layout.specs.Layout.{offset_at, members_of, IsLayout}
use Rattle.gsl_layout.specs.Nodes.{IsPaired, layout_of}
use Rattle.gsl_layout.proofs.Bounds.{offset_found, offset_within}
use Rattle.gsl_layout.proofs.laid.Laid.offset.Goals as goal

pub index-requires : goal.index-requires
index-requires c = offset_within c.in-Group.offsets c.in-Group.field-1 c.args.i
    (subst (λ n. IsSome (offset_at (members_of (layout_of n)) c.args.i)) c.in-Group.is (subst (λ l. IsSome (offset_at (members_of l) c.args.i)) (sym c.self.view_is) c.requires))

pub returns : goal.returns
returns c =
    let is = subst (λ n. IsPaired n × IsLayout (layout_of n)) c.in-Group.is c.self.invariant in
    ap (λ l. offset_at (members_of l) c.args.i) (sym c.self.view_is) ∙ ap (λ n. offset_at (members_of (layout_of n)) c.args.i) c.in-Group.is
    ∙ offset_found c.in-Group.offsets c.in-Group.field-1 is.0 c.args.i c.index.result.now c.index.ensures
