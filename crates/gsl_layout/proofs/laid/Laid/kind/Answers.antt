use Rattle.std.proofs.Common.{◌∙◌, sym, ap, subst, arith}
use Rattle.gsl_layout.specs.declared.kind.Kind.TheVariants as kind
use Rattle.gsl_layout.specs.Kinds.{kind_of}
use Rattle.gsl_layout.specs.Layout.{IsLayout}
use Rattle.gsl_layout.specs.Parts.{parts_of}
use Rattle.gsl_layout.specs.Nodes.{IsPaired, layout_of}
use Rattle.gsl_layout.proofs.Counted.{few_parts, parts_counted}
use Rattle.gsl_layout.proofs.laid.Laid.kind.Goals as goal

pub overflow_cast-result : goal.overflow_cast-result
overflow_cast-result c =
    let is = subst (λ n. IsPaired n × IsLayout (layout_of n)) c.in-Group.is c.self.invariant in
    let counted = parts_counted c.in-Group.field-0 c.in-Group.members is.0 in
    omega (arith, c.len.ensures, counted, few_parts (parts_of c.in-Group.field-0 c.in-Group.members) c.in-Group.field-2 is.1)

pub returns-in-Group : goal.returns-in-Group
returns-in-Group c =
    let is = subst (λ n. IsPaired n × IsLayout (layout_of n)) c.in-Group.is c.self.invariant in
    let counted = parts_counted c.in-Group.field-0 c.in-Group.members is.0 in
    ap kind.Group (c.len.ensures ∙ sym counted) ∙ ap (λ n. kind_of (layout_of n)) (sym c.in-Group.is) ∙ ap kind_of c.self.view_is
