use Rattle.std.proofs.Common.{sym, ap, subst, ◌-◌, arith}
use Rattle.gsl_layout.specs.Layout.{need, IsLayout}
use Rattle.gsl_layout.specs.Parts.{parts_of}
use Rattle.gsl_layout.specs.Nodes.{IsPaired, layout_of, nodes}
use Rattle.gsl_layout.proofs.Bounds.{last_need, parts_le, nodes_part, some_parts}
use Rattle.gsl_layout.proofs.laid.Laid.+need.Goals as goal

pub need-requires-in-Group : goal.need-requires-in-Group
need-requires-in-Group t c =
    let is = subst (λ n. IsPaired n × IsLayout (layout_of n)) c.in-Group.is c.self.invariant in (
      omega (
        arith,
        c.decreases,
        nodes_part c.in-Group.offsets c.in-Group.members is.0 (c.len-last.result - 1) c.index-in-Group.result.now c.index-in-Group.ensures,
        ap nodes (sym c.self.view_is),
        ap (λ n. nodes (layout_of n)) c.in-Group.is,
      ),
      tt,
    )

pub overflow_add-result-in-Group : goal.overflow_add-result-in-Group
overflow_add-result-in-Group t c =
    let is = subst (λ n. IsPaired n × IsLayout (layout_of n)) c.in-Group.is c.self.invariant in
    let last = last_need c.in-Group.offsets c.in-Group.members 0 c.in-Group.field-2 is.1.0 is.0 (c.len-last.result - 1) (omega (arith, c.len-last.ensures, some_parts c.in-Group.offsets c.in-Group.members 0 c.in-Group.field-2 is.1.0)) c.index.result.now c.index.ensures c.index-in-Group.result.now c.index-in-Group.ensures in
    omega (arith, c.need-in-Group.ensures, last, is.1.1, parts_le (parts_of c.in-Group.offsets c.in-Group.members) 0 c.in-Group.field-2 is.1.0)

pub returns-in-Group : goal.returns-in-Group
returns-in-Group t c =
    let is = subst (λ n. IsPaired n × IsLayout (layout_of n)) c.in-Group.is c.self.invariant in
    let last = last_need c.in-Group.offsets c.in-Group.members 0 c.in-Group.field-2 is.1.0 is.0 (c.len-last.result - 1) (omega (arith, c.len-last.ensures, some_parts c.in-Group.offsets c.in-Group.members 0 c.in-Group.field-2 is.1.0)) c.index.result.now c.index.ensures c.index-in-Group.result.now c.index-in-Group.ensures in
    omega (arith, c.need-in-Group.ensures, last, ap need (sym c.self.view_is), ap (λ n. need (layout_of n)) c.in-Group.is)
