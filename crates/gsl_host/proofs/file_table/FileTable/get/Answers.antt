use Rattle.std.proofs.Common.{◌≡◌, true, false, Some, ap, sym, ◌∙◌}
use Rattle.std.specs.Str.{bytes_eq}
use Rattle.std.specs.Ordering.{nat_cmp}
use Rattle.std.specs.Cmp.Lexicographic.{slice_cmp, nat_list_cmp_total}
use Rattle.std.specs.FinMap.{get, find, get-from_entries}
use Rattle.gsl_host.proofs.Names.{find_at}
use Rattle.gsl_host.proofs.file_table.FileTable.get.Goals as goal

pub loop-written-init : goal.loop-written-init
loop-written-init c =
    ap (λ m. get m c.args.name.now) (sym c.self.view_is)
    ∙ get-from_entries nat_list_cmp_total _ _
    ∙ ap (find (slice_cmp nat_cmp) c.args.name.now) (sym c.into_iter-written-iterator.ensures.into_iter_gives.0)

pub returns-then-eq : goal.returns-then-eq
returns-then-eq c =
    let same : bytes_eq c.in-Some.field-0.now.0 c.args.name.now ≡ true = cc in
    ap Some c.as_slice.ensures
    ∙ sym (c.loop-written.invariant
    ∙ ap (find (slice_cmp nat_cmp) c.args.name.now) c.in-Some.ensures.steps
    ∙ find_at c.args.name.now c.in-Some.field-0.now _ true same)

pub loop-written-preserved : goal.loop-written-preserved
loop-written-preserved c =
    let other : bytes_eq c.in-Some.field-0.now.0 c.args.name.now ≡ false = cc in
    c.loop-written.invariant
    ∙ ap (find (slice_cmp nat_cmp) c.args.name.now) c.in-Some.ensures.steps
    ∙ find_at c.args.name.now c.in-Some.field-0.now _ false other
