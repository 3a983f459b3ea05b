use Rattle.std.proofs.Common.{◌≡◌, drop}
use Rattle.gsl_valid_layouts.specs.Marks.{marked_all}
use Rattle.gsl_valid_layouts.proofs.marks.mark_all.Given as goal

abbrev pub invariant-loop-id : goal.invariant-loop-id
invariant-loop-id l = marked_all l.definitions l.count l.rows.items (drop l.id-index l.ids) ≡ marked_all l.definitions l.count l.initial.rows.items l.ids
