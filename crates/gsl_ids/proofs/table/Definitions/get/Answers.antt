use Rattle.std.proofs.Common.{refl, ap, sym, ◌∙◌}
use Rattle.gsl_valid.specs.Types.{defined_as}
use Rattle.gsl_ids.specs.Table.{numbered, number_of}
use Rattle.gsl_ids.proofs.Rows.{found}
use Rattle.gsl_ids.proofs.table.Definitions.get.Goals as goal

pub returns : goal.returns
returns c =
    let m = c.self.inside.of.now in
    let same = c.self.view_is in
    c.numbered.ensures ∙ ap (numbered m.instrs) (c.number.ensures ∙ ap (λ m. number_of m c.args.id) (sym same))
    ∙ found m.instrs m.instrs 0 c.args.id refl ∙ ap (λ m. defined_as m c.args.id) same
