use Rattle.std.proofs.Common.{drop, ◌+◌, sym, subst, ◌∙◌, arith}
use Rattle.gsl_ids.specs.Table.{Tells}
use Rattle.gsl_ids.proofs.Places.{made, here}
use Rattle.gsl_ids.proofs.Rows.{none_noted, one_noted, below}
use Rattle.gsl_ids.proofs.table.note.Goals as goal

pub index_mut-requires : goal.index_mut-requires
index_mut-requires c =
    let code = c.args.of.now.instrs in
    let cut = here code c.args.at c.op.result c.args-2.result.now c.op.ensures c.args-2.ensures in
    omega (arith, below c.args.of.now c.args.at (made c.op.result c.args-2.result.now) c.in-Some.id cut (sym c.defined_by.ensures ∙ c.in-Some.is) c.requires.once, c.requires.room)

pub returns-in-Some-clause-noted : goal.returns-in-Some-clause-noted
returns-in-Some-clause-noted c =
    let code = c.args.of.now.instrs in
    let i = made c.op.result c.args-2.result.now in
    let cut = here code c.args.at c.op.result c.args-2.result.now c.op.ensures c.args-2.ensures in
    let is = sym c.defined_by.ensures ∙ c.in-Some.is in
    subst (Tells _ c.args.at) (sym cut)
    (one_noted c.args.at i (drop (c.args.at + 1) code) c.args.rows.now.items c.in-Some.id
    (omega (arith, below c.args.of.now c.args.at i c.in-Some.id cut is c.requires.once, c.requires.room, c.args.rows.now.ok)) is c.requires.behind)

pub returns-in_default-clause-noted : goal.returns-in_default-clause-noted
returns-in_default-clause-noted c =
    let code = c.args.of.now.instrs in
    let i = made c.op.result c.args-2.result.now in
    let cut = here code c.args.at c.op.result c.args-2.result.now c.op.ensures c.args-2.ensures in
    subst (Tells _ c.args.at) (sym cut) (none_noted c.args.at i (drop (c.args.at + 1) code) c.args.rows.now.items (sym c.defined_by.ensures ∙ c.in_default.is) c.requires.behind)
