use Rattle.std.proofs.Common.{ap, ◌∙◌, arith}
use Rattle.gsl_link_calls.specs.Table.{heads_of}
use Rattle.gsl_link_calls.proofs.Tabled.{heads_are}
use Rattle.gsl_link_calls.proofs.table.CallTable.heads.Goals as goal

pub returns : goal.returns
returns c =
    let table = c.self.inside in
    let count = heads_are table.functions.now table.firsts.items table.lists c.self.invariant in
    let seen = ap heads_of c.self.view_is in
    let len = c.len.ensures in
    let ok = table.firsts.ok in
    omega (arith, count, seen, len, ok)
