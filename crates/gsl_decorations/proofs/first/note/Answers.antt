use Rattle.std.proofs.Common.{◌+◌, drop}
use Rattle.indexmap.specs.IndexMap.{get}
use Rattle.gsl_ids.proofs.Places.{made, here}
use Rattle.gsl_decorations.proofs.Fronts.{key_noted, none_noted}
use Rattle.gsl_decorations.proofs.first.note.Goals as goal

pub returns-in_ok-insert : goal.returns-in_ok-insert
returns-in_ok-insert g c =
    let code = c.args.of.now.instrs in
    let op = c.op.result in
    let args = c.args-2.result.now in
    let eq = g.K.PartialEq.eq in
    key_noted eq (g.T.Keyed.has c.args.keyed.now) c.args.at (made op args) (drop c.args.at code) (drop (c.args.at + 1) code) c.key.result (get eq c.args.rows.now)
    (here code c.args.at op args c.op.ensures c.args-2.ensures) c.key.ensures c.requires.behind c.in-Some.key (get eq c.insert.new.self) c.in-Some.is
    c.in_ok-insert.ensures.updates.0

pub returns-in_default : goal.returns-in_default
returns-in_default g c =
    let code = c.args.of.now.instrs in
    let op = c.op.result in
    let args = c.args-2.result.now in
    let eq = g.K.PartialEq.eq in
    none_noted eq (g.T.Keyed.has c.args.keyed.now) c.args.at (made op args) (drop c.args.at code) (drop (c.args.at + 1) code) c.key.result (get eq c.args.rows.now)
    (here code c.args.at op args c.op.ensures c.args-2.ensures) c.key.ensures c.requires.behind c.in_default.is
