use Rattle.std.proofs.Common.{◌≡◌, ◌≤◌, length, sym, ◌∙◌, rules, arith, None}
use Rattle.indexmap.specs.IndexMap.{get}
use Rattle.gsl_decorations.proofs.Fronts.{none_behind}
use Rattle.gsl_decorations.proofs.first.firsts.Goals as goal

pub loop-at-init : goal.loop-at-init
loop-at-init g c =
    let code = c.args.of.now.instrs in
    let whole : length code ≤ c.len-at.result = omega (arith, c.len-at.ensures) in (
      search rules,
      λ key.
          let empty : get g.K.PartialEq.eq c.new-rows.result key ≡ None = search rules in
          empty ∙ sym (none_behind (g.T.Keyed.has c.args.keyed.now key) c.len-at.result code whole),
    )
