use Rattle.std.proofs.Common.{◌≡◌, ◌∙◌, ap, sym, Some, None, arith}
use Rattle.std.specs.BTreeMap.{get_by_text}
use Rattle.gsl_names.specs.Scopes.{find_here}
use Rattle.gsl_names.specs.Table.{latest}
use Rattle.gsl_names.proofs.Latest.{here_is, not_here, none_here, found_within}
use Rattle.gsl_names.proofs.names.Names.find_here.Goals as goal

pub above-requires : goal.above-requires
above-requires c =
    let is : latest c.self.inside.all c.args.name.now ≡ Some c.in-Some.at.now = sym (c.self.invariant.0 c.args.name.now) ∙ ap (get_by_text c.self.inside.places) (sym c.as_str.ensures) ∙ sym c.in-Some.ensures.value in
    found_within c.self.inside.all c.args.name.now c.in-Some.at.now is

pub returns-then-at-len : goal.returns-then-at-len
returns-then-at-len c =
    let is : latest c.self.inside.all c.args.name.now ≡ Some c.in-Some.at.now = sym (c.self.invariant.0 c.args.name.now) ∙ ap (get_by_text c.self.inside.places) (sym c.as_str.ensures) ∙ sym c.in-Some.ensures.value in
    here_is c.self.inside.here c.self.inside.all c.args.name.now c.in-Some.at.now c.above.result.now is c.above.ensures (omega (arith, c.self.invariant.2)) (omega (arith, c.if-at-len.true, c.len.ensures))
    ∙ ap (λ scopes. find_here scopes c.args.name.now) c.self.view_is

pub returns-else-at-len : goal.returns-else-at-len
returns-else-at-len c =
    let is : latest c.self.inside.all c.args.name.now ≡ Some c.in-Some.at.now = sym (c.self.invariant.0 c.args.name.now) ∙ ap (get_by_text c.self.inside.places) (sym c.as_str.ensures) ∙ sym c.in-Some.ensures.value in
    not_here c.self.inside.here c.self.inside.all c.args.name.now c.in-Some.at.now is (omega (arith, c.self.invariant.2)) (omega (arith, c.if-at-len.false, c.len.ensures))
    ∙ ap (λ scopes. find_here scopes c.args.name.now) c.self.view_is

pub returns-in-None : goal.returns-in-None
returns-in-None c =
    let is : latest c.self.inside.all c.args.name.now ≡ None = sym (c.self.invariant.0 c.args.name.now) ∙ ap (get_by_text c.self.inside.places) (sym c.as_str.ensures) ∙ sym c.in-None.ensures.value in
    none_here c.self.inside.here c.self.inside.all c.args.name.now is ∙ ap (λ scopes. find_here scopes c.args.name.now) c.self.view_is
