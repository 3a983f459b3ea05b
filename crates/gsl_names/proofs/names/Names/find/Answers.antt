use Rattle.std.proofs.Common.{◌≡◌, ◌∙◌, ap, sym, Some, None, ◌∷◌}
use Rattle.std.specs.BTreeMap.{get_by_text}
use Rattle.gsl_names.specs.Scopes.{find}
use Rattle.gsl_names.specs.Table.{latest}
use Rattle.gsl_names.proofs.Latest.{found_is, found_within, found_none}
use Rattle.gsl_names.proofs.names.Names.find.Goals as goal

pub above-requires : goal.above-requires
above-requires c =
    let is : latest c.self.inside.all c.args.name.now ≡ Some c.in-Some.at.now = sym (c.self.invariant.0 c.args.name.now) ∙ ap (get_by_text c.self.inside.places) (sym c.as_str.ensures) ∙ sym c.in-Some.ensures.value in
    found_within c.self.inside.all c.args.name.now c.in-Some.at.now is

pub returns-in-Some : goal.returns-in-Some
returns-in-Some c =
    let is : latest c.self.inside.all c.args.name.now ≡ Some c.in-Some.at.now = sym (c.self.invariant.0 c.args.name.now) ∙ ap (get_by_text c.self.inside.places) (sym c.as_str.ensures) ∙ sym c.in-Some.ensures.value in
    found_is (c.self.inside.here ∷ c.self.inside.around) c.self.inside.all c.args.name.now c.in-Some.at.now c.above.result.now c.self.invariant.2 is c.above.ensures ∙ ap (λ scopes. find scopes c.args.name.now) c.self.view_is

pub returns-in-None : goal.returns-in-None
returns-in-None c =
    let is : latest c.self.inside.all c.args.name.now ≡ None = sym (c.self.invariant.0 c.args.name.now) ∙ ap (get_by_text c.self.inside.places) (sym c.as_str.ensures) ∙ sym c.in-None.ensures.value in
    found_none (c.self.inside.here ∷ c.self.inside.around) c.self.inside.all c.args.name.now c.self.invariant.2 is ∙ ap (λ scopes. find scopes c.args.name.now) c.self.view_is
