use Rattle.std.proofs.Common.{◌&&◌, ap, ◌∙◌, List, ℕ}
use Rattle.std.specs.Prelude.{nat_eq}
use Rattle.std.specs.List.{list_all}
use Rattle.indexmap.specs.IndexSet.{contains}
use Rattle.gsl_valid.specs.EntryRules.{lists_each}
use Rattle.gsl_valid_entry.proofs.Known.{listed}
use Rattle.gsl_valid_entry.proofs.interface.Interface.is_listed.Goals as goal

pub returns : goal.returns
returns c =
    let ids = c.self.inside.ids.items in
    let names = c.args.listed.now in
    let known = c.in_ok-known.known in
    c.all_three-whole.ensures
    ∙ ap (λ b. b && c.all_among-no_other.result && known.differ) (c.all_among-each.ensures ∙ ap (list_all (contains nat_eq known.set)) c.as_slice.ensures.value)
    ∙ ap (λ b. list_all (contains nat_eq known.set) ids && b && known.differ) c.all_among-no_other.ensures
    ∙ listed ids names c.self.inside.known.set known.set known.differ c.self.invariant c.in_ok-known.ensures.0 c.in_ok-known.ensures.1
    ∙ ap (λ (l : List ℕ). lists_each l names) c.self.view_is
