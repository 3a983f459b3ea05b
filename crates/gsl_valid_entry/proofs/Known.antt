-- Sets of ids.
use Rattle.std.proofs.Common.{◌≡◌, ℕ, Bool, ◌&&◌, List, ap, ◌∙◌}
use Rattle.std.specs.Prelude.{nat_eq}
use Rattle.std.specs.List.{list_all}
use Rattle.indexmap.specs.IndexSet.{IndexSet, contains}
use Rattle.gsl_ids.proofs.Numbers.{same_all}
use Rattle.gsl_valid.specs.EntryRules.{is_among, all_differ, lists_each}
use Rattle.gsl_valid_entry.specs.Reading.{Holds}

-- lists are compared by sets of their ids
pub listed : {S T : Type 0} (ids names : List ℕ) (among : IndexSet ℕ S) (known : IndexSet ℕ T) (differ : Bool) → Holds among ids → Holds known names → differ ≡ all_differ names →
    (list_all (contains nat_eq known) ids && list_all (contains nat_eq among) names && differ) ≡ lists_each ids names
listed ids names among known differ has_ids has_names d =
    ap (λ b. b && list_all (contains nat_eq among) names && differ) (same_all (contains nat_eq known) (is_among names) has_names ids)
    ∙ ap (λ b. list_all (is_among names) ids && b && differ) (same_all (contains nat_eq among) (is_among ids) has_ids names)
    ∙ ap (λ b. list_all (is_among names) ids && list_all (is_among ids) names && b) d
