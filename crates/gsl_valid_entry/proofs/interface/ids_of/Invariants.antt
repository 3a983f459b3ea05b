use Rattle.std.proofs.Common.{◌≡◌, ℕ, ◌≤◌, length, drop}
use Rattle.std.specs.Prelude.{nat_eq}
use Rattle.indexmap.specs.IndexSet.{contains}
use Rattle.gsl_valid.specs.EntryRules.{is_among, all_differ}
use Rattle.gsl_valid_entry.proofs.interface.ids_of.Given as goal

abbrev pub invariant-loop-at : goal.invariant-loop-at
invariant-loop-at l =
    (l.at ≤ length l.ids) × ((id : ℕ) → contains nat_eq l.set id ≡ is_among (drop l.at l.ids) id) × (l.differ ≡ all_differ (drop l.at l.ids))

abbrev pub decreases-loop-at : goal.decreases-loop-at
decreases-loop-at l = l.at
