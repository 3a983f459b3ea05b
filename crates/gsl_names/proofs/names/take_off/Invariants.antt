use Rattle.std.proofs.Common.{◌≡◌, ℕ, List, drop}
use Rattle.std.specs.BTreeMap.{get_by_text}
use Rattle.gsl_names.specs.Table.{hides, latest}
use Rattle.gsl_names.proofs.names.take_off.Given as goal

abbrev pub invariant-loop : goal.invariant-loop
invariant-loop l = (l.all ≡ drop l.counter l.initial.all) × (l.hidden ≡ hides l.all) × ((q : List ℕ) → get_by_text l.places q ≡ latest l.all q)
