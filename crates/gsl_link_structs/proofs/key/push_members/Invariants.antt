use Rattle.std.proofs.Common.{◌≡◌, ◌++◌, drop}
use Rattle.gsl_link_structs.specs.Keys as spec
use Rattle.gsl_link_structs.proofs.key.push_members.Given as goal

abbrev pub invariant-loop-k : goal.invariant-loop-k
invariant-loop-k l = l.words ++ spec.members_words (drop l.k l.members) ≡ l.initial.words ++ spec.members_words l.members
