use Rattle.std.proofs.Common.{◌≡◌, drop}
use Rattle.gsl_lower_needs.specs.Needs.{holders}
use Rattle.gsl_lower_needs.proofs.leads.holders.Given as goal

abbrev pub invariant-loop-k : goal.invariant-loop-k
invariant-loop-k l = holders (drop l.k l.types) l.needs ≡ holders l.types l.initial.needs
