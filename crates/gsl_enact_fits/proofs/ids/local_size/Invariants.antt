use Rattle.std.proofs.Common.{◌≡◌, drop}
use Rattle.std.specs.Option.{option_map}
use Rattle.gsl_enact_fits.specs.Passes.{size_from}
use Rattle.gsl_enact_fits.proofs.ids.local_size.Given as goal

abbrev pub invariant-loop-at : goal.invariant-loop-at
invariant-loop-at l = option_map (λ parts. parts.now) l.size ≡ size_from (drop l.at l.definitions.instrs)

abbrev pub decreases-loop-at : goal.decreases-loop-at
decreases-loop-at l = l.at
