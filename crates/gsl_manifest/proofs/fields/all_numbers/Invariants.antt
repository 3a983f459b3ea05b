use Rattle.std.proofs.Common.{◌≡◌, ◌++◌}
use Rattle.std.specs.Option.{option_map}
use Rattle.gsl_manifest.specs.Fields.{numbers_at}
use Rattle.gsl_manifest.proofs.fields.all_numbers.Given as goal

abbrev pub invariant-loop-rest : goal.invariant-loop-rest
invariant-loop-rest l = option_map (λ more. l.numbers ++ more) (numbers_at l.left l.rest) ≡ numbers_at l.most l.bytes

abbrev pub decreases-loop-rest : goal.decreases-loop-rest
decreases-loop-rest l = l.left
