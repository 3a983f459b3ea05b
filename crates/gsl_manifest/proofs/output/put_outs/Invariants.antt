use Rattle.std.proofs.Common.{◌≡◌, ◌++◌, take}
use Rattle.std.specs.List.{flat_map}
use Rattle.gsl_manifest.specs.Listing.{out_text}
use Rattle.gsl_manifest.proofs.output.put_outs.Given as goal

abbrev pub invariant-loop-located : goal.invariant-loop-located
invariant-loop-located l = l.out ≡ l.initial.out ++ flat_map out_text (take l.located-index l.outs)
