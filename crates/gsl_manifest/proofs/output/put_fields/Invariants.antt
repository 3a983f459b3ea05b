use Rattle.std.proofs.Common.{◌≡◌, ◌++◌, take}
use Rattle.std.specs.List.{flat_map}
use Rattle.gsl_manifest.specs.Listing.{byte_field}
use Rattle.gsl_manifest.proofs.output.put_fields.Given as goal

abbrev pub invariant-loop-byte : goal.invariant-loop-byte
invariant-loop-byte l = l.out ≡ l.initial.out ++ flat_map byte_field (take l.byte-index l.bytes)
