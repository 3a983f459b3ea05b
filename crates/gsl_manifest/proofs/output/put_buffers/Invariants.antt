use Rattle.std.proofs.Common.{◌≡◌, ◌++◌, take}
use Rattle.std.specs.List.{flat_map}
use Rattle.gsl_manifest.specs.Listing.{buffer_text}
use Rattle.gsl_manifest.proofs.output.put_buffers.Given as goal

abbrev pub invariant-loop-buffer : goal.invariant-loop-buffer
invariant-loop-buffer l = l.out ≡ l.initial.out ++ flat_map buffer_text (take l.buffer-index l.buffers)
