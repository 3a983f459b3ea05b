use Rattle.std.proofs.Common.{◌≡◌, drop}
use Rattle.gsl_cmd.specs.Buffers.{put_words}
use Rattle.gsl_slow.proofs.shader.put_all.Given as goal

abbrev pub invariant-loop-i : goal.invariant-loop-i
invariant-loop-i l = put_words l.i (drop l.i l.words) l.bytes ≡ put_words 0 l.words l.initial.bytes
