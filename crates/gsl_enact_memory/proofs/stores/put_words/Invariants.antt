use Rattle.std.proofs.Common.{◌≡◌, drop}
use Rattle.gsl_views.specs.Buffers.{put_words}
use Rattle.gsl_enact_memory.proofs.stores.put_words.Given as goal

abbrev pub invariant-loop-k : goal.invariant-loop-k
invariant-loop-k l = put_words l.at (drop l.k l.words) l.bytes.items ≡ put_words l.initial.at l.words l.initial.bytes.items
