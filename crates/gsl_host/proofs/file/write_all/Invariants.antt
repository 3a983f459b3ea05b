use Rattle.std.proofs.Common.{List, ℕ, Option, length}
use Rattle.std.specs.Io.KnownBytes.{Appends}
use Rattle.gsl_host.proofs.file.write_all.Given as goal

-- to write the rest from here on is to have written all
abbrev pub invariant-loop-rest : goal.invariant-loop-rest
invariant-loop-rest g l = (end : Option (List ℕ)) → Appends (g.W.Write.contents l.writer) end l.rest → Appends (g.W.Write.contents l.initial.writer) end l.bytes

abbrev pub decreases-loop-rest : goal.decreases-loop-rest
decreases-loop-rest g l = length l.rest
