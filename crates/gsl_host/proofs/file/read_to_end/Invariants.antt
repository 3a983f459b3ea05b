use Rattle.std.proofs.Common.{◌≤◌, ◌-◌, length}
use Rattle.std.specs.Io.KnownBytes.{Consumes}
use Rattle.gsl_host.proofs.file.read_to_end.Given as goal

abbrev pub invariant-loop-wanted : goal.invariant-loop-wanted
invariant-loop-wanted g l = (length l.bytes ≤ l.most) × Consumes (g.F.Read.remaining l.initial.reader) (g.F.Read.remaining l.reader) l.bytes

abbrev pub decreases-loop-wanted : goal.decreases-loop-wanted
decreases-loop-wanted g l = l.most - length l.bytes
