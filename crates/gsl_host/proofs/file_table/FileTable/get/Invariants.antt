use Rattle.std.proofs.Common.{◌≡◌}
use Rattle.std.specs.Ordering.{nat_cmp}
use Rattle.std.specs.Cmp.Lexicographic.{slice_cmp}
use Rattle.std.specs.FinMap.{get, find}
use Rattle.std.specs.VecDeque.Iter.{deque_iter_rest}
use Rattle.gsl_host.proofs.file_table.FileTable.get.Given as goal

abbrev pub invariant-loop-written : goal.invariant-loop-written
invariant-loop-written l = get l.self l.name ≡ find (slice_cmp nat_cmp) l.name (deque_iter_rest l.written-iterator)
