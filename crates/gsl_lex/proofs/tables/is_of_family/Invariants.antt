use Rattle.std.proofs.Common.{◌≡◌, map, length}
use Rattle.gsl_lex.specs.Searching.{of_family}
use Rattle.gsl_lex.proofs.tables.is_of_family.Given as goal

abbrev pub invariant-loop-heads : goal.invariant-loop-heads
invariant-loop-heads l = of_family (map (λ row. row.now) l.heads) (map (λ row. row.now) l.tails) l.word ≡ of_family (map (λ row. row.now) l.initial.heads) (map (λ row. row.now) l.tails) l.word

abbrev pub decreases-loop-heads : goal.decreases-loop-heads
decreases-loop-heads l = length l.heads
