use Rattle.std.proofs.Common.{◌≡◌, ◌++◌, length}
use Rattle.gsl_lex.specs.Reading.{run_of, after_run}
use Rattle.gsl_lex.proofs.piece.take_run.Given as goal

abbrev pub invariant-loop-here : goal.invariant-loop-here
invariant-loop-here l = (l.text ++ run_of l.run l.before l.cursor ≡ l.initial.text ++ run_of l.run l.initial.before l.initial.cursor) × (after_run l.run l.before l.cursor ≡ after_run l.run l.initial.before l.initial.cursor)

abbrev pub decreases-loop-here : goal.decreases-loop-here
decreases-loop-here l = length l.cursor
