use Rattle.std.proofs.Common.{◌≡◌, length}
use Rattle.gsl_lex.specs.Reading.{after_run}
use Rattle.gsl_lex.proofs.piece.skip_run.Given as goal

abbrev pub invariant-loop-here : goal.invariant-loop-here
invariant-loop-here l = after_run l.run l.before l.cursor ≡ after_run l.run l.initial.before l.initial.cursor

abbrev pub decreases-loop-here : goal.decreases-loop-here
decreases-loop-here l = length l.cursor
