use Rattle.std.proofs.Common.{◌≡◌, length}
use Rattle.gsl_lex.specs.Reading.{after_close}
use Rattle.gsl_lex.proofs.piece.skip_comment.Given as goal

abbrev pub invariant-loop-here : goal.invariant-loop-here
invariant-loop-here l = after_close l.before l.cursor ≡ after_close l.initial.before l.initial.cursor

abbrev pub decreases-loop-here : goal.decreases-loop-here
decreases-loop-here l = length l.cursor
