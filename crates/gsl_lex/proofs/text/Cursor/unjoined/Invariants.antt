use Rattle.std.proofs.Common.{◌≡◌, ◌+◌, ◌≤◌, ◌^◌, length}
use Rattle.gsl_lex.specs.Lines.{text_from}
use Rattle.gsl_lex.proofs.text.Cursor.unjoined.Given as goal

abbrev pub invariant-loop-after : goal.invariant-loop-after
invariant-loop-after l = (text_from l.line l.rest ≡ text_from l.initial.line l.initial.rest) × (l.line + length l.rest ≤ 2 ^ 32)

abbrev pub decreases-loop-after : goal.decreases-loop-after
decreases-loop-after l = length l.rest
