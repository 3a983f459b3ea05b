use Rattle.std.proofs.Common.{◌≡◌, length}
use Rattle.gsl_lex.specs.Reading.{cut_from}
use Rattle.gsl_lex.specs.Raws.{raws_on, raws_of}
use Rattle.gsl_lex.proofs.Loops.{behind}
use Rattle.gsl_lex.proofs.lexing.tokens.Given as goal

abbrev pub invariant-loop-first : goal.invariant-loop-first
invariant-loop-first l = behind l.raws (raws_on l.fn.unit l.starts_line l.spaced (cut_from l.cursor 0)) ≡ raws_of l.fn.unit l.fn.bytes

abbrev pub decreases-loop-first : goal.decreases-loop-first
decreases-loop-first l = length l.cursor
