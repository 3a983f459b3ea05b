use Rattle.std.proofs.Common.{◌≡◌, map, length}
use Rattle.gsl_lex.specs.Tables.{among}
use Rattle.gsl_lex.proofs.tables.is_among.Given as goal

abbrev pub invariant-loop-rows : goal.invariant-loop-rows
invariant-loop-rows l = among (map (λ row. row.now) l.rows) l.word ≡ among (map (λ row. row.now) l.initial.rows) l.word

abbrev pub decreases-loop-rows : goal.decreases-loop-rows
decreases-loop-rows l = length l.rows
