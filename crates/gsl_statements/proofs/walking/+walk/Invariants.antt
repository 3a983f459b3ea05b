use Rattle.std.proofs.Common.{◌≡◌, drop}
use Rattle.gsl_syntax.specs.declared.statement.Stmt.{Stmt as Syntax}
use Rattle.gsl_check_decl.proofs.Turns.{from_here}
use Rattle.gsl_check_stmt.specs.Statements.{statement, statements}
use Rattle.gsl_check_stmt.specs.Switches.{nothing}
use Rattle.gsl_check_stmt.proofs.Turns.{items_of}
use Rattle.gsl_statements.proofs.walking.+walk.Given as goal

-- What is found so far and what the rest gives is what all give.
abbrev pub invariant-statements-loop-k : goal.invariant-statements-loop-k
invariant-statements-loop-k l =
    statements l.fn.returns l.fn.all l.fn.within l.fn.env ≡ from_here (λ (s : Syntax). statement l.fn.returns s l.fn.within) l.found (drop l.k l.fn.all) l.env

-- The rest behind the body so far is the body.
abbrev pub invariant-items-loop-k : goal.invariant-items-loop-k
invariant-items-loop-k l = items_of l.fn.returns l.fn.within l.fn.selector l.fn.all nothing l.fn.env ≡ items_of l.fn.returns l.fn.within l.fn.selector (drop l.k l.fn.all) l.g l.env
