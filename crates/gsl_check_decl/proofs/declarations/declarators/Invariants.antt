use Rattle.std.proofs.Common.{◌≡◌, drop, map}
use Rattle.gsl_check_decl.specs.Locals.{declarator}
use Rattle.gsl_check_decl.specs.Steps.{in_turn}
use Rattle.gsl_check_decl.proofs.Turns.{from_here}
use Rattle.gsl_check_decl.proofs.declarations.declarators.Given as goal

-- What is found so far and what the rest gives is what all give.
abbrev pub invariant-loop-k : goal.invariant-loop-k
invariant-loop-k l = in_turn (map (declarator l.fn.fixed l.fn.base) l.fn.all) l.fn.env ≡ from_here (declarator l.fn.fixed l.fn.base) l.found (drop l.k l.fn.all) l.env
