use Rattle.std.proofs.Common.{◌≡◌, drop, map}
use Rattle.gsl_check_globals.specs.Variables.{all_declared, declarator}
use Rattle.gsl_check_globals.proofs.declaring.declarators.Given as goal

abbrev pub invariant-loop-k : goal.invariant-loop-k
invariant-loop-k l =
    all_declared (map (declarator l.fn.role l.fn.q l.fn.base) (drop l.k l.fn.all)) l.env ≡ all_declared (map (declarator l.fn.role l.fn.q l.fn.base) l.fn.all) l.fn.env
