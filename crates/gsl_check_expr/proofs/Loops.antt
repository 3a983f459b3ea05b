-- What loops over things that are checked in their order keep.
use Rattle.std.proofs.Common.{List, ◌++◌, Ok, Err}
use Rattle.gsl_base.specs.Checked.{Checked}
use Rattle.gsl_base.specs.declared.fault.Place.{Place}
use Rattle.gsl_syntax.specs.declared.expr.Expr.{Expr as Syntax}
use Rattle.gsl_check_expr.specs.declared.env.Env.{Env}
use Rattle.gsl_check_expr.specs.Expressions.{Answer, answer}

-- what was found so far, and what the rest gives
abbrev pub after : {A : Type 0} → List A → Checked (List A) → Checked (List A)
after found (Ok rest) = Ok (found ++ rest)
after found (Err fault) = Err fault

-- an expression behind a comma with what it stands for
abbrev pub answered : Env → Place × Syntax → Place × Answer
answered env x = (x.0, answer env x.1)
