-- What statements and declarations do: in what is declared before them they are typed statements, and they leave what is declared behind them.
use Rattle.std.specs.Prelude.{List, [], ◌∷◌, length, nat_lt, Ok, if◌then◌else◌}
use Rattle.gsl_base.specs.Checked.{Checked, ◌>>=◌}
use Rattle.gsl_names.specs.Scopes.{Scopes, outer}
use Rattle.gsl_tree.specs.declared.stmt.Stmt.{Stmt}
use Rattle.gsl_tree.specs.declared.stmt.Stmt.TheVariants as stmt
use Rattle.gsl_check_expr.specs.declared.env.Env.{Env}

-- a typed statement, and what is declared behind it
abbrev pub Step : Type 0
Step = Env → Checked (Stmt × Env)

-- one after the other
abbrev pub in_turn : List Step → Env → Checked (List Stmt × Env)
in_turn [] env = Ok ([], env)
in_turn (step ∷ steps) env = step env >>= (λ first. in_turn steps first.1 >>= (λ rest. Ok (first.0 ∷ rest.0, rest.1)))

-- statements as one
abbrev pub as_one : List Stmt → Stmt
as_one [] = stmt.Empty
as_one (one ∷ []) = one
as_one (one ∷ two ∷ more) = stmt.Group (one ∷ two ∷ more)

-- ---- scopes (GLSL 4.50, 4.2.2)

abbrev pub opened : Env → Env
opened env = record env { names = [] ∷ env.names }

-- behind the end of the innermost scope; the outermost one has no end
abbrev pub ended : Scopes → Scopes
ended names = if nat_lt 1 (length names) then outer names else names

abbrev pub closed : Env → Env
closed env = record env { names = ended env.names }

-- in a scope of its own
abbrev pub scoped : Step → Step
scoped step env = step (opened env) >>= (λ done. Ok (done.0, closed done.1))
