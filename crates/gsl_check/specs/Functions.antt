-- Functions and their prototypes (GLSL 4.50, 6.1). The header of a function is a node of its own, before its body.
use Rattle.std.specs.Prelude.{false, List, [], ◌∷◌, ◌++◌, Ok}
use Rattle.gsl_base.specs.Checked.{Checked, ◌>>=◌}
use Rattle.gsl_syntax.specs.declared.declaration.Name.{Name}
use Rattle.gsl_syntax.specs.declared.statement.Stmt.{Stmt as Statement}
use Rattle.gsl_syntax.specs.declared.statement.Body.{Body}
use Rattle.gsl_syntax.specs.declared.statement.Body.TheVariants as body_of
use Rattle.gsl_syntax.specs.declared.statement.Function.{Function as FunctionTree}
use Rattle.gsl_tree.specs.declared.unit.Function.{Function}
use Rattle.gsl_check_expr.specs.declared.env.Env.{Env}
use Rattle.gsl_check_stmt.specs.declared.within.Within.{Within}
use Rattle.gsl_check_stmt.specs.Statements.{statements}
use Rattle.gsl_check_heads.specs.Heads.{Headed, header, entered, left}

-- ---- bodies

abbrev pub nowhere : Within
nowhere = record { breaks = false; continues = false; shared = false }

-- the function of a body, and what is declared behind it
abbrev pub bodied : Headed → Name → List Statement → Checked (Function × Env)
bodied h name body = statements h.result body nowhere (entered h)
    >>= (λ done. Ok (record { prototype = h.number; locals = done.1.scene.locals; body = done.0; place = name.place }, left h.env done.1))

-- the functions with the one of a body, if there is one
abbrev pub with_body : Headed → List Function → Name → Body → Checked (List Function × Env)
with_body h functions name (body_of.Prototype place) = Ok (functions, h.env)
with_body h functions name (body_of.Block place body) = bodied h name body >>= (λ done. Ok (functions ++ done.0 ∷ [], done.1))

-- A function or a prototype: the functions with it, and what is declared behind it.
unfoldable pub function : FunctionTree → List Function → Env → Checked (List Function × Env)
function f functions env = header env functions f >>= (λ h. with_body h functions f.name f.body)
