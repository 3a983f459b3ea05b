-- Declarations among statements (GLSL 4.50, 4.1 and 4.3).
use Rattle.std.specs.Prelude.{List, [], map, Ok}
use Rattle.gsl_base.specs.Checked.{Checked, ◌>>=◌}
use Rattle.gsl_base.specs.declared.fault.Code.TheVariants.{E0701}
use Rattle.gsl_syntax.specs.declared.expr.TypeSpec.{TypeSpec}
use Rattle.gsl_syntax.specs.declared.declaration.Qual.{Qual}
use Rattle.gsl_syntax.specs.declared.declaration.Declarator.{Declarator}
use Rattle.gsl_syntax.specs.declared.declaration.Struct.{Struct}
use Rattle.gsl_syntax.specs.declared.declaration.Decl.{Decl}
use Rattle.gsl_syntax.specs.declared.declaration.Decl.TheVariants as decl
use Rattle.gsl_types.specs.declared.ty.Ty.TheVariants as ty
use Rattle.gsl_tree.specs.declared.stmt.Stmt.{Stmt}
use Rattle.gsl_typing.specs.Rows.{fault}
use Rattle.gsl_check_expr.specs.declared.env.Env.{Env}
use Rattle.gsl_check_expr.specs.declared.writing.Written.TheVariants.{Whole}
use Rattle.gsl_check_expr.specs.Written.{written_type}
use Rattle.gsl_check_decl.specs.Steps.{Step, in_turn, as_one}
use Rattle.gsl_check_decl.specs.Locals.{qualified, declarator}
use Rattle.gsl_check_decl.specs.Structs.{structured}

unfoldable pub variables : List Qual → TypeSpec → List Declarator → Env → Checked (List Stmt × Env)
variables quals t all env = qualified env quals >>= (λ fixed. written_type env t >>= (λ base. in_turn (map (declarator fixed base) all) env))

unfoldable pub struct_and_variables : List Qual → Struct → List Declarator → Env → Checked (List Stmt × Env)
struct_and_variables quals s all env = qualified env quals
    >>= (λ fixed. structured s env >>= (λ done. in_turn (map (declarator fixed (Whole (ty.Struct done.0))) all) done.1))

-- No block stands among statements.
unfoldable pub declared_by : Decl → Env → Checked (List Stmt × Env)
declared_by (decl.Variables quals t all) env = variables quals t all env
declared_by (decl.Struct quals s all) env = struct_and_variables quals s all env
declared_by (decl.Block quals name members instance) env = qualified env quals >>= (λ fixed. fault name.place E0701)
declared_by (decl.Quals quals) env = qualified env quals >>= (λ fixed. Ok ([], env))

-- A declaration: its qualifiers, its type or struct, and then its variables from left to right.
unfoldable pub declaration : Decl → Step
declaration d env = declared_by d env >>= (λ done. Ok (as_one done.0, done.1))
