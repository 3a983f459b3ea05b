-- How the code reads, and not the rule, which stands in `Sentences.antt` of `gsl_syntax`.
-- Reading functions, blocks and whole units.
use Rattle.std.specs.Prelude.{ℕ, Bool, true, false, ◌&&◌, List, [], ◌∷◌, Option, Some, None, Ok, if◌then◌else◌}
use Rattle.gsl_base.specs.declared.token.Punct.TheVariants as punct
use Rattle.gsl_base.specs.declared.token.Key.TheVariants as key
use Rattle.gsl_syntax.specs.declared.expr.TypeSpec.{TypeSpec}
use Rattle.gsl_syntax.specs.declared.declaration.Name.{Name}
use Rattle.gsl_syntax.specs.declared.declaration.Qual.{Qual}
use Rattle.gsl_syntax.specs.declared.declaration.Member.{Member}
use Rattle.gsl_syntax.specs.declared.declaration.Decl.{Decl}
use Rattle.gsl_syntax.specs.declared.declaration.Decl.TheVariants as decl
use Rattle.gsl_syntax.specs.declared.statement.Param.{Param}
use Rattle.gsl_syntax.specs.declared.statement.Param.TheVariants as param
use Rattle.gsl_syntax.specs.declared.statement.Params.{Params}
use Rattle.gsl_syntax.specs.declared.statement.Params.TheVariants as params
use Rattle.gsl_syntax.specs.declared.statement.Body.{Body}
use Rattle.gsl_syntax.specs.declared.statement.Body.TheVariants as body
use Rattle.gsl_syntax.specs.declared.statement.Function.{Function}
use Rattle.gsl_syntax.specs.declared.statement.Global.{Global}
use Rattle.gsl_syntax.specs.declared.statement.Global.TheVariants as global
use Rattle.gsl_expr.specs.Reading.{Tokens, Parser, ◌>>=◌, pure, take_one, sees, sees_key, expect, name}
use Rattle.gsl_expr.specs.Expressions.{expr, dims, void_alone}
use Rattle.gsl_parse.specs.Lists.{row_of, some_of, further_of, commas_of}
use Rattle.gsl_expr.specs.Names.{sees_name}
use Rattle.gsl_parse.specs.Qualifiers.{qualifiers, typed}
use Rattle.gsl_parse.specs.Variables.{open_brace, member, declarator_from, declarator_at, struct_variables}
use Rattle.gsl_parse.specs.Statements.{statements_of, statement}

-- a parameter, behind its type
unfoldable pub parameter_from : ℕ → List Qual → TypeSpec → Parser Param
parameter_from d qs t ts = if sees_name ts then (name >>= λ n. dims (expr d) >>= λ ds. pure (param.Named qs t n ds)) ts else Ok (param.Unnamed qs t, ts)

unfoldable pub parameter : ℕ → Parser Param
parameter d = qualifiers d >>= λ qs. typed d >>= parameter_from d qs

abbrev pub listed_parameters : ℕ → Parser Params
listed_parameters d = commas_of (parameter d) >>= λ ps. expect punct.RightParen >>= λ _. pure (params.Items ps)

-- parameters, with the parenthesis that closes them
unfoldable pub parameters : ℕ → Parser Params
parameters d ts =
    if sees punct.RightParen ts then (take_one >>= λ _. pure (params.Items [])) ts
    else if void_alone ts then (take_one >>= λ p. take_one >>= λ _. pure (params.Void p)) ts
    else listed_parameters d ts

-- what follows the parameters of a function
unfoldable pub function_body : ℕ → Parser Body
function_body d ts =
    if sees punct.Semicolon ts then (take_one >>= λ p. pure (body.Prototype p)) ts
    else (expect punct.LeftBrace >>= λ p. statements_of (statement d) >>= λ bs. pure (body.Block p bs)) ts

-- a function, behind its parameters
abbrev pub function_end : ℕ → List Qual → TypeSpec → Name → Params → Parser Function
function_end d qs t n ps = function_body d >>= λ b. pure (record { quals = qs; ty = t; name = n; params = ps; body = b })

-- a function, behind its name
unfoldable pub function_from : ℕ → List Qual → TypeSpec → Name → Parser Function
function_from d qs t n = take_one >>= λ _. parameters d >>= λ ps. function_end d qs t n ps

-- variables, behind the first name
unfoldable pub variables_from : ℕ → List Qual → TypeSpec → Name → Parser Decl
variables_from d qs t n = declarator_from d n >>= further_of (declarator_at d) >>= λ ds. expect punct.Semicolon >>= λ _. pure (decl.Variables qs t ds)

-- a function or variables, behind the first name
unfoldable pub named_from : ℕ → List Qual → TypeSpec → Name → Parser Global
named_from d qs t n ts = if sees punct.LeftParen ts then (function_from d qs t n >>= λ f. pure (global.Function f)) ts else (variables_from d qs t n >>= λ x. pure (global.Decl x)) ts

-- the name of a block's instance, or none
unfoldable pub instance : Parser (Option Name)
instance ts = if sees_name ts then (name >>= λ n. pure (Some n)) ts else Ok (None, ts)

-- a block, behind the name of its instance
abbrev pub block_close : List Qual → Name → List Member → Option Name → Parser Decl
block_close qs n ms i = expect punct.Semicolon >>= λ _. pure (decl.Block qs n ms i)

-- a block, behind its members
abbrev pub block_end : List Qual → Name → List Member → Parser Decl
block_end qs n ms = expect punct.RightBrace >>= λ _. instance >>= λ i. block_close qs n ms i

-- a block, behind its qualifiers
unfoldable pub block : ℕ → List Qual → Parser Decl
block d qs = name >>= λ n. expect punct.LeftBrace >>= λ _. some_of open_brace (member d) >>= λ ms. block_end qs n ms

abbrev pub brace_behind : Tokens → Bool
brace_behind [] = false
brace_behind (t ∷ ts) = sees punct.LeftBrace ts

-- whether a name and a brace stand next
unfoldable pub opens_block : Tokens → Bool
opens_block ts = sees_name ts && brace_behind ts

abbrev pub any_qual : List Qual → Bool
any_qual [] = false
any_qual (q ∷ qs) = true

abbrev pub struct_at_top : ℕ → List Qual → Parser Global
struct_at_top d qs = struct_variables d qs >>= λ x. pure (global.Decl x)

abbrev pub quals_alone : List Qual → Parser Global
quals_alone qs = take_one >>= λ _. pure (global.Decl (decl.Quals qs))

abbrev pub block_at_top : ℕ → List Qual → Parser Global
block_at_top d qs = block d qs >>= λ x. pure (global.Decl x)

abbrev pub typed_at_top : ℕ → List Qual → Parser Global
typed_at_top d qs = typed d >>= λ t. name >>= λ n. named_from d qs t n

-- behind the qualifiers, be there any or none
unfoldable pub global_from : ℕ → List Qual → Parser Global
global_from d qs ts =
    if sees_key key.Struct ts then struct_at_top d qs ts
    else if any_qual qs && sees punct.Semicolon ts then quals_alone qs ts
    else if any_qual qs && opens_block ts then block_at_top d qs ts
    else typed_at_top d qs ts

unfoldable pub global_at : ℕ → Parser Global
global_at d ts = if sees punct.Semicolon ts then (take_one >>= λ p. pure (global.Empty p)) ts else (qualifiers d >>= global_from d) ts

abbrev pub some_left : Tokens → Bool
some_left [] = false
some_left (t ∷ ts) = true

-- all of the tokens
unfoldable pub globals : ℕ → Parser (List Global)
globals d = row_of some_left (global_at d)
