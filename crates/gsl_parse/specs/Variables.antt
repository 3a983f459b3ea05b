-- How the code reads, and not the rule, which stands in `Declarations.antt` of `gsl_syntax`.
-- Reading declared names, initialisers, structs and variables.
use Rattle.std.specs.Prelude.{ℕ, zero, suc, Bool, false, not, ◌&&◌, List, [], ◌∷◌, ◌++◌, length, Ok, if◌then◌else◌}
use Rattle.gsl_base.specs.declared.token.Punct.TheVariants as punct
use Rattle.gsl_base.specs.declared.token.Key.TheVariants as key
use Rattle.gsl_syntax.specs.declared.expr.TypeSpec.{TypeSpec}
use Rattle.gsl_syntax.specs.declared.expr.Dim.{Dim}
use Rattle.gsl_syntax.specs.declared.declaration.Name.{Name}
use Rattle.gsl_syntax.specs.declared.declaration.Qual.{Qual}
use Rattle.gsl_syntax.specs.declared.declaration.Declared.{Declared}
use Rattle.gsl_syntax.specs.declared.declaration.Init.{Init}
use Rattle.gsl_syntax.specs.declared.declaration.Init.TheVariants as init
use Rattle.gsl_syntax.specs.declared.declaration.Declarator.{Declarator}
use Rattle.gsl_syntax.specs.declared.declaration.Declarator.TheVariants as declarator
use Rattle.gsl_syntax.specs.declared.declaration.StructMember.{StructMember}
use Rattle.gsl_syntax.specs.declared.declaration.Struct.{Struct}
use Rattle.gsl_syntax.specs.declared.declaration.Member.{Member}
use Rattle.gsl_syntax.specs.declared.declaration.Decl.{Decl}
use Rattle.gsl_syntax.specs.declared.declaration.Decl.TheVariants as decl
use Rattle.gsl_syntax.specs.declared.statement.ForInit.{ForInit}
use Rattle.gsl_syntax.specs.declared.statement.ForInit.TheVariants as for_init
use Rattle.gsl_expr.specs.declared.rule.Head.{Head}
use Rattle.gsl_expr.specs.declared.rule.Start.{Start}
use Rattle.gsl_expr.specs.declared.rule.Start.TheVariants as start
use Rattle.gsl_expr.specs.Rules.{start_at}
use Rattle.gsl_expr.specs.Reading.{Tokens, Parser, and_then, ◌>>=◌, pure, fail, take_one, sees, sees_key, expect, name}
use Rattle.gsl_expr.specs.Expressions.{expr, dims, basic_head, named_head, head_type, may_be_open, applied, completed}
use Rattle.gsl_parse.specs.Lists.{some_of, commas_of}
use Rattle.gsl_expr.specs.Names.{sees_name}
use Rattle.gsl_parse.specs.Qualifiers.{begins_qual, qualifiers, typed}

-- a name with its brackets
unfoldable pub declared : ℕ → Parser Declared
declared d = name >>= λ n. dims (expr d) >>= λ ds. pure (record { name = n; dims = ds })

-- behind one of several initialisers in braces
abbrev pub listed : Parser (List Init) → List Init → Parser (List Init)
listed go found ts = if sees punct.RightBrace ts then (take_one >>= λ _. pure found) ts else go ts

-- initialisers, with the brace that closes them
unfoldable pub initialisers : Parser Init → ℕ → List Init → Parser (List Init)
initialisers next zero found = fail
initialisers next (suc n) found = next >>= λ a ts.
    if sees punct.Comma ts then (take_one >>= λ _. listed (initialisers next n (found ++ a ∷ [])) (found ++ a ∷ [])) ts
    else (expect punct.RightBrace >>= λ _. pure (found ++ a ∷ [])) ts

abbrev pub braces : Parser Init → Parser Init
braces next = take_one >>= λ p ts. and_then (initialisers next (length ts) [] ts) (λ is. pure (init.Braces p is))

-- an initialiser, with braces nested no deeper than the second number
unfoldable pub initialiser : ℕ → ℕ → Parser Init
initialiser d zero = fail
initialiser d (suc n) = λ ts. if sees punct.LeftBrace ts then braces (initialiser d n) ts else (expr d 1 >>= λ a. pure (init.Expr a)) ts

abbrev pub initialised : ℕ → Name → List Dim → Parser Declarator
initialised d n ds ts = if sees punct.Equal ts then (take_one >>= λ _. initialiser d d >>= λ i. pure (declarator.Initialised n ds i)) ts else Ok (declarator.Plain n ds, ts)

-- a declarator, behind its name
unfoldable pub declarator_from : ℕ → Name → Parser Declarator
declarator_from d n = dims (expr d) >>= initialised d n

unfoldable pub declarator_at : ℕ → Parser Declarator
declarator_at d = name >>= declarator_from d

-- whether something stands before the brace that closes
unfoldable pub open_brace : Tokens → Bool
open_brace [] = false
open_brace (t ∷ ts) = not (sees punct.RightBrace (t ∷ ts))

-- members of one type in a struct
unfoldable pub struct_member : ℕ → Parser StructMember
struct_member d = typed d >>= λ t. commas_of (declared d) >>= λ ns. expect punct.Semicolon >>= λ _. pure (record { ty = t; names = ns })

-- a struct, with its word
unfoldable pub structure : ℕ → Parser Struct
structure d = take_one >>= λ p. name >>= λ n. expect punct.LeftBrace >>= λ _. some_of open_brace (struct_member d) >>= λ ms. expect punct.RightBrace >>= λ _. pure (record { place = p; name = n; members = ms })

-- members of one type in a block
unfoldable pub member : ℕ → Parser Member
member d = qualifiers d >>= λ qs. typed d >>= λ t. commas_of (declared d) >>= λ ns. expect punct.Semicolon >>= λ _. pure (record { quals = qs; ty = t; names = ns })

-- none up to a semicolon, or one or more
unfoldable pub declarators : ℕ → Parser (List Declarator)
declarators d ts = if sees punct.Semicolon ts then Ok ([], ts) else commas_of (declarator_at d) ts

-- variables, behind their type
unfoldable pub variables_of : ℕ → List Qual → TypeSpec → Parser Decl
variables_of d qs t = commas_of (declarator_at d) >>= λ ds. expect punct.Semicolon >>= λ _. pure (decl.Variables qs t ds)

-- variables, behind their qualifiers
unfoldable pub variables : ℕ → List Qual → Parser Decl
variables d qs = typed d >>= variables_of d qs

-- a struct and its variables, behind its qualifiers
unfoldable pub struct_variables : ℕ → List Qual → Parser Decl
struct_variables d qs = structure d >>= λ s. declarators d >>= λ ds. expect punct.Semicolon >>= λ _. pure (decl.Struct qs s ds)

-- a declaration among statements, behind its qualifiers
unfoldable pub local_from : ℕ → List Qual → Parser Decl
local_from d qs ts = if sees_key key.Struct ts then struct_variables d qs ts else variables d qs ts

-- an expression with its semicolon, behind the head that it begins with
abbrev pub expr_from : ℕ → Head → Parser ForInit
expr_from d h = applied (expr d) h >>= completed (expr d) 0 >>= λ a. expect punct.Semicolon >>= λ _. pure (for_init.Expr a)

-- behind a head: variables where a name stands next, else an expression
unfoldable pub phrase_from : ℕ → Head → Parser ForInit
phrase_from d h ts = if sees_name ts && may_be_open h.mode then (variables_of d [] (head_type h) >>= λ x. pure (for_init.Decl x)) ts else expr_from d h ts

abbrev pub phrase_as : ℕ → Start → Parser ForInit
phrase_as d start.Name = named_head (expr d) >>= phrase_from d
phrase_as d (start.Basic b) = basic_head (expr d) b >>= phrase_from d
phrase_as d _ = expr d 0 >>= λ a. expect punct.Semicolon >>= λ _. pure (for_init.Expr a)

-- an expression, or variables without qualifiers, with the semicolon
unfoldable pub phrase : ℕ → Parser ForInit
phrase d ts = phrase_as d (start_at ts) ts

-- what stands first in the header of a `for`
unfoldable pub header : ℕ → Parser ForInit
header d ts =
    if sees punct.Semicolon ts then (take_one >>= λ p. pure (for_init.Empty p)) ts
    else if begins_qual ts then (qualifiers d >>= variables d >>= λ x. pure (for_init.Decl x)) ts
    else phrase d ts
