-- Which syntax trees are as the grammar and the lexer give them: literals are words, commas join two at least, names are short and have no
-- zero byte, and blocks have members.
use Rattle.std.specs.Prelude.{ℕ, ◌^◌, Bool, true, false, ◌&&◌, nat_lt, nat_le, List, [], ◌∷◌, length, Option, Some, None, IsTrue}
use Rattle.std.specs.List.{list_all}
use Rattle.gsl_base.specs.declared.fault.Place.{Place}
use Rattle.gsl_syntax.specs.declared.expr.Expr.{Expr}
use Rattle.gsl_syntax.specs.declared.declaration.Name.{Name}
use Rattle.gsl_syntax.specs.declared.declaration.Declared.{Declared}
use Rattle.gsl_syntax.specs.declared.declaration.StructMember.{StructMember}
use Rattle.gsl_syntax.specs.declared.declaration.Struct.{Struct}
use Rattle.gsl_syntax.specs.declared.declaration.Member.{Member}
use Rattle.gsl_syntax.specs.declared.declaration.Declarator.{Declarator}
use Rattle.gsl_syntax.specs.declared.declaration.Declarator.TheVariants as declarator
use Rattle.gsl_syntax.specs.declared.declaration.Decl.{Decl}
use Rattle.gsl_syntax.specs.declared.declaration.Decl.TheVariants as decl
use Rattle.gsl_syntax.specs.declared.statement.ForInit.{ForInit}
use Rattle.gsl_syntax.specs.declared.statement.ForInit.TheVariants as for_init
use Rattle.gsl_syntax.specs.declared.statement.Function.{Function}
use Rattle.gsl_syntax.specs.declared.statement.Param.{Param}
use Rattle.gsl_syntax.specs.declared.statement.Param.TheVariants as param_of
use Rattle.gsl_syntax.specs.declared.statement.Params.{Params}
use Rattle.gsl_syntax.specs.declared.statement.Params.TheVariants as params_of
use Rattle.gsl_syntax.specs.declared.statement.Body.{Body}
use Rattle.gsl_syntax.specs.declared.statement.Body.TheVariants as body_of
use Rattle.gsl_syntax.specs.declared.statement.Global.{Global}
use Rattle.gsl_syntax.specs.declared.statement.Global.TheVariants as global
use Rattle.gsl_syntax.specs.declared.statement.Stmt.{Stmt}
use Rattle.gsl_syntax.specs.declared.statement.Stmt.TheOpen.{Stmt-F}
use Rattle.gsl_syntax.specs.declared.statement.Stmt.TheFolds.{fold-Stmt}
use Rattle.gsl_syntax.specs.declared.expr.Dim.{Dim}
use Rattle.gsl_syntax.specs.declared.expr.TypeSpec.{TypeSpec}
use Rattle.gsl_syntax.specs.declared.expr.Dim.TheOpen.{Expr-F, TypeSpec-F, Dim-F}
use Rattle.gsl_syntax.specs.declared.expr.Dim.TheFolds.{fold-Expr, fold-TypeSpec, fold-Dim}
use Rattle.gsl_syntax.specs.declared.declaration.Init.{Init}
use Rattle.gsl_syntax.specs.declared.declaration.Init.TheOpen.{Init-F}
use Rattle.gsl_syntax.specs.declared.declaration.Init.TheFolds.{fold-Init}
use Rattle.gsl_formed.specs.Nested.{IsShallow}

abbrev pub all_formed : List Bool → Bool
all_formed [] = true
all_formed (b ∷ bs) = b && all_formed bs

abbrev pub rest_formed : List (Place × Bool) → Bool
rest_formed [] = true
rest_formed (b ∷ bs) = b.1 && rest_formed bs

abbrev pub some_formed : List (Place × Bool) → Bool
some_formed [] = false
some_formed (b ∷ bs) = b.1 && rest_formed bs

abbrev pub dim_formed_by : Dim-F Bool Bool Bool → Bool
dim_formed_by (Dim-F.Open place) = true
dim_formed_by (Dim-F.Sized place e) = e

abbrev pub spec_formed_by : TypeSpec-F Bool Bool Bool → Bool
spec_formed_by (TypeSpec-F.Basic place basic dims) = all_formed dims
spec_formed_by (TypeSpec-F.Named place name dims) = all_formed dims

abbrev pub formed_by : Expr-F Bool Bool Bool → Bool
formed_by (Expr-F.Name place name) = true
formed_by (Expr-F.Signed place word) = nat_lt word (2 ^ 32)
formed_by (Expr-F.Unsigned place word) = nat_lt word (2 ^ 32)
formed_by (Expr-F.Bool place value) = true
formed_by (Expr-F.Paren place inner) = inner
formed_by (Expr-F.CallVoid callee) = callee
formed_by (Expr-F.Call callee args) = callee && all_formed args
formed_by (Expr-F.Index place a i) = a && i
formed_by (Expr-F.Member place a name) = a
formed_by (Expr-F.Method place a name) = a
formed_by (Expr-F.Postfix place op a) = a
formed_by (Expr-F.Unary place op a) = a
formed_by (Expr-F.Binary place op a b) = a && b
formed_by (Expr-F.Conditional place test a b) = test && (a && b)
formed_by (Expr-F.Assign place op a b) = a && b
formed_by (Expr-F.Sequence first rest) = first && some_formed rest

unfoldable pub is_formed : Expr → Bool
is_formed = fold-Expr Bool Bool Bool dim_formed_by formed_by spec_formed_by

-- types and brackets
unfoldable pub spec_formed : TypeSpec → Bool
spec_formed = fold-TypeSpec Bool Bool Bool dim_formed_by formed_by spec_formed_by

unfoldable pub dim_formed : Dim → Bool
dim_formed = fold-Dim Bool Bool Bool dim_formed_by formed_by spec_formed_by

abbrev pub dims_formed : List Dim → Bool
dims_formed dims = list_all dim_formed dims

abbrev pub IsFormed : Expr → Type 0
IsFormed e = IsTrue (is_formed e)

-- ---- initialisers

abbrev pub init_formed_by : Init-F Bool → Bool
init_formed_by (Init-F.Expr e) = is_formed e
init_formed_by (Init-F.Braces place items) = all_formed items

unfoldable pub init_formed : Init → Bool
init_formed = fold-Init Bool init_formed_by

abbrev pub IsFormedInit : Init → Type 0
IsFormedInit init = IsTrue (init_formed init)

-- ---- names

-- a name has at most 1,024 bytes and no zero byte
abbrev pub is_name : List ℕ → Bool
is_name name = nat_le (length name) 1024 && list_all (λ byte. nat_lt 0 byte) name

abbrev pub names_formed : List Declared → Bool
names_formed names = list_all (λ (one : Declared). is_name one.name.text && dims_formed one.dims) names

-- ---- declarations

abbrev pub has_some : {A : Type 0} → List A → Bool
has_some [] = false
has_some (x ∷ xs) = true

abbrev pub struct_line_formed : StructMember → Bool
struct_line_formed line = spec_formed line.ty && names_formed line.names

abbrev pub struct_formed : Struct → Bool
struct_formed s = is_name s.name.text && list_all struct_line_formed s.members

abbrev pub instance_formed : Option Name → Bool
instance_formed None = true
instance_formed (Some name) = is_name name.text

abbrev pub line_formed : Member → Bool
line_formed line = has_some line.names && (spec_formed line.ty && names_formed line.names)

-- a block has a line, and each line a name
abbrev pub lines_formed : List Member → Bool
lines_formed lines = has_some lines && list_all line_formed lines

abbrev pub declarator_formed : Declarator → Bool
declarator_formed (declarator.Plain name dims) = is_name name.text && dims_formed dims
declarator_formed (declarator.Initialised name dims init) = is_name name.text && (dims_formed dims && init_formed init)

abbrev pub declarators_formed : List Declarator → Bool
declarators_formed [] = true
declarators_formed (d ∷ all) = declarator_formed d && declarators_formed all

abbrev pub decl_formed : Decl → Bool
decl_formed (decl.Variables quals t all) = spec_formed t && declarators_formed all
decl_formed (decl.Struct quals s all) = struct_formed s && declarators_formed all
decl_formed (decl.Block quals name lines instance) = is_name name.text && (instance_formed instance && lines_formed lines)
decl_formed (decl.Quals quals) = true

-- ---- statements

abbrev pub init_part_formed : ForInit → Bool
init_part_formed (for_init.Empty place) = true
init_part_formed (for_init.Expr e) = is_formed e
init_part_formed (for_init.Decl d) = decl_formed d

abbrev pub formed_if : Option Expr → Bool
formed_if None = true
formed_if (Some e) = is_formed e

abbrev pub stmt_formed_by : Stmt-F Bool → Bool
stmt_formed_by (Stmt-F.Empty place) = true
stmt_formed_by (Stmt-F.Block place all) = all_formed all
stmt_formed_by (Stmt-F.Decl d) = decl_formed d
stmt_formed_by (Stmt-F.Expr e) = is_formed e
stmt_formed_by (Stmt-F.If place test body) = is_formed test && body
stmt_formed_by (Stmt-F.IfElse place test body other) = is_formed test && (body && other)
stmt_formed_by (Stmt-F.Switch place e all) = is_formed e && all_formed all
stmt_formed_by (Stmt-F.Case place e) = is_formed e
stmt_formed_by (Stmt-F.Default place) = true
stmt_formed_by (Stmt-F.While place test body) = is_formed test && body
stmt_formed_by (Stmt-F.Do place body test) = body && is_formed test
stmt_formed_by (Stmt-F.For place init test step body) = init_part_formed init && (formed_if test && (formed_if step && body))
stmt_formed_by (Stmt-F.Break place) = true
stmt_formed_by (Stmt-F.Continue place) = true
stmt_formed_by (Stmt-F.Discard place) = true
stmt_formed_by (Stmt-F.Return place) = true
stmt_formed_by (Stmt-F.ReturnValue place e) = is_formed e

unfoldable pub stmt_formed : Stmt → Bool
stmt_formed = fold-Stmt Bool stmt_formed_by

abbrev pub IsFormedStmt : Stmt → Type 0
IsFormedStmt s = IsTrue (stmt_formed s)

-- ---- units

abbrev pub param_formed : Param → Bool
param_formed (param_of.Unnamed quals t) = spec_formed t
param_formed (param_of.Named quals t name dims) = spec_formed t && dims_formed dims

abbrev pub params_formed : Params → Bool
params_formed (params_of.Items items) = list_all param_formed items
params_formed (params_of.Void place) = true

abbrev pub head_formed : Function → Bool
head_formed f = is_name f.name.text && (spec_formed f.ty && params_formed f.params)

abbrev pub body_formed : Body → Bool
body_formed (body_of.Prototype place) = true
body_formed (body_of.Block place all) = list_all stmt_formed all

abbrev pub global_formed : Global → Bool
global_formed (global.Empty place) = true
global_formed (global.Decl d) = decl_formed d
global_formed (global.Function f) = head_formed f && body_formed f.body

abbrev pub IsFormedUnit : List Global → Type 0
IsFormedUnit unit = IsTrue (list_all global_formed unit)

-- what holds of a unit that a parser gives
pub record IsParsed (unit : List Global) : Type 0 where
  pub formed : IsFormedUnit unit
  pub shallow : IsShallow unit
