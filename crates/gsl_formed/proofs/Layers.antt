-- What is asked of syntax trees, by what stands at their top.
use Rattle.std.proofs.Common.{◌≡◌, ℕ, ◌^◌, Bool, true, ◌&&◌, nat_lt, List, map, Option}
use Rattle.gsl_base.specs.declared.fault.Place.{Place}
use Rattle.gsl_syntax.specs.declared.operator.BinaryOp.{BinaryOp}
use Rattle.gsl_syntax.specs.declared.operator.AssignOp.{AssignOp}
use Rattle.gsl_syntax.specs.declared.operator.UnaryOp.{UnaryOp}
use Rattle.gsl_syntax.specs.declared.operator.PostfixOp.{PostfixOp}
use Rattle.gsl_syntax.specs.declared.expr.Basic.{Basic}
use Rattle.gsl_syntax.specs.declared.expr.Expr.{Expr}
use Rattle.gsl_syntax.specs.declared.expr.Expr.TheVariants as e
use Rattle.gsl_syntax.specs.declared.expr.TypeSpec.{TypeSpec}
use Rattle.gsl_syntax.specs.declared.expr.TypeSpec.TheVariants as ty
use Rattle.gsl_syntax.specs.declared.expr.Dim.{Dim}
use Rattle.gsl_syntax.specs.declared.expr.Dim.TheVariants as dim
use Rattle.gsl_syntax.specs.declared.declaration.Decl.{Decl}
use Rattle.gsl_syntax.specs.declared.declaration.Init.{Init}
use Rattle.gsl_syntax.specs.declared.declaration.Init.TheVariants as init
use Rattle.gsl_syntax.specs.declared.statement.ForInit.{ForInit}
use Rattle.gsl_syntax.specs.declared.statement.Stmt.{Stmt}
use Rattle.gsl_syntax.specs.declared.statement.Stmt.TheVariants as s
use Rattle.gsl_formed.specs.Formed.{all_formed, some_formed, dim_formed_by, spec_formed_by, formed_by, is_formed, spec_formed, dim_formed, init_formed_by, init_formed, decl_formed, init_part_formed, formed_if, stmt_formed_by, stmt_formed}
use Rattle.gsl_formed.proofs.Folds as at

abbrev pub further_list : List (Place × Expr) → List (Place × Bool)
further_list bs = map (λ (n : Place × Expr). (n.0, is_formed n.1)) bs

pub at_Name : (p : Place) (n : List ℕ) → is_formed (e.Name p n) ≡ true
unfolding is_formed spec_formed dim_formed
at_Name p n = at.at-Name Bool Bool Bool dim_formed_by formed_by spec_formed_by p n

pub at_Signed : (p : Place) (n : ℕ) → is_formed (e.Signed p n) ≡ nat_lt n (2 ^ 32)
unfolding is_formed spec_formed dim_formed
at_Signed p n = at.at-Signed Bool Bool Bool dim_formed_by formed_by spec_formed_by p n

pub at_Unsigned : (p : Place) (n : ℕ) → is_formed (e.Unsigned p n) ≡ nat_lt n (2 ^ 32)
unfolding is_formed spec_formed dim_formed
at_Unsigned p n = at.at-Unsigned Bool Bool Bool dim_formed_by formed_by spec_formed_by p n

pub at_Bool : (p : Place) (b : Bool) → is_formed (e.Bool p b) ≡ true
unfolding is_formed spec_formed dim_formed
at_Bool p b = at.at-Bool Bool Bool Bool dim_formed_by formed_by spec_formed_by p b

pub at_Paren : (p : Place) (a : Expr) → is_formed (e.Paren p a) ≡ is_formed a
unfolding is_formed spec_formed dim_formed
at_Paren p a = at.at-Paren Bool Bool Bool dim_formed_by formed_by spec_formed_by p a

pub at_CallVoid : (t : TypeSpec) → is_formed (e.CallVoid t) ≡ spec_formed t
unfolding is_formed spec_formed dim_formed
at_CallVoid t = at.at-CallVoid Bool Bool Bool dim_formed_by formed_by spec_formed_by t

pub at_Call : (t : TypeSpec) (bs : List Expr) → is_formed (e.Call t bs) ≡ (spec_formed t && all_formed (map is_formed bs))
unfolding is_formed spec_formed dim_formed
at_Call t bs = at.at-Call Bool Bool Bool dim_formed_by formed_by spec_formed_by t bs

pub at_Index : (p : Place) (a b : Expr) → is_formed (e.Index p a b) ≡ (is_formed a && is_formed b)
unfolding is_formed spec_formed dim_formed
at_Index p a b = at.at-Index Bool Bool Bool dim_formed_by formed_by spec_formed_by p a b

pub at_Member : (p : Place) (a : Expr) (n : List ℕ) → is_formed (e.Member p a n) ≡ is_formed a
unfolding is_formed spec_formed dim_formed
at_Member p a n = at.at-Member Bool Bool Bool dim_formed_by formed_by spec_formed_by p a n

pub at_Method : (p : Place) (a : Expr) (n : List ℕ) → is_formed (e.Method p a n) ≡ is_formed a
unfolding is_formed spec_formed dim_formed
at_Method p a n = at.at-Method Bool Bool Bool dim_formed_by formed_by spec_formed_by p a n

pub at_Postfix : (p : Place) (o : PostfixOp) (a : Expr) → is_formed (e.Postfix p o a) ≡ is_formed a
unfolding is_formed spec_formed dim_formed
at_Postfix p o a = at.at-Postfix Bool Bool Bool dim_formed_by formed_by spec_formed_by p o a

pub at_Unary : (p : Place) (o : UnaryOp) (a : Expr) → is_formed (e.Unary p o a) ≡ is_formed a
unfolding is_formed spec_formed dim_formed
at_Unary p o a = at.at-Unary Bool Bool Bool dim_formed_by formed_by spec_formed_by p o a

pub at_Binary : (p : Place) (o : BinaryOp) (a b : Expr) → is_formed (e.Binary p o a b) ≡ (is_formed a && is_formed b)
unfolding is_formed spec_formed dim_formed
at_Binary p o a b = at.at-Binary Bool Bool Bool dim_formed_by formed_by spec_formed_by p o a b

pub at_Conditional : (p : Place) (a b c : Expr) → is_formed (e.Conditional p a b c) ≡ (is_formed a && (is_formed b && is_formed c))
unfolding is_formed spec_formed dim_formed
at_Conditional p a b c = at.at-Conditional Bool Bool Bool dim_formed_by formed_by spec_formed_by p a b c

pub at_Assign : (p : Place) (o : AssignOp) (a b : Expr) → is_formed (e.Assign p o a b) ≡ (is_formed a && is_formed b)
unfolding is_formed spec_formed dim_formed
at_Assign p o a b = at.at-Assign Bool Bool Bool dim_formed_by formed_by spec_formed_by p o a b

pub at_Sequence : (a : Expr) (bs : List (Place × Expr)) → is_formed (e.Sequence a bs) ≡ (is_formed a && some_formed (further_list bs))
unfolding is_formed spec_formed dim_formed
at_Sequence a bs = at.at-Sequence Bool Bool Bool dim_formed_by formed_by spec_formed_by a bs

pub spec_Basic : (p : Place) (b : Basic) (ds : List Dim) → spec_formed (ty.Basic p b ds) ≡ all_formed (map dim_formed ds)
unfolding is_formed spec_formed dim_formed
spec_Basic p b ds = at.at-Basic Bool Bool Bool dim_formed_by formed_by spec_formed_by p b ds

pub spec_Named : (p : Place) (n : List ℕ) (ds : List Dim) → spec_formed (ty.Named p n ds) ≡ all_formed (map dim_formed ds)
unfolding is_formed spec_formed dim_formed
spec_Named p n ds = at.at-Named Bool Bool Bool dim_formed_by formed_by spec_formed_by p n ds

pub dim_Open : (p : Place) → dim_formed (dim.Open p) ≡ true
unfolding is_formed spec_formed dim_formed
dim_Open p = at.at-Open Bool Bool Bool dim_formed_by formed_by spec_formed_by p

pub dim_Sized : (p : Place) (a : Expr) → dim_formed (dim.Sized p a) ≡ is_formed a
unfolding is_formed spec_formed dim_formed
dim_Sized p a = at.at-Sized Bool Bool Bool dim_formed_by formed_by spec_formed_by p a

pub init_Expr : (a : Expr) → init_formed (init.Expr a) ≡ is_formed a
unfolding init_formed
init_Expr a = at.init-Expr Bool init_formed_by a

pub init_Braces : (p : Place) (bs : List Init) → init_formed (init.Braces p bs) ≡ all_formed (map init_formed bs)
unfolding init_formed
init_Braces p bs = at.init-Braces Bool init_formed_by p bs

pub stmt_Empty : (p : Place) → stmt_formed (s.Empty p) ≡ true
unfolding stmt_formed
stmt_Empty p = at.stmt-Empty Bool stmt_formed_by p

pub stmt_Block : (p : Place) (bs : List Stmt) → stmt_formed (s.Block p bs) ≡ all_formed (map stmt_formed bs)
unfolding stmt_formed
stmt_Block p bs = at.stmt-Block Bool stmt_formed_by p bs

pub stmt_Decl : (d : Decl) → stmt_formed (s.Decl d) ≡ decl_formed d
unfolding stmt_formed
stmt_Decl d = at.stmt-Decl Bool stmt_formed_by d

pub stmt_Expr : (a : Expr) → stmt_formed (s.Expr a) ≡ is_formed a
unfolding stmt_formed
stmt_Expr a = at.stmt-Expr Bool stmt_formed_by a

pub stmt_If : (p : Place) (a : Expr) (b : Stmt) → stmt_formed (s.If p a b) ≡ (is_formed a && stmt_formed b)
unfolding stmt_formed
stmt_If p a b = at.stmt-If Bool stmt_formed_by p a b

pub stmt_IfElse : (p : Place) (a : Expr) (b d : Stmt) → stmt_formed (s.IfElse p a b d) ≡ (is_formed a && (stmt_formed b && stmt_formed d))
unfolding stmt_formed
stmt_IfElse p a b d = at.stmt-IfElse Bool stmt_formed_by p a b d

pub stmt_Switch : (p : Place) (a : Expr) (bs : List Stmt) → stmt_formed (s.Switch p a bs) ≡ (is_formed a && all_formed (map stmt_formed bs))
unfolding stmt_formed
stmt_Switch p a bs = at.stmt-Switch Bool stmt_formed_by p a bs

pub stmt_Case : (p : Place) (a : Expr) → stmt_formed (s.Case p a) ≡ is_formed a
unfolding stmt_formed
stmt_Case p a = at.stmt-Case Bool stmt_formed_by p a

pub stmt_Default : (p : Place) → stmt_formed (s.Default p) ≡ true
unfolding stmt_formed
stmt_Default p = at.stmt-Default Bool stmt_formed_by p

pub stmt_While : (p : Place) (a : Expr) (b : Stmt) → stmt_formed (s.While p a b) ≡ (is_formed a && stmt_formed b)
unfolding stmt_formed
stmt_While p a b = at.stmt-While Bool stmt_formed_by p a b

pub stmt_Do : (p : Place) (b : Stmt) (a : Expr) → stmt_formed (s.Do p b a) ≡ (stmt_formed b && is_formed a)
unfolding stmt_formed
stmt_Do p b a = at.stmt-Do Bool stmt_formed_by p b a

pub stmt_For : (p : Place) (i : ForInit) (a b : Option Expr) (d : Stmt) → stmt_formed (s.For p i a b d) ≡ (init_part_formed i && (formed_if a && (formed_if b && stmt_formed d)))
unfolding stmt_formed
stmt_For p i a b d = at.stmt-For Bool stmt_formed_by p i a b d

pub stmt_Break : (p : Place) → stmt_formed (s.Break p) ≡ true
unfolding stmt_formed
stmt_Break p = at.stmt-Break Bool stmt_formed_by p

pub stmt_Continue : (p : Place) → stmt_formed (s.Continue p) ≡ true
unfolding stmt_formed
stmt_Continue p = at.stmt-Continue Bool stmt_formed_by p

pub stmt_Discard : (p : Place) → stmt_formed (s.Discard p) ≡ true
unfolding stmt_formed
stmt_Discard p = at.stmt-Discard Bool stmt_formed_by p

pub stmt_Return : (p : Place) → stmt_formed (s.Return p) ≡ true
unfolding stmt_formed
stmt_Return p = at.stmt-Return Bool stmt_formed_by p

pub stmt_ReturnValue : (p : Place) (a : Expr) → stmt_formed (s.ReturnValue p a) ≡ is_formed a
unfolding stmt_formed
stmt_ReturnValue p a = at.stmt-ReturnValue Bool stmt_formed_by p a
