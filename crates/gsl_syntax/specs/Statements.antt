-- Which tokens stand for which statement (GLSL 4.50, 6 and 9).
use Rattle.std.specs.Prelude.{Bool, true, false, List, [], ◌∷◌, ◌++◌, Option, Some, None}
use Rattle.gsl_base.specs.declared.fault.Place.{Place}
use Rattle.gsl_base.specs.declared.token.Punct.TheVariants as punct
use Rattle.gsl_base.specs.declared.token.Key.TheVariants as key
use Rattle.gsl_syntax.specs.declared.expr.Expr.{Expr}
use Rattle.gsl_syntax.specs.declared.declaration.Decl.{Decl}
use Rattle.gsl_syntax.specs.declared.statement.ForInit.{ForInit}
use Rattle.gsl_syntax.specs.declared.statement.ForInit.TheVariants as for_init
use Rattle.gsl_syntax.specs.declared.statement.Stmt.{Stmt}
use Rattle.gsl_syntax.specs.declared.statement.Stmt.TheVariants as s
use Rattle.gsl_syntax.specs.Phrases.{Tokens, sign, word, IsExpr}
use Rattle.gsl_syntax.specs.Declarations.{IsVariables, IsLocal}

-- what stands first in the header of a `for`, with its semicolon
pub data IsForInit : ForInit → Tokens → Type 0 where
  empty : {p : Place} → IsForInit (for_init.Empty p) (sign p punct.Semicolon ∷ [])
  expr : {a : Expr} {xs : Tokens} (q : Place) → IsExpr 0 a xs → IsForInit (for_init.Expr a) (xs ++ sign q punct.Semicolon ∷ [])
  decl : {d : Decl} {xs : Tokens} → IsVariables d xs → IsForInit (for_init.Decl d) xs

-- an expression, or none
pub data IsOptional : Option Expr → Tokens → Type 0 where
  none : IsOptional None []
  some : {a : Expr} {xs : Tokens} → IsExpr 0 a xs → IsOptional (Some a) xs

-- IsStmt true: a statement that does not end in an `if` without `else`, so that an `else` behind it belongs to no `if` in it. IsStmt false: any statement.
mutual
  pub data IsStmt : Bool → Stmt → Tokens → Type 0 where
    empty : {k : Bool} {p : Place} → IsStmt k (s.Empty p) (sign p punct.Semicolon ∷ [])
    block : {k : Bool} {p : Place} {bs : List Stmt} {xs : Tokens} (q : Place) → IsStmts bs xs → IsStmt k (s.Block p bs) (sign p punct.LeftBrace ∷ (xs ++ sign q punct.RightBrace ∷ []))
    decl : {k : Bool} {d : Decl} {xs : Tokens} → IsLocal d xs → IsStmt k (s.Decl d) xs
    expr : {k : Bool} {a : Expr} {xs : Tokens} (q : Place) → IsExpr 0 a xs → IsStmt k (s.Expr a) (xs ++ sign q punct.Semicolon ∷ [])
    if_alone : {p : Place} {a : Expr} {b : Stmt} {xs ys : Tokens} (o c : Place) → IsExpr 0 a xs → IsStmt false b ys
        → IsStmt false (s.If p a b) (word p key.If ∷ (sign o punct.LeftParen ∷ (xs ++ sign c punct.RightParen ∷ ys)))
    if_else : {k : Bool} {p : Place} {a : Expr} {b d : Stmt} {xs ys zs : Tokens} (o c m : Place) → IsExpr 0 a xs → IsStmt true b ys → IsStmt k d zs
        → IsStmt k (s.IfElse p a b d) (word p key.If ∷ (sign o punct.LeftParen ∷ (xs ++ sign c punct.RightParen ∷ (ys ++ word m key.Else ∷ zs))))
    switch : {k : Bool} {p : Place} {a : Expr} {bs : List Stmt} {xs ys : Tokens} (o c m q : Place) → IsExpr 0 a xs → IsStmts bs ys
        → IsStmt k (s.Switch p a bs) (word p key.Switch ∷ (sign o punct.LeftParen ∷ (xs ++ sign c punct.RightParen ∷ (sign m punct.LeftBrace ∷ (ys ++ sign q punct.RightBrace ∷ [])))))
    case : {k : Bool} {p : Place} {a : Expr} {xs : Tokens} (q : Place) → IsExpr 2 a xs → IsStmt k (s.Case p a) (word p key.Case ∷ (xs ++ sign q punct.Colon ∷ []))
    default : {k : Bool} {p : Place} (q : Place) → IsStmt k (s.Default p) (word p key.Default ∷ (sign q punct.Colon ∷ []))
    while : {k : Bool} {p : Place} {a : Expr} {b : Stmt} {xs ys : Tokens} (o c : Place) → IsExpr 0 a xs → IsStmt k b ys
        → IsStmt k (s.While p a b) (word p key.While ∷ (sign o punct.LeftParen ∷ (xs ++ sign c punct.RightParen ∷ ys)))
    do_while : {k : Bool} {p : Place} {a : Expr} {b : Stmt} {xs ys : Tokens} (w o c q : Place) → IsStmt false b xs → IsExpr 0 a ys
        → IsStmt k (s.Do p b a) (word p key.Do ∷ (xs ++ word w key.While ∷ (sign o punct.LeftParen ∷ (ys ++ sign c punct.RightParen ∷ (sign q punct.Semicolon ∷ [])))))
    for_loop : {k : Bool} {p : Place} {i : ForInit} {a b : Option Expr} {d : Stmt} {ws xs ys zs : Tokens} (o m c : Place) → IsForInit i ws → IsOptional a xs → IsOptional b ys → IsStmt k d zs
        → IsStmt k (s.For p i a b d) (word p key.For ∷ (sign o punct.LeftParen ∷ (ws ++ (xs ++ sign m punct.Semicolon ∷ (ys ++ sign c punct.RightParen ∷ zs)))))
    break_out : {k : Bool} {p : Place} (q : Place) → IsStmt k (s.Break p) (word p key.Break ∷ (sign q punct.Semicolon ∷ []))
    continue_on : {k : Bool} {p : Place} (q : Place) → IsStmt k (s.Continue p) (word p key.Continue ∷ (sign q punct.Semicolon ∷ []))
    discard : {k : Bool} {p : Place} (q : Place) → IsStmt k (s.Discard p) (word p key.Discard ∷ (sign q punct.Semicolon ∷ []))
    return_alone : {k : Bool} {p : Place} (q : Place) → IsStmt k (s.Return p) (word p key.Return ∷ (sign q punct.Semicolon ∷ []))
    return_value : {k : Bool} {p : Place} {a : Expr} {xs : Tokens} (q : Place) → IsExpr 0 a xs → IsStmt k (s.ReturnValue p a) (word p key.Return ∷ (xs ++ sign q punct.Semicolon ∷ []))

  -- any number, one behind the other
  pub data IsStmts : List Stmt → Tokens → Type 0 where
    done : IsStmts [] []
    next : {a : Stmt} {bs : List Stmt} {xs ys : Tokens} → IsStmt false a xs → IsStmts bs ys → IsStmts (a ∷ bs) (xs ++ ys)
