-- Which tokens stand for which expression and for which type (GLSL 4.50, 5 and 9).
use Rattle.std.specs.Prelude.{◌≡◌, ℕ, ◌+◌, ◌≤◌, true, false, List, [], ◌∷◌, ◌++◌, Some}
use Rattle.gsl_base.specs.declared.fault.Place.{Place}
use Rattle.gsl_base.specs.declared.token.Punct.{Punct}
use Rattle.gsl_base.specs.declared.token.Punct.TheVariants as punct
use Rattle.gsl_base.specs.declared.token.Key.{Key}
use Rattle.gsl_base.specs.declared.token.Key.TheVariants as key
use Rattle.gsl_base.specs.declared.token.Kind.{Kind}
use Rattle.gsl_base.specs.declared.token.Kind.TheVariants as kind
use Rattle.gsl_base.specs.declared.token.Token.{Token}
use Rattle.gsl_syntax.specs.declared.expr.Basic.{Basic}
use Rattle.gsl_syntax.specs.declared.expr.Expr.{Expr}
use Rattle.gsl_syntax.specs.declared.expr.Expr.TheVariants as e
use Rattle.gsl_syntax.specs.declared.expr.TypeSpec.{TypeSpec as Ty}
use Rattle.gsl_syntax.specs.declared.expr.TypeSpec.TheVariants as ty
use Rattle.gsl_syntax.specs.declared.expr.Dim.{Dim}
use Rattle.gsl_syntax.specs.declared.expr.Dim.TheVariants as dim
use Rattle.gsl_syntax.specs.declared.operator.BinaryOp.{BinaryOp}
use Rattle.gsl_syntax.specs.declared.operator.AssignOp.{AssignOp}
use Rattle.gsl_syntax.specs.declared.operator.UnaryOp.{UnaryOp}
use Rattle.gsl_syntax.specs.declared.operator.PostfixOp.{PostfixOp}
use Rattle.gsl_syntax.specs.Operators.{binary_of, level_of, assign_of, unary_of, postfix_of, basic_of}

abbrev pub Tokens : Type 0
Tokens = List Token

-- a token at a place
abbrev pub token : Place → Kind → Token
token p k = record { place = p; kind = k }

-- a punctuator at a place
abbrev pub sign : Place → Punct → Token
sign p m = token p (kind.Punct m)

-- a keyword at a place
abbrev pub word : Place → Key → Token
word p w = token p (kind.Key w)

mutual
  -- IsExpr k a xs: the tokens xs stand for the expression a, and no operator outside brackets binds less tightly than k. So 0 is any expression, 1 an assignment or what binds tighter, 2 a condition or what binds tighter, 14 what an operator may stand before, 15 what may stand before brackets, `.`, `++` and `--`.
  pub data IsExpr : ℕ → Expr → Tokens → Type 0 where
    name : {k : ℕ} {p : Place} {n : List ℕ} → IsExpr k (e.Name p n) (token p (kind.Name n) ∷ [])
    signed : {k : ℕ} {p : Place} {n : ℕ} → IsExpr k (e.Signed p n) (token p (kind.Signed n) ∷ [])
    unsigned : {k : ℕ} {p : Place} {n : ℕ} → IsExpr k (e.Unsigned p n) (token p (kind.Unsigned n) ∷ [])
    truth : {k : ℕ} {p : Place} → IsExpr k (e.Bool p true) (word p key.True ∷ [])
    falsity : {k : ℕ} {p : Place} → IsExpr k (e.Bool p false) (word p key.False ∷ [])
    paren : {k : ℕ} {p : Place} {a : Expr} {xs : Tokens} (q : Place) → IsExpr 0 a xs → IsExpr k (e.Paren p a) (sign p punct.LeftParen ∷ (xs ++ sign q punct.RightParen ∷ []))
    call_void : {k : ℕ} {t : Ty} {xs : Tokens} (o v q : Place) → IsType t xs
        → IsExpr k (e.CallVoid t) (xs ++ sign o punct.LeftParen ∷ (word v key.Void ∷ (sign q punct.RightParen ∷ [])))
    call : {k : ℕ} {t : Ty} {bs : List Expr} {xs ys : Tokens} (o q : Place) → IsType t xs → IsArguments bs ys
        → IsExpr k (e.Call t bs) (xs ++ sign o punct.LeftParen ∷ (ys ++ sign q punct.RightParen ∷ []))
    index : {k : ℕ} {p : Place} {a b : Expr} {xs ys : Tokens} (q : Place) → k ≤ 15 → IsExpr 15 a xs → IsExpr 0 b ys
        → IsExpr k (e.Index p a b) (xs ++ sign p punct.LeftBracket ∷ (ys ++ sign q punct.RightBracket ∷ []))
    member : {k : ℕ} {p : Place} {a : Expr} {n : List ℕ} {xs : Tokens} (q : Place) → k ≤ 15 → IsExpr 15 a xs
        → IsExpr k (e.Member p a n) (xs ++ sign p punct.Dot ∷ (token q (kind.Name n) ∷ []))
    method : {k : ℕ} {p : Place} {a : Expr} {n : List ℕ} {xs : Tokens} (q o c : Place) → k ≤ 15 → IsExpr 15 a xs
        → IsExpr k (e.Method p a n) (xs ++ sign p punct.Dot ∷ (token q (kind.Name n) ∷ (sign o punct.LeftParen ∷ (sign c punct.RightParen ∷ []))))
    postfix : {k : ℕ} {p : Place} {o : PostfixOp} {a : Expr} {xs : Tokens} (m : Punct) → postfix_of m ≡ Some o → k ≤ 15 → IsExpr 15 a xs
        → IsExpr k (e.Postfix p o a) (xs ++ sign p m ∷ [])
    unary : {k : ℕ} {p : Place} {o : UnaryOp} {a : Expr} {xs : Tokens} (m : Punct) → unary_of m ≡ Some o → k ≤ 14 → IsExpr 14 a xs
        → IsExpr k (e.Unary p o a) (sign p m ∷ xs)
    binary : {k : ℕ} {p : Place} {o : BinaryOp} {a b : Expr} {xs ys : Tokens} (m : Punct) → binary_of m ≡ Some o → k ≤ level_of o
        → IsExpr (level_of o) a xs → IsExpr (level_of o + 1) b ys → IsExpr k (e.Binary p o a b) (xs ++ sign p m ∷ ys)
    conditional : {k : ℕ} {p : Place} {a b c : Expr} {xs ys zs : Tokens} (q : Place) → k ≤ 2 → IsExpr 3 a xs → IsExpr 0 b ys → IsExpr 1 c zs
        → IsExpr k (e.Conditional p a b c) (xs ++ sign p punct.Question ∷ (ys ++ sign q punct.Colon ∷ zs))
    assign : {k : ℕ} {p : Place} {o : AssignOp} {a b : Expr} {xs ys : Tokens} (m : Punct) → assign_of m ≡ Some o → k ≤ 1
        → IsExpr 14 a xs → IsExpr 1 b ys → IsExpr k (e.Assign p o a b) (xs ++ sign p m ∷ ys)
    sequence : {k : ℕ} {a : Expr} {bs : List (Place × Expr)} {xs ys : Tokens} → k ≤ 0 → IsExpr 1 a xs → IsFurther bs ys
        → IsExpr k (e.Sequence a bs) (xs ++ ys)

  -- one or more, each after a comma
  pub data IsFurther : List (Place × Expr) → Tokens → Type 0 where
    last : {p : Place} {a : Expr} {xs : Tokens} → IsExpr 1 a xs → IsFurther ((p, a) ∷ []) (sign p punct.Comma ∷ xs)
    further : {p : Place} {a : Expr} {bs : List (Place × Expr)} {xs ys : Tokens} → IsExpr 1 a xs → IsFurther bs ys → IsFurther ((p, a) ∷ bs) (sign p punct.Comma ∷ (xs ++ ys))

  -- none, or one or more with commas between
  pub data IsArguments : List Expr → Tokens → Type 0 where
    no_argument : IsArguments [] []
    arguments : {bs : List Expr} {xs : Tokens} → IsItems bs xs → IsArguments bs xs

  pub data IsItems : List Expr → Tokens → Type 0 where
    one : {a : Expr} {xs : Tokens} → IsExpr 1 a xs → IsItems (a ∷ []) xs
    more : {a : Expr} {bs : List Expr} {xs ys : Tokens} (p : Place) → IsExpr 1 a xs → IsItems bs ys → IsItems (a ∷ bs) (xs ++ sign p punct.Comma ∷ ys)

  -- a type, or what stands before the parentheses of a call
  pub data IsType : Ty → Tokens → Type 0 where
    basic : {p : Place} {b : Basic} {ds : List Dim} {xs : Tokens} (w : Key) → basic_of w ≡ Some b → IsDims ds xs → IsType (ty.Basic p b ds) (word p w ∷ xs)
    named : {p : Place} {n : List ℕ} {ds : List Dim} {xs : Tokens} → IsDims ds xs → IsType (ty.Named p n ds) (token p (kind.Name n) ∷ xs)

  -- any number of pairs of brackets
  pub data IsDims : List Dim → Tokens → Type 0 where
    no_dims : IsDims [] []
    open_pair : {p : Place} {ds : List Dim} {ys : Tokens} (q : Place) → IsDims ds ys → IsDims (dim.Open p ∷ ds) (sign p punct.LeftBracket ∷ (sign q punct.RightBracket ∷ ys))
    sized : {p : Place} {a : Expr} {ds : List Dim} {xs ys : Tokens} (q : Place) → IsExpr 2 a xs → IsDims ds ys
        → IsDims (dim.Sized p a ∷ ds) (sign p punct.LeftBracket ∷ (xs ++ sign q punct.RightBracket ∷ ys))
