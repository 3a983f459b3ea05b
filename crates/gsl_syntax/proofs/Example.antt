-- Tokens and their trees, so that a wrong definition is seen.
use Rattle.std.proofs.Common.{◌≡◌, ℕ, zero, suc, refl, false, [], ◌∷◌, ◌++◌, Some, None, arith, replicate}
use Rattle.gsl_base.specs.declared.fault.Place.{Place}
use Rattle.gsl_base.specs.declared.token.Punct.{Punct}
use Rattle.gsl_base.specs.declared.token.Punct.TheVariants as punct
use Rattle.gsl_base.specs.declared.token.Key.{Key}
use Rattle.gsl_base.specs.declared.token.Key.TheVariants as key
use Rattle.gsl_base.specs.declared.token.Kind.TheVariants as kind
use Rattle.gsl_base.specs.declared.token.Token.{Token}
use Rattle.gsl_syntax.specs.declared.expr.Basic.TheVariants as basic
use Rattle.gsl_syntax.specs.declared.expr.Expr.TheVariants as e
use Rattle.gsl_syntax.specs.declared.expr.TypeSpec.TheVariants as ty
use Rattle.gsl_syntax.specs.declared.expr.Dim.TheVariants as dim
use Rattle.gsl_syntax.specs.declared.operator.BinaryOp.TheVariants as binary
use Rattle.gsl_syntax.specs.declared.operator.AssignOp.TheVariants as assign
use Rattle.gsl_syntax.specs.declared.operator.UnaryOp.TheVariants as unary
use Rattle.gsl_syntax.specs.declared.operator.PostfixOp.TheVariants as postfix
use Rattle.gsl_syntax.specs.declared.declaration.Qual.TheVariants as qual
use Rattle.gsl_syntax.specs.declared.declaration.Lay.TheVariants as lay
use Rattle.gsl_syntax.specs.declared.declaration.Decl.TheVariants as decl
use Rattle.gsl_syntax.specs.declared.declaration.Declarator.TheVariants as declarator
use Rattle.gsl_syntax.specs.declared.declaration.Init.TheVariants as init
use Rattle.gsl_syntax.specs.declared.statement.Stmt.TheVariants as s
use Rattle.gsl_syntax.specs.declared.statement.Params.TheVariants as params
use Rattle.gsl_syntax.specs.declared.statement.Body.TheVariants as body
use Rattle.gsl_syntax.specs.declared.statement.Global.TheVariants as global
use Rattle.gsl_syntax.specs.Nesting.{first_deep, deep_from}
use Rattle.gsl_syntax.specs.Phrases as p
use Rattle.gsl_syntax.specs.Phrases.{Tokens, token, IsExpr, IsType, IsItems, IsArguments, IsDims, IsFurther}
use Rattle.gsl_syntax.specs.Declarations as d
use Rattle.gsl_syntax.specs.Declarations.{name_at, Row, Commas, Some_of, IsQual, IsDecl}
use Rattle.gsl_syntax.specs.Statements as t
use Rattle.gsl_syntax.specs.Statements.{IsStmt, IsStmts}
use Rattle.gsl_syntax.specs.Sentences as u
use Rattle.gsl_syntax.specs.Sentences.{IsUnit, IsGlobal}

-- the place in unit 0 at a line, by which tokens are told apart
abbrev at : ℕ → Place
at l = record { unit = 0; line = l }

abbrev sign : ℕ → Punct → Token
sign l m = token (at l) (kind.Punct m)

abbrev word : ℕ → Key → Token
word l w = token (at l) (kind.Key w)

-- names of one letter
abbrev letter : ℕ → ℕ → Token
letter l n = token (at l) (kind.Name (n ∷ []))

-- `a - b - c * d` is `(a - b) - (c * d)`
pub difference_to_the_left : IsExpr 0
    (e.Binary (at 4) binary.Sub (e.Binary (at 2) binary.Sub (e.Name (at 1) (97 ∷ [])) (e.Name (at 3) (98 ∷ []))) (e.Binary (at 6) binary.Mul (e.Name (at 5) (99 ∷ [])) (e.Name (at 7) (100 ∷ []))))
    (letter 1 97 ∷ (sign 2 punct.Dash ∷ (letter 3 98 ∷ (sign 4 punct.Dash ∷ (letter 5 99 ∷ (sign 6 punct.Star ∷ (letter 7 100 ∷ [])))))))
difference_to_the_left = p.IsExpr.binary punct.Dash refl (omega arith) (p.IsExpr.binary punct.Dash refl (omega arith) p.IsExpr.name p.IsExpr.name) (p.IsExpr.binary punct.Star refl (omega arith) p.IsExpr.name p.IsExpr.name)

-- `a = b ? c : d = -e++` is `a = (b ? c : (d = -(e++)))`
pub assignment_to_the_right : IsExpr 0
    (e.Assign (at 2) assign.Set (e.Name (at 1) (97 ∷ [])) (e.Conditional (at 4) (e.Name (at 3) (98 ∷ [])) (e.Name (at 5) (99 ∷ []))
    (e.Assign (at 8) assign.Set (e.Name (at 7) (100 ∷ [])) (e.Unary (at 9) unary.Minus (e.Postfix (at 11) postfix.Increment (e.Name (at 10) (101 ∷ [])))))))
    (letter 1 97 ∷ (sign 2 punct.Equal ∷ (letter 3 98 ∷ (sign 4 punct.Question ∷ (letter 5 99 ∷ (sign 6 punct.Colon ∷ (letter 7 100 ∷ (sign 8 punct.Equal ∷ (sign 9 punct.Dash ∷ (letter 10 101 ∷ (sign 11 punct.IncOp ∷ [])))))))))))
assignment_to_the_right =
    p.IsExpr.assign punct.Equal refl (omega arith) p.IsExpr.name
    (p.IsExpr.conditional (at 6) (omega arith) p.IsExpr.name p.IsExpr.name
    (p.IsExpr.assign punct.Equal refl (omega arith) p.IsExpr.name (p.IsExpr.unary punct.Dash refl (omega arith) (p.IsExpr.postfix punct.IncOp refl (omega arith) p.IsExpr.name))))

-- `T[](1, a)[0].b.c(), d`
pub call_and_what_follows : IsExpr 0
    (e.Sequence (e.Method (at 13) (e.Member (at 11) (e.Index (at 8) (e.Call (ty.Named (at 1) (84 ∷ []) (dim.Open (at 2) ∷ [])) (e.Signed (at 5) 1 ∷ (e.Name (at 7) (97 ∷ []) ∷ []))) (e.Signed (at 9) 0)) (98 ∷ [])) (99 ∷ []))
    ((at 17, e.Name (at 18) (100 ∷ [])) ∷ []))
    (letter 1 84 ∷ (sign 2 punct.LeftBracket ∷ (sign 3 punct.RightBracket ∷ (sign 4 punct.LeftParen ∷ (token (at 5) (kind.Signed 1) ∷ (sign 6 punct.Comma ∷ (letter 7 97 ∷ (sign 7 punct.RightParen
    ∷ (sign 8 punct.LeftBracket ∷ (token (at 9) (kind.Signed 0) ∷ (sign 10 punct.RightBracket ∷ (sign 11 punct.Dot ∷ (letter 12 98 ∷ (sign 13 punct.Dot ∷ (letter 14 99 ∷ (sign 15 punct.LeftParen ∷ (sign 16 punct.RightParen
    ∷ (sign 17 punct.Comma ∷ (letter 18 100 ∷ [])))))))))))))))))))
call_and_what_follows =
    p.IsExpr.sequence (omega arith)
    (p.IsExpr.method (at 14) (at 15) (at 16) (omega arith) (p.IsExpr.member (at 12) (omega arith) (p.IsExpr.index (at 10) (omega arith)
    (p.IsExpr.call (at 4) (at 7) (p.IsType.named (p.IsDims.open_pair (at 3) p.IsDims.no_dims)) (p.IsArguments.arguments (p.IsItems.more (at 6) p.IsExpr.signed (p.IsItems.one p.IsExpr.name)))) p.IsExpr.signed)))
    (p.IsFurther.last p.IsExpr.name)

-- `if (a) if (b) ; else ;` has its `else` with the inner `if`
pub inner_else : IsStmt false
    (s.If (at 1) (e.Name (at 3) (97 ∷ [])) (s.IfElse (at 5) (e.Name (at 7) (98 ∷ [])) (s.Empty (at 9)) (s.Empty (at 11))))
    (word 1 key.If ∷ (sign 2 punct.LeftParen ∷ (letter 3 97 ∷ (sign 4 punct.RightParen ∷ (word 5 key.If ∷ (sign 6 punct.LeftParen ∷ (letter 7 98 ∷ (sign 8 punct.RightParen ∷ (sign 9 punct.Semicolon ∷ (word 10 key.Else ∷ (sign 11 punct.Semicolon ∷ [])))))))))))
inner_else = t.IsStmt.if_alone (at 2) (at 4) p.IsExpr.name (t.IsStmt.if_else (at 6) (at 8) (at 10) p.IsExpr.name t.IsStmt.empty t.IsStmt.empty)

-- `layout(a = 1) in; void m() { int i = 1; }`
pub a_unit : IsUnit
    (global.Decl (decl.Quals (qual.Layout (at 1) (lay.Value (name_at (at 3) (97 ∷ [])) (e.Signed (at 5) 1) ∷ []) ∷ (qual.In (at 7) ∷ [])))
    ∷ (global.Function (record {
      quals = [];
      ty = ty.Basic (at 9) basic.Void [];
      name = name_at (at 10) (109 ∷ []);
      params = params.Items [];
      body = body.Block (at 13) (s.Decl (decl.Variables [] (ty.Basic (at 14) basic.Int []) (declarator.Initialised (name_at (at 15) (105 ∷ [])) [] (init.Expr (e.Signed (at 17) 1)) ∷ [])) ∷ []);
    }) ∷ []))
    (word 1 key.Layout ∷ (sign 2 punct.LeftParen ∷ (letter 3 97 ∷ (sign 4 punct.Equal ∷ (token (at 5) (kind.Signed 1) ∷ (sign 6 punct.RightParen ∷ (word 7 key.In ∷ (sign 8 punct.Semicolon
    ∷ (word 9 key.Void ∷ (letter 10 109 ∷ (sign 11 punct.LeftParen ∷ (sign 12 punct.RightParen ∷ (sign 13 punct.LeftBrace
    ∷ (word 14 key.Int ∷ (letter 15 105 ∷ (sign 16 punct.Equal ∷ (token (at 17) (kind.Signed 1) ∷ (sign 18 punct.Semicolon ∷ (sign 19 punct.RightBrace ∷ [])))))))))))))))))))
a_unit =
    Row.next (u.IsGlobal.decl (d.IsDecl.quals (at 8) (Some_of.these (d.IsQual.layout (at 2) (at 6) (Commas.one (d.IsLay.value (at 4) p.IsExpr.signed))) (Row.next (d.IsQual.plain (at 7) key.In refl) Row.done))))
    (Row.next (u.IsGlobal.function (u.IsFunction.function (at 11) (at 12) Row.done (p.IsType.basic key.Void refl p.IsDims.no_dims) u.IsParams.none
    (u.IsBody.block (at 19) (t.IsStmts.next (t.IsStmt.decl (d.IsLocal.variables (d.IsVariables.variables (at 18) Row.done (p.IsType.basic key.Int refl p.IsDims.no_dims)
    (Commas.one (d.IsDeclarator.initialised (at 16) p.IsDims.no_dims (d.IsInit.plain p.IsExpr.signed)))))) t.IsStmts.done))))
    Row.done)

-- 256 braces nest as deeply as braces may, and a 257th is too deep.
pub braces_within : first_deep (replicate 256 (sign 1 punct.LeftBrace)) ≡ None
unfolding first_deep deep_from
braces_within = refl

pub braces_too_deep : first_deep (replicate 256 (sign 1 punct.LeftBrace) ++ sign 2 punct.LeftBrace ∷ []) ≡ Some (sign 2 punct.LeftBrace)
unfolding first_deep deep_from
braces_too_deep = refl

-- A comma sets the counter of its parenthesis back: 300 times `- ,` in one parenthesis.
abbrev dashes : ℕ → Tokens
dashes zero = []
dashes (suc n) = sign 1 punct.Dash ∷ (sign 1 punct.Comma ∷ dashes n)

pub commas_set_back : first_deep (sign 1 punct.LeftParen ∷ dashes 300) ≡ None
unfolding first_deep deep_from
commas_set_back = refl

-- Within a choice it does not: 300 times `- ,` behind `a ?`.
pub not_in_a_choice : first_deep (sign 1 punct.LeftParen ∷ (sign 2 punct.Question ∷ dashes 300)) ≡ Some (sign 1 punct.Dash)
unfolding first_deep deep_from
not_in_a_choice = refl
