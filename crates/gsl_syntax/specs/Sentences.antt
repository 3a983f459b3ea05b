-- Which tokens stand for which unit (GLSL 4.50, 9).
use Rattle.std.specs.Prelude.{◌≡◌, ℕ, List, [], ◌∷◌, ◌++◌}
use Rattle.gsl_base.specs.declared.fault.Place.{Place}
use Rattle.gsl_base.specs.declared.token.Punct.TheVariants as punct
use Rattle.gsl_base.specs.declared.token.Key.TheVariants as key
use Rattle.gsl_base.specs.declared.token.Kind.TheVariants as kind
use Rattle.gsl_syntax.specs.declared.expr.TypeSpec.{TypeSpec as Ty}
use Rattle.gsl_syntax.specs.declared.expr.Dim.{Dim}
use Rattle.gsl_syntax.specs.declared.declaration.Qual.{Qual}
use Rattle.gsl_syntax.specs.declared.declaration.Decl.{Decl}
use Rattle.gsl_syntax.specs.declared.statement.Stmt.{Stmt}
use Rattle.gsl_syntax.specs.declared.statement.Param.{Param}
use Rattle.gsl_syntax.specs.declared.statement.Param.TheVariants as param
use Rattle.gsl_syntax.specs.declared.statement.Params.{Params}
use Rattle.gsl_syntax.specs.declared.statement.Params.TheVariants as params
use Rattle.gsl_syntax.specs.declared.statement.Body.{Body}
use Rattle.gsl_syntax.specs.declared.statement.Body.TheVariants as body
use Rattle.gsl_syntax.specs.declared.statement.Function.{Function}
use Rattle.gsl_syntax.specs.declared.statement.Global.{Global}
use Rattle.gsl_syntax.specs.declared.statement.Global.TheVariants as global
use Rattle.gsl_syntax.specs.Phrases.{Tokens, token, sign, word, IsType, IsDims}
use Rattle.gsl_syntax.specs.Declarations.{Commas, Row, name_at, IsQual, IsDecl}
use Rattle.gsl_syntax.specs.Statements.{IsStmts}

-- a parameter; without a name, its brackets are those of its type
pub data IsParam : Param → Tokens → Type 0 where
  without_name : {qs : List Qual} {t : Ty} {xs ys : Tokens} → Row IsQual qs xs → IsType t ys → IsParam (param.Unnamed qs t) (xs ++ ys)
  with_name : {qs : List Qual} {t : Ty} {p : Place} {n : List ℕ} {ds : List Dim} {xs ys zs : Tokens} → Row IsQual qs xs → IsType t ys → IsDims ds zs
      → IsParam (param.Named qs t (name_at p n) ds) (xs ++ (ys ++ token p (kind.Name n) ∷ zs))

-- one or more parameters with commas between, other than the word `void` alone
abbrev pub NotVoid : Tokens → Type 0
NotVoid xs = (p : Place) → xs ≡ word p key.Void ∷ [] → ⊥

pub data IsParams : Params → Tokens → Type 0 where
  none : IsParams (params.Items []) []
  void : {p : Place} → IsParams (params.Void p) (word p key.Void ∷ [])
  items : {ps : List Param} {xs : Tokens} → Commas IsParam ps xs → NotVoid xs → IsParams (params.Items ps) xs

-- `;` or a block
pub data IsBody : Body → Tokens → Type 0 where
  prototype : {p : Place} → IsBody (body.Prototype p) (sign p punct.Semicolon ∷ [])
  block : {p : Place} {bs : List Stmt} {xs : Tokens} (q : Place) → IsStmts bs xs → IsBody (body.Block p bs) (sign p punct.LeftBrace ∷ (xs ++ sign q punct.RightBrace ∷ []))

pub data IsFunction : Function → Tokens → Type 0 where
  function : {qs : List Qual} {t : Ty} {p : Place} {n : List ℕ} {ps : Params} {b : Body} {us xs ys zs : Tokens} (o c : Place)
      → Row IsQual qs us → IsType t xs → IsParams ps ys → IsBody b zs
      → IsFunction (record { quals = qs; ty = t; name = name_at p n; params = ps; body = b })
      (us ++ (xs ++ token p (kind.Name n) ∷ (sign o punct.LeftParen ∷ (ys ++ sign c punct.RightParen ∷ zs))))

pub data IsGlobal : Global → Tokens → Type 0 where
  empty : {p : Place} → IsGlobal (global.Empty p) (sign p punct.Semicolon ∷ [])
  decl : {d : Decl} {xs : Tokens} → IsDecl d xs → IsGlobal (global.Decl d) xs
  function : {f : Function} {xs : Tokens} → IsFunction f xs → IsGlobal (global.Function f) xs

-- the tokens of a whole source
abbrev pub IsUnit : List Global → Tokens → Type 0
IsUnit = Row IsGlobal
