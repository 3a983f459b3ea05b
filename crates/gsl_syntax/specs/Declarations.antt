-- Which tokens stand for which declaration (GLSL 4.50, 4 and 9).
use Rattle.std.specs.Prelude.{◌≡◌, ℕ, List, [], ◌∷◌, ◌++◌, Option, Some, None}
use Rattle.gsl_base.specs.declared.fault.Place.{Place}
use Rattle.gsl_base.specs.declared.token.Punct.TheVariants as punct
use Rattle.gsl_base.specs.declared.token.Key.{Key}
use Rattle.gsl_base.specs.declared.token.Key.TheVariants as key
use Rattle.gsl_base.specs.declared.token.Kind.TheVariants as kind
use Rattle.gsl_syntax.specs.declared.expr.Expr.{Expr}
use Rattle.gsl_syntax.specs.declared.expr.TypeSpec.{TypeSpec as Ty}
use Rattle.gsl_syntax.specs.declared.expr.Dim.{Dim}
use Rattle.gsl_syntax.specs.declared.declaration.Name.{Name}
use Rattle.gsl_syntax.specs.declared.declaration.Qual.{Qual}
use Rattle.gsl_syntax.specs.declared.declaration.Qual.TheVariants as qual
use Rattle.gsl_syntax.specs.declared.declaration.Lay.{Lay}
use Rattle.gsl_syntax.specs.declared.declaration.Lay.TheVariants as lay
use Rattle.gsl_syntax.specs.declared.declaration.Declared.{Declared}
use Rattle.gsl_syntax.specs.declared.declaration.Init.{Init}
use Rattle.gsl_syntax.specs.declared.declaration.Init.TheVariants as init
use Rattle.gsl_syntax.specs.declared.declaration.Declarator.{Declarator}
use Rattle.gsl_syntax.specs.declared.declaration.Declarator.TheVariants as declarator
use Rattle.gsl_syntax.specs.declared.declaration.StructMember.{StructMember}
use Rattle.gsl_syntax.specs.declared.declaration.Struct.{Struct}
use Rattle.gsl_syntax.specs.declared.declaration.Member.{Member}
use Rattle.gsl_syntax.specs.declared.declaration.Decl.{Decl}
use Rattle.gsl_syntax.specs.declared.declaration.Decl.TheVariants as decl
use Rattle.gsl_syntax.specs.Phrases.{Tokens, token, sign, word, IsExpr, IsType, IsDims}

-- one or more, with commas between
pub data Commas {A : Type 0} (Item : A → Tokens → Type 0) : List A → Tokens → Type 0 where
  one : {a : A} {xs : Tokens} → Item a xs → Commas Item (a ∷ []) xs
  more : {a : A} {bs : List A} {xs ys : Tokens} (p : Place) → Item a xs → Commas Item bs ys → Commas Item (a ∷ bs) (xs ++ sign p punct.Comma ∷ ys)

-- any number, one behind the other
pub data Row {A : Type 0} (Item : A → Tokens → Type 0) : List A → Tokens → Type 0 where
  done : Row Item [] []
  next : {a : A} {bs : List A} {xs ys : Tokens} → Item a xs → Row Item bs ys → Row Item (a ∷ bs) (xs ++ ys)

-- at least one, one behind the other
pub data Some_of {A : Type 0} (Item : A → Tokens → Type 0) : List A → Tokens → Type 0 where
  these : {a : A} {bs : List A} {xs ys : Tokens} → Item a xs → Row Item bs ys → Some_of Item (a ∷ bs) (xs ++ ys)

abbrev pub name_at : Place → List ℕ → Name
name_at p n = record { place = p; text = n }

-- the qualifier that a keyword is
abbrev pub qual_of : Key → Place → Option Qual
qual_of key.Const p = Some (qual.Const p)
qual_of key.In p = Some (qual.In p)
qual_of key.Out p = Some (qual.Out p)
qual_of key.Inout p = Some (qual.Inout p)
qual_of key.Uniform p = Some (qual.Uniform p)
qual_of key.Buffer p = Some (qual.Buffer p)
qual_of key.Flat p = Some (qual.Flat p)
qual_of key.Coherent p = Some (qual.Coherent p)
qual_of key.Volatile p = Some (qual.Volatile p)
qual_of key.Restrict p = Some (qual.Restrict p)
qual_of key.Readonly p = Some (qual.Readonly p)
qual_of key.Writeonly p = Some (qual.Writeonly p)
qual_of _ p = None

-- `NAME`, or `NAME = a` with a condition
pub data IsLay : Lay → Tokens → Type 0 where
  flag : {p : Place} {n : List ℕ} → IsLay (lay.Flag (name_at p n)) (token p (kind.Name n) ∷ [])
  value : {p : Place} {n : List ℕ} {a : Expr} {xs : Tokens} (q : Place) → IsExpr 2 a xs
      → IsLay (lay.Value (name_at p n) a) (token p (kind.Name n) ∷ (sign q punct.Equal ∷ xs))

pub data IsQual : Qual → Tokens → Type 0 where
  plain : {q : Qual} (p : Place) (w : Key) → qual_of w p ≡ Some q → IsQual q (word p w ∷ [])
  layout : {p : Place} {ls : List Lay} {xs : Tokens} (o c : Place) → Commas IsLay ls xs
      → IsQual (qual.Layout p ls) (word p key.Layout ∷ (sign o punct.LeftParen ∷ (xs ++ sign c punct.RightParen ∷ [])))

-- `NAME dims`
pub data IsDeclared : Declared → Tokens → Type 0 where
  declared : {p : Place} {n : List ℕ} {ds : List Dim} {xs : Tokens} → IsDims ds xs → IsDeclared (record { name = name_at p n; dims = ds }) (token p (kind.Name n) ∷ xs)

mutual
  -- an assignment or what binds tighter, or a list in braces, of at least one, with or without a comma at its end
  pub data IsInit : Init → Tokens → Type 0 where
    plain : {a : Expr} {xs : Tokens} → IsExpr 1 a xs → IsInit (init.Expr a) xs
    braces : {p : Place} {bs : List Init} {xs : Tokens} (q : Place) → IsInits bs xs → IsInit (init.Braces p bs) (sign p punct.LeftBrace ∷ (xs ++ sign q punct.RightBrace ∷ []))
    braces_comma : {p : Place} {bs : List Init} {xs : Tokens} (m q : Place) → IsInits bs xs
        → IsInit (init.Braces p bs) (sign p punct.LeftBrace ∷ (xs ++ sign m punct.Comma ∷ (sign q punct.RightBrace ∷ [])))

  pub data IsInits : List Init → Tokens → Type 0 where
    one : {a : Init} {xs : Tokens} → IsInit a xs → IsInits (a ∷ []) xs
    more : {a : Init} {bs : List Init} {xs ys : Tokens} (p : Place) → IsInit a xs → IsInits bs ys → IsInits (a ∷ bs) (xs ++ sign p punct.Comma ∷ ys)

-- `NAME dims`, or `NAME dims = init`
pub data IsDeclarator : Declarator → Tokens → Type 0 where
  plain : {p : Place} {n : List ℕ} {ds : List Dim} {xs : Tokens} → IsDims ds xs → IsDeclarator (declarator.Plain (name_at p n) ds) (token p (kind.Name n) ∷ xs)
  initialised : {p : Place} {n : List ℕ} {ds : List Dim} {i : Init} {xs ys : Tokens} (q : Place) → IsDims ds xs → IsInit i ys
      → IsDeclarator (declarator.Initialised (name_at p n) ds i) (token p (kind.Name n) ∷ (xs ++ sign q punct.Equal ∷ ys))

-- none, or one or more with commas between
pub data IsDeclarators : List Declarator → Tokens → Type 0 where
  none : IsDeclarators [] []
  some : {ds : List Declarator} {xs : Tokens} → Commas IsDeclarator ds xs → IsDeclarators ds xs

-- `type NAME dims, ..;`
pub data IsStructMember : StructMember → Tokens → Type 0 where
  member : {t : Ty} {ns : List Declared} {xs ys : Tokens} (q : Place) → IsType t xs → Commas IsDeclared ns ys
      → IsStructMember (record { ty = t; names = ns }) (xs ++ (ys ++ sign q punct.Semicolon ∷ []))

-- `struct NAME { .. }` with at least one line of members
pub data IsStruct : Struct → Tokens → Type 0 where
  struct : {p q : Place} {n : List ℕ} {ms : List StructMember} {xs : Tokens} (o c : Place) → Some_of IsStructMember ms xs
      → IsStruct (record { place = p; name = name_at q n; members = ms }) (word p key.Struct ∷ (token q (kind.Name n) ∷ (sign o punct.LeftBrace ∷ (xs ++ sign c punct.RightBrace ∷ []))))

-- `quals type NAME dims, ..;`
pub data IsMember : Member → Tokens → Type 0 where
  member : {qs : List Qual} {t : Ty} {ns : List Declared} {xs ys zs : Tokens} (q : Place) → Row IsQual qs xs → IsType t ys → Commas IsDeclared ns zs
      → IsMember (record { quals = qs; ty = t; names = ns }) (xs ++ (ys ++ (zs ++ sign q punct.Semicolon ∷ [])))

-- the name of a block's instance, or none
pub data IsInstance : Option Name → Tokens → Type 0 where
  none : IsInstance None []
  some : {p : Place} {n : List ℕ} → IsInstance (Some (name_at p n)) (token p (kind.Name n) ∷ [])

-- the declarations that may stand in the header of a `for`: variables without a struct
pub data IsVariables : Decl → Tokens → Type 0 where
  variables : {qs : List Qual} {t : Ty} {ds : List Declarator} {xs ys zs : Tokens} (q : Place) → Row IsQual qs xs → IsType t ys → Commas IsDeclarator ds zs
      → IsVariables (decl.Variables qs t ds) (xs ++ (ys ++ (zs ++ sign q punct.Semicolon ∷ [])))

-- the declarations that may stand among statements: variables, and structs with any number of variables
pub data IsLocal : Decl → Tokens → Type 0 where
  variables : {d : Decl} {xs : Tokens} → IsVariables d xs → IsLocal d xs
  struct : {qs : List Qual} {s : Struct} {ds : List Declarator} {xs ys zs : Tokens} (q : Place) → Row IsQual qs xs → IsStruct s ys → IsDeclarators ds zs
      → IsLocal (decl.Struct qs s ds) (xs ++ (ys ++ (zs ++ sign q punct.Semicolon ∷ [])))

-- the declarations of a unit: those, blocks with at least one line of members, and qualifiers alone; both with at least one qualifier
pub data IsDecl : Decl → Tokens → Type 0 where
  local : {d : Decl} {xs : Tokens} → IsLocal d xs → IsDecl d xs
  block : {qs : List Qual} {p : Place} {n : List ℕ} {ms : List Member} {i : Option Name} {xs ys zs : Tokens} (o c q : Place)
      → Some_of IsQual qs xs → Some_of IsMember ms ys → IsInstance i zs
      → IsDecl (decl.Block qs (name_at p n) ms i) (xs ++ token p (kind.Name n) ∷ (sign o punct.LeftBrace ∷ (ys ++ sign c punct.RightBrace ∷ (zs ++ sign q punct.Semicolon ∷ []))))
  quals : {qs : List Qual} {xs : Tokens} (q : Place) → Some_of IsQual qs xs → IsDecl (decl.Quals qs) (xs ++ sign q punct.Semicolon ∷ [])
