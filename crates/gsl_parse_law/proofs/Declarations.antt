-- A declaration that stands for live tokens is formed as the grammar forms it, and its names are names.
use Rattle.std.proofs.Common.{refl, ◌∙◌, Bool, ◌&&◌, IsTrue, List, map}
use Rattle.std.specs.List.{list_all}
use Rattle.gsl_syntax.specs.declared.declaration.Declared.{Declared}
use Rattle.gsl_syntax.specs.declared.declaration.Init.{Init}
use Rattle.gsl_syntax.specs.declared.declaration.Declarator.{Declarator}
use Rattle.gsl_syntax.specs.Phrases.{Tokens}
use Rattle.gsl_syntax.specs.Declarations.{Commas, Row, Some_of, IsDeclared, IsInit, IsInits, IsDeclarator, IsDeclarators, IsStructMember, IsStruct, IsMember, IsInstance, IsVariables, IsLocal, IsDecl}
use Rattle.gsl_formed.specs.Formed.{is_name, all_formed, dims_formed, has_some, init_formed, struct_line_formed, struct_formed, instance_formed, line_formed, declarator_formed, declarators_formed, decl_formed}
use Rattle.gsl_formed.proofs.Layers as at
use Rattle.gsl_parse_law.proofs.Phrases.{both, Live, first, behind, split, expr_formed, type_formed, sizes_formed}

-- ---- lists of items

-- an item of live tokens passes the test
abbrev pub Tests : {A : Type 0} → (A → Tokens → Type 0) → (A → Bool) → Type 0
Tests {A = A} Item f = (a : A) (xs : Tokens) → Item a xs → Live xs → IsTrue (f a)

module _ {A : Type 0} {Item : A → Tokens → Type 0} {f : A → Bool} (tests : Tests Item f) where
  pub commas_all : {bs : List A} {xs : Tokens} → Commas Item bs xs → Live xs → IsTrue (list_all f bs)
  commas_all (Commas.one y) live = both (tests _ _ y live) refl
  commas_all (Commas.more {xs = xs} p y z) live = let parts = split xs live in both (tests _ _ y parts.0) (commas_all z (behind parts.1))

  pub row_all : {bs : List A} {xs : Tokens} → Row Item bs xs → Live xs → IsTrue (list_all f bs)
  row_all Row.done live = refl
  row_all (Row.next {xs = xs} y z) live = let parts = split xs live in both (tests _ _ y parts.0) (row_all z parts.1)

  some_all : {bs : List A} {xs : Tokens} → Some_of Item bs xs → Live xs → IsTrue (list_all f bs)
  some_all (Some_of.these {xs = xs} y z) live = let parts = split xs live in both (tests _ _ y parts.0) (row_all z parts.1)

module _ {A : Type 0} {Item : A → Tokens → Type 0} where
  commas_some : {bs : List A} {xs : Tokens} → Commas Item bs xs → IsTrue (has_some bs)
  commas_some (Commas.one y) = refl
  commas_some (Commas.more p y z) = refl

  some_some : {bs : List A} {xs : Tokens} → Some_of Item bs xs → IsTrue (has_some bs)
  some_some (Some_of.these y z) = refl

-- ---- initialisers

mutual
  pub init_is_formed : {i : Init} {xs : Tokens} → IsInit i xs → Live xs → IsTrue (init_formed i)
  init_is_formed (IsInit.plain {a = a} y) live = at.init_Expr a ∙ expr_formed y live
  init_is_formed (IsInit.braces {p = p} {bs = bs} {xs = xs} q y) live = at.init_Braces p bs ∙ inits_formed y (split xs (behind live)).0
  init_is_formed (IsInit.braces_comma {p = p} {bs = bs} {xs = xs} m q y) live = at.init_Braces p bs ∙ inits_formed y (split xs (behind live)).0

  inits_formed : {bs : List Init} {xs : Tokens} → IsInits bs xs → Live xs → IsTrue (all_formed (map init_formed bs))
  inits_formed (IsInits.one y) live = both (init_is_formed y live) refl
  inits_formed (IsInits.more {xs = xs} p y z) live = let parts = split xs live in both (init_is_formed y parts.0) (inits_formed z (behind parts.1))

-- ---- names

abbrev name_formed : Declared → Bool
name_formed one = is_name one.name.text && dims_formed one.dims

declared_formed : Tests IsDeclared name_formed
declared_formed _ _ (IsDeclared.declared y) live = both (first live) (sizes_formed y (behind live))

declarator_is_formed : Tests IsDeclarator declarator_formed
declarator_is_formed _ _ (IsDeclarator.plain y) live = both (first live) (sizes_formed y (behind live))
declarator_is_formed _ _ (IsDeclarator.initialised {xs = xs} q y z) live =
    let parts = split xs (behind live) in both (first live) (both (sizes_formed y parts.0) (init_is_formed z (behind parts.1)))

some_declarators : {ds : List Declarator} {xs : Tokens} → Commas IsDeclarator ds xs → Live xs → IsTrue (declarators_formed ds)
some_declarators (Commas.one y) live = both (declarator_is_formed _ _ y live) refl
some_declarators (Commas.more {xs = xs} p y z) live = let parts = split xs live in both (declarator_is_formed _ _ y parts.0) (some_declarators z (behind parts.1))

any_declarators : {ds : List Declarator} {xs : Tokens} → IsDeclarators ds xs → Live xs → IsTrue (declarators_formed ds)
any_declarators IsDeclarators.none live = refl
any_declarators (IsDeclarators.some y) live = some_declarators y live

-- ---- members

struct_member_formed : Tests IsStructMember struct_line_formed
struct_member_formed _ _ (IsStructMember.member {xs = xs} {ys = ys} q y z) live =
    let parts = split xs live in both (type_formed y parts.0) (commas_all declared_formed z (split ys parts.1).0)

struct_is_formed : Tests IsStruct struct_formed
struct_is_formed _ _ (IsStruct.struct {xs = xs} o c y) live =
    let named = behind live in both (first named) (some_all struct_member_formed y (split xs (behind (behind named))).0)

member_formed : Tests IsMember line_formed
member_formed _ _ (IsMember.member {xs = xs} {ys = ys} {zs = zs} q w y z) live =
    let parts = split ys (split xs live).1 in
    both (commas_some z) (both (type_formed y parts.0) (commas_all declared_formed z (split zs parts.1).0))

instance_is_formed : Tests IsInstance instance_formed
instance_is_formed _ _ IsInstance.none live = refl
instance_is_formed _ _ IsInstance.some live = first live

-- ---- declarations

pub variables_formed : Tests IsVariables decl_formed
variables_formed _ _ (IsVariables.variables {xs = xs} {ys = ys} {zs = zs} q w y z) live =
    let parts = split ys (split xs live).1 in both (type_formed y parts.0) (some_declarators z (split zs parts.1).0)

pub local_formed : Tests IsLocal decl_formed
local_formed _ _ (IsLocal.variables y) live = variables_formed _ _ y live
local_formed _ _ (IsLocal.struct {xs = xs} {ys = ys} {zs = zs} q w y z) live =
    let parts = split ys (split xs live).1 in both (struct_is_formed _ _ y parts.0) (any_declarators z (split zs parts.1).0)

pub decl_is_formed : Tests IsDecl decl_formed
decl_is_formed _ _ (IsDecl.local y) live = local_formed _ _ y live
decl_is_formed _ _ (IsDecl.block {xs = xs} {ys = ys} {zs = zs} o c q w y z) live =
    let named = (split xs live).1 in
    let parts = split ys (behind (behind named)) in
    both (first named) (both (instance_is_formed _ _ z (split zs (behind parts.1)).0) (both (some_some y) (some_all member_formed y parts.0)))
decl_is_formed _ _ (IsDecl.quals q w) live = refl
