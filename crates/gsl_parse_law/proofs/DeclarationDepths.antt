-- Where the tokens of a declaration do not nest too deeply, neither do the arms of its initialisers.
use Rattle.std.proofs.Common.{◌≡◌, refl, ℕ, Bool, true, ◌⊎◌, inl, inr, List, [], ◌∷◌, ◌++◌, map, Some, arith}
use Rattle.gsl_base.specs.declared.fault.Place.{Place}
use Rattle.gsl_base.specs.declared.token.Punct.TheVariants as punct
use Rattle.gsl_base.specs.declared.token.Key.{Key}
use Rattle.gsl_base.specs.declared.token.Key.TheVariants as key
use Rattle.gsl_base.specs.declared.token.Kind.TheVariants as kind
use Rattle.gsl_syntax.specs.declared.nesting.Counter.{Counter}
use Rattle.gsl_syntax.specs.declared.declaration.Qual.{Qual}
use Rattle.gsl_syntax.specs.declared.declaration.Init.{Init}
use Rattle.gsl_syntax.specs.declared.declaration.Declarator.{Declarator}
use Rattle.gsl_syntax.specs.declared.declaration.Decl.{Decl}
use Rattle.gsl_syntax.specs.Nesting.{fresh}
use Rattle.gsl_syntax.specs.Phrases.{Tokens, token, sign}
use Rattle.gsl_syntax.specs.Declarations.{Commas, Row, Some_of, qual_of, IsLay, IsQual, IsDeclared, IsInit, IsInits, IsDeclarator, IsDeclarators, IsStructMember, IsStruct, IsMember, IsInstance, IsVariables, IsLocal, IsDecl}
use Rattle.gsl_tree.specs.Statements.{deepest}
use Rattle.gsl_formed.specs.Nested.{init_arms, declarator_arms, decl_arms}
use Rattle.gsl_formed.proofs.Arms.{init_expr, init_braces}
use Rattle.gsl_parse_law.proofs.Steps.{AtLeast, At, Any, any, Room, none_fit, quiet, after_name, after_counted, IsKept, after_comma, left, after_semicolon, into_paren, into_brace, out_of_paren, out_of_brace, out_of_list, IsLow, low_fresh, low_left}
use Rattle.gsl_parse_law.proofs.Depths.{IsQuiet, apart, at_apart, less_one, Walks, expr_walks, type_walks, dims_walk}

-- what stands behind passes, where an item passes
abbrev pub Passes : {A : Type 0} → (A → Tokens → Type 0) → Counter → List Counter → Type 0
Passes {A = A} Item b o = (a : A) (xs : Tokens) → Item a xs → (rest : Tokens) → Any b o (xs ++ rest) → Any b o rest

module _ {A : Type 0} {Item : A → Tokens → Type 0} {b : Counter} {o : List Counter} (passes : Passes Item b o) where
  pub commas_pass : {bs : List A} {xs : Tokens} → Commas Item bs xs → IsKept b → (rest : Tokens) → Any b o (xs ++ rest) → Any b o rest
  commas_pass (Commas.one y) kept rest x = passes _ _ y rest x
  commas_pass (Commas.more {xs = xs} {ys = ys} p y z) kept rest x =
      commas_pass z kept rest (any (after_comma p kept (passes _ _ y (sign p punct.Comma ∷ (ys ++ rest)) (apart xs (sign p punct.Comma ∷ ys) rest x))))

  pub row_passes : {bs : List A} {xs : Tokens} → Row Item bs xs → (rest : Tokens) → Any b o (xs ++ rest) → Any b o rest
  row_passes Row.done rest x = x
  row_passes (Row.next {xs = xs} {ys = ys} y z) rest x = row_passes z rest (passes _ _ y (ys ++ rest) (apart xs ys rest x))

  pub some_pass : {bs : List A} {xs : Tokens} → Some_of Item bs xs → (rest : Tokens) → Any b o (xs ++ rest) → Any b o rest
  some_pass (Some_of.these {xs = xs} {ys = ys} y z) rest x = row_passes z rest (passes _ _ y (ys ++ rest) (apart xs ys rest x))

-- ---- qualifiers

lay_passes : {b : Counter} {o : List Counter} → Passes IsLay b o
lay_passes _ _ (IsLay.flag {p = p} {n = n}) rest x = any (after_name p n x)
lay_passes _ _ (IsLay.value {p = p} {n = n} q y) rest x =
    let equal = after_counted q punct.Equal (λ list on s. refl) (any (after_name p n x)) in (expr_walks y rest (inl (omega arith)) (less_one (any equal))).1

qual_quiet : (w : Key) (p : Place) (q : Qual) → qual_of w p ≡ Some q → IsQuiet w
qual_quiet key.Case p q h = absurd cc
qual_quiet key.Default p q h = absurd cc
qual_quiet key.If p q h = absurd cc
qual_quiet key.Else p q h = absurd cc
qual_quiet key.Do p q h = absurd cc
qual_quiet key.For p q h = absurd cc
qual_quiet key.While p q h = absurd cc
qual_quiet key.Switch p q h = absurd cc
qual_quiet w p q h = λ list label on s. refl

pub qual_passes : {b : Counter} {o : List Counter} → Passes IsQual b o
qual_passes a _ (IsQual.plain p w is) rest x = any (quiet p (kind.Key w) (qual_quiet w p a is) x)
qual_passes _ _ (IsQual.layout {p = p} {xs = xs} o c y) rest x =
    let inside = into_paren o (any (quiet p (kind.Key key.Layout) (λ list label on s. refl) x)) in
    let r = commas_pass lay_passes y (inl (omega arith)) (sign c punct.RightParen ∷ rest) (apart xs (sign c punct.RightParen ∷ []) rest (any inside.at)) in
    less_one (any (out_of_paren c inside.least r))

pub quals_pass : {b : Counter} {o : List Counter} {qs : List Qual} {xs : Tokens} → Row IsQual qs xs → (rest : Tokens) → Any b o (xs ++ rest) → Any b o rest
quals_pass y rest x = row_passes qual_passes y rest x

-- ---- initialisers

-- a brace begins a list here, or nothing is counted that its end would take away
abbrev pub BeginsList : Bool → Counter → Type 0
BeginsList list b = (list ≡ true) ⊎ IsLow b

closes_list : {list : Bool} {b c : Counter} {o : List Counter} {rest : Tokens} (q : Place) → BeginsList list b → AtLeast b c → Any (fresh list) (c ∷ o) (sign q punct.RightBrace ∷ rest) → Any b o rest
closes_list {list = list} q (inl is) h x = any (out_of_list q is h x)
closes_list {b = b} {rest = rest} q (inr low) h x = low_left rest low (any (out_of_brace q h x))

mutual
  pub init_walks : {i : Init} {xs : Tokens} → IsInit i xs → {list label : Bool} {b : Counter} {o : List Counter} (rest : Tokens) → BeginsList list b → At list label b o (xs ++ rest) → Walks b o (init_arms i) rest
  init_walks (IsInit.plain {a = a} y) rest begins x =
      let r = expr_walks y rest (inl (omega arith)) (any x) in
      let same = init_expr a in
      let fit = r.0 in
      (omega (arith, same, fit), r.1)
  init_walks (IsInit.braces {p = p} {bs = bs} {xs = xs} q y) {list = list} rest begins x =
      let inside = into_brace p x in
      let r = inits_walk y (sign q punct.RightBrace ∷ rest) (inr (low_fresh list)) (inl (omega arith)) (at_apart xs (sign q punct.RightBrace ∷ []) rest inside.at) in
      let same = init_braces p bs in
      let least = inside.least.value in
      let fit = r.0 in
      (omega (arith, same, least, fit), closes_list q begins inside.least r.1)
  init_walks (IsInit.braces_comma {p = p} {bs = bs} {xs = xs} m q y) {list = list} rest begins x =
      let inside = into_brace p x in
      let r = inits_walk y (sign m punct.Comma ∷ (sign q punct.RightBrace ∷ rest)) (inr (low_fresh list)) (inl (omega arith)) (at_apart xs (sign m punct.Comma ∷ (sign q punct.RightBrace ∷ [])) rest inside.at) in
      let same = init_braces p bs in
      let least = inside.least.value in
      let fit = r.0 in
      (omega (arith, same, least, fit), closes_list q begins inside.least (any (after_comma m (inl (omega arith)) r.1)))

  inits_walk : {bs : List Init} {xs : Tokens} → IsInits bs xs → {list label : Bool} {b : Counter} {o : List Counter} (rest : Tokens) → BeginsList list b → IsKept b → At list label b o (xs ++ rest) → Walks b o (deepest (map init_arms bs)) rest
  inits_walk (IsInits.one y) rest begins kept x =
      let r = init_walks y rest begins x in
      let fit = r.0 in
      (omega (arith, fit), r.1)
  inits_walk (IsInits.more {xs = xs} {ys = ys} p y z) rest begins kept x =
      let first = init_walks y (sign p punct.Comma ∷ (ys ++ rest)) begins (at_apart xs (sign p punct.Comma ∷ ys) rest x) in
      let second = inits_walk z rest (inl refl) kept (after_comma p kept first.1) in
      let front = first.0 in
      let fit = second.0 in
      (omega (arith, front, fit), second.1)

-- ---- names

pub declared_passes : {b : Counter} {o : List Counter} → Passes IsDeclared b o
declared_passes _ _ (IsDeclared.declared {p = p} {n = n} y) rest x = dims_walk y rest (any (after_name p n x))

pub declarator_walks : {d : Declarator} {xs : Tokens} → IsDeclarator d xs → {b : Counter} {o : List Counter} (rest : Tokens) → Any b o (xs ++ rest) → Walks b o (declarator_arms d) rest
declarator_walks (IsDeclarator.plain {p = p} {n = n} y) rest x = let r = dims_walk y rest (any (after_name p n x)) in (none_fit r, r)
declarator_walks (IsDeclarator.initialised {p = p} {n = n} {xs = xs} {ys = ys} q y z) rest x =
    let front = dims_walk y (sign q punct.Equal ∷ (ys ++ rest)) (apart xs (sign q punct.Equal ∷ ys) rest (any (after_name p n x))) in
    let r = init_walks z rest (inl refl) (after_counted q punct.Equal (λ list on s. refl) front) in
    let fit = r.0 in
    (omega (arith, fit), less_one r.1)

pub declarators_walk : {ds : List Declarator} {xs : Tokens} → Commas IsDeclarator ds xs → {b : Counter} {o : List Counter} (rest : Tokens) → IsKept b → Any b o (xs ++ rest) → Walks b o (deepest (map declarator_arms ds)) rest
declarators_walk (Commas.one y) rest kept x =
    let r = declarator_walks y rest x in
    let fit = r.0 in
    (omega (arith, fit), r.1)
declarators_walk (Commas.more {xs = xs} {ys = ys} p y z) rest kept x =
    let first = declarator_walks y (sign p punct.Comma ∷ (ys ++ rest)) (apart xs (sign p punct.Comma ∷ ys) rest x) in
    let second = declarators_walk z rest kept (any (after_comma p kept first.1)) in
    let front = first.0 in
    let fit = second.0 in
    (omega (arith, front, fit), second.1)

any_declarators_walk : {ds : List Declarator} {xs : Tokens} → IsDeclarators ds xs → {b : Counter} {o : List Counter} (rest : Tokens) → IsKept b → Any b o (xs ++ rest) → Walks b o (deepest (map declarator_arms ds)) rest
any_declarators_walk IsDeclarators.none rest kept x = (none_fit x, x)
any_declarators_walk (IsDeclarators.some y) rest kept x = declarators_walk y rest kept x

-- ---- members

struct_member_passes : {list : Bool} {o : List Counter} → Passes IsStructMember (fresh list) o
struct_member_passes {list = list} _ _ (IsStructMember.member {xs = xs} {ys = ys} q y z) rest x =
    let front = type_walks y ((ys ++ sign q punct.Semicolon ∷ []) ++ rest) (apart xs (ys ++ sign q punct.Semicolon ∷ []) rest x) in
    let r = commas_pass declared_passes z (inl (omega arith)) (sign q punct.Semicolon ∷ rest) (apart ys (sign q punct.Semicolon ∷ []) rest front) in
    low_left rest (low_fresh list) (any (after_semicolon q r))

pub struct_passes : {b : Counter} {o : List Counter} → Passes IsStruct b o
struct_passes _ _ (IsStruct.struct {p = p} {q = q} {n = n} {xs = xs} o c y) rest x =
    let front = after_name q n (any (quiet p (kind.Key key.Struct) (λ list label on s. refl) x)) in
    let inside = into_brace o front in
    let r = some_pass struct_member_passes y (sign c punct.RightBrace ∷ rest) (apart xs (sign c punct.RightBrace ∷ []) rest (any inside.at)) in
    any (out_of_list c refl inside.least r)

member_passes : {list : Bool} {o : List Counter} → Passes IsMember (fresh list) o
member_passes {list = list} _ _ (IsMember.member {xs = xs} {ys = ys} {zs = zs} q w y z) rest x =
    let quals = quals_pass w ((ys ++ (zs ++ sign q punct.Semicolon ∷ [])) ++ rest) (apart xs (ys ++ (zs ++ sign q punct.Semicolon ∷ [])) rest x) in
    let front = type_walks y ((zs ++ sign q punct.Semicolon ∷ []) ++ rest) (apart ys (zs ++ sign q punct.Semicolon ∷ []) rest quals) in
    let r = commas_pass declared_passes z (inl (omega arith)) (sign q punct.Semicolon ∷ rest) (apart zs (sign q punct.Semicolon ∷ []) rest front) in
    low_left rest (low_fresh list) (any (after_semicolon q r))

-- ---- declarations

-- arms that fit, and what stands behind a statement that ends
abbrev pub Ends : Counter → List Counter → ℕ → Tokens → Type 0
Ends b o n rest = Room b o n × Any (left b rest) o rest

pub variables_end : {d : Decl} {xs : Tokens} → IsVariables d xs → {b : Counter} {o : List Counter} (rest : Tokens) → IsKept b → Any b o (xs ++ rest) → Ends b o (decl_arms d) rest
variables_end (IsVariables.variables {xs = xs} {ys = ys} {zs = zs} q w y z) rest kept x =
    let quals = quals_pass w ((ys ++ (zs ++ sign q punct.Semicolon ∷ [])) ++ rest) (apart xs (ys ++ (zs ++ sign q punct.Semicolon ∷ [])) rest x) in
    let front = type_walks y ((zs ++ sign q punct.Semicolon ∷ []) ++ rest) (apart ys (zs ++ sign q punct.Semicolon ∷ []) rest quals) in
    let r = declarators_walk z (sign q punct.Semicolon ∷ rest) kept (apart zs (sign q punct.Semicolon ∷ []) rest front) in
    (r.0, any (after_semicolon q r.1))

pub local_ends : {d : Decl} {xs : Tokens} → IsLocal d xs → {b : Counter} {o : List Counter} (rest : Tokens) → IsKept b → Any b o (xs ++ rest) → Ends b o (decl_arms d) rest
local_ends (IsLocal.variables y) rest kept x = variables_end y rest kept x
local_ends (IsLocal.struct {xs = xs} {ys = ys} {zs = zs} q w y z) rest kept x =
    let quals = quals_pass w ((ys ++ (zs ++ sign q punct.Semicolon ∷ [])) ++ rest) (apart xs (ys ++ (zs ++ sign q punct.Semicolon ∷ [])) rest x) in
    let front = struct_passes _ _ y ((zs ++ sign q punct.Semicolon ∷ []) ++ rest) (apart ys (zs ++ sign q punct.Semicolon ∷ []) rest quals) in
    let r = any_declarators_walk z (sign q punct.Semicolon ∷ rest) kept (apart zs (sign q punct.Semicolon ∷ []) rest front) in
    (r.0, any (after_semicolon q r.1))

instance_passes : {b : Counter} {o : List Counter} → Passes IsInstance b o
instance_passes _ _ IsInstance.none rest x = x
instance_passes _ _ (IsInstance.some {p = p} {n = n}) rest x = any (after_name p n x)

pub decl_ends : {d : Decl} {xs : Tokens} → IsDecl d xs → {b : Counter} {o : List Counter} (rest : Tokens) → IsKept b → Any b o (xs ++ rest) → Ends b o (decl_arms d) rest
decl_ends (IsDecl.local y) rest kept x = local_ends y rest kept x
decl_ends (IsDecl.block {p = p} {n = n} {xs = xs} {ys = ys} {zs = zs} o c q w y z) rest kept x =
    let last = zs ++ sign q punct.Semicolon ∷ [] in
    let middle = ys ++ sign c punct.RightBrace ∷ last in
    let quals = some_pass qual_passes w (token p (kind.Name n) ∷ (sign o punct.LeftBrace ∷ (middle ++ rest))) (apart xs (token p (kind.Name n) ∷ (sign o punct.LeftBrace ∷ middle)) rest x) in
    let inside = into_brace o (after_name p n quals) in
    let members = some_pass member_passes y (sign c punct.RightBrace ∷ (last ++ rest)) (apart ys (sign c punct.RightBrace ∷ last) rest (any inside.at)) in
    let r = instance_passes _ _ z (sign q punct.Semicolon ∷ rest) (apart zs (sign q punct.Semicolon ∷ []) rest (any (out_of_list c refl inside.least members))) in
    (none_fit r, any (after_semicolon q r))
decl_ends (IsDecl.quals {xs = xs} q w) rest kept x =
    let r = some_pass qual_passes w (sign q punct.Semicolon ∷ rest) (apart xs (sign q punct.Semicolon ∷ []) rest x) in (none_fit r, any (after_semicolon q r))
