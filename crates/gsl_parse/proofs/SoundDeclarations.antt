-- Structs, variables and phrases stand for the tokens that were taken.
use Rattle.std.proofs.Common.{◌≡◌, ℕ, Bool, true, false, cond, ◌&&◌, List, [], ◌∷◌, ◌++◌, Ok, refl, subst, append_assoc, arith}
use Rattle.gsl_base.specs.declared.token.Punct.TheVariants as punct
use Rattle.gsl_base.specs.declared.token.Key.TheVariants as key
use Rattle.gsl_base.specs.declared.token.Kind.TheVariants as kind
use Rattle.gsl_syntax.specs.declared.expr.TypeSpec.{TypeSpec}
use Rattle.gsl_syntax.specs.declared.declaration.Qual.{Qual}
use Rattle.gsl_syntax.specs.declared.declaration.Decl.TheVariants as decl
use Rattle.gsl_syntax.specs.declared.statement.ForInit.TheVariants as for_init
use Rattle.gsl_syntax.specs.Phrases.{token, sign, word, IsExpr, IsType}
use Rattle.gsl_syntax.specs.Declarations.{Commas, Row, Some_of, IsQual, IsDeclared, IsDeclarator, IsDeclarators, IsStructMember, IsStruct, IsMember, IsVariables, IsLocal}
use Rattle.gsl_syntax.specs.Declarations as decls
use Rattle.gsl_syntax.specs.Statements.{IsForInit}
use Rattle.gsl_syntax.specs.Statements as stmts
use Rattle.gsl_expr.specs.declared.rule.Start.{Start}
use Rattle.gsl_expr.specs.declared.rule.Start.TheVariants as start
use Rattle.gsl_expr.specs.declared.rule.Head.{Head}
use Rattle.gsl_expr.specs.Rules.{start_at}
use Rattle.gsl_expr.specs.Reading.{Tokens, and_then, ◌>>=◌, pure, take_one, sees, sees_key, expect, name}
use Rattle.gsl_expr.specs.Expressions.{expr, basic_head, named_head, head_type, may_be_open, applied, completed}
use Rattle.gsl_expr.proofs.Taken.{Good, good_ok, good_weaken, good_map, good_then, good_expect, good_name, good_sign, good_word, good_close}
use Rattle.gsl_expr.proofs.SoundHeads.{Stands, stands_type}
use Rattle.gsl_expr.proofs.Sound.{expr_sound, named_head_sound, basic_head_sound, head_rest_sound}
use Rattle.gsl_parse.specs.Lists.{some_of, commas_of}
use Rattle.gsl_expr.specs.Names.{sees_name}
use Rattle.gsl_parse.specs.Qualifiers.{begins_qual, qualifiers, typed}
use Rattle.gsl_parse.specs.Variables.{declared, declarator_at, open_brace, struct_member, structure, member, declarators, variables_of, variables, struct_variables, local_from, expr_from, phrase_from, phrase_as, phrase, header}
use Rattle.gsl_parse.proofs.SoundLists.{some_of_sound, commas_of_sound}
pub use Rattle.gsl_parse.proofs.SoundDeclarators.{qualifiers_sound, typed_sound, declared_sound, declarator_from_sound, declarator_sound}

-- ---- structs and members

pub struct_member_sound : (d : ℕ) (ts : Tokens) → Good IsStructMember ts (struct_member d ts)
unfolding struct_member
struct_member_sound d ts =
    good_then IsType IsStructMember ts (typed d ts) (λ t. commas_of (declared d) >>= λ ns. expect punct.Semicolon >>= λ _. pure (record { ty = t; names = ns })) (typed_sound d ts)
    (λ t xs rest s w. good_then (Commas IsDeclared) (λ m ys. IsStructMember m (xs ++ ys)) rest (commas_of (declared d) rest) (λ ns. expect punct.Semicolon >>= λ _. pure (record { ty = t; names = ns }))
    (commas_of_sound IsDeclared (declared d) (declared_sound d) rest)
    (λ ns ys after s2 v. good_close (λ m zs. IsStructMember m (xs ++ (ys ++ zs))) punct.Semicolon (record { ty = t; names = ns }) after (λ q. decls.IsStructMember.member q w v)))

pub structure_sound : (d : ℕ) (ts : Tokens) → sees_key key.Struct ts ≡ true → Good IsStruct ts (structure d ts)
unfolding structure
structure_sound d ts h =
    good_word IsStruct key.Struct ts (λ p. name >>= λ n. expect punct.LeftBrace >>= λ _. some_of open_brace (struct_member d) >>= λ ms. expect punct.RightBrace >>= λ _. pure (record { place = p; name = n; members = ms })) h
    (λ p rest s. good_name (λ b ys. IsStruct b (word p key.Struct ∷ ys)) rest (λ n. expect punct.LeftBrace >>= λ _. some_of open_brace (struct_member d) >>= λ ms. expect punct.RightBrace >>= λ _. pure (record { place = p; name = n; members = ms }))
    (λ n after s2. good_expect (λ b ys. IsStruct b (word p key.Struct ∷ (token n.place (kind.Name n.text) ∷ ys))) punct.LeftBrace after
    (λ _. some_of open_brace (struct_member d) >>= λ ms. expect punct.RightBrace >>= λ _. pure (record { place = p; name = n; members = ms }))
    (λ o last s3. good_then (Some_of IsStructMember) (λ b ys. IsStruct b (word p key.Struct ∷ (token n.place (kind.Name n.text) ∷ (sign o punct.LeftBrace ∷ ys)))) last (some_of open_brace (struct_member d) last)
    (λ ms. expect punct.RightBrace >>= λ _. pure (record { place = p; name = n; members = ms })) (some_of_sound IsStructMember (struct_member d) (struct_member_sound d) open_brace last)
    (λ ms xs end s4 w. good_close (λ b ys. IsStruct b (word p key.Struct ∷ (token n.place (kind.Name n.text) ∷ (sign o punct.LeftBrace ∷ (xs ++ ys))))) punct.RightBrace (record { place = p; name = n; members = ms }) end
    (λ c. decls.IsStruct.struct o c w)))))

pub member_sound : (d : ℕ) (ts : Tokens) → Good IsMember ts (member d ts)
unfolding member
member_sound d ts =
    good_then (Row IsQual) IsMember ts (qualifiers d ts) (λ qs. typed d >>= λ t. commas_of (declared d) >>= λ ns. expect punct.Semicolon >>= λ _. pure (record { quals = qs; ty = t; names = ns })) (qualifiers_sound d ts)
    (λ qs us rest s u. good_then IsType (λ m ys. IsMember m (us ++ ys)) rest (typed d rest) (λ t. commas_of (declared d) >>= λ ns. expect punct.Semicolon >>= λ _. pure (record { quals = qs; ty = t; names = ns })) (typed_sound d rest)
    (λ t xs after s2 w. good_then (Commas IsDeclared) (λ m ys. IsMember m (us ++ (xs ++ ys))) after (commas_of (declared d) after) (λ ns. expect punct.Semicolon >>= λ _. pure (record { quals = qs; ty = t; names = ns }))
    (commas_of_sound IsDeclared (declared d) (declared_sound d) after)
    (λ ns ys last s3 v. good_close (λ m zs. IsMember m (us ++ (xs ++ (ys ++ zs)))) punct.Semicolon (record { quals = qs; ty = t; names = ns }) last (λ q. decls.IsMember.member q u w v))))

-- ---- variables

pub declarators_sound : (d : ℕ) (ts : Tokens) → Good IsDeclarators ts (declarators d ts)
unfolding declarators
declarators_sound d ts = go (sees punct.Semicolon ts)
  where
    go : (b : Bool) → Good IsDeclarators ts (cond b (Ok ([], ts)) (commas_of (declarator_at d) ts))
    go true = good_ok IsDeclarators ts [] decls.IsDeclarators.none
    go false = good_weaken (Commas IsDeclarator) IsDeclarators ts (commas_of (declarator_at d) ts) (commas_of_sound IsDeclarator (declarator_at d) (declarator_sound d) ts) (λ ds xs w. decls.IsDeclarators.some w)

pub variables_of_sound : (d : ℕ) (qs : List Qual) (us : Tokens) (t : TypeSpec) (vs ts : Tokens) → Row IsQual qs us → IsType t vs → Good (λ x ys. IsVariables x (us ++ (vs ++ ys))) ts (variables_of d qs t ts)
unfolding variables_of
variables_of_sound d qs us t vs ts u w =
    good_then (Commas IsDeclarator) (λ x ys. IsVariables x (us ++ (vs ++ ys))) ts (commas_of (declarator_at d) ts) (λ ds. expect punct.Semicolon >>= λ _. pure (decl.Variables qs t ds))
    (commas_of_sound IsDeclarator (declarator_at d) (declarator_sound d) ts)
    (λ ds xs rest s v. good_close (λ x ys. IsVariables x (us ++ (vs ++ (xs ++ ys)))) punct.Semicolon (decl.Variables qs t ds) rest (λ q. decls.IsVariables.variables q u w v))

pub variables_sound : (d : ℕ) (qs : List Qual) (us ts : Tokens) → Row IsQual qs us → Good (λ x ys. IsVariables x (us ++ ys)) ts (variables d qs ts)
unfolding variables
variables_sound d qs us ts u =
    good_then IsType (λ x ys. IsVariables x (us ++ ys)) ts (typed d ts) (variables_of d qs) (typed_sound d ts) (λ t vs rest s w. variables_of_sound d qs us t vs rest u w)

pub struct_variables_sound : (d : ℕ) (qs : List Qual) (us ts : Tokens) → sees_key key.Struct ts ≡ true → Row IsQual qs us → Good (λ x ys. IsLocal x (us ++ ys)) ts (struct_variables d qs ts)
unfolding struct_variables
struct_variables_sound d qs us ts h u =
    good_then IsStruct (λ x ys. IsLocal x (us ++ ys)) ts (structure d ts) (λ s. declarators d >>= λ ds. expect punct.Semicolon >>= λ _. pure (decl.Struct qs s ds)) (structure_sound d ts h)
    (λ s xs rest e w. good_then IsDeclarators (λ x ys. IsLocal x (us ++ (xs ++ ys))) rest (declarators d rest) (λ ds. expect punct.Semicolon >>= λ _. pure (decl.Struct qs s ds)) (declarators_sound d rest)
    (λ ds ys after e2 v. good_close (λ x zs. IsLocal x (us ++ (xs ++ (ys ++ zs)))) punct.Semicolon (decl.Struct qs s ds) after (λ q. decls.IsLocal.struct q u w v)))

pub local_from_sound : (d : ℕ) (qs : List Qual) (us ts : Tokens) → Row IsQual qs us → Good (λ x ys. IsLocal x (us ++ ys)) ts (local_from d qs ts)
unfolding local_from
local_from_sound d qs us ts u = go (sees_key key.Struct ts) refl
  where
    go : (b : Bool) → sees_key key.Struct ts ≡ b → Good (λ x ys. IsLocal x (us ++ ys)) ts (cond b (struct_variables d qs ts) (variables d qs ts))
    go true h = struct_variables_sound d qs us ts h u
    go false h = good_weaken (λ x ys. IsVariables x (us ++ ys)) (λ x ys. IsLocal x (us ++ ys)) ts (variables d qs ts) (variables_sound d qs us ts u) (λ x ys w. decls.IsLocal.variables w)

-- ---- an expression or variables

expr_from_sound : (d : ℕ) (h : Head) (xs ts : Tokens) → Stands h xs → Good (λ i ys. IsForInit i (xs ++ ys)) ts (expr_from d h ts)
expr_from_sound d h xs ts s =
    good_then (λ a ys. IsExpr 0 a (xs ++ ys)) (λ i ys. IsForInit i (xs ++ ys)) ts (and_then (applied (expr d) h ts) (completed (expr d) 0)) (λ a. expect punct.Semicolon >>= λ _. pure (for_init.Expr a)) (head_rest_sound d h xs ts s)
    (λ a ys rest e w. good_close (λ i zs. IsForInit i (xs ++ (ys ++ zs))) punct.Semicolon (for_init.Expr a) rest
    (λ q. subst (λ (z : Tokens). IsForInit (for_init.Expr a) z) (append_assoc xs ys (sign q punct.Semicolon ∷ [])) (stmts.IsForInit.expr q w)))

phrase_from_sound : (d : ℕ) (h : Head) (xs ts : Tokens) → Stands h xs → Good (λ i ys. IsForInit i (xs ++ ys)) ts (phrase_from d h ts)
unfolding phrase_from
phrase_from_sound d h xs ts s = go (sees_name ts) (may_be_open h.mode) refl
  where
    go : (b c : Bool) → may_be_open h.mode ≡ c
        → Good (λ i ys. IsForInit i (xs ++ ys)) ts (cond (b && c) (and_then (variables_of d [] (head_type h) ts) (λ x. pure (for_init.Decl x))) (expr_from d h ts))
    go true true o =
        good_map (λ x ys. IsVariables x (xs ++ ys)) (λ i ys. IsForInit i (xs ++ ys)) (λ x. for_init.Decl x) ts (variables_of d [] (head_type h) ts)
        (variables_of_sound d [] [] (head_type h) xs ts decls.Row.done (stands_type o s)) (λ x ys w. stmts.IsForInit.decl w)
    go true false o = expr_from_sound d h xs ts s
    go false true o = expr_from_sound d h xs ts s
    go false false o = expr_from_sound d h xs ts s

plain_phrase : (d : ℕ) (ts : Tokens) → Good IsForInit ts (and_then (expr d 0 ts) (λ a. expect punct.Semicolon >>= λ _. pure (for_init.Expr a)))
plain_phrase d ts =
    good_then (IsExpr 0) IsForInit ts (expr d 0 ts) (λ a. expect punct.Semicolon >>= λ _. pure (for_init.Expr a)) (expr_sound d 0 ts (omega arith))
    (λ a xs rest e w. good_close (λ i ys. IsForInit i (xs ++ ys)) punct.Semicolon (for_init.Expr a) rest (λ q. stmts.IsForInit.expr q w))

phrase_as_sound : (d : ℕ) (s : Start) (ts : Tokens) → start_at ts ≡ s → Good IsForInit ts (phrase_as d s ts)
phrase_as_sound d start.Name ts h = good_then Stands IsForInit ts (named_head (expr d) ts) (phrase_from d) (named_head_sound d ts) (λ g xs rest e s. phrase_from_sound d g xs rest s)
phrase_as_sound d (start.Basic b) ts h =
    good_then Stands IsForInit ts (basic_head (expr d) b ts) (phrase_from d) (basic_head_sound d b ts h) (λ g xs rest e s. phrase_from_sound d g xs rest s)
phrase_as_sound d (start.Signed n) ts h = plain_phrase d ts
phrase_as_sound d (start.Unsigned n) ts h = plain_phrase d ts
phrase_as_sound d (start.Bool b) ts h = plain_phrase d ts
phrase_as_sound d start.Paren ts h = plain_phrase d ts
phrase_as_sound d (start.Unary o) ts h = plain_phrase d ts
phrase_as_sound d start.Bad ts h = plain_phrase d ts

pub phrase_sound : (d : ℕ) (ts : Tokens) → Good IsForInit ts (phrase d ts)
unfolding phrase
phrase_sound d ts = phrase_as_sound d (start_at ts) ts refl

pub header_sound : (d : ℕ) (ts : Tokens) → Good IsForInit ts (header d ts)
unfolding header
header_sound d ts = go (sees punct.Semicolon ts) (begins_qual ts) refl
  where
    go : (b c : Bool) → sees punct.Semicolon ts ≡ b
        → Good IsForInit ts
        (cond b (and_then (take_one ts) (λ p. pure (for_init.Empty p))) (cond c (and_then (and_then (qualifiers d ts) (variables d)) (λ x. pure (for_init.Decl x))) (phrase d ts)))
    go true c h = good_sign IsForInit punct.Semicolon ts (λ p. pure (for_init.Empty p)) h (λ p rest e. good_ok (λ i ys. IsForInit i (sign p punct.Semicolon ∷ ys)) rest (for_init.Empty p) stmts.IsForInit.empty)
    go false true h =
        good_map IsVariables IsForInit (λ x. for_init.Decl x) ts (and_then (qualifiers d ts) (variables d))
        (good_then (Row IsQual) IsVariables ts (qualifiers d ts) (variables d) (qualifiers_sound d ts) (λ qs us rest e u. variables_sound d qs us rest u)) (λ x xs w. stmts.IsForInit.decl w)
    go false false h = phrase_sound d ts
