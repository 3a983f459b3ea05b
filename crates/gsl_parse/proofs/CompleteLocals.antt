-- Structs, members and variables that the grammar derives are read.
use Rattle.std.proofs.Common.{◌≡◌, refl, ap, ◌∙◌, ℕ, ◌≤◌, true, false, not, List, [], ◌∷◌, ◌++◌, length, Ok, append_assoc, length-append, arith}
use Rattle.gsl_base.specs.declared.fault.Place.{Place}
use Rattle.gsl_base.specs.declared.token.Punct.{Punct}
use Rattle.gsl_base.specs.declared.token.Punct.TheVariants as punct
use Rattle.gsl_base.specs.declared.token.Key.TheVariants as key
use Rattle.gsl_base.specs.declared.token.Kind.TheVariants as kind
use Rattle.gsl_base.specs.declared.token.Token.{Token}
use Rattle.gsl_syntax.specs.declared.expr.TypeSpec.{TypeSpec}
use Rattle.gsl_syntax.specs.declared.declaration.Qual.{Qual}
use Rattle.gsl_syntax.specs.declared.declaration.Declared.{Declared}
use Rattle.gsl_syntax.specs.declared.declaration.Declarator.{Declarator}
use Rattle.gsl_syntax.specs.declared.declaration.StructMember.{StructMember}
use Rattle.gsl_syntax.specs.declared.declaration.Struct.{Struct}
use Rattle.gsl_syntax.specs.declared.declaration.Member.{Member}
use Rattle.gsl_syntax.specs.declared.declaration.Decl.{Decl}
use Rattle.gsl_syntax.specs.declared.declaration.Decl.TheVariants as decl
use Rattle.gsl_syntax.specs.Phrases.{token, sign, word, IsType}
use Rattle.gsl_syntax.specs.Declarations.{name_at, Commas, Row, IsQual, IsDeclarator, IsDeclarators, IsStructMember, IsStruct, IsMember, IsLocal}
use Rattle.gsl_syntax.specs.Declarations.Row.{done, next}
use Rattle.gsl_syntax.specs.Declarations.IsStructMember.{member as struct_member_is}
use Rattle.gsl_syntax.specs.Declarations.IsStruct.{struct as struct_is}
use Rattle.gsl_syntax.specs.Declarations.IsMember.{member as member_is}
use Rattle.gsl_syntax.specs.Declarations.IsVariables.{variables as variables_is}
use Rattle.gsl_syntax.specs.Declarations.IsLocal.{variables as local_variables, struct as local_struct}
use Rattle.gsl_expr.specs.Reading.{Tokens, Outcome, and_then, ◌>>=◌, pure, sees, sees_key, expect, name as take_name}
use Rattle.gsl_expr.proofs.Openings.{not_right_brace}
use Rattle.gsl_expr.proofs.Standing.{regroup_behind}
use Rattle.gsl_parse.specs.Lists.{some_of, commas_of}
use Rattle.gsl_parse.specs.Qualifiers.{plain_at, begins_qual, qualifiers, typed}
use Rattle.gsl_parse.specs.Variables.{declared, declarator_at, open_brace, struct_member, structure, member, declarators, variables_of, variables, struct_variables, local_from}
use Rattle.gsl_parse.proofs.CompleteLists.{Rowed, some_complete}
use Rattle.gsl_parse.proofs.CompleteBegins.{good_no_qual, good_not_struct, type_good, type_filled, qual_no_sign}
use Rattle.gsl_parse.proofs.CompleteDeclarations.{qualifiers_complete, typed_complete, names_complete, names_no_bracket}
use Rattle.gsl_parse.proofs.CompleteInits.{commas_of_declarators, declarators_no_bracket, declarators_complete}

-- ---- lists of tokens

pub end_three : (xs ys zs : Tokens) (t : Token) (rest : Tokens) → (xs ++ (ys ++ (zs ++ t ∷ []))) ++ rest ≡ xs ++ (ys ++ (zs ++ t ∷ rest))
end_three xs ys zs t rest = append_assoc xs (ys ++ (zs ++ t ∷ [])) rest ∙ ap (λ (z : Tokens). xs ++ z) (regroup_behind ys zs t [] rest)

-- ---- members

abbrev line : TypeSpec → List Declared → StructMember
line t ns = record { ty = t; names = ns }

struct_member_reads : (d : ℕ) (t : TypeSpec) (ns : List Declared) (q : Place) (ts us rest : Tokens) → typed d ts ≡ Ok (t, us) → commas_of (declared d) us ≡ Ok (ns, sign q punct.Semicolon ∷ rest) → struct_member d ts ≡ Ok (line t ns, rest)
unfolding struct_member expect sees
struct_member_reads d t ns q ts us rest x y =
    ap (λ (r : Outcome TypeSpec). and_then r (λ t. commas_of (declared d) >>= λ ns. expect punct.Semicolon >>= λ _. pure (line t ns))) x
    ∙ ap (λ (r : Outcome (List Declared)). and_then r (λ ns. expect punct.Semicolon >>= λ _. pure (line t ns))) y

pub struct_member_complete : {a : StructMember} {xs : Tokens} → IsStructMember a xs → (d : ℕ) (rest : Tokens) → length (xs ++ rest) ≤ d → struct_member d (xs ++ rest) ≡ Ok (a, rest)
struct_member_complete (struct_member_is {t = t} {ns = ns} {xs = xs} {ys = ys} q x y) d rest fits =
    let us = ys ++ sign q punct.Semicolon ∷ rest in
    let same : (xs ++ (ys ++ sign q punct.Semicolon ∷ [])) ++ rest ≡ xs ++ us = regroup_behind xs ys (sign q punct.Semicolon) [] rest in
    let long = length-append xs us in
    ap (struct_member d) same
    ∙ struct_member_reads d t ns q (xs ++ us) us rest (typed_complete x d us (omega (arith, ap length same)) (names_no_bracket y (sign q punct.Semicolon ∷ rest))) (names_complete y d q rest (omega (arith, ap length same)))

open_by : (ts : Tokens) → sees punct.RightBrace ts ≡ false → 1 ≤ length ts → open_brace ts ≡ true
unfolding open_brace
open_by [] h some = absurd (omega arith)
open_by (t ∷ ts) h some = ap not h

pub closed_by : (p : Place) (ts : Tokens) → open_brace (sign p punct.RightBrace ∷ ts) ≡ false
unfolding open_brace sees
closed_by p ts = refl

filled_more : (xs ys : Tokens) → 1 ≤ length xs → 1 ≤ length (xs ++ ys)
filled_more xs ys h = omega (arith, length-append xs ys)

struct_member_opens : {a : StructMember} {xs : Tokens} → IsStructMember a xs → (rest : Tokens) → open_brace (xs ++ rest) ≡ true
struct_member_opens (struct_member_is {xs = xs} {ys = ys} q x y) rest =
    let us = ys ++ sign q punct.Semicolon ∷ rest in
    ap open_brace (regroup_behind xs ys (sign q punct.Semicolon) [] rest) ∙ open_by (xs ++ us) (not_right_brace (xs ++ us) (type_good x us)) (filled_more xs us (type_filled x))

struct_member_filled : {a : StructMember} {xs : Tokens} → IsStructMember a xs → 1 ≤ length xs
struct_member_filled (struct_member_is {xs = xs} {ys = ys} q x y) = filled_more xs (ys ++ sign q punct.Semicolon ∷ []) (type_filled x)

lines : (d : ℕ) → Rowed IsStructMember open_brace (struct_member d) d
lines d = record { reads = λ a xs rest x fits. struct_member_complete x d rest fits; filled = λ a xs x. struct_member_filled x; start = λ a xs rest x. struct_member_opens x rest }

abbrev block_line : List Qual → TypeSpec → List Declared → Member
block_line qs t ns = record { quals = qs; ty = t; names = ns }

member_reads : (d : ℕ) (qs : List Qual) (t : TypeSpec) (ns : List Declared) (q : Place) (ts us vs rest : Tokens) → qualifiers d ts ≡ Ok (qs, us) → typed d us ≡ Ok (t, vs)
    → commas_of (declared d) vs ≡ Ok (ns, sign q punct.Semicolon ∷ rest) → member d ts ≡ Ok (block_line qs t ns, rest)
unfolding member expect sees
member_reads d qs t ns q ts us vs rest w x y =
    ap (λ (r : Outcome (List Qual)). and_then r (λ qs. typed d >>= λ t. commas_of (declared d) >>= λ ns. expect punct.Semicolon >>= λ _. pure (block_line qs t ns))) w
    ∙ ap (λ (r : Outcome TypeSpec). and_then r (λ t. commas_of (declared d) >>= λ ns. expect punct.Semicolon >>= λ _. pure (block_line qs t ns))) x
    ∙ ap (λ (r : Outcome (List Declared)). and_then r (λ ns. expect punct.Semicolon >>= λ _. pure (block_line qs t ns))) y

pub member_complete : {a : Member} {xs : Tokens} → IsMember a xs → (d : ℕ) (rest : Tokens) → length (xs ++ rest) ≤ d → member d (xs ++ rest) ≡ Ok (a, rest)
member_complete (member_is {qs = qs} {t = t} {ns = ns} {xs = xs} {ys = ys} {zs = zs} q w x y) d rest fits =
    let vs = zs ++ sign q punct.Semicolon ∷ rest in
    let us = ys ++ vs in
    let same : (xs ++ (ys ++ (zs ++ sign q punct.Semicolon ∷ []))) ++ rest ≡ xs ++ us = end_three xs ys zs (sign q punct.Semicolon) rest in
    let long = length-append xs us in
    let less = length-append ys vs in
    ap (member d) same
    ∙ member_reads d qs t ns q (xs ++ us) us vs rest
    (qualifiers_complete w d us (omega (arith, ap length same)) (good_no_qual us (type_good x vs)))
    (typed_complete x d vs (omega (arith, ap length same)) (names_no_bracket y (sign q punct.Semicolon ∷ rest)))
    (names_complete y d q rest (omega (arith, ap length same)))

-- what stands behind qualifiers tells whether a sign stands first
pub quals_no_sign : {qs : List Qual} {xs : Tokens} → Row IsQual qs xs → (m : Punct) (rest : Tokens) → sees m rest ≡ false → sees m (xs ++ rest) ≡ false
quals_no_sign done m rest h = h
quals_no_sign (next {xs = xs} {ys = ys} x y) m rest h = ap (sees m) (append_assoc xs ys rest) ∙ qual_no_sign x m (ys ++ rest)

member_opens : {a : Member} {xs : Tokens} → IsMember a xs → (rest : Tokens) → open_brace (xs ++ rest) ≡ true
member_opens (member_is {xs = xs} {ys = ys} {zs = zs} q w x y) rest =
    let vs = zs ++ sign q punct.Semicolon ∷ rest in
    ap open_brace (end_three xs ys zs (sign q punct.Semicolon) rest) ∙ open_by (xs ++ (ys ++ vs)) (quals_no_sign w punct.RightBrace (ys ++ vs) (not_right_brace (ys ++ vs) (type_good x vs)))
    (let some = filled_more ys vs (type_filled x) in omega (arith, length-append xs (ys ++ vs)))

member_filled : {a : Member} {xs : Tokens} → IsMember a xs → 1 ≤ length xs
member_filled (member_is {xs = xs} {ys = ys} {zs = zs} q w x y) =
    let some = type_filled x in
    let us = zs ++ sign q punct.Semicolon ∷ [] in
    omega (arith, length-append xs (ys ++ us), length-append ys us)

pub members : (d : ℕ) → Rowed IsMember open_brace (member d) d
members d = record { reads = λ a xs rest x fits. member_complete x d rest fits; filled = λ a xs x. member_filled x; start = λ a xs rest x. member_opens x rest }

-- ---- structs

abbrev struct_of : Place → Place → List ℕ → List StructMember → Struct
struct_of p q n ms = record { place = p; name = name_at q n; members = ms }

structure_reads : (d : ℕ) (p q o c : Place) (n : List ℕ) (ms : List StructMember) (ts rest : Tokens) → some_of open_brace (struct_member d) ts ≡ Ok (ms, sign c punct.RightBrace ∷ rest)
    → structure d (word p key.Struct ∷ (token q (kind.Name n) ∷ (sign o punct.LeftBrace ∷ ts))) ≡ Ok (struct_of p q n ms, rest)
unfolding structure take_name expect sees
structure_reads d p q o c n ms ts rest x = ap (λ (r : Outcome (List StructMember)). and_then r (λ ms. expect punct.RightBrace >>= λ _. pure (struct_of p q n ms))) x

pub structure_complete : {a : Struct} {xs : Tokens} → IsStruct a xs → (d : ℕ) (rest : Tokens) → length (xs ++ rest) ≤ d → structure d (xs ++ rest) ≡ Ok (a, rest)
structure_complete (struct_is {p = p} {q = q} {n = n} {ms = ms} {xs = xs} o c x) d rest fits =
    let us = sign c punct.RightBrace ∷ rest in
    let same : (xs ++ sign c punct.RightBrace ∷ []) ++ rest ≡ xs ++ us = append_assoc xs (sign c punct.RightBrace ∷ []) rest in
    ap (λ (z : Tokens). structure d (word p key.Struct ∷ (token q (kind.Name n) ∷ (sign o punct.LeftBrace ∷ z)))) same
    ∙ structure_reads d p q o c n ms (xs ++ us) rest (some_complete (lines d) x us (omega (arith, ap length same)) (closed_by c rest))

struct_no_qual_by : (p : Place) (ts : Tokens) → begins_qual (word p key.Struct ∷ ts) ≡ false
unfolding begins_qual plain_at sees_key
struct_no_qual_by p ts = refl

struct_seen_by : (p : Place) (ts : Tokens) → sees_key key.Struct (word p key.Struct ∷ ts) ≡ true
unfolding sees_key
struct_seen_by p ts = refl

pub struct_no_qual : {a : Struct} {xs : Tokens} → IsStruct a xs → (rest : Tokens) → begins_qual (xs ++ rest) ≡ false
struct_no_qual (struct_is {p = p} {q = q} {n = n} {xs = xs} o c x) rest = struct_no_qual_by p (token q (kind.Name n) ∷ (sign o punct.LeftBrace ∷ ((xs ++ sign c punct.RightBrace ∷ []) ++ rest)))

pub struct_seen : {a : Struct} {xs : Tokens} → IsStruct a xs → (rest : Tokens) → sees_key key.Struct (xs ++ rest) ≡ true
struct_seen (struct_is {p = p} {q = q} {n = n} {xs = xs} o c x) rest = struct_seen_by p (token q (kind.Name n) ∷ (sign o punct.LeftBrace ∷ ((xs ++ sign c punct.RightBrace ∷ []) ++ rest)))

struct_variables_reads : (d : ℕ) (qs : List Qual) (s : Struct) (ds : List Declarator) (q : Place) (ts us rest : Tokens) → structure d ts ≡ Ok (s, us) → declarators d us ≡ Ok (ds, sign q punct.Semicolon ∷ rest)
    → struct_variables d qs ts ≡ Ok (decl.Struct qs s ds, rest)
unfolding struct_variables expect sees
struct_variables_reads d qs s ds q ts us rest x y =
    ap (λ (r : Outcome Struct). and_then r (λ s. declarators d >>= λ ds. expect punct.Semicolon >>= λ _. pure (decl.Struct qs s ds))) x
    ∙ ap (λ (r : Outcome (List Declarator)). and_then r (λ ds. expect punct.Semicolon >>= λ _. pure (decl.Struct qs s ds))) y

pub struct_variables_complete : {s : Struct} {ds : List Declarator} {ys zs : Tokens} → IsStruct s ys → IsDeclarators ds zs → (d : ℕ) (qs : List Qual) (q : Place) (rest : Tokens) → length (ys ++ (zs ++ sign q punct.Semicolon ∷ rest)) ≤ d
    → struct_variables d qs (ys ++ (zs ++ sign q punct.Semicolon ∷ rest)) ≡ Ok (decl.Struct qs s ds, rest)
struct_variables_complete {s = s} {ds = ds} {ys = ys} {zs = zs} x y d qs q rest fits =
    let us = zs ++ sign q punct.Semicolon ∷ rest in
    let long = length-append ys us in
    struct_variables_reads d qs s ds q (ys ++ us) us rest (structure_complete x d us fits) (declarators_complete y d q rest (omega arith))

-- ---- variables

pub variables_of_reads : (d : ℕ) (qs : List Qual) (t : TypeSpec) (ds : List Declarator) (q : Place) (ts rest : Tokens) → commas_of (declarator_at d) ts ≡ Ok (ds, sign q punct.Semicolon ∷ rest) → variables_of d qs t ts ≡ Ok (decl.Variables qs t ds, rest)
unfolding variables_of expect sees
variables_of_reads d qs t ds q ts rest x = ap (λ (r : Outcome (List Declarator)). and_then r (λ ds. expect punct.Semicolon >>= λ _. pure (decl.Variables qs t ds))) x

variables_reads : (d : ℕ) (qs : List Qual) (t : TypeSpec) (ts us : Tokens) → typed d ts ≡ Ok (t, us) → variables d qs ts ≡ variables_of d qs t us
unfolding variables
variables_reads d qs t ts us x = ap (λ (r : Outcome TypeSpec). and_then r (variables_of d qs)) x

pub variables_complete : {t : TypeSpec} {ds : List Declarator} {ys zs : Tokens} → IsType t ys → Commas IsDeclarator ds zs → (d : ℕ) (qs : List Qual) (q : Place) (rest : Tokens) → length (ys ++ (zs ++ sign q punct.Semicolon ∷ rest)) ≤ d
    → variables d qs (ys ++ (zs ++ sign q punct.Semicolon ∷ rest)) ≡ Ok (decl.Variables qs t ds, rest)
variables_complete {t = t} {ds = ds} {ys = ys} {zs = zs} x y d qs q rest fits =
    let us = zs ++ sign q punct.Semicolon ∷ rest in
    let long = length-append ys us in
    variables_reads d qs t (ys ++ us) us (typed_complete x d us fits (declarators_no_bracket y (sign q punct.Semicolon ∷ rest)))
    ∙ variables_of_reads d qs t ds q us rest (commas_of_declarators y d q rest (omega arith))

-- ---- declarations among statements

local_struct_by : (d : ℕ) (qs : List Qual) (ts : Tokens) → sees_key key.Struct ts ≡ true → local_from d qs ts ≡ struct_variables d qs ts
unfolding local_from
local_struct_by d qs ts h = rw h refl

local_other_by : (d : ℕ) (qs : List Qual) (ts : Tokens) → sees_key key.Struct ts ≡ false → local_from d qs ts ≡ variables d qs ts
unfolding local_from
local_other_by d qs ts h = rw h refl

pub local_complete : {a : Decl} {xs : Tokens} → IsLocal a xs → (d : ℕ) (rest : Tokens) → length (xs ++ rest) ≤ d → (qualifiers d >>= local_from d) (xs ++ rest) ≡ Ok (a, rest)
local_complete (local_variables (variables_is {qs = qs} {t = t} {ds = ds} {xs = xs} {ys = ys} {zs = zs} q w x y)) d rest fits =
    let vs = zs ++ sign q punct.Semicolon ∷ rest in
    let us = ys ++ vs in
    let same : (xs ++ (ys ++ (zs ++ sign q punct.Semicolon ∷ []))) ++ rest ≡ xs ++ us = end_three xs ys zs (sign q punct.Semicolon) rest in
    let long = length-append xs us in
    let good = type_good x vs in
    ap (λ (z : Tokens). (qualifiers d >>= local_from d) z) same
    ∙ ap (λ (r : Outcome (List Qual)). and_then r (local_from d)) (qualifiers_complete w d us (omega (arith, ap length same)) (good_no_qual us good))
    ∙ local_other_by d qs us (good_not_struct us good)
    ∙ variables_complete x y d qs q rest (omega (arith, ap length same))
local_complete (local_struct {qs = qs} {s = s} {ds = ds} {xs = xs} {ys = ys} {zs = zs} q w x y) d rest fits =
    let vs = zs ++ sign q punct.Semicolon ∷ rest in
    let us = ys ++ vs in
    let same : (xs ++ (ys ++ (zs ++ sign q punct.Semicolon ∷ []))) ++ rest ≡ xs ++ us = end_three xs ys zs (sign q punct.Semicolon) rest in
    let long = length-append xs us in
    ap (λ (z : Tokens). (qualifiers d >>= local_from d) z) same
    ∙ ap (λ (r : Outcome (List Qual)). and_then r (local_from d)) (qualifiers_complete w d us (omega (arith, ap length same)) (struct_no_qual x vs))
    ∙ local_struct_by d qs us (struct_seen x vs)
    ∙ struct_variables_complete x y d qs q rest (omega (arith, ap length same))
