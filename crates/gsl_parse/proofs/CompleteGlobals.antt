-- What the reader does with each kind of item of a unit.
use Rattle.std.proofs.Common.{◌≡◌, refl, sym, ap, ◌∙◌, ℕ, true, false, List, [], ◌∷◌, ◌++◌, Option, Some, None, Ok}
use Rattle.std.proofs.lemmas.Bool.{and_right}
use Rattle.gsl_base.specs.declared.fault.Place.{Place}
use Rattle.gsl_base.specs.declared.token.Punct.TheVariants as punct
use Rattle.gsl_base.specs.declared.token.Key.TheVariants as key
use Rattle.gsl_base.specs.declared.token.Kind.TheVariants as kind
use Rattle.gsl_syntax.specs.declared.expr.TypeSpec.{TypeSpec}
use Rattle.gsl_syntax.specs.declared.declaration.Name.{Name}
use Rattle.gsl_syntax.specs.declared.declaration.Qual.{Qual}
use Rattle.gsl_syntax.specs.declared.declaration.Declarator.{Declarator}
use Rattle.gsl_syntax.specs.declared.declaration.Member.{Member}
use Rattle.gsl_syntax.specs.declared.declaration.Decl.{Decl}
use Rattle.gsl_syntax.specs.declared.declaration.Decl.TheVariants as decl
use Rattle.gsl_syntax.specs.declared.statement.Params.{Params}
use Rattle.gsl_syntax.specs.declared.statement.Body.{Body}
use Rattle.gsl_syntax.specs.declared.statement.Function.{Function}
use Rattle.gsl_syntax.specs.declared.statement.Global.TheVariants as global
use Rattle.gsl_syntax.specs.Phrases.{token, sign, word, IsType}
use Rattle.gsl_syntax.specs.Declarations.{name_at, IsInstance}
use Rattle.gsl_expr.specs.Names.{sees_name}
use Rattle.gsl_expr.specs.Rules.{start_at}
use Rattle.gsl_expr.specs.Reading.{Tokens, Outcome, and_then, ◌>>=◌, pure, sees, sees_key, expect, name as take_name}
use Rattle.gsl_expr.proofs.Openings.{is_good, not_semicolon}
use Rattle.gsl_parse.specs.Lists.{some_of, commas_of}
use Rattle.gsl_parse.specs.Qualifiers.{plain_at, begins_qual, qualifiers, typed}
use Rattle.gsl_parse.specs.Variables.{open_brace, member, declarator_at, struct_variables}
use Rattle.gsl_parse.specs.Units.{parameters, function_body, function_from, variables_from, named_from, instance, block, opens_block, global_from, global_at}
use Rattle.gsl_parse.proofs.CompleteInits.{dims_no_sign, behind_name}
use Rattle.gsl_parse.proofs.CompleteBegins.{good_not_struct}

-- ---- functions and variables, from the first name on

abbrev pub function_is : List Qual → TypeSpec → Name → Params → Body → Function
function_is qs t n ps b = record { quals = qs; ty = t; name = n; params = ps; body = b }

function_from_reads : (d : ℕ) (qs : List Qual) (t : TypeSpec) (n : Name) (o : Place) (ps : Params) (b : Body) (ts us rest : Tokens) → parameters d ts ≡ Ok (ps, us) → function_body d us ≡ Ok (b, rest)
    → function_from d qs t n (sign o punct.LeftParen ∷ ts) ≡ Ok (function_is qs t n ps b, rest)
unfolding function_from
function_from_reads d qs t n o ps b ts us rest x y =
    ap (λ (r : Outcome Params). and_then r (λ ps. function_body d >>= λ b. pure (function_is qs t n ps b))) x
    ∙ ap (λ (r : Outcome Body). and_then r (λ b. pure (function_is qs t n ps b))) y

named_function : (d : ℕ) (qs : List Qual) (t : TypeSpec) (n : Name) (o : Place) (ts : Tokens) → named_from d qs t n (sign o punct.LeftParen ∷ ts) ≡ and_then (function_from d qs t n (sign o punct.LeftParen ∷ ts)) (λ f. pure (global.Function f))
unfolding named_from sees
named_function d qs t n o ts = refl

pub function_reads : (d : ℕ) (qs : List Qual) (t : TypeSpec) (n : Name) (o : Place) (ps : Params) (b : Body) (ts us rest : Tokens) → parameters d ts ≡ Ok (ps, us) → function_body d us ≡ Ok (b, rest)
    → named_from d qs t n (sign o punct.LeftParen ∷ ts) ≡ Ok (global.Function (function_is qs t n ps b), rest)
function_reads d qs t n o ps b ts us rest x y =
    named_function d qs t n o ts ∙ ap (λ (r : Outcome Function). and_then r (λ f. pure (global.Function f))) (function_from_reads d qs t n o ps b ts us rest x y)

named_variables : (d : ℕ) (qs : List Qual) (t : TypeSpec) (n : Name) (ts : Tokens) → sees punct.LeftParen ts ≡ false → named_from d qs t n ts ≡ and_then (variables_from d qs t n ts) (λ x. pure (global.Decl x))
unfolding named_from
named_variables d qs t n ts h = rw h refl

variables_from_reads : (d : ℕ) (qs : List Qual) (t : TypeSpec) (p q : Place) (n : List ℕ) (ds : List Declarator) (ts rest : Tokens) → commas_of (declarator_at d) (token p (kind.Name n) ∷ ts) ≡ Ok (ds, sign q punct.Semicolon ∷ rest)
    → variables_from d qs t (name_at p n) ts ≡ Ok (decl.Variables qs t ds, rest)
unfolding variables_from expect sees
variables_from_reads d qs t p q n ds ts rest x =
    ap (λ (r : Outcome (List Declarator)). and_then r (λ ds. expect punct.Semicolon >>= λ _. pure (decl.Variables qs t ds))) (sym (behind_name d p n ts) ∙ x)

pub variables_reads : (d : ℕ) (qs : List Qual) (t : TypeSpec) (p q : Place) (n : List ℕ) (ds : List Declarator) (ts rest : Tokens) → sees punct.LeftParen ts ≡ false
    → commas_of (declarator_at d) (token p (kind.Name n) ∷ ts) ≡ Ok (ds, sign q punct.Semicolon ∷ rest) → named_from d qs t (name_at p n) ts ≡ Ok (global.Decl (decl.Variables qs t ds), rest)
variables_reads d qs t p q n ds ts rest h x =
    named_variables d qs t (name_at p n) ts h ∙ ap (λ (r : Outcome Decl). and_then r (λ x. pure (global.Decl x))) (variables_from_reads d qs t p q n ds ts rest x)

-- ---- blocks

instance_none : (q : Place) (rest : Tokens) → instance (sign q punct.Semicolon ∷ rest) ≡ Ok (None, sign q punct.Semicolon ∷ rest)
unfolding instance sees_name
instance_none q rest = refl

instance_some : (p : Place) (n : List ℕ) (rest : Tokens) → instance (token p (kind.Name n) ∷ rest) ≡ Ok (Some (name_at p n), rest)
unfolding instance sees_name take_name
instance_some p n rest = refl

pub instance_complete : {i : Option Name} {xs : Tokens} → IsInstance i xs → (q : Place) (rest : Tokens) → instance (xs ++ sign q punct.Semicolon ∷ rest) ≡ Ok (i, sign q punct.Semicolon ∷ rest)
instance_complete IsInstance.none q rest = instance_none q rest
instance_complete (IsInstance.some {p = p} {n = n}) q rest = instance_some p n (sign q punct.Semicolon ∷ rest)

pub block_reads : (d : ℕ) (qs : List Qual) (p o c q : Place) (n : List ℕ) (ms : List Member) (i : Option Name) (ts us rest : Tokens) → some_of open_brace (member d) ts ≡ Ok (ms, sign c punct.RightBrace ∷ us)
    → instance us ≡ Ok (i, sign q punct.Semicolon ∷ rest) → block d qs (token p (kind.Name n) ∷ (sign o punct.LeftBrace ∷ ts)) ≡ Ok (decl.Block qs (name_at p n) ms i, rest)
unfolding block take_name expect sees
block_reads d qs p o c q n ms i ts us rest x y =
    ap (λ (r : Outcome (List Member)). and_then r (λ ms. expect punct.RightBrace >>= λ _. instance >>= λ i. expect punct.Semicolon >>= λ _. pure (decl.Block qs (name_at p n) ms i))) x
    ∙ ap (λ (r : Outcome (Option Name)). and_then r (λ i. expect punct.Semicolon >>= λ _. pure (decl.Block qs (name_at p n) ms i))) y

-- ---- behind the qualifiers

from_struct : (d : ℕ) (qs : List Qual) (ts : Tokens) → sees_key key.Struct ts ≡ true → global_from d qs ts ≡ and_then (struct_variables d qs ts) (λ x. pure (global.Decl x))
unfolding global_from
from_struct d qs ts h = rw h refl

pub struct_reads : (d : ℕ) (qs : List Qual) (a : Decl) (ts rest : Tokens) → sees_key key.Struct ts ≡ true → struct_variables d qs ts ≡ Ok (a, rest) → global_from d qs ts ≡ Ok (global.Decl a, rest)
struct_reads d qs a ts rest h x = from_struct d qs ts h ∙ ap (λ (r : Outcome Decl). and_then r (λ x. pure (global.Decl x))) x

pub quals_reads : (d : ℕ) (a : Qual) (qs : List Qual) (q : Place) (rest : Tokens) → global_from d (a ∷ qs) (sign q punct.Semicolon ∷ rest) ≡ Ok (global.Decl (decl.Quals (a ∷ qs)), rest)
unfolding global_from sees_key sees
quals_reads d a qs q rest = refl

from_block : (d : ℕ) (a : Qual) (qs : List Qual) (p o : Place) (n : List ℕ) (ts : Tokens)
    → global_from d (a ∷ qs) (token p (kind.Name n) ∷ (sign o punct.LeftBrace ∷ ts)) ≡ and_then (block d (a ∷ qs) (token p (kind.Name n) ∷ (sign o punct.LeftBrace ∷ ts))) (λ x. pure (global.Decl x))
unfolding global_from sees_key sees opens_block sees_name
from_block d a qs p o n ts = refl

pub from_block_reads : (d : ℕ) (a : Qual) (qs : List Qual) (p o : Place) (n : List ℕ) (b : Decl) (ts rest : Tokens) → block d (a ∷ qs) (token p (kind.Name n) ∷ (sign o punct.LeftBrace ∷ ts)) ≡ Ok (b, rest)
    → global_from d (a ∷ qs) (token p (kind.Name n) ∷ (sign o punct.LeftBrace ∷ ts)) ≡ Ok (global.Decl b, rest)
from_block_reads d a qs p o n b ts rest x = from_block d a qs p o n ts ∙ ap (λ (r : Outcome Decl). and_then r (λ x. pure (global.Decl x))) x

from_type : (d : ℕ) (qs : List Qual) (ts : Tokens) → sees_key key.Struct ts ≡ false → sees punct.Semicolon ts ≡ false → opens_block ts ≡ false → global_from d qs ts ≡ and_then (typed d ts) (λ t. take_name >>= named_from d qs t)
unfolding global_from
from_type d [] ts h g f = rw h refl
from_type d (a ∷ qs) ts h g f = rw h (rw g (rw f refl))

name_is : (p : Place) (n : List ℕ) (ts : Tokens) → take_name (token p (kind.Name n) ∷ ts) ≡ Ok (name_at p n, ts)
unfolding take_name
name_is p n ts = refl

bracket_no_brace : (p : Place) (ts : Tokens) → sees punct.LeftBrace (sign p punct.LeftBracket ∷ ts) ≡ false
unfolding sees
bracket_no_brace p ts = refl

word_no_block : (p : Place) (w : _) (ts : Tokens) → opens_block (word p w ∷ ts) ≡ false
unfolding opens_block sees_name
word_no_block p w ts = refl

name_no_block : (p : Place) (n : List ℕ) (ts : Tokens) → sees punct.LeftBrace ts ≡ false → opens_block (token p (kind.Name n) ∷ ts) ≡ false
unfolding opens_block
name_no_block p n ts h = and_right (sees_name (token p (kind.Name n) ∷ ts)) (sees punct.LeftBrace ts) h

-- a type with no brace behind it opens no block
type_no_block : {t : TypeSpec} {xs : Tokens} → IsType t xs → (rest : Tokens) → sees punct.LeftBrace rest ≡ false → opens_block (xs ++ rest) ≡ false
type_no_block (IsType.basic {p = p} {xs = xs} w is ds) rest h = word_no_block p w (xs ++ rest)
type_no_block (IsType.named {p = p} {n = n} {xs = xs} ds) rest h = name_no_block p n (xs ++ rest) (dims_no_sign ds punct.LeftBrace rest bracket_no_brace h)

name_no_brace : (p : Place) (n : List ℕ) (ts : Tokens) → sees punct.LeftBrace (token p (kind.Name n) ∷ ts) ≡ false
unfolding sees
name_no_brace p n ts = refl

-- a type and the first name behind it
pub typed_reads : {t : TypeSpec} {xs : Tokens} → IsType t xs → (d : ℕ) (qs : List Qual) (p : Place) (n : List ℕ) (ts : Tokens) → is_good (start_at (xs ++ token p (kind.Name n) ∷ ts)) ≡ true
    → typed d (xs ++ token p (kind.Name n) ∷ ts) ≡ Ok (t, token p (kind.Name n) ∷ ts) → global_from d qs (xs ++ token p (kind.Name n) ∷ ts) ≡ named_from d qs t (name_at p n) ts
typed_reads {t = t} {xs = xs} x d qs p n ts good y =
    let all = xs ++ token p (kind.Name n) ∷ ts in
    from_type d qs all (good_not_struct all good) (not_semicolon all good) (type_no_block x (token p (kind.Name n) ∷ ts) (name_no_brace p n ts))
    ∙ ap (λ (r : Outcome TypeSpec). and_then r (λ t. take_name >>= named_from d qs t)) y
    ∙ ap (λ (r : Outcome Name). and_then r (named_from d qs t)) (name_is p n ts)

-- ---- an item of a unit

pub empty_reads : (d : ℕ) (p : Place) (rest : Tokens) → global_at d (sign p punct.Semicolon ∷ rest) ≡ Ok (global.Empty p, rest)
unfolding global_at sees
empty_reads d p rest = refl

global_by : (d : ℕ) (ts : Tokens) → sees punct.Semicolon ts ≡ false → global_at d ts ≡ and_then (qualifiers d ts) (global_from d)
unfolding global_at
global_by d ts h = rw h refl

pub global_reads : (d : ℕ) (qs : List Qual) (ts us : Tokens) → sees punct.Semicolon ts ≡ false → qualifiers d ts ≡ Ok (qs, us) → global_at d ts ≡ global_from d qs us
global_reads d qs ts us h x = global_by d ts h ∙ ap (λ (r : Outcome (List Qual)). and_then r (global_from d)) x

-- neither a name nor a semicolon is a qualifier
pub name_no_qual : (p : Place) (n : List ℕ) (ts : Tokens) → begins_qual (token p (kind.Name n) ∷ ts) ≡ false
unfolding begins_qual plain_at sees_key
name_no_qual p n ts = refl

pub semicolon_no_qual : (p : Place) (ts : Tokens) → begins_qual (sign p punct.Semicolon ∷ ts) ≡ false
unfolding begins_qual plain_at sees_key
semicolon_no_qual p ts = refl
