-- What qualifiers, types and expressions begin with, as the tests of the first token see it.
use Rattle.std.proofs.Common.{◌≡◌, refl, ap, ◌≤◌, true, false, ◌||◌, is_some, [], ◌∷◌, ◌++◌, length, Some, arith}
use Rattle.std.proofs.lemmas.Bool.{or_right}
use Rattle.gsl_base.specs.declared.fault.Place.{Place}
use Rattle.gsl_base.specs.declared.token.Punct.{Punct}
use Rattle.gsl_base.specs.declared.token.Punct.TheVariants as punct
use Rattle.gsl_base.specs.declared.token.Key.{Key}
use Rattle.gsl_base.specs.declared.token.Key.TheVariants as key
use Rattle.gsl_base.specs.declared.token.Kind.{Kind}
use Rattle.gsl_base.specs.declared.token.Kind.TheVariants as kind
use Rattle.gsl_syntax.specs.declared.expr.TypeSpec.{TypeSpec}
use Rattle.gsl_syntax.specs.declared.declaration.Qual.{Qual}
use Rattle.gsl_syntax.specs.Phrases.{sign, word, IsType}
use Rattle.gsl_syntax.specs.Phrases.IsType.{basic, named}
use Rattle.gsl_syntax.specs.Declarations.{qual_of, IsQual}
use Rattle.gsl_syntax.specs.Declarations.IsQual.{plain, layout}
use Rattle.gsl_expr.specs.Rules.{start_key, start_by, start_at}
use Rattle.gsl_expr.specs.Reading.{Tokens, is_key, sees, sees_key}
use Rattle.gsl_expr.proofs.Taken.{key_is, other_kind}
use Rattle.gsl_expr.proofs.Openings.{is_good, basic_starts, not_key}
use Rattle.gsl_parse.specs.declared.opening.Opening.TheVariants as opening
use Rattle.gsl_parse.specs.Openings.{opening_key, opening_by, opening_at}
use Rattle.gsl_parse.specs.Qualifiers.{plain_by, plain_at, begins_qual}

-- ---- where an operand may begin

no_qual_key : (p : Place) (w : Key) → is_good (start_key w) ≡ true → (is_key key.Layout (kind.Key w) || is_some (qual_of w p)) ≡ false
no_qual_key p key.Layout h = absurd cc
no_qual_key p key.Const h = absurd cc
no_qual_key p key.In h = absurd cc
no_qual_key p key.Out h = absurd cc
no_qual_key p key.Inout h = absurd cc
no_qual_key p key.Uniform h = absurd cc
no_qual_key p key.Buffer h = absurd cc
no_qual_key p key.Flat h = absurd cc
no_qual_key p key.Coherent h = absurd cc
no_qual_key p key.Volatile h = absurd cc
no_qual_key p key.Restrict h = absurd cc
no_qual_key p key.Readonly h = absurd cc
no_qual_key p key.Writeonly h = absurd cc
no_qual_key p w h = refl

no_qual : (p : Place) (k : Kind) → is_good (start_by k) ≡ true → (is_key key.Layout k || is_some (plain_by p k)) ≡ false
no_qual p (kind.Name n) h = refl
no_qual p (kind.Key w) h = no_qual_key p w h
no_qual p (kind.Signed n) h = refl
no_qual p (kind.Unsigned n) h = refl
no_qual p (kind.Punct m) h = refl

pub good_no_qual : (ts : Tokens) → is_good (start_at ts) ≡ true → begins_qual ts ≡ false
unfolding start_at begins_qual plain_at sees_key
good_no_qual [] h = refl
good_no_qual (t ∷ ts) h = no_qual t.place t.kind h

key_opens : (w : Key) → is_good (start_key w) ≡ true → opening_key w ≡ opening.Phrase
key_opens key.If h = absurd cc
key_opens key.Switch h = absurd cc
key_opens key.Case h = absurd cc
key_opens key.Default h = absurd cc
key_opens key.While h = absurd cc
key_opens key.Do h = absurd cc
key_opens key.For h = absurd cc
key_opens key.Break h = absurd cc
key_opens key.Continue h = absurd cc
key_opens key.Discard h = absurd cc
key_opens key.Return h = absurd cc
key_opens key.Struct h = absurd cc
key_opens key.Layout h = absurd cc
key_opens key.Const h = absurd cc
key_opens key.In h = absurd cc
key_opens key.Out h = absurd cc
key_opens key.Inout h = absurd cc
key_opens key.Uniform h = absurd cc
key_opens key.Buffer h = absurd cc
key_opens key.Flat h = absurd cc
key_opens key.Coherent h = absurd cc
key_opens key.Volatile h = absurd cc
key_opens key.Restrict h = absurd cc
key_opens key.Readonly h = absurd cc
key_opens key.Writeonly h = absurd cc
key_opens w h = refl

kind_opens : (k : Kind) → is_good (start_by k) ≡ true → opening_by k ≡ opening.Phrase
kind_opens (kind.Name n) h = refl
kind_opens (kind.Key w) h = key_opens w h
kind_opens (kind.Signed n) h = refl
kind_opens (kind.Unsigned n) h = refl
kind_opens (kind.Punct punct.Semicolon) h = absurd cc
kind_opens (kind.Punct punct.LeftBrace) h = absurd cc
kind_opens (kind.Punct m) h = refl

pub good_opens : (ts : Tokens) → is_good (start_at ts) ≡ true → opening_at ts ≡ opening.Phrase
unfolding start_at opening_at
good_opens [] h = refl
good_opens (t ∷ ts) h = kind_opens t.kind h

pub good_not_struct : (ts : Tokens) → is_good (start_at ts) ≡ true → sees_key key.Struct ts ≡ false
good_not_struct ts h = not_key ts key.Struct refl h

pub good_not_else : (ts : Tokens) → is_good (start_at ts) ≡ true → sees_key key.Else ts ≡ false
good_not_else ts h = not_key ts key.Else refl h

-- ---- types

pub type_good : {t : TypeSpec} {xs : Tokens} → IsType t xs → (rest : Tokens) → is_good (start_at (xs ++ rest)) ≡ true
unfolding start_at
type_good (basic {p = p} {b = b} {xs = xs} w is ds) rest = ap is_good (basic_starts p w b (xs ++ rest) is)
type_good (named ds) rest = refl

pub type_filled : {t : TypeSpec} {xs : Tokens} → IsType t xs → 1 ≤ length xs
type_filled (basic w is ds) = omega arith
type_filled (named ds) = omega arith

-- ---- qualifiers

pub word_no_sign : (p : Place) (w : Key) (m : Punct) (ts : Tokens) → sees m (word p w ∷ ts) ≡ false
unfolding sees
word_no_sign p w m ts = refl

plain_begins : (p : Place) (w : Key) (q : Qual) (ts : Tokens) → qual_of w p ≡ Some q → begins_qual (word p w ∷ ts) ≡ true
unfolding begins_qual plain_at sees_key
plain_begins p w q ts h = or_right (is_key key.Layout (kind.Key w)) (is_some (qual_of w p)) (ap is_some h)

layout_begins : (p : Place) (ts : Tokens) → begins_qual (word p key.Layout ∷ ts) ≡ true
unfolding begins_qual plain_at sees_key
layout_begins p ts = refl

pub qual_begins : {q : Qual} {xs : Tokens} → IsQual q xs → (rest : Tokens) → begins_qual (xs ++ rest) ≡ true
qual_begins (plain {q = q} p w is) rest = plain_begins p w q rest is
qual_begins (layout {p = p} {xs = xs} o c ls) rest = layout_begins p (sign o punct.LeftParen ∷ ((xs ++ sign c punct.RightParen ∷ []) ++ rest))

pub qual_filled : {q : Qual} {xs : Tokens} → IsQual q xs → 1 ≤ length xs
qual_filled (plain p w is) = omega arith
qual_filled (layout o c ls) = omega arith

pub qual_no_sign : {q : Qual} {xs : Tokens} → IsQual q xs → (m : Punct) (rest : Tokens) → sees m (xs ++ rest) ≡ false
qual_no_sign (plain p w is) m rest = word_no_sign p w m rest
qual_no_sign (layout {p = p} {xs = xs} o c ls) m rest = word_no_sign p key.Layout m (sign o punct.LeftParen ∷ ((xs ++ sign c punct.RightParen ∷ []) ++ rest))

-- ---- qualifiers tell a local declaration

kind_local : (p : Place) (k : Kind) → (is_key key.Layout k || is_some (plain_by p k)) ≡ true → opening_by k ≡ opening.Local
kind_local p (kind.Name n) h = absurd cc
kind_local p (kind.Key w) h = key_local w h
  where
    key_local : (w : Key) → (is_key key.Layout (kind.Key w) || is_some (qual_of w p)) ≡ true → opening_key w ≡ opening.Local
    key_local key.Layout h = refl
    key_local key.Const h = refl
    key_local key.In h = refl
    key_local key.Out h = refl
    key_local key.Inout h = refl
    key_local key.Uniform h = refl
    key_local key.Buffer h = refl
    key_local key.Flat h = refl
    key_local key.Coherent h = refl
    key_local key.Volatile h = refl
    key_local key.Restrict h = refl
    key_local key.Readonly h = refl
    key_local key.Writeonly h = refl
    key_local w h = absurd cc
kind_local p (kind.Signed n) h = absurd cc
kind_local p (kind.Unsigned n) h = absurd cc
kind_local p (kind.Punct m) h = absurd cc

pub begins_local : (ts : Tokens) → begins_qual ts ≡ true → opening_at ts ≡ opening.Local
unfolding opening_at begins_qual plain_at sees_key
begins_local [] h = absurd cc
begins_local (t ∷ ts) h = kind_local t.place t.kind h

begins_no_key : (ts : Tokens) (w : Key) → ((p : Place) → (is_key key.Layout (kind.Key w) || is_some (qual_of w p)) ≡ false) → begins_qual ts ≡ true → sees_key w ts ≡ false
unfolding begins_qual plain_at sees_key
begins_no_key [] w b h = refl
begins_no_key (t ∷ ts) w b h = other_kind (λ k. is_key key.Layout k || is_some (plain_by t.place k)) (kind.Key w) t.kind (is_key w t.kind) (key_is w t.kind) (b t.place) h

pub begins_no_else : (ts : Tokens) → begins_qual ts ≡ true → sees_key key.Else ts ≡ false
begins_no_else ts h = begins_no_key ts key.Else (λ p. refl) h

pub begins_no_void : (ts : Tokens) → begins_qual ts ≡ true → sees_key key.Void ts ≡ false
begins_no_void ts h = begins_no_key ts key.Void (λ p. refl) h
