-- An expression that stands for live tokens is formed as the grammar forms it, and its literals are words.
use Rattle.std.proofs.Common.{refl, sym, ◌∙◌, ℕ, Bool, true, false, ◌&&◌, IsTrue, List, [], ◌∷◌, ◌++◌, map}
use Rattle.std.specs.List.{list_all}
use Rattle.std.proofs.lemmas.Bool.{and_parts, true≢false}
use Rattle.gsl_base.specs.declared.fault.Place.{Place}
use Rattle.gsl_base.specs.declared.token.Token.{Token}
use Rattle.gsl_syntax.specs.declared.expr.Expr.{Expr}
use Rattle.gsl_syntax.specs.declared.expr.TypeSpec.{TypeSpec}
use Rattle.gsl_syntax.specs.declared.expr.Dim.{Dim}
use Rattle.gsl_syntax.specs.Phrases.{Tokens, IsExpr, IsFurther, IsArguments, IsItems, IsType, IsDims}
use Rattle.gsl_syntax.specs.Phrases.IsExpr.{name, signed, unsigned, truth, falsity, paren, call_void, call, index, member, method, postfix, unary, binary, conditional, assign, sequence}
use Rattle.gsl_syntax.specs.Phrases.IsFurther.{last, further}
use Rattle.gsl_syntax.specs.Phrases.IsArguments.{no_argument, arguments}
use Rattle.gsl_syntax.specs.Phrases.IsItems.{one, more}
use Rattle.gsl_syntax.specs.Phrases.IsType.{basic, named}
use Rattle.gsl_syntax.specs.Phrases.IsDims.{no_dims, open_pair, sized}
use Rattle.gsl_formed.specs.Formed.{all_formed, rest_formed, some_formed, is_formed, spec_formed, dim_formed, dims_formed}
use Rattle.gsl_parse_law.specs.Live.{is_live, AreLive}
use Rattle.gsl_formed.proofs.Layers as at
use Rattle.gsl_formed.proofs.Layers.{further_list}

pub both : {a b : Bool} → IsTrue a → IsTrue b → IsTrue (a && b)
both {a = true} h g = g
both {a = false} h g = absurd (true≢false (sym h))

-- the same as `AreLive`, by name
pub record Live (ts : Tokens) : Type 0 where
  pub all : AreLive ts

pub first : {t : Token} {ts : Tokens} → Live (t ∷ ts) → IsTrue (is_live t.kind)
first live = live.all.0

pub behind : {t : Token} {ts : Tokens} → Live (t ∷ ts) → Live ts
behind live = record { all = live.all.1 }

-- two stretches
parts_of : (xs ys : Tokens) → AreLive (xs ++ ys) → AreLive xs × AreLive ys
parts_of [] ys all = (tt, all)
parts_of (x ∷ xs) ys all = let r = parts_of xs ys all.1 in ((all.0, r.0), r.1)

pub split : (xs : Tokens) {ys : Tokens} → Live (xs ++ ys) → Live xs × Live ys
split xs {ys = ys} live = let r = parts_of xs ys live.all in (record { all = r.0 }, record { all = r.1 })

some_rest : (all : List (Place × Bool)) → IsTrue (some_formed all) → IsTrue (rest_formed all)
some_rest [] h = absurd (true≢false (sym h))
some_rest (b ∷ all) h = h

pub all_of : {A : Type 0} (f : A → Bool) (xs : List A) → IsTrue (list_all f xs) → IsTrue (all_formed (map f xs))
all_of f [] h = refl
all_of f (x ∷ xs) h = let parts = and_parts (f x) (list_all f xs) h in both parts.0 (all_of f xs parts.1)

mutual
  pub expr_formed : {k : ℕ} {a : Expr} {xs : Tokens} → IsExpr k a xs → Live xs → IsTrue (is_formed a)
  expr_formed (name {p = p} {n = n}) live = at.at_Name p n
  expr_formed (signed {p = p} {n = n}) live = at.at_Signed p n ∙ first live
  expr_formed (unsigned {p = p} {n = n}) live = at.at_Unsigned p n ∙ first live
  expr_formed (truth {p = p}) live = at.at_Bool p true
  expr_formed (falsity {p = p}) live = at.at_Bool p false
  expr_formed (paren {p = p} {a = a} {xs = xs} q y) live = at.at_Paren p a ∙ expr_formed y (split xs (behind live)).0
  expr_formed (call_void {t = t} {xs = xs} o v q y) live = at.at_CallVoid t ∙ type_formed y (split xs live).0
  expr_formed (call {t = t} {bs = bs} {xs = xs} {ys = ys} o q y z) live =
      let parts = split xs live in at.at_Call t bs ∙ both (type_formed y parts.0) (arguments_formed z (split ys (behind parts.1)).0)
  expr_formed (index {p = p} {a = a} {b = b} {xs = xs} {ys = ys} q le y z) live =
      let parts = split xs live in at.at_Index p a b ∙ both (expr_formed y parts.0) (expr_formed z (split ys (behind parts.1)).0)
  expr_formed (member {p = p} {a = a} {n = n} {xs = xs} q le y) live = at.at_Member p a n ∙ expr_formed y (split xs live).0
  expr_formed (method {p = p} {a = a} {n = n} {xs = xs} q o c le y) live = at.at_Method p a n ∙ expr_formed y (split xs live).0
  expr_formed (postfix {p = p} {o = o} {a = a} {xs = xs} m is le y) live = at.at_Postfix p o a ∙ expr_formed y (split xs live).0
  expr_formed (unary {p = p} {o = o} {a = a} m is le y) live = at.at_Unary p o a ∙ expr_formed y (behind live)
  expr_formed (binary {p = p} {o = o} {a = a} {b = b} {xs = xs} m is le y z) live =
      let parts = split xs live in at.at_Binary p o a b ∙ both (expr_formed y parts.0) (expr_formed z (behind parts.1))
  expr_formed (conditional {p = p} {a = a} {b = b} {c = c} {xs = xs} {ys = ys} q le y z w) live =
      let parts = split xs live in
      let more = split ys (behind parts.1) in
      at.at_Conditional p a b c ∙ both (expr_formed y parts.0) (both (expr_formed z more.0) (expr_formed w (behind more.1)))
  expr_formed (assign {p = p} {o = o} {a = a} {b = b} {xs = xs} m is le y z) live =
      let parts = split xs live in at.at_Assign p o a b ∙ both (expr_formed y parts.0) (expr_formed z (behind parts.1))
  expr_formed (sequence {a = a} {bs = bs} {xs = xs} le y z) live =
      let parts = split xs live in at.at_Sequence a bs ∙ both (expr_formed y parts.0) (further_formed z parts.1)

  further_formed : {bs : List (Place × Expr)} {xs : Tokens} → IsFurther bs xs → Live xs → IsTrue (some_formed (further_list bs))
  further_formed (last y) live = both (expr_formed y (behind live)) refl
  further_formed (further {bs = bs} {xs = xs} y z) live =
      let parts = split xs (behind live) in both (expr_formed y parts.0) (some_rest (further_list bs) (further_formed z parts.1))

  arguments_formed : {bs : List Expr} {xs : Tokens} → IsArguments bs xs → Live xs → IsTrue (all_formed (map is_formed bs))
  arguments_formed no_argument live = refl
  arguments_formed (arguments y) live = items_formed y live

  items_formed : {bs : List Expr} {xs : Tokens} → IsItems bs xs → Live xs → IsTrue (all_formed (map is_formed bs))
  items_formed (one y) live = both (expr_formed y live) refl
  items_formed (more {xs = xs} p y z) live = let parts = split xs live in both (expr_formed y parts.0) (items_formed z (behind parts.1))

  pub type_formed : {t : TypeSpec} {xs : Tokens} → IsType t xs → Live xs → IsTrue (spec_formed t)
  type_formed (basic {p = p} {b = b} {ds = ds} w is y) live = at.spec_Basic p b ds ∙ all_of dim_formed ds (sizes_formed y (behind live))
  type_formed (named {p = p} {n = n} {ds = ds} y) live = at.spec_Named p n ds ∙ all_of dim_formed ds (sizes_formed y (behind live))

  pub sizes_formed : {ds : List Dim} {xs : Tokens} → IsDims ds xs → Live xs → IsTrue (dims_formed ds)
  sizes_formed no_dims live = refl
  sizes_formed (open_pair {p = p} q y) live = both (at.dim_Open p) (sizes_formed y (behind (behind live)))
  sizes_formed (sized {p = p} {a = a} {xs = xs} q y z) live =
      let parts = split xs (behind live) in both (at.dim_Sized p a ∙ expr_formed y parts.0) (sizes_formed z (behind parts.1))
