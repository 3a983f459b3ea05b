-- Indexes, the last one first.
use Rattle.std.proofs.Common.{◌≡◌, refl, ap, ◌∙◌, List, [], ◌∷◌, ◌++◌}
use Rattle.gsl_base.specs.declared.fault.Place.{Place}
use Rattle.gsl_syntax.specs.declared.expr.Expr.{Expr}
use Rattle.gsl_syntax.specs.declared.expr.Expr.TheVariants as e
use Rattle.gsl_syntax.specs.declared.expr.Dim.{Dim}
use Rattle.gsl_syntax.specs.declared.expr.Dim.TheVariants as dim
use Rattle.gsl_expr.specs.Expressions.{index_layer, index_one, index_all}

pub none_more : (a : Expr) → index_all a [] ≡ a
unfolding index_all
none_more a = refl

pub one_more : (a : Expr) (ds : List Dim) (d : Dim) → index_all a (ds ++ d ∷ []) ≡ index_one (index_all a ds) d
unfolding index_all
one_more a [] d = refl
one_more a (c ∷ ds) d = one_more (index_one a c) ds d

pub open_more : (a : Expr) (ds : List Dim) (p : Place) → index_all a (ds ++ dim.Open p ∷ []) ≡ index_all a ds
unfolding index_one
open_more a ds p = one_more a ds (dim.Open p) ∙ ap (index_layer (index_all a ds)) (dim.outs-Open _)

pub sized_more : (a : Expr) (ds : List Dim) (p : Place) (b : Expr) → index_all a (ds ++ dim.Sized p b ∷ []) ≡ e.Index p (index_all a ds) b
unfolding index_one
sized_more a ds p b = one_more a ds (dim.Sized p b) ∙ ap (index_layer (index_all a ds)) (dim.outs-Sized _ _)
