-- Types of expressions that have ids.
use Rattle.std.proofs.Common.{◌≡◌, ◌≢◌, ℕ, Bool, true, false, ◌||◌, ◌⊎◌, inl, inr, List, Some, refl, sym, ap, ◌∙◌, subst, unwrap_or}
use Rattle.gsl_types.specs.declared.ty.Scalar.{Scalar}
use Rattle.gsl_types.specs.declared.ty.Scalar.TheVariants.{Int}
use Rattle.gsl_types.specs.declared.ty.StructType.{StructType}
use Rattle.gsl_types.specs.declared.ty.Ty.{Ty}
use Rattle.gsl_types.specs.declared.ty.Ty.TheOpen.{Ty-F}
use Rattle.gsl_types.specs.declared.ty.Ty.TheVariants as ty
use Rattle.gsl_types.specs.declared.ty.Ty.TheVariants.{outs-One}
use Rattle.gsl_types.specs.declared.ty.Ty.TheViews.{out-Ty, roll-Ty, roll-out-Ty}
use Rattle.gsl_types.specs.declared.ty.Ty.TheVariants.{rolls-Void}
use Rattle.gsl_tree.specs.Shapes.{Shape, shape_kind, shape_of}
use Rattle.gsl_spv.specs.Sections.{Sections}
use Rattle.gsl_lower_expr.specs.Parts.{shape_or}
use Rattle.gsl_lower_holders.specs.Flow.{Flow}
use Rattle.gsl_lower_holders.specs.declared.place.FlowPlace.{FlowPlace}
use Rattle.gsl_fitting.specs.Fits.{Frame}
use Rattle.gsl_fitting_types.specs.Making.{IsSized, IsTypeOf}
use Rattle.gsl_fitting_flow.specs.Flowing.{IsTypeFor, IsTypeIn}
use Rattle.gsl_fitting_expr.specs.Evaluating.{IsPlain}
use Rattle.gsl_fitting_passed.specs.Arguments.{IsResultBy}
use Rattle.gsl_fitting_reaching.specs.Reached.{scalar_id}
use Rattle.gsl_fitting_known.specs.Ids.{layer_id, plain_id, type_for}
use Rattle.gsl_fitting_known.specs.Known.{HasId}

pub or_cases : (a b : Bool) → (a || b) ≡ true → (a ≡ true) ⊎ (b ≡ true)
or_cases true b is = inl refl
or_cases false b is = inr is

pub some_is : {A : Type 0} (a b : A) → Some a ≡ Some b → a ≡ b
some_is a b is = ap (λ o. unwrap_or o a) is

pub shape_or_is : (t : Ty) (shape : Shape) → shape_of t ≡ Some shape → shape_or t ≡ shape
shape_or_is t shape is = ap (λ o. unwrap_or o (Int, 1)) is

layer_plain : (whole : Sections) (place : FlowPlace) (t : Ty) (layer : Ty-F Ty) (shape : Shape) → shape_kind layer ≡ Some shape → layer_id whole place t layer ≡ plain_id whole shape
layer_plain whole place t (Ty-F.One s) shape is = ap (plain_id whole) (some_is (s, 1) shape is)
layer_plain whole place t (Ty-F.Vector s n) shape is = ap (plain_id whole) (some_is (s, n) shape is)
layer_plain whole place t Ty-F.Void shape is = absurd cc
layer_plain whole place t (Ty-F.Array a n) shape is = absurd cc
layer_plain whole place t (Ty-F.Runtime a) shape is = absurd cc
layer_plain whole place t (Ty-F.Struct k) shape is = absurd cc

pub plain_for : (whole : Sections) (place : FlowPlace) (t : Ty) (shape : Shape) → shape_of t ≡ Some shape → type_for whole place t ≡ plain_id whole shape
plain_for whole place t shape is = layer_plain whole place t (out-Ty t) shape is

pub scalar_for : (whole : Sections) (place : FlowPlace) (s : Scalar) → type_for whole place (ty.One s) ≡ scalar_id whole s
scalar_for whole place s = ap (layer_id whole place (ty.One s)) (outs-One s)

void_by : (t : Ty) (layer : Ty-F Ty) → out-Ty t ≡ layer → layer ≡ Ty-F.Void → t ≡ ty.Void
void_by t layer is void = sym (roll-out-Ty t) ∙ ap roll-Ty (is ∙ void) ∙ rolls-Void

module _ (whole : Sections) (main : ℕ) (local_size : List ℕ) (rank : ℕ → ℕ) (f : Frame) (s : Flow) (structs : List StructType) where
  -- the type of a value, which is not `void`
  pub type_known : (t : Ty) → t ≢ ty.Void → HasId whole main local_size rank f s structs t → IsTypeFor whole main local_size rank f s.place t (type_for whole s.place t)
  type_known t real has = by (out-Ty t) refl has.is
    where
      by : (layer : Ty-F Ty) → out-Ty t ≡ layer → IsResultBy whole main local_size rank f s t (type_for whole s.place t) layer → IsTypeFor whole main local_size rank f s.place t (type_for whole s.place t)
      by Ty-F.Void e is = absurd (real (void_by t Ty-F.Void e refl))
      by (Ty-F.One k) e is = is
      by (Ty-F.Vector k n) e is = is
      by (Ty-F.Array a n) e is = is
      by (Ty-F.Runtime a) e is = is
      by (Ty-F.Struct k) e is = is

  shape_known : (t : Ty) (shape : Shape) → shape_of t ≡ Some shape → HasId whole main local_size rank f s structs t → IsTypeFor whole main local_size rank f s.place t (type_for whole s.place t)
  shape_known t shape is has = by (out-Ty t) is has.is
    where
      by : (layer : Ty-F Ty) → shape_kind layer ≡ Some shape → IsResultBy whole main local_size rank f s t (type_for whole s.place t) layer → IsTypeFor whole main local_size rank f s.place t (type_for whole s.place t)
      by (Ty-F.One k) e is = is
      by (Ty-F.Vector k n) e is = is
      by Ty-F.Void e is = absurd cc
      by (Ty-F.Array a n) e is = absurd cc
      by (Ty-F.Runtime a) e is = absurd cc
      by (Ty-F.Struct k) e is = absurd cc

  pub plain_by : (t : Ty) (shape : Shape) (type : ℕ) → shape_of t ≡ Some shape → IsTypeFor whole main local_size rank f s.place t type → IsPlain whole main local_size rank f shape type
  plain_by t shape type is known =
      let both : IsSized shape × IsTypeOf whole shape type = subst (IsTypeIn whole main local_size rank f s.place t type) is known in
      record { sized = both.0; of = both.1 }

  -- the type of a scalar or vector
  pub plain_known : (t : Ty) (shape : Shape) → shape_of t ≡ Some shape → HasId whole main local_size rank f s structs t → IsPlain whole main local_size rank f shape (type_for whole s.place t)
  plain_known t shape is has = plain_by t shape (type_for whole s.place t) is (shape_known t shape is has)

  pub shaped_known : (t : Ty) (shape : Shape) → shape_of t ≡ Some shape → HasId whole main local_size rank f s structs t → IsTypeFor whole main local_size rank f s.place t (type_for whole s.place t)
  shaped_known = shape_known

  pub or_known : (t : Ty) (shape : Shape) → shape_of t ≡ Some shape → HasId whole main local_size rank f s structs t → IsPlain whole main local_size rank f (shape_or t) (type_for whole s.place t)
  or_known t shape is has = subst (λ x. IsPlain whole main local_size rank f x (type_for whole s.place t)) (sym (shape_or_is t shape is)) (plain_known t shape is has)
