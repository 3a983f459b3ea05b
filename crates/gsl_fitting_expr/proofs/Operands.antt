-- Operators and conversions of scalars and vectors, and of truth values.
use Rattle.std.proofs.Common.{◌≡◌, ℕ, Bool, true, ◌||◌, List, [], ◌∷◌, ◌++◌, Some, sym, ap, subst, suc}
use Rattle.gsl_types.specs.declared.ty.Scalar.{Scalar}
use Rattle.gsl_types.specs.declared.ty.Scalar.TheVariants.{Bool as Boolean}
use Rattle.gsl_types.specs.declared.ty.StructType.{StructType}
use Rattle.gsl_types.specs.declared.ty.Ty.{Ty}
use Rattle.gsl_types.specs.declared.ty.Ty.TheVariants as ty
use Rattle.gsl_types.specs.declared.ty.Ty.TheVariants.{outs-One}
use Rattle.gsl_values.specs.declared.op.BinaryOp.{BinaryOp}
use Rattle.gsl_values.specs.declared.op.UnaryOp.{UnaryOp}
use Rattle.gsl_tree.specs.Shapes.{Shape, flag, shape_kind, shape_of}
use Rattle.gsl_tree.specs.declared.expr.LogicOp.{LogicOp}
use Rattle.gsl_spv.specs.Sections.{Sections}
use Rattle.gsl_lower_law.specs.Operands.{Fit}
use Rattle.gsl_lower_values.specs.Constructors.{operand}
use Rattle.gsl_lower_values.specs.Operators as operators
use Rattle.gsl_lower_holders.specs.Flow.{Emit, Flow}
use Rattle.gsl_lower_holders.specs.declared.place.FlowPlace.{FlowPlace}
use Rattle.gsl_lower_expr.specs.Parts.{Lower, binary_by, binary_of, both, forked, of_type, shape_or, short}
use Rattle.gsl_lower_expr.specs.Parts as parts
use Rattle.gsl_fitting.specs.Fits.{Frame}
use Rattle.gsl_fitting_types.specs.Making.{AreSorted, Comes, GivesValue, Sorts}
use Rattle.gsl_fitting_operators.specs.Operands.{Suits, SuitsOne, pair_shape}
use Rattle.gsl_fitting_operators.proofs.Operators.{converted_fits, converted_sorts, unary_fits, unary_sorts}
use Rattle.gsl_fitting_operators.proofs.Pairs.{binary_fits, binary_sorts, logical_fits, logical_sorts}
use Rattle.gsl_fitting_flow.specs.Flowing.{IsTypeFor, IsTypeIn, asked_if}
use Rattle.gsl_fitting_flow.proofs.Choice.{choice_flows, choice_stays}
use Rattle.gsl_fitting_flow.proofs.Following.{later_then}
use Rattle.gsl_fitting_flow.proofs.Holding.{type_on}
use Rattle.gsl_fitting_flow.proofs.Short.{short_flows, short_stays}
use Rattle.gsl_fitting_expr.specs.Evaluating.{Evaluates, IsPlain}
use Rattle.gsl_fitting_expr.proofs.Steps.{behind_one, one_evaluates, two_evaluate, value_of}

module _ (whole : Sections) (main : ℕ) (local_size : List ℕ) (rank : ℕ → ℕ) (f : Frame) (sorted : AreSorted whole) where
  abbrev E : Flow → List ℕ → ℕ → Bool → ℕ → Emit ℕ → Type 0
  E s asks deep splits type value = Evaluates whole main local_size rank f s asks deep splits type value

  abbrev P : Shape → ℕ → Type 0
  P shape type = IsPlain whole main local_size rank f shape type

  pub unary_evaluates : (s : Flow) (asks : List ℕ) (deep : ℕ) (splits : Bool) (type : ℕ) (which : UnaryOp) (a : Lower) → P (shape_or a.ty) type → SuitsOne which (shape_or a.ty) → E s asks deep splits type a.value → E s asks deep splits type (behind_one a.value (λ x. operators.unary which (of_type a x)))
  unary_evaluates s asks deep splits type which a plain suits e =
      one_evaluates whole main local_size rank f sorted s asks deep splits type type (shape_or a.ty) a.value (λ x. operators.unary which (of_type a x)) e plain (λ x s. unary_sorts which (of_type a x) s)
      (λ given x s v. unary_fits whole main local_size rank f sorted given which (of_type a x) s plain.sized suits (value_of whole main local_size rank f sorted given (shape_or a.ty) type x plain v))

  pub conversion_evaluates : (s : Flow) (asks : List ℕ) (deep : ℕ) (splits : Bool) (type other : ℕ) (to : Scalar) (a : Lower) → P (shape_or a.ty) type → P (to, (shape_or a.ty).1) other → E s asks deep splits type a.value
      → E s asks deep splits other (behind_one a.value (λ x. operators.converted to (of_type a x)))
  conversion_evaluates s asks deep splits type other to a plain given_plain e =
      one_evaluates whole main local_size rank f sorted s asks deep splits type other (to, (shape_or a.ty).1) a.value (λ x. operators.converted to (of_type a x)) e given_plain (λ x s. converted_sorts to (of_type a x) s)
      (λ given x s v. converted_fits whole main local_size rank f sorted given to (of_type a x) s plain.sized (value_of whole main local_size rank f sorted given (shape_or a.ty) type x plain v))

  pub binary_evaluates : (s : Flow) (asks more : List ℕ) (deep : ℕ) (one_splits : Bool) (type second_type other : ℕ) (structs : List StructType) (which : BinaryOp) (a b : Lower) (shape : Shape) → shape_of a.ty ≡ Some shape → IsTypeFor whole main local_size rank f s.place a.ty type → P (shape_or a.ty) type → P (shape_or b.ty) second_type
      → P (pair_shape which (shape_or a.ty) (shape_or b.ty)) other → Fit which (shape_or a.ty).1 (shape_or b.ty).1 → Suits which (shape_or a.ty).0 (shape_or b.ty).0 → E s asks deep one_splits type a.value → E s more deep b.traits.splits second_type b.value
      → E s (asks ++ (asked_if b.traits.splits type ++ more)) deep (one_splits || b.traits.splits) other (parts.binary structs which a b)
  binary_evaluates s asks more deep one_splits type second_type other structs which a b shape is same plain second given_plain fit suits first_value second_value =
      two_evaluate whole main local_size rank f sorted s asks more deep one_splits b.traits.splits a.ty type second_type other (pair_shape which (shape_or a.ty) (shape_or b.ty)) a.value b.value (λ x y. binary_of structs which a.ty b.ty x y) first_value second_value same given_plain
      (λ x y s. subst (λ o. Sorts s (binary_by structs which a.ty b.ty x y o s)) (sym is) (binary_sorts which (operand (shape_or a.ty) x) (operand (shape_or b.ty) y) s))
      (λ given x y s v w. subst (λ o. Comes whole main local_size rank f given (GivesValue whole main local_size rank f (pair_shape which (shape_or a.ty) (shape_or b.ty))) s (binary_by structs which a.ty b.ty x y o s)) (sym is)
      (binary_fits whole main local_size rank f sorted given which (operand (shape_or a.ty) x) (operand (shape_or b.ty) y) s plain.sized second.sized fit suits (value_of whole main local_size rank f sorted given (shape_or a.ty) type x plain v)
      (value_of whole main local_size rank f sorted given (shape_or b.ty) second_type y second w)))

  pub both_evaluates : (s : Flow) (asks more : List ℕ) (deep : ℕ) (one_splits : Bool) (type : ℕ) (which : LogicOp) (a b : Lower) → IsTypeFor whole main local_size rank f s.place a.ty type → P flag type → E s asks deep one_splits type a.value → E s more deep b.traits.splits type b.value
      → E s (asks ++ (asked_if b.traits.splits type ++ more)) deep (one_splits || b.traits.splits) type (both which a b)
  both_evaluates s asks more deep one_splits type which a b same plain first_value second_value =
      two_evaluate whole main local_size rank f sorted s asks more deep one_splits b.traits.splits a.ty type type type flag a.value b.value (λ x y. operators.logical which x y) first_value second_value same plain (λ x y s. logical_sorts which x y s)
      (λ given x y s v w. logical_fits whole main local_size rank f sorted given which x y s (value_of whole main local_size rank f sorted given flag type x plain v) (value_of whole main local_size rank f sorted given flag type y plain w))

  -- the type of truth values
  truths_for : (place : FlowPlace) (type : ℕ) → P flag type → IsTypeFor whole main local_size rank f place (ty.One Boolean) type
  truths_for place type plain = subst (IsTypeIn whole main local_size rank f place (ty.One Boolean) type) (sym (ap shape_kind (outs-One Boolean))) (plain.sized, plain.of)

  pub short_evaluates : (s : Flow) (asks more : List ℕ) (deep : ℕ) (one_splits two_splits : Bool) (type : ℕ) (which : LogicOp) (a b : Lower) → P flag type → E s asks (suc deep) one_splits type a.value → E s more deep two_splits type b.value → E s (asks ++ type ∷ more) (suc deep) true type (short which a b)
  short_evaluates s asks more deep one_splits two_splits type which a b plain first_value second_value = record {
    stays = λ u. short_stays which (ty.One Boolean) b.value u (a.value u) (first_value.stays u) second_value.stays;
    flows = λ given u here.
        short_flows whole main local_size rank f sorted which (ty.One Boolean) b.value type deep asks more one_splits two_splits given u (a.value u) plain.of (truths_for u.place type plain) (first_value.stays u) (first_value.flows given u here) second_value.stays
        (λ v also. second_value.flows [] v (later_then s u v here also));
  }

  pub forked_evaluates : (s : Flow) (tests asks more : List ℕ) (deep : ℕ) (splits one_splits two_splits : Bool) (truth type : ℕ) (t : Ty) (test a b : Lower) → P flag truth → IsTypeFor whole main local_size rank f s.place t type → E s tests (suc deep) splits truth test.value → E s asks deep one_splits type a.value
      → E s more deep two_splits type b.value → E s (tests ++ type ∷ (asks ++ more)) (suc deep) true type (forked t test a b)
  forked_evaluates s tests asks more deep splits one_splits two_splits truth type t test a b plain same test_value first_value second_value = record {
    stays = λ u. choice_stays t a.value b.value u (test.value u) (test_value.stays u) first_value.stays second_value.stays;
    flows = λ given u here.
        choice_flows whole main local_size rank f sorted t a.value b.value truth type deep tests asks more splits one_splits two_splits given u (test.value u) plain.of (type_on whole main local_size rank f sorted s u t type here same) (test_value.stays u) (test_value.flows given u here) first_value.stays second_value.stays
        (λ v also. first_value.flows [] v (later_then s u v here also)) (λ v also. second_value.flows [] v (later_then s u v here also));
  }
