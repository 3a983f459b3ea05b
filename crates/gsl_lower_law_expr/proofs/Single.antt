-- Constants, operators on one value, and conversions.
use Rattle.std.proofs.Common.{◌≡◌, ◌≢◌, refl, sym, ap, ◌∙◌, subst, ℕ, Bool, true, List, [], ◌∷◌, map, length, Some}
use Rattle.std.proofs.lemmas.Bool.{false≢true}
use Rattle.gsl_base.specs.declared.input.Input.{Input}
use Rattle.gsl_types.specs.Known.{AreStructs, IsSound}
use Rattle.gsl_types.specs.declared.ty.Scalar.{Scalar}
use Rattle.gsl_types.specs.declared.ty.Scalar.TheVariants.{Bool as Boolean, Int, Uint}
use Rattle.gsl_types.specs.declared.ty.Ty.{Ty}
use Rattle.gsl_types.specs.declared.ty.Ty.TheVariants.{Void}
use Rattle.gsl_words.specs.declared.module.Module.{Module}
use Rattle.gsl_values.specs.declared.op.UnaryOp.{UnaryOp}
use Rattle.gsl_values.specs.declared.value.Value.{Value}
use Rattle.gsl_tree.specs.Around.{Around}
use Rattle.gsl_tree.specs.Operations.{unary_value}
use Rattle.gsl_tree.specs.Operations as operation
use Rattle.gsl_tree.specs.Shapes.{Shape, is_integer, shape_of}
use Rattle.gsl_tree.specs.Values.{components_in, is_value_of, of_components}
use Rattle.gsl_tree.specs.declared.program.Program.{Program}
use Rattle.gsl_meaning.specs.Running.{Run, given as shader_given}
use Rattle.gsl_meaning.specs.Running as shader_run
use Rattle.gsl_meaning.specs.State as shader
use Rattle.gsl_spv.specs.Sections.{Sections}
use Rattle.gsl_lower_values.specs.Operators.{converted, unary}
use Rattle.gsl_lower_law.specs.Computing.{Computes}
use Rattle.gsl_lower_law.specs.Operands.{converted_value}
use Rattle.gsl_lower_law.specs.Values.{IsOf}
use Rattle.gsl_lower_law.proofs.Unaries.{unary_computes}
use Rattle.gsl_lower_follows.proofs.OfLawConstructors.{words_in}
use Rattle.gsl_lower_follows.proofs.OfLawOperators.{converted_computes}
use Rattle.gsl_lower_holders.specs.Flow.{Emit, lift, ◌>>=◌}
use Rattle.gsl_lower_expr.specs.Parts.{Lower, of_type}
use Rattle.gsl_lower_follows.specs.Frames.{Frame}
use Rattle.gsl_lower_follows.specs.Giving.{Does, GivesValue, HasGiven, none_waits}
use Rattle.gsl_lower_follows.proofs.Drawn.{computed_given}
use Rattle.gsl_lower_follows.proofs.Growing.{adds_lift}
use Rattle.gsl_lower_law_expr.proofs.Binary.{shape_is}
use Rattle.gsl_lower_law_expr.proofs.Forking.{behind_given}
use Rattle.gsl_lower_law_expr.proofs.Operands.{one_give}
use Rattle.gsl_lower_law_expr.proofs.Shapes.{value_shape}
use Rattle.gsl_lower_law_expr.proofs.Steps.{always_converted, always_unary}

-- ---- integers have the same words as ints and uints

same_words : (to : Scalar) → is_integer to ≡ true → (words : List ℕ) → map (operation.converted to) words ≡ words
same_words Boolean is words = absurd (false≢true is)
same_words Int is [] = refl
same_words Int is (word ∷ words) = ap (λ l. word ∷ l) (same_words Int is words)
same_words Uint is [] = refl
same_words Uint is (word ∷ words) = ap (λ l. word ∷ l) (same_words Uint is words)

same_value_as : (to : Scalar) (shape : Shape) (v : Value) → is_integer to ≡ true → IsOf shape v → converted_value to v ≡ v
same_value_as to shape v is of = ap of_components (same_words to is (components_in v) ∙ words_in v of) ∙ sym of.is

module _ (m : Module) (input : Input) (whole : Sections) (f : Frame m input whole) (p : Program) (around : Around) where
  -- what does the same, gives the same
  pub gives_same : (splits : Bool) (ty : Ty) (emit : Emit ℕ) (run other : Run Value) → ((s : shader.State) (units : ℕ) → run s units ≡ other s units) → GivesValue m input whole f p around splits ty emit run → GivesValue m input whole f p around splits ty emit other
  gives_same splits ty emit run other same g =
      record { adds = g.adds; does = λ b s units state good. subst (λ ran. Does m input whole f p 0 units state (HasGiven m input whole f p around splits ty b state) none_waits ran (emit b)) (same s units) (g.does b s units state good) }

  -- An operator on the value of one expression.
  pub unary_gives : (which : UnaryOp) (a : Lower) (ty : Ty) (x : Run Value) → a.ty ≢ Void → ((v : Value) → is_value_of p.structs a.ty v ≡ true → is_value_of p.structs ty (unary_value which v) ≡ true) → GivesValue m input whole f p around a.traits.splits a.ty a.value x
      → GivesValue m input whole f p around a.traits.splits ty (a.value >>= (λ i. lift (unary which (of_type a i)))) (shader_run.◌>>=◌ x (λ v. shader_given (unary_value which v)))
  unary_gives which a ty x real typed first =
      one_give m input whole f p around a.traits.splits a.ty ty a.value x (λ i. lift (unary which (of_type a i))) (λ v. shader_given (unary_value which v)) real first (λ i. adds_lift (unary which (of_type a i)) (λ b. always_unary m input whole which (of_type a i) b.sections))
      (λ i v b s units state good typed_v stands.
      computed_given m input whole f p around ty (λ choices. (unary_value which v, choices)) (unary which (of_type a i)) (λ b. always_unary m input whole which (of_type a i) b.sections) (λ choices are. record { typed = typed v typed_v; left = are }) b s units state good
      (unary_computes m input whole which (of_type a i) v state b.sections stands))

  -- A conversion of integers, which have the same words.
  pub conversion_gives : (to : Scalar) (shape : Shape) (a : Lower) (ty : Ty) (x : Run Value) → AreStructs p.structs → IsSound (length p.structs) a.ty → a.ty ≢ Void → shape_of a.ty ≡ Some shape → is_integer to ≡ true
      → ((v : Value) → is_value_of p.structs a.ty v ≡ true → is_value_of p.structs ty v ≡ true) → GivesValue m input whole f p around a.traits.splits a.ty a.value x
      → GivesValue m input whole f p around a.traits.splits ty (a.value >>= (λ i. lift (converted to (of_type a i)))) x
  conversion_gives to shape a ty x are sound real is integer typed first =
      gives_same a.traits.splits ty (a.value >>= (λ i. lift (converted to (of_type a i)))) (shader_run.◌>>=◌ x shader_given) x (λ s units. behind_given (x s units))
      (one_give m input whole f p around a.traits.splits a.ty ty a.value x (λ i. lift (converted to (of_type a i))) shader_given real first (λ i. adds_lift (converted to (of_type a i)) (λ b. always_converted m input whole to (of_type a i) b.sections))
      (λ i v b s units state good typed_v stands.
      let of = (value_shape p.structs a.ty shape v are sound is typed_v).1 in
      computed_given m input whole f p around ty (λ choices. (v, choices)) (converted to (of_type a i)) (λ b. always_converted m input whole to (of_type a i) b.sections) (λ choices are. record { typed = typed v typed_v; left = are }) b s units state good
      (subst (λ value. Computes m input whole (value, state.choices) state b.sections (converted to (of_type a i))) (same_value_as to shape v integer of)
      (converted_computes m input whole (of_type a i) v (subst (λ s. IsOf s v) (sym (shape_is a.ty shape is)) of) to state b.sections stands))))
