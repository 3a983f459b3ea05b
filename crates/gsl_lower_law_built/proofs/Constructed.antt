-- Constructors of scalars and vectors.
use Rattle.std.proofs.Common.{◌≡◌, refl, sym, ap, ◌∙◌, subst, ℕ, ◌+◌, ◌≤◌, ◌⊎◌, Bool, true, false, List, [], ◌∷◌, Some, if◌then◌else◌}
use Rattle.std.specs.Prelude.{nat_eq}
use Rattle.std.proofs.lemmas.Bool.{eqb-true}
use Rattle.gsl_base.specs.declared.input.Input.{Input}
use Rattle.gsl_types.specs.declared.ty.Scalar.{Scalar}
use Rattle.gsl_types.specs.declared.ty.Ty.{Ty}
use Rattle.gsl_types.specs.declared.ty.Ty.TheVariants as ty
use Rattle.gsl_types.specs.declared.ty.Ty.TheVariants.{outs-One, outs-Vector}
use Rattle.gsl_words.specs.declared.module.Module.{Module}
use Rattle.gsl_values.specs.declared.value.Value.{Value}
use Rattle.gsl_tree.specs.Around.{Around}
use Rattle.gsl_tree.specs.Operations.{build_value}
use Rattle.gsl_tree.specs.Shapes.{Shape, of_shape, shape_kind, shape_of}
use Rattle.gsl_tree.specs.declared.program.Program.{Program}
use Rattle.gsl_meaning.specs.Expressions.{Meant}
use Rattle.gsl_meaning.specs.Running.{given as shader_given}
use Rattle.gsl_machine.specs.State.{State}
use Rattle.gsl_spv.specs.Sections.{Sections}
use Rattle.gsl_lower_values.specs.Constructors.{built}
use Rattle.gsl_lower_values.specs.declared.operand.Operand.{Operand}
use Rattle.gsl_lower_law.specs.Computing.{Computes}
use Rattle.gsl_lower_law.specs.Operands.{shapes_of}
use Rattle.gsl_lower_law.specs.Values.{StandEach}
use Rattle.gsl_lower_law_constructors.specs.Supply.{supplied}
use Rattle.gsl_lower_law_constructors.proofs.Builds.{built_computes}
use Rattle.gsl_lower_holders.specs.Flow.{lift, ◌>>=◌}
use Rattle.gsl_lower_expr.specs.Parts.{Lower, any_splits, built_from, constructed, operands, typed}
use Rattle.gsl_lower_follows.specs.Frames.{Frame}
use Rattle.gsl_lower_follows.specs.Giving.{GivesValue}
use Rattle.gsl_lower_follows.proofs.Drawn.{computed_given}
use Rattle.gsl_lower_follows.proofs.Growing.{adds_lift}
use Rattle.gsl_lower_law_expr.specs.Known.{AllGive, AllTyped}
use Rattle.gsl_lower_law_built.specs.Arguments.{Constructs, components, constructed_means}
use Rattle.gsl_lower_law_built.proofs.Building.{always_built}
use Rattle.gsl_lower_law_built.proofs.Called.{stood}
use Rattle.gsl_lower_law_built.proofs.Together.{all_give}

shape_back_by : (s : Scalar) (n : ℕ) (b : Bool) → nat_eq n 1 ≡ b → shape_of (if b then ty.One s else ty.Vector s n) ≡ Some (s, n)
shape_back_by s n true is = ap shape_kind (outs-One s) ∙ ap (λ (k : ℕ). Some (s, k)) (sym (eqb-true n 1 is))
shape_back_by s n false is = ap shape_kind (outs-Vector s n)

-- the type of a shape has this shape
pub shape_back : (shape : Shape) → shape_of (of_shape shape) ≡ Some shape
shape_back shape = shape_back_by shape.0 shape.1 (nat_eq shape.1 1) refl

-- operands have the components of their shapes
supplied_is : (args : List Operand) → supplied args ≡ components (shapes_of args)
supplied_is [] = refl
supplied_is (a ∷ args) = ap (λ n. a.shape.1 + n) (supplied_is args)

module _ (m : Module) (input : Input) (whole : Sections) (f : Frame m input whole) (p : Program) (around : Around) where
  build_computes : (args : List Lower) (ty : Ty) (known : Constructs p args ty) (ids : List ℕ) (vs : List Value) (state : State) (before : Sections) → AllTyped p args vs → StandEach state.ids ids vs
      → Computes m input whole (build_value ty vs, state.choices) state before (built known.shape (typed args ids))
  build_computes args ty known ids vs state before fits stand =
      let s = stood p state.ids args ids vs known.shapes known.are known.shaped fits stand in
      let count : components known.shapes ≡ supplied (typed args ids) = ap components (sym s.are) ∙ sym (supplied_is (typed args ids)) in
      subst (λ t. Computes m input whole (build_value t vs, state.choices) state before (built known.shape (typed args ids))) known.is
      (built_computes m input whole known.shape (typed args ids) vs state before known.some (record { each = s.some; all = subst (λ n. (known.shape.1 ≤ n) ⊎ (n ≡ 1)) count known.enough }) s.stand)

  -- A constructor of a scalar or vector on the values of expressions.
  pub constructed_gives : (args : List Lower) (xs : List Meant) (ty : Ty) → Constructs p args ty → AllGive (GivesValue m input whole f p around) args xs
      → GivesValue m input whole f p around (any_splits args) ty (constructed ty args) (constructed_means ty xs)
  constructed_gives args xs ty known all =
      subst (λ o. GivesValue m input whole f p around (any_splits args) ty (operands args >>= (λ ids. built_from ty o ids (typed args ids))) (constructed_means ty xs)) (sym (ap shape_of (sym known.is) ∙ shape_back known.shape))
      (all_give m input whole f p around args xs ty (λ ids. lift (built known.shape (typed args ids))) (λ vs. shader_given (build_value ty vs)) all (λ ids. adds_lift (built known.shape (typed args ids)) (λ b. always_built m input whole known.shape (typed args ids) b.sections))
      (λ b0 ids vs b s units state grown good fits stand.
      computed_given m input whole f p around ty (λ choices. (build_value ty vs, choices)) (built known.shape (typed args ids)) (λ b. always_built m input whole known.shape (typed args ids) b.sections) (λ choices are. record { typed = known.gives vs fits; left = are }) b s units state good
      (build_computes args ty known ids vs state b.sections fits stand)))
