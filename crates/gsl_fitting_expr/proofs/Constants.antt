-- Constants, and one of two values that are both there.
use Rattle.std.proofs.Common.{◌≡◌, ℕ, Bool, true, false, cond, List, [], ◌++◌, length, refl, sym, subst, append-nil}
use Rattle.std.specs.Prelude.{◌==◌}
use Rattle.std.proofs.lemmas.Bool.{eqb-true}
use Rattle.gsl_types.specs.declared.ty.Ty.{Ty}
use Rattle.gsl_values.specs.declared.value.Value.{Value}
use Rattle.gsl_tree.specs.Shapes.{Shape, flag}
use Rattle.gsl_tree.specs.Values.{components_in, word_in}
use Rattle.gsl_spv.specs.Sections.{Sections}
use Rattle.gsl_lower_values.specs.Operators as operators
use Rattle.gsl_lower_values.specs.Types as types
use Rattle.gsl_lower_holders.specs.Flow.{Emit, Flow, behind, lift}
use Rattle.gsl_lower_expr.specs.Parts.{Lower, constant_by, picked_one, shape_or}
use Rattle.gsl_fitting.specs.Fits.{Frame}
use Rattle.gsl_fitting_types.specs.Making.{AreSorted, Comes, GivesValue, IsConstant, Sorts}
use Rattle.gsl_fitting_types.proofs.Stepping.{comes_so}
use Rattle.gsl_fitting_types.proofs.Types.{scalar_constant_comes, scalar_constant_sorts, vector_constant_comes, vector_constant_sorts}
use Rattle.gsl_fitting_operators.proofs.Operators.{fixed_value, selected_sorts}
use Rattle.gsl_fitting_operators.proofs.Pairs.{selected_fits}
use Rattle.gsl_fitting_flow.specs.Flowing.{EmitStays, Flows, GivesOf, IsOf, IsLater}
use Rattle.gsl_fitting_flow.proofs.Following.{emit_then, flows_then, lift_stays, later_of, later_then}
use Rattle.gsl_fitting_flow.proofs.Holding.{of_later}
use Rattle.gsl_fitting_expr.specs.Evaluating.{Evaluates, IsPlain}
use Rattle.gsl_fitting_expr.proofs.Steps.{step_flows, value_of}

-- ---- constants

constant_sorts : (shape : Shape) (v : Value) (s : Sections) → Sorts s (constant_by shape v s)
constant_sorts shape v s = by (shape.1 == 1)
  where
    by : (b : Bool) → Sorts s ((cond b (types.scalar_constant shape.0 (word_in v)) (types.vector_constant shape (components_in v))) s)
    by true = scalar_constant_sorts shape.0 (word_in v) s
    by false = vector_constant_sorts shape (components_in v) s

-- ---- the second and the third of three values

abbrev select_of : Shape → ℕ → ℕ → ℕ → Emit ℕ
select_of shape x y z = lift (operators.selected shape x y z)

abbrev third_of : Shape → Emit ℕ → ℕ → ℕ → Emit ℕ
third_of shape b x y u = behind (b u) (select_of shape x y)

abbrev second_of : Shape → Emit ℕ → Emit ℕ → ℕ → Emit ℕ
second_of shape a b x u = behind (a u) (third_of shape b x)

third_stays : (shape : Shape) (b : Emit ℕ) (x y : ℕ) (u : Flow) → ((u : Flow) → EmitStays u (b u)) → EmitStays u (third_of shape b x y u)
third_stays shape b x y u stays = emit_then u (b u) (select_of shape x y) (stays u) (λ z v. lift_stays v (operators.selected shape x y z v.sections) (selected_sorts shape x y z v.sections))

second_stays : (shape : Shape) (a b : Emit ℕ) (x : ℕ) (u : Flow) → ((u : Flow) → EmitStays u (a u)) → ((u : Flow) → EmitStays u (b u)) → EmitStays u (second_of shape a b x u)
second_stays shape a b x u first second = emit_then u (a u) (third_of shape b x) (first u) (λ y v. third_stays shape b x y v second)

module _ (whole : Sections) (main : ℕ) (local_size : List ℕ) (rank : ℕ → ℕ) (f : Frame) (sorted : AreSorted whole) where
  abbrev E : Flow → List ℕ → ℕ → Bool → ℕ → Emit ℕ → Type 0
  E s asks deep splits type value = Evaluates whole main local_size rank f s asks deep splits type value

  constant_fits : (given : List ℕ) (shape : Shape) (v : Value) (s : Sections) (type : ℕ) → IsPlain whole main local_size rank f shape type → length (components_in v) ≡ shape.1 → Comes whole main local_size rank f given (GivesValue whole main local_size rank f shape) s (constant_by shape v s)
  constant_fits given shape v s type plain count = by (shape.1 == 1) refl
    where
      by : (b : Bool) → (shape.1 == 1) ≡ b → Comes whole main local_size rank f given (GivesValue whole main local_size rank f shape) s ((cond b (types.scalar_constant shape.0 (word_in v)) (types.vector_constant shape (components_in v))) s)
      by true e =
          comes_so whole main local_size rank f given (λ id now after. IsConstant after (shape.0, 1) id) (GivesValue whole main local_size rank f shape) s (types.scalar_constant shape.0 (word_in v) s)
          (λ id now after inside is. fixed_value whole main local_size rank f sorted now shape id after (subst (λ n. IsConstant after (shape.0, n) id) (sym (eqb-true shape.1 1 e)) is) inside) (scalar_constant_comes whole main local_size rank f sorted given shape.0 (word_in v) s)
      by false e =
          comes_so whole main local_size rank f given (λ id now after. IsConstant after shape id) (GivesValue whole main local_size rank f shape) s (types.vector_constant shape (components_in v) s)
          (λ id now after inside is. fixed_value whole main local_size rank f sorted now shape id after is inside) (vector_constant_comes whole main local_size rank f sorted given shape (components_in v) s plain.sized e count)

  pub constant_evaluates : (s : Flow) (deep type : ℕ) (shape : Shape) (v : Value) → IsPlain whole main local_size rank f shape type → length (components_in v) ≡ shape.1 → E s [] deep false type (lift (constant_by shape v))
  constant_evaluates s deep type shape v plain count = record {
    stays = λ u. lift_stays u (constant_by shape v u.sections) (constant_sorts shape v u.sections);
    flows = λ given u same. step_flows whole main local_size rank f sorted deep given shape type (constant_by shape v) u plain (constant_fits given shape v u.sections type plain count);
  }

  -- ---- one of two values

  module _ (s : Flow) (tests asks more : List ℕ) (deep truth type : ℕ) (t : Ty) (test a b : Lower) (plain : IsPlain whole main local_size rank f flag truth) (of : IsPlain whole main local_size rank f (shape_or t) type) (single : (shape_or t).1 ≡ 1) (x_value : E s tests deep false truth test.value)
      (y_value : E s asks deep false type a.value) (z_value : E s more deep false type b.value) where
    third_flows : (given : List ℕ) (x y : ℕ) (u : Flow) → IsLater s u → IsOf whole main local_size rank f given truth x → IsOf whole main local_size rank f given type y
        → Flows whole main local_size rank f (more ++ []) deep false given (GivesOf whole main local_size rank f type) u (third_of (shape_or t) b.value x y u)
    third_flows given x y u here v w =
        flows_then whole main local_size rank f more [] deep false false given (GivesOf whole main local_size rank f type) (GivesOf whole main local_size rank f type) u (b.value u) (select_of (shape_or t) x y) (z_value.stays u) (z_value.flows given u here)
        (λ z k. lift_stays k (operators.selected (shape_or t) x y z k.sections) (selected_sorts (shape_or t) x y z k.sections))
        (λ z k now is wider stays inside. step_flows whole main local_size rank f sorted deep now (shape_or t) type (operators.selected (shape_or t) x y z) k of
        (selected_fits whole main local_size rank f sorted now (shape_or t) flag x y z k.sections of.sized refl single (value_of whole main local_size rank f sorted now flag truth x plain (of_later whole main local_size rank f sorted given now truth x (wider refl) v))
        (value_of whole main local_size rank f sorted now (shape_or t) type y of (of_later whole main local_size rank f sorted given now type y (wider refl) w)) (value_of whole main local_size rank f sorted now (shape_or t) type z of is)))

    second_flows : (given : List ℕ) (x : ℕ) (u : Flow) → IsLater s u → IsOf whole main local_size rank f given truth x → Flows whole main local_size rank f (asks ++ (more ++ [])) deep false given (GivesOf whole main local_size rank f type) u (second_of (shape_or t) a.value b.value x u)
    second_flows given x u here v =
        flows_then whole main local_size rank f asks (more ++ []) deep false false given (GivesOf whole main local_size rank f type) (GivesOf whole main local_size rank f type) u (a.value u) (third_of (shape_or t) b.value x) (y_value.stays u) (y_value.flows given u here)
        (λ y k. third_stays (shape_or t) b.value x y k z_value.stays)
        (λ y k now is wider stays inside. third_flows now x y k (later_then s u k here (later_of stays)) (of_later whole main local_size rank f sorted given now truth x (wider refl) v) is)

    all_flows : (given : List ℕ) (u : Flow) → IsLater s u → Flows whole main local_size rank f (tests ++ (asks ++ (more ++ []))) deep false given (GivesOf whole main local_size rank f type) u (picked_one t test a b u)
    all_flows given u here =
        flows_then whole main local_size rank f tests (asks ++ (more ++ [])) deep false false given (GivesOf whole main local_size rank f truth) (GivesOf whole main local_size rank f type) u (test.value u) (second_of (shape_or t) a.value b.value) (x_value.stays u)
        (x_value.flows given u here) (λ x k. second_stays (shape_or t) a.value b.value x k y_value.stays z_value.stays)
        (λ x k now is wider stays inside. second_flows now x k (later_then s u k here (later_of stays)) is)

    pub selected_evaluates : E s (tests ++ (asks ++ more)) deep false type (picked_one t test a b)
    selected_evaluates = record {
      stays = λ u. emit_then u (test.value u) (second_of (shape_or t) a.value b.value) (x_value.stays u) (λ x k. second_stays (shape_or t) a.value b.value x k y_value.stays z_value.stays);
      flows = λ given u here. subst (λ l. Flows whole main local_size rank f (tests ++ (asks ++ l)) deep false given (GivesOf whole main local_size rank f type) u (picked_one t test a b u)) (append-nil more) (all_flows given u here);
    }
