-- One of two values that are both there, where the condition may have labels.
use Rattle.std.proofs.Common.{◌≡◌, ℕ, Bool, false, ◌||◌, List, [], ◌++◌, refl, subst, append-nil}
use Rattle.gsl_types.specs.declared.ty.Ty.{Ty}
use Rattle.gsl_tree.specs.Shapes.{Shape, flag}
use Rattle.gsl_spv.specs.Sections.{Sections}
use Rattle.gsl_lower_values.specs.Operators as operators
use Rattle.gsl_lower_holders.specs.Flow.{Emit, Flow, behind, lift}
use Rattle.gsl_lower_expr.specs.Parts.{Lower, picked_one, shape_or}
use Rattle.gsl_fitting.specs.Fits.{Frame}
use Rattle.gsl_fitting_types.specs.Making.{AreSorted}
use Rattle.gsl_fitting_operators.proofs.Operators.{selected_sorts}
use Rattle.gsl_fitting_operators.proofs.Pairs.{selected_fits}
use Rattle.gsl_fitting_flow.specs.Flowing.{EmitStays, Flows, GivesOf, IsLater, IsOf}
use Rattle.gsl_fitting_flow.proofs.Following.{emit_then, flows_then, later_of, later_then, lift_stays}
use Rattle.gsl_fitting_flow.proofs.Holding.{of_later}
use Rattle.gsl_fitting_expr.specs.Evaluating.{Evaluates, IsPlain}
use Rattle.gsl_fitting_expr.proofs.Steps.{step_flows, value_of}
use Rattle.gsl_fitting_expr.proofs.Yielding.{or_false}

abbrev select_of : Shape → ℕ → ℕ → ℕ → Emit ℕ
select_of shape x y z = lift (operators.selected shape x y z)

abbrev third_of : Shape → Emit ℕ → ℕ → ℕ → Emit ℕ
third_of shape b x y u = behind (b u) (select_of shape x y)

abbrev second_of : Shape → Emit ℕ → Emit ℕ → ℕ → Emit ℕ
second_of shape a b x u = behind (a u) (third_of shape b x)

third_stays : (shape : Shape) (b : Emit ℕ) (x y : ℕ) (u : Flow) → ((u : Flow) → EmitStays u (b u)) → EmitStays u (third_of shape b x y u)
third_stays shape b x y u stays = emit_then u (b u) (select_of shape x y) (stays u) (λ z v. lift_stays v (operators.selected shape x y z v.sections) (selected_sorts shape x y z v.sections))

second_stays : (shape : Shape) (a b : Emit ℕ) (x : ℕ) (u : Flow) → ((u : Flow) → EmitStays u (a u)) → ((u : Flow) → EmitStays u (b u)) → EmitStays u (second_of shape a b x u)
second_stays shape a b x u first second = emit_then u (a u) (third_of shape b x) (first u) (λ y v. third_stays shape b x y v second)

module _ (whole : Sections) (main : ℕ) (local_size : List ℕ) (rank : ℕ → ℕ) (f : Frame) (sorted : AreSorted whole) where
  abbrev E : Flow → List ℕ → ℕ → Bool → ℕ → Emit ℕ → Type 0
  E s asks deep splits type value = Evaluates whole main local_size rank f s asks deep splits type value

  module _ (s : Flow) (tests asks more : List ℕ) (deep truth type : ℕ) (splits : Bool) (t : Ty) (test a b : Lower) (plain : IsPlain whole main local_size rank f flag truth) (of : IsPlain whole main local_size rank f (shape_or t) type) (single : (shape_or t).1 ≡ 1) (x_value : E s tests deep splits truth test.value)
      (y_value : E s asks deep false type a.value) (z_value : E s more deep false type b.value) where
    third_flows : (given : List ℕ) (x y : ℕ) (u : Flow) → IsLater s u → IsOf whole main local_size rank f given truth x → IsOf whole main local_size rank f given type y
        → Flows whole main local_size rank f (more ++ []) deep false given (GivesOf whole main local_size rank f type) u (third_of (shape_or t) b.value x y u)
    third_flows given x y u here v w =
        flows_then whole main local_size rank f more [] deep false false given (GivesOf whole main local_size rank f type) (GivesOf whole main local_size rank f type) u (b.value u) (select_of (shape_or t) x y) (z_value.stays u) (z_value.flows given u here)
        (λ z k. lift_stays k (operators.selected (shape_or t) x y z k.sections) (selected_sorts (shape_or t) x y z k.sections))
        (λ z k now is wider stays inside. step_flows whole main local_size rank f sorted deep now (shape_or t) type (operators.selected (shape_or t) x y z) k of
        (selected_fits whole main local_size rank f sorted now (shape_or t) flag x y z k.sections of.sized refl single (value_of whole main local_size rank f sorted now flag truth x plain (of_later whole main local_size rank f sorted given now truth x (wider refl) v))
        (value_of whole main local_size rank f sorted now (shape_or t) type y of (of_later whole main local_size rank f sorted given now type y (wider refl) w)) (value_of whole main local_size rank f sorted now (shape_or t) type z of is)))

    second_flows : (given : List ℕ) (x : ℕ) (u : Flow) → IsLater s u → IsOf whole main local_size rank f given truth x → Flows whole main local_size rank f (asks ++ (more ++ [])) deep false given (GivesOf whole main local_size rank f type) u (second_of (shape_or t) a.value b.value x u)
    second_flows given x u here v =
        flows_then whole main local_size rank f asks (more ++ []) deep false false given (GivesOf whole main local_size rank f type) (GivesOf whole main local_size rank f type) u (a.value u) (third_of (shape_or t) b.value x) (y_value.stays u) (y_value.flows given u here)
        (λ y k. third_stays (shape_or t) b.value x y k z_value.stays)
        (λ y k now is wider stays inside. third_flows now x y k (later_then s u k here (later_of stays)) (of_later whole main local_size rank f sorted given now truth x (wider refl) v) is)

    all_flows : (given : List ℕ) (u : Flow) → IsLater s u → Flows whole main local_size rank f (tests ++ (asks ++ (more ++ []))) deep (splits || false) given (GivesOf whole main local_size rank f type) u (picked_one t test a b u)
    all_flows given u here =
        flows_then whole main local_size rank f tests (asks ++ (more ++ [])) deep splits false given (GivesOf whole main local_size rank f truth) (GivesOf whole main local_size rank f type) u (test.value u) (second_of (shape_or t) a.value b.value) (x_value.stays u)
        (x_value.flows given u here) (λ x k. second_stays (shape_or t) a.value b.value x k y_value.stays z_value.stays)
        (λ x k now is wider stays inside. second_flows now x k (later_then s u k here (later_of stays)) is)

    pub picked_evaluates : E s (tests ++ (asks ++ more)) deep splits type (picked_one t test a b)
    picked_evaluates = record {
      stays = λ u. emit_then u (test.value u) (second_of (shape_or t) a.value b.value) (x_value.stays u) (λ x k. second_stays (shape_or t) a.value b.value x k y_value.stays z_value.stays);
      flows = λ given u here.
          subst (λ l. Flows whole main local_size rank f (tests ++ (asks ++ l)) deep splits given (GivesOf whole main local_size rank f type) u (picked_one t test a b u)) (append-nil more)
          (subst (λ c. Flows whole main local_size rank f (tests ++ (asks ++ (more ++ []))) deep c given (GivesOf whole main local_size rank f type) u (picked_one t test a b u)) (or_false splits) (all_flows given u here));
    }
