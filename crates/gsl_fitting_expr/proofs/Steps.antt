-- A step of the builder behind one value, and behind two.
use Rattle.std.proofs.Common.{ℕ, Bool, false, ◌||◌, List, [], ◌++◌, Some, refl, ap, ◌∙◌, subst, append-nil}
use Rattle.gsl_types.specs.declared.ty.Ty.{Ty}
use Rattle.gsl_tree.specs.Shapes.{Shape}
use Rattle.gsl_words.specs.declared.module.Module.{Module}
use Rattle.gsl_spv.specs.Sections.{Sections}
use Rattle.gsl_lower_values.specs.Building.{Step}
use Rattle.gsl_lower_holders.specs.Flow.{Emit, Flow, behind, lift}
use Rattle.gsl_lower_holders.specs.Waiting.{fetch, hold}
use Rattle.gsl_fitting.specs.Fits.{Frame}
use Rattle.gsl_fitting_types.specs.Making.{AreSorted, Comes, GivesValue, IsValue, Sorts, made}
use Rattle.gsl_fitting_types.proofs.Knowing.{one_type}
use Rattle.gsl_fitting_flow.specs.Flowing.{EmitStays, Flows, GivesOf, IsOf, IsTypeFor, IsLater, Waits, Widens, asked_if}
use Rattle.gsl_fitting_flow.proofs.Following.{emit_then, flows_so, flows_then, lift_flows, lift_stays, later_of, later_then}
use Rattle.gsl_fitting_flow.proofs.Holding.{fetch_flows, fetch_stays, hold_flows, hold_stays, of_later, type_on, waits_later}
use Rattle.gsl_fitting_expr.specs.Evaluating.{Evaluates, IsPlain}
use Rattle.gsl_fitting_expr.proofs.Yielding.{or_false}

-- ---- parts

abbrev pub behind_one : Emit ℕ → (ℕ → Step ℕ) → Emit ℕ
behind_one first step u = behind (first u) (λ x. lift (step x))

abbrev last_of : (ℕ → ℕ → Step ℕ) → ℕ → ℕ → Emit ℕ
last_of step y again = lift (step again y)

abbrev again_of : Bool → Ty → (ℕ → ℕ → Step ℕ) → ℕ → ℕ → Emit ℕ
again_of b t step kept y v = behind (fetch b t kept v) (last_of step y)

abbrev second_of : Bool → Ty → Emit ℕ → (ℕ → ℕ → Step ℕ) → ℕ → Emit ℕ
second_of b t second step kept v = behind (second v) (again_of b t step kept)

abbrev held_of : Bool → Ty → Emit ℕ → (ℕ → ℕ → Step ℕ) → ℕ → Emit ℕ
held_of b t second step x v = behind (hold b x v) (second_of b t second step)

-- the first waits where the second has labels
abbrev pub behind_two : Bool → Ty → Emit ℕ → Emit ℕ → (ℕ → ℕ → Step ℕ) → Emit ℕ
behind_two b t first second step u = behind (first u) (held_of b t second step)

again_stays : (b : Bool) (t : Ty) (step : ℕ → ℕ → Step ℕ) (kept y : ℕ) (u : Flow) → ((x y : ℕ) (s : Sections) → Sorts s (step x y s)) → EmitStays u (again_of b t step kept y u)
again_stays b t step kept y u sorts = emit_then u (fetch b t kept u) (last_of step y) (fetch_stays b t kept u) (λ again v. lift_stays v (step again y v.sections) (sorts again y v.sections))

second_stays : (b : Bool) (t : Ty) (second : Emit ℕ) (step : ℕ → ℕ → Step ℕ) (kept : ℕ) (u : Flow) → ((u : Flow) → EmitStays u (second u)) → ((x y : ℕ) (s : Sections) → Sorts s (step x y s)) → EmitStays u (second_of b t second step kept u)
second_stays b t second step kept u stays sorts = emit_then u (second u) (again_of b t step kept) (stays u) (λ y v. again_stays b t step kept y v sorts)

held_stays : (b : Bool) (t : Ty) (second : Emit ℕ) (step : ℕ → ℕ → Step ℕ) (x : ℕ) (u : Flow) → ((u : Flow) → EmitStays u (second u)) → ((x y : ℕ) (s : Sections) → Sorts s (step x y s)) → EmitStays u (held_of b t second step x u)
held_stays b t second step x u stays sorts = emit_then u (hold b x u) (second_of b t second step) (hold_stays b x u) (λ kept v. second_stays b t second step kept v stays sorts)

module _ (whole : Sections) (main : ℕ) (local_size : List ℕ) (rank : ℕ → ℕ) (f : Frame) (sorted : AreSorted whole) where
  abbrev m : Module
  m = made whole main local_size rank f

  -- ---- values and their types

  pub value_of : (given : List ℕ) (shape : Shape) (type id : ℕ) → IsPlain whole main local_size rank f shape type → IsOf whole main local_size rank f given type id → IsValue whole main local_size rank f given shape id
  value_of given shape type id plain v = record { type = type; of = plain.of; typed = v.typed; known = v.known }

  pub of_value : (given : List ℕ) (shape : Shape) (type id : ℕ) → IsPlain whole main local_size rank f shape type → IsValue whole main local_size rank f given shape id → IsOf whole main local_size rank f given type id
  of_value given shape type id plain v = record { typed = v.typed ∙ ap Some (one_type whole shape v.type type v.of plain.of); known = v.known }

  -- a step that gives a value of a shape
  pub step_flows : (deep : ℕ) (given : List ℕ) (shape : Shape) (type : ℕ) (step : Step ℕ) (u : Flow) → IsPlain whole main local_size rank f shape type → Comes whole main local_size rank f given (GivesValue whole main local_size rank f shape) u.sections (step u.sections)
      → Flows whole main local_size rank f [] deep false given (GivesOf whole main local_size rank f type) u (lift step u)
  step_flows deep given shape type step u plain comes =
      flows_so whole main local_size rank f [] deep false given (λ id now after. IsValue whole main local_size rank f now shape id) (GivesOf whole main local_size rank f type) u (lift step u) (λ id now after inside wider v. of_value now shape type id plain v)
      (lift_flows whole main local_size rank f deep given (GivesValue whole main local_size rank f shape) u (step u.sections) comes)

  -- ---- behind one

  pub one_evaluates : (s : Flow) (asks : List ℕ) (deep : ℕ) (splits : Bool) (type other : ℕ) (shape : Shape) (first : Emit ℕ) (step : ℕ → Step ℕ) → Evaluates whole main local_size rank f s asks deep splits type first → IsPlain whole main local_size rank f shape other
      → ((x : ℕ) (s : Sections) → Sorts s (step x s)) → ((given : List ℕ) (x : ℕ) (s : Sections) → IsOf whole main local_size rank f given type x → Comes whole main local_size rank f given (GivesValue whole main local_size rank f shape) s (step x s))
      → Evaluates whole main local_size rank f s asks deep splits other (behind_one first step)
  one_evaluates s asks deep splits type other shape first step e plain sorts comes = record {
    stays = λ u. emit_then u (first u) (λ x. lift (step x)) (e.stays u) (λ x v. lift_stays v (step x v.sections) (sorts x v.sections));
    flows = λ given u same.
        subst (λ l. Flows whole main local_size rank f l deep splits given (GivesOf whole main local_size rank f other) u (behind_one first step u)) (append-nil asks)
        (subst (λ b. Flows whole main local_size rank f (asks ++ []) deep b given (GivesOf whole main local_size rank f other) u (behind_one first step u)) (or_false splits)
        (flows_then whole main local_size rank f asks [] deep splits false given (GivesOf whole main local_size rank f type) (GivesOf whole main local_size rank f other) u (first u) (λ x. lift (step x)) (e.stays u) (e.flows given u same)
        (λ x v. lift_stays v (step x v.sections) (sorts x v.sections)) (λ x v now is wider stays inside. step_flows deep now shape other (step x) v plain (comes now x v.sections is))));
  }

  -- ---- behind two

  module _ (s : Flow) (asks more : List ℕ) (deep : ℕ) (one_splits two_splits : Bool) (t : Ty) (type second_type other : ℕ) (shape : Shape) (first second : Emit ℕ) (step : ℕ → ℕ → Step ℕ) (a : Evaluates whole main local_size rank f s asks deep one_splits type first)
      (b : Evaluates whole main local_size rank f s more deep two_splits second_type second) (same : IsTypeFor whole main local_size rank f s.place t type) (plain : IsPlain whole main local_size rank f shape other) (sorts : (x y : ℕ) (s : Sections) → Sorts s (step x y s))
      (comes : (given : List ℕ) (x y : ℕ) (s : Sections) → IsOf whole main local_size rank f given type x → IsOf whole main local_size rank f given second_type y → Comes whole main local_size rank f given (GivesValue whole main local_size rank f shape) s (step x y s)) where
    again_flows : (given : List ℕ) (kept y : ℕ) (u : Flow) → IsLater s u → Waits whole main local_size rank f two_splits given type kept → IsOf whole main local_size rank f given second_type y
        → Flows whole main local_size rank f [] deep false given (GivesOf whole main local_size rank f other) u (again_of two_splits t step kept y u)
    again_flows given kept y u here waits v =
        flows_then whole main local_size rank f [] [] deep false false given (λ id now after. IsOf whole main local_size rank f now type id × Widens given now) (GivesOf whole main local_size rank f other) u (fetch two_splits t kept u) (last_of step y) (fetch_stays two_splits t kept u)
        (flows_so whole main local_size rank f [] deep false given (GivesOf whole main local_size rank f type) (λ id now after. IsOf whole main local_size rank f now type id × Widens given now) u (fetch two_splits t kept u) (λ id now after inside wider is. (is, wider refl))
        (fetch_flows whole main local_size rank f sorted two_splits deep given t type kept u (type_on whole main local_size rank f sorted s u t type here same) waits))
        (λ again w. lift_stays w (step again y w.sections) (sorts again y w.sections))
        (λ again w now is wider stays inside. step_flows deep now shape other (step again y) w plain (comes now again y w.sections is.0 (of_later whole main local_size rank f sorted given now second_type y is.1 v)))

    second_flows : (given : List ℕ) (kept : ℕ) (u : Flow) → IsLater s u → Waits whole main local_size rank f two_splits given type kept → Flows whole main local_size rank f (more ++ []) deep (two_splits || false) given (GivesOf whole main local_size rank f other) u (second_of two_splits t second step kept u)
    second_flows given kept u here waits =
        flows_then whole main local_size rank f more [] deep two_splits false given (GivesOf whole main local_size rank f second_type) (GivesOf whole main local_size rank f other) u (second u) (again_of two_splits t step kept) (b.stays u) (b.flows given u here)
        (λ y v. again_stays two_splits t step kept y v sorts)
        (λ y v now is wider stays inside. again_flows now kept y v (later_then s u v here (later_of stays)) (waits_later whole main local_size rank f sorted two_splits given now type kept wider waits) is)

    held_flows : (given : List ℕ) (x : ℕ) (u : Flow) → IsLater s u → IsOf whole main local_size rank f given type x
        → Flows whole main local_size rank f (asked_if two_splits type ++ (more ++ [])) deep (false || (two_splits || false)) given (GivesOf whole main local_size rank f other) u (held_of two_splits t second step x u)
    held_flows given x u here v =
        flows_then whole main local_size rank f (asked_if two_splits type) (more ++ []) deep false (two_splits || false) given (λ kept now after. Waits whole main local_size rank f two_splits now type kept) (GivesOf whole main local_size rank f other) u (hold two_splits x u)
        (second_of two_splits t second step) (hold_stays two_splits x u)
        (hold_flows whole main local_size rank f sorted two_splits deep given type x u v) (λ kept w. second_stays two_splits t second step kept w b.stays sorts)
        (λ kept w now waits wider stays inside. second_flows now kept w (later_then s u w here (later_of stays)) waits)

    all_flows : (given : List ℕ) (u : Flow) → IsLater s u
        → Flows whole main local_size rank f (asks ++ (asked_if two_splits type ++ (more ++ []))) deep (one_splits || (false || (two_splits || false))) given (GivesOf whole main local_size rank f other) u (behind_two two_splits t first second step u)
    all_flows given u here =
        flows_then whole main local_size rank f asks (asked_if two_splits type ++ (more ++ [])) deep one_splits (false || (two_splits || false)) given (GivesOf whole main local_size rank f type) (GivesOf whole main local_size rank f other) u (first u)
        (held_of two_splits t second step) (a.stays u) (a.flows given u here) (λ x w. held_stays two_splits t second step x w b.stays sorts)
        (λ x w now is wider stays inside. held_flows now x w (later_then s u w here (later_of stays)) is)

    pub two_evaluate : Evaluates whole main local_size rank f s (asks ++ (asked_if two_splits type ++ more)) deep (one_splits || two_splits) other (behind_two two_splits t first second step)
    two_evaluate = record {
      stays = λ u. emit_then u (first u) (held_of two_splits t second step) (a.stays u) (λ x w. held_stays two_splits t second step x w b.stays sorts);
      flows = λ given u here.
          subst (λ l. Flows whole main local_size rank f (asks ++ (asked_if two_splits type ++ l)) deep (one_splits || two_splits) given (GivesOf whole main local_size rank f other) u (behind_two two_splits t first second step u)) (append-nil more)
          (subst (λ z. Flows whole main local_size rank f (asks ++ (asked_if two_splits type ++ (more ++ []))) deep (one_splits || z) given (GivesOf whole main local_size rank f other) u (behind_two two_splits t first second step u)) (or_false two_splits) (all_flows given u here));
    }
