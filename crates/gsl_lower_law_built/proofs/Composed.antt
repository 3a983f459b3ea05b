-- Constructors of arrays and structs.
use Rattle.std.proofs.Common.{◌≡◌, refl, sym, ap, ◌∙◌, subst, ℕ, true, false, List, Option, Some, None}
use Rattle.gsl_base.specs.declared.input.Input.{Input}
use Rattle.gsl_instr.specs.Forms.{form_of}
use Rattle.gsl_instr.specs.declared.op.TheConstants as op
use Rattle.gsl_types.specs.declared.ty.Ty.{Ty}
use Rattle.gsl_types.specs.declared.ty.Ty.TheOpen.{Ty-F}
use Rattle.gsl_types.specs.declared.ty.Ty.TheViews.{out-Ty}
use Rattle.gsl_words.specs.declared.module.Module.{Module}
use Rattle.gsl_values.specs.declared.value.Value.{Value}
use Rattle.gsl_values.specs.declared.value.Value.TheVariants.{Many}
use Rattle.gsl_tree.specs.Around.{Around}
use Rattle.gsl_tree.specs.Operations.{build_kind, build_value}
use Rattle.gsl_tree.specs.Shapes.{shape_kind, shape_of}
use Rattle.gsl_tree.specs.Values.{is_value_of}
use Rattle.gsl_tree.specs.declared.program.Program.{Program}
use Rattle.gsl_meaning.specs.Expressions.{Meant}
use Rattle.gsl_meaning.specs.Running.{given as shader_given}
use Rattle.gsl_meaning.specs.State as shader
use Rattle.gsl_valid.specs.Kinds as kinds
use Rattle.gsl_valid.specs.OperandRules.{is_vector}
use Rattle.gsl_valid.specs.Types.{defined_as}
use Rattle.gsl_machine.specs.Operations.{constructed as constructed_value}
use Rattle.gsl_machine.specs.State.{State, giving_value}
use Rattle.gsl_spv.specs.Sections.{Sections}
use Rattle.gsl_lower_values.specs.Building.{giving}
use Rattle.gsl_lower_law.specs.Values.{StandEach}
use Rattle.gsl_lower_law.proofs.Gathers.{all_there}
use Rattle.gsl_lower_law.proofs.Giving.{Performs, giving_does, giving_grows}
use Rattle.gsl_lower_holders.specs.Flow.{Flow, behind, find_type, giving_here, id_at, type_by, type_id, ◌>>=◌}
use Rattle.gsl_lower_holders.specs.declared.place.FlowPlace.{FlowPlace}
use Rattle.gsl_lower_expr.specs.Parts.{Lower, any_splits, built_from, constructed, operands, typed}
use Rattle.gsl_lower_follows.specs.Frames.{Frame, Good}
use Rattle.gsl_lower_follows.specs.Giving.{Adds, Does, GivesValue, HasGiven, none_waits}
use Rattle.gsl_lower_follows.proofs.Drawn.{computed_given}
use Rattle.gsl_lower_follows.proofs.Fetching.{adds_giving, adds_type_id}
use Rattle.gsl_lower_follows.proofs.Growing.{adds_then}
use Rattle.gsl_lower_law_expr.specs.Known.{AllGive}
use Rattle.gsl_lower_law_built.specs.Arguments.{Composes, constructed_means}
use Rattle.gsl_lower_law_built.specs.Places.{NoVector}
use Rattle.gsl_lower_law_built.proofs.Together.{adds_all, all_do}

-- what is no scalar and no vector has its arguments as its parts
pub parts_are : (t : Ty) (vs : List Value) → shape_of t ≡ None → build_value t vs ≡ Many vs
parts_are t vs is = by (out-Ty t) is
  where
    by : (layer : Ty-F Ty) → shape_kind layer ≡ None → build_kind layer vs ≡ Many vs
    by Ty-F.Void is = refl
    by (Ty-F.One s) is = absurd cc
    by (Ty-F.Vector s n) is = absurd cc
    by (Ty-F.Array element n) is = refl
    by (Ty-F.Runtime element) is = refl
    by (Ty-F.Struct number) is = refl

-- what has parts of a type that is no vector
composes : (m : Module) (input : Input) (type : ℕ) (parts : List ℕ) (vs : List Value) (state : State) → is_vector (kinds.shape_of (defined_as m type)) ≡ false → StandEach state.ids parts vs
    → Performs m input op.COMPOSITE_CONSTRUCT parts type state (Many vs) state.choices
unfolding form_of
composes m input type parts vs state other stands = record {
  gives = λ id. refl;
  named = λ id. refl;
  done = λ id at rest.
      all_there (record state { rest = rest }) parts vs (λ vs. giving_value (record state { rest = rest }) id (constructed_value (is_vector (kinds.shape_of (defined_as m type))) vs)) stands
      ∙ ap (λ b. giving_value (record state { rest = rest }) id (constructed_value b vs)) other;
}

module _ (m : Module) (input : Input) (whole : Sections) (f : Frame m input whole) (p : Program) (around : Around) where
  adds_whole : (ty : Ty) (ids : List ℕ) → Adds (type_id ty >>= giving_here op.COMPOSITE_CONSTRUCT ids)
  adds_whole ty ids = adds_then (type_id ty) (giving_here op.COMPOSITE_CONSTRUCT ids) (adds_type_id m input whole ty) (λ type. adds_giving m input whole op.COMPOSITE_CONSTRUCT ids type)

  -- where the type is found, the parts are put together
  whole_does : (ty : Ty) (ids : List ℕ) (vs : List Value) (b : Flow) (s : shader.State) (units : ℕ) (state : State) → Good m input whole f p around b s state → shape_of ty ≡ None → NoVector m ty b.place → is_value_of p.structs ty (Many vs) ≡ true
      → StandEach state.ids ids vs → Does m input whole f p 0 units state (HasGiven m input whole f p around false ty b state) none_waits (shader_given (Many vs) s units) ((type_id ty >>= giving_here op.COMPOSITE_CONSTRUCT ids) b)
  unfolding type_id
  whole_does ty ids vs b s units state good none other fits stand =
      subst (λ o. Does m input whole f p 0 units state (HasGiven m input whole f p around false ty b state) none_waits (shader_given (Many vs) s units) (behind (type_by ty o b) (giving_here op.COMPOSITE_CONSTRUCT ids))) (sym none) (by (find_type ty b.place.composites) other)
    where
      by : (o : Option ℕ) → ((id : ℕ) → o ≡ Some id → is_vector (kinds.shape_of (defined_as m id)) ≡ false)
          → Does m input whole f p 0 units state (HasGiven m input whole f p around false ty b state) none_waits (shader_given (Many vs) s units) (behind (id_at o b) (giving_here op.COMPOSITE_CONSTRUCT ids))
      by None other = tt
      by (Some type) other =
          computed_given m input whole f p around ty (λ choices. (Many vs, choices)) (giving op.COMPOSITE_CONSTRUCT ids type) (λ b. giving_grows m input whole op.COMPOSITE_CONSTRUCT ids type b.sections) (λ choices are. record { typed = fits; left = are }) b s units state good
          (giving_does m input whole op.COMPOSITE_CONSTRUCT ids type state (Many vs) state.choices b.sections (λ text. composes m input type ids vs state (other type refl) stand))

  -- A constructor of an array or a struct on the values of expressions.
  pub composed_gives : (args : List Lower) (xs : List Meant) (ty : Ty) → Composes p args ty → NoVector m ty f.place → AllGive (GivesValue m input whole f p around) args xs
      → GivesValue m input whole f p around (any_splits args) ty (constructed ty args) (constructed_means ty xs)
  composed_gives args xs ty known other all =
      subst (λ o. GivesValue m input whole f p around (any_splits args) ty (operands args >>= (λ ids. built_from ty o ids (typed args ids))) (constructed_means ty xs)) (sym known.whole)
      (record {
        adds = adds_all m input whole f p around args xs ty (λ ids. type_id ty >>= giving_here op.COMPOSITE_CONSTRUCT ids) (λ vs. shader_given (build_value ty vs)) all (adds_whole ty);
        does = λ b0 s units state good.
            all_do m input whole f p around args xs ty (λ ids. type_id ty >>= giving_here op.COMPOSITE_CONSTRUCT ids) (λ vs. shader_given (build_value ty vs)) all (adds_whole ty) b0 s units state
            (λ ids vs b t left mid grown good fits stand.
            let is = parts_are ty vs known.whole in
            subst (λ v. Does m input whole f p 0 left mid (HasGiven m input whole f p around false ty b mid) none_waits (shader_given v t left) ((type_id ty >>= giving_here op.COMPOSITE_CONSTRUCT ids) b)) (sym is)
            (whole_does ty ids vs b t left mid good known.whole (λ id found. other id (sym (ap (λ (place : FlowPlace). find_type ty place.composites) good.seated.same) ∙ found)) (subst (λ v. is_value_of p.structs ty v ≡ true) is (known.gives vs fits)) stand))
            good;
      })
