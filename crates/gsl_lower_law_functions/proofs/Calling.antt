-- Calls of functions whose parameters go in alone.
use Rattle.std.proofs.Common.{◌≡◌, refl, sym, ap, ◌∙◌, subst, ℕ, ◌<◌, Bool, true, false, List, ◌∷◌, length, map, Option, Some, None, arith, if◌then◌else◌}
use Rattle.std.specs.Prelude.{nat_le, slice_get}
use Rattle.std.proofs.lemmas.List.{length-map}
use Rattle.gsl_base.specs.declared.input.Input.{Input}
use Rattle.gsl_instr.specs.declared.op.TheConstants as op
use Rattle.gsl_types.specs.declared.ty.Direction.{Direction}
use Rattle.gsl_types.specs.declared.ty.Direction.TheVariants.{In}
use Rattle.gsl_types.specs.declared.ty.StructType.{StructType}
use Rattle.gsl_types.specs.declared.ty.Ty.{Ty}
use Rattle.gsl_types.specs.declared.ty.Ty.TheOpen.{Ty-F}
use Rattle.gsl_types.specs.declared.ty.Ty.TheViews.{out-Ty}
use Rattle.gsl_words.specs.declared.module.Module.{Module}
use Rattle.gsl_values.specs.declared.value.Value.{Value}
use Rattle.gsl_tree.specs.Around.{Around}
use Rattle.gsl_tree.specs.Weights.{params_of}
use Rattle.gsl_tree.specs.declared.program.Program.{Program}
use Rattle.gsl_meaning.specs.Expressions as shader_expr
use Rattle.gsl_meaning.specs.Expressions.{Called, Meant, Passed as ShaderPassed, Setting}
use Rattle.gsl_meaning.specs.Running.{Got, Run}
use Rattle.gsl_meaning.specs.Running as shader_run
use Rattle.gsl_meaning.specs.State as shader
use Rattle.gsl_machine.specs.State.{Ids, State}
use Rattle.gsl_spv.specs.Calls as call
use Rattle.gsl_spv.specs.Declarations as d
use Rattle.gsl_spv.specs.Sections.{Sections}
use Rattle.gsl_spv.specs.declared.plain.PlainType.TheVariants as plain
use Rattle.gsl_spv.specs.declared.refusal.TheConstants.{MOST_IDS}
use Rattle.gsl_spv.proofs.Answering.{plain_once}
use Rattle.gsl_lower_values.specs.Building.{Full, Made, id_by}
use Rattle.gsl_lower_law.specs.Computing.{Grows}
use Rattle.gsl_lower_law.proofs.Adding.{extends_intern}
use Rattle.gsl_lower_law.proofs.Joining.{keeps_then}
use Rattle.gsl_lower_law.proofs.Plain.{intern_does}
use Rattle.gsl_lower_holders.specs.Flow.{Emit, Flow, Gives, Lacks, Lowered, behind, given, giving_here, id_at, ◌>>=◌}
use Rattle.gsl_lower_holders.specs.declared.place.FlowPlace.{FlowPlace}
use Rattle.gsl_lower_expr.specs.Calls.{all_back, called_by, called_with, calling, passing_all, pointers, result_by, result_type, tys as types_in}
use Rattle.gsl_lower_expr.specs.Parts.{Lower, any_splits}
use Rattle.gsl_lower_follows.specs.Following.{Follows}
use Rattle.gsl_lower_follows.specs.Frames.{Frame, Good, HasType, Inside, Seated, type_of_param}
use Rattle.gsl_lower_follows.specs.Giving.{Adds, After, Does, GivesValue, Grown, GrownTo, HasGiven, none_waits}
use Rattle.gsl_lower_follows.proofs.Beginning.{does_aside}
use Rattle.gsl_lower_follows.proofs.Behind.{follows_behind, follows_then, reaches_here}
use Rattle.gsl_lower_follows.proofs.Fetching.{adds_giving, adds_type_id}
use Rattle.gsl_lower_follows.proofs.Growing.{adds_given, adds_lift, adds_then, grown_behind, grown_then}
use Rattle.gsl_lower_follows.proofs.Holding.{Unchanged, does_type_id}
use Rattle.gsl_lower_follows.proofs.Placing.{inside_between}
use Rattle.gsl_lower_law_expr.specs.Known.{AllGive}
use Rattle.gsl_lower_law_entered.specs.OfLawReturns.{AreAlike}
use Rattle.gsl_lower_law_entered.specs.Modules.{IsFrame}
use Rattle.gsl_lower_law_entered.specs.Entering.{Argument, AreHeld, values_of}
use Rattle.gsl_lower_law_functions.specs.Functions.{FunctionDoes, HasReturned}
use Rattle.gsl_lower_law_functions.specs.Passing.{AreOf, ins}
use Rattle.gsl_lower_law_functions.proofs.Passing.{AllGo, ArePassed, GoTo, Passed, adds_passing, all_go, going, going_all, meant, none_back, nothing_back, passing_does, pointers_are, still_held, values_are}

module _ (m : Module) (input : Input) (whole : Sections) (f : Frame m input whole) (p : Program) (around : Around) where
  -- ---- the type of the result

  void_grows : (b : Flow) (test : Bool) → Grows b.sections (if test then Made (call.plain_type plain.Void b.sections).id (call.plain_type plain.Void b.sections).sections else Full)
  void_grows b true = extends_intern (d.plain_type plain.Void) b.sections
  void_grows b false = tt

  pub adds_result : (t : Ty) → Adds (result_type t)
  unfolding result_type
  adds_result t = by (out-Ty t)
    where
      by : (layer : Ty-F Ty) → Adds (result_by t layer)
      by Ty-F.Void = adds_lift (id_by (call.plain_type plain.Void)) (λ b. void_grows b (nat_le (call.plain_type plain.Void b.sections).sections.last MOST_IDS))
      by (Ty-F.One s) = adds_type_id m input whole t
      by (Ty-F.Vector s n) = adds_type_id m input whole t
      by (Ty-F.Array a n) = adds_type_id m input whole t
      by (Ty-F.Runtime a) = adds_type_id m input whole t
      by (Ty-F.Struct k) = adds_type_id m input whole t

  pub does_result : (t : Ty) (units : ℕ) (b : Flow) (s : shader.State) (state : State) → Good m input whole f p around b s state → Does m input whole f p 0 units state (Unchanged m input whole f p around b state) none_waits (Got tt s units) (result_type t b)
  unfolding result_type
  does_result t units b s state good = by (out-Ty t)
    where
      by : (layer : Ty-F Ty) → Does m input whole f p 0 units state (Unchanged m input whole f p around b state) none_waits (Got tt s units) (result_by t layer b)
      by Ty-F.Void = does_aside m input whole f p around (λ (id : ℕ) (ids : Ids). Unit {0}) units b s state (id_by (call.plain_type plain.Void)) good (intern_does m input whole (λ (id : ℕ) (ids : Ids). Unit {0}) (d.plain_type plain.Void) state b.sections (plain_once plain.Void) (λ id stands text lasting. tt))
      by (Ty-F.One k) = does_type_id m input whole f p around t units b s state good
      by (Ty-F.Vector k n) = does_type_id m input whole f p around t units b s state good
      by (Ty-F.Array a n) = does_type_id m input whole f p around t units b s state good
      by (Ty-F.Runtime a) = does_type_id m input whole f p around t units b s state good
      by (Ty-F.Struct k) = does_type_id m input whole f p around t units b s state good

  -- ---- the call behind its arguments

  module _ (globals : Around) (place : FlowPlace) (stages : List (Option Value)) (structs : List StructType) (setting : Setting) (number function : ℕ) (tys arg_tys : List Ty) (t : Ty)
      (one : IsFrame m input whole place stages f) (named : slice_get place.functions number ≡ Some function) (alike : AreAlike around globals) (function_does : FunctionDoes m input whole p place stages globals function (ins tys) t (setting.call number)) where
    -- wherever control is in the function, the function that is called has its id
    named_here : (b : Flow) → Seated m input whole f b.place → slice_get b.place.functions number ≡ Some function
    named_here b at = ap (λ (other : FlowPlace). slice_get other.functions number) at.same ∙ ap (λ l. slice_get l number) one.knows.functions ∙ named

    -- what the shader goes on with behind the arguments
    abbrev means : List ShaderPassed → Run Value
    means qs = shader_run.◌>>=◌ (setting.call number (shader_expr.values_of qs)) (shader_expr.returning qs)

    -- what is put behind the call
    abbrev behind_call : List Passed → ℕ → Emit ℕ
    behind_call ways id = all_back structs ways (ins tys) arg_tys >>= (λ done. given id)

    module _ (splits : Bool) (b0 b : Flow) (state0 state : State) (s : shader.State) (args : List Argument) (units : ℕ) (grown : Grown b0 b) (many : length args ≡ length tys) (typed : (k : ℕ) → HasType m input whole f p around (type_of_param (slice_get (ins tys) k)) (slice_get (values_of args) k))
        (held : AreHeld m input whole f b0.place.used state args) (below : (k : ℕ) (a : Argument) → slice_get args k ≡ Some a → a.holder < b.place.used) (after : After m input whole f p around splits b0 state0 b s state) where
      abbrev Is : ℕ → Flow → Value → shader.State → State → Type 0
      Is id later v u last = HasGiven m input whole f p around splits t b0 state0 id later v u last

      held_on : (b1 : Flow) (mid : State) → After m input whole f p around false b state b1 s mid → AreHeld m input whole f b0.place.used mid args
      held_on b1 mid unchanged = record { each = λ k a is. still_held m input whole f p around b0.place.used b.place.used state mid a (below k a is) unchanged.held (held.each k a is); apart = held.apart }

      given_back : (b1 later : Flow) (mid last : State) (id : ℕ) (c : Called) (u : shader.State) → After m input whole f p around false b state b1 s mid → HasReturned m input whole p f around (ins tys) t b0.place.used id args mid later c u last → Is id later c.value u last
      given_back b1 later mid last id c u unchanged ret = record {
        given = ret.given;
        after = record {
          good = ret.good;
          held = record { same = λ holder n less seat. ret.held.same holder n less seat ∙ unchanged.held.same holder n (let used = grown.used in omega (arith, less, used)) seat ∙ after.held.same holder n less seat };
          ids = λ e. keeps_then (after.ids e) (keeps_then (unchanged.ids refl) ret.ids);
        };
      }

      follows_call : (type : ℕ) (b1 later : Flow) (id : ℕ) (mid : State) → Grown b b1 → After m input whole f p around false b state b1 s mid → giving_here op.FUNCTION_CALL (function ∷ pointers (map going args)) type b1 ≡ Gives id later → Inside m input whole f later.sections
          → Follows m input p 0 units mid (Is id later) (none_waits id later) (means (map meant args) s units)
      follows_call type b1 later id mid more unchanged puts inside =
          follows_then m input p 0 units mid (HasReturned m input whole p f around (ins tys) t b0.place.used id args mid later) (λ u last. ⊥) (Is id later) (none_waits id later) (setting.call number (shader_expr.values_of (map meant args)) s units) (shader_expr.returning (map meant args))
          (subst (λ vs. Follows m input p 0 units mid (HasReturned m input whole p f around (ins tys) t b0.place.used id args mid later) (λ u last. ⊥) (setting.call number vs s units)) (sym (values_are args))
          (function_does.does f around b1 later args type id b0.place.used units s mid one alike unchanged.good (ap (λ ids. giving_here op.FUNCTION_CALL (function ∷ ids) type b1) (sym (pointers_are args)) ∙ puts) inside
          (held_on b1 mid unchanged) (many ∙ sym (length-map tys (λ ty. (In, ty)))) typed))
          (λ c u left last ret less. subst (λ w. Follows m input p 0 left last (Is id later) (none_waits id later) (Got c.value w left)) (sym (none_back args c.params u)) (reaches_here m input left last (Is id later c.value u) (given_back b1 later mid last id c u unchanged ret)))
          (λ u left last none less. absurd none)

      by_call : (type : ℕ) (b1 : Flow) → Grown b b1 → Does m input whole f p 0 units state (Unchanged m input whole f p around b state) none_waits (Got tt s units) (Gives type b1) → (low : Lowered ℕ) → giving_here op.FUNCTION_CALL (function ∷ pointers (map going args)) type b1 ≡ low → GrownTo b1 low
          → Does m input whole f p 0 units state Is none_waits (means (map meant args) s units) (behind low (behind_call (map going args)))
      by_call type b1 more does Lacks puts g = tt
      by_call type b1 more does (Gives id later) puts g =
          subst (λ (low : Lowered (Unit {0})). Does m input whole f p 0 units state Is none_waits (means (map meant args) s units) (behind low (λ done. given id))) (sym (nothing_back structs (map going args) (ins tys) arg_tys later (going_all args)))
          (λ inside.
          let q = does (inside_between m input whole f b.sections b1.sections later.sections after.good.inside inside more.extends g.extends) in
          follows_behind m input p 0 0 units units state q.later (Is id later) (none_waits id later) (means (map meant args) s units) q.stretch q.less (follows_call type b1 later id q.later more q.is puts inside))

      by_type : (low : Lowered ℕ) → GrownTo b low → Does m input whole f p 0 units state (Unchanged m input whole f p around b state) none_waits (Got tt s units) low
          → Does m input whole f p 0 units state Is none_waits (means (map meant args) s units) (behind (behind low (giving_here op.FUNCTION_CALL (function ∷ pointers (map going args)))) (behind_call (map going args)))
      by_type Lacks g does = tt
      by_type (Gives type b1) g does = by_call type b1 g does (giving_here op.FUNCTION_CALL (function ∷ pointers (map going args)) type b1) refl (adds_giving m input whole op.FUNCTION_CALL (function ∷ pointers (map going args)) type b1)

      called_here : Does m input whole f p 0 units state Is none_waits (means (map meant args) s units) (called_with structs number (ins tys) arg_tys t (map going args) b)
      unfolding called_with
      called_here =
          subst (λ (o : Option ℕ). Does m input whole f p 0 units state Is none_waits (means (map meant args) s units) (behind (behind (id_at o b) (λ fid. result_type t >>= giving_here op.FUNCTION_CALL (fid ∷ pointers (map going args)))) (behind_call (map going args)))) (sym (named_here b after.good.seated))
          (by_type (result_type t b) (adds_result t b) (does_result t units b s state after.good))

    -- ---- what only adds

    adds_told : (b : Flow) (ways : List Passed) → AllGo ways → GrownTo b (called_with structs number (ins tys) arg_tys t ways b)
    unfolding called_with
    adds_told b ways all = grown_behind b (called_by number t ways b) (behind_call ways) (called (slice_get b.place.functions number)) back
      where
        back : (id : ℕ) → Adds (behind_call ways id)
        back id later = subst (λ (low : Lowered (Unit {0})). GrownTo later (behind low (λ done. given id))) (sym (nothing_back structs ways (ins tys) arg_tys later all)) (adds_given id later)

        called : (o : Option ℕ) → GrownTo b (behind (id_at o b) (λ fid. result_type t >>= giving_here op.FUNCTION_CALL (fid ∷ pointers ways)))
        called None = tt
        called (Some fid) = adds_then (result_type t) (giving_here op.FUNCTION_CALL (fid ∷ pointers ways)) (adds_result t) (λ type. adds_giving m input whole op.FUNCTION_CALL (fid ∷ pointers ways) type) b

    -- ---- the whole

    module _ (args : List Lower) (xs : List Meant) (of : AreOf args tys) (all : AllGive (GivesValue m input whole f p around) args xs) (of_types : types_in args ≡ arg_tys) where
      abbrev whole_emit : Emit ℕ
      whole_emit = passing_all structs args (ins tys) >>= called_with structs number (ins tys) arg_tys t

      abbrev whole_run : Run Value
      whole_run = shader_run.◌>>=◌ (shader_expr.passing_all setting.structs (ins tys) xs) means

      adds_whole : Adds whole_emit
      adds_whole b = by (passing_all structs args (ins tys) b) (adds_passing m input whole f p around structs setting.structs args xs tys of all b) (all_go structs args tys b)
        where
          more : (between : Flow) (low : Lowered ℕ) → Grown b between → GrownTo between low → GrownTo b low
          more between Lacks grown g = tt
          more between (Gives id later) grown g = grown_then grown g

          by : (low : Lowered (List Passed)) → GrownTo b low → GoTo low → GrownTo b (behind low (called_with structs number (ins tys) arg_tys t))
          by Lacks g goes = tt
          by (Gives ways between) g goes = more between (called_with structs number (ins tys) arg_tys t ways between) g (adds_told between ways goes)

      abbrev First : Flow → State → List Passed → Flow → List ShaderPassed → shader.State → State → Type 0
      First b state = ArePassed m input whole f p around (any_splits args) tys b state

      abbrev Then : Flow → State → ℕ → Flow → Value → shader.State → State → Type 0
      Then b state = HasGiven m input whole f p around (any_splits args) t b state

      whole_does : (b : Flow) (s : shader.State) (units : ℕ) (state : State) → Good m input whole f p around b s state
          → Does m input whole f p 0 units state (HasGiven m input whole f p around (any_splits args) t b state) none_waits (whole_run s units) (whole_emit b)
      whole_does b s units state good =
          by (passing_all structs args (ins tys) b) (adds_passing m input whole f p around structs setting.structs args xs tys of all b) (all_go structs args tys b)
          (passing_does m input whole f p around structs setting.structs args xs tys of all b s units state good)
        where
          each : (ways : List Passed) (between : Flow) (qs : List ShaderPassed) (u : shader.State) (left : ℕ) (mid : State) → Grown b between → First b state ways between qs u mid
              → Does m input whole f p 0 left mid (Then b state) none_waits (means qs u left) (called_with structs number (ins tys) arg_tys t ways between)
          each ways between qs u left mid grown pd =
              subst (λ (ws : List Passed). Does m input whole f p 0 left mid (Then b state) none_waits (means qs u left) (called_with structs number (ins tys) arg_tys t ws between)) (sym pd.are)
              (subst (λ (rs : List ShaderPassed). Does m input whole f p 0 left mid (Then b state) none_waits (means rs u left) (called_with structs number (ins tys) arg_tys t (map going pd.args) between)) (sym pd.mean)
              (called_here (any_splits args) b between state mid u pd.args left grown pd.many pd.typed pd.held pd.below pd.after))

          later_by : (ways : List Passed) (between : Flow) → Grown b between → Does m input whole f p 0 units state (First b state) none_waits (shader_expr.passing_all setting.structs (ins tys) xs s units) (Gives ways between) → (low : Lowered ℕ) → GrownTo between low
              → ((qs : List ShaderPassed) (u : shader.State) (left : ℕ) (mid : State) → First b state ways between qs u mid → Does m input whole f p 0 left mid (Then b state) none_waits (means qs u left) low)
              → Does m input whole f p 0 units state (Then b state) none_waits (whole_run s units) low
          later_by ways between grown does Lacks g go = tt
          later_by ways between grown does (Gives id later) g go = λ inside.
              let there = inside_between m input whole f b.sections between.sections later.sections good.inside inside grown.extends g.extends in
              follows_then m input p 0 units state (First b state ways between) (none_waits ways between) (Then b state id later) (none_waits id later) (shader_expr.passing_all setting.structs (ins tys) xs s units) means (does there)
              (λ qs u left mid pd less. go qs u left mid pd inside)
              (λ u left mid none less. absurd none)

          by : (low : Lowered (List Passed)) → GrownTo b low → GoTo low → Does m input whole f p 0 units state (First b state) none_waits (shader_expr.passing_all setting.structs (ins tys) xs s units) low
              → Does m input whole f p 0 units state (Then b state) none_waits (whole_run s units) (behind low (called_with structs number (ins tys) arg_tys t))
          by Lacks g goes does = tt
          by (Gives ways between) g goes does =
              later_by ways between g does (called_with structs number (ins tys) arg_tys t ways between) (adds_told between ways goes) (λ qs u left mid pd. each ways between qs u left mid g pd)

pub call_gives : (m : Module) (input : Input) (whole : Sections) (f : Frame m input whole) (p : Program) (around globals : Around) (place : FlowPlace) (stages : List (Option Value)) (structs : List StructType) (setting : Setting) (number function : ℕ) (args : List Lower) (xs : List Meant) (tys : List Ty) (t : Ty) → IsFrame m input whole place stages f → slice_get place.functions number ≡ Some function → AreAlike around globals
    → params_of (slice_get setting.prototypes number) ≡ ins tys → AreOf args tys → AllGive (GivesValue m input whole f p around) args xs → FunctionDoes m input whole p place stages globals function (ins tys) t (setting.call number)
    → GivesValue m input whole f p around (any_splits args) t (calling structs setting.prototypes number args t) (shader_expr.calling setting number xs)
call_gives m input whole f p around globals place stages structs setting number function args xs tys t one named alike params of all does =
    subst (λ (ps : List (Direction × Ty)). GivesValue m input whole f p around (any_splits args) t (passing_all structs args ps >>= called_with structs number ps (types_in args) t)
    (shader_run.◌>>=◌ (shader_expr.passing_all setting.structs ps xs) (λ qs. shader_run.◌>>=◌ (setting.call number (shader_expr.values_of qs)) (shader_expr.returning qs)))) (sym params)
    (record {
      adds = adds_whole m input whole f p around globals place stages structs setting number function tys (types_in args) t one named alike does args xs of all refl;
      does = whole_does m input whole f p around globals place stages structs setting number function tys (types_in args) t one named alike does args xs of all refl;
    })
