-- A new value is computed and stored.
use Rattle.std.proofs.Common.{◌≡◌, ◌≢◌, refl, inr, ℕ, Bool, true, false, ◌||◌, List}
use Rattle.gsl_base.specs.declared.input.Input.{Input}
use Rattle.gsl_types.specs.declared.ty.Ty.{Ty}
use Rattle.gsl_types.specs.declared.ty.Ty.TheVariants.{Void}
use Rattle.gsl_words.specs.declared.module.Module.{Module}
use Rattle.gsl_values.specs.declared.value.Value.{Value}
use Rattle.gsl_tree.specs.Around.{Around}
use Rattle.gsl_tree.specs.Operations.{Given}
use Rattle.gsl_tree.specs.Values.{is_value_of}
use Rattle.gsl_tree.specs.declared.program.Program.{Program}
use Rattle.gsl_typed_law.specs.Given.{AreChoices, Gives}
use Rattle.gsl_meaning.specs.Accesses.{Access, stored}
use Rattle.gsl_meaning.specs.Running.{Got, Ran, drawing, storing}
use Rattle.gsl_meaning.specs.Running as shader_run
use Rattle.gsl_meaning.specs.State as shader
use Rattle.gsl_machine.specs.State.{Ids, State}
use Rattle.gsl_spv.specs.Sections.{Sections}
use Rattle.gsl_lower_values.specs.Building.{Step}
use Rattle.gsl_lower_places.specs.declared.reached.Reached.{Reached}
use Rattle.gsl_lower_law.specs.Computing.{Computes}
use Rattle.gsl_lower_law.specs.Values.{Keeps, Stands}
use Rattle.gsl_lower_law.proofs.Joining.{keeps_same, keeps_then}
use Rattle.gsl_lower_holders.specs.Flow.{Emit, Flow, given, lift, ◌>>=◌}
use Rattle.gsl_lower_expr.specs.Parts.{stores}
use Rattle.gsl_lower_follows.specs.Frames.{Frame, Good}
use Rattle.gsl_lower_follows.specs.Giving.{Adds, After, Does, Grown, HasGiven, none_waits}
use Rattle.gsl_lower_follows.proofs.Behind.{reaches_here}
use Rattle.gsl_lower_follows.proofs.Doing.{does_then}
use Rattle.gsl_lower_follows.proofs.Drawn.{computed_given}
use Rattle.gsl_lower_follows.proofs.Growing.{adds_given, adds_lift, adds_then}
use Rattle.gsl_lower_follows.proofs.Holding.{does_so}
use Rattle.gsl_lower_law_expr.proofs.Operands.{given_behind, given_value}
use Rattle.gsl_lower_law_expr.proofs.Steps.{Always}
use Rattle.gsl_lower_stores.specs.OfWrites.{Serves}
use Rattle.gsl_lower_stores.specs.OfWrites.{IsWritten}
use Rattle.gsl_lower_stores.proofs.OfWrites.{adds_stores}

module _ (m : Module) (input : Input) (sections : Sections) (f : Frame m input sections) (p : Program) (around : Around) (t : Ty) where
  -- its value was given
  abbrev pub Has : Bool → Flow → State → ℕ → Flow → Value → shader.State → State → Type 0
  Has splits b state = HasGiven m input sections f p around splits t b state

  -- what was given from one flow on was given from an earlier one on
  pub from_before : (first second splits : Bool) (b0 b1 : Flow) (state0 state1 : State) (s : shader.State) (units : ℕ) (ran : Ran Value) (emit : Emit ℕ) → (splits ≡ false → (first || second) ≡ false) → Grown b0 b1 → After m input sections f p around first b0 state0 b1 s state1
      → Does m input sections f p 0 units state1 (Has second b1 state1) none_waits ran (emit b1) → Does m input sections f p 0 units state1 (Has splits b0 state0) none_waits ran (emit b1)
  from_before first second splits b0 b1 state0 state1 s units ran emit less grown after does =
      does_so m input sections f p around 0 units state1 (Has second b1 state1) (Has splits b0 state0) ran (emit b1)
      (λ id later v u last h. given_behind m input sections f p around first second splits t b0 b1 later state0 state1 last s u id v less grown after h) does

  -- Whenever ids still stand for the same, a value that is stored there stands there for the shader too.
  pub record Keeping (x : Access) (to : Reached) (ids : Ids) : Type 0 where
    pub stores : (b : Flow) (s : shader.State) (units : ℕ) (state : State) (value : ℕ) (v : Value) → Good m input sections f p around b s state → Keeps ids state.ids → is_value_of p.structs t v ≡ true → Stands state.ids value v
        → Does m input sections f p 0 units state (IsWritten m input sections f p around b state) none_waits (Got tt (stored x v s) units) (stores p.structs t to value b)

  module _ (x : Access) (to : Reached) where
    abbrev pub storing_code : ℕ → ℕ → Emit ℕ
    storing_code id result_id = stores p.structs t to id >>= (λ done. given result_id)

    pub adds_storing : (id result_id : ℕ) → Adds (storing_code id result_id)
    adds_storing id result_id = adds_then (stores p.structs t to id) (λ done. given result_id) (adds_stores m input sections p.structs t to id) (λ done. adds_given result_id)

    -- the value that is given may be another one
    pub stores_here : (id result_id : ℕ) (v w : Value) (b : Flow) (s : shader.State) (units : ℕ) (state : State) → Good m input sections f p around b s state → Keeping x to state.ids → is_value_of p.structs t v ≡ true → Stands state.ids id v → is_value_of p.structs t w ≡ true → Stands state.ids result_id w
        → Does m input sections f p 0 units state (Has false b state) none_waits (Got w (stored x v s) units) (storing_code id result_id b)
    stores_here id result_id v w b s units state good keeping typed stands typed_w stands_w =
        does_then m input sections f p 0 units b state (IsWritten m input sections f p around b state) none_waits (Has false b state) none_waits (Got tt (stored x v s) units) (λ one u left. Got w u left) (stores p.structs t to id b) (λ done. given result_id) good.inside
        (adds_stores m input sections p.structs t to id b) (λ done. adds_given result_id)
        (keeping.stores b s units state id v good (keeps_same state.ids) typed stands)
        (λ done between one u left mid within grown after less. λ there. reaches_here m input left mid (Has false b state result_id between w u) (record { given = inr (typed_w, (after.ids refl).same result_id _ stands_w); after = after }))
        (λ done between u left mid within grown none less. absurd none)

    still_keeping : (ids later : Ids) → Keeps ids later → Keeping x to ids → Keeping x to later
    still_keeping ids later keeps keeping = record { stores = λ b s units state value v good more typed stands. keeping.stores b s units state value v good (keeps_then keeps more) typed stands }

    -- A step computes the new value, which is stored.
    module _ (answer : List ℕ → Given) (step : Step ℕ) (grows : Always step) (gives : (choices : List ℕ) → AreChoices choices → Gives p.structs t (answer choices)) (real : t ≢ Void) where
      abbrev pub finish : Emit ℕ
      finish = lift step >>= (λ new. storing_code new new)

      pub adds_finish : Adds finish
      adds_finish = adds_then (lift step) (λ new. storing_code new new) (adds_lift step (λ b. grows b.sections)) (λ new. adds_storing new new)

      pub finishes : (b : Flow) (s : shader.State) (units : ℕ) (state : State) → Good m input sections f p around b s state → Keeping x to state.ids → Computes m input sections (answer state.choices) state b.sections step
          → Does m input sections f p 0 units state (Has false b state) none_waits (shader_run.◌>>=◌ (drawing answer) (storing x) s units) (finish b)
      finishes b s units state good keeping computes =
          does_then m input sections f p 0 units b state (Has false b state) none_waits (Has false b state) none_waits (drawing answer s units) (storing x) (lift step b) (λ new. storing_code new new) good.inside
          (adds_lift step (λ b. grows b.sections) b) (λ new. adds_storing new new)
          (computed_given m input sections f p around t answer step (λ b. grows b.sections) gives b s units state good computes)
          (λ new between v u left mid within grown h less.
          let got = given_value m input sections f p around mid.ids new t v real h.given in
          from_before false false false b between state mid u left (Got v (stored x v u) left) (storing_code new new) (λ e. refl) grown h.after
          (stores_here new new v v between u left mid h.after.good (still_keeping state.ids mid.ids (h.after.ids refl) keeping) got.0 got.1 got.0 got.1))
          (λ new between u left mid within grown none less. absurd none)

  module _ (x : Access) where
    -- ---- what serves to read and to store

    abbrev pub Serving : Reached → Ids → Type 0
    Serving = Serves m input sections f p around t x

    pub still_serving : (to : Reached) (ids later : Ids) → Keeps ids later → Serving to ids → Serving to later
    still_serving to ids later keeps serving = record {
      reads = λ b s units state good more. serving.reads b s units state good (keeps_then keeps more);
      stores = λ b s units state value v good more typed stands. serving.stores b s units state value v good (keeps_then keeps more) typed stands;
    }

    pub serving_keeps : (to : Reached) (ids : Ids) → Serving to ids → Keeping x to ids
    serving_keeps to ids serving = record { stores = serving.stores }
