-- Steps before and after.
use Rattle.std.proofs.Common.{◌≡◌, refl, sym, ◌∙◌, subst, ℕ, Bool, true, false, ◌||◌, Some, None, if◌then◌else◌}
use Rattle.gsl_base.specs.declared.input.Input.{Input}
use Rattle.gsl_types.specs.declared.ty.Ty.{Ty}
use Rattle.gsl_words.specs.declared.module.Module.{Module}
use Rattle.gsl_values.specs.declared.value.Value.{Value}
use Rattle.gsl_tree.specs.Around.{Around}
use Rattle.gsl_tree.specs.Operations.{is_postfix, step_value}
use Rattle.gsl_tree.specs.Shapes.{shape_of}
use Rattle.gsl_tree.specs.Values.{is_value_of}
use Rattle.gsl_tree.specs.declared.expr.StepOp.{StepOp}
use Rattle.gsl_tree.specs.declared.program.Program.{Program}
use Rattle.gsl_meaning.specs.Accesses.{Access, read as means_read, stored}
use Rattle.gsl_meaning.specs.Running.{Got, Run, Strays, given as means_given, storing, told_by}
use Rattle.gsl_meaning.specs.Running as shader_run
use Rattle.gsl_meaning.specs.State as shader
use Rattle.gsl_machine.specs.State.{Ids, State}
use Rattle.gsl_spv.specs.Sections.{Sections}
use Rattle.gsl_lower_values.specs.Building.{Step}
use Rattle.gsl_lower_values.specs.Constructors.{operand}
use Rattle.gsl_lower_values.specs.Operators as operators
use Rattle.gsl_lower_places.specs.Pointed.{to_renew}
use Rattle.gsl_lower_places.specs.declared.reached.Reached.{Reached}
use Rattle.gsl_lower_law.specs.Computing.{Computes}
use Rattle.gsl_lower_law.specs.Values.{IsOf, Stands}
use Rattle.gsl_lower_law.proofs.Joining.{keeps_same}
use Rattle.gsl_lower_law_operators.proofs.Straights.{stepped_computes}
use Rattle.gsl_lower_holders.specs.Flow.{Emit, Flow, given, lift, ◌>>=◌}
use Rattle.gsl_lower_expr.specs.Parts.{Lower, reads, shape_or, stepped, stepped_at, stores}
use Rattle.gsl_lower_follows.specs.Frames.{Frame, Good}
use Rattle.gsl_lower_follows.specs.Giving.{Adds, Does, GivesValue, none_waits}
use Rattle.gsl_lower_follows.proofs.Doing.{does_then}
use Rattle.gsl_lower_follows.proofs.Drawn.{computed_given}
use Rattle.gsl_lower_follows.proofs.Growing.{adds_given, adds_lift, adds_then}
use Rattle.gsl_lower_law_expr.proofs.Binary.{shape_is}
use Rattle.gsl_lower_law_expr.proofs.Operands.{given_value}
use Rattle.gsl_lower_law_expr.proofs.Shapes.{value_shape}
use Rattle.gsl_lower_law_expr.proofs.Steps.{always_stepped}
use Rattle.gsl_lower_law_stored.specs.Buffers.{KnowsBuffers}
use Rattle.gsl_lower_reaching.specs.Reaching.{GivesPlace, HasReached, HasStrayed, IsTrail, Start}
use Rattle.gsl_lower_reaching.specs.Reaching.Start.{OfBlock}
use Rattle.gsl_lower_reaching.specs.Trails.{IsInside, IsOutside, Trail}
use Rattle.gsl_lower_indexes.proofs.OfReads.{adds_reads}
use Rattle.gsl_lower_indexes.proofs.OfReads.{read_strays}
use Rattle.gsl_lower_stores.specs.OfWrites.{IsReady}
use Rattle.gsl_lower_stores.proofs.OfWrites.{adds_stores, always_renewed}
use Rattle.gsl_lower_stores.proofs.Ready.{place_ready, ready_strays}
use Rattle.gsl_lower_assigns.specs.Updating.{IsStepped, step_means}
use Rattle.gsl_lower_assigns.proofs.Finishing.{Has, Serving, from_before, serving_keeps, still_serving, stores_here}

module _ (m : Module) (input : Input) (sections : Sections) (f : Frame m input sections) (p : Program) (around : Around) (loose : Start) (knows : loose ≡ OfBlock → KnowsBuffers m input sections f p) (a : Lower) (which : StepOp) (known : IsStepped p a.ty which) where
  abbrev t : Ty
  t = a.ty

  abbrev step : ℕ → Step ℕ
  step old = operators.stepped which (operand (shape_or t) old)

  abbrev result_of : {A : Type 0} → A → A → A
  result_of old new = if is_postfix which then old else new

  abbrev with_new : Reached → ℕ → ℕ → Emit ℕ
  with_new to old new = stores p.structs t to new >>= (λ done. given (result_of old new))

  abbrev with_old : Reached → ℕ → Emit ℕ
  with_old to old = lift (step old) >>= with_new to old

  abbrev by_pointer : Reached → Emit ℕ
  by_pointer to = reads p.structs t to >>= with_old to

  abbrev next : Reached → Emit ℕ
  next r = lift (to_renew (shape_or t) r) >>= by_pointer

  adds_new : (to : Reached) (old new : ℕ) → Adds (with_new to old new)
  adds_new to old new = adds_then (stores p.structs t to new) (λ done. given (result_of old new)) (adds_stores m input sections p.structs t to new) (λ done. adds_given (result_of old new))

  adds_old : (to : Reached) (old : ℕ) → Adds (with_old to old)
  adds_old to old = adds_then (lift (step old)) (with_new to old) (adds_lift (step old) (λ b. always_stepped m input sections which (operand (shape_or t) old) b.sections)) (adds_new to old)

  adds_pointer : (to : Reached) → Adds (by_pointer to)
  adds_pointer to = adds_then (reads p.structs t to) (with_old to) (adds_reads m input sections p.structs t to) (adds_old to)

  adds_next : (r : Reached) → Adds (next r)
  adds_next r = adds_then (lift (to_renew (shape_or t) r)) by_pointer (adds_lift (to_renew (shape_or t) r) (λ b. always_renewed m input sections (shape_or t) r b.sections)) adds_pointer

  -- it is a scalar or vector
  shape_apart : shape_of t ≡ None → loose ≡ OfBlock → ⊥
  shape_apart none e = absurd (let z : None ≡ Some known.shape = sym none ∙ known.shaped in cc)

  same_shape : shape_or t ≡ known.shape
  same_shape = shape_is t known.shape known.shaped

  -- what the shader goes on with
  abbrev goes_on : Access → Value → Run Value
  goes_on x old = shader_run.◌>>=◌ (storing x (step_value which old)) (λ new. means_given (result_of old new))

  computes : (old : ℕ) (v : Value) (state : State) (before : Sections) → is_value_of p.structs t v ≡ true → Stands state.ids old v → Computes m input sections (step_value which v, state.choices) state before (step old)
  computes old v state before typed stands =
      stepped_computes m input sections which (operand (shape_or t) old) v state before (subst (λ s. IsOf s v) (sym same_shape) (value_shape p.structs t known.shape v known.are known.sound known.shaped typed).1) stands

  module _ (b : Flow) (s : shader.State) (units : ℕ) (state : State) (r : Reached) (l : Trail) (good : Good m input sections f p around b s state) (is : IsTrail m input sections f p around false loose b state r l) where
    module _ (acc : Access) (inside : IsInside p.structs p.blocks true t acc l) where
      abbrev Served : Reached → Ids → Type 0
      Served = Serving m input sections f p around t acc

      result_stands : (ids : Ids) (old new : ℕ) (v w : Value) → Stands ids old v → Stands ids new w → (postfix : Bool) → Stands ids (if postfix then old else new) (if postfix then v else w)
      result_stands ids old new v w stands_old stands_new true = stands_old
      result_stands ids old new v w stands_old stands_new false = stands_new

      result_typed : (v w : Value) → is_value_of p.structs t v ≡ true → is_value_of p.structs t w ≡ true → (postfix : Bool) → is_value_of p.structs t (if postfix then v else w) ≡ true
      result_typed v w typed_v typed_w true = typed_v
      result_typed v w typed_v typed_w false = typed_w

      -- the new value
      with_old_in : (to : Reached) (old : ℕ) (v : Value) (b : Flow) (s : shader.State) (units : ℕ) (state : State) → Good m input sections f p around b s state → Served to state.ids → is_value_of p.structs t v ≡ true → Stands state.ids old v
          → Does m input sections f p 0 units state (Has m input sections f p around t false b state) none_waits (goes_on acc v s units) (with_old to old b)
      with_old_in to old v b s units state good serving typed stands =
          does_then m input sections f p 0 units b state (Has m input sections f p around t false b state) none_waits (Has m input sections f p around t false b state) none_waits (Got (step_value which v) s units) (λ w u left. Got (result_of v w) (stored acc w u) left) (lift (step old) b) (with_new to old) good.inside
          (adds_lift (step old) (λ b. always_stepped m input sections which (operand (shape_or t) old) b.sections) b) (adds_new to old)
          (computed_given m input sections f p around t (λ choices. (step_value which v, choices)) (step old) (λ b. always_stepped m input sections which (operand (shape_or t) old) b.sections) (λ choices are. record { typed = known.gives v typed; left = are }) b s units state good
          (computes old v state b.sections typed stands))
          (λ new between w u left mid within grown h less.
          let got = given_value m input sections f p around mid.ids new t w known.real h.given in
          from_before m input sections f p around t false false false b between state mid u left (Got (result_of v w) (stored acc w u) left) (with_new to old new) (λ e. refl) grown h.after
          (stores_here m input sections f p around t acc to new (result_of old new) w (result_of v w) between u left mid h.after.good
          (serving_keeps m input sections f p around t acc to mid.ids (still_serving m input sections f p around t acc to state.ids mid.ids (h.after.ids refl) serving))
          got.0 got.1 (result_typed v w typed got.0 (is_postfix which)) (result_stands mid.ids old new v w ((h.after.ids refl).same old _ stands) got.1 (is_postfix which))))
          (λ new between u left mid within grown none less. absurd none)

      by_pointer_in : (to : Reached) (b : Flow) (s : shader.State) (units : ℕ) (state : State) → Good m input sections f p around b s state → Served to state.ids
          → Does m input sections f p 0 units state (Has m input sections f p around t false b state) none_waits (goes_on acc (means_read p.structs t acc s) s units) (by_pointer to b)
      by_pointer_in to b s units state good serving =
          does_then m input sections f p 0 units b state (Has m input sections f p around t false b state) none_waits (Has m input sections f p around t false b state) none_waits (Got (means_read p.structs t acc s) s units) (goes_on acc) (reads p.structs t to b) (with_old to) good.inside
          (adds_reads m input sections p.structs t to b) (adds_old to)
          (serving.reads b s units state good (keeps_same state.ids))
          (λ old between v u left mid within grown h less.
          let got = given_value m input sections f p around mid.ids old t v known.real h.given in
          from_before m input sections f p around t false false false b between state mid u left (goes_on acc v u left) (with_old to old) (λ e. refl) grown h.after
          (with_old_in to old v between u left mid h.after.good (still_serving m input sections f p around t acc to state.ids mid.ids (h.after.ids refl) serving) got.0 got.1))
          (λ old between u left mid within grown none less. absurd none)

      next_in : Does m input sections f p 0 units state (Has m input sections f p around t false b state) none_waits (shader_run.◌>>=◌ (told_by (means_read p.structs t acc)) (goes_on acc) s units) (next r b)
      next_in =
          subst (λ shape. Does m input sections f p 0 units state (Has m input sections f p around t false b state) none_waits (goes_on acc (means_read p.structs t acc s) s units) ((lift (to_renew shape r) >>= by_pointer) b)) (sym same_shape)
          (does_then m input sections f p 0 units b state (IsReady m input sections f p around t acc b s state) none_waits (Has m input sections f p around t false b state) none_waits (Got tt s units) (λ one u left. goes_on acc (means_read p.structs t acc u) u left) (lift (to_renew known.shape r) b) by_pointer good.inside
          (adds_lift (to_renew known.shape r) (λ b. always_renewed m input sections known.shape r b.sections) b) adds_pointer
          (place_ready m input sections f p around known.are loose t known.sound known.shape known.shaped knows r acc l inside b s units state good is)
          (λ to between one u left mid within grown q less.
          from_before m input sections f p around t false false false b between state mid u left (goes_on acc (means_read p.structs t acc u) u left) (by_pointer to) (λ e. refl) grown q.after
          (by_pointer_in to between u left mid q.after.good q.serves))
          (λ to between u left mid within grown none less. absurd none))

    next_out : IsOutside p.structs p.blocks true t l → Does m input sections f p 0 units state (Has m input sections f p around t false b state) none_waits Strays (next r b)
    next_out outside =
        subst (λ shape. Does m input sections f p 0 units state (Has m input sections f p around t false b state) none_waits Strays ((lift (to_renew shape r) >>= by_pointer) b)) (sym same_shape)
        (ready_strays m input sections f p around known.are loose t known.sound known.shape known.shaped units b s state r l by_pointer (Has m input sections f p around t false b state) good is outside adds_pointer
        (does_then m input sections f p 0 units b state (λ (old : ℕ) later (one : Value) u last. ⊥) none_waits (Has m input sections f p around t false b state) none_waits Strays (λ one u left. Strays) (reads p.structs t r b) (with_old r) good.inside
        (adds_reads m input sections p.structs t r b) (adds_old r)
        (read_strays m input sections f p around known.are loose true t b s state r l good is outside units (λ (old : ℕ) later (one : Value) u last. ⊥) shape_apart)
        (λ old between one u left mid within grown none less. absurd none)
        (λ old between u left mid within grown none less. absurd none)))

  none_more : (c : Bool) → c ≡ false → (c || false) ≡ false
  none_more true e = e
  none_more false e = e

  -- a step stores the new value where the expression leads, and gives the old one or the new one
  pub place_stepped : (splits : Bool) (left : Run Access) → GivesPlace m input sections f p around splits loose true a.ty a.reach left → GivesValue m input sections f p around splits a.ty (stepped p.structs which a) (step_means p.structs a.ty left (step_value which) (is_postfix which))
  unfolding stepped_at
  place_stepped splits left leads = record {
    adds = adds_then a.reach next leads.adds adds_next;
    does = λ b s units state good.
        does_then m input sections f p 0 units b state (HasReached m input sections f p around splits loose true t b state) (HasStrayed m input sections f p around splits loose true t b state) (Has m input sections f p around t splits b state) none_waits
        (left s units) (λ x. shader_run.◌>>=◌ (told_by (means_read p.structs t x)) (goes_on x)) (a.reach b) next good.inside (leads.adds b) adds_next
        (leads.does b s units state good)
        (λ r between x u left mid within grown q less.
        from_before m input sections f p around t splits false splits b between state mid u left (shader_run.◌>>=◌ (told_by (means_read p.structs t x)) (goes_on x) u left) (next r) (none_more splits) grown q.after
        (next_in between u left mid r q.trail q.after.good q.is x q.inside))
        (λ r between u left mid within grown q less.
        from_before m input sections f p around t splits false splits b between state mid u left Strays (next r) (none_more splits) grown q.after
        (next_out between u left mid r q.trail q.after.good q.is q.outside));
  }
