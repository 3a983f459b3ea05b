-- What is lowered behind what is indexed by a value: it waits, the index is computed, and the step is made.
use Rattle.std.proofs.Common.{◌≡◌, ◌≢◌, refl, sym, ap, ◌∙◌, subst, inl, inr, ℕ, Bool, true, false, ◌||◌, length, Some, None}
use Rattle.gsl_base.specs.declared.input.Input.{Input}
use Rattle.gsl_types.specs.Known.{AreStructs, IsSound}
use Rattle.gsl_types.specs.declared.ty.Scalar.{Scalar}
use Rattle.gsl_types.specs.declared.ty.Scalar.TheVariants.{Int, Uint}
use Rattle.gsl_types.specs.declared.ty.Ty.{Ty}
use Rattle.gsl_types.specs.declared.ty.Ty.TheVariants as ty
use Rattle.gsl_types.specs.declared.ty.Ty.TheVariants.{Void}
use Rattle.gsl_words.specs.declared.module.Module.{Module}
use Rattle.gsl_values.specs.declared.value.Value.{Value}
use Rattle.gsl_values.specs.declared.value.Value.TheOpen.{Value-F}
use Rattle.gsl_values.specs.declared.value.Value.TheVariants.{Word, rolls-Word}
use Rattle.gsl_values.specs.declared.value.Value.TheViews.{out-Value, roll-Value, roll-out-Value}
use Rattle.gsl_tree.specs.Around.{Around}
use Rattle.gsl_tree.specs.Expressions.{IsIndex, element_of}
use Rattle.gsl_tree.specs.Shapes.{shape_of}
use Rattle.gsl_tree.specs.Values.{is_scalar_layer, is_value_of, word_in, word_layer}
use Rattle.gsl_tree.specs.declared.program.Program.{Program}
use Rattle.gsl_tree.proofs.Nodes.{value_of_one}
use Rattle.gsl_meaning.specs.Accesses.{Access}
use Rattle.gsl_meaning.specs.Running.{Ends, Goes, Got, Ran, Run, Strays, indexing}
use Rattle.gsl_meaning.specs.Running as shader_run
use Rattle.gsl_meaning.specs.State as shader
use Rattle.gsl_machine.specs.State.{State}
use Rattle.gsl_spv.specs.Sections.{Sections}
use Rattle.gsl_lower_places.specs.declared.reached.Part.{Part}
use Rattle.gsl_lower_places.specs.declared.reached.Part.TheVariants.{Fixed, By}
use Rattle.gsl_lower_places.specs.declared.reached.Reached.{Reached}
use Rattle.gsl_lower_law.specs.Values.{Stands}
use Rattle.gsl_lower_holders.specs.Flow.{Emit, Flow, Lowered, behind, given, lift, ◌>>=◌}
use Rattle.gsl_lower_holders.specs.Waiting.{fetch_reached}
use Rattle.gsl_lower_expr.specs.Parts.{Lower, scalar_of, step_into}
use Rattle.gsl_lower_follows.specs.Frames.{Frame, Good}
use Rattle.gsl_lower_follows.specs.Giving.{Adds, After, Does, GivesValue, Grown, HasGiven, none_waits}
use Rattle.gsl_lower_follows.proofs.Doing.{does_then}
use Rattle.gsl_lower_follows.proofs.Growing.{adds_lift, adds_then}
use Rattle.gsl_lower_follows.proofs.Holding.{after_then}
use Rattle.gsl_lower_law_expr.proofs.Operands.{after_less, given_value}
use Rattle.gsl_lower_reads.specs.OfReaching.{HasReached, HasStrayed, IsTrail, Start}
use Rattle.gsl_lower_reads.specs.OfReaching.{OfValue}
use Rattle.gsl_lower_reads.specs.OfReaching.{IsInside, IsOutside, Trail}
use Rattle.gsl_lower_reads.proofs.OfElements.{MayIndex, step_in, step_out}
use Rattle.gsl_lower_reads.proofs.OfReaching.{trail_after}
use Rattle.gsl_lower_reads.proofs.OfElements.{does_both}
use Rattle.gsl_lower_reads.specs.Waiting.{IsKept}
use Rattle.gsl_lower_reads.proofs.Holds.{adds_fetched, is_fetched}
use Rattle.gsl_lower_indexes.specs.Computed.{Comes, MayCall}
use Rattle.gsl_lower_indexes.proofs.Always.{always_step}

-- the value of an index is a word
word_value : (s : Scalar) (v : Value) (layer : Value-F Value) → roll-Value layer ≡ v → is_scalar_layer s layer ≡ true → v ≡ Word (word_layer layer)
word_value s v (Value-F.Word word) e fits = sym e ∙ rolls-Word word
word_value s v (Value-F.Many parts) e fits = absurd (let z : false ≡ true = fits in cc)

pub index_word : (p : Program) (t : Ty) (v : Value) → IsIndex t → is_value_of p.structs t v ≡ true → v ≡ Word (word_in v)
index_word p t v (inl e) fits = word_value Int v (out-Value v) (roll-out-Value v) (sym (ap (λ u. is_value_of p.structs u v) e ∙ value_of_one p.structs Int v) ∙ fits)
index_word p t v (inr e) fits = word_value Uint v (out-Value v) (roll-out-Value v) (sym (ap (λ u. is_value_of p.structs u v) e ∙ value_of_one p.structs Uint v) ∙ fits)

-- what comes to something goes on to stray
comes_strays : {A : Type 0} (ran : Ran Value) → Comes ran → shader_run.behind {B = A} ran (λ v s left. Strays) ≡ Strays
comes_strays (Got v s left) comes = refl
comes_strays (Ends s) comes = absurd comes
comes_strays Strays comes = refl
comes_strays Goes comes = absurd comes

module _ (m : Module) (input : Input) (sections : Sections) (f : Frame m input sections) (p : Program) (around : Around) (are : AreStructs p.structs) where
  module _ (lies : Start) (writes : Bool) (base t : Ty) (sound : IsSound (length p.structs) base) (sound_t : IsSound (length p.structs) t) (has : element_of base ≡ Some t) (fast : shape_of base ≡ None → lies ≡ OfValue → ⊥) (i : Lower) (y : Run Value) (real : i.ty ≢ Void) (known : MayCall i y)
      (gives : GivesValue m input sections f p around i.traits.splits i.ty i.value y) where
    abbrev Reaches : Bool → Flow → State → Reached → Flow → Access → shader.State → State → Type 0
    Reaches splits b state = HasReached m input sections f p around splits lies writes t b state

    abbrev Strayed : Bool → Flow → State → Reached → Flow → shader.State → State → Type 0
    Strayed splits b state = HasStrayed m input sections f p around splits lies writes t b state

    abbrev by_id : ℕ → Part
    by_id id = By (scalar_of i.ty) id

    may : (id k : ℕ) → MayIndex m input sections f p around are lies writes base t (by_id id) k sound sound_t has
    may id k = record {
      fixed = λ none loose. absurd (fast none loose);
      known = λ n same fixed. absurd (let z : by_id id ≡ Fixed n = same in cc);
    }

    abbrev pub last_step : ℕ → Reached → Emit Reached
    last_step id to = lift (step_into (shape_of base) (by_id id) to)

    abbrev pub behind_index : Reached → ℕ → Emit Reached
    behind_index kept id = fetch_reached i.traits.splits kept >>= last_step id

    abbrev pub behind_kept : Reached → Emit Reached
    behind_kept kept = i.value >>= behind_index kept

    adds_last : (id : ℕ) (to : Reached) → Adds (last_step id to)
    adds_last id to = adds_lift (step_into (shape_of base) (by_id id) to) (λ b. always_step m input sections (shape_of base) (by_id id) to b.sections)

    adds_index : (kept : Reached) (id : ℕ) → Adds (behind_index kept id)
    adds_index kept id = adds_then (fetch_reached i.traits.splits kept) (last_step id) (adds_fetched m input sections i.traits.splits kept) (adds_last id)

    pub adds_kept : (kept : Reached) → Adds (behind_kept kept)
    adds_kept kept = adds_then i.value (behind_index kept) gives.adds (adds_index kept)

    -- from one block on to another
    reached_from : (first more splits : Bool) (b0 b1 b2 : Flow) (state0 state1 state2 : State) (s u : shader.State) (r : Reached) (a : Access) → (splits ≡ false → (first || more) ≡ false) → Grown b0 b1 → After m input sections f p around first b0 state0 b1 s state1 → Reaches more b1 state1 r b2 a u state2
        → Reaches splits b0 state0 r b2 a u state2
    reached_from first more splits b0 b1 b2 state0 state1 state2 s u r a less grown after x =
        record { trail = x.trail; is = x.is; inside = x.inside; after = after_less m input sections f p around (first || more) splits b0 b2 state0 state2 u less (after_then m input sections f p around first more b0 b1 b2 state0 state1 state2 s u grown after x.after) }

    strayed_from : (first more splits : Bool) (b0 b1 b2 : Flow) (state0 state1 state2 : State) (s u : shader.State) (r : Reached) → (splits ≡ false → (first || more) ≡ false) → Grown b0 b1 → After m input sections f p around first b0 state0 b1 s state1 → Strayed more b1 state1 r b2 u state2
        → Strayed splits b0 state0 r b2 u state2
    strayed_from first more splits b0 b1 b2 state0 state1 state2 s u r less grown after x =
        record { trail = x.trail; is = x.is; outside = x.outside; after = after_less m input sections f p around (first || more) splits b0 b2 state0 state2 u less (after_then m input sections f p around first more b0 b1 b2 state0 state1 state2 s u grown after x.after) }

    no_more : (c : Bool) → c ≡ false → (c || false) ≡ false
    no_more true e = e
    no_more false e = e

    -- what is done from one flow on was done from an earlier one on
    pub behind_after : (first more splits : Bool) (b0 b1 : Flow) (state0 state1 : State) (s : shader.State) (units : ℕ) (ran : Ran Access) (low : Lowered Reached) → (splits ≡ false → (first || more) ≡ false) → Grown b0 b1 → After m input sections f p around first b0 state0 b1 s state1
        → Does m input sections f p 0 units state1 (Reaches more b1 state1) (Strayed more b1 state1) ran low → Does m input sections f p 0 units state1 (Reaches splits b0 state0) (Strayed splits b0 state0) ran low
    behind_after first more splits b0 b1 state0 state1 s units ran low less grown after does =
        does_both m input sections f p units state1 (Reaches more b1 state1) (Reaches splits b0 state0) (Strayed more b1 state1) (Strayed splits b0 state0) ran low
        (λ r flow a u last x. reached_from first more splits b0 b1 flow state0 state1 last s u r a less grown after x)
        (λ r flow u last x. strayed_from first more splits b0 b1 flow state0 state1 last s u r less grown after x) does

    -- ---- the step, behind the index

    stands_then : (b b2 : Flow) (state last : State) (u : shader.State) (id : ℕ) (v : Value) → After m input sections f p around false b state b2 u last → Stands state.ids id v → Stands last.ids id v
    stands_then b b2 state last u id v after stands = (after.ids refl).same id _ stands

    module _ (b : Flow) (s : shader.State) (units : ℕ) (state : State) (kept : Reached) (l : Trail) (id : ℕ) (v : Value) (good : Good m input sections f p around b s state) (is : IsTrail m input sections f p around i.traits.splits lies b state kept l) (stands : Stands state.ids id (Word (word_in v))) where
      index_in : (a : Access) → IsInside p.structs p.blocks writes base a l → Does m input sections f p 0 units state (Reaches false b state) (Strayed false b state) (indexing a (word_in v) s units) (behind_index kept id b)
      index_in a inside =
          does_then m input sections f p 0 units b state (IsKept m input sections f p around false lies l s b state) none_waits (Reaches false b state) (Strayed false b state) (Got tt s units) (λ one u left. indexing a (word_in v) u left) (fetch_reached i.traits.splits kept b) (last_step id) good.inside
          (adds_fetched m input sections i.traits.splits kept b) (adds_last id)
          (is_fetched m input sections f p around s lies i.traits.splits kept l units b state good is)
          (λ to between one u left mid within grown x less.
          behind_after false false false b between state mid u left (indexing a (word_in v) u left) (last_step id to between) (λ e. refl) grown x.after
          (step_in m input sections f p around are lies writes base t (by_id id) (word_in v) sound sound_t has (may id (word_in v)) left between u mid to l x.after.good x.is (stands_then b between state mid u id (Word (word_in v)) x.after stands) a inside))
          (λ to between u left mid within grown none less. absurd none)

      index_out : IsOutside p.structs p.blocks writes base l → Does m input sections f p 0 units state (Reaches false b state) (Strayed false b state) Strays (behind_index kept id b)
      index_out outside =
          does_then m input sections f p 0 units b state (IsKept m input sections f p around false lies l s b state) none_waits (Reaches false b state) (Strayed false b state) (Got tt s units) (λ one u left. Strays) (fetch_reached i.traits.splits kept b) (last_step id) good.inside
          (adds_fetched m input sections i.traits.splits kept b) (adds_last id)
          (is_fetched m input sections f p around s lies i.traits.splits kept l units b state good is)
          (λ to between one u left mid within grown x less.
          behind_after false false false b between state mid u left Strays (last_step id to between) (λ e. refl) grown x.after
          (step_out m input sections f p around are lies writes base t (by_id id) (word_in v) sound sound_t has (may id (word_in v)) left between u mid to l x.after.good x.is (stands_then b between state mid u id (Word (word_in v)) x.after stands) (Reaches false between mid) outside))
          (λ to between u left mid within grown none less. absurd none)

    -- ---- the index, behind what waits

    module _ (b : Flow) (s : shader.State) (units : ℕ) (state : State) (kept : Reached) (l : Trail) (good : Good m input sections f p around b s state) (is : IsTrail m input sections f p around i.traits.splits lies b state kept l) where
      pub kept_in : (a : Access) → IsInside p.structs p.blocks writes base a l
          → Does m input sections f p 0 units state (Reaches i.traits.splits b state) (Strayed i.traits.splits b state) (shader_run.◌>>=◌ y (λ v. indexing a (word_in v)) s units) (behind_kept kept b)
      kept_in a inside =
          does_then m input sections f p 0 units b state (HasGiven m input sections f p around i.traits.splits i.ty b state) none_waits (Reaches i.traits.splits b state) (Strayed i.traits.splits b state) (y s units) (λ v. indexing a (word_in v)) (i.value b) (behind_index kept) good.inside
          (gives.adds b) (adds_index kept)
          (gives.does b s units state good)
          (λ id between v u left mid within grown g less.
          let got = given_value m input sections f p around mid.ids id i.ty v real g.given in
          behind_after i.traits.splits false i.traits.splits b between state mid u left (indexing a (word_in v) u left) (behind_index kept id between) (no_more i.traits.splits) grown g.after
          (index_in between u left mid kept l id v g.after.good (trail_after m input sections f p around i.traits.splits lies b between state mid u kept l grown g.after is)
          (subst (Stands mid.ids id) (index_word p i.ty v known.number got.0) got.1) a inside))
          (λ id between u left mid within grown none less. absurd none)

      pub kept_out : i.traits.calls ≡ false → IsOutside p.structs p.blocks writes base l → Does m input sections f p 0 units state (Reaches i.traits.splits b state) (Strayed i.traits.splits b state) Strays (behind_kept kept b)
      kept_out alone outside =
          subst (λ ran. Does m input sections f p 0 units state (Reaches i.traits.splits b state) (Strayed i.traits.splits b state) ran (behind_kept kept b)) (comes_strays (y s units) (known.comes alone s units))
          (does_then m input sections f p 0 units b state (HasGiven m input sections f p around i.traits.splits i.ty b state) none_waits (Reaches i.traits.splits b state) (Strayed i.traits.splits b state) (y s units) (λ v u left. Strays) (i.value b) (behind_index kept) good.inside
          (gives.adds b) (adds_index kept)
          (gives.does b s units state good)
          (λ id between v u left mid within grown g less.
          let got = given_value m input sections f p around mid.ids id i.ty v real g.given in
          behind_after i.traits.splits false i.traits.splits b between state mid u left Strays (behind_index kept id between) (no_more i.traits.splits) grown g.after
          (index_out between u left mid kept l id v g.after.good (trail_after m input sections f p around i.traits.splits lies b between state mid u kept l grown g.after is)
          (subst (Stands mid.ids id) (index_word p i.ty v known.number got.0) got.1) outside))
          (λ id between u left mid within grown none less. absurd none))
