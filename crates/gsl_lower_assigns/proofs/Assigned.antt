-- Assignments to what expressions lead to.
use Rattle.std.proofs.Common.{◌≡◌, ◌≢◌, refl, sym, subst, inr, ℕ, Bool, true, false, ◌||◌}
use Rattle.gsl_base.specs.declared.input.Input.{Input}
use Rattle.gsl_types.specs.declared.ty.Ty.{Ty}
use Rattle.gsl_types.specs.declared.ty.Ty.TheVariants.{Void}
use Rattle.gsl_words.specs.declared.module.Module.{Module}
use Rattle.gsl_values.specs.declared.value.Value.{Value}
use Rattle.gsl_tree.specs.Around.{Around}
use Rattle.gsl_tree.specs.Values.{is_value_of}
use Rattle.gsl_tree.specs.declared.program.Program.{Program}
use Rattle.gsl_meaning.specs.Accesses.{Access, stored}
use Rattle.gsl_meaning.specs.Running.{Ends, Goes, Got, Ran, Run, Strays, storing}
use Rattle.gsl_meaning.specs.Running as shader_run
use Rattle.gsl_meaning.specs.State as shader
use Rattle.gsl_machine.specs.State.{State}
use Rattle.gsl_spv.specs.Sections.{Sections}
use Rattle.gsl_lower_places.specs.declared.reached.Reached.{Reached}
use Rattle.gsl_lower_law.specs.Values.{Stands}
use Rattle.gsl_lower_holders.specs.Flow.{Emit, Flow, given, lift, ◌>>=◌}
use Rattle.gsl_lower_holders.specs.Waiting.{fetch_reached, hold_reached}
use Rattle.gsl_lower_expr.specs.Parts.{Lower, assigned, before_assign, probe, stores}
use Rattle.gsl_lower_follows.specs.Frames.{Frame, Good}
use Rattle.gsl_lower_follows.specs.Giving.{Adds, After, Does, GivesValue, Grown, GrownTo, HasGiven, none_waits}
use Rattle.gsl_lower_follows.proofs.Behind.{reaches_here}
use Rattle.gsl_lower_follows.proofs.Doing.{does_then}
use Rattle.gsl_lower_follows.proofs.Growing.{adds_given, adds_then}
use Rattle.gsl_lower_follows.proofs.Holding.{does_so}
use Rattle.gsl_lower_law_expr.proofs.Operands.{given_behind, given_value}
use Rattle.gsl_lower_law_expr.proofs.Short.{behind_assoc}
use Rattle.gsl_lower_law_stored.specs.Buffers.{KnowsBuffers}
use Rattle.gsl_lower_reaching.specs.Reaching.{GivesPlace, HasReached, HasStrayed, IsTrail, Start}
use Rattle.gsl_lower_reaching.specs.Reaching.Start.{OfBlock}
use Rattle.gsl_lower_reaching.specs.Trails.{IsInside, IsOutside, Trail}
use Rattle.gsl_lower_reaching.proofs.Moving.{trail_after}
use Rattle.gsl_lower_indexes.specs.OfReads.{IsKept}
use Rattle.gsl_lower_indexes.proofs.OfReads.{adds_fetched, is_fetched}
use Rattle.gsl_lower_indexes.proofs.OfReads.{adds_tested, kept_in, kept_none, kept_out}
use Rattle.gsl_lower_indexes.specs.Computed.{Comes}
use Rattle.gsl_lower_stores.specs.OfWrites.{IsWritten}
use Rattle.gsl_lower_stores.proofs.OfWrites.{adds_stores}
use Rattle.gsl_lower_stores.proofs.Stored.{place_stored, place_unstored}
use Rattle.gsl_lower_assigns.specs.Assigning.{Assigns, assign_means}

-- what comes to something goes on to stray
comes_strays : {A : Type 0} (ran : Ran Value) → Comes ran → shader_run.behind {B = A} ran (λ v s left. Strays) ≡ Strays
comes_strays (Got v s left) comes = refl
comes_strays (Ends s) comes = absurd comes
comes_strays Strays comes = refl
comes_strays Goes comes = absurd comes

module _ (m : Module) (input : Input) (sections : Sections) (f : Frame m input sections) (p : Program) (around : Around) (loose : Start) (knows : loose ≡ OfBlock → KnowsBuffers m input sections f p) (a right : Lower) (y : Run Value) (known : Assigns p a right y) (gives : GivesValue m input sections f p around right.traits.splits right.ty right.value y) where
  abbrev t : Ty
  t = a.ty

  abbrev more : Bool
  more = right.traits.splits

  -- its value was given
  abbrev Has : Bool → Flow → State → ℕ → Flow → Value → shader.State → State → Type 0
  Has splits b state = HasGiven m input sections f p around splits t b state

  abbrev put_in : ℕ → Reached → Emit ℕ
  put_in id to = stores p.structs t to id >>= (λ done. given id)

  abbrev behind_value : Reached → ℕ → Emit ℕ
  behind_value kept id = fetch_reached more kept >>= put_in id

  abbrev rest : Reached → Emit ℕ
  rest kept = right.value >>= behind_value kept

  abbrev before : Reached → Emit Reached
  before r = before_assign p.structs t right.traits r

  abbrev next : Reached → Emit ℕ
  next r = before r >>= rest

  adds_put : (id : ℕ) (to : Reached) → Adds (put_in id to)
  adds_put id to = adds_then (stores p.structs t to id) (λ done. given id) (adds_stores m input sections p.structs t to id) (λ done. adds_given id)

  adds_behind : (kept : Reached) (id : ℕ) → Adds (behind_value kept id)
  adds_behind kept id = adds_then (fetch_reached more kept) (put_in id) (adds_fetched m input sections more kept) (adds_put id)

  adds_rest : (kept : Reached) → Adds (rest kept)
  adds_rest kept = adds_then right.value (behind_value kept) gives.adds (adds_behind kept)

  adds_before : (r : Reached) → Adds (before r)
  adds_before r = adds_tested m input sections p.structs right.traits.calls more t r

  adds_next : (r : Reached) → Adds (next r)
  adds_next r = adds_then (before r) rest (adds_before r) adds_rest

  real : right.ty ≢ Void
  real = subst (λ t. t ≢ Void) (sym known.same) known.real

  no_more : (c : Bool) → c ≡ false → (c || false) ≡ false
  no_more true e = e
  no_more false e = e

  -- what was given from one flow on was given from an earlier one on
  from_before : (first second splits : Bool) (b0 b1 : Flow) (state0 state1 : State) (s : shader.State) (units : ℕ) (ran : Ran Value) (emit : Emit ℕ) → (splits ≡ false → (first || second) ≡ false) → Grown b0 b1 → After m input sections f p around first b0 state0 b1 s state1
      → Does m input sections f p 0 units state1 (Has second b1 state1) none_waits ran (emit b1) → Does m input sections f p 0 units state1 (Has splits b0 state0) none_waits ran (emit b1)
  from_before first second splits b0 b1 state0 state1 s units ran emit less grown after does =
      does_so m input sections f p around 0 units state1 (Has second b1 state1) (Has splits b0 state0) ran (emit b1)
      (λ id later v u last h. given_behind m input sections f p around first second splits t b0 b1 later state0 state1 last s u id v less grown after h) does

  -- ---- the store

  module _ (id : ℕ) (v : Value) (typed : is_value_of p.structs t v ≡ true) where
    module _ (b : Flow) (s : shader.State) (units : ℕ) (state : State) (r : Reached) (l : Trail) (good : Good m input sections f p around b s state) (is : IsTrail m input sections f p around false loose b state r l) (stands : Stands state.ids id v) where
      put_inside : (x : Access) → IsInside p.structs p.blocks true t x l → Does m input sections f p 0 units state (Has false b state) none_waits (Got v (stored x v s) units) (put_in id r b)
      put_inside x inside =
          does_then m input sections f p 0 units b state (IsWritten m input sections f p around b state) none_waits (Has false b state) none_waits (Got tt (stored x v s) units) (λ one u left. Got v u left) (stores p.structs t r id b) (λ done. given id) good.inside
          (adds_stores m input sections p.structs t r id b) (λ done. adds_given id)
          (place_stored m input sections f p around known.are loose t known.sound id v typed knows x l inside b s units state r good is stands)
          (λ done between one u left mid within grown after less. λ there. reaches_here m input left mid (Has false b state id between v u) (record { given = inr (typed, (after.ids refl).same id _ stands); after = after }))
          (λ done between u left mid within grown none less. absurd none)

      put_outside : IsOutside p.structs p.blocks true t l → Does m input sections f p 0 units state (Has false b state) none_waits Strays (put_in id r b)
      put_outside outside =
          does_then m input sections f p 0 units b state (λ done later (one : Value) u last. ⊥) none_waits (Has false b state) none_waits Strays (λ one u left. Strays) (stores p.structs t r id b) (λ done. given id) good.inside
          (adds_stores m input sections p.structs t r id b) (λ done. adds_given id)
          (place_unstored m input sections f p around known.are loose t known.sound id v typed units b s state r l (λ done later (one : Value) u last. ⊥) good is outside stands)
          (λ done between one u left mid within grown none less. absurd none)
          (λ done between u left mid within grown none less. absurd none)

    -- behind what waited
    module _ (b : Flow) (s : shader.State) (units : ℕ) (state : State) (kept : Reached) (l : Trail) (good : Good m input sections f p around b s state) (is : IsTrail m input sections f p around more loose b state kept l) (stands : Stands state.ids id v) where
      fetched_in : (x : Access) → IsInside p.structs p.blocks true t x l → Does m input sections f p 0 units state (Has false b state) none_waits (Got v (stored x v s) units) (behind_value kept id b)
      fetched_in x inside =
          does_then m input sections f p 0 units b state (IsKept m input sections f p around false loose l s b state) none_waits (Has false b state) none_waits (Got tt s units) (λ one u left. Got v (stored x v u) left) (fetch_reached more kept b) (put_in id) good.inside
          (adds_fetched m input sections more kept b) (adds_put id)
          (is_fetched m input sections f p around s loose more kept l units b state good is)
          (λ to between one u left mid within grown q less.
          from_before false false false b between state mid u left (Got v (stored x v u) left) (put_in id to) (λ e. refl) grown q.after
          (put_inside between u left mid to l q.after.good q.is ((q.after.ids refl).same id _ stands) x inside))
          (λ to between u left mid within grown none less. absurd none)

      fetched_out : IsOutside p.structs p.blocks true t l → Does m input sections f p 0 units state (Has false b state) none_waits Strays (behind_value kept id b)
      fetched_out outside =
          does_then m input sections f p 0 units b state (IsKept m input sections f p around false loose l s b state) none_waits (Has false b state) none_waits (Got tt s units) (λ one u left. Strays) (fetch_reached more kept b) (put_in id) good.inside
          (adds_fetched m input sections more kept b) (adds_put id)
          (is_fetched m input sections f p around s loose more kept l units b state good is)
          (λ to between one u left mid within grown q less.
          from_before false false false b between state mid u left Strays (put_in id to) (λ e. refl) grown q.after
          (put_outside between u left mid to l q.after.good q.is ((q.after.ids refl).same id _ stands) outside))
          (λ to between u left mid within grown none less. absurd none)

  -- ---- the right side

  module _ (b : Flow) (s : shader.State) (units : ℕ) (state : State) (kept : Reached) (l : Trail) (good : Good m input sections f p around b s state) (is : IsTrail m input sections f p around more loose b state kept l) where
    abbrev IsRight : ℕ → Flow → Value → shader.State → State → Type 0
    IsRight = HasGiven m input sections f p around more right.ty b state

    module _ (id : ℕ) (between : Flow) (v : Value) (u : shader.State) (mid : State) (g : IsRight id between v u mid) where
      v_typed : is_value_of p.structs t v ≡ true
      v_typed = subst (λ t. is_value_of p.structs t v ≡ true) known.same (given_value m input sections f p around mid.ids id right.ty v real g.given).0

      v_stands : Stands mid.ids id v
      v_stands = (given_value m input sections f p around mid.ids id right.ty v real g.given).1

    right_in : (x : Access) → IsInside p.structs p.blocks true t x l → Does m input sections f p 0 units state (Has more b state) none_waits (shader_run.◌>>=◌ y (storing x) s units) (rest kept b)
    right_in x inside =
        does_then m input sections f p 0 units b state IsRight none_waits (Has more b state) none_waits (y s units) (storing x) (right.value b) (behind_value kept) good.inside
        (gives.adds b) (adds_behind kept)
        (gives.does b s units state good)
        (λ id between v u left mid within grown g less.
        from_before more false more b between state mid u left (Got v (stored x v u) left) (behind_value kept id) (no_more more) grown g.after
        (fetched_in id v (v_typed id between v u mid g) between u left mid kept l g.after.good (trail_after m input sections f p around more loose b between state mid u kept l grown g.after is) (v_stands id between v u mid g) x inside))
        (λ id between u left mid within grown none less. absurd none)

    right_out : right.traits.calls ≡ false → IsOutside p.structs p.blocks true t l → Does m input sections f p 0 units state (Has more b state) none_waits Strays (rest kept b)
    right_out alone outside =
        subst (λ ran. Does m input sections f p 0 units state (Has more b state) none_waits ran (rest kept b)) (comes_strays (y s units) (known.comes alone s units))
        (does_then m input sections f p 0 units b state IsRight none_waits (Has more b state) none_waits (y s units) (λ v u left. Strays) (right.value b) (behind_value kept) good.inside
        (gives.adds b) (adds_behind kept)
        (gives.does b s units state good)
        (λ id between v u left mid within grown g less.
        from_before more false more b between state mid u left Strays (behind_value kept id) (no_more more) grown g.after
        (fetched_out id v (v_typed id between v u mid g) between u left mid kept l g.after.good (trail_after m input sections f p around more loose b between state mid u kept l grown g.after is) (v_stands id between v u mid g) outside))
        (λ id between u left mid within grown none less. absurd none))

  -- ---- the left side

  module _ (b : Flow) (s : shader.State) (units : ℕ) (state : State) (r : Reached) (l : Trail) (good : Good m input sections f p around b s state) (is : IsTrail m input sections f p around false loose b state r l) where
    next_in : (x : Access) → IsInside p.structs p.blocks true t x l → Does m input sections f p 0 units state (Has more b state) none_waits (shader_run.◌>>=◌ y (storing x) s units) (next r b)
    next_in x inside =
        does_then m input sections f p 0 units b state (IsKept m input sections f p around more loose l s b state) none_waits (Has more b state) none_waits (Got tt s units) (λ one u left. shader_run.◌>>=◌ y (storing x) u left) (before r b) rest good.inside
        (adds_before r b) adds_rest
        (kept_in m input sections f p around known.are loose true t known.sound b s units state r l good is right.traits.calls more x inside)
        (λ kept between one u left mid within grown q less.
        from_before false more more b between state mid u left (shader_run.◌>>=◌ y (storing x) u left) (rest kept) (λ e. e) grown q.after
        (right_in between u left mid kept l q.after.good q.is x inside))
        (λ kept between u left mid within grown none less. absurd none)

    next_out : IsOutside p.structs p.blocks true t l → Does m input sections f p 0 units state (Has more b state) none_waits Strays (next r b)
    next_out outside = by right.traits.calls refl
      where
        by : (calls : Bool) → right.traits.calls ≡ calls → Does m input sections f p 0 units state (Has more b state) none_waits Strays ((lift (probe p.structs calls t r) >>= (λ done. hold_reached more r) >>= rest) b)
        by false e =
            does_then m input sections f p 0 units b state (IsKept m input sections f p around more loose l s b state) none_waits (Has more b state) none_waits (Got tt s units) (λ one u left. Strays) ((lift (probe p.structs false t r) >>= (λ done. hold_reached more r)) b) rest good.inside
            (adds_tested m input sections p.structs false more t r b) adds_rest
            (kept_none m input sections f p around known.are loose true t known.sound b s units state r l good is more)
            (λ kept between one u left mid within grown q less.
            from_before false more more b between state mid u left Strays (rest kept) (λ e. e) grown q.after
            (right_out between u left mid kept l q.after.good q.is e outside))
            (λ kept between u left mid within grown none less. absurd none)
        by true e =
            does_then m input sections f p 0 units b state (λ done later (one : Value) u last. ⊥) none_waits (Has more b state) none_waits Strays (λ one u left. Strays) ((lift (probe p.structs true t r) >>= (λ done. hold_reached more r)) b) rest good.inside
            (adds_tested m input sections p.structs true more t r b) adds_rest
            (kept_out m input sections f p around known.are loose true t known.sound b s units state r l good is (λ done later (one : Value) u last. ⊥) more known.some outside)
            (λ kept between one u left mid within grown none less. absurd none)
            (λ kept between u left mid within grown none less. absurd none)

  -- ---- both

  module _ (splits : Bool) (left_side : Run Access) (leads : GivesPlace m input sections f p around splits loose true a.ty a.reach left_side) where
    all : GivesValue m input sections f p around (splits || more) t (a.reach >>= next) (assign_means left_side y)
    all = record {
      adds = adds_then a.reach next leads.adds adds_next;
      does = λ b s units state good.
          does_then m input sections f p 0 units b state (HasReached m input sections f p around splits loose true t b state) (HasStrayed m input sections f p around splits loose true t b state) (Has (splits || more) b state) none_waits
          (left_side s units) (λ x. shader_run.◌>>=◌ y (storing x)) (a.reach b) next good.inside (leads.adds b) adds_next
          (leads.does b s units state good)
          (λ r between x u left mid within grown q less.
          from_before splits more (splits || more) b between state mid u left (shader_run.◌>>=◌ y (storing x) u left) (next r) (λ e. e) grown q.after
          (next_in between u left mid r q.trail q.after.good q.is x q.inside))
          (λ r between u left mid within grown q less.
          from_before splits more (splits || more) b between state mid u left Strays (next r) (λ e. e) grown q.after
          (next_out between u left mid r q.trail q.after.good q.is q.outside));
    }

    joined : (b : Flow) → assigned p.structs a right b ≡ (a.reach >>= next) b
    joined b = behind_assoc (a.reach b) before rest

    -- an assignment stores the value of the right side where the left side leads
    pub place_assigned : GivesValue m input sections f p around (splits || more) t (assigned p.structs a right) (assign_means left_side y)
    place_assigned = record {
      adds = λ b. subst (GrownTo b) (sym (joined b)) (all.adds b);
      does = λ b s units state good. subst (λ low. Does m input sections f p 0 units state (Has (splits || more) b state) none_waits (assign_means left_side y s units) low) (sym (joined b)) (all.does b s units state good);
    }
