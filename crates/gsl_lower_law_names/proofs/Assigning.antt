-- Names on the left side of an assignment.
use Rattle.std.proofs.Common.{◌≡◌, ◌≢◌, refl, sym, ap, ◌∙◌, subst, inr, ℕ, ◌<◌, Bool, true, false, List, [], ◌∷◌, length, Option, Some, None, arith}
use Rattle.std.specs.Prelude.{set, slice_get}
use Rattle.gsl_base.specs.declared.input.Input.{Input}
use Rattle.gsl_instr.specs.declared.op.TheConstants as op
use Rattle.gsl_types.specs.declared.ty.StructType.{StructType}
use Rattle.gsl_types.specs.declared.ty.Ty.{Ty}
use Rattle.gsl_types.specs.declared.ty.Ty.TheVariants.{Void}
use Rattle.gsl_words.specs.declared.module.Module.{Module}
use Rattle.gsl_values.specs.declared.value.Value.{Value}
use Rattle.gsl_tree.specs.Around.{Around}
use Rattle.gsl_tree.specs.Shapes.{Shape, shape_of}
use Rattle.gsl_tree.specs.Values.{is_value_of}
use Rattle.gsl_tree.specs.declared.program.Program.{Program}
use Rattle.gsl_meaning.specs.Accesses as access
use Rattle.gsl_meaning.specs.Running.{Got, Run}
use Rattle.gsl_meaning.specs.Running as shader_run
use Rattle.gsl_meaning.specs.State as shader
use Rattle.gsl_machine.specs.State.{InVariable, Points, State}
use Rattle.gsl_spv.specs.Sections.{Sections}
use Rattle.gsl_spv.proofs.Extending.{extends_same}
use Rattle.gsl_lower_values.specs.Building as steps
use Rattle.gsl_lower_values.specs.Building.{putting}
use Rattle.gsl_lower_values.specs.Constructors.{operand}
use Rattle.gsl_lower_values.specs.Types.{type_of}
use Rattle.gsl_lower_places.specs.declared.reached.Base.TheVariants.{Variable}
use Rattle.gsl_lower_places.specs.declared.reached.Reached.{Reached}
use Rattle.gsl_lower_places.specs.Pointed.{pointed}
use Rattle.gsl_lower_places.specs.Reached.{is_block_class, stored_shape, whole}
use Rattle.gsl_lower_places.specs.Reading.{pointer}
use Rattle.gsl_lower_places.specs.Writing.{in_class, put_at, stored}
use Rattle.gsl_lower_traits.specs.declared.traits.Traits.{Traits}
use Rattle.gsl_lower_law.specs.Computing as law
use Rattle.gsl_lower_law.specs.Computing.{Acts}
use Rattle.gsl_lower_law.specs.Operands.{converted_value}
use Rattle.gsl_lower_law.specs.Values.{IsOf, Stands}
use Rattle.gsl_lower_law.proofs.Adding.{extends_put}
use Rattle.gsl_lower_law.proofs.Joining.{does_then as step_then, given_does, keeps_then}
use Rattle.gsl_lower_law.proofs.Plain.{IsType, type_does}
use Rattle.gsl_lower_follows.specs.OfLawPlaces.{Stores}
use Rattle.gsl_lower_follows.proofs.OfLawPlaces.{pointer_grows}
use Rattle.gsl_lower_follows.proofs.OfLawPlaces.{put_acts, stored_left}
use Rattle.gsl_lower_holders.specs.Flow.{Emit, Flow, Gives, Lacks, Lowered, behind, built_in, each, flow_of, given, id_at, lift, ◌>>=◌}
use Rattle.gsl_lower_holders.specs.Waiting.{fetch_reached, hold_reached}
use Rattle.gsl_lower_holders.specs.declared.place.FlowPlace.{FlowPlace}
use Rattle.gsl_lower_law_expr.specs.OfExpr.{leading}
use Rattle.gsl_lower_law_expr.specs.OfExpr.{Lower, after_assign, assigned, before_assign, named, probe, probe_by, store_by, stores}
use Rattle.gsl_lower_follows.specs.Frames.{Frame, Good, HasType, Holder, Inside, Name, id_of, value_of}
use Rattle.gsl_lower_follows.specs.Giving.{Adds, After, Does, GivesValue, Grown, GrownTo, HasGiven, none_waits}
use Rattle.gsl_lower_follows.proofs.Behind.{reaches_here}
use Rattle.gsl_lower_follows.proofs.Beginning.{does_aside}
use Rattle.gsl_lower_follows.proofs.Doing.{does_lift, does_then}
use Rattle.gsl_lower_follows.proofs.Growing.{adds_given, adds_lift, adds_then, grown_then}
use Rattle.gsl_lower_follows.proofs.Meeting.{grown_through}
use Rattle.gsl_lower_follows.proofs.Holding.{Unchanged, after_then, does_map, id_moved, seat_known, stores_whole}
use Rattle.gsl_lower_law_expr.proofs.Operands.{given_value}
use Rattle.gsl_lower_law_expr.proofs.Shapes.{value_shape}
use Rattle.gsl_lower_law_expr.proofs.Steps.{Always, always_converted, always_then, always_type}
use Rattle.gsl_lower_follows.proofs.Fetching.{no_state}
use Rattle.gsl_lower_law_names.specs.Named.{IsNamed, assign_means}
use Rattle.gsl_lower_law_names.proofs.Reading.{outside_blocks, value_as_it_is}
use Rattle.gsl_lower_law_names.proofs.Storing.{IsSet, Other, each_name, holds_set, kept_set, typed_set}

module _ (m : Module) (input : Input) (sections : Sections) where
  -- ---- the pointer to a whole variable is the variable

  probe_does : (structs : List StructType) (calls : Bool) (t : Ty) (shape : Shape) (id class : ℕ) → shape_of t ≡ Some shape → (state : State) (before : Sections) → law.Does m input sections (λ a ids. Unit {0}) state.choices state before (probe structs calls t (whole (Variable id class)))
  unfolding probe pointed pointer
  probe_does structs false t shape id class is state before = given_does m input sections (λ a ids. Unit {0}) tt state before tt
  probe_does structs true t shape id class is state before =
      subst (λ o. law.Does m input sections (λ a ids. Unit {0}) state.choices state before (probe_by structs t (whole (Variable id class)) o)) (sym is)
      (step_then m input sections (λ a ids. Unit {0}) (λ a ids. Unit {0}) state.choices state.choices state before (pointed shape (whole (Variable id class))) (λ to. steps.given tt)
      (step_then m input sections (IsType m input sections (stored_shape class shape)) (λ a ids. Unit {0}) state.choices state.choices state before (type_of (stored_shape class shape)) (λ type. steps.◌>>=◌ (pointer id class type []) (λ to. steps.given (record { base = Variable to class; path = []; picked = None })))
      (type_does m input sections (stored_shape class shape) state before)
      (λ type between. extends_same between)
      (λ type between ids typed keeps. given_does m input sections (λ a ids. Unit {0}) (record { base = Variable id class; path = []; picked = None }) (record state { ids = ids }) between tt))
      (λ to between. extends_same between)
      (λ to between ids done keeps. given_does m input sections (λ a ids. Unit {0}) tt (record state { ids = ids }) between tt))

  always_put : (id class : ℕ) (shape : Shape) (v : ℕ) → Always (put_at id class shape [] v)
  unfolding put_at in_class
  always_put id class shape v =
      always_then m input sections (in_class class shape v) (λ word. steps.◌>>=◌ (type_of (stored_shape class shape)) (λ type. steps.◌>>=◌ (pointer id class type []) (λ to. putting op.STORE (to ∷ word ∷ [])))) (always_converted m input sections (stored_shape class shape).0 (operand shape v))
      (λ word. always_then m input sections (type_of (stored_shape class shape)) (λ type. steps.◌>>=◌ (pointer id class type []) (λ to. putting op.STORE (to ∷ word ∷ []))) (always_type m input sections (stored_shape class shape))
      (λ type. always_then m input sections (pointer id class type []) (λ to. putting op.STORE (to ∷ word ∷ [])) (λ before. pointer_grows m input sections id class type [] no_state before) (λ to before. extends_put op.STORE (to ∷ word ∷ []) before)))

  adds_held : (splits : Bool) (id class : ℕ) → Adds (hold_reached splits (whole (Variable id class)))
  unfolding hold_reached each
  adds_held false id class = adds_given (whole (Variable id class))
  adds_held true id class = adds_given (whole (Variable id class))

  adds_before : (structs : List StructType) (t : Ty) (shape : Shape) (traits : Traits) (id class : ℕ) → shape_of t ≡ Some shape → Adds (before_assign structs t traits (whole (Variable id class)))
  adds_before structs t shape traits id class is =
      adds_then (lift (probe structs traits.calls t (whole (Variable id class)))) (λ done. hold_reached traits.splits (whole (Variable id class))) (adds_lift (probe structs traits.calls t (whole (Variable id class))) (λ b. (probe_does structs traits.calls t shape id class is no_state b.sections).grows))
      (λ done. adds_held traits.splits id class)

  adds_stores : (structs : List StructType) (t : Ty) (shape : Shape) (id class value : ℕ) → shape_of t ≡ Some shape → Adds (stores structs t (whole (Variable id class)) value)
  unfolding stores stored
  adds_stores structs t shape id class value is = subst (λ o. Adds (store_by structs t (whole (Variable id class)) value o)) (sym is) (adds_lift (put_at id class shape [] value) (λ b. always_put id class shape value b.sections))

  adds_after : (structs : List StructType) (t : Ty) (shape : Shape) (traits : Traits) (id class value : ℕ) → shape_of t ≡ Some shape → Adds (after_assign structs t traits (whole (Variable id class)) value)
  unfolding fetch_reached each
  adds_after structs t shape traits id class value is = by traits.splits
    where
      rest : Adds (stores structs t (whole (Variable id class)) value >>= (λ done. given value))
      rest = adds_then (stores structs t (whole (Variable id class)) value) (λ done. given value) (adds_stores structs t shape id class value is) (λ done. adds_given value)

      by : (splits : Bool) → Adds (fetch_reached splits (whole (Variable id class)) >>= (λ to. stores structs t to value >>= (λ done. given value)))
      by false = rest
      by true = rest

  module _ (f : Frame m input sections) (p : Program) (around : Around) where
    -- the left side is the variable, and nothing was done
    abbrev IsLeft : ℕ → ℕ → Flow → State → Reached → Flow → Unit {0} → shader.State → State → Type 0
    IsLeft id class b state kept later r u last = (kept ≡ whole (Variable id class)) × After m input sections f p around false b state later u last

    does_before : (t : Ty) (shape : Shape) (traits : Traits) (id class : ℕ) → shape_of t ≡ Some shape → (units : ℕ) (b : Flow) (s : shader.State) (state : State) → Good m input sections f p around b s state
        → Does m input sections f p 0 units state (IsLeft id class b state) none_waits (Got tt s units) (before_assign p.structs t traits (whole (Variable id class)) b)
    unfolding hold_reached each
    does_before t shape traits id class is units b s state good =
        does_then m input sections f p 0 units b state (Unchanged m input sections f p around b state) none_waits (IsLeft id class b state) none_waits (Got tt s units) (λ r u left. Got tt u left) (lift (probe p.structs traits.calls t (whole (Variable id class))) b) (λ done. hold_reached traits.splits (whole (Variable id class))) good.inside
        (adds_lift (probe p.structs traits.calls t (whole (Variable id class))) (λ b. (probe_does p.structs traits.calls t shape id class is no_state b.sections).grows) b)
        (λ done. adds_held traits.splits id class)
        (does_aside m input sections f p around (λ a ids. Unit {0}) units b s state (probe p.structs traits.calls t (whole (Variable id class))) good (probe_does p.structs traits.calls t shape id class is state b.sections))
        (λ done between r u left mid inside grown after less. by traits.splits between u left mid inside after)
        (λ done between u left mid inside grown none less. absurd none)
      where
        by : (splits : Bool) (between : Flow) (u : shader.State) (left : ℕ) (mid : State) → Inside m input sections f between.sections → After m input sections f p around false b state between u mid
            → Does m input sections f p 0 left mid (IsLeft id class b state) none_waits (Got tt u left) (hold_reached splits (whole (Variable id class)) between)
        by false between u left mid inside after = λ there. reaches_here m input left mid (IsLeft id class b state (whole (Variable id class)) between tt u) (refl, after)
        by true between u left mid inside after = λ there. reaches_here m input left mid (IsLeft id class b state (whole (Variable id class)) between tt u) (refl, after)

    module _ (kind : ℕ → Name) (number_of : Name → ℕ) (injective : (k : ℕ) → number_of (kind k) ≡ k) (root : access.Root) (list : FlowPlace → List ℕ) (class number : ℕ) (same : (place : FlowPlace) → id_of place (kind number) ≡ slice_get (list place) number) (outside : is_block_class class ≡ false)
        (no_holder : (k : ℕ) → kind number ≢ Holder k) (sets : (v : Value) (s : shader.State) → IsSet f.stages kind number v s (access.stored (access.whole root) v s)) (t : Ty) (shape : Shape) (known : IsNamed p around (kind number) t) (shaped : shape_of t ≡ Some shape) where
      -- the value is stored
      does_store : (id value : ℕ) (v : Value) (units : ℕ) (splits : Bool) (b0 b : Flow) (s : shader.State) (state0 state : State) → Grown b0 b → After m input sections f p around splits b0 state0 b s state → slice_get (list b.place) number ≡ Some id → is_value_of p.structs t v ≡ true → Stands state.ids value v
          → Does m input sections f p 0 units state (HasGiven m input sections f p around splits t b0 state0) none_waits (Got v (access.stored (access.whole root) v s) units) ((stores p.structs t (whole (Variable id class)) value >>= (λ done. given value)) b)
      unfolding stores stored
      does_store id value v units splits b0 b s state0 state grown after is typed stands =
          subst (λ o. Does m input sections f p 0 units state (HasGiven m input sections f p around splits t b0 state0) none_waits (Got v (access.stored (access.whole root) v s) units) (behind (store_by p.structs t (whole (Variable id class)) value o b) (λ done. given value))) (sym shaped)
          (does_map m input sections f p around 0 units state (λ (done : Unit {0}). HasGiven m input sections f p around splits t b0 state0 value) (HasGiven m input sections f p around splits t b0 state0) (Got v (access.stored (access.whole root) v s) units) (lift (put_at id class shape [] value) b) (λ done. value) (λ done later r u last x. x)
          (does_lift m input sections f p around units b s state (λ done ids. Unit {0}) (stored_left m input sections state (set state.variables seated.0 v) state.buffers) (λ (done : Unit {0}). HasGiven m input sections f p around splits t b0 state0 value) none_waits v (access.stored (access.whole root) v s) (put_at id class shape [] value) after.good
          acts
          (λ done later l inside extends. record {
            given = inr (typed, l.keeps.same value _ stands);
            after = record {
              good = record {
                inside = inside;
                rest = refl;
                within = after.good.within;
                own = after.good.own;
                waiting = after.good.waiting;
                ready = l.ready;
                seated = after.good.seated;
                holds = (let h = holds_set m input sections f p around kind number seated.0 v s (access.stored (access.whole root) v s) state others (sets v s).blocks (sets v s).choices seated.1 after.good.holds in record { values = h.values; blocks = h.blocks; buffers = h.buffers; choices = h.choices; count = h.count; outside = h.outside });
                typed = typed_set m input sections f p around kind number t v s (access.stored (access.whole root) v s) (sets v s).blocks (sets v s).choices others known.typed typed after.good.typed;
                reached = l.reached;
              };
              held = record { same = λ holder n less at. kept_set m input sections f p around b0.place.used seated.0 (kind number) v state state.variables no_holder seated.1 holder n at ∙ after.held.same holder n less at };
              ids = λ e. keeps_then (after.ids e) l.keeps;
            };
          })))
        where
          seated : (n : ℕ) × (f.seat (kind number) ≡ Some n) × (f.own id ≡ Some (Points (InVariable n [])))
          seated = seat_known m input sections f b.place after.good.seated (kind number) id (same b.place ∙ is)

          had : (o : Option Value) → value_of f.stages s (kind number) ≡ o → HasType m input sections f p around (Some t) o → (w : Value) × (value_of f.stages s (kind number) ≡ Some w)
          had None e has = absurd has
          had (Some w) e has = (w, e)

          old : (w : Value) × (value_of f.stages s (kind number) ≡ Some w)
          old = had (value_of f.stages s (kind number)) refl (subst (λ o. HasType m input sections f p around o (value_of f.stages s (kind number))) known.typed (after.good.typed.each (kind number)))

          others : (name : Name) → Other f.stages kind number v s (access.stored (access.whole root) v s) name
          others = each_name f.stages kind number_of injective number v old.0 s (access.stored (access.whole root) v s) (sets v s) old.1

          of : IsOf shape v
          of = (value_shape p.structs t shape v known.are known.sound shaped typed).1

          lies : converted_value (stored_shape class shape).0 v ≡ v
          lies = ap (λ (lying : Shape). converted_value lying.0 v) (outside_blocks class shape outside) ∙ value_as_it_is shape v of

          among : seated.0 < length state.variables
          among = subst (λ n. seated.0 < n) (sym after.good.holds.count) (f.among (kind number) seated.0 seated.1)

          acts : Acts m input sections (λ done ids. Unit {0}) (stored_left m input sections state (set state.variables seated.0 v) state.buffers) state b.sections (put_at id class shape [] value)
          acts = put_acts m input sections id class shape [] value [] (InVariable seated.0 []) (InVariable seated.0 []) v (set state.variables seated.0 v) state.buffers state b.sections (after.good.ready.lasting.same id _ seated.2) tt (λ place go. refl) of stands
              (subst (λ w. Stores m input state (InVariable seated.0 []) w (set state.variables seated.0 v) state.buffers) (sym lies) (stores_whole m input sections f p around seated.0 v state among))

      -- behind the value of the right side
      does_after : (splits : Bool) (traits : Traits) (id value : ℕ) (v : Value) (units : ℕ) (b0 b : Flow) (s : shader.State) (state0 state : State) → Grown b0 b → After m input sections f p around splits b0 state0 b s state → slice_get (list b.place) number ≡ Some id → is_value_of p.structs t v ≡ true → Stands state.ids value v
          → Does m input sections f p 0 units state (HasGiven m input sections f p around splits t b0 state0) none_waits (Got v (access.stored (access.whole root) v s) units) (after_assign p.structs t traits (whole (Variable id class)) value b)
      unfolding fetch_reached each
      does_after splits traits id value v units b0 b s state0 state grown after is typed stands = by traits.splits
        where
          by : (waits : Bool) → Does m input sections f p 0 units state (HasGiven m input sections f p around splits t b0 state0) none_waits (Got v (access.stored (access.whole root) v s) units) ((fetch_reached waits (whole (Variable id class)) >>= (λ to. stores p.structs t to value >>= (λ done. given value))) b)
          by false = does_store id value v units splits b0 b s state0 state grown after is typed stands
          by true = does_store id value v units splits b0 b s state0 state grown after is typed stands

      -- the list in which the variable is known stays
      list_later : (b later : Flow) (id : ℕ) → Grown b later → slice_get (list b.place) number ≡ Some id → slice_get (list later.place) number ≡ Some id
      list_later b later id grown is = sym (same later.place) ∙ ap (λ place. id_of place (kind number)) grown.place ∙ moved b.place later.place.label later.place.used ∙ same b.place ∙ is
        where
          moved : (place : FlowPlace) (label used : ℕ) → id_of (record place { label = label; used = used }) (kind number) ≡ id_of place (kind number)
          moved place label used = id_moved place label used (kind number)

      module _ (traits : Traits) (right : Lower) (y : Run Value) (same_type : right.ty ≡ t) (does_right : GivesValue m input sections f p around right.traits.splits right.ty right.value y) where
        abbrev then_right : Reached → Emit ℕ
        then_right kept = right.value >>= after_assign p.structs t right.traits kept

        adds_right : (id : ℕ) → Adds (then_right (whole (Variable id class)))
        adds_right id = adds_then right.value (after_assign p.structs t right.traits (whole (Variable id class))) does_right.adds (λ value. adds_after p.structs t shape right.traits id class value shaped)

        real : right.ty ≢ Void
        real = subst (λ t. t ≢ Void) (sym same_type) known.real

        from_left : (id : ℕ) (b0 b : Flow) (s : shader.State) (units : ℕ) (state0 state : State) → Grown b0 b → After m input sections f p around false b0 state0 b s state → slice_get (list b.place) number ≡ Some id
            → Does m input sections f p 0 units state (HasGiven m input sections f p around right.traits.splits t b0 state0) none_waits (shader_run.◌>>=◌ y (shader_run.storing (access.whole root)) s units) (then_right (whole (Variable id class)) b)
        from_left id b0 b s units state0 state grown after is =
            does_then m input sections f p 0 units b state (HasGiven m input sections f p around right.traits.splits right.ty b state) none_waits (HasGiven m input sections f p around right.traits.splits t b0 state0) none_waits (y s units) (shader_run.storing (access.whole root)) (right.value b) (after_assign p.structs t right.traits (whole (Variable id class))) after.good.inside
            (does_right.adds b) (λ value. adds_after p.structs t shape right.traits id class value shaped)
            (does_right.does b s units state after.good)
            (λ value later v u left mid inside grown2 g less.
            let got = given_value m input sections f p around mid.ids value right.ty v real g.given in
            does_after right.traits.splits right.traits id value v left b0 later u state0 mid (grown_then grown grown2) (after_then m input sections f p around false right.traits.splits b0 b later state0 state mid s u grown after g.after) (list_later b later id grown2 is)
            (subst (λ t. is_value_of p.structs t v ≡ true) same_type got.0) got.1)
            (λ value later u left mid inside grown2 none less. absurd none)

        -- what stands before the right side is the variable, where it comes to something
        data Before (b : Flow) (id : ℕ) (low : Lowered Reached) : Type 0 where
          lacks : low ≡ Lacks → Before b id low
          gives : (later : Flow) → low ≡ Gives (whole (Variable id class)) later → Grown b later → Before b id low

        before_is : (b : Flow) (id : ℕ) → Before b id (before_assign p.structs t right.traits (whole (Variable id class)) b)
        unfolding hold_reached each
        before_is b id = by (probe p.structs right.traits.calls t (whole (Variable id class)) b.sections) (probe_does p.structs right.traits.calls t shape id class shaped no_state b.sections).grows
          where
            held : (splits : Bool) (later : Flow) → Grown b later → Before b id (hold_reached splits (whole (Variable id class)) later)
            held false later grown = gives later refl grown
            held true later grown = gives later refl grown

            by : (built : steps.Built (Unit {0})) → law.Grows b.sections built → Before b id (behind (built_in b.place built) (λ done. hold_reached right.traits.splits (whole (Variable id class))))
            by steps.Full grows = lacks refl
            by (steps.Made done later) grows = held right.traits.splits (flow_of later b.place) (record { extends = grows; used = omega arith; place = refl })

        -- the right side, and the store
        with_left : (id : ℕ) (b : Flow) (s : shader.State) (units : ℕ) (state : State) → Good m input sections f p around b s state → slice_get (list b.place) number ≡ Some id → (low : Lowered Reached) → Before b id low → Does m input sections f p 0 units state (IsLeft id class b state) none_waits (Got tt s units) low
            → Does m input sections f p 0 units state (HasGiven m input sections f p around right.traits.splits t b state) none_waits (assign_means root y s units) (behind low then_right)
        with_left id b s units state good is low (lacks e) does = subst (λ low. Does m input sections f p 0 units state (HasGiven m input sections f p around right.traits.splits t b state) none_waits (assign_means root y s units) (behind low then_right)) (sym e) tt
        with_left id b s units state good is low (gives later e grown) does =
            subst (λ low. Does m input sections f p 0 units state (HasGiven m input sections f p around right.traits.splits t b state) none_waits (assign_means root y s units) (behind low then_right)) (sym e)
            (does_then m input sections f p 0 units b state (Unchanged m input sections f p around {A = Unit {0}} b state) none_waits (HasGiven m input sections f p around right.traits.splits t b state) none_waits (Got tt s units) (λ r u left. shader_run.◌>>=◌ y (shader_run.storing (access.whole root)) u left)
            (Gives tt later) (λ done. then_right (whole (Variable id class))) good.inside grown (λ done. adds_right id)
            (so (subst (Does m input sections f p 0 units state (IsLeft id class b state) none_waits (Got tt s units)) e does))
            (λ done between r u left mid inside grown2 after less. from_left id b between u left state mid grown2 after (list_later b between id grown2 is))
            (λ done between u left mid inside grown2 none less. absurd none))
          where
            so : Does m input sections f p 0 units state (IsLeft id class b state) none_waits (Got tt s units) (Gives (whole (Variable id class)) later) → Does m input sections f p 0 units state (Unchanged m input sections f p around {A = Unit {0}} b state) none_waits (Got tt s units) (Gives tt later)
            so does = λ inside. let q = does inside in record { later = q.later; is = q.is.1; less = q.less; stretch = q.stretch }

        pub assign_gives : GivesValue m input sections f p around right.traits.splits t (assigned p.structs (leading p.structs t (named list class number) traits) right) (assign_means root y)
        assign_gives = record {
          adds = λ b. adds_by b (slice_get (list b.place) number);
          does = λ b s units state good. by b s units state good (slice_get (list b.place) number) refl;
        }
          where
            adds_low : (b : Flow) (id : ℕ) (low : Lowered Reached) → Before b id low → GrownTo b (behind low then_right)
            adds_low b id low (lacks e) = subst (λ low. GrownTo b (behind low then_right)) (sym e) tt
            adds_low b id low (gives later e grown) = subst (λ low. GrownTo b (behind low then_right)) (sym e) (grown_through b later (then_right (whole (Variable id class)) later) grown (adds_right id later))

            adds_by : (b : Flow) (o : Option ℕ) → GrownTo b (behind (behind (behind (id_at o b) (λ id. given (whole (Variable id class)))) (before_assign p.structs t right.traits)) then_right)
            adds_by b None = tt
            adds_by b (Some id) = adds_low b id (before_assign p.structs t right.traits (whole (Variable id class)) b) (before_is b id)

            by : (b : Flow) (s : shader.State) (units : ℕ) (state : State) → Good m input sections f p around b s state → (o : Option ℕ) → slice_get (list b.place) number ≡ o
                → Does m input sections f p 0 units state (HasGiven m input sections f p around right.traits.splits t b state) none_waits (assign_means root y s units) (behind (behind (behind (id_at o b) (λ id. given (whole (Variable id class)))) (before_assign p.structs t right.traits)) then_right)
            by b s units state good None e = tt
            by b s units state good (Some id) e = with_left id b s units state good e (before_assign p.structs t right.traits (whole (Variable id class)) b) (before_is b id) (does_before t shape right.traits id class shaped units b s state good)
