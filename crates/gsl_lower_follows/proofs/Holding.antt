-- Values that wait in holders.
use Rattle.std.proofs.Common.{◌≡◌, ◌≢◌, refl, sym, ap, ◌∙◌, subst, ℕ, zero, suc, ◌+◌, ◌<◌, ◌≤◌, Bool, true, false, ◌||◌, List, [], ◌∷◌, length, Option, Some, None, arith}
use Rattle.std.specs.Prelude.{set, slice_get}
use Rattle.std.proofs.lemmas.List.{length-set}
use Rattle.gsl_base.specs.declared.input.Input.{Input}
use Rattle.gsl_instr.specs.declared.op.TheConstants as op
use Rattle.gsl_types.specs.declared.ty.Ty.{Ty}
use Rattle.gsl_words.specs.declared.module.Module.{Module}
use Rattle.gsl_values.specs.declared.value.Value.{Value}
use Rattle.gsl_tree.specs.Around.{Around}
use Rattle.gsl_tree.specs.Operations.{value_at, with_value_at}
use Rattle.gsl_tree.specs.Shapes.{Shape, shape_of}
use Rattle.gsl_tree.specs.declared.program.Program.{Program}
use Rattle.gsl_meaning.specs.Running.{Got, Ran}
use Rattle.gsl_meaning.specs.State as shader
use Rattle.gsl_machine.specs.Memory.{with_variable}
use Rattle.gsl_machine.specs.State.{InVariable, Points, State, on}
use Rattle.gsl_spv.specs.Sections.{Sections}
use Rattle.gsl_lower_values.specs.Building.{giving, putting}
use Rattle.gsl_lower_values.specs.Types.{type_of}
use Rattle.gsl_lower_law.specs.Computing.{drawing, leaving}
use Rattle.gsl_lower_law.specs.Values.{Keeps, Stands}
use Rattle.gsl_lower_law.proofs.Giving.{giving_does}
use Rattle.gsl_lower_law.proofs.Joining.{keeps_same, keeps_then}
use Rattle.gsl_lower_law.proofs.Plain.{IsType, type_does}
use Rattle.gsl_lower_law_places.specs.Storing.{Stores}
use Rattle.gsl_lower_law_places.proofs.Loads.{loads}
use Rattle.gsl_lower_law_places.proofs.Stored.{store_acts, stored_left}
use Rattle.gsl_lower_holders.specs.Flow.{Flow, Gives, Lacks, Lowered, behind, find_type, flow_of, given, id_at, putting_here, type_by, type_id, ◌>>=◌}
use Rattle.gsl_lower_holders.specs.Waiting.{hold, holder, holder_at, keep, take_back}
use Rattle.gsl_lower_holders.specs.declared.place.FlowPlace.{FlowPlace}
use Rattle.gsl_lower_follows.specs.Frames.{Frame, Global, Good, HeldAs, Holder, Holds, Interface, Local, Name, Param, Seated, Stage, Waits, coming, id_of, value_of}
use Rattle.gsl_lower_follows.specs.Giving.{After, Does, Grown, none_waits}
use Rattle.gsl_lower_follows.proofs.Behind.{follows_so, reaches_here}
use Rattle.gsl_lower_follows.proofs.Doing.{does_lift}
use Rattle.gsl_lower_follows.proofs.Drawn.{after_drawn, choices_are, left_with}

-- ---- lists with another item

pub set_there : {A : Type 0} (l : List A) (i : ℕ) (a : A) → i < length l → slice_get (set l i a) i ≡ Some a
set_there [] i a less = absurd (omega (arith, less))
set_there (x ∷ l) zero a less = refl
set_there (x ∷ l) (suc i) a less = set_there l i a (omega (arith, less))

pub set_elsewhere : {A : Type 0} (l : List A) (i j : ℕ) (a : A) → j ≢ i → slice_get (set l i a) j ≡ slice_get l j
set_elsewhere [] i j a other = refl
set_elsewhere (x ∷ l) zero zero a other = absurd (other refl)
set_elsewhere (x ∷ l) zero (suc j) a other = refl
set_elsewhere (x ∷ l) (suc i) zero a other = refl
set_elsewhere (x ∷ l) (suc i) (suc j) a other = set_elsewhere l i j a (λ e. other (ap suc e))

pub found_among : {A : Type 0} (l : List A) (i : ℕ) → i < length l → (a : A) × (slice_get l i ≡ Some a)
found_among [] i less = absurd (omega (arith, less))
found_among (x ∷ l) zero less = (x, refl)
found_among (x ∷ l) (suc i) less = found_among l i (omega (arith, less))

-- ---- where variables are known

abbrev pub holder_number : Name → ℕ
holder_number (Global number) = 0
holder_number (Interface number) = 0
holder_number (Stage number) = 0
holder_number (Param number) = 0
holder_number (Local number) = 0
holder_number (Holder number) = number

pub id_moved : (place : FlowPlace) (label used : ℕ) (name : Name) → id_of (record place { label = label; used = used }) name ≡ id_of place name
id_moved place label used (Global number) = refl
id_moved place label used (Interface number) = refl
id_moved place label used (Stage number) = refl
id_moved place label used (Param number) = refl
id_moved place label used (Local number) = refl
id_moved place label used (Holder number) = refl

module _ (m : Module) (input : Input) (whole : Sections) (f : Frame m input whole) where
  pub seated_moved : (place : FlowPlace) (label used : ℕ) → Seated m input whole f place → Seated m input whole f (record place { label = label; used = used })
  seated_moved place label used at = record { same = ap (λ (other : FlowPlace). record other { label = label; used = used }) at.same }

  -- what is known at a place, is what the function knows
  pub id_known : (place : FlowPlace) → Seated m input whole f place → (name : Name) → id_of place name ≡ id_of f.place name
  id_known place at name = ap (λ (other : FlowPlace). id_of other name) at.same ∙ id_moved f.place place.label place.used name

  -- an id of a variable that is known at a place stands for a pointer to it
  pub seat_known : (place : FlowPlace) → Seated m input whole f place → (name : Name) (id : ℕ) → id_of place name ≡ Some id
      → (number : ℕ) × (f.seat name ≡ Some number) × (f.own id ≡ Some (Points (InVariable number [])))
  seat_known place at name id is = f.known name id (sym (id_known place at name) ∙ is)

  module _ (p : Program) (around : Around) where
    -- ---- one stretch behind another

    pub after_same : (b : Flow) (s : shader.State) (state : State) → Good m input whole f p around b s state → After m input whole f p around false b state b s state
    after_same b s state good = record { good = good; held = record { same = λ holder number less seat. refl }; ids = λ e. keeps_same state.ids }

    or_parts : (a b : Bool) → (a || b) ≡ false → (a ≡ false) × (b ≡ false)
    or_parts true b e = absurd cc
    or_parts false b e = (refl, e)

    pub after_then : (first second : Bool) (b between later : Flow) (state mid last : State) (s t : shader.State) → Grown b between → After m input whole f p around first b state between s mid → After m input whole f p around second between mid later t last
        → After m input whole f p around (first || second) b state later t last
    after_then first second b between later state mid last s t grown x y = record {
      good = y.good;
      held = record { same = λ holder number less seat. y.held.same holder number (omega (arith, less, grown.used)) seat ∙ x.held.same holder number less seat };
      ids = λ e. let parts = or_parts first second e in keeps_then (x.ids parts.0) (y.ids parts.1);
    }

    -- what is in one block may be called in several
    pub after_any : (splits : Bool) (b later : Flow) (state last : State) (s : shader.State) → After m input whole f p around false b state later s last → After m input whole f p around splits b state later s last
    after_any splits b later state last s x = record { good = x.good; held = x.held; ids = λ e. x.ids refl }

    -- what is given by what was given
    pub does_map : {A B R : Type 0} (lent units : ℕ) (state : State) (First : A → Flow → R → shader.State → State → Type 0) (Is : B → Flow → R → shader.State → State → Type 0) (ran : Ran R) (first : Lowered A) (g : A → B)
        → ((a : A) (later : Flow) (r : R) (s : shader.State) (last : State) → First a later r s last → Is (g a) later r s last)
        → Does m input whole f p lent units state First none_waits ran first → Does m input whole f p lent units state Is none_waits ran (behind first (λ a. given (g a)))
    does_map lent units state First Is ran Lacks g so does = tt
    does_map lent units state First Is ran (Gives a later) g so does = λ inside. follows_so m input p lent units state (First a later) (Is (g a) later) (none_waits a later) ran (so a later) (does inside)

    -- what was done is so
    pub does_so : {A R : Type 0} (lent units : ℕ) (state : State) (First Is : A → Flow → R → shader.State → State → Type 0) (ran : Ran R) (first : Lowered A)
        → ((a : A) (later : Flow) (r : R) (s : shader.State) (last : State) → First a later r s last → Is a later r s last)
        → Does m input whole f p lent units state First none_waits ran first → Does m input whole f p lent units state Is none_waits ran first
    does_so lent units state First Is ran Lacks so does = tt
    does_so lent units state First Is ran (Gives a later) so does = λ inside. follows_so m input p lent units state (First a later) (Is a later) (none_waits a later) ran (so a later) (does inside)

    -- ---- holders

    -- A value was stored in the variable of a number, and nothing else has changed.
    pub record IsStored (number : ℕ) (v : Value) (b : Flow) (state : State) (later : Flow) (s : shader.State) (last : State) : Type 0 where
      pub good : Good m input whole f p around later s last
      pub place : later.place ≡ b.place
      pub ids : Keeps state.ids last.ids
      pub there : slice_get last.variables number ≡ Some v
      pub others : (other : ℕ) → other ≢ number → slice_get last.variables other ≡ slice_get state.variables other

    -- the state with another value in a holder is that of the shader all the same
    holds_held : (holder number : ℕ) (v : Value) (s : shader.State) (state : State) → f.seat (Holder holder) ≡ Some number → Holds m input whole f p around s state
        → Holds m input whole f p around s (record state { variables = set state.variables number v })
    holds_held holder number v s state seat holds = record {
      values = λ name w is. let there = holds.values name w is in (there.0, there.1, set_elsewhere state.variables number there.0 v (λ e. no_holder name w is (f.apart name (Holder holder) number (there.1 ∙ ap Some e) seat)) ∙ there.2);
      blocks = holds.blocks;
      buffers = holds.buffers;
      choices = holds.choices;
      count = length-set state.variables number v ∙ holds.count;
      outside = λ other none. set_elsewhere state.variables number other v (λ e. none (Holder holder) (seat ∙ ap Some (sym e))) ∙ holds.outside other none;
    }
      where
        no_holder : (name : Name) (w : Value) → value_of f.stages s name ≡ Some w → name ≢ Holder holder
        no_holder name w is e = absurd (let none : value_of f.stages s (Holder holder) ≡ Some w = subst (λ n. value_of f.stages s n ≡ Some w) e is in cc)

    pub stores_whole : (number : ℕ) (v : Value) (state : State) → number < length state.variables → Stores m input state (InVariable number []) v (set state.variables number v) state.buffers
    stores_whole number v state less ids choices rest go =
        let old = found_among state.variables number less in
        ap (λ o. on o (λ old. go (with_variable (record state { ids = ids; choices = choices; rest = rest }) number (with_value_at old [] v)))) old.1

    -- A value is stored in a holder.
    pub does_store : (holder number id value : ℕ) (v : Value) (units : ℕ) (b : Flow) (s : shader.State) (state : State) → Good m input whole f p around b s state → f.seat (Holder holder) ≡ Some number → f.own id ≡ Some (Points (InVariable number [])) → Stands state.ids value v
        → Does m input whole f p 0 units state (λ done later (r : Unit {0}) t last. IsStored number v b state later t last) none_waits (Got tt s units) (putting_here op.STORE (id ∷ value ∷ []) b)
    does_store holder number id value v units b s state good seat points stands =
        let among : number < length state.variables = subst (λ n. number < n) (sym good.holds.count) (f.among (Holder holder) number seat) in
        does_lift m input whole f p around units b s state (λ done ids. Unit {0}) (stored_left m input whole state (set state.variables number v) state.buffers) (λ done later (r : Unit {0}) t last. IsStored number v b state later t last) none_waits tt s (putting op.STORE (id ∷ value ∷ [])) good
        (store_acts m input whole id value (InVariable number []) v (set state.variables number v) state.buffers state b.sections (good.ready.lasting.same id _ points) stands (stores_whole number v state among))
        (λ done later l inside extends. record {
          good = record {
            inside = inside;
            rest = refl;
            within = good.within;
            own = good.own;
            waiting = good.waiting;
            ready = l.ready;
            seated = good.seated;
            holds = (let h = holds_held holder number v s state seat good.holds in record { values = h.values; blocks = h.blocks; buffers = h.buffers; choices = h.choices; count = h.count; outside = h.outside });
            typed = good.typed;
            reached = l.reached;
          };
          place = refl;
          ids = l.keeps;
          there = set_there state.variables number v among;
          others = λ other not_it. set_elsewhere state.variables number other v not_it;
        })

    -- the next holder is used
    abbrev pub using : Flow → Flow
    using b = record b { place = record b.place { used = b.place.used + 1 } }

    pub good_using : (b : Flow) (s : shader.State) (state : State) → Good m input whole f p around b s state → Good m input whole f p around (using b) s state
    good_using b s state good = record { inside = good.inside; rest = good.rest; within = good.within; own = good.own; waiting = good.waiting; ready = good.ready; seated = seated_moved b.place b.place.label (b.place.used + 1) good.seated; holds = good.holds; typed = good.typed; reached = good.reached }

    -- nothing has changed, and an id is that of a holder in which a value waits
    abbrev pub NowWaits : Value → Flow → State → ℕ → Flow → Unit {0} → shader.State → State → Type 0
    NowWaits v b state h later r t last = After m input whole f p around false b state later t last × ((waits : Waits m input whole f later.place.used h v last) × (b.place.used ≤ waits.holder))

    -- nothing has changed
    abbrev pub Unchanged : {A : Type 0} → Flow → State → A → Flow → Unit {0} → shader.State → State → Type 0
    Unchanged b state a later r t last = After m input whole f p around false b state later t last

    -- A value waits in the next holder.
    pub does_keep : (value : ℕ) (v : Value) (units : ℕ) (b : Flow) (s : shader.State) (state : State) → Good m input whole f p around b s state → Stands state.ids value v
        → Does m input whole f p 0 units state (NowWaits v b state) none_waits (Got tt s units) (keep value b)
    unfolding keep holder
    does_keep value v units b s state good stands = by (slice_get b.place.holders b.place.used) refl
      where
        by : (o : Option ℕ) → slice_get b.place.holders b.place.used ≡ o → Does m input whole f p 0 units state (NowWaits v b state) none_waits (Got tt s units) (behind (holder_at o b) (λ h. putting_here op.STORE (h ∷ value ∷ []) >>= (λ done. given h)))
        by None e = tt
        by (Some h) e =
            let known = seat_known b.place good.seated (Holder b.place.used) h e in
            does_map 0 units state (λ done later (r : Unit {0}) t last. IsStored known.0 v (using b) state later t last) (NowWaits v b state) (Got tt s units) (putting_here op.STORE (h ∷ value ∷ []) (using b)) (λ done. h)
            (λ done later r t last is. (
              record {
                good = is.good;
                held = record { same = λ holder number less seat. is.others number (λ same. absurd (let one : Holder holder ≡ Holder b.place.used = f.apart (Holder holder) (Holder b.place.used) number seat (known.1 ∙ ap Some (sym same)) in let n : holder ≡ b.place.used = ap holder_number one in omega (arith, less, n))) };
                ids = λ none. is.ids;
              },
              (
                record {
                  holder = b.place.used;
                  number = known.0;
                  among = (let n : later.place.used ≡ b.place.used + 1 = ap (λ (place : FlowPlace). place.used) is.place in omega (arith, n));
                  seat = known.1;
                  points = known.2;
                  value = is.there;
                },
                omega arith,
              ),
            ))
            (does_store b.place.used known.0 h value v units (using b) s state (good_using b s state good) known.1 known.2 stands)

    -- what waits still waits where holders are as they were
    abbrev pub waits_after : (splits : Bool) (b later : Flow) (state last : State) (s : shader.State) (h : ℕ) (v : Value) → Grown b later → After m input whole f p around splits b state later s last → Waits m input whole f b.place.used h v state → Waits m input whole f later.place.used h v last
    waits_after splits b later state last s h v grown after w =
        record { holder = w.holder; number = w.number; among = omega (arith, w.among, grown.used); seat = w.seat; points = w.points; value = after.held.same w.holder w.number w.among w.seat ∙ w.value }

    -- The value again.
    pub does_take_back : (h type : ℕ) (v : Value) (units : ℕ) (b : Flow) (s : shader.State) (state : State) → Good m input whole f p around b s state → Waits m input whole f b.place.used h v state
        → Does m input whole f p 0 units state (λ id later (r : Unit {0}) t last. After m input whole f p around false b state later t last × Stands last.ids id v) none_waits (Got tt s units) (take_back h type b)
    does_take_back h type v units b s state good w =
        does_lift m input whole f p around units b s state (λ id ids. Stands ids id v) (drawing state state.choices) (λ id later (r : Unit {0}) t last. After m input whole f p around false b state later t last × Stands last.ids id v) none_waits tt s (giving op.LOAD (h ∷ []) type) good
        (giving_does m input whole op.LOAD (h ∷ []) type state v state.choices b.sections (λ text. loads m input type h (InVariable w.number []) v state (good.ready.lasting.same h _ w.points) (λ go. ap (λ o. on o (λ x. go (value_at x []))) w.value)))
        (λ id later l inside extends. (
          subst (λ t. After m input whole f p around false b state (flow_of later b.place) t (record (leaving state (drawing state state.choices) l.ids) { rest = coming m input whole f later })) (ap (left_with s) good.holds.choices)
              (after_drawn m input whole f p around b s state l.ids state.choices later (choices_are m input whole f p around b s state good) good inside l.ready l.keeps l.reached),
          l.is,
        ))

    -- The id of a type is found, and nothing is done.
    pub does_type_id : (ty : Ty) (units : ℕ) (b : Flow) (s : shader.State) (state : State) → Good m input whole f p around b s state
        → Does m input whole f p 0 units state (λ type later (r : Unit {0}) t last. After m input whole f p around false b state later t last) none_waits (Got tt s units) (type_id ty b)
    unfolding type_id
    does_type_id ty units b s state good = by (shape_of ty)
      where
        found : (o : Option ℕ) → Does m input whole f p 0 units state (Unchanged b state) none_waits (Got tt s units) (id_at o b)
        found None = tt
        found (Some id) = λ inside. reaches_here m input units state (Unchanged b state id b tt s) (after_same b s state good)

        by : (o : Option Shape) → Does m input whole f p 0 units state (Unchanged b state) none_waits (Got tt s units) (type_by ty o b)
        by None = found (find_type ty b.place.composites)
        by (Some shape) =
            does_lift m input whole f p around units b s state (IsType m input whole shape) (drawing state state.choices) (Unchanged b state) none_waits tt s (type_of shape) good (type_does m input whole shape state b.sections)
            (λ type later l inside extends. subst (λ t. After m input whole f p around false b state (flow_of later b.place) t (record (leaving state (drawing state state.choices) l.ids) { rest = coming m input whole f later })) (ap (left_with s) good.holds.choices)
            (after_drawn m input whole f p around b s state l.ids state.choices later (choices_are m input whole f p around b s state good) good inside l.ready l.keeps l.reached))

    -- ---- values that may have to wait

    pub held_after : (splits : Bool) (b later : Flow) (state last : State) (s : shader.State) (kept : ℕ) (v : Value) → Grown b later → After m input whole f p around splits b state later s last → HeldAs m input whole f splits kept v b state → HeldAs m input whole f splits kept v later last
    held_after false b later state last s kept v grown after held = (after.ids refl).same kept _ held
    held_after true b later state last s kept v grown after held = waits_after true b later state last s kept v grown after held

    pub does_hold : (waits : Bool) (value : ℕ) (v : Value) (units : ℕ) (b : Flow) (s : shader.State) (state : State) → Good m input whole f p around b s state → Stands state.ids value v
        → Does m input whole f p 0 units state (λ kept later (r : Unit {0}) t last. After m input whole f p around false b state later t last × HeldAs m input whole f waits kept v later last) none_waits (Got tt s units) (hold waits value b)
    unfolding hold
    does_hold false value v units b s state good stands = λ inside. reaches_here m input units state _ (after_same b s state good, stands)
    does_hold true value v units b s state good stands =
        does_so 0 units state (NowWaits v b state) (λ kept later (r : Unit {0}) t last. After m input whole f p around false b state later t last × Waits m input whole f later.place.used kept v last) (Got tt s units) (keep value b) (λ h later r t last is. (is.0, is.1.0)) (does_keep value v units b s state good stands)
