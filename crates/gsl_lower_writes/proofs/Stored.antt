-- What is stored where a trail leads.
use Rattle.std.proofs.Common.{◌≡◌, refl, sym, ap, subst, ℕ, ◌≤◌, Bool, true, false, List, [], ◌∷◌, ◌++◌, length, Option, Some, None, if◌then◌else◌}
use Rattle.std.specs.Prelude.{set, slice_get}
use Rattle.gsl_base.specs.declared.input.Input.{Input}
use Rattle.gsl_instr.specs.declared.op.TheConstants as op
use Rattle.gsl_types.specs.Known.{AreStructs, IsSound}
use Rattle.gsl_types.specs.declared.ty.Ty.{Ty}
use Rattle.gsl_words.specs.declared.module.Module.{Module}
use Rattle.gsl_values.specs.declared.value.Value.{Value}
use Rattle.gsl_tree.specs.Around.{Around}
use Rattle.gsl_tree.specs.Operations.{with_value_at}
use Rattle.gsl_tree.specs.Shapes.{Shape, shape_of}
use Rattle.gsl_tree.specs.Values.{is_value_of}
use Rattle.gsl_tree.specs.declared.program.Program.{Program}
use Rattle.gsl_meaning.specs.Accesses.{Access, stored as means_stored}
use Rattle.gsl_meaning.specs.Running.{Got}
use Rattle.gsl_meaning.specs.State as shader
use Rattle.gsl_machine.specs.Memory.{with_variable}
use Rattle.gsl_machine.specs.State.{InVariable, Points, State, on}
use Rattle.gsl_spv.specs.Sections.{Sections}
use Rattle.gsl_lower_values.specs.Building.{putting}
use Rattle.gsl_lower_places.specs.Reached.{is_block_class}
use Rattle.gsl_lower_places.specs.Reading.{pointer}
use Rattle.gsl_lower_places.specs.Writing.{put_in, stored}
use Rattle.gsl_lower_places.specs.declared.reached.Base.TheVariants.{Variable}
use Rattle.gsl_lower_places.specs.declared.reached.Picked.{Picked}
use Rattle.gsl_lower_places.specs.declared.reached.Reached.{Reached}
use Rattle.gsl_lower_law.specs.Computing.{Acts, drawing}
use Rattle.gsl_lower_law.specs.Values.{IsOf, Stands}
use Rattle.gsl_lower_law_places.specs.Components.{AreWithin, Picks}
use Rattle.gsl_lower_law_places.specs.Leading.{LeadsTo}
use Rattle.gsl_lower_law_places.specs.Storing.{AreStored, Stores, goes_to, with_components}
use Rattle.gsl_lower_law_places.proofs.Chains.{pointer_does}
use Rattle.gsl_lower_law_places.proofs.Kept.{lies_same, variables_stored}
use Rattle.gsl_lower_law_places.proofs.Stored.{Nothing, put_acts, store_acts, stored_left}
use Rattle.gsl_lower_holders.specs.Flow as flow
use Rattle.gsl_lower_holders.specs.Flow.{Flow, behind, find_type, id_at, lift, putting_here, type_by, type_id}
use Rattle.gsl_lower_expr.specs.Parts.{store_block, store_by, store_composite, store_own, stores}
use Rattle.gsl_lower_follows.specs.Frames.{Frame, Good, HeldAs}
use Rattle.gsl_lower_follows.specs.Giving.{After, Does, none_waits}
use Rattle.gsl_lower_follows.proofs.Doing.{does_lift, does_then}
use Rattle.gsl_lower_follows.proofs.Fetching.{adds_put}
use Rattle.gsl_lower_follows.proofs.Growing.{adds_lift}
use Rattle.gsl_lower_follows.proofs.Holding.{after_then, does_so}
use Rattle.gsl_lower_reads.proofs.OfElements.{after_step, none_shape}
use Rattle.gsl_lower_reads.specs.OfReaching.{AtVariable, Begins, IsOwnTrail, PicksBy, Start}
use Rattle.gsl_lower_reads.specs.OfReaching.{variable, value, holder}
use Rattle.gsl_lower_reads.specs.OfReaching.{Chosen, IsInside, IsPicked, MayStore, Trail}
use Rattle.gsl_lower_reads.proofs.OfReaching.{chooses_stand, numbers_stand, own_after}
use Rattle.gsl_lower_reads.proofs.OfReaching.{whole_picked}
use Rattle.gsl_lower_reads.proofs.Adding.{always_pointer}
use Rattle.gsl_lower_writes.specs.Written.{IsWritten}
use Rattle.gsl_lower_writes.proofs.Once.{are_few, are_stored}
use Rattle.gsl_lower_writes.proofs.Picked.{renewed}
use Rattle.gsl_lower_writes.proofs.Renewed.{after_stored, all, leads, new, new_shape, old, once, part, part_shape, points, there}

module _ (m : Module) (input : Input) (sections : Sections) (f : Frame m input sections) (p : Program) (around : Around) where
  -- what may be written outside blocks begins at a variable
  pub at_variable : (b : Flow) (state : State) (loose : Start) (r : Reached) (l : Trail) → IsOwnTrail m input sections f p around false loose b state r l → MayStore p.blocks l.root → AtVariable m input sections f p around loose r.base l
  at_variable b state loose r l is named = by is.begins
    where
      by : Begins m input sections f p around (λ id v. HeldAs m input sections f false id v b state) b.place.used state loose r.base r.path l → AtVariable m input sections f p around loose r.base l
      by (variable x) = x
      by (value x) = absurd (subst (MayStore p.blocks) x.begins named)
      by (holder x) = absurd (subst (MayStore p.blocks) x.begins named)

  -- what is picked, where the ids stand for the words
  pub picks_stand : (b : Flow) (state : State) (q : Picked) (c : Chosen) → PicksBy (λ id v. HeldAs m input sections f false id v b state) (Some q) (Some c) → 1 ≤ length c.positions → AreWithin c.shape.1 c.word c.positions → Picks state.ids q c.word
  picks_stand b state q c picks some within = record {
    by_word = chooses_stand state.ids q.by c.word picks.2;
    some = subst (λ ps. 1 ≤ length ps) (sym picks.1) some;
    within = subst (λ (shape : Shape). AreWithin shape.1 c.word q.positions) (sym picks.0) (subst (AreWithin c.shape.1 c.word) (sym picks.1) within);
  }

  module _ (are : AreStructs p.structs) (loose : Start) (t : Ty) (sound_t : IsSound (length p.structs) t) (value : ℕ) (v : Value) (typed : is_value_of p.structs t v ≡ true) (a : Access) (l : Trail) (inside : IsInside p.structs p.blocks true t a l) where
    abbrev IsDone : Flow → State → Unit {0} → Flow → Unit {0} → shader.State → State → Type 0
    IsDone = IsWritten m input sections f p around

    module _ (b : Flow) (s : shader.State) (state : State) (r : Reached) (good : Good m input sections f p around b s state) (is : IsOwnTrail m input sections f p around false loose b state r l) (stands : Stands state.ids value v) (x : AtVariable m input sections f p around loose r.base l) where
      abbrev was : Value
      was = old m input sections f p around are loose t sound_t b s state r a l good x inside

      abbrev place : Value
      place = part m input sections f p around are loose t sound_t b s state r a l good x inside

      abbrev anew : Value
      anew = all m input sections f p around are loose t sound_t b s state r a l good x inside v typed

      -- the variables with a value where the words lead
      abbrev Having : Value → List Value
      Having w = set state.variables x.number (with_value_at was l.words w)

      was_there : slice_get state.variables x.number ≡ Some was
      was_there = there m input sections f p around are loose t sound_t b s state r a l good x inside

      it_points : state.ids x.id ≡ Some (Points (InVariable x.number []))
      it_points = points m input sections f p around are loose t sound_t b s state r a l good x inside

      it_leads : LeadsTo m input state (InVariable x.number []) l.words (InVariable x.number l.words)
      it_leads = leads m input sections f p around are loose t sound_t b s state r a l good x inside

      puts : (w : Value) → Stores m input state (InVariable x.number l.words) w (Having w) state.buffers
      puts w ids choices rest go = ap (λ o. on o (λ old. go (with_variable (record state { ids = ids; choices = choices; rest = rest }) x.number (with_value_at old l.words w)))) was_there

      -- ---- scalars and vectors

      place_stored : (shape : Shape) → shape_of t ≡ Some shape → (o : Option Picked) (c : Option Chosen) → l.picks ≡ c → PicksBy (λ id v. HeldAs m input sections f false id v b state) o c → IsPicked inside.whole t (l.front ++ l.words) c a.path a.picked
          → Acts m input sections Nothing (stored_left m input sections state (Having (renewed place c v)) state.buffers) state b.sections (put_in (Variable x.id x.class) r.path shape value o)
      unfolding stored part
      place_stored shape shaped None None e picks y =
          let of = new_shape m input sections f p around are loose t sound_t b s state r a l good x inside v typed shape shaped in
          put_acts m input sections x.id x.class shape r.path value l.words (InVariable x.number []) (InVariable x.number l.words) v (Having v) state.buffers state b.sections it_points (numbers_stand state.ids r.path l.words is.numbers) it_leads of stands
          (subst (λ w. Stores m input state (InVariable x.number l.words) w (Having v) state.buffers) (sym (lies_same x.class shape v x.outside of)) (puts v))
      place_stored shape shaped None (Some c) e picks y = absurd picks
      place_stored shape shaped (Some q) None e picks y = absurd picks
      place_stored shape shaped (Some q) (Some c) e picks y =
          let of = new_shape m input sections f p around are loose t sound_t b s state r a l good x inside v typed (c.shape.0, length c.positions) y.gives in
          let was_of = part_shape m input sections f p around are loose t sound_t b s state r a l good x inside c y in
          let alone = once m input sections f p around are loose t sound_t b s state r a l good x inside c e in
          subst (λ ps. Acts m input sections Nothing (stored_left m input sections state (Having (with_components place (goes_to c.word ps) v)) state.buffers) state b.sections (put_in (Variable x.id x.class) r.path shape value (Some q))) picks.1
          (variables_stored m input sections x.id x.class r.path q l.words (InVariable x.number []) x.number l.words was place v value state b.sections x.outside it_points (numbers_stand state.ids r.path l.words is.numbers) it_leads was_there refl
          (subst (λ s. IsOf s place) (sym picks.0) was_of)
          (subst (λ (shape : Shape). IsOf (shape.0, length q.positions) v) (sym picks.0) (subst (λ ps. IsOf (c.shape.0, length ps) v) (sym picks.1) of)) stands shape c.word (picks_stand b state q c picks y.some y.within)
          (subst (AreStored c.word) (sym picks.1) (are_stored c.shape.1 c.word c.positions y.within alone y.some))
          (subst (λ (shape : Shape). length q.positions ≤ shape.1) (sym picks.0) (subst (λ ps. length ps ≤ c.shape.1) (sym picks.1) (are_few c.shape.1 c.word c.positions y.within alone y.some))))

      shape_acts : (shape : Shape) → shape_of t ≡ Some shape → Acts m input sections Nothing (stored_left m input sections state (set state.variables x.number anew) state.buffers) state b.sections (stored shape r value)
      unfolding stored all new
      shape_acts shape shaped = subst (λ base. Acts m input sections Nothing (stored_left m input sections state (set state.variables x.number anew) state.buffers) state b.sections (put_in base r.path shape value r.picked)) (sym x.is) (place_stored shape shaped r.picked l.picks refl is.picks inside.picks)

      module _ (units : ℕ) where
        abbrev Stored : flow.Lowered (Unit {0}) → Type 0
        Stored low = Does m input sections f p 0 units state (IsDone b state) none_waits (Got tt (means_stored a v s) units) low

        shape_stored : (shape : Shape) → shape_of t ≡ Some shape → Stored (lift (stored shape r value) b)
        shape_stored shape shaped =
            does_lift m input sections f p around units b s state Nothing (stored_left m input sections state (set state.variables x.number anew) state.buffers) (IsDone b state) none_waits tt (means_stored a v s) (stored shape r value) good (shape_acts shape shaped)
            (λ done later q inside_later extends. after_stored m input sections f p around are loose t sound_t b s state r a l good x inside v typed q.ids later inside_later q.ready q.keeps q.reached)

        -- ---- what is no scalar and no vector

        -- the id of its type is there already
        of_type : (low : ℕ → flow.Emit (Unit {0})) → shape_of t ≡ None → ((type : ℕ) → Stored (low type b)) → Stored (behind (type_id t b) low)
        unfolding type_id
        of_type low none does = subst (λ o. Stored (behind (type_by t o b) low)) (sym none) (by (find_type t b.place.composites))
          where
            by : (o : Option ℕ) → Stored (behind (id_at o b) low)
            by None = tt
            by (Some type) = does type

        -- by a pointer that is there
        put_there : (to : ℕ) → state.ids to ≡ Some (Points (InVariable x.number l.words)) → shape_of t ≡ None → Stored (putting_here op.STORE (to ∷ value ∷ []) b)
        unfolding all new
        put_there to to_there none =
            let w = whole_picked inside.whole t (l.front ++ l.words) l.picks a.path a.picked (none_shape t none) inside.picks in
            does_lift m input sections f p around units b s state Nothing (stored_left m input sections state (set state.variables x.number anew) state.buffers) (IsDone b state) none_waits tt (means_stored a v s) (putting op.STORE (to ∷ value ∷ [])) good
            (store_acts m input sections to value (InVariable x.number l.words) v (set state.variables x.number anew) state.buffers state b.sections to_there stands
            (subst (λ o. Stores m input state (InVariable x.number l.words) v (Having (renewed place o v)) state.buffers) (sym w.none) (puts v)))
            (λ done later q inside_later extends. after_stored m input sections f p around are loose t sound_t b s state r a l good x inside v typed q.ids later inside_later q.ready q.keeps q.reached)

    module _ (b : Flow) (s : shader.State) (units : ℕ) (state : State) (r : Reached) (good : Good m input sections f p around b s state) (is : IsOwnTrail m input sections f p around false loose b state r l) (stands : Stands state.ids value v) where
      -- a pointer to it is there, and nothing has changed
      record IsPointed (number : ℕ) (to : ℕ) (later : Flow) (one : Unit {0}) (u : shader.State) (last : State) : Type 0 where
        after : After m input sections f p around false b state later u last
        points_to : last.ids to ≡ Some (Points (InVariable number l.words))

      own_stored : (x : AtVariable m input sections f p around loose r.base l) → shape_of t ≡ None → Stored b s state r good is stands x units (store_own t x.id x.class r.path value b)
      own_stored x none = of_type b s state r good is stands x units (λ type. flow.◌>>=◌ (lift (pointer x.id x.class type r.path)) (λ to. putting_here op.STORE (to ∷ value ∷ []))) none
          (λ type.
          does_then m input sections f p 0 units b state (IsPointed x.number) none_waits (IsDone b state) none_waits (Got tt s units) (λ one u left. Got tt (means_stored a v u) left) (lift (pointer x.id x.class type r.path) b) (λ to. putting_here op.STORE (to ∷ value ∷ [])) good.inside
          (adds_lift (pointer x.id x.class type r.path) (λ b. always_pointer m input sections x.id x.class type r.path b.sections) b) (λ to. adds_put op.STORE (to ∷ value ∷ []))
          (does_lift m input sections f p around units b s state (λ given ids. ids given ≡ Some (Points (InVariable x.number l.words))) (drawing state state.choices) (IsPointed x.number) none_waits tt s (pointer x.id x.class type r.path) good
          (pointer_does m input sections x.id x.class type r.path l.words (InVariable x.number []) (InVariable x.number l.words) state b.sections (it_points b s state r good is stands x) (numbers_stand state.ids r.path l.words is.numbers) (it_leads b s state r good is stands x))
          (λ to later q within extends. record { after = after_step m input sections f p around (λ given ids. ids given ≡ Some (Points (InVariable x.number l.words))) b s state to later good within q; points_to = q.is }))
          (λ to between one u left mid within grown q less.
          does_so m input sections f p around 0 left mid (IsDone between mid) (IsDone b state) (Got tt (means_stored a v u) left) (putting_here op.STORE (to ∷ value ∷ []) between)
          (λ done later z w last h. after_then m input sections f p around false false b between later state mid last u w grown q.after h)
          (put_there between u mid r q.after.good (own_after m input sections f p around false loose b between state mid u r l grown q.after is) ((q.after.ids refl).same value _ stands) x left to q.points_to none))
          (λ to between u left mid within grown none less. absurd none))

      composite_stored : (x : AtVariable m input sections f p around loose r.base l) → shape_of t ≡ None → Stored b s state r good is stands x units (store_composite p.structs t r.base r.path value b)
      composite_stored x none = subst (λ base. Stored b s state r good is stands x units (store_composite p.structs t base r.path value b)) (sym x.is) (own_if (is_block_class x.class) x.outside)
        where
          own_if : (block : Bool) → block ≡ false → Stored b s state r good is stands x units ((if block then lift (store_block p.structs t x.id x.class r.path value) else store_own t x.id x.class r.path value) b)
          own_if true e = absurd cc
          own_if false e = own_stored x none

      -- a value is stored where the trail leads
      own_all : Does m input sections f p 0 units state (IsDone b state) none_waits (Got tt (means_stored a v s) units) (stores p.structs t r value b)
      unfolding stores
      own_all = by (shape_of t) refl
        where
          x : AtVariable m input sections f p around loose r.base l
          x = at_variable b state loose r l is (inside.named refl)

          by : (o : Option Shape) → shape_of t ≡ o → Does m input sections f p 0 units state (IsDone b state) none_waits (Got tt (means_stored a v s) units) (store_by p.structs t r value o b)
          by (Some shape) e = shape_stored b s state r good is stands x units shape e
          by None e = composite_stored x e

    -- a value is stored where the trail leads
    pub trail_stored : (b : Flow) (s : shader.State) (units : ℕ) (state : State) (r : Reached) → Good m input sections f p around b s state → IsOwnTrail m input sections f p around false loose b state r l → Stands state.ids value v
        → Does m input sections f p 0 units state (IsDone b state) none_waits (Got tt (means_stored a v s) units) (stores p.structs t r value b)
    trail_stored b s units state r good is stands = own_all b s units state r good is stands
