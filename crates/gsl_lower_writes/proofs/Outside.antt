-- What is stored where a trail leads out of bounds strays.
use Rattle.std.proofs.Common.{◌≡◌, refl, sym, ap, ◌∙◌, subst, inl, inr, ℕ, ◌≤◌, ◌⊎◌, Bool, true, false, List, [], ◌∷◌, ◌++◌, length, Option, Some, None, arith, if◌then◌else◌}
use Rattle.std.specs.Prelude.{◌==◌, slice_get}
use Rattle.std.proofs.lemmas.Bool.{eqb-true}
use Rattle.std.proofs.lemmas.List.{length-map}
use Rattle.gsl_base.specs.declared.input.Input.{Input}
use Rattle.gsl_instr.specs.declared.op.TheConstants as op
use Rattle.gsl_types.specs.Known.{AreStructs, IsSound}
use Rattle.gsl_types.specs.declared.ty.Ty.{Ty}
use Rattle.gsl_words.specs.declared.module.Module.{Module}
use Rattle.gsl_values.specs.declared.value.Value.{Value}
use Rattle.gsl_values.specs.declared.value.Value.TheVariants.{Word}
use Rattle.gsl_tree.specs.Around.{Around}
use Rattle.gsl_tree.specs.Operations.{value_at}
use Rattle.gsl_tree.specs.Paths.{repeats}
use Rattle.gsl_tree.specs.Shapes.{Shape, shape_of}
use Rattle.gsl_tree.specs.Values.{is_value_of, parts_in}
use Rattle.gsl_tree.specs.declared.program.Program.{Program}
use Rattle.gsl_typed_law.proofs.Parts.{value_typed}
use Rattle.gsl_meaning.specs.Running.{Strays}
use Rattle.gsl_meaning.specs.State as shader
use Rattle.gsl_machine.specs.State.{InVariable, Points, State}
use Rattle.gsl_spv.specs.Sections.{Sections}
use Rattle.gsl_lower_values.specs.Building.{given}
use Rattle.gsl_lower_places.specs.Pointed.{picks_several, pointed, to_renew}
use Rattle.gsl_lower_places.specs.Reached.{is_block_class}
use Rattle.gsl_lower_places.specs.Reading.{pointer}
use Rattle.gsl_lower_places.specs.Writing.{put_at, put_by, put_in, put_picked, stored}
use Rattle.gsl_lower_places.specs.declared.reached.Base.TheVariants.{Variable}
use Rattle.gsl_lower_places.specs.declared.reached.Part.{Part}
use Rattle.gsl_lower_places.specs.declared.reached.Picked.{Picked}
use Rattle.gsl_lower_places.specs.declared.reached.Reached.{Reached}
use Rattle.gsl_lower_law.specs.Straying.{Strays as StepStrays}
use Rattle.gsl_lower_law.specs.Values.{IsOf, Stands}
use Rattle.gsl_lower_law_places.specs.Components.{Chooses}
use Rattle.gsl_lower_law_places.specs.Leading.{LeadsTo, NumberEach, StraysFrom}
use Rattle.gsl_lower_law_places.proofs.Outside.{pointer_strays, put_strays}
use Rattle.gsl_lower_law_places.proofs.Reading.{numbers_on}
use Rattle.gsl_lower_law_places.proofs.Variables.{parts_are}
use Rattle.gsl_lower_law_picks.specs.Outside.{ArePositions as ArePositionsBy, CanPick, PicksOutside}
use Rattle.gsl_lower_law_picks.proofs.Along.{stray_on, words_lead, words_stray}
use Rattle.gsl_lower_law_picks.proofs.Pointed.{component_pointed_out, path_pointed_out, whole_pointed_out}
use Rattle.gsl_lower_law_picks.proofs.Unstored.{path_stored_out, stored_out}
use Rattle.gsl_lower_law_expr.proofs.Shapes.{value_shape}
use Rattle.gsl_lower_reads.proofs.OfLawNames.{variable_there}
use Rattle.gsl_lower_holders.specs.Flow as flow
use Rattle.gsl_lower_holders.specs.Flow.{Flow, behind, find_type, id_at, lift, putting_here, type_by, type_id}
use Rattle.gsl_lower_expr.specs.Parts.{store_block, store_by, store_composite, store_own, stores}
use Rattle.gsl_lower_follows.specs.Frames.{Frame, Good, HeldAs}
use Rattle.gsl_lower_follows.specs.Giving.{Adds, Does, none_waits}
use Rattle.gsl_lower_follows.proofs.Doing.{does_then, strays_lift}
use Rattle.gsl_lower_follows.proofs.Fetching.{adds_put}
use Rattle.gsl_lower_follows.proofs.Growing.{adds_lift}
use Rattle.gsl_lower_reads.proofs.OfElements.{none_shape}
use Rattle.gsl_lower_reads.specs.OfReaching.{At, AtVariable, ChoosesBy, IsOwnTrail, PicksBy, Start}
use Rattle.gsl_lower_reads.specs.OfReaching.{ArePositions, Chosen, IsMissing, IsOut, IsOutside, LacksComponent, LeadsOut, MayWrite, Trail}
use Rattle.gsl_lower_reads.proofs.OfReaching.{has_part, lacks_part}
use Rattle.gsl_lower_reads.proofs.OfReaching.{chooses_stand, numbers_stand}
use Rattle.gsl_lower_reads.proofs.OfReaching.{out_whole}
use Rattle.gsl_lower_reads.proofs.OfReaching.{HasValue, has_value}
use Rattle.gsl_lower_reads.proofs.Adding.{always_pointed, always_pointer}
use Rattle.gsl_lower_writes.proofs.Once.{few, single}
use Rattle.gsl_lower_writes.proofs.Stored.{at_variable}

-- a vector has as many parts as components
vector_count : (shape : Shape) (v : Value) → IsOf shape v → 2 ≤ shape.1 → length (parts_in v) ≡ shape.1
vector_count shape v is many = ap length (ap parts_in is.is ∙ parts_are is.words (omega (arith, many, is.count))) ∙ length-map is.words Word ∙ is.count

positions_by : (count : ℕ) (by : Option Part) (word : Option ℕ) (positions : List ℕ) (at : At) → ChoosesBy at by word → ArePositions count word positions → ArePositionsBy count by positions
positions_by count None None positions at chooses within = within
positions_by count None (Some word) positions at chooses within = absurd chooses
positions_by count (Some part) None positions at chooses within = absurd chooses
positions_by count (Some part) (Some word) positions at chooses within = within

module _ (m : Module) (input : Input) (sections : Sections) (f : Frame m input sections) (p : Program) (around : Around) (are : AreStructs p.structs) (loose : Start) (t : Ty) where
  module _ (b : Flow) (s : shader.State) (state : State) (r : Reached) (l : Trail) (good : Good m input sections f p around b s state) (is : IsOwnTrail m input sections f p around false loose b state r l) (outside : IsOutside p.structs p.blocks true t l) (x : AtVariable m input sections f p around loose r.base l) where
    has : HasValue m input sections f p around s loose r.base l x
    has = has_value m input sections f p around b s state loose r.base l x good

    was_there : slice_get state.variables x.number ≡ Some has.v
    was_there = variable_there m input sections f p around x.name x.number has.v b s state good x.seat has.is

    it_points : state.ids x.id ≡ Some (Points (InVariable x.number []))
    it_points = good.ready.lasting.same x.id _ x.points

    numbers : NumberEach state.ids r.path l.words
    numbers = numbers_stand state.ids r.path l.words is.numbers

    path_strays : LeadsOut p.structs l.ty l.words → StraysFrom m input state (InVariable x.number []) l.words
    path_strays out = words_stray m input state x.number has.v was_there [] l.words (lacks_part p.structs are l.ty l.words has.v out has.typed)

    component_out : (c : Chosen) (z : LacksComponent p.structs l.ty l.words c) → StraysFrom m input state (InVariable x.number l.words) (z.word ∷ [])
    component_out c z =
        let of = (value_shape p.structs z.whole c.shape (value_at has.v l.words) are z.sound z.of (value_typed p.structs are l.ty l.words z.whole has.v z.leads has.typed)).1 in
        let count = vector_count c.shape (value_at has.v l.words) of z.several in
        words_stray m input state x.number has.v was_there l.words (z.word ∷ []) (inl (let most = z.outside in omega (arith, count, most)))

    component_in : (c : Chosen) (z : LacksComponent p.structs l.ty l.words c) → LeadsTo m input state (InVariable x.number []) l.words (InVariable x.number l.words)
    component_in c z = words_lead m input state x.number has.v was_there [] l.words (has_part p.structs are l.ty l.words z.whole has.v z.leads has.typed)

    can : (q : Picked) (c : Chosen) → PicksBy (λ id v. HeldAs m input sections f false id v b state) (Some q) (Some c) → 1 ≤ length c.positions → ArePositions c.shape.1 c.word c.positions → CanPick q
    can q c picks some within = record {
      some = subst (λ ps. 1 ≤ length ps) (sym picks.1) some;
      within = positions_by q.shape.1 q.by c.word q.positions (λ id v. HeldAs m input sections f false id v b state) picks.2 (subst (λ (shape : Shape). ArePositions shape.1 c.word q.positions) (sym picks.0) (subst (ArePositions c.shape.1 c.word) (sym picks.1) within));
    }

    picks_out : (q : Picked) (c : Chosen) (y : IsMissing p.structs l.ty t l.words c) (z : LacksComponent p.structs l.ty l.words c) → PicksBy (λ id v. HeldAs m input sections f false id v b state) (Some q) (Some c) → PicksOutside state.ids q z.word
    picks_out q c y z picks = record {
      by_word = subst (Chooses state.ids q.by) z.is (chooses_stand state.ids q.by c.word picks.2);
      several = subst (λ (shape : Shape). 2 ≤ shape.1) (sym picks.0) z.several;
      outside = subst (λ (shape : Shape). shape.1 ≤ z.word) (sym picks.0) z.outside;
      can = can q c picks y.some y.within;
    }

    from_variable : (o : Option Picked) → r.picked ≡ o → r ≡ record { base = Variable x.id x.class; path = r.path; picked = o }
    from_variable o e = ap (λ base. record r { base = base }) x.is ∙ ap (λ o. record r { base = Variable x.id x.class; picked = o }) e

    -- one pointer strays as well
    variable_pointed : (shape : Shape) → StepStrays m input sections state b.sections (pointed shape r)
    variable_pointed shape = by r.picked refl l.picks is.picks outside.out
      where
        by : (o : Option Picked) → r.picked ≡ o → (c : Option Chosen) → PicksBy (λ id v. HeldAs m input sections f false id v b state) o c → IsOut p.structs l.ty t l.words c → StepStrays m input sections state b.sections (pointed shape r)
        by None e None picks out =
            subst (λ q. StepStrays m input sections state b.sections (pointed shape q)) (sym (from_variable None e)) (whole_pointed_out m input sections x.id x.class shape r.path l.words (InVariable x.number []) state b.sections it_points numbers (path_strays out))
        by None e (Some c) picks out = absurd picks
        by (Some q) e None picks out = absurd picks
        by (Some q) e (Some c) picks y = subst (λ z. StepStrays m input sections state b.sections (pointed shape z)) (sym (from_variable (Some q) e)) (by_out y.out)
          where
            by_out : LeadsOut p.structs l.ty l.words ⊎ LacksComponent p.structs l.ty l.words c → StepStrays m input sections state b.sections (pointed shape (record { base = Variable x.id x.class; path = r.path; picked = Some q }))
            by_out (inl out) = path_pointed_out m input sections x.id x.class r.path q l.words (InVariable x.number []) state b.sections it_points numbers shape c.word (path_strays out) (chooses_stand state.ids q.by c.word picks.2)
            by_out (inr z) = component_pointed_out m input sections x.id x.class r.path q l.words (InVariable x.number []) state b.sections it_points numbers shape (InVariable x.number l.words) z.word (component_in c z) (component_out c z) (picks_out q c y z picks)

    module _ (sound_t : IsSound (length p.structs) t) (value : ℕ) (v : Value) (typed : is_value_of p.structs t v ≡ true) (stands : Stands state.ids value v) where
      -- by a word one component is picked
      alone : (c : Chosen) (word : ℕ) → c.word ≡ Some word → ArePositions c.shape.1 c.word c.positions → repeats c.positions ≡ false → 1 ≤ length c.positions → length c.positions ≡ 1
      alone c word e within once some = single c.positions (subst (λ o. ArePositions c.shape.1 o c.positions) e within) once some

      -- behind an index out of bounds
      picked_strays : (shape : Shape) (q : Picked) (c : Chosen) → LeadsOut p.structs l.ty l.words → CanPick q → (by : Option Part) (word : Option ℕ) → q.by ≡ by → c.word ≡ word → Chooses state.ids by word → ArePositions q.shape.1 word q.positions → repeats q.positions ≡ false
          → IsOf (q.shape.0, length q.positions) v → StepStrays m input sections state b.sections (put_in (Variable x.id x.class) r.path shape value (Some q))
      unfolding stored put_picked
      picked_strays shape q c out can_pick None None e g chooses within once of =
          path_stored_out m input sections x.id x.class r.path q value l.words (InVariable x.number []) v state b.sections it_points numbers of stands (path_strays out) shape None (subst (λ by. Chooses state.ids by None) (sym e) tt) can_pick tt (few q.shape.1 q.positions within once)
      picked_strays shape q c out can_pick None (Some word) e g chooses within once of = absurd chooses
      picked_strays shape q c out can_pick (Some by) None e g chooses within once of = absurd chooses
      picked_strays shape q c out can_pick (Some by) (Some word) e g chooses within once of =
          subst (λ o. StepStrays m input sections state b.sections (if q.shape.1 == 1 then put_at x.id x.class q.shape r.path value else put_by x.id x.class q.shape o q.positions r.path value)) (sym e) (by_count (q.shape.1 == 1) refl)
        where
          one : length q.positions ≡ 1
          one = single q.positions within once can_pick.some

          by_count : (c : Bool) → (q.shape.1 == 1) ≡ c → StepStrays m input sections state b.sections (if c then put_at x.id x.class q.shape r.path value else put_at x.id x.class (q.shape.0, 1) (r.path ++ by ∷ []) value)
          by_count true e =
              let same : length q.positions ≡ q.shape.1 = one ∙ sym (eqb-true q.shape.1 1 e) in
              put_strays m input sections x.id x.class q.shape r.path value l.words (InVariable x.number []) v state b.sections it_points numbers (path_strays out) (subst (λ n. IsOf (q.shape.0, n) v) same of) stands
          by_count false e =
              put_strays m input sections x.id x.class (q.shape.0, 1) (r.path ++ by ∷ []) value (l.words ++ word ∷ []) (InVariable x.number []) v state b.sections it_points (numbers_on state.ids r.path (by ∷ []) l.words (word ∷ []) numbers (chooses, tt))
              (stray_on m input state (InVariable x.number []) l.words (word ∷ []) (path_strays out)) (subst (λ n. IsOf (q.shape.0, n) v) one of) stands

      place_strays : (shape : Shape) → shape_of t ≡ Some shape → (o : Option Picked) (c : Option Chosen) → l.picks ≡ c → PicksBy (λ id v. HeldAs m input sections f false id v b state) o c → IsOut p.structs l.ty t l.words c → StepStrays m input sections state b.sections (put_in (Variable x.id x.class) r.path shape value o)
      unfolding stored
      place_strays shape shaped None None e picks out =
          put_strays m input sections x.id x.class shape r.path value l.words (InVariable x.number []) v state b.sections it_points numbers (path_strays out) (value_shape p.structs t shape v are sound_t shaped typed).1 stands
      place_strays shape shaped None (Some c) e picks out = absurd picks
      place_strays shape shaped (Some q) None e picks out = absurd picks
      place_strays shape shaped (Some q) (Some c) e picks y = by y.out
        where
          once : repeats c.positions ≡ false
          once = subst (MayWrite true) e outside.may refl

          of : IsOf (q.shape.0, length q.positions) v
          of = subst (λ (shape : Shape). IsOf (shape.0, length q.positions) v) (sym picks.0) (subst (λ ps. IsOf (c.shape.0, length ps) v) (sym picks.1) (value_shape p.structs t (c.shape.0, length c.positions) v are sound_t y.gives typed).1)

          by : LeadsOut p.structs l.ty l.words ⊎ LacksComponent p.structs l.ty l.words c → StepStrays m input sections state b.sections (put_in (Variable x.id x.class) r.path shape value (Some q))
          by (inl out) =
              picked_strays shape q c out (can q c picks y.some y.within) q.by c.word refl refl (chooses_stand state.ids q.by c.word picks.2)
              (subst (λ (shape : Shape). ArePositions shape.1 c.word q.positions) (sym picks.0) (subst (ArePositions c.shape.1 c.word) (sym picks.1) y.within)) (subst (λ ps. repeats ps ≡ false) (sym picks.1) once) of
          by (inr z) =
              stored_out m input sections x.id x.class r.path q value l.words (InVariable x.number []) v state b.sections it_points numbers of stands shape (InVariable x.number l.words) z.word (component_in c z) (component_out c z) (picks_out q c y z picks)
              (ap length picks.1 ∙ alone c z.word z.is y.within once y.some)

      shape_strays : (shape : Shape) → shape_of t ≡ Some shape → StepStrays m input sections state b.sections (stored shape r value)
      unfolding stored
      shape_strays shape shaped = subst (λ base. StepStrays m input sections state b.sections (put_in base r.path shape value r.picked)) (sym x.is) (place_strays shape shaped r.picked l.picks refl is.picks outside.out)

      module _ {R : Type 0} (units : ℕ) (Then : Unit {0} → Flow → R → shader.State → State → Type 0) where
        abbrev Out : flow.Lowered (Unit {0}) → Type 0
        Out low = Does m input sections f p 0 units state Then none_waits Strays low

        of_type : (low : ℕ → flow.Emit (Unit {0})) → shape_of t ≡ None → ((type : ℕ) → Out (low type b)) → Out (behind (type_id t b) low)
        unfolding type_id
        of_type low none does = subst (λ o. Out (behind (type_by t o b) low)) (sym none) (by (find_type t b.place.composites))
          where
            by : (o : Option ℕ) → Out (behind (id_at o b) low)
            by None = tt
            by (Some type) = does type

        own_strays : shape_of t ≡ None → Out (store_own t x.id x.class r.path value b)
        own_strays none = of_type (λ type. flow.◌>>=◌ (lift (pointer x.id x.class type r.path)) (λ to. putting_here op.STORE (to ∷ value ∷ []))) none
            (λ type.
            does_then m input sections f p 0 units b state (λ a later (one : Unit {0}) u last. ⊥) none_waits Then none_waits Strays (λ one u left. Strays) (lift (pointer x.id x.class type r.path) b) (λ to. putting_here op.STORE (to ∷ value ∷ [])) good.inside
            (adds_lift (pointer x.id x.class type r.path) (λ b. always_pointer m input sections x.id x.class type r.path b.sections) b) (λ to. adds_put op.STORE (to ∷ value ∷ []))
            (strays_lift m input sections f p around units b s state (λ a later (one : Unit {0}) u last. ⊥) none_waits (pointer x.id x.class type r.path) good
            (pointer_strays m input sections x.id x.class type r.path l.words (InVariable x.number []) state b.sections it_points numbers (path_strays (out_whole p.structs l.ty t l.words l.picks (none_shape t none) outside.out).1)))
            (λ to between one u left mid within grown q less. absurd q)
            (λ to between u left mid within grown none less. absurd none))

        composite_strays : shape_of t ≡ None → Out (store_composite p.structs t r.base r.path value b)
        composite_strays none = subst (λ base. Out (store_composite p.structs t base r.path value b)) (sym x.is) (own_if (is_block_class x.class) x.outside)
          where
            own_if : (block : Bool) → block ≡ false → Out ((if block then lift (store_block p.structs t x.id x.class r.path value) else store_own t x.id x.class r.path value) b)
            own_if true e = absurd cc
            own_if false e = own_strays none

        variable_strays : Out (stores p.structs t r value b)
        unfolding stores
        variable_strays = by (shape_of t) refl
          where
            by : (o : Option Shape) → shape_of t ≡ o → Out (store_by p.structs t r value o b)
            by (Some shape) e = strays_lift m input sections f p around units b s state Then none_waits (stored shape r value) good (shape_strays shape e)
            by None e = composite_strays e

  -- a store strays where the trail leads out of bounds
  pub store_strays : (sound_t : IsSound (length p.structs) t) (value : ℕ) (v : Value) (typed : is_value_of p.structs t v ≡ true) {R : Type 0} (units : ℕ) (b : Flow) (s : shader.State) (state : State) (r : Reached) (l : Trail) (Then : Unit {0} → Flow → R → shader.State → State → Type 0)
      → Good m input sections f p around b s state → IsOwnTrail m input sections f p around false loose b state r l → IsOutside p.structs p.blocks true t l → Stands state.ids value v → Does m input sections f p 0 units state Then none_waits Strays (stores p.structs t r value b)
  store_strays sound_t value v typed units b s state r l Then good is outside stands = variable_strays b s state r l good is outside (at_variable m input sections f p around b state loose r l is (outside.named refl)) sound_t value v typed stands units Then

  pub pointed_strays : {R : Type 0} (shape : Shape) (units : ℕ) (b : Flow) (s : shader.State) (state : State) (r : Reached) (l : Trail) (Then : Reached → Flow → R → shader.State → State → Type 0)
      → Good m input sections f p around b s state → IsOwnTrail m input sections f p around false loose b state r l → IsOutside p.structs p.blocks true t l → Does m input sections f p 0 units state Then none_waits Strays (lift (pointed shape r) b)
  pointed_strays shape units b s state r l Then good is outside = strays_lift m input sections f p around units b s state Then none_waits (pointed shape r) good (variable_pointed b s state r l good is outside (at_variable m input sections f p around b state loose r l is (outside.named refl)) shape)

  -- so does what is made ready to be read and stored, or what is read of it
  pub renewed_strays : {A R : Type 0} (shape : Shape) (units : ℕ) (b : Flow) (s : shader.State) (state : State) (r : Reached) (l : Trail) (next : Reached → flow.Emit A) (Then : A → Flow → R → shader.State → State → Type 0)
      → Good m input sections f p around b s state → IsOwnTrail m input sections f p around false loose b state r l → IsOutside p.structs p.blocks true t l → ((to : Reached) → Adds (next to)) → Does m input sections f p 0 units state Then none_waits Strays (next r b)
      → Does m input sections f p 0 units state Then none_waits Strays (flow.◌>>=◌ (lift (to_renew shape r)) next b)
  unfolding to_renew
  renewed_strays {A} {R} shape units b s state r l next Then good is outside adds strays = by (picks_several r.picked)
    where
      by : (several : Bool) → Does m input sections f p 0 units state Then none_waits Strays (flow.◌>>=◌ (lift (if several then given r else pointed shape r)) next b)
      by true = strays
      by false =
          does_then m input sections f p 0 units b state (λ (to : Reached) later (one : R) u last. ⊥) none_waits Then none_waits Strays (λ one u left. Strays) (lift (pointed shape r) b) next good.inside
          (adds_lift (pointed shape r) (λ b. always_pointed m input sections shape r b.sections) b) adds
          (pointed_strays shape units b s state r l (λ (to : Reached) later (one : R) u last. ⊥) good is outside)
          (λ to between one u left mid within grown none less. absurd none)
          (λ to between u left mid within grown none less. absurd none)
