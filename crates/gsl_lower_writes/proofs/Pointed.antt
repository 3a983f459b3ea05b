-- One pointer to where a trail leads serves what is read there and what is stored.
use Rattle.std.proofs.Common.{◌≡◌, refl, sym, ap, ◌∙◌, subst, ℕ, ◌≤◌, Bool, true, false, if◌then◌else◌, [], ◌∷◌, ◌++◌, length, Option, Some, None}
use Rattle.std.specs.Prelude.{set, slice_get}
use Rattle.std.proofs.lemmas.Bool.{true≢false}
use Rattle.gsl_base.specs.declared.input.Input.{Input}
use Rattle.gsl_types.specs.Known.{AreStructs, IsSound}
use Rattle.gsl_types.specs.declared.ty.Ty.{Ty}
use Rattle.gsl_words.specs.declared.module.Module.{Module}
use Rattle.gsl_values.specs.declared.value.Value.{Value}
use Rattle.gsl_tree.specs.Around.{Around}
use Rattle.gsl_tree.specs.Operations.{with_value_at}
use Rattle.gsl_tree.specs.Shapes.{Shape, shape_of}
use Rattle.gsl_tree.specs.Values.{is_value_of}
use Rattle.gsl_tree.specs.declared.program.Program.{Program}
use Rattle.gsl_meaning.specs.Accesses.{Access, read as means_read}
use Rattle.gsl_meaning.specs.Running.{Got}
use Rattle.gsl_meaning.specs.State as shader
use Rattle.gsl_machine.specs.Memory.{with_variable}
use Rattle.gsl_machine.specs.State.{Ids, InVariable, State, on}
use Rattle.gsl_spv.specs.Sections.{Sections}
use Rattle.gsl_lower_values.specs.Building.{Step, given}
use Rattle.gsl_lower_places.specs.Pointed.{picks_several, pointed, to_renew}
use Rattle.gsl_lower_places.specs.Reached.{stored_shape}
use Rattle.gsl_lower_places.specs.Reading.{read}
use Rattle.gsl_lower_places.specs.Writing.{stored}
use Rattle.gsl_lower_places.specs.declared.reached.Base.TheVariants.{Variable}
use Rattle.gsl_lower_places.specs.declared.reached.Part.{Part}
use Rattle.gsl_lower_places.specs.declared.reached.Picked.{Picked}
use Rattle.gsl_lower_places.specs.declared.reached.Reached.{Reached}
use Rattle.gsl_lower_law.specs.Computing.{Acts, Computes, drawing}
use Rattle.gsl_lower_law.specs.Computing as law
use Rattle.gsl_lower_law.specs.Operands.{converted_value}
use Rattle.gsl_lower_law.specs.Values.{IsOf, Keeps, Stands}
use Rattle.gsl_lower_law.proofs.Joining.{given_does}
use Rattle.gsl_lower_law_places.specs.Components.{Chooses, HoldsComponents, Picks, picks_of}
use Rattle.gsl_lower_law_places.specs.Leading.{NumberEach}
use Rattle.gsl_lower_law_places.specs.Storing.{AreStored, Stores, goes_to, with_components}
use Rattle.gsl_lower_law_places.proofs.Chains.{still_number}
use Rattle.gsl_lower_law_places.proofs.Kept.{lies_same, variables_stored}
use Rattle.gsl_lower_law_places.proofs.Loads.{loaded_computes}
use Rattle.gsl_lower_law_places.proofs.Reading.{variables_read}
use Rattle.gsl_lower_law_places.proofs.Stored.{Nothing, put_acts, stored_left}
use Rattle.gsl_lower_law_places.proofs.Variables.{variable_components}
use Rattle.gsl_lower_law_picks.specs.Serving.{IsAt, Serves}
use Rattle.gsl_lower_law_picks.proofs.Pointed.{pointed_serves, whole_pointed}
use Rattle.gsl_lower_reads.proofs.OfLawNames.{outside_blocks, value_as_it_is}
use Rattle.gsl_lower_holders.specs.Flow.{Flow, lift}
use Rattle.gsl_lower_follows.specs.Frames.{Frame, Good, HeldAs}
use Rattle.gsl_lower_follows.specs.Giving.{After, Does, none_waits}
use Rattle.gsl_lower_follows.proofs.Doing.{does_lift}
use Rattle.gsl_lower_reads.proofs.OfElements.{after_step}
use Rattle.gsl_lower_reads.specs.OfReaching.{AtVariable, Begins, IsOwnTrail, PicksBy, Start}
use Rattle.gsl_lower_reads.specs.OfReaching.{variable}
use Rattle.gsl_lower_reads.specs.OfReaching.{Chosen, IsInside, IsPicked, Trail}
use Rattle.gsl_lower_reads.proofs.OfReaching.{numbers_stand}
use Rattle.gsl_lower_reads.proofs.Found.{found_picked, found_whole, read_found}
use Rattle.gsl_lower_writes.proofs.Once.{are_few, are_stored}
use Rattle.gsl_lower_writes.proofs.Picked.{renewed}
use Rattle.gsl_lower_writes.proofs.Renewed.{all, at_part, leads, new, new_shape, old, once, part, part_shape, points, there, whole_shape}
use Rattle.gsl_lower_writes.proofs.Stored.{picks_stand}

some_same : {A : Type 0} {a b : A} → Some a ≡ Some b → a ≡ b
some_same e = cc

module _ (m : Module) (input : Input) (sections : Sections) (f : Frame m input sections) (p : Program) (around : Around) (are : AreStructs p.structs) (loose : Start) (t : Ty) (sound_t : IsSound (length p.structs) t) (shape : Shape) (shaped : shape_of t ≡ Some shape) (r : Reached) (a : Access) (l : Trail)
    (x : AtVariable m input sections f p around loose r.base l) (inside : IsInside p.structs p.blocks true t a l) where
  -- Whenever ids still stand for the same, what was given reads what the access does, and what is stored there stands there for the shader too.
  pub record ServesPlace (to : Reached) (ids : Ids) : Type 0 where
    pub reads : (b : Flow) (s : shader.State) (state : State) → Good m input sections f p around b s state → Keeps ids state.ids → Computes m input sections (means_read p.structs t a s, state.choices) state b.sections (read shape to)
    pub stores : (b : Flow) (s : shader.State) (state : State) (value : ℕ) (v : Value) (typed : is_value_of p.structs t v ≡ true) (good : Good m input sections f p around b s state) → Keeps ids state.ids → Stands state.ids value v
        → Acts m input sections Nothing (stored_left m input sections state (set state.variables x.number (all m input sections f p around are loose t sound_t b s state r a l good x inside v typed)) state.buffers) state b.sections (stored shape to value)

  module _ (b : Flow) (s : shader.State) (state : State) (good : Good m input sections f p around b s state) where
    abbrev was : Value
    was = old m input sections f p around are loose t sound_t b s state r a l good x inside

    abbrev place : Value
    place = part m input sections f p around are loose t sound_t b s state r a l good x inside

    was_there : slice_get state.variables x.number ≡ Some was
    was_there = there m input sections f p around are loose t sound_t b s state r a l good x inside

    begins : Begins m input sections f p around (λ id v. HeldAs m input sections f false id v b state) b.place.used state loose r.base r.path l
    begins = variable x

    holds : (held : Shape) → IsOf held place → HoldsComponents m input state (InVariable x.number l.words) place
    unfolding part
    holds held of = variable_components m input state x.number l.words was place held was_there refl of

    -- what the access reads there
    read_whole : l.picks ≡ None → (same : inside.whole ≡ t) → a.path ≡ l.front ++ l.words → a.picked ≡ None → means_read p.structs t a s ≡ place
    unfolding begins
    read_whole none same path unpicked =
        read_found m input sections f p around are (λ id v. HeldAs m input sections f false id v b state) b.place.used b s state state loose true r.base r.path t a l good begins inside
        ∙ found_whole m input sections f p around are (λ id v. HeldAs m input sections f false id v b state) b.place.used b s state state loose true r.base r.path t a l good begins inside same path unpicked
        ∙ at_part m input sections f p around are loose t sound_t b s state r a l good x inside

    read_picked : (c : Chosen) → IsPicked inside.whole t (l.front ++ l.words) (Some c) a.path a.picked → means_read p.structs t a s ≡ picks_of place c.word c.positions
    unfolding begins
    read_picked c y =
        read_found m input sections f p around are (λ id v. HeldAs m input sections f false id v b state) b.place.used b s state state loose true r.base r.path t a l good begins inside
        ∙ found_picked m input sections f p around are (λ id v. HeldAs m input sections f false id v b state) b.place.used b s state state loose true r.base r.path t a l good begins inside c y
        ∙ ap (λ w. picks_of w c.word c.positions) (at_part m input sections f p around are loose t sound_t b s state r a l good x inside)

    -- ---- the whole

    module _ (to : Reached) (ids : Ids) (at : IsAt x.class (InVariable x.number l.words) None to ids) (keeps : Keeps ids state.ids) (none : l.picks ≡ None) (same : inside.whole ≡ t) (path : a.path ≡ l.front ++ l.words) (unpicked : a.picked ≡ None) where
      whole_read : Computes m input sections (means_read p.structs t a s, state.choices) state b.sections (read shape to)
      unfolding read
      whole_read =
          let of = whole_shape m input sections f p around are loose t sound_t b s state r a l good x inside shape shaped same in
          subst (λ r. Computes m input sections (means_read p.structs t a s, state.choices) state b.sections (read shape r)) (sym at.is)
          (subst (λ w. Computes m input sections (w, state.choices) state b.sections (read shape (record { base = Variable at.id x.class; path = []; picked = None }))) (value_as_it_is shape place of ∙ sym (read_whole none same path unpicked))
          (loaded_computes m input sections at.id x.class shape [] [] (InVariable x.number l.words) (InVariable x.number l.words) place state b.sections (keeps.same at.id _ at.points) tt (λ place go. refl) (holds shape of).all
          (subst (λ lying. IsOf lying place) (sym (outside_blocks x.class shape x.outside)) of)))

      whole_stored : (value : ℕ) (v : Value) (typed : is_value_of p.structs t v ≡ true) → Stands state.ids value v
          → Acts m input sections Nothing (stored_left m input sections state (set state.variables x.number (all m input sections f p around are loose t sound_t b s state r a l good x inside v typed)) state.buffers) state b.sections (stored shape to value)
      unfolding stored all new
      whole_stored value v typed stands =
          let of = new_shape m input sections f p around are loose t sound_t b s state r a l good x inside v typed shape shaped in
          subst (λ r. Acts m input sections Nothing (stored_left m input sections state (set state.variables x.number (with_value_at was l.words (renewed place l.picks v))) state.buffers) state b.sections (stored shape r value)) (sym at.is)
          (subst (λ o. Acts m input sections Nothing (stored_left m input sections state (set state.variables x.number (with_value_at was l.words (renewed place o v))) state.buffers) state b.sections (stored shape (record { base = Variable at.id x.class; path = []; picked = None }) value)) (sym none)
          (put_acts m input sections at.id x.class shape [] value [] (InVariable x.number l.words) (InVariable x.number l.words) v (set state.variables x.number (with_value_at was l.words v)) state.buffers state b.sections (keeps.same at.id _ at.points) tt (λ place go. refl) of stands
          (subst (λ w. Stores m input state (InVariable x.number l.words) w (set state.variables x.number (with_value_at was l.words v)) state.buffers) (sym (lies_same x.class shape v x.outside of))
          (λ ids choices rest go. ap (λ o. on o (λ old. go (with_variable (record state { ids = ids; choices = choices; rest = rest }) x.number (with_value_at old l.words v)))) was_there))))

    -- ---- components

    module _ (q : Picked) (c : Chosen) (is_shape : q.shape ≡ c.shape) (is_positions : q.positions ≡ c.positions) (chosen : l.picks ≡ Some c) (y : IsPicked inside.whole t (l.front ++ l.words) (Some c) a.path a.picked) where
      place_of : IsOf q.shape place
      place_of = subst (λ s. IsOf s place) (sym is_shape) (part_shape m input sections f p around are loose t sound_t b s state r a l good x inside c y)

      place_holds : HoldsComponents m input state (InVariable x.number l.words) place
      place_holds = holds q.shape place_of

      place_lies : IsOf (stored_shape x.class q.shape) place
      place_lies = subst (λ lying. IsOf lying place) (sym (outside_blocks x.class q.shape x.outside)) place_of

      given_shape : (q.shape.0, length q.positions) ≡ shape
      given_shape = ap (λ (s : Shape). (s.0, length q.positions)) is_shape ∙ ap (λ ps. (c.shape.0, length ps)) is_positions ∙ some_same (sym y.gives ∙ shaped)

      -- what is picked of the place
      abbrev IsRead : Reached → Type 0
      IsRead to = Computes m input sections (picks_of (converted_value q.shape.0 place) c.word q.positions, state.choices) state b.sections (read (q.shape.0, length q.positions) to)

      -- the place with other components
      abbrev IsStored : Reached → ℕ → Value → Type 0
      IsStored to value v = Acts m input sections Nothing (record { choices = state.choices; variables = set state.variables x.number (with_value_at was l.words (with_components place (goes_to c.word q.positions) v)); buffers = state.buffers }) state b.sections (stored (q.shape.0, length q.positions) to value)

      picked_read : (to : Reached) → IsRead to → Computes m input sections (means_read p.structs t a s, state.choices) state b.sections (read shape to)
      picked_read to reads =
          subst (λ s2. Computes m input sections (means_read p.structs t a s, state.choices) state b.sections (read s2 to)) given_shape
          (subst (λ w. Computes m input sections (w, state.choices) state b.sections (read (q.shape.0, length q.positions) to))
          (ap (λ w. picks_of w c.word q.positions) (value_as_it_is q.shape place place_of) ∙ ap (picks_of place c.word) is_positions ∙ sym (read_picked c y)) reads)

      picked_stored : (to : Reached) (value : ℕ) (v : Value) (typed : is_value_of p.structs t v ≡ true) → (IsOf (q.shape.0, length q.positions) v → IsStored to value v)
          → Acts m input sections Nothing (stored_left m input sections state (set state.variables x.number (all m input sections f p around are loose t sound_t b s state r a l good x inside v typed)) state.buffers) state b.sections (stored shape to value)
      unfolding all new part
      picked_stored to value v typed stores =
          let of = new_shape m input sections f p around are loose t sound_t b s state r a l good x inside v typed shape shaped in
          subst (λ o. Acts m input sections Nothing (stored_left m input sections state (set state.variables x.number (with_value_at was l.words (renewed place o v))) state.buffers) state b.sections (stored shape to value)) (sym chosen)
          (subst (λ ps. Acts m input sections Nothing (stored_left m input sections state (set state.variables x.number (with_value_at was l.words (renewed place (Some (record c { positions = ps })) v))) state.buffers) state b.sections (stored shape to value)) is_positions
          (subst (λ s2. Acts m input sections Nothing (stored_left m input sections state (set state.variables x.number (with_value_at was l.words (renewed place (Some (record c { positions = q.positions })) v))) state.buffers) state b.sections (stored s2 to value)) given_shape
          (stores (subst (λ s2. IsOf s2 v) (sym given_shape) of))))

  whole_serves : (to : Reached) (ids : Ids) → IsAt x.class (InVariable x.number l.words) None to ids → l.picks ≡ None → inside.whole ≡ t → a.path ≡ l.front ++ l.words → a.picked ≡ None → ServesPlace to ids
  whole_serves to ids at none same path unpicked = record {
    reads = λ b s state good keeps. whole_read b s state good to ids at keeps none same path unpicked;
    stores = λ b s state value v typed good keeps stands. whole_stored b s state good to ids at keeps none same path unpicked value v typed stands;
  }

  picked_serves : (q : Picked) (c : Chosen) → q.shape ≡ c.shape → q.positions ≡ c.positions → l.picks ≡ Some c → IsPicked inside.whole t (l.front ++ l.words) (Some c) a.path a.picked → (to : Reached) (ids : Ids)
      → Serves m input sections x.class q c.word (InVariable x.number l.words) to ids → ServesPlace to ids
  unfolding part
  picked_serves q c is_shape is_positions chosen y to ids serves = record {
    reads = λ b s state good keeps. picked_read b s state good q c is_shape is_positions chosen y to
        (serves.reads state b.sections (place b s state good) keeps (place_holds b s state good q c is_shape is_positions chosen y) (place_lies b s state good q c is_shape is_positions chosen y));
    stores = λ b s state value v typed good keeps stands. picked_stored b s state good q c is_shape is_positions chosen y to value v typed
        (λ of. serves.stores state b.sections x.number l.words (was b s state good) (place b s state good) v value keeps x.outside refl (was_there b s state good) refl (place_of b s state good q c is_shape is_positions chosen y) of stands);
  }

  -- a pointer to it serves, and nothing else has changed
  pub record IsServed (b : Flow) (s : shader.State) (state : State) (to : Reached) (later : Flow) (one : Unit {0}) (u : shader.State) (last : State) : Type 0 where
    pub after : After m input sections f p around false b state later u last
    pub still : u ≡ s
    pub serves : ServesPlace to last.ids

  module _ (b : Flow) (s : shader.State) (units : ℕ) (state : State) (good : Good m input sections f p around b s state) (is : IsOwnTrail m input sections f p around false loose b state r l) where
    abbrev to_place : Value
    to_place = part m input sections f p around are loose t sound_t b s state r a l good x inside

    served : {Is : Reached → Ids → Type 0} (step : Step Reached) → law.Does m input sections Is state.choices state b.sections step → ((to : Reached) (ids : Ids) → Is to ids → ServesPlace to ids) → Does m input sections f p 0 units state (IsServed b s state) none_waits (Got tt s units) (lift step b)
    served {Is} step does so =
        does_lift m input sections f p around units b s state Is (drawing state state.choices) (IsServed b s state) none_waits tt s step good does
        (λ to later q within extends. record { after = after_step m input sections f p around Is b s state to later good within q; still = refl; serves = so to q.ids q.is })

    from_variable : (o : Option Picked) → r.picked ≡ o → r ≡ record { base = Variable x.id x.class; path = r.path; picked = o }
    from_variable o e = ap (λ base. record r { base = base }) x.is ∙ ap (λ o. record r { base = Variable x.id x.class; picked = o }) e

    pub place_pointed : Does m input sections f p 0 units state (IsServed b s state) none_waits (Got tt s units) (lift (pointed shape r) b)
    unfolding pointed part
    place_pointed = by r.picked refl l.picks refl is.picks inside.picks
      where
        by : (o : Option Picked) → r.picked ≡ o → (c : Option Chosen) → l.picks ≡ c → PicksBy (λ id v. HeldAs m input sections f false id v b state) o c → IsPicked inside.whole t (l.front ++ l.words) c a.path a.picked → Does m input sections f p 0 units state (IsServed b s state) none_waits (Got tt s units) (lift (pointed shape r) b)
        by None e None g picks (same, path, unpicked) =
            served {Is = λ to ids. IsAt x.class (InVariable x.number l.words) None to ids} (pointed shape r)
            (subst (λ q. law.Does m input sections (λ to ids. IsAt x.class (InVariable x.number l.words) None to ids) state.choices state b.sections (pointed shape q)) (sym (from_variable None e))
            (whole_pointed m input sections x.id x.class shape r.path l.words (InVariable x.number []) (InVariable x.number l.words) state b.sections (points m input sections f p around are loose t sound_t b s state r a l good x inside) (numbers_stand state.ids r.path l.words is.numbers)
            (leads m input sections f p around are loose t sound_t b s state r a l good x inside)))
            (λ to ids at. whole_serves to ids at g same path unpicked)
        by None e (Some c) g picks y = absurd picks
        by (Some q) e None g picks y = absurd picks
        by (Some q) e (Some c) g picks y =
            let alone = once m input sections f p around are loose t sound_t b s state r a l good x inside c g in
            let of : IsOf q.shape to_place = subst (λ s. IsOf s to_place) (sym picks.0) (part_shape m input sections f p around are loose t sound_t b s state r a l good x inside c y) in
            served {Is = λ to ids. Serves m input sections x.class q c.word (InVariable x.number l.words) to ids} (pointed shape r)
            (subst (λ z. law.Does m input sections (λ to ids. Serves m input sections x.class q c.word (InVariable x.number l.words) to ids) state.choices state b.sections (pointed shape z)) (sym (from_variable (Some q) e))
            (pointed_serves m input sections x.id x.class r.path q c.word l.words (InVariable x.number []) (InVariable x.number l.words) to_place state b.sections (points m input sections f p around are loose t sound_t b s state r a l good x inside) (numbers_stand state.ids r.path l.words is.numbers)
            (leads m input sections f p around are loose t sound_t b s state r a l good x inside)
            (variable_components m input state x.number l.words (old m input sections f p around are loose t sound_t b s state r a l good x inside) to_place q.shape (there m input sections f p around are loose t sound_t b s state r a l good x inside) refl of)
            (subst (λ lying. IsOf lying to_place) (sym (outside_blocks x.class q.shape x.outside)) of)
            (picks_stand m input sections f p around b state q c picks y.some y.within)
            (subst (AreStored c.word) (sym picks.1) (are_stored c.shape.1 c.word c.positions y.within alone y.some))
            (subst (λ (shape : Shape). length q.positions ≤ shape.1) (sym picks.0) (subst (λ ps. length ps ≤ c.shape.1) (sym picks.1) (are_few c.shape.1 c.word c.positions y.within alone y.some))) shape))
            (λ to ids serves. picked_serves q c picks.0 picks.1 g y to ids serves)

    -- ---- several components, which have no pointer

    module _ (q : Picked) (c : Chosen) (picks : PicksBy (λ id v. HeldAs m input sections f false id v b state) (Some q) (Some c)) (y : IsPicked inside.whole t (l.front ++ l.words) (Some c) a.path a.picked) (later : Ids) (keeps : Keeps state.ids later) where
      numbers_later : NumberEach later r.path l.words
      numbers_later = still_number state.ids later keeps r.path l.words (numbers_stand state.ids r.path l.words is.numbers)

      picks_later : Picks later q c.word
      picks_later = let now = picks_stand m input sections f p around b state q c picks y.some y.within in record { by_word = chooses_later q.by c.word now.by_word; some = now.some; within = now.within }
        where
          chooses_later : (by : Option Part) (word : Option ℕ) → Chooses state.ids by word → Chooses later by word
          chooses_later None None chooses = tt
          chooses_later None (Some word) chooses = absurd chooses
          chooses_later (Some part) None chooses = absurd chooses
          chooses_later (Some part) (Some word) chooses = (still_number state.ids later keeps (part ∷ []) (word ∷ []) (chooses, tt)).0

    own_serves : (q : Picked) (c : Chosen) → r.picked ≡ Some q → l.picks ≡ Some c → PicksBy (λ id v. HeldAs m input sections f false id v b state) (Some q) (Some c) → IsPicked inside.whole t (l.front ++ l.words) (Some c) a.path a.picked → ServesPlace r state.ids
    unfolding part
    own_serves q c e g picks y = record {
      reads = λ b2 s2 state2 good2 keeps.
          picked_read b2 s2 state2 good2 q c picks.0 picks.1 g y r
          (subst (λ z. Computes m input sections (picks_of (converted_value q.shape.0 (place b2 s2 state2 good2)) c.word q.positions, state2.choices) state2 b2.sections (read (q.shape.0, length q.positions) z)) (sym (from_variable (Some q) e))
          (variables_read m input sections x.id x.class r.path q l.words (InVariable x.number []) (InVariable x.number l.words) (place b2 s2 state2 good2) state2 b2.sections (points m input sections f p around are loose t sound_t b2 s2 state2 r a l good2 x inside)
          (numbers_later q c picks y state2.ids keeps) (leads m input sections f p around are loose t sound_t b2 s2 state2 r a l good2 x inside) (place_holds b2 s2 state2 good2 q c picks.0 picks.1 g y) (place_lies b2 s2 state2 good2 q c picks.0 picks.1 g y)
          (q.shape.0, length q.positions) c.word (picks_later q c picks y state2.ids keeps)));
      stores = λ b2 s2 state2 value v typed good2 keeps stands.
          let alone = once m input sections f p around are loose t sound_t b s state r a l good x inside c g in
          picked_stored b2 s2 state2 good2 q c picks.0 picks.1 g y r value v typed
          (λ of. subst (λ z. IsStored b2 s2 state2 good2 q c picks.0 picks.1 g y z value v) (sym (from_variable (Some q) e))
          (variables_stored m input sections x.id x.class r.path q l.words (InVariable x.number []) x.number l.words (was b2 s2 state2 good2) (place b2 s2 state2 good2) v value state2 b2.sections x.outside (points m input sections f p around are loose t sound_t b2 s2 state2 r a l good2 x inside)
          (numbers_later q c picks y state2.ids keeps) (leads m input sections f p around are loose t sound_t b2 s2 state2 r a l good2 x inside) (was_there b2 s2 state2 good2) refl (place_of b2 s2 state2 good2 q c picks.0 picks.1 g y) of stands
          (q.shape.0, length q.positions) c.word (picks_later q c picks y state2.ids keeps)
          (subst (AreStored c.word) (sym picks.1) (are_stored c.shape.1 c.word c.positions y.within alone y.some))
          (subst (λ (shape : Shape). length q.positions ≤ shape.1) (sym picks.0) (subst (λ ps. length ps ≤ c.shape.1) (sym picks.1) (are_few c.shape.1 c.word c.positions y.within alone y.some)))));
    }

    -- what is made ready to be read and stored serves
    pub place_renewed : Does m input sections f p 0 units state (IsServed b s state) none_waits (Got tt s units) (lift (to_renew shape r) b)
    unfolding to_renew
    place_renewed = by (picks_several r.picked) refl
      where
        as_it_is : (o : Option Picked) → r.picked ≡ o → picks_several o ≡ true → (c : Option Chosen) → l.picks ≡ c → PicksBy (λ id v. HeldAs m input sections f false id v b state) o c → IsPicked inside.whole t (l.front ++ l.words) c a.path a.picked
            → Does m input sections f p 0 units state (IsServed b s state) none_waits (Got tt s units) (lift (given r) b)
        as_it_is None e several c g picks y = absurd (true≢false (sym several))
        as_it_is (Some q) e several None g picks y = absurd picks
        as_it_is (Some q) e several (Some c) g picks y = served {Is = ServesPlace} (given r) (given_does m input sections ServesPlace r state b.sections (own_serves q c e g picks y)) (λ to ids serves. serves)

        by : (several : Bool) → picks_several r.picked ≡ several → Does m input sections f p 0 units state (IsServed b s state) none_waits (Got tt s units) (lift (if several then given r else pointed shape r) b)
        by true several = as_it_is r.picked refl several l.picks refl is.picks inside.picks
        by false several = place_pointed
