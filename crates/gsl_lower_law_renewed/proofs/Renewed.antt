-- What is made ready to be read and stored serves.
use Rattle.std.proofs.Common.{◌≡◌, refl, sym, ap, ◌∙◌, subst, ℕ, ◌≤◌, Bool, true, false, if◌then◌else◌, ◌++◌, length, Option, Some, None}
use Rattle.gsl_base.specs.declared.input.Input.{Input}
use Rattle.gsl_types.specs.Known.{AreStructs, IsSound}
use Rattle.gsl_types.specs.declared.ty.Ty.{Ty}
use Rattle.gsl_words.specs.declared.module.Module.{Module}
use Rattle.gsl_tree.specs.Around.{Around}
use Rattle.gsl_tree.specs.Shapes.{Shape, shape_of}
use Rattle.gsl_tree.specs.WellTyped.{is_push}
use Rattle.gsl_tree.specs.declared.program.Program.{Program}
use Rattle.gsl_meaning.specs.Accesses.{Access}
use Rattle.gsl_meaning.specs.Running.{Got}
use Rattle.gsl_meaning.specs.State as shader
use Rattle.gsl_machine.specs.State.{Ids, Pointer, State}
use Rattle.gsl_machine.specs.Memory as memory
use Rattle.gsl_spv.specs.Sections.{Sections}
use Rattle.gsl_lower_values.specs.Building.{Step, given}
use Rattle.gsl_lower_places.specs.Pointed.{picks_several, pointed, to_renew}
use Rattle.gsl_lower_places.specs.Reached.{stored_shape}
use Rattle.gsl_lower_places.specs.declared.reached.Base.TheVariants.{Variable}
use Rattle.gsl_lower_places.specs.declared.reached.Picked.{Picked}
use Rattle.gsl_lower_places.specs.declared.reached.Reached.{Reached}
use Rattle.gsl_lower_law.specs.Computing.{drawing}
use Rattle.gsl_lower_law.specs.Computing as law
use Rattle.gsl_lower_law.specs.Values.{IsOf, Keeps}
use Rattle.gsl_lower_law.proofs.Joining.{given_does}
use Rattle.gsl_lower_law_components.specs.Serving.{Puts}
use Rattle.gsl_lower_law_components.proofs.Served.{pointer_puts}
use Rattle.gsl_lower_law_picks.specs.Serving as by_pointer
use Rattle.gsl_lower_law_picks.proofs.Pointed.{pointed_serves, whole_pointed}
use Rattle.gsl_lower_law_places.specs.Components.{Picks}
use Rattle.gsl_lower_law_places.specs.Storing.{AreStored, IsVectorType}
use Rattle.gsl_lower_holders.specs.Flow.{Flow, lift}
use Rattle.gsl_lower_follows.specs.Frames.{Frame, Good, HeldAs}
use Rattle.gsl_lower_follows.specs.Giving.{Does, none_waits}
use Rattle.gsl_lower_follows.proofs.Doing.{does_lift}
use Rattle.gsl_lower_law_written.specs.OfLawStored.{KnowsBuffers}
use Rattle.gsl_lower_law_written.specs.OfReaching.{IsBlockTrail, PicksBy, Start}
use Rattle.gsl_lower_law_written.specs.OfReaching.{Chosen, IsChosen, IsInside, IsPicked, MayWrite, Trail}
use Rattle.gsl_lower_law_written.proofs.OfElements.{after_step}
use Rattle.gsl_lower_law_written.proofs.OfElements.{picks_stand}
use Rattle.gsl_lower_law_written.proofs.OfElements.{bytes, from, held, number_each, points, run_of, run_value, whole_is}
use Rattle.gsl_lower_law_written.specs.OfWrites.{IsReady, Serves}
use Rattle.gsl_lower_law_written.proofs.OfWrites.{are_few, are_stored}
use Rattle.gsl_lower_law_renewed.proofs.Both.{acts_both}
use Rattle.gsl_lower_law_renewed.proofs.Itself.{itself_serves}
use Rattle.gsl_lower_law_renewed.proofs.Picked.{picked_serves}
use Rattle.gsl_lower_law_renewed.proofs.Spots.{spot, spot_holds, spot_led, spot_run, type_there, vector_if}
use Rattle.gsl_lower_law_renewed.proofs.Whole.{whole_serves}

module _ (m : Module) (input : Input) (sections : Sections) (f : Frame m input sections) (p : Program) (around : Around) (are : AreStructs p.structs) (knows : KnowsBuffers m input sections f p) (start : Start) (b : Flow) (s : shader.State) (state : State) (r : Reached) (l : Trail)
    (good : Good m input sections f p around b s state) (x : IsBlockTrail m input sections f p around false start b state r l) (own : is_push x.begins.block.kind ≡ false) (t : Ty) (a : Access) (shape : Shape) (sound_t : IsSound (length p.structs) t) (shaped : shape_of t ≡ Some shape) (writes : Bool)
    (inside : IsInside p.structs p.blocks writes t a l) (may : MayWrite true l.picks) where
  abbrev to_spot : Pointer
  to_spot = spot m input sections f p around start r.base l x.begins

  abbrev at_base : Option Picked → Reached
  at_base o = record { base = Variable x.begins.id x.begins.class; path = r.path; picked = o }

  from_base : (o : Option Picked) → r.picked ≡ o → r ≡ at_base o
  from_base o e = ap (λ base. record r { base = base }) x.begins.is ∙ ap at_base e

  -- ---- what is picked

  module _ (q : Picked) (c : Chosen) (chosen_is : l.picks ≡ Some c) (picks : PicksBy (λ id v. HeldAs m input sections f false id v b state) (Some q) (Some c)) (y : IsChosen inside.whole t (l.front ++ l.words) c a.path a.picked) where
    of_type : shape_of l.ty ≡ Some c.shape
    of_type = ap shape_of (whole_is m input sections f p around are start b s state r l good x writes t a inside) ∙ y.of

    stands_picked : Picks state.ids q c.word
    stands_picked = picks_stand m input sections f p around are start b s state r l good x writes t a inside sound_t q c picks y.some y.within

    fits : AreStored c.word q.positions
    fits = subst (AreStored c.word) (sym picks.1) (are_stored c.shape.1 c.word c.positions y.within (subst (MayWrite true) chosen_is may refl) y.some)

    few : length q.positions ≤ q.shape.1
    few = subst (λ (shape : Shape). length q.positions ≤ shape.1) (sym picks.0) (subst (λ ps. length ps ≤ c.shape.1) (sym picks.1) (are_few c.shape.1 c.word c.positions y.within (subst (MayWrite true) chosen_is may refl) y.some))

    run_is : IsOf (stored_shape x.begins.class q.shape) (run_value m input sections f p around are start b s state r l good x c.shape of_type)
    run_is = subst (λ shape. IsOf (stored_shape x.begins.class shape) (run_value m input sections f p around are start b s state r l good x c.shape of_type)) (sym picks.0) (run_of m input sections f p around are start b s state r l good x c.shape of_type)

    vector : (component : ℕ) × (2 ≤ q.shape.1 → IsVectorType m (type_there m input sections f p around start r.base l x.begins) component q.shape.1)
    vector =
        subst (λ (shape : Shape). (component : ℕ) × (2 ≤ shape.1 → IsVectorType m (type_there m input sections f p around start r.base l x.begins) component shape.1)) (sym picks.0)
        (vector_if m c.shape.1 (type_there m input sections f p around start r.base l x.begins) (spot_run m input sections f p around start are b s state r l good x c.shape of_type))

    no_push : memory.is_push m x.begins.id ≡ false
    no_push = (knows.bound x.begins.number x.begins.id x.begins.block x.begins.knows.known x.begins.knows.seat).pushes ∙ own

    abbrev IsServed : Reached → Ids → Type 0
    IsServed to ids = by_pointer.Serves m input sections x.begins.class q c.word to_spot to ids × Puts m input sections x.begins.class q c.word x.begins.id x.begins.offset to ids

    picked_pointed : law.Does m input sections IsServed state.choices state b.sections (pointed shape (at_base (Some q)))
    picked_pointed =
        acts_both m input sections (by_pointer.Serves m input sections x.begins.class q c.word to_spot) (Puts m input sections x.begins.class q c.word x.begins.id x.begins.offset) (drawing state state.choices) state b.sections (pointed shape (at_base (Some q)))
        (pointed_serves m input sections x.begins.id x.begins.class r.path q c.word l.front (from m input sections f p around are start b s state r l good x) to_spot (run_value m input sections f p around are start b s state r l good x c.shape of_type) state b.sections (points m input sections f p around are start b s state r l good x) (number_each m input sections f p around are start b s state r l good x writes t a inside) (spot_led m input sections f p around start are b s state r l good x)
        (spot_holds m input sections f p around start are b s state r l good x c.shape of_type) run_is stands_picked fits few shape)
        (pointer_puts m input sections x.begins.id x.begins.class r.path q c.word l.front (from m input sections f p around are start b s state r l good x) x.begins.id x.begins.offset (type_there m input sections f p around start r.base l x.begins) vector.0 (bytes m input sections f p around are start b s state r l good x) (run_value m input sections f p around are start b s state r l good x c.shape of_type) state b.sections
        (points m input sections f p around are start b s state r l good x) (number_each m input sections f p around are start b s state r l good x writes t a inside) (spot_led m input sections f p around start are b s state r l good x) no_push (held m input sections f p around are start b s state r l good x).1 vector.1
        (spot_holds m input sections f p around start are b s state r l good x c.shape of_type) run_is stands_picked fits few shape)

  module _ (units : ℕ) where
    abbrev Readies : Step Reached → Type 0
    Readies step = Does m input sections f p 0 units state (IsReady m input sections f p around t a b s state) none_waits (Got (tt {0}) s units) (lift step b)

    ready : {Is : Reached → Ids → Type 0} (step : Step Reached) → law.Does m input sections Is state.choices state b.sections step → ((to : Reached) (ids : Ids) → Keeps state.ids ids → Is to ids → Serves m input sections f p around t a to ids) → Readies step
    ready {Is} step does so =
        does_lift m input sections f p around units b s state Is (drawing state state.choices) (IsReady m input sections f p around t a b s state) none_waits (tt {0}) s step good does
        (λ to later q within extends. record { after = after_step m input sections f p around Is b s state to later good within q; same = refl; serves = so to q.ids q.keeps q.is })

    all_pointed : (o : Option Picked) → r.picked ≡ o → (c : Option Chosen) → l.picks ≡ c → PicksBy (λ id v. HeldAs m input sections f false id v b state) o c → IsPicked inside.whole t (l.front ++ l.words) c a.path a.picked → Readies (pointed shape r)
    all_pointed None e None g picks y =
        ready {Is = λ to ids. by_pointer.IsAt x.begins.class to_spot None to ids} (pointed shape r)
        (subst (λ z. law.Does m input sections (λ to ids. by_pointer.IsAt x.begins.class to_spot None to ids) state.choices state b.sections (pointed shape z)) (sym (from_base None e))
        (whole_pointed m input sections x.begins.id x.begins.class shape r.path l.front (from m input sections f p around are start b s state r l good x) to_spot state b.sections (points m input sections f p around are start b s state r l good x) (number_each m input sections f p around are start b s state r l good x writes t a inside) (spot_led m input sections f p around start are b s state r l good x)))
        (λ to ids kept at. whole_serves m input sections f p around are knows start b s state r l good x own t a shape sound_t shaped writes inside g to ids kept at)
    all_pointed None e (Some c) g picks y = absurd picks
    all_pointed (Some q) e None g picks y = absurd picks
    all_pointed (Some q) e (Some c) g picks y =
        ready {Is = IsServed q c g picks y} (pointed shape r)
        (subst (λ z. law.Does m input sections (IsServed q c g picks y) state.choices state b.sections (pointed shape z)) (sym (from_base (Some q) e)) (picked_pointed q c g picks y))
        (λ to ids kept is. picked_serves m input sections f p around are knows start b s state r l good x own t a shape sound_t shaped writes inside may q c g picks to ids kept is.0 is.1)

    -- what is made ready to be read and stored serves
    pub block_ready : Readies (to_renew shape r)
    unfolding to_renew
    block_ready = by (picks_several r.picked)
      where
        by : (several : Bool) → Readies (if several then given r else pointed shape r)
        by true =
            ready {Is = Serves m input sections f p around t a} (given r) (given_does m input sections (Serves m input sections f p around t a) r state b.sections (itself_serves m input sections f p around are knows start b s state r l good x own t a shape sound_t shaped writes inside may)) (λ to ids kept serves. serves)
        by false = all_pointed r.picked refl l.picks refl x.picks inside.picks
