-- A scalar or vector, or components of one, that would be stored out of bounds in a block: the store strays.
use Rattle.std.proofs.Common.{◌≡◌, refl, sym, ap, ◌∙◌, subst, inl, inr, ℕ, ◌⊎◌, Bool, true, false, List, [], ◌∷◌, ◌++◌, length, Option, Some, None, if◌then◌else◌}
use Rattle.std.specs.Prelude.{◌==◌}
use Rattle.std.proofs.lemmas.Bool.{eqb-true}
use Rattle.gsl_base.specs.declared.input.Input.{Input}
use Rattle.gsl_types.specs.Known.{AreStructs, IsSound}
use Rattle.gsl_types.specs.declared.ty.Ty.{Ty}
use Rattle.gsl_words.specs.declared.module.Module.{Module}
use Rattle.gsl_values.specs.declared.value.Value.{Value}
use Rattle.gsl_tree.specs.Around.{Around}
use Rattle.gsl_tree.specs.Paths.{repeats}
use Rattle.gsl_tree.specs.Shapes.{Shape, shape_of}
use Rattle.gsl_tree.specs.Values.{is_value_of}
use Rattle.gsl_tree.specs.declared.program.Program.{Program}
use Rattle.gsl_meaning.specs.Running.{Strays}
use Rattle.gsl_meaning.specs.State as shader
use Rattle.gsl_machine.specs.State.{Pointer, State}
use Rattle.gsl_spv.specs.Sections.{Sections}
use Rattle.gsl_lower_places.specs.Writing.{put_at, put_by, put_in, put_picked, stored}
use Rattle.gsl_lower_places.specs.declared.reached.Base.TheVariants.{Variable}
use Rattle.gsl_lower_places.specs.declared.reached.Part.{Part}
use Rattle.gsl_lower_places.specs.declared.reached.Picked.{Picked}
use Rattle.gsl_lower_places.specs.declared.reached.Reached.{Reached}
use Rattle.gsl_lower_law.specs.Straying.{Strays as StepStrays}
use Rattle.gsl_lower_law.specs.Values.{IsOf, Stands}
use Rattle.gsl_lower_law_places.specs.Components.{Chooses}
use Rattle.gsl_lower_law_places.proofs.Outside.{put_strays}
use Rattle.gsl_lower_law_places.proofs.Reading.{numbers_on}
use Rattle.gsl_lower_law_picks.specs.Outside.{CanPick}
use Rattle.gsl_lower_law_picks.proofs.Along.{stray_on}
use Rattle.gsl_lower_law_picks.proofs.Unstored.{path_stored_out, stored_out}
use Rattle.gsl_lower_law_expr.proofs.Shapes.{value_shape}
use Rattle.gsl_lower_holders.specs.Flow.{Flow}
use Rattle.gsl_lower_expr.specs.Parts.{store_by, stores}
use Rattle.gsl_lower_follows.specs.Frames.{Frame, Good, HeldAs}
use Rattle.gsl_lower_follows.specs.Giving.{Does, none_waits}
use Rattle.gsl_lower_follows.proofs.Doing.{strays_lift}
use Rattle.gsl_lower_writes.proofs.OfElements.{from, points, to}
use Rattle.gsl_lower_writes.proofs.OfElements.{all_numbers, can, component_in, component_out, path_strays, picks_out}
use Rattle.gsl_lower_writes.specs.OfReaching.{IsBlockTrail, PicksBy, Start}
use Rattle.gsl_lower_writes.specs.OfReaching.{ArePositions, Chosen, IsOut, IsOutside, LacksComponent, LeadsOut, MayWrite, Trail}
use Rattle.gsl_lower_writes.proofs.OfReaching.{chooses_stand}
use Rattle.gsl_lower_writes.proofs.Once.{few, single}

module _ (m : Module) (input : Input) (sections : Sections) (f : Frame m input sections) (p : Program) (around : Around) (are : AreStructs p.structs) (start : Start) (b : Flow) (s : shader.State) (state : State) (r : Reached) (l : Trail) (good : Good m input sections f p around b s state)
    (x : IsBlockTrail m input sections f p around false start b state r l) (writes : Bool) (t : Ty) (outside : IsOutside p.structs p.blocks writes t l) (may : MayWrite true l.picks) (sound_t : IsSound (length p.structs) t) (value : ℕ) (v : Value) (typed : is_value_of p.structs t v ≡ true) (stands : Stands state.ids value v) where
  abbrev id : ℕ
  id = x.begins.id

  abbrev class : ℕ
  class = x.begins.class

  abbrev words : List ℕ
  words = l.front ++ l.words

  abbrev begun : Pointer
  begun = from m input sections f p around are start b s state r l good x

  abbrev Out : Shape → Option Picked → Type 0
  Out shape o = StepStrays m input sections state b.sections (put_in (Variable id class) r.path shape value o)

  -- behind an index out of bounds
  picked_strays : (shape : Shape) (q : Picked) (c : Chosen) → LeadsOut p.structs l.ty l.words → CanPick q → (by : Option Part) (word : Option ℕ) → q.by ≡ by → c.word ≡ word → Chooses state.ids by word → ArePositions q.shape.1 word q.positions → repeats q.positions ≡ false
      → IsOf (q.shape.0, length q.positions) v → Out shape (Some q)
  unfolding stored put_picked
  picked_strays shape q c out can_pick None None e g chooses within once of =
      path_stored_out m input sections id class r.path q value words begun v state b.sections (points m input sections f p around are start b s state r l good x) (all_numbers m input sections f p around are start b s state r l good x) of stands (path_strays m input sections f p around are start b s state r l good x out) shape None
      (subst (λ by. Chooses state.ids by None) (sym e) tt) can_pick tt (few q.shape.1 q.positions within once)
  picked_strays shape q c out can_pick None (Some word) e g chooses within once of = absurd chooses
  picked_strays shape q c out can_pick (Some by) None e g chooses within once of = absurd chooses
  picked_strays shape q c out can_pick (Some by) (Some word) e g chooses within once of =
      subst (λ o. StepStrays m input sections state b.sections (if q.shape.1 == 1 then put_at id class q.shape r.path value else put_by id class q.shape o q.positions r.path value)) (sym e) (by_count (q.shape.1 == 1) refl)
    where
      one : length q.positions ≡ 1
      one = single q.positions within once can_pick.some

      by_count : (c : Bool) → (q.shape.1 == 1) ≡ c → StepStrays m input sections state b.sections (if c then put_at id class q.shape r.path value else put_at id class (q.shape.0, 1) (r.path ++ by ∷ []) value)
      by_count true e =
          put_strays m input sections id class q.shape r.path value words begun v state b.sections (points m input sections f p around are start b s state r l good x) (all_numbers m input sections f p around are start b s state r l good x) (path_strays m input sections f p around are start b s state r l good x out)
          (subst (λ n. IsOf (q.shape.0, n) v) (one ∙ sym (eqb-true q.shape.1 1 e)) of) stands
      by_count false e =
          put_strays m input sections id class (q.shape.0, 1) (r.path ++ by ∷ []) value (words ++ word ∷ []) begun v state b.sections (points m input sections f p around are start b s state r l good x)
          (numbers_on state.ids r.path (by ∷ []) words (word ∷ []) (all_numbers m input sections f p around are start b s state r l good x) (chooses, tt))
          (stray_on m input state begun words (word ∷ []) (path_strays m input sections f p around are start b s state r l good x out)) (subst (λ n. IsOf (q.shape.0, n) v) one of) stands

  place_strays : (shape : Shape) → shape_of t ≡ Some shape → (o : Option Picked) (c : Option Chosen) → l.picks ≡ c → PicksBy (λ id v. HeldAs m input sections f false id v b state) o c → IsOut p.structs l.ty t l.words c → Out shape o
  unfolding stored
  place_strays shape shaped None None e picks out =
      put_strays m input sections id class shape r.path value words begun v state b.sections (points m input sections f p around are start b s state r l good x) (all_numbers m input sections f p around are start b s state r l good x) (path_strays m input sections f p around are start b s state r l good x out)
      (value_shape p.structs t shape v are sound_t shaped typed).1 stands
  place_strays shape shaped None (Some c) e picks out = absurd picks
  place_strays shape shaped (Some q) None e picks out = absurd picks
  place_strays shape shaped (Some q) (Some c) e picks y = by y.out
    where
      once : repeats c.positions ≡ false
      once = subst (MayWrite true) e may refl

      of : IsOf (q.shape.0, length q.positions) v
      of = subst (λ (shape : Shape). IsOf (shape.0, length q.positions) v) (sym picks.0) (subst (λ ps. IsOf (c.shape.0, length ps) v) (sym picks.1) (value_shape p.structs t (c.shape.0, length c.positions) v are sound_t y.gives typed).1)

      by : LeadsOut p.structs l.ty l.words ⊎ LacksComponent p.structs l.ty l.words c → Out shape (Some q)
      by (inl out) =
          picked_strays shape q c out (can m input sections f p around are start b s state r l good x writes t outside q c picks y.some y.within) q.by c.word refl refl (chooses_stand state.ids q.by c.word picks.2)
          (subst (λ (shape : Shape). ArePositions shape.1 c.word q.positions) (sym picks.0) (subst (ArePositions c.shape.1 c.word) (sym picks.1) y.within)) (subst (λ ps. repeats ps ≡ false) (sym picks.1) once) of
      by (inr z) =
          stored_out m input sections id class r.path q value words begun v state b.sections (points m input sections f p around are start b s state r l good x) (all_numbers m input sections f p around are start b s state r l good x) of stands shape (to m input sections f p around are start b s state r l good x) z.word
          (component_in m input sections f p around are start b s state r l good x c z) (component_out m input sections f p around are start b s state r l good x c z) (picks_out m input sections f p around are start b s state r l good x writes t outside q c y z picks)
          (ap length picks.1 ∙ single c.positions (subst (λ o. ArePositions c.shape.1 o c.positions) z.is y.within) once y.some)

  shape_strays : (shape : Shape) → shape_of t ≡ Some shape → StepStrays m input sections state b.sections (stored shape r value)
  unfolding stored
  shape_strays shape shaped = subst (λ base. StepStrays m input sections state b.sections (put_in base r.path shape value r.picked)) (sym x.begins.is) (place_strays shape shaped r.picked l.picks refl x.picks outside.out)

  pub block_unwritten : (shape : Shape) → shape_of t ≡ Some shape → {R : Type 0} (units : ℕ) (Then : Unit {0} → Flow → R → shader.State → State → Type 0) → Does m input sections f p 0 units state Then none_waits Strays (stores p.structs t r value b)
  unfolding stores
  block_unwritten shape shaped {R} units Then =
      subst (λ o. Does m input sections f p 0 units state Then none_waits Strays (store_by p.structs t r value o b)) (sym shaped) (strays_lift m input sections f p around units b s state Then none_waits (stored shape r value) good (shape_strays shape shaped))
