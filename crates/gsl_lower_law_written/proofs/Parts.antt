-- Components of a vector that are stored where a trail in a block leads.
use Rattle.std.proofs.Common.{◌≡◌, refl, sym, ap, ◌∙◌, subst, ℕ, ◌+◌, ◌*◌, ◌≤◌, Bool, true, false, List, ◌++◌, length, map, Option, Some, None, arith}
use Rattle.std.specs.List.{range_with_len}
use Rattle.gsl_base.specs.declared.input.Buffer.{Buffer}
use Rattle.gsl_base.specs.declared.input.Input.{Input}
use Rattle.gsl_layout.specs.Layout.{Leaf}
use Rattle.gsl_types.specs.Known.{AreStructs, IsSound}
use Rattle.gsl_types.specs.declared.ty.Ty.{Ty}
use Rattle.gsl_words.specs.Words.{word_at}
use Rattle.gsl_words.specs.declared.module.Module.{Module}
use Rattle.gsl_values.specs.declared.value.Value.{Value}
use Rattle.gsl_tree.specs.Around.{Around}
use Rattle.gsl_tree.specs.Laying.{layout_of}
use Rattle.gsl_tree.specs.Operations.{value_at, with_value_at}
use Rattle.gsl_tree.specs.Paths.{repeats}
use Rattle.gsl_tree.specs.Shapes.{Shape, of_shape, shape_of}
use Rattle.gsl_tree.specs.Values.{components_in, is_value_of, of_components}
use Rattle.gsl_tree.specs.WellTyped.{is_push as is_push_kind}
use Rattle.gsl_tree.specs.declared.program.Program.{Program}
use Rattle.gsl_views.specs.Paths.{Leads}
use Rattle.gsl_meaning.specs.Accesses as access
use Rattle.gsl_meaning.specs.Accesses.{Access, root_value, stored as means_stored, with_picked, with_root}
use Rattle.gsl_meaning.specs.Blocks.{words_in}
use Rattle.gsl_meaning.specs.Running.{Got}
use Rattle.gsl_meaning.specs.State as shader
use Rattle.gsl_machine.specs.Memory.{is_push}
use Rattle.gsl_machine.specs.State.{State}
use Rattle.gsl_spv.specs.Sections.{Sections}
use Rattle.gsl_lower_places.specs.Writing.{put_in, stored}
use Rattle.gsl_lower_places.specs.Reached.{stored_scalar, stored_shape}
use Rattle.gsl_lower_places.specs.declared.reached.Base.TheVariants.{Variable}
use Rattle.gsl_lower_places.specs.declared.reached.Picked.{Picked}
use Rattle.gsl_lower_places.specs.declared.reached.Reached.{Reached}
use Rattle.gsl_lower_holders.specs.Flow.{Flow}
use Rattle.gsl_lower_expr.specs.Parts.{store_by, stores}
use Rattle.gsl_lower_law.specs.Computing.{Acts, leaving}
use Rattle.gsl_lower_law.specs.Operands.{converted_value}
use Rattle.gsl_lower_law.specs.Values.{IsOf, Stands}
use Rattle.gsl_lower_law.proofs.Components.{components_of}
use Rattle.gsl_lower_law_expr.proofs.Shapes.{value_shape}
use Rattle.gsl_lower_law_components.specs.Putting.{put_components}
use Rattle.gsl_lower_law_components.proofs.Parted.{blocks_stored}
use Rattle.gsl_lower_law_stored.specs.OfLawMembers.{size_of}
use Rattle.gsl_lower_law_stored.proofs.OfLawMembers.{vector_is}
use Rattle.gsl_lower_law_places.specs.Storing.{AreStored, IsVectorType, buffers_with, goes_to, set_each}
use Rattle.gsl_lower_law_places.proofs.Stored.{Nothing, stored_left}
use Rattle.gsl_lower_follows.specs.Frames.{Agrees, Frame, Good, HeldAs, coming}
use Rattle.gsl_lower_follows.specs.Giving.{After, Does, none_waits}
use Rattle.gsl_lower_follows.proofs.Doing.{does_lift}
use Rattle.gsl_lower_law_stored.specs.Buffers.{KnowsBuffers, with_bytes_of, with_value}
use Rattle.gsl_lower_law_stored.proofs.Put.{components_stored}
use Rattle.gsl_lower_writes.specs.OfReaching.{IsBlockTrail, PicksBy, Start}
use Rattle.gsl_lower_writes.specs.OfReaching.{Chosen, IsChosen, IsInside, IsPicked, Trail}
use Rattle.gsl_lower_writes.proofs.OfReaching.{index_is}
use Rattle.gsl_lower_writes.proofs.OfElements.{picks_stand}
use Rattle.gsl_lower_writes.proofs.OfElements.{bytes, from, held, leads, number_each, pointee, points, numbers_are, run, run_lie, run_stored, run_there, run_value, value_there, whole_is}
use Rattle.gsl_lower_traits_law.proofs.Shapes.{shape_back}
use Rattle.gsl_lower_writes.proofs.Once.{are_few, are_stored, goes_below}
use Rattle.gsl_lower_writes.proofs.Picked.{picked_stored}
use Rattle.gsl_lower_law_written.proofs.Words.{as_lying, lying, lying_are, lying_below, value_words}

module _ (m : Module) (input : Input) (sections : Sections) (f : Frame m input sections) (p : Program) (around : Around) (are : AreStructs p.structs) (knows : KnowsBuffers m input sections f p) (start : Start) (b : Flow) (s : shader.State) (state : State) (r : Reached) (l : Trail)
    (good : Good m input sections f p around b s state) (x : IsBlockTrail m input sections f p around false start b state r l) (own : is_push_kind x.begins.block.kind ≡ false) (t : Ty) (a : Access) (sound_t : IsSound (length p.structs) t) (writes : Bool) (inside : IsInside p.structs p.blocks writes t a l)
    (c : Chosen) (chosen_is : l.picks ≡ Some c) (once : repeats c.positions ≡ false) (many : 2 ≤ c.shape.1) (value : ℕ) (v : Value) (typed : is_value_of p.structs t v ≡ true) (stands : Stands state.ids value v) where
  abbrev it : List ℕ
  it = bytes m input sections f p around are start b s state r l good x

  y : IsChosen inside.whole t (l.front ++ l.words) c a.path a.picked
  y = subst (λ o. IsPicked inside.whole t (l.front ++ l.words) o a.path a.picked) chosen_is inside.picks

  -- what the ids pick
  record Pick : Type 0 where
    q : Picked
    is : r.picked ≡ Some q
    picks : PicksBy (λ id v. HeldAs m input sections f false id v b state) (Some q) (Some c)

  pick : Pick
  pick = by r.picked refl (subst (PicksBy (λ id v. HeldAs m input sections f false id v b state) r.picked) chosen_is x.picks)
    where
      by : (o : Option Picked) → r.picked ≡ o → PicksBy (λ id v. HeldAs m input sections f false id v b state) o (Some c) → Pick
      by None e picks = absurd picks
      by (Some q) e picks = record { q = q; is = e; picks = picks }

  of_type : shape_of l.ty ≡ Some c.shape
  of_type = ap shape_of (whole_is m input sections f p around are start b s state r l good x writes t a inside) ∙ y.of

  new_shape : Shape
  new_shape = (c.shape.0, length c.positions)

  pub of : IsOf (c.shape.0, length c.positions) v
  of = (value_shape p.structs t (c.shape.0, length c.positions) v are sound_t y.gives typed).1

  abbrev words : List ℕ
  words = lying x.begins.class x.begins.inside (c.shape.0, length c.positions) v of

  abbrev goes : List ℕ
  goes = goes_to c.word c.positions

  abbrev there : Value
  there = run_value m input sections f p around are start b s state r l good x c.shape of_type

  abbrev now : List ℕ
  now = put_components x.begins.offset goes words it

  abbrev later_buffers : List Buffer
  later_buffers = buffers_with m state x.begins.id now

  -- ---- what the module does

  no_push : is_push m x.begins.id ≡ false
  no_push = (knows.bound x.begins.number x.begins.id x.begins.block x.begins.knows.known x.begins.knows.seat).pushes ∙ own

  vector : (component : ℕ) × IsVectorType m (pointee m input sections f p around are start b s state r l good x) component c.shape.1
  vector = vector_is m c.shape.1 (pointee m input sections f p around are start b s state r l good x) many (run_lie m input sections f p around are start b s state r l good x c.shape of_type)

  abbrev Puts : Shape → List ℕ → Picked → Type 0
  Puts shape positions q = Acts m input sections Nothing (stored_left m input sections state state.variables (buffers_with m state x.begins.id (put_components x.begins.offset (goes_to c.word positions) (components_in (converted_value (stored_shape x.begins.class (shape.0, length positions)).0 v)) it))) state b.sections
      (stored (c.shape.0, length c.positions) (record { base = Variable x.begins.id x.begins.class; path = r.path; picked = Some q }) value)

  acts_picked : Puts pick.q.shape pick.q.positions pick.q
  acts_picked = blocks_stored m input sections x.begins.id x.begins.class r.path pick.q l.front (from m input sections f p around are start b s state r l good x) x.begins.id x.begins.offset (pointee m input sections f p around are start b s state r l good x) vector.0 it v value state b.sections
      (subst (λ (shape : Shape). 2 ≤ shape.1) (sym pick.picks.0) many) (points m input sections f p around are start b s state r l good x) (number_each m input sections f p around are start b s state r l good x writes t a inside) (leads m input sections f p around are start b s state r l good x) no_push
      (held m input sections f p around are start b s state r l good x).1 (subst (λ (shape : Shape). IsVectorType m (pointee m input sections f p around are start b s state r l good x) vector.0 shape.1) (sym pick.picks.0) vector.1)
      (subst (λ (shape : Shape). IsOf (shape.0, length pick.q.positions) v) (sym pick.picks.0) (subst (λ ps. IsOf (c.shape.0, length ps) v) (sym pick.picks.1) of)) stands (c.shape.0, length c.positions) c.word
      (picks_stand m input sections f p around are start b s state r l good x writes t a inside sound_t pick.q c pick.picks y.some y.within)
      (subst (AreStored c.word) (sym pick.picks.1) (are_stored c.shape.1 c.word c.positions y.within once y.some))
      (subst (λ (shape : Shape). length pick.q.positions ≤ shape.1) (sym pick.picks.0) (subst (λ ps. length ps ≤ c.shape.1) (sym pick.picks.1) (are_few c.shape.1 c.word c.positions y.within once y.some)))

  acts : Acts m input sections Nothing (stored_left m input sections state state.variables later_buffers) state b.sections (stored (c.shape.0, length c.positions) r value)
  unfolding stored
  acts =
      subst (λ base. Acts m input sections Nothing (stored_left m input sections state state.variables later_buffers) state b.sections (put_in base r.path (c.shape.0, length c.positions) value r.picked)) (sym x.begins.is)
      (subst (λ o. Acts m input sections Nothing (stored_left m input sections state state.variables later_buffers) state b.sections (put_in (Variable x.begins.id x.begins.class) r.path (c.shape.0, length c.positions) value o)) (sym pick.is)
      (subst (λ (shape : Shape). Puts shape c.positions pick.q) pick.picks.0 (subst (λ ps. Puts pick.q.shape ps pick.q) pick.picks.1 acts_picked)))

  -- ---- what the shader does

  abbrev before : Value
  before = words_in p.structs x.begins.block it

  root_is : root_value a.root s ≡ before
  root_is = ap (λ root. root_value root s) (inside.begins ∙ x.begins.begins) ∙ index_is s.blocks x.begins.number before (held m input sections f p around are start b s state r l good x).2

  at : value_at before (l.front ++ l.words) ≡ there
  at =
      ap (λ w. value_at w (l.front ++ l.words)) (sym root_is) ∙ value_there m input sections f p around are start b s state r l good x writes t a inside
      ∙ run_there m input sections f p around are start b s state r l good x c.shape of_type

  -- the same choice, among words as they lie
  abbrev lain : Chosen
  lain = record c { shape = (stored_scalar c.shape.0, c.shape.1) }

  y_lain : IsChosen (of_shape (stored_scalar c.shape.0, c.shape.1)) (of_shape (stored_scalar c.shape.0, length c.positions)) (l.front ++ l.words) lain a.path a.picked
  y_lain = record { of = shape_back (stored_scalar c.shape.0) c.shape.1; gives = shape_back (stored_scalar c.shape.0) (length c.positions); some = y.some; within = y.within; are = y.are }

  abbrev anew : Value
  anew = with_value_at before l.front (of_components (set_each goes words (map (λ k. word_at it (x.begins.offset + 4 * k)) (range_with_len 0 c.shape.1))))

  in_words : components_in v ≡ words
  in_words = value_words (c.shape.0, length c.positions) v of ∙ sym (lying_are x.begins.class x.begins.inside (c.shape.0, length c.positions) v of)

  means : means_stored a v s ≡ with_value s x.begins.number anew
  means =
      ap (λ root. with_root root (access.stored_in (root_value a.root s) a v) s) (inside.begins ∙ x.begins.begins)
      ∙ ap (λ old. with_value s x.begins.number (with_value_at old a.path (with_picked a.picked (value_at old a.path) v))) root_is
      ∙ ap (with_value s x.begins.number)
      (picked_stored (of_shape (stored_scalar c.shape.0, c.shape.1)) (of_shape (stored_scalar c.shape.0, length c.positions)) (l.front ++ l.words) a.path lain a.picked y_lain once there v (run_stored m input sections f p around are start b s state r l good x c.shape of_type)
      (as_lying c.shape.0 (length c.positions) v of) before at)
      ∙ ap (λ path. with_value s x.begins.number (with_value_at before path (of_components (set_each goes (components_in v) (components_in there))))) (numbers_are m input sections f p around are start b s state r l good x writes t a inside)
      ∙ ap (λ ws. with_value s x.begins.number (with_value_at before l.front (of_components (set_each goes ws (components_in there))))) in_words
      ∙ ap (λ ws. with_value s x.begins.number (with_value_at before l.front (of_components (set_each goes words ws)))) (components_of (map (λ k. word_at it (x.begins.offset + 4 * k)) (range_with_len 0 c.shape.1)))

  -- ---- both

  leads_run : Leads (size_of m input x.begins.id) (layout_of p.structs x.begins.block) 0 l.front (Leaf c.shape.1) x.begins.offset
  leads_run = subst (λ layout. Leads (size_of m input x.begins.id) (layout_of p.structs x.begins.block) 0 l.front layout x.begins.offset) (run m input sections f p around are start b s state r l good x c.shape of_type) x.begins.leads

  then_good : Agrees m input sections f p around (with_value s x.begins.number anew) (with_bytes_of m state x.begins.id now)
  then_good = components_stored m input sections f p around knows x.begins.number x.begins.id x.begins.block x.begins.knows.known x.begins.knows.seat own b s state good it (held m input sections f p around are start b s state r l good x).1 c.shape.1 x.begins.offset l.front leads_run (let z = many in omega (arith, z)) goes words
      (goes_below c.shape.1 c.word c.positions y.within once y.some) (lying_below x.begins.class x.begins.inside (c.shape.0, length c.positions) v of)

  -- what leaves these bytes there stores it, by whatever pointer
  pub parts_left : (to : Reached) → Acts m input sections Nothing (stored_left m input sections state state.variables later_buffers) state b.sections (stored (c.shape.0, length c.positions) to value)
      → (units : ℕ) → Does m input sections f p 0 units state (λ done later one u last. After m input sections f p around false b state later u last) none_waits (Got (tt {0}) (means_stored a v s) units) (stores p.structs t to value b)
  unfolding stores
  parts_left to storing units =
      subst (λ o. Does m input sections f p 0 units state (λ done later one u last. After m input sections f p around false b state later u last) none_waits (Got (tt {0}) (means_stored a v s) units) (store_by p.structs t to value o b)) (sym y.gives)
      (does_lift m input sections f p around units b s state Nothing (stored_left m input sections state state.variables later_buffers) (λ done later one u last. After m input sections f p around false b state later u last) none_waits (tt {0}) (means_stored a v s) (stored (c.shape.0, length c.positions) to value) good storing
      (λ done later q inside_later extends.
      subst (λ u. After m input sections f p around false b state (record { sections = later; place = b.place }) u (record (leaving state (stored_left m input sections state state.variables later_buffers) q.ids) { rest = coming m input sections f later })) (sym means)
      (record {
        good = record {
          inside = inside_later;
          rest = refl;
          within = good.within;
          own = good.own;
          waiting = good.waiting;
          ready = q.ready;
          seated = good.seated;
          holds = (let h = then_good.holds in record { values = h.values; blocks = h.blocks; buffers = h.buffers; choices = h.choices; count = h.count; outside = h.outside });
          typed = then_good.typed;
          reached = q.reached;
        };
        held = record { same = λ holder n less at. refl };
        ids = λ e. q.keeps;
      })))

  pub parts_written : (units : ℕ) → Does m input sections f p 0 units state (λ done later one u last. After m input sections f p around false b state later u last) none_waits (Got (tt {0}) (means_stored a v s) units) (stores p.structs t r value b)
  parts_written = parts_left r acts
