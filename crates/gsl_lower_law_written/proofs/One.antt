-- What is picked of a scalar, which is stored whole where a trail in a block leads.
use Rattle.std.proofs.Common.{◌≡◌, refl, sym, ap, ◌∙◌, subst, ℕ, zero, suc, ◌+◌, ◌*◌, ◌<◌, Bool, true, false, List, [], ◌∷◌, ◌++◌, length, map, Option, Some, None, arith, if◌then◌else◌}
use Rattle.std.specs.Prelude.{◌==◌}
use Rattle.std.specs.List.{AllByRecursion, range_with_len}
use Rattle.std.proofs.lemmas.Bool.{eq-eqb}
use Rattle.std.proofs.lemmas.List.FromFn.{length-map-range_with_len}
use Rattle.gsl_base.specs.declared.input.Buffer.{Buffer}
use Rattle.gsl_base.specs.declared.input.Input.{Input}
use Rattle.gsl_layout.specs.Layout.{Leaf}
use Rattle.gsl_types.specs.Known.{AreStructs, IsSound}
use Rattle.gsl_types.specs.declared.ty.Ty.{Ty}
use Rattle.gsl_words.specs.Words.{word_at}
use Rattle.gsl_words.specs.declared.module.Module.{Module}
use Rattle.gsl_values.specs.declared.value.Value.{Value}
use Rattle.gsl_tree.specs.Around.{Around}
use Rattle.gsl_tree.specs.Laying.{layout_of}
use Rattle.gsl_tree.specs.Operations.{value_at, with_value_at}
use Rattle.gsl_tree.specs.Paths.{repeats}
use Rattle.gsl_tree.specs.Shapes.{Shape, of_shape, shape_of}
use Rattle.gsl_tree.specs.Values.{components_in, is_value_of, of_components}
use Rattle.gsl_tree.specs.WellTyped.{is_push as is_push_kind}
use Rattle.gsl_tree.specs.declared.program.Program.{Program}
use Rattle.gsl_views.specs.Paths.{Leads}
use Rattle.gsl_meaning.specs.Accesses as access
use Rattle.gsl_meaning.specs.Accesses.{Access, root_value, stored as means_stored, with_picked, with_root}
use Rattle.gsl_meaning.specs.Blocks.{words_in}
use Rattle.gsl_meaning.specs.Running.{Got}
use Rattle.gsl_meaning.specs.State as shader
use Rattle.gsl_machine.specs.State.{State}
use Rattle.gsl_spv.specs.Sections.{Sections}
use Rattle.gsl_lower_places.specs.Writing.{put_at, put_by, put_in, put_picked, stored}
use Rattle.gsl_lower_places.specs.Reached.{stored_scalar, stored_shape}
use Rattle.gsl_lower_places.specs.declared.reached.Base.TheVariants.{Variable}
use Rattle.gsl_lower_places.specs.declared.reached.Picked.{Picked}
use Rattle.gsl_lower_places.specs.declared.reached.Reached.{Reached}
use Rattle.gsl_lower_holders.specs.Flow.{Flow}
use Rattle.gsl_lower_expr.specs.Parts.{store_by, stores}
use Rattle.gsl_lower_law.specs.Computing.{Acts, leaving}
use Rattle.gsl_lower_law.specs.Operands.{converted_value}
use Rattle.gsl_lower_law.specs.Values.{IsOf, Stands}
use Rattle.gsl_lower_law.proofs.Components.{components_of}
use Rattle.gsl_lower_law_expr.proofs.Shapes.{value_shape}
use Rattle.gsl_lower_law_stored.specs.OfLawMembers.{size_of}
use Rattle.gsl_lower_law_places.specs.Storing.{buffers_with, goes_to, set_each}
use Rattle.gsl_lower_law_places.proofs.Stored.{Nothing, put_acts, stored_left}
use Rattle.gsl_lower_follows.specs.Frames.{Agrees, Frame, Good, HeldAs, coming}
use Rattle.gsl_lower_follows.specs.Giving.{After, Does, none_waits}
use Rattle.gsl_lower_follows.proofs.Doing.{does_lift}
use Rattle.gsl_lower_law_stored.specs.Buffers.{KnowsBuffers, with_bytes_of, with_value}
use Rattle.gsl_lower_law_stored.proofs.Put.{words_stored}
use Rattle.gsl_lower_writes.specs.OfReaching.{IsBlockTrail, PicksBy, Start}
use Rattle.gsl_lower_writes.specs.OfReaching.{Chosen, IsChosen, IsInside, IsPicked, Trail}
use Rattle.gsl_lower_writes.proofs.OfReaching.{index_is}
use Rattle.gsl_lower_writes.proofs.OfElements.{bytes, from, held, leads, number_each, numbers_are, pointee, points, run, run_stored, run_there, run_value, to, value_there, whole_is}
use Rattle.gsl_lower_traits_law.proofs.Shapes.{shape_back}
use Rattle.gsl_lower_writes.proofs.Once.{are_few, goes_below}
use Rattle.gsl_lower_writes.proofs.Picked.{picked_stored}
use Rattle.gsl_lower_law_written.proofs.Words.{as_lying, lying, lying_are, lying_below, lying_many, value_words}
use Rattle.gsl_views.specs.Buffers.{put_words}
use Rattle.gsl_lower_law_places.proofs.Blocks.{block_stores}

-- one position and one word
goes_one : (word : Option ℕ) (positions : List ℕ) → length positions ≡ 1 → length (goes_to word positions) ≡ 1
goes_one None positions one = one
goes_one (Some number) positions one = refl

one_set : (positions words old : List ℕ) → AllByRecursion (λ position. position < 1) positions → length positions ≡ 1 → length words ≡ 1 → length old ≡ 1 → set_each positions words old ≡ words
one_set (zero ∷ []) (w ∷ []) (o ∷ []) below one single whole_one = refl
one_set (suc n ∷ []) words old below one single whole_one = absurd (let less : suc n < 1 = below.0 in omega (arith, less))
one_set [] words old below one single whole_one = absurd (let z : 0 ≡ 1 = one in omega (arith, z))
one_set (position ∷ next ∷ positions) words old below one single whole_one = absurd (let z : suc (suc (length positions)) ≡ 1 = one in omega (arith, z))
one_set (zero ∷ []) [] old below one single whole_one = absurd (let z : 0 ≡ 1 = single in omega (arith, z))
one_set (zero ∷ []) (w ∷ next ∷ words) old below one single whole_one = absurd (let z : suc (suc (length words)) ≡ 1 = single in omega (arith, z))
one_set (zero ∷ []) (w ∷ []) [] below one single whole_one = absurd (let z : 0 ≡ 1 = whole_one in omega (arith, z))
one_set (zero ∷ []) (w ∷ []) (o ∷ next ∷ old) below one single whole_one = absurd (let z : suc (suc (length old)) ≡ 1 = whole_one in omega (arith, z))

module _ (m : Module) (input : Input) (sections : Sections) (f : Frame m input sections) (p : Program) (around : Around) (are : AreStructs p.structs) (knows : KnowsBuffers m input sections f p) (start : Start) (b : Flow) (s : shader.State) (state : State) (r : Reached) (l : Trail)
    (good : Good m input sections f p around b s state) (x : IsBlockTrail m input sections f p around false start b state r l) (own : is_push_kind x.begins.block.kind ≡ false) (t : Ty) (a : Access) (sound_t : IsSound (length p.structs) t) (writes : Bool) (inside : IsInside p.structs p.blocks writes t a l)
    (c : Chosen) (chosen_is : l.picks ≡ Some c) (once : repeats c.positions ≡ false) (alone : c.shape.1 ≡ 1) (value : ℕ) (v : Value) (typed : is_value_of p.structs t v ≡ true) (stands : Stands state.ids value v) where
  abbrev it : List ℕ
  it = bytes m input sections f p around are start b s state r l good x

  y : IsChosen inside.whole t (l.front ++ l.words) c a.path a.picked
  y = subst (λ o. IsPicked inside.whole t (l.front ++ l.words) o a.path a.picked) chosen_is inside.picks

  -- what the ids pick
  record Pick : Type 0 where
    q : Picked
    is : r.picked ≡ Some q
    picks : PicksBy (λ id v. HeldAs m input sections f false id v b state) (Some q) (Some c)

  pick : Pick
  pick = by r.picked refl (subst (PicksBy (λ id v. HeldAs m input sections f false id v b state) r.picked) chosen_is x.picks)
    where
      by : (o : Option Picked) → r.picked ≡ o → PicksBy (λ id v. HeldAs m input sections f false id v b state) o (Some c) → Pick
      by None e picks = absurd picks
      by (Some q) e picks = record { q = q; is = e; picks = picks }

  of_type : shape_of l.ty ≡ Some c.shape
  of_type = ap shape_of (whole_is m input sections f p around are start b s state r l good x writes t a inside) ∙ y.of

  new_shape : Shape
  new_shape = (c.shape.0, length c.positions)

  pub of : IsOf (c.shape.0, length c.positions) v
  of = (value_shape p.structs t (c.shape.0, length c.positions) v are sound_t y.gives typed).1

  abbrev words : List ℕ
  words = lying x.begins.class x.begins.inside (c.shape.0, length c.positions) v of

  abbrev goes : List ℕ
  goes = goes_to c.word c.positions

  abbrev there : Value
  there = run_value m input sections f p around are start b s state r l good x c.shape of_type

  abbrev now : List ℕ
  now = put_words x.begins.offset words it

  abbrev later_buffers : List Buffer
  later_buffers = buffers_with m state x.begins.id now

  one_position : length c.positions ≡ 1
  one_position = let some = y.some in let few = are_few c.shape.1 c.word c.positions y.within once y.some in omega (arith, some, few, alone)

  of_one : IsOf c.shape v
  of_one = subst (λ n. IsOf (c.shape.0, n) v) (one_position ∙ sym alone) of

  -- ---- what the module does

  abbrev Puts : Shape → Type 0
  Puts shape = Acts m input sections Nothing (stored_left m input sections state state.variables later_buffers) state b.sections (put_at x.begins.id x.begins.class shape r.path value)

  acts_one : Puts c.shape
  acts_one =
      subst (λ ws. Acts m input sections Nothing (stored_left m input sections state state.variables (buffers_with m state x.begins.id (put_words x.begins.offset ws it))) state b.sections (put_at x.begins.id x.begins.class c.shape r.path value)) (lying_are x.begins.class x.begins.inside c.shape v of_one ∙ sym (value_words c.shape v of_one) ∙ in_words)
      (put_acts m input sections x.begins.id x.begins.class c.shape r.path value l.front (from m input sections f p around are start b s state r l good x) (to m input sections f p around are start b s state r l good x) v state.variables
      (buffers_with m state x.begins.id (put_words x.begins.offset (lying x.begins.class x.begins.inside c.shape v of_one) it)) state b.sections
      (points m input sections f p around are start b s state r l good x) (number_each m input sections f p around are start b s state r l good x writes t a inside) (leads m input sections f p around are start b s state r l good x) of_one stands
      (block_stores m input state x.begins.id x.begins.offset (pointee m input sections f p around are start b s state r l good x) it (held m input sections f p around are start b s state r l good x).1 (converted_value (stored_shape x.begins.class c.shape).0 v)))
    where
      in_words : components_in v ≡ words
      in_words = value_words (c.shape.0, length c.positions) v of ∙ sym (lying_are x.begins.class x.begins.inside (c.shape.0, length c.positions) v of)

  acts_picked : Acts m input sections Nothing (stored_left m input sections state state.variables later_buffers) state b.sections (put_picked x.begins.id x.begins.class r.path value pick.q)
  unfolding put_picked
  acts_picked = by (pick.q.shape.1 == 1) (eq-eqb pick.q.shape.1 1 (ap (λ (shape : Shape). shape.1) pick.picks.0 ∙ alone))
    where
      by : (single : Bool) → single ≡ true → Acts m input sections Nothing (stored_left m input sections state state.variables later_buffers) state b.sections
          (if single then put_at x.begins.id x.begins.class pick.q.shape r.path value else put_by x.begins.id x.begins.class pick.q.shape pick.q.by pick.q.positions r.path value)
      by true e = subst Puts (sym pick.picks.0) acts_one
      by false e = absurd cc

  acts : Acts m input sections Nothing (stored_left m input sections state state.variables later_buffers) state b.sections (stored (c.shape.0, length c.positions) r value)
  unfolding stored
  acts =
      subst (λ base. Acts m input sections Nothing (stored_left m input sections state state.variables later_buffers) state b.sections (put_in base r.path (c.shape.0, length c.positions) value r.picked)) (sym x.begins.is)
      (subst (λ o. Acts m input sections Nothing (stored_left m input sections state state.variables later_buffers) state b.sections (put_in (Variable x.begins.id x.begins.class) r.path (c.shape.0, length c.positions) value o)) (sym pick.is) acts_picked)

  -- ---- what the shader does

  abbrev before : Value
  before = words_in p.structs x.begins.block it

  root_is : root_value a.root s ≡ before
  root_is = ap (λ root. root_value root s) (inside.begins ∙ x.begins.begins) ∙ index_is s.blocks x.begins.number before (held m input sections f p around are start b s state r l good x).2

  at : value_at before (l.front ++ l.words) ≡ there
  at =
      ap (λ w. value_at w (l.front ++ l.words)) (sym root_is) ∙ value_there m input sections f p around are start b s state r l good x writes t a inside
      ∙ run_there m input sections f p around are start b s state r l good x c.shape of_type

  -- the same choice, among words as they lie
  abbrev lain : Chosen
  lain = record c { shape = (stored_scalar c.shape.0, c.shape.1) }

  y_lain : IsChosen (of_shape (stored_scalar c.shape.0, c.shape.1)) (of_shape (stored_scalar c.shape.0, length c.positions)) (l.front ++ l.words) lain a.path a.picked
  y_lain = record { of = shape_back (stored_scalar c.shape.0) c.shape.1; gives = shape_back (stored_scalar c.shape.0) (length c.positions); some = y.some; within = y.within; are = y.are }

  abbrev anew : Value
  anew = with_value_at before l.front (of_components words)

  in_words : components_in v ≡ words
  in_words = value_words (c.shape.0, length c.positions) v of ∙ sym (lying_are x.begins.class x.begins.inside (c.shape.0, length c.positions) v of)

  means : means_stored a v s ≡ with_value s x.begins.number anew
  means =
      ap (λ root. with_root root (access.stored_in (root_value a.root s) a v) s) (inside.begins ∙ x.begins.begins)
      ∙ ap (λ old. with_value s x.begins.number (with_value_at old a.path (with_picked a.picked (value_at old a.path) v))) root_is
      ∙ ap (with_value s x.begins.number)
      (picked_stored (of_shape (stored_scalar c.shape.0, c.shape.1)) (of_shape (stored_scalar c.shape.0, length c.positions)) (l.front ++ l.words) a.path lain a.picked y_lain once there v (run_stored m input sections f p around are start b s state r l good x c.shape of_type)
      (as_lying c.shape.0 (length c.positions) v of) before at)
      ∙ ap (λ path. with_value s x.begins.number (with_value_at before path (of_components (set_each goes (components_in v) (components_in there))))) (numbers_are m input sections f p around are start b s state r l good x writes t a inside)
      ∙ ap (λ ws. with_value s x.begins.number (with_value_at before l.front (of_components (set_each goes ws (components_in there))))) in_words
      ∙ ap (λ ws. with_value s x.begins.number (with_value_at before l.front (of_components (set_each goes words ws)))) (components_of (map (λ k. word_at it (x.begins.offset + 4 * k)) (range_with_len 0 c.shape.1)))
      ∙ ap (λ ws. with_value s x.begins.number (with_value_at before l.front (of_components ws)))
      (one_set goes words (map (λ k. word_at it (x.begins.offset + 4 * k)) (range_with_len 0 c.shape.1)) (subst (λ n. AllByRecursion (λ position. position < n) goes) alone (goes_below c.shape.1 c.word c.positions y.within once y.some)) (goes_one c.word c.positions one_position)
      (lying_many x.begins.class x.begins.inside (c.shape.0, length c.positions) v of ∙ one_position) (length-map-range_with_len (λ k. word_at it (x.begins.offset + 4 * k)) 0 c.shape.1 ∙ alone))

  -- ---- both

  leads_run : Leads (size_of m input x.begins.id) (layout_of p.structs x.begins.block) 0 l.front (Leaf c.shape.1) x.begins.offset
  leads_run = subst (λ layout. Leads (size_of m input x.begins.id) (layout_of p.structs x.begins.block) 0 l.front layout x.begins.offset) (run m input sections f p around are start b s state r l good x c.shape of_type) x.begins.leads

  then_good : Agrees m input sections f p around (with_value s x.begins.number anew) (with_bytes_of m state x.begins.id now)
  then_good = words_stored m input sections f p around knows x.begins.number x.begins.id x.begins.block x.begins.knows.known x.begins.knows.seat own b s state good it (held m input sections f p around are start b s state r l good x).1 c.shape.1 x.begins.offset l.front leads_run (let z = alone in omega (arith, z)) words
      (lying_many x.begins.class x.begins.inside (c.shape.0, length c.positions) v of ∙ one_position ∙ sym alone) (lying_below x.begins.class x.begins.inside (c.shape.0, length c.positions) v of)

  -- what leaves these bytes there stores it, by whatever pointer
  pub one_left : (to : Reached) → Acts m input sections Nothing (stored_left m input sections state state.variables later_buffers) state b.sections (stored (c.shape.0, length c.positions) to value)
      → (units : ℕ) → Does m input sections f p 0 units state (λ done later one u last. After m input sections f p around false b state later u last) none_waits (Got (tt {0}) (means_stored a v s) units) (stores p.structs t to value b)
  unfolding stores
  one_left to storing units =
      subst (λ o. Does m input sections f p 0 units state (λ done later one u last. After m input sections f p around false b state later u last) none_waits (Got (tt {0}) (means_stored a v s) units) (store_by p.structs t to value o b)) (sym y.gives)
      (does_lift m input sections f p around units b s state Nothing (stored_left m input sections state state.variables later_buffers) (λ done later one u last. After m input sections f p around false b state later u last) none_waits (tt {0}) (means_stored a v s) (stored (c.shape.0, length c.positions) to value) good storing
      (λ done later q inside_later extends.
      subst (λ u. After m input sections f p around false b state (record { sections = later; place = b.place }) u (record (leaving state (stored_left m input sections state state.variables later_buffers) q.ids) { rest = coming m input sections f later })) (sym means)
      (record {
        good = record {
          inside = inside_later;
          rest = refl;
          within = good.within;
          own = good.own;
          waiting = good.waiting;
          ready = q.ready;
          seated = good.seated;
          holds = (let h = then_good.holds in record { values = h.values; blocks = h.blocks; buffers = h.buffers; choices = h.choices; count = h.count; outside = h.outside });
          typed = then_good.typed;
          reached = q.reached;
        };
        held = record { same = λ holder n less at. refl };
        ids = λ e. q.keeps;
      })))

  pub one_written : (units : ℕ) → Does m input sections f p 0 units state (λ done later one u last. After m input sections f p around false b state later u last) none_waits (Got (tt {0}) (means_stored a v s) units) (stores p.structs t r value b)
  one_written = one_left r acts
