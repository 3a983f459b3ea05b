-- A scalar or vector that is stored whole where a trail in a block leads.
use Rattle.std.proofs.Common.{◌≡◌, refl, sym, ap, ◌∙◌, subst, ℕ, ◌≤◌, Bool, true, false, List, ◌++◌, length, Option, Some, None}
use Rattle.gsl_base.specs.declared.input.Buffer.{Buffer}
use Rattle.gsl_base.specs.declared.input.Input.{Input}
use Rattle.gsl_layout.specs.Layout.{Leaf}
use Rattle.gsl_types.specs.Known.{AreStructs, IsSound}
use Rattle.gsl_types.specs.declared.ty.Ty.{Ty}
use Rattle.gsl_words.specs.declared.module.Module.{Module}
use Rattle.gsl_values.specs.declared.value.Value.{Value}
use Rattle.gsl_tree.specs.Around.{Around}
use Rattle.gsl_tree.specs.Laying.{layout_of}
use Rattle.gsl_tree.specs.Operations.{value_at, with_value_at}
use Rattle.gsl_tree.specs.Shapes.{Shape, shape_of}
use Rattle.gsl_tree.specs.Values.{is_value_of, of_components}
use Rattle.gsl_tree.specs.WellTyped.{is_push}
use Rattle.gsl_tree.specs.declared.program.Program.{Program}
use Rattle.gsl_views.specs.Buffers.{put_words}
use Rattle.gsl_views.specs.Paths.{Leads}
use Rattle.gsl_meaning.specs.Accesses as access
use Rattle.gsl_meaning.specs.Accesses.{Access, root_value, stored as means_stored, with_picked, with_root}
use Rattle.gsl_meaning.specs.Blocks.{words_in}
use Rattle.gsl_meaning.specs.Running.{Got}
use Rattle.gsl_meaning.specs.State as shader
use Rattle.gsl_machine.specs.State.{State}
use Rattle.gsl_spv.specs.Sections.{Sections}
use Rattle.gsl_lower_places.specs.Writing.{put_in, stored}
use Rattle.gsl_lower_places.specs.Reached.{stored_shape}
use Rattle.gsl_lower_places.specs.declared.reached.Base.TheVariants.{Variable}
use Rattle.gsl_lower_places.specs.declared.reached.Picked.{Picked}
use Rattle.gsl_lower_places.specs.declared.reached.Reached.{Reached}
use Rattle.gsl_lower_holders.specs.Flow.{Flow}
use Rattle.gsl_lower_expr.specs.Parts.{store_by, stores}
use Rattle.gsl_lower_law.specs.Computing.{Acts, leaving}
use Rattle.gsl_lower_law.specs.Operands.{converted_value}
use Rattle.gsl_lower_law.specs.Values.{IsOf, Stands}
use Rattle.gsl_lower_law_expr.proofs.Shapes.{value_shape}
use Rattle.gsl_lower_law_stored.specs.OfLawMembers.{size_of}
use Rattle.gsl_lower_law_places.specs.Storing.{buffers_with}
use Rattle.gsl_lower_law_places.proofs.Blocks.{block_stores}
use Rattle.gsl_lower_law_places.proofs.Stored.{Nothing, put_acts, stored_left}
use Rattle.gsl_lower_follows.specs.Frames.{Agrees, Frame, Good, HeldAs, coming}
use Rattle.gsl_lower_follows.specs.Giving.{After, Does, none_waits}
use Rattle.gsl_lower_follows.proofs.Doing.{does_lift}
use Rattle.gsl_lower_law_stored.specs.Buffers.{KnowsBuffers, with_bytes_of, with_value}
use Rattle.gsl_lower_law_stored.proofs.Put.{words_stored}
use Rattle.gsl_lower_writes.specs.OfReaching.{IsBlockTrail, PicksBy, Start}
use Rattle.gsl_lower_writes.specs.OfReaching.{IsInside, IsPicked, Trail}
use Rattle.gsl_lower_writes.proofs.OfReaching.{index_is}
use Rattle.gsl_lower_writes.proofs.OfElements.{bytes, from, held, leads, number_each, numbers_are, pointee, points, run, to, whole_is}
use Rattle.gsl_lower_law_written.proofs.Words.{lying, lying_below, lying_many, lying_value}

module _ (m : Module) (input : Input) (sections : Sections) (f : Frame m input sections) (p : Program) (around : Around) (are : AreStructs p.structs) (knows : KnowsBuffers m input sections f p) (start : Start) (b : Flow) (s : shader.State) (state : State) (r : Reached) (l : Trail)
    (good : Good m input sections f p around b s state) (x : IsBlockTrail m input sections f p around false start b state r l) (own : is_push x.begins.block.kind ≡ false) (t : Ty) (a : Access) (shape : Shape) (sound_t : IsSound (length p.structs) t) (shaped : shape_of t ≡ Some shape) (writes : Bool)
    (inside : IsInside p.structs p.blocks writes t a l) (none : l.picks ≡ None) (value : ℕ) (v : Value) (typed : is_value_of p.structs t v ≡ true) (stands : Stands state.ids value v) where
  abbrev it : List ℕ
  it = bytes m input sections f p around are start b s state r l good x

  -- nothing is picked
  picked : (inside.whole ≡ t) × (a.path ≡ l.front ++ l.words) × (a.picked ≡ None)
  picked = subst (λ c. IsPicked inside.whole t (l.front ++ l.words) c a.path a.picked) none inside.picks

  unpicked : r.picked ≡ None
  unpicked = by r.picked (subst (PicksBy (λ id v. HeldAs m input sections f false id v b state) r.picked) none x.picks)
    where
      by : (o : Option Picked) → PicksBy (λ id v. HeldAs m input sections f false id v b state) o None → o ≡ None
      by None picks = refl
      by (Some q) picks = absurd picks

  of_type : shape_of l.ty ≡ Some shape
  of_type = ap shape_of (whole_is m input sections f p around are start b s state r l good x writes t a inside ∙ picked.0) ∙ shaped

  pub of : IsOf shape v
  of = (value_shape p.structs t shape v are sound_t shaped typed).1

  some : 1 ≤ shape.1
  some = (value_shape p.structs t shape v are sound_t shaped typed).0

  abbrev words : List ℕ
  words = lying x.begins.class x.begins.inside shape v of

  abbrev later_buffers : List Buffer
  later_buffers = buffers_with m state x.begins.id (put_words x.begins.offset words it)

  -- ---- what the module does

  acts : Acts m input sections Nothing (stored_left m input sections state state.variables later_buffers) state b.sections (stored shape r value)
  unfolding stored
  acts =
      subst (λ base. Acts m input sections Nothing (stored_left m input sections state state.variables later_buffers) state b.sections (put_in base r.path shape value r.picked)) (sym x.begins.is)
      (subst (λ o. Acts m input sections Nothing (stored_left m input sections state state.variables later_buffers) state b.sections (put_in (Variable x.begins.id x.begins.class) r.path shape value o)) (sym unpicked)
      (put_acts m input sections x.begins.id x.begins.class shape r.path value l.front (from m input sections f p around are start b s state r l good x) (to m input sections f p around are start b s state r l good x) v state.variables later_buffers state b.sections
      (points m input sections f p around are start b s state r l good x) (number_each m input sections f p around are start b s state r l good x writes t a inside) (leads m input sections f p around are start b s state r l good x) of stands
      (block_stores m input state x.begins.id x.begins.offset (pointee m input sections f p around are start b s state r l good x) it (held m input sections f p around are start b s state r l good x).1 (converted_value (stored_shape x.begins.class shape).0 v))))

  -- ---- what the shader does

  abbrev anew : Value
  anew = with_value_at (words_in p.structs x.begins.block it) l.front (of_components words)

  means : means_stored a v s ≡ with_value s x.begins.number anew
  means =
      ap (λ root. with_root root (access.stored_in (root_value root s) a v) s) (inside.begins ∙ x.begins.begins)
      ∙ ap (λ old. with_value s x.begins.number (with_value_at old a.path (with_picked a.picked (value_at old a.path) v))) (index_is s.blocks x.begins.number (words_in p.structs x.begins.block it) (held m input sections f p around are start b s state r l good x).2)
      ∙ ap (λ o. with_value s x.begins.number (with_value_at (words_in p.structs x.begins.block it) a.path (with_picked o (value_at (words_in p.structs x.begins.block it) a.path) v))) picked.2
      ∙ ap (λ path. with_value s x.begins.number (with_value_at (words_in p.structs x.begins.block it) path v)) (picked.1 ∙ numbers_are m input sections f p around are start b s state r l good x writes t a inside)
      ∙ ap (λ w. with_value s x.begins.number (with_value_at (words_in p.structs x.begins.block it) l.front w)) (sym (lying_value x.begins.class x.begins.inside shape v of))

  -- ---- both

  leads_run : Leads (size_of m input x.begins.id) (layout_of p.structs x.begins.block) 0 l.front (Leaf shape.1) x.begins.offset
  leads_run = subst (λ layout. Leads (size_of m input x.begins.id) (layout_of p.structs x.begins.block) 0 l.front layout x.begins.offset) (run m input sections f p around are start b s state r l good x shape of_type) x.begins.leads

  then_good : Agrees m input sections f p around (with_value s x.begins.number anew) (with_bytes_of m state x.begins.id (put_words x.begins.offset words it))
  then_good = words_stored m input sections f p around knows x.begins.number x.begins.id x.begins.block x.begins.knows.known x.begins.knows.seat own b s state good it (held m input sections f p around are start b s state r l good x).1 shape.1 x.begins.offset l.front leads_run some words
      (lying_many x.begins.class x.begins.inside shape v of) (lying_below x.begins.class x.begins.inside shape v of)

  -- what leaves these bytes there stores it, by whatever pointer
  pub whole_left : (to : Reached) → Acts m input sections Nothing (stored_left m input sections state state.variables later_buffers) state b.sections (stored shape to value)
      → (units : ℕ) → Does m input sections f p 0 units state (λ done later one u last. After m input sections f p around false b state later u last) none_waits (Got (tt {0}) (means_stored a v s) units) (stores p.structs t to value b)
  unfolding stores
  whole_left to storing units =
      subst (λ o. Does m input sections f p 0 units state (λ done later one u last. After m input sections f p around false b state later u last) none_waits (Got (tt {0}) (means_stored a v s) units) (store_by p.structs t to value o b)) (sym shaped)
      (does_lift m input sections f p around units b s state Nothing (stored_left m input sections state state.variables later_buffers) (λ done later one u last. After m input sections f p around false b state later u last) none_waits (tt {0}) (means_stored a v s) (stored shape to value) good storing
      (λ done later q inside_later extends.
      subst (λ u. After m input sections f p around false b state (record { sections = later; place = b.place }) u (record (leaving state (stored_left m input sections state state.variables later_buffers) q.ids) { rest = coming m input sections f later })) (sym means)
      (record {
        good = record {
          inside = inside_later;
          rest = refl;
          within = good.within;
          own = good.own;
          waiting = good.waiting;
          ready = q.ready;
          seated = good.seated;
          holds = (let h = then_good.holds in record { values = h.values; blocks = h.blocks; buffers = h.buffers; choices = h.choices; count = h.count; outside = h.outside });
          typed = then_good.typed;
          reached = q.reached;
        };
        held = record { same = λ holder n less at. refl };
        ids = λ e. q.keeps;
      })))

  pub whole_written : (units : ℕ) → Does m input sections f p 0 units state (λ done later one u last. After m input sections f p around false b state later u last) none_waits (Got (tt {0}) (means_stored a v s) units) (stores p.structs t r value b)
  whole_written = whole_left r acts
