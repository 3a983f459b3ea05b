-- The leaves of a struct or an array that are stored where a trail in a block leads.
use Rattle.std.proofs.Common.{◌≡◌, refl, sym, ap, ◌∙◌, subst, ℕ, ◌≤◌, Bool, true, false, List, [], ◌∷◌, ◌++◌, length, map, Some, None, arith}
use Rattle.std.specs.Prelude.{unwrap_or}
use Rattle.std.specs.List.{AllByRecursion}
use Rattle.gsl_base.specs.declared.input.Input.{Input}
use Rattle.gsl_layout.specs.Layout.{IsLayout, Layout, Leaf as Run, need}
use Rattle.gsl_types.specs.Known.{AreStructs, IsSound}
use Rattle.gsl_types.specs.declared.ty.Ty.{Ty}
use Rattle.gsl_words.specs.declared.module.Module.{Module}
use Rattle.gsl_values.specs.declared.value.Value.{Value}
use Rattle.gsl_tree.specs.Around.{Around}
use Rattle.gsl_tree.specs.Laying.{rule_of}
use Rattle.gsl_tree.specs.Operations.{value_at, with_value_at}
use Rattle.gsl_tree.specs.Shapes.{shape_of}
use Rattle.gsl_tree.specs.Values.{is_value_of}
use Rattle.gsl_tree.specs.WellTyped.{is_push as is_push_kind}
use Rattle.gsl_tree.specs.declared.program.Program.{Program}
use Rattle.gsl_tree.specs.declared.unit.Block.{Block}
use Rattle.gsl_views.specs.Buffers.{bytes_at}
use Rattle.gsl_views.specs.Paths.{Leads}
use Rattle.gsl_views.specs.Seen.{seen}
use Rattle.gsl_meaning.specs.Accesses as access
use Rattle.gsl_meaning.specs.Accesses.{Access, root_value, stored as means_stored, with_picked, with_root}
use Rattle.gsl_meaning.specs.Blocks.{put_value, value_of, words_in}
use Rattle.gsl_meaning.specs.Running.{Got}
use Rattle.gsl_meaning.specs.State as shader
use Rattle.gsl_machine.specs.State.{State}
use Rattle.gsl_spv.specs.Sections.{Sections}
use Rattle.gsl_lower_places.specs.Reading.{number_in}
use Rattle.gsl_lower_places.specs.declared.reached.Part.TheVariants.{Fixed}
use Rattle.gsl_lower_places.specs.declared.reached.Reached.{Reached}
use Rattle.gsl_lower_leaves.specs.Leaves.{leaves_of}
use Rattle.gsl_lower_leaves.specs.declared.leaf.Leaf.{Leaf}
use Rattle.gsl_lower_holders.specs.Flow.{Flow, lift}
use Rattle.gsl_lower_expr.specs.Parts.{store_block}
use Rattle.gsl_lower_law.specs.Computing.{Acts, leaving}
use Rattle.gsl_lower_law.specs.Values.{Stands}
use Rattle.gsl_lower_law_leaves.specs.Equal.{HasLeaves}
use Rattle.gsl_lower_law_leaves.proofs.Structs.{values_agree}
use Rattle.gsl_lower_law_places.specs.Storing.{buffers_with}
use Rattle.gsl_lower_law_places.proofs.Stored.{Nothing, stored_left}
use Rattle.gsl_lower_law_bytes.proofs.Buffers.{value_bytes}
use Rattle.gsl_lower_law_copies.specs.Copying.{put_leaves}
use Rattle.gsl_lower_law_copies.proofs.Copied.{whole_into}
use Rattle.gsl_lower_law_blocks.specs.Placing.{with_leaves}
use Rattle.gsl_lower_law_blocks.proofs.Laid.{LeadsSo, paths_lead}
use Rattle.gsl_lower_law_blocks.proofs.Lying.{LieSeen, leaves_lie}
use Rattle.gsl_lower_law_blocks.proofs.Placed.{leaves_seen as filled_seen}
use Rattle.gsl_lower_law_layouts.proofs.Laid.{leaves_laid}
use Rattle.gsl_lower_law_members.specs.Parts.{laid_as}
use Rattle.gsl_lower_follows.specs.Frames.{Agrees, Frame, Good, coming}
use Rattle.gsl_lower_follows.specs.Giving.{After, Does, none_waits}
use Rattle.gsl_lower_follows.proofs.Doing.{does_lift}
use Rattle.gsl_lower_law_written.specs.OfLawStored.{HasBuffer, IsBound, KnowsBuffers, with_bytes_of, with_value}
use Rattle.gsl_lower_law_written.proofs.OfLawStored.{bytes_there, renewed}
use Rattle.gsl_lower_law_written.specs.OfReaching.{IsBlockTrail, Start}
use Rattle.gsl_lower_law_written.specs.OfReaching.{IsInside, Trail}
use Rattle.gsl_lower_law_written.proofs.OfReaching.{IsWhole, whole_picked}
use Rattle.gsl_lower_law_written.proofs.OfReaching.{index_is}
use Rattle.gsl_lower_law_written.proofs.OfElements.{none_shape}
use Rattle.gsl_lower_law_written.proofs.OfElements.{bytes, from, held, laid, leads_there, long, number_each, numbers_are, points, whole_is, whole_layout}
use Rattle.gsl_lower_law_written.proofs.OfReads.{HasFirst, value_first}
use Rattle.gsl_lower_law_spread.proofs.FilledStructs.{values_lay}
use Rattle.gsl_lower_law_spread.proofs.Put.{AreTold, inner, leaves_seen, leaves_told}

some_leaf : (v : Value) (leaves : List Leaf) → HasFirst v leaves → 1 ≤ length leaves
some_leaf v [] first = absurd first
some_leaf v (one ∷ more) first = omega arith

same_bytes : {a b : List ℕ} → Some a ≡ Some b → a ≡ b
same_bytes e = cc

module _ (m : Module) (input : Input) (sections : Sections) (f : Frame m input sections) (p : Program) (around : Around) (are : AreStructs p.structs) (knows : KnowsBuffers m input sections f p) (start : Start) (b : Flow) (s : shader.State) (state : State) (r : Reached) (l : Trail)
    (good : Good m input sections f p around b s state) (x : IsBlockTrail m input sections f p around false start b state r l) (own : is_push_kind x.begins.block.kind ≡ false) (t : Ty) (a : Access) (sound_t : IsSound (length p.structs) t) (none : shape_of t ≡ None) (writes : Bool)
    (inside : IsInside p.structs p.blocks writes t a l) (value : ℕ) (v : Value) (typed : is_value_of p.structs t v ≡ true) (stands : Stands state.ids value v) where
  abbrev it : List ℕ
  it = bytes m input sections f p around are start b s state r l good x

  abbrev block : Block
  block = x.begins.block

  abbrev all : Layout
  all = whole_layout m input sections f p around are start b s state r l good x

  abbrev part : Layout
  part = laid m input sections f p around are start b s state r l good x

  abbrev leaves : List Leaf
  leaves = leaves_of p.structs t

  whole : IsWhole inside.whole t (l.front ++ l.words) l.picks a.path a.picked
  whole = whole_picked inside.whole t (l.front ++ l.words) l.picks a.path a.picked (none_shape t none) inside.picks

  same : l.ty ≡ t
  same = whole_is m input sections f p around are start b s state r l good x writes t a inside ∙ whole.same

  -- ---- where its leaves lie

  abbrev LeafLeads : Leaf → Type 0
  LeafLeads one = (offset : ℕ) × (one.path ≡ map Fixed (map number_in one.path)) × Leads (length it) part x.begins.offset (map number_in one.path) (Run one.shape.1) offset

  leaves_lead : AllByRecursion LeafLeads leaves
  leaves_lead = subst (λ u. AllByRecursion LeafLeads (leaves_of p.structs u)) same (leaves_laid (length it) (rule_of block.std140) p.structs l.ty x.begins.offset)

  so : LeadsSo m input x.begins.id (length it) 0 x.begins.knows.type l.front part x.begins.offset
  so = paths_lead m input x.begins.id (length it) all part 0 x.begins.knows.type x.begins.offset l.front x.begins.knows.lie (leads_there m input sections f p around are start b s state r l good x)

  lie : LieSeen m input x.begins.id (length it) x.begins.offset so.0 (from m input sections f p around are start b s state r l good x) l.front part so.1 so.2 leaves
  lie = leaves_lie m input x.begins.id (length it) x.begins.offset so.0 (from m input sections f p around are start b s state r l good x) l.front part so.1 so.2 leaves leaves_lead

  has : HasLeaves v leaves
  has = (values_agree p.structs t are sound_t v v typed typed).0

  some : 1 ≤ length leaves
  some = some_leaf v leaves (value_first p.structs t are sound_t v typed)

  abbrev fresh : List ℕ
  fresh = put_leaves x.begins.class v leaves lie.0 it

  -- ---- what the module does

  bound : IsBound m x.begins.id block
  bound = knows.bound x.begins.number x.begins.id block x.begins.knows.known x.begins.knows.seat

  acts : Acts m input sections Nothing (stored_left m input sections state state.variables (buffers_with m state x.begins.id fresh)) state b.sections (store_block p.structs t x.begins.id x.begins.class r.path value)
  acts =
      whole_into m input sections x.begins.id x.begins.class r.path value l.front (from m input sections f p around are start b s state r l good x) x.begins.id v (bound.pushes ∙ own) leaves lie.0 it state b.sections
      (points m input sections f p around are start b s state r l good x) (number_each m input sections f p around are start b s state r l good x writes t a inside) (held m input sections f p around are start b s state r l good x).1 lie.1 stands has

  -- ---- what the bytes are then

  buffer : HasBuffer input p x.begins.number block
  buffer = knows.buffers x.begins.number block x.begins.knows.known own

  as_given : length buffer.given ≡ length it
  as_given =
      sym (long m input sections f p around are start b s state r l good x
      ∙ ap (λ o. length (unwrap_or o [])) (bytes_there m input x.begins.id block bound own (record state { buffers = input.buffers }) ∙ buffer.has))

  room : need all ≤ length it
  room = subst (λ n. need all ≤ n) as_given buffer.room

  is : IsLayout all
  is = knows.laid x.begins.number block x.begins.knows.known

  -- they are those that were given, with what is seen of them put
  told_now : put_value all 0 (words_in p.structs block it) buffer.given ≡ it
  told_now =
      same_bytes (sym (value_bytes p.structs block.set block.binding block (own, refl, refl) buffer.given p.blocks x.begins.number s.blocks (words_in p.structs block it) input.buffers buffer.alone buffer.only buffer.has (held m input sections f p around are start b s state r l good x).2)
      ∙ ap (λ bs. bytes_at bs block.set block.binding) (sym good.holds.buffers) ∙ sym (bytes_there m input x.begins.id block bound own state) ∙ (held m input sections f p around are start b s state r l good x).1)

  abbrev Told : List ℕ → Type 0
  Told = AreTold x.begins.class x.begins.inside (length it) all part x.begins.offset l.front buffer.given is room as_given (leads_there m input sections f p around are start b s state r l good x) v

  before : Told it
  before = record { long = refl; small = (held m input sections f p around are start b s state r l good x).3; told = told_now }

  then_told : Told fresh
  then_told = leaves_told x.begins.class x.begins.inside (length it) all part x.begins.offset l.front buffer.given is room as_given (leads_there m input sections f p around are start b s state r l good x) v leaves lie.0 it before lie.2 has

  -- ---- what the shader does

  lays : with_leaves x.begins.class (value_of (seen part x.begins.offset it)) v leaves ≡ v
  lays =
      subst (λ u. with_leaves x.begins.class (value_of (seen (laid_as block.std140 p.structs u) x.begins.offset it)) v leaves ≡ v) (sym same)
      (values_lay x.begins.class x.begins.inside (rule_of block.std140) p.structs t are sound_t x.begins.offset it v typed)

  part_is : value_of (seen part x.begins.offset fresh) ≡ v
  part_is =
      let at = inner x.begins.class x.begins.inside (length it) all part x.begins.offset l.front buffer.given is room as_given (leads_there m input sections f p around are start b s state r l good x) v in
      filled_seen x.begins.class (length it) x.begins.offset part v at.0 leaves lie.0 it refl at.1 lie.2 has ∙ lays

  seen_is : words_in p.structs block fresh ≡ with_value_at (words_in p.structs block it) l.front v
  seen_is =
      leaves_seen x.begins.class x.begins.inside (length it) all part x.begins.offset l.front buffer.given is room as_given (leads_there m input sections f p around are start b s state r l good x) v leaves lie.0 it some before lie.2 has
      ∙ ap (with_value_at (words_in p.structs block it) l.front) part_is

  means : means_stored a v s ≡ with_value s x.begins.number (words_in p.structs block fresh)
  means =
      ap (λ root. with_root root (access.stored_in (root_value root s) a v) s) (inside.begins ∙ x.begins.begins)
      ∙ ap (λ old. with_value s x.begins.number (with_value_at old a.path (with_picked a.picked (value_at old a.path) v))) (index_is s.blocks x.begins.number (words_in p.structs block it) (held m input sections f p around are start b s state r l good x).2)
      ∙ ap (λ o. with_value s x.begins.number (with_value_at (words_in p.structs block it) a.path (with_picked o (value_at (words_in p.structs block it) a.path) v))) whole.unpicked
      ∙ ap (λ path. with_value s x.begins.number (with_value_at (words_in p.structs block it) path v)) (whole.path_is ∙ numbers_are m input sections f p around are start b s state r l good x writes t a inside)
      ∙ ap (with_value s x.begins.number) (sym seen_is)

  -- ---- both

  then_good : Agrees m input sections f p around (with_value s x.begins.number (words_in p.structs block fresh)) (with_bytes_of m state x.begins.id fresh)
  then_good = renewed m input sections f p around knows x.begins.number x.begins.id block x.begins.knows.known x.begins.knows.seat own b s state good buffer.given fresh buffer.has then_told.small then_told.told

  pub leaves_written : (units : ℕ) → Does m input sections f p 0 units state (λ done later one u last. After m input sections f p around false b state later u last) none_waits (Got (tt {0}) (means_stored a v s) units) (lift (store_block p.structs t x.begins.id x.begins.class r.path value) b)
  leaves_written units =
      does_lift m input sections f p around units b s state Nothing (stored_left m input sections state state.variables (buffers_with m state x.begins.id fresh)) (λ done later one u last. After m input sections f p around false b state later u last) none_waits (tt {0}) (means_stored a v s)
      (store_block p.structs t x.begins.id x.begins.class r.path value) good acts
      (λ done later q inside_later extends.
      subst (λ u. After m input sections f p around false b state (record { sections = later; place = b.place }) u (record (leaving state (stored_left m input sections state state.variables (buffers_with m state x.begins.id fresh)) q.ids) { rest = coming m input sections f later })) (sym means)
      (record {
        good = record {
          inside = inside_later;
          rest = refl;
          within = good.within;
          own = good.own;
          waiting = good.waiting;
          ready = q.ready;
          seated = good.seated;
          holds = (let h = then_good.holds in record { values = h.values; blocks = h.blocks; buffers = h.buffers; choices = h.choices; count = h.count; outside = h.outside });
          typed = then_good.typed;
          reached = q.reached;
        };
        held = record { same = λ holder n less at. refl };
        ids = λ e. q.keeps;
      }))
