-- A struct or an array that is read leaf by leaf where a trail in a block leads.
use Rattle.std.proofs.Common.{◌≡◌, ◌≢◌, refl, sym, ap, ◌∙◌, subst, inr, ℕ, ◌<◌, Bool, true, false, List, [], ◌∷◌, ◌++◌, length, map, Option, Some, None, arith}
use Rattle.std.specs.Prelude.{set, slice_get}
use Rattle.std.specs.List.{AllByRecursion}
use Rattle.std.proofs.lemmas.List.{length-set}
use Rattle.gsl_base.specs.declared.input.Input.{Input}
use Rattle.gsl_instr.specs.declared.op.TheConstants as op
use Rattle.gsl_layout.specs.Layout.{Layout, Leaf as Run}
use Rattle.gsl_types.specs.Known.{AreStructs, IsSound}
use Rattle.gsl_types.specs.declared.ty.Ty.{Ty}
use Rattle.gsl_words.specs.declared.module.Module.{Module}
use Rattle.gsl_values.specs.declared.value.Value.{Value}
use Rattle.gsl_tree.specs.Around.{Around}
use Rattle.gsl_tree.specs.Laying.{rule_of}
use Rattle.gsl_tree.specs.Operations.{value_at}
use Rattle.gsl_tree.specs.Shapes.{shape_of}
use Rattle.gsl_tree.specs.Values.{is_value_of}
use Rattle.gsl_tree.specs.declared.program.Program.{Program}
use Rattle.gsl_tree.specs.declared.unit.Block.{Block}
use Rattle.gsl_views.specs.Paths.{Leads}
use Rattle.gsl_views.specs.Seen.{seen}
use Rattle.gsl_meaning.specs.Accesses.{Access, pick, read as means_read, root_value, told}
use Rattle.gsl_meaning.specs.Blocks.{value_of}
use Rattle.gsl_meaning.specs.Running.{Got}
use Rattle.gsl_meaning.specs.State as shader
use Rattle.gsl_valid.specs.Valid.{Valid}
use Rattle.gsl_machine.specs.State.{InVariable, Points, State}
use Rattle.gsl_spv.specs.Declarations.{instr}
use Rattle.gsl_spv.specs.Sections.{Sections}
use Rattle.gsl_typed_law.specs.Plain.{ArePlain}
use Rattle.gsl_lower_text.specs.Written.{Written}
use Rattle.gsl_lower_values.specs.Building.{Built, Full, Made, Step}
use Rattle.gsl_lower_places.specs.Reading.{number_in}
use Rattle.gsl_lower_places.specs.declared.reached.Part.TheVariants.{Fixed}
use Rattle.gsl_lower_places.specs.declared.reached.Reached.{Reached}
use Rattle.gsl_lower_leaves.specs.Copies.{read_whole}
use Rattle.gsl_lower_leaves.specs.Leaves.{leaves_of}
use Rattle.gsl_lower_leaves.specs.declared.leaf.Leaf.{Leaf}
use Rattle.gsl_lower_holders.specs.Flow as flow
use Rattle.gsl_lower_holders.specs.Flow.{Emit, Flow, Lowered, behind, built_in, find_type, id_at, lift, type_by, type_id}
use Rattle.gsl_lower_holders.specs.Waiting.{holder, holder_at}
use Rattle.gsl_lower_holders.specs.declared.place.FlowPlace.{FlowPlace}
use Rattle.gsl_lower_expr.specs.Parts.{read_block}
use Rattle.gsl_lower_law.specs.Computing.{Left}
use Rattle.gsl_lower_law.specs.Values.{Stands}
use Rattle.gsl_lower_law_copies.specs.Copying.{filled}
use Rattle.gsl_lower_law_copies.specs.Worded.{has_words}
use Rattle.gsl_lower_law_copies.proofs.Copied.{whole_out}
use Rattle.gsl_lower_reads.proofs.OfLawBlocks.{LeadsSo, paths_lead}
use Rattle.gsl_lower_reads.proofs.OfLawBlocks.{LieSeen, leaves_lie}
use Rattle.gsl_lower_law_layouts.proofs.Laid.{leaves_laid}
use Rattle.gsl_lower_law_members.specs.Parts.{laid_as}
use Rattle.gsl_lower_follows.specs.Frames.{Frame, Good, Holder, Holds, Name, value_of as value_named}
use Rattle.gsl_lower_follows.specs.Giving.{Does, HasGiven, none_waits}
use Rattle.gsl_lower_follows.proofs.Doing.{does_lift}
use Rattle.gsl_lower_follows.proofs.Holding.{found_among, good_using, holder_number, seat_known, set_elsewhere, using}
use Rattle.gsl_lower_reads.specs.OfReaching.{IsBlockTrail, IsInside, Start, Trail}
use Rattle.gsl_lower_reads.proofs.OfReaching.{IsWhole, whole_picked}
use Rattle.gsl_lower_reads.proofs.OfElements.{none_shape}
use Rattle.gsl_lower_reads.proofs.OfElements.{bytes, from, held, laid, leads_there, number_each, points, read_told, there, value_there, whole_is, whole_layout}
use Rattle.gsl_lower_law_gathered.specs.Gathering.{AreShaped, HasValues}
use Rattle.gsl_lower_law_gathered.proofs.Formed.{shaped_formed}
use Rattle.gsl_lower_law_gathered.proofs.Loaded.{PutsLoad, load_put, load_shaped, still_there}
use Rattle.gsl_lower_law_gathered.proofs.Types.{FineType, has_form, values_fine}

module _ (m : Module) (input : Input) (sections : Sections) (f : Frame m input sections) (p : Program) (around : Around) where
  -- the state with another value in a holder is that of the shader all the same
  holds_held : (count number : ℕ) (v : Value) (s : shader.State) (state : State) → f.seat (Holder count) ≡ Some number → Holds m input sections f p around s state → Holds m input sections f p around s (record state { variables = set state.variables number v })
  holds_held count number v s state seat holds = record {
    values = λ name w is. let at = holds.values name w is in (at.0, at.1, set_elsewhere state.variables number at.0 v (λ e. no_holder name w is (f.apart name (Holder count) number (at.1 ∙ ap Some e) seat)) ∙ at.2);
    blocks = holds.blocks;
    buffers = holds.buffers;
    choices = holds.choices;
    count = length-set state.variables number v ∙ holds.count;
    outside = λ other none. set_elsewhere state.variables number other v (λ e. none (Holder count) (seat ∙ ap Some (sym e))) ∙ holds.outside other none;
  }
    where
      no_holder : (name : Name) (w : Value) → value_named f.stages s name ≡ Some w → name ≢ Holder count
      no_holder name w is e = absurd (let none : value_named f.stages s (Holder count) ≡ Some w = subst (λ n. value_named f.stages s n ≡ Some w) e is in cc)

module _ (m : Module) (input : Input) (sections : Sections) (f : Frame m input sections) (p : Program) (around : Around) (valid : Valid m) (written : Written m sections) (shaped : AreShaped m input sections f p around) (are : AreStructs p.structs) (plain : ArePlain p.structs)
    (start : Start) (b : Flow) (s : shader.State) (state : State) (r : Reached) (l : Trail) (good : Good m input sections f p around b s state) (x : IsBlockTrail m input sections f p around false start b state r l)
    (t : Ty) (sound_t : IsSound (length p.structs) t) (none : shape_of t ≡ None) (values : HasValues m p.structs f.place t) (writes : Bool) (a : Access) (inside : IsInside p.structs p.blocks writes t a l) where
  abbrev it : List ℕ
  it = bytes m input sections f p around are start b s state r l good x

  abbrev block : Block
  block = x.begins.block

  abbrev all : Layout
  all = whole_layout m input sections f p around are start b s state r l good x

  abbrev part : Layout
  part = laid m input sections f p around are start b s state r l good x

  abbrev leaves : List Leaf
  leaves = leaves_of p.structs t

  -- what is seen there
  abbrev v : Value
  v = value_of (seen part x.begins.offset it)

  whole : IsWhole inside.whole t (l.front ++ l.words) l.picks a.path a.picked
  whole = whole_picked inside.whole t (l.front ++ l.words) l.picks a.path a.picked (none_shape t none) inside.picks

  same : l.ty ≡ t
  same = whole_is m input sections f p around are start b s state r l good x writes t a inside ∙ whole.same

  fine : FineType x.begins.class x.begins.inside p.structs (rule_of block.std140) t
  fine = values_fine x.begins.class x.begins.inside p.structs (rule_of block.std140) are plain t sound_t values.plain

  worded : has_words p.structs t v ≡ true
  worded =
      subst (λ u. has_words p.structs t (value_of (seen (laid_as block.std140 p.structs u) x.begins.offset it)) ≡ true) (sym same)
      (fine.lies x.begins.offset it (held m input sections f p around are start b s state r l good x).3)

  -- ---- what the shader reads

  result_told : means_read p.structs t a s ≡ told p.structs t v
  result_told =
      read_told m input sections f p around are start b s state r l good x writes t a inside
      ∙ ap (told p.structs t)
      (ap (λ o. pick o (value_at (root_value a.root s) a.path)) whole.unpicked ∙ ap (value_at (root_value a.root s)) whole.path_is
      ∙ value_there m input sections f p around are start b s state r l good x writes t a inside ∙ there m input sections f p around are start b s state r l good x)

  result_typed : is_value_of p.structs t (means_read p.structs t a s) ≡ true
  result_typed = ap (is_value_of p.structs t) result_told ∙ fine.tells v worded

  -- ---- where its leaves lie

  abbrev LeafLeads : Leaf → Type 0
  LeafLeads one = (offset : ℕ) × (one.path ≡ map Fixed (map number_in one.path)) × Leads (length it) part x.begins.offset (map number_in one.path) (Run one.shape.1) offset

  leaves_lead : AllByRecursion LeafLeads leaves
  leaves_lead = subst (λ u. AllByRecursion LeafLeads (leaves_of p.structs u)) same (leaves_laid (length it) (rule_of block.std140) p.structs l.ty x.begins.offset)

  so : LeadsSo m input x.begins.id (length it) 0 x.begins.knows.type l.front part x.begins.offset
  so = paths_lead m input x.begins.id (length it) all part 0 x.begins.knows.type x.begins.offset l.front x.begins.knows.lie (leads_there m input sections f p around are start b s state r l good x)

  lie : LieSeen m input x.begins.id (length it) x.begins.offset so.0 (from m input sections f p around are start b s state r l good x) l.front part so.1 so.2 leaves
  lie = leaves_lie m input x.begins.id (length it) x.begins.offset so.0 (from m input sections f p around are start b s state r l good x) l.front part so.1 so.2 leaves leaves_lead

  -- ---- the copy

  module _ (units h type number : ℕ) (seat : f.seat (Holder b.place.used) ≡ Some number) (own : f.own h ≡ Some (Points (InVariable number []))) (known : find_type t f.place.composites ≡ Some type) (old : Value) (old_there : slice_get state.variables number ≡ Some old) where
    abbrev step : Step ℕ
    step = read_whole x.begins.id x.begins.class r.path h type leaves

    abbrev left : Left
    left = record { choices = state.choices; variables = set state.variables number (filled old v leaves); buffers = state.buffers }

    holder_points : state.ids h ≡ Some (Points (InVariable number []))
    holder_points = good.ready.lasting.same h _ own

    -- into a variable of the form of the type
    copied : has_form p.structs t old ≡ true → Does m input sections f p 0 units state (HasGiven m input sections f p around false t b state) none_waits (Got (means_read p.structs t a s) s units) (lift step (using m input sections f p around b))
    copied form =
        let fills = fine.fills old v form worded in
        does_lift m input sections f p around units (using m input sections f p around b) s state (λ id ids. Stands ids id (filled old v leaves)) left (HasGiven m input sections f p around false t b state) none_waits (means_read p.structs t a s) s step (good_using m input sections f p around b s state good)
        (whole_out m input sections x.begins.id x.begins.class r.path h type l.front (from m input sections f p around are start b s state r l good x) x.begins.id number it v leaves lie.0 old state b.sections
        (points m input sections f p around are start b s state r l good x) (number_each m input sections f p around are start b s state r l good x writes t a inside) (held m input sections f p around are start b s state r l good x).1 lie.1
        (lie.3 x.begins.class it x.begins.inside refl (held m input sections f p around are start b s state r l good x).3) holder_points old_there fills.1)
        (λ id later q within extends. record {
          given = inr (result_typed, subst (Stands q.ids id) (fills.0 ∙ sym result_told) q.is);
          after = record {
            good = record {
              inside = within;
              rest = refl;
              within = good.within;
              own = good.own;
              waiting = good.waiting;
              ready = q.ready;
              seated = (good_using m input sections f p around b s state good).seated;
              holds = (let h = holds_held m input sections f p around b.place.used number (filled old v leaves) s state seat good.holds in record { values = h.values; blocks = h.blocks; buffers = h.buffers; choices = h.choices; count = h.count; outside = h.outside });
              typed = good.typed;
              reached = q.reached;
            };
            held = record { same = λ count n less at. set_elsewhere state.variables number n (filled old v leaves) (λ e. absurd (let one : Holder count ≡ Holder b.place.used = f.apart (Holder count) (Holder b.place.used) n at (seat ∙ ap Some (sym e)) in let k : count ≡ b.place.used = ap holder_number one in omega (arith, less, k))) };
            ids = λ e. q.keeps;
          };
        })

    -- the variable is loaded as of the type, so it has that form
    taken : Does m input sections f p 0 units state (HasGiven m input sections f p around false t b state) none_waits (Got (means_read p.structs t a s) s units) (lift step (using m input sections f p around b))
    taken = by (step b.sections) (load_put x.begins.id x.begins.class r.path h type leaves b.sections) copied
      where
        by : (built : Built ℕ) → PutsLoad h type built
            → (has_form p.structs t old ≡ true → Does m input sections f p 0 units state (HasGiven m input sections f p around false t b state) none_waits (Got (means_read p.structs t a s) s units) (built_in (using m input sections f p around b).place built))
            → Does m input sections f p 0 units state (HasGiven m input sections f p around false t b state) none_waits (Got (means_read p.structs t a s) s units) (built_in (using m input sections f p around b).place built)
        by Full put go = tt
        by (Made id later) put go = λ within.
            let load = instr op.LOAD (type ∷ id ∷ h ∷ []) in
            let is = load_shaped m valid state (shaped.typed state b s good) type id h number old (written.functions load (still_there later sections load within.extends put)) holder_points old_there in
            go (fine.forms old (shaped_formed m type old is ∙ values.zeros_are type known)) within

  -- ---- the holder and the type

  module _ (units : ℕ) where
    abbrev Gives_ : Lowered ℕ → Type 0
    Gives_ low = Does m input sections f p 0 units state (HasGiven m input sections f p around false t b state) none_waits (Got (means_read p.structs t a s) s units) low

    abbrev low : ℕ → ℕ → Emit ℕ
    low h type = lift (read_whole x.begins.id x.begins.class r.path h type leaves)

    by_type : (h number : ℕ) → f.seat (Holder b.place.used) ≡ Some number → f.own h ≡ Some (Points (InVariable number [])) → Gives_ (behind (type_id t (using m input sections f p around b)) (low h))
    unfolding type_id
    by_type h number seat own = subst (λ o. Gives_ (behind (type_by t o (using m input sections f p around b)) (low h))) (sym none) (by (find_type t b.place.composites) refl)
      where
        by : (o : Option ℕ) → find_type t b.place.composites ≡ o → Gives_ (behind (id_at o (using m input sections f p around b)) (low h))
        by None e = tt
        by (Some type) e =
            let among : number < length state.variables = subst (λ n. number < n) (sym good.holds.count) (f.among (Holder b.place.used) number seat) in
            let old = found_among state.variables number among in
            taken units h type number seat own (ap (λ (place : FlowPlace). find_type t place.composites) (sym good.seated.same) ∙ e) old.0 old.1

    pub block_gathered : Gives_ (read_block p.structs t x.begins.id x.begins.class r.path b)
    unfolding holder
    block_gathered = by (slice_get b.place.holders b.place.used) refl
      where
        by : (o : Option ℕ) → slice_get b.place.holders b.place.used ≡ o → Gives_ (behind (holder_at o b) (λ h. flow.◌>>=◌ (type_id t) (low h)))
        by None e = tt
        by (Some h) e = let known = seat_known m input sections f b.place good.seated (Holder b.place.used) h e in by_type h known.0 known.1 known.2
