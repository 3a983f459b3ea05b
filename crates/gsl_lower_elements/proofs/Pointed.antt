-- A pointer to where a trail leads is there, or strays: to what is picked of a variable, and into a block.
use Rattle.std.proofs.Common.{◌≡◌, refl, sym, ap, ◌∙◌, subst, inl, inr, ℕ, ◌<◌, ◌≤◌, ◌⊎◌, Bool, true, false, if◌then◌else◌, List, [], ◌∷◌, ◌++◌, length, map, Option, Some, None, arith}
use Rattle.std.specs.Prelude.{◌==◌}
use Rattle.std.specs.List.{AllByRecursion}
use Rattle.gsl_base.specs.declared.input.Input.{Input}
use Rattle.gsl_layout.specs.Layout.{Leaf as Run}
use Rattle.gsl_types.specs.Known.{AreStructs, IsSound}
use Rattle.gsl_types.specs.declared.ty.Ty.{Ty}
use Rattle.gsl_words.specs.declared.module.Module.{Module}
use Rattle.gsl_values.specs.declared.value.Value.{Value}
use Rattle.gsl_tree.specs.Around.{Around}
use Rattle.gsl_tree.specs.Laying.{rule_of}
use Rattle.gsl_tree.specs.Shapes.{Shape, shape_of}
use Rattle.gsl_tree.specs.Values.{components_in}
use Rattle.gsl_tree.specs.declared.program.Program.{Program}
use Rattle.gsl_views.specs.Paths.{Leads}
use Rattle.gsl_meaning.specs.Accesses.{Access}
use Rattle.gsl_meaning.specs.State as shader
use Rattle.gsl_machine.specs.State.{Ids, InBlock, Pointer, Points, State}
use Rattle.gsl_spv.specs.Sections.{Sections}
use Rattle.gsl_lower_values.specs.Building.{Step}
use Rattle.gsl_lower_places.specs.Pointed.{pointed, pointed_at, pointed_by, pointed_to}
use Rattle.gsl_lower_places.specs.Reached.{stored_shape}
use Rattle.gsl_lower_places.specs.Reading.{number_in}
use Rattle.gsl_lower_places.specs.declared.reached.Base.TheVariants.{Variable}
use Rattle.gsl_lower_places.specs.declared.reached.Part.{Part}
use Rattle.gsl_lower_places.specs.declared.reached.Part.TheVariants.{Fixed}
use Rattle.gsl_lower_places.specs.declared.reached.Picked.{Picked}
use Rattle.gsl_lower_places.specs.declared.reached.Reached.{Reached}
use Rattle.gsl_lower_law.specs.Computing.{Does}
use Rattle.gsl_lower_law.specs.Straying.{Strays}
use Rattle.gsl_lower_law.specs.Values.{IsOf}
use Rattle.gsl_lower_law_constructors.proofs.Shares.{words_in}
use Rattle.gsl_lower_law_places.specs.Components.{AreWithin, Chooses, HoldsComponents, Picks}
use Rattle.gsl_lower_law_places.specs.Leading.{LeadsTo, NumberEach, Numbers}
use Rattle.gsl_lower_law_places.proofs.Reading.{leads_on, numbers_on, several, some_components, stored_count}
use Rattle.gsl_lower_law_picks.proofs.Along.{stray_on}
use Rattle.gsl_lower_law_picks.proofs.Pointed.{component_pointed_out, path_pointed_out, pointed_does, whole_pointed_out}
use Rattle.gsl_lower_law_blocks.proofs.Laid.{paths_lead}
use Rattle.gsl_lower_reaching.proofs.OfLawMembers.{leads_further}
use Rattle.gsl_lower_law_layouts.proofs.Laid.{leaves_laid}
use Rattle.gsl_lower_leaves.specs.Leaves.{leaves_of}
use Rattle.gsl_lower_leaves.specs.declared.leaf.Leaf.{Leaf}
use Rattle.gsl_lower_holders.specs.Flow.{Flow}
use Rattle.gsl_lower_follows.specs.Frames.{Frame, Good, HeldAs}
use Rattle.gsl_lower_reaching.specs.Reaching.{IsBlockTrail, PicksBy, Start}
use Rattle.gsl_lower_reaching.specs.Trails.{Chosen, IsInside, IsOut, IsOutside, IsPicked, LacksComponent, LeadsOut, Trail}
use Rattle.gsl_lower_reaching.proofs.Moving.{chooses_stand}
use Rattle.gsl_lower_reaching.proofs.Parts.{out_whole, whole_picked}
use Rattle.gsl_lower_elements.proofs.Indexing.{none_shape}
use Rattle.gsl_lower_elements.proofs.Read.{of_whole, picks_stand}
use Rattle.gsl_lower_elements.proofs.Standing.{bytes, from, held, laid, leads, leads_there, number_each, points, run_held, run_of, run_value, to, whole_is, whole_layout}
use Rattle.gsl_lower_elements.proofs.Strayed.{all_numbers, component_in, component_out, path_strays, picks_out}

-- the pointer is there, and nothing more is asked of it
abbrev pub AnyAt : Reached → Ids → Type 0
AnyAt r ids = Unit {0}

-- ---- what is picked, at positions that may repeat

module _ (m : Module) (input : Input) (sections : Sections) where
  pub whole_there : (id class : ℕ) (shape : Shape) (parts : List Part) (words : List ℕ) (start to : Pointer) (state : State) (before : Sections) → state.ids id ≡ Some (Points start) → NumberEach state.ids parts words → LeadsTo m input state start words to
      → Does m input sections AnyAt state.choices state before (pointed shape (record { base = Variable id class; path = parts; picked = None }))
  unfolding pointed
  whole_there id class shape parts words start to state before stands each leads = pointed_does m input sections AnyAt id class shape parts None words start to state before stands each leads (λ r ids keeps at. tt)

  module _ (id class : ℕ) (parts : List Part) (q : Picked) (by : Option ℕ) (words : List ℕ) (start to : Pointer) (v : Value) (state : State) (before : Sections) (stands : state.ids id ≡ Some (Points start)) (each : NumberEach state.ids parts words) (leads : LeadsTo m input state start words to)
      (holds : HoldsComponents m input state to v) (is : IsOf (stored_shape class q.shape) v) (picks : Picks state.ids q by) where
    abbrev Points_ : Step Reached → Type 0
    Points_ step = Does m input sections AnyAt state.choices state before step

    component_there : (part : Part) (k : ℕ) → Numbers state.ids part k → 2 ≤ q.shape.1 → k < q.shape.1 → Points_ (pointed_to id class (q.shape.0, 1) (parts ++ part ∷ []) None)
    component_there part k number many less =
        let counted : length (components_in v) ≡ q.shape.1 = ap length (words_in v is) ∙ is.count ∙ stored_count class q.shape in
        let one = holds.each k (omega (arith, many, counted)) (omega (arith, less, counted)) in
        pointed_does m input sections AnyAt id class (q.shape.0, 1) (parts ++ part ∷ []) None (words ++ k ∷ []) start one.0 state before stands (numbers_on state.ids parts (part ∷ []) words (k ∷ []) each (number, tt)) (leads_on m input state start to one.0 words (k ∷ []) leads one.1) (λ r ids keeps at. tt)

    all_there : (picked : Option Picked) → Points_ (pointed_to id class q.shape parts picked)
    all_there picked = pointed_does m input sections AnyAt id class q.shape parts picked words start to state before stands each leads (λ r ids keeps at. tt)

    vector_there : (positions : List ℕ) → 2 ≤ q.shape.1 → AreWithin q.shape.1 None positions → Points_ (pointed_at id class parts q positions)
    vector_there [] many within = all_there (Some q)
    vector_there (position ∷ []) many within = component_there (Fixed position) position refl many within.0
    vector_there (position ∷ next ∷ more) many within = all_there (Some q)

    by_there : (part : Option Part) (word : Option ℕ) → Chooses state.ids part word → AreWithin q.shape.1 word q.positions → 2 ≤ q.shape.1 → Points_ (pointed_by id class parts q part)
    by_there None None chooses within many = vector_there q.positions many within
    by_there None (Some k) chooses within many = absurd chooses
    by_there (Some part) None chooses within many = absurd chooses
    by_there (Some part) (Some k) chooses within many = component_there part k chooses many within.0

    pub picked_there : (shape : Shape) → Points_ (pointed shape (record { base = Variable id class; path = parts; picked = Some q }))
    unfolding pointed
    picked_there shape = by_count (q.shape.1 == 1) refl
      where
        by_count : (b : Bool) → (q.shape.1 == 1) ≡ b → Points_ (if b then pointed_to id class q.shape parts None else pointed_by id class parts q q.by)
        by_count true e = all_there None
        by_count false e = by_there q.by by picks.by_word picks.within (several q.shape.1 e (some_components q.shape.1 by q.positions picks.some picks.within))

-- ---- in blocks

module _ (m : Module) (input : Input) (sections : Sections) (f : Frame m input sections) (p : Program) (around : Around) (are : AreStructs p.structs) (start : Start) (b : Flow) (s : shader.State) (state : State) (r : Reached) (l : Trail) (good : Good m input sections f p around b s state)
    (x : IsBlockTrail m input sections f p around false start b state r l) (writes : Bool) (t : Ty) where
  abbrev at_base : List Part → Option Picked → Reached
  at_base parts picked = record { base = Variable x.begins.id x.begins.class; path = parts; picked = picked }

  from_base : (shape : Shape) → pointed shape r ≡ pointed shape (at_base r.path r.picked)
  from_base shape = ap (λ base. pointed shape (record r { base = base })) x.begins.is

  abbrev begun : Pointer
  begun = from m input sections f p around are start b s state r l good x

  module _ (a : Access) (inside : IsInside p.structs p.blocks writes t a l) (sound_t : IsSound (length p.structs) t) where
    run_pointed : (shape : Shape) → shape_of t ≡ Some shape → (o : Option Picked) (c : Option Chosen) → PicksBy (λ id v. HeldAs m input sections f false id v b state) o c → IsPicked inside.whole t (l.front ++ l.words) c a.path a.picked → Does m input sections AnyAt state.choices state b.sections (pointed shape (at_base r.path o))
    run_pointed shape shaped None None picks y =
        whole_there m input sections x.begins.id x.begins.class shape r.path l.front begun (to m input sections f p around are start b s state r l good x) state b.sections (points m input sections f p around are start b s state r l good x)
        (number_each m input sections f p around are start b s state r l good x writes t a inside) (leads m input sections f p around are start b s state r l good x)
    run_pointed shape shaped None (Some c) picks y = absurd picks
    run_pointed shape shaped (Some q) None picks y = absurd picks
    run_pointed shape shaped (Some q) (Some c) picks y =
        let of = of_whole m input sections f p around are start b s state r l good x writes t a inside sound_t c.shape y.of in
        picked_there m input sections x.begins.id x.begins.class r.path q c.word l.front begun (to m input sections f p around are start b s state r l good x) (run_value m input sections f p around are start b s state r l good x c.shape of) state b.sections (points m input sections f p around are start b s state r l good x)
        (number_each m input sections f p around are start b s state r l good x writes t a inside) (leads m input sections f p around are start b s state r l good x) (run_held m input sections f p around are start b s state r l good x c.shape of)
        (subst (λ shape. IsOf (stored_shape x.begins.class shape) (run_value m input sections f p around are start b s state r l good x c.shape of)) (sym picks.0) (run_of m input sections f p around are start b s state r l good x c.shape of))
        (picks_stand m input sections f p around are start b s state r l good x writes t a inside sound_t q c picks y.some y.within) shape

    pub block_pointed : (shape : Shape) → shape_of t ≡ Some shape → Does m input sections AnyAt state.choices state b.sections (pointed shape r)
    block_pointed shape shaped = subst (Does m input sections AnyAt state.choices state b.sections) (sym (from_base shape)) (run_pointed shape shaped r.picked l.picks x.picks inside.picks)

    -- ---- a leaf

    abbrev LeafLeads : Leaf → Type 0
    LeafLeads one = (offset : ℕ) × (one.path ≡ map Fixed (map number_in one.path)) × Leads (length (bytes m input sections f p around are start b s state r l good x)) (laid m input sections f p around are start b s state r l good x) x.begins.offset (map number_in one.path) (Run one.shape.1) offset

    leaves_lead : shape_of t ≡ None → AllByRecursion LeafLeads (leaves_of p.structs t)
    leaves_lead none =
        let same = (whole_picked inside.whole t (l.front ++ l.words) l.picks a.path a.picked (none_shape t none) inside.picks).same in
        subst (λ u. AllByRecursion LeafLeads (leaves_of p.structs u)) (whole_is m input sections f p around are start b s state r l good x writes t a inside ∙ same)
        (leaves_laid (length (bytes m input sections f p around are start b s state r l good x)) (rule_of x.begins.block.std140) p.structs l.ty x.begins.offset)

    fixed_each : (ids : Ids) (numbers : List ℕ) → NumberEach ids (map Fixed numbers) numbers
    fixed_each ids [] = tt
    fixed_each ids (number ∷ numbers) = (refl, fixed_each ids numbers)

    pub leaf_pointed : (one : Leaf) → LeafLeads one → Does m input sections AnyAt state.choices state b.sections (pointed one.shape (at_base (r.path ++ one.path) None))
    leaf_pointed one (offset, fixed, lead) =
        let numbers = map number_in one.path in
        let further = leads_further (length (bytes m input sections f p around are start b s state r l good x)) (whole_layout m input sections f p around are start b s state r l good x) (laid m input sections f p around are start b s state r l good x) (Run one.shape.1) 0 x.begins.offset offset l.front numbers
        (leads_there m input sections f p around are start b s state r l good x) lead in
        let so = paths_lead m input x.begins.id (length (bytes m input sections f p around are start b s state r l good x)) (whole_layout m input sections f p around are start b s state r l good x) (Run one.shape.1) 0 x.begins.knows.type offset (l.front ++ numbers) x.begins.knows.lie further in
        whole_there m input sections x.begins.id x.begins.class one.shape (r.path ++ one.path) (l.front ++ numbers) begun (InBlock x.begins.id offset so.0) state b.sections (points m input sections f p around are start b s state r l good x)
        (numbers_on state.ids r.path one.path l.front numbers (number_each m input sections f p around are start b s state r l good x writes t a inside) (subst (λ parts. NumberEach state.ids parts numbers) (sym fixed) (fixed_each state.ids numbers)))
        (so.2 state (bytes m input sections f p around are start b s state r l good x) (held m input sections f p around are start b s state r l good x).1 refl)

    pub leaves_in : shape_of t ≡ None → AllByRecursion (λ (one : Leaf). Does m input sections AnyAt state.choices state b.sections (pointed one.shape (at_base (r.path ++ one.path) None))) (leaves_of p.structs t)
    leaves_in none = each (leaves_of p.structs t) (leaves_lead none)
      where
        each : (leaves : List Leaf) → AllByRecursion LeafLeads leaves → AllByRecursion (λ (one : Leaf). Does m input sections AnyAt state.choices state b.sections (pointed one.shape (at_base (r.path ++ one.path) None))) leaves
        each [] all = tt
        each (one ∷ more) all = (leaf_pointed one all.0, each more all.1)

  -- ---- out of bounds

  module _ (outside : IsOutside p.structs p.blocks writes t l) where
    run_out : (shape : Shape) (o : Option Picked) (c : Option Chosen) → PicksBy (λ id v. HeldAs m input sections f false id v b state) o c → IsOut p.structs l.ty t l.words c → Strays m input sections state b.sections (pointed shape (at_base r.path o))
    run_out shape None None picks out = whole_pointed_out m input sections x.begins.id x.begins.class shape r.path (l.front ++ l.words) begun state b.sections (points m input sections f p around are start b s state r l good x) (all_numbers m input sections f p around are start b s state r l good x) (path_strays m input sections f p around are start b s state r l good x out)
    run_out shape None (Some c) picks out = absurd picks
    run_out shape (Some q) None picks out = absurd picks
    run_out shape (Some q) (Some c) picks y = by y.out
      where
        by : LeadsOut p.structs l.ty l.words ⊎ LacksComponent p.structs l.ty l.words c → Strays m input sections state b.sections (pointed shape (at_base r.path (Some q)))
        by (inl out) =
            path_pointed_out m input sections x.begins.id x.begins.class r.path q (l.front ++ l.words) begun state b.sections (points m input sections f p around are start b s state r l good x) (all_numbers m input sections f p around are start b s state r l good x) shape c.word
            (path_strays m input sections f p around are start b s state r l good x out) (chooses_stand state.ids q.by c.word picks.2)
        by (inr z) =
            component_pointed_out m input sections x.begins.id x.begins.class r.path q (l.front ++ l.words) begun state b.sections (points m input sections f p around are start b s state r l good x) (all_numbers m input sections f p around are start b s state r l good x) shape
            (to m input sections f p around are start b s state r l good x) z.word (component_in m input sections f p around are start b s state r l good x c z) (component_out m input sections f p around are start b s state r l good x c z)
            (picks_out m input sections f p around are start b s state r l good x writes t outside q c y z picks)

    pub block_pointed_out : (shape : Shape) → Strays m input sections state b.sections (pointed shape r)
    block_pointed_out shape = subst (Strays m input sections state b.sections) (sym (from_base shape)) (run_out shape r.picked l.picks x.picks outside.out)

    pub leaf_pointed_out : shape_of t ≡ None → (one : Leaf) → NumberEach state.ids one.path (map number_in one.path) → Strays m input sections state b.sections (pointed one.shape (at_base (r.path ++ one.path) None))
    leaf_pointed_out none one numbers =
        let words = l.front ++ l.words in
        whole_pointed_out m input sections x.begins.id x.begins.class one.shape (r.path ++ one.path) (words ++ map number_in one.path) begun state b.sections (points m input sections f p around are start b s state r l good x)
        (numbers_on state.ids r.path one.path words (map number_in one.path) (all_numbers m input sections f p around are start b s state r l good x) numbers)
        (stray_on m input state begun words (map number_in one.path) (path_strays m input sections f p around are start b s state r l good x (out_whole p.structs l.ty t l.words l.picks (none_shape t none) outside.out).1))
