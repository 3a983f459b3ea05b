-- What stands where a trail in a block leads.
use Rattle.std.proofs.Common.{◌≡◌, refl, sym, ap, ◌∙◌, subst, inl, inr, ℕ, ◌+◌, ◌*◌, ◌<◌, ◌≤◌, ◌⊎◌, Bool, true, false, List, [], ◌++◌, length, map, Option, Some, None, append-nil, arith, if◌then◌else◌}
use Rattle.std.specs.Prelude.{nat_lt, slice_get}
use Rattle.std.specs.List.{range_with_len}
use Rattle.std.proofs.lemmas.Bool.{cases_lt}
use Rattle.std.proofs.lemmas.List.{length-map}
use Rattle.std.proofs.lemmas.List.FromFn.{length-map-range_with_len}
use Rattle.gsl_base.specs.declared.input.Input.{Input}
use Rattle.gsl_layout.specs.Layout.{Layout, Leaf, Runtime}
use Rattle.gsl_types.specs.Known.{AreStructs, IsSound}
use Rattle.gsl_types.specs.declared.ty.Ty.{Ty}
use Rattle.gsl_words.specs.Words.{word_at}
use Rattle.gsl_words.specs.declared.module.Module.{Module}
use Rattle.gsl_values.specs.declared.value.Value.{Value}
use Rattle.gsl_values.specs.declared.value.Value.TheVariants.{Many, Word, outs-Many}
use Rattle.gsl_tree.specs.Around.{Around}
use Rattle.gsl_tree.specs.Expressions.{element_of}
use Rattle.gsl_tree.specs.Laying.{layout_of}
use Rattle.gsl_tree.specs.Operations.{length_of, value_at}
use Rattle.gsl_tree.specs.Shapes.{Shape, shape_of}
use Rattle.gsl_tree.specs.Values.{components_in, of_components, parts_in, parts_layer}
use Rattle.gsl_tree.specs.declared.program.Program.{Program}
use Rattle.gsl_typed_law.specs.Parts.{LeadsTo as LeadsToType}
use Rattle.gsl_views.specs.Paths.{Leads}
use Rattle.gsl_views.specs.Seen.{nothing, seen}
use Rattle.gsl_views.specs.Viewed.{elements}
use Rattle.gsl_meaning.specs.Accesses.{Access, count_parts, found, is_block, parts_at, read, root_value, told}
use Rattle.gsl_meaning.specs.Blocks.{value_of, words_in}
use Rattle.gsl_meaning.specs.State as shader
use Rattle.gsl_machine.specs.Memory.{bytes_of}
use Rattle.gsl_machine.specs.State.{InBlock, Pointer, Points, State}
use Rattle.gsl_owed.specs.Types.{lies}
use Rattle.gsl_spv.specs.Sections.{Sections}
use Rattle.gsl_lower_places.specs.Reached.{stored_scalar, stored_shape}
use Rattle.gsl_lower_places.specs.declared.reached.Reached.{Reached}
use Rattle.gsl_lower_law.specs.Values.{IsOf}
use Rattle.gsl_lower_law.proofs.Components.{components_of}
use Rattle.gsl_lower_law_places.specs.Components.{HoldsComponents, chosen}
use Rattle.gsl_lower_law_places.specs.Leading.{LeadsTo, NumberEach}
use Rattle.gsl_lower_law_places.proofs.Blocks.{block_components}
use Rattle.gsl_lower_law_places.proofs.Variables.{parts_are}
use Rattle.gsl_lower_law_blocks.proofs.Laid.{LeadsSo, leaf_held, paths_lead}
use Rattle.gsl_lower_law_blocks.proofs.Lying.{run_lies}
use Rattle.gsl_lower_law_blocks.proofs.Shown.{parts_shown}
use Rattle.gsl_lower_reaching.specs.OfLawMembers.{IsRow, laid_as}
use Rattle.gsl_lower_reaching.specs.OfLawMembers.{counted, endless}
use Rattle.gsl_lower_reaching.specs.OfLawMembers.{size_of}
use Rattle.gsl_lower_reaching.proofs.OfLawMembers.{row_laid, shape_laid}
use Rattle.gsl_lower_reaching.proofs.OfLawMembers.{size_is}
use Rattle.gsl_lower_reaching.proofs.OfLawMembers.{vector_is}
use Rattle.gsl_lower_holders.specs.Flow.{Flow}
use Rattle.gsl_lower_follows.specs.Frames.{AreBytes, Frame, Good, HeldAs}
use Rattle.gsl_lower_reaching.specs.Reaching.{AtBlock, IsBlockTrail, NumberEachBy, Start}
use Rattle.gsl_lower_reaching.specs.Trails.{ArePicked, Chosen, IsInside, IsPicked, Trail, effective}
use Rattle.gsl_lower_reaching.specs.Trails.ArePicked.{swizzled, component, repeated}
use Rattle.gsl_lower_reaching.proofs.Blocks.{no_words}
use Rattle.gsl_lower_reaching.proofs.Counted.{vector_counted}
use Rattle.gsl_lower_reaching.proofs.Moving.{numbers_stand}
use Rattle.gsl_lower_reaching.proofs.Seen.{index_is}

-- the elements of a row
row_parts : (n : ℕ) (f : ℕ → Value) → length (parts_in (Many (map f (range_with_len 0 n)))) ≡ n
row_parts n f = ap length (ap parts_layer (outs-Many (map f (range_with_len 0 n)))) ∙ length-map-range_with_len f 0 n

module _ (m : Module) (input : Input) (sections : Sections) (f : Frame m input sections) (p : Program) (around : Around) (are : AreStructs p.structs) (start : Start) (b : Flow) (s : shader.State) (state : State) (r : Reached) (l : Trail) (good : Good m input sections f p around b s state)
    (x : IsBlockTrail m input sections f p around false start b state r l) where
  abbrev pub begun : AtBlock m input sections f p around start r.base l
  begun = x.begins

  abbrev pub held : (bytes : List ℕ) × (bytes_of m input state begun.id ≡ Some bytes) × (slice_get s.blocks begun.number ≡ Some (words_in p.structs begun.block bytes)) × AreBytes bytes
  held = good.holds.blocks begun.number begun.id begun.block begun.knows.known begun.knows.seat

  abbrev pub bytes : List ℕ
  bytes = held.0

  abbrev pub whole_layout : Layout
  whole_layout = layout_of p.structs begun.block

  abbrev pub laid : Layout
  laid = laid_as begun.block.std140 p.structs l.ty

  abbrev pub from : Pointer
  from = InBlock begun.id 0 begun.knows.type

  pub long : length bytes ≡ size_of m input begun.id
  long = size_is m input p.structs p.blocks s.blocks state begun.id bytes good.holds.buffers held.1

  pub leads_there : Leads (length bytes) whole_layout 0 l.front laid begun.offset
  leads_there = subst (λ n. Leads n whole_layout 0 l.front laid begun.offset) (sym long) begun.leads

  pub points : state.ids begun.id ≡ Some (Points from)
  points = good.ready.lasting.same begun.id _ begun.knows.points

  so : LeadsSo m input begun.id (length bytes) 0 begun.knows.type l.front laid begun.offset
  so = paths_lead m input begun.id (length bytes) whole_layout laid 0 begun.knows.type begun.offset l.front begun.knows.lie leads_there

  pub pointee : ℕ
  pointee = so.0

  abbrev pub to : Pointer
  to = InBlock begun.id begun.offset pointee

  pub leads : LeadsTo m input state from l.front to
  unfolding pointee
  leads = so.2 state bytes held.1 refl

  pub lie : lies m laid pointee ≡ true
  unfolding pointee
  lie = so.1

  pub there : value_at (root_value l.root s) l.front ≡ value_of (seen laid begun.offset bytes)
  there =
      ap (λ root. value_at (root_value root s) l.front) begun.begins ∙ ap (λ v. value_at v l.front) (index_is s.blocks begun.number (words_in p.structs begun.block bytes) held.2)
      ∙ parts_shown bytes whole_layout laid 0 begun.offset l.front leads_there

  -- ---- a run of components

  module _ (shape : Shape) (of : shape_of l.ty ≡ Some shape) where
    pub run : laid ≡ Leaf shape.1
    run = shape_laid p.structs 0 begun.block.std140 l.ty shape of

    abbrev pub run_value : Value
    run_value = of_components (map (λ k. word_at bytes (begun.offset + 4 * k)) (range_with_len 0 shape.1))

    pub run_there : value_at (root_value l.root s) l.front ≡ run_value
    run_there = there ∙ ap (λ l. value_of (seen l begun.offset bytes)) run

    pub run_lie : lies m (Leaf shape.1) pointee ≡ true
    run_lie = subst (λ l. lies m l pointee ≡ true) run lie

    pub run_of : IsOf (stored_shape begun.class shape) run_value
    run_of = run_lies begun.class shape bytes begun.offset begun.inside held.3

    pub run_stored : IsOf (stored_scalar shape.0, shape.1) run_value
    run_stored = subst (λ b. IsOf (if b then (stored_scalar shape.0, shape.1) else shape) run_value) begun.inside run_of

    run_long : length (components_in run_value) ≡ shape.1
    run_long = ap length (components_of (map (λ k. word_at bytes (begun.offset + 4 * k)) (range_with_len 0 shape.1))) ∙ length-map-range_with_len (λ k. word_at bytes (begun.offset + 4 * k)) 0 shape.1

    pub run_held : HoldsComponents m input state to run_value
    run_held = by (cases_lt shape.1 2)
      where
        by : (shape.1 < 2) ⊎ (2 ≤ shape.1) → HoldsComponents m input state to run_value
        by (inl few) = record { all = leaf_held m input state begun.id begun.offset pointee shape.1 bytes run_lie held.1; each = λ number many less. absurd (omega (arith, few, many, run_long)) }
        by (inr many) =
            let vector = vector_is m shape.1 pointee many run_lie in
            subst (λ n. HoldsComponents m input state to (of_components (map (λ k. word_at bytes (begun.offset + 4 * k)) (range_with_len 0 n)))) vector.1.size
            (block_components m input state begun.id begun.offset pointee bytes held.1 vector.0 shape.1 vector.1)

  -- ---- in bounds

  module _ (writes : Bool) (t : Ty) (a : Access) (inside : IsInside p.structs p.blocks writes t a l) where
    pub none : l.words ≡ []
    none = no_words m input sections f p around are start writes t b state r a l inside x

    pub numbers_are : l.front ++ l.words ≡ l.front
    numbers_are = ap (λ words. l.front ++ words) none ∙ append-nil l.front

    pub whole_is : l.ty ≡ inside.whole
    whole_is = subst (λ words. LeadsToType p.structs l.ty words inside.whole) none inside.leads

    pub number_each : NumberEach state.ids r.path l.front
    number_each = numbers_stand state.ids r.path l.front (subst (NumberEachBy (λ id v. HeldAs m input sections f false id v b state) r.path) numbers_are x.numbers)

    pub value_there : value_at (root_value a.root s) (l.front ++ l.words) ≡ value_at (root_value l.root s) l.front
    value_there = ap (λ root. value_at (root_value root s) (l.front ++ l.words)) inside.begins ∙ ap (value_at (root_value l.root s)) numbers_are

    pub read_told : read p.structs t a s ≡ told p.structs t (found a s)
    read_told = by (is_block a.root) (ap is_block (inside.begins ∙ begun.begins))
      where
        by : (block : Bool) → block ≡ true → (if block then told p.structs t (found a s) else found a s) ≡ told p.structs t (found a s)
        by true e = refl
        by false e = absurd cc

    -- ---- how many parts an index may name

    module _ (element : Ty) (has : element_of t ≡ Some element) where
      counted_by : shape_of t ≡ None → IsRow begun.block.std140 p.structs l.ty element laid → length (parts_in (value_of (seen laid begun.offset bytes))) ≡ elements laid begun.offset (length bytes)
      counted_by shapeless (counted stride is) =
          subst (λ l. length (parts_in (value_of (seen l begun.offset bytes))) ≡ elements l begun.offset (length bytes)) (sym is)
          (row_parts (length_of l.ty) (λ i. value_of (if nat_lt i (length_of l.ty) then seen (laid_as begun.block.std140 p.structs element) (begun.offset + stride * i) bytes else nothing)))
      counted_by shapeless (endless stride short is) =
          subst (λ l. length (parts_in (value_of (seen l begun.offset bytes))) ≡ elements l begun.offset (length bytes)) (sym is)
          (row_parts (elements (Runtime stride (laid_as begun.block.std140 p.structs element)) begun.offset (length bytes)) (λ i. value_of (if nat_lt i (elements (Runtime stride (laid_as begun.block.std140 p.structs element)) begun.offset (length bytes)) then seen (laid_as begun.block.std140 p.structs element) (begun.offset + stride * i) bytes else nothing)))

      pub row_counted : shape_of t ≡ None → parts_at a s ≡ elements laid begun.offset (size_of m input begun.id)
      row_counted shapeless = by l.picks inside.picks
        where
          by : (o : Option Chosen) → IsPicked inside.whole t (l.front ++ l.words) o a.path a.picked → parts_at a s ≡ elements laid begun.offset (size_of m input begun.id)
          by None (same, path, unpicked) =
              let ty : l.ty ≡ t = whole_is ∙ same in
              ap (λ o. count_parts o (value_at (root_value a.root s) a.path)) unpicked ∙ ap (λ path. length (parts_in (value_at (root_value a.root s) path))) path ∙ ap (λ v. length (parts_in v)) (value_there ∙ there)
              ∙ counted_by shapeless (row_laid p.structs 0 begun.block.std140 l.ty element (ap element_of ty ∙ has) (ap shape_of ty ∙ shapeless)) ∙ ap (elements laid begun.offset) long
          by (Some c) y = absurd (let e : None ≡ Some (c.shape.0, length c.positions) = sym shapeless ∙ y.gives in cc)

      pub run_counted : (shape : Shape) → IsSound (length p.structs) t → shape_of t ≡ Some shape → parts_at a s ≡ length_of t
      run_counted shape sound of = by l.picks inside.picks
        where
          by_pick : (c : Chosen) → ArePicked c.shape.1 (l.front ++ l.words) (effective c) a.path a.picked → length_of t ≡ length c.positions → 2 ≤ length c.positions → parts_at a s ≡ length_of t
          by_pick c (swizzled path is) same several = ap (λ o. count_parts o (value_at (root_value a.root s) a.path)) is ∙ length-map c.positions (chosen c.word) ∙ sym same
          by_pick c (component k many path none one) same several = absurd (let count : length c.positions ≡ 1 = sym (length-map c.positions (chosen c.word)) ∙ ap length one in omega (arith, several, count))
          by_pick c (repeated k firsts many path is all equal) same several =
              ap (λ o. count_parts o (value_at (root_value a.root s) a.path)) is ∙ sym (length-map firsts (λ first. k)) ∙ ap length (sym equal) ∙ length-map c.positions (chosen c.word) ∙ sym same

          by : (o : Option Chosen) → IsPicked inside.whole t (l.front ++ l.words) o a.path a.picked → parts_at a s ≡ length_of t
          by None (same, path, unpicked) =
              let v = vector_counted (length p.structs) t element shape sound has of in
              let many : 2 ≤ shape.1 = v.1 in
              let run = run_stored shape (ap shape_of (whole_is ∙ same) ∙ of) in
              ap (λ o. count_parts o (value_at (root_value a.root s) a.path)) unpicked ∙ ap (λ path. length (parts_in (value_at (root_value a.root s) path))) path ∙ ap (λ v. length (parts_in v)) (value_there ∙ run_there shape (ap shape_of (whole_is ∙ same) ∙ of))
              ∙ ap length (ap parts_in run.is ∙ parts_are run.words (let count = run.count in omega (arith, many, count))) ∙ length-map run.words Word ∙ run.count ∙ sym v.0
          by (Some c) y = let v = vector_counted (length p.structs) t element (c.shape.0, length c.positions) sound has y.gives in by_pick c y.are v.0 v.1
