-- The length of a runtime array, which is counted in the bytes of its block.
use Rattle.std.proofs.Common.{◌≡◌, refl, sym, ap, ◌∙◌, subst, ℕ, ◌+◌, ◌<◌, ◌^◌, true, false, [], ◌∷◌, Option, Some, None}
use Rattle.std.specs.Prelude.{slice_get}
use Rattle.std.proofs.lemmas.Bool.{lt-ltb}
use Rattle.gsl_base.specs.declared.input.Input.{Input}
use Rattle.gsl_instr.specs.declared.enumerant.storage_class.TheConstants as storage_class
use Rattle.gsl_instr.specs.declared.op.TheConstants as op
use Rattle.gsl_instr.specs.Forms.{form_of}
use Rattle.gsl_layout.specs.Layout.{members_of, size}
use Rattle.gsl_types.specs.Known.{AreStructs}
use Rattle.gsl_types.specs.declared.ty.Scalar.TheVariants.{Int, Uint}
use Rattle.gsl_types.specs.declared.ty.Ty.{Ty}
use Rattle.gsl_types.specs.declared.ty.Ty.TheOpen.{Ty-F}
use Rattle.gsl_types.specs.declared.ty.Ty.TheVariants as ty
use Rattle.gsl_types.specs.declared.ty.Ty.TheViews.{out-Ty}
use Rattle.gsl_words.specs.declared.module.Module.{Module}
use Rattle.gsl_values.specs.declared.value.Value.TheVariants.{Word}
use Rattle.gsl_tree.specs.Around.{Around}
use Rattle.gsl_tree.specs.Expressions.{element_kind, element_of, is_runtime_layer}
use Rattle.gsl_tree.specs.Laying.{layout_of}
use Rattle.gsl_tree.specs.Shapes.{shape_kind, shape_of}
use Rattle.gsl_tree.specs.declared.program.Program.{Program}
use Rattle.gsl_typed_law.proofs.Bounds.{integer_fits}
use Rattle.gsl_typed_law.proofs.Components.{scalar_typed}
use Rattle.gsl_views.specs.Paths.{member, here}
use Rattle.gsl_views.specs.Viewed.{elements}
use Rattle.gsl_meaning.specs.Accesses as access
use Rattle.gsl_meaning.specs.Expressions.{block_parts, member_root}
use Rattle.gsl_meaning.specs.Running.{Got, told_by}
use Rattle.gsl_meaning.specs.State as shader
use Rattle.gsl_machine.specs.Memory.{counting}
use Rattle.gsl_machine.specs.State.{InBlock, Outcome, Points, State, giving_value, on_pointer}
use Rattle.gsl_spv.specs.Sections.{Sections}
use Rattle.gsl_lower_values.specs.Building as steps
use Rattle.gsl_lower_values.specs.Building.{giving}
use Rattle.gsl_lower_values.specs.Constructors.{operand}
use Rattle.gsl_lower_values.specs.Operators.{converted}
use Rattle.gsl_lower_values.specs.Types.{type_of}
use Rattle.gsl_lower_places.specs.Reached.{part_of, whole}
use Rattle.gsl_lower_places.specs.declared.reached.Base.TheVariants.{Variable}
use Rattle.gsl_lower_places.specs.declared.reached.Part.TheVariants.{Fixed}
use Rattle.gsl_lower_places.specs.declared.reached.Reached.{Reached}
use Rattle.gsl_lower_law.specs.Computing.{Computes, Grows}
use Rattle.gsl_lower_law.specs.Values.{Stands}
use Rattle.gsl_lower_law.proofs.Giving.{Performs}
use Rattle.gsl_lower_law.proofs.Joining.{does_then, grows_then}
use Rattle.gsl_lower_law.proofs.Typed.{typed_does, typed_grows}
use Rattle.gsl_lower_law_operators.proofs.Conversions.{converted_computes}
use Rattle.gsl_lower_law_constructors.proofs.Shares.{converted_grows}
use Rattle.gsl_lower_law_places.proofs.Reading.{word_converted}
use Rattle.gsl_lower_law_blocks.proofs.Laid.{lengths_counted}
use Rattle.gsl_lower_reaching.specs.OfLawMembers.{laid_as}
use Rattle.gsl_lower_reaching.specs.OfLawMembers.{size_of}
use Rattle.gsl_lower_reaching.proofs.OfLawMembers.{IsMember, block_member_at, row_array, row_laid}
use Rattle.gsl_lower_holders.specs.Flow.{Flow, behind, id_at, lift, told}
use Rattle.gsl_lower_holders.specs.declared.place.FlowPlace.{FlowPlace}
use Rattle.gsl_lower_expr.specs.Parts.{block_length, counted_in}
use Rattle.gsl_lower_follows.specs.Frames.{Frame, Good}
use Rattle.gsl_lower_follows.specs.Giving.{Does, GivesValue, GrownTo, HasGiven, none_waits}
use Rattle.gsl_lower_follows.proofs.Drawn.{computed_given}
use Rattle.gsl_lower_follows.proofs.Fetching.{no_state}
use Rattle.gsl_lower_follows.proofs.Growing.{adds_given, adds_lift, adds_then}
use Rattle.gsl_lower_reaching.specs.Reaching.{IsBlockTrail, KnowsMember}
use Rattle.gsl_lower_reaching.specs.Reaching.Start.{OfBlock}
use Rattle.gsl_lower_reaching.specs.Trails.{IsInside, Trail}
use Rattle.gsl_lower_elements.proofs.Standing.{held, long, points, row_counted}

-- a runtime array has elements and no shape
runtime_element : (layer : Ty-F Ty) → is_runtime_layer layer ≡ true → (element : Ty) × (element_kind layer ≡ Some element) × (shape_kind layer ≡ None)
runtime_element (Ty-F.Runtime element) e = (element, refl, refl)
runtime_element Ty-F.Void e = absurd (let z : false ≡ true = e in cc)
runtime_element (Ty-F.One s) e = absurd (let z : false ≡ true = e in cc)
runtime_element (Ty-F.Vector s n) e = absurd (let z : false ≡ true = e in cc)
runtime_element (Ty-F.Array element n) e = absurd (let z : false ≡ true = e in cc)
runtime_element (Ty-F.Struct number) e = absurd (let z : false ≡ true = e in cc)

module _ (m : Module) (input : Input) (sections : Sections) where
  length_performs : (type id which variable at pointee count : ℕ) (state : State) → state.ids id ≡ Some (Points (InBlock variable at pointee)) → ((go : ℕ → Outcome) → counting m input state (InBlock variable at pointee) which go ≡ go count)
      → Performs m input op.ARRAY_LENGTH (id ∷ which ∷ []) type state (Word count) state.choices
  unfolding form_of
  length_performs type id which variable at pointee count state stands counts = record {
    gives = λ result. refl;
    named = λ result. refl;
    done = λ result place rest.
        ap (λ o. on_pointer o (λ from. counting m input (record state { rest = rest }) from which (λ count. giving_value (record state { rest = rest }) result (Word count)))) stands
        ∙ counts (λ count. giving_value (record state { rest = rest }) result (Word count));
  }

  always_counted : (id which : ℕ) (before : Sections) → Grows before (counted_in id which before)
  always_counted id which before =
      grows_then m input sections before (steps.◌>>=◌ (type_of (Uint, 1)) (giving op.ARRAY_LENGTH (id ∷ which ∷ [])) before) (λ count. converted Int (operand (Uint, 1) count))
      (typed_grows m input sections (Uint, 1) op.ARRAY_LENGTH (id ∷ which ∷ []) no_state before) (λ count between. converted_grows m input sections Int (operand (Uint, 1) count) no_state between)

  counted_computes : (id which variable at pointee count : ℕ) (state : State) (before : Sections) → state.ids id ≡ Some (Points (InBlock variable at pointee)) → ((go : ℕ → Outcome) → counting m input state (InBlock variable at pointee) which go ≡ go count) → count < 2 ^ 32
      → Computes m input sections (Word count, state.choices) state before (counted_in id which)
  counted_computes id which variable at pointee count state before stands counts small =
      does_then m input sections (λ given ids. Stands ids given (Word count)) (λ given ids. Stands ids given (Word count)) state.choices state.choices state before (steps.◌>>=◌ (type_of (Uint, 1)) (giving op.ARRAY_LENGTH (id ∷ which ∷ []))) (λ count. converted Int (operand (Uint, 1) count))
      (typed_does m input sections (Uint, 1) op.ARRAY_LENGTH (id ∷ which ∷ []) (Word count) state.choices state before (λ type ids keeps is text. length_performs type id which variable at pointee count (record state { ids = ids }) (keeps.same id _ stands) counts))
      (λ given between. converted_grows m input sections Int (operand (Uint, 1) given) state between)
      (λ given between ids there keeps.
      subst (λ w. Computes m input sections (w, state.choices) (record state { ids = ids }) between (converted Int (operand (Uint, 1) given))) (word_converted Int count)
      (converted_computes m input sections (operand (Uint, 1) given) (Word count) (record { words = count ∷ []; is = refl; count = refl; fits = (lt-ltb count 4294967296 small, tt) }) Int (record state { ids = ids }) between there))

  module _ (f : Frame m input sections) (p : Program) (around : Around) (are : AreStructs p.structs) (block number : ℕ) (t : Ty) (known : KnowsMember m input sections f p around block number t) (runtime : is_runtime_layer (out-Ty t) ≡ true) where
    abbrev element : (element : Ty) × (element_of t ≡ Some element) × (shape_of t ≡ None)
    element = runtime_element (out-Ty t) runtime

    module _ (b : Flow) (s : shader.State) (units : ℕ) (state : State) (good : Good m input sections f p around b s state) (id : ℕ) (e : slice_get b.place.blocks block ≡ Some id) where
      there : IsMember (members_of (layout_of p.structs known.block)) number (laid_as known.block.std140 p.structs t)
      there = subst (λ u. IsMember (members_of (layout_of p.structs known.block)) number (laid_as known.block.std140 p.structs u)) known.same (block_member_at p.structs 0 known.block number known.one known.found)

      trail : Trail
      trail = record { root = access.Block block; front = number ∷ []; ty = t; words = []; picks = None }

      abbrev reached : Reached
      reached = part_of (whole (Variable id storage_class.UNIFORM)) (Fixed number)

      is_trail : IsBlockTrail m input sections f p around false OfBlock b state reached trail
      unfolding trail
      is_trail = record {
        begins = record {
          number = block;
          id = id;
          class = storage_class.UNIFORM;
          block = known.block;
          offset = 0 + there.0;
          is = refl;
          marked = refl;
          inside = refl;
          begins = refl;
          knows = known.knows id (sym (ap (λ (place : FlowPlace). slice_get place.blocks block) good.seated.same) ∙ e);
          leads = member there.1 there.2 here;
          sound = known.sound;
          beyond = tt;
        };
        numbers = (refl, tt);
        picks = tt;
      }

      inside : IsInside p.structs p.blocks false t (member_root block number) trail
      unfolding trail
      inside = record { begins = refl; whole = t; sound = known.sound; leads = refl; picks = (refl, refl, refl); may = tt; named = λ e. absurd (let z : false ≡ true = e in cc) }

      count : ℕ
      count = elements (laid_as known.block.std140 p.structs t) (0 + there.0) (size_of m input id)

      is_count : block_parts block number s ≡ count
      unfolding count is_trail trail
      is_count = row_counted m input sections f p around are OfBlock b s state reached trail good is_trail false t (member_root block number) inside element.0 element.1 element.2

      counts : (go : ℕ → Outcome) → counting m input state (InBlock id 0 is_trail.begins.knows.type) number go ≡ go count
      unfolding count is_trail trail
      counts go =
          let has = held m input sections f p around are OfBlock b s state reached trail good is_trail in
          lengths_counted m input state id 0 is_trail.begins.knows.type number (size (layout_of p.structs known.block)) there.0 (members_of (layout_of p.structs known.block)) (laid_as known.block.std140 p.structs t) has.0 go is_trail.begins.knows.lie has.1 there.1 there.2
          (row_array p.structs 0 t element.0 (laid_as known.block.std140 p.structs t) known.block.std140 (row_laid p.structs 0 known.block.std140 t element.0 element.1 element.2))
          ∙ ap (λ n. go (elements (laid_as known.block.std140 p.structs t) (0 + there.0) n)) (long m input sections f p around are OfBlock b s state reached trail good is_trail)

      small : count < 2 ^ 32
      unfolding count
      small = known.short id (0 + there.0)

      stands : state.ids id ≡ Some (Points (InBlock id 0 is_trail.begins.knows.type))
      unfolding is_trail trail
      stands = points m input sections f p around are OfBlock b s state reached trail good is_trail

      one_counted : Does m input sections f p 0 units state (HasGiven m input sections f p around false (ty.One Int) b state) none_waits (Got (Word (block_parts block number s)) s units) (lift (counted_in id number) b)
      one_counted =
          subst (λ n. Does m input sections f p 0 units state (HasGiven m input sections f p around false (ty.One Int) b state) none_waits (Got (Word n) s units) (lift (counted_in id number) b)) (sym is_count)
          (computed_given m input sections f p around (ty.One Int) (λ choices. (Word count, choices)) (counted_in id number) (λ b. always_counted id number b.sections) (λ choices all. record { typed = scalar_typed p.structs Int count (integer_fits Int count refl small); left = all }) b s units state good
          (counted_computes id number id 0 is_trail.begins.knows.type count state b.sections stands counts small))

    -- `.length()` of a runtime array is the count of the elements that lie in the block
    pub length_gives : GivesValue m input sections f p around false (ty.One Int) (block_length block number) (told_by (λ s. Word (block_parts block number s)))
    length_gives = record {
      adds = adds_then (told (λ place. place.blocks) block) (λ id. lift (counted_in id number)) (λ b. by_id b (slice_get b.place.blocks block)) (λ id. adds_lift (counted_in id number) (λ b. always_counted id number b.sections));
      does = λ b s units state good. by b s units state good (slice_get b.place.blocks block) refl;
    }
      where
        by_id : (b : Flow) (o : Option ℕ) → GrownTo b (id_at o b)
        by_id b None = tt
        by_id b (Some id) = adds_given id b

        by : (b : Flow) (s : shader.State) (units : ℕ) (state : State) → Good m input sections f p around b s state → (o : Option ℕ) → slice_get b.place.blocks block ≡ o
            → Does m input sections f p 0 units state (HasGiven m input sections f p around false (ty.One Int) b state) none_waits (Got (Word (block_parts block number s)) s units) (behind (id_at o b) (λ id. lift (counted_in id number)))
        by b s units state good None e = tt
        by b s units state good (Some id) e = one_counted b s units state good id e
