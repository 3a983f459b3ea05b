-- What was reached is read.
use Rattle.std.proofs.Common.{◌≡◌, refl, sym, ap, ◌∙◌, subst, inl, inr, ℕ, ◌≤◌, ◌⊎◌, Bool, true, false, [], ◌∷◌, ◌++◌, length, map, Option, Some, None, if◌then◌else◌}
use Rattle.std.specs.Prelude.{slice_get}
use Rattle.gsl_base.specs.declared.input.Input.{Input}
use Rattle.gsl_instr.specs.declared.op.TheConstants as op
use Rattle.gsl_types.specs.Known.{AreStructs, IsSound}
use Rattle.gsl_types.specs.declared.ty.Ty.{Ty}
use Rattle.gsl_words.specs.declared.module.Module.{Module}
use Rattle.gsl_values.specs.declared.value.Value.{Value}
use Rattle.gsl_tree.specs.Around.{Around}
use Rattle.gsl_tree.specs.Operations.{value_at}
use Rattle.gsl_tree.specs.Shapes.{Shape, shape_of}
use Rattle.gsl_tree.specs.Values.{is_value_of}
use Rattle.gsl_tree.specs.declared.program.Program.{Program}
use Rattle.gsl_meaning.specs.Accesses.{Access, read as means_read, root_value}
use Rattle.gsl_meaning.specs.Running.{Got}
use Rattle.gsl_meaning.specs.State as shader
use Rattle.gsl_machine.specs.State.{InVariable, Points, State, on}
use Rattle.gsl_spv.specs.Sections.{Sections}
use Rattle.gsl_lower_values.specs.Building.{giving}
use Rattle.gsl_lower_places.specs.Reached.{is_block_class, stored_shape}
use Rattle.gsl_lower_places.specs.Reading.{extracted, number_in, pointer, read, read_from}
use Rattle.gsl_lower_places.specs.declared.reached.Base.TheVariants.{Variable, Value as Loose}
use Rattle.gsl_lower_places.specs.declared.reached.Picked.{Picked}
use Rattle.gsl_lower_places.specs.declared.reached.Reached.{Reached}
use Rattle.gsl_lower_law.specs.Computing.{Computes, drawing}
use Rattle.gsl_lower_law.specs.Values.{IsOf}
use Rattle.gsl_lower_law.proofs.Giving.{giving_does}
use Rattle.gsl_lower_law_places.specs.Components.{AreWithin, HoldsComponents, Picks, picks_of}
use Rattle.gsl_lower_law_places.specs.Leading.{HoldsValue, LeadsTo}
use Rattle.gsl_lower_law_places.proofs.Chains.{pointer_does}
use Rattle.gsl_lower_law_places.proofs.Loads.{extracted_computes, extracted_does, loaded_computes, loads}
use Rattle.gsl_lower_law_places.proofs.Reading.{values_read, variables_read}
use Rattle.gsl_lower_law_places.proofs.Variables.{value_on, variable_components}
use Rattle.gsl_lower_law_picks.proofs.Along.{words_lead}
use Rattle.gsl_lower_elements.proofs.OfLawExpr.{value_shape}
use Rattle.gsl_lower_elements.proofs.OfLawNames.{outside_blocks, value_as_it_is}
use Rattle.gsl_lower_holders.specs.Flow as flow
use Rattle.gsl_lower_holders.specs.Flow.{Flow, behind, find_type, giving_here, id_at, lift, type_by, type_id}
use Rattle.gsl_lower_expr.specs.Parts.{read_block, read_by, read_composite, read_loose, read_own, reads}
use Rattle.gsl_lower_follows.specs.Frames.{Frame, Good, HeldAs}
use Rattle.gsl_lower_follows.specs.Giving.{After, Does, HasGiven, none_waits}
use Rattle.gsl_lower_follows.proofs.Doing.{does_lift, does_then}
use Rattle.gsl_lower_follows.proofs.Drawn.{computed_given}
use Rattle.gsl_lower_follows.proofs.Fetching.{adds_giving}
use Rattle.gsl_lower_follows.proofs.Growing.{adds_lift}
use Rattle.gsl_lower_follows.proofs.Holding.{after_then, does_so}
use Rattle.gsl_lower_elements.proofs.OfLawExpr.{always_giving}
use Rattle.gsl_lower_elements.specs.OfReaching.{IsBlockTrail, IsOwnTrail, IsTrail, PicksBy, Start}
use Rattle.gsl_lower_elements.specs.OfReaching.{own, in_block}
use Rattle.gsl_lower_elements.specs.OfReaching.{OfBlock}
use Rattle.gsl_lower_elements.specs.OfReaching.{Chosen, IsInside, IsPicked, Trail}
use Rattle.gsl_lower_elements.proofs.OfReaching.{has_part}
use Rattle.gsl_lower_elements.proofs.Indexing.{after_step, none_shape}
use Rattle.gsl_lower_elements.proofs.OfReaching.{chooses_stand, numbers_stand}
use Rattle.gsl_lower_elements.proofs.OfReaching.{IsWhole, whole_picked}
use Rattle.gsl_lower_elements.proofs.OfReaching.{there_typed}
use Rattle.gsl_lower_elements.proofs.Read.{block_read, block_shape}
use Rattle.gsl_lower_reads.proofs.Adding.{always_extracted, always_pointer, always_read}
use Rattle.gsl_lower_reads.proofs.Found.{found_picked, found_whole, read_found, read_typed, stands_there, there_is}
use Rattle.gsl_lower_reads.proofs.Grounds.{InPlace, InValue, fixed_words, grounds}

module _ (m : Module) (input : Input) (sections : Sections) (f : Frame m input sections) (p : Program) (around : Around) (are : AreStructs p.structs) (loose : Start) (writes : Bool) (t : Ty) (sound_t : IsSound (length p.structs) t) where
  module _ (b : Flow) (s : shader.State) (state : State) (r : Reached) (a : Access) (l : Trail) (good : Good m input sections f p around b s state) (is : IsOwnTrail m input sections f p around false loose b state r l) (inside : IsInside p.structs p.blocks writes t a l) where
    pub v : Value
    v = stands_there m input sections f p around are (λ id v. HeldAs m input sections f false id v b state) b.place.used b s state state loose writes r.base r.path t a l good is.begins inside

    pub v_typed : is_value_of p.structs inside.whole v ≡ true
    unfolding v
    v_typed = there_typed m input sections f p around are (λ id v. HeldAs m input sections f false id v b state) b.place.used b s state state loose writes r.base r.path t a l good is.begins inside

    pub result : Value
    result = means_read p.structs t a s

    result_whole : inside.whole ≡ t → a.path ≡ l.front ++ l.words → a.picked ≡ None → result ≡ v
    unfolding v result
    result_whole same path none =
        read_found m input sections f p around are (λ id v. HeldAs m input sections f false id v b state) b.place.used b s state state loose writes r.base r.path t a l good is.begins inside
        ∙ found_whole m input sections f p around are (λ id v. HeldAs m input sections f false id v b state) b.place.used b s state state loose writes r.base r.path t a l good is.begins inside same path none

    result_picked : (c : Chosen) → IsPicked inside.whole t (l.front ++ l.words) (Some c) a.path a.picked → result ≡ picks_of v c.word c.positions
    unfolding v result
    result_picked c x =
        read_found m input sections f p around are (λ id v. HeldAs m input sections f false id v b state) b.place.used b s state state loose writes r.base r.path t a l good is.begins inside
        ∙ found_picked m input sections f p around are (λ id v. HeldAs m input sections f false id v b state) b.place.used b s state state loose writes r.base r.path t a l good is.begins inside c x

    result_typed : is_value_of p.structs t result ≡ true
    unfolding result
    result_typed = read_typed m input sections f p around are (λ id v. HeldAs m input sections f false id v b state) b.place.used b s state state loose writes r.base r.path t a l good is.begins inside sound_t

    pub chosen_of : (c : Chosen) → IsPicked inside.whole t (l.front ++ l.words) (Some c) a.path a.picked → IsOf c.shape v
    unfolding v
    chosen_of c x = (there_is m input sections f p around are (λ id v. HeldAs m input sections f false id v b state) b.place.used b s state state loose writes r.base r.path t a l good is.begins inside c x).1

    pub whole_of : (shape : Shape) → shape_of t ≡ Some shape → inside.whole ≡ t → IsOf shape v
    whole_of shape of same = (value_shape p.structs t shape v are sound_t of (subst (λ u. is_value_of p.structs u v ≡ true) same v_typed)).1

    pub picks_stand : (q : Picked) (c : Chosen) → PicksBy (λ id v. HeldAs m input sections f false id v b state) (Some q) (Some c) → 1 ≤ length c.positions → AreWithin c.shape.1 c.word c.positions → Picks state.ids q c.word
    picks_stand q c picks some within = record {
      by_word = chooses_stand state.ids q.by c.word picks.2;
      some = subst (λ ps. 1 ≤ length ps) (sym picks.1) some;
      within = subst (λ (shape : Shape). AreWithin shape.1 c.word q.positions) (sym picks.0) (subst (AreWithin c.shape.1 c.word) (sym picks.1) within);
    }

    -- ---- in a variable

    module _ (x : InPlace m input sections f p around s state r.base l) where
      pub leads : LeadsTo m input state (InVariable x.number []) l.words (InVariable x.number l.words)
      leads = words_lead m input state x.number x.old x.there [] l.words (has_part p.structs are l.ty l.words inside.whole x.old inside.leads x.typed)

      pub at_words : value_at x.old l.words ≡ v
      unfolding v
      at_words = ap (λ w. value_at w l.words) x.same ∙ sym (value_on (root_value l.root s) l.front l.words) ∙ ap (λ root. value_at (root_value root s) (l.front ++ l.words)) (sym inside.begins)

      pub holds : (shape : Shape) → IsOf shape v → HoldsComponents m input state (InVariable x.number l.words) v
      holds shape of = variable_components m input state x.number l.words x.old v shape x.there at_words of

      pub lies : (shape : Shape) → IsOf shape v → IsOf (stored_shape x.class shape) v
      lies shape of = subst (λ lying. IsOf lying v) (sym (outside_blocks x.class shape x.outside)) of

      place_read : (shape : Shape) → shape_of t ≡ Some shape → (o : Option Picked) (c : Option Chosen) → PicksBy (λ id v. HeldAs m input sections f false id v b state) o c → IsPicked inside.whole t (l.front ++ l.words) c a.path a.picked
          → Computes m input sections (result, state.choices) state b.sections (read_from (Variable x.id x.class) r.path shape o)
      unfolding read
      place_read shape shaped None None picks (same, path, none) =
          let of = whole_of shape shaped same in
          subst (λ w. Computes m input sections (w, state.choices) state b.sections (read_from (Variable x.id x.class) r.path shape None)) (value_as_it_is shape v of ∙ sym (result_whole same path none))
          (loaded_computes m input sections x.id x.class shape r.path l.words (InVariable x.number []) (InVariable x.number l.words) v state b.sections x.points (numbers_stand state.ids r.path l.words is.numbers) leads (holds shape of).all (lies shape of))
      place_read shape shaped None (Some c) picks y = absurd picks
      place_read shape shaped (Some q) None picks y = absurd picks
      place_read shape shaped (Some q) (Some c) picks y =
          let of : IsOf c.shape v = chosen_of c y in
          let of_q : IsOf q.shape v = subst (λ s. IsOf s v) (sym picks.0) of in
          subst (λ w. Computes m input sections (w, state.choices) state b.sections (read_from (Variable x.id x.class) r.path shape (Some q)))
          (ap (λ w. picks_of w c.word q.positions) (value_as_it_is q.shape v of_q) ∙ ap (picks_of v c.word) picks.1 ∙ sym (result_picked c y))
          (variables_read m input sections x.id x.class r.path q l.words (InVariable x.number []) (InVariable x.number l.words) v state b.sections x.points (numbers_stand state.ids r.path l.words is.numbers) leads (holds c.shape of) (lies q.shape of_q) shape c.word (picks_stand q c picks y.some y.within))

    -- ---- of a value

    module _ (x : InValue m input sections f p around s state r.base r.path l) where
      at_parts : value_at x.v (map number_in r.path) ≡ v
      unfolding v
      at_parts =
          ap (value_at x.v) (fixed_words (λ id v. HeldAs m input sections f false id v b state) r.path l.words x.fixed is.numbers)
          ∙ ap (λ w. value_at w l.words) x.same ∙ sym (value_on (root_value l.root s) l.front l.words) ∙ ap (λ root. value_at (root_value root s) (l.front ++ l.words)) (sym inside.begins)

      value_read : (shape : Shape) → shape_of t ≡ Some shape → (o : Option Picked) (c : Option Chosen) → PicksBy (λ id v. HeldAs m input sections f false id v b state) o c → IsPicked inside.whole t (l.front ++ l.words) c a.path a.picked
          → Computes m input sections (result, state.choices) state b.sections (read_from (Loose x.id x.type_id) r.path shape o)
      unfolding read
      value_read shape shaped None None picks (same, path, none) =
          subst (λ w. Computes m input sections (w, state.choices) state b.sections (read_from (Loose x.id x.type_id) r.path shape None)) (at_parts ∙ sym (result_whole same path none))
          (extracted_computes m input sections x.id shape r.path x.v state b.sections x.stands)
      value_read shape shaped None (Some c) picks y = absurd picks
      value_read shape shaped (Some q) None picks y = absurd picks
      value_read shape shaped (Some q) (Some c) picks y =
          subst (λ w. Computes m input sections (w, state.choices) state b.sections (read_from (Loose x.id x.type_id) r.path shape (Some q)))
          (ap (λ w. picks_of w c.word q.positions) at_parts ∙ ap (picks_of v c.word) picks.1 ∙ sym (result_picked c y))
          (values_read m input sections x.id x.type_id shape r.path q c.word x.v state b.sections x.stands (subst (λ s. IsOf s (value_at x.v (map number_in r.path))) (sym picks.0) (subst (IsOf c.shape) (sym at_parts) (chosen_of c y))) (picks_stand q c picks y.some y.within))

    -- ---- a scalar or vector

    pub shape_read : (shape : Shape) → shape_of t ≡ Some shape → Computes m input sections (result, state.choices) state b.sections (read shape r)
    unfolding read
    shape_read shape shaped = by (grounds m input sections f p around b s state loose r.base r.path l good is.begins)
      where
        by : InPlace m input sections f p around s state r.base l ⊎ InValue m input sections f p around s state r.base r.path l → Computes m input sections (result, state.choices) state b.sections (read_from r.base r.path shape r.picked)
        by (inl x) = subst (λ base. Computes m input sections (result, state.choices) state b.sections (read_from base r.path shape r.picked)) (sym x.is) (place_read x shape shaped r.picked l.picks is.picks inside.picks)
        by (inr x) = subst (λ base. Computes m input sections (result, state.choices) state b.sections (read_from base r.path shape r.picked)) (sym x.is) (value_read x shape shaped r.picked l.picks is.picks inside.picks)

    module _ (units : ℕ) where
      shape_taken : (shape : Shape) → shape_of t ≡ Some shape → Does m input sections f p 0 units state (HasGiven m input sections f p around false t b state) none_waits (Got result s units) (lift (read shape r) b)
      shape_taken shape shaped =
          computed_given m input sections f p around t (λ choices. (result, choices)) (read shape r) (λ b. always_read m input sections shape r b.sections) (λ choices are. record { typed = result_typed; left = are }) b s units state good (shape_read shape shaped)

      -- ---- what is no scalar and no vector

      whole : shape_of t ≡ None → IsWhole inside.whole t (l.front ++ l.words) l.picks a.path a.picked
      whole none = whole_picked inside.whole t (l.front ++ l.words) l.picks a.path a.picked (none_shape t none) inside.picks

      composite : shape_of t ≡ None → result ≡ v
      composite none = let w = whole none in result_whole w.same w.path_is w.unpicked

      -- the id of its type is there already
      of_type : (low : ℕ → flow.Emit ℕ) → shape_of t ≡ None → ((type : ℕ) → Does m input sections f p 0 units state (HasGiven m input sections f p around false t b state) none_waits (Got result s units) (low type b))
          → Does m input sections f p 0 units state (HasGiven m input sections f p around false t b state) none_waits (Got result s units) (behind (type_id t b) low)
      unfolding type_id
      of_type low none does = subst (λ o. Does m input sections f p 0 units state (HasGiven m input sections f p around false t b state) none_waits (Got result s units) (behind (type_by t o b) low)) (sym none) (by (find_type t b.place.composites))
        where
          by : (o : Option ℕ) → Does m input sections f p 0 units state (HasGiven m input sections f p around false t b state) none_waits (Got result s units) (behind (id_at o b) low)
          by None = tt
          by (Some type) = does type

      loose_taken : (x : InValue m input sections f p around s state r.base r.path l) → shape_of t ≡ None → Does m input sections f p 0 units state (HasGiven m input sections f p around false t b state) none_waits (Got result s units) (read_loose t x.id r.path b)
      loose_taken x none = of_type (λ type. lift (extracted x.id type r.path)) none
          (λ type. computed_given m input sections f p around t (λ choices. (result, choices)) (extracted x.id type r.path) (λ b. always_extracted m input sections x.id type r.path b.sections) (λ choices are. record { typed = result_typed; left = are }) b s units state good
          (subst (λ w. Computes m input sections (w, state.choices) state b.sections (extracted x.id type r.path)) (at_parts x ∙ sym (composite none)) (extracted_does m input sections x.id type r.path x.v state b.sections x.stands)))

      -- a pointer to it is there, and nothing has changed
      record IsPointed (x : InPlace m input sections f p around s state r.base l) (from : ℕ) (later : Flow) (one : Unit {0}) (u : shader.State) (last : State) : Type 0 where
        after : After m input sections f p around false b state later u last
        points : last.ids from ≡ Some (Points (InVariable x.number l.words))
        there : slice_get last.variables x.number ≡ Some x.old
        same : u ≡ s

      own_taken : (x : InPlace m input sections f p around s state r.base l) → shape_of t ≡ None → Does m input sections f p 0 units state (HasGiven m input sections f p around false t b state) none_waits (Got result s units) (read_own t x.id x.class r.path b)
      own_taken x none = of_type (λ type. flow.◌>>=◌ (lift (pointer x.id x.class type r.path)) (λ from. giving_here op.LOAD (from ∷ []) type)) none
          (λ type.
          does_then m input sections f p 0 units b state (IsPointed x) none_waits (HasGiven m input sections f p around false t b state) none_waits (Got tt s units) (λ one u left. Got result u left) (lift (pointer x.id x.class type r.path) b) (λ from. giving_here op.LOAD (from ∷ []) type) good.inside
          (adds_lift (pointer x.id x.class type r.path) (λ b. always_pointer m input sections x.id x.class type r.path b.sections) b) (λ from. adds_giving m input sections op.LOAD (from ∷ []) type)
          (does_lift m input sections f p around units b s state (λ given ids. ids given ≡ Some (Points (InVariable x.number l.words))) (drawing state state.choices) (IsPointed x) none_waits tt s (pointer x.id x.class type r.path) good
          (pointer_does m input sections x.id x.class type r.path l.words (InVariable x.number []) (InVariable x.number l.words) state b.sections x.points (numbers_stand state.ids r.path l.words is.numbers) (leads x))
          (λ from later q within extends. record { after = after_step m input sections f p around (λ given ids. ids given ≡ Some (Points (InVariable x.number l.words))) b s state from later good within q; points = q.is; there = x.there; same = refl }))
          (λ from between one u left mid within grown q less.
          does_so m input sections f p around 0 left mid (HasGiven m input sections f p around false t between mid) (HasGiven m input sections f p around false t b state) (Got result u left) (giving_here op.LOAD (from ∷ []) type between)
          (λ got later w z last h. record { given = h.given; after = after_then m input sections f p around false false b between later state mid last u z grown q.after h.after })
          (computed_given m input sections f p around t (λ choices. (result, choices)) (giving op.LOAD (from ∷ []) type) (λ b. always_giving m input sections op.LOAD (from ∷ []) type b.sections) (λ choices are. record { typed = result_typed; left = are }) between u left mid q.after.good
          (giving_does m input sections op.LOAD (from ∷ []) type mid result mid.choices between.sections
          (λ text. loads m input type from (InVariable x.number l.words) result mid q.points (λ go. held x none mid q.there go)))))
          (λ from between u left mid within grown none less. absurd none))
        where
          held : (x : InPlace m input sections f p around s state r.base l) → shape_of t ≡ None → (mid : State) → slice_get mid.variables x.number ≡ Some x.old → HoldsValue m input mid (InVariable x.number l.words) result
          held x none mid there go = ap (λ o. on o (λ w. go (value_at w l.words))) there ∙ ap go (at_words x ∙ sym (composite none))

      own_if : (x : InPlace m input sections f p around s state r.base l) → shape_of t ≡ None → (block : Bool) → block ≡ false
          → Does m input sections f p 0 units state (HasGiven m input sections f p around false t b state) none_waits (Got result s units) ((if block then read_block p.structs t x.id x.class r.path else read_own t x.id x.class r.path) b)
      own_if x none true e = absurd cc
      own_if x none false e = own_taken x none

      composite_taken : shape_of t ≡ None → Does m input sections f p 0 units state (HasGiven m input sections f p around false t b state) none_waits (Got result s units) (read_composite p.structs t r.base r.path b)
      composite_taken none = by (grounds m input sections f p around b s state loose r.base r.path l good is.begins)
        where
          by : InPlace m input sections f p around s state r.base l ⊎ InValue m input sections f p around s state r.base r.path l → Does m input sections f p 0 units state (HasGiven m input sections f p around false t b state) none_waits (Got result s units) (read_composite p.structs t r.base r.path b)
          by (inl x) = subst (λ base. Does m input sections f p 0 units state (HasGiven m input sections f p around false t b state) none_waits (Got result s units) (read_composite p.structs t base r.path b)) (sym x.is) (own_if x none (is_block_class x.class) x.outside)
          by (inr x) = subst (λ base. Does m input sections f p 0 units state (HasGiven m input sections f p around false t b state) none_waits (Got result s units) (read_composite p.structs t base r.path b)) (sym x.is) (loose_taken x none)

      -- what was reached gives its value
      pub own_read : Does m input sections f p 0 units state (HasGiven m input sections f p around false t b state) none_waits (Got (means_read p.structs t a s) s units) (reads p.structs t r b)
      unfolding reads result
      own_read = by (shape_of t) refl
        where
          by : (o : Option Shape) → shape_of t ≡ o → Does m input sections f p 0 units state (HasGiven m input sections f p around false t b state) none_waits (Got result s units) (read_by p.structs t r o b)
          by (Some shape) e = shape_taken shape e
          by None e = composite_taken e

  module _ (b : Flow) (s : shader.State) (state : State) (r : Reached) (a : Access) (l : Trail) (good : Good m input sections f p around b s state) (is : IsTrail m input sections f p around false loose b state r l) (inside : IsInside p.structs p.blocks writes t a l) where
    module _ (units : ℕ) (apart : shape_of t ≡ None → loose ≡ OfBlock → ⊥) where
      abbrev Gives_ : flow.Lowered ℕ → Type 0
      Gives_ low = Does m input sections f p 0 units state (HasGiven m input sections f p around false t b state) none_waits (Got (means_read p.structs t a s) s units) low

      -- a scalar or vector of a block
      block_taken : (x : IsBlockTrail m input sections f p around false loose b state r l) (shape : Shape) → shape_of t ≡ Some shape → Gives_ (lift (read shape r) b)
      block_taken x shape shaped =
          computed_given m input sections f p around t (λ choices. (means_read p.structs t a s, choices)) (read shape r) (λ b. always_read m input sections shape r b.sections)
          (λ choices all. record { typed = block_shape m input sections f p around are loose b s state r l good x writes t a inside sound_t shape shaped; left = all }) b s units state good
          (block_read m input sections f p around are loose b s state r l good x writes t a inside sound_t shape shaped)

      -- what was reached gives its value; of a block it is a scalar or vector
      pub taken : Gives_ (reads p.structs t r b)
      unfolding reads
      taken = by is
        where
          in_one : (x : IsBlockTrail m input sections f p around false loose b state r l) (o : Option Shape) → shape_of t ≡ o → Gives_ (read_by p.structs t r o b)
          in_one x (Some shape) e = block_taken x shape e
          in_one x None e = absurd (apart e x.begins.marked)

          by : IsTrail m input sections f p around false loose b state r l → Gives_ (read_by p.structs t r (shape_of t) b)
          by (own x) = own_read b s state r a l good x inside units
          by (in_block x) = in_one x (shape_of t) refl
