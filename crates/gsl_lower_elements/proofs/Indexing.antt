-- What an index leads to, where it is known.
use Rattle.std.proofs.Common.{◌≡◌, refl, sym, ap, ◌∙◌, subst, inl, inr, ℕ, ◌<◌, ◌≤◌, ◌⊎◌, Bool, true, false, List, [], ◌∷◌, ◌++◌, length, Option, Some, None, arith}
use Rattle.std.specs.Prelude.{nat_lt, slice_index}
use Rattle.std.proofs.lemmas.Bool.{cases_lt, cond-true, cond-false, lt-ltb, le-ltb}
use Rattle.gsl_base.specs.declared.input.Input.{Input}
use Rattle.gsl_types.specs.Known.{AreStructs, IsSound}
use Rattle.gsl_types.specs.declared.ty.Scalar.{Scalar}
use Rattle.gsl_types.specs.declared.ty.Ty.{Ty}
use Rattle.gsl_words.specs.declared.module.Module.{Module}
use Rattle.gsl_values.specs.declared.value.Value.TheVariants.{Word}
use Rattle.gsl_tree.specs.Around.{Around}
use Rattle.gsl_tree.specs.Expressions.{element_of}
use Rattle.gsl_tree.specs.Operations.{has_fixed_length, length_of}
use Rattle.gsl_tree.specs.Shapes.{Shape, shape_of}
use Rattle.gsl_tree.specs.Values.{is_value_of}
use Rattle.gsl_tree.specs.declared.program.Program.{Program}
use Rattle.gsl_views.specs.Viewed.{elements}
use Rattle.gsl_meaning.specs.Accesses.{Access, index_in, index_of, parts_at}
use Rattle.gsl_meaning.specs.Running.{Got, Strays, indexing}
use Rattle.gsl_meaning.specs.State as shader
use Rattle.gsl_machine.specs.State.{Ids, State}
use Rattle.gsl_spv.specs.Sections.{Sections}
use Rattle.gsl_lower_values.specs.Building as steps
use Rattle.gsl_lower_values.specs.Building.{Step}
use Rattle.gsl_lower_places.specs.Reached.{component_at, component_if, component_in, component_of, part_of, picking, position_by, repicked, with_picked}
use Rattle.gsl_lower_places.specs.declared.reached.Part.{Part}
use Rattle.gsl_lower_places.specs.declared.reached.Part.TheVariants.{Fixed, By}
use Rattle.gsl_lower_places.specs.declared.reached.Picked.{Picked}
use Rattle.gsl_lower_places.specs.declared.reached.Reached.{Reached}
use Rattle.gsl_lower_law.specs.Computing as law
use Rattle.gsl_lower_law.specs.Computing.{Grows, drawing, leaving}
use Rattle.gsl_lower_law.specs.Straying.{Strays as StepStrays}
use Rattle.gsl_lower_law.specs.Values.{Keeps, Stands}
use Rattle.gsl_lower_law.proofs.Joining.{does_then as step_then, given_does, grows_then}
use Rattle.gsl_lower_law.proofs.Straying.{strays_before}
use Rattle.gsl_spv.proofs.Extending.{extends_same}
use Rattle.gsl_lower_reaching.specs.OfLawMembers.{IsRow, laid_as}
use Rattle.gsl_lower_reaching.specs.OfLawMembers.{size_of}
use Rattle.gsl_lower_reaching.proofs.OfLawMembers.{element_laid, row_array, row_laid, row_short}
use Rattle.gsl_lower_law_picks.specs.Outside.{HasPart}
use Rattle.gsl_lower_holders.specs.Flow.{Flow, Gives, Lacks, Lowered, flow_of, lift}
use Rattle.gsl_lower_expr.specs.Parts.{step_into}
use Rattle.gsl_lower_follows.specs.Following.Astray.{later}
use Rattle.gsl_lower_follows.specs.Frames.{Frame, Good, HeldAs, Inside, coming}
use Rattle.gsl_lower_follows.specs.Giving.{After, Does, Grown, none_waits}
use Rattle.gsl_lower_follows.proofs.Behind.{reaches_here}
use Rattle.gsl_lower_follows.proofs.Doing.{Lifted, does_lift, strays_lift}
use Rattle.gsl_lower_follows.proofs.Drawn.{after_drawn, choices_are, left_with}
use Rattle.gsl_lower_follows.proofs.Holding.{after_same}
use Rattle.gsl_lower_reaching.specs.Reaching.{AtValue, ChoosesBy, GoesBeyond, HasReached, HasStrayed, IsBlockTrail, IsOwnTrail, IsTrail, NumberBy, PicksBy, Start}
use Rattle.gsl_lower_reaching.specs.Reaching.IsTrail.{own, in_block}
use Rattle.gsl_lower_reaching.specs.Reaching.Start.{OfValue}
use Rattle.gsl_lower_reaching.specs.Trails.{Chosen, IsInside, IsOut, IsOutside, IsPicked, Trail}
use Rattle.gsl_lower_reaching.proofs.Blocks.{IsHere, behind_beyond, block_begins, block_further, block_here, block_longer, further, inside_further, out_some}
use Rattle.gsl_lower_reaching.proofs.Counted.{shape_fixed, value_fixed, vector_counted}
use Rattle.gsl_lower_reaching.proofs.Moving.{number_so, numbers_longer, trail_after}
use Rattle.gsl_lower_reaching.proofs.Parts.{IsWhole, begins_longer, begins_swizzled, inside_longer, longer, more_inside, more_outside, outside_longer, whole_picked}
use Rattle.gsl_lower_reaching.proofs.Seen.{parts_counted, there, there_typed}
use Rattle.gsl_lower_elements.proofs.Standing.{row_counted, run_counted}
use Rattle.gsl_lower_elements.proofs.Deeper.{KnownBelow, component_inside, component_lost, component_outside, component_trail, longer_lost, next_chosen, rechosen, reworded}
use Rattle.gsl_lower_elements.proofs.Tables.{position_computes, position_grows, position_strays}

pub none_shape : (base : Ty) → shape_of base ≡ None → (shape : Shape) → shape_of base ≡ Some shape → ⊥
none_shape base none shape some = let e : None ≡ Some shape = sym none ∙ some in cc

module _ (m : Module) (input : Input) (sections : Sections) (f : Frame m input sections) (p : Program) (around : Around) where
  -- what was reached waits to stray
  pub strays_so : {A R : Type 0} (units : ℕ) (state : State) (Is : A → Flow → R → shader.State → State → Type 0) (Waits : A → Flow → shader.State → State → Type 0) (s : shader.State) (low : Lowered A)
      → Does m input sections f p 0 units state (λ a flow (r : Unit {0}) t last. Waits a flow t last) none_waits (Got tt s units) low → Does m input sections f p 0 units state Is Waits Strays low
  strays_so units state Is Waits s Lacks does = tt
  strays_so units state Is Waits s (Gives a flow) does = λ inside. later s units (does inside)

  with_picks : (lies : Start) (b : Flow) (state : State) (r : Reached) (l : Trail) (q : Picked) (c : Chosen) → IsTrail m input sections f p around false lies b state r l → PicksBy (λ id v. HeldAs m input sections f false id v b state) (Some q) (Some c)
      → IsTrail m input sections f p around false lies b state (with_picked r q) (record l { picks = Some c })
  with_picks lies b state r l q c (own x) picks = own (record { begins = begins_swizzled m input sections f p around (λ id v. HeldAs m input sections f false id v b state) b.place.used state lies r.base r.path l (Some c) x.begins; numbers = x.numbers; picks = picks })
  with_picks lies b state r l q c (in_block x) picks = in_block (record { begins = block_begins m input sections f p around lies r.base l l.words (Some c) x.begins x.begins.beyond; numbers = x.numbers; picks = picks })

  -- behind a step that stores nothing and draws nothing
  pub after_step : {A : Type 0} (Is : A → Ids → Type 0) (b : Flow) (s : shader.State) (state : State) (a : A) (after : Sections) → Good m input sections f p around b s state → Inside m input sections f after → (l : Lifted m input sections f p around Is (drawing state state.choices) b state a after)
      → After m input sections f p around false b state (flow_of after b.place) s (record (leaving state (drawing state state.choices) l.ids) { rest = coming m input sections f after })
  after_step Is b s state a after good inside l =
      subst (λ t. After m input sections f p around false b state (flow_of after b.place) t (record (leaving state (drawing state state.choices) l.ids) { rest = coming m input sections f after })) (ap (left_with s) good.holds.choices)
      (after_drawn m input sections f p around b s state l.ids state.choices after (choices_are m input sections f p around b s state good) good inside l.ready l.keeps l.reached)

  -- ---- the component of a swizzle at a word

  module _ (r : Reached) (q : Picked) (c : Chosen) (s : Scalar) (id k : ℕ) where
    -- what is picked then
    abbrev pub IsNext : Reached → Ids → Type 0
    IsNext next ids = (q2 : Picked) × (next ≡ with_picked r q2) × PicksBy (λ id v. Stands ids id v) (Some q2) (Some (rechosen (By s id) k c))

    abbrev repicking : ℕ → Step Picked
    repicking position = steps.given (picking q.shape (repicked q.by position) (0 ∷ []))

    abbrev repicked_step : Step Picked
    repicked_step = steps.◌>>=◌ (position_by q.positions id) repicking

    abbrev whole_step : Step Reached
    whole_step = steps.◌>>=◌ repicked_step (λ picked. steps.given (with_picked r picked))

    always_given : {A : Type 0} (a : A) (before : Sections) → Grows before (steps.given a before)
    always_given a before = extends_same before

    repicked_grows : (state : State) (before : Sections) → Grows before (repicked_step before)
    repicked_grows state before = grows_then m input sections before (position_by q.positions id before) repicking (position_grows m input sections q.positions id k state before) (λ position between. always_given (picking q.shape (repicked q.by position) (0 ∷ [])) between)

    pub whole_grows : (state : State) (before : Sections) → Grows before (whole_step before)
    whole_grows state before = grows_then m input sections before (repicked_step before) (λ picked. steps.given (with_picked r picked)) (repicked_grows state before) (λ picked between. always_given (with_picked r picked) between)

    chooses_next : (ids last : Ids) (by : Option Part) (word : Option ℕ) (position n : ℕ) → Keeps ids last → ChoosesBy (λ id v. Stands ids id v) by word → Stands last position (Word n) → ChoosesBy (λ id v. Stands last id v) (repicked by position) (reworded word n)
    chooses_next ids last None None position n keeps chooses stands = stands
    chooses_next ids last None (Some word) position n keeps chooses stands = absurd chooses
    chooses_next ids last (Some part) None position n keeps chooses stands = absurd chooses
    chooses_next ids last (Some part) (Some word) position n keeps chooses stands = number_so (λ id v. Stands ids id v) (λ id v. Stands last id v) (λ id v x. keeps.same id _ x) part word chooses

    pub whole_does : (state : State) (before : Sections) → PicksBy (λ id v. Stands state.ids id v) (Some q) (Some c) → k < length c.positions → Stands state.ids id (Word k) → law.Does m input sections IsNext state.choices state before whole_step
    whole_does state before picks less stands =
        step_then m input sections Next IsNext state.choices state.choices state before repicked_step (λ picked. steps.given (with_picked r picked))
        (step_then m input sections (λ position ids. Stands ids position (Word (slice_index q.positions k))) Next state.choices state.choices state before (position_by q.positions id) repicking
        (position_computes m input sections q.positions id k state before (subst (λ l. k < length l) (sym picks.1) less) stands)
        (λ position between. always_given (picking q.shape (repicked q.by position) (0 ∷ [])) between)
        (λ position between ids there keeps. given_does m input sections Next (picking q.shape (repicked q.by position) (0 ∷ [])) (record state { ids = ids }) between
        (picks.0, refl, chooses_next state.ids ids q.by c.word position (slice_index c.positions k) keeps picks.2 (subst (λ l. Stands ids position (Word (slice_index l k))) picks.1 there))))
        (λ picked between. always_given (with_picked r picked) between)
        (λ picked between ids next keeps. given_does m input sections IsNext (with_picked r picked) (record state { ids = ids }) between (picked, refl, next))
      where
        Next : Picked → Ids → Type 0
        Next q2 ids = PicksBy (λ id v. Stands ids id v) (Some q2) (Some (rechosen (By s id) k c))

    pub whole_strays : (state : State) (before : Sections) → length q.positions ≤ k → Stands state.ids id (Word k) → StepStrays m input sections state before whole_step
    whole_strays state before most stands =
        strays_before m input sections state before repicked_step (λ picked. steps.given (with_picked r picked))
        (strays_before m input sections state before (position_by q.positions id) repicking (position_strays m input sections q.positions id k state before most stands) (λ position between. always_given (picking q.shape (repicked q.by position) (0 ∷ [])) between))
        (λ picked between. always_given (with_picked r picked) between)

  -- ---- one index more

  module _ (are : AreStructs p.structs) (lies : Start) (writes : Bool) (base t : Ty) (part : Part) (k : ℕ) (sound : IsSound (length p.structs) base) (sound_t : IsSound (length p.structs) t) (has : element_of base ≡ Some t) where
    abbrev Reaches : Flow → State → Reached → Flow → Access → shader.State → State → Type 0
    Reaches b state = HasReached m input sections f p around false lies writes t b state

    abbrev Strayed : Flow → State → Reached → Flow → shader.State → State → Type 0
    Strayed b state = HasStrayed m input sections f p around false lies writes t b state

    -- An index into an array that is in no variable is known. One that is known is in range, where the type tells a length.
    pub record MayIndex : Type 0 where
      pub fixed : shape_of base ≡ None → lies ≡ OfValue → (number : ℕ) × (part ≡ Fixed number)
      pub known : (number : ℕ) → part ≡ Fixed number → has_fixed_length base ≡ true → k < length_of base

    module _ (may : MayIndex) (units : ℕ) (b : Flow) (s : shader.State) (state : State) (r : Reached) (l : Trail) (good : Good m input sections f p around b s state) (is : IsTrail m input sections f p around false lies b state r l) (number : NumberBy (λ id v. HeldAs m input sections f false id v b state) part k) where
      own_longer : shape_of base ≡ None → (x : IsOwnTrail m input sections f p around false lies b state r l) → ((y : AtValue m input sections f p around (λ id v. HeldAs m input sections f false id v b state) lies r.base r.path l) → HasPart y.value (l.words ++ k ∷ []))
          → IsTrail m input sections f p around false lies b state (part_of r part) (longer l k)
      own_longer none x more = own (record {
        begins = begins_longer m input sections f p around (λ id v. HeldAs m input sections f false id v b state) b.place.used state lies r.base r.path l part k (may.fixed none) more x.begins;
        numbers = numbers_longer (λ id v. HeldAs m input sections f false id v b state) r.path l.words part k x.numbers number;
        picks = x.picks;
      })

      picks_of_trail : IsTrail m input sections f p around false lies b state r l → PicksBy (λ id v. HeldAs m input sections f false id v b state) r.picked l.picks
      picks_of_trail (own x) = x.picks
      picks_of_trail (in_block x) = x.picks

      -- a component of a vector
      trail_component : (shape : Shape) (one : Part) → NumberBy (λ id v. HeldAs m input sections f false id v b state) one k → (o : Option Chosen) → l.picks ≡ o → o ≡ None → IsTrail m input sections f p around false lies b state (with_picked r (component_of shape one)) (component_trail shape one k l)
      trail_component shape (Fixed n) is_k o e none =
          subst (λ c. IsTrail m input sections f p around false lies b state (with_picked r (component_of shape (Fixed n))) (record l { picks = Some (next_chosen shape (Fixed n) k c) })) (sym (e ∙ none))
          (with_picks lies b state r l (picking shape None (n ∷ [])) (record { shape = shape; word = None; positions = k ∷ [] }) is (refl, ap (λ n. n ∷ []) is_k, tt))
      trail_component shape (By kind id) is_k o e none =
          subst (λ c. IsTrail m input sections f p around false lies b state (with_picked r (component_of shape (By kind id))) (record l { picks = Some (next_chosen shape (By kind id) k c) })) (sym (e ∙ none))
          (with_picks lies b state r l (picking shape (Some (By kind id)) (0 ∷ [])) (record { shape = shape; word = Some k; positions = 0 ∷ [] }) is (refl, refl, is_k))

      module _ (a : Access) (inside : IsInside p.structs p.blocks writes base a l) where
        counted : (shape : Shape) → shape_of base ≡ Some shape → parts_at a s ≡ length_of base
        counted shape of = by is
          where
            by : IsTrail m input sections f p around false lies b state r l → parts_at a s ≡ length_of base
            by (own x) = parts_counted m input sections f p around are (λ id v. HeldAs m input sections f false id v b state) b.place.used b s state state lies writes r.base r.path base a l good x.begins inside t sound has
            by (in_block x) = run_counted m input sections f p around are lies b s state r l good x writes base a inside t has shape sound of

        module _ (count : ℕ) (are_so : parts_at a s ≡ count) where
          got : k < count → indexing a k s units ≡ Got (index_of a k) s units
          got less = cond-true (nat_lt k (parts_at a s)) (Got (index_of a k) s units) Strays (lt-ltb k (parts_at a s) (subst (λ n. k < n) (sym are_so) less))

          strays : count ≤ k → indexing a k s units ≡ Strays
          strays most = cond-false (nat_lt k (parts_at a s)) (Got (index_of a k) s units) Strays (le-ltb k (parts_at a s) (subst (λ n. n ≤ k) (sym are_so) most))

          -- nothing is done, and the trail is longer
          here_in : (next : Reached) (trail : Trail) → IsTrail m input sections f p around false lies b state next trail → IsInside p.structs p.blocks writes t (index_of a k) trail → k < count
              → Does m input sections f p 0 units state (Reaches b state) (Strayed b state) (indexing a k s units) (Gives next b)
          here_in next trail x leads less = subst (λ ran. Does m input sections f p 0 units state (Reaches b state) (Strayed b state) ran (Gives next b)) (sym (got less))
              (λ within. reaches_here m input units state (Reaches b state next b (index_of a k) s) (record { trail = trail; is = x; inside = leads; after = after_same m input sections f p around b s state good }))

          here_out : (next : Reached) (trail : Trail) → IsTrail m input sections f p around false lies b state next trail → IsOutside p.structs p.blocks writes t trail → count ≤ k
              → Does m input sections f p 0 units state (Reaches b state) (Strayed b state) (indexing a k s units) (Gives next b)
          here_out next trail x leads most = subst (λ ran. Does m input sections f p 0 units state (Reaches b state) (Strayed b state) ran (Gives next b)) (sym (strays most))
              (λ within. later s units (reaches_here m input units state (Strayed b state next b s) (record { trail = trail; is = x; outside = leads; after = after_same m input sections f p around b s state good })))

        own_array : shape_of base ≡ None → IsOwnTrail m input sections f p around false lies b state r l → Does m input sections f p 0 units state (Reaches b state) (Strayed b state) (indexing a k s units) (Gives (part_of r part) b)
        own_array none x = by (cases_lt k (length_of base))
          where
            w : IsWhole inside.whole base (l.front ++ l.words) l.picks a.path a.picked
            w = whole_picked inside.whole base (l.front ++ l.words) l.picks a.path a.picked (none_shape base none) inside.picks

            fixed_length : has_fixed_length base ≡ true
            fixed_length =
                let v = there m input sections f p around are (λ id v. HeldAs m input sections f false id v b state) b.place.used b s state state lies writes r.base r.path base a l good x.begins inside in
                value_fixed p.structs base t v has (subst (λ u. is_value_of p.structs u v ≡ true) w.same (there_typed m input sections f p around are (λ id v. HeldAs m input sections f false id v b state) b.place.used b s state state lies writes r.base r.path base a l good x.begins inside))

            own_counted : parts_at a s ≡ length_of base
            own_counted = parts_counted m input sections f p around are (λ id v. HeldAs m input sections f false id v b state) b.place.used b s state state lies writes r.base r.path base a l good x.begins inside t sound has

            by : (k < length_of base) ⊎ (length_of base ≤ k) → Does m input sections f p 0 units state (Reaches b state) (Strayed b state) (indexing a k s units) (Gives (part_of r part) b)
            by (inl less) = here_in (length_of base) own_counted (part_of r part) (longer l k) (own_longer none x (λ v. more_inside p.structs p.blocks are writes base t k a l (none_shape base none) (inr (has, less)) sound_t inside v.value v.typed))
                (subst (λ o. IsInside p.structs p.blocks writes t (index_in a o k) (longer l k)) (sym w.unpicked) (inside_longer p.structs p.blocks writes base t k a l (none_shape base none) (inr (has, less)) sound_t inside)) less
            by (inr most) = here_out (length_of base) own_counted (part_of r part) (longer l k) (own_longer none x (λ v. let known = may.fixed none v.marked in let less = may.known known.0 known.1 fixed_length in absurd (omega (arith, less, most)))) (longer_lost p.structs p.blocks writes base t part k sound has a l (none_shape base none) most inside) most

        block_array : shape_of base ≡ None → IsBlockTrail m input sections f p around false lies b state r l → Does m input sections f p 0 units state (Reaches b state) (Strayed b state) (indexing a k s units) (Gives (part_of r part) b)
        block_array none x = by (cases_lt k (elements (laid_as x.begins.block.std140 p.structs l.ty) x.begins.offset (size_of m input x.begins.id)))
          where
            here : IsHere m input sections f p around are lies writes base b state r a l
            here = block_here m input sections f p around are lies writes base b state r a l (none_shape base none) inside x

            row : IsRow x.begins.block.std140 p.structs l.ty t (laid_as x.begins.block.std140 p.structs l.ty)
            row = row_laid p.structs 0 x.begins.block.std140 l.ty t (ap element_of here.ty ∙ has) (ap shape_of here.ty ∙ none)

            beyond : elements (laid_as x.begins.block.std140 p.structs l.ty) x.begins.offset (size_of m input x.begins.id) ≤ k → (words : List ℕ) → words ≡ [] → GoesBeyond (size_of m input x.begins.id) (laid_as x.begins.block.std140 p.structs l.ty) x.begins.offset (words ++ k ∷ [])
            beyond most words e = subst (λ words. GoesBeyond (size_of m input x.begins.id) (laid_as x.begins.block.std140 p.structs l.ty) x.begins.offset (words ++ k ∷ [])) (sym e) (row_array p.structs (size_of m input x.begins.id) l.ty t (laid_as x.begins.block.std140 p.structs l.ty) x.begins.block.std140 row, most)

            by : (k < elements (laid_as x.begins.block.std140 p.structs l.ty) x.begins.offset (size_of m input x.begins.id)) ⊎ (elements (laid_as x.begins.block.std140 p.structs l.ty) x.begins.offset (size_of m input x.begins.id) ≤ k)
                → Does m input sections f p 0 units state (Reaches b state) (Strayed b state) (indexing a k s units) (Gives (part_of r part) b)
            by (inl less) =
                here_in (elements (laid_as x.begins.block.std140 p.structs l.ty) x.begins.offset (size_of m input x.begins.id)) (row_counted m input sections f p around are lies b s state r l good x writes base a inside t has none) (part_of r part) (further l k t)
                (in_block (block_further m input sections f p around lies b state r l x part k t number here.none here.no_picks (element_laid p.structs (size_of m input x.begins.id) x.begins.block.std140 x.begins.offset k l.ty t (laid_as x.begins.block.std140 p.structs l.ty) row less) sound_t))
                (subst (λ o. IsInside p.structs p.blocks writes t (index_in a o k) (further l k t)) (sym here.unpicked) (inside_further p.structs p.blocks writes base t k a l here.none here.path_is here.unpicked sound_t inside)) less
            by (inr most) =
                here_out (elements (laid_as x.begins.block.std140 p.structs l.ty) x.begins.offset (size_of m input x.begins.id)) (row_counted m input sections f p around are lies b s state r l good x writes base a inside t has none) (part_of r part) (longer l k)
                (in_block (block_longer m input sections f p around lies b state r l x part k number (beyond most l.words here.none)))
                (longer_lost p.structs p.blocks writes base t part k sound has a l (none_shape base none) (subst (λ u. length_of u ≤ k) here.ty (row_short p.structs (size_of m input x.begins.id) l.ty t (laid_as x.begins.block.std140 p.structs l.ty) x.begins.block.std140 x.begins.offset k row most)) inside) most

        of_array : shape_of base ≡ None → Does m input sections f p 0 units state (Reaches b state) (Strayed b state) (indexing a k s units) (Gives (part_of r part) b)
        of_array none = by is
          where
            by : IsTrail m input sections f p around false lies b state r l → Does m input sections f p 0 units state (Reaches b state) (Strayed b state) (indexing a k s units) (Gives (part_of r part) b)
            by (own x) = own_array none x
            by (in_block x) = block_array none x

        of_vector : (shape : Shape) → shape_of base ≡ Some shape → (one : Part) → part ≡ one → l.picks ≡ None → Does m input sections f p 0 units state (Reaches b state) (Strayed b state) (indexing a k s units) (Gives (with_picked r (component_of shape one)) b)
        of_vector shape of one same none = by one same (cases_lt k (length_of base))
          where
            by : (one : Part) → part ≡ one → (k < length_of base) ⊎ (length_of base ≤ k) → Does m input sections f p 0 units state (Reaches b state) (Strayed b state) (indexing a k s units) (Gives (with_picked r (component_of shape one)) b)
            by one same (inl less) =
                here_in (length_of base) (counted shape of) (with_picked r (component_of shape one)) (component_trail shape one k l) (trail_component shape one (subst (λ part. NumberBy (λ id v. HeldAs m input sections f false id v b state) part k) same number) l.picks refl none)
                (component_inside p.structs p.blocks writes base t one k sound has shape of less a l inside) less
            by (Fixed n) same (inr most) = absurd (let less = may.known n same (shape_fixed base t shape has of) in omega (arith, less, most))
            by (By kind id) same (inr most) =
                here_out (length_of base) (counted shape of) (with_picked r (component_of shape (By kind id))) (component_trail shape (By kind id) k l) (trail_component shape (By kind id) (subst (λ part. NumberBy (λ id v. HeldAs m input sections f false id v b state) part k) same number) l.picks refl none)
                (component_lost p.structs p.blocks writes base t kind id k shape a l sound has of none most inside) most

      -- the trail behind a component of a swizzle
      trail_again : (shape : Shape) (one : Part) (c : Chosen) (flow : Flow) (last : State) (next : Reached) → l.picks ≡ Some c → IsTrail m input sections f p around false lies flow last next (record l { picks = Some (rechosen one k c) }) → IsTrail m input sections f p around false lies flow last next (component_trail shape one k l)
      trail_again shape one c flow last next e x = subst (λ o. IsTrail m input sections f p around false lies flow last next (record l { picks = Some (next_chosen shape one k o) })) (sym e) x

      trail_known : (n : ℕ) (q : Picked) (c : Chosen) → n ≡ k → PicksBy (λ id v. HeldAs m input sections f false id v b state) (Some q) (Some c)
          → IsTrail m input sections f p around false lies b state (with_picked r (record q { positions = slice_index q.positions n ∷ [] })) (record l { picks = Some (rechosen (Fixed n) k c) })
      trail_known n q c is_k picks =
          with_picks lies b state r l (record q { positions = slice_index q.positions n ∷ [] }) (record c { positions = slice_index c.positions k ∷ [] }) is
          (picks.0, ap (λ l. slice_index l n ∷ []) picks.1 ∙ ap (λ j. slice_index c.positions j ∷ []) is_k, picks.2)

      -- the position at a word is found
      trail_found : (shape : Shape) (kind : Scalar) (id : ℕ) (q : Picked) (c : Chosen) (next : Reached) (after : Sections) → Inside m input sections f after → l.picks ≡ Some c → (x : Lifted m input sections f p around (IsNext r q c kind id k) (drawing state state.choices) b state next after) → Grown b (flow_of after b.place)
          → IsTrail m input sections f p around false lies (flow_of after b.place) (record (leaving state (drawing state state.choices) x.ids) { rest = coming m input sections f after }) next (component_trail shape (By kind id) k l)
      trail_found shape kind id q c next after within e x grown =
          let last : State = record (leaving state (drawing state state.choices) x.ids) { rest = coming m input sections f after } in
          trail_again shape (By kind id) c (flow_of after b.place) last next e
          (subst (λ r. IsTrail m input sections f p around false lies (flow_of after b.place) last r (record l { picks = Some (rechosen (By kind id) k c) })) (sym x.is.1)
          (with_picks lies (flow_of after b.place) last r l x.is.0 (rechosen (By kind id) k c)
          (trail_after m input sections f p around false lies b (flow_of after b.place) state last s r l grown (after_step (IsNext r q c kind id k) b s state next after good within x) is)
          x.is.2))

      module _ (a : Access) (inside : IsInside p.structs p.blocks writes base a l) where
        of_swizzle : (shape : Shape) → shape_of base ≡ Some shape → (q : Picked) (c : Chosen) → l.picks ≡ Some c → PicksBy (λ id v. HeldAs m input sections f false id v b state) (Some q) (Some c) → (one : Part) → part ≡ one
            → Does m input sections f p 0 units state (Reaches b state) (Strayed b state) (indexing a k s units) (lift (steps.◌>>=◌ (component_in q one) (λ picked. steps.given (with_picked r picked))) b)
        of_swizzle shape of q c e picks (Fixed n) same =
            here_in a inside (length_of base) (counted a inside shape of) (with_picked r (record q { positions = slice_index q.positions n ∷ [] })) (component_trail shape (Fixed n) k l)
            (trail_again shape (Fixed n) c b state (with_picked r (record q { positions = slice_index q.positions n ∷ [] })) e (trail_known n q c (subst (λ part. NumberBy (λ id v. HeldAs m input sections f false id v b state) part k) same number) picks))
            (component_inside p.structs p.blocks writes base t (Fixed n) k sound has shape of (may.known n same (shape_fixed base t shape has of)) a l inside) (may.known n same (shape_fixed base t shape has of))
        of_swizzle shape of q c e picks (By kind id) same = by (cases_lt k (length_of base))
          where
            stands : Stands state.ids id (Word k)
            stands = subst (λ part. NumberBy (λ id v. HeldAs m input sections f false id v b state) part k) same number

            as_many : length_of base ≡ length c.positions
            as_many = (vector_counted (length p.structs) base t (c.shape.0, length c.positions) sound has (subst (λ o. IsPicked inside.whole base (l.front ++ l.words) o a.path a.picked) e inside.picks).gives).0

            by : (k < length_of base) ⊎ (length_of base ≤ k) → Does m input sections f p 0 units state (Reaches b state) (Strayed b state) (indexing a k s units) (lift (whole_step r q c kind id k) b)
            by (inl less) =
                subst (λ ran. Does m input sections f p 0 units state (Reaches b state) (Strayed b state) ran (lift (whole_step r q c kind id k) b)) (sym (got a inside (length_of base) (counted a inside shape of) less))
                (does_lift m input sections f p around units b s state (IsNext r q c kind id k) (drawing state state.choices) (Reaches b state) (Strayed b state) (index_of a k) s (whole_step r q c kind id k) good
                (whole_does r q c kind id k state b.sections picks (omega (arith, less, as_many)) stands)
                (λ next after x within extends. record {
                  trail = component_trail shape (By kind id) k l;
                  is = trail_found shape kind id q c next after within e x (record { extends = extends; used = omega arith; place = refl });
                  inside = component_inside p.structs p.blocks writes base t (By kind id) k sound has shape of less a l inside;
                  after = after_step (IsNext r q c kind id k) b s state next after good within x;
                }))
            by (inr most) =
                subst (λ ran. Does m input sections f p 0 units state (Reaches b state) (Strayed b state) ran (lift (whole_step r q c kind id k) b)) (sym (strays a inside (length_of base) (counted a inside shape of) most))
                (strays_lift m input sections f p around units b s state (Reaches b state) (Strayed b state) (whole_step r q c kind id k) good (whole_strays r q c kind id k state b.sections (let many : length q.positions ≡ length c.positions = ap length picks.1 in omega (arith, most, as_many, many)) stands))

        -- an index that may be in bounds
        pub step_in : Does m input sections f p 0 units state (Reaches b state) (Strayed b state) (indexing a k s units) (lift (step_into (shape_of base) part r) b)
        unfolding component_at
        step_in = by (shape_of base) refl
          where
            by_pick : (shape : Shape) → shape_of base ≡ Some shape → (o : Option Picked) (c : Option Chosen) → l.picks ≡ c → PicksBy (λ id v. HeldAs m input sections f false id v b state) o c
                → Does m input sections f p 0 units state (Reaches b state) (Strayed b state) (indexing a k s units) (lift (steps.◌>>=◌ (component_if shape part o) (λ picked. steps.given (with_picked r picked))) b)
            by_pick shape of None None e picks = of_vector a inside shape of part refl e
            by_pick shape of None (Some c) e picks = absurd picks
            by_pick shape of (Some q) None e picks = absurd picks
            by_pick shape of (Some q) (Some c) e picks = of_swizzle shape of q c e picks part refl

            by : (o : Option Shape) → shape_of base ≡ o → Does m input sections f p 0 units state (Reaches b state) (Strayed b state) (indexing a k s units) (lift (step_into o part r) b)
            by None e = of_array a inside e
            by (Some shape) e = by_pick shape e r.picked l.picks refl (picks_of_trail is)

      -- ---- behind an index that was out of bounds

      module _ {R : Type 0} (Then : Reached → Flow → R → shader.State → State → Type 0) (outside : IsOutside p.structs p.blocks writes base l) where
        here_lost : (next : Reached) (trail : Trail) → IsTrail m input sections f p around false lies b state next trail → IsOutside p.structs p.blocks writes t trail → Does m input sections f p 0 units state Then (Strayed b state) Strays (Gives next b)
        here_lost next trail x leads = λ within. later s units (reaches_here m input units state (Strayed b state next b s) (record { trail = trail; is = x; outside = leads; after = after_same m input sections f p around b s state good }))

        vector_lost : (shape : Shape) → shape_of base ≡ Some shape → (one : Part) → part ≡ one → l.picks ≡ None → Does m input sections f p 0 units state Then (Strayed b state) Strays (Gives (with_picked r (component_of shape one)) b)
        vector_lost shape of one same none =
            here_lost (with_picked r (component_of shape one)) (component_trail shape one k l) (trail_component shape one (subst (λ part. NumberBy (λ id v. HeldAs m input sections f false id v b state) part k) same number) l.picks refl none)
            (component_outside p.structs p.blocks writes base t one k sound has shape of l (below one same) (λ c e. absurd (let z : None ≡ Some c = sym none ∙ e in cc)) outside)
          where
            below : (one : Part) → part ≡ one → KnownBelow shape k one
            below (Fixed n) same = (let less = may.known n same (shape_fixed base t shape has of) in let v = vector_counted (length p.structs) base t shape sound has of in let many = v.0 in omega (arith, less, many))
            below (By kind id) same = tt

        swizzle_lost : (shape : Shape) → shape_of base ≡ Some shape → (q : Picked) (c : Chosen) → l.picks ≡ Some c → PicksBy (λ id v. HeldAs m input sections f false id v b state) (Some q) (Some c) → (one : Part) → part ≡ one
            → Does m input sections f p 0 units state Then (Strayed b state) Strays (lift (steps.◌>>=◌ (component_in q one) (λ picked. steps.given (with_picked r picked))) b)
        swizzle_lost shape of q c e picks one same = by one same
          where
            gives : shape_of base ≡ Some (c.shape.0, length c.positions)
            gives = (subst (λ o. IsOut p.structs l.ty base l.words o) e outside.out).gives

            as_many : (length_of base ≡ length c.positions) × (2 ≤ length c.positions)
            as_many = vector_counted (length p.structs) base t (c.shape.0, length c.positions) sound has gives

            below : (one : Part) → part ≡ one → KnownBelow shape k one
            below (Fixed n) same = (let less = may.known n same (shape_fixed base t shape has of) in let v = vector_counted (length p.structs) base t shape sound has of in let many = v.0 in omega (arith, less, many))
            below (By kind id) same = tt

            lost : (one : Part) → part ≡ one → k < length c.positions → IsOutside p.structs p.blocks writes t (component_trail shape one k l)
            lost one same less = component_outside p.structs p.blocks writes base t one k sound has shape of l (below one same) (λ d d_is. subst (λ (d : Chosen). k < length d.positions) (some_same (sym e ∙ d_is)) less) outside
              where
                some_same : {x y : Chosen} → Some x ≡ Some y → x ≡ y
                some_same e = cc

            by : (one : Part) → part ≡ one → Does m input sections f p 0 units state Then (Strayed b state) Strays (lift (steps.◌>>=◌ (component_in q one) (λ picked. steps.given (with_picked r picked))) b)
            by (Fixed n) same =
                here_lost (with_picked r (record q { positions = slice_index q.positions n ∷ [] })) (component_trail shape (Fixed n) k l)
                (trail_again shape (Fixed n) c b state (with_picked r (record q { positions = slice_index q.positions n ∷ [] })) e (trail_known n q c (subst (λ part. NumberBy (λ id v. HeldAs m input sections f false id v b state) part k) same number) picks))
                (lost (Fixed n) same (let less = may.known n same (shape_fixed base t shape has of) in let many = as_many.0 in omega (arith, less, many)))
            by (By kind id) same = by_count (cases_lt k (length c.positions))
              where
                stands : Stands state.ids id (Word k)
                stands = subst (λ part. NumberBy (λ id v. HeldAs m input sections f false id v b state) part k) same number

                by_count : (k < length c.positions) ⊎ (length c.positions ≤ k) → Does m input sections f p 0 units state Then (Strayed b state) Strays (lift (whole_step r q c kind id k) b)
                by_count (inl less) =
                    strays_so units state Then (Strayed b state) s (lift (whole_step r q c kind id k) b)
                    (does_lift m input sections f p around units b s state (IsNext r q c kind id k) (drawing state state.choices) (λ a flow (one : Unit {0}) t last. Strayed b state a flow t last) none_waits tt s (whole_step r q c kind id k) good
                    (whole_does r q c kind id k state b.sections picks less stands)
                    (λ next after x within extends. record {
                      trail = component_trail shape (By kind id) k l;
                      is = trail_found shape kind id q c next after within e x (record { extends = extends; used = omega arith; place = refl });
                      outside = lost (By kind id) same less;
                      after = after_step (IsNext r q c kind id k) b s state next after good within x;
                    }))
                by_count (inr most) =
                    strays_lift m input sections f p around units b s state Then (Strayed b state) (whole_step r q c kind id k) good
                    (whole_strays r q c kind id k state b.sections (let many : length q.positions ≡ length c.positions = ap length picks.1 in omega (arith, most, many)) stands)

        -- an index more
        pub step_out : Does m input sections f p 0 units state Then (Strayed b state) Strays (lift (step_into (shape_of base) part r) b)
        unfolding component_at
        step_out = by (shape_of base) refl
          where
            lost_longer : shape_of base ≡ None → IsTrail m input sections f p around false lies b state r l → IsTrail m input sections f p around false lies b state (part_of r part) (longer l k)
            lost_longer none (own x) = own_longer none x (λ v. more_outside p.structs p.blocks are writes base l (none_shape base none) outside k v.value v.typed v.has)
            lost_longer none (in_block x) =
                in_block (block_longer m input sections f p around lies b state r l x part k number
                (behind_beyond (size_of m input x.begins.id) (laid_as x.begins.block.std140 p.structs l.ty) x.begins.offset l.words k p.structs l.ty (out_some p.structs l.ty base l.words l.picks (none_shape base none) outside.out) x.begins.beyond))

            by_pick : (shape : Shape) → shape_of base ≡ Some shape → (o : Option Picked) (c : Option Chosen) → l.picks ≡ c → PicksBy (λ id v. HeldAs m input sections f false id v b state) o c
                → Does m input sections f p 0 units state Then (Strayed b state) Strays (lift (steps.◌>>=◌ (component_if shape part o) (λ picked. steps.given (with_picked r picked))) b)
            by_pick shape of None None e picks = vector_lost shape of part refl e
            by_pick shape of None (Some c) e picks = absurd picks
            by_pick shape of (Some q) None e picks = absurd picks
            by_pick shape of (Some q) (Some c) e picks = swizzle_lost shape of q c e picks part refl

            by : (o : Option Shape) → shape_of base ≡ o → Does m input sections f p 0 units state Then (Strayed b state) Strays (lift (step_into o part r) b)
            by None e = here_lost (part_of r part) (longer l k) (lost_longer e is) (outside_longer p.structs p.blocks writes base t k l (none_shape base e) outside)
            by (Some shape) e = by_pick shape e r.picked l.picks refl (picks_of_trail is)
