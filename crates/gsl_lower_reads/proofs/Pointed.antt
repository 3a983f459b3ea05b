-- Indexes are tested where a trail leads: a pointer to what is there, or its value, and no more than that.
use Rattle.std.proofs.Common.{◌≡◌, sym, subst, inl, inr, ℕ, ◌⊎◌, Bool, false, true, List, [], ◌∷◌, ◌++◌, length, map, Option, Some, None}
use Rattle.std.specs.List.{AllByRecursion}
use Rattle.gsl_base.specs.declared.input.Input.{Input}
use Rattle.gsl_types.specs.Known.{AreStructs, IsSound}
use Rattle.gsl_types.specs.declared.ty.Ty.{Ty}
use Rattle.gsl_words.specs.declared.module.Module.{Module}
use Rattle.gsl_values.specs.declared.value.Value.{Value}
use Rattle.gsl_tree.specs.Around.{Around}
use Rattle.gsl_tree.specs.Operations.{member_value, value_at}
use Rattle.gsl_tree.specs.Shapes.{Shape, shape_of}
use Rattle.gsl_tree.specs.Values.{is_value_of}
use Rattle.gsl_tree.specs.declared.program.Program.{Program}
use Rattle.gsl_meaning.specs.Accesses.{Access}
use Rattle.gsl_meaning.specs.State as shader
use Rattle.gsl_machine.specs.State.{Ids, InVariable, State}
use Rattle.gsl_spv.specs.Sections.{Sections}
use Rattle.gsl_spv.proofs.Extending.{extends_same}
use Rattle.gsl_lower_values.specs.Building as steps
use Rattle.gsl_lower_values.specs.Building.{Step}
use Rattle.gsl_lower_places.specs.Pointed.{pointed}
use Rattle.gsl_lower_places.specs.Reading.{number_in, read}
use Rattle.gsl_lower_places.specs.declared.reached.Base.{Base}
use Rattle.gsl_lower_places.specs.declared.reached.Base.TheVariants.{Variable, Value as Loose}
use Rattle.gsl_lower_places.specs.declared.reached.Picked.{Picked}
use Rattle.gsl_lower_places.specs.declared.reached.Reached.{Reached}
use Rattle.gsl_lower_law.specs.Computing.{Does}
use Rattle.gsl_lower_law.specs.Straying.{Strays}
use Rattle.gsl_lower_law.specs.Values.{IsOf, Stands}
use Rattle.gsl_lower_law.proofs.Joining.{does_then, given_does}
use Rattle.gsl_lower_law.proofs.Straying.{strays_before}
use Rattle.gsl_lower_law_places.specs.Leading.{NumberEach}
use Rattle.gsl_lower_law_places.proofs.Loads.{extracted_computes}
use Rattle.gsl_lower_law_places.proofs.Reading.{numbers_on}
use Rattle.gsl_lower_law_picks.specs.Outside.{HasPart}
use Rattle.gsl_lower_law_picks.proofs.Along.{stray_on, words_lead}
use Rattle.gsl_lower_law_picks.proofs.Pointed.{component_pointed_out, path_pointed_out, whole_pointed_out}
use Rattle.gsl_lower_leaves.specs.Leaves.{leaves_of}
use Rattle.gsl_lower_leaves.specs.declared.leaf.Leaf.{Leaf}
use Rattle.gsl_lower_holders.specs.Flow.{Flow}
use Rattle.gsl_lower_expr.specs.Parts.{first_leaf, leaf_of, tested}
use Rattle.gsl_lower_follows.specs.Frames.{Frame, Good, HeldAs}
use Rattle.gsl_lower_elements.specs.OfReaching.{IsBlockTrail, IsOwnTrail, IsTrail, PicksBy, Start}
use Rattle.gsl_lower_elements.specs.OfReaching.{own, in_block}
use Rattle.gsl_lower_elements.specs.OfReaching.{Chosen, IsInside, IsOut, IsOutside, IsPicked, LacksComponent, LeadsOut, Trail}
use Rattle.gsl_lower_elements.proofs.OfReaching.{has_part}
use Rattle.gsl_lower_elements.proofs.OfReaching.{chooses_stand, numbers_stand}
use Rattle.gsl_lower_elements.proofs.OfReaching.{out_whole, whole_picked}
use Rattle.gsl_lower_elements.proofs.Indexing.{none_shape}
use Rattle.gsl_lower_elements.proofs.Pointed.{AnyAt, block_pointed, block_pointed_out, leaf_pointed_out, leaves_in, picked_there, whole_there}
use Rattle.gsl_lower_reads.proofs.First.{HasFirst, fixed_numbers, value_first}
use Rattle.gsl_lower_reads.proofs.Grounds.{InPlace, InValue, grounds}
use Rattle.gsl_lower_reads.proofs.Straying.{component_in, component_out, no_path, path_strays, picks_out, shape_strays}
use Rattle.gsl_lower_reads.proofs.Taking.{at_words, chosen_of, holds, leads, lies, picks_stand, result, shape_read, v, v_typed}

-- a value has the parts behind those that it has
has_on : (v : Value) (words more : List ℕ) → HasPart v words → HasPart (value_at v words) more → HasPart v (words ++ more)
has_on v [] more first second = second
has_on v (word ∷ words) more first second = (first.0, has_on (member_value v word) words more first.1 second)

module _ (m : Module) (input : Input) (sections : Sections) where
  -- nothing is done but what a pointer or a value takes
  abbrev pub IsSure : State → Sections → Step (Unit {0}) → Type 0
  IsSure state before step = Does m input sections (λ (done : Unit {0}) (ids : Ids). Unit {0}) state.choices state before step

  abbrev dropped : {A : Type 0} → Step A → Step (Unit {0})
  dropped step = steps.◌>>=◌ step (λ a. steps.given tt)

  dropped_does : {A : Type 0} (Is : A → Ids → Type 0) (step : Step A) (state : State) (before : Sections) → Does m input sections Is state.choices state before step → IsSure state before (dropped step)
  dropped_does Is step state before does =
      does_then m input sections Is (λ (done : Unit {0}) (ids : Ids). Unit {0}) state.choices state.choices state before step (λ a. steps.given {A = Unit {0}} tt) does (λ a between. extends_same between)
      (λ a between ids is keeps. given_does m input sections (λ (done : Unit {0}) (ids : Ids). Unit {0}) tt (record state { ids = ids }) between tt)

  dropped_strays : {A : Type 0} (step : Step A) (state : State) (before : Sections) → Strays m input sections state before step → Strays m input sections state before (dropped step)
  dropped_strays step state before strays = strays_before m input sections state before step (λ a. steps.given {A = Unit {0}} tt) strays (λ a between. extends_same between)

  module _ (f : Frame m input sections) (p : Program) (around : Around) (are : AreStructs p.structs) (loose : Start) (writes : Bool) (t : Ty) (sound_t : IsSound (length p.structs) t) (b : Flow) (s : shader.State) (state : State) (r : Reached) (l : Trail) (good : Good m input sections f p around b s state) where
    abbrev Sure : Step (Unit {0}) → Type 0
    Sure step = IsSure state b.sections step

    abbrev Out : {A : Type 0} → Step A → Type 0
    Out step = Strays m input sections state b.sections step

    -- where a leaf is
    abbrev at_leaf : Base → Leaf → Reached
    at_leaf base one = record { base = base; path = r.path ++ one.path; picked = None }

    -- ---- outside blocks, in bounds

    module _ (is : IsOwnTrail m input sections f p around false loose b state r l) where
      numbers : NumberEach state.ids r.path l.words
      numbers = numbers_stand state.ids r.path l.words is.numbers

      leaf_numbers : (one : Leaf) → NumberEach state.ids one.path (map number_in one.path) → NumberEach state.ids (r.path ++ one.path) (l.words ++ map number_in one.path)
      leaf_numbers one fixed = numbers_on state.ids r.path one.path l.words (map number_in one.path) numbers fixed

      module _ (a : Access) (inside : IsInside p.structs p.blocks writes t a l) where
        abbrev there : Value
        there = v m input sections f p around are loose writes t sound_t b s state r a l good is inside

        place_pointed : (x : InPlace m input sections f p around s state r.base l) (shape : Shape) (o : Option Picked) (c : Option Chosen) → PicksBy (λ id v. HeldAs m input sections f false id v b state) o c → IsPicked inside.whole t (l.front ++ l.words) c a.path a.picked
            → Does m input sections AnyAt state.choices state b.sections (pointed shape (record { base = Variable x.id x.class; path = r.path; picked = o }))
        place_pointed x shape None None picks y =
            whole_there m input sections x.id x.class shape r.path l.words (InVariable x.number []) (InVariable x.number l.words) state b.sections x.points numbers (leads m input sections f p around are loose writes t sound_t b s state r a l good is inside x)
        place_pointed x shape None (Some c) picks y = absurd picks
        place_pointed x shape (Some q) None picks y = absurd picks
        place_pointed x shape (Some q) (Some c) picks y =
            let of = chosen_of m input sections f p around are loose writes t sound_t b s state r a l good is inside c y in
            let of_q : IsOf q.shape there = subst (λ s. IsOf s there) (sym picks.0) of in
            picked_there m input sections x.id x.class r.path q c.word l.words (InVariable x.number []) (InVariable x.number l.words) there state b.sections x.points numbers (leads m input sections f p around are loose writes t sound_t b s state r a l good is inside x)
            (holds m input sections f p around are loose writes t sound_t b s state r a l good is inside x c.shape of) (lies m input sections f p around are loose writes t sound_t b s state r a l good is inside x q.shape of_q)
            (picks_stand m input sections f p around are loose writes t sound_t b s state r a l good is inside q c picks y.some y.within) shape

        own_tested : (shape : Shape) → shape_of t ≡ Some shape → Sure (tested r.base shape r)
        own_tested shape shaped = by (grounds m input sections f p around b s state loose r.base r.path l good is.begins)
          where
            by : InPlace m input sections f p around s state r.base l ⊎ InValue m input sections f p around s state r.base r.path l → Sure (tested r.base shape r)
            by (inl x) =
                subst (λ base. Sure (tested base shape (record { base = base; path = r.path; picked = r.picked }))) (sym x.is)
                (dropped_does AnyAt (pointed shape (record { base = Variable x.id x.class; path = r.path; picked = r.picked })) state b.sections (place_pointed x shape r.picked l.picks is.picks inside.picks))
            by (inr x) =
                subst (λ base. Sure (tested base shape r)) (sym x.is)
                (dropped_does (λ id ids. Stands ids id (result m input sections f p around are loose writes t sound_t b s state r a l good is inside)) (read shape r) state b.sections (shape_read m input sections f p around are loose writes t sound_t b s state r a l good is inside shape shaped))

        -- what is neither scalar nor vector is tested at its first leaf
        own_first : shape_of t ≡ None → Sure (first_leaf r (leaves_of p.structs t))
        unfolding read
        own_first none =
            by (leaves_of p.structs t) (value_first p.structs t are sound_t there (subst (λ u. is_value_of p.structs u there ≡ true) same (v_typed m input sections f p around are loose writes t sound_t b s state r a l good is inside)))
          where
            same : inside.whole ≡ t
            same = (whole_picked inside.whole t (l.front ++ l.words) l.picks a.path a.picked (none_shape t none) inside.picks).same

            in_place : (x : InPlace m input sections f p around s state r.base l) (one : Leaf) (more : List Leaf) → HasFirst there (one ∷ more) → Sure (tested (Variable x.id x.class) one.shape (at_leaf (Variable x.id x.class) one))
            in_place x one more first =
                dropped_does AnyAt (pointed one.shape (at_leaf (Variable x.id x.class) one)) state b.sections
                (whole_there m input sections x.id x.class one.shape (r.path ++ one.path) (l.words ++ map number_in one.path) (InVariable x.number []) (InVariable x.number (l.words ++ map number_in one.path)) state b.sections x.points (leaf_numbers one (fixed_numbers state.ids one.path first.fixed))
                (words_lead m input state x.number x.old x.there [] (l.words ++ map number_in one.path)
                (has_on x.old l.words (map number_in one.path) (has_part p.structs are l.ty l.words inside.whole x.old inside.leads x.typed)
                (subst (λ w. HasPart w (map number_in one.path)) (sym (at_words m input sections f p around are loose writes t sound_t b s state r a l good is inside x)) first.has))))

            in_value : (x : InValue m input sections f p around s state r.base r.path l) (one : Leaf) → Sure (tested (Loose x.id x.type_id) one.shape (at_leaf (Loose x.id x.type_id) one))
            in_value x one =
                dropped_does (λ id ids. Stands ids id (value_at x.v (map number_in (r.path ++ one.path)))) (read one.shape (at_leaf (Loose x.id x.type_id) one)) state b.sections
                (extracted_computes m input sections x.id one.shape (r.path ++ one.path) x.v state b.sections x.stands)

            by : (leaves : List Leaf) → HasFirst there leaves → Sure (first_leaf r leaves)
            by [] first = absurd first
            by (one ∷ more) first = at (grounds m input sections f p around b s state loose r.base r.path l good is.begins)
              where
                at : InPlace m input sections f p around s state r.base l ⊎ InValue m input sections f p around s state r.base r.path l → Sure (tested r.base one.shape (leaf_of r one))
                at (inl x) = subst (λ base. Sure (tested base one.shape (at_leaf base one))) (sym x.is) (in_place x one more first)
                at (inr x) = subst (λ base. Sure (tested base one.shape (at_leaf base one))) (sym x.is) (in_value x one)

      -- ---- outside blocks, out of bounds

      module _ (outside : IsOutside p.structs p.blocks writes t l) where
        place_out : (x : InPlace m input sections f p around s state r.base l) (shape : Shape) (o : Option Picked) (c : Option Chosen) → PicksBy (λ id v. HeldAs m input sections f false id v b state) o c → IsOut p.structs l.ty t l.words c
            → Out (pointed shape (record { base = Variable x.id x.class; path = r.path; picked = o }))
        place_out x shape None None picks out = whole_pointed_out m input sections x.id x.class shape r.path l.words (InVariable x.number []) state b.sections x.points numbers (path_strays m input sections f p around are loose writes t b s state r l good is outside x out)
        place_out x shape None (Some c) picks out = absurd picks
        place_out x shape (Some q) None picks out = absurd picks
        place_out x shape (Some q) (Some c) picks y = by y.out
          where
            by : LeadsOut p.structs l.ty l.words ⊎ LacksComponent p.structs l.ty l.words c → Out (pointed shape (record { base = Variable x.id x.class; path = r.path; picked = Some q }))
            by (inl out) =
                path_pointed_out m input sections x.id x.class r.path q l.words (InVariable x.number []) state b.sections x.points numbers shape c.word (path_strays m input sections f p around are loose writes t b s state r l good is outside x out)
                (chooses_stand state.ids q.by c.word picks.2)
            by (inr z) =
                component_pointed_out m input sections x.id x.class r.path q l.words (InVariable x.number []) state b.sections x.points numbers shape (InVariable x.number l.words) z.word
                (component_in m input sections f p around are loose writes t b s state r l good is outside x c z) (component_out m input sections f p around are loose writes t b s state r l good is outside x c z)
                (picks_out m input sections f p around are loose writes t b s state r l good is outside q c y z picks)

        own_tested_out : (shape : Shape) → Out (tested r.base shape r)
        own_tested_out shape = by (grounds m input sections f p around b s state loose r.base r.path l good is.begins)
          where
            by : InPlace m input sections f p around s state r.base l ⊎ InValue m input sections f p around s state r.base r.path l → Out (tested r.base shape r)
            by (inl x) =
                subst (λ base. Out (tested base shape (record { base = base; path = r.path; picked = r.picked }))) (sym x.is)
                (dropped_strays (pointed shape (record { base = Variable x.id x.class; path = r.path; picked = r.picked })) state b.sections (place_out x shape r.picked l.picks is.picks outside.out))
            by (inr x) = subst (λ base. Out (tested base shape r)) (sym x.is) (dropped_strays (read shape r) state b.sections (shape_strays m input sections f p around are loose writes t b s state r l good is outside shape))

        own_first_out : shape_of t ≡ None → (w : Value) → is_value_of p.structs t w ≡ true → Out (first_leaf r (leaves_of p.structs t))
        own_first_out none w typed = by (leaves_of p.structs t) (value_first p.structs t are sound_t w typed)
          where
            out : LeadsOut p.structs l.ty l.words
            out = (out_whole p.structs l.ty t l.words l.picks (none_shape t none) outside.out).1

            by : (leaves : List Leaf) → HasFirst w leaves → Out (first_leaf r leaves)
            by [] first = absurd first
            by (one ∷ more) first = at (grounds m input sections f p around b s state loose r.base r.path l good is.begins)
              where
                at : InPlace m input sections f p around s state r.base l ⊎ InValue m input sections f p around s state r.base r.path l → Out (tested r.base one.shape (leaf_of r one))
                at (inl x) =
                    subst (λ base. Out (tested base one.shape (at_leaf base one))) (sym x.is)
                    (dropped_strays (pointed one.shape (at_leaf (Variable x.id x.class) one)) state b.sections
                    (whole_pointed_out m input sections x.id x.class one.shape (r.path ++ one.path) (l.words ++ map number_in one.path) (InVariable x.number []) state b.sections x.points (leaf_numbers one (fixed_numbers state.ids one.path first.fixed))
                    (stray_on m input state (InVariable x.number []) l.words (map number_in one.path) (path_strays m input sections f p around are loose writes t b s state r l good is outside x out))))
                at (inr x) = absurd (no_path m input sections f p around are loose writes t b s state r l good is outside x out)

    -- ---- in blocks

    module _ (x : IsBlockTrail m input sections f p around false loose b state r l) where
      module _ (a : Access) (inside : IsInside p.structs p.blocks writes t a l) where
        block_tested : (shape : Shape) → shape_of t ≡ Some shape → Sure (tested r.base shape r)
        block_tested shape shaped =
            subst (λ base. Sure (tested base shape r)) (sym x.begins.is)
            (dropped_does AnyAt (pointed shape r) state b.sections (block_pointed m input sections f p around are loose b s state r l good x writes t a inside sound_t shape shaped))

        block_first : shape_of t ≡ None → Sure (first_leaf r (leaves_of p.structs t))
        block_first none = by (leaves_of p.structs t) (leaves_in m input sections f p around are loose b s state r l good x writes t a inside sound_t none)
          where
            by : (leaves : List Leaf) → AllByRecursion (λ (one : Leaf). Does m input sections AnyAt state.choices state b.sections (pointed one.shape (at_leaf (Variable x.begins.id x.begins.class) one))) leaves → Sure (first_leaf r leaves)
            by [] all = given_does m input sections (λ (done : Unit {0}) (ids : Ids). Unit {0}) tt state b.sections tt
            by (one ∷ more) all =
                subst (λ base. Sure (tested base one.shape (at_leaf base one))) (sym x.begins.is) (dropped_does AnyAt (pointed one.shape (at_leaf (Variable x.begins.id x.begins.class) one)) state b.sections all.0)

      module _ (outside : IsOutside p.structs p.blocks writes t l) where
        block_tested_out : (shape : Shape) → Out (tested r.base shape r)
        block_tested_out shape = subst (λ base. Out (tested base shape r)) (sym x.begins.is) (dropped_strays (pointed shape r) state b.sections (block_pointed_out m input sections f p around are loose b s state r l good x writes t outside shape))

        block_first_out : shape_of t ≡ None → (w : Value) → is_value_of p.structs t w ≡ true → Out (first_leaf r (leaves_of p.structs t))
        block_first_out none w typed = by (leaves_of p.structs t) (value_first p.structs t are sound_t w typed)
          where
            by : (leaves : List Leaf) → HasFirst w leaves → Out (first_leaf r leaves)
            by [] first = absurd first
            by (one ∷ more) first =
                subst (λ base. Out (tested base one.shape (at_leaf base one))) (sym x.begins.is)
                (dropped_strays (pointed one.shape (at_leaf (Variable x.begins.id x.begins.class) one)) state b.sections
                (leaf_pointed_out m input sections f p around are loose b s state r l good x writes t outside none one (fixed_numbers state.ids one.path first.fixed)))

    -- ---- wherever it is

    module _ (is : IsTrail m input sections f p around false loose b state r l) where
      pub shape_sure : (a : Access) → IsInside p.structs p.blocks writes t a l → (shape : Shape) → shape_of t ≡ Some shape → Sure (tested r.base shape r)
      shape_sure a inside shape shaped = by is
        where
          by : IsTrail m input sections f p around false loose b state r l → Sure (tested r.base shape r)
          by (own x) = own_tested x a inside shape shaped
          by (in_block x) = block_tested x a inside shape shaped

      pub first_sure : (a : Access) → IsInside p.structs p.blocks writes t a l → shape_of t ≡ None → Sure (first_leaf r (leaves_of p.structs t))
      first_sure a inside none = by is
        where
          by : IsTrail m input sections f p around false loose b state r l → Sure (first_leaf r (leaves_of p.structs t))
          by (own x) = own_first x a inside none
          by (in_block x) = block_first x a inside none

      pub shape_out : IsOutside p.structs p.blocks writes t l → (shape : Shape) → Out (tested r.base shape r)
      shape_out outside shape = by is
        where
          by : IsTrail m input sections f p around false loose b state r l → Out (tested r.base shape r)
          by (own x) = own_tested_out x outside shape
          by (in_block x) = block_tested_out x outside shape

      pub first_out : IsOutside p.structs p.blocks writes t l → shape_of t ≡ None → (w : Value) → is_value_of p.structs t w ≡ true → Out (first_leaf r (leaves_of p.structs t))
      first_out outside none w typed = by is
        where
          by : IsTrail m input sections f p around false loose b state r l → Out (first_leaf r (leaves_of p.structs t))
          by (own x) = own_first_out x outside none w typed
          by (in_block x) = block_first_out x outside none w typed
