-- One pointer into a block for what is stored there.
use Rattle.std.proofs.Common.{◌≡◌, sym, ◌∙◌, subst, ℕ, ◌+◌, ◌*◌, ◌<◌, ◌≤◌, false, List, [], ◌∷◌, length, Option, Some, None, arith}
use Rattle.gsl_base.specs.declared.input.Input.{Input}
use Rattle.gsl_words.specs.declared.module.Module.{Module}
use Rattle.gsl_values.specs.declared.value.Value.{Value}
use Rattle.gsl_tree.specs.Shapes.{Shape}
use Rattle.gsl_tree.specs.Values.{components_in}
use Rattle.gsl_machine.specs.Memory.{bytes_of, is_push}
use Rattle.gsl_machine.specs.State.{Ids, InBlock, Pointer, Points, State}
use Rattle.gsl_spv.specs.Sections.{Sections}
use Rattle.gsl_lower_places.specs.Pointed.{pointed}
use Rattle.gsl_lower_places.specs.Reached.{stored_shape}
use Rattle.gsl_lower_places.specs.Writing.{stored}
use Rattle.gsl_lower_places.specs.declared.reached.Base.TheVariants as base
use Rattle.gsl_lower_places.specs.declared.reached.Part.{Part}
use Rattle.gsl_lower_places.specs.declared.reached.Picked.{Picked}
use Rattle.gsl_lower_places.specs.declared.reached.Reached.{Reached}
use Rattle.gsl_lower_law.specs.Computing.{Acts, Does}
use Rattle.gsl_lower_law.specs.Operands.{converted_value}
use Rattle.gsl_lower_law.specs.Values.{IsOf, Stands}
use Rattle.gsl_lower_law_picks.specs.OfLawPlaces.{AreWithin, Chooses, HoldsComponents, Picks}
use Rattle.gsl_lower_law_picks.specs.OfLawPlaces.{LeadsTo, NumberEach}
use Rattle.gsl_lower_law_picks.specs.OfLawPlaces.{AreStored, IsVectorType, buffers_with, goes_to}
use Rattle.gsl_lower_law_picks.proofs.OfLawPlaces.{component_led}
use Rattle.gsl_lower_law_picks.proofs.OfLawPlaces.{one_position}
use Rattle.gsl_lower_law_picks.proofs.OfLawPlaces.{Nothing}
use Rattle.gsl_lower_law_picks.specs.Serving.{IsAt}
use Rattle.gsl_lower_law_picks.proofs.Parted.{part_is}
use Rattle.gsl_lower_law_picks.proofs.Pointed.{leads_nowhere, pointed_gives}
use Rattle.gsl_lower_law_components.specs.Putting.{put_components}
use Rattle.gsl_lower_law_components.specs.Serving.{Puts}
use Rattle.gsl_lower_law_components.proofs.Parted.{alone_put, blocks_stored}

some_pointer : (a b : Pointer) → Some a ≡ Some b → a ≡ b
some_pointer a b e = cc

module _ (m : Module) (input : Input) (whole : Sections) (id class : ℕ) (parts : List Part) (p : Picked) (by : Option ℕ) (words : List ℕ) (from : Pointer) (variable offset pointee component : ℕ) (bytes : List ℕ) (v : Value) (state : State) (before : Sections)
    (stands : state.ids id ≡ Some (Points from)) (each : NumberEach state.ids parts words) (leads : LeadsTo m input state from words (InBlock variable offset pointee)) (no_push : is_push m variable ≡ false) (there : bytes_of m input state variable ≡ Some bytes) (vector : 2 ≤ p.shape.1 → IsVectorType m pointee component p.shape.1)
    (holds : HoldsComponents m input state (InBlock variable offset pointee) v) (is : IsOf (stored_shape class p.shape) v) (picks : Picks state.ids p by) (fits : AreStored by p.positions) (few : length p.positions ≤ p.shape.1) where
  abbrev Served : Reached → Ids → Type 0
  Served = Puts m input whole class p by variable offset

  abbrev lying : ℕ → Value → List ℕ
  lying n w = components_in (converted_value (stored_shape class (p.shape.0, n)).0 w)

  -- what is left where some words were put at some positions
  abbrev Left_by : State → List ℕ → List ℕ → List ℕ → Sections → ℕ → Reached → ℕ → Type 0
  Left_by later positions new bytes before n r value = Acts m input whole Nothing (record { choices = later.choices; variables = later.variables; buffers = buffers_with m later variable (put_components offset positions new bytes) }) later before (stored (p.shape.0, n) r value)

  -- a scalar that is stored where the pointer leads
  put : (k kind at_id : ℕ) (later : State) (before : Sections) (bytes : List ℕ) (w : Value) (value : ℕ) → later.ids at_id ≡ Some (Points (InBlock variable (offset + 4 * k) kind)) → bytes_of m input later variable ≡ Some bytes → IsOf (p.shape.0, 1) w → Stands later.ids value w
      → Left_by later (k ∷ []) (lying 1 w) bytes before 1 (record { base = base.Variable at_id class; path = []; picked = None }) value
  unfolding stored
  put k kind at_id later before bytes w value points there single new =
      alone_put m input whole at_id class p.shape.0 [] [] (InBlock variable (offset + 4 * k) kind) variable offset k kind bytes w value later before points tt (leads_nowhere m input whole later (InBlock variable (offset + 4 * k) kind)) there single new

  -- one component, to which the pointer leads
  at_one : (r : Reached) (ids : Ids) (k kind : ℕ) → length p.positions ≡ 1 → goes_to by p.positions ≡ k ∷ [] → IsAt class (InBlock variable (offset + 4 * k) kind) None r ids → Served r ids
  at_one r ids k kind single goes at = record {
    puts = λ later before bytes w value keeps there is_new new.
        subst (λ r. Left_by later (goes_to by p.positions) (lying (length p.positions) w) bytes before (length p.positions) r value) (sym at.is)
        (subst (λ n. Left_by later (goes_to by p.positions) (lying n w) bytes before n (record { base = base.Variable at.id class; path = []; picked = None }) value) (sym single)
        (subst (λ positions. Left_by later positions (lying 1 w) bytes before 1 (record { base = base.Variable at.id class; path = []; picked = None }) value) (sym goes)
        (put k kind at.id later before bytes w value (keeps.same at.id _ at.points) there (subst (λ n. IsOf (p.shape.0, n) w) single is_new) new)));
  }

  scalar : (r : Reached) (ids : Ids) → p.shape.1 ≡ 1 → length p.positions ≡ 1 → AreWithin 1 by p.positions → IsAt class (InBlock variable offset pointee) None r ids → Served r ids
  scalar r ids one single within at =
      at_one r ids 0 pointee single (one_position by p.positions single within) (subst (λ n. IsAt class (InBlock variable n pointee) None r ids) (let z : offset ≡ offset + 4 * 0 = omega arith in z) at)

  alone : (r : Reached) (ids : Ids) (one : Pointer) (k : ℕ) → 2 ≤ p.shape.1 → k < p.shape.1 → length p.positions ≡ 1 → goes_to by p.positions ≡ k ∷ [] → LeadsTo m input state (InBlock variable offset pointee) (k ∷ []) one → IsAt class one None r ids → Served r ids
  alone r ids one k many less single goes led at =
      let to = InBlock variable (offset + 4 * k) component in
      at_one r ids k component single goes (subst (λ t. IsAt class t None r ids)
      (some_pointer one to (sym (part_is m input state (InBlock variable offset pointee) one k led) ∙ part_is m input state (InBlock variable offset pointee) to k (component_led m input state variable offset pointee bytes there component p.shape.1 (vector many) k less))) at)

  several_at : (r : Reached) (ids : Ids) → 2 ≤ p.shape.1 → IsAt class (InBlock variable offset pointee) (Some p) r ids → p.by ≡ None → by ≡ None → Served r ids
  several_at r ids many at none nothing = record {
    puts = λ later before bytes w value keeps there is_new new.
        subst (λ r. Left_by later (goes_to by p.positions) (lying (length p.positions) w) bytes before (length p.positions) r value) (sym at.is)
        (blocks_stored m input whole at.id class [] p [] (InBlock variable offset pointee) variable offset pointee component bytes w value later before many (keeps.same at.id _ at.points) tt (leads_nowhere m input whole later (InBlock variable offset pointee)) no_push there (vector many) is_new new
        (p.shape.0, length p.positions) by (record { by_word = no_word later.ids p.by by none nothing; some = picks.some; within = picks.within }) fits few);
  }
    where
      no_word : (ids : Ids) (part : Option Part) (by : Option ℕ) → part ≡ None → by ≡ None → Chooses ids part by
      no_word ids None None e f = tt
      no_word ids None (Some k) e f = absurd (let z : Some k ≡ None = f in cc)
      no_word ids (Some part) by e f = absurd (let z : Some part ≡ None = e in cc)

  pub pointer_puts : (shape : Shape) → Does m input whole Served state.choices state before (pointed shape (record { base = base.Variable id class; path = parts; picked = Some p }))
  pointer_puts shape = pointed_gives m input whole id class parts p by words from (InBlock variable offset pointee) v state before stands each leads holds is picks fits few Served scalar alone several_at shape
