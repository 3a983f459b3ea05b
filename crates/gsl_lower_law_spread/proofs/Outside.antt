-- The leaves of a struct or an array that would be stored out of bounds in a block: the first strays.
use Rattle.std.proofs.Common.{◌≡◌, ℕ, Bool, true, false, List, [], ◌∷◌, ◌++◌, length, map, Some, None}
use Rattle.gsl_base.specs.declared.input.Input.{Input}
use Rattle.gsl_types.specs.Known.{AreStructs, IsSound}
use Rattle.gsl_types.specs.declared.ty.Ty.{Ty}
use Rattle.gsl_words.specs.declared.module.Module.{Module}
use Rattle.gsl_values.specs.declared.value.Value.{Value}
use Rattle.gsl_tree.specs.Around.{Around}
use Rattle.gsl_tree.specs.Shapes.{shape_of}
use Rattle.gsl_tree.specs.Values.{is_value_of}
use Rattle.gsl_tree.specs.declared.program.Program.{Program}
use Rattle.gsl_meaning.specs.State as shader
use Rattle.gsl_machine.specs.State.{Ids, Pointer, Points, State}
use Rattle.gsl_spv.specs.Sections.{Sections}
use Rattle.gsl_lower_values.specs.Building.{Step, ◌>>=◌}
use Rattle.gsl_lower_values.specs.Types.{type_of}
use Rattle.gsl_lower_places.specs.Reading.{extracted, number_in}
use Rattle.gsl_lower_places.specs.Writing.{put_at}
use Rattle.gsl_lower_places.specs.declared.reached.Part.{Part}
use Rattle.gsl_lower_places.specs.declared.reached.Reached.{Reached}
use Rattle.gsl_lower_leaves.specs.Copies.{copied_in, each, store_whole}
use Rattle.gsl_lower_leaves.specs.Leaves.{leaves_of}
use Rattle.gsl_lower_leaves.specs.declared.leaf.Leaf.{Leaf}
use Rattle.gsl_lower_holders.specs.Flow.{Flow}
use Rattle.gsl_lower_expr.specs.Parts.{store_block}
use Rattle.gsl_lower_law.specs.Computing.{drawing}
use Rattle.gsl_lower_law.specs.Straying.{Strays as StepStrays}
use Rattle.gsl_lower_law.specs.Values.{IsOf, Stands}
use Rattle.gsl_lower_law.proofs.Plain.{IsType, type_does}
use Rattle.gsl_lower_law.proofs.Straying.{strays_before, strays_then}
use Rattle.gsl_lower_law_expr.proofs.Steps.{Always, always_then, always_type}
use Rattle.gsl_lower_law_leaves.specs.Equal.{HasLeaves, leaf_in}
use Rattle.gsl_lower_law_leaves.proofs.Structs.{values_agree}
use Rattle.gsl_lower_law_places.specs.Leading.{NumberEach, StraysFrom}
use Rattle.gsl_lower_law_places.proofs.Chains.{still_number}
use Rattle.gsl_lower_law_places.proofs.Loads.{extracted_does}
use Rattle.gsl_lower_law_places.proofs.Outside.{put_strays}
use Rattle.gsl_lower_law_places.proofs.Reading.{numbers_on}
use Rattle.gsl_lower_law_picks.proofs.Along.{stray_on}
use Rattle.gsl_lower_follows.specs.Frames.{Frame, Good}
use Rattle.gsl_lower_law_written.specs.OfReaching.{IsBlockTrail, Start}
use Rattle.gsl_lower_law_written.specs.OfReaching.{IsOutside, Trail}
use Rattle.gsl_lower_law_written.proofs.OfReaching.{out_whole}
use Rattle.gsl_lower_law_written.proofs.OfElements.{none_shape}
use Rattle.gsl_lower_law_written.proofs.OfElements.{from, points}
use Rattle.gsl_lower_law_written.proofs.OfElements.{all_numbers, path_strays}
use Rattle.gsl_lower_law_written.proofs.OfReads.{always_each, always_extracted, always_put}
use Rattle.gsl_lower_law_written.proofs.OfReads.{HasFirst, fixed_numbers, value_first}

module _ (m : Module) (input : Input) (sections : Sections) (id class : ℕ) (parts : List Part) (value : ℕ) where
  abbrev put_of : Leaf → ℕ → Step (Unit {0})
  put_of one word = put_at id class one.shape (parts ++ one.path) word

  abbrev take_of : Leaf → ℕ → Step (Unit {0})
  take_of one type = extracted value type one.path >>= put_of one

  always_taken : (one : Leaf) (type : ℕ) → Always (take_of one type)
  always_taken one type = always_then m input sections (extracted value type one.path) (put_of one) (always_extracted m input sections value type one.path) (λ word. always_put m input sections id class one.shape (parts ++ one.path) word)

  always_in : (one : Leaf) → Always (copied_in id class parts value one)
  unfolding copied_in
  always_in one = always_then m input sections (type_of one.shape) (take_of one) (always_type m input sections one.shape) (always_taken one)

  -- a leaf behind an index out of bounds
  module _ (words : List ℕ) (begun : Pointer) (v : Value) (state : State) (before : Sections) (points_there : state.ids id ≡ Some (Points begun)) (numbers : NumberEach state.ids parts words) (out : StraysFrom m input state begun words) (stands : Stands state.ids value v) where
    leaf_strays : (one : Leaf) → ((ids : Ids) → NumberEach ids one.path (map number_in one.path)) → IsOf one.shape (leaf_in v one) → StepStrays m input sections state before (copied_in id class parts value one)
    unfolding copied_in
    leaf_strays one fixed of =
        strays_then m input sections (IsType m input sections one.shape) (drawing state state.choices) state before (type_of one.shape) (take_of one)
        (type_does m input sections one.shape state before)
        (always_taken one)
        (λ type between ids typed keeps.
        strays_then m input sections (λ id ids. Stands ids id (leaf_in v one)) (drawing (record state { ids = ids }) state.choices) (record state { ids = ids }) between (extracted value type one.path) (put_of one)
        (extracted_does m input sections value type one.path v (record state { ids = ids }) between (keeps.same value _ stands))
        (λ word. always_put m input sections id class one.shape (parts ++ one.path) word)
        (λ word later now there kept.
        put_strays m input sections id class one.shape (parts ++ one.path) word (words ++ map number_in one.path) begun (leaf_in v one) (record state { ids = now }) later (kept.same id _ (keeps.same id _ points_there))
        (numbers_on now parts one.path words (map number_in one.path) (still_number ids now kept parts words (still_number state.ids ids keeps parts words numbers)) (fixed now))
        (stray_on m input (record state { ids = now }) begun words (map number_in one.path) out) of there))

    pub first_strays : (leaves : List Leaf) → HasFirst v leaves → HasLeaves v leaves → StepStrays m input sections state before (store_whole id class parts value leaves)
    unfolding store_whole each
    first_strays [] first has = absurd first
    first_strays (one ∷ more) first has =
        strays_before m input sections state before (copied_in id class parts value one) (λ done. each (copied_in id class parts value) more)
        (leaf_strays one (λ ids. fixed_numbers ids one.path first.fixed) has.0.1)
        (λ done. always_each m input sections (copied_in id class parts value) more always_in)

module _ (m : Module) (input : Input) (sections : Sections) (f : Frame m input sections) (p : Program) (around : Around) (are : AreStructs p.structs) (start : Start) (b : Flow) (s : shader.State) (state : State) (r : Reached) (l : Trail) (good : Good m input sections f p around b s state)
    (x : IsBlockTrail m input sections f p around false start b state r l) (writes : Bool) (t : Ty) (outside : IsOutside p.structs p.blocks writes t l) (sound_t : IsSound (length p.structs) t) (none : shape_of t ≡ None) (value : ℕ) (v : Value) (typed : is_value_of p.structs t v ≡ true) (stands : Stands state.ids value v) where
  pub leaves_stray : StepStrays m input sections state b.sections (store_block p.structs t x.begins.id x.begins.class r.path value)
  leaves_stray =
      first_strays m input sections x.begins.id x.begins.class r.path value (l.front ++ l.words) (from m input sections f p around are start b s state r l good x) v state b.sections (points m input sections f p around are start b s state r l good x)
      (all_numbers m input sections f p around are start b s state r l good x) (path_strays m input sections f p around are start b s state r l good x (out_whole p.structs l.ty t l.words l.picks (none_shape t none) outside.out).1) stands
      (leaves_of p.structs t) (value_first p.structs t are sound_t v typed) (values_agree p.structs t are sound_t v v typed typed).0
