-- A struct or an array that would be read out of bounds in a block: its first leaf strays.
use Rattle.std.proofs.Common.{◌≡◌, sym, subst, ℕ, Bool, false, List, [], ◌∷◌, ◌++◌, length, map, Option, Some, None}
use Rattle.std.specs.Prelude.{slice_get}
use Rattle.gsl_base.specs.declared.input.Input.{Input}
use Rattle.gsl_instr.specs.declared.enumerant.storage_class.TheConstants as storage_class
use Rattle.gsl_instr.specs.declared.op.TheConstants as op
use Rattle.gsl_types.specs.Known.{AreStructs, IsSound}
use Rattle.gsl_types.specs.declared.ty.Ty.{Ty}
use Rattle.gsl_words.specs.declared.module.Module.{Module}
use Rattle.gsl_values.specs.declared.value.Value.{Value}
use Rattle.gsl_tree.specs.Around.{Around}
use Rattle.gsl_tree.specs.Shapes.{shape_of}
use Rattle.gsl_tree.specs.Values.{zero_value}
use Rattle.gsl_tree.specs.declared.program.Program.{Program}
use Rattle.gsl_meaning.specs.Running.{Strays}
use Rattle.gsl_meaning.specs.State as shader
use Rattle.gsl_machine.specs.State.{Pointer, Points, State}
use Rattle.gsl_spv.specs.Sections.{Sections}
use Rattle.gsl_typed_law.specs.Plain.{ArePlain}
use Rattle.gsl_typed_law.proofs.Zeros.{zero_typed}
use Rattle.gsl_lower_values.specs.Building.{giving}
use Rattle.gsl_lower_places.specs.Reading.{loaded, number_in}
use Rattle.gsl_lower_places.specs.Writing.{put_at}
use Rattle.gsl_lower_places.specs.declared.reached.Part.{Part}
use Rattle.gsl_lower_places.specs.declared.reached.Reached.{Reached}
use Rattle.gsl_lower_leaves.specs.Copies.{copied_out, each, read_whole}
use Rattle.gsl_lower_leaves.specs.Leaves.{leaves_of}
use Rattle.gsl_lower_leaves.specs.declared.leaf.Leaf.{Leaf}
use Rattle.gsl_lower_holders.specs.Flow as flow
use Rattle.gsl_lower_holders.specs.Flow.{Emit, Flow, Lowered, behind, find_type, id_at, lift, type_by, type_id}
use Rattle.gsl_lower_holders.specs.Waiting.{holder, holder_at}
use Rattle.gsl_lower_expr.specs.Parts.{read_block}
use Rattle.gsl_lower_law.specs.Straying.{Strays as StepStrays}
use Rattle.gsl_lower_law.proofs.Straying.{strays_before}
use Rattle.gsl_lower_law_expr.proofs.Steps.{Always, always_giving, always_then}
use Rattle.gsl_lower_law_places.specs.Leading.{NumberEach, StraysFrom}
use Rattle.gsl_lower_law_places.proofs.Outside.{loaded_strays}
use Rattle.gsl_lower_law_places.proofs.Reading.{numbers_on}
use Rattle.gsl_lower_law_picks.proofs.Along.{stray_on}
use Rattle.gsl_lower_follows.specs.Frames.{Frame, Good}
use Rattle.gsl_lower_follows.specs.Giving.{Does, none_waits}
use Rattle.gsl_lower_follows.proofs.Doing.{strays_lift}
use Rattle.gsl_lower_follows.proofs.Holding.{good_using, using}
use Rattle.gsl_lower_reads.specs.OfReaching.{IsBlockTrail, IsOutside, Start, Trail}
use Rattle.gsl_lower_reads.proofs.OfElements.{none_shape}
use Rattle.gsl_lower_reads.proofs.OfElements.{from, points}
use Rattle.gsl_lower_reads.proofs.OfElements.{all_numbers, path_strays}
use Rattle.gsl_lower_reads.proofs.Adding.{always_each, always_loaded, always_put}
use Rattle.gsl_lower_reads.proofs.First.{HasFirst, fixed_numbers, value_first}
use Rattle.gsl_lower_reads.proofs.OfReaching.{out_whole}
use Rattle.gsl_lower_law_gathered.specs.Gathering.{HasValues}

module _ (m : Module) (input : Input) (sections : Sections) (id class : ℕ) (parts : List Part) (h type : ℕ) where
  always_out : (one : Leaf) → Always (copied_out id class parts h one)
  unfolding copied_out
  always_out one =
      always_then m input sections (loaded id class one.shape (parts ++ one.path)) (λ w. put_at h storage_class.FUNCTION one.shape one.path w) (always_loaded m input sections id class one.shape (parts ++ one.path)) (λ w. always_put m input sections h storage_class.FUNCTION one.shape one.path w)

  module _ (words : List ℕ) (begun : Pointer) (state : State) (before : Sections) (points_there : state.ids id ≡ Some (Points begun)) (numbers : NumberEach state.ids parts words) (out : StraysFrom m input state begun words) where
    -- the first leaf lies behind an index that is out of bounds
    pub first_strays : (v : Value) (leaves : List Leaf) → HasFirst v leaves → StepStrays m input sections state before (read_whole id class parts h type leaves)
    unfolding read_whole each copied_out
    first_strays v [] first = absurd first
    first_strays v (one ∷ more) first =
        strays_before m input sections state before (each (copied_out id class parts h) (one ∷ more)) (λ done. giving op.LOAD (h ∷ []) type)
        (strays_before m input sections state before (copied_out id class parts h one) (λ done. each (copied_out id class parts h) more)
        (strays_before m input sections state before (loaded id class one.shape (parts ++ one.path)) (λ w. put_at h storage_class.FUNCTION one.shape one.path w)
        (loaded_strays m input sections id class one.shape (parts ++ one.path) (words ++ map number_in one.path) begun state before points_there
        (numbers_on state.ids parts one.path words (map number_in one.path) numbers (fixed_numbers state.ids one.path first.fixed)) (stray_on m input state begun words (map number_in one.path) out))
        (λ w. always_put m input sections h storage_class.FUNCTION one.shape one.path w))
        (λ done. always_each m input sections (copied_out id class parts h) more always_out))
        (λ done. always_giving m input sections op.LOAD (h ∷ []) type)

module _ (m : Module) (input : Input) (sections : Sections) (f : Frame m input sections) (p : Program) (around : Around) (are : AreStructs p.structs) (plain : ArePlain p.structs) (start : Start) (b : Flow) (s : shader.State) (state : State) (r : Reached) (l : Trail) (good : Good m input sections f p around b s state)
    (x : IsBlockTrail m input sections f p around false start b state r l) (writes : Bool) (t : Ty) (outside : IsOutside p.structs p.blocks writes t l) (sound_t : IsSound (length p.structs) t) (none : shape_of t ≡ None) (values : HasValues m p.structs f.place t) where
  leaves_stray : (h type : ℕ) → StepStrays m input sections state b.sections (read_whole x.begins.id x.begins.class r.path h type (leaves_of p.structs t))
  leaves_stray h type =
      first_strays m input sections x.begins.id x.begins.class r.path h type (l.front ++ l.words) (from m input sections f p around are start b s state r l good x) state b.sections (points m input sections f p around are start b s state r l good x)
      (all_numbers m input sections f p around are start b s state r l good x) (path_strays m input sections f p around are start b s state r l good x (out_whole p.structs l.ty t l.words l.picks (none_shape t none) outside.out).1)
      (zero_value p.structs t) (leaves_of p.structs t) (value_first p.structs t are sound_t (zero_value p.structs t) (zero_typed p.structs are plain t sound_t values.plain))

  module _ {R : Type 0} (units : ℕ) (Then : ℕ → Flow → R → shader.State → State → Type 0) where
    abbrev Strays_ : Lowered ℕ → Type 0
    Strays_ low = Does m input sections f p 0 units state Then none_waits Strays low

    abbrev low : ℕ → ℕ → Emit ℕ
    low h type = lift (read_whole x.begins.id x.begins.class r.path h type (leaves_of p.structs t))

    by_type : (h : ℕ) → Strays_ (behind (type_id t (using m input sections f p around b)) (low h))
    unfolding type_id
    by_type h = subst (λ o. Strays_ (behind (type_by t o (using m input sections f p around b)) (low h))) (sym none) (by (find_type t b.place.composites))
      where
        by : (o : Option ℕ) → Strays_ (behind (id_at o (using m input sections f p around b)) (low h))
        by None = tt
        by (Some type) = strays_lift m input sections f p around units (using m input sections f p around b) s state Then none_waits (read_whole x.begins.id x.begins.class r.path h type (leaves_of p.structs t)) (good_using m input sections f p around b s state good) (leaves_stray h type)

    pub block_ungathered : Strays_ (read_block p.structs t x.begins.id x.begins.class r.path b)
    unfolding holder
    block_ungathered = by (slice_get b.place.holders b.place.used)
      where
        by : (o : Option ℕ) → Strays_ (behind (holder_at o b) (λ h. flow.◌>>=◌ (type_id t) (low h)))
        by None = tt
        by (Some h) = by_type h
