-- A struct or an array that is stored where a trail in a block leads.
use Rattle.std.proofs.Common.{◌≡◌, sym, ap, ◌∙◌, subst, ℕ, Bool, true, false, length, None, if◌then◌else◌}
use Rattle.gsl_base.specs.declared.input.Input.{Input}
use Rattle.gsl_types.specs.Known.{AreStructs, IsSound}
use Rattle.gsl_types.specs.declared.ty.Ty.{Ty}
use Rattle.gsl_words.specs.declared.module.Module.{Module}
use Rattle.gsl_values.specs.declared.value.Value.{Value}
use Rattle.gsl_tree.specs.Around.{Around}
use Rattle.gsl_tree.specs.Shapes.{shape_of}
use Rattle.gsl_tree.specs.Values.{is_value_of}
use Rattle.gsl_tree.specs.WellTyped.{is_push}
use Rattle.gsl_tree.specs.declared.program.Program.{Program}
use Rattle.gsl_meaning.specs.Accesses.{Access, stored}
use Rattle.gsl_meaning.specs.Running.{Got, Strays}
use Rattle.gsl_meaning.specs.State as shader
use Rattle.gsl_machine.specs.State.{State}
use Rattle.gsl_spv.specs.Sections.{Sections}
use Rattle.gsl_lower_places.specs.declared.reached.Reached.{Reached}
use Rattle.gsl_lower_holders.specs.Flow.{Emit, Flow, lift}
use Rattle.gsl_lower_expr.specs.Parts.{store_block, store_by, store_composite, store_own, stores}
use Rattle.gsl_lower_law.specs.Values.{Stands}
use Rattle.gsl_lower_follows.specs.Frames.{Frame, Good}
use Rattle.gsl_lower_follows.specs.Giving.{After, Does, none_waits}
use Rattle.gsl_lower_follows.proofs.Doing.{strays_lift}
use Rattle.gsl_lower_law_written.specs.OfLawStored.{KnowsBuffers}
use Rattle.gsl_lower_law_written.specs.OfReaching.{IsBlockTrail, Start}
use Rattle.gsl_lower_law_written.specs.OfReaching.{IsInside, IsOutside, Trail}
use Rattle.gsl_lower_law_spread.proofs.Outside.{leaves_stray}
use Rattle.gsl_lower_law_spread.proofs.Whole.{leaves_written}

module _ (m : Module) (input : Input) (sections : Sections) (f : Frame m input sections) (p : Program) (around : Around) (start : Start) (b : Flow) (state : State) (r : Reached) (l : Trail) (x : IsBlockTrail m input sections f p around false start b state r l) (t : Ty) (none : shape_of t ≡ None) (value : ℕ) where
  leaf_by_leaf : stores p.structs t r value ≡ lift (store_block p.structs t x.begins.id x.begins.class r.path value)
  unfolding stores
  leaf_by_leaf =
      ap (store_by p.structs t r value) none ∙ ap (λ base. store_composite p.structs t base r.path value) x.begins.is
      ∙ ap (λ (block : Bool). if block then lift (store_block p.structs t x.begins.id x.begins.class r.path value) else store_own t x.begins.id x.begins.class r.path value) x.begins.inside

module _ (m : Module) (input : Input) (sections : Sections) (f : Frame m input sections) (p : Program) (around : Around) (are : AreStructs p.structs) where
  module _ (knows : KnowsBuffers m input sections f p) (start : Start) (b : Flow) (s : shader.State) (state : State) (r : Reached) (l : Trail) (good : Good m input sections f p around b s state) (x : IsBlockTrail m input sections f p around false start b state r l) (own : is_push x.begins.block.kind ≡ false)
      (t : Ty) (a : Access) (sound_t : IsSound (length p.structs) t) (none : shape_of t ≡ None) (writes : Bool) (inside : IsInside p.structs p.blocks writes t a l) (value : ℕ) (v : Value) (typed : is_value_of p.structs t v ≡ true) (stands : Stands state.ids value v) where
    pub composite_written : (units : ℕ) → Does m input sections f p 0 units state (λ done later one u last. After m input sections f p around false b state later u last) none_waits (Got (tt {0}) (stored a v s) units) (stores p.structs t r value b)
    composite_written units =
        subst (λ (low : Emit (Unit {0})). Does m input sections f p 0 units state (λ done later one u last. After m input sections f p around false b state later u last) none_waits (Got (tt {0}) (stored a v s) units) (low b))
        (sym (leaf_by_leaf m input sections f p around start b state r l x t none value)) (leaves_written m input sections f p around are knows start b s state r l good x own t a sound_t none writes inside value v typed stands units)

  module _ (start : Start) (b : Flow) (s : shader.State) (state : State) (r : Reached) (l : Trail) (good : Good m input sections f p around b s state) (x : IsBlockTrail m input sections f p around false start b state r l) (writes : Bool) (t : Ty) (outside : IsOutside p.structs p.blocks writes t l)
      (sound_t : IsSound (length p.structs) t) (value : ℕ) (v : Value) (typed : is_value_of p.structs t v ≡ true) (stands : Stands state.ids value v) (none : shape_of t ≡ None) where
    pub composite_unwritten : {R : Type 0} (units : ℕ) (Then : Unit {0} → Flow → R → shader.State → State → Type 0) → Does m input sections f p 0 units state Then none_waits Strays (stores p.structs t r value b)
    composite_unwritten {R} units Then =
        subst (λ (low : Emit (Unit {0})). Does m input sections f p 0 units state Then none_waits Strays (low b)) (sym (leaf_by_leaf m input sections f p around start b state r l x t none value))
        (strays_lift m input sections f p around units b s state Then none_waits (store_block p.structs t x.begins.id x.begins.class r.path value) good (leaves_stray m input sections f p around are start b s state r l good x writes t outside sound_t none value v typed stands))
