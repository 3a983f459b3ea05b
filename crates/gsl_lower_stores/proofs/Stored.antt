-- A value is stored where a trail leads, in a variable or in a block.
use Rattle.std.proofs.Common.{◌≡◌, refl, ℕ, true, false, length, Option, Some, None}
use Rattle.gsl_base.specs.declared.input.Input.{Input}
use Rattle.gsl_types.specs.Known.{AreStructs, IsSound}
use Rattle.gsl_types.specs.declared.ty.Ty.{Ty}
use Rattle.gsl_words.specs.declared.module.Module.{Module}
use Rattle.gsl_values.specs.declared.value.Value.{Value}
use Rattle.gsl_tree.specs.Around.{Around}
use Rattle.gsl_tree.specs.Shapes.{Shape, shape_of}
use Rattle.gsl_tree.specs.Values.{is_value_of}
use Rattle.gsl_tree.specs.declared.program.Program.{Program}
use Rattle.gsl_meaning.specs.Accesses.{Access, stored}
use Rattle.gsl_meaning.specs.Running.{Got, Strays}
use Rattle.gsl_meaning.specs.State as shader
use Rattle.gsl_machine.specs.State.{State}
use Rattle.gsl_spv.specs.Sections.{Sections}
use Rattle.gsl_lower_places.specs.declared.reached.Reached.{Reached}
use Rattle.gsl_lower_law.specs.Values.{Stands}
use Rattle.gsl_lower_holders.specs.Flow.{Flow}
use Rattle.gsl_lower_expr.specs.Parts.{stores}
use Rattle.gsl_lower_follows.specs.Frames.{Frame, Good}
use Rattle.gsl_lower_follows.specs.Giving.{Does, none_waits}
use Rattle.gsl_lower_law_spread.specs.OfLawStored.{KnowsBuffers}
use Rattle.gsl_lower_law_spread.proofs.Spread.{composite_unwritten, composite_written}
use Rattle.gsl_lower_law_spread.proofs.OfLawWritten.{block_unwritten}
use Rattle.gsl_lower_law_spread.proofs.OfLawWritten.{block_written}
use Rattle.gsl_lower_law_spread.specs.OfReaching.{IsTrail, Start}
use Rattle.gsl_lower_law_spread.specs.OfReaching.{own, in_block}
use Rattle.gsl_lower_law_spread.specs.OfReaching.{OfBlock}
use Rattle.gsl_lower_law_spread.specs.OfReaching.{IsInside, IsOutside, Trail}
use Rattle.gsl_lower_law_renewed.specs.OfWrites.{IsWritten}
use Rattle.gsl_lower_law_renewed.proofs.OfWrites.{store_strays}
use Rattle.gsl_lower_law_renewed.proofs.OfWrites.{trail_stored}
use Rattle.gsl_lower_stores.proofs.Staying.{not_pushed}

module _ (m : Module) (input : Input) (sections : Sections) (f : Frame m input sections) (p : Program) (around : Around) (are : AreStructs p.structs) (loose : Start) (t : Ty) (sound_t : IsSound (length p.structs) t) (value : ℕ) (v : Value) (typed : is_value_of p.structs t v ≡ true) where
  pub place_stored : (loose ≡ OfBlock → KnowsBuffers m input sections f p) → (a : Access) (l : Trail) → IsInside p.structs p.blocks true t a l → (b : Flow) (s : shader.State) (units : ℕ) (state : State) (r : Reached) → Good m input sections f p around b s state → IsTrail m input sections f p around false loose b state r l → Stands state.ids value v
      → Does m input sections f p 0 units state (IsWritten m input sections f p around b state) none_waits (Got tt (stored a v s) units) (stores p.structs t r value b)
  place_stored knows a l inside b s units state r good (own x) stands = trail_stored m input sections f p around are loose t sound_t value v typed a l inside b s units state r good x stands
  place_stored knows a l inside b s units state r good (in_block x) stands = by (shape_of t) refl
    where
      by : (o : Option Shape) → shape_of t ≡ o → Does m input sections f p 0 units state (IsWritten m input sections f p around b state) none_waits (Got tt (stored a v s) units) (stores p.structs t r value b)
      by (Some shape) e = block_written m input sections f p around are (knows x.begins.marked) loose b s state r l good x (not_pushed m input sections f p around loose b state r l x (inside.named refl)) t a shape sound_t e true inside inside.may value v typed stands units
      by None e = composite_written m input sections f p around are (knows x.begins.marked) loose b s state r l good x (not_pushed m input sections f p around loose b state r l x (inside.named refl)) t a sound_t e true inside value v typed stands units

  -- what leads out of bounds strays
  pub place_unstored : {R : Type 0} (units : ℕ) (b : Flow) (s : shader.State) (state : State) (r : Reached) (l : Trail) (Then : Unit {0} → Flow → R → shader.State → State → Type 0) → Good m input sections f p around b s state → IsTrail m input sections f p around false loose b state r l → IsOutside p.structs p.blocks true t l → Stands state.ids value v
      → Does m input sections f p 0 units state Then none_waits Strays (stores p.structs t r value b)
  place_unstored units b s state r l Then good (own x) outside stands = store_strays m input sections f p around are loose t sound_t value v typed units b s state r l Then good x outside stands
  place_unstored {R} units b s state r l Then good (in_block x) outside stands = by (shape_of t) refl
    where
      by : (o : Option Shape) → shape_of t ≡ o → Does m input sections f p 0 units state Then none_waits Strays (stores p.structs t r value b)
      by (Some shape) e = block_unwritten m input sections f p around are loose b s state r l good x true t outside outside.may sound_t value v typed stands shape e units Then
      by None e = composite_unwritten m input sections f p around are loose b s state r l good x true t outside sound_t value v typed stands e units Then
