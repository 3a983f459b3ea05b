-- Where several components are picked, the trail itself serves.
use Rattle.std.proofs.Common.{◌≡◌, sym, ◌∙◌, Bool, true, false, length, Some, None}
use Rattle.gsl_base.specs.declared.input.Input.{Input}
use Rattle.gsl_types.specs.Known.{AreStructs, IsSound}
use Rattle.gsl_types.specs.declared.ty.Ty.{Ty}
use Rattle.gsl_words.specs.declared.module.Module.{Module}
use Rattle.gsl_tree.specs.Around.{Around}
use Rattle.gsl_tree.specs.Shapes.{Shape, shape_of}
use Rattle.gsl_tree.specs.WellTyped.{is_push}
use Rattle.gsl_tree.specs.declared.program.Program.{Program}
use Rattle.gsl_meaning.specs.Accesses.{Access}
use Rattle.gsl_meaning.specs.State as shader
use Rattle.gsl_machine.specs.State.{State}
use Rattle.gsl_spv.specs.Sections.{Sections}
use Rattle.gsl_lower_places.specs.declared.reached.Reached.{Reached}
use Rattle.gsl_lower_holders.specs.Flow.{Flow}
use Rattle.gsl_lower_follows.specs.Frames.{Frame, Good}
use Rattle.gsl_lower_law_written.specs.OfLawStored.{KnowsBuffers}
use Rattle.gsl_lower_law_written.specs.OfReaching.{IsBlockTrail, Start}
use Rattle.gsl_lower_law_written.specs.OfReaching.{in_block}
use Rattle.gsl_lower_law_written.specs.OfReaching.{IsInside, MayWrite, Trail}
use Rattle.gsl_lower_law_written.proofs.OfReads.{taken}
use Rattle.gsl_lower_law_written.specs.OfWrites.{Serves}
use Rattle.gsl_lower_law_written.proofs.Written.{block_written}
use Rattle.gsl_lower_law_renewed.proofs.Spots.{block_still}

module _ (m : Module) (input : Input) (sections : Sections) (f : Frame m input sections) (p : Program) (around : Around) (are : AreStructs p.structs) (knows : KnowsBuffers m input sections f p) (start : Start) (b : Flow) (s : shader.State) (state : State) (r : Reached) (l : Trail)
    (good : Good m input sections f p around b s state) (x : IsBlockTrail m input sections f p around false start b state r l) (own : is_push x.begins.block.kind ≡ false) (t : Ty) (a : Access) (shape : Shape) (sound_t : IsSound (length p.structs) t) (shaped : shape_of t ≡ Some shape) (writes : Bool)
    (inside : IsInside p.structs p.blocks writes t a l) (may : MayWrite true l.picks) where
  pub itself_serves : Serves m input sections f p around t a r state.ids
  itself_serves = record {
    reads = λ b2 s2 units state2 good2 keeps.
        taken m input sections f p around are start writes t sound_t b2 s2 state2 r a l good2 (in_block (block_still m input sections f p around start b b2 state state2 r l keeps x)) inside units (λ none marked. absurd (let e : Some shape ≡ None = sym shaped ∙ none in cc));
    stores = λ b2 s2 units state2 value v good2 keeps typed stands.
        block_written m input sections f p around are knows start b2 s2 state2 r l good2 (block_still m input sections f p around start b b2 state state2 r l keeps x) own t a shape sound_t shaped writes inside may value v typed stands units;
  }
