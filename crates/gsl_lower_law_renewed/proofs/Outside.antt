-- What is made ready to be read and stored strays where a trail in a block leads out of bounds, or what is read of it does.
use Rattle.std.proofs.Common.{◌≡◌, sym, ◌∙◌, ℕ, Bool, true, false, if◌then◌else◌, Some, None}
use Rattle.gsl_base.specs.declared.input.Input.{Input}
use Rattle.gsl_types.specs.Known.{AreStructs}
use Rattle.gsl_types.specs.declared.ty.Ty.{Ty}
use Rattle.gsl_words.specs.declared.module.Module.{Module}
use Rattle.gsl_tree.specs.Around.{Around}
use Rattle.gsl_tree.specs.Shapes.{Shape, shape_of}
use Rattle.gsl_tree.specs.declared.program.Program.{Program}
use Rattle.gsl_meaning.specs.Running.{Strays}
use Rattle.gsl_meaning.specs.State as shader
use Rattle.gsl_machine.specs.State.{State}
use Rattle.gsl_spv.specs.Sections.{Sections}
use Rattle.gsl_lower_values.specs.Building.{given}
use Rattle.gsl_lower_places.specs.Pointed.{picks_several, pointed, to_renew}
use Rattle.gsl_lower_places.specs.declared.reached.Reached.{Reached}
use Rattle.gsl_lower_holders.specs.Flow as flow
use Rattle.gsl_lower_holders.specs.Flow.{Flow, lift}
use Rattle.gsl_lower_expr.specs.Parts.{reads}
use Rattle.gsl_lower_follows.specs.Frames.{Frame, Good}
use Rattle.gsl_lower_follows.specs.Giving.{Adds, Does, HasGiven, none_waits}
use Rattle.gsl_lower_follows.proofs.Doing.{does_then, strays_lift}
use Rattle.gsl_lower_follows.proofs.Growing.{adds_lift}
use Rattle.gsl_lower_law_written.specs.OfReaching.{IsBlockTrail, Start}
use Rattle.gsl_lower_law_written.specs.OfReaching.{in_block}
use Rattle.gsl_lower_law_written.specs.OfReaching.{IsOutside, Trail}
use Rattle.gsl_lower_law_written.proofs.OfElements.{block_pointed_out}
use Rattle.gsl_lower_law_written.proofs.OfReads.{adds_reads, always_pointed}
use Rattle.gsl_lower_law_written.proofs.OfReads.{read_strays}
use Rattle.gsl_lower_law_renewed.specs.Renewing.{renewed_read}

module _ (m : Module) (input : Input) (sections : Sections) (f : Frame m input sections) (p : Program) (around : Around) (are : AreStructs p.structs) (start : Start) (b : Flow) (s : shader.State) (state : State) (r : Reached) (l : Trail) (good : Good m input sections f p around b s state)
    (x : IsBlockTrail m input sections f p around false start b state r l) (writes : Bool) (t : Ty) (outside : IsOutside p.structs p.blocks writes t l) (units : ℕ) where
  pub block_pointed_strays : {R : Type 0} (shape : Shape) (Then : Reached → Flow → R → shader.State → State → Type 0) → Does m input sections f p 0 units state Then none_waits Strays (lift (pointed shape r) b)
  block_pointed_strays shape Then = strays_lift m input sections f p around units b s state Then none_waits (pointed shape r) good (block_pointed_out m input sections f p around are start b s state r l good x writes t outside shape)

  -- so does what is made ready, or what comes next
  pub block_renewed_strays : {A R : Type 0} (shape : Shape) (next : Reached → flow.Emit A) (Then : A → Flow → R → shader.State → State → Type 0) → ((to : Reached) → Adds (next to)) → Does m input sections f p 0 units state Then none_waits Strays (next r b)
      → Does m input sections f p 0 units state Then none_waits Strays (flow.◌>>=◌ (lift (to_renew shape r)) next b)
  unfolding to_renew
  block_renewed_strays {A} {R} shape next Then adds strays = by (picks_several r.picked)
    where
      by : (several : Bool) → Does m input sections f p 0 units state Then none_waits Strays (flow.◌>>=◌ (lift (if several then given r else pointed shape r)) next b)
      by true = strays
      by false =
          does_then m input sections f p 0 units b state (λ (to : Reached) later (one : R) u last. ⊥) none_waits Then none_waits Strays (λ one u left. Strays) (lift (pointed shape r) b) next good.inside
          (adds_lift (pointed shape r) (λ b. always_pointed m input sections shape r b.sections) b) adds
          (block_pointed_strays shape (λ (to : Reached) later (one : R) u last. ⊥))
          (λ to between one u left mid within grown none less. absurd none)
          (λ to between u left mid within grown none less. absurd none)

  pub renewed_read_strays : (shape : Shape) → shape_of t ≡ Some shape → Does m input sections f p 0 units state (HasGiven m input sections f p around false t b state) none_waits Strays (renewed_read p.structs t shape r b)
  renewed_read_strays shape shaped =
      block_renewed_strays shape (reads p.structs t) (HasGiven m input sections f p around false t b state) (adds_reads m input sections p.structs t)
      (read_strays m input sections f p around are start writes t b s state r l good (in_block x) outside units (HasGiven m input sections f p around false t b state) (λ none marked. absurd (let e : Some shape ≡ None = sym shaped ∙ none in cc)))
