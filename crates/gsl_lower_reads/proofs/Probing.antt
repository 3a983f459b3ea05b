-- Indexes are tested before what calls functions.
use Rattle.std.proofs.Common.{◌≡◌, refl, ◌∙◌, ℕ, Bool, true, false, List, [], ◌∷◌, length, Option, Some, None}
use Rattle.gsl_base.specs.declared.input.Input.{Input}
use Rattle.gsl_types.specs.Known.{AreStructs, IsSound}
use Rattle.gsl_types.specs.declared.ty.StructType.{StructType}
use Rattle.gsl_types.specs.declared.ty.Ty.{Ty}
use Rattle.gsl_words.specs.declared.module.Module.{Module}
use Rattle.gsl_values.specs.declared.value.Value.{Value}
use Rattle.gsl_tree.specs.Around.{Around}
use Rattle.gsl_tree.specs.Shapes.{Shape, shape_of}
use Rattle.gsl_tree.specs.Values.{is_value_of}
use Rattle.gsl_tree.specs.declared.program.Program.{Program}
use Rattle.gsl_meaning.specs.Accesses.{Access}
use Rattle.gsl_meaning.specs.Running.{Got, Strays}
use Rattle.gsl_meaning.specs.State as shader
use Rattle.gsl_machine.specs.State.{Ids, State}
use Rattle.gsl_spv.specs.Sections.{Sections}
use Rattle.gsl_lower_values.specs.Building as steps
use Rattle.gsl_lower_places.specs.Pointed.{pointed}
use Rattle.gsl_lower_places.specs.Reading.{read}
use Rattle.gsl_lower_places.specs.declared.reached.Base.{Base}
use Rattle.gsl_lower_places.specs.declared.reached.Base.TheVariants.{Variable, Value as Loose}
use Rattle.gsl_lower_places.specs.declared.reached.Reached.{Reached}
use Rattle.gsl_lower_law.specs.Straying.{Strays as StepStrays}
use Rattle.gsl_lower_leaves.specs.Leaves.{leaves_of}
use Rattle.gsl_lower_leaves.specs.declared.leaf.Leaf.{Leaf}
use Rattle.gsl_lower_holders.specs.Flow.{Emit, Flow, lift, ◌>>=◌}
use Rattle.gsl_lower_holders.specs.Waiting.{hold_reached}
use Rattle.gsl_lower_expr.specs.Parts.{first_leaf, leaf_of, probe, probe_by, tested}
use Rattle.gsl_lower_follows.specs.Frames.{Frame, Good}
use Rattle.gsl_lower_follows.specs.Giving.{Adds, Does, none_waits}
use Rattle.gsl_lower_follows.proofs.Beginning.{does_aside}
use Rattle.gsl_lower_follows.proofs.Behind.{reaches_here}
use Rattle.gsl_lower_follows.proofs.Doing.{does_then, strays_lift}
use Rattle.gsl_lower_follows.proofs.Growing.{adds_lift, adds_then}
use Rattle.gsl_lower_follows.proofs.Holding.{Unchanged, after_same, after_then, does_so}
use Rattle.gsl_lower_elements.proofs.OfLawExpr.{does_change}
use Rattle.gsl_lower_elements.proofs.OfLawExpr.{Always, always_given, always_then}
use Rattle.gsl_lower_elements.specs.OfReaching.{IsTrail, Start}
use Rattle.gsl_lower_elements.specs.OfReaching.{IsInside, IsOutside, Trail}
use Rattle.gsl_lower_elements.proofs.OfReaching.{trail_after}
use Rattle.gsl_lower_reads.specs.Testing.{IsTested}
use Rattle.gsl_lower_reads.specs.Waiting.{IsKept}
use Rattle.gsl_lower_reads.proofs.Adding.{always_pointed, always_read}
use Rattle.gsl_lower_reads.proofs.Holds.{adds_held, is_held}
use Rattle.gsl_lower_reads.proofs.Pointed.{IsSure, first_out, first_sure, shape_out, shape_sure}

module _ (m : Module) (input : Input) (sections : Sections) where
  always_tested : (base : Base) (shape : Shape) (r : Reached) → Always (tested base shape r)
  always_tested (Variable id class) shape r = always_then m input sections (pointed shape r) (λ to. steps.given {A = Unit {0}} tt) (always_pointed m input sections shape r) (λ to. always_given m input sections {A = Unit {0}} tt)
  always_tested (Loose id type) shape r = always_then m input sections (read shape r) (λ v. steps.given {A = Unit {0}} tt) (always_read m input sections shape r) (λ v. always_given m input sections {A = Unit {0}} tt)

  always_first : (r : Reached) (leaves : List Leaf) → Always (first_leaf r leaves)
  always_first r [] = always_given m input sections {A = Unit {0}} tt
  always_first r (one ∷ more) = always_tested r.base one.shape (leaf_of r one)

  always_probe : (structs : List StructType) (calls : Bool) (t : Ty) (r : Reached) → Always (probe structs calls t r)
  unfolding probe
  always_probe structs false t r = always_given m input sections {A = Unit {0}} tt
  always_probe structs true t r = by (shape_of t)
    where
      by : (o : Option Shape) → Always (probe_by structs t r o)
      by (Some shape) = always_tested r.base shape r
      by None = always_first r (leaves_of structs t)

  pub adds_probe : (structs : List StructType) (calls : Bool) (t : Ty) (r : Reached) → Adds (lift (probe structs calls t r))
  adds_probe structs calls t r = adds_lift (probe structs calls t r) (λ b. always_probe structs calls t r b.sections)

  pub adds_tested : (structs : List StructType) (calls waits : Bool) (t : Ty) (r : Reached) → Adds (lift (probe structs calls t r) >>= (λ done. hold_reached waits r))
  adds_tested structs calls waits t r = adds_then (lift (probe structs calls t r)) (λ done. hold_reached waits r) (adds_probe structs calls t r) (λ done. adds_held waits r)

  module _ (f : Frame m input sections) (p : Program) (around : Around) (are : AreStructs p.structs) (loose : Start) (writes : Bool) (t : Ty) (sound_t : IsSound (length p.structs) t) where
    abbrev Tested : Flow → shader.State → State → Unit {0} → Flow → Unit {0} → shader.State → State → Type 0
    Tested = IsTested m input sections f p around

    module _ (b : Flow) (s : shader.State) (units : ℕ) (state : State) (r : Reached) (l : Trail) (good : Good m input sections f p around b s state) (is : IsTrail m input sections f p around false loose b state r l) where
      -- there is nothing to test for
      pub probe_none : Does m input sections f p 0 units state (Tested b s state) none_waits (Got tt s units) (lift (probe p.structs false t r) b)
      unfolding probe
      probe_none = λ within. reaches_here m input units state (Tested b s state tt b tt s) (record { after = after_same m input sections f p around b s state good; still = refl })

      pub probe_sure : (a : Access) → IsInside p.structs p.blocks writes t a l → IsSure m input sections state b.sections (probe p.structs true t r)
      unfolding probe
      probe_sure a inside = by (shape_of t) refl
        where
          by : (o : Option Shape) → shape_of t ≡ o → IsSure m input sections state b.sections (probe_by p.structs t r o)
          by (Some shape) e = shape_sure m input sections f p around are loose writes t sound_t b s state r l good is a inside shape e
          by None e = first_sure m input sections f p around are loose writes t sound_t b s state r l good is a inside e

      pub probe_strays : (v : Value) → is_value_of p.structs t v ≡ true → IsOutside p.structs p.blocks writes t l → StepStrays m input sections state b.sections (probe p.structs true t r)
      unfolding probe
      probe_strays v typed outside = by (shape_of t) refl
        where
          by : (o : Option Shape) → shape_of t ≡ o → StepStrays m input sections state b.sections (probe_by p.structs t r o)
          by (Some shape) e = shape_out m input sections f p around are loose writes t sound_t b s state r l good is outside shape
          by None e = first_out m input sections f p around are loose writes t sound_t b s state r l good is outside e v typed

      pub probe_in : (calls : Bool) (a : Access) → IsInside p.structs p.blocks writes t a l → Does m input sections f p 0 units state (Tested b s state) none_waits (Got tt s units) (lift (probe p.structs calls t r) b)
      probe_in false a inside = probe_none
      probe_in true a inside =
          does_change m input sections f p around units units state (Unchanged m input sections f p around {A = Unit {0}} b state) (Tested b s state) tt tt s (lift (probe p.structs true t r) b) (λ done later last after. record { after = after; still = refl })
          (does_aside m input sections f p around (λ (done : Unit {0}) (ids : Ids). Unit {0}) units b s state (probe p.structs true t r) good (probe_sure a inside))

      pub probe_out : {R : Type 0} (Then : Unit {0} → Flow → R → shader.State → State → Type 0) → ((v : Value) × (is_value_of p.structs t v ≡ true)) → IsOutside p.structs p.blocks writes t l → Does m input sections f p 0 units state Then none_waits Strays (lift (probe p.structs true t r) b)
      probe_out {R} Then some outside = strays_lift m input sections f p around units b s state Then none_waits (probe p.structs true t r) good (probe_strays some.0 some.1 outside)

      -- ---- what was tested waits

      abbrev then_held : Bool → Bool → Emit Reached
      then_held calls waits = lift (probe p.structs calls t r) >>= (λ done. hold_reached waits r)

      abbrev Kept : Bool → Reached → Flow → Unit {0} → shader.State → State → Type 0
      Kept waits = IsKept m input sections f p around waits loose l s b state

      kept_behind : (calls waits : Bool) → Does m input sections f p 0 units state (Tested b s state) none_waits (Got tt s units) (lift (probe p.structs calls t r) b) → Does m input sections f p 0 units state (Kept waits) none_waits (Got tt s units) (then_held calls waits b)
      kept_behind calls waits does =
          does_then m input sections f p 0 units b state (Tested b s state) none_waits (Kept waits) none_waits (Got tt s units) (λ one u left. Got tt u left) (lift (probe p.structs calls t r) b) (λ done. hold_reached waits r) good.inside
          (adds_probe p.structs calls t r b) (λ done. adds_held waits r) does
          (λ done between one u left mid within grown q less.
          does_so m input sections f p around 0 left mid (IsKept m input sections f p around waits loose l u between mid) (Kept waits) (Got tt u left) (hold_reached waits r between)
          (λ kept later two w last z. record { after = after_then m input sections f p around false false b between later state mid last u w grown q.after z.after; still = z.still ∙ q.still; is = z.is })
          (is_held m input sections f p around u loose waits r l left between mid q.after.good (trail_after m input sections f p around false loose b between state mid u r l grown q.after is)))
          (λ done between u left mid within grown none less. absurd none)

      pub kept_none : (waits : Bool) → Does m input sections f p 0 units state (Kept waits) none_waits (Got tt s units) (then_held false waits b)
      kept_none waits = kept_behind false waits probe_none

      pub kept_in : (calls waits : Bool) (a : Access) → IsInside p.structs p.blocks writes t a l → Does m input sections f p 0 units state (Kept waits) none_waits (Got tt s units) (then_held calls waits b)
      kept_in calls waits a inside = kept_behind calls waits (probe_in calls a inside)

      pub kept_out : {R : Type 0} (Then : Reached → Flow → R → shader.State → State → Type 0) (waits : Bool) → ((v : Value) × (is_value_of p.structs t v ≡ true)) → IsOutside p.structs p.blocks writes t l → Does m input sections f p 0 units state Then none_waits Strays (then_held true waits b)
      kept_out {R} Then waits some outside =
          does_then m input sections f p 0 units b state (λ done later (one : Unit {0}) u last. ⊥) none_waits Then none_waits Strays (λ one u left. Strays) (lift (probe p.structs true t r) b) (λ done. hold_reached waits r) good.inside
          (adds_probe p.structs true t r b) (λ done. adds_held waits r)
          (probe_out (λ done later (one : Unit {0}) u last. ⊥) some outside)
          (λ done between one u left mid within grown none less. absurd none)
          (λ done between u left mid within grown none less. absurd none)
