-- What leads to a place gives the value there, whatever its type.
use Rattle.std.proofs.Common.{◌≡◌, refl, sym, ap, ◌∙◌, subst, ℕ, Bool, true, false, ◌||◌, length, Option, Some, None, if◌then◌else◌}
use Rattle.gsl_base.specs.declared.input.Input.{Input}
use Rattle.gsl_types.specs.Known.{AreStructs, IsSound}
use Rattle.gsl_types.specs.declared.ty.Ty.{Ty}
use Rattle.gsl_words.specs.declared.module.Module.{Module}
use Rattle.gsl_tree.specs.Around.{Around}
use Rattle.gsl_tree.specs.Shapes.{Shape, shape_of}
use Rattle.gsl_tree.specs.declared.program.Program.{Program}
use Rattle.gsl_meaning.specs.Accesses.{Access, read}
use Rattle.gsl_meaning.specs.Running.{Got, Run, Strays, told_by}
use Rattle.gsl_meaning.specs.State as shader
use Rattle.gsl_machine.specs.State.{State}
use Rattle.gsl_valid.specs.Valid.{Valid}
use Rattle.gsl_spv.specs.Sections.{Sections}
use Rattle.gsl_typed_law.specs.Plain.{ArePlain}
use Rattle.gsl_lower_text.specs.Written.{Written}
use Rattle.gsl_lower_places.specs.declared.reached.Reached.{Reached}
use Rattle.gsl_lower_holders.specs.Flow.{Emit, Flow}
use Rattle.gsl_lower_expr.specs.Parts.{accessed, read_block, read_by, read_composite, read_own, reads}
use Rattle.gsl_lower_follows.specs.Frames.{Frame, Good}
use Rattle.gsl_lower_follows.specs.Giving.{Does, GivesValue, HasGiven, none_waits}
use Rattle.gsl_lower_follows.proofs.Doing.{does_then}
use Rattle.gsl_lower_follows.proofs.Growing.{adds_then}
use Rattle.gsl_lower_follows.proofs.Holding.{does_so}
use Rattle.gsl_lower_reads.specs.OfReaching.{GivesPlace, HasReached, HasStrayed, IsBlockTrail, IsInside, IsOutside, IsTrail, Start, Trail, in_block, own}
use Rattle.gsl_lower_law_expr.proofs.Operands.{given_behind}
use Rattle.gsl_lower_reads.specs.Accessing.{accessed_means}
use Rattle.gsl_lower_reads.proofs.Adding.{adds_reads}
use Rattle.gsl_lower_reads.proofs.Straying.{own_strays_all, read_strays}
use Rattle.gsl_lower_reads.proofs.Taking.{own_read, taken}
use Rattle.gsl_lower_law_gathered.specs.Gathering.{AreShaped, HasValues}
use Rattle.gsl_lower_law_gathered.proofs.Gathered.{block_gathered}
use Rattle.gsl_lower_law_gathered.proofs.Outside.{block_ungathered}

module _ (m : Module) (input : Input) (sections : Sections) (f : Frame m input sections) (p : Program) (around : Around) where
  leaf_by_leaf : (start : Start) (b : Flow) (state : State) (r : Reached) (l : Trail) (x : IsBlockTrail m input sections f p around false start b state r l) (t : Ty) → shape_of t ≡ None → reads p.structs t r ≡ read_block p.structs t x.begins.id x.begins.class r.path
  unfolding reads
  leaf_by_leaf start b state r l x t none =
      ap (read_by p.structs t r) none ∙ ap (λ base. read_composite p.structs t base r.path) x.begins.is
      ∙ ap (λ (block : Bool). if block then read_block p.structs t x.begins.id x.begins.class r.path else read_own t x.begins.id x.begins.class r.path) x.begins.inside

  none_more : (c : Bool) → c ≡ false → (c || false) ≡ false
  none_more true e = e
  none_more false e = e

  module _ (valid : Valid m) (written : Written m sections) (shaped : AreShaped m input sections f p around) (are : AreStructs p.structs) (plain : ArePlain p.structs) (start : Start) (writes : Bool) (t : Ty) (sound_t : IsSound (length p.structs) t) where
    module _ (values : shape_of t ≡ None → HasValues m p.structs f.place t) (b : Flow) (s : shader.State) (state : State) (r : Reached) (l : Trail) (good : Good m input sections f p around b s state) (units : ℕ) where
      composite_taken : shape_of t ≡ None → (a : Access) → IsTrail m input sections f p around false start b state r l → IsInside p.structs p.blocks writes t a l → Does m input sections f p 0 units state (HasGiven m input sections f p around false t b state) none_waits (Got (read p.structs t a s) s units) (reads p.structs t r b)
      composite_taken none a (own x) inside = own_read m input sections f p around are start writes t sound_t b s state r a l good x inside units
      composite_taken none a (in_block x) inside =
          subst (λ (low : Emit ℕ). Does m input sections f p 0 units state (HasGiven m input sections f p around false t b state) none_waits (Got (read p.structs t a s) s units) (low b)) (sym (leaf_by_leaf start b state r l x t none))
          (block_gathered m input sections f p around valid written shaped are plain start b s state r l good x t sound_t none (values none) writes a inside units)

      -- what was reached gives its value
      pub any_taken : (a : Access) → IsTrail m input sections f p around false start b state r l → IsInside p.structs p.blocks writes t a l → Does m input sections f p 0 units state (HasGiven m input sections f p around false t b state) none_waits (Got (read p.structs t a s) s units) (reads p.structs t r b)
      any_taken a is inside = by (shape_of t) refl
        where
          by : (o : Option Shape) → shape_of t ≡ o → Does m input sections f p 0 units state (HasGiven m input sections f p around false t b state) none_waits (Got (read p.structs t a s) s units) (reads p.structs t r b)
          by None none = composite_taken none a is inside
          by (Some shape) of = taken m input sections f p around are start writes t sound_t b s state r a l good is inside units (λ none marked. absurd (let z : None ≡ Some shape = sym none ∙ of in cc))

      module _ {R : Type 0} (Then : ℕ → Flow → R → shader.State → State → Type 0) where
        composite_strays : shape_of t ≡ None → IsTrail m input sections f p around false start b state r l → IsOutside p.structs p.blocks writes t l → Does m input sections f p 0 units state Then none_waits Strays (reads p.structs t r b)
        composite_strays none (own x) outside = own_strays_all m input sections f p around are start writes t b s state r l good x outside units Then
        composite_strays none (in_block x) outside =
            subst (λ (low : Emit ℕ). Does m input sections f p 0 units state Then none_waits Strays (low b)) (sym (leaf_by_leaf start b state r l x t none))
            (block_ungathered m input sections f p around are plain start b s state r l good x writes t outside sound_t none (values none) units Then)

        -- what is read out of bounds strays
        pub any_strays : IsTrail m input sections f p around false start b state r l → IsOutside p.structs p.blocks writes t l → Does m input sections f p 0 units state Then none_waits Strays (reads p.structs t r b)
        any_strays is outside = by (shape_of t) refl
          where
            by : (o : Option Shape) → shape_of t ≡ o → Does m input sections f p 0 units state Then none_waits Strays (reads p.structs t r b)
            by None none = composite_strays none is outside
            by (Some shape) of = read_strays m input sections f p around are start writes t b s state r l good is outside units Then (λ none marked. absurd (let z : None ≡ Some shape = sym none ∙ of in cc))

    pub any_gives : (splits : Bool) (reach : Emit Reached) (run : Run Access) → (shape_of t ≡ None → HasValues m p.structs f.place t) → GivesPlace m input sections f p around splits start writes t reach run → GivesValue m input sections f p around splits t (accessed p.structs t reach) (accessed_means p.structs t run)
    any_gives splits reach run values gives = record {
      adds = adds_then reach (reads p.structs t) gives.adds (λ r. adds_reads m input sections p.structs t r);
      does = λ b s units state good.
          does_then m input sections f p 0 units b state (HasReached m input sections f p around splits start writes t b state) (HasStrayed m input sections f p around splits start writes t b state) (HasGiven m input sections f p around splits t b state) none_waits
          (run s units) (λ a. told_by (read p.structs t a)) (reach b) (reads p.structs t) good.inside (gives.adds b) (λ r. adds_reads m input sections p.structs t r)
          (gives.does b s units state good)
          (λ r between a u left mid inside grown x less.
          does_so m input sections f p around 0 left mid (HasGiven m input sections f p around false t between mid) (HasGiven m input sections f p around splits t b state) (Got (read p.structs t a u) u left) (reads p.structs t r between)
          (λ id later v w last h. given_behind m input sections f p around splits false splits t b between later state mid last u w id v (none_more splits) grown x.after h)
          (any_taken values between u mid r x.trail x.after.good left a x.is x.inside))
          (λ r between u left mid inside grown x less. any_strays values between u mid r x.trail x.after.good left (HasGiven m input sections f p around splits t b state) x.is x.outside);
    }
