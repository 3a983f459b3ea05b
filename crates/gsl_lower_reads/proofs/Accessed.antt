-- What leads to a place gives the value there.
use Rattle.std.proofs.Common.{◌≡◌, Bool, true, false, ◌||◌, length, None}
use Rattle.gsl_base.specs.declared.input.Input.{Input}
use Rattle.gsl_types.specs.Known.{AreStructs, IsSound}
use Rattle.gsl_types.specs.declared.ty.Ty.{Ty}
use Rattle.gsl_words.specs.declared.module.Module.{Module}
use Rattle.gsl_tree.specs.Around.{Around}
use Rattle.gsl_tree.specs.Shapes.{shape_of}
use Rattle.gsl_tree.specs.declared.program.Program.{Program}
use Rattle.gsl_meaning.specs.Accesses.{Access, read}
use Rattle.gsl_meaning.specs.Running.{Got, Run, told_by}
use Rattle.gsl_spv.specs.Sections.{Sections}
use Rattle.gsl_lower_places.specs.declared.reached.Reached.{Reached}
use Rattle.gsl_lower_holders.specs.Flow.{Emit}
use Rattle.gsl_lower_expr.specs.Parts.{accessed, reads}
use Rattle.gsl_lower_follows.specs.Frames.{Frame}
use Rattle.gsl_lower_follows.specs.Giving.{GivesValue, HasGiven, none_waits}
use Rattle.gsl_lower_follows.proofs.Doing.{does_then}
use Rattle.gsl_lower_follows.proofs.Growing.{adds_then}
use Rattle.gsl_lower_follows.proofs.Holding.{does_so}
use Rattle.gsl_lower_elements.proofs.OfLawExpr.{given_behind}
use Rattle.gsl_lower_elements.specs.OfReaching.{GivesPlace, HasReached, HasStrayed, Start}
use Rattle.gsl_lower_elements.specs.OfReaching.{OfBlock}
use Rattle.gsl_lower_reads.specs.Accessing.{accessed_means}
use Rattle.gsl_lower_reads.proofs.Adding.{adds_reads}
use Rattle.gsl_lower_reads.proofs.Straying.{read_strays}
use Rattle.gsl_lower_reads.proofs.Taking.{taken}

module _ (m : Module) (input : Input) (sections : Sections) (f : Frame m input sections) (p : Program) (around : Around) where
  none_more : (c : Bool) → c ≡ false → (c || false) ≡ false
  none_more true e = e
  none_more false e = e

  pub place_gives : (splits : Bool) (loose : Start) (writes : Bool) (t : Ty) (reach : Emit Reached) (run : Run Access) → AreStructs p.structs → IsSound (length p.structs) t → (shape_of t ≡ None → loose ≡ OfBlock → ⊥) → GivesPlace m input sections f p around splits loose writes t reach run
      → GivesValue m input sections f p around splits t (accessed p.structs t reach) (accessed_means p.structs t run)
  place_gives splits loose writes t reach run are sound apart gives = record {
    adds = adds_then reach (reads p.structs t) gives.adds (λ r. adds_reads m input sections p.structs t r);
    does = λ b s units state good.
        does_then m input sections f p 0 units b state (HasReached m input sections f p around splits loose writes t b state) (HasStrayed m input sections f p around splits loose writes t b state) (HasGiven m input sections f p around splits t b state) none_waits
        (run s units) (λ a. told_by (read p.structs t a)) (reach b) (reads p.structs t) good.inside (gives.adds b) (λ r. adds_reads m input sections p.structs t r)
        (gives.does b s units state good)
        (λ r between a u left mid inside grown x less.
        does_so m input sections f p around 0 left mid (HasGiven m input sections f p around false t between mid) (HasGiven m input sections f p around splits t b state) (Got (read p.structs t a u) u left) (reads p.structs t r between)
        (λ id later v w last h. given_behind m input sections f p around splits false splits t b between later state mid last u w id v (none_more splits) grown x.after h)
        (taken m input sections f p around are loose writes t sound between u mid r a x.trail x.after.good x.is x.inside left apart))
        (λ r between u left mid inside grown x less. read_strays m input sections f p around are loose writes t between u mid r x.trail x.after.good x.is x.outside left (HasGiven m input sections f p around splits t b state) apart);
  }
