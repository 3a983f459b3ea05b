-- What is lowered behind what leads to a place.
use Rattle.std.proofs.Common.{◌≡◌, refl, ℕ, Bool, false, ◌||◌}
use Rattle.gsl_base.specs.declared.input.Input.{Input}
use Rattle.gsl_types.specs.declared.ty.Ty.{Ty}
use Rattle.gsl_words.specs.declared.module.Module.{Module}
use Rattle.gsl_tree.specs.Around.{Around}
use Rattle.gsl_tree.specs.declared.program.Program.{Program}
use Rattle.gsl_meaning.specs.Accesses.{Access}
use Rattle.gsl_meaning.specs.Running.{Ends, Goes, Got, Ran, Run, Strays}
use Rattle.gsl_meaning.specs.Running as shader_run
use Rattle.gsl_meaning.specs.State as shader
use Rattle.gsl_machine.specs.State.{State}
use Rattle.gsl_spv.specs.Sections.{Sections}
use Rattle.gsl_lower_places.specs.declared.reached.Reached.{Reached}
use Rattle.gsl_lower_holders.specs.Flow.{Emit, Flow, Gives, Lacks, Lowered, ◌>>=◌}
use Rattle.gsl_lower_follows.specs.Following.{Follows}
use Rattle.gsl_lower_follows.specs.Following.Astray.{later, now}
use Rattle.gsl_lower_follows.specs.Frames.{Frame, Good}
use Rattle.gsl_lower_follows.specs.Giving.{Adds, After, Does, Grown}
use Rattle.gsl_lower_follows.proofs.Doing.{does_then}
use Rattle.gsl_lower_follows.proofs.Growing.{adds_then}
use Rattle.gsl_lower_follows.proofs.Holding.{after_then}
use Rattle.gsl_lower_reaching.specs.Reaching.{GivesPlace, HasReached, HasStrayed, IsTrail, Start}
use Rattle.gsl_lower_reaching.specs.Trails.{IsInside, IsOutside, Trail}

module _ (m : Module) (input : Input) (sections : Sections) (f : Frame m input sections) (p : Program) where
  -- what was done is so, and what waits to stray as well
  pub does_both : {A R : Type 0} (units : ℕ) (state : State) (First Is : A → Flow → R → shader.State → State → Type 0) (FirstWaits Waits : A → Flow → shader.State → State → Type 0) (ran : Ran R) (low : Lowered A)
      → ((a : A) (flow : Flow) (r : R) (s : shader.State) (last : State) → First a flow r s last → Is a flow r s last)
      → ((a : A) (flow : Flow) (s : shader.State) (last : State) → FirstWaits a flow s last → Waits a flow s last)
      → Does m input sections f p 0 units state First FirstWaits ran low → Does m input sections f p 0 units state Is Waits ran low
  does_both units state First Is FirstWaits Waits ran Lacks so waits does = tt
  does_both {A} {R} units state First Is FirstWaits Waits ran (Gives a flow) so waits does = λ inside. by ran (does inside)
    where
      by : (ran : Ran R) → Follows m input p 0 units state (First a flow) (FirstWaits a flow) ran → Follows m input p 0 units state (Is a flow) (Waits a flow) ran
      by (Got r s left) q = record { later = q.later; is = so a flow r s q.later q.is; less = q.less; stretch = q.stretch }
      by (Ends s) q = q
      by Strays (now q) = now q
      by Strays (later s left q) = later s left (record { later = q.later; is = waits a flow s q.later q.is; less = q.less; stretch = q.stretch })
      by Goes q = q

  -- what waits to stray does so since the shader strays
  does_strayed : {A R : Type 0} (units : ℕ) (state : State) (Is : A → Flow → R → shader.State → State → Type 0) (Waits : A → Flow → shader.State → State → Type 0) (ran : Ran R) (low : Lowered A)
      → Does m input sections f p 0 units state Is Waits ran low → Does m input sections f p 0 units state Is (λ a flow s last. Waits a flow s last × (ran ≡ Strays)) ran low
  does_strayed units state Is Waits ran Lacks does = tt
  does_strayed {A} {R} units state Is Waits ran (Gives a flow) does = λ inside. by ran refl (does inside)
    where
      by : (one : Ran R) → ran ≡ one → Follows m input p 0 units state (Is a flow) (Waits a flow) one → Follows m input p 0 units state (Is a flow) (λ s last. Waits a flow s last × (ran ≡ Strays)) one
      by (Got r s left) e q = q
      by (Ends s) e q = q
      by Strays e (now q) = now q
      by Strays e (later s left q) = later s left (record { later = q.later; is = (q.is, e); less = q.less; stretch = q.stretch })
      by Goes e q = q

  module _ (around : Around) (first more : Bool) (lies loose : Start) (writes : Bool) (base t : Ty) (emit : Emit Reached) (run : Run Access) (next : Reached → Emit Reached) (go : Access → Run Access) where
    -- What goes on with what was reached, from wherever it leads: out of bounds only where it may stray.
    pub record GoesOn : Type 0 where
      pub adds : (r : Reached) → Adds (next r)
      pub inside : (b : Flow) (s : shader.State) (units : ℕ) (state : State) (r : Reached) (a : Access) (l : Trail) → Good m input sections f p around b s state → IsTrail m input sections f p around false lies b state r l → IsInside p.structs p.blocks writes base a l
          → Does m input sections f p 0 units state (HasReached m input sections f p around more loose writes t b state) (HasStrayed m input sections f p around more loose writes t b state) (go a s units) (next r b)
      pub outside : (b : Flow) (s : shader.State) (units : ℕ) (state : State) (r : Reached) (l : Trail) → Good m input sections f p around b s state → IsTrail m input sections f p around false lies b state r l → IsOutside p.structs p.blocks writes base l
          → (origin : shader.State) (budget : ℕ) → run origin budget ≡ Strays
          → Does m input sections f p 0 units state (HasReached m input sections f p around more loose writes t b state) (HasStrayed m input sections f p around more loose writes t b state) Strays (next r b)

    pub place_then : GivesPlace m input sections f p around first lies writes base emit run → GoesOn → GivesPlace m input sections f p around (first || more) loose writes t (emit >>= next) (shader_run.◌>>=◌ run go)
    place_then gives on = record {
      adds = adds_then emit next gives.adds on.adds;
      does = λ b s units state good.
          does_then m input sections f p 0 units b state (HasReached m input sections f p around first lies writes base b state) (λ r between u mid. HasStrayed m input sections f p around first lies writes base b state r between u mid × (run s units ≡ Strays))
          (HasReached m input sections f p around (first || more) loose writes t b state) (HasStrayed m input sections f p around (first || more) loose writes t b state) (run s units) go (emit b) next good.inside (gives.adds b) on.adds
          (does_strayed units state (HasReached m input sections f p around first lies writes base b state) (HasStrayed m input sections f p around first lies writes base b state) (run s units) (emit b) (gives.does b s units state good))
          (λ r between a u left mid inside grown x less.
          does_both left mid (HasReached m input sections f p around more loose writes t between mid) (HasReached m input sections f p around (first || more) loose writes t b state)
          (HasStrayed m input sections f p around more loose writes t between mid) (HasStrayed m input sections f p around (first || more) loose writes t b state) (go a u left) (next r between)
          (λ c flow y w last z. reached_behind b between flow state mid last u w c y grown x.after z)
          (λ c flow w last z. strayed_behind b between flow state mid last u w c grown x.after z)
          (on.inside between u left mid r a x.trail x.after.good x.is x.inside))
          (λ r between u left mid inside grown x less.
          does_both left mid (HasReached m input sections f p around more loose writes t between mid) (HasReached m input sections f p around (first || more) loose writes t b state)
          (HasStrayed m input sections f p around more loose writes t between mid) (HasStrayed m input sections f p around (first || more) loose writes t b state) Strays (next r between)
          (λ c flow y w last z. reached_behind b between flow state mid last u w c y grown x.0.after z)
          (λ c flow w last z. strayed_behind b between flow state mid last u w c grown x.0.after z)
          (on.outside between u left mid r x.0.trail x.0.after.good x.0.is x.0.outside s units x.1));
    }
      where
        reached_behind : (b between flow : Flow) (state mid last : State) (u w : shader.State) (c : Reached) (y : Access) → Grown b between → After m input sections f p around first b state between u mid → HasReached m input sections f p around more loose writes t between mid c flow y w last
            → HasReached m input sections f p around (first || more) loose writes t b state c flow y w last
        reached_behind b between flow state mid last u w c y grown after z = record { trail = z.trail; is = z.is; inside = z.inside; after = after_then m input sections f p around first more b between flow state mid last u w grown after z.after }

        strayed_behind : (b between flow : Flow) (state mid last : State) (u w : shader.State) (c : Reached) → Grown b between → After m input sections f p around first b state between u mid → HasStrayed m input sections f p around more loose writes t between mid c flow w last
            → HasStrayed m input sections f p around (first || more) loose writes t b state c flow w last
        strayed_behind b between flow state mid last u w c grown after z = record { trail = z.trail; is = z.is; outside = z.outside; after = after_then m input sections f p around first more b between flow state mid last u w grown after z.after }
