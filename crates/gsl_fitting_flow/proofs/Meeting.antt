-- The value of a way is left in a holder, and the next block begins.
use Rattle.std.proofs.Common.{◌≡◌, ℕ, ◌+◌, ◌<◌, ◌≤◌, Bool, true, false, List, [], ◌∷◌, ◌++◌, refl, suc, arith}
use Rattle.gsl_blocks.specs.declared.around.Around.{Around}
use Rattle.gsl_blocks.specs.declared.around.Due.{Due}
use Rattle.gsl_blocks.specs.Around.{in_arm}
use Rattle.gsl_blocks.specs.Order.{run}
use Rattle.gsl_instr.specs.declared.op.TheConstants as op
use Rattle.gsl_words.specs.declared.module.Module.{Module}
use Rattle.gsl_valid.specs.LimitRules.{most_constructs}
use Rattle.gsl_valid.specs.Placed.{Code}
use Rattle.gsl_spv.specs.Calls as call
use Rattle.gsl_spv.specs.Finished.{module_of}
use Rattle.gsl_spv.specs.Growing.{Extends}
use Rattle.gsl_spv.specs.Sections.{Sections}
use Rattle.gsl_spv.proofs.Extending.{extends_then}
use Rattle.gsl_lower_holders.specs.Flow.{Flow}
use Rattle.gsl_fitting.specs.Fits.{Frame, In, is_mark}
use Rattle.gsl_fitting_shapes.specs.Fresh.{Fresh}
use Rattle.gsl_fitting_shapes.proofs.Labels.{arm_ends, arm_fresh, later}
use Rattle.gsl_fitting_types.specs.Making.{AreSorted, made}
use Rattle.gsl_fitting_flow.specs.Flowing.{Carries, Crosses, FlowStays, IsHolder, IsOf}
use Rattle.gsl_fitting_flow.proofs.Branching.{jump_leads, jumped, jumped_bridge, jumped_code}
use Rattle.gsl_fitting_flow.proofs.Holding.{store_flows, store_stays}
use Rattle.gsl_fitting_flow.proofs.Owing.{Bridge, FromTo, Link, bridge_then, from_then, link_then, part_bridge, part_link}

abbrev nothing : Unit {0}
nothing = tt

-- a value is in a holder
abbrev pub kept_in : ℕ → ℕ → Flow → Flow
kept_in h value s = record { sections = call.put op.STORE (h ∷ value ∷ []) s.sections; place = s.place }

-- what stays over a part of lowering, its value's holder, and the branch behind it
pub arm_link : (h value end next : ℕ) (a s : Flow) → FlowStays a s → Link (next ∷ []) a.sections (jumped end next (kept_in h value s)).sections
arm_link h value end next a s stays =
    link_then [] (next ∷ []) a.sections s.sections (jumped end next (kept_in h value s)).sections (refl, tt) (part_link a.sections s.sections stays.sections)
    (link_then [] (next ∷ []) s.sections (kept_in h value s).sections (jumped end next (kept_in h value s)).sections (refl, tt) (part_link s.sections (kept_in h value s).sections (store_stays h value s).sections)
    (jumped_bridge (module_of s.sections 0 []) end next (kept_in h value s)).link)

module _ (whole : Sections) (main : ℕ) (local_size : List ℕ) (rank : ℕ → ℕ) (f : Frame) (sorted : AreSorted whole) where
  abbrev m : Module
  m = made whole main local_size rank f

  -- From the first block of a way to the next block that is due, where a way ends with a branch.
  pub record Arm (deep end next : ℕ) (a b : Flow) : Type 0 where
    pub code : Code
    pub bridge : Bridge m code (next ∷ []) a.sections b.sections
    pub fits : (c d : Around) (due : List Due) → Fresh c (a.sections.last + 1) → end < a.sections.last + 1 → c.depth + suc deep ≤ most_constructs → FromTo m rank f code (In a.place.label (in_arm c end) [] (run next d ∷ due)) (In next d [] due)

  pub arm_done : (deep : ℕ) (splits : Bool) (now : List ℕ) (type h value end next : ℕ) (a s : Flow) → FlowStays a s → Crosses m rank f deep splits [] now a s → IsHolder whole main local_size rank f type h → IsOf whole main local_size rank f now type value
      → Extends (jumped end next (kept_in h value s)).sections whole → is_mark m end ≡ true → Arm deep end next a (jumped end next (kept_in h value s))
  arm_done deep splits now type h value end next a s stays x is v inside mark = record {
    code = x.code ++ (y.crosses.code ++ jumped_code end next);
    bridge =
        bridge_then m x.code (y.crosses.code ++ jumped_code end next) [] (next ∷ []) a.sections s.sections (jumped end next kept).sections (refl, tt) (part_bridge m rank f deep splits [] now a s stays x)
        (bridge_then m y.crosses.code (jumped_code end next) [] (next ∷ []) s.sections kept.sections (jumped end next kept).sections (refl, tt) (part_bridge m rank f deep false now y.now s kept (store_stays h value s) y.crosses) (jumped_bridge m end next kept));
    fits = λ c d due fresh lt low.
        let inner = arm_fresh c (a.sections.last + 1) end lt fresh in
        let more = stays.sections.extends.last in
        from_then m rank f x.code (y.crosses.code ++ jumped_code end next) (In a.place.label (in_arm c end) [] (run next d ∷ due)) (In s.place.label (in_arm c end) now (run next d ∷ due)) (In next d [] due)
        (λ follows h. x.fits follows (in_arm c end) (run next d ∷ due) inner (within c low) h)
        (from_then m rank f y.crosses.code (jumped_code end next) (In s.place.label (in_arm c end) now (run next d ∷ due)) (In s.place.label (in_arm c end) y.now (run next d ∷ due)) (In next d [] due)
        (λ follows h. y.crosses.fits follows (in_arm c end) (run next d ∷ due) (later (in_arm c end) (a.sections.last + 1) (s.sections.last + 1) (omega (arith, more)) inner) (within c low) h)
        (jump_leads whole main local_size rank f sorted y.now end next s.place.label (in_arm c end) d due mark (arm_ends c end)));
  }
    where
      kept : Flow
      kept = kept_in h value s

      y : Carries whole main local_size rank f [] deep false now (λ done now after. Unit {0}) s nothing (kept_in h value s)
      y = store_flows whole main local_size rank f sorted deep now type h value s is v (extends_then (jumped_bridge m end next (kept_in h value s)).link.extends inside) tt

      within : (c : Around) → c.depth + suc deep ≤ most_constructs → (c.depth + 1) + deep ≤ most_constructs
      within c low = omega (arith, low)
