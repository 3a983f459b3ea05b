-- The module that comes of what a builder holds.
use Rattle.std.proofs.Common.{◌≡◌, sym, ap, ◌∙◌, ℕ, Bool, Some, slice_get, Result, Ok, Err}
use Rattle.gsl_words.specs.declared.module.Module.{Module}
use Rattle.gsl_words.specs.declared.target.Target.{Target}
use Rattle.gsl_tree.specs.declared.program.Program.{Program}
use Rattle.gsl_spv.specs.Sections.{Sections, empty}
use Rattle.gsl_spv.specs.declared.refusal.BuildRefusal.{BuildRefusal}
use Rattle.gsl_spv.specs.declared.refusal.BuildRefusal.TheVariants.{TooManyIds, Memory}
use Rattle.gsl_tree.specs.declared.unit.Function.{Function}
use Rattle.gsl_lower_values.specs.Building.{Made}
use Rattle.gsl_lower_holders.specs.Flow.{Gives, behind, flow_of, id_at}
use Rattle.gsl_lower_holders.specs.declared.place.FlowPlace.{FlowPlace}
use Rattle.gsl_lower_flow.specs.Programs.{Answers, Finishes, Gives-id, asked_by, declared, from_there, functions_put, lowered, lowered_by, module_by, module_for, program_setting, put_by, told_main}
use Rattle.gsl_lower_flow.specs.Reaching.{main_head}

-- the id of `main` is told behind the functions
pub by_main : (is : Function → Bool) (target : Target) (p : Program) (before there after : Sections) (place last : FlowPlace) (id : ℕ) (done : Unit {0}) → declared target p (asked_by is p) before ≡ Made place there
    → functions_put is (program_setting p) p.prototypes p.functions (flow_of there place) ≡ Gives done (flow_of after last) → slice_get last.functions (main_head p) ≡ Some id
    → (at : FlowPlace) × (lowered_by is target p before ≡ Gives id (flow_of after at))
by_main is target p before there after place last id done first then found =
    (last, ap (λ r. behind (from_there r) (λ d. put_by is p)) first ∙ ap (λ r. behind r (λ d. told_main p)) then ∙ ap (λ o. id_at o (flow_of after last)) found)

-- where the program was put, the module that is made is its own
pub answered : (target : Target) (p : Program) (main : ℕ) (sections : Sections) (r : Result Module BuildRefusal) → Gives-id (Ok main) sections (lowered target p (empty p.stage target))
    → Finishes sections main p.local_size r → Answers target p r
unfolding module_for
answered target p main sections (Ok m) put is = ap (module_by p) put.1 ∙ ap Some (sym is)
answered target p main sections (Err TooManyIds) put is = absurd is
answered target p main sections (Err Memory) put is = tt

-- where it was not, there is none
pub refused : (target : Target) (p : Program) (refusal : BuildRefusal) (sections : Sections) → Gives-id (Err refusal) sections (lowered target p (empty p.stage target)) → Answers target p (Err refusal)
unfolding module_for
refused target p TooManyIds sections is = ap (module_by p) is
refused target p Memory sections is = tt
