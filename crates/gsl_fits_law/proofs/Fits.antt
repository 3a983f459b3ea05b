-- What asks alike is met alike.
use Rattle.std.proofs.Common.{◌≡◌, refl, sym, ap, ap₂, ◌∙◌, ℕ, ◌<◌, Bool, not, ◌&&◌, ◌||◌, ◌==◌, List, [], ◌∷◌, Ok, Err, if◌then◌else◌, filter_map}
use Rattle.std.specs.List.{AllByRecursion}
use Rattle.gsl_base.specs.declared.input.Input.{Input}
use Rattle.gsl_base.specs.declared.input.InputRefusal.TheVariants.{BadIds}
use Rattle.gsl_base.specs.declared.stage.Stage.{Stage}
use Rattle.gsl_base.specs.declared.stage.Stage.TheVariants.{Vertex, Fragment, Compute}
use Rattle.gsl_instr.specs.declared.enumerant.execution_model.TheConstants as execution_model
use Rattle.gsl_types.specs.declared.ty.StructType.{StructType}
use Rattle.gsl_words.specs.declared.module.Module.{Module}
use Rattle.gsl_tree.specs.WellTyped.{IsInterface, IsProgram, is_compute}
use Rattle.gsl_tree.specs.declared.program.Program.{Program}
use Rattle.gsl_tree.specs.declared.unit.Interface.{Interface}
use Rattle.gsl_inputs.specs.Demands.{Met, all_below, all_met, and_met}
use Rattle.gsl_meaning.specs.Fits as meaning
use Rattle.gsl_meaning.specs.Stages.{locations}
use Rattle.gsl_machine.specs.Fits.{bound_met, bound_of, fits, ids_met, place_met, place_of, push_met, sorted_bounds, sorted_places}
use Rattle.gsl_machine.specs.Interfaces.{block_variables, local_size, value_variables}
use Rattle.gsl_owed.specs.Places.{model}
use Rattle.gsl_fits_law.specs.Asking.{AsksAlike, bound_in, push_in}
use Rattle.gsl_fits_law.proofs.Blocks.{blocks_alike, bounds_sorted, met_assoc}
use Rattle.gsl_fits_law.proofs.Places.{places_alike}

located : (stage : Stage) (structs : List StructType) (interfaces : List Interface) → AllByRecursion (IsInterface stage structs) interfaces → AllByRecursion (λ (i : Interface). i.location < locations) interfaces
located stage structs [] all = tt
located stage structs (i ∷ interfaces) all = (all.0.location, located stage structs interfaces all.1)

-- the numbers of the invocation
module _ (input : Input) where
  abbrev within : List ℕ → Bool
  within size = all_below input.local size && all_below input.group input.groups

  -- where a test of them fails, they are refused
  abbrev passed : Bool → Met
  passed test = if test then Ok tt else Err BadIds

  -- as a module asks, by its model
  abbrev asked : ℕ → List ℕ → Met
  asked number size = if number == execution_model.GL_COMPUTE then passed (within size) else Ok tt

  by_stage : (stage : Stage) (size other : List ℕ) → (stage ≡ Compute → other ≡ size) → asked (model stage) other ≡ passed (not (is_compute stage) || within size)
  by_stage Vertex size other same = refl
  by_stage Fragment size other same = refl
  by_stage Compute size other same = ap (λ (s : List ℕ). passed (within s)) (same refl)

  ids_alike : (m : Module) (p : Program) → AsksAlike m p → ids_met m input ≡ meaning.ids_met p input
  ids_alike m p asks = ap (λ n. asked n (local_size m)) asks.stage ∙ by_stage p.stage p.local_size (local_size m) asks.size

pub fit_alike : (m : Module) (p : Program) → IsProgram p → AsksAlike m p → (input : Input) → fits m input ≡ meaning.fits p input
unfolding fits
fit_alike m p program asks input =
    let bounds : all_met (bound_met input) (sorted_bounds (filter_map (bound_of m) (block_variables m))) ≡ all_met (bound_met input) (filter_map bound_in p.blocks) =
    ap (λ l. all_met (bound_met input) (sorted_bounds l)) asks.bounds ∙ ap (all_met (bound_met input)) (bounds_sorted p.blocks program.sorted) in
    let places : all_met (place_met input) (sorted_places (filter_map (place_of m) (value_variables m))) ≡ meaning.values_met p.interfaces input =
    ap (λ l. all_met (place_met input) (sorted_places l)) asks.places ∙ places_alike input p.interfaces (located p.stage p.structs p.interfaces program.typed.interfaces) in
    ap₂ and_met bounds (ap₂ and_met (ap (all_met (push_met input)) asks.pushes) (ap₂ and_met places (ids_alike input m p asks)))
    ∙ sym (met_assoc (all_met (bound_met input) (filter_map bound_in p.blocks)) (all_met (push_met input) (filter_map push_in p.blocks)) (and_met (meaning.values_met p.interfaces input) (meaning.ids_met p input)))
    ∙ ap (λ x. and_met x (and_met (meaning.values_met p.interfaces input) (meaning.ids_met p input))) (sym (blocks_alike input p.blocks program.sorted))
