-- What inputs miss, as passes over the code from its end to its front find it.
use Rattle.std.specs.Prelude.{ℕ, ◌^◌, Bool, nat_lt, ◌==◌, ◌&&◌, ◌||◌, if◌then◌else◌, min, List, [], ◌∷◌, Option, Some, None, unwrap_or, Ok, Err}
use Rattle.gsl_base.specs.declared.input.Input.{Input}
use Rattle.gsl_base.specs.declared.input.InputRefusal.TheVariants.{NoValue}
use Rattle.gsl_instr.specs.declared.enumerant.decoration.TheConstants as decoration
use Rattle.gsl_instr.specs.declared.enumerant.execution_mode.TheConstants as execution_mode
use Rattle.gsl_words.specs.declared.module.Module.{Module}
use Rattle.gsl_valid.specs.Instruction.{read}
use Rattle.gsl_valid.specs.Kinds.{Kind, Variable, kind, variable_in}
use Rattle.gsl_valid.specs.Decorations.{number_on}
use Rattle.gsl_valid.specs.EntryRules.{Mode, mode_in, model_of}
use Rattle.gsl_valid.specs.Placed.{Code}
use Rattle.gsl_valid.specs.Types.{begins, is_block_class}
use Rattle.gsl_kinds.specs.declared.kind.Variable.{Variable as Held}
use Rattle.gsl_kinds.specs.Seen.{variable_seen}
use Rattle.gsl_inputs.specs.Demands.{Met, and_met, has_words}
use Rattle.gsl_inputs.specs.Given.{words_at}
use Rattle.gsl_machine.specs.Fits.{Bound, Place, bound_met, bound_of, ids_met, need_of, place_of, push_met, push_of}
use Rattle.gsl_enact_fits.specs.declared.missed.Missed.{Missed}

abbrev pub variable_if_seen : Option Held → Option Variable
variable_if_seen None = None
variable_if_seen (Some v) = Some (variable_seen v)

-- what is told of a size
abbrev pub told : ℕ → ℕ
told size = min (2 ^ 64) size

-- ---- buffers, the first by set and binding

abbrev pub buffer_of : Module → Variable → Bound
buffer_of m v = record { set = unwrap_or (number_on m decoration.DESCRIPTOR_SET v.id) 0; binding = unwrap_or (number_on m decoration.BINDING v.id) 0; need = need_of m v }

abbrev pub missed_at : ℕ → ℕ → Met → Option Missed
missed_at set binding (Ok x) = None
missed_at set binding (Err refusal) = Some (record { set = set; binding = binding; refusal = refusal })

abbrev pub missed_by : Bound → Met → Option Missed
missed_by b met = missed_at b.set b.binding met

abbrev pub stands : Missed → Missed → Bool
stands a b = nat_lt a.set b.set || a.set == b.set && nat_lt a.binding b.binding

abbrev pub earlier : Option Missed → Option Missed → Option Missed
earlier None later = later
earlier (Some a) None = Some a
earlier (Some a) (Some b) = if stands a b then Some a else Some b

abbrev pub bound_missed_if : Input → Option Bound → Option Missed
bound_missed_if input None = None
bound_missed_if input (Some b) = missed_by b (bound_met input b)

-- of a variable with a buffer
abbrev pub buffer_missed : Module → Input → Variable → Option Missed
buffer_missed m input v = missed_by (buffer_of m v) (bound_met input (buffer_of m v))

abbrev pub bound_missed : Module → Input → Option Variable → Option Missed
bound_missed m input None = None
bound_missed m input (Some v) = if is_block_class v.class then bound_missed_if input (bound_of m v) else None

unfoldable pub bounds_step : Module → Input → Kind → Option Missed → Option Missed
bounds_step m input k later = if begins k then None else earlier (bound_missed m input (variable_in k)) later

unfoldable pub bounds_missed : Module → Input → Code → Option Missed
bounds_missed m input [] = None
bounds_missed m input (i ∷ code) = bounds_step m input (kind (read i)) (bounds_missed m input code)

abbrev pub refusal_in : Option Missed → Met
refusal_in None = Ok tt
refusal_in (Some missed) = Err missed.refusal

-- ---- push constants

abbrev pub push_met_if : Input → Option ℕ → Met
push_met_if input None = Ok tt
push_met_if input (Some need) = push_met input need

abbrev pub push_met_by : Module → Input → Option Variable → Met
push_met_by m input None = Ok tt
push_met_by m input (Some v) = if is_block_class v.class then push_met_if input (push_of m v) else Ok tt

unfoldable pub pushes_step : Module → Input → Kind → Met → Met
pushes_step m input k later = if begins k then Ok tt else and_met (push_met_by m input (variable_in k)) later

unfoldable pub pushes_met : Module → Input → Code → Met
pushes_met m input [] = Ok tt
pushes_met m input (i ∷ code) = pushes_step m input (kind (read i)) (pushes_met m input code)

-- ---- inputs, the lowest location

abbrev pub lowest : Option ℕ → Option ℕ → Option ℕ
lowest None later = later
lowest (Some a) None = Some a
lowest (Some a) (Some b) = if nat_lt a b then Some a else Some b

abbrev pub place_missed_if : Input → Option Place → Option ℕ
place_missed_if input None = None
place_missed_if input (Some p) = if has_words p.count (words_at input.ins p.location) then None else Some p.location

abbrev pub place_missed : Module → Input → Option Variable → Option ℕ
place_missed m input None = None
place_missed m input (Some v) = if is_block_class v.class then None else place_missed_if input (place_of m v)

unfoldable pub places_step : Module → Input → Kind → Option ℕ → Option ℕ
places_step m input k later = if begins k then None else lowest (place_missed m input (variable_in k)) later

unfoldable pub places_missed : Module → Input → Code → Option ℕ
places_missed m input [] = None
places_missed m input (i ∷ code) = places_step m input (kind (read i)) (places_missed m input code)

abbrev pub refusal_at : Option ℕ → Met
refusal_at None = Ok tt
refusal_at (Some location) = Err (NoValue location)

-- ---- the stage and the size of a work group

unfoldable pub model_from : Code → ℕ
model_from code = model_of code

abbrev pub size_by : Option Mode → Option (List ℕ) → Option (List ℕ)
size_by None later = later
size_by (Some mode) later = if mode.mode == execution_mode.LOCAL_SIZE then Some mode.parts else later

unfoldable pub size_step : Kind → Option (List ℕ) → Option (List ℕ)
size_step k later = size_by (mode_in k) later

unfoldable pub size_from : Code → Option (List ℕ)
size_from [] = None
size_from (i ∷ code) = size_step (kind (read i)) (size_from code)

abbrev pub size_or : Option (List ℕ) → List ℕ
size_or None = 1 ∷ 1 ∷ 1 ∷ []
size_or (Some parts) = parts

-- ---- all of them

unfoldable pub all_passed : Module → Input → Met
all_passed m input =
    and_met (refusal_in (bounds_missed m input m.instrs)) (and_met (pushes_met m input m.instrs) (and_met (refusal_at (places_missed m input m.instrs)) (ids_met m input)))
