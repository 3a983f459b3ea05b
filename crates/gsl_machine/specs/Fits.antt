-- Which inputs fit a module, and the first refusal of any other.
use Rattle.std.specs.Prelude.{ℕ, Bool, nat_lt, ◌==◌, ◌&&◌, ◌||◌, if◌then◌else◌, List, [], ◌∷◌, Option, Some, None, unwrap_or, Ok, Err}
use Rattle.std.specs.List.{filter_map}
use Rattle.gsl_base.specs.declared.input.Input.{Input}
use Rattle.gsl_base.specs.declared.input.InputRefusal.TheVariants.{NoBuffer, TooShort, NoPush, PushShort, NoValue, BadIds}
use Rattle.gsl_instr.specs.declared.enumerant.decoration.TheConstants as decoration
use Rattle.gsl_instr.specs.declared.enumerant.execution_model.TheConstants as execution_model
use Rattle.gsl_instr.specs.declared.enumerant.storage_class.TheConstants as storage_class
use Rattle.gsl_words.specs.declared.module.Module.{Module}
use Rattle.gsl_views.specs.Buffers.{bytes_at}
use Rattle.gsl_valid.specs.DecorationRules.{pointee}
use Rattle.gsl_valid.specs.Decorations.{number_on}
use Rattle.gsl_valid.specs.EntryRules.{model_of}
use Rattle.gsl_valid.specs.Kinds.{Variable}
use Rattle.gsl_valid.specs.LayoutRules.{need}
use Rattle.gsl_valid.specs.Search.{whole}
use Rattle.gsl_valid.specs.Types.{lanes_of}
use Rattle.gsl_inputs.specs.Demands.{Met, all_below, all_met, and_met, bytes_met, has_words}
use Rattle.gsl_inputs.specs.Given.{words_at}
use Rattle.gsl_machine.specs.Interfaces.{block_variables, local_size, value_variables}
use Rattle.gsl_machine.specs.Memory.{size_of}

-- ---- what a module asks of an input

-- The set and binding of a block's variable, and how many bytes its buffer must have.
pub record Bound : Type 0 where
  pub set : ℕ
  pub binding : ℕ
  pub need : ℕ

-- An input's location, and how many words it has.
pub record Place : Type 0 where
  pub location : ℕ
  pub count : ℕ

-- the bytes that the type needs to which a variable points
abbrev pub need_of : Module → Variable → ℕ
need_of m v = need m (whole m) (pointee m v.type)

abbrev pub bound_of : Module → Variable → Option Bound
bound_of m v =
    if v.class == storage_class.PUSH_CONSTANT then None
    else Some (record { set = unwrap_or (number_on m decoration.DESCRIPTOR_SET v.id) 0; binding = unwrap_or (number_on m decoration.BINDING v.id) 0; need = need_of m v })

abbrev pub push_of : Module → Variable → Option ℕ
push_of m v = if v.class == storage_class.PUSH_CONSTANT then Some (need_of m v) else None

abbrev pub place_at : Module → Variable → Option ℕ → Option Place
place_at m v None = None
place_at m v (Some location) = Some (record { location = location; count = size_of (lanes_of m (pointee m v.type)) })

abbrev pub place_of : Module → Variable → Option Place
place_of m v = if v.class == storage_class.INPUT then place_at m v (number_on m decoration.LOCATION v.id) else None

-- ---- in ascending order

abbrev pub stands_before : Bound → Bound → Bool
stands_before a b = nat_lt a.set b.set || a.set == b.set && nat_lt a.binding b.binding

abbrev pub put_bound : Bound → List Bound → List Bound
put_bound b [] = b ∷ []
put_bound b (next ∷ bounds) = if stands_before b next then b ∷ next ∷ bounds else next ∷ put_bound b bounds

-- by set and binding
abbrev pub sorted_bounds : List Bound → List Bound
sorted_bounds [] = []
sorted_bounds (b ∷ bounds) = put_bound b (sorted_bounds bounds)

abbrev pub put_place : Place → List Place → List Place
put_place p [] = p ∷ []
put_place p (next ∷ places) = if nat_lt p.location next.location then p ∷ next ∷ places else next ∷ put_place p places

-- by location
abbrev pub sorted_places : List Place → List Place
sorted_places [] = []
sorted_places (p ∷ places) = put_place p (sorted_places places)

-- ---- the demands

abbrev pub bound_met : Input → Bound → Met
bound_met input b = bytes_met (NoBuffer b.set b.binding) (TooShort b.set b.binding) b.need (bytes_at input.buffers b.set b.binding)

abbrev pub push_met : Input → ℕ → Met
push_met input need = bytes_met NoPush PushShort need input.push

abbrev pub place_met : Input → Place → Met
place_met input p = if has_words p.count (words_at input.ins p.location) then Ok tt else Err (NoValue p.location)

-- the invocation is one of its work group, and the work group one of those that are run
abbrev pub ids_met : Module → Input → Met
ids_met m input =
    if model_of m.instrs == execution_model.GL_COMPUTE
    then (if all_below input.local (local_size m) && all_below input.group input.groups then Ok tt else Err BadIds)
    else Ok tt

-- the answer of an input: Ok, or the first refusal
unfoldable pub fits : Module → Input → Met
fits m input =
    and_met (all_met (bound_met input) (sorted_bounds (filter_map (bound_of m) (block_variables m))))
    (and_met (all_met (push_met input) (filter_map (push_of m) (block_variables m)))
    (and_met (all_met (place_met input) (sorted_places (filter_map (place_of m) (value_variables m)))) (ids_met m input)))
