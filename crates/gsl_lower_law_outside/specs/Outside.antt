-- The variables of a program that stand outside functions, as the compiler puts them (SPIR-V 1.0, 2.4 and 3.32.8).
use Rattle.std.specs.Prelude.{◌≡◌, ◌≢◌, ◌==◌, ℕ, ◌≤◌, true, false, List, length, slice_get, Option, Some}
use Rattle.std.specs.List.{Contains}
use Rattle.gsl_instr.specs.declared.enumerant.storage_class.TheConstants as storage_class
use Rattle.gsl_tree.specs.declared.expr.StageVar.{StageVar}
use Rattle.gsl_tree.specs.declared.program.Program.{Program}
use Rattle.gsl_valid.specs.Types.{is_block_class}
use Rattle.gsl_spv.specs.Declarations as d
use Rattle.gsl_spv.specs.Declarations.{defining}
use Rattle.gsl_spv.specs.Growing.{Extends}
use Rattle.gsl_spv.specs.Sections.{Sections}
use Rattle.gsl_lower_holders.specs.declared.place.FlowPlace.{FlowPlace}
use Rattle.gsl_lower_expr.specs.Parts.{stage_number}
use Rattle.gsl_lower_needs.specs.declared.need.Need.{Need}
use Rattle.gsl_lower_flow.specs.Programs.{uses}
use Rattle.gsl_lower_follows.specs.Frames.{Name, id_if, id_of}
use Rattle.gsl_lower_law_opening.specs.OfLawReturns.{is_shared}
use Rattle.gsl_lower_law_opening.specs.Opening.{AreNew}

-- An id is that of a variable outside functions which is no block.
pub record IsOuter (s : Sections) (id : ℕ) : Type 0 where
  pub pointer : ℕ
  pub class : ℕ
  pub init : Option ℕ
  pub stands : Contains s.globals (defining (d.variable pointer class init) id)
  pub no_block : is_block_class class ≡ false
  pub no_local : (class == storage_class.FUNCTION) ≡ false

-- What stands outside functions has been put: an id for each head, and variables under new ids, each behind those before.
pub record HasOuter (p : Program) (asked : List Need) (s : Sections) (place : FlowPlace) (after : Sections) : Type 0 where
  pub extends : Extends s after
  pub heads : length place.functions ≡ length p.prototypes
  pub globals : length place.globals ≡ length p.globals
  pub interfaces : length place.interfaces ≡ length p.interfaces
  pub before : ℕ
  pub past_globals : ℕ
  pub past_interfaces : ℕ
  pub behind : s.last ≤ before
  pub globals_new : AreNew before past_globals (slice_get place.globals)
  pub interfaces_new : AreNew past_globals past_interfaces (slice_get place.interfaces)
  pub stages_new : AreNew past_interfaces after.last (λ number. id_if (slice_get place.stage_vars number))
  pub stand : (name : Name) (id : ℕ) → is_shared name ≡ true → id_of place name ≡ Some id → IsOuter after id
  -- a built-in variable that is asked for has an id
  pub used : (var : StageVar) → uses asked var ≡ true → (id : ℕ) × (slice_get place.stage_vars (stage_number var) ≡ Some id) × (id ≢ 0)
