-- How the code of a function opens that the compiler puts: its first instruction, its parameters, the first label and its variables
-- (GLSL 4.50, 6.1; SPIR-V 1.0, 2.4).
use Rattle.std.specs.Prelude.{◌≡◌, ℕ, ◌<◌, ◌≤◌, List, [], ◌∷◌, ◌++◌, map, length, slice_get, Option, Some}
use Rattle.std.specs.List.{Contains}
use Rattle.gsl_instr.specs.declared.op.TheConstants as op
use Rattle.gsl_types.specs.declared.ty.Ty.{Ty}
use Rattle.gsl_words.specs.declared.module.Instr.{Instr}
use Rattle.gsl_tree.specs.declared.unit.Prototype.{Prototype}
use Rattle.gsl_spv.specs.Declarations as d
use Rattle.gsl_spv.specs.Declarations.{defining, instr}
use Rattle.gsl_spv.specs.Growing.{Extends}
use Rattle.gsl_lower_holders.specs.Flow.{Flow, Gives, type_id}
use Rattle.gsl_lower_frames.specs.Standing.{begins}
use Rattle.gsl_lower_law_entered.specs.Modules.{Declared, declares}

-- Ids that were new when they were given: each is behind the last id before and not behind the last id then, and no two of them are the same.
pub record AreNew (low high : ℕ) (at : ℕ → Option ℕ) : Type 0 where
  pub rises : low ≤ high
  pub each : (number id : ℕ) → at number ≡ Some id → (low < id) × (id ≤ high)
  pub apart : (j k id : ℕ) → at j ≡ Some id → at k ≡ Some id → j ≡ k

-- a parameter: the type of its pointer, and its id
pub record Taken : Type 0 where
  pub pointer : ℕ
  pub id : ℕ

abbrev pub takes : Taken → Instr
takes param = instr op.FUNCTION_PARAMETER (param.pointer ∷ param.id ∷ [])

abbrev pub ids_taken : List Taken → List ℕ
ids_taken params = map (λ (param : Taken). param.id) params

abbrev pub ids_declared : List Declared → List ℕ
ids_declared variables = map (λ (v : Declared). v.id) variables

-- The initialiser of a variable is the constant of null of a type, as the place finds that type.
pub record HasZeros (b later : Flow) (t : Ty) (v : Declared) : Type 0 where
  pub at : Flow
  pub then : Flow
  pub type : ℕ
  pub typed : type_id t at ≡ Gives type then
  pub known : at.place.composites ≡ b.place.composites
  pub extends : Extends then.sections later.sections
  pub null : Contains later.sections.globals (defining (d.null type) v.zero)

-- Variables of these types, in their order.
abbrev pub AllHaveZeros : Flow → Flow → List Ty → List Declared → Type 0
AllHaveZeros b later [] [] = Unit {0}
AllHaveZeros b later [] (v ∷ variables) = ⊥
AllHaveZeros b later (t ∷ types) [] = ⊥
AllHaveZeros b later (t ∷ types) (v ∷ variables) = HasZeros b later t v × AllHaveZeros b later types variables

-- From one flow to the next the function of an id has opened: of the head's parameters, and of local variables and holders of these types.
pub record HasOpened (id : ℕ) (head : Prototype) (locals holders : List Ty) (b later : Flow) : Type 0 where
  pub returned : ℕ
  pub function_type : ℕ
  pub params : List Taken
  pub label : ℕ
  pub variables : List Declared
  pub waiting : List Declared
  pub extends : Extends b.sections later.sections
  pub puts : later.sections.functions ≡ b.sections.functions ++ begins id returned 0 function_type ∷ (map takes params ++ instr op.LABEL (label ∷ []) ∷ map declares (variables ++ waiting))
  pub place : later.place ≡ record b.place { label = label; params = ids_taken params; locals = ids_declared variables; holders = ids_declared waiting; used = 0 }
  pub many : length params ≡ length head.params
  pub past_params : ℕ
  pub past_locals : ℕ
  pub params_new : AreNew b.sections.last past_params (slice_get (ids_taken params))
  pub locals_new : AreNew past_params past_locals (slice_get (ids_declared variables))
  pub holders_new : AreNew past_locals later.sections.last (slice_get (ids_declared waiting))
  pub zeros : AllHaveZeros b later locals variables
