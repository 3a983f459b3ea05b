-- The module of sound sections breaks none of the rules.
use Rattle.std.proofs.Common.{◌≡◌, ℕ, ◌+◌, Bool, true, false, cond, ◌&&◌, ◌||◌, List, [], None, refl, sym, ap, ◌∙◌, subst, arith, inl, inr}
use Rattle.std.specs.Prelude.{◌==◌, nat_le}
use Rattle.std.proofs.lemmas.Bool.{and_from, eqb-true, le-leb, or_cases, true≢false}
use Rattle.gsl_valid.specs.CallRules as calls
use Rattle.gsl_valid.specs.ConstantRules as constants
use Rattle.gsl_valid.specs.DecorationRules as decorations
use Rattle.gsl_valid.specs.DefinedBeforeUse.{defined_before_use, uses_defined}
use Rattle.gsl_valid.specs.ExtendedRules as extended
use Rattle.gsl_valid.specs.FunctionRules.{function_shape, in_shape, outside}
use Rattle.gsl_valid.specs.GlobalRules as globals
use Rattle.gsl_valid.specs.IdsDefinedOnce.{defines_once, ids_defined_once}
use Rattle.gsl_valid.specs.LayoutRules as layouts
use Rattle.gsl_valid.specs.LimitRules as limits
use Rattle.gsl_valid.specs.LocalityRules as locality
use Rattle.gsl_valid.specs.MemoryRules as memory
use Rattle.gsl_valid.specs.OperandRules as operands
use Rattle.gsl_valid.specs.Placed.{bound_place, count_of_words}
use Rattle.gsl_valid.specs.ReturnRules as returns
use Rattle.gsl_valid.specs.Search.{first_broken, passed, unless, whole, ◌otherwise◌}
use Rattle.gsl_valid.specs.Sections as sections
use Rattle.gsl_valid.specs.Sections.{has_bound, in_section, is_complete, may_come, most_bound}
use Rattle.gsl_valid.specs.StructureRules as structure
use Rattle.gsl_valid.specs.TypeRules as types
use Rattle.gsl_valid.specs.Where.{where_at}
use Rattle.gsl_valid.proofs.Searching.{none_broken, passed_append}
use Rattle.gsl_spv.specs.Finished.{module_of}
use Rattle.gsl_spv.specs.Sections.{Sections}
use Rattle.gsl_fitting_code.proofs.Calls as function_calls
use Rattle.gsl_fitting_code.proofs.Deep as function_limits
use Rattle.gsl_fitting_code.proofs.Near as function_ids
use Rattle.gsl_fitting_code.proofs.Quiet as function_rest
use Rattle.gsl_fitting_code.proofs.Shape as function_shapes
use Rattle.gsl_fitting_code.proofs.Typed as function_types
use Rattle.gsl_fitting_code.proofs.Walk.{Between, functions_end}
use Rattle.gsl_fitting_sections.specs.Sections.{AreSound}
use Rattle.gsl_fitting_sections.proofs.Firsts.{types_pass}
use Rattle.gsl_fitting_sections.proofs.Heights.{limits_pass}
use Rattle.gsl_fitting_sections.proofs.Layouts.{layouts_pass}
use Rattle.gsl_fitting_sections.proofs.Marks.{decorations_pass}
use Rattle.gsl_fitting_sections.proofs.Once.{once_kept}
use Rattle.gsl_fitting_sections.proofs.Parts.{front}
use Rattle.gsl_fitting_sections.proofs.Plain as plain
use Rattle.gsl_fitting_sections.proofs.Whole.{all_pass, is_front, m, stands}

late : (n : ℕ) → may_come n 9 ≡ true → nat_le 4 n ≡ true
late n h = by_case (nat_le 4 n) refl h
  where
    by_case : (b : Bool) → nat_le 4 n ≡ b → cond b (nat_le 5 9 && nat_le n 9) (9 == n + 1 || 9 == 3 && n == 1) ≡ true → nat_le 4 n ≡ true
    by_case true e h = e
    by_case false e h = elim (or_cases (9 == n + 1) _ h) [
      | inl is ↦ (let nine : 9 ≡ n + 1 = eqb-true 9 (n + 1) is in le-leb 4 n (omega (arith, nine)))
      | inr none ↦ absurd (true≢false (sym none))
    ]

module _ (s : Sections) (main : ℕ) (local_size : List ℕ) (sound : AreSound s main local_size) where
  ends : Between (m s main local_size sound) (whole (m s main local_size sound))
  ends =
      subst (Between (m s main local_size sound)) (sym (ap (passed []) (is_front s main local_size sound) ∙ passed_append [] (front s main local_size sound.set) s.functions))
      (functions_end (stands s main local_size sound))

  pub sections_none : sections.sections (module_of s main local_size) ≡ None
  sections_none =
      let n = module_of s main local_size in
      let bound : has_bound n ≡ true = and_from _ _ (le-leb 1 (s.last + 1) (omega arith)) (le-leb (s.last + 1) most_bound sound.bound) in
      let rest = none_broken (in_section n) n (all_pass s main local_size sound (in_section n) (plain.section_passes n) (function_shapes.section_passes n sound.rank)) in
      let complete : is_complete n ≡ true = late (where_at n (whole n)).section ends.section in
      ap (λ b. unless b bound_place otherwise first_broken (in_section n) n otherwise unless (is_complete n) (count_of_words n)) bound
      ∙ ap (λ o. o otherwise unless (is_complete n) (count_of_words n)) rest ∙ ap (λ b. unless b (count_of_words n)) complete

  pub once_none : ids_defined_once (module_of s main local_size) ≡ None
  once_none = let n = module_of s main local_size in none_broken (defines_once n.bound) n (once_kept s main local_size sound.set sound.imports sound.apart)

  pub uses_none : defined_before_use (module_of s main local_size) ≡ None
  uses_none = let n = module_of s main local_size in none_broken (uses_defined n) n (all_pass s main local_size sound (uses_defined n) (plain.uses_pass n) (function_ids.uses_pass (stands s main local_size sound)))

  pub types_none : types.types (module_of s main local_size) ≡ None
  types_none = let n = module_of s main local_size in none_broken (types.type_made n) n (all_pass s main local_size sound (types.type_made n) (types_pass n) (function_rest.types_pass n sound.rank))

  pub constants_none : constants.constants (module_of s main local_size) ≡ None
  constants_none = let n = module_of s main local_size in none_broken (constants.constant_typed n) n (all_pass s main local_size sound (constants.constant_typed n) (plain.constants_pass n) (function_rest.constants_pass n sound.rank))

  pub globals_none : globals.globals (module_of s main local_size) ≡ None
  globals_none = let n = module_of s main local_size in none_broken (globals.global_kept n) n (all_pass s main local_size sound (globals.global_kept n) (plain.globals_pass n) (function_rest.globals_pass n sound.rank))

  pub decorations_none : decorations.decorations (module_of s main local_size) ≡ None
  decorations_none = let n = module_of s main local_size in none_broken (decorations.decorated n) n (all_pass s main local_size sound (decorations.decorated n) (decorations_pass n) (function_rest.decorations_pass n sound.rank))

  pub layouts_none : layouts.layouts (module_of s main local_size) ≡ None
  layouts_none = let n = module_of s main local_size in none_broken (layouts.laid n) n (all_pass s main local_size sound (layouts.laid n) (layouts_pass n) (function_rest.layouts_pass n sound.rank))

  pub shape_none : function_shape (module_of s main local_size) ≡ None
  shape_none =
      let n = module_of s main local_size in
      ap (λ o. o otherwise unless (outside (where_at n (whole n)).standing) (count_of_words n)) (none_broken (in_shape n) n (all_pass s main local_size sound (in_shape n) (plain.shape_passes n) (function_shapes.shape_passes n sound.rank)))
      ∙ ap (λ b. unless b (count_of_words n)) ends.standing

  pub calls_none : calls.calls (module_of s main local_size) ≡ None
  calls_none = let n = module_of s main local_size in none_broken (calls.call_kept n) n (all_pass s main local_size sound (calls.call_kept n) (plain.calls_pass n) (function_calls.calls_pass (stands s main local_size sound)))

  pub structure_none : structure.structure (module_of s main local_size) ≡ None
  structure_none = let n = module_of s main local_size in none_broken (structure.begins_structured n) n (all_pass s main local_size sound (structure.begins_structured n) (plain.structured_passes n) (function_limits.structured_passes n sound.rank))

  pub locality_none : locality.locality (module_of s main local_size) ≡ None
  locality_none = let n = module_of s main local_size in none_broken (locality.uses_near n) n (all_pass s main local_size sound (locality.uses_near n) (plain.near_passes n) (function_ids.near_passes (stands s main local_size sound)))

  pub operands_none : operands.operand_types (module_of s main local_size) ≡ None
  operands_none = let n = module_of s main local_size in none_broken (operands.typed n) n (all_pass s main local_size sound (operands.typed n) (plain.typed_passes n) (function_types.typed_passes n sound.rank))

  pub memory_none : memory.memory (module_of s main local_size) ≡ None
  memory_none = let n = module_of s main local_size in none_broken (memory.memory_kept n) n (all_pass s main local_size sound (memory.memory_kept n) (plain.memory_passes n) (function_types.memory_passes n sound.rank))

  pub returns_none : returns.returns (module_of s main local_size) ≡ None
  returns_none = let n = module_of s main local_size in none_broken (returns.returns_kept n) n (all_pass s main local_size sound (returns.returns_kept n) (plain.returns_pass n) (function_types.returns_pass n sound.rank))

  pub extended_none : extended.extended (module_of s main local_size) ≡ None
  extended_none = let n = module_of s main local_size in none_broken (extended.extended_kept n) n (all_pass s main local_size sound (extended.extended_kept n) (plain.extended_passes n) (function_types.extended_passes n sound.rank))

  pub limits_none : limits.limits (module_of s main local_size) ≡ None
  limits_none = let n = module_of s main local_size in none_broken (limits.within_limits n) n (all_pass s main local_size sound (limits.within_limits n) (limits_pass n) (function_limits.limits_pass n sound.rank))
