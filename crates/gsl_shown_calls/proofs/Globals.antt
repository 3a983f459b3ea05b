-- The module's variables and its constants have no slots.
use Rattle.std.proofs.Common.{◌≡◌, ap, ◌∙◌, subst, Bool, true, false, if◌then◌else◌, List, [], ◌∷◌, Option, Some, None}
use Rattle.std.specs.List.{AllByRecursion}
use Rattle.std.proofs.lemmas.Option.{none-some}
use Rattle.gsl_words.specs.declared.module.Module.{Module}
use Rattle.gsl_valid.specs.Instruction.{read}
use Rattle.gsl_valid.specs.Kinds.{Variable, kind, variable_is}
use Rattle.gsl_valid.specs.Placed.{Code}
use Rattle.gsl_valid.specs.Types.{before_functions, function_begins, is_block_class, outside_of}
use Rattle.gsl_machine.specs.Interfaces.{all_variables, block_variables, constant_held, globals, holds_block, holds_value, value_variables}
use Rattle.gsl_machine.specs.Functions.{point_each}
use Rattle.gsl_sound_code.specs.Rules.{KeepAll}
use Rattle.gsl_sound_code.proofs.Looks.{Kept}
use Rattle.gsl_sound_ids.proofs.Variables.{variable_result}
use Rattle.gsl_sound_types.proofs.Memories.{variable_kind}
use Rattle.gsl_shown_calls.proofs.Putting.{IsVariable, NoSlots, gathered, no_blocks, no_constants, no_points}

module _ (m : Module) where
  outer : (before code : Code) → KeepAll m before code → AllByRecursion (λ i. (v : Variable) → variable_is (read i) ≡ Some v → IsVariable m v) (before_functions code)
  outer before [] keep = tt
  outer before (i ∷ code) keep = by_test (function_begins (read i)) (outer (i ∷ before) code keep.1)
    where
      by_test : (b : Bool) → AllByRecursion (λ i. (v : Variable) → variable_is (read i) ≡ Some v → IsVariable m v) (before_functions code)
          → AllByRecursion (λ i. (v : Variable) → variable_is (read i) ≡ Some v → IsVariable m v) (if b then [] else i ∷ before_functions code)
      by_test true later = tt
      by_test false later = (λ v is. ap kind (keep.0.own v.id (variable_result (read i) v is)) ∙ variable_kind (kind (read i)) v is, later)

module _ (m : Module) (kept : Kept m) where
  all_are : AllByRecursion (IsVariable m) (all_variables m)
  all_are = gathered (λ i. variable_is (read i)) (IsVariable m) (outside_of m) (outer m [] m.instrs kept.all)

  value_is : (w v : Variable) → holds_value w ≡ Some v → IsVariable m w → IsVariable m v
  value_is w v is holds = by_class (is_block_class w.class) is
    where
      by_class : (b : Bool) → (if b then None else Some w) ≡ Some v → IsVariable m v
      by_class true is = absurd (none-some v is)
      by_class false is = let same : w ≡ v = cc in subst (IsVariable m) same holds

  block_is : (w v : Variable) → holds_block w ≡ Some v → IsVariable m w → IsVariable m v
  block_is w v is holds = by_class (is_block_class w.class) is
    where
      by_class : (b : Bool) → (if b then Some w else None) ≡ Some v → IsVariable m v
      by_class true is = let same : w ≡ v = cc in subst (IsVariable m) same holds
      by_class false is = absurd (none-some v is)

  chosen : (choose : Variable → Option Variable) (vs : List Variable) → ((w v : Variable) → choose w ≡ Some v → IsVariable m w → IsVariable m v) → AllByRecursion (IsVariable m) vs → AllByRecursion (λ w. (v : Variable) → choose w ≡ Some v → IsVariable m v) vs
  chosen choose [] each all = tt
  chosen choose (w ∷ vs) each all = (λ v is. each w v is all.0, chosen choose vs each all.1)

  pub no_globals : NoSlots m (globals m)
  no_globals =
      no_blocks m (point_each (constant_held m) 0 (value_variables m)) (block_variables m) (gathered holds_block (IsVariable m) (all_variables m) (chosen holds_block (all_variables m) block_is all_are))
      (no_points m (constant_held m) 0 (value_variables m) (gathered holds_value (IsVariable m) (all_variables m) (chosen holds_value (all_variables m) value_is all_are)) (no_constants m))
