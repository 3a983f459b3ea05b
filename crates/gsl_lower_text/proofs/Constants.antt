-- The constants of a valid module.
use Rattle.std.proofs.Common.{◌≡◌, refl, sym, ap, ◌∙◌, subst, ℕ, ◌<◌, zero, suc, true, [], ◌∷◌, length, Some, None, inl, inr, arith}
use Rattle.std.specs.List.{Contains}
use Rattle.std.proofs.lemmas.Bool.{cond-true, cond-false, or_left, or_right}
use Rattle.gsl_words.specs.declared.module.Instr.{Instr}
use Rattle.gsl_words.specs.declared.module.Module.{Module}
use Rattle.gsl_valid.specs.Ids.{defined, defines, result}
use Rattle.gsl_valid.specs.Instruction.{read}
use Rattle.gsl_valid.specs.Kinds.{Kind, Holds, Value as Fixed, constant_in as fixed_in, constant_is, kind, variable_in}
use Rattle.gsl_valid.specs.Placed.{Code}
use Rattle.gsl_valid.specs.Search.{passed}
use Rattle.gsl_valid.specs.Types.{defined_as}
use Rattle.gsl_valid.proofs.Lookups.{Has}
use Rattle.gsl_machine.specs.Constants.{constant, constant_in, fixed_if}
use Rattle.gsl_machine.specs.Interfaces.{globals, if_there}
use Rattle.gsl_machine.specs.State.{Whole}
use Rattle.gsl_sound_code.specs.Rules.{KeepAll, Keeps}
use Rattle.gsl_sound_code.proofs.Looks.{Kept}
use Rattle.gsl_sound_ids.proofs.Globals.{constant_passes}
use Rattle.gsl_sound_values.proofs.Unfolded.{later_not, passed_whole, result_defines}

-- what a list has at an index is in the code
pub has_at : (code : Code) (i : Instr) → Contains code i → Has code i
has_at [] i (k, less, is) = absurd (let z : k < 0 = less in omega (arith, z))
has_at (j ∷ code) i (zero, less, is) = inl is
has_at (j ∷ code) i (suc k, less, is) = inr (has_at code i (k, (let z : suc k < suc (length code) = less in omega (arith, z)), is))

-- An instruction of a module stands behind these and before this code, and all of it keeps the rules.
pub record At (m : Module) (i : Instr) : Type 0 where
  pub before : Code
  pub code : Code
  pub keeps : Keeps m before i code
  pub later : KeepAll m (i ∷ before) code

at_from : (m : Module) (before code : Code) (i : Instr) → KeepAll m before code → Has code i → At m i
at_from m before [] i keep has = absurd has
at_from m before (j ∷ code) i keep (inl same) = subst (At m) same (record { before = before; code = code; keeps = keep.0; later = keep.1 })
at_from m before (j ∷ code) i keep (inr later) = at_from m (j ∷ before) code i keep.1 later

pub at : (m : Module) (kept : Kept m) (i : Instr) → Contains m.instrs i → At m i
at m kept i contains = at_from m [] m.instrs i kept.all (has_at m.instrs i contains)

-- ---- the value of a constant

constant_stays : (m : Module) (before code : Code) (id : ℕ) → KeepAll m before code → defined before id ≡ true → constant_in m (passed before code) id ≡ constant_in m before id
constant_stays m before [] id keep is = refl
constant_stays m before (i ∷ code) id keep is =
    constant_stays m (i ∷ before) code id keep.1 (or_right (defines i id) _ is) ∙ cond-false (defines i id) _ _ (later_not m before i code id keep.0 is)

pub constant_by : (m : Module) (before code : Code) (id : ℕ) → KeepAll m before code → defined before id ≡ true → constant m id ≡ constant_in m before id
constant_by m before code id keep is = ap (λ c. constant_in m c id) (sym (passed_whole m before code keep)) ∙ constant_stays m before code id keep is

-- it is what its instruction says of those before it
pub constant_unfolds : (m : Module) (i : Instr) (a : At m i) (id : ℕ) → result (read i) ≡ Some id → constant m id ≡ fixed_if m (constant_in m a.before) i (constant_is (read i))
constant_unfolds m i a id gives =
    let here = result_defines i id gives in
    constant_by m (i ∷ a.before) a.code id a.later (or_left _ _ here) ∙ cond-true (defines i id) _ _ here

-- and what it was before its parts were used
pub part_by : (m : Module) (i : Instr) (a : At m i) (id : ℕ) → defined a.before id ≡ true → constant m id ≡ constant_in m a.before id
part_by m i a id is = constant_by m (i ∷ a.before) a.code id a.later (or_right (defines i id) _ is) ∙ cond-false (defines i id) _ _ (later_not m a.before i a.code id a.keeps is)

-- ---- what it stands for

no_variable : (k : Kind) (c : ℕ × Fixed) → fixed_in k ≡ Some c → variable_in k ≡ None
no_variable (Holds v) c is = absurd (cc)
no_variable _ c is = refl

pub constant_stands : (m : Module) (kept : Kept m) (id : ℕ) (c : ℕ × Fixed) → constant_is (defined_as m id) ≡ Some c → globals m id ≡ Some (Whole (constant m id))
constant_stands m kept id c is = constant_passes m kept id (no_variable (kind (defined_as m id)) c is) ∙ ap (λ o. if_there o (Whole (constant m id))) is
