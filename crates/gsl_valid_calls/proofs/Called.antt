-- Where the calls of a function stand: behind the instruction that defines its id.
use Rattle.std.proofs.Common.{◌≡◌, ℕ, ◌+◌, Bool, true, false, true≢false, cond, not, ◌&&◌, ◌||◌, List, [], ◌∷◌, drop, Option, Some, None, refl, ap, sym, ◌∙◌}
use Rattle.std.specs.Prelude.{nat_lt, nat_le, nat_eq}
use Rattle.std.proofs.lemmas.Bool.{and_parts, or_right, not-true, eqb-true}
use Rattle.gsl_words.specs.declared.module.Instr.{Instr}
use Rattle.gsl_words.specs.declared.module.Module.{Module}
use Rattle.gsl_valid.specs.Instruction.{read}
use Rattle.gsl_valid.specs.Ids.{result, is_id, defines, defined, definition}
use Rattle.gsl_valid.specs.IdsDefinedOnce.{defines_once, is_new, ids_defined_once}
use Rattle.gsl_valid.specs.Kinds.{kind}
use Rattle.gsl_valid.specs.Placed.{Code}
use Rattle.gsl_valid.specs.Search.{Passes}
use Rattle.gsl_valid.specs.Types.{begins, function_begins, defined_as}
use Rattle.gsl_valid.specs.CallRules.{called, called_by}
use Rattle.gsl_valid.proofs.Searching.{each_passes}
use Rattle.gsl_ids.specs.Table.{number_from, number_of}
use Rattle.gsl_ids.proofs.Bodies.{never_again}
use Rattle.gsl_valid_calls.proofs.Rows.{one_less}

-- what is not defined calls nothing
none_called : (code : Code) (id : ℕ) → defined code id ≡ false → called_by code id ≡ []
none_called [] id none = refl
none_called (i ∷ code) id none = by_cases (defines i id) (function_begins (read i)) none (none_called code id)
  where
    by_cases : (b f : Bool) → (b || defined code id) ≡ false → (defined code id ≡ false → called_by code id ≡ []) → cond (f && b) (called code) (called_by code id) ≡ []
    by_cases true f e later = absurd (true≢false e)
    by_cases false true e later = later e
    by_cases false false e later = later e

called_from : (bound at : ℕ) (before code whole : Code) (id : ℕ) → Passes (defines_once bound) before code → drop at whole ≡ code →
    called_by code id ≡ cond (begins (kind (definition code id))) (called (drop (number_from at code id) whole)) []
unfolding number_from
called_from bound at before [] whole id all e = refl
called_from bound at before (i ∷ code) whole id all e =
    by_cases (defines i id) refl (called_from bound (at + 1) (i ∷ before) code whole id all.1 cut)
  where
    cut : drop (at + 1) whole ≡ code
    cut = one_less whole code at i e

    on_function : (f : Bool) → called_by code id ≡ [] → cond (f && true) (called code) (called_by code id) ≡ cond f (called (drop (at + 1) whole)) []
    on_function true none = ap called (sym cut)
    on_function false none = none

    off : (f : Bool) → cond (f && false) (called code) (called_by code id) ≡ called_by code id
    off true = refl
    off false = refl

    by_cases : (b : Bool) → defines i id ≡ b → called_by code id ≡ cond (begins (kind (definition code id))) (called (drop (number_from (at + 1) code id) whole)) [] →
        cond (function_begins (read i) && b) (called code) (called_by code id)
        ≡ cond (begins (kind (cond b (read i) (definition code id)))) (called (drop (cond b (at + 1) (number_from (at + 1) code id)) whole)) []
    by_cases true is later =
        on_function (function_begins (read i))
        (none_called code id (never_again bound (i ∷ before) code id all.1 (ap (λ b. b || defined before id) is)))
    by_cases false is later = off (function_begins (read i)) ∙ later

-- The calls of a function are those behind the instruction of its number.
pub called_is : (m : Module) (id : ℕ) → ids_defined_once m ≡ None →
    called_by m.instrs id ≡ cond (begins (kind (defined_as m id))) (called (drop (number_of m id) m.instrs)) []
called_is m id once = called_from m.bound 0 [] m.instrs m.instrs id (each_passes (defines_once m.bound) m once) refl
