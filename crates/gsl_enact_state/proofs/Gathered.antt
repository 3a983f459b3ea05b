-- The variables outside functions.
use Rattle.std.proofs.Common.{◌≡◌, refl, sym, ap, ◌∙◌, ℕ, ◌≤◌, length, drop, Bool, true, false, if◌then◌else◌, List, [], ◌∷◌, ◌++◌, Option, Some, None, append_assoc, append-nil}
use Rattle.std.proofs.lemmas.List.{drop_all}
use Rattle.std.specs.List.{cons_option, filter_map}
use Rattle.gsl_words.specs.declared.module.Module.{Module}
use Rattle.gsl_valid.specs.Instruction.{read}
use Rattle.gsl_valid.specs.Kinds.{Variable, kind, variable_in, variable_is}
use Rattle.gsl_valid.specs.Placed.{Code}
use Rattle.gsl_valid.specs.Types.{before_functions, begins}
use Rattle.gsl_machine.specs.Functions.{point_each}
use Rattle.gsl_machine.specs.Interfaces.{block_variables, constant_held, globals, point_blocks, value_variables}
use Rattle.gsl_machine.specs.State.{Ids}
use Rattle.gsl_enact_state.specs.declared.state.Given.{Given}
use Rattle.gsl_enact_state.specs.Seen.{given}
use Rattle.gsl_enact_state.specs.Variables.{holders, holds, holds_if, one_if, variables_among}

pub joined : (xs : List Variable) (v : Option Variable) (later : List Variable) → xs ++ cons_option v later ≡ (xs ++ one_if v) ++ later
joined xs None later = ap (λ l. l ++ later) (sym (append-nil xs))
joined xs (Some v) later = sym (append_assoc xs (v ∷ []) later)

-- what is asked of all of them is asked of each
each : (blocks : Bool) (v : Option Variable) (all : List Variable) → filter_map (holds blocks) (cons_option v all) ≡ cons_option (holds_if blocks v) (filter_map (holds blocks) all)
each blocks None all = refl
each blocks (Some v) all = refl

holders_are : (blocks : Bool) (code : Code) → holders blocks code ≡ filter_map (holds blocks) (filter_map (λ i. variable_is (read i)) (before_functions code))
unfolding holders
holders_are blocks [] = refl
holders_are blocks (i ∷ code) = by_test (begins (kind (read i))) (holders_are blocks code)
  where
    by_test : (b : Bool) → holders blocks code ≡ filter_map (holds blocks) (filter_map (λ i. variable_is (read i)) (before_functions code))
        → (if b then [] else cons_option (holds_if blocks (variable_in (kind (read i)))) (holders blocks code))
        ≡ filter_map (holds blocks) (filter_map (λ i. variable_is (read i)) (if b then [] else i ∷ before_functions code))
    by_test true later = refl
    by_test false later = ap (cons_option (holds_if blocks (variable_in (kind (read i))))) later ∙ sym (each blocks (variable_in (kind (read i))) (filter_map (λ i. variable_is (read i)) (before_functions code)))

pub gathered : (blocks : Bool) (m : Module) → holders blocks m.instrs ≡ variables_among blocks m
gathered true m = holders_are true m.instrs
gathered false m = holders_are false m.instrs

pub none_left : (xs whole : List Variable) (blocks : Bool) (code : Code) (at : ℕ) → length code ≤ at → xs ++ holders blocks (drop at code) ≡ whole → xs ≡ whole
unfolding holders
none_left xs whole blocks code at past so_far = sym (ap (λ l. xs ++ holders blocks l) (drop_all at code past) ∙ append-nil xs) ∙ so_far

pub globals_are : (m : Module) (none some all : List Given) (values blocks : List Variable) → none ≡ [] → values ≡ value_variables m → blocks ≡ block_variables m
    → ((ids : Ids) → given ids some ≡ point_each (given ids none) 0 values) → ((ids : Ids) → given ids all ≡ point_blocks m (given ids some) blocks) → given (constant_held m) all ≡ globals m
unfolding given
globals_are m none some all values blocks empty are_values are_blocks to_values to_blocks =
    to_blocks (constant_held m) ∙ ap (λ ids. point_blocks m ids blocks) (to_values (constant_held m) ∙ ap (λ l. point_each (given (constant_held m) l) 0 values) empty ∙ ap (point_each (constant_held m) 0) are_values)
    ∙ ap (point_blocks m (point_each (constant_held m) 0 (value_variables m))) are_blocks
