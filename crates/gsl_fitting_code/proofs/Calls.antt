-- The calls of functions (V11).
use Rattle.std.proofs.Common.{◌≡◌, ℕ, ◌<◌, Bool, true, false, not, ◌||◌, List, length, refl, sym, ap, ◌∙◌, arith, inl, inr}
use Rattle.std.specs.Prelude.{suc}
use Rattle.std.proofs.lemmas.Bool.{and_from, not_from_false, or_cases, or_left, or_right, true≢false}
use Rattle.gsl_words.specs.declared.module.Instr.{Instr}
use Rattle.gsl_words.specs.declared.module.Module.{Module}
use Rattle.gsl_instr.specs.declared.enumerant.storage_class.TheConstants as storage_class
use Rattle.gsl_valid.specs.CallRules.{call_kept, call_of, has_chain, id_in, is_own, is_pointer, is_reached, leads_to, may_call, most_calls, takes}
use Rattle.gsl_valid.specs.Instruction.{read}
use Rattle.gsl_valid.specs.Kinds as kinds
use Rattle.gsl_valid.specs.Kinds.{Kind, kind, variable_in, variable_is}
use Rattle.gsl_valid.specs.LocalityRules as locality
use Rattle.gsl_valid.specs.Placed.{Code}
use Rattle.gsl_valid.specs.Types.{defined_as, is_variable_of}
use Rattle.gsl_valid.specs.Where.{where_at}
use Rattle.gsl_fitting.specs.Fits.{CallsOne, MayCall, is_lent}
use Rattle.gsl_fitting_code.specs.Kept.{Stands}
use Rattle.gsl_fitting_code.proofs.Near.{all_as}
use Rattle.gsl_fitting_code.proofs.Places.{Plays, Sat}
use Rattle.gsl_fitting_code.proofs.Places.Plays.{starting, parameter, opening, variable, inside, ending}
use Rattle.gsl_fitting_code.proofs.Ranks.{chained, lower, reached}

-- what a function has of its own is a variable or a parameter
local_is : (k : Kind) → locality.is_local k ≡ true → (is_variable_of storage_class.FUNCTION (variable_in k) || takes k) ≡ true
local_is (kinds.Holds v) h = or_left _ _ h
local_is (kinds.Takes type) h = refl
local_is _ h = absurd (true≢false (sym h))

refuse : (b : Bool) → (b ≡ true → ⊥) → b ≡ false
refuse true h = absurd (h refl)
refuse false h = refl

module _ {m : Module} {rank : ℕ → ℕ} {front functions : Code} (s : Stands m rank front functions) where
  not_reached : (function id : ℕ) → rank function < rank id → leads_to m function id ≡ false
  not_reached function id deeper = refuse _ (λ h. let low = reached rank m.instrs (lower s) (length m.instrs) function id h in absurd (omega (arith, low, deeper)))

  not_chained : (id : ℕ) → has_chain m.instrs (suc most_calls) id ≡ false
  not_chained id = refuse _ (λ h. let low = chained rank m.instrs (lower s) (suc most_calls) id h in let most = s.shallow id in absurd (omega (arith, low, most)))

  module _ (before : Code) (i : Instr) (p : Sat m rank before i) where
    lent_own : (id : ℕ) → is_lent m p.frame id ≡ true → is_own m (where_at m before).body id ≡ true
    lent_own id h = elim (or_cases (not (is_pointer m id)) _ h) [
      | inl none ↦ or_left _ _ none
      | inr own ↦ or_right (not (is_pointer m id)) _ (and_from _ _ (p.owns.holds id own) (local_is (kind (defined_as m id)) (p.own id own)))
    ]

    calls_one : (type function : ℕ) (arguments : List ℕ) → MayCall m rank p.frame type function arguments → may_call m (where_at m before) type function arguments ≡ true
    calls_one type function arguments c =
        let holder : is_reached m function (id_in (kind (where_at m before).function)) ≡ false =
        ap (λ d. is_reached m function (id_in (kind d))) p.block.within.holder ∙ ap (is_reached m function) p.id ∙ not_reached function p.frame.id c.deeper in
        and_from _ _ (and_from _ _ (and_from _ _ c.fits (all_as _ _ arguments lent_own c.lent)) c.differ) (not_from_false _ holder)

    calls_kind : (k : Kind) → CallsOne m rank p.frame k → (k ≡ kind (read i)) → call_of m before k ≡ true
    calls_kind (kinds.Calls type function arguments) call is = calls_one type function arguments call
    calls_kind (kinds.Begins type id function_type) call is = or_left _ _ (not_from_false _ (not_chained id))
    calls_kind _ call is = refl

  pub calls_pass : (before : Code) (i : Instr) → Plays m rank before i → call_kept m before i ≡ true
  calls_pass before i (starting p) = ap (λ d. call_of m before (kind d)) p.reads ∙ or_left _ _ (not_from_false _ (not_chained p.id))
  calls_pass before i (parameter p) = ap (λ d. call_of m before (kind d)) p.reads
  calls_pass before i (opening p) = ap (λ d. call_of m before (kind d)) p.reads
  calls_pass before i (variable p) = ap (λ d. call_of m before (kind d)) p.holds.reads
  calls_pass before i (inside p) = calls_kind before i p (kind (read i)) p.sits.calls refl
  calls_pass before i (ending p) = ap (λ d. call_of m before (kind d)) p.reads
