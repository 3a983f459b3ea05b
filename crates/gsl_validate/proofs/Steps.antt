-- The rules one after the other.
use Rattle.std.proofs.Common.{◌≡◌, ◌∙◌, ℕ, Option, Some, None, Result, Ok, Err, refl, ap, sym, subst, length, ◌+◌, ◌^◌, ◌<◌, ◌≤◌, List, [], ◌∷◌, arith}
use Rattle.std.specs.Prelude.{IfOk}
use Rattle.gsl_base.specs.declared.memory.Memory.{Memory as WantOfMemory}
use Rattle.gsl_words.specs.Instructions.{HasFile}
use Rattle.gsl_words.specs.declared.module.Module.{Module}
use Rattle.gsl_words.specs.declared.module.Instr.{Instr}
use Rattle.gsl_valid.specs.Placed.{words_from, count_of_words, header_size}
use Rattle.gsl_valid.specs.Valid.{broken_or, broken, Valid}
use Rattle.gsl_valid.specs.Sections.{sections}
use Rattle.gsl_valid.specs.IdsDefinedOnce.{ids_defined_once}
use Rattle.gsl_valid.specs.DefinedBeforeUse.{defined_before_use}
use Rattle.gsl_valid.specs.TypeRules.{types}
use Rattle.gsl_valid.specs.ConstantRules.{constants}
use Rattle.gsl_valid.specs.GlobalRules.{globals}
use Rattle.gsl_valid.specs.DecorationRules.{decorations}
use Rattle.gsl_valid.specs.LayoutRules.{layouts}
use Rattle.gsl_valid.specs.EntryRules.{entry}
use Rattle.gsl_valid.specs.FunctionRules.{function_shape}
use Rattle.gsl_valid.specs.CallRules.{calls}
use Rattle.gsl_valid.specs.StructureRules.{structure}
use Rattle.gsl_valid.specs.LocalityRules.{locality}
use Rattle.gsl_valid.specs.OperandRules.{operand_types}
use Rattle.gsl_valid.specs.MemoryRules.{memory}
use Rattle.gsl_valid.specs.ReturnRules.{returns}
use Rattle.gsl_valid.specs.ExtendedRules.{extended}
use Rattle.gsl_valid.specs.LimitRules.{limits}
use Rattle.gsl_validate.specs.declared.judging.Invalid.{Invalid}
use Rattle.gsl_validate.specs.declared.judging.Invalid.TheVariants.{Broken, Memory}
use Rattle.gsl_validate.specs.Rest.{from_1, from_3, from_5, from_7, from_10, from_14}

-- a rule that is broken is told, and one that is kept leaves the later ones
pub told : (number : ℕ) {at : ℕ} {place : Option ℕ} (later : Option (ℕ × ℕ)) → Some at ≡ place → Some (number, at) ≡ broken_or later number place
told number later is = ap (broken_or later number) is

pub kept : (number : ℕ) {place : Option ℕ} (later : Option (ℕ × ℕ)) → None ≡ place → later ≡ broken_or later number place
kept number later is = ap (broken_or later number) is

pub is_1 : (m : Module) → from_1 m ≡ broken m
unfolding from_1
is_1 m = refl

pub steps_1 : (m : Module) → broken_or (broken_or (from_3 m) 2 (ids_defined_once m)) 1 (sections m) ≡ from_1 m
unfolding from_1 from_3
steps_1 m = refl

pub steps_3 : (m : Module) → broken_or (broken_or (from_5 m) 4 (types m)) 3 (defined_before_use m) ≡ from_3 m
unfolding from_3 from_5
steps_3 m = refl

pub steps_5 : (m : Module) → broken_or (broken_or (from_7 m) 6 (globals m)) 5 (constants m) ≡ from_5 m
unfolding from_5 from_7
steps_5 m = refl

pub steps_7 : (m : Module) → broken_or (broken_or (broken_or (from_10 m) 9 (entry m)) 8 (layouts m)) 7 (decorations m) ≡ from_7 m
unfolding from_7 from_10
steps_7 m = refl

pub steps_10 : (m : Module) → broken_or (broken_or (broken_or (broken_or (from_14 m) 13 (locality m)) 12 (structure m)) 11 (calls m)) 10 (function_shape m) ≡ from_10 m
unfolding from_10 from_14
steps_10 m = refl

pub steps_14 : (m : Module)
    → broken_or (broken_or (broken_or (broken_or (broken_or None 18 (limits m)) 17 (extended m)) 16 (returns m)) 15 (memory m)) 14 (operand_types m) ≡ from_14 m
unfolding from_14
steps_14 m = refl

-- what is answered of the later rules is answered of all
pub answered : (r : Result (Option (ℕ × ℕ)) WantOfMemory) {later all : Option (ℕ × ℕ)} → later ≡ all → IfOk r (λ b. b ≡ later) → IfOk r (λ b. b ≡ all)
answered r is given = subst (λ all. IfOk r (λ b. b ≡ all)) is given

-- the rule and the place of an answer that a module is broken
abbrev pair_in : Result Module Invalid → ℕ × ℕ
pair_in (Ok m) = (0, 0)
pair_in (Err Memory) = (0, 0)
pair_in (Err (Broken rule at)) = (rule, at)

pub broken_is : (m : Module) (rule at r a : ℕ) → Some (rule, at) ≡ from_1 m → ◌≡◌ {A = Result Module Invalid} (Err (Broken rule at)) (Err (Broken r a)) → broken m ≡ Some (r, a)
broken_is m rule at r a is e = sym (is_1 m) ∙ sym is ∙ ap (λ (x : Result Module Invalid). Some (pair_in x)) e

pub valid_is : (m : Module) → HasFile m → None ≡ from_1 m → Valid m
valid_is m file none = record { file = file; kept = sym (is_1 m) ∙ sym none }

-- a module has no more instructions than words
few_from : (at : ℕ) (code : List Instr) → at + length code ≤ words_from at code
few_from at [] = omega arith
few_from at (i ∷ code) = omega (arith, few_from (at + (1 + length i.args)) code)

pub few : (m : Module) → count_of_words m < 2 ^ 32 → length m.instrs < 2 ^ 32
few m words = omega (arith, few_from header_size m.instrs, words)
