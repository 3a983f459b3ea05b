-- What is judged of the bytes of a module's file: that there is one verdict, and what the steps tell of it.
use Rattle.std.proofs.Common.{◌≡◌, ℕ, ◌+◌, ◌^◌, ◌<◌, ◌≤◌, List, [], ◌∷◌, length, Option, Some, None, Result, Ok, Err, refl, ap, sym, subst, ◌∙◌, arith, inl, inr, ◌⊎◌, length-append, ◌*◌}
use Rattle.std.proofs.lemmas.Bool.{cases_lt}
use Rattle.std.specs.Prelude.{option_map, IfOk, MatchResult}
use Rattle.std.specs.List.{flat_map}
use Rattle.std.specs.Int.{w32, to_le_bytes}
use Rattle.gsl_base.specs.Ranges.{AreBytes}
use Rattle.gsl_words.specs.declared.fault.WordFault.{WordFault}
use Rattle.gsl_words.specs.declared.fault.WordFault.TheVariants.{NotWhole}
use Rattle.gsl_words.specs.declared.module.Instr.{Instr}
use Rattle.gsl_words.specs.declared.module.Module.{Module}
use Rattle.gsl_words.specs.Bytes.{bytes_of, instr_words, module_words}
use Rattle.gsl_words.specs.Faults.{Judges, HasFault}
use Rattle.gsl_words.specs.Instructions.{HasFile}
use Rattle.gsl_words.proofs.Judgements as bytes
use Rattle.gsl_valid.specs.IdsDefinedOnce.{ids_defined_once}
use Rattle.gsl_valid.specs.Placed.{words_from, count_of_words, header_size}
use Rattle.gsl_valid.specs.Valid.{Valid, KeepsEach, broken}
use Rattle.gsl_valid.proofs.Rules.{valid_each}
use Rattle.gsl_exec.specs.declared.stop.Stop.{Stop}
use Rattle.gsl_exec.specs.declared.stop.Stop.TheVariants as stop
use Rattle.gsl_exec.specs.Judged.{JudgesFile, refused_module}
use Rattle.gsl_exec.specs.Steps.{JudgesBytes, JudgesModule, Rejects}
use Rattle.gsl_exec.specs.Texts.{broken_text}

-- ---- there is a verdict, and one

bytes_or : (l : List ℕ) → AreBytes l ⊎ (AreBytes l → ⊥)
bytes_or [] = inl tt
bytes_or (b ∷ l) =
    elim (cases_lt b 256) [
      | inr large ↦ inr (λ fit. omega (arith, fit.0, large))
      | inl small ↦ elim (bytes_or l) [
        | inl rest ↦ inl (small, rest)
        | inr never ↦ inr (λ fit. never fit.1)
      ]
    ]

pub judged_file : (l : List ℕ) → (verdict : Result Module WordFault) × JudgesFile l verdict
judged_file l =
    elim (bytes_or l) [
      | inl fit ↦ let v = bytes.some l fit in (v.0, ((λ again. v.1), (λ never. absurd (never fit))))
      | inr never ↦ (Err NotWhole, ((λ fit. absurd (never fit)), (λ again. refl)))
    ]

pub one_file : (l : List ℕ) (v w : Result Module WordFault) → JudgesFile l v → JudgesFile l w → v ≡ w
one_file l v w jv jw =
    elim (bytes_or l) [
      | inl fit ↦ bytes.one l v w (jv.0 fit) (jw.0 fit)
      | inr never ↦ jv.1 never ∙ sym (jw.1 never)
    ]

-- ---- what is known of a module

broken_none : (b : Option (ℕ × ℕ)) → option_map broken_text b ≡ None → b ≡ None
broken_none None e = refl
broken_none (Some p) e = absurd (cc)

kept_of : (m : Module) → refused_module m ≡ None → broken m ≡ None
unfolding refused_module
kept_of m e = broken_none (broken m) e

pub refused_is : (m : Module) (rule at : ℕ) → broken m ≡ Some (rule, at) → refused_module m ≡ Some (broken_text (rule, at))
unfolding refused_module
refused_is m rule at e = ap (option_map broken_text) e

pub refused_none : (m : Module) → broken m ≡ None → refused_module m ≡ None
unfolding refused_module
refused_none m e = ap (option_map broken_text) e

-- the file of a module is what its bytes are
pub of_file : (l : List ℕ) (m : Module) → JudgesFile l (Ok m) → Judges l (Ok m)
of_file l m judged =
    elim (bytes_or l) [
      | inl fit ↦ judged.0 fit
      | inr never ↦ absurd (let no : Ok m ≡ Err NotWhole = judged.1 never in cc)
    ]

-- a module that is not refused is valid
pub is_valid : (l : List ℕ) (m : Module) → JudgesFile l (Ok m) → refused_module m ≡ None → Valid m
is_valid l m judged e =
    record { file = (of_file l m judged).0; kept = kept_of m e }

-- what is told of a module that breaks a rule
pub told_judges : {E : Type 0} (m : Module) (rule at : ℕ) (line : Result (List ℕ) E) (end : Stop) → broken m ≡ Some (rule, at)
    → IfOk line (λ text. text ≡ broken_text (rule, at)) → MatchResult line (λ text. end ≡ stop.Told 8 text) (λ _. end ≡ stop.Memory) → JudgesModule m (Err end)
told_judges m rule at (Ok text) end is same e =
    subst (λ (s : Stop). JudgesModule m (Err s)) (sym e) (refl, refused_is m rule at is ∙ ap Some (sym same))
told_judges m rule at (Err x) end is same e = subst (λ (s : Stop). JudgesModule m (Err s)) (sym e) tt

-- ---- what is known of a file

is_file : (l : List ℕ) (m : Module) → AreBytes l → Judges l (Ok m) → JudgesFile l (Ok m)
is_file l m fit has = ((λ again. has), (λ other. absurd (other fit)))

pub judges_module : (l : List ℕ) (m : Module) (end : Result Module Stop) → AreBytes l → Judges l (Ok m) → JudgesModule m end → JudgesBytes l end
judges_module l m (Ok valid) fit has (same, kept, is) = subst (λ (v : Module). JudgesBytes l (Ok v)) (sym same) (is_file l m fit has, kept, is)
judges_module l m (Err (stop.Told status text)) fit has (eight, is) = (eight, (Ok m, is_file l m fit has, is))
judges_module l m (Err stop.Memory) fit has is = tt
judges_module l m (Err stop.Host) fit has is = absurd is

pub judges_fault : (l : List ℕ) (fault : WordFault) (why : Stop) → AreBytes l → HasFault l fault → Rejects fault why → JudgesBytes l (Err why)
judges_fault l fault (stop.Told status text) fit has (never, eight, is) =
    (eight, (Err fault, ((λ again. (never, has)), (λ other. absurd (other fit))), ap Some (sym is)))
judges_fault l fault stop.Memory fit has r = tt
judges_fault l fault stop.Host fit has r = absurd r

-- a module's file has four bytes for each of its words
four_each : (words : List ℕ) → length (flat_map (to_le_bytes w32) words) ≡ 4 * length words
four_each [] = refl
four_each (w ∷ words) = omega (arith, length-append (to_le_bytes w32 w) (flat_map (to_le_bytes w32) words), four_each words)

words_each : (at : ℕ) (code : List Instr) → words_from at code ≡ at + length (flat_map instr_words code)
words_each at [] = omega arith
words_each at (i ∷ code) = omega (arith, words_each (at + (1 + length i.args)) code, length-append (instr_words i) (flat_map instr_words code))

pub few_words : (m : Module) (l : List ℕ) → l ≡ bytes_of m → length l ≤ 402653184 → count_of_words m < 2 ^ 32
few_words m l is short = omega (arith, ap length is, four_each (module_words m), words_each header_size m.instrs)

-- there are no more instructions than words
instrs_each : (at : ℕ) (code : List Instr) → at + length code ≤ words_from at code
instrs_each at [] = omega arith
instrs_each at (i ∷ code) = omega (arith, instrs_each (at + (1 + length i.args)) code)

pub few_instrs : (m : Module) → count_of_words m < 2 ^ 32 → length m.instrs < 2 ^ 32
few_instrs m few = omega (arith, few, instrs_each header_size m.instrs)

-- a valid module defines each id once
pub defined_once : (m : Module) → Valid m → ids_defined_once m ≡ None
defined_once m valid = let both : HasFile m × KeepsEach m = (valid_each m).0 valid in both.1.1.0
