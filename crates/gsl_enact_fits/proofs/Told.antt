-- What is told of sizes.
use Rattle.std.proofs.Common.{◌≡◌, refl, sym, ap, ◌∙◌, ℕ, zero, suc, ◌+◌, ◌-◌, ◌*◌, ◌^◌, ◌<◌, ◌≤◌, Bool, true, false, List, [], ◌∷◌, length, take, Option, Some, None, arith}
use Rattle.std.proofs.lemmas.Bool.{cond-true, cond-false}
use Rattle.gsl_instr.specs.declared.enumerant.decoration.TheConstants as decoration
use Rattle.gsl_words.specs.declared.module.Instr.{Instr}
use Rattle.gsl_words.specs.declared.module.Module.{Module}
use Rattle.gsl_words.specs.Instructions.{word_count}
use Rattle.gsl_valid.specs.Decorations.{number_on_member}
use Rattle.gsl_valid.specs.Instruction.{read}
use Rattle.gsl_valid.specs.Kinds.{shape_of}
use Rattle.gsl_valid.specs.LayoutRules.{array_of, end_after, end_of_last, need, need_as}
use Rattle.gsl_valid.specs.Ids.{defines}
use Rattle.gsl_valid.specs.Placed.{Code, count_of_words, header_size, words_from}
use Rattle.gsl_valid.specs.Search.{passed}
use Rattle.gsl_enact_values.specs.Search.{from_definition, front}
use Rattle.gsl_enact_values.proofs.Definers.{made_of_none, made_of_one}
use Rattle.gsl_enact_fits.specs.Passes.{told}

told_again : (x : ℕ) → told (told x) ≡ told x
told_again x = omega arith

told_sum : (a x : ℕ) → told (a + told x) ≡ told (a + x)
told_sum a x = omega arith

pub told_end : (offset : Option ℕ) (x y : ℕ) → x ≡ told y → told (end_after offset x) ≡ told (end_after offset y)
told_end None x y e = refl
told_end (Some offset) x y e = ap (λ z. told (offset + z)) e ∙ told_sum offset y

pub told_array : (stride count : Option ℕ) (x y : ℕ) → x ≡ told y → told (array_of stride count (λ stride count. stride * (count - 1) + x)) ≡ told (array_of stride count (λ stride count. stride * (count - 1) + y))
told_array None count x y e = refl
told_array (Some stride) None x y e = refl
told_array (Some stride) (Some count) x y e = ap (λ z. told (stride * (count - 1) + z)) e ∙ told_sum (stride * (count - 1)) y

-- what is told of the end before stays told
told_ends : (m : Module) (f : ℕ → ℕ) (struct member end : ℕ) (types : List ℕ) → told (end_of_last m f struct member (told end) types) ≡ told (end_of_last m f struct member end types)
told_ends m f struct member end [] = told_again end
told_ends m f struct member end (type ∷ types) = refl

pub last_on : (m : Module) (f : ℕ → ℕ) (struct member type new end need : ℕ) (types rest : List ℕ) (whole : ℕ) → types ≡ type ∷ rest → need ≡ told (f type) → new ≡ told (end_after (number_on_member m decoration.OFFSET struct member) need)
    → told (end_of_last m f struct member end types) ≡ whole → told (end_of_last m f struct (member + 1) new rest) ≡ whole
last_on m f struct member type new end need types rest whole opens is made so_far =
    ap (λ e. told (end_of_last m f struct (member + 1) e rest)) (made ∙ told_end (number_on_member m decoration.OFFSET struct member) need (f type) is)
    ∙ told_ends m f struct (member + 1) (end_after (number_on_member m decoration.OFFSET struct member) (f type)) rest
    ∙ ap (λ l. told (end_of_last m f struct member end l)) (sym opens) ∙ so_far

-- ---- the need of the last definition

pub need_of_none : (m : Module) (type : ℕ) (before : Code) → from_definition before type ≡ [] → need m before type ≡ 0
need_of_none m type = made_of_none (λ before. need m before type) type 0 (λ i before. need_as m (need m before) type (shape_of (read i))) refl (λ i before. refl)

pub need_of_one : (m : Module) (type : ℕ) (before rest : Code) (i : Instr) → from_definition before type ≡ i ∷ rest → need m before type ≡ need_as m (need m rest) type (shape_of (read i))
need_of_one m type = made_of_one (λ before. need m before type) type 0 (λ i before. need_as m (need m before) type (shape_of (read i))) refl (λ i before. refl)

pub last_end : (m : Module) (f : ℕ → ℕ) (struct member end whole : ℕ) (types : List ℕ) → types ≡ [] → end ≤ 2 ^ 64 → told (end_of_last m f struct member end types) ≡ told whole → end ≡ told whole
last_end m f struct member end whole types none small so_far =
    let told_end : told end ≡ told whole = sym (ap (λ l. told (end_of_last m f struct member end l)) none) ∙ so_far in omega (arith, small, told_end)

-- ---- the words of an instruction are fewer than those of the file

abbrev all_words : Code → ℕ
all_words [] = 0
all_words (i ∷ code) = word_count i + all_words code

words_are : (at : ℕ) (code : Code) → words_from at code ≡ at + all_words code
words_are at [] = omega arith
words_are at (i ∷ code) = let h = words_are (at + word_count i) code in omega (arith, h)

passed_words : (before code : Code) → all_words (passed before code) ≡ all_words before + all_words code
passed_words before [] = omega arith
passed_words before (i ∷ code) = let h = passed_words (i ∷ before) code in omega (arith, h)

taken_words : (n : ℕ) (code : Code) → all_words (take n code) ≤ all_words code
taken_words zero code = omega arith
taken_words (suc n) [] = omega arith
taken_words (suc n) (i ∷ code) = let h = taken_words n code in omega (arith, h)

found_words : (before rest : Code) (i : Instr) (id : ℕ) → from_definition before id ≡ i ∷ rest → word_count i ≤ all_words before
unfolding from_definition
found_words [] rest i id e = absurd (cc)
found_words (j ∷ before) rest i id e = by_test (defines j id) refl (found_words before rest i id)
  where
    by_test : (b : Bool) → defines j id ≡ b → (from_definition before id ≡ i ∷ rest → word_count i ≤ all_words before) → word_count i ≤ word_count j + all_words before
    by_test true is later =
        let same : j ∷ before ≡ i ∷ rest = sym (cond-true _ _ _ is) ∙ e in
        let head : j ≡ i = cc in
        let count : word_count j ≡ word_count i = ap (λ k. word_count k) head in
        omega (arith, count)
    by_test false is later = let h = later (sym (cond-false _ _ _ is) ∙ e) in omega (arith, h)

pub few_words : (m : Module) (count id : ℕ) (i : Instr) (rest : Code) → count_of_words m < 2 ^ 32 → from_definition (front m count) id ≡ i ∷ rest → 1 + length i.args < 2 ^ 32
few_words m count id i rest few e =
    let found : word_count i ≤ all_words (front m count) = found_words (front m count) rest i id e in
    let turned = passed_words [] (take count m.instrs) in
    let taken = taken_words count m.instrs in
    let are = words_are header_size m.instrs in
    let whole : all_words (front m count) ≤ all_words m.instrs = omega (arith, turned, taken) in
    let counted : word_count i ≡ 1 + length i.args = refl in
    omega (arith, found, whole, are, few, counted)
