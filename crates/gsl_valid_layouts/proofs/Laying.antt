-- The pass over types finds what V8 finds.
use Rattle.std.proofs.Common.{◌≡◌, ℕ, zero, suc, ◌+◌, ◌<◌, ◌≤◌, true, List, [], ◌∷◌, length, drop, take, refl, ap, sym, ◌∙◌, arith}
use Rattle.std.proofs.lemmas.Bool.{cond-true}
use Rattle.gsl_words.specs.declared.module.Instr.{Instr}
use Rattle.gsl_words.specs.declared.module.Module.{Module}
use Rattle.gsl_words.specs.Instructions.{word_count}
use Rattle.gsl_valid.specs.LayoutRules.{laid, layouts}
use Rattle.gsl_valid.specs.Placed.{Code, Placed, placed, header_size, words_from}
use Rattle.gsl_valid.specs.Search.{passed}
use Rattle.gsl_kinds.specs.Runtimes.{front}
use Rattle.gsl_ids.specs.Pass.{first_failed}
use Rattle.gsl_ids.proofs.Passes.{same_place}
use Rattle.gsl_valid_layouts.specs.Layouts.{passes, behind}

pub one_less : (whole code : Code) (at : ℕ) (i : Instr) → drop at whole ≡ i ∷ code → drop (at + 1) whole ≡ code
one_less [] code zero i e = absurd (cc)
one_less [] code (suc at) i e = absurd (cc)
one_less (j ∷ whole) code zero i e = cc
one_less (j ∷ whole) code (suc at) i e =
    let next : suc at + 1 ≡ suc (at + 1) = omega arith in ap (λ n. drop n (j ∷ whole)) next ∙ one_less whole code at i e

pub cut_here : (whole code : Code) (at : ℕ) (i : Instr) → drop at whole ≡ i ∷ code → drop at whole ≡ i ∷ drop (at + 1) whole
cut_here whole code at i e = e ∙ ap (λ c. i ∷ c) (sym (one_less whole code at i e))

taken : (before code rest : Code) (at : ℕ) (i : Instr) → drop at code ≡ i ∷ rest → passed before (take (at + 1) code) ≡ i ∷ passed before (take at code)
taken before [] rest zero i e = absurd (cc)
taken before [] rest (suc at) i e = absurd (cc)
taken before (j ∷ code) rest zero i e = let same : j ≡ i = cc in ap (λ k. k ∷ before) same
taken before (j ∷ code) rest (suc at) i e =
    let next : suc at + 1 ≡ suc (at + 1) = omega arith in ap (λ n. passed before (take n (j ∷ code))) next ∙ taken (j ∷ before) code rest at i e

pub one_more : (m : Module) (at : ℕ) (i : Instr) → drop at m.instrs ≡ i ∷ drop (at + 1) m.instrs → front m (at + 1) ≡ i ∷ front m at
one_more m at i e = taken [] m.instrs (drop (at + 1) m.instrs) at i e

words_least : (at : ℕ) (code : Code) → at ≤ words_from at code
words_least at [] = omega arith
words_least at (i ∷ code) = let h = words_least (at + word_count i) code in omega (arith, h)

-- the operands of an instruction are fewer than the words of the file
pub few_words : (place : ℕ) (code rest : Code) (at : ℕ) (i : Instr) → drop at code ≡ i ∷ rest → 1 + length i.args ≤ words_from place code
few_words place [] rest zero i e = absurd (cc)
few_words place [] rest (suc at) i e = absurd (cc)
few_words place (j ∷ code) rest zero i e =
    let same : j ≡ i = cc in
    let least = words_least (place + word_count j) code in
    let count : word_count j ≡ word_count i = ap (λ k. word_count k) same in
    omega (arith, least, count)
few_words place (j ∷ code) rest (suc at) i e = few_words (place + word_count j) code rest at i e

pub first_on : (m : Module) (at : ℕ) (p : Placed) (more : List Placed) → passes m at p.instr ≡ true → first_failed passes behind m (at + 1) more ≡ first_failed passes behind m at (p ∷ more)
unfolding first_failed
first_on m at p more passed = sym (cond-true _ _ _ passed)

module _ (m : Module) where
  record Tells (before code : Code) (s : Module) : Type 0 where
    same : s ≡ m
    before_is : before ≡ front m (length before)
    rest : drop (length before) m.instrs ≡ code

  agrees : (before code : Code) (s : Module) (i : Instr) → Tells before (i ∷ code) s → passes s (length before) i ≡ laid m before i
  agrees before code s i t = ap (λ n. passes n (length before) i) t.same ∙ ap (λ b. laid m b i) (sym t.before_is)

  goes_on : (before code : Code) (s : Module) (i : Instr) → Tells before (i ∷ code) s → laid m before i ≡ true → Tells (i ∷ before) code (behind s (length before) i)
  goes_on before code s i t passed =
      let next : length before + 1 ≡ length (i ∷ before) = omega arith in
      record {
        same = t.same;
        before_is = ap (λ b. i ∷ b) t.before_is ∙ sym (one_more m (length before) i (cut_here m.instrs code (length before) i t.rest)) ∙ ap (front m) next;
        rest = ap (λ n. drop n m.instrs) (sym next) ∙ one_less m.instrs code (length before) i t.rest;
      }

  pub finds : first_failed passes behind m 0 (placed m) ≡ layouts m
  finds =
      same_place passes behind (laid m) Tells agrees goes_on [] m 0 header_size m.instrs refl (record { same = refl; before_is = refl; rest = refl })
