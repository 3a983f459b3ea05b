-- The last definition of an id, and what is made of it.
use Rattle.std.proofs.Common.{◌≡◌, refl, sym, ap, ◌∙◌, ℕ, zero, suc, ◌+◌, ◌-◌, ◌<◌, ◌≤◌, Bool, true, false, if◌then◌else◌, [], ◌∷◌, length, take, drop, arith}
use Rattle.std.proofs.lemmas.Bool.{cond-true, cond-false}
use Rattle.gsl_words.specs.declared.module.Instr.{Instr}
use Rattle.gsl_words.specs.declared.module.Module.{Module}
use Rattle.gsl_valid.specs.Ids.{defines}
use Rattle.gsl_valid.specs.Placed.{Code}
use Rattle.gsl_valid.specs.Search.{passed, whole}
use Rattle.gsl_valid.specs.Instruction.{read}
use Rattle.gsl_valid.specs.Kinds.{constant_is, shape_of}
use Rattle.gsl_machine.specs.Constants.{constant_in, fixed_if, nothing, zeros_as, zeros_in}
use Rattle.gsl_enact_values.specs.Search.{front, from_definition}

one_taken : (before code rest : Code) (at : ℕ) (i : Instr) → drop at code ≡ i ∷ rest → passed before (take (at + 1) code) ≡ i ∷ passed before (take at code)
one_taken before [] rest zero i e = absurd (cc)
one_taken before [] rest (suc at) i e = absurd (cc)
one_taken before (j ∷ code) rest zero i e = let same : j ≡ i = cc in ap (λ k. k ∷ before) same
one_taken before (j ∷ code) rest (suc at) i e =
    let next : suc at + 1 ≡ suc (at + 1) = omega arith in ap (λ n. passed before (take n (j ∷ code))) next ∙ one_taken (j ∷ before) code rest at i e

none_taken : (before code : Code) (at : ℕ) → drop at code ≡ [] → passed before (take (at + 1) code) ≡ passed before (take at code)
none_taken before [] zero e = refl
none_taken before [] (suc at) e = let next : suc at + 1 ≡ suc (at + 1) = omega arith in ap (λ n. passed before (take {A = Instr} n [])) next
none_taken before (j ∷ code) zero e = absurd (cc)
none_taken before (j ∷ code) (suc at) e =
    let next : suc at + 1 ≡ suc (at + 1) = omega arith in ap (λ n. passed before (take n (j ∷ code))) next ∙ none_taken (j ∷ before) code at e

all_taken : (before code : Code) → passed before (take (length code) code) ≡ passed before code
all_taken before [] = refl
all_taken before (i ∷ code) = all_taken (i ∷ before) code

-- all instructions at the front are the whole module
pub front_all : (m : Module) → front m (length m.instrs) ≡ whole m
front_all m = all_taken [] m.instrs

-- one step of the search: the instruction defines the id, it does not, or there is none
pub defined_here : (m : Module) (now : ℕ) (i : Instr) (id : ℕ) (all : Code) → 0 < now → drop (now - 1) m.instrs ≡ i ∷ drop (now - 1 + 1) m.instrs → defines i id ≡ true → from_definition (front m now) id ≡ all → all ≡ i ∷ front m (now - 1)
unfolding from_definition
defined_here m now i id all some opens is so_far =
    sym so_far ∙ ap (λ n. from_definition (front m n) id) (let e : now ≡ now - 1 + 1 = omega (arith, some) in e)
    ∙ ap (λ c. from_definition c id) (one_taken [] m.instrs (drop (now - 1 + 1) m.instrs) (now - 1) i opens) ∙ cond-true _ _ _ is

pub defined_before : (m : Module) (now : ℕ) (i : Instr) (id : ℕ) (all : Code) → 0 < now → drop (now - 1) m.instrs ≡ i ∷ drop (now - 1 + 1) m.instrs → defines i id ≡ false → from_definition (front m now) id ≡ all
    → from_definition (front m (now - 1)) id ≡ all
unfolding from_definition
defined_before m now i id all some opens is so_far =
    sym (ap (λ n. from_definition (front m n) id) (let e : now ≡ now - 1 + 1 = omega (arith, some) in e)
    ∙ ap (λ c. from_definition c id) (one_taken [] m.instrs (drop (now - 1 + 1) m.instrs) (now - 1) i opens) ∙ cond-false _ _ _ is) ∙ so_far

pub none_here : (m : Module) (now id : ℕ) (all : Code) → 0 < now → drop (now - 1) m.instrs ≡ [] → from_definition (front m now) id ≡ all → from_definition (front m (now - 1)) id ≡ all
none_here m now id all some ends so_far =
    sym (ap (λ n. from_definition (front m n) id) (let e : now ≡ now - 1 + 1 = omega (arith, some) in e) ∙ ap (λ c. from_definition c id) (none_taken [] m.instrs (now - 1) ends)) ∙ so_far

pub none_left : (m : Module) (now id : ℕ) (all : Code) → now ≤ 0 → from_definition (front m now) id ≡ all → all ≡ []
unfolding from_definition
none_left m now id all none so_far = sym so_far ∙ ap (λ n. from_definition (front m n) id) (let e : now ≡ 0 = omega (arith, none) in e)

-- What is made of the last definition, whatever it is: zeros, a constant.
module _ {A : Type 0} (f : Code → A) (id : ℕ) (none : A) (made : Instr → Code → A) (ends : f [] ≡ none) (goes : (i : Instr) (before : Code) → f (i ∷ before) ≡ (if defines i id then made i before else f before)) where
  pub made_of_none : (before : Code) → from_definition before id ≡ [] → f before ≡ none
  unfolding from_definition
  made_of_none [] e = ends
  made_of_none (i ∷ before) e = by_test (defines i id) refl (made_of_none before)
    where
      by_test : (b : Bool) → defines i id ≡ b → (from_definition before id ≡ [] → f before ≡ none) → f (i ∷ before) ≡ none
      by_test true is later = let wrong : i ∷ before ≡ [] = sym (cond-true _ _ _ is) ∙ e in absurd (cc)
      by_test false is later = goes i before ∙ cond-false _ _ _ is ∙ later (sym (cond-false _ _ _ is) ∙ e)

  pub made_of_one : (before rest : Code) (i : Instr) → from_definition before id ≡ i ∷ rest → f before ≡ made i rest
  unfolding from_definition
  made_of_one [] rest i e = absurd (cc)
  made_of_one (j ∷ before) rest i e = by_test (defines j id) refl (made_of_one before rest i)
    where
      by_test : (b : Bool) → defines j id ≡ b → (from_definition before id ≡ i ∷ rest → f before ≡ made i rest) → f (j ∷ before) ≡ made i rest
      by_test true is later =
          let same : j ∷ before ≡ i ∷ rest = sym (cond-true _ _ _ is) ∙ e in
          let head : j ≡ i = cc in
          let tail : before ≡ rest = cc in
          goes j before ∙ cond-true _ _ _ is ∙ ap (λ k. made k before) head ∙ ap (made i) tail
      by_test false is later = goes j before ∙ cond-false _ _ _ is ∙ later (sym (cond-false _ _ _ is) ∙ e)

-- zeros and constants of the last definition
pub zeros_of_none : (m : Module) (type : ℕ) (before : Code) → from_definition before type ≡ [] → zeros_in m before type ≡ nothing
zeros_of_none m type = made_of_none (λ before. zeros_in m before type) type nothing (λ i before. zeros_as m (zeros_in m before) (shape_of (read i))) refl (λ i before. refl)

pub zeros_of_one : (m : Module) (type : ℕ) (before rest : Code) (i : Instr) → from_definition before type ≡ i ∷ rest → zeros_in m before type ≡ zeros_as m (zeros_in m rest) (shape_of (read i))
zeros_of_one m type = made_of_one (λ before. zeros_in m before type) type nothing (λ i before. zeros_as m (zeros_in m before) (shape_of (read i))) refl (λ i before. refl)

pub constant_of_none : (m : Module) (id : ℕ) (before : Code) → from_definition before id ≡ [] → constant_in m before id ≡ nothing
constant_of_none m id = made_of_none (λ before. constant_in m before id) id nothing (λ i before. fixed_if m (constant_in m before) i (constant_is (read i))) refl (λ i before. refl)

pub constant_of_one : (m : Module) (id : ℕ) (before rest : Code) (i : Instr) → from_definition before id ≡ i ∷ rest → constant_in m before id ≡ fixed_if m (constant_in m rest) i (constant_is (read i))
constant_of_one m id = made_of_one (λ before. constant_in m before id) id nothing (λ i before. fixed_if m (constant_in m before) i (constant_is (read i))) refl (λ i before. refl)
