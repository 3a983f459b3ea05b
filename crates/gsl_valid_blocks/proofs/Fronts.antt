-- The instructions outside functions.
use Rattle.std.proofs.Common.{◌≡◌, ℕ, zero, suc, ◌+◌, ◌<◌, ◌≤◌, ◌⊎◌, inl, inr, ◌&&◌, Some, Bool, true, false, cond, ◌||◌, [], ◌∷◌, length, take, drop, refl, ap, sym, ◌∙◌, true≢false, arith}
use Rattle.std.specs.List.{list_any}
use Rattle.gsl_words.specs.declared.module.Instr.{Instr}
use Rattle.gsl_words.specs.declared.module.Module.{Module}
use Rattle.gsl_valid.specs.Instruction.{read}
use Rattle.gsl_valid.specs.Placed.{Code}
use Rattle.gsl_valid.specs.Types.{function_begins, before_functions}
use Rattle.gsl_ids.specs.Table.{number_from, is_defined_in}
use Rattle.gsl_valid.specs.Ids.{defines, defined}
use Rattle.std.specs.Prelude.{nat_lt, nat_le}
use Rattle.std.proofs.lemmas.Bool.{lt-ltb, le-ltb, le-leb, lt-leb, cases_lt}
use Rattle.gsl_decorations.specs.Firsts.{first_from, is_below}
use Rattle.gsl_decorations.proofs.Fronts.{in_front_of_all}

-- Outside functions ---------------------------------------------------------------------------------------------

abbrev pub begins : Instr → Bool
begins i = function_begins (read i)

none_there : (a b : Bool) → (a || b) ≡ false → (a ≡ false) × (b ≡ false)
none_there true b e = absurd (true≢false e)
none_there false b e = (refl, e)

-- One more that begins no function stands outside.
pub one_more : (code rest : Code) (at : ℕ) (i : Instr) → drop at code ≡ i ∷ rest → begins i ≡ false → list_any begins (take at code) ≡ false →
    list_any begins (take (at + 1) code) ≡ false
one_more [] rest zero i e not_one none = refl
one_more [] rest (suc at) i e not_one none = absurd (cc)
one_more (j ∷ code) rest zero i e not_one none = let same : j ≡ i = cc in ap (λ k. begins k || false) same ∙ ap (λ b. b || false) not_one
one_more (j ∷ code) rest (suc at) i e not_one none =
    let next : suc at + 1 ≡ suc (at + 1) = omega arith in
    let parts = none_there (begins j) (list_any begins (take at code)) none in
    ap (λ n. list_any begins (take n (j ∷ code))) next ∙ ap (λ b. b || list_any begins (take (at + 1) code)) parts.0
    ∙ one_more code rest at i e not_one parts.1

-- They end where a function begins,
pub up_to : (code rest : Code) (at : ℕ) (i : Instr) → drop at code ≡ i ∷ rest → begins i ≡ true → list_any begins (take at code) ≡ false → take at code ≡ before_functions code
up_to [] rest zero i e is_one none = refl
up_to [] rest (suc at) i e is_one none = refl
up_to (j ∷ code) rest zero i e is_one none =
    let same : j ≡ i = cc in sym (ap (λ k. cond (begins k) [] (j ∷ before_functions code)) same ∙ ap (λ b. cond b [] (j ∷ before_functions code)) is_one)
up_to (j ∷ code) rest (suc at) i e is_one none =
    let parts = none_there (begins j) (list_any begins (take at code)) none in
    ap (λ l. j ∷ l) (up_to code rest at i e is_one parts.1) ∙ sym (ap (λ b. cond b [] (j ∷ before_functions code)) parts.0)

-- or at the end.
pub to_end : (code : Code) (at : ℕ) → length code ≤ at → list_any begins (take at code) ≡ false → take at code ≡ before_functions code
to_end [] zero over none = refl
to_end [] (suc at) over none = refl
to_end (j ∷ code) zero over none = absurd (omega arith)
to_end (j ∷ code) (suc at) over none =
    let parts = none_there (begins j) (list_any begins (take at code)) none in
    ap (λ l. j ∷ l) (to_end code at (omega arith) parts.1) ∙ sym (ap (λ b. cond b [] (j ∷ before_functions code)) parts.0)

-- What an id is defined by ---------------------------------------------------------------------------------------

same_order : (a b : ℕ) → nat_le (a + 1) b ≡ nat_lt a b
same_order a b = by_cases (cases_lt a b)
  where
    by_cases : (a < b) ⊎ (b ≤ a) → nat_le (a + 1) b ≡ nat_lt a b
    by_cases (inl lt) = le-leb (a + 1) b (omega (arith, lt)) ∙ sym (lt-ltb a b lt)
    by_cases (inr le) = lt-leb (a + 1) b (omega (arith, le)) ∙ sym (le-ltb a b le)

numbered : (at count : ℕ) (code : Code) (id : ℕ) →
    (nat_lt 0 (number_from at code id) && nat_le (number_from at code id) count) ≡ is_below count (first_from (λ i. defines i id) at code)
unfolding number_from first_from
numbered at count [] id = refl
numbered at count (i ∷ code) id = by_cases (defines i id) (numbered (at + 1) count code id)
  where
    by_cases : (b : Bool) → (nat_lt 0 (number_from (at + 1) code id) && nat_le (number_from (at + 1) code id) count) ≡ is_below count (first_from (λ i. defines i id) (at + 1) code) →
        (nat_lt 0 (cond b (at + 1) (number_from (at + 1) code id)) && nat_le (cond b (at + 1) (number_from (at + 1) code id)) count)
        ≡ is_below count (cond b (Some at) (first_from (λ i. defines i id) (at + 1) code))
    by_cases true later = ap (λ b. b && nat_le (at + 1) count) (lt-ltb 0 (at + 1) (omega arith)) ∙ same_order at count
    by_cases false later = later

-- whether an id is defined among so many instructions, by the number of the one that defines it
pub defined_in : (m : Module) (count id : ℕ) → is_defined_in m count id ≡ defined (take count m.instrs) id
defined_in m count id = numbered 0 count m.instrs id ∙ in_front_of_all (λ i. defines i id) count m.instrs
