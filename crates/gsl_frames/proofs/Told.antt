-- Counts as they are told.
use Rattle.std.proofs.Common.{◌≡◌, refl, ap, ◌∙◌, ℕ, ◌+◌, List, [], ◌∷◌, arith}
use Rattle.std.specs.Prelude.{max, min}
use Rattle.gsl_words.specs.declared.module.Module.{Module}
use Rattle.gsl_valid.specs.Instruction.{read}
use Rattle.gsl_valid.specs.Kinds.{Kind, Holds, Begins, Takes, Calls, Gives, kind}
use Rattle.gsl_valid.specs.Placed.{Placed}
use Rattle.gsl_leaves.specs.Table.{told}
use Rattle.gsl_frames.specs.declared.taken.Taken.{Taken}
use Rattle.gsl_frames.specs.Frames.{behind_told, held_words, plus_told, sum, taken_told, told_taken, variable_words}
use Rattle.gsl_frames.specs.Taken.{behind, in_front, nothing_taken, risen, taken_by, with_parameter}

pub sum_told : (a b : ℕ) → min (min (a + b) 18446744073709551615) 2305843009213693951 ≡ told (a + b)
unfolding told
sum_told a b = omega arith

told_sum : (a b : ℕ) → told (told a + told b) ≡ told (a + b)
unfolding told
told_sum a b = omega arith

told_max : (a b : ℕ) → max (told a) (told b) ≡ told (max a b)
unfolding told
told_max a b = omega arith

-- nothing is told as nothing
pub nothing_is : nothing_taken ≡ told_taken nothing_taken
unfolding told
nothing_is = refl

module _ (m : Module) where
  risen_is : (words : ℕ) (t : Taken) → risen plus_told (told words) (told_taken t) ≡ told_taken (risen sum words t)
  risen_is words t =
      let top : told (told t.top + told words) ≡ told (t.top + words) = told_sum t.top words in
      ap (λ (n : ℕ). record (told_taken t) { top = n; most = max (told t.most) n }) top
      ∙ ap (λ (n : ℕ). record (told_taken t) { top = told (t.top + words); most = n }) (told_max t.most (t.top + words))

  parameter_is : (words : ℕ) (t : Taken) → with_parameter plus_told (told words) (told_taken t) ≡ told_taken (with_parameter sum words t)
  parameter_is words t =
      ap (λ (n : ℕ). record (risen plus_told (told words) (told_taken t)) { parameters = n }) (told_sum t.top words)
      ∙ ap (λ (r : Taken). record r { parameters = told (t.top + words) }) (risen_is words t)

  -- what is told behind an instruction is what is taken behind it, told
  pub behind_is : (k : Kind) (t : Taken) → behind_told m k (told_taken t) ≡ told_taken (behind sum (held_words m) (variable_words m) k t)
  behind_is (Holds v) t = ap (λ (n : ℕ). record (told_taken t) { variables = n }) (told_sum t.variables (variable_words m v))
  behind_is (Begins type id function_type) t = nothing_is
  behind_is (Takes type) t = parameter_is (held_words m type) t
  behind_is (Calls type function arguments) t = risen_is (held_words m type) t
  behind_is (Gives type) t = risen_is (held_words m type) t
  behind_is _ t = refl

  pub taken_is : (body : List Placed) (t : Taken) → taken_told m body (told_taken t) ≡ told_taken (taken_by sum (held_words m) (variable_words m) body t)
  taken_is [] t = refl
  taken_is (p ∷ body) t = ap (taken_told m body) (behind_is (kind (read p.instr)) t) ∙ taken_is body (behind sum (held_words m) (variable_words m) (kind (read p.instr)) t)

pub front_is : (k : Kind) (t : Taken) → in_front k (told_taken t) ≡ told (in_front k t)
front_is (Holds v) t = refl
front_is _ t = refl
