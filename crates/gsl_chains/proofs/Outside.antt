-- The variables outside functions, from an instruction on.
use Rattle.std.proofs.Common.{◌≡◌, sym, ap, ◌∙◌, ℕ, ◌+◌, true, false, if◌then◌else◌, List, [], ◌∷◌, drop, Option, Some, None, arith}
use Rattle.std.specs.List.{cons_option, filter_map, sum_by}
use Rattle.std.proofs.lemmas.List.Sums.{sum_by-cons}
use Rattle.gsl_words.specs.declared.module.Instr.{Instr}
use Rattle.gsl_words.specs.declared.module.Module.{Module}
use Rattle.gsl_valid.specs.Instruction.{read}
use Rattle.gsl_valid.specs.Kinds.{Variable, kind, variable_in, variable_is}
use Rattle.gsl_valid.specs.Placed.{Code}
use Rattle.gsl_valid.specs.Types.{before_functions, begins}
use Rattle.gsl_leaves.specs.Table.{told}
use Rattle.gsl_frames.specs.Frames.{variable_words}
use Rattle.gsl_chains.specs.Globals.{global_words, later_words}

told_twice : (n : ℕ) → told n ≡ told (told n)
unfolding told
told_twice n = omega arith

told_left : (a b : ℕ) → told (told a + b) ≡ told (a + b)
unfolding told
told_left a b = omega arith

pub begun : (m : Module) → told (0 + later_words m 0) ≡ told (global_words m)
begun m = ap told (let e : 0 + later_words m 0 ≡ later_words m 0 = omega arith in e)

abbrev Words : Module → Code → ℕ
Words m code = sum_by (variable_words m) (filter_map (λ i. variable_is (read i)) code)

-- where a function begins, nothing more stands outside
pub ended : (m : Module) (at words : ℕ) (i : Instr) → drop at m.instrs ≡ i ∷ drop (at + 1) m.instrs → begins (kind (read i)) ≡ true → words ≡ told words → told (words + later_words m at) ≡ told (global_words m) → words ≡ told (global_words m)
ended m at words i here begun is so_far =
    is ∙ ap told (let e : words ≡ words + later_words m at = omega (arith, none) in e) ∙ so_far
  where
    none : later_words m at ≡ 0
    none = ap (λ code. Words m (before_functions code)) here ∙ ap (λ b. Words m (if b then [] else i ∷ before_functions (drop (at + 1) m.instrs))) begun

one_apart : (f : Variable → ℕ) (o : Option Variable) (vs : List Variable) → sum_by f (cons_option o vs) ≡ sum_by f (cons_option o []) + sum_by f vs
one_apart f None vs = omega arith
one_apart f (Some v) vs = omega (arith, sum_by-cons f v vs, sum_by-cons f v [])

-- with the words of an instruction more
pub goes_on : (m : Module) (at words now : ℕ) (i : Instr) → drop at m.instrs ≡ i ∷ drop (at + 1) m.instrs → begins (kind (read i)) ≡ false → now ≡ told (words + sum_by (variable_words m) (cons_option (variable_in (kind (read i))) []))
    → told (words + later_words m at) ≡ told (global_words m) → (now ≡ told now) × (told (now + later_words m (at + 1)) ≡ told (global_words m))
goes_on m at words now i here begun is so_far =
    let one = sum_by (variable_words m) (cons_option (variable_in (kind (read i))) []) in
    let rest = later_words m (at + 1) in
    let apart : later_words m at ≡ one + rest =
    ap (λ code. Words m (before_functions code)) here ∙ ap (λ b. Words m (if b then [] else i ∷ before_functions (drop (at + 1) m.instrs))) begun
    ∙ one_apart (variable_words m) (variable_is (read i)) (filter_map (λ i. variable_is (read i)) (before_functions (drop (at + 1) m.instrs))) in (
      is ∙ told_twice (words + one) ∙ ap told (sym is),
      ap (λ n. told (n + rest)) is ∙ told_left (words + one) rest ∙ ap told (let e : words + one + rest ≡ words + later_words m at = omega (arith, apart) in e) ∙ so_far,
    )
