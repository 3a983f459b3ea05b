-- The pass over global variables finds what V6 finds.
use Rattle.std.proofs.Common.{◌≡◌, ℕ, Bool, true, false, ◌||◌, [], ◌∷◌, length, refl, ap, ◌∙◌}
use Rattle.gsl_words.specs.declared.module.Instr.{Instr}
use Rattle.gsl_words.specs.declared.module.Module.{Module}
use Rattle.gsl_valid.specs.Instruction.{read}
use Rattle.gsl_valid.specs.Kinds.{variable_is}
use Rattle.gsl_valid.specs.Placed.{Code, placed, header_size}
use Rattle.gsl_valid.specs.Where.{where_at, in_function_after}
use Rattle.gsl_valid.specs.GlobalRules.{is_global, global_kept, globals}
use Rattle.gsl_ids.specs.Pass.{first_failed}
use Rattle.gsl_ids.proofs.Passes.{same_place}
use Rattle.gsl_valid_types.specs.declared.global.GlobalTest.{GlobalTest}

abbrev pub passes : GlobalTest → ℕ → Instr → Bool
passes s at i = s.inside || is_global s.runtimes.now (variable_is (read i))

abbrev pub behind : GlobalTest → ℕ → Instr → GlobalTest
behind s at i = record { runtimes = s.runtimes; inside = in_function_after s.inside (read i) }

module _ (m : Module) where
  abbrev Tells : Code → Code → GlobalTest → Type 0
  Tells before code s = (s.runtimes.now ≡ m) × (s.inside ≡ (where_at m before).inside)

  agrees : (before code : Code) (s : GlobalTest) (i : Instr) → Tells before (i ∷ code) s → passes s (length before) i ≡ global_kept m before i
  agrees before code s i t =
      ap (λ b. b || is_global s.runtimes.now (variable_is (read i))) t.1 ∙ ap (λ n. (where_at m before).inside || is_global n (variable_is (read i))) t.0

  goes_on : (before code : Code) (s : GlobalTest) (i : Instr) → Tells before (i ∷ code) s → global_kept m before i ≡ true → Tells (i ∷ before) code (behind s (length before) i)
  goes_on before code s i t passed = (t.0, ap (λ b. in_function_after b (read i)) t.1)

  pub finds : (s : GlobalTest) → s.runtimes.now ≡ m → s.inside ≡ false → first_failed passes behind s 0 (placed m) ≡ globals m
  finds s same inside = same_place passes behind (global_kept m) Tells agrees goes_on [] s 0 header_size m.instrs refl (same, inside)
