-- The pass over blocks finds what V12 finds.
use Rattle.std.proofs.Common.{◌≡◌, true, [], ◌∷◌, length, refl, ap}
use Rattle.gsl_words.specs.declared.module.Instr.{Instr}
use Rattle.gsl_words.specs.declared.module.Module.{Module}
use Rattle.gsl_valid.specs.Placed.{Code, placed, header_size}
use Rattle.gsl_valid.specs.StructureRules.{begins_structured, structure}
use Rattle.gsl_ids.specs.Pass.{first_failed}
use Rattle.gsl_ids.proofs.Passes.{same_place}
use Rattle.gsl_valid_order.specs.Nested.{passes, behind}

module _ (m : Module) where
  abbrev Tells : Code → Code → Module → Type 0
  Tells before code s = s ≡ m

  agrees : (before code : Code) (s : Module) (i : Instr) → Tells before (i ∷ code) s → passes s (length before) i ≡ begins_structured m before i
  agrees before code s i same = ap (λ n. passes n (length before) i) same

  goes_on : (before code : Code) (s : Module) (i : Instr) → Tells before (i ∷ code) s → begins_structured m before i ≡ true → Tells (i ∷ before) code (behind s (length before) i)
  goes_on before code s i same passed = same

  pub finds : first_failed passes behind m 0 (placed m) ≡ structure m
  finds = same_place passes behind (begins_structured m) Tells agrees goes_on [] m 0 header_size m.instrs refl refl
