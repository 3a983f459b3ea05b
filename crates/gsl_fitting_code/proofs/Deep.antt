-- Blocks are structured (V12), and what functions do is within the limits (V18).
use Rattle.std.proofs.Common.{◌≡◌, ℕ, true, false, not, [], Option, Some, None, refl, sym, ap, ◌∙◌, ◌⊎◌, inl, inr}
use Rattle.std.proofs.lemmas.Bool.{le-leb, or_left, or_right, not_from_false, true≢false}
use Rattle.gsl_words.specs.declared.module.Instr.{Instr}
use Rattle.gsl_words.specs.declared.module.Module.{Module}
use Rattle.gsl_instr.specs.declared.instruction.Instruction.{Instruction}
use Rattle.gsl_instr.specs.declared.instruction.Instruction.TheVariants as instruction
use Rattle.gsl_valid.specs.Instruction.{passes_if, read}
use Rattle.gsl_valid.specs.Kinds as kinds
use Rattle.gsl_valid.specs.Kinds.{Kind, kind}
use Rattle.gsl_valid.specs.LimitRules.{is_within, most_constructs, nests_within, within_limits}
use Rattle.gsl_valid.specs.Placed.{Code}
use Rattle.gsl_valid.specs.StructureRules.{begins_structured, is_structured}
use Rattle.gsl_valid.specs.Types.{begins, function_begins}
use Rattle.gsl_fitting.specs.Fits.{works}
use Rattle.gsl_fitting_code.proofs.Roles.{works_no_function}
use Rattle.gsl_fitting_code.proofs.Places.{Plays}
use Rattle.gsl_fitting_code.proofs.Places.Plays.{starting, parameter, opening, variable, inside, ending}

module _ (m : Module) (rank : ℕ → ℕ) where
  no_function : (before : Code) (i : Instr) → function_begins (read i) ≡ false → begins_structured m before i ≡ true
  no_function before i h = or_left _ _ (not_from_false _ h)

  pub structured_passes : (before : Code) (i : Instr) → Plays m rank before i → begins_structured m before i ≡ true
  structured_passes before i (starting p) = or_right (not (function_begins (read i))) _ (ap is_structured p.nests.is)
  structured_passes before i (parameter p) = no_function before i (ap function_begins p.reads)
  structured_passes before i (opening p) = no_function before i (ap function_begins p.reads)
  structured_passes before i (variable p) = no_function before i (ap function_begins p.holds.reads)
  structured_passes before i (inside p) = no_function before i (elim p.is [ inl work ↦ works_no_function (kind (read i)) work | inr more ↦ elim more [ inl leaves ↦ ap begins leaves | inr merges ↦ ap begins merges.0 ] ])
  structured_passes before i (ending p) = no_function before i (ap function_begins p.reads)

  -- what stands in a block is within the limits whatever stands before it
  limits_as : (before : Code) (d : Option Instruction) → (works (kind d) ≡ true) ⊎ ((kind d ≡ kinds.Leaves) ⊎ (kind d ≡ kinds.Merges)) → passes_if (is_within m []) d ≡ true → passes_if (is_within m before) d ≡ true
  limits_as before None is h = refl
  limits_as before (Some (instruction.TypeArray result element count)) is h = absurd (elim is [ inl work ↦ true≢false (sym work) | inr more ↦ elim more [ inl leaves ↦ absurd cc | inr merges ↦ absurd cc ] ])
  limits_as before (Some (instruction.TypeRuntimeArray result element)) is h = absurd (elim is [ inl work ↦ true≢false (sym work) | inr more ↦ elim more [ inl leaves ↦ absurd cc | inr merges ↦ absurd cc ] ])
  limits_as before (Some (instruction.TypeStruct result members)) is h = absurd (elim is [ inl work ↦ true≢false (sym work) | inr more ↦ elim more [ inl leaves ↦ absurd cc | inr merges ↦ absurd cc ] ])
  limits_as before (Some (instruction.Function type result control function_type)) is h = absurd (elim is [ inl work ↦ true≢false (sym work) | inr more ↦ elim more [ inl leaves ↦ absurd cc | inr merges ↦ absurd cc ] ])
  limits_as before (Some _) is h = h

  pub limits_pass : (before : Code) (i : Instr) → Plays m rank before i → within_limits m before i ≡ true
  limits_pass before i (starting p) = ap (passes_if (is_within m before)) p.reads ∙ ap nests_within p.nests.is ∙ le-leb p.nests.deepest most_constructs p.nests.low
  limits_pass before i (parameter p) = ap (passes_if (is_within m before)) p.reads
  limits_pass before i (opening p) = ap (passes_if (is_within m before)) p.reads
  limits_pass before i (variable p) = ap (passes_if (is_within m before)) p.holds.reads
  limits_pass before i (inside p) = limits_as before (read i) (elim p.is [ inl work ↦ inl work | inr more ↦ elim more [ inl leaves ↦ inr (inl leaves) | inr merges ↦ inr (inr merges.0) ] ]) p.sits.limits
  limits_pass before i (ending p) = ap (passes_if (is_within m before)) p.reads
