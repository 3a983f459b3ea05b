-- The program that sources make together.
use Rattle.std.proofs.Common.{◌≡◌, ℕ, ◌≤◌, List, length, Option, Some, None, Ok, Err, refl, sym, ◌∙◌, arith}
use Rattle.gsl_base.specs.Checked.{Checked, ◌>>=◌}
use Rattle.gsl_base.specs.declared.stage.Stage.{Stage}
use Rattle.gsl_cmd.specs.Verdict.{linked_of, too_long_from, typed_from}
use Rattle.gsl_cmd.specs.declared.compiling.TheConstants.{MAX_SOURCES}
use Rattle.gsl_cmd.proofs.Verdicts.{all_answered, all_counted, linked_long, linked_short}
use Rattle.gsl_link.specs.Joined.{joined}
use Rattle.gsl_link.specs.Units.{AreUnits}
use Rattle.gsl_link_checked.proofs.Joined.{answers_are}
use Rattle.gsl_link_law.proofs.Programs.{joined_program}
use Rattle.gsl_lower_law_exact.specs.OfLawLinked.{AreOnce, MayNest}
use Rattle.gsl_lower_law_exact.proofs.OfLawLinked.{linked_nest}
use Rattle.gsl_tree.specs.WellTyped.{IsProgram}
use Rattle.gsl_tree.specs.declared.program.Program.{Program}
use Rattle.gsl_tree.specs.declared.unit.TypedUnit.{TypedUnit}

abbrev pub IsNested : Program → Type 0
IsNested p = IsProgram p × MayNest p × AreOnce p

module _ (stage : Stage) (sources : List (List ℕ)) (p : Program) (few : length sources ≤ MAX_SOURCES) where
  of_units : (units : List TypedUnit) → typed_from stage 0 sources ≡ Ok units → joined stage units ≡ Ok p → IsNested p
  of_units units typed is =
      let answers = all_answered stage 0 sources units typed in
      let are : AreUnits stage units = answers_are stage answers.0 units answers.1 (omega (arith, few, all_counted stage 0 sources units typed)) in
      let program = joined_program stage units p are is in
      let nest = linked_nest stage units p are program is in
      (program, nest.0, nest.1)

  typed_is : (typed : Checked (List TypedUnit)) → typed_from stage 0 sources ≡ typed → (typed >>= joined stage) ≡ Ok p → IsNested p
  typed_is (Ok units) at is = of_units units at is
  typed_is (Err fault) at is = absurd cc

  long_is : (long : Option ℕ) → too_long_from 0 sources ≡ long → linked_of stage sources ≡ Ok p → IsNested p
  long_is None short is = typed_is (typed_from stage 0 sources) refl (sym (linked_short stage sources short) ∙ is)
  long_is (Some unit) long is = let never : Err _ ≡ Ok p = sym (linked_long stage sources unit long) ∙ is in absurd cc

  pub sources_nest : linked_of stage sources ≡ Ok p → IsNested p
  sources_nest is = long_is (too_long_from 0 sources) refl is
