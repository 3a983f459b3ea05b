-- A command that is planned names no more source files than there may be.
use Rattle.std.proofs.Common.{◌≡◌, ℕ, ◌≤◌, List, [], ◌∷◌, length, Bool, true, false, cond, Option, Some, None, refl, sym, subst}
use Rattle.std.proofs.lemmas.Bool.{leb-true}
use Rattle.std.specs.Prelude.{codes}
use Rattle.std.specs.Str.{bytes_eq}
use Rattle.gsl_base.specs.declared.stage.Stage.{Stage}
use Rattle.gsl_words.specs.declared.target.Target.{Target}
use Rattle.gsl_plan.specs.declared.planning.TheConstants.{MAX_FILES}
use Rattle.gsl_plan.specs.Plan.{Arguments, Name, Plan, are_files, arguments, assemble_of, check_of, command_of, compile_in, compile_of, disassemble_of, exec_of, given, named, plan_of, run_in, run_of, stage_of, staged, target_of}

is_none : {A : Type 0} {a : A} → ◌≡◌ {A = Option A} None (Some a) → ⊥
is_none e = cc

-- files with a stage are few
few : (stage : Name) (files : List Name) (found : Stage) → staged stage files ≡ Some found → length files ≤ MAX_FILES
few stage [] found is = absurd (is_none is)
few stage (file ∷ files) found is = by_count (are_files (file ∷ files)) refl is
  where
    by_count : (enough : Bool) → are_files (file ∷ files) ≡ enough → cond enough (stage_of stage) None ≡ Some found → length (file ∷ files) ≤ MAX_FILES
    by_count true at is = leb-true _ _ at
    by_count false at is = absurd (is_none is)

module _ (target : Target) (stage : Stage) (out : Name) (files : List Name) where
  abbrev Its : Option Plan → Type 0
  Its found = found ≡ Some (Plan.Compile target stage out files)

  compile_few : (value : Option Name) (words : List Name) → Its (compile_of value words) → length files ≤ MAX_FILES
  compile_few value [] is = absurd (is_none is)
  compile_few value (first ∷ []) is = absurd (is_none is)
  compile_few value (first ∷ second ∷ more) is = by_parts (target_of value) (staged first more) refl is
    where
      by_parts : (version : Option Target) (found : Option Stage) → staged first more ≡ found → Its (compile_in version found second more) → length files ≤ MAX_FILES
      by_parts None found at is = absurd (is_none is)
      by_parts (Some version) None at is = absurd (is_none is)
      by_parts (Some version) (Some found) at is = let same : more ≡ files = cc in subst (λ (l : List Name). length l ≤ MAX_FILES) same (few first more found at)

  run_not : (words : List Name) → Its (run_of words) → ⊥
  run_not [] is = cc
  run_not (first ∷ []) is = cc
  run_not (first ∷ second ∷ more) is = by_stage (staged first more) is
    where
      by_stage : (found : Option Stage) → Its (run_in found second more) → ⊥
      by_stage None is = cc
      by_stage (Some found) is = cc

  two_not : (words : List Name) → (Its (disassemble_of words) → ⊥) × (Its (assemble_of words) → ⊥) × (Its (exec_of words) → ⊥) × (Its (check_of words) → ⊥)
  two_not [] = (λ is. cc, λ is. cc, λ is. cc, λ is. cc)
  two_not (a ∷ []) = (λ is. cc, λ is. cc, λ is. cc, λ is. cc)
  two_not (a ∷ b ∷ []) = (λ is. cc, λ is. cc, λ is. cc, λ is. cc)
  two_not (a ∷ b ∷ c ∷ more) = (λ is. cc, λ is. cc, λ is. cc, λ is. cc)

  compile_by : (value : Option Name) (words : List Name) (compile dis asm check exec run : Bool) → Its (cond compile (compile_of value words) (cond dis (disassemble_of words) (cond asm (assemble_of words)
      (cond check (check_of words) (cond exec (exec_of words) (cond run (run_of words) None)))))) → length files ≤ MAX_FILES
  compile_by value words true dis asm check exec run is = compile_few value words is
  compile_by value words false true asm check exec run is = absurd ((two_not words).0 is)
  compile_by value words false false true check exec run is = absurd ((two_not words).1 is)
  compile_by value words false false false true exec run is = absurd ((two_not words).3 is)
  compile_by value words false false false false true run is = absurd ((two_not words).2 is)
  compile_by value words false false false false false true is = absurd (run_not words is)
  compile_by value words false false false false false false is = absurd (is_none is)

  pub compiles_few : (words : List Name) → Its (plan_of words) → length files ≤ MAX_FILES
  compiles_few [] is = absurd (is_none is)
  compiles_few (program ∷ []) is = absurd (is_none is)
  compiles_few (program ∷ command ∷ words) is = by_words (arguments command words) is
    where
      by_words : (found : Option Arguments) → Its (given found (named command)) → length files ≤ MAX_FILES
      by_words None is = absurd (is_none is)
      by_words (Some p) is =
          compile_by p.0 p.1 (bytes_eq command (codes "compile")) (bytes_eq command (codes "dis")) (bytes_eq command (codes "asm")) (bytes_eq command (codes "check")) (bytes_eq command (codes "exec")) (bytes_eq command (codes "run")) is

module _ (stage : Stage) (inputs : Name) (files : List Name) where
  abbrev IsRun : Option Plan → Type 0
  IsRun found = found ≡ Some (Plan.Run stage inputs files)

  run_few : (words : List Name) → IsRun (run_of words) → length files ≤ MAX_FILES
  run_few [] is = absurd (is_none is)
  run_few (first ∷ []) is = absurd (is_none is)
  run_few (first ∷ second ∷ more) is = by_stage (staged first more) refl is
    where
      by_stage : (found : Option Stage) → staged first more ≡ found → IsRun (run_in found second more) → length files ≤ MAX_FILES
      by_stage None at is = absurd (is_none is)
      by_stage (Some found) at is = let same : more ≡ files = cc in subst (λ (l : List Name). length l ≤ MAX_FILES) same (few first more found at)

  compile_not : (value : Option Name) (words : List Name) → IsRun (compile_of value words) → ⊥
  compile_not value [] is = cc
  compile_not value (first ∷ []) is = cc
  compile_not value (first ∷ second ∷ more) is = by_parts (target_of value) (staged first more) is
    where
      by_parts : (version : Option Target) (found : Option Stage) → IsRun (compile_in version found second more) → ⊥
      by_parts None found is = cc
      by_parts (Some version) None is = cc
      by_parts (Some version) (Some found) is = cc

  others_not : (words : List Name) → (IsRun (disassemble_of words) → ⊥) × (IsRun (assemble_of words) → ⊥) × (IsRun (exec_of words) → ⊥) × (IsRun (check_of words) → ⊥)
  others_not [] = (λ is. cc, λ is. cc, λ is. cc, λ is. cc)
  others_not (a ∷ []) = (λ is. cc, λ is. cc, λ is. cc, λ is. cc)
  others_not (a ∷ b ∷ []) = (λ is. cc, λ is. cc, λ is. cc, λ is. cc)
  others_not (a ∷ b ∷ c ∷ more) = (λ is. cc, λ is. cc, λ is. cc, λ is. cc)

  run_by : (value : Option Name) (words : List Name) (compile dis asm check exec run : Bool) → IsRun (cond compile (compile_of value words) (cond dis (disassemble_of words) (cond asm (assemble_of words)
      (cond check (check_of words) (cond exec (exec_of words) (cond run (run_of words) None)))))) → length files ≤ MAX_FILES
  run_by value words true dis asm check exec run is = absurd (compile_not value words is)
  run_by value words false true asm check exec run is = absurd ((others_not words).0 is)
  run_by value words false false true check exec run is = absurd ((others_not words).1 is)
  run_by value words false false false true exec run is = absurd ((others_not words).3 is)
  run_by value words false false false false true run is = absurd ((others_not words).2 is)
  run_by value words false false false false false true is = run_few words is
  run_by value words false false false false false false is = absurd (is_none is)

  pub runs_few : (words : List Name) → IsRun (plan_of words) → length files ≤ MAX_FILES
  runs_few [] is = absurd (is_none is)
  runs_few (program ∷ []) is = absurd (is_none is)
  runs_few (program ∷ command ∷ words) is = by_words (arguments command words) is
    where
      by_words : (found : Option Arguments) → IsRun (given found (named command)) → length files ≤ MAX_FILES
      by_words None is = absurd (is_none is)
      by_words (Some p) is =
          run_by p.0 p.1 (bytes_eq command (codes "compile")) (bytes_eq command (codes "dis")) (bytes_eq command (codes "asm")) (bytes_eq command (codes "check")) (bytes_eq command (codes "exec")) (bytes_eq command (codes "run")) is
