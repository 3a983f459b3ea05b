-- The pass over the entry point and locations finds what V9 finds.
use Rattle.std.proofs.Common.{◌≡◌, ℕ, true, ◌&&◌, ◌||◌, not, List, [], ◌∷◌, length, take, refl, ap, ◌∙◌}
use Rattle.std.specs.Prelude.{◌==◌, if◌then◌else◌}
use Rattle.gsl_words.specs.declared.module.Instr.{Instr}
use Rattle.gsl_words.specs.declared.module.Module.{Module}
use Rattle.gsl_instr.specs.declared.enumerant.decoration.TheConstants as decoration
use Rattle.gsl_instr.specs.declared.enumerant.execution_model.TheConstants as execution_model
use Rattle.gsl_instr.specs.declared.enumerant.storage_class.TheConstants as storage_class
use Rattle.gsl_valid.specs.Instruction.{read}
use Rattle.gsl_valid.specs.Kinds.{Kind, Asks, Imports, Sets, Enters, Modes, Debugs, Decorates, Declares, Fixes, Holds, Begins, Takes, Calls, Gives, Does, Opens, Merges, Leaves, Ended, Absent, Place, On, OnMember, kind}
use Rattle.gsl_valid.specs.Placed.{Code, placed, header_size}
use Rattle.gsl_valid.specs.Types.{defined_as}
use Rattle.gsl_valid.specs.Decorations.{has}
use Rattle.gsl_valid.specs.EntryRules.{class_of, gives_location, is_built_in_of, is_of_class, model_of, may_have_location, mark_kept, entry_of, entry_kept, entry}
use Rattle.gsl_ids.specs.Pass.{first_failed}
use Rattle.gsl_ids.proofs.Passes.{same_place}
use Rattle.gsl_ids.proofs.Stands.{Stands, at_start, one_on}
use Rattle.gsl_decorations.proofs.Fronts.{any_before}
use Rattle.gsl_valid_entry.specs.Stages.{entry_at}

module _ (m : Module) where
  abbrev Tells : Code → Code → Module → Type 0
  Tells before code n = (n ≡ m) × Stands m before code

  module _ (before code : Code) (s : Stands m before code) where
    abbrev front : Code
    front = take (length before) m.instrs

    by_literals : (target : ℕ) (literals : List ℕ) → may_have_location m front target literals ≡ may_have_location m before target literals
    by_literals target [] = refl
    by_literals target (location ∷ literals) =
        let model = model_of m.instrs in
        let class = class_of (defined_as m target) in
        ap (λ b. not (model == execution_model.GL_COMPUTE) && not b && (not (model == execution_model.FRAGMENT && is_of_class storage_class.INPUT class) || has m decoration.FLAT target))
        (any_before (λ i. gives_location m class location (read i)) m before code s)

    by_place : (kind : ℕ) (literals : List ℕ) (place : Place) → mark_kept m front kind literals place ≡ mark_kept m before kind literals place
    by_place kind literals (On target) =
        ap (λ b. if kind == decoration.LOCATION then b else if kind == decoration.BUILT_IN then is_built_in_of m literals (defined_as m target) else true) (by_literals target literals)
    by_place kind literals (OnMember target member) = refl

    by_kind : (k : Kind) → entry_of m front k ≡ entry_of m before k
    by_kind Asks = refl
    by_kind Imports = refl
    by_kind Sets = refl
    by_kind (Enters model function name interface) = refl
    by_kind (Modes function mode parts) = refl
    by_kind Debugs = refl
    by_kind (Decorates d) = by_place d.kind d.literals d.place
    by_kind (Declares shape) = refl
    by_kind (Fixes type value) = refl
    by_kind (Holds v) = refl
    by_kind (Begins type id function_type) = refl
    by_kind (Takes type) = refl
    by_kind (Calls type function arguments) = refl
    by_kind (Gives type) = refl
    by_kind Does = refl
    by_kind Opens = refl
    by_kind Merges = refl
    by_kind Leaves = refl
    by_kind Ended = refl
    by_kind Absent = refl

  agrees : (before code : Code) (n : Module) (i : Instr) → Tells before (i ∷ code) n → entry_at n (length before) i ≡ entry_kept m before i
  agrees before code n i t = ap (λ n. entry_at n (length before) i) t.0 ∙ by_kind before (i ∷ code) t.1 (kind (read i))

  goes_on : (before code : Code) (n : Module) (i : Instr) → Tells before (i ∷ code) n → entry_kept m before i ≡ true → Tells (i ∷ before) code n
  goes_on before code n i t passed = (t.0, one_on m before code i t.1)

  pub finds : first_failed entry_at (λ (n : Module) (at : ℕ) (i : Instr). n) m 0 (placed m) ≡ entry m
  finds =
      same_place entry_at (λ (n : Module) (at : ℕ) (i : Instr). n) (entry_kept m) Tells agrees goes_on [] m 0 header_size m.instrs refl (refl, at_start m)
