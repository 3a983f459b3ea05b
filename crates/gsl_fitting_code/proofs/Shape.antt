-- The shape of functions (V10), and their section and numbers (V1).
use Rattle.std.proofs.Common.{◌≡◌, ℕ, Bool, true, ◌&&◌, drop, refl, sym, ap, ◌∙◌, inl, inr}
use Rattle.std.proofs.lemmas.Bool.{and_from, true≢false}
use Rattle.gsl_words.specs.declared.module.Instr.{Instr}
use Rattle.gsl_words.specs.declared.module.Module.{Module}
use Rattle.gsl_instr.specs.declared.enumerant.storage_class.TheConstants as storage_class
use Rattle.gsl_valid.specs.FunctionRules.{behind, in_block, in_shape, may_stand_here}
use Rattle.gsl_valid.specs.Instruction.{is_such, read}
use Rattle.gsl_valid.specs.Kinds as kinds
use Rattle.gsl_valid.specs.Kinds.{Kind, kind}
use Rattle.gsl_valid.specs.Placed.{Code}
use Rattle.gsl_valid.specs.Search.{from_here}
use Rattle.gsl_valid.specs.Sections.{has_numbers, in_section, may_come}
use Rattle.gsl_valid.specs.Where.{Standing, functions, section_in, where_at}
use Rattle.gsl_fitting.specs.Fits.{works}
use Rattle.gsl_fitting_code.proofs.Places.{Plays, Sat, standing_at}
use Rattle.gsl_fitting_code.proofs.Places.Plays.{starting, parameter, opening, variable, inside, ending}

works_stands : (m : Module) (later : Code) (s : Standing) (k : Kind) → works k ≡ true → in_block s ≡ true → may_stand_here m later s k ≡ true
works_stands m later s (kinds.Calls type function arguments) h is = is
works_stands m later s (kinds.Gives type) h is = is
works_stands m later s kinds.Does h is = is
works_stands m later s _ h is = absurd (true≢false (sym h))

works_section : (k : Kind) → works k ≡ true → section_in true k ≡ functions
works_section (kinds.Calls type function arguments) h = refl
works_section (kinds.Gives type) h = refl
works_section kinds.Does h = refl
works_section _ h = absurd (true≢false (sym h))

module _ (m : Module) (rank : ℕ → ℕ) where
  abbrev At : Code → Kind → Bool
  At before k = may_stand_here m (drop 1 (from_here m before)) (standing_at m before) k

  pub shape_passes : (before : Code) (i : Instr) → Plays m rank before i → in_shape m before i ≡ true
  shape_passes before i (starting p) = ap (λ d. At before (kind d)) p.reads ∙ and_from _ _ p.standing p.result
  shape_passes before i (parameter p) = ap (λ d. At before (kind d)) p.reads ∙ p.standing
  shape_passes before i (opening p) = ap (λ d. At before (kind d)) p.reads ∙ p.standing
  shape_passes before i (variable p) =
      ap (λ d. At before (kind d)) p.holds.reads
      ∙ ap (λ s. may_stand_here m (drop 1 (from_here m before)) s (kinds.Holds (record { type = p.holds.type; id = p.holds.id; class = storage_class.FUNCTION; initialiser = p.holds.initialiser }))) p.standing
      ∙ p.holds.holds
  shape_passes before i (inside p) = elim p.is [
    | inl work ↦ works_stands m (drop 1 (from_here m before)) (standing_at m before) (kind (read i)) work p.block.standing
    | inr more ↦ elim more [ inl leaves ↦ ap (At before) leaves ∙ p.block.standing | inr merges ↦ ap (At before) merges.0 ∙ and_from _ _ p.block.standing merges.1 ]
  ]
  shape_passes before i (ending p) = ap (λ d. At before (kind d)) p.reads ∙ ap behind p.standing

  comes : (before : Code) (k : Kind) → (where_at m before).section ≡ functions → (where_at m before).inside ≡ true → section_in true k ≡ functions → may_come (where_at m before).section (section_in (where_at m before).inside k) ≡ true
  comes before k section in_it is = ap (λ b. may_come (where_at m before).section (section_in b k)) in_it ∙ ap (may_come (where_at m before).section) is ∙ ap (λ n. may_come n functions) section

  pub section_passes : (before : Code) (i : Instr) → Plays m rank before i → in_section m before i ≡ true
  section_passes before i (starting p) = ap (λ d. may_come (where_at m before).section (section_in (where_at m before).inside (kind d)) && is_such (has_numbers m) d) p.reads ∙ and_from _ _ p.section refl
  section_passes before i (parameter p) = and_from _ _ (comes before (kind (read i)) p.within.section p.within.inside (ap (λ d. section_in true (kind d)) p.reads)) (ap (is_such (has_numbers m)) p.reads)
  section_passes before i (opening p) = and_from _ _ (comes before (kind (read i)) p.within.section p.within.inside (ap (λ d. section_in true (kind d)) p.reads)) (ap (is_such (has_numbers m)) p.reads)
  section_passes before i (variable p) = and_from _ _ (comes before (kind (read i)) p.within.section p.within.inside (ap (λ d. section_in true (kind d)) p.holds.reads)) (ap (is_such (has_numbers m)) p.holds.reads)
  section_passes before i (inside p) = and_from _ _ (comes before (kind (read i)) p.block.within.section p.block.within.inside (sat_section p)) p.sits.numbers
    where
      sat_section : Sat m rank before i → section_in true (kind (read i)) ≡ functions
      sat_section p = elim p.is [ inl work ↦ works_section (kind (read i)) work | inr more ↦ elim more [ inl leaves ↦ ap (section_in true) leaves | inr merges ↦ ap (section_in true) merges.0 ] ]
  section_passes before i (ending p) = and_from _ _ (comes before (kind (read i)) p.within.section p.within.inside (ap (λ d. section_in true (kind d)) p.reads)) (ap (is_such (has_numbers m)) p.reads)
