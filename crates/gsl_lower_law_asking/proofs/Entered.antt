-- The stage of the entry point of a module.
use Rattle.std.proofs.Common.{◌≡◌, refl, sym, ap, ◌∙◌, subst, ℕ, ◌+◌, Bool, true, ◌&&◌, ◌||◌, if◌then◌else◌, List, [], ◌∷◌, ◌++◌, append_assoc, arith}
use Rattle.std.specs.Prelude.{◌==◌, nat_le}
use Rattle.std.specs.List.{AllByRecursion}
use Rattle.std.proofs.lemmas.Bool.{and_parts, false≢true}
use Rattle.gsl_base.specs.declared.stage.Stage.{Stage}
use Rattle.gsl_base.specs.declared.stage.Stage.TheVariants.{Vertex, Fragment, Compute}
use Rattle.gsl_instr.specs.Forms.{form_of}
use Rattle.gsl_words.specs.declared.module.Instr.{Instr}
use Rattle.gsl_words.specs.declared.module.Module.{Module}
use Rattle.gsl_owed.specs.Places.{model}
use Rattle.gsl_valid.specs.EntryRules.{model_in, model_of, model_or}
use Rattle.gsl_valid.specs.Instruction.{is_such, read}
use Rattle.gsl_valid.specs.Kinds.{Kind, Enters, kind}
use Rattle.gsl_valid.specs.Placed.{Code}
use Rattle.gsl_valid.specs.Sections.{has_numbers, may_come}
use Rattle.gsl_valid.specs.Valid.{Valid}
use Rattle.gsl_valid.specs.Where.{section_in, section_of, where_at}
use Rattle.gsl_sound_code.specs.Rules.{KeepAll}
use Rattle.gsl_sound_code.proofs.Looks.{kept}
use Rattle.gsl_spv.specs.Finished.{capabilities, entry_point, memory_models, modes, module_of}
use Rattle.gsl_spv.specs.Once.{interface_of}
use Rattle.gsl_spv.specs.Sections.{Sections}

-- An instruction is no entry point.
abbrev EntersNone : Instr → Type 0
EntersNone i = (later : ℕ) → model_or later (read i) ≡ later

module _ (m : Module) where
  -- sections come in their order: behind an entry point there is no memory model
  behind_entry : (reached section : ℕ) → nat_le 4 reached ≡ true → may_come reached section ≡ true → nat_le 5 section ≡ true
  behind_entry reached section late come =
      let here : (nat_le 5 section && nat_le reached section) ≡ true = ap (λ b. if b then nat_le 5 section && nat_le reached section else (section == reached + 1 || section == 3 && reached == 1)) (sym late) ∙ come in
      (and_parts (nat_le 5 section) (nat_le reached section) here).0

  late : (section : ℕ) → nat_le 5 section ≡ true → nat_le 4 section ≡ true
  late section is = grind (arith, is)

  none_later : (before more rest : Code) (memory : Instr) → ((inside : Bool) → section_of inside (read memory) ≡ 3) → KeepAll m before (more ++ memory ∷ rest) → nat_le 4 (where_at m before).section ≡ true → ⊥
  none_later before [] rest memory is keep entered =
      let come = (and_parts (may_come (where_at m before).section (section_of (where_at m before).inside (read memory))) (is_such (has_numbers m) (read memory)) keep.0.section).0 in
      false≢true (ap (nat_le 5) (sym (is (where_at m before).inside)) ∙ behind_entry (where_at m before).section _ entered come)
  none_later before (i ∷ more) rest memory is keep entered =
      let come = (and_parts (may_come (where_at m before).section (section_of (where_at m before).inside (read i))) (is_such (has_numbers m) (read i)) keep.0.section).0 in
      none_later (i ∷ before) more rest memory is keep.1 (late _ (behind_entry (where_at m before).section _ entered come))

  none_entered : (before more rest : Code) (memory : Instr) → ((inside : Bool) → section_of inside (read memory) ≡ 3) → KeepAll m before (more ++ memory ∷ rest) → AllByRecursion EntersNone more
  none_entered before [] rest memory is keep = tt
  none_entered before (i ∷ more) rest memory is keep = (by (kind (read i)) refl, none_entered (i ∷ before) more rest memory is keep.1)
    where
      by : (k : Kind) → kind (read i) ≡ k → (later : ℕ) → model_in later k ≡ later
      by (Enters entry function name interface) here later = absurd (none_later (i ∷ before) more rest memory is keep.1 (ap (λ k. nat_le 4 (section_in (where_at m before).inside k)) here))
      by _ here later = refl

-- what no entry point stands in front of
model_behind : (front code : Code) → AllByRecursion EntersNone front → model_of (front ++ code) ≡ model_of code
model_behind [] code all = refl
model_behind (i ∷ front) code all = all.0 (model_of (front ++ code)) ∙ model_behind front code all.1

module _ (s : Sections) (main : ℕ) (size : List ℕ) (valid : Valid (module_of s main size)) where
  abbrev m : Module
  m = module_of s main size

  abbrev entry : Instr
  entry = entry_point s.stage main (interface_of s.globals)

  abbrev rest : Code
  rest = modes s.stage main size ++ (s.names ++ (s.decorations ++ (s.globals ++ s.functions)))

  in_parts : (a b c d e f g h i : Code) → a ++ b ++ c ++ d ++ e ++ f ++ g ++ h ++ i ≡ a ++ (b ++ (c ++ (d ++ (e ++ (f ++ (g ++ (h ++ i)))))))
  in_parts a b c d e f g h i =
      append_assoc (a ++ b ++ c ++ d ++ e ++ f ++ g) h i ∙ append_assoc (a ++ b ++ c ++ d ++ e ++ f) g (h ++ i) ∙ append_assoc (a ++ b ++ c ++ d ++ e) f (g ++ (h ++ i)) ∙ append_assoc (a ++ b ++ c ++ d) e (f ++ (g ++ (h ++ i)))
      ∙ append_assoc (a ++ b ++ c) d (e ++ (f ++ (g ++ (h ++ i)))) ∙ append_assoc (a ++ b) c (d ++ (e ++ (f ++ (g ++ (h ++ i))))) ∙ append_assoc a b (c ++ (d ++ (e ++ (f ++ (g ++ (h ++ i))))))

  instrs_are : m.instrs ≡ capabilities ++ (s.imports ++ (memory_models ++ (entry ∷ [] ++ rest)))
  instrs_are = in_parts capabilities s.imports memory_models (entry ∷ []) (modes s.stage main size) s.names s.decorations s.globals s.functions

  same_model : (stage : Stage) → model_of (entry_point stage main (interface_of s.globals) ∷ rest) ≡ model stage
  unfolding form_of
  same_model Vertex = refl
  same_model Fragment = refl
  same_model Compute = refl

  -- the module has the stage of its sections
  pub stage_is : model_of m.instrs ≡ model s.stage
  unfolding form_of
  stage_is =
      let keep = subst (KeepAll m []) instrs_are (kept m valid).all in
      ap model_of instrs_are ∙ model_behind s.imports (memory_models ++ (entry ∷ [] ++ rest)) (none_entered m _ s.imports (entry ∷ [] ++ rest) _ (λ inside. refl) keep.1) ∙ same_model s.stage
