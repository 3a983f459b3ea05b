-- The entry point is as it has to be, and what locations and built-in variables decorations give (V9).
use Rattle.std.proofs.Common.{◌≡◌, ℕ, Bool, true, false, not, ◌&&◌, ◌||◌, List, [], ◌∷◌, ◌++◌, Option, Some, None, refl, sym, ap, ◌∙◌, if◌then◌else◌}
use Rattle.std.specs.Prelude.{◌==◌, filter_map}
use Rattle.std.specs.List.{AllByRecursion, cons_option, list_any}
use Rattle.std.proofs.lemmas.Bool.{and_from, eq-eqb, or_from, or_left, true≢false}
use Rattle.gsl_base.specs.declared.stage.Stage.{Stage}
use Rattle.gsl_base.specs.declared.stage.Stage.TheVariants.{Vertex, Fragment, Compute}
use Rattle.gsl_words.specs.declared.module.Instr.{Instr}
use Rattle.gsl_words.specs.declared.module.Module.{Module}
use Rattle.gsl_instr.specs.declared.enumerant.decoration.TheConstants as decoration
use Rattle.gsl_instr.specs.declared.enumerant.execution_mode.TheConstants as execution_mode
use Rattle.gsl_instr.specs.declared.enumerant.execution_model.TheConstants as execution_model
use Rattle.gsl_instr.specs.declared.enumerant.storage_class.TheConstants as storage_class
use Rattle.gsl_instr.specs.Forms.{form_of}
use Rattle.gsl_valid.specs.EntryRules.{Mode, are_modes, calls_it, class_of, entry_kept, entry_of, gives_location, is_call_of, is_main, is_of_class, is_uncalled, lists_each, locates_one, mark_kept, may_have_location, mode_in, mode_of, model_of, modes_of}
use Rattle.gsl_valid.specs.EntryRules as entry
use Rattle.gsl_valid.specs.Decorations.{has}
use Rattle.gsl_valid.specs.Instruction.{read}
use Rattle.gsl_valid.specs.Kinds as kinds
use Rattle.gsl_valid.specs.Kinds.{Kind, Place, decoration_of, kind}
use Rattle.gsl_valid.specs.Placed.{Code}
use Rattle.gsl_valid.specs.Search.{Passes}
use Rattle.gsl_valid.specs.Types.{defined_as}
use Rattle.gsl_spv.specs.Finished.{entry_point, modes, module_of}
use Rattle.gsl_spv.specs.Finished as finished
use Rattle.gsl_fitting_code.specs.Kept.{is_outer}
use Rattle.gsl_fitting_sections.specs.Sections.{HasSizes, declares}
use Rattle.gsl_fitting_sections.proofs.Firsts.{any_append}
use Rattle.gsl_fitting_sections.proofs.Marks.{none_marked}
use Rattle.gsl_fitting_sections.proofs.Outside.{Follows, unmarked}
use Rattle.gsl_fitting_sections.proofs.Parts.{head_of}

-- Decorations -------------------------------------------------------------------------------------------------------------

module _ (m : Module) where
  location_same : (earlier base : Code) (target : ℕ) (literals : List ℕ) → AllByRecursion (λ j. unmarked (kind (read j)) ≡ true) base → may_have_location m (earlier ++ base) target literals ≡ may_have_location m earlier target literals
  location_same earlier base target [] none = refl
  location_same earlier base target (location ∷ literals) none =
      let class = class_of (defined_as m target) in
      ap (λ b. not (model_of m.instrs == execution_model.GL_COMPUTE) && not b && (not (model_of m.instrs == execution_model.FRAGMENT && is_of_class storage_class.INPUT class) || has m decoration.FLAT target))
      (any_append (λ i. gives_location m class location (read i)) earlier base (none_marked (locates_one m class location) refl base none))

  mark_same : (earlier base : Code) (kind' : ℕ) (literals : List ℕ) (place : Place) → AllByRecursion (λ j. unmarked (kind (read j)) ≡ true) base → mark_kept m (earlier ++ base) kind' literals place ≡ mark_kept m earlier kind' literals place
  mark_same earlier base kind' literals (kinds.On target) none =
      ap (λ b. if kind' == decoration.LOCATION then b else if kind' == decoration.BUILT_IN then entry.is_built_in_of m literals (defined_as m target) else true) (location_same earlier base target literals none)
  mark_same earlier base kind' literals (kinds.OnMember target member) none = refl

  declares_entry : (before : Code) (k : Kind) → declares k ≡ true → entry_of m before k ≡ true
  declares_entry before (kinds.Enters model function name interface) h = absurd (true≢false (sym h))
  declares_entry before (kinds.Decorates d) h = absurd (true≢false (sym h))
  declares_entry before _ h = refl

  pub entries_pass : (before : Code) (i : Instr) → Follows m before i → entry_kept m before i ≡ true
  entries_pass before i (Follows.name p) = ap (entry_of m before) p.name.is
  entries_pass before i (Follows.mark p) =
      let d = p.mark.decoration in
      ap (entry_of m before) p.mark.is ∙ ap (λ c. mark_kept m c d.kind d.literals d.place) p.is ∙ mark_same p.earlier p.base d.kind d.literals d.place p.none ∙ p.mark.entry
  entries_pass before i (Follows.declaration p) = declares_entry before (kind (read i)) p.declaration.is

-- Collected from instructions --------------------------------------------------------------------------------------------

module _ {A : Type 0} (f : Instr → Option A) where
  pub filter_append : (a b : Code) → filter_map f (a ++ b) ≡ filter_map f a ++ filter_map f b
  filter_append [] b = refl
  filter_append (i ∷ a) b = by_case (f i) (filter_map f (a ++ b)) (filter_map f a) (filter_map f b) (filter_append a b)
    where
      by_case : (o : Option A) (x y z : List A) → x ≡ y ++ z → cons_option o x ≡ cons_option o y ++ z
      by_case None x y z e = e
      by_case (Some v) x y z e = ap (λ l. v ∷ l) e

  pub filter_none : (code : Code) → AllByRecursion (λ i. f i ≡ None) code → filter_map f code ≡ []
  filter_none [] all = refl
  filter_none (i ∷ code) all = ap (λ o. cons_option o (filter_map f code)) all.0 ∙ filter_none code all.1

pub any_none : (p : Instr → Bool) (code : Code) → AllByRecursion (λ i. p i ≡ false) code → list_any p code ≡ false
any_none p [] all = refl
any_none p (i ∷ code) all = or_from _ _ all.0 (any_none p code all.1)

-- what passes a test that does not look behind, has it
pub passes_all : (p : Instr → Bool) (before code : Code) → Passes (λ b i. p i) before code → AllByRecursion (λ i. p i ≡ true) code
passes_all p before [] all = tt
passes_all p before (i ∷ code) all = (all.0, passes_all p (i ∷ before) code all.1)

-- Modes -------------------------------------------------------------------------------------------------------------------

module _ (main : ℕ) (local_size : List ℕ) where
  pub the_modes : Stage → List Mode
  the_modes Vertex = []
  the_modes Fragment = record { function = main; mode = execution_mode.ORIGIN_UPPER_LEFT; parts = [] } ∷ []
  the_modes Compute = record { function = main; mode = execution_mode.LOCAL_SIZE; parts = local_size } ∷ []

  pub head_modes : (set : Option ℕ) (stage : Stage) (interface : List ℕ) → filter_map (λ i. mode_of (read i)) (head_of main local_size set stage interface) ≡ the_modes stage
  unfolding form_of the_modes
  head_modes None Vertex interface = refl
  head_modes None Fragment interface = refl
  head_modes None Compute interface = refl
  head_modes (Some set) Vertex interface = refl
  head_modes (Some set) Fragment interface = refl
  head_modes (Some set) Compute interface = refl

  pub modes_fit : (stage : Stage) → HasSizes stage local_size → are_modes (finished.model_of stage) main (the_modes stage) ≡ true
  unfolding the_modes
  modes_fit Vertex sizes = refl
  modes_fit Fragment sizes = and_from _ _ (eq-eqb main main refl) refl
  modes_fit Compute sizes = and_from _ _ (eq-eqb main main refl) (or_left _ _ (and_from _ _ refl sizes.1))

pub outer_no_call : (main : ℕ) (k : Kind) → is_outer k ≡ true → calls_it main k ≡ false
outer_no_call main (kinds.Calls type function arguments) h = absurd (true≢false (sym h))
outer_no_call main _ h = refl

pub declares_no_mode : (k : Kind) → declares k ≡ true → mode_in k ≡ None
declares_no_mode (kinds.Modes function mode parts) h = absurd (true≢false (sym h))
declares_no_mode _ h = refl

pub any_both : (p : Instr → Bool) (a b : Code) → list_any p a ≡ false → list_any p b ≡ false → list_any p (a ++ b) ≡ false
any_both p a b x y = any_append p a b y ∙ x
