-- The module of sound sections keeps the rule of the entry point (V9).
use Rattle.std.proofs.Common.{◌≡◌, ℕ, true, false, not, List, [], ◌∷◌, ◌++◌, Option, Some, None, refl, sym, ap, ◌∙◌, subst, inl, inr}
use Rattle.std.specs.Prelude.{filter_map, is_some}
use Rattle.std.specs.List.{AllByRecursion, list_any}
use Rattle.std.proofs.lemmas.Bool.{and_from, not_from_false, true≢false}
use Rattle.gsl_base.specs.declared.stage.Stage.{Stage}
use Rattle.gsl_base.specs.declared.stage.Stage.TheVariants.{Vertex, Fragment, Compute}
use Rattle.gsl_words.specs.declared.module.Instr.{Instr}
use Rattle.gsl_words.specs.declared.module.Module.{Module}
use Rattle.gsl_instr.specs.Forms.{form_of}
use Rattle.gsl_valid.specs.EntryRules as entry
use Rattle.gsl_valid.specs.EntryRules.{Mode, are_modes, entry_kept, entry_of, interface_id, interface_variable, is_call_of, is_uncalled, lists_each, main_words, mode_in, mode_of, modes_of}
use Rattle.gsl_valid.specs.IdsDefinedOnce.{defines_once}
use Rattle.gsl_valid.specs.Instruction.{read}
use Rattle.gsl_valid.specs.Kinds as kinds
use Rattle.gsl_valid.specs.Kinds.{Kind, kind, variable_in}
use Rattle.gsl_valid.specs.Placed.{Code}
use Rattle.gsl_valid.specs.Search.{Passes, passed}
use Rattle.gsl_valid.proofs.Searching.{none_broken}
use Rattle.gsl_spv.specs.Finished as finished
use Rattle.gsl_spv.specs.Finished.{module_of}
use Rattle.gsl_spv.specs.Once.{interface_of}
use Rattle.gsl_spv.specs.Sections.{Sections}
use Rattle.gsl_fitting.specs.Fits.{works}
use Rattle.gsl_fitting_code.specs.Kept.{is_outer}
use Rattle.gsl_fitting_code.proofs.Fronts.{outside_is}
use Rattle.gsl_fitting_code.proofs.Nests.{passes_split}
use Rattle.gsl_fitting_code.proofs.Places.{Plays}
use Rattle.gsl_fitting_code.proofs.Places.Plays.{starting, parameter, opening, variable, inside, ending}
use Rattle.gsl_fitting_code.proofs.Quiet as quiet
use Rattle.gsl_fitting_code.proofs.Walk.{functions_pass}
use Rattle.gsl_fitting_sections.specs.Sections.{AreSound, IsDeclaration, IsDecoration, IsName}
use Rattle.gsl_fitting_valid.proofs.Entry.{any_both, any_none, declares_no_mode, entries_pass, filter_append, filter_none, head_modes, modes_fit, outer_no_call, passes_all, the_modes}
use Rattle.gsl_fitting_valid.proofs.Interface.{interface_differs, listed, same_interface}
use Rattle.gsl_fitting_sections.proofs.Marks.{precedes_variable}
use Rattle.gsl_fitting_sections.proofs.Once.{once_kept}
use Rattle.gsl_fitting_sections.proofs.Outside.{precedes}
use Rattle.gsl_fitting_sections.proofs.Parts.{front, head_of}
use Rattle.gsl_fitting_sections.proofs.Whole.{all_all, all_each, before_globals, front_outer, is_front, m, marked_precede, passes_by, stands, top}

-- the heads pass, where the entry point does
head_entry : (m : Module) (main : ℕ) (local_size : List ℕ) (set : Option ℕ) (stage : Stage) (interface : List ℕ) → ((before : Code) → entry_of m before (kinds.Enters (finished.model_of stage) main main_words interface) ≡ true)
    → Passes (entry_kept m) [] (head_of main local_size set stage interface)
unfolding form_of
head_entry m main local_size None Vertex interface kept = (refl, (refl, (kept [], tt)))
head_entry m main local_size None Fragment interface kept = (refl, (refl, (kept [], (refl, tt))))
head_entry m main local_size None Compute interface kept = (refl, (refl, (kept [], (refl, tt))))
head_entry m main local_size (Some set) Vertex interface kept = (refl, (refl, (refl, (kept [], tt))))
head_entry m main local_size (Some set) Fragment interface kept = (refl, (refl, (refl, (kept [], (refl, tt)))))
head_entry m main local_size (Some set) Compute interface kept = (refl, (refl, (refl, (kept [], (refl, tt)))))

-- no instruction of a function is a mode
works_no_mode : (k : Kind) → works k ≡ true → mode_in k ≡ None
works_no_mode (kinds.Modes function mode parts) h = absurd (true≢false (sym h))
works_no_mode _ h = refl

inner_no_mode : (m : Module) (rank : ℕ → ℕ) (before : Code) (i : Instr) → Plays m rank before i → mode_of (read i) ≡ None
inner_no_mode m rank before i (starting p) = ap mode_of p.reads
inner_no_mode m rank before i (parameter p) = ap mode_of p.reads
inner_no_mode m rank before i (opening p) = ap mode_of p.reads
inner_no_mode m rank before i (variable p) = ap mode_of p.holds.reads
inner_no_mode m rank before i (inside p) = elim p.is [ inl work ↦ works_no_mode (kind (read i)) work | inr more ↦ elim more [ inl leaves ↦ ap mode_in leaves | inr merges ↦ ap mode_in merges.0 ] ]
inner_no_mode m rank before i (ending p) = ap mode_of p.reads

is_none : (o : Option Mode) → not (is_some o) ≡ true → o ≡ None
is_none None h = refl
is_none (Some v) h = absurd (true≢false (sym h))

module _ (s : Sections) (main : ℕ) (local_size : List ℕ) (sound : AreSound s main local_size) where
  abbrev n : Module
  n = module_of s main local_size

  interface_is : entry.interface_of n ≡ interface_of s.globals
  interface_is =
      let f = λ (i : Instr). interface_variable (read i) in
      let before = top s main local_size sound ++ s.names ++ s.decorations in
      ap (filter_map f) (outside_is (stands s main local_size sound)) ∙ filter_append f before s.globals
      ∙ ap (λ l. l ++ filter_map f s.globals)
      (filter_none f before (all_all (λ i. f i ≡ None) (λ i. precedes (kind (read i)) ≡ true) (λ i h. ap interface_id (precedes_variable (kind (read i)) h)) before (marked_precede s main local_size sound)))
      ∙ same_interface s.globals

  once_globals : Passes (defines_once n.bound) (before_globals s main local_size sound) s.globals
  once_globals =
      let test = defines_once n.bound in
      let whole = subst (Passes test []) (is_front s main local_size sound) (once_kept s main local_size sound.set sound.imports sound.apart) in
      (passes_split test [] (top s main local_size sound ++ s.names ++ s.decorations) s.globals (passes_split test [] (front s main local_size sound.set) s.functions whole).0).1

  no_modes : AllByRecursion (λ i. mode_of (read i) ≡ None) s.functions
  no_modes =
      let p = λ (i : Instr). not (is_some (mode_of (read i))) in
      all_all (λ i. mode_of (read i) ≡ None) (λ i. p i ≡ true) (λ i h. is_none (mode_of (read i)) h) s.functions
      (passes_all p (passed [] (front s main local_size sound.set)) s.functions
      (functions_pass (stands s main local_size sound) (λ b i. p i) (λ before i plays. ap (λ o. not (is_some o)) (inner_no_mode n sound.rank before i plays))))

  modes_are : modes_of n ≡ the_modes main local_size s.stage
  modes_are =
      let f = λ (i : Instr). mode_of (read i) in
      let P = λ (i : Instr). mode_of (read i) ≡ None in
      let first = top s main local_size sound in
      let named = filter_none f s.names (all_all P (IsName n) (λ i x. ap mode_in x.is) s.names sound.names) in
      let marked = filter_none f s.decorations (all_each P (IsDecoration n) (λ b i x. ap mode_in x.is) [] s.decorations sound.decorations) in
      let declared = filter_none f s.globals (all_each P (IsDeclaration n) (λ b i x. declares_no_mode (kind (read i)) x.is) [] s.globals sound.globals) in
      let heads = head_modes main local_size sound.set s.stage (interface_of s.globals) in
      ap (filter_map f) (is_front s main local_size sound)
      ∙ filter_append f (first ++ s.names ++ s.decorations ++ s.globals) s.functions
      ∙ ap (λ l. filter_map f (first ++ s.names ++ s.decorations ++ s.globals) ++ l) (filter_none f s.functions no_modes)
      ∙ ap (λ l. l ++ []) (filter_append f (first ++ s.names ++ s.decorations) s.globals ∙ ap (λ l. filter_map f (first ++ s.names ++ s.decorations) ++ l) declared)
      ∙ ap (λ l. l ++ [] ++ []) (filter_append f (first ++ s.names) s.decorations ∙ ap (λ l. filter_map f (first ++ s.names) ++ l) marked)
      ∙ ap (λ l. l ++ [] ++ [] ++ []) (filter_append f first s.names ∙ ap (λ l. filter_map f first ++ l) named)
      ∙ ap (λ l. l ++ [] ++ [] ++ [] ++ []) heads
      ∙ nothing (the_modes main local_size s.stage)
    where
      nothing : (l : List Mode) → l ++ [] ++ [] ++ [] ++ [] ≡ l
      nothing [] = refl
      nothing (x ∷ l) = ap (λ l. x ∷ l) (nothing l)

  uncalled : is_uncalled n main ≡ true
  uncalled =
      let p = λ (i : Instr). is_call_of main (read i) in
      let whole = front s main local_size sound.set in
      not_from_false _
      (ap (list_any p) (is_front s main local_size sound)
      ∙ any_both p whole s.functions (any_none p whole (all_all (λ i. p i ≡ false) (λ i. is_outer (kind (read i)) ≡ true) (λ i h. outer_no_call main (kind (read i)) h) whole (front_outer s main local_size sound))) sound.uncalled)

  entry_fits : (before : Code) → entry_of n before (kinds.Enters (finished.model_of s.stage) main main_words (interface_of s.globals)) ≡ true
  entry_fits before =
      let ids = interface_of s.globals in
      and_from _ _
      (and_from _ _ (and_from _ _ (and_from _ _ refl sound.main_is) uncalled) (ap (λ l. lists_each l ids) interface_is ∙ listed ids (interface_differs n.bound (before_globals s main local_size sound) s.globals once_globals)))
      (ap (are_modes (finished.model_of s.stage) main) modes_are ∙ modes_fit main local_size s.stage sound.sizes)

  pub entry_none : entry.entry n ≡ None
  entry_none =
      none_broken (entry_kept n) n
      (passes_by s main local_size sound (entry_kept n) (head_entry n main local_size sound.set s.stage (interface_of s.globals) entry_fits) (entries_pass n) (quiet.entries_pass n sound.rank))
