-- Decorations stand where they may, and variables have those that they need (V7).
use Rattle.std.proofs.Common.{◌≡◌, Bool, true, false, not, ◌&&◌, ◌||◌, [], ◌∷◌, ◌++◌, Option, Some, None, refl, sym, ap, ◌∙◌, if◌then◌else◌}
use Rattle.std.specs.Prelude.{◌==◌}
use Rattle.std.specs.List.{AllByRecursion, list_any}
use Rattle.std.specs.Option.{option_map_or}
use Rattle.std.proofs.lemmas.Bool.{and_from, or_from, or_right, true≢false}
use Rattle.gsl_words.specs.declared.module.Instr.{Instr}
use Rattle.gsl_words.specs.declared.module.Module.{Module}
use Rattle.gsl_instr.specs.declared.enumerant.decoration.TheConstants as decoration
use Rattle.gsl_instr.specs.declared.enumerant.storage_class.TheConstants as storage_class
use Rattle.gsl_valid.specs.DecorationRules.{decorated, decoration_kept, differ, has_literals, is_bound_to, is_bound_variable, may_stand, pointee, variable_decorated}
use Rattle.gsl_valid.specs.Decorations.{has, number_on, stands_on}
use Rattle.gsl_valid.specs.Instruction.{read}
use Rattle.gsl_valid.specs.Kinds as kinds
use Rattle.gsl_valid.specs.Kinds.{Decoration, Kind, Variable, decoration_in, decoration_of, kind, variable_in, variable_is}
use Rattle.gsl_valid.specs.Placed.{Code}
use Rattle.gsl_valid.specs.Types.{is_variable_of, variable_of}
use Rattle.gsl_valid.specs.Where.{where_at}
use Rattle.gsl_fitting_sections.specs.Sections.{declares, has_marks}
use Rattle.gsl_fitting_sections.proofs.Firsts.{any_append}
use Rattle.gsl_fitting_sections.proofs.Outside.{Lies, heads, precedes, unmarked}
use Rattle.gsl_fitting_sections.proofs.Outside.Lies.{headed, named, marked, declared}
use Rattle.gsl_fitting_sections.proofs.Plain.{heads_precedes}

pub unmarked_none : (k : Kind) → unmarked k ≡ true → decoration_in k ≡ None
unmarked_none (kinds.Decorates d) h = absurd (true≢false (sym h))
unmarked_none _ h = refl

heads_unmarked : (k : Kind) → heads k ≡ true → unmarked k ≡ true
heads_unmarked kinds.Asks h = refl
heads_unmarked kinds.Imports h = refl
heads_unmarked kinds.Sets h = refl
heads_unmarked (kinds.Enters model function name interface) h = refl
heads_unmarked (kinds.Modes function mode parts) h = refl
heads_unmarked _ h = absurd (true≢false (sym h))

declares_none : (k : Kind) → declares k ≡ true → decoration_in k ≡ None
declares_none (kinds.Decorates d) h = absurd (true≢false (sym h))
declares_none _ h = refl

pub precedes_variable : (k : Kind) → precedes k ≡ true → variable_in k ≡ None
precedes_variable (kinds.Holds v) h = absurd (true≢false (sym h))
precedes_variable _ h = refl

-- what looks at decorations, or at variables, finds none
pub none_marked : (p : Option Decoration → Bool) → p None ≡ false → (base : Code) → AllByRecursion (λ j. unmarked (kind (read j)) ≡ true) base → list_any (λ j. p (decoration_of (read j))) base ≡ false
none_marked p none [] all = refl
none_marked p none (j ∷ base) all = or_from _ _ (ap p (unmarked_none (kind (read j)) all.0) ∙ none) (none_marked p none base all.1)

none_held : (p : Option Variable → Bool) → p None ≡ false → (base : Code) → AllByRecursion (λ j. precedes (kind (read j)) ≡ true) base → list_any (λ j. p (variable_is (read j))) base ≡ false
none_held p none [] all = refl
none_held p none (j ∷ base) all = or_from _ _ (ap p (precedes_variable (kind (read j)) all.0) ∙ none) (none_held p none base all.1)

module _ (m : Module) where
  -- what a variable needs, where it is said whether another is bound as it is, and whether another is a push constant
  marks_by : Bool → Bool → Variable → Bool
  marks_by bound pushed v =
      if v.class == storage_class.UNIFORM
      then differ (has m decoration.BLOCK (pointee m v.type)) (has m decoration.BUFFER_BLOCK (pointee m v.type)) && (has m decoration.DESCRIPTOR_SET v.id && has m decoration.BINDING v.id && not bound)
      else if v.class == storage_class.STORAGE_BUFFER
      then has m decoration.BLOCK (pointee m v.type) && (has m decoration.DESCRIPTOR_SET v.id && has m decoration.BINDING v.id && not bound)
      else if v.class == storage_class.PUSH_CONSTANT
      then has m decoration.BLOCK (pointee m v.type) && not pushed
      else if v.class == storage_class.INPUT || v.class == storage_class.OUTPUT
      then differ (has m decoration.LOCATION v.id) (has m decoration.BUILT_IN v.id)
      else true

  bound_in : Variable → Code → Bool
  bound_in v before = list_any (λ i. is_bound_to m (number_on m decoration.DESCRIPTOR_SET v.id) (number_on m decoration.BINDING v.id) (read i)) before

  pushed_in : Code → Bool
  pushed_in before = list_any (λ i. variable_of storage_class.PUSH_CONSTANT (read i)) before

  marks_are : (before : Code) (v : Variable) → has_marks m before v ≡ marks_by (bound_in v before) (pushed_in before) v
  unfolding marks_by bound_in pushed_in
  marks_are before v = refl

  marks_behind : (earlier base : Code) (v : Variable) → AllByRecursion (λ j. precedes (kind (read j)) ≡ true) base → has_marks m (earlier ++ base) v ≡ has_marks m earlier v
  unfolding bound_in pushed_in
  marks_behind earlier base v none =
      let bound = any_append (λ i. is_bound_to m (number_on m decoration.DESCRIPTOR_SET v.id) (number_on m decoration.BINDING v.id) (read i)) earlier base
      (none_held (is_bound_variable m (number_on m decoration.DESCRIPTOR_SET v.id) (number_on m decoration.BINDING v.id)) refl base none) in
      let pushed = any_append (λ i. variable_of storage_class.PUSH_CONSTANT (read i)) earlier base (none_held (is_variable_of storage_class.PUSH_CONSTANT) refl base none) in
      marks_are (earlier ++ base) v ∙ ap (λ b. marks_by b (pushed_in (earlier ++ base)) v) bound ∙ ap (λ b. marks_by (bound_in v earlier) b v) pushed ∙ sym (marks_are earlier v)

  no_marks : (before : Code) (i : Instr) → decoration_in (kind (read i)) ≡ None → option_map_or (decoration_kept m before) (decoration_of (read i)) true ≡ true
  no_marks before i none = ap (λ d. option_map_or (decoration_kept m before) d true) none

  no_variable : (before : Code) (i : Instr) → variable_in (kind (read i)) ≡ None → variable_decorated m before (variable_is (read i)) ≡ true
  no_variable before i none = ap (variable_decorated m before) none

  kept_behind : (earlier base : Code) (d : Decoration) → AllByRecursion (λ j. unmarked (kind (read j)) ≡ true) base → decoration_kept m (earlier ++ base) d ≡ decoration_kept m earlier d
  kept_behind earlier base d none =
      ap (λ b. may_stand m d.kind d.place && has_literals d.kind d.literals && not b)
      (any_append (λ i. option_map_or (stands_on d.place d.kind) (decoration_of (read i)) false) earlier base (none_marked (λ o. option_map_or (stands_on d.place d.kind) o false) refl base none))

  pub decorations_pass : (before : Code) (i : Instr) → Lies m before i → decorated m before i ≡ true
  decorations_pass before i (headed p) = and_from _ _ (no_marks before i (unmarked_none (kind (read i)) (heads_unmarked (kind (read i)) p.is))) (no_variable before i (precedes_variable (kind (read i)) (heads_precedes (kind (read i)) p.is)))
  decorations_pass before i (named p) = and_from _ _ (no_marks before i (ap decoration_in p.name.is)) (no_variable before i (ap variable_in p.name.is))
  decorations_pass before i (marked p) =
      and_from _ _
      (ap (λ k. option_map_or (decoration_kept m before) (decoration_in k) true) p.mark.is ∙ ap (λ c. decoration_kept m c p.mark.decoration) p.is ∙ kept_behind p.earlier p.base p.mark.decoration p.none ∙ p.mark.kept)
      (no_variable before i (ap variable_in p.mark.is))
  decorations_pass before i (declared p) = and_from _ _ (no_marks before i (declares_none (kind (read i)) p.declaration.is)) (by_variable (variable_is (read i)) p.declaration.marked)
    where
      by_variable : (v : Option Variable) → option_map_or (has_marks m p.earlier) v true ≡ true → variable_decorated m before v ≡ true
      by_variable None h = refl
      by_variable (Some v) h = or_right (where_at m before).inside _ (ap (λ c. has_marks m c v) p.is ∙ marks_behind p.earlier p.base v p.none ∙ h)
