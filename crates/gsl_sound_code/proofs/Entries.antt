-- A valid module enters a function.
use Rattle.std.proofs.Common.{◌≡◌, refl, sym, ap, ◌∙◌, subst, ℕ, ◌+◌, ◌<◌, Bool, true, false, ◌&&◌, ◌||◌, if◌then◌else◌, nat_le, [], ◌∷◌, Option, Some, None, inl, inr, arith}
use Rattle.std.specs.Prelude.{◌==◌}
use Rattle.std.proofs.lemmas.Bool.{and_parts, eqb-true, leb-false, leb-true, true≢false, cases_Bool}
use Rattle.gsl_words.specs.declared.module.Module.{Module}
use Rattle.gsl_valid.specs.EntryRules as entries
use Rattle.gsl_valid.specs.EntryRules.{begins_main, is_main, is_main_shape, is_none_of}
use Rattle.gsl_valid.specs.Instruction.{read}
use Rattle.gsl_valid.specs.Kinds.{Kind, Asks, Imports, Sets, Enters, Holds, kind}
use Rattle.gsl_valid.specs.Placed.{Code}
use Rattle.gsl_valid.specs.Sections.{may_come}
use Rattle.gsl_valid.specs.Types.{defined_as}
use Rattle.gsl_valid.specs.Where.{section_in, section_of, where_at}
use Rattle.gsl_machine.specs.Machine.{entry_in, entry_of, or_else}
use Rattle.gsl_sound_code.specs.Rules.{KeepAll}
use Rattle.gsl_sound_code.proofs.Looks.{Kept}

-- The module enters a function.
pub record Enter (m : Module) (found : Option ℕ) : Type 0 where
  pub function : ℕ
  pub is : found ≡ Some function
  pub main : is_main m (defined_as m function) ≡ true

-- no later section comes before the entry point
next_section : (reached section : ℕ) → nat_le 4 reached ≡ false → may_come reached section ≡ true → nat_le 5 section ≡ false
next_section reached section early may = by_early (nat_le 4 reached) early may
  where
    by_next : (b : Bool) → (section == reached + 1) ≡ b → (b || section == 3 && reached == 1) ≡ true → nat_le 5 section ≡ false
    by_next true e is = let same = eqb-true section (reached + 1) e in let low = leb-false 4 reached early in not_late (omega (arith, same, low))
      where
        not_late : section < 5 → nat_le 5 section ≡ false
        not_late below = elim (cases_Bool (nat_le 5 section)) [ inl late ↦ (let high = leb-true 5 section late in absurd (omega (arith, below, high))) | inr none ↦ none ]
    by_next false e is = ap (nat_le 5) (eqb-true section 3 (and_parts (section == 3) (reached == 1) is).0)

    by_early : (b : Bool) → b ≡ false → (if b then nat_le 5 section && nat_le reached section else (section == reached + 1 || section == 3 && reached == 1)) ≡ true → nat_le 5 section ≡ false
    by_early true e is = absurd (true≢false e)
    by_early false e is = by_next (section == reached + 1) refl is

entered_late : (inside : Bool) (k : Kind) → nat_le 5 (section_in inside k) ≡ false → (entry_in k ≡ None) → nat_le 4 (section_in inside k) ≡ false
entered_late inside Asks early none = refl
entered_late inside Imports early none = refl
entered_late inside Sets early none = refl
entered_late inside (Enters model function name interface) early none = absurd (cc)
entered_late true (Holds v) early none = absurd (true≢false early)
entered_late false (Holds v) early none = absurd (true≢false early)
entered_late inside _ early none = absurd (true≢false early)

module _ (m : Module) (kept : Kept m) where
  pub enter_from : (before code : Code) → KeepAll m before code → nat_le 4 (where_at m before).section ≡ false → Enter m (entry_of code)
  enter_from before [] keep early = absurd (true≢false (sym (ap (λ b. nat_le 4 (where_at m b).section) keep ∙ kept.complete) ∙ early))
  enter_from before (i ∷ code) keep early = by_kind (kind (read i)) refl (enter_from (i ∷ before) code keep.1)
    where
      come : nat_le 5 (section_of (where_at m before).inside (read i)) ≡ false
      come = next_section (where_at m before).section (section_of (where_at m before).inside (read i)) early (and_parts (may_come (where_at m before).section (section_of (where_at m before).inside (read i))) _ keep.0.section).0

      other : (k : Kind) → kind (read i) ≡ k → entry_in k ≡ None → (nat_le 4 (where_at m (i ∷ before)).section ≡ false → Enter m (entry_of code)) → Enter m (or_else (entry_in k) (entry_of code))
      other k is none later =
          subst (λ o. Enter m (or_else o (entry_of code))) (sym none) (later (entered_late (where_at m before).inside (kind (read i)) come (ap entry_in is ∙ none)))

      by_kind : (k : Kind) → kind (read i) ≡ k → (nat_le 4 (where_at m (i ∷ before)).section ≡ false → Enter m (entry_of code)) → Enter m (or_else (entry_in (kind (read i))) (entry_of code))
      by_kind (Enters model function name interface) is later =
          let kept_here : entries.entry_of m before (Enters model function name interface) ≡ true = ap (entries.entry_of m before) (sym is) ∙ keep.0.entry in
          let fourth = and_parts _ _ kept_here in
          let third = and_parts _ _ fourth.0 in
          let second = and_parts _ _ third.0 in
          record { function = function; is = ap (λ k. or_else (entry_in k) (entry_of code)) is; main = (and_parts _ (is_main m (defined_as m function)) second.0).1 }
      by_kind k is later = subst (λ x. Enter m (or_else (entry_in x) (entry_of code))) (sym is) (other k is refl later)
