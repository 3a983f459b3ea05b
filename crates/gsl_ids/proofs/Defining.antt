-- The pass over uses finds what V3 finds.
use Rattle.std.proofs.Common.{◌≡◌, ℕ, Bool, true, false, cond, ◌&&◌, List, [], ◌∷◌, length, Some, refl, ap, sym, ◌∙◌}
use Rattle.std.specs.Prelude.{nat_lt}
use Rattle.std.specs.List.{list_all, flat_map, AllByRecursion}
use Rattle.std.specs.Option.{option_map}
use Rattle.std.proofs.lemmas.List.Folds.{list_all-append}
use Rattle.gsl_instr.specs.declared.slot.Slot.{Slot}
use Rattle.gsl_instr.specs.declared.slot.Slot.TheVariants.{Result, Id, Forward, Number, Named, OfDecoration, Text}
use Rattle.gsl_instr.specs.declared.parts.Part.{Part}
use Rattle.gsl_instr.specs.Instructions.{read_as}
use Rattle.gsl_instr.specs.Parts.{parts_of, words_if, is_id, is_forward}
use Rattle.gsl_instr.proofs.Agreeing.{read_agrees}
use Rattle.gsl_words.specs.declared.module.Instr.{Instr}
use Rattle.gsl_words.specs.declared.module.Module.{Module}
use Rattle.gsl_words.specs.Instructions.{IsInTable}
use Rattle.gsl_valid.specs.Instruction.{read}
use Rattle.gsl_valid.specs.Ids.{needs, mentions}
use Rattle.gsl_valid.specs.Placed.{Code, placed, header_size}
use Rattle.gsl_valid.specs.DefinedBeforeUse.{uses_defined, defined_before_use}
use Rattle.gsl_ids.specs.declared.uses.Uses.{Uses}
use Rattle.gsl_ids.specs.Pass.{first_failed}
use Rattle.gsl_ids.specs.Table.{number_of, is_defined_in}
use Rattle.gsl_ids.specs.Uses.{is_used, form_used, all_used, uses_numbered}
use Rattle.gsl_ids.proofs.Passes.{same_place}
use Rattle.gsl_ids.proofs.Numbers.{same_all, has_number, defined_here}
use Rattle.gsl_ids.proofs.Stands.{Stands, at_start, one_on}

pub both : {a b c d : Bool} → a ≡ b → c ≡ d → (a && c) ≡ (b && d)
both {a} {b} {c} {d} e h = ap (λ x. x && c) e ∙ ap (λ x. b && x) h

module _ (needed mentioned : ℕ → Bool) where
  -- One test of all operands is a test of those of one kind, and one of those of the other.
  by_kinds : (parts : List Part) →
      list_all (λ (part : Part). is_used needed mentioned part.slot part.words) parts
      ≡ (list_all needed (flat_map (words_if is_id) parts) && list_all mentioned (flat_map (words_if is_forward) parts))
  by_kinds [] = refl
  by_kinds (part ∷ parts) =
      ap (λ b. is_used needed mentioned part.slot part.words && b) (by_kinds parts) ∙ one part.slot
      ∙ sym
      (both (list_all-append needed (words_if is_id part) (flat_map (words_if is_id) parts))
      (list_all-append mentioned (words_if is_forward part) (flat_map (words_if is_forward) parts)))
    where
      x : Bool
      x = list_all needed (flat_map (words_if is_id) parts)

      y : Bool
      y = list_all mentioned (flat_map (words_if is_forward) parts)

      first : (a x y : Bool) → (a && (x && y)) ≡ ((a && x) && (true && y))
      first true x y = refl
      first false x y = refl

      second : (b x y : Bool) → (b && (x && y)) ≡ ((true && x) && (b && y))
      second true x y = refl
      second false true y = refl
      second false false y = refl

      one : (slot : Slot) →
          (is_used needed mentioned slot part.words && (x && y))
          ≡ ((list_all needed (cond (is_id slot) part.words []) && x) && (list_all mentioned (cond (is_forward slot) part.words []) && y))
      one Result = refl
      one Id = first (list_all needed part.words) x y
      one Forward = second (list_all mentioned part.words) x y
      one Number = refl
      one (Named enumeration) = refl
      one OfDecoration = refl
      one Text = refl

  -- What an instruction uses is what it needs and what it mentions.
  pub used_is : (i : Instr) → IsInTable i → all_used needed mentioned i ≡ (list_all needed (needs (read i)) && list_all mentioned (mentions (read i)))
  used_is i fits =
      let form = fits.form in
      let is : read i ≡ Some (read_as form i.op i.args) = ap (option_map (λ form. read_as form i.op i.args)) fits.found in
      let ids = read_agrees i.op i.args form (read_as form i.op i.args) fits fits.found is in
      ap (form_used needed mentioned i.args) fits.found ∙ by_kinds (parts_of form i.args)
      ∙ both (ap (list_all needed) (sym ids.1 ∙ sym (ap needs is))) (ap (list_all mentioned) (sym ids.2 ∙ sym (ap mentions is)))

abbrev pub passes : Uses → ℕ → Instr → Bool
passes s at i = uses_numbered s.definitions.now at i

abbrev pub behind : Uses → ℕ → Instr → Uses
behind s at i = s

module _ (m : Module) where
  -- What the pass knows.
  record Tells (before code : Code) (s : Uses) : Type 0 where
    stands : Stands m before code
    fits : AllByRecursion IsInTable code
    same : s.definitions.now ≡ m

  agrees : (before code : Code) (s : Uses) (i : Instr) → Tells before (i ∷ code) s → passes s (length before) i ≡ uses_defined m before i
  agrees before code s i t =
      ap (λ n. uses_numbered n (length before) i) t.same ∙ used_is (is_defined_in m (length before)) (λ id. nat_lt 0 (number_of m id)) i t.fits.0
      ∙ both (same_all _ _ (defined_here m before (i ∷ code) t.stands) (needs (read i))) (same_all _ _ (has_number 0 m.instrs) (mentions (read i)))

  goes_on : (before code : Code) (s : Uses) (i : Instr) → Tells before (i ∷ code) s → uses_defined m before i ≡ true → Tells (i ∷ before) code (behind s (length before) i)
  goes_on before code s i t passed = record { stands = one_on m before code i t.stands; fits = t.fits.1; same = t.same }

  pub finds : (s : Uses) → s.definitions.now ≡ m → AllByRecursion IsInTable m.instrs → first_failed passes behind s 0 (placed m) ≡ defined_before_use m
  finds s same fits =
      same_place passes behind (uses_defined m) Tells agrees goes_on [] s 0 header_size m.instrs refl
      (record { stands = at_start m; fits = fits; same = same })
