-- The least rule that is broken, and that none is.
use Rattle.std.proofs.Common.{◌≡◌, ℕ, List, [], ◌∷◌, Option, Some, None, refl, ap, ◌∙◌, ◌⊎◌, inl, inr}
use Rattle.std.specs.Prelude.{◌↔◌}
use Rattle.std.specs.List.{AllByRecursion}
use Rattle.gsl_words.specs.declared.module.Module.{Module}
use Rattle.gsl_words.specs.Instructions.{HasFile}
use Rattle.gsl_valid.specs.Valid.{Rule, rules, Valid, KeepsEach, IsFirstOf, broken, broken_of, broken_or}

none_or : (later : Option (ℕ × ℕ)) (number : ℕ) (place : Option ℕ) → broken_or later number place ≡ None → (place ≡ None) × (later ≡ None)
none_or later number None none = (refl, none)
none_or later number (Some at) none = absurd (cc)

module _ (m : Module) where
  pub none_of : (rules : List Rule) → AllByRecursion (λ rule. rule.broken_at m ≡ None) rules → broken_of rules m ≡ None
  none_of [] all = refl
  none_of (rule ∷ rules) all = ap (broken_or (broken_of rules m) rule.number) all.0 ∙ none_of rules all.1

  each_of : (rules : List Rule) → broken_of rules m ≡ None → AllByRecursion (λ rule. rule.broken_at m ≡ None) rules
  each_of [] none = tt
  each_of (rule ∷ rules) none =
      let parts = none_or (broken_of rules m) rule.number (rule.broken_at m) none in (parts.0, each_of rules parts.1)

  pub valid_each : Valid m ↔ (HasFile m × KeepsEach m)
  valid_each = (λ valid. (valid.file, each_of rules valid.kept), λ each. record { file = each.0; kept = none_of rules each.1 })

  some_or : (later : Option (ℕ × ℕ)) (number : ℕ) (broken : Option ℕ) (n place : ℕ) → broken_or later number broken ≡ Some (n, place) →
      ((number ≡ n) × (broken ≡ Some place)) ⊎ ((broken ≡ None) × (later ≡ Some (n, place)))
  some_or later number None n place e = inr (refl, e)
  some_or later number (Some at) n place e =
      let same : ◌≡◌ {A = ℕ × ℕ} (number, at) (n, place) = cc in inl (ap (λ r. r.0) same, ap (λ r. Some r.1) same)

  first_is : (rules : List Rule) (n place : ℕ) → broken_of rules m ≡ Some (n, place) → IsFirstOf rules m n place
  first_is [] n place e = absurd (cc)
  first_is (rule ∷ rules) n place e =
      elim (some_or (broken_of rules m) rule.number (rule.broken_at m) n place e)
      [ inl here ↦ inl here | inr later ↦ inr (later.0, first_is rules n place later.1) ]

  is_first : (rules : List Rule) (n place : ℕ) → IsFirstOf rules m n place → broken_of rules m ≡ Some (n, place)
  is_first [] n place first = absurd first
  is_first (rule ∷ rules) n place (inl here) =
      ap (broken_or (broken_of rules m) rule.number) here.1 ∙ ap (λ k. Some (k, place)) here.0
  is_first (rule ∷ rules) n place (inr later) = ap (broken_or (broken_of rules m) rule.number) later.0 ∙ is_first rules n place later.1

  pub first_broken_rule : (n place : ℕ) → (broken m ≡ Some (n, place)) ↔ IsFirstOf rules m n place
  first_broken_rule n place = (first_is rules n place, is_first rules n place)
