-- A program is lowered to a valid module, or to none.
use Rattle.std.proofs.Common.{◌≡◌, ◌⊎◌, inl, inr, ℕ, ◌<◌, ◌^◌, true, List, [], ◌∷◌, Option, Some, None, refl, sym, subst, ◌∙◌, arith}
use Rattle.std.specs.List.{AllByRecursion}
use Rattle.std.proofs.lemmas.Bool.{cases_Bool, cases_lt}
use Rattle.gsl_base.specs.Ranges.{AreWords}
use Rattle.gsl_lower_flow.specs.Programs.{module_for}
use Rattle.gsl_tree.specs.declared.program.Program.{Program}
use Rattle.gsl_valid.specs.Valid.{broken}
use Rattle.gsl_words.specs.declared.module.Instr.{Instr}
use Rattle.gsl_words.specs.declared.module.Module.{Module}
use Rattle.gsl_words.specs.declared.target.Target.{Target}
use Rattle.gsl_words.specs.Faults.{FitsInstr}
use Rattle.gsl_lowered.specs.Sound.{IsLowered, IsSound}
use Rattle.gsl_lowered.specs.Filing.{is_writable}
use Rattle.gsl_lowered.proofs.Judged.{breaks, unwritable}
use Rattle.gsl_lowered.proofs.Filed.{writable_is}

abbrev Either : Type 0 → Type 0
Either A = A ⊎ (A → ⊥)

below : (n most : ℕ) → Either (n < most)
below n most = elim (cases_lt n most) [ inl fine ↦ inl fine | inr never ↦ inr (λ fine. omega (arith, never, fine)) ]

both : {A B : Type 0} → Either A → Either B → Either (A × B)
both (inl a) (inl b) = inl (a, b)
both (inl a) (inr never) = inr (λ p. never p.1)
both (inr never) b = inr (λ p. never p.0)

are_words : (words : List ℕ) → Either (AreWords words)
are_words [] = inl tt
are_words (word ∷ words) = both (below word (2 ^ 32)) (are_words words)

instrs_fit : (code : List Instr) → Either (AllByRecursion FitsInstr code)
instrs_fit [] = inl tt
instrs_fit (i ∷ code) = both (both (below i.op (2 ^ 16)) (are_words i.args)) (instrs_fit code)

module _ (m : Module) where
  by_rules : AllByRecursion FitsInstr m.instrs → is_writable m ≡ true → (found : Option (ℕ × ℕ)) → broken m ≡ found → Either (IsSound m)
  by_rules types writable (Some what) is = inr (breaks m what is)
  by_rules types writable None is =
      let file = writable_is m types writable in
      inl (record { types = types; valid = record { file = file.0; kept = is }; few = file.1 })

  by_file : AllByRecursion FitsInstr m.instrs → Either (IsSound m)
  by_file types =
      elim (cases_Bool (is_writable m)) [
        | inl fine ↦ by_rules types fine (broken m) refl
        | inr never ↦ inr (unwritable m never)
      ]

  -- a module is sound, or it is not
  pub sound_or_not : Either (IsSound m)
  sound_or_not = elim (instrs_fit m.instrs) [ inl types ↦ by_file types | inr never ↦ inr (λ (sound : IsSound m). never sound.types) ]

same_some : {A : Type 0} {a b : A} → ◌≡◌ {A = Option A} (Some a) (Some b) → a ≡ b
same_some e = cc

module _ (target : Target) (p : Program) where
  abbrev Is : Type 0
  Is = (m : Module) × IsLowered target p m

  by_made : (made : Option Module) → module_for target p ≡ made → Is ⊎ ((m : Module) → IsLowered target p m → ⊥)
  by_made None is = inr (λ m (low : IsLowered target p m). let never : None ≡ Some m = sym is ∙ low.made in cc)
  by_made (Some m) is =
      elim (sound_or_not m) [
        | inl sound ↦ inl (m, record { made = is; sound = sound })
        | inr never ↦ inr (λ n (low : IsLowered target p n). never (subst IsSound (same_some (sym low.made ∙ is)) low.sound))
      ]

  -- it has such a module, or none
  pub lowered_or_not : Is ⊎ ((m : Module) → IsLowered target p m → ⊥)
  lowered_or_not = by_made (module_for target p) refl
