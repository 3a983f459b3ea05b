-- What holds of the meaning of every type.
use Rattle.std.proofs.Common.{sym, subst, ℕ, zero, suc, List, [], ◌∷◌, ◌++◌, get_or}
use Rattle.std.specs.List.{AllByRecursion}
use Rattle.gsl_types.specs.declared.ty.Ty.{Ty}
use Rattle.gsl_types.specs.declared.ty.Ty.TheOpen.{Ty-F}
use Rattle.gsl_types.specs.declared.ty.Ty.TheViews.{roll-Ty}
use Rattle.gsl_types.specs.declared.ty.Ty.TheFolds.{fold-roll-Ty, ind-Ty, map-Ty}
use Rattle.gsl_types.specs.declared.ty.Member.{Member}
use Rattle.gsl_types.specs.declared.ty.StructType.{StructType}
use Rattle.gsl_types.specs.Structs.{Meaning, layer, over, members_over, struct_over, table_from, numbered, meaning, members_meaning}

module _ {A : Type 0} (m : Meaning A) (P : A → Type 0) (none : P m.none)
    (void : P (m.kind Ty-F.Void)) (one : (s : _) → P (m.kind (Ty-F.One s))) (vector : (s : _) (n : ℕ) → P (m.kind (Ty-F.Vector s n)))
    (array : (a : A) (n : ℕ) → P a → P (m.kind (Ty-F.Array a n))) (runtime : (a : A) → P a → P (m.kind (Ty-F.Runtime a)))
    (struct : (name : List ℕ) (members : List (List ℕ × A)) → AllByRecursion (λ (e : List ℕ × A). P e.1) members → P (m.struct name members)) where
  module _ (known : ℕ → A) (all : (k : ℕ) → P (known k)) where
    abbrev Holds : Ty → Type 0
    Holds ty = P (over m known ty)

    layer_holds : (y : Ty-F ((ty : Ty) × Holds ty)) → Holds (roll-Ty (map-Ty _ _ (λ e. e.0) y))
    layer_holds Ty-F.Void = subst P (sym (fold-roll-Ty A (layer m known) Ty-F.Void)) void
    layer_holds (Ty-F.One s) = subst P (sym (fold-roll-Ty A (layer m known) (Ty-F.One s))) (one s)
    layer_holds (Ty-F.Vector s n) = subst P (sym (fold-roll-Ty A (layer m known) (Ty-F.Vector s n))) (vector s n)
    layer_holds (Ty-F.Array e n) = subst P (sym (fold-roll-Ty A (layer m known) (Ty-F.Array e.0 n))) (array (over m known e.0) n e.1)
    layer_holds (Ty-F.Runtime e) = subst P (sym (fold-roll-Ty A (layer m known) (Ty-F.Runtime e.0))) (runtime (over m known e.0) e.1)
    layer_holds (Ty-F.Struct k) = subst P (sym (fold-roll-Ty A (layer m known) (Ty-F.Struct k))) (all k)

    over_holds : (ty : Ty) → Holds ty
    over_holds = ind-Ty Holds (λ x y is. subst (λ z. Holds (roll-Ty z)) is (layer_holds y))

    members_hold : (members : List Member) → AllByRecursion (λ (e : List ℕ × A). P e.1) (members_over m known members)
    members_hold [] = tt
    members_hold (member ∷ members) = (over_holds member.ty, members_hold members)

  pushed : (xs : List A) (y : A) → AllByRecursion P xs → P y → AllByRecursion P (xs ++ y ∷ [])
  pushed [] y all is = (is, tt)
  pushed (x ∷ xs) y all is = (all.0, pushed xs y all.1 is)

  got : (xs : List A) (k : ℕ) → AllByRecursion P xs → P (get_or xs k m.none)
  got [] k all = none
  got (x ∷ xs) zero all = all.0
  got (x ∷ xs) (suc k) all = got xs k all.1

  table_holds : (structs : List StructType) (before : List A) → AllByRecursion P before → AllByRecursion P (table_from m before structs)
  table_holds [] before all = all
  table_holds (s ∷ structs) before all =
      table_holds structs (before ++ struct_over m (λ number. get_or before number m.none) s ∷ [])
      (pushed before _ all (struct s.name (members_over m (λ number. get_or before number m.none) s.members) (members_hold (λ number. get_or before number m.none) (λ k. got before k all) s.members)))

  -- the meaning of every type has it
  pub meaning_holds : (structs : List StructType) (ty : Ty) → P (meaning m structs ty)
  meaning_holds structs ty = over_holds (numbered m structs) (λ k. got (table_from m [] structs) k (table_holds structs [] tt)) ty

  -- and so has that of every member
  pub members_meaning_hold : (structs : List StructType) (members : List Member) → AllByRecursion (λ (e : List ℕ × A). P e.1) (members_meaning m structs members)
  members_meaning_hold structs members = members_hold (numbered m structs) (λ k. got (table_from m [] structs) k (table_holds structs [] tt)) members
