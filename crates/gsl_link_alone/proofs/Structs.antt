-- Structs that are each unlike those before them, joined alone, are the list that they were, under the numbers that they had.
use Rattle.std.proofs.Common.{◌≡◌, refl, sym, ap, ◌∙◌, subst, ℕ, ◌+◌, false, List, [], ◌∷◌, ◌++◌, length, length-append, append_assoc, append-nil, slice_get, Some, arith}
use Rattle.std.specs.Prelude.{if◌then◌else◌}
use Rattle.std.specs.List.{list_any}
use Rattle.gsl_types.specs.Known.{AreStructs}
use Rattle.gsl_types.specs.declared.ty.StructType.{StructType}
use Rattle.gsl_link_units.specs.Structs.{same_struct, retyped_struct, with_struct, struct_number, with_structs}
use Rattle.gsl_link_law.proofs.Putting.{first_past}
use Rattle.gsl_link_alone.specs.Alone.{InRow}
use Rattle.gsl_link_alone.proofs.Rows.{row_more}
use Rattle.gsl_link_alone.proofs.Types.{struct_stays}
use Rattle.gsl_link_alone.proofs.Unlike.{Unlike, none_any, unlike_front}

get_middle : {A : Type 0} (xs : List A) (y : A) (ys : List A) → slice_get (xs ++ y ∷ ys) (length xs) ≡ Some y
get_middle [] y ys = refl
get_middle (x ∷ xs) y ys = get_middle xs y ys

length_more : {A : Type 0} (xs : List A) (x : A) → length (xs ++ x ∷ []) ≡ length xs + 1
length_more xs x = length-append xs (x ∷ [])

module _ (all : List StructType) (known : AreStructs all) (unlike : Unlike same_struct all) where
  abbrev Joins : List StructType → List ℕ → List StructType → Type 0
  Joins done numbers rest = ((with_structs done numbers rest).0 ≡ all) × InRow (with_structs done numbers rest).1 (length all)

  joins : (done : List StructType) (numbers : List ℕ) (rest : List StructType) → done ++ rest ≡ all → length numbers ≡ length done → InRow numbers (length numbers) → Joins done numbers rest
  joins done numbers [] is same row =
      let whole : done ≡ all = sym (append-nil done) ∙ is in
      (whole, subst (InRow numbers) (same ∙ ap length whole) row)
  joins done numbers (s ∷ rest) is same row =
      let at : slice_get all (length done) ≡ Some s = subst (λ l. slice_get l (length done) ≡ Some s) is (get_middle done s rest) in
      let stays : retyped_struct numbers s ≡ s = struct_stays numbers (length done) (subst (InRow numbers) same row) s (known (length done) s at).earlier in
      let fresh : list_any (same_struct s) done ≡ false = none_any (same_struct s) done (unlike_front same_struct done s rest (subst (Unlike same_struct) (sym is) unlike)) in
      let number : struct_number done s ≡ length numbers = first_past (same_struct s) done fresh ∙ sym same in
      let put : with_struct done s ≡ done ++ s ∷ [] = ap (λ b. if b then done else done ++ s ∷ []) fresh in
      let longer : length (numbers ++ length numbers ∷ []) ≡ length (done ++ s ∷ []) = length_more numbers (length numbers) ∙ ap (λ k. k + 1) same ∙ sym (length_more done s) in
      let next = joins (done ++ s ∷ []) (numbers ++ length numbers ∷ []) rest (append_assoc done (s ∷ []) rest ∙ is) longer (subst (InRow (numbers ++ length numbers ∷ [])) (sym (length_more numbers (length numbers))) (row_more numbers row)) in
      subst (λ t. Joins (with_struct done t) (numbers ++ struct_number done t ∷ []) rest) (sym stays)
      (subst (λ ds. Joins ds (numbers ++ struct_number done s ∷ []) rest) (sym put) (subst (λ k. Joins (done ++ s ∷ []) (numbers ++ k ∷ []) rest) (sym number) next))

  pub joined_alone : ((with_structs [] [] all).0 ≡ all) × InRow (with_structs [] [] all).1 (length all)
  joined_alone = joins [] [] all refl refl (λ k below. let never : ⊥ = omega (arith, below) in elim never [ ])
