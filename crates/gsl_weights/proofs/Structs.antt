-- The leaves of a struct that is there, and of one that is not.
use Rattle.std.proofs.Common.{◌≡◌, ap, refl, ◌∙◌, ℕ, zero, suc, ◌+◌, ◌≤◌, List, [], ◌∷◌, ◌++◌, length, get_or, length-append, min, arith}
use Rattle.gsl_types.specs.declared.ty.Ty.TheVariants as ty
use Rattle.gsl_types.specs.declared.ty.StructType.{StructType}
use Rattle.gsl_types.specs.Structs.{Meaning, table_from, struct_over, numbered}
use Rattle.gsl_types.specs.Leaves.{counting, told_leaves}
use Rattle.gsl_types.proofs.Layers.{over_struct}

module _ {A : Type 0} (m : Meaning A) where
  -- a table has a row for each struct
  table_length : (structs : List StructType) (before : List A) → length (table_from m before structs) ≡ length before + length structs
  table_length [] before = omega arith
  table_length (s ∷ structs) before =
      table_length structs (before ++ struct_over m (λ number. get_or before number m.none) s ∷ [])
      ∙ omega (arith, length-append before (struct_over m (λ number. get_or before number m.none) s ∷ []))

get_or_beyond : {A : Type 0} (items : List A) (k : ℕ) (d : A) → length items ≤ k → get_or items k d ≡ d
get_or_beyond [] k d e = refl
get_or_beyond (a ∷ items) zero d e = absurd (omega (arith, e))
get_or_beyond (a ∷ items) (suc k) d e = get_or_beyond items k d (omega (arith, e))

-- a struct that is not there has no leaves
pub none_told : (structs : List StructType) (k : ℕ) → length structs ≤ k → told_leaves structs (ty.Struct k) ≡ 0
none_told structs k e =
    let none : numbered counting structs k ≡ 0 = get_or_beyond (table_from counting [] structs) k 0 (omega (arith, table_length counting structs [], e)) in
    ap (λ n. min n 1099511627776) (over_struct counting (numbered counting structs) k ∙ none)
