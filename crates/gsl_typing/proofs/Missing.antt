-- A struct that is not there has no leaves.
use Rattle.std.proofs.Common.{◌≡◌, refl, sym, ap, ◌∙◌, ℕ, zero, suc, ◌+◌, ◌≤◌, List, [], ◌∷◌, ◌++◌, length, length-append, get_or, min, arith}
use Rattle.gsl_types.specs.declared.ty.StructType.{StructType}
use Rattle.gsl_types.specs.declared.ty.Ty.TheVariants as ty
use Rattle.gsl_types.specs.Structs.{struct_over, table_from, numbered}
use Rattle.gsl_types.specs.Leaves.{counting, told_leaves, most_leaves}
use Rattle.gsl_types.proofs.Layers.{over_struct}

past : (xs : List ℕ) (i d : ℕ) → length xs ≤ i → get_or xs i d ≡ d
past [] i d le = refl
past (x ∷ xs) zero d le = let never : ⊥ = omega (arith, le) in elim never [ ]
past (x ∷ xs) (suc i) d le = past xs i d (omega (arith, le))

length_of_table : (structs : List StructType) (before : List ℕ) → length (table_from counting before structs) ≡ length before + length structs
length_of_table [] before = omega arith
length_of_table (struct ∷ structs) before =
    let next = struct_over counting (λ number. get_or before number counting.none) struct in
    omega (arith, length_of_table structs (before ++ next ∷ []), length-append before (next ∷ []))

pub missing : (structs : List StructType) (number : ℕ) → length structs ≤ number → told_leaves structs (ty.Struct number) ≡ 0
missing structs number le =
    ap (λ n. min n most_leaves) (over_struct counting (numbered counting structs) number ∙ past (table_from counting [] structs) number 0 (omega (arith, le, length_of_table structs [])))
    ∙ (let e : min 0 most_leaves ≡ 0 = omega arith in e)
