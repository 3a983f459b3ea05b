-- Loops that fill lists.
use Rattle.std.proofs.Common.{◌≡◌, refl, sym, ap, ◌∙◌, ℕ, suc, ◌+◌, ◌-◌, ◌<◌, ◌≤◌, min, List, [], ◌∷◌, ◌++◌, map, length, drop, slice_get, Some, arith, inl, inr, append_assoc, append-nil}
use Rattle.std.specs.Prelude.{replicate}
use Rattle.std.proofs.lemmas.Bool.{cases_lt}
use Rattle.std.proofs.lemmas.List.{drop_all}
use Rattle.gsl_values.specs.declared.value.Value.{Value}
use Rattle.gsl_compute.proofs.Loops.{opened}
use Rattle.gsl_types.specs.declared.ty.StructType.{StructType}
use Rattle.gsl_types.specs.declared.ty.Member.{Member}
use Rattle.gsl_types.specs.Structs.{members_over, struct_over, table_from}
use Rattle.gsl_shapes.specs.declared.shape.Shape.{Shape}
use Rattle.gsl_shapes.specs.Shaping.{shapes_of, shaping, known, member_shape, side_by_side, told_of}

-- one item more, of those that stand side by side with what is made of them
pub beside : (fs : List (Value → Value)) (vs : List Value) (k : ℕ) (f : Value → Value) (v : Value) → slice_get fs k ≡ Some f → slice_get vs k ≡ Some v
    → side_by_side (drop k fs) (drop k vs) ≡ f v ∷ side_by_side (drop (k + 1) fs) (drop (k + 1) vs)
beside fs vs k f v at_f at_v = ap (λ l. side_by_side l (drop k vs)) (opened fs k f at_f) ∙ ap (λ l. side_by_side (f ∷ drop (k + 1) fs) l) (opened vs k v at_v)

-- the table with one more struct
pub table_on : (structs : List StructType) (k : ℕ) (s : StructType) (before new whole : List Shape) (shape : Shape) → slice_get structs k ≡ Some s → shape ≡ struct_over shaping (known before) s
    → new ≡ before ++ shape ∷ [] → table_from shaping before (drop k structs) ≡ whole → table_from shaping new (drop (k + 1) structs) ≡ whole
table_on structs k s before new whole shape at_k is pushed so_far =
    ap (λ l. table_from shaping l (drop (k + 1) structs)) (pushed ∙ ap (λ x. before ++ x ∷ []) is) ∙ sym (ap (table_from shaping before) (opened structs k s at_k)) ∙ so_far

pub members_are : (table : List Shape) (members : List Member) → map (member_shape table) members ≡ shapes_of (members_over shaping (known table) members)
members_are table [] = refl
members_are table (member ∷ members) = ap (λ l. member_shape table member ∷ l) (members_are table members)

no_more : (fs : List (Value → Value)) → side_by_side fs [] ≡ []
no_more [] = refl
no_more (f ∷ fs) = refl

none_beside : (ms : List Shape) (vs : List Value) (k : ℕ) → min (length ms) (length vs) ≤ k → side_by_side (map told_of (drop k ms)) (drop k vs) ≡ []
none_beside ms vs k past =
    elim (cases_lt k (length ms)) as (λ _. side_by_side (map told_of (drop k ms)) (drop k vs) ≡ []) [
      | inl long ↦ ap (side_by_side (map told_of (drop k ms))) (drop_all k vs (omega (arith, past, long))) ∙ no_more (map told_of (drop k ms))
      | inr short ↦ ap (λ l. side_by_side (map told_of l) (drop k vs)) (drop_all k ms short)
    ]

-- behind the shorter of two lists all was made
pub all_beside : (ms : List Shape) (vs : List Value) (k : ℕ) (front whole : List Value) → min (length ms) (length vs) ≤ k → front ++ side_by_side (map told_of (drop k ms)) (drop k vs) ≡ whole → front ≡ whole
all_beside ms vs k front whole past so_far = sym (append-nil front) ∙ ap (λ l. front ++ l) (sym (none_beside ms vs k past)) ∙ so_far

-- one more of the same values
pub one_more : (v made : Value) (count k : ℕ) (front new whole : List Value) → k < count → new ≡ front ++ made ∷ [] → made ≡ v → front ++ replicate (count - k) v ≡ whole
    → new ++ replicate (count - (k + 1)) v ≡ whole
one_more v made count k front new whole below pushed is so_far =
    ap (λ l. l ++ replicate (count - (k + 1)) v) (pushed ∙ ap (λ x. front ++ x ∷ []) is) ∙ append_assoc front (v ∷ []) (replicate (count - (k + 1)) v)
    ∙ ap (λ n. front ++ replicate n v) (let e : suc (count - (k + 1)) ≡ count - k = omega (arith, below) in e) ∙ so_far
