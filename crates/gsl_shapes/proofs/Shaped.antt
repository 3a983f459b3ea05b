-- What is made of the shape of a type is what a meaning says of the type.
use Rattle.std.proofs.Common.{◌≡◌, refl, sym, ap, subst, ◌∙◌, ℕ, zero, suc, List, [], ◌∷◌, ◌++◌, map, get_or}
use mathlib.Core.Path.{fun_ext}
use Rattle.gsl_types.specs.declared.ty.Ty.{Ty}
use Rattle.gsl_types.specs.declared.ty.Ty.TheOpen.{Ty-F}
use Rattle.gsl_types.specs.declared.ty.Ty.TheViews.{roll-Ty}
use Rattle.gsl_types.specs.declared.ty.Ty.TheFolds.{fold-roll-Ty, ind-Ty, map-Ty}
use Rattle.gsl_types.specs.declared.ty.Member.{Member}
use Rattle.gsl_types.specs.declared.ty.Scalar.{Scalar}
use Rattle.gsl_types.specs.declared.ty.StructType.{StructType}
use Rattle.gsl_types.specs.Structs.{Meaning, layer, over, members_over, struct_over, table_from, numbered, meaning}
use Rattle.gsl_values.specs.declared.value.Value.{Value}
use Rattle.gsl_values.specs.declared.value.Value.TheVariants.{Many}
use Rattle.gsl_tree.specs.Values.{parts_in, zeros_of, zero_meaning, zero_value}
use Rattle.gsl_meaning.specs.Accesses.{each_told, told_meaning, told}
use Rattle.gsl_shapes.specs.declared.shape.Shape.{Shape}
use Rattle.gsl_shapes.specs.declared.shape.Shape.TheVariants as shape
use Rattle.gsl_shapes.specs.Shaping.{shapes_of, shaping, known, side_by_side, zero_of, told_of}
use Rattle.gsl_shapes.proofs.Layers.{zero_void, zero_one, zero_vector, zero_array, zero_runtime, zero_struct, told_void, told_one, told_vector, told_array, told_runtime, told_struct}

module _ {A : Type 0} (m : Meaning A) (made : Shape → A) (none : made shape.Void ≡ m.none) (void : made shape.Void ≡ m.kind Ty-F.Void)
    (one : (s : Scalar) → made (shape.One s) ≡ m.kind (Ty-F.One s)) (vector : (s : Scalar) (n : ℕ) → made (shape.Vector s n) ≡ m.kind (Ty-F.Vector s n))
    (array : (e : Shape) (n : ℕ) → made (shape.Array e n) ≡ m.kind (Ty-F.Array (made e) n)) (runtime : (e : Shape) → made (shape.Runtime e) ≡ m.kind (Ty-F.Runtime (made e)))
    (struct : (name : List ℕ) (members : List (List ℕ × Shape)) → made (shape.Struct (shapes_of members)) ≡ m.struct name (map (λ (e : List ℕ × Shape). (e.0, made e.1)) members)) where
  module _ (f : ℕ → Shape) (g : ℕ → A) (agree : (k : ℕ) → made (f k) ≡ g k) where
    abbrev Same : Ty → Type 0
    Same ty = made (over shaping f ty) ≡ over m g ty

    layer_same : (y : Ty-F ((ty : Ty) × Same ty)) → Same (roll-Ty (map-Ty _ _ (λ e. e.0) y))
    layer_same Ty-F.Void = ap made (fold-roll-Ty Shape (layer shaping f) Ty-F.Void) ∙ void ∙ sym (fold-roll-Ty A (layer m g) Ty-F.Void)
    layer_same (Ty-F.One s) = ap made (fold-roll-Ty Shape (layer shaping f) (Ty-F.One s)) ∙ one s ∙ sym (fold-roll-Ty A (layer m g) (Ty-F.One s))
    layer_same (Ty-F.Vector s n) = ap made (fold-roll-Ty Shape (layer shaping f) (Ty-F.Vector s n)) ∙ vector s n ∙ sym (fold-roll-Ty A (layer m g) (Ty-F.Vector s n))
    layer_same (Ty-F.Array e n) =
        ap made (fold-roll-Ty Shape (layer shaping f) (Ty-F.Array e.0 n)) ∙ array (over shaping f e.0) n ∙ ap (λ a. m.kind (Ty-F.Array a n)) e.1
        ∙ sym (fold-roll-Ty A (layer m g) (Ty-F.Array e.0 n))
    layer_same (Ty-F.Runtime e) =
        ap made (fold-roll-Ty Shape (layer shaping f) (Ty-F.Runtime e.0)) ∙ runtime (over shaping f e.0) ∙ ap (λ a. m.kind (Ty-F.Runtime a)) e.1
        ∙ sym (fold-roll-Ty A (layer m g) (Ty-F.Runtime e.0))
    layer_same (Ty-F.Struct k) = ap made (fold-roll-Ty Shape (layer shaping f) (Ty-F.Struct k)) ∙ agree k ∙ sym (fold-roll-Ty A (layer m g) (Ty-F.Struct k))

    over_same : (ty : Ty) → Same ty
    over_same = ind-Ty Same (λ x y is. subst (λ z. Same (roll-Ty z)) is (layer_same y))

    members_same : (members : List Member) → map (λ (e : List ℕ × Shape). (e.0, made e.1)) (members_over shaping f members) ≡ members_over m g members
    members_same [] = refl
    members_same (member ∷ members) =
        ap (λ a. (member.name, a) ∷ map (λ (e : List ℕ × Shape). (e.0, made e.1)) (members_over shaping f members)) (over_same member.ty)
        ∙ ap (λ l. (member.name, over m g member.ty) ∷ l) (members_same members)

    struct_same : (s : StructType) → made (struct_over shaping f s) ≡ struct_over m g s
    struct_same s = struct s.name (members_over shaping f s.members) ∙ ap (m.struct s.name) (members_same s.members)

  got : (table : List Shape) (k : ℕ) → made (known table k) ≡ get_or (map made table) k m.none
  got [] k = none
  got (s ∷ table) zero = refl
  got (s ∷ table) (suc k) = got table k

  got_same : (table : List Shape) (done : List A) → map made table ≡ done → (k : ℕ) → made (known table k) ≡ get_or done k m.none
  got_same table done is k = got table k ∙ ap (λ l. get_or l k m.none) is

  joined : (xs : List Shape) (y : Shape) → map made (xs ++ y ∷ []) ≡ map made xs ++ made y ∷ []
  joined [] y = refl
  joined (x ∷ xs) y = ap (λ l. made x ∷ l) (joined xs y)

  table_same : (structs : List StructType) (before : List Shape) (done : List A) → map made before ≡ done → map made (table_from shaping before structs) ≡ table_from m done structs
  table_same [] before done is = is
  table_same (s ∷ structs) before done is =
      table_same structs (before ++ struct_over shaping (known before) s ∷ []) (done ++ struct_over m (λ k. get_or done k m.none) s ∷ [])
      (joined before (struct_over shaping (known before) s) ∙ ap (λ l. l ++ made (struct_over shaping (known before) s) ∷ []) is
      ∙ ap (λ a. done ++ a ∷ []) (struct_same (known before) (λ k. get_or done k m.none) (got_same before done is) s))

  pub shaped : (structs : List StructType) (table : List Shape) (ty : Ty) → table ≡ table_from shaping [] structs → made (over shaping (known table) ty) ≡ meaning m structs ty
  shaped structs table ty is =
      over_same (known table) (numbered m structs) (got_same table (table_from m [] structs) (ap (map made) is ∙ table_same structs [] [] refl)) ty

zeros_same : (members : List (List ℕ × Shape)) → map zero_of (shapes_of members) ≡ zeros_of (map (λ (e : List ℕ × Shape). (e.0, zero_of e.1)) members)
zeros_same [] = refl
zeros_same (e ∷ members) = ap (λ l. zero_of e.1 ∷ l) (zeros_same members)

-- the value of the shape of a type whose leaves are all zero is that of the type
pub zero_shaped : (structs : List StructType) (table : List Shape) (ty : Ty) → table ≡ table_from shaping [] structs → zero_of (over shaping (known table) ty) ≡ zero_value structs ty
zero_shaped = shaped zero_meaning zero_of zero_void zero_void zero_one zero_vector zero_array zero_runtime (λ name members. zero_struct (shapes_of members) ∙ ap Many (zeros_same members))

sides_same : (members : List (List ℕ × Shape)) (vs : List Value) → side_by_side (map told_of (shapes_of members)) vs ≡ each_told (map (λ (e : List ℕ × Shape). (e.0, told_of e.1)) members) vs
sides_same [] vs = refl
sides_same (e ∷ members) [] = refl
sides_same (e ∷ members) (v ∷ vs) = ap (λ l. told_of e.1 v ∷ l) (sides_same members vs)

-- the value that words tell by the shape of a type is what they tell by the type
pub told_shaped : (structs : List StructType) (table : List Shape) (ty : Ty) → table ≡ table_from shaping [] structs → told_of (over shaping (known table) ty) ≡ told structs ty
told_shaped = shaped told_meaning told_of
    (told_void ∙ fun_ext (λ v. refl)) (told_void ∙ fun_ext (λ v. refl)) (λ s. told_one s ∙ fun_ext (λ v. refl)) (λ s n. told_vector s n ∙ fun_ext (λ v. refl)) (λ e n. told_array e n ∙ fun_ext (λ v. refl)) (λ e. told_runtime e ∙ fun_ext (λ v. refl))
    (λ name members. told_struct (shapes_of members) ∙ fun_ext (λ v. ap Many (sides_same members (parts_in v))))

pub told_at : (structs : List StructType) (table : List Shape) (ty : Ty) (v : Value) → table ≡ table_from shaping [] structs → told_of (over shaping (known table) ty) v ≡ told structs ty v
told_at structs table ty v is = ap (λ (f : Value → Value). f v) (told_shaped structs table ty is)

-- the same, step by step as the code goes
pub shape_made : (structs shown : List StructType) (table rows : List Shape) (ty : Ty) (s : Shape) → structs ≡ shown → table ≡ table_from shaping [] structs → rows ≡ table
    → s ≡ over shaping (known rows) ty → s ≡ meaning shaping shown ty
shape_made structs shown table rows ty s view is lent made = made ∙ ap (λ l. over shaping (known l) ty) (lent ∙ is) ∙ ap (λ l. meaning shaping l ty) view

pub zero_made : (structs shown : List StructType) (table rows : List Shape) (ty : Ty) (s : Shape) (v : Value) → structs ≡ shown → table ≡ table_from shaping [] structs → rows ≡ table
    → s ≡ over shaping (known rows) ty → v ≡ zero_of s → v ≡ zero_value shown ty
zero_made structs shown table rows ty s v view is lent made found =
    found ∙ ap zero_of (made ∙ ap (λ l. over shaping (known l) ty) lent) ∙ zero_shaped structs table ty is ∙ ap (λ l. zero_value l ty) view

pub told_made : (structs shown : List StructType) (table rows : List Shape) (ty : Ty) (words : Value) (s : Shape) (v : Value) → structs ≡ shown → table ≡ table_from shaping [] structs → rows ≡ table
    → s ≡ over shaping (known rows) ty → v ≡ told_of s words → v ≡ told shown ty words
told_made structs shown table rows ty words s v view is lent made found =
    found ∙ ap (λ x. told_of x words) (made ∙ ap (λ l. over shaping (known l) ty) lent) ∙ told_at structs table ty words is ∙ ap (λ l. told l ty words) view
