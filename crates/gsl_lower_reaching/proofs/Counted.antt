-- How many parts values of types have, and where numbers lead in them.
use Rattle.std.proofs.Common.{◌≡◌, refl, sym, ap, ◌∙◌, subst, ℕ, suc, ◌<◌, ◌≤◌, inl, inr, Bool, true, false, ◌&&◌, List, [], ◌∷◌, ◌++◌, map, replicate, length, Some, None, arith}
use Rattle.std.specs.Prelude.{nat_le}
use Rattle.std.proofs.lemmas.Bool.{and_parts, false≢true, leb-true}
use Rattle.std.proofs.lemmas.List.{length-map, length-replicate}
use Rattle.std.proofs.lemmas.Option.{slice_get_within}
use Rattle.gsl_types.specs.Known.{AreStructs, IsSound, sound, sound_kind}
use Rattle.gsl_types.specs.Structs.{numbered}
use Rattle.gsl_types.specs.declared.ty.Member.{Member}
use Rattle.gsl_types.specs.declared.ty.StructType.{StructType}
use Rattle.gsl_types.specs.declared.ty.Ty.{Ty}
use Rattle.gsl_types.specs.declared.ty.Ty.TheFolds.{fold-roll-Ty}
use Rattle.gsl_types.specs.declared.ty.Ty.TheOpen.{Ty-F}
use Rattle.gsl_types.specs.declared.ty.Ty.TheVariants as ty
use Rattle.gsl_types.specs.declared.ty.Ty.TheVariants.{outs-Struct, rolls-Array, rolls-Runtime, rolls-Vector}
use Rattle.gsl_types.specs.declared.ty.Ty.TheViews.{out-Ty, roll-Ty, roll-out-Ty}
use Rattle.gsl_types.proofs.Layers.{over_runtime}
use Rattle.gsl_values.specs.declared.value.Value.{Value}
use Rattle.gsl_values.specs.declared.value.Value.TheOpen.{Value-F}
use Rattle.gsl_values.specs.declared.value.Value.TheViews.{out-Value}
use Rattle.gsl_tree.specs.Expressions.{element_kind, element_of, member_types}
use Rattle.gsl_tree.specs.Operations.{has_fixed_length, is_fixed_kind, length_kind, length_of, member_value}
use Rattle.gsl_tree.specs.Shapes.{Shape, shape_kind, shape_of}
use Rattle.gsl_tree.specs.Values.{all_pass, has_parts, has_parts_layer, is_scalar, is_value_of, parts_in, parts_layer, value_meaning}
use Rattle.gsl_tree.proofs.Nodes.{value_of_array, value_of_vector}
use Rattle.gsl_typed_law.specs.Parts.{IsPart, LeadsTo}
use Rattle.gsl_typed_law.proofs.Built.{value_of_struct}
use Rattle.gsl_typed_law.proofs.Parts.{value_typed}
use Rattle.gsl_lower_law_picks.specs.Outside.{HasPart, LacksPart}
use Rattle.gsl_lower_reaching.specs.Trails.{LeadsOut}

some_same : {A : Type 0} {a b : A} → Some a ≡ Some b → a ≡ b
some_same e = cc

-- ---- parts

passed_count : (tests : List (Value → Bool)) (vs : List Value) → all_pass tests vs ≡ true → length vs ≡ length tests
passed_count [] [] pass = refl
passed_count [] (v ∷ vs) pass = absurd (false≢true pass)
passed_count (test ∷ tests) [] pass = absurd (false≢true pass)
passed_count (test ∷ tests) (v ∷ vs) pass = ap suc (passed_count tests vs (and_parts (test v) (all_pass tests vs) pass).1)

parts_count : (tests : List (Value → Bool)) (layer : Value-F Value) → has_parts_layer tests layer ≡ true → length (parts_layer layer) ≡ length tests
parts_count tests (Value-F.Word word) is = absurd (false≢true is)
parts_count tests (Value-F.Many parts) is = passed_count tests parts is

-- a vector or an array has as many parts as its type tells
pub counted : (structs : List StructType) (base element : Ty) (v : Value) → element_of base ≡ Some element → is_value_of structs base v ≡ true → length (parts_in v) ≡ length_of base
counted structs base element v has fits = by (out-Ty base) (roll-out-Ty base) has
  where
    by : (layer : Ty-F Ty) → roll-Ty layer ≡ base → element_kind layer ≡ Some element → length (parts_in v) ≡ length_kind layer
    by Ty-F.Void e is = absurd cc
    by (Ty-F.One s) e is = absurd cc
    by (Ty-F.Vector s n) e is = parts_count (replicate n (is_scalar s)) (out-Value v) (sym (ap (λ u. is_value_of structs u v) (sym e ∙ rolls-Vector s n) ∙ value_of_vector structs s n v) ∙ fits) ∙ length-replicate n (is_scalar s)
    by (Ty-F.Array other n) e is = parts_count (replicate n (is_value_of structs other)) (out-Value v) (sym (ap (λ u. is_value_of structs u v) (sym e ∙ rolls-Array other n) ∙ value_of_array structs other n v) ∙ fits) ∙ length-replicate n (is_value_of structs other)
    by (Ty-F.Runtime other) e is = absurd (false≢true (sym (ap (λ u. is_value_of structs u v) (sym e ∙ rolls-Runtime other) ∙ ap (λ (test : Value → Bool). test v) (over_runtime value_meaning (numbered value_meaning structs) other)) ∙ fits))
    by (Ty-F.Struct number) e is = absurd cc

-- the type of what has elements and a value tells its length, and so does that of a vector
pub value_fixed : (structs : List StructType) (base element : Ty) (v : Value) → element_of base ≡ Some element → is_value_of structs base v ≡ true → has_fixed_length base ≡ true
value_fixed structs base element v has fits = by (out-Ty base) (roll-out-Ty base) has
  where
    by : (layer : Ty-F Ty) → roll-Ty layer ≡ base → element_kind layer ≡ Some element → is_fixed_kind layer ≡ true
    by Ty-F.Void e is = absurd cc
    by (Ty-F.One s) e is = absurd cc
    by (Ty-F.Vector s n) e is = refl
    by (Ty-F.Array other n) e is = refl
    by (Ty-F.Runtime other) e is = absurd (false≢true (sym (ap (λ u. is_value_of structs u v) (sym e ∙ rolls-Runtime other) ∙ ap (λ (test : Value → Bool). test v) (over_runtime value_meaning (numbered value_meaning structs) other)) ∙ fits))
    by (Ty-F.Struct number) e is = absurd cc

pub shape_fixed : (base element : Ty) (shape : Shape) → element_of base ≡ Some element → shape_of base ≡ Some shape → has_fixed_length base ≡ true
shape_fixed base element shape has of = by (out-Ty base) has of
  where
    by : (layer : Ty-F Ty) → element_kind layer ≡ Some element → shape_kind layer ≡ Some shape → is_fixed_kind layer ≡ true
    by Ty-F.Void is of = absurd cc
    by (Ty-F.One s) is of = absurd cc
    by (Ty-F.Vector s n) is of = refl
    by (Ty-F.Array other n) is of = refl
    by (Ty-F.Runtime other) is of = absurd cc
    by (Ty-F.Struct number) is of = absurd cc

members_count : (members : List Member) → length (member_types members) ≡ length members
members_count [] = refl
members_count (member ∷ members) = ap suc (members_count members)

-- a part that a type has is there
pub part_there : (structs : List StructType) → AreStructs structs → (base : Ty) (number : ℕ) (t : Ty) (v : Value) → IsPart structs base number t → is_value_of structs base v ≡ true → number < length (parts_in v)
part_there structs are base number t v (inl (n, struct, member, is, found, at, type)) fits =
    let fits_struct : has_parts (map (is_value_of structs) (member_types struct.members)) v ≡ true = sym (ap (λ u. is_value_of structs u v) is ∙ value_of_struct structs are n struct found v) ∙ fits in
    let count : length (parts_in v) ≡ length struct.members = parts_count (map (is_value_of structs) (member_types struct.members)) (out-Value v) fits_struct ∙ length-map (member_types struct.members) (is_value_of structs) ∙ members_count struct.members in
    let less : number < length struct.members = slice_get_within struct.members number member at in
    omega (arith, count, less)
part_there structs are base number t v (inr (is, below)) fits = let count : length (parts_in v) ≡ length_of base = counted structs base t v is fits in omega (arith, count, below)

-- ---- paths

module _ (structs : List StructType) (are : AreStructs structs) where
  -- what a type has at numbers, its values have
  pub has_part : (base : Ty) (words : List ℕ) (t : Ty) (v : Value) → LeadsTo structs base words t → is_value_of structs base v ≡ true → HasPart v words
  has_part base [] t v leads fits = tt
  has_part base (word ∷ words) t v (part, is, more) fits = (part_there structs are base word part v is fits, has_part part words t (member_value v word) more (value_typed structs are base (word ∷ []) part v (part, is, refl) fits))

  -- and what it has not, they have not
  pub lacks_part : (base : Ty) (words : List ℕ) (v : Value) → LeadsOut structs base words → is_value_of structs base v ≡ true → LacksPart v words
  lacks_part base [] v out fits = out
  lacks_part base (word ∷ words) v (inl (element, is, most)) fits = inl (let count : length (parts_in v) ≡ length_of base = counted structs base element v is fits in omega (arith, count, most))
  lacks_part base (word ∷ words) v (inr (part, is, out)) fits = inr (part_there structs are base word part v is fits, lacks_part part words (member_value v word) out (value_typed structs are base (word ∷ []) part v (part, is, refl) fits))

-- a part is not both there and lacking
pub not_both : (v : Value) (words : List ℕ) → HasPart v words → LacksPart v words → ⊥
not_both v [] has lacks = lacks
not_both v (word ∷ words) has (inl most) = let less = has.0 in omega (arith, less, most)
not_both v (word ∷ words) has (inr lacks) = not_both (member_value v word) words has.1 lacks.1

-- one number more
pub leads_on : (structs : List StructType) (base : Ty) (words : List ℕ) (whole : Ty) (k : ℕ) (t : Ty) → LeadsTo structs base words whole → IsPart structs whole k t → LeadsTo structs base (words ++ k ∷ []) t
leads_on structs base [] whole k t leads is = (t, subst (λ b. IsPart structs b k t) (sym leads) is, refl)
leads_on structs base (word ∷ words) whole k t (part, step, more) is = (part, step, leads_on structs part words whole k t more is)

-- one number more that is out of bounds
pub leads_out : (structs : List StructType) (base : Ty) (words : List ℕ) (whole element : Ty) (k : ℕ) → LeadsTo structs base words whole → element_of whole ≡ Some element → length_of whole ≤ k → LeadsOut structs base (words ++ k ∷ [])
leads_out structs base [] whole element k leads is most = inl (element, ap element_of leads ∙ is, subst (λ b. length_of b ≤ k) (sym leads) most)
leads_out structs base (word ∷ words) whole element k (part, step, more) is most = inr (part, step, leads_out structs part words whole element k more is most)

-- numbers behind one that is out of bounds
pub out_on : (structs : List StructType) (base : Ty) (words ws : List ℕ) → LeadsOut structs base words → LeadsOut structs base (words ++ ws)
out_on structs base [] ws out = absurd out
out_on structs base (word ∷ words) ws (inl out) = inl out
out_on structs base (word ∷ words) ws (inr (part, step, out)) = inr (part, step, out_on structs part words ws out)

-- ---- shapes

-- the shape of a vector has as many components as the vector, two at least
pub vector_counted : (count : ℕ) (base element : Ty) (shape : Shape) → IsSound count base → element_of base ≡ Some element → shape_of base ≡ Some shape → (length_of base ≡ shape.1) × (2 ≤ shape.1)
vector_counted count base element shape sound_base has is = by (out-Ty base) (roll-out-Ty base) has is
  where
    by : (layer : Ty-F Ty) → roll-Ty layer ≡ base → element_kind layer ≡ Some element → shape_kind layer ≡ Some shape → (length_kind layer ≡ shape.1) × (2 ≤ shape.1)
    by Ty-F.Void e has is = absurd cc
    by (Ty-F.One s) e has is = absurd cc
    by (Ty-F.Vector s n) e has is =
        let same : n ≡ shape.1 = ap (λ (shape : Shape). shape.1) (some_same is) in
        let both : (nat_le 2 n && nat_le n 4) ≡ true = sym (ap (sound count) (sym e) ∙ fold-roll-Ty Bool (sound_kind count) (Ty-F.Vector s n)) ∙ sound_base in
        (same, let two : 2 ≤ n = leb-true 2 n (and_parts (nat_le 2 n) (nat_le n 4) both).0 in omega (arith, two, same))
    by (Ty-F.Array other n) e has is = absurd cc
    by (Ty-F.Runtime other) e has is = absurd cc
    by (Ty-F.Struct number) e has is = absurd cc

-- a struct has no shape
pub struct_shapeless : (n : ℕ) (shape : Shape) → shape_of (ty.Struct n) ≡ Some shape → ⊥
struct_shapeless n shape is = let e : None ≡ Some shape = sym (ap shape_kind (outs-Struct n)) ∙ is in cc

pub struct_elementless : (n : ℕ) (element : Ty) → element_of (ty.Struct n) ≡ Some element → ⊥
struct_elementless n element is = let e : None ≡ Some element = sym (ap element_kind (outs-Struct n)) ∙ is in cc

-- the element of a vector is of one component
pub component_shape : (base element : Ty) (shape : Shape) → element_of base ≡ Some element → shape_of base ≡ Some shape → shape_of element ≡ Some (shape.0, 1)
component_shape base element shape has is = by (out-Ty base) has is
  where
    by : (layer : Ty-F Ty) → element_kind layer ≡ Some element → shape_kind layer ≡ Some shape → shape_of element ≡ Some (shape.0, 1)
    by Ty-F.Void has is = absurd cc
    by (Ty-F.One s) has is = absurd cc
    by (Ty-F.Vector s n) has is = ap shape_of (sym (some_same has)) ∙ ap shape_kind (ty.outs-One s) ∙ ap (λ (s : Shape). Some (s.0, 1)) (some_same is)
    by (Ty-F.Array other n) has is = absurd cc
    by (Ty-F.Runtime other) has is = absurd cc
    by (Ty-F.Struct number) has is = absurd cc
