-- Structs have one number among the joined ones exactly where they are spelled alike.
use Rattle.std.proofs.Common.{◌≡◌, refl, sym, ap, ◌∙◌, subst, ℕ, zero, suc, ◌+◌, ◌<◌, ◌≤◌, ◌⊎◌, inl, inr, Bool, true, false, ◌&&◌, IsTrue, List, [], ◌∷◌, ◌++◌, length, slice_get, Some, bytes_eq, nat_le, nat_lt, ◌^◌, arith}
use Rattle.std.specs.Prelude.{if◌then◌else◌, ◌↔◌}
use Rattle.std.specs.List.{AllByRecursion, list_any}
use Rattle.std.proofs.lemmas.Bool.{and_parts, and_from, true≢false, cases_lt, ltb-true, lt-ltb}
use Rattle.std.proofs.lemmas.Option.{none-some, same_Some}
use Rattle.gsl_types.specs.Known.{AreStructs, IsSound, sound, sound_kind}
use Rattle.gsl_types.specs.Spelling.{Spelling, spelled, spelling, chained}
use Rattle.gsl_types.specs.Structs.{members_meaning, layer, numbered}
use Rattle.gsl_types.specs.declared.ty.Member.{Member}
use Rattle.gsl_types.specs.declared.ty.Scalar.{Scalar}
use Rattle.gsl_types.specs.declared.ty.StructType.{StructType}
use Rattle.gsl_types.specs.declared.ty.Ty.{Ty}
use Rattle.gsl_types.specs.declared.ty.Ty.TheOpen.{Ty-F}
use Rattle.gsl_types.specs.declared.ty.Ty.TheFolds.{fold-roll-Ty, ind-Ty, map-Ty}
use Rattle.gsl_types.specs.declared.ty.Ty.TheVariants as ty
use Rattle.gsl_types.specs.declared.ty.Ty.TheVariants.{outs-Struct, rolls-Struct}
use Rattle.gsl_types.specs.declared.ty.Ty.TheViews.{out-Ty, roll-Ty, roll-out-Ty}
use Rattle.gsl_types.proofs.Layers.{sound_stays, sound_struct}
use Rattle.gsl_types.proofs.Longer.{pushed}
use Rattle.gsl_types.proofs.Shapes.{struct_spelled, slice_found}
use Rattle.gsl_tree.specs.declared.unit.TypedUnit.{TypedUnit}
use Rattle.gsl_link_units.specs.Types.{new_number, retyped, same_type}
use Rattle.gsl_link_units.specs.Structs.{same_members, same_struct, retyped_struct, with_struct, struct_number, with_structs, with_units, joined_structs}
use Rattle.gsl_link_law.specs.Placed.{IsPlaced, AllPlaced}
use Rattle.gsl_link_law.proofs.Agreed.{name_itself}
use Rattle.gsl_link_law.proofs.Layered.{new_struct}
use Rattle.gsl_link_law.proofs.Meant.{type_means, number_within}
use Rattle.gsl_link_law.proofs.Members.{any_in, in_get}
use Rattle.gsl_link_law.proofs.Same.{type_itself}

-- ---- no two joined structs are the same

abbrev pub AreApart : List StructType → Type 0
AreApart structs = (a b : ℕ) (s t : StructType) → slice_get structs a ≡ Some s → slice_get structs b ≡ Some t → a < b → same_struct t s ≡ false

put_apart : (joined : List StructType) (s : StructType) → AreApart joined → AreApart (with_struct joined s)
put_apart joined s apart = by_cases (list_any (same_struct s) joined) refl
  where
    unlike : (t : StructType) (a : ℕ) (b : Bool) → same_struct s t ≡ b → slice_get joined a ≡ Some t → list_any (same_struct s) joined ≡ false → b ≡ false
    unlike t a true same at none = let never : ⊥ = true≢false (sym (any_in (same_struct s) joined t (in_get joined a t at) same) ∙ none) in elim never [ ]
    unlike t a false same at none = refl

    by_place : list_any (same_struct s) joined ≡ false → (a b : ℕ) (t u : StructType) → a < b → ((a < length joined) × (slice_get joined a ≡ Some t)) ⊎ ((a ≡ length joined) × (s ≡ t))
        → ((b < length joined) × (slice_get joined b ≡ Some u)) ⊎ ((b ≡ length joined) × (s ≡ u)) → same_struct u t ≡ false
    by_place none a b t u less (inl first) (inl second) = apart a b t u first.1 second.1 less
    by_place none a b t u less (inl first) (inr (last, is)) = ap (λ w. same_struct w t) (sym is) ∙ unlike t a (same_struct s t) refl first.1 none
    by_place none a b t u less (inr (last, is)) (inl (below, at)) = let never : ⊥ = omega (arith, last, below, less) in elim never [ ]
    by_place none a b t u less (inr (last, is)) (inr (also, at)) = let never : ⊥ = omega (arith, last, also, less) in elim never [ ]

    by_cases : (b : Bool) → list_any (same_struct s) joined ≡ b → AreApart (if b then joined else joined ++ s ∷ [])
    by_cases true is = apart
    by_cases false is = λ a b t u at_a at_b less. by_place is a b t u less (pushed joined s a t at_a) (pushed joined s b u at_b)

structs_apart : (rest joined : List StructType) (numbers : List ℕ) → AreApart joined → AreApart (with_structs joined numbers rest).0
structs_apart [] joined numbers apart = apart
structs_apart (s ∷ rest) joined numbers apart =
    structs_apart rest (with_struct joined (retyped_struct numbers s)) (numbers ++ struct_number joined (retyped_struct numbers s) ∷ []) (put_apart joined (retyped_struct numbers s) apart)

units_apart : (units : List TypedUnit) (joined : List StructType) → AreApart joined → AreApart (with_units joined units)
units_apart [] joined apart = apart
units_apart (unit ∷ units) joined apart = units_apart units (with_structs joined [] unit.structs).0 (structs_apart unit.structs joined [] apart)

pub joined_apart : (units : List TypedUnit) → AreApart (joined_structs units)
joined_apart units = units_apart units [] (λ a b s t at_a at_b less. elim (none-some s at_a) [ ])

-- ---- parts of a spelling

abbrev name_in : Spelling → List ℕ
name_in (Spelling.Struct name chain) = name
name_in (Spelling.Member name s chain) = name
name_in _ = []

abbrev chain_in : Spelling → Spelling
chain_in (Spelling.Struct name chain) = chain
chain_in (Spelling.Member name s chain) = chain
chain_in _ = Spelling.End

abbrev type_in : Spelling → Spelling
type_in (Spelling.Member name s chain) = s
type_in (Spelling.Array s n) = s
type_in (Spelling.Runtime s) = s
type_in _ = Spelling.End

abbrev count_in : Spelling → ℕ
count_in (Spelling.Vector s n) = n
count_in (Spelling.Array s n) = n
count_in _ = 0

abbrev scalar_in : Scalar → Spelling → Scalar
scalar_in d (Spelling.One s) = s
scalar_in d (Spelling.Vector s n) = s
scalar_in d _ = d

abbrev kind_in : Spelling → ℕ
kind_in Spelling.Void = 0
kind_in (Spelling.One s) = 1
kind_in (Spelling.Vector s n) = 2
kind_in (Spelling.Array s n) = 3
kind_in (Spelling.Runtime s) = 4
kind_in (Spelling.Struct name chain) = 5
kind_in Spelling.End = 6
kind_in (Spelling.Member name s chain) = 7

-- ---- types that are spelled alike are one

same_itself : (members : List Member) → same_members members members ≡ true
same_itself [] = refl
same_itself (m ∷ members) = and_from (bytes_eq m.name m.name && same_type m.ty m.ty) (same_members members members) (and_from (bytes_eq m.name m.name) (same_type m.ty m.ty) (name_itself m.name m.name refl) (type_itself m.ty)) (same_itself members)

module _ (structs : List StructType) (known : AreStructs structs) (apart : AreApart structs) where
  abbrev One : ℕ → Ty → Type 0
  One n t = (u : Ty) → IsSound n t → IsSound n u → spelled structs t ≡ spelled structs u → t ≡ u

  rolled : (x : Ty-F Ty) → spelled structs (roll-Ty x) ≡ layer spelling (numbered spelling structs) (map-Ty _ _ (spelled structs) x)
  rolled x = fold-roll-Ty Spelling (layer spelling (numbered spelling structs)) x

  abbrev chain : List Member → Spelling
  chain members = chained (members_meaning spelling structs members)

  members_one : (n : ℕ) → ((t : Ty) → One n t) → (a b : List Member) → AllByRecursion (λ (m : Member). IsSound n m.ty) a → AllByRecursion (λ (m : Member). IsSound n m.ty) b → chain a ≡ chain b → a ≡ b
  members_one n one [] [] first second alike = refl
  members_one n one [] (m ∷ b) first second alike = let never : ⊥ = true≢false (λ i. nat_le 7 (kind_in (sym alike i))) in elim never [ ]
  members_one n one (m ∷ a) [] first second alike = let never : ⊥ = true≢false (λ i. nat_le 7 (kind_in (alike i))) in elim never [ ]
  members_one n one (l ∷ a) (m ∷ b) first second alike =
      let type = one l.ty m.ty first.0 second.0 (ap type_in alike) in
      ap (λ name. record { name = name; ty = l.ty } ∷ a) (ap name_in alike) ∙ ap (λ t. record { name = m.name; ty = t } ∷ a) type
      ∙ ap (λ rest. m ∷ rest) (members_one n one a b first.1 second.1 (ap chain_in alike))

  lower : (n k : ℕ) → k ≤ n → (members : List Member) → AllByRecursion (λ (m : Member). IsSound k m.ty) members → AllByRecursion (λ (m : Member). IsSound n m.ty) members
  lower n k le [] all = tt
  lower n k le (m ∷ members) all = (sound_stays k n le m.ty all.0, lower n k le members all.1)

  -- two structs
  struct_one : (n : ℕ) → ((t : Ty) → One n t) → (k l : ℕ) → k < length structs → l < length structs → k ≤ n → l ≤ n → spelled structs (ty.Struct k) ≡ spelled structs (ty.Struct l) → k ≡ l
  struct_one n one k l within also below under alike =
      let first = slice_found structs k within in
      let second = slice_found structs l also in
      let s = first.0 in
      let t = second.0 in
      let written = sym (struct_spelled structs known k s first.1) ∙ alike ∙ struct_spelled structs known l t second.1 in
      let members = members_one n one s.members t.members (lower n k below s.members (known k s first.1).earlier) (lower n l under t.members (known l t second.1).earlier) (ap chain_in written) in
      let same : same_struct s t ≡ true = and_from (bytes_eq s.name t.name) (same_members s.members t.members) (name_itself s.name t.name (ap name_in written)) (ap (same_members s.members) (sym members) ∙ same_itself s.members) in
      let back : same_struct t s ≡ true = and_from (bytes_eq t.name s.name) (same_members t.members s.members) (name_itself t.name s.name (sym (ap name_in written))) (ap (same_members t.members) members ∙ same_itself t.members) in
      by_order s t first.1 second.1 same back (cases_lt k l)
    where
      by_order : (s t : StructType) → slice_get structs k ≡ Some s → slice_get structs l ≡ Some t → same_struct s t ≡ true → same_struct t s ≡ true → (k < l) ⊎ (l ≤ k) → k ≡ l
      by_order s t at_k at_l same back (inl less) = let never : ⊥ = true≢false (sym back ∙ apart k l s t at_k at_l less) in elim never [ ]
      by_order s t at_k at_l same back (inr above) = elim (cases_lt l k) as (λ _. k ≡ l) [
        | inl less ↦ let never : ⊥ = true≢false (sym same ∙ apart l k t s at_l at_k less) in elim never [ ]
        | inr under ↦ let is : k ≡ l = omega (arith, above, under) in is
      ]

  module _ (n : ℕ) (within : n ≤ length structs) (structs_one : (k l : ℕ) → k < n → l < n → spelled structs (ty.Struct k) ≡ spelled structs (ty.Struct l) → k ≡ l) where
    -- the kind of a struct is that of no other type
    struct_kind : (k : ℕ) → k < n → kind_in (numbered spelling structs k) ≡ 5
    struct_kind k below =
        let found = slice_found structs k (omega (arith, below, within)) in
        ap kind_in (sym (rolled (Ty-F.Struct k)) ∙ ap (spelled structs) (rolls-Struct k) ∙ struct_spelled structs known k found.0 found.1)

    numbers_one : (k l : ℕ) → k < n → l < n → numbered spelling structs k ≡ numbered spelling structs l → k ≡ l
    numbers_one k l below under alike =
        structs_one k l below under (ap (spelled structs) (sym (rolls-Struct k)) ∙ rolled (Ty-F.Struct k) ∙ alike ∙ sym (rolled (Ty-F.Struct l)) ∙ ap (spelled structs) (rolls-Struct l))

    abbrev Mean : Ty-F Ty → Spelling
    Mean x = layer spelling (numbered spelling structs) (map-Ty _ _ (spelled structs) x)

    below_of : (k : ℕ) → IsSound n (roll-Ty (Ty-F.Struct k)) → k < n
    below_of k s = ltb-true k n (sym (fold-roll-Ty Bool (sound_kind n) (Ty-F.Struct k)) ∙ s)

    number_of : Ty-F Ty → ℕ
    number_of Ty-F.Void = 0
    number_of (Ty-F.One s) = 1
    number_of (Ty-F.Vector s m) = 2
    number_of (Ty-F.Array e m) = 3
    number_of (Ty-F.Runtime e) = 4
    number_of (Ty-F.Struct k) = 5

    kind_is : (x : Ty-F Ty) → IsSound n (roll-Ty x) → kind_in (Mean x) ≡ number_of x
    unfolding number_of
    kind_is Ty-F.Void s = refl
    kind_is (Ty-F.One c) s = refl
    kind_is (Ty-F.Vector c m) s = refl
    kind_is (Ty-F.Array e m) s = refl
    kind_is (Ty-F.Runtime e) s = refl
    kind_is (Ty-F.Struct k) s = struct_kind k (below_of k s)

    array_part : (e : Ty) (m : ℕ) → IsSound n (roll-Ty (Ty-F.Array e m)) → IsSound n e
    array_part e m s =
        let is : IsTrue ((nat_le 1 m && nat_lt m (2 ^ 32)) && sound n e) = sym (fold-roll-Ty Bool (sound_kind n) (Ty-F.Array e m)) ∙ s in
        (and_parts _ _ is).1

    runtime_part : (e : Ty) → IsSound n (roll-Ty (Ty-F.Runtime e)) → IsSound n e
    runtime_part e s = sym (fold-roll-Ty Bool (sound_kind n) (Ty-F.Runtime e)) ∙ s

    layers_one : (y : Ty-F ((t : Ty) × One n t)) (z : Ty-F Ty) → IsSound n (roll-Ty (map-Ty _ _ (λ (e : (t : Ty) × One n t). e.0) y)) → IsSound n (roll-Ty z)
        → Mean (map-Ty _ _ (λ (e : (t : Ty) × One n t). e.0) y) ≡ Mean z → number_of (map-Ty _ _ (λ (e : (t : Ty) × One n t). e.0) y) ≡ number_of z → map-Ty _ _ (λ (e : (t : Ty) × One n t). e.0) y ≡ z
    unfolding number_of
    layers_one Ty-F.Void Ty-F.Void s r alike kinds = refl
    layers_one (Ty-F.One a) (Ty-F.One b) s r alike kinds = ap Ty-F.One (ap (scalar_in a) alike)
    layers_one (Ty-F.Vector a m) (Ty-F.Vector b k) s r alike kinds = ap (λ c. Ty-F.Vector c m) (ap (scalar_in a) alike) ∙ ap (Ty-F.Vector b) (ap count_in alike)
    layers_one (Ty-F.Array e m) (Ty-F.Array f k) s r alike kinds = ap (λ t. Ty-F.Array t m) (e.1 f (array_part e.0 m s) (array_part f k r) (ap type_in alike)) ∙ ap (Ty-F.Array f) (ap count_in alike)
    layers_one (Ty-F.Runtime e) (Ty-F.Runtime f) s r alike kinds = ap Ty-F.Runtime (e.1 f (runtime_part e.0 s) (runtime_part f r) (ap type_in alike))
    layers_one (Ty-F.Struct a) (Ty-F.Struct b) s r alike kinds = ap Ty-F.Struct (numbers_one a b (below_of a s) (below_of b r) alike)
    layers_one _ _ s r alike kinds = let never : ⊥ = omega (arith, kinds) in elim never [ ]

    rolled_one : (y : Ty-F ((t : Ty) × One n t)) → One n (roll-Ty (map-Ty _ _ (λ (e : (t : Ty) × One n t). e.0) y))
    rolled_one y u s r alike =
        let x = map-Ty _ _ (λ (e : (t : Ty) × One n t). e.0) y in
        let there = subst (IsSound n) (sym (roll-out-Ty u)) r in
        let meant : Mean x ≡ Mean (out-Ty u) = sym (rolled x) ∙ alike ∙ ap (spelled structs) (sym (roll-out-Ty u)) ∙ rolled (out-Ty u) in
        ap roll-Ty (layers_one y (out-Ty u) s there meant (sym (kind_is x s) ∙ ap kind_in meant ∙ kind_is (out-Ty u) there)) ∙ roll-out-Ty u

    level : (t : Ty) → One n t
    level = ind-Ty (One n) (λ x y is. subst (λ z. One n (roll-Ty z)) is (rolled_one y))

  -- types over so many structs
  types_one : (n : ℕ) → n ≤ length structs → (t : Ty) → One n t
  types_one zero within = level zero within (λ k l below under alike. let never : ⊥ = omega (arith, below) in elim never [ ])
  types_one (suc n) within =
      let before = types_one n (omega (arith, within)) in
      level (suc n) within (λ k l below under alike. struct_one n before k l (omega (arith, below, within)) (omega (arith, under, within)) (omega (arith, below)) (omega (arith, under)) alike)

  number_in : Ty-F Ty → ℕ
  number_in (Ty-F.Struct k) = k
  number_in _ = 0

  -- structs that are spelled alike have one number
  pub one_number : (k l : ℕ) → k < length structs → l < length structs → spelled structs (ty.Struct k) ≡ spelled structs (ty.Struct l) → k ≡ l
  unfolding number_in
  one_number k l below under alike =
      let same = types_one (length structs) (omega arith) (ty.Struct k) (ty.Struct l) (sound_struct (length structs) k ∙ lt-ltb k (length structs) below) (sound_struct (length structs) l ∙ lt-ltb l (length structs) under) alike in
      ap number_in (sym (outs-Struct k)) ∙ ap (λ t. number_in (out-Ty t)) same ∙ ap number_in (outs-Struct l)

-- ---- the numbers of units

pub placed_at : (joined : List StructType) (numbers : List (List ℕ)) (units : List TypedUnit) → AllPlaced joined numbers units → (i : ℕ) (ns : List ℕ) (unit : TypedUnit)
    → slice_get numbers i ≡ Some ns → slice_get units i ≡ Some unit → IsPlaced joined ns unit
placed_at joined [] [] all i ns unit at there = elim (none-some ns at) [ ]
placed_at joined [] (u ∷ units) all i ns unit at there = elim all [ ]
placed_at joined (ms ∷ numbers) [] all i ns unit at there = elim all [ ]
placed_at joined (ms ∷ numbers) (u ∷ units) all zero ns unit at there = subst (λ l. IsPlaced joined l unit) (same_Some ms ns at) (subst (IsPlaced joined ms) (same_Some u unit there) all.0)
placed_at joined (ms ∷ numbers) (u ∷ units) all (suc i) ns unit at there = placed_at joined numbers units all.1 i ns unit at there

module _ (joined : List StructType) (known : AreStructs joined) (apart : AreApart joined) where
  -- a struct is spelled as the one under its new number
  spelled_new : (numbers : List ℕ) (unit : TypedUnit) → IsPlaced joined numbers unit → AreStructs unit.structs → (k : ℕ) → k < length unit.structs → spelled unit.structs (ty.Struct k) ≡ spelled joined (ty.Struct (new_number numbers k))
  spelled_new numbers unit placed own k below =
      let count = placed.count in
      type_means spelling unit.structs joined numbers (omega (arith, count)) own known placed.placed (ty.Struct k) (sound_struct (length numbers) k ∙ lt-ltb k (length numbers) (omega (arith, below, count)))
      ∙ ap (spelled joined) (new_struct numbers k)

  within : (numbers : List ℕ) (unit : TypedUnit) → IsPlaced joined numbers unit → (k : ℕ) → k < length unit.structs → new_number numbers k < length joined
  within numbers unit placed k below = let count = placed.count in number_within unit.structs joined numbers (omega (arith, count)) placed.placed k (omega (arith, below, count))

  pub one_where_alike : (numbers others : List ℕ) (unit other : TypedUnit) → IsPlaced joined numbers unit → IsPlaced joined others other → AreStructs unit.structs → AreStructs other.structs
      → (k l : ℕ) → k < length unit.structs → l < length other.structs → (new_number numbers k ≡ new_number others l) ↔ (spelled unit.structs (ty.Struct k) ≡ spelled other.structs (ty.Struct l))
  one_where_alike numbers others unit other first second own also k l below under = (
    (λ same. spelled_new numbers unit first own k below ∙ ap (λ m. spelled joined (ty.Struct m)) same ∙ sym (spelled_new others other second also l under)),
    (λ alike. one_number joined known apart (new_number numbers k) (new_number others l) (within numbers unit first k below) (within others other second l under)
        (sym (spelled_new numbers unit first own k below) ∙ alike ∙ spelled_new others other second also l under)),
  )
