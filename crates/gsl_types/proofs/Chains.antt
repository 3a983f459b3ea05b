-- Structs that are spelled alike, member by member.
use Rattle.std.proofs.Common.{◌≡◌, refl, sym, ap, ◌∙◌, ℕ, ◌+◌, List, [], ◌∷◌, length, slice_get, Some, drop, arith}
use Rattle.gsl_types.specs.declared.ty.Member.{Member}
use Rattle.gsl_types.specs.declared.ty.Ty.TheVariants as ty
use Rattle.gsl_types.specs.declared.ty.StructType.{StructType}
use Rattle.gsl_types.specs.Known.{AreStructs}
use Rattle.gsl_types.specs.Spelling.{Spelling, spelled, spelling, chained}
use Rattle.gsl_types.specs.Structs.{members_meaning}
use Rattle.gsl_types.proofs.Shapes.{struct_spelled}
use Rattle.std.proofs.lemmas.List.{drop_more}
use Rattle.std.proofs.lemmas.Option.{slice_get_within, get_or_from_slice_get}
use Rattle.std.proofs.lemmas.Slice.Eq.{bytes_eq-Decides}
use Rattle.std.proofs.lemmas.Bool.{not-false, not-true, true≢false}
use Rattle.std.specs.Prelude.{true, false, not, nat_eq}
use Rattle.std.specs.Cmp.Lexicographic.{pointwise}

-- how names compare
pub names_equal : (a b : List ℕ) → false ≡ not (pointwise nat_eq a b) → a ≡ b
names_equal a b e = (bytes_eq-Decides a b).0 (not-false _ (sym e))

pub names_differ : (a b : List ℕ) → true ≡ not (pointwise nat_eq a b) → a ≡ b → ⊥
names_differ a b e alike = true≢false (sym ((bytes_eq-Decides a b).1 alike) ∙ not-true _ (sym e))

abbrev name_of : Spelling → List ℕ
name_of (Spelling.Struct name chain) = name
name_of (Spelling.Member name s chain) = name
name_of _ = []

abbrev chain_of : Spelling → Spelling
chain_of (Spelling.Struct name chain) = chain
chain_of (Spelling.Member name s chain) = chain
chain_of _ = Spelling.End

abbrev type_of : Spelling → Spelling
type_of (Spelling.Member name s chain) = s
type_of _ = Spelling.End

abbrev count_of : Spelling → ℕ
count_of (Spelling.Member name s chain) = count_of chain + 1
count_of _ = 0

chained_count : (members : List (List ℕ × Spelling)) → count_of (chained members) ≡ length members
chained_count [] = refl
chained_count (member ∷ members) = omega (arith, chained_count members)

module _ (structs : List StructType) where
  -- the members from a place on
  abbrev pub chain : List Member → Spelling
  chain members = chained (members_meaning spelling structs members)

  meaning_count : (members : List Member) → length (members_meaning spelling structs members) ≡ length members
  meaning_count [] = refl
  meaning_count (member ∷ members) = omega (arith, meaning_count members)

  pub count_alike : (a b : List Member) → chain a ≡ chain b → length a ≡ length b
  count_alike a b alike = sym (meaning_count a) ∙ sym (chained_count (members_meaning spelling structs a)) ∙ ap count_of alike ∙ chained_count (members_meaning spelling structs b) ∙ meaning_count b

  module _ (a b : List Member) (k : ℕ) (x y : Member) (at_a : slice_get a k ≡ Some x) (at_b : slice_get b k ≡ Some y) where
    opened : (m : List Member) (z : Member) → slice_get m k ≡ Some z → chain (drop k m) ≡ Spelling.Member z.name (spelled structs z.ty) (chain (drop (k + 1) m))
    opened m z found = ap chain (drop_more m k z (slice_get_within m k z found)) ∙ ap (λ w. chain (w ∷ drop (k + 1) m)) (get_or_from_slice_get m k z z found)

    -- from a place on they are alike where the members there are, and those behind them
    pub step_on : x.name ≡ y.name → spelled structs x.ty ≡ spelled structs y.ty → chain (drop (k + 1) a) ≡ chain (drop (k + 1) b) → chain (drop k a) ≡ chain (drop k b)
    step_on names types rest = opened a x at_a
        ∙ ap (λ n. Spelling.Member n (spelled structs x.ty) (chain (drop (k + 1) a))) names
        ∙ ap (λ s. Spelling.Member y.name s (chain (drop (k + 1) a))) types
        ∙ ap (Spelling.Member y.name (spelled structs y.ty)) rest ∙ sym (opened b y at_b)

    joined : chain (drop k a) ≡ chain (drop k b) → Spelling.Member x.name (spelled structs x.ty) (chain (drop (k + 1) a)) ≡ Spelling.Member y.name (spelled structs y.ty) (chain (drop (k + 1) b))
    joined alike = sym (opened a x at_a) ∙ alike ∙ opened b y at_b

    pub names_alike : chain (drop k a) ≡ chain (drop k b) → x.name ≡ y.name
    names_alike alike = ap name_of (joined alike)

    pub types_alike : chain (drop k a) ≡ chain (drop k b) → spelled structs x.ty ≡ spelled structs y.ty
    types_alike alike = ap type_of (joined alike)

    pub rest_alike : chain (drop k a) ≡ chain (drop k b) → chain (drop (k + 1) a) ≡ chain (drop (k + 1) b)
    rest_alike alike = ap chain_of (joined alike)

  module _ (known : AreStructs structs) (i j : ℕ) (a b : StructType) (at_a : slice_get structs i ≡ Some a) (at_b : slice_get structs j ≡ Some b) where
    pub structs_alike : a.name ≡ b.name → chain a.members ≡ chain b.members → spelled structs (ty.Struct i) ≡ spelled structs (ty.Struct j)
    structs_alike names members = struct_spelled structs known i a at_a ∙ ap (λ n. Spelling.Struct n (chain a.members)) names
        ∙ ap (Spelling.Struct b.name) members ∙ sym (struct_spelled structs known j b at_b)

    written : spelled structs (ty.Struct i) ≡ spelled structs (ty.Struct j) → Spelling.Struct a.name (chain a.members) ≡ Spelling.Struct b.name (chain b.members)
    written alike = sym (struct_spelled structs known i a at_a) ∙ alike ∙ struct_spelled structs known j b at_b

    pub struct_names : spelled structs (ty.Struct i) ≡ spelled structs (ty.Struct j) → a.name ≡ b.name
    struct_names alike = ap name_of (written alike)

    pub struct_members : spelled structs (ty.Struct i) ≡ spelled structs (ty.Struct j) → chain a.members ≡ chain b.members
    struct_members alike = ap chain_of (written alike)
