-- What stands in lists.
use Rattle.std.proofs.Common.{zero-add, ◌≡◌, refl, sym, ap, ◌∙◌, subst, ℕ, zero, suc, ◌+◌, ◌<◌, List, [], ◌∷◌, ◌++◌, take, length, slice_get, Option, Some, None, unwrap_or, arith, Bool, true, false, if◌then◌else◌}
use Rattle.std.specs.List.{AllByRecursion}
use Rattle.std.specs.Str.{bytes_eq}
use Rattle.std.proofs.lemmas.Option.{none-some}
use Rattle.gsl_types.specs.declared.ty.Member.{Member}
use Rattle.gsl_types.specs.declared.ty.StructType.{StructType}
use Rattle.gsl_tree.specs.declared.unit.Block.{Block}
use Rattle.gsl_tree.specs.declared.unit.BlockMember.{BlockMember}
use Rattle.gsl_tree.specs.Expressions.{most_parts}
use Rattle.gsl_makers.specs.Members.{Found, member_from, members_in, struct_member, block_member_from, block_members_in, block_member_of}

-- what holds of all holds of each
pub at_place : {A : Type 0} (P : A → Type 0) (xs : List A) (k : ℕ) (x : A) → AllByRecursion P xs → slice_get xs k ≡ Some x → P x
at_place P [] k x all is = elim (none-some x is) [ ]
at_place P (y ∷ ys) zero x all is = subst P (ap (λ o. unwrap_or o x) is) all.0
at_place P (y ∷ ys) (suc k) x all is = at_place P ys k x all.1 is

-- what stands at a place below the count
pub below : {A : Type 0} (xs : List A) (k : ℕ) → k < length xs → (x : A) × (slice_get xs k ≡ Some x)
below [] k is = let no : ⊥ = omega (arith, is) in elim no [ ]
below (x ∷ xs) zero is = (x, refl)
below (x ∷ xs) (suc k) is = below xs k (omega (arith, is))

-- what stands among the first of a list stands in it
pub in_front : {A : Type 0} (n : ℕ) (xs : List A) (k : ℕ) (x : A) → slice_get (take n xs) k ≡ Some x → slice_get xs k ≡ Some x
in_front zero xs k x is = elim (none-some x is) [ ]
in_front (suc n) [] k x is = elim (none-some x is) [ ]
in_front (suc n) (y ∷ ys) zero x is = is
in_front (suc n) (y ∷ ys) (suc k) x is = in_front n ys k x is

-- ---- members by their names

abbrev IsFound : List Member → ℕ → Found → Type 0
IsFound members from found = (k : ℕ) × (m : Member) × (found.0 ≡ from + k) × (slice_get members k ≡ Some m) × (m.ty ≡ found.1)

member_found_by : (m : Member) (members : List Member) (from : ℕ) (name : List ℕ) (found : Found) → (member_from (from + 1) members name ≡ Some found → IsFound members (from + 1) found)
    → (b : Bool) → (if b then Some (from, m.ty) else member_from (from + 1) members name) ≡ Some found → IsFound (m ∷ members) from found
member_found_by m members from name found behind true at =
    let same : (from, m.ty) ≡ found = ap (λ o. unwrap_or o found) at in
    (0, m, sym (ap (λ (f : Found). f.0) same) ∙ (let e : from ≡ from + 0 = omega arith in e), refl, ap (λ (f : Found). f.1) same)
member_found_by m members from name found behind false at =
    let later = behind at in
    let k = later.0 in
    let number : found.0 ≡ from + suc later.0 = later.2 ∙ (let e : (from + 1) + k ≡ from + suc k = omega arith in e) in
    (suc later.0, later.1, number, later.3, later.4)

member_found : (members : List Member) (from : ℕ) (name : List ℕ) (found : Found) → member_from from members name ≡ Some found → IsFound members from found
member_found [] from name found is = elim (none-some found is) [ ]
member_found (m ∷ members) from name found is = member_found_by m members from name found (member_found members (from + 1) name found) (bytes_eq m.name name) is

-- the member of a struct that is found stands there
pub struct_member_is : (structs : List StructType) (number : ℕ) (name : List ℕ) (found : Found) → struct_member structs number name ≡ Some found
    → (struct : StructType) × (m : Member) × (slice_get structs number ≡ Some struct) × (slice_get struct.members found.0 ≡ Some m) × (m.ty ≡ found.1)
unfolding struct_member
struct_member_is structs number name found is = by_struct (slice_get structs number) refl is
  where
    by_struct : (o : Option StructType) → slice_get structs number ≡ o → member_from 0 (take most_parts (members_in o)) name ≡ Some found
        → (struct : StructType) × (m : Member) × (slice_get structs number ≡ Some struct) × (slice_get struct.members found.0 ≡ Some m) × (m.ty ≡ found.1)
    by_struct None at got = elim (none-some found got) [ ]
    by_struct (Some struct) at got =
        let f = member_found (take most_parts struct.members) 0 name found got in
        let here : f.0 ≡ found.0 = sym (f.2 ∙ zero-add f.0) in
        (struct, f.1, at, subst (λ k. slice_get struct.members k ≡ Some f.1) here (in_front most_parts struct.members f.0 f.1 f.3), f.4)

abbrev IsBlockFound : List BlockMember → ℕ → Found → Type 0
IsBlockFound members from found = (k : ℕ) × (m : BlockMember) × (found.0 ≡ from + k) × (slice_get members k ≡ Some m) × (m.ty ≡ found.1)

block_found_by : (m : BlockMember) (members : List BlockMember) (from : ℕ) (name : List ℕ) (found : Found) → (block_member_from (from + 1) members name ≡ Some found → IsBlockFound members (from + 1) found)
    → (b : Bool) → (if b then Some (from, m.ty) else block_member_from (from + 1) members name) ≡ Some found → IsBlockFound (m ∷ members) from found
block_found_by m members from name found behind true at =
    let same : (from, m.ty) ≡ found = ap (λ o. unwrap_or o found) at in
    (0, m, sym (ap (λ (f : Found). f.0) same) ∙ (let e : from ≡ from + 0 = omega arith in e), refl, ap (λ (f : Found). f.1) same)
block_found_by m members from name found behind false at =
    let later = behind at in
    let k = later.0 in
    let number : found.0 ≡ from + suc later.0 = later.2 ∙ (let e : (from + 1) + k ≡ from + suc k = omega arith in e) in
    (suc later.0, later.1, number, later.3, later.4)

block_found : (members : List BlockMember) (from : ℕ) (name : List ℕ) (found : Found) → block_member_from from members name ≡ Some found → IsBlockFound members from found
block_found [] from name found is = elim (none-some found is) [ ]
block_found (m ∷ members) from name found is = block_found_by m members from name found (block_found members (from + 1) name found) (bytes_eq m.name name) is

-- and so does that of a block
pub block_member_is : (blocks : List Block) (number : ℕ) (name : List ℕ) (found : Found) → block_member_of blocks number name ≡ Some found
    → (block : Block) × (m : BlockMember) × (slice_get blocks number ≡ Some block) × (slice_get block.members found.0 ≡ Some m) × (m.ty ≡ found.1)
unfolding block_member_of
block_member_is blocks number name found is = by_block (slice_get blocks number) refl is
  where
    by_block : (o : Option Block) → slice_get blocks number ≡ o → block_member_from 0 (take most_parts (block_members_in o)) name ≡ Some found
        → (block : Block) × (m : BlockMember) × (slice_get blocks number ≡ Some block) × (slice_get block.members found.0 ≡ Some m) × (m.ty ≡ found.1)
    by_block None at got = elim (none-some found got) [ ]
    by_block (Some block) at got =
        let f = block_found (take most_parts block.members) 0 name found got in
        let here : f.0 ≡ found.0 = sym (f.2 ∙ zero-add f.0) in
        (block, f.1, at, subst (λ k. slice_get block.members k ≡ Some f.1) here (in_front most_parts block.members f.0 f.1 f.3), f.4)

pub all_append : {A : Type 0} (P : A → Type 0) (xs ys : List A) → AllByRecursion P xs → AllByRecursion P ys → AllByRecursion P (xs ++ ys)
all_append P [] ys first second = second
all_append P (x ∷ xs) ys first second = (first.0, all_append P xs ys first.1 second)

pub all_map : {A : Type 0} (P Q : A → Type 0) (xs : List A) → ((x : A) → P x → Q x) → AllByRecursion P xs → AllByRecursion Q xs
all_map P Q [] f all = tt
all_map P Q (x ∷ xs) f all = (f x all.0, all_map P Q xs f all.1)
