-- Tables of rows: one row more, and what a look-up finds.
use Rattle.std.proofs.Common.{◌≡◌, ℕ, suc, ◌+◌, Bool, true, false, ◌||◌, List, [], ◌∷◌, ◌++◌, length, is_some, bytes_eq, if◌then◌else◌, refl, ap, ◌∙◌, arith, append-nil}
use Rattle.std.specs.List.{list_any}
use Rattle.gsl_types.specs.declared.ty.Member.{Member}
use Rattle.gsl_tree.specs.declared.unit.Prototype.{Prototype}
use Rattle.gsl_names.specs.declared.entry.Entry.TheVariants as entry
use Rattle.gsl_names.specs.Scopes.{Scope, all_in, first_of, find}
use Rattle.gsl_check_decl.specs.Tables.{head_key, heads_above, members_above}
use Rattle.gsl_check_decl.specs.Structs.{has_member}

heads_behind : (n : ℕ) (rows : Scope) (heads : List Prototype) (p : Prototype) →
    heads_above n rows (heads ++ p ∷ []) ≡ (head_key p.name p.params, entry.Function (n + length heads)) ∷ heads_above n rows heads
unfolding heads_above
heads_behind n rows [] p = let e : n ≡ n + 0 = omega arith in ap (λ k. (head_key p.name p.params, entry.Function k) ∷ rows) e
heads_behind n rows (q ∷ heads) p =
    let e : n + 1 + length heads ≡ n + suc (length heads) = omega arith in
    heads_behind (n + 1) ((head_key q.name q.params, entry.Function n) ∷ rows) heads p
    ∙ ap (λ k. (head_key p.name p.params, entry.Function k) ∷ heads_above (n + 1) ((head_key q.name q.params, entry.Function n) ∷ rows) heads) e

-- one head more
pub head_behind : (heads : List Prototype) (p : Prototype) → heads_above 0 [] (heads ++ p ∷ []) ≡ (head_key p.name p.params, entry.Function (length heads)) ∷ heads_above 0 [] heads
head_behind heads p = let e : 0 + length heads ≡ length heads = omega arith in heads_behind 0 [] heads p ∙ ap (λ k. (head_key p.name p.params, entry.Function k) ∷ heads_above 0 [] heads) e

members_behind : (rows : Scope) (members : List Member) (member : Member) → members_above rows (members ++ member ∷ []) ≡ (member.name, entry.Size) ∷ members_above rows members
unfolding members_above
members_behind rows [] member = refl
members_behind rows (m ∷ members) member = members_behind ((m.name, entry.Size) ∷ rows) members member

-- one member more
pub member_behind : (members : List Member) (member : Member) → members_above [] (members ++ member ∷ []) ≡ (member.name, entry.Size) ∷ members_above [] members
member_behind members member = members_behind [] members member

-- ---- a member of a name

has_row : Scope → List ℕ → Bool
has_row rows name = is_some (first_of (all_in rows name))

row_first : (rows : Scope) (name other : List ℕ) → has_row ((other, entry.Size) ∷ rows) name ≡ (bytes_eq other name || has_row rows name)
unfolding has_row
row_first rows name other = by_test (bytes_eq other name)
  where
    by_test : (b : Bool) → is_some (first_of (if b then entry.Size ∷ all_in rows name else all_in rows name)) ≡ (b || is_some (first_of (all_in rows name)))
    by_test true = refl
    by_test false = refl

or_swap : (a b c : Bool) → (a || (b || c)) ≡ ((b || a) || c)
or_swap true true c = refl
or_swap true false c = refl
or_swap false true c = refl
or_swap false false c = refl

has_rows : (rows : Scope) (members : List Member) (name : List ℕ) → has_row (members_above rows members) name ≡ (list_any (λ (m : Member). bytes_eq m.name name) members || has_row rows name)
unfolding members_above
has_rows rows [] name = refl
has_rows rows (m ∷ members) name =
    has_rows ((m.name, entry.Size) ∷ rows) members name
    ∙ ap (λ b. list_any (λ (m : Member). bytes_eq m.name name) members || b) (row_first rows name m.name)
    ∙ or_swap (list_any (λ (m : Member). bytes_eq m.name name) members) (bytes_eq m.name name) (has_row rows name)

or_none : (a : Bool) → (a || false) ≡ a
or_none true = refl
or_none false = refl

-- a name stands for something among the rows exactly where a member has it
pub member_found : (members : List Member) (name : List ℕ) → is_some (find (members_above [] members ∷ []) name) ≡ has_member members name
unfolding has_member has_row
member_found members name =
    ap (λ all. is_some (first_of all)) (append-nil (all_in (members_above [] members) name)) ∙ has_rows [] members name ∙ or_none (list_any (λ (m : Member). bytes_eq m.name name) members)
