-- Names that a scope has, and the structs that its rows stand for.
use Rattle.std.proofs.Common.{◌≡◌, refl, sym, ap, ◌∙◌, subst, ℕ, inl, inr, Bool, true, false, ◌||◌, nat_eq, List, [], ◌∷◌, slice_get, Some, is_some, if◌then◌else◌}
use Rattle.std.specs.List.{list_any}
use Rattle.std.specs.Str.{bytes_eq}
use Rattle.std.proofs.lemmas.Bool.{true≢false, eqb-true}
use Rattle.gsl_types.specs.declared.ty.StructType.{StructType}
use Rattle.gsl_names.specs.declared.entry.Entry.{Entry}
use Rattle.gsl_names.specs.declared.entry.Entry.TheVariants as entry
use Rattle.gsl_names.specs.Scopes.{Declared, Scope, all_in, first_of}
use Rattle.gsl_link_law.proofs.Agreed.{name_itself}
use Rattle.gsl_link_law.proofs.Members.{In, any_from}

-- ---- names

-- whether a scope has a name
abbrev pub has : Scope → List ℕ → Bool
has scope name = is_some (first_of (all_in scope name))

-- a name that is declared is there
pub has_new : (scope : Scope) (name : List ℕ) (e : Entry) → has ((name, e) ∷ scope) name ≡ true
has_new scope name e = ap (λ b. is_some (first_of (if b then e ∷ all_in scope name else all_in scope name))) (name_itself name name refl)

-- and all others stay
pub has_more : (scope : Scope) (row : Declared) (name : List ℕ) → has scope name ≡ true → has (row ∷ scope) name ≡ true
has_more scope row name is = by_test (bytes_eq row.0 name)
  where
    by_test : (b : Bool) → is_some (first_of (if b then row.1 ∷ all_in scope name else all_in scope name)) ≡ true
    by_test true = refl
    by_test false = is

-- the name of a row is there
pub has_row : (scope : Scope) (row : Declared) → In row scope → has scope row.0 ≡ true
has_row [] row at = elim at [ ]
has_row (first ∷ scope) row (inl same) = subst (λ (r : Declared). has (first ∷ scope) r.0 ≡ true) same (has_new scope first.0 first.1)
has_row (first ∷ scope) row (inr at) = has_more scope first row.0 (has_row scope row at)

-- ---- structs

-- a row is that of a struct
abbrev pub is_struct : ℕ → Entry → Bool
is_struct n (entry.Struct number) = nat_eq number n
is_struct n (entry.Local number fixed) = false
is_struct n (entry.Param number fixed) = false
is_struct n (entry.Global number) = false
is_struct n (entry.Member block number) = false
is_struct n (entry.Instance number) = false
is_struct n (entry.Block number) = false
is_struct n (entry.Interface number) = false
is_struct n (entry.Function number) = false
is_struct n (entry.Builtin which) = false
is_struct n (entry.Stage var) = false
is_struct n entry.Size = false

-- whether a scope has a row of a struct
abbrev pub stands : Scope → ℕ → Bool
stands scope n = list_any (λ (row : Declared). is_struct n row.1) scope

-- Rows of structs have the names of their structs, and those of one name are of one struct.
pub record AreRows (structs : List StructType) (scope : Scope) : Type 0 where
  pub named : (row : Declared) (n : ℕ) → In row scope → is_struct n row.1 ≡ true → (s : StructType) × (slice_get structs n ≡ Some s) × (s.name ≡ row.0)
  pub once : (row other : Declared) (n m : ℕ) → In row scope → In other scope → is_struct n row.1 ≡ true → is_struct m other.1 ≡ true → row.0 ≡ other.0 → n ≡ m

pub no_rows : AreRows [] []
no_rows = record { named = λ row n at is. elim at [ ]; once = λ row other n m at there is also same. elim at [ ] }

-- an entry of no struct
abbrev pub IsPlain : Entry → Type 0
IsPlain e = (n : ℕ) → is_struct n e ≡ false

module _ (structs : List StructType) (scope : Scope) (rows : AreRows structs scope) where
  -- a row of no struct changes nothing
  pub rows_more : (name : List ℕ) (e : Entry) → IsPlain e → AreRows structs ((name, e) ∷ scope)
  rows_more name e plain = record { named = named; once = once }
    where
      never : (row : Declared) (n : ℕ) → (name, e) ≡ row → is_struct n row.1 ≡ true → ⊥
      never row n same is = true≢false (sym is ∙ ap (λ (r : Declared). is_struct n r.1) (sym same) ∙ plain n)

      named : (row : Declared) (n : ℕ) → In row ((name, e) ∷ scope) → is_struct n row.1 ≡ true → (s : StructType) × (slice_get structs n ≡ Some s) × (s.name ≡ row.0)
      named row n (inl same) is = elim (never row n same is) [ ]
      named row n (inr at) is = rows.named row n at is

      once : (row other : Declared) (n m : ℕ) → In row ((name, e) ∷ scope) → In other ((name, e) ∷ scope) → is_struct n row.1 ≡ true → is_struct m other.1 ≡ true → row.0 ≡ other.0 → n ≡ m
      once row other n m (inl same) there is also names = elim (never row n same is) [ ]
      once row other n m (inr at) (inl same) is also names = elim (never other m same also) [ ]
      once row other n m (inr at) (inr there) is also names = rows.once row other n m at there is also names

  -- structs that grow keep their rows
  pub rows_grow : (more : List StructType) → ((k : ℕ) (s : StructType) → slice_get structs k ≡ Some s → slice_get more k ≡ Some s) → AreRows more scope
  rows_grow more grows = record {
    named = λ row n at is. (let found = rows.named row n at is in (found.0, grows n found.0 found.1, found.2));
    once = rows.once;
  }

  -- a struct of a name that was not there
  pub rows_struct : (s : StructType) (n : ℕ) → slice_get structs n ≡ Some s → has scope s.name ≡ false → AreRows structs ((s.name, entry.Struct n) ∷ scope)
  rows_struct s n at_n new = record { named = named; once = once }
    where
      new_row : Declared
      new_row = (s.name, entry.Struct n)

      number : (row : Declared) (k : ℕ) → new_row ≡ row → is_struct k row.1 ≡ true → n ≡ k
      number row k same is = eqb-true n k (ap (λ (r : Declared). is_struct k r.1) same ∙ is)

      apart : (row other : Declared) → new_row ≡ row → In other scope → row.0 ≡ other.0 → ⊥
      apart row other same at names =
          true≢false (sym (has_row scope other at) ∙ ap (has scope) (sym names ∙ ap (λ (r : Declared). r.0) (sym same)) ∙ new)

      named : (row : Declared) (k : ℕ) → In row (new_row ∷ scope) → is_struct k row.1 ≡ true → (t : StructType) × (slice_get structs k ≡ Some t) × (t.name ≡ row.0)
      named row k (inl same) is = (s, ap (slice_get structs) (sym (number row k same is)) ∙ at_n, ap (λ (r : Declared). r.0) same)
      named row k (inr at) is = rows.named row k at is

      once : (row other : Declared) (k m : ℕ) → In row (new_row ∷ scope) → In other (new_row ∷ scope) → is_struct k row.1 ≡ true → is_struct m other.1 ≡ true → row.0 ≡ other.0 → k ≡ m
      once row other k m (inl same) (inl too) is also names = sym (number row k same is) ∙ number other m too also
      once row other k m (inl same) (inr there) is also names = elim (apart row other same there names) [ ]
      once row other k m (inr at) (inl too) is also names = elim (apart other row too at (sym names)) [ ]
      once row other k m (inr at) (inr there) is also names = rows.once row other k m at there is also names

  -- what stands in the scope is there
  pub struct_there : (k : ℕ) → stands scope k ≡ true → (s : StructType) × (slice_get structs k ≡ Some s)
  struct_there k is =
      let row = any_from (λ (row : Declared). is_struct k row.1) scope is in
      let found = rows.named row.0 k row.1 row.2 in
      (found.0, found.1)

  -- Structs that stand in the scope are one where their names are.
  pub one_struct : (k l : ℕ) (s t : StructType) → stands scope k ≡ true → stands scope l ≡ true → slice_get structs k ≡ Some s → slice_get structs l ≡ Some t → s.name ≡ t.name → k ≡ l
  one_struct k l s t first second at_k at_l names =
      let a = any_from (λ (row : Declared). is_struct k row.1) scope first in
      let b = any_from (λ (row : Declared). is_struct l row.1) scope second in
      let x = rows.named a.0 k a.1 a.2 in
      let y = rows.named b.0 l b.1 b.2 in
      let same_s : x.0 ≡ s = same_found x.0 s (sym x.1 ∙ at_k) in
      let same_t : y.0 ≡ t = same_found y.0 t (sym y.1 ∙ at_l) in
      rows.once a.0 b.0 k l a.1 b.1 a.2 b.2
      (sym x.2 ∙ ap (λ (z : StructType). z.name) same_s ∙ names ∙ ap (λ (z : StructType). z.name) (sym same_t) ∙ y.2)
    where
      same_found : (x y : StructType) → Some x ≡ Some y → x ≡ y
      same_found x y is = cc

-- what stands in a scope stands in one with more rows
pub stands_more : (scope : Scope) (row : Declared) (n : ℕ) → stands scope n ≡ true → stands (row ∷ scope) n ≡ true
stands_more scope row n is = by_test (is_struct n row.1)
  where
    by_test : (b : Bool) → (b || stands scope n) ≡ true
    by_test true = refl
    by_test false = is
