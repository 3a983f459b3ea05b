-- What is found in the table of heads is the first head of a function.
use Rattle.std.proofs.Common.{◌≡◌, ℕ, suc, ◌+◌, Bool, true, false, List, [], ◌∷◌, ◌++◌, Option, Some, None, slice_get, bytes_eq, if◌then◌else◌, refl, ap, sym, ◌∙◌, arith, append-nil, true≢false}
use Rattle.std.proofs.lemmas.Slice.Eq.{bytes_eq-Decides}
use Rattle.std.proofs.lemmas.Bool.{and_parts}
use Rattle.gsl_types.specs.declared.ty.Direction.{Direction}
use Rattle.gsl_types.specs.declared.ty.Ty.{Ty}
use Rattle.gsl_overload.specs.Identity.{identical}
use Rattle.gsl_overload.proofs.Same.{same_is}
use Rattle.gsl_names.specs.declared.entry.Entry.{Entry}
use Rattle.gsl_names.specs.declared.entry.Entry.TheVariants as entry
use Rattle.gsl_names.specs.Scopes.{Scope, all_in, all_of}
use Rattle.gsl_tree.specs.declared.unit.Prototype.{Prototype}
use Rattle.gsl_check_decl.specs.Tables.{type_key, types_key, head_key, heads_above}
use Rattle.gsl_check_heads.specs.Heads.{same_types, is_of, number_from, head_number}
use Rattle.gsl_check_heads.specs.Finding.{is_head_of, is_numbered, oldest}

-- ---- the heads of a function have one key

same_keys : (a b : List (Direction × Ty)) → same_types a b ≡ true → types_key a ≡ types_key b
unfolding types_key
same_keys [] [] e = refl
same_keys [] (y ∷ b) e = absurd (true≢false (sym e))
same_keys (x ∷ a) [] e = absurd (true≢false (sym e))
same_keys (x ∷ a) (y ∷ b) e =
    let p = and_parts (identical x.1 y.1) (same_types a b) e in
    ap (λ t. type_key t ++ types_key a) (same_is x.1 y.1 p.0) ∙ ap (λ k. type_key y.1 ++ k) (same_keys a b p.1)

of_key : (name : List ℕ) (params : List (Direction × Ty)) (p : Prototype) → is_of name params p ≡ true → head_key p.name p.params ≡ head_key name params
of_key name params p e =
    let parts = and_parts (bytes_eq p.name name) (same_types p.params params) e in
    ap (λ n. n ++ types_key p.params) ((bytes_eq-Decides p.name name).0 parts.0) ∙ ap (λ k. name ++ k) (same_keys p.params params parts.1)

has_key : (name : List ℕ) (params : List (Direction × Ty)) (p : Prototype) → is_of name params p ≡ true → bytes_eq (head_key p.name p.params) (head_key name params) ≡ true
has_key name params p e = (bytes_eq-Decides (head_key p.name p.params) (head_key name params)).1 (of_key name params p e)

-- ---- the first one is found last

else_found : Option ℕ → Option ℕ → Option ℕ
else_found None found = found
else_found (Some n) found = Some n

else_none : (x : Option ℕ) → else_found x None ≡ x
unfolding else_found
else_none None = refl
else_none (Some n) = refl

one_row : (test : ℕ → Bool) (n : ℕ) (first found : Option ℕ) (entries : List Entry) (is key : Bool) → test n ≡ is → (is ≡ true → key ≡ true) →
    oldest test (else_found first found) (if key then entry.Function n ∷ entries else entries) ≡ oldest test (else_found (if is then Some n else first) found) entries
unfolding oldest else_found
one_row test n first found entries true true e h = ap (λ b. oldest test (if b then Some n else else_found first found) entries) e
one_row test n first found entries true false e h = absurd (true≢false (sym (h refl)))
one_row test n first found entries false true e h = ap (λ b. oldest test (if b then Some n else else_found first found) entries) e
one_row test n first found entries false false e h = refl

above : (test : ℕ → Bool) (name : List ℕ) (params : List (Direction × Ty)) (n : ℕ) (rows : Scope) (found : Option ℕ) (heads : List Prototype) →
    ((i : ℕ) (q : Prototype) → slice_get heads i ≡ Some q → test (n + i) ≡ is_of name params q) →
    oldest test found (all_in (heads_above n rows heads) (head_key name params)) ≡ oldest test (else_found (number_from n name params heads) found) (all_in rows (head_key name params))
unfolding heads_above else_found
above test name params n rows found [] told = refl
above test name params n rows found (p ∷ heads) told =
    let here : n + 0 ≡ n = omega arith in
    above test name params (n + 1) ((head_key p.name p.params, entry.Function n) ∷ rows) found heads
    (λ i q at. let e : n + 1 + i ≡ n + suc i = omega arith in ap test e ∙ told (suc i) q at)
    ∙ one_row test n (number_from (n + 1) name params heads) found (all_in rows (head_key name params)) (is_of name params p) (bytes_eq (head_key p.name p.params) (head_key name params))
    (ap test (sym here) ∙ told 0 p refl) (has_key name params p)

-- the table tells the number of the first head of a function
pub oldest_is : (prototypes : List Prototype) (name : List ℕ) (params : List (Direction × Ty)) (key : List ℕ) (entries : List Entry) → key ≡ head_key name params → entries ≡ all_of (heads_above 0 [] prototypes ∷ []) key →
    oldest (is_numbered prototypes name params) None entries ≡ head_number name params prototypes
unfolding head_number oldest
oldest_is prototypes name params key entries is e =
    ap (oldest (is_numbered prototypes name params) None) (e ∙ ap (all_of (heads_above 0 [] prototypes ∷ [])) is ∙ append-nil (all_in (heads_above 0 [] prototypes) (head_key name params)))
    ∙ above (is_numbered prototypes name params) name params 0 [] None prototypes (λ i q at. let z : 0 + i ≡ i = omega arith in ap (is_numbered prototypes name params) z ∙ ap (is_head_of name params) at)
    ∙ else_none (number_from 0 name params prototypes)

-- the same of what the code looks at
pub head_found : (prototypes shown : List Prototype) (name : List ℕ) (params : List (Direction × Ty)) (key : List ℕ) (entries listed : List Entry) (result : Option ℕ) → shown ≡ prototypes → listed ≡ entries → key ≡ head_key name params →
    entries ≡ all_of (heads_above 0 [] prototypes ∷ []) key → result ≡ oldest (is_numbered shown name params) None listed → result ≡ head_number name params prototypes
head_found prototypes shown name params key entries listed result s l is e r =
    r ∙ ap (λ ps. oldest (is_numbered ps name params) None listed) s ∙ ap (oldest (is_numbered prototypes name params) None) l ∙ oldest_is prototypes name params key entries is e
