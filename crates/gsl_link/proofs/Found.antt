-- The first of items that pass a test.
use Rattle.std.proofs.Common.{◌≡◌, sym, ap, ◌∙◌, refl, ℕ, ◌<◌, min, Bool, true, false, ◌||◌, not, List, [], ◌∷◌, ◌++◌, map, drop, cond, arith}
use Rattle.std.specs.Prelude.{nat_eq, nat_lt, bytes_eq, filter, slice_get, Some, if◌then◌else◌}
use Rattle.std.specs.List.{list_any}
use Rattle.std.proofs.lemmas.Bool.{ltb-true, lt-ltb, eqb-true}
use Rattle.std.proofs.lemmas.List.Folds.{list_any-append}
use Rattle.indexmap.specs.IndexSet.{insert_key}
use Rattle.gsl_tree.specs.declared.unit.Function.{Function}
use Rattle.gsl_tree.specs.declared.unit.LocalSize.{LocalSize}
use Rattle.gsl_link_units.specs.Firsts.{again_behind, again, first_place}
use Rattle.gsl_link.specs.Finding.{first_where, first_size, first_again, size_fault_of}
use Rattle.gsl_link.specs.Rows.{same_head, size_fault}

-- ---- one pass

pub first_is : (test : Function → Bool) (functions : List Function) → first_where test functions ≡ first_place (map (λ (f : Function). f.place) (filter test functions))
first_is test [] = refl
first_is test (f ∷ functions) = by_cases (first_is test functions) (test f)
  where
    by_cases : first_where test functions ≡ first_place (map (λ (g : Function). g.place) (filter test functions)) → (b : Bool)
        → (if b then Some f.place else first_where test functions) ≡ first_place (map (λ (g : Function). g.place) (cond b (f ∷ filter test functions) (filter test functions)))
    by_cases later true = refl
    by_cases later false = later

pub size_is : (test : LocalSize → Bool) (sizes : List LocalSize) → first_size test sizes ≡ first_place (map (λ (s : LocalSize). s.place) (filter test sizes))
size_is test [] = refl
size_is test (s ∷ sizes) = by_cases (size_is test sizes) (test s)
  where
    by_cases : first_size test sizes ≡ first_place (map (λ (t : LocalSize). t.place) (filter test sizes)) → (b : Bool)
        → (if b then Some s.place else first_size test sizes) ≡ first_place (map (λ (t : LocalSize). t.place) (cond b (s ∷ filter test sizes) (filter test sizes)))
    by_cases later true = refl
    by_cases later false = later

pub sizes_are : (sizes : List LocalSize) → size_fault_of (slice_get sizes 0) (drop 1 sizes) ≡ size_fault sizes
sizes_are [] = refl
sizes_are (size ∷ sizes) = size_is (λ (other : LocalSize). not (bytes_eq other.parts size.parts)) sizes

-- ---- heads that were seen

abbrev Seen : List ℕ → List Function → Type 0
Seen heads before = (head : ℕ) → list_any (nat_eq head) heads ≡ list_any (λ (g : Function). nat_eq head g.prototype) before

or_false : (b : Bool) → (b || false) ≡ b
or_false true = refl
or_false false = refl

or_same : (a b : Bool) → (b ≡ true → a ≡ true) → a ≡ (a || b)
or_same true b to = refl
or_same false true to = to refl
or_same false false to = refl

seen_more : (heads : List ℕ) (before : List Function) (f : Function) → Seen heads before → Seen (insert_key nat_eq heads f.prototype) (before ++ f ∷ [])
seen_more heads before f seen head = by_cases (list_any (nat_eq f.prototype) heads) refl ∙ sym (list_any-append (λ (g : Function). nat_eq head g.prototype) before (f ∷ []))
  where
    by_cases : (b : Bool) → list_any (nat_eq f.prototype) heads ≡ b → list_any (nat_eq head) (cond b heads (heads ++ f.prototype ∷ [])) ≡ (list_any (λ (g : Function). nat_eq head g.prototype) before || (nat_eq head f.prototype || false))
    by_cases true e =
        or_same (list_any (nat_eq head) heads) (nat_eq head f.prototype) (λ same. ap (λ h. list_any (nat_eq h) heads) (eqb-true head f.prototype same) ∙ e)
        ∙ ap (λ b. b || nat_eq head f.prototype) (seen head) ∙ ap (λ b. list_any (λ (g : Function). nat_eq head g.prototype) before || b) (sym (or_false (nat_eq head f.prototype)))
    by_cases false e = list_any-append (nat_eq head) heads (f.prototype ∷ []) ∙ ap (λ b. b || (nat_eq head f.prototype || false)) (seen head)

again_from : (heads : List ℕ) (before functions : List Function) → Seen heads before → first_again heads functions ≡ first_place (map (λ (f : Function). f.place) (again_behind same_head before functions))
again_from heads before [] seen = refl
again_from heads before (f ∷ functions) seen =
    by_cases (again_from (insert_key nat_eq heads f.prototype) (before ++ f ∷ []) functions (seen_more heads before f seen)) (list_any (nat_eq f.prototype) heads) (seen f.prototype)
  where
    by_cases : first_again (insert_key nat_eq heads f.prototype) functions ≡ first_place (map (λ (g : Function). g.place) (again_behind same_head (before ++ f ∷ []) functions)) → (b : Bool)
        → b ≡ list_any (same_head f) before
        → (if b then Some f.place else first_again (insert_key nat_eq heads f.prototype) functions)
        ≡ first_place (map (λ (g : Function). g.place) (if list_any (same_head f) before then f ∷ again_behind same_head (before ++ f ∷ []) functions else again_behind same_head (before ++ f ∷ []) functions))
    by_cases later true e = ap (λ b. first_place (map (λ (g : Function). g.place) (if b then f ∷ again_behind same_head (before ++ f ∷ []) functions else again_behind same_head (before ++ f ∷ []) functions))) e
    by_cases later false e = later ∙ ap (λ b. first_place (map (λ (g : Function). g.place) (if b then f ∷ again_behind same_head (before ++ f ∷ []) functions else again_behind same_head (before ++ f ∷ []) functions))) e

pub again_is : (functions : List Function) → first_again [] functions ≡ first_place (map (λ (f : Function). f.place) (again same_head functions))
again_is functions = again_from [] [] functions (λ head. refl)

-- ---- counts up to a ceiling

beyond : (most n : ℕ) → most < 1048576 → nat_lt most (min n 1048576) ≡ nat_lt most n
beyond most n low = by_cases (nat_lt most n) refl
  where
    at_most : nat_lt most n ≡ false → (c : Bool) → nat_lt most (min n 1048576) ≡ c → c ≡ false
    at_most e false none = refl
    at_most e true some = sym (lt-ltb most n (let h = ltb-true most (min n 1048576) some in omega (arith, h))) ∙ e

    by_cases : (b : Bool) → nat_lt most n ≡ b → nat_lt most (min n 1048576) ≡ b
    by_cases true e = lt-ltb most (min n 1048576) (let h = ltb-true most n e in omega (arith, h, low))
    by_cases false e = at_most e (nat_lt most (min n 1048576)) refl

pub beyond_leaves : (n : ℕ) → nat_lt 65536 (min n 1048576) ≡ nat_lt 65536 n
beyond_leaves n = beyond 65536 n (omega arith)

pub beyond_weight : (n : ℕ) → nat_lt 200000 (min n 1048576) ≡ nat_lt 200000 n
beyond_weight n = beyond 200000 n (omega arith)
