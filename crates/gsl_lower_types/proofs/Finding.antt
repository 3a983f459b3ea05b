-- What was put is found from then on.
use Rattle.std.proofs.Common.{◌≡◌, refl, sym, ap, subst, ◌∙◌, ℕ, Bool, true, false, IsTrue, List, [], ◌∷◌, ◌++◌, Option, Some, None, append_assoc, append-nil}
use Rattle.std.specs.Prelude.{if◌then◌else◌, is_some}
use Rattle.std.proofs.lemmas.Bool.{true≢false}
use Rattle.gsl_types.specs.declared.ty.Ty.{Ty}
use Rattle.gsl_types.specs.declared.ty.Ty.TheFolds.{ind-Ty, map-Ty}
use Rattle.gsl_types.specs.declared.ty.Ty.TheOpen.{Ty-F}
use Rattle.gsl_types.specs.declared.ty.Ty.TheViews.{out-Ty, roll-Ty}
use Rattle.gsl_types.specs.declared.ty.Ty.TheVariants as ty
use Rattle.gsl_types.specs.declared.ty.Ty.TheVariants.{outs-Array, outs-Runtime, outs-Struct, outs-Vector, outs-One, outs-Void, rolls-Array, rolls-Runtime, rolls-Struct, rolls-Vector, rolls-One, rolls-Void}
use Rattle.gsl_overload.specs.Identity.{identical}
use Rattle.gsl_overload.proofs.Same.{same_is, same_itself}
use Rattle.gsl_spv.specs.Calls as call
use Rattle.gsl_spv.specs.Growing.{Begins}
use Rattle.gsl_spv.specs.Sections.{Sections}
use Rattle.gsl_spv.specs.declared.plain.PlainType.TheVariants as plain
use Rattle.gsl_lower_values.specs.Building.{Built, Made, Full, Step, behind, id_by}
use Rattle.gsl_lower_values.specs.Types.{scalar_type, type_of}
use Rattle.gsl_lower_holders.specs.Flow.{find_type}
use Rattle.gsl_lower_types.specs.Finding.{AreWhole, IsFound, found_by, known_by}
use Rattle.gsl_lower_types.specs.Known.{Known, Put, aside, id_or_lacking, id_or_put, with_type}
use Rattle.gsl_lower_types.specs.Values.{array_of, arrayed, value_type}
use Rattle.gsl_lower_types.proofs.Steps.{value-Array, value-One, value-Runtime, value-Struct, value-Vector, value-Void}

-- ---- lists that begin with others

pub begins_same : {A : Type 0} (xs : List A) → Begins xs xs
begins_same xs = record { more = []; is = sym (append-nil xs) }

pub begins_then : {A : Type 0} {xs ys zs : List A} → Begins xs ys → Begins ys zs → Begins xs zs
begins_then {A} {xs} {ys} {zs} p q = record { more = p.more ++ q.more; is = q.is ∙ ap (λ l. l ++ q.more) p.is ∙ append_assoc xs p.more q.more }

pub begins_as : {A : Type 0} {xs ys : List A} → xs ≡ ys → Begins xs ys
begins_as {A} {xs} {ys} is = subst (λ l. Begins xs l) is (begins_same xs)

-- ---- what a step came to

abbrev is_made : {A : Type 0} → Built A → Bool
is_made (Made a s) = true
is_made Full = false

abbrev pub given_in : {A : Type 0} → A → Built A → A
given_in d (Made a s) = a
given_in d Full = d

pub never : {A B : Type 0} (a : A) (s : Sections) → Full ≡ Made a s → B
never a s is = let no_ : ⊥ = true≢false (sym (ap is_made is)) in elim no_ [ ]

pub record Came {A B : Type 0} (r : Built A) (next : A → Step B) (x : B) (after : Sections) : Type 0 where
  pub first : A
  pub between : Sections
  pub made : r ≡ Made first between
  pub then_ : next first between ≡ Made x after

pub came : {A B : Type 0} (r : Built A) (next : A → Step B) (x : B) (after : Sections) → behind r next ≡ Made x after → Came r next x after
came (Made a s) next x after is = record { first = a; between = s; made = refl; then_ = is }
came Full next x after is = never x after is

pub aside_keeps : {A : Type 0} (step : Step A) (known : Known) (s : Sections) (r : A × Known) (after : Sections) → aside step known s ≡ Made r after → known ≡ r.1
aside_keeps step known s r after is = let c = came (step s) _ r after is in ap (λ (b : Built _). (given_in r b).1) c.then_

-- ---- look-ups in what is known

by_entry : (b : Bool) (id : ℕ) (o : Option ℕ) → IsTrue (is_some o) → IsTrue (is_some (if b then Some id else o))
by_entry true id o is = refl
by_entry false id o is = is

pub found_last : (t u : Ty) (id : ℕ) (known : Known) → IsTrue (identical t u) → IsTrue (is_some (find_type t (with_type u id known)))
found_last t u id [] same = ap (λ b. is_some (if b then Some id else None)) same
found_last t u id (entry ∷ known) same = by_entry (identical t entry.0) entry.1 (find_type t (with_type u id known)) (found_last t u id known same)

stays_in : (b : Bool) (id : ℕ) (o p : Option ℕ) → (IsTrue (is_some o) → IsTrue (is_some p)) → IsTrue (is_some (if b then Some id else o)) → IsTrue (is_some (if b then Some id else p))
stays_in true id o p stays is = refl
stays_in false id o p stays is = stays is

still_there : (t : Ty) (known more : Known) → IsTrue (is_some (find_type t known)) → IsTrue (is_some (find_type t (known ++ more)))
still_there t [] more is = let no_ : ⊥ = true≢false (sym is) in elim no_ [ ]
still_there t (entry ∷ known) more is = stays_in (identical t entry.0) entry.1 (find_type t known) (find_type t (known ++ more)) (still_there t known more) is

pub there_stays : (t : Ty) {known after : Known} → Begins known after → IsTrue (is_some (find_type t known)) → IsTrue (is_some (find_type t after))
there_stays t {known} {after} p is = subst (λ l. IsTrue (is_some (find_type t l))) (sym p.is) (still_there t known p.more is)

known_stays : (t : Ty) (y : Ty-F Ty) {known after : Known} → Begins known after → IsTrue (known_by known t y) → IsTrue (known_by after t y)
known_stays t Ty-F.Void p is = refl
known_stays t (Ty-F.One s) p is = refl
known_stays t (Ty-F.Vector s n) p is = refl
known_stays t (Ty-F.Array e n) p is = there_stays t p is
known_stays t (Ty-F.Runtime e) p is = refl
known_stays t (Ty-F.Struct k) p is = there_stays t p is

by_layer : (t : Ty) (y : Ty-F Ty) {known after : Known} → Begins known after → IsTrue (found_by known t y) → IsTrue (found_by after t y)
by_layer t Ty-F.Void p is = refl
by_layer t (Ty-F.One s) p is = refl
by_layer t (Ty-F.Vector s n) p is = refl
by_layer t (Ty-F.Array e n) p is = there_stays t p is
by_layer t (Ty-F.Runtime e) p is = known_stays e (out-Ty e) p is
by_layer t (Ty-F.Struct k) p is = there_stays t p is

pub found_stays : (t : Ty) {known after : Known} → Begins known after → IsFound known t → IsFound after t
found_stays t p is = by_layer t (out-Ty t) p is

-- ---- a type

-- What puts a type only adds to what is known, among which the type is then found; and what was whole is so still.
pub record Finds (put : Put ℕ) (t : Ty) : Type 0 where
  pub grows : (known : Known) (s : Sections) (r : ℕ × Known) (after : Sections) → put known s ≡ Made r after → Begins known r.1
  pub itself : (known : Known) (s : Sections) (r : ℕ × Known) (after : Sections) → put known s ≡ Made r after → IsTrue (known_by r.1 t (out-Ty t))
  pub found : (known : Known) (s : Sections) (r : ℕ × Known) (after : Sections) → put known s ≡ Made r after → IsFound r.1 t
  pub whole : (known : Known) (s : Sections) (r : ℕ × Known) (after : Sections) → put known s ≡ Made r after → AreWhole known → AreWhole r.1

-- a type that needs not be known
unlisted : (t : Ty) (put : Put ℕ) (step : Step ℕ) → ((known : Known) (s : Sections) → put known s ≡ aside step known s) → ((known : Known) → known_by known t (out-Ty t) ≡ true) → ((known : Known) → found_by known t (out-Ty t) ≡ true) → Finds put t
unlisted t put step is free wide = record {
  grows = λ known s r after made. begins_as (aside_keeps step known s r after (sym (is known s) ∙ made));
  itself = λ known s r after made. free r.1;
  found = λ known s r after made. wide r.1;
  whole = λ known s r after made w. subst AreWhole (aside_keeps step known s r after (sym (is known s) ∙ made)) w;
}

-- ---- arrays

-- what comes of an array whose elements are put by this
pub record Arrives (e : Ty) (n : ℕ) (known : Known) (r : ℕ × Known) : Type 0 where
  pub grows : Begins known r.1
  pub there : IsTrue (is_some (find_type (ty.Array e n) r.1))
  pub whole : AreWhole known → AreWhole r.1

abbrev element_or : Ty → Ty-F Ty → Ty
element_or d (Ty-F.Array e n) = e
element_or d _ = d

same_elements : (e f : Ty) (n m : ℕ) → ty.Array e n ≡ ty.Array f m → e ≡ f
same_elements e f n m is = ap (element_or e) (sym (outs-Array e n) ∙ ap out-Ty is ∙ outs-Array f m)

last_test : (b : Bool) (id : ℕ) → IsTrue (is_some (if b then Some id else None)) → IsTrue b
last_test true id is = refl
last_test false id is = is

next_test : (b : Bool) (found : ℕ) (o p : Option ℕ) (G : Type 0) → (IsTrue (is_some (if b then Some found else o)) → G) → ((IsTrue (is_some o) → G) → IsTrue (is_some p) → G) → IsTrue (is_some (if b then Some found else p)) → G
next_test true found o p G now later is = now refl
next_test false found o p G now later is = later now is

pub last_or_before : (t u : Ty) (id : ℕ) (known : Known) (Goal : Type 0) → (IsTrue (is_some (find_type t known)) → Goal) → (IsTrue (identical t u) → Goal) → IsTrue (is_some (find_type t (with_type u id known))) → Goal
last_or_before t u id [] Goal before last is = last (last_test (identical t u) id is)
last_or_before t u id (entry ∷ known) Goal before last is =
    next_test (identical t entry.0) entry.1 (find_type t known) (find_type t (with_type u id known)) Goal before (λ b rest. last_or_before t u id known Goal b last rest) is

anew_whole : (e : Ty) (n id : ℕ) (known : Known) → AreWhole known → IsFound known e → AreWhole (with_type (ty.Array e n) id known)
anew_whole e n id known w found f m is =
    let more : Begins known (with_type (ty.Array e n) id known) = record { more = (ty.Array e n, id) ∷ []; is = refl } in
    found_stays f more (last_or_before (ty.Array f m) (ty.Array e n) id known (IsFound known f) (w f m)
    (λ same. subst (IsFound known) (sym (same_elements f e m n (same_is (ty.Array f m) (ty.Array e n) same))) found) is)

module _ (e : Ty) (n : ℕ) (finds : Finds (value_type e) e) where
  arrives_by : (o : Option ℕ) (known : Known) (s : Sections) (r : ℕ × Known) (after : Sections) → find_type (ty.Array e n) known ≡ o → id_or_put o (ty.Array e n) (arrayed (value_type e) n) known s ≡ Made r after → Arrives e n known r
  arrives_by (Some id) known s r after at is =
      let same : known ≡ r.1 = ap (λ (b : Built (ℕ × Known)). (given_in r b).1) is in
      record { grows = begins_as same; there = subst (λ l. IsTrue (is_some (find_type (ty.Array e n) l))) same (ap is_some at); whole = subst AreWhole same }
  arrives_by None known s r after at is =
      let c = came (arrayed (value_type e) n known s) _ r after is in
      let d = came (value_type e known s) _ c.first c.between c.made in
      let kept : d.first.1 ≡ c.first.1 = aside_keeps (array_of d.first.0 n) d.first.1 d.between c.first c.between d.then_ in
      let grown : Begins known c.first.1 = begins_then (finds.grows known s d.first d.between d.made) (begins_as kept) in
      let last : with_type (ty.Array e n) c.first.0 c.first.1 ≡ r.1 = ap (λ (b : Built (ℕ × Known)). (given_in r b).1) c.then_ in
      record {
        grows = begins_then grown (subst (λ l. Begins c.first.1 l) last (record { more = (ty.Array e n, c.first.0) ∷ []; is = refl }));
        there = subst (λ l. IsTrue (is_some (find_type (ty.Array e n) l))) last (found_last (ty.Array e n) (ty.Array e n) c.first.0 c.first.1 (same_itself (ty.Array e n)));
        whole = λ w. subst AreWhole last (anew_whole e n c.first.0 c.first.1 (subst AreWhole kept (finds.whole known s d.first d.between d.made w)) (subst (λ l. IsFound l e) kept (finds.found known s d.first d.between d.made)));
      }

  arrives : (known : Known) (s : Sections) (r : ℕ × Known) (after : Sections) → value_type (ty.Array e n) known s ≡ Made r after → Arrives e n known r
  arrives known s r after is = arrives_by (find_type (ty.Array e n) known) known s r after refl (sym (value-Array known s e n) ∙ is)

  array_found : Finds (value_type (ty.Array e n)) (ty.Array e n)
  array_found = record {
    grows = λ known s r after made. (arrives known s r after made).grows;
    itself = λ known s r after made. subst (λ y. IsTrue (known_by r.1 (ty.Array e n) y)) (sym (outs-Array e n)) (arrives known s r after made).there;
    found = λ known s r after made. subst (λ y. IsTrue (found_by r.1 (ty.Array e n) y)) (sym (outs-Array e n)) (arrives known s r after made).there;
    whole = λ known s r after made. (arrives known s r after made).whole;
  }

-- ---- structs

record IsThere (t : Ty) (known : Known) (r : ℕ × Known) : Type 0 where
  same : known ≡ r.1
  there : IsTrue (is_some (find_type t r.1))

there_by : (t : Ty) (o : Option ℕ) (known : Known) (s : Sections) (r : ℕ × Known) (after : Sections) → find_type t known ≡ o → id_or_lacking o known s ≡ Made r after → IsThere t known r
there_by t None known s r after at is = never r after is
there_by t (Some id) known s r after at is =
    let same_ : known ≡ r.1 = ap (λ (b : Built (ℕ × Known)). (given_in r b).1) is in
    record { same = same_; there = subst (λ l. IsTrue (is_some (find_type t l))) same_ (ap is_some at) }

struct_there : (k : ℕ) (known : Known) (s : Sections) (r : ℕ × Known) (after : Sections) → value_type (ty.Struct k) known s ≡ Made r after → IsThere (ty.Struct k) known r
struct_there k known s r after is = there_by (ty.Struct k) (find_type (ty.Struct k) known) known s r after refl (sym (value-Struct known s k) ∙ is)

struct_found : (k : ℕ) → Finds (value_type (ty.Struct k)) (ty.Struct k)
struct_found k = record {
  grows = λ known s r after made. begins_as (struct_there k known s r after made).same;
  itself = λ known s r after made. subst (λ y. IsTrue (known_by r.1 (ty.Struct k) y)) (sym (outs-Struct k)) (struct_there k known s r after made).there;
  found = λ known s r after made. subst (λ y. IsTrue (found_by r.1 (ty.Struct k) y)) (sym (outs-Struct k)) (struct_there k known s r after made).there;
  whole = λ known s r after made w. subst AreWhole (struct_there k known s r after made).same w;
}

runtime_found : (e : Ty) → Finds (value_type e) e → Finds (value_type (ty.Runtime e)) (ty.Runtime e)
runtime_found e f = record {
  grows = λ known s r after made. f.grows known s r after (sym (value-Runtime known s e) ∙ made);
  itself = λ known s r after made. ap (known_by r.1 (ty.Runtime e)) (outs-Runtime e);
  found = λ known s r after made. subst (λ y. IsTrue (found_by r.1 (ty.Runtime e) y)) (sym (outs-Runtime e)) (f.itself known s r after (sym (value-Runtime known s e) ∙ made));
  whole = λ known s r after made. f.whole known s r after (sym (value-Runtime known s e) ∙ made);
}

-- ---- every type

abbrev Is : Ty → Type 0
Is t = Finds (value_type t) t

of_layer : (y : Ty-F ((t : Ty) × Is t)) → Is (roll-Ty (map-Ty _ _ (λ e. e.0) y))
of_layer Ty-F.Void = subst Is (sym rolls-Void) (unlisted ty.Void (value_type ty.Void) (id_by (call.plain_type plain.Void)) (λ known s. value-Void known s) (λ known. ap (known_by known ty.Void) outs-Void) (λ known. ap (found_by known ty.Void) outs-Void))
of_layer (Ty-F.One x) = subst Is (sym (rolls-One x)) (unlisted (ty.One x) (value_type (ty.One x)) (scalar_type x) (λ known s. value-One known s x) (λ known. ap (known_by known (ty.One x)) (outs-One x)) (λ known. ap (found_by known (ty.One x)) (outs-One x)))
of_layer (Ty-F.Vector x n) =
    subst Is (sym (rolls-Vector x n)) (unlisted (ty.Vector x n) (value_type (ty.Vector x n)) (type_of (x, n)) (λ known s. value-Vector known s x n) (λ known. ap (known_by known (ty.Vector x n)) (outs-Vector x n)) (λ known. ap (found_by known (ty.Vector x n)) (outs-Vector x n)))
of_layer (Ty-F.Array e n) = subst Is (sym (rolls-Array e.0 n)) (array_found e.0 n e.1)
of_layer (Ty-F.Runtime e) = subst Is (sym (rolls-Runtime e.0)) (runtime_found e.0 e.1)
of_layer (Ty-F.Struct k) = subst Is (sym (rolls-Struct k)) (struct_found k)

pub finds_itself : (t : Ty) → Finds (value_type t) t
finds_itself = ind-Ty Is (λ x y is. subst (λ z. Is (roll-Ty z)) is (of_layer y))

pub nothing_whole : AreWhole []
nothing_whole e n is = let no_ : ⊥ = true≢false (sym is) in elim no_ [ ]
