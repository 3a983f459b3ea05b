-- What is put under an id is found under it.
use Rattle.std.proofs.Common.{◌≡◌, refl, sym, ap, subst, ◌∙◌, ℕ, ◌+◌, ◌<◌, Bool, true, false, [], ◌∷◌, Option, Some, None, arith}
use Rattle.std.specs.Prelude.{if◌then◌else◌}
use Rattle.std.proofs.lemmas.Option.{none-some}
use Rattle.gsl_types.specs.declared.ty.Ty.{Ty}
use Rattle.gsl_types.specs.declared.ty.Ty.TheFolds.{fold-roll-Ty, ind-Ty, map-Ty}
use Rattle.gsl_types.specs.declared.ty.Ty.TheOpen.{Ty-F}
use Rattle.gsl_types.specs.declared.ty.Ty.TheViews.{roll-Ty}
use Rattle.gsl_types.specs.declared.ty.Ty.TheVariants as ty
use Rattle.gsl_types.specs.declared.ty.Ty.TheVariants.{rolls-Array, rolls-Runtime, rolls-Struct, rolls-Vector, rolls-One, rolls-Void}
use Rattle.gsl_overload.specs.Identity.{identical}
use Rattle.gsl_overload.proofs.Same.{same_is, same_itself}
use Rattle.gsl_spv.specs.Calls as call
use Rattle.gsl_spv.specs.Sections.{Sections}
use Rattle.gsl_spv.specs.declared.plain.PlainType.TheVariants as plain
use Rattle.gsl_tree.specs.Weights.{dimensions, dimensions_kind}
use Rattle.gsl_lower_values.specs.Building.{Built, Made, Step, id_by}
use Rattle.gsl_lower_values.specs.Types.{scalar_type, type_of}
use Rattle.gsl_lower_holders.specs.Flow.{find_type}
use Rattle.gsl_lower_types.specs.Known.{Known, aside, id_or_lacking, id_or_put, with_type}
use Rattle.gsl_lower_types.specs.Values.{array_of, arrayed, value_type}
use Rattle.gsl_lower_types.proofs.Finding.{aside_keeps, came, given_in, never}
use Rattle.gsl_lower_types.proofs.Steps.{value-Array, value-One, value-Runtime, value-Struct, value-Vector, value-Void}

-- ---- types of other dimensions

array_dimensions : (e : Ty) (n : ℕ) → dimensions (ty.Array e n) ≡ dimensions e + 1
array_dimensions e n = ap dimensions (sym (rolls-Array e n)) ∙ fold-roll-Ty ℕ dimensions_kind (Ty-F.Array e n)

runtime_dimensions : (e : Ty) → dimensions (ty.Runtime e) ≡ dimensions e + 1
runtime_dimensions e = ap dimensions (sym (rolls-Runtime e)) ∙ fold-roll-Ty ℕ dimensions_kind (Ty-F.Runtime e)

untrue : (b : Bool) → (b ≡ true → ⊥) → b ≡ false
untrue true refused = let no_ : ⊥ = refused refl in elim no_ [ ]
untrue false refused = refl

differ : (u t : Ty) → dimensions t < dimensions u → identical u t ≡ false
differ u t less = untrue (identical u t) (λ is. let e : dimensions u ≡ dimensions t = ap dimensions (same_is u t is) in omega (arith, less, e))

found_before : (u t : Ty) (id : ℕ) (known : Known) → identical u t ≡ false → find_type u (with_type t id known) ≡ find_type u known
found_before u t id [] other = ap (λ b. if b then Some id else None) other
found_before u t id (entry ∷ known) other = ap (λ (o : Option ℕ). if identical u entry.0 then Some entry.1 else o) (found_before u t id known other)

last_step : (b : Bool) (x id : ℕ) (o p : Option ℕ) → (o ≡ None → p ≡ Some id) → (if b then Some x else o) ≡ None → (if b then Some x else p) ≡ Some id
last_step true x id o p later is = let no_ : ⊥ = none-some _ (sym is) in elim no_ [ ]
last_step false x id o p later is = later is

last_found : (t : Ty) (id : ℕ) (known : Known) → find_type t known ≡ None → find_type t (with_type t id known) ≡ Some id
last_found t id [] none_ = ap (λ b. if b then Some id else None) (same_itself t)
last_found t id (entry ∷ known) none_ = last_step (identical t entry.0) entry.1 id (find_type t known) (find_type t (with_type t id known)) (last_found t id known) none_

-- ---- what is put changes nothing for types of more dimensions

abbrev Keeps : Ty → Type 0
Keeps t = (u : Ty) (known : Known) (s : Sections) (r : ℕ × Known) (after : Sections) → dimensions t < dimensions u → value_type t known s ≡ Made r after → find_type u r.1 ≡ find_type u known

given : (r : ℕ × Known) (id : ℕ) (known : Known) (s after : Sections) → Made (id, known) s ≡ Made r after → (id, known) ≡ r
given r id known s after is = ap (λ (b : Built (ℕ × Known)). given_in r b) is

beside : (t : Ty) (step : Step ℕ) → ((known : Known) (s : Sections) → value_type t known s ≡ aside step known s) → Keeps t
beside t step is u known s r after less made = ap (find_type u) (sym (aside_keeps step known s r after (sym (is known s) ∙ made)))

-- an array that was not there: its elements, and then itself
record Anew (e : Ty) (n : ℕ) (known : Known) (r : ℕ × Known) : Type 0 where
  of_elements : ℕ × Known
  before : Sections
  between : Sections
  put : value_type e known before ≡ Made of_elements between
  id : ℕ
  is : (id, with_type (ty.Array e n) id of_elements.1) ≡ r

anew : (e : Ty) (n : ℕ) (known : Known) (s : Sections) (r : ℕ × Known) (after : Sections) → id_or_put None (ty.Array e n) (arrayed (value_type e) n) known s ≡ Made r after → Anew e n known r
anew e n known s r after made =
    let c = came (arrayed (value_type e) n known s) _ r after made in
    let d = came (value_type e known s) _ c.first c.between c.made in
    record {
      of_elements = d.first;
      before = s;
      between = d.between;
      put = d.made;
      id = c.first.0;
      is = ap (λ l. (c.first.0, with_type (ty.Array e n) c.first.0 l)) (aside_keeps (array_of d.first.0 n) d.first.1 d.between c.first c.between d.then_) ∙ given r c.first.0 (with_type (ty.Array e n) c.first.0 c.first.1) c.between after c.then_;
    }

module _ (e : Ty) (n : ℕ) (keeps : Keeps e) where
  keeps_by : (o : Option ℕ) (u : Ty) (known : Known) (s : Sections) (r : ℕ × Known) (after : Sections) → dimensions (ty.Array e n) < dimensions u → id_or_put o (ty.Array e n) (arrayed (value_type e) n) known s ≡ Made r after
      → find_type u r.1 ≡ find_type u known
  keeps_by (Some id) u known s r after less made = ap (λ (x : ℕ × Known). find_type u x.1) (sym (given r id known s after made))
  keeps_by None u known s r after less made =
      let a = anew e n known s r after made in
      ap (λ (x : ℕ × Known). find_type u x.1) (sym a.is) ∙ found_before u (ty.Array e n) a.id a.of_elements.1 (differ u (ty.Array e n) less)
      ∙ keeps u known a.before a.of_elements a.between (omega (arith, less, array_dimensions e n)) a.put

  array_keeps : Keeps (ty.Array e n)
  array_keeps u known s r after less made = keeps_by (find_type (ty.Array e n) known) u known s r after less (sym (value-Array known s e n) ∙ made)

  exact_by : (o : Option ℕ) (known : Known) (s : Sections) (r : ℕ × Known) (after : Sections) → find_type (ty.Array e n) known ≡ o → id_or_put o (ty.Array e n) (arrayed (value_type e) n) known s ≡ Made r after
      → find_type (ty.Array e n) r.1 ≡ Some r.0
  exact_by (Some id) known s r after at made = subst (λ (x : ℕ × Known). find_type (ty.Array e n) x.1 ≡ Some x.0) (given r id known s after made) at
  exact_by None known s r after at made =
      let a = anew e n known s r after made in
      subst (λ (x : ℕ × Known). find_type (ty.Array e n) x.1 ≡ Some x.0) a.is
      (last_found (ty.Array e n) a.id a.of_elements.1 (keeps (ty.Array e n) known a.before a.of_elements a.between (omega (arith, array_dimensions e n)) a.put ∙ at))

  pub exact_array : (known : Known) (s : Sections) (r : ℕ × Known) (after : Sections) → value_type (ty.Array e n) known s ≡ Made r after → find_type (ty.Array e n) r.1 ≡ Some r.0
  exact_array known s r after made = exact_by (find_type (ty.Array e n) known) known s r after refl (sym (value-Array known s e n) ∙ made)

-- ---- structs

struct_by : (k : ℕ) (o : Option ℕ) (known : Known) (s : Sections) (r : ℕ × Known) (after : Sections) → find_type (ty.Struct k) known ≡ o → id_or_lacking o known s ≡ Made r after → (find_type (ty.Struct k) r.1 ≡ Some r.0) × (known ≡ r.1)
struct_by k None known s r after at made = never r after made
struct_by k (Some id) known s r after at made =
    let same = given r id known s after made in (subst (λ (x : ℕ × Known). find_type (ty.Struct k) x.1 ≡ Some x.0) same at, ap (λ (x : ℕ × Known). x.1) same)

pub exact_struct : (k : ℕ) (known : Known) (s : Sections) (r : ℕ × Known) (after : Sections) → value_type (ty.Struct k) known s ≡ Made r after → (find_type (ty.Struct k) r.1 ≡ Some r.0) × (known ≡ r.1)
exact_struct k known s r after made = struct_by k (find_type (ty.Struct k) known) known s r after refl (sym (value-Struct known s k) ∙ made)

-- ---- every type

of_layer : (y : Ty-F ((t : Ty) × Keeps t)) → Keeps (roll-Ty (map-Ty _ _ (λ e. e.0) y))
of_layer Ty-F.Void = subst Keeps (sym rolls-Void) (beside ty.Void (id_by (call.plain_type plain.Void)) (λ known s. value-Void known s))
of_layer (Ty-F.One x) = subst Keeps (sym (rolls-One x)) (beside (ty.One x) (scalar_type x) (λ known s. value-One known s x))
of_layer (Ty-F.Vector x n) = subst Keeps (sym (rolls-Vector x n)) (beside (ty.Vector x n) (type_of (x, n)) (λ known s. value-Vector known s x n))
of_layer (Ty-F.Array e n) = subst Keeps (sym (rolls-Array e.0 n)) (array_keeps e.0 n e.1)
of_layer (Ty-F.Runtime e) =
    subst Keeps (sym (rolls-Runtime e.0)) (λ u known s r after less made. e.1 u known s r after (omega (arith, less, runtime_dimensions e.0)) (sym (value-Runtime known s e.0) ∙ made))
of_layer (Ty-F.Struct k) = subst Keeps (sym (rolls-Struct k)) (λ u known s r after less made. ap (find_type u) (sym (exact_struct k known s r after made).1))

keeps_all : (t : Ty) → Keeps t
keeps_all = ind-Ty Keeps (λ x y is. subst (λ z. Keeps (roll-Ty z)) is (of_layer y))

pub array_under_its_id : (e : Ty) (n : ℕ) (known : Known) (s : Sections) (r : ℕ × Known) (after : Sections) → value_type (ty.Array e n) known s ≡ Made r after → find_type (ty.Array e n) r.1 ≡ Some r.0
array_under_its_id e n = exact_array e n (keeps_all e)
