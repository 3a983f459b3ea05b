-- What always comes to something or strays.
use Rattle.std.proofs.Common.{◌≡◌, refl, sym, ◌∙◌, ℕ, Bool, true, false, ◌||◌, ◌&&◌, List, [], ◌∷◌, Some, None, if◌then◌else◌}
use Rattle.std.specs.Prelude.{nat_lt}
use Rattle.gsl_types.specs.declared.ty.Ty.{Ty}
use Rattle.gsl_types.specs.declared.ty.StructType.{StructType}
use Rattle.gsl_values.specs.declared.value.Value.{Value}
use Rattle.gsl_meaning.specs.Accesses.{Access, Loose, index_of, parts_at, read, whole}
use Rattle.gsl_meaning.specs.Expressions.{accessed, valued}
use Rattle.gsl_meaning.specs.Running.{Ran, Run, Got, Ends, Strays, Goes, behind, given, ◌>>=◌, told_by, drawing, storing, indexing}
use Rattle.gsl_meaning.specs.State.{State}
use Rattle.gsl_lower_traits.specs.declared.traits.Traits.{Traits}
use Rattle.gsl_lower_traits.specs.Traits as known
use Rattle.gsl_lower_traits.specs.Traits.{Known, together_on, with}
use Rattle.gsl_lower_traits_law.specs.Telling.{AlwaysComes, Comes, Tells}

pub given_comes : {A : Type 0} (a : A) → AlwaysComes (given a)
given_comes a s units = tt

pub told_comes : {A : Type 0} (tell : State → A) → AlwaysComes (told_by tell)
told_comes tell s units = tt

pub drawing_comes : {A : Type 0} (draw : List ℕ → A × List ℕ) → AlwaysComes (drawing draw)
drawing_comes draw s units = tt

pub storing_comes : (a : Access) (v : Value) → AlwaysComes (storing a v)
storing_comes a v s units = tt

pub then_comes : {A B : Type 0} (x : Run A) (next : A → Run B) → AlwaysComes x → ((a : A) → AlwaysComes (next a)) → AlwaysComes (x >>= next)
then_comes {A} {B} x next first later s units = by (x s units) (first s units)
  where
    by : (ran : Ran A) → Comes ran → Comes (behind ran next)
    by (Got a t left) came = later a t left
    by (Ends t) came = absurd came
    by Strays came = tt
    by Goes came = absurd came

pub indexing_comes : (a : Access) (index : ℕ) → AlwaysComes (indexing a index)
indexing_comes a index s units = by (nat_lt index (parts_at a s))
  where
    by : (b : Bool) → Comes (if b then Got (index_of a index) s units else Strays)
    by true = tt
    by false = tt

pub if_comes : {A : Type 0} (b : Bool) (x y : Run A) → AlwaysComes x → AlwaysComes y → AlwaysComes (if b then x else y)
if_comes true x y first second = first
if_comes false x y first second = second

-- ---- which expressions call none

pub none_of : (a b : Bool) → (a || b) ≡ false → (a ≡ false) × (b ≡ false)
none_of true b e = absurd (let z : true ≡ false = e in cc)
none_of false b e = (refl, e)

abbrev pub NoneCall : List Known → Type 0
NoneCall [] = Unit {0}
NoneCall (k ∷ ks) = (k.traits.calls ≡ false) × NoneCall ks

pub none_call : (so_far : Traits) (ks : List Known) → (together_on so_far ks).calls ≡ false → (so_far.calls ≡ false) × NoneCall ks
none_call so_far [] e = (e, tt)
none_call so_far (k ∷ ks) e =
    let more = none_call (with so_far k.traits) ks e in
    let here = none_of so_far.calls k.traits.calls more.0 in
    (here.0, (here.1, more.1))

-- ---- which have labels

pub both_true : (a b : Bool) → (a && b) ≡ true → (a ≡ true) × (b ≡ true)
both_true true b e = (refl, e)
both_true false b e = absurd (let z : false ≡ true = e in cc)

pub none_splits : (a b : Bool) → a ≡ false → b ≡ false → (a || b) ≡ false
none_splits true b e f = absurd (let z : true ≡ false = e in cc)
none_splits false b e f = f

pub never : (a : Bool) {P : Type 0} → (a && false) ≡ true → P
never true e = absurd (let z : false ≡ true = e in cc)
never false e = absurd (let z : false ≡ true = e in cc)

-- ---- what is told

no_literal : (number : ℕ) {P : Type 0} → None ≡ Some number → P
no_literal number e = absurd cc

pub valued_tells : (t : Ty) (value : Run Value) (splits calls quiet : Bool) → (calls ≡ false → AlwaysComes value) → (quiet ≡ true → splits ≡ false) → Tells (known.valued splits calls quiet) (valued t value)
valued_tells t value splits calls quiet comes whole_block = record {
  comes = λ e. (then_comes value (λ v. given (whole (Loose v))) (comes e) (λ v. given_comes (whole (Loose v))), comes e);
  literal = λ number e. no_literal number e;
  quiet = whole_block;
  still = whole_block;
}

pub accessed_tells : (structs : List StructType) (t : Ty) (access : Run Access) (k : Traits) → k.literal ≡ None → (k.calls ≡ false → AlwaysComes access) → (k.quiet ≡ true → k.splits ≡ false) → (k.still ≡ true → k.splits ≡ false) → Tells k (accessed structs t access)
accessed_tells structs t access k none comes quiet still = record {
  comes = λ e. (comes e, then_comes access (λ a. told_by (read structs t a)) (comes e) (λ a. told_comes (read structs t a)));
  literal = λ number e. no_literal number (sym none ∙ e);
  quiet = quiet;
  still = still;
}
