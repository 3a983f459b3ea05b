-- What is told where types are put along the way.
use Rattle.std.proofs.Common.{◌≡◌, refl, sym, ap, ◌∙◌, subst, ℕ, zero, suc, Bool, true, false, List, [], ◌∷◌, ◌++◌, slice_get, Some, if◌then◌else◌}
use Rattle.gsl_types.specs.declared.ty.Ty.{Ty}
use Rattle.gsl_overload.specs.Identity.{identical}
use Rattle.gsl_spv.specs.Growing.{Begins, Extends}
use Rattle.gsl_spv.specs.Sections.{Sections}
use Rattle.gsl_spv.proofs.Extending.{extends_same, extends_then}
use Rattle.gsl_lower_values.specs.Building.{Step, Made, ◌>>=◌, given}
use Rattle.gsl_lower_holders.specs.Flow.{find_type}
use Rattle.gsl_lower_types.specs.Known.{Known, Put, aside, each, lacking}
use Rattle.gsl_lower_types.proofs.Finding.{begins_as, begins_then, came, never}
use Rattle.gsl_lower_law_outside.proofs.Keeping.{same_after, same_made}
use Rattle.gsl_lower_law_inputs.proofs.Tells.{AllTell, Both}

-- what is found is found among more
pub found_on : (t : Ty) (id : ℕ) (known all : Known) → Begins known all → find_type t known ≡ Some id → find_type t all ≡ Some id
found_on t id known all begins is = subst (λ l. find_type t l ≡ Some id) (sym begins.is) (with_more known is)
  where
    with_more : (known : Known) → find_type t known ≡ Some id → find_type t (known ++ begins.more) ≡ Some id
    with_more [] is = absurd (cc)
    with_more (e ∷ known) is = by (identical t e.0) (with_more known) is
      where
        by : (b : Bool) → (find_type t known ≡ Some id → find_type t (known ++ begins.more) ≡ Some id) → (if b then Some e.1 else find_type t known) ≡ Some id → (if b then Some e.1 else find_type t (known ++ begins.more)) ≡ Some id
        by true later is = is
        by false later is = later is

-- Each of some ids is so of the item of its number.
pub record EachTells {A : Type 0} (P : A → ℕ → Type 0) (items : List A) (ids : List ℕ) : Type 0 where
  pub each : (number : ℕ) (a : A) → slice_get items number ≡ Some a → (id : ℕ) × (slice_get ids number ≡ Some id) × P a id

module _ (whole : Sections) (known_all : Known) where
  -- Sections grew and more types were known, and where all of them are those of the whole, that is so.
  pub record TellsPut (known : Known) (s : Sections) (later : Known) (after : Sections) (P : Type 0) : Type 0 where
    pub extends : Extends s after
    pub grows : Begins known later
    pub told : Extends after whole → Begins later known_all → P

  -- What puts types tells this of what it gives, wherever it stands.
  pub record AllTellPut {A : Type 0} (put : Put A) (P : A → Type 0) : Type 0 where
    pub all : (known : Known) (s : Sections) (r : A × Known) (after : Sections) → put known s ≡ Made r after → TellsPut known s r.1 after (P r.0)

  pub put_then : {A B : Type 0} {P : A → Type 0} {Q : A → B → Type 0} (f : Put A) (g : A → Put B) → AllTellPut f P → ((a : A) → AllTellPut (g a) (Q a)) → AllTellPut (λ known. f known >>= (λ r. g r.0 r.1)) (Both P Q)
  put_then f g p q = record {
    all = λ known s r after made.
        let c = came (f known s) (λ r. g r.0 r.1) r after made in
        let x = p.all known s c.first c.between c.made in
        let y = (q c.first.0).all c.first.1 c.between r after c.then_ in
        record {
          extends = extends_then x.extends y.extends;
          grows = begins_then x.grows y.grows;
          told = λ into begins. record { first = c.first.0; one = x.told (extends_then y.extends into) (begins_then y.grows begins); other = y.told into begins };
        };
  }

  pub put_so : {A : Type 0} {P Q : A → Type 0} {put : Put A} → AllTellPut put P → ((a : A) → P a → Q a) → AllTellPut put Q
  put_so p f = record { all = λ known s r after made. let x = p.all known s r after made in record { extends = x.extends; grows = x.grows; told = λ into begins. f r.0 (x.told into begins) } }

  pub put_by : {A : Type 0} {P : A → Type 0} (f g : Put A) → ((known : Known) (s : Sections) → f known s ≡ g known s) → AllTellPut g P → AllTellPut f P
  put_by f g is p = record { all = λ known s r after made. p.all known s r after (sym (is known s) ∙ made) }

  pub put_given : {A : Type 0} (a : A) → AllTellPut (λ known. given (a, known)) (λ b. a ≡ b)
  put_given {A} a = record {
    all = λ known s r after made. record {
      extends = subst (Extends s) (same_after (a, known) r s after made) (extends_same s);
      grows = begins_as (ap (λ (z : A × Known). z.1) (same_made (a, known) r s after made));
      told = λ into begins. ap (λ (z : A × Known). z.0) (same_made (a, known) r s after made);
    };
  }

  pub put_lacking : {A : Type 0} {P : A → Type 0} → AllTellPut (λ known. lacking {A = A × Known}) P
  put_lacking = record { all = λ known s r after made. never r after made }

  -- a step that puts no array and no struct
  pub put_aside : {A : Type 0} {P : A → Type 0} (step : Step A) → AllTell whole step P → AllTellPut (aside step) P
  put_aside {A} {P} step p = record {
    all = λ known s r after made.
        let c = came (step s) (λ a. given (a, known)) r after made in
        let x = p.all s c.first c.between c.made in
        let same : c.first ≡ r.0 = ap (λ (z : A × Known). z.0) (same_made (c.first, known) r c.between after c.then_) in
        let last = same_after (c.first, known) r c.between after c.then_ in
        record {
          extends = subst (Extends s) last x.extends;
          grows = begins_as (ap (λ (z : A × Known). z.1) (same_made (c.first, known) r c.between after c.then_));
          told = λ into begins. subst P same (x.told (subst (λ (t : Sections). Extends t whole) (sym last) into));
        };
  }

  -- ---- one for each of some items

  pub each_tell : {A : Type 0} {P : A → ℕ → Type 0} (put : A → Put ℕ) → ((a : A) → AllTellPut (put a) (P a)) → (items : List A) → AllTellPut (each put items) (EachTells P items)
  unfolding each
  each_tell {A} {P} put p [] =
      put_so (put_given {A = List ℕ} []) (λ ids same. record { each = λ number a is. absurd (none number a is) })
    where
      none : (number : ℕ) (a : A) → slice_get [] number ≡ Some a → ⊥
      none zero a is = cc
      none (suc number) a is = cc
  each_tell {A} {P} put p (a ∷ items) =
      put_so (put_then (put a) (λ id known. each put items known >>= (λ rs. given (id ∷ rs.0, rs.1))) (p a) (λ id. put_then (each put items) (λ ids known. given (id ∷ ids, known)) (each_tell put p items) (λ ids. put_given (id ∷ ids))))
      (λ ids b. subst (EachTells P (a ∷ items)) b.other.other (record { each = more b.first b.other.first b.one b.other.one }))
    where
      more : (id : ℕ) (ids : List ℕ) → P a id → EachTells P items ids → (number : ℕ) (x : A) → slice_get (a ∷ items) number ≡ Some x → (i : ℕ) × (slice_get (id ∷ ids) number ≡ Some i) × P x i
      more id ids one rest zero x is = let same : a ≡ x = cc in (id, refl, subst (λ y. P y id) same one)
      more id ids one rest (suc number) x is = rest.each number x is
