-- What is kept of the types that are known for blocks, as they are put.
use Rattle.std.proofs.Common.{◌≡◌, refl, sym, ap, ◌∙◌, subst, ℕ, Bool, true, false, List, [], ◌∷◌, Option, Some, None, if◌then◌else◌}
use Rattle.std.specs.List.{AllByRecursion}
use Rattle.gsl_types.specs.declared.ty.StructType.{StructType}
use Rattle.gsl_types.specs.declared.ty.Ty.{Ty}
use Rattle.gsl_layout.specs.Layout.{Layout}
use Rattle.gsl_words.specs.declared.module.Module.{Module}
use Rattle.gsl_overload.specs.Identity.{identical}
use Rattle.gsl_overload.proofs.Same.{same_is}
use Rattle.gsl_owed.specs.Types.{lies}
use Rattle.gsl_spv.specs.Growing.{Extends}
use Rattle.gsl_spv.specs.Sections.{Sections}
use Rattle.gsl_spv.proofs.Extending.{extends_same, extends_then}
use Rattle.gsl_lower_values.specs.Building.{Step, Made, ◌>>=◌, given}
use Rattle.gsl_lower_holders.specs.Flow.{find_type}
use Rattle.gsl_lower_types.specs.Known.{Known, Put, aside, id_or_put, once, with_type}
use Rattle.gsl_lower_types.proofs.Finding.{came}
use Rattle.gsl_lower_law_members.specs.Parts.{laid_as}
use Rattle.gsl_lower_law_inputs.proofs.OfLawOutside.{same_after, same_made}
use Rattle.gsl_lower_law_inputs.proofs.Tells.{AllTell}

-- ---- what is so of one half of a pair

pub of_first : {A K : Type 0} (P : A → Type 0) (a : A) (k : K) (r : A × K) → (a, k) ≡ r → P a → P r.0
of_first {A} {K} P a k r same one = subst P (ap (λ (z : A × K). z.0) same) one

pub of_second : {A K : Type 0} (P : K → Type 0) (a : A) (k : K) (r : A × K) → (a, k) ≡ r → P k → P r.1
of_second {A} {K} P a k r same one = subst P (ap (λ (z : A × K). z.1) same) one

-- ---- what steps keep

module _ (m : Module) (whole : Sections) (structs : List StructType) (std140 : Bool) where
  -- A type that is known lies as one of its program's does.
  abbrev pub LiesAs : Ty × ℕ → Type 0
  LiesAs e = lies m (laid_as std140 structs e.0) e.1 ≡ true

  abbrev pub AllLie : Known → Type 0
  AllLie known = AllByRecursion LiesAs known

  pub lie_of : (t : Ty) (id : ℕ) (known : Known) → find_type t known ≡ Some id → AllLie known → LiesAs (t, id)
  lie_of t id [] is all = absurd (cc)
  lie_of t id (e ∷ known) is all = by (identical t e.0) refl (λ found. lie_of t id known found all.1) is
    where
      some : (a b : ℕ) → Some a ≡ Some b → a ≡ b
      some a b same = cc

      by : (b : Bool) → identical t e.0 ≡ b → (find_type t known ≡ Some id → LiesAs (t, id)) → (if b then Some e.1 else find_type t known) ≡ Some id → LiesAs (t, id)
      by true same later found = subst (λ n. LiesAs (t, n)) (some e.1 id found) (subst (λ u. LiesAs (u, e.1)) (sym (same_is t e.0 same)) all.0)
      by false same later found = later found

  pub lie_more : (t : Ty) (id : ℕ) (known : Known) → AllLie known → LiesAs (t, id) → AllLie (with_type t id known)
  lie_more t id [] all one = (one, tt)
  lie_more t id (e ∷ known) all one = (all.0, lie_more t id known all.1 one)

  -- Sections grew from some types that are known to later ones. Where those sections are among the whole and the types that were known lie so, the later ones do, and this is so.
  pub record Lays (known : Known) (s : Sections) (later : Known) (after : Sections) (P : Type 0) : Type 0 where
    pub extends : Extends s after
    pub all : Extends after whole → AllLie known → AllLie later
    pub told : Extends after whole → AllLie known → P

  -- What puts types does so, wherever it stands.
  pub record PutLays {A : Type 0} (put : Put A) (P : A → Type 0) : Type 0 where
    pub lay : (known : Known) (s : Sections) (r : A × Known) (after : Sections) → put known s ≡ Made r after → Lays known s r.1 after (P r.0)

  pub lays_then : {A B : Type 0} {P : A → Type 0} {Q : B → Type 0} (f : Put A) (g : A × Known → Step (B × Known)) → PutLays f P → ((a : A) → PutLays (λ known. g (a, known)) (λ b. P a → Q b)) → PutLays (λ known. f known >>= g) Q
  lays_then f g p q = record {
    lay = λ known s r after made.
        let c = came (f known s) g r after made in
        let x = p.lay known s c.first c.between c.made in
        let y = (q c.first.0).lay c.first.1 c.between r after c.then_ in
        record {
          extends = extends_then x.extends y.extends;
          all = λ into lie. y.all into (x.all (extends_then y.extends into) lie);
          told = λ into lie. y.told into (x.all (extends_then y.extends into) lie) (x.told (extends_then y.extends into) lie);
        };
  }

  pub lays_so : {A : Type 0} {P Q : A → Type 0} {put : Put A} → PutLays put P → ((a : A) → P a → Q a) → PutLays put Q
  lays_so p f = record { lay = λ known s r after made. let x = p.lay known s r after made in record { extends = x.extends; all = x.all; told = λ into lie. f r.0 (x.told into lie) } }

  pub lays_by : {A : Type 0} {P : A → Type 0} (f g : Put A) → ((known : Known) (s : Sections) → f known s ≡ g known s) → PutLays g P → PutLays f P
  lays_by f g is p = record { lay = λ known s r after made. p.lay known s r after (sym (is known s) ∙ made) }

  pub lays_given : {A : Type 0} (a : A) → PutLays (λ known. given (a, known)) (λ b. a ≡ b)
  lays_given {A} a = record {
    lay = λ known s r after made. record {
      extends = subst (Extends s) (same_after (a, known) r s after made) (extends_same s);
      all = λ into lie. of_second AllLie a known r (same_made (a, known) r s after made) lie;
      told = λ into lie. of_first (λ b. a ≡ b) a known r (same_made (a, known) r s after made) refl;
    };
  }

  -- a step that puts no array and no struct
  pub lays_aside : {A : Type 0} {P : A → Type 0} (step : Step A) → AllTell whole step P → PutLays (aside step) P
  lays_aside {A} {P} step p = record {
    lay = λ known s r after made.
        let c = came (step s) (λ a. given (a, known)) r after made in
        let x = p.all s c.first c.between c.made in
        let same : (c.first, known) ≡ r = same_made (c.first, known) r c.between after c.then_ in
        let last = same_after (c.first, known) r c.between after c.then_ in
        record {
          extends = subst (Extends s) last x.extends;
          all = λ into lie. of_second AllLie c.first known r same lie;
          told = λ into lie. of_first P c.first known r same (x.told (subst (λ (t : Sections). Extends t whole) (sym last) into));
        };
  }

  -- a type that is put once
  pub lays_once : (t : Ty) (put : Put ℕ) (l : Layout) → laid_as std140 structs t ≡ l → PutLays put (λ id. lies m l id ≡ true) → PutLays (once t put) (λ id. lies m l id ≡ true)
  lays_once t put l is p = record { lay = λ known s r after. by known s r after (find_type t known) refl }
    where
      by : (known : Known) (s : Sections) (r : ℕ × Known) (after : Sections) (o : Option ℕ) → find_type t known ≡ o → id_or_put o t put known s ≡ Made r after → Lays known s r.1 after (lies m l r.0 ≡ true)
      by known s r after (Some id) found made =
          let same : (id, known) ≡ r = same_made (id, known) r s after made in
          record {
            extends = subst (Extends s) (same_after (id, known) r s after made) (extends_same s);
            all = λ into lie. of_second AllLie id known r same lie;
            told = λ into lie. of_first (λ n. lies m l n ≡ true) id known r same (subst (λ k. lies m k id ≡ true) is (lie_of t id known found lie));
          }
      by known s r after None found made =
          let c = came (put known s) (λ r. given (r.0, with_type t r.0 r.1)) r after made in
          let x = p.lay known s c.first c.between c.made in
          let same : (c.first.0, with_type t c.first.0 c.first.1) ≡ r = same_made (c.first.0, with_type t c.first.0 c.first.1) r c.between after c.then_ in
          let last : c.between ≡ after = same_after (c.first.0, with_type t c.first.0 c.first.1) r c.between after c.then_ in
          record {
            extends = subst (Extends s) last x.extends;
            all = λ into lie.
                let inside = subst (λ (y : Sections). Extends y whole) (sym last) into in
                of_second AllLie c.first.0 (with_type t c.first.0 c.first.1) r same (lie_more t c.first.0 c.first.1 (x.all inside lie) (subst (λ k. lies m k c.first.0 ≡ true) (sym is) (x.told inside lie)));
            told = λ into lie. of_first (λ n. lies m l n ≡ true) c.first.0 (with_type t c.first.0 c.first.1) r same (x.told (subst (λ (y : Sections). Extends y whole) (sym last) into) lie);
          }
