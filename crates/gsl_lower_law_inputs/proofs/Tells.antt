-- What steps tell of the module that is made of what they put.
use Rattle.std.proofs.Common.{◌≡◌, sym, subst, ℕ, Option, Some, None}
use Rattle.std.specs.List.{Contains}
use Rattle.std.proofs.lemmas.List.Elements.{Contains-append_left, Contains-push}
use Rattle.gsl_words.specs.declared.module.Instr.{Instr}
use Rattle.gsl_spv.specs.Calls as call
use Rattle.gsl_spv.specs.Calls.{declare, decorating, intern}
use Rattle.gsl_spv.specs.Declarations as d
use Rattle.gsl_spv.specs.Declarations.{Declaration, defining}
use Rattle.gsl_spv.specs.Growing.{Extends}
use Rattle.gsl_spv.specs.Once.{IsOnce}
use Rattle.gsl_spv.specs.Sections.{Sections}
use Rattle.gsl_spv.specs.declared.plain.PlainType.TheVariants as plain
use Rattle.gsl_spv.proofs.Answering.{plain_once}
use Rattle.gsl_spv.proofs.Extending.{extends_same, extends_then}
use Rattle.gsl_lower_values.specs.Building.{Step, Made, ◌>>=◌, given, id_by}
use Rattle.gsl_lower_places.specs.Reading.{pointer_type}
use Rattle.gsl_lower_types.specs.Declaring.{decorated, variable_in}
use Rattle.gsl_lower_types.proofs.Adding.{Adds}
use Rattle.gsl_lower_types.proofs.Finding.{came}
use Rattle.gsl_lower_law_outside.proofs.Keeping.{asks_add, declared_anew, extends_declare, interned, interns_add, same_after, same_made}
use Rattle.gsl_lower_law_outside.proofs.Program.{decorated_adds}

-- What two steps tell, one behind the other.
pub record Both {A B : Type 0} (P : A → Type 0) (Q : A → B → Type 0) (b : B) : Type 0 where
  pub first : A
  pub one : P first
  pub other : Q first b

module _ (whole : Sections) where
  -- Sections grew, and where they are some of the whole, that is so.
  pub record Tells (s after : Sections) (P : Type 0) : Type 0 where
    pub extends : Extends s after
    pub told : Extends after whole → P

  -- A step tells this of what it gives, wherever it stands.
  pub record AllTell {A : Type 0} (step : Step A) (P : A → Type 0) : Type 0 where
    pub all : (s : Sections) (a : A) (after : Sections) → step s ≡ Made a after → Tells s after (P a)

  pub tells_then : {A B : Type 0} {P : A → Type 0} {Q : A → B → Type 0} (f : Step A) (g : A → Step B) → AllTell f P → ((a : A) → AllTell (g a) (Q a)) → AllTell (f >>= g) (Both P Q)
  tells_then f g p q = record {
    all = λ s b after made.
        let c = came (f s) g b after made in
        let x = p.all s c.first c.between c.made in
        let y = (q c.first).all c.between b after c.then_ in
        record { extends = extends_then x.extends y.extends; told = λ into. record { first = c.first; one = x.told (extends_then y.extends into); other = y.told into } };
  }

  pub tells_so : {A : Type 0} {P Q : A → Type 0} {step : Step A} → AllTell step P → ((a : A) → P a → Q a) → AllTell step Q
  tells_so p f = record { all = λ s a after made. let x = p.all s a after made in record { extends = x.extends; told = λ into. f a (x.told into) } }

  -- a step that only adds
  pub adds_tells : {A : Type 0} (step : Step A) → Adds step → AllTell step (λ a. Unit {0})
  adds_tells step adds = record { all = λ s a after made. record { extends = adds s a after made; told = λ into. tt } }

  pub given_tells : {A : Type 0} (a : A) → AllTell (given a) (λ b. a ≡ b)
  given_tells a = record { all = λ s b after made. record { extends = subst (Extends s) (same_after a b s after made) (extends_same s); told = λ into. same_made a b s after made } }

  -- ---- calls of the builder

  abbrev pub HasGlobal : Instr → Type 0
  HasGlobal i = Contains whole.globals i

  abbrev pub HasDecoration : ℕ → ℕ → ℕ → Type 0
  HasDecoration id what n = Contains whole.decorations (decorating id None what (Some n))

  global_on : (s : Sections) (i : Instr) → Extends s whole → Contains s.globals i → HasGlobal i
  global_on s i into there = subst (λ l. Contains l i) (sym into.globals.is) (Contains-append_left s.globals into.globals.more i there)

  pub interned_tells : (decl : Declaration) → IsOnce decl → AllTell (id_by (intern decl)) (λ id. HasGlobal (defining decl id))
  interned_tells decl once = record {
    all = λ s id after made. record { extends = interns_add decl s id after made; told = λ into. global_on after (defining decl id) into (interned decl s id after once made) };
  }

  pub declared_tells : (decl : Declaration) → AllTell (id_by (declare decl)) (λ id. HasGlobal (defining decl id))
  declared_tells decl = record {
    all = λ s id after made. record { extends = asks_add (declare decl) (extends_declare decl) s id after made; told = λ into. global_on after (defining decl id) into (declared_anew decl s id after made) };
  }

  pub decorated_tells : (id what n : ℕ) → AllTell (decorated id None what (Some n)) (λ done. HasDecoration id what n)
  decorated_tells id what n = record {
    all = λ s done after made. record {
      extends = decorated_adds id None what (Some n) s done after made;
      told = λ into. there after into (subst (λ (t : Sections). Contains t.decorations (decorating id None what (Some n))) (same_after tt done _ after made) (Contains-push s.decorations (decorating id None what (Some n))));
    };
  }
    where
      there : (after : Sections) → Extends after whole → Contains after.decorations (decorating id None what (Some n)) → HasDecoration id what n
      there after into has = subst (λ l. Contains l (decorating id None what (Some n))) (sym into.decorations.is) (Contains-append_left after.decorations into.decorations.more (decorating id None what (Some n)) has)

  -- ---- variables

  -- The whole has a variable of an id, by the type of what it holds.
  pub record HasVariable (class type : ℕ) (init : Option ℕ) (id : ℕ) : Type 0 where
    pub pointer : ℕ
    pub points : HasGlobal (defining (d.plain_type (plain.Pointer class type)) pointer)
    pub stands : HasGlobal (defining (d.variable pointer class init) id)

  pub variable_tells : (class type : ℕ) (init : Option ℕ) → AllTell (variable_in class type init) (HasVariable class type init)
  variable_tells class type init =
      tells_so (tells_then (pointer_type class type) (λ pointer. id_by (call.global pointer class init)) (interned_tells (d.plain_type (plain.Pointer class type)) (plain_once (plain.Pointer class type))) (λ pointer. declared_tells (d.variable pointer class init)))
      (λ id b. record { pointer = b.first; points = b.one; stands = b.other })
