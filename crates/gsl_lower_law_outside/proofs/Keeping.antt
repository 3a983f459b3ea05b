-- What the steps keep that put types.
use Rattle.std.proofs.Common.{◌≡◌, refl, sym, ap, subst, ℕ, ◌+◌, Bool, true, false, IsTrue, List, [], ◌∷◌, length, Some, if◌then◌else◌, arith}
use Rattle.std.specs.Prelude.{nat_le}
use Rattle.std.specs.List.{AllByRecursion, Contains}
use Rattle.std.proofs.lemmas.List.Elements.{Contains-append_left, Contains-push}
use Rattle.gsl_types.specs.Known.{IsSound, is_plain}
use Rattle.gsl_types.specs.declared.ty.StructType.{StructType}
use Rattle.gsl_types.specs.declared.ty.Ty.{Ty}
use Rattle.gsl_words.specs.declared.module.Instr.{Instr}
use Rattle.gsl_words.specs.declared.module.Module.{Module}
use Rattle.gsl_overload.specs.Identity.{identical}
use Rattle.gsl_overload.proofs.Same.{same_is}
use Rattle.gsl_tree.specs.Values.{zero_value}
use Rattle.gsl_valid.specs.Kinds.{shape_of}
use Rattle.gsl_valid.specs.OperandRules.{is_vector}
use Rattle.gsl_valid.specs.Types.{defined_as}
use Rattle.gsl_machine.specs.Constants.{zeros}
use Rattle.gsl_sound_code.proofs.Looks.{Kept}
use Rattle.gsl_spv.specs.Calls.{Out, declare, intern}
use Rattle.gsl_spv.specs.Declarations.{Declaration, defining}
use Rattle.gsl_spv.specs.Growing.{Extends}
use Rattle.gsl_spv.specs.Once.{IsOnce}
use Rattle.gsl_spv.specs.Sections.{Sections}
use Rattle.gsl_spv.specs.declared.refusal.TheConstants.{MOST_IDS}
use Rattle.gsl_spv.proofs.Defining.{interned_stands}
use Rattle.gsl_spv.proofs.Extending.{extends_same, extends_then}
use Rattle.gsl_lower_values.specs.Building.{Built, Step, Full, Made, given, id_by}
use Rattle.gsl_lower_law.proofs.Adding.{extends_intern}
use Rattle.gsl_lower_text.specs.Written.{Written}
use Rattle.gsl_lower_text.proofs.Constants.{At, at}
use Rattle.gsl_lower_holders.specs.Flow.{find_type}
use Rattle.gsl_lower_types.specs.Known.{Known, Put, aside, with_type}
use Rattle.gsl_lower_types.proofs.Adding.{Adds}
use Rattle.gsl_lower_types.proofs.Finding.{came, given_in, never}

-- ---- calls of the builder

abbrev after_of : {A : Type 0} → Sections → Built A → Sections
after_of s (Made a later) = later
after_of s Full = s

pub same_after : {A : Type 0} (a b : A) (s after : Sections) → Made a s ≡ Made b after → s ≡ after
same_after a b s after made = ap (after_of s) made

pub same_made : {A : Type 0} (a b : A) (s after : Sections) → Made a s ≡ Made b after → a ≡ b
same_made a b s after made = ap (given_in a) made

-- a call that gives an id
pub made_by : (ask : Sections → Out) (s : Sections) (id : ℕ) (after : Sections) → id_by ask s ≡ Made id after → ((ask s).id ≡ id) × ((ask s).sections ≡ after)
made_by ask s id after = by (nat_le (ask s).sections.last MOST_IDS)
  where
    by : (test : Bool) → (if test then Made (ask s).id (ask s).sections else Full) ≡ Made id after → ((ask s).id ≡ id) × ((ask s).sections ≡ after)
    by true made = (same_made (ask s).id id (ask s).sections after made, same_after (ask s).id id (ask s).sections after made)
    by false made = never id after made

pub asks_add : (ask : Sections → Out) → ((s : Sections) → Extends s (ask s).sections) → Adds (id_by ask)
asks_add ask grown s id after made = subst (Extends s) (made_by ask s id after made).1 (grown s)

pub interns_add : (decl : Declaration) → Adds (id_by (intern decl))
interns_add decl = asks_add (intern decl) (extends_intern decl)

-- what is declared once stands there
pub interned : (decl : Declaration) (s : Sections) (id : ℕ) (after : Sections) → IsOnce decl → id_by (intern decl) s ≡ Made id after → Contains after.globals (defining decl id)
interned decl s id after once made =
    let e = made_by (intern decl) s id after made in
    subst (λ n. Contains after.globals (defining decl n)) e.0 (subst (λ (t : Sections). Contains t.globals (defining decl (intern decl s).id)) e.1 (interned_stands decl s once))

-- so does what is declared anew
pub extends_declare : (decl : Declaration) (s : Sections) → Extends s (declare decl s).sections
extends_declare decl s =
    let same = extends_same s in
    record { stage = refl; target = refl; imports = same.imports; names = same.names; decorations = same.decorations; globals = record { more = defining decl (s.last + 1) ∷ []; is = refl }; functions = same.functions; last = omega arith; wanting = λ e. e }

pub declared_anew : (decl : Declaration) (s : Sections) (id : ℕ) (after : Sections) → id_by (declare decl) s ≡ Made id after → Contains after.globals (defining decl id)
declared_anew decl s id after made =
    let e = made_by (declare decl) s id after made in
    subst (λ n. Contains after.globals (defining decl n)) e.0 (subst (λ (t : Sections). Contains t.globals (defining decl (s.last + 1))) e.1 (Contains-push s.globals (defining decl (s.last + 1))))

-- ---- what is known

module _ (m : Module) (whole : Sections) (structs : List StructType) (kept : Kept m) (written : Written m whole) where
  -- an instruction that stands in sections that grow to the whole
  pub there : (s : Sections) (i : Instr) → Extends s whole → Contains s.globals i → At m i
  there s i into contains = at m kept i (written.globals i (subst (λ l. Contains l i) (sym into.globals.is) (Contains-append_left s.globals into.globals.more i contains)))

  abbrev pub HasZeros : Ty → ℕ → Type 0
  HasZeros t id = IsSound (length structs) t → IsTrue (is_plain t) → zeros m id ≡ zero_value structs t

  abbrev pub Told : Ty × ℕ → Type 0
  Told e = HasZeros e.0 e.1 × (is_vector (shape_of (defined_as m e.1)) ≡ false)

  abbrev pub AllTold : Known → Type 0
  AllTold known = AllByRecursion Told known

  pub told_of : (t : Ty) (id : ℕ) (known : Known) → find_type t known ≡ Some id → AllTold known → Told (t, id)
  told_of t id [] is all = absurd (cc)
  told_of t id (e ∷ known) is all = by (identical t e.0) refl (λ found. told_of t id known found all.1) is
    where
      some : (a b : ℕ) → Some a ≡ Some b → a ≡ b
      some a b same = cc

      by : (b : Bool) → identical t e.0 ≡ b → (find_type t known ≡ Some id → Told (t, id)) → (if b then Some e.1 else find_type t known) ≡ Some id → Told (t, id)
      by true same later found = subst (λ n. Told (t, n)) (some e.1 id found) (subst (λ u. Told (u, e.1)) (sym (same_is t e.0 same)) all.0)
      by false same later found = later found

  pub told_more : (t : Ty) (id : ℕ) (known : Known) → AllTold known → Told (t, id) → AllTold (with_type t id known)
  told_more t id [] all one = (one, tt)
  told_more t id (e ∷ known) all one = (all.0, told_more t id known all.1 one)

  -- From some types that are known to later ones sections only grow, and what is said of them is kept.
  pub record Keeps (known : Known) (s : Sections) (later : Known) (after : Sections) : Type 0 where
    pub extends : Extends s after
    pub all : Extends after whole → AllTold known → AllTold later

  pub keeps_same : (known : Known) (s : Sections) → Keeps known s known s
  keeps_same known s = record { extends = extends_same s; all = λ into all. all }

  pub keeps_then : {a b c : Known} {r s t : Sections} → Keeps a r b s → Keeps b s c t → Keeps a r c t
  keeps_then p q = record { extends = extends_then p.extends q.extends; all = λ into all. q.all into (p.all (extends_then q.extends into) all) }

  abbrev pub PutKeeps : {A : Type 0} → Put A → Type 0
  PutKeeps {A} put = (known : Known) (s : Sections) (r : A × Known) (after : Sections) → put known s ≡ Made r after → Keeps known s r.1 after

  -- what is given with nothing put
  pub given_keeps : {A : Type 0} (a : A) (known : Known) (s : Sections) (r : A × Known) (after : Sections) → Made (a, known) s ≡ Made r after → Keeps known s r.1 after
  given_keeps a known s r after made =
      subst (λ (x : Sections). Keeps known s r.1 x) (same_after (a, known) r s after made) (subst (λ l. Keeps known s l s) (ap (λ z. z.1) (same_made (a, known) r s after made)) (keeps_same known s))

  -- a step that puts no array and no struct
  pub aside_keeps : {A : Type 0} (step : Step A) → Adds step → PutKeeps (aside step)
  aside_keeps step adds known s r after made =
      let c = came (step s) (λ a. given (a, known)) r after made in
      keeps_then (record { extends = adds s c.first c.between c.made; all = λ into all. all }) (given_keeps c.first known c.between r after c.then_)
