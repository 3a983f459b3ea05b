-- What is given where no row applies.
use Rattle.std.proofs.Common.{◌≡◌, refl, sym, subst, Bool, true, false, not, ◌&&◌, ◌||◌, IsTrue, Option, Some, None, is_none, unwrap_or, List, ◌∷◌, Ok, Err}
use Rattle.gsl_base.specs.Checked.{Checked, ◌>>=◌}
use Rattle.gsl_base.specs.declared.fault.Code.{Code}
use Rattle.gsl_base.specs.declared.fault.Place.{Place}
use Rattle.gsl_typing.specs.Rows.{Row, unless}
use Rattle.gsl_check_decl.proofs.Gathering.{Holds}
use Rattle.gsl_overload.proofs.Same.{no_more}

-- A row that does not apply leaves what stands behind it.
pub row : {A : Type 0} (P : A → Type 0) (place : Place) (code : Code) (applies : Bool) (rows : List Row) (node : Checked A) → (applies ≡ false → Holds P (unless place rows node))
    → Holds P (unless place ((code, applies) ∷ rows) node)
row P place code true rows node next = tt
row P place code false rows node next = next refl

-- of what is given, where this follows
pub so : {A : Type 0} (P Q : A → Type 0) (x : Checked A) → Holds P x → ((a : A) → P a → Q a) → Holds Q x
so P Q (Ok a) is next = next a is
so P Q (Err e) is next = tt

-- what holds of all that is given
pub given : {A : Type 0} (P : A → Type 0) (x : Checked A) (a : A) → Holds P x → x ≡ Ok a → P a
given P x a holds is = subst (Holds P) is holds

pub holds_of : {A : Type 0} (P : A → Type 0) (x : Checked A) → ((a : A) → x ≡ Ok a → P a) → Holds P x
holds_of P (Ok a) each = each a refl
holds_of P (Err e) each = tt

-- what follows, with where it comes from
pub holds_where : {A B : Type 0} (Q : B → Type 0) (x : Checked A) (f : A → Checked B) → ((a : A) → x ≡ Ok a → Holds Q (f a)) → Holds Q (x >>= f)
holds_where Q (Ok a) f next = next a refl
holds_where Q (Err e) f next = tt

-- ---- tests that fail

pub not_false : (b : Bool) → not b ≡ false → IsTrue b
not_false true is = refl
not_false false is = no_more (sym is)

pub neither : (a b : Bool) → (a || b) ≡ false → (a ≡ false) × (b ≡ false)
neither false b is = (refl, is)
neither true b is = no_more (sym is)

pub both : (a b : Bool) → not (a && b) ≡ false → IsTrue a × IsTrue b
both true true is = (refl, refl)
both true false is = no_more (sym is)
both false b is = no_more (sym is)

pub there : {A : Type 0} (o : Option A) (d : A) → is_none o ≡ false → o ≡ Some (unwrap_or o d)
there (Some a) d is = refl
there None d is = no_more (sym is)
