-- What asking keeps, and what it covers.
use Rattle.std.proofs.Common.{◌≡◌, refl, ℕ, Bool, true, false, ◌||◌, List, [], ◌∷◌, ◌++◌, if◌then◌else◌, arith}
use Rattle.std.specs.Prelude.{◌==◌}
use Rattle.gsl_tree.specs.declared.expr.StageVar.{StageVar}
use Rattle.gsl_lower_expr.specs.Parts.{stage_number}
use Rattle.gsl_lower_needs.specs.declared.need.Need.{Need}
use Rattle.gsl_lower_needs.specs.declared.need.Need.TheVariants.{Stage}
use Rattle.gsl_lower_needs.specs.Asking.{Ask, Asked, Asks, behind, given, need, ◌>>=◌}
use Rattle.gsl_lower_flow.specs.Functions.{asked_of}
use Rattle.gsl_lower_flow.specs.Programs.{is_var, uses}

-- The second list has the built-in variables of the first.
abbrev pub Within : List Need → List Need → Type 0
Within a b = (var : StageVar) → uses a var ≡ true → uses b var ≡ true

-- What is asked for stays so.
pub record Grows {A : Type 0} (ask : Ask A) : Type 0 where
  pub grows : (before : List Need) → Within before (asked_of (ask before))

-- Something holds of every list that has what is asked for.
pub record Covers {A : Type 0} (ask : Ask A) (P : List Need → Type 0) : Type 0 where
  pub all : Grows ask
  pub covers : (before after : List Need) → Within (asked_of (ask before)) after → P after

-- ---- lists

or_more : (a b c : Bool) → (b ≡ true → c ≡ true) → (a || b) ≡ true → (a || c) ≡ true
or_more true b c f is = refl
or_more false b c f is = f is

or_first : (a b : Bool) → a ≡ true → (a || b) ≡ true
or_first true b is = refl
or_first false b is = absurd (cc)

or_second : (a b : Bool) → b ≡ true → (a || b) ≡ true
or_second true b is = refl
or_second false b is = is

uses_more : (before more : List Need) (var : StageVar) → uses before var ≡ true → uses (before ++ more) var ≡ true
uses_more [] more var is = absurd (cc)
uses_more (one ∷ before) more var is = or_more (is_var var one) (uses before var) (uses (before ++ more) var) (uses_more before more var) is

same_number : (n : ℕ) → (n == n) ≡ true
same_number n = grind arith

uses_last : (before : List Need) (var : StageVar) → uses (before ++ Stage var ∷ []) var ≡ true
uses_last [] var = or_first (stage_number var == stage_number var) false (same_number (stage_number var))
uses_last (one ∷ before) var = or_second (is_var var one) (uses (before ++ Stage var ∷ []) var) (uses_last before var)

-- ---- what grows

pub grows_given : {A : Type 0} {a : A} → Grows (given a)
grows_given = record { grows = λ before var is. is }

pub grows_need : (one : Need) → Grows (need one)
grows_need one = record { grows = λ before var is. uses_more before (one ∷ []) var is }

behind_grows : {A B : Type 0} (r : Asked A) (next : A → Ask B) → ((a : A) → Grows (next a)) → Within (asked_of r) (asked_of (behind r next))
behind_grows (Asks a needs) next q = (q a).grows needs

pub grows_then : {A B : Type 0} {first : Ask A} {next : A → Ask B} → Grows first → ((a : A) → Grows (next a)) → Grows (first >>= next)
grows_then {A} {B} {first} {next} p q = record { grows = λ before var is. behind_grows (first before) next q var (p.grows before var is) }

pub grows_if : {A : Type 0} {one other : Ask A} (test : Bool) → Grows one → Grows other → Grows (if test then one else other)
grows_if true p q = p
grows_if false p q = q

-- ---- what is covered

pub covers_plain : {A : Type 0} {ask : Ask A} {P : List Need → Type 0} → Grows ask → ((after : List Need) → P after) → Covers ask P
covers_plain p q = record { all = p; covers = λ before after within. q after }

pub covers_map : {A : Type 0} {ask : Ask A} {P Q : List Need → Type 0} → Covers ask P → ((after : List Need) → P after → Q after) → Covers ask Q
covers_map p f = record { all = p.all; covers = λ before after within. f after (p.covers before after within) }

pub covers_need : (var : StageVar) → Covers (need (Stage var)) (λ after. uses after var ≡ true)
covers_need var = record { all = grows_need (Stage var); covers = λ before after within. within var (uses_last before var) }

pub covers_first : {A B : Type 0} {first : Ask A} {next : A → Ask B} {P : List Need → Type 0} → Covers first P → ((a : A) → Grows (next a)) → Covers (first >>= next) P
covers_first {A} {B} {first} {next} p q = record {
  all = grows_then p.all q;
  covers = λ before after within. p.covers before after (λ var is. within var (behind_grows (first before) next q var is));
}

behind_covers : {A B : Type 0} (r : Asked A) (next : A → Ask B) (P : List Need → Type 0) → ((a : A) → Covers (next a) P) → (after : List Need) → Within (asked_of (behind r next)) after → P after
behind_covers (Asks a needs) next P q after within = (q a).covers needs after within

pub covers_then : {A B : Type 0} {first : Ask A} {next : A → Ask B} {P : List Need → Type 0} → Grows first → ((a : A) → Covers (next a) P) → Covers (first >>= next) P
covers_then {A} {B} {first} {next} {P} p q = record {
  all = grows_then p (λ a. (q a).all);
  covers = λ before after within. behind_covers (first before) next P q after within;
}

pub covers_both : {A B : Type 0} {first : Ask A} {next : A → Ask B} {P Q R : List Need → Type 0} → Covers first P → ((a : A) → Covers (next a) Q) → ((after : List Need) → P after → Q after → R after) → Covers (first >>= next) R
covers_both {A} {B} {first} {next} {P} {Q} {R} p q join = record {
  all = grows_then p.all (λ a. (q a).all);
  covers = λ before after within.
      join after ((covers_first p (λ a. (q a).all)).covers before after within) ((covers_then p.all q).covers before after within);
}

pub covers_if : {A : Type 0} {one other : Ask A} {P : List Need → Type 0} (test : Bool) → Covers one P → Covers other P → Covers (if test then one else other) P
covers_if true p q = p
covers_if false p q = q
