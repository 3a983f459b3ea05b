-- What is asked for at each kind of expression covers its parts, where what is asked for at them does.
use Rattle.std.proofs.Common.{◌≡◌, refl, ℕ, Bool, true, false, not, ◌&&◌, List, [], ◌∷◌, Option, Some, None}
use Rattle.gsl_types.specs.declared.ty.Direction.{Direction}
use Rattle.gsl_types.specs.declared.ty.Direction.TheVariants.{In, Out, InOut}
use Rattle.gsl_types.specs.declared.ty.Scalar.{Scalar}
use Rattle.gsl_types.specs.declared.ty.Scalar.TheVariants.{Bool as Boolean}
use Rattle.gsl_types.specs.declared.ty.Ty.{Ty}
use Rattle.gsl_types.specs.declared.ty.Ty.TheVariants as ty
use Rattle.gsl_tree.specs.declared.expr.LogicOp.{LogicOp}
use Rattle.gsl_lower_traits.specs.declared.traits.Traits.{Traits}
use Rattle.gsl_lower_traits.specs.Traits.{is_plain, is_selected, is_short, spills}
use Rattle.gsl_lower_needs.specs.declared.lead.Lead.{Lead}
use Rattle.gsl_lower_needs.specs.declared.need.Need.{Need}
use Rattle.gsl_lower_needs.specs.declared.need.Need.TheVariants.{Holder, Built}
use Rattle.gsl_lower_needs.specs.Asking.{Ask, given}
use Rattle.gsl_lower_needs.specs.Needs.{Asking, assigned, built_of, by_holder, chosen, giving_value, hold, hold_lead, holders, index_by, indexed, known_of, leading, logical, of_two, own, passed_both, passed_out, passing, reads, spilled, updated, updated_at}
use Rattle.gsl_lower_law_needs.proofs.Covering.{Covers, Grows, covers_both, covers_first, covers_if, covers_plain, covers_then, grows_given, grows_if, grows_need, grows_then}

-- Wherever an expression is read, stored or has its value, something is covered; and it holds of a literal anyway, for which nothing is asked.
pub record Covered (a : Asking) (P : List Need → Type 0) : Type 0 where
  pub reach : Covers a.reach P
  pub value : Covers a.value P
  pub literal : (n : ℕ) → a.traits.literal ≡ Some n → (after : List Need) → P after

pub covered_map : {P Q : List Need → Type 0} (a : Asking) → Covered a P → ((after : List Need) → P after → Q after) → Covered a Q
covered_map {P} {Q} a c f = record {
  reach = record { all = c.reach.all; covers = λ before after within. f after (c.reach.covers before after within) };
  value = record { all = c.value.all; covers = λ before after within. f after (c.value.covers before after within) };
  literal = λ n is after. f after (c.literal n is after);
}

-- ---- holders

pub grows_hold : (waits : Bool) (t : Ty) → Grows (hold waits t)
unfolding hold
grows_hold false t = grows_given
grows_hold true t = grows_need (Holder t)

grows_holders : (ts : List Ty) → Grows (holders ts)
unfolding holders
grows_holders [] = grows_given
grows_holders (t ∷ ts) = grows_then (grows_need (Holder t)) (λ done. grows_holders ts)

grows_by_holder : (by : Option Scalar) → Grows (by_holder by)
grows_by_holder None = grows_given
grows_by_holder (Some scalar) = grows_need (Holder (ty.One scalar))

grows_hold_lead : (waits : Bool) (lead : Lead) → Grows (hold_lead waits lead)
unfolding hold_lead
grows_hold_lead false lead = grows_given
grows_hold_lead true lead = grows_then (grows_holders lead.waiting) (λ done. grows_by_holder lead.by)

pub grows_reads : (t : Ty) (lead : Lead) → Grows (reads t lead)
unfolding reads
grows_reads t lead = grows_hold (lead.in_block && not (is_plain t)) t

grows_spilled : (is : Bool) (t : Ty) (lead : Lead) → Grows (spilled is t lead)
unfolding spilled
grows_spilled false t lead = grows_given
grows_spilled true t lead = grows_then (grows_reads t lead) (λ a. grows_then (grows_need (Holder t)) (λ b. grows_given {a = own false}))

grows_updated_at : (t : Ty) (b : Traits) (lead : Lead) → Grows (updated_at t b lead)
unfolding updated_at
grows_updated_at t b lead = grows_then (grows_reads t lead) (λ x. grows_then (grows_hold b.splits t) (λ y. grows_hold_lead b.splits lead))

pub grows_built_of : (t : Ty) → Grows (built_of t)
unfolding built_of
grows_built_of t = grows_if (is_plain t) grows_given (grows_need (Built t))

grows_passed_out : (waits : Bool) (t : Ty) (lead : Lead) → Grows (passed_out waits t lead)
unfolding passed_out
grows_passed_out waits t lead = grows_then (grows_hold_lead waits lead) (λ done. grows_need (Holder t))

grows_passed_both : (waits : Bool) (t arg : Ty) (lead : Lead) → Grows (passed_both waits t arg lead)
unfolding passed_both
grows_passed_both waits t arg lead = grows_then (grows_reads arg lead) (λ x. grows_passed_out waits t lead)

-- ---- what leads to a variable, and what gives a value

no_literal : {A : Type 0} (traits : Traits) → traits.literal ≡ None → (n : ℕ) → traits.literal ≡ Some n → A
no_literal traits none n is = absurd (cc)

pub covered_leading : {P : List Need → Type 0} (t : Ty) (reach : Ask Lead) (traits : Traits) → traits.literal ≡ None → Covers reach P → Covered (leading t reach traits) P
covered_leading t reach traits none c = record { reach = c; value = covers_first c (λ lead. grows_reads t lead); literal = λ n is after. no_literal traits none n is }

covered_value : {P : List Need → Type 0} (t : Ty) (value : Ask (Unit {0})) (traits : Traits) → ((n : ℕ) → traits.literal ≡ Some n → (after : List Need) → P after) → Covers value P → Covered (giving_value t value traits) P
covered_value t value traits literal c = record { reach = covers_first c (λ done. grows_given); value = c; literal = literal }

pub covered_giving : {P : List Need → Type 0} (t : Ty) (value : Ask (Unit {0})) (traits : Traits) → traits.literal ≡ None → Covers value P → Covered (giving_value t value traits) P
covered_giving t value traits none c = covered_value t value traits (λ n is after. no_literal traits none n is) c

-- where it holds of any list
pub covered_constant : {P : List Need → Type 0} (t : Ty) (traits : Traits) → ((after : List Need) → P after) → Covered (giving_value t (given tt) traits) P
covered_constant t traits always = covered_value t (given tt) traits (λ n is after. always after) (covers_plain (grows_given {A = Unit {0}} {a = tt}) always)

-- ---- indexes

grows_index_by : {P : List Need → Type 0} (i : Asking) (known : Option ℕ) → Covered i P → Grows (index_by i known)
grows_index_by i (Some number) c = grows_given
grows_index_by i None c = grows_then c.value.all (λ done. grows_given)

covers_index_by : {P : List Need → Type 0} (i : Asking) (known : Option ℕ) → i.traits.literal ≡ known → Covered i P → Covers (index_by i known) P
covers_index_by i (Some number) is c = covers_plain grows_given (c.literal number is)
covers_index_by i None is c = covers_first c.value (λ done. grows_given)

module _ {P Q R : List Need → Type 0} (a b : Asking) (p : Covered a P) (q : Covered b Q) (join : (after : List Need) → P after → Q after → R after) where
  pub covers_indexed : Covers (indexed a b) R
  covers_indexed =
      covers_both (covers_first p.reach (λ lead. grows_spilled (spills (known_of a) b.traits) a.ty lead))
      (λ lead. covers_then (grows_hold_lead b.traits.splits lead) (λ done. covers_first (covers_index_by b b.traits.literal refl q) (λ number. grows_given))) join

  -- ---- operands

  pub covers_two : Covers (of_two a b) R
  covers_two = covers_both p.value (λ x. covers_then (grows_hold b.traits.splits a.ty) (λ done. q.value)) join

  pub covers_logical : (which : LogicOp) → Covers (logical which a b) R
  covers_logical which = covers_if (is_short which b.traits) (covers_both p.value (λ x. covers_then (grows_need (Holder (ty.One Boolean))) (λ done. q.value)) join) covers_two

  pub covers_assigned : Covers (assigned a b) R
  covers_assigned = covers_both p.reach (λ lead. covers_then (grows_hold_lead b.traits.splits lead) (λ done. q.value)) join

  pub covers_updated : Covers (updated a b) R
  covers_updated = covers_both p.reach (λ lead. covers_then (grows_updated_at a.ty b.traits lead) (λ done. q.value)) join

module _ {P Q R S : List Need → Type 0} (t : Ty) (test a b : Asking) (o : Covered test P) (p : Covered a Q) (q : Covered b R) (join : (after : List Need) → P after → Q after × R after → S after) where
  pub covers_chosen : Covers (chosen t test a b) S
  covers_chosen =
      covers_if (is_selected t a.traits b.traits)
      (covers_both o.value (λ x. covers_both p.value (λ y. q.value) (λ after u v. (u, v))) join)
      (covers_both o.value (λ x. covers_then (grows_need (Holder t)) (λ done. covers_both p.value (λ y. q.value) (λ after u v. (u, v)))) join)

-- ---- arguments

pub covers_passing : {P : List Need → Type 0} (waits : Bool) (way : Direction) (t : Ty) (arg : Asking) → Covered arg P → Covers (passing waits way t arg) P
covers_passing waits In t arg c = covers_first c.value (λ x. grows_need (Holder t))
covers_passing waits Out t arg c = covers_first c.reach (λ lead. grows_passed_out waits t lead)
covers_passing waits InOut t arg c = covers_first c.reach (λ lead. grows_passed_both waits t arg.ty lead)
