-- The names that a function knows: each has an id of its own.
use Rattle.std.proofs.Common.{◌≡◌, refl, sym, ap, ◌∙◌, subst, inl, inr, ◌⊎◌, ℕ, zero, suc, ◌+◌, ◌<◌, ◌≤◌, true, List, [], ◌∷◌, ◌++◌, map, length, slice_get, Some, arith}
use Rattle.std.specs.Prelude.{◌-◌}
use Rattle.std.proofs.lemmas.Bool.{cases_lt, false≢true}
use Rattle.std.proofs.lemmas.List.{map-append}
use Rattle.gsl_types.specs.declared.ty.Ty.{Ty}
use Rattle.gsl_words.specs.declared.module.Module.{Module}
use Rattle.gsl_tree.specs.declared.program.Program.{Program}
use Rattle.gsl_tree.specs.declared.unit.Prototype.{Prototype}
use Rattle.gsl_valid.specs.Kinds.{Variable}
use Rattle.gsl_valid.specs.Placed.{Placed}
use Rattle.gsl_machine.specs.Functions.{parameters_of, variables_of}
use Rattle.gsl_sound_code.proofs.Looks.{Kept}
use Rattle.gsl_spv.specs.Growing.{Extends}
use Rattle.gsl_spv.specs.Sections.{Sections}
use Rattle.gsl_spv.proofs.Extending.{extends_then}
use Rattle.gsl_lower_text.specs.Written.{Written}
use Rattle.gsl_lower_holders.specs.Flow.{Flow}
use Rattle.gsl_lower_holders.specs.declared.place.FlowPlace.{FlowPlace}
use Rattle.gsl_lower_needs.specs.declared.need.Need.{Need}
use Rattle.gsl_lower_follows.specs.Frames.{Name, Global, Interface, Stage, Param, Local, Holder, id_if, id_of}
use Rattle.gsl_lower_frames.specs.Named.{HasId}
use Rattle.gsl_lower_law_returns.specs.Calling.{is_own}
use Rattle.gsl_lower_law_entered.specs.Modules.{AreShared, Declared, IsPlaced, variable_of}
use Rattle.gsl_lower_law_entered.proofs.Framed.{id_shared}
use Rattle.gsl_lower_law_entered.proofs.Given.{map_there, mapped}
use Rattle.gsl_lower_law_outside.specs.OfLawOpening.{AreNew, HasOpened, ids_declared, ids_taken}
use Rattle.gsl_lower_law_outside.specs.Outside.{HasOuter}
use Rattle.gsl_lower_law_outside.proofs.Held.{outer_held}

-- ---- places in lists

pub front_at : {A : Type 0} (xs ys : List A) (k : ℕ) (x : A) → slice_get xs k ≡ Some x → slice_get (xs ++ ys) k ≡ Some x
front_at [] ys zero x is = absurd (cc)
front_at [] ys (suc k) x is = absurd (cc)
front_at (y ∷ xs) ys zero x is = is
front_at (y ∷ xs) ys (suc k) x is = front_at xs ys k x is

pub back_at : {A : Type 0} (xs ys : List A) (k : ℕ) (x : A) → slice_get ys k ≡ Some x → slice_get (xs ++ ys) (length xs + k) ≡ Some x
back_at [] ys k x is = subst (λ n. slice_get ys n ≡ Some x) (let e : k ≡ 0 + k = omega arith in e) is
back_at (y ∷ xs) ys k x is = subst (λ n. slice_get (y ∷ (xs ++ ys)) n ≡ Some x) (let e : suc (length xs + k) ≡ suc (length xs) + k = omega arith in e) (back_at xs ys k x is)

-- what stands in two lists, stands in the first at the place, or in the second behind it
pub data Either {A : Type 0} (xs ys : List A) (n : ℕ) (x : A) : Type 0 where
  in_first : slice_get xs n ≡ Some x → Either xs ys n x
  in_second : (k : ℕ) → n ≡ length xs + k → slice_get ys k ≡ Some x → Either xs ys n x

pub either_at : {A : Type 0} (xs ys : List A) (n : ℕ) (x : A) → slice_get (xs ++ ys) n ≡ Some x → Either xs ys n x
either_at [] ys n x is = in_second n (let e : n ≡ 0 + n = omega arith in e) is
either_at (y ∷ xs) ys zero x is = in_first is
either_at (y ∷ xs) ys (suc n) x is = by (either_at xs ys n x is)
  where
    by : Either xs ys n x → Either (y ∷ xs) ys (suc n) x
    by (in_first here) = in_first here
    by (in_second k e here) = in_second k (let f : suc n ≡ suc (length xs) + k = omega (arith, e) in f) here

-- ---- ids that come in rows

abbrev row_of : Name → ℕ
row_of (Global k) = 0
row_of (Interface k) = 1
row_of (Stage k) = 2
row_of (Param k) = 3
row_of (Local k) = 4
row_of (Holder k) = 5

abbrev number_of : Name → ℕ
number_of (Global k) = k
number_of (Interface k) = k
number_of (Stage k) = k
number_of (Param k) = k
number_of (Local k) = k
number_of (Holder k) = k

-- names of one row
abbrev named : ℕ → ℕ → Name
named zero k = Global k
named (suc zero) k = Interface k
named (suc (suc zero)) k = Stage k
named (suc (suc (suc zero))) k = Param k
named (suc (suc (suc (suc zero)))) k = Local k
named _ k = Holder k

named_again : (a : Name) → named (row_of a) (number_of a) ≡ a
named_again (Global k) = refl
named_again (Interface k) = refl
named_again (Stage k) = refl
named_again (Param k) = refl
named_again (Local k) = refl
named_again (Holder k) = refl

-- Rows of ids, one behind the other.
record Rows (place : FlowPlace) : Type 0 where
  low : ℕ → ℕ
  high : ℕ → ℕ
  rises : (j k : ℕ) → j < k → k < 6 → high j ≤ low k
  each : (a : Name) (id : ℕ) → id_of place a ≡ Some id → (low (row_of a) < id) × (id ≤ high (row_of a))
  apart : (row j k id : ℕ) → row < 6 → id_of place (named row j) ≡ Some id → id_of place (named row k) ≡ Some id → j ≡ k

row_low : (a : Name) → row_of a < 6
row_low (Global k) = omega arith
row_low (Interface k) = omega arith
row_low (Stage k) = omega arith
row_low (Param k) = omega arith
row_low (Local k) = omega arith
row_low (Holder k) = omega arith

rows_apart : (place : FlowPlace) → Rows place → (a b : Name) (id : ℕ) → id_of place a ≡ Some id → id_of place b ≡ Some id → a ≡ b
rows_apart place r a b id first second =
    let x = r.each a id first in
    let y = r.each b id second in
    let same : row_of a ≡ row_of b = by (cases_lt (row_of a) (row_of b)) (cases_lt (row_of b) (row_of a)) x.0 x.1 y.0 y.1 in
    let number = r.apart (row_of a) (number_of a) (number_of b) id (row_low a) (subst (λ n. id_of place n ≡ Some id) (sym (named_again a)) first)
    (subst (λ row. id_of place (named row (number_of b)) ≡ Some id) (sym same) (subst (λ n. id_of place n ≡ Some id) (sym (named_again b)) second)) in
    sym (named_again a) ∙ ap (named (row_of a)) number ∙ ap (λ row. named row (number_of b)) same ∙ named_again b
  where
    by : (row_of a < row_of b) ⊎ (row_of b ≤ row_of a) → (row_of b < row_of a) ⊎ (row_of a ≤ row_of b) → r.low (row_of a) < id → id ≤ r.high (row_of a) → r.low (row_of b) < id → id ≤ r.high (row_of b) → row_of a ≡ row_of b
    by (inl less) other la ha lb hb = absurd (let c = r.rises (row_of a) (row_of b) less (row_low b) in omega (arith, c, ha, lb))
    by (inr more) (inl less) la ha lb hb = absurd (let c = r.rises (row_of b) (row_of a) less (row_low a) in omega (arith, c, hb, la))
    by (inr more) (inr less) la ha lb hb = omega (arith, more, less)

-- ---- the names of a function

module _ (m : Module) (whole : Sections) (kept : Kept m) (written : Written m whole) (p : Program) (asked : List Need) (start first : Sections) (place : FlowPlace) (outer_has : HasOuter p asked start place first)
    (function : ℕ) (head : Prototype) (locals holders : List Ty) (b mid : Flow) (shared : AreShared place b.place) (behind : Extends first b.sections) (o : HasOpened function head locals holders b mid) (into : Extends mid.sections whole) where
  abbrev there_place : FlowPlace
  there_place = record b.place { label = o.label; params = ids_taken o.params; locals = ids_declared o.variables; holders = ids_declared o.waiting; used = 0 }

  shared_there : AreShared place there_place
  shared_there = record { globals = shared.globals; interfaces = shared.interfaces; stages = shared.stages; blocks = shared.blocks; classes = shared.classes; functions = shared.functions; composites = shared.composites }

  abbrev lows : ℕ → ℕ
  lows zero = outer_has.before
  lows (suc zero) = outer_has.past_globals
  lows (suc (suc zero)) = outer_has.past_interfaces
  lows (suc (suc (suc zero))) = b.sections.last
  lows (suc (suc (suc (suc zero)))) = o.past_params
  lows _ = o.past_locals

  abbrev highs : ℕ → ℕ
  highs zero = outer_has.past_globals
  highs (suc zero) = outer_has.past_interfaces
  highs (suc (suc zero)) = first.last
  highs (suc (suc (suc zero))) = o.past_params
  highs (suc (suc (suc (suc zero)))) = o.past_locals
  highs _ = mid.sections.last

  -- one row behind the other
  next_row : (j : ℕ) → j < 5 → highs j ≤ lows (suc j)
  next_row zero less = omega arith
  next_row (suc zero) less = omega arith
  next_row (suc (suc zero)) less = behind.last
  next_row (suc (suc (suc zero))) less = omega arith
  next_row (suc (suc (suc (suc zero)))) less = omega arith
  next_row (suc (suc (suc (suc (suc j))))) less = absurd (omega (arith, less))

  rises_in : (j : ℕ) → j < 6 → lows j ≤ highs j
  rises_in zero less = outer_has.globals_new.rises
  rises_in (suc zero) less = outer_has.interfaces_new.rises
  rises_in (suc (suc zero)) less = outer_has.stages_new.rises
  rises_in (suc (suc (suc zero))) less = o.params_new.rises
  rises_in (suc (suc (suc (suc zero)))) less = o.locals_new.rises
  rises_in (suc (suc (suc (suc (suc zero))))) less = o.holders_new.rises
  rises_in (suc (suc (suc (suc (suc (suc j)))))) less = absurd (omega (arith, less))

  chain : (d j : ℕ) → d + suc j < 6 → highs j ≤ lows (d + suc j)
  chain zero j less = subst (λ n. highs j ≤ lows n) (let e : suc j ≡ 0 + suc j = omega arith in e) (next_row j (omega (arith, less)))
  chain (suc d) j less =
      let far = chain d j (omega (arith, less)) in
      let within = rises_in (d + suc j) (omega (arith, less)) in
      let next = next_row (d + suc j) (omega (arith, less)) in
      subst (λ n. highs j ≤ lows n) (let e : suc (d + suc j) ≡ suc d + suc j = omega arith in e) (omega (arith, far, within, next))

  rows : Rows there_place
  rows = record {
    low = lows;
    high = highs;
    rises = λ j k less low. subst (λ n. highs j ≤ lows n) (let e : (k - suc j) + suc j ≡ k = omega (arith, less) in e) (chain (k - suc j) j (omega (arith, less, low)));
    each = each;
    apart = apart;
  }
    where
      each : (a : Name) (id : ℕ) → id_of there_place a ≡ Some id → (lows (row_of a) < id) × (id ≤ highs (row_of a))
      each (Global k) id is = outer_has.globals_new.each k id (ap (λ l. slice_get l k) (sym shared.globals) ∙ is)
      each (Interface k) id is = outer_has.interfaces_new.each k id (ap (λ l. slice_get l k) (sym shared.interfaces) ∙ is)
      each (Stage k) id is = outer_has.stages_new.each k id (ap (λ l. id_if (slice_get l k)) (sym shared.stages) ∙ is)
      each (Param k) id is = o.params_new.each k id is
      each (Local k) id is = o.locals_new.each k id is
      each (Holder k) id is = o.holders_new.each k id is

      apart : (row j k id : ℕ) → row < 6 → id_of there_place (named row j) ≡ Some id → id_of there_place (named row k) ≡ Some id → j ≡ k
      apart zero j k id low is other = outer_has.globals_new.apart j k id (ap (λ l. slice_get l j) (sym shared.globals) ∙ is) (ap (λ l. slice_get l k) (sym shared.globals) ∙ other)
      apart (suc zero) j k id low is other = outer_has.interfaces_new.apart j k id (ap (λ l. slice_get l j) (sym shared.interfaces) ∙ is) (ap (λ l. slice_get l k) (sym shared.interfaces) ∙ other)
      apart (suc (suc zero)) j k id low is other = outer_has.stages_new.apart j k id (ap (λ l. id_if (slice_get l j)) (sym shared.stages) ∙ is) (ap (λ l. id_if (slice_get l k)) (sym shared.stages) ∙ other)
      apart (suc (suc (suc zero))) j k id low is other = o.params_new.apart j k id is other
      apart (suc (suc (suc (suc zero)))) j k id low is other = o.locals_new.apart j k id is other
      apart (suc (suc (suc (suc (suc zero))))) j k id low is other = o.holders_new.apart j k id is other
      apart (suc (suc (suc (suc (suc (suc row)))))) j k id low is other = absurd (omega (arith, low))

  pub vs_new : AreNew o.past_params mid.sections.last (slice_get (ids_declared (o.variables ++ o.waiting)))
  vs_new = record {
    rises = (let a = o.locals_new.rises in let c = o.holders_new.rises in omega (arith, a, c));
    each = λ n id is. each n id (either_at (ids_declared o.variables) (ids_declared o.waiting) n id (both n id is));
    apart = λ j k id is other. apart j k id (either_at (ids_declared o.variables) (ids_declared o.waiting) j id (both j id is)) (either_at (ids_declared o.variables) (ids_declared o.waiting) k id (both k id other));
  }
    where
      both : (n id : ℕ) → slice_get (ids_declared (o.variables ++ o.waiting)) n ≡ Some id → slice_get (ids_declared o.variables ++ ids_declared o.waiting) n ≡ Some id
      both n id is = ap (λ l. slice_get l n) (sym (map-append (λ (v : Declared). v.id) o.variables o.waiting)) ∙ is

      each : (n id : ℕ) → Either (ids_declared o.variables) (ids_declared o.waiting) n id → (o.past_params < id) × (id ≤ mid.sections.last)
      each n id (in_first is) = let w = o.locals_new.each n id is in let r = o.holders_new.rises in (w.0, let u = w.1 in omega (arith, u, r))
      each n id (in_second k e is) = let w = o.holders_new.each k id is in let r = o.locals_new.rises in (let l = w.0 in omega (arith, l, r), w.1)

      apart : (j k id : ℕ) → Either (ids_declared o.variables) (ids_declared o.waiting) j id → Either (ids_declared o.variables) (ids_declared o.waiting) k id → j ≡ k
      apart j k id (in_first is) (in_first other) = o.locals_new.apart j k id is other
      apart j k id (in_first is) (in_second n e other) = absurd (let a = (o.locals_new.each j id is).1 in let c = (o.holders_new.each n id other).0 in omega (arith, a, c))
      apart j k id (in_second n e is) (in_first other) = absurd (let a = (o.locals_new.each k id other).1 in let c = (o.holders_new.each n id is).0 in omega (arith, a, c))
      apart j k id (in_second n e is) (in_second i f other) = let same = o.holders_new.apart n i id is other in omega (arith, e, f, same)

  module _ (body : List Placed) (params_are : parameters_of body ≡ ids_taken o.params) (variables_are : variables_of body ≡ map variable_of (o.variables ++ o.waiting)) where
    has_declared : (position : ℕ) (v : Declared) (id : ℕ) → slice_get (o.variables ++ o.waiting) position ≡ Some v → v.id ≡ id → HasId (variables_of body) id
    has_declared position v id is same =
        record { position = position; variable = variable_of v; there = ap (λ l. slice_get l position) variables_are ∙ map_there variable_of (o.variables ++ o.waiting) position v is; same = same }

    own : (name : Name) (id : ℕ) → is_own name ≡ true → id_of there_place name ≡ Some id → HasId (variables_of body) id
    own (Global k) id is has = absurd (false≢true is)
    own (Interface k) id is has = absurd (false≢true is)
    own (Stage k) id is has = absurd (false≢true is)
    own (Param k) id is has = absurd (false≢true is)
    own (Local k) id is has = let x = mapped (λ (v : Declared). v.id) o.variables k id has in has_declared k x.0 id (front_at o.variables o.waiting k x.0 x.1) x.2
    own (Holder k) id is has = let x = mapped (λ (v : Declared). v.id) o.waiting k id has in has_declared (length o.variables + k) x.0 id (back_at o.variables o.waiting k x.0 x.1) x.2

    aside : (number id : ℕ) → id_of there_place (Param number) ≡ Some id → HasId (variables_of body) id → ⊥
    aside number id is h =
        let x = mapped variable_of (o.variables ++ o.waiting) h.position h.variable (ap (λ l. slice_get l h.position) (sym variables_are) ∙ h.there) in
        let same : x.0.id ≡ id = ap (λ (v : Variable). v.id) x.2 ∙ h.same in
        let at = map_there (λ (v : Declared). v.id) (o.variables ++ o.waiting) h.position x.0 x.1 in
        let a = (o.params_new.each number id is).1 in
        let c = (vs_new.each h.position x.0.id at).0 in
        omega (arith, a, c, same)

    pub placed : IsPlaced m body mid.place
    placed = subst (IsPlaced m body) (sym o.place) (record {
      shared = λ name id is has. outer_held m whole kept written first id (extends_then behind (extends_then o.extends into)) (outer_has.stand name id is (sym (id_shared place there_place shared_there name is) ∙ has));
      params = sym params_are;
      own = own;
      apart = rows_apart there_place rows;
      aside = aside;
    })
