-- The numbers of the variables that ids point to.
use Rattle.std.proofs.Common.{◌≡◌, refl, sym, ap, ◌∙◌, subst, ℕ, zero, suc, ◌+◌, ◌≤◌, Bool, true, false, if◌then◌else◌, List, [], ◌∷◌, ◌++◌, length, Option, Some, None, ◌⊎◌, inl, inr, arith}
use Rattle.std.specs.Prelude.{◌==◌, slice_get}
use Rattle.std.proofs.lemmas.Bool.{eqb-true, true≢false}
use Rattle.gsl_words.specs.declared.module.Module.{Module}
use Rattle.gsl_valid.specs.DecorationRules.{pointee}
use Rattle.gsl_valid.specs.Kinds.{Value as Fixed, Variable, constant_is, variable_is}
use Rattle.gsl_valid.specs.Placed.{Code}
use Rattle.gsl_valid.specs.Types.{defined_as, is_block_class}
use Rattle.gsl_values.specs.declared.value.Value.{Value}
use Rattle.gsl_machine.specs.Constants.{constant}
use Rattle.gsl_machine.specs.Functions.{give_each, point_each}
use Rattle.gsl_machine.specs.Interfaces.{block_variables, constant_held, globals, if_there, point_blocks, value_variables}
use Rattle.gsl_machine.specs.State.{Held, Ids, InBlock, InVariable, Points, Whole, give}
use Rattle.gsl_sound_code.proofs.Looks.{Kept}
use Rattle.gsl_sound_ids.proofs.Globals.{Among, PointsBelow, among_blocks, among_values, pointed, same_variable, unblocked}
use Rattle.gsl_lower_frames.specs.Named.{number_at, number_in}
use Rattle.gsl_lower_frames.specs.Starting.{ids_in, local_variables, variables_in}

abbrev pub At : Option Held → ℕ → Type 0
At held n = held ≡ Some (Points (InVariable n []))

-- ---- variables in lists

-- what a list has is at the same place of a longer one
got_first : (n : ℕ) (vs ws : List Variable) (v : Variable) → slice_get vs n ≡ Some v → slice_get (vs ++ ws) n ≡ Some v
got_first zero [] ws v is = absurd (cc)
got_first (suc n) [] ws v is = absurd (cc)
got_first zero (x ∷ vs) ws v is = is
got_first (suc n) (x ∷ vs) ws v is = got_first n vs ws v is

got_later : (n : ℕ) (vs ws : List Variable) → slice_get (vs ++ ws) (length vs + n) ≡ slice_get ws n
got_later n [] ws = let e : 0 + n ≡ n = omega arith in ap (slice_get ws) e
got_later n (x ∷ vs) ws = let e : suc (length vs) + n ≡ suc (length vs + n) = omega arith in ap (slice_get (x ∷ (vs ++ ws))) e ∙ got_later n vs ws

got_among : (n : ℕ) (vs : List Variable) (v : Variable) → slice_get vs n ≡ Some v → Among v vs
got_among zero [] v is = absurd (cc)
got_among (suc n) [] v is = absurd (cc)
got_among zero (x ∷ vs) v is = let same : x ≡ v = cc in inl same
got_among (suc n) (x ∷ vs) v is = inr (got_among n vs v is)

pub among_either : (n : ℕ) (vs ws : List Variable) (v : Variable) → slice_get (vs ++ ws) n ≡ Some v → Among v vs ⊎ Among v ws
among_either n [] ws v is = inr (got_among n ws v is)
among_either zero (x ∷ vs) ws v is = let same : x ≡ v = cc in inl (inl same)
among_either (suc n) (x ∷ vs) ws v is = elim (among_either n vs ws v is) [ inl first ↦ inl (inr first) | inr later ↦ inr later ]

-- ---- an id that points to a variable is the variable's

-- A variable of an id stands at a place behind so many.
pub record FoundAt (number : ℕ) (vs : List Variable) (id n : ℕ) : Type 0 where
  pub place : ℕ
  pub variable : Variable
  pub is : n ≡ number + place
  pub there : slice_get vs place ≡ Some variable
  pub same : variable.id ≡ id

pub points_to : (ids : Ids) (number : ℕ) (vs : List Variable) (id n : ℕ) → At (point_each ids number vs id) n → At (ids id) n ⊎ FoundAt number vs id n
points_to ids number [] id n is = inl is
points_to ids number (v ∷ vs) id n is = elim (points_to (give ids v.id (Points (InVariable number []))) (number + 1) vs id n is) [
  | inl first ↦ by_same (id == v.id) refl first
  | inr f ↦ (let at = f.is in inr (record { place = suc f.place; variable = f.variable; is = omega (arith, at); there = f.there; same = f.same }))
]
  where
    by_same : (b : Bool) → (id == v.id) ≡ b → At (if b then Some (Points (InVariable number [])) else ids id) n → At (ids id) n ⊎ FoundAt number (v ∷ vs) id n
    by_same true same is =
        let e : number ≡ n = cc in
        inr (record { place = 0; variable = v; is = omega (arith, e); there = refl; same = sym (eqb-true id v.id same) })
    by_same false differ is = inl is

module _ (m : Module) where
  points_before : (ids : Ids) (vs : List Variable) (id n : ℕ) → At (point_blocks m ids vs id) n → At (ids id) n
  points_before ids [] id n is = is
  points_before ids (v ∷ vs) id n is = by_same (id == v.id) (points_before (give ids v.id (Points (InBlock v.id 0 (pointee m v.type)))) vs id n is)
    where
      by_same : (b : Bool) → At (if b then Some (Points (InBlock v.id 0 (pointee m v.type))) else ids id) n → At (ids id) n
      by_same true is = absurd (cc)
      by_same false is = is

  fixed_points_nowhere : (id n : ℕ) → At (constant_held m id) n → ⊥
  fixed_points_nowhere id n is = by_constant (constant_is (defined_as m id)) (constant m id) is
    where
      by_constant : (o : Option (ℕ × Fixed)) (v : Value) → At (if_there o (Whole v)) n → ⊥
      by_constant None v is = cc
      by_constant (Some c) v is = cc

  abbrev outer : Ids
  outer = point_each (constant_held m) 0 (value_variables m)

  -- what points to a variable outside functions is the id of the variable at that position
  pub outer_position : (id n : ℕ) → At (globals m id) n → (v : Variable) × (slice_get (value_variables m) n ≡ Some v) × (v.id ≡ id)
  outer_position id n is = elim (points_to (constant_held m) 0 (value_variables m) id n (points_before outer (block_variables m) id n is)) [
    | inl fixed ↦ absurd (fixed_points_nowhere id n fixed)
    | inr f ↦ (let at = f.is in let e : n ≡ f.place = omega (arith, at) in (f.variable, ap (slice_get (value_variables m)) e ∙ f.there, f.same))
  ]

  -- the id of a variable outside functions that is of no block points to one
  pub value_points : Kept m → (id : ℕ) (v : Variable) (bound : ℕ) → length (value_variables m) ≤ bound → Among v (value_variables m) → v.id ≡ id → PointsBelow bound (globals m id)
  value_points kept id v bound room value same =
      subst (PointsBelow bound) (sym (unblocked m outer (block_variables m) id unlike)) (pointed (constant_held m) 0 (value_variables m) bound id v (omega (arith, room)) value same)
    where
      unlike : (w : Variable) → Among w (block_variables m) → w.id ≡ id → ⊥
      unlike w among is =
          let held = among_values m kept v value in
          let b = among_blocks m kept w among in
          let e = same_variable m kept id v w (ap (λ n. variable_is (defined_as m n)) (sym same) ∙ held.0) b.0 is in
          true≢false (sym b.1 ∙ ap (λ x. is_block_class x.class) e ∙ held.1)

pub given_none : (ids : Ids) (parameters : List ℕ) → give_each ids parameters [] ≡ ids
given_none ids [] = refl
given_none ids (id ∷ parameters) = refl

module _ (m : Module) (code : Code) where
  abbrev own : Ids
  own = ids_in m code

  -- the number of a variable is its position
  pub number_is_position : (id n : ℕ) → At (own id) n → (v : Variable) × (slice_get (variables_in m code) n ≡ Some v) × (v.id ≡ id)
  number_is_position id n is = elim (points_to (globals m) (length (value_variables m)) (local_variables code) id n is) [
    | inl outside ↦ (let v = outer_position m id n outside in (v.0, got_first n (value_variables m) (local_variables code) v.0 v.1, v.2))
    | inr f ↦ (f.variable, ap (slice_get (variables_in m code)) f.is ∙ got_later f.place (value_variables m) (local_variables code) ∙ f.there, f.same)
  ]

-- ---- the numbers of names

number_back : (held : Option Held) (n : ℕ) → number_in held ≡ Some n → At held n
number_back None n is = absurd (cc)
number_back (Some (Whole value)) n is = absurd (cc)
number_back (Some (Points (InBlock variable offset pointee))) n is = absurd (cc)
number_back (Some (Points (InVariable number []))) n is = let e : number ≡ n = cc in ap (λ k. Some (Points (InVariable k []))) e
number_back (Some (Points (InVariable number (k ∷ path)))) n is = absurd (cc)

pub seat_back : (own : Ids) (o : Option ℕ) (n : ℕ) → number_at own o ≡ Some n → (id : ℕ) × (o ≡ Some id) × At (own id) n
seat_back own None n is = absurd (cc)
seat_back own (Some id) n is = (id, refl, number_back (own id) n is)
