-- Variables outside functions are among those that hold values.
use Rattle.std.proofs.Common.{◌≡◌, refl, sym, ap, ◌∙◌, subst, inl, inr, ◌⊎◌, ℕ, zero, suc, ◌+◌, ◌<◌, ◌≤◌, true, List, [], ◌∷◌, ◌++◌, map, length, slice_get, Option, Some, None, arith}
use Rattle.std.specs.Prelude.{◌-◌, option_to_list}
use Rattle.std.specs.List.{cons_option, filter_map}
use Rattle.std.proofs.lemmas.Bool.{cases_lt, cond-false, false≢true}
use Rattle.std.proofs.lemmas.List.{map-append}
use Rattle.gsl_instr.specs.Forms.{form_of}
use Rattle.gsl_types.specs.declared.ty.Ty.{Ty}
use Rattle.gsl_words.specs.declared.module.Instr.{Instr}
use Rattle.gsl_words.specs.declared.module.Module.{Module}
use Rattle.gsl_tree.specs.declared.program.Program.{Program}
use Rattle.gsl_tree.specs.declared.unit.Prototype.{Prototype}
use Rattle.gsl_valid.specs.Instruction.{read}
use Rattle.gsl_valid.specs.Kinds.{Variable, variable_is}
use Rattle.gsl_valid.specs.Placed.{Code, Placed}
use Rattle.gsl_valid.specs.Types.{defined_as, is_block_class, outside_of}
use Rattle.gsl_machine.specs.Functions.{parameters_of, variables_of}
use Rattle.gsl_machine.specs.Interfaces.{all_variables, holds_value, value_variables}
use Rattle.gsl_sound_code.proofs.Looks.{Kept}
use Rattle.gsl_valid.proofs.Lookups.{Has}
use Rattle.gsl_sound_ids.proofs.Variables.{outer}
use Rattle.gsl_spv.specs.Declarations as d
use Rattle.gsl_spv.specs.Declarations.{defining}
use Rattle.gsl_spv.specs.Growing.{Extends}
use Rattle.gsl_spv.specs.Sections.{Sections}
use Rattle.gsl_spv.proofs.Extending.{extends_then}
use Rattle.gsl_lower_text.specs.Written.{Written}
use Rattle.gsl_lower_holders.specs.Flow.{Flow}
use Rattle.gsl_lower_holders.specs.declared.place.FlowPlace.{FlowPlace}
use Rattle.gsl_lower_needs.specs.declared.need.Need.{Need}
use Rattle.gsl_lower_follows.specs.Frames.{Name, Global, Interface, Stage, Param, Local, Holder, id_if, id_of}
use Rattle.gsl_lower_frames.specs.Named.{HasId}
use Rattle.gsl_lower_law_opening.specs.OfLawReturns.{is_own}
use Rattle.gsl_lower_law_outside.specs.Outside.{HasOuter, IsOuter}
use Rattle.gsl_lower_law_outside.proofs.Keeping.{there}

-- ---- variables outside functions

record IsAt {A : Type 0} (xs : List A) (x : A) : Type 0 where
  place : ℕ
  here : slice_get xs place ≡ Some x

further : {A : Type 0} (y : A) (xs : List A) (x : A) → IsAt xs x → IsAt (y ∷ xs) x
further y xs x a = record { place = suc a.place; here = a.here }

with_option : {B : Type 0} (o : Option B) (ys : List B) (y : B) → IsAt ys y → IsAt (cons_option o ys) y
with_option None ys y a = a
with_option (Some x) ys y a = further x ys y a

first_option : {B : Type 0} (o : Option B) (ys : List B) (y : B) → o ≡ Some y → IsAt (cons_option o ys) y
first_option None ys y is = absurd (cc)
first_option (Some x) ys y is = record { place = 0; here = is }

kept_at : {A B : Type 0} (f : A → Option B) (xs : List A) (x : A) (y : B) → IsAt xs x → f x ≡ Some y → IsAt (filter_map f xs) y
kept_at {A} {B} f [] x y a is = absurd (none a.place a.here)
  where
    none : (k : ℕ) → slice_get [] k ≡ Some x → ⊥
    none zero e = cc
    none (suc k) e = cc
kept_at {A} {B} f (z ∷ xs) x y a is = by a.place a.here (λ k e. kept_at f xs x y (record { place = k; here = e }) is)
  where
    by : (k : ℕ) → slice_get (z ∷ xs) k ≡ Some x → ((k : ℕ) → slice_get xs k ≡ Some x → IsAt (filter_map f xs) y) → IsAt (cons_option (f z) (filter_map f xs)) y
    by zero e later = let same : z ≡ x = cc in first_option (f z) (filter_map f xs) y (ap f same ∙ is)
    by (suc k) e later = with_option (f z) (filter_map f xs) y (later k e)

has_at : (code : Code) (i : Instr) → Has code i → IsAt code i
has_at [] i has = absurd has
has_at (j ∷ code) i (inl same) = record { place = 0; here = ap Some same }
has_at (j ∷ code) i (inr later) = further j code i (has_at code i later)

module _ (m : Module) (whole : Sections) (kept : Kept m) (written : Written m whole) where
  -- it is one of the variables that hold values
  pub outer_held : (s : Sections) (id : ℕ) → Extends s whole → IsOuter s id → HasId (value_variables m) id
  unfolding form_of
  outer_held s id into o =
      let i = defining (d.variable o.pointer o.class o.init) id in
      let v : Variable = record { type = o.pointer; id = id; class = o.class; initialiser = option_to_list o.init } in
      let a = there m whole [] kept written s i into o.stands in
      let is : variable_is (defined_as m id) ≡ Some v = ap variable_is (a.keeps.own id refl) in
      let x = outer m kept id v is o.no_local in
      let all = kept_at (λ j. variable_is (read j)) (outside_of m) x.instr v (has_at (outside_of m) x.instr x.has) x.is in
      let held = kept_at holds_value (all_variables m) v v all (cond-false (is_block_class o.class) None (Some v) o.no_block) in
      record { position = held.place; variable = v; there = held.here; same = refl }
