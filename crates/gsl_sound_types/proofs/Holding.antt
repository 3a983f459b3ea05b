-- What ids stand for, by their types: one id more, and more variables.
use Rattle.std.proofs.Common.{◌≡◌, refl, sym, ap, ◌∙◌, subst, ℕ, zero, suc, ◌+◌, Bool, true, false, is_some, if◌then◌else◌, List, [], ◌∷◌, ◌++◌, length, take, slice_get, Option, Some, None}
use Rattle.std.specs.Prelude.{◌==◌}
use Rattle.std.proofs.lemmas.Bool.{eqb-true, false≢true, true≢false}
use Rattle.std.proofs.lemmas.Option.{none-some}
use Rattle.gsl_instr.specs.declared.instruction.Instruction.{Instruction}
use Rattle.gsl_words.specs.declared.module.Module.{Module}
use Rattle.gsl_values.specs.declared.value.Value.{Value}
use Rattle.gsl_valid.specs.Kinds.{Shape, OfPointer, constant_is, shape_of, type_of}
use Rattle.gsl_valid.specs.Types.{Target, defined_as, target_in, target_of}
use Rattle.gsl_machine.specs.Constants.{constant}
use Rattle.gsl_machine.specs.State.{Held, Ids, InBlock, InVariable, Pointer, Points, Whole, give}
use Rattle.gsl_sound_code.proofs.Looks.{Kept}
use Rattle.gsl_sound_values.specs.Shaped.{is_shaped, shaped_as}
use Rattle.gsl_sound_values.proofs.Unfolded.{shape_unfolds}
use Rattle.gsl_memory_law.specs.Typed.{HaveTypes}
use Rattle.gsl_sound_types.specs.Typed.{HoldTypes, IsAs, IsOfType, PointsTo}

-- ---- more variables

pub get_front : (types more : List ℕ) (number type : ℕ) → slice_get types number ≡ Some type → slice_get (types ++ more) number ≡ Some type
get_front [] more number type is = absurd (none-some type is)
get_front (t ∷ types) more zero type is = is
get_front (t ∷ types) more (suc number) type is = get_front types more number type is

pub length_same : (m : Module) (types : List ℕ) (variables : List Value) → HaveTypes m types variables → length types ≡ length variables
length_same m [] [] have = refl
length_same m [] (v ∷ variables) have = absurd have
length_same m (type ∷ types) [] have = absurd have
length_same m (type ∷ types) (v ∷ variables) have = ap suc (length_same m types variables have.1)

pub front_is : (types more : List ℕ) → take (length types) (types ++ more) ≡ types
front_is [] more = refl
front_is (t ∷ types) more = ap (λ l. t ∷ l) (front_is types more)

module _ (m : Module) (types more : List ℕ) where
  pub points_more : (t : Target) (to : Pointer) → PointsTo m types t to → PointsTo m (types ++ more) t to
  points_more t (InBlock variable offset pointee) is = is
  points_more t (InVariable number path) is = (is.0, record { type = is.1.type; is = get_front types more number is.1.type is.1.is; leads = is.1.leads })

  pub as_more : (type : ℕ) (t : Option Target) (held : Held) → IsAs m types type t held → IsAs m (types ++ more) type t held
  as_more type None (Whole v) is = is
  as_more type None (Points to) is = absurd is
  as_more type (Some t) (Whole v) is = absurd is
  as_more type (Some t) (Points to) is = points_more t to is

  pub of_more : (type : ℕ) (held : Held) → IsOfType m types type held → IsOfType m (types ++ more) type held
  of_more type held is = as_more type (target_of (defined_as m type)) held is

  pub hold_more : (ids : Ids) → HoldTypes m types ids → HoldTypes m (types ++ more) ids
  hold_more ids hold = record {
    each = λ id type held is typed. of_more type held (hold.each id type held is typed);
    constants = hold.constants;
  }

-- ---- values and pointers

module _ (m : Module) (kept : Kept m) (types : List ℕ) where
  -- the type of a value is none of pointers
  pub shaped_nowhere : (type : ℕ) (v : Value) → is_shaped m type v ≡ true → target_of (defined_as m type) ≡ None
  shaped_nowhere type v shaped = by_definition (defined_as m type) refl
    where
      by_shape : (s : Shape) → shaped_as m (is_shaped m) s v ≡ true → target_in s ≡ None
      by_shape (OfPointer class pointee) is = absurd (false≢true is)
      by_shape _ is = refl

      by_definition : (o : Option Instruction) → defined_as m type ≡ o → target_of o ≡ None
      by_definition None e = refl
      by_definition (Some d) e = by_shape (shape_of (Some d)) (ap (λ x. shaped_as m (is_shaped m) (shape_of x) v) (sym e) ∙ sym (shape_unfolds m kept type d v e) ∙ shaped)

  pub value_of_type : (type : ℕ) (v : Value) → is_shaped m type v ≡ true → IsOfType m types type (Whole v)
  value_of_type type v shaped = subst (λ t. IsAs m types type t (Whole v)) (sym (shaped_nowhere type v shaped)) shaped

  pub of_value : (type : ℕ) (v : Value) → IsOfType m types type (Whole v) → is_shaped m type v ≡ true
  of_value type v is = by_target (target_of (defined_as m type)) is
    where
      by_target : (t : Option Target) → IsAs m types type t (Whole v) → is_shaped m type v ≡ true
      by_target None is = is
      by_target (Some t) is = absurd is

  pub of_pointer : (type : ℕ) (t : Target) (to : Pointer) → target_of (defined_as m type) ≡ Some t → IsOfType m types type (Points to) → PointsTo m types t to
  of_pointer type t to target is = subst (λ x. IsAs m types type x (Points to)) target is

  pub pointer_of_type : (type : ℕ) (t : Target) (to : Pointer) → target_of (defined_as m type) ≡ Some t → PointsTo m types t to → IsOfType m types type (Points to)
  pointer_of_type type t to target is = subst (λ x. IsAs m types type x (Points to)) (sym target) is

  -- ---- one id more

  pub hold_give : (ids : Ids) (id : ℕ) (held : Held) → HoldTypes m types ids → ((type : ℕ) → type_of (defined_as m id) ≡ Some type → IsOfType m types type held) → is_some (constant_is (defined_as m id)) ≡ false → HoldTypes m types (give ids id held)
  hold_give ids id held hold of none = record {
    each = λ other type h is typed. by_same other type h (other == id) refl is typed;
    constants = λ other h is constant. by_constant other h (other == id) refl is constant;
  }
    where
      by_same : (other type : ℕ) (h : Held) (b : Bool) → (other == id) ≡ b → (if b then Some held else ids other) ≡ Some h → type_of (defined_as m other) ≡ Some type → IsOfType m types type h
      by_same other type h true same is typed =
          let e : held ≡ h = cc in
          subst (IsOfType m types type) e (of type (ap (λ n. type_of (defined_as m n)) (sym (eqb-true other id same)) ∙ typed))
      by_same other type h false differ is typed = hold.each other type h is typed

      by_constant : (other : ℕ) (h : Held) (b : Bool) → (other == id) ≡ b → (if b then Some held else ids other) ≡ Some h → is_some (constant_is (defined_as m other)) ≡ true → h ≡ Whole (constant m other)
      by_constant other h true same is constant = absurd (true≢false (sym constant ∙ ap (λ n. is_some (constant_is (defined_as m n))) (eqb-true other id same) ∙ none))
      by_constant other h false differ is constant = hold.constants other h is constant
