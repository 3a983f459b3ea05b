-- What a module says of the types of values that are put.
use Rattle.std.proofs.Common.{◌≡◌, refl, sym, ap, ◌∙◌, subst, ℕ, Bool, true, false, IsTrue, List, [], length, Some, if◌then◌else◌}
use Rattle.std.specs.Prelude.{◌==◌}
use Rattle.std.proofs.lemmas.Bool.{eqb-true, false≢true}
use Rattle.gsl_instr.specs.Forms.{form_of}
use Rattle.gsl_types.specs.Known.{IsSound, is_plain, is_plain_kind}
use Rattle.gsl_types.specs.declared.ty.Scalar.{Scalar}
use Rattle.gsl_types.specs.declared.ty.Scalar.TheVariants.{Bool as Boolean, Int, Uint}
use Rattle.gsl_types.specs.declared.ty.StructType.{StructType}
use Rattle.gsl_types.specs.declared.ty.Ty.{Ty}
use Rattle.gsl_types.specs.declared.ty.Ty.TheFolds.{fold-roll-Ty}
use Rattle.gsl_types.specs.declared.ty.Ty.TheOpen.{Ty-F}
use Rattle.gsl_types.specs.declared.ty.Ty.TheViews.{out-Ty, roll-Ty, roll-out-Ty}
use Rattle.gsl_types.specs.declared.ty.Ty.TheVariants as ty
use Rattle.gsl_types.specs.declared.ty.Ty.TheVariants.{outs-One, outs-Vector, rolls-Array, rolls-One, rolls-Runtime, rolls-Struct, rolls-Vector, rolls-Void}
use Rattle.gsl_words.specs.declared.module.Module.{Module}
use Rattle.gsl_tree.specs.Shapes.{Shape, shape_kind, shape_of}
use Rattle.gsl_tree.specs.Values.{zero_value}
use Rattle.gsl_valid.specs.Kinds.{shape_of as made_of}
use Rattle.gsl_valid.specs.Types.{defined_as, lanes_in, lanes_of, lanes_with, scalar_in}
use Rattle.gsl_machine.specs.Constants.{zeros}
use Rattle.gsl_machine.specs.Memory.{size_of}
use Rattle.gsl_sound_code.proofs.Looks.{Kept}
use Rattle.gsl_spv.specs.Declarations as d
use Rattle.gsl_spv.specs.Declarations.{defining}
use Rattle.gsl_spv.specs.Growing.{Begins, Extends}
use Rattle.gsl_spv.specs.Sections.{Sections}
use Rattle.gsl_spv.specs.declared.plain.PlainType.TheVariants as plain
use Rattle.gsl_spv.proofs.Answering.{plain_once}
use Rattle.gsl_lower_values.specs.Building.{Step, Made, behind, given}
use Rattle.gsl_lower_values.specs.Types.{plain_scalar, scalar_type, type_of, vector_type}
use Rattle.gsl_lower_text.specs.Written.{Written}
use Rattle.gsl_lower_text.proofs.Constants.{At, at}
use Rattle.gsl_lower_holders.specs.Flow.{find_type}
use Rattle.gsl_lower_types.specs.Known.{Known, aside}
use Rattle.gsl_lower_types.specs.Values.{value_type}
use Rattle.gsl_lower_types.proofs.Adding.{value_adds}
use Rattle.gsl_lower_types.proofs.Exact.{array_under_its_id, exact_struct}
use Rattle.gsl_lower_types.proofs.Finding.{came, finds_itself}
use Rattle.gsl_lower_types.proofs.Steps.{value-One, value-Vector}
use Rattle.gsl_lower_law_outside.specs.Known.{AreTold}
use Rattle.gsl_lower_law_outside.proofs.Keeping.{HasZeros, same_after, same_made}
use Rattle.gsl_lower_law_outside.proofs.Types.{type_put}
use Rattle.gsl_lower_law_inputs.proofs.Puts.{AllTellPut, found_on, put_aside}
use Rattle.gsl_lower_law_inputs.proofs.Tells.{AllTell, HasGlobal, given_tells, interned_tells, tells_so, tells_then}

module _ (m : Module) (whole : Sections) (structs : List StructType) (held : Kept m) (written : Written m whole) (known_all : Known) (are : AreTold m structs known_all) where
  -- The zeros of a type are those of the program's, and it has as many components.
  pub record IsType (t : Ty) (id : ℕ) : Type 0 where
    pub zero : IsSound (length structs) t → IsTrue (is_plain t) → zeros m id ≡ zero_value structs t
    pub counted : (shape : Shape) → shape_of t ≡ Some shape → size_of (lanes_of m id) ≡ shape.1

  -- ---- components

  scalar_said : (x : Scalar) (id : ℕ) → At m (defining (d.plain_type (plain_scalar x)) id) → (n : ℕ) → size_of (lanes_with n (scalar_in (made_of (defined_as m id)))) ≡ n
  unfolding form_of
  scalar_said Boolean id a n = ap (λ o. size_of (lanes_with n (scalar_in (made_of o)))) (a.keeps.own id refl)
  scalar_said Int id a n = ap (λ o. size_of (lanes_with n (scalar_in (made_of o)))) (a.keeps.own id refl)
  scalar_said Uint id a n = ap (λ o. size_of (lanes_with n (scalar_in (made_of o)))) (a.keeps.own id refl)

  one_said : (x : Scalar) (id : ℕ) → At m (defining (d.plain_type (plain_scalar x)) id) → size_of (lanes_of m id) ≡ 1
  unfolding form_of
  one_said Boolean id a = ap (λ o. size_of (lanes_in m (made_of o))) (a.keeps.own id refl)
  one_said Int id a = ap (λ o. size_of (lanes_in m (made_of o))) (a.keeps.own id refl)
  one_said Uint id a = ap (λ o. size_of (lanes_in m (made_of o))) (a.keeps.own id refl)

  vector_said : (component n id : ℕ) → At m (defining (d.plain_type (plain.Vector component n)) id) → size_of (lanes_of m id) ≡ size_of (lanes_with n (scalar_in (made_of (defined_as m component))))
  unfolding form_of
  vector_said component n id a = ap (λ o. size_of (lanes_in m (made_of o))) (a.keeps.own id refl)

  pub scalar_tells : (x : Scalar) → AllTell whole (scalar_type x) (λ id. HasGlobal whole (defining (d.plain_type (plain_scalar x)) id))
  unfolding scalar_type
  scalar_tells x = interned_tells whole (d.plain_type (plain_scalar x)) (plain_once (plain_scalar x))

  counted_tells : (x : Scalar) (n : ℕ) → AllTell whole (type_of (x, n)) (λ id. size_of (lanes_of m id) ≡ n)
  unfolding type_of
  counted_tells x n =
      tells_so whole (tells_then whole {Q = λ component id. HasGlobal whole (defining (d.plain_type (plain_scalar x)) component) → size_of (lanes_of m id) ≡ n} (scalar_type x) (λ component. if n == 1 then given component else vector_type n component) (scalar_tells x) (λ component. by component (n == 1) refl))
      (λ id b. b.other b.one)
    where
      by : (component : ℕ) (one : Bool) → (n == 1) ≡ one → AllTell whole (if one then given component else vector_type n component) (λ id. HasGlobal whole (defining (d.plain_type (plain_scalar x)) component) → size_of (lanes_of m id) ≡ n)
      by component true is =
          tells_so whole (given_tells whole component) (λ id same there. ap (λ k. size_of (lanes_of m k)) (sym same) ∙ one_said x component (at m held _ (written.globals _ there)) ∙ sym (eqb-true n 1 is))
      by component false is =
          tells_so whole (interned_tells whole (d.plain_type (plain.Vector component n)) (plain_once (plain.Vector component n))) (λ id vector there.
          vector_said component n id (at m held _ (written.globals _ vector)) ∙ scalar_said x component (at m held _ (written.globals _ there)) n)

  -- ---- zeros

  -- of scalars and vectors, which no type that is known before concerns
  plain_zero : (t : Ty) (step : Step ℕ) → ((known : Known) (s : Sections) → value_type t known s ≡ aside step known s) → (known : Known) (s : Sections) (r : ℕ × Known) (after : Sections) → value_type t known s ≡ Made r after → Extends after whole
      → HasZeros m whole structs held written t r.0
  plain_zero t step is known s r after made into =
      let c = came (step s) (λ a. given (a, known)) r after (sym (is known s) ∙ made) in
      let again : value_type t [] s ≡ Made (c.first, []) c.between = is [] s ∙ ap (λ b. behind b (λ a. given (a, []))) c.made in
      subst (HasZeros m whole structs held written t) (ap (λ (z : ℕ × Known). z.0) (same_made (c.first, known) r c.between after c.then_))
      ((type_put m whole structs held written t [] s (c.first, []) c.between again).zero (subst (λ (x : Sections). Extends x whole) (sym (same_after (c.first, known) r c.between after c.then_)) into) tt)

  not_plain : (t : Ty) (id : ℕ) → is_plain t ≡ false → HasZeros m whole structs held written t id
  not_plain t id is sound whole_type = absurd (false≢true (sym is ∙ whole_type))

  -- those of arrays and structs are told where they are known
  zero_told : (t : Ty) (id : ℕ) (known : Known) → Begins known known_all → find_type t known ≡ Some id → HasZeros m whole structs held written t id
  zero_told t id known begins found = are.zeros t id (found_on t id known known_all begins found)

  zero_put : (t : Ty) (layer : Ty-F Ty) → roll-Ty layer ≡ t → (known : Known) (s : Sections) (r : ℕ × Known) (after : Sections) → value_type t known s ≡ Made r after → Extends after whole → Begins r.1 known_all → HasZeros m whole structs held written t r.0
  zero_put t Ty-F.Void e known s r after made into begins = not_plain t r.0 (ap is_plain (sym e) ∙ fold-roll-Ty Bool is_plain_kind Ty-F.Void)
  zero_put t (Ty-F.One x) e known s r after made into begins =
      let same : ty.One x ≡ t = sym (rolls-One x) ∙ e in
      subst (λ u. HasZeros m whole structs held written u r.0) same (plain_zero (ty.One x) (scalar_type x) (λ k z. value-One k z x) known s r after (ap (λ u. value_type u known s) same ∙ made) into)
  zero_put t (Ty-F.Vector x n) e known s r after made into begins =
      let same : ty.Vector x n ≡ t = sym (rolls-Vector x n) ∙ e in
      subst (λ u. HasZeros m whole structs held written u r.0) same (plain_zero (ty.Vector x n) (type_of (x, n)) (λ k z. value-Vector k z x n) known s r after (ap (λ u. value_type u known s) same ∙ made) into)
  zero_put t (Ty-F.Array element n) e known s r after made into begins =
      let same : ty.Array element n ≡ t = sym (rolls-Array element n) ∙ e in
      subst (λ u. HasZeros m whole structs held written u r.0) same
      (zero_told (ty.Array element n) r.0 r.1 begins (array_under_its_id element n known s r after (ap (λ u. value_type u known s) same ∙ made)))
  zero_put t (Ty-F.Runtime element) e known s r after made into begins = not_plain t r.0 (ap is_plain (sym e) ∙ fold-roll-Ty Bool is_plain_kind (Ty-F.Runtime element))
  zero_put t (Ty-F.Struct k) e known s r after made into begins =
      let same : ty.Struct k ≡ t = sym (rolls-Struct k) ∙ e in
      subst (λ u. HasZeros m whole structs held written u r.0) same
      (zero_told (ty.Struct k) r.0 r.1 begins (exact_struct k known s r after (ap (λ u. value_type u known s) same ∙ made)).0)

  -- ---- both

  counted_put : (t : Ty) (layer : Ty-F Ty) → roll-Ty layer ≡ t → (known : Known) (s : Sections) (r : ℕ × Known) (after : Sections) → value_type t known s ≡ Made r after → Extends after whole → Begins r.1 known_all
      → (shape : Shape) → shape_kind layer ≡ Some shape → size_of (lanes_of m r.0) ≡ shape.1
  counted_put t Ty-F.Void e known s r after made into begins shape is = absurd (cc)
  counted_put t (Ty-F.One x) e known s r after made into begins shape is =
      let p = put_aside whole known_all (scalar_type x) (tells_so whole (scalar_tells x) (λ id there. one_said x id (at m held _ (written.globals _ there)))) in
      let so : value_type (ty.One x) known s ≡ Made r after = ap (λ u. value_type u known s) (sym (rolls-One x) ∙ e) ∙ made in
      (p.all known s r after (sym (value-One known s x) ∙ so)).told into begins ∙ size is
    where
      size : Some (x, 1) ≡ Some shape → 1 ≡ shape.1
      size is = let same : (x, 1) ≡ shape = cc in ap (λ (z : Shape). z.1) same
  counted_put t (Ty-F.Vector x n) e known s r after made into begins shape is =
      let p = put_aside whole known_all (type_of (x, n)) (counted_tells x n) in
      let so : value_type (ty.Vector x n) known s ≡ Made r after = ap (λ u. value_type u known s) (sym (rolls-Vector x n) ∙ e) ∙ made in
      (p.all known s r after (sym (value-Vector known s x n) ∙ so)).told into begins ∙ size is
    where
      size : Some (x, n) ≡ Some shape → n ≡ shape.1
      size is = let same : (x, n) ≡ shape = cc in ap (λ (z : Shape). z.1) same
  counted_put t (Ty-F.Array element n) e known s r after made into begins shape is = absurd (cc)
  counted_put t (Ty-F.Runtime element) e known s r after made into begins shape is = absurd (cc)
  counted_put t (Ty-F.Struct k) e known s r after made into begins shape is = absurd (cc)

  pub type_tells : (t : Ty) → AllTellPut whole known_all (value_type t) (IsType t)
  type_tells t = record {
    all = λ known s r after made. record {
      extends = value_adds t known s r after made;
      grows = (finds_itself t).grows known s r after made;
      told = λ into begins. record {
        zero = zero_put t (out-Ty t) (roll-out-Ty t) known s r after made into begins;
        counted = counted_put t (out-Ty t) (roll-out-Ty t) known s r after made into begins;
      };
    };
  }
