-- The types of values, as they are put.
use Rattle.std.proofs.Common.{◌≡◌, refl, sym, ap, ◌∙◌, subst, ℕ, Bool, true, false, ◌&&◌, IsTrue, List, length, replicate, Option, Some, None, if◌then◌else◌, arith, nat_lt, ◌^◌}
use Rattle.std.specs.Prelude.{nat_le, ◌==◌}
use Rattle.std.specs.List.{Contains}
use Rattle.std.proofs.lemmas.Bool.{and_parts, eqb-true, false≢true, leb-true}
use Rattle.gsl_types.specs.Known.{IsSound, sound, sound_kind, is_plain, is_plain_kind}
use Rattle.gsl_types.specs.Structs.{numbered}
use Rattle.gsl_types.specs.declared.ty.Scalar.{Scalar}
use Rattle.gsl_types.specs.declared.ty.Scalar.TheVariants.{Uint}
use Rattle.gsl_types.specs.declared.ty.StructType.{StructType}
use Rattle.gsl_types.specs.declared.ty.Ty.{Ty}
use Rattle.gsl_types.specs.declared.ty.Ty.TheFolds.{fold-roll-Ty, ind-Ty, map-Ty}
use Rattle.gsl_types.specs.declared.ty.Ty.TheOpen.{Ty-F}
use Rattle.gsl_types.specs.declared.ty.Ty.TheViews.{roll-Ty}
use Rattle.gsl_types.specs.declared.ty.Ty.TheVariants as ty
use Rattle.gsl_types.specs.declared.ty.Ty.TheVariants.{rolls-Array, rolls-One, rolls-Runtime, rolls-Struct, rolls-Vector, rolls-Void}
use Rattle.gsl_types.proofs.Layers.{over_array, over_one, over_vector}
use Rattle.gsl_words.specs.declared.module.Module.{Module}
use Rattle.gsl_values.specs.declared.value.Value.TheVariants.{Many, Word}
use Rattle.gsl_tree.specs.Shapes.{Shape}
use Rattle.gsl_tree.specs.Values.{zero_meaning, zero_value}
use Rattle.gsl_machine.specs.Constants.{zeros}
use Rattle.gsl_sound_code.proofs.Looks.{Kept}
use Rattle.gsl_spv.specs.Calls as call
use Rattle.gsl_spv.specs.Calls.{declare}
use Rattle.gsl_spv.specs.Declarations as d
use Rattle.gsl_spv.specs.Declarations.{defining}
use Rattle.gsl_spv.specs.Growing.{Extends}
use Rattle.gsl_spv.specs.Sections.{Sections}
use Rattle.gsl_spv.specs.declared.plain.PlainConst.TheVariants as of
use Rattle.gsl_spv.specs.declared.plain.PlainType.TheVariants as plain
use Rattle.gsl_spv.proofs.Answering.{constant_once, plain_once}
use Rattle.gsl_spv.proofs.Extending.{extends_same, extends_then}
use Rattle.gsl_lower_values.specs.Building.{Step, Made, given, id_by}
use Rattle.gsl_lower_values.specs.Types.{plain_scalar, scalar_constant, scalar_type, type_of, vector_type, word_of_type}
use Rattle.gsl_lower_text.specs.Written.{Written}
use Rattle.gsl_lower_holders.specs.Flow.{find_type}
use Rattle.gsl_lower_types.specs.Known.{Known, Put, aside, id_or_lacking, id_or_put, known_type, once, with_type}
use Rattle.gsl_lower_types.specs.Values.{array_of, arrayed, value_type}
use Rattle.gsl_lower_types.proofs.Adding.{Adds, then_}
use Rattle.gsl_lower_types.proofs.Finding.{came, never}
use Rattle.gsl_lower_types.proofs.Steps.{value-Array, value-One, value-Runtime, value-Struct, value-Vector, value-Void}
use Rattle.gsl_lower_law_opening.proofs.OfLawZeros.{scalar_zero, vector_zero}
use Rattle.gsl_lower_law_outside.proofs.Keeping.{AllTold, HasZeros, Keeps, Told, aside_keeps, asks_add, declared_anew, extends_declare, given_keeps, interned, interns_add, same_after, same_made, there, told_more, told_of}
use Rattle.gsl_lower_law_outside.proofs.Said.{array_plain, array_zero, length_said}

-- ---- scalars and vectors only add

pub scalar_adds : (x : Scalar) → Adds (scalar_type x)
unfolding scalar_type
scalar_adds x = interns_add (d.plain_type (plain_scalar x))

pub shape_adds : (shape : Shape) → Adds (type_of shape)
unfolding type_of
shape_adds shape = then_ (scalar_type shape.0) (λ component. if shape.1 == 1 then given component else vector_type shape.1 component) (scalar_adds shape.0) (λ component. by component (shape.1 == 1))
  where
    by : (component : ℕ) (one : Bool) → Adds (if one then given component else vector_type shape.1 component)
    by component true s id after made = subst (Extends s) (same_after component id s after made) (extends_same s)
    by component false s id after made = interns_add (d.plain_type (plain.Vector component shape.1)) s id after made

word_adds : (n : ℕ) → Adds (scalar_constant Uint n)
unfolding scalar_constant
word_adds n = then_ (scalar_type Uint) (word_of_type n) (scalar_adds Uint) (λ type. interns_add (d.word type n))

array_of_adds : (element count : ℕ) → Adds (array_of element count)
array_of_adds element count = then_ (scalar_constant Uint count) (λ length. id_by (call.array_type element length None)) (word_adds count) (λ length. asks_add (call.array_type element length None) (extends_declare (d.array_type element length)))

-- the constant of a length stands as it is put
record HasLength (n id : ℕ) (after : Sections) : Type 0 where
  type : ℕ
  stands : Contains after.globals (defining (d.word type n) id)

length_put : (n : ℕ) (s : Sections) (id : ℕ) (after : Sections) → scalar_constant Uint n s ≡ Made id after → HasLength n id after
unfolding scalar_constant
length_put n s id after made =
    let c = came (scalar_type Uint s) (word_of_type n) id after made in
    record { type = c.first; stands = interned (d.word c.first n) c.between id after (constant_once (of.Word c.first n) 0) c.then_ }

module _ (m : Module) (whole : Sections) (structs : List StructType) (kept : Kept m) (written : Written m whole) where
  -- A type is put: what is said of known types is kept, and its zeros are those of the type.
  pub record Types (t : Ty) (known : Known) (s : Sections) (r : ℕ × Known) (after : Sections) : Type 0 where
    pub keeps : Keeps m whole structs kept written known s r.1 after
    pub zero : Extends after whole → AllTold m whole structs kept written known → HasZeros m whole structs kept written t r.0

  abbrev pub PutsType : Ty → Put ℕ → Type 0
  PutsType t put = (known : Known) (s : Sections) (r : ℕ × Known) (after : Sections) → put known s ≡ Made r after → Types t known s r after

  by_equation : (t : Ty) (f g : Put ℕ) → ((known : Known) (s : Sections) → f known s ≡ g known s) → PutsType t g → PutsType t f
  by_equation t f g is p known s r after made = p known s r after (sym (is known s) ∙ made)

  -- what is put of a scalar or a vector
  plain_puts : (t : Ty) (step : Step ℕ) → Adds step → ((s : Sections) (id : ℕ) (after : Sections) → step s ≡ Made id after → Extends after whole → HasZeros m whole structs kept written t id) → PutsType t (aside step)
  plain_puts t step adds zero known s r after made =
      let c = came (step s) (λ a. given (a, known)) r after made in
      record {
        keeps = aside_keeps m whole structs kept written step adds known s r after made;
        zero = λ into all. subst (HasZeros m whole structs kept written t) (ap (λ (z : ℕ × Known). z.0) (same_made (c.first, known) r c.between after c.then_))
            (zero s c.first c.between c.made (subst (λ (x : Sections). Extends x whole) (sym (same_after (c.first, known) r c.between after c.then_)) into));
      }

  -- ---- zeros of scalars and vectors

  scalar_is : (x : Scalar) (s : Sections) (id : ℕ) (after : Sections) → scalar_type x s ≡ Made id after → Extends after whole → zeros m id ≡ Word 0
  unfolding scalar_type
  scalar_is x s id after made into = scalar_zero m x id (there m whole structs kept written after _ into (interned (d.plain_type (plain_scalar x)) s id after (plain_once (plain_scalar x)) made))

  vector_is : (x : Scalar) (n : ℕ) (s : Sections) (id : ℕ) (after : Sections) → nat_le 2 n ≡ true → type_of (x, n) s ≡ Made id after → Extends after whole → zeros m id ≡ Many (replicate n (Word 0))
  unfolding type_of
  vector_is x n s id after two made into =
      let c = came (scalar_type x s) (λ component. if n == 1 then given component else vector_type n component) id after made in
      by c.first c.between c.made (n == 1) refl c.then_
    where
      by : (first : ℕ) (between : Sections) → scalar_type x s ≡ Made first between → (b : Bool) → (n == 1) ≡ b → (if b then given first else vector_type n first) between ≡ Made id after → zeros m id ≡ Many (replicate n (Word 0))
      by first between scalar true one made = absurd (let e = eqb-true n 1 one in let l = leb-true 2 n two in omega (arith, e, l))
      by first between scalar false one made =
          let grows = interns_add (d.plain_type (plain.Vector first n)) between id after made in
          vector_zero m first n id (there m whole structs kept written after _ into (interned (d.plain_type (plain.Vector first n)) between id after (plain_once (plain.Vector first n)) made))
          ∙ ap (λ v. Many (replicate n v)) (scalar_is x s first between scalar (extends_then grows into))

  -- ---- arrays

  -- an array is put whose element is
  array_put : (e : Ty) (n element : ℕ) (s : Sections) (id : ℕ) (after : Sections) → array_of element n s ≡ Made id after → Extends after whole
      → ((IsSound (length structs) e → IsTrue (is_plain e) → zeros m element ≡ zero_value structs e) → Told m whole structs kept written (ty.Array e n, id))
  array_put e n element s id after made into zero =
      let c = came (scalar_constant Uint n s) (λ length. id_by (call.array_type element length None)) id after made in
      let l = length_put n s c.first c.between c.made in
      let grows = asks_add (call.array_type element c.first None) (extends_declare (d.array_type element c.first)) c.between id after c.then_ in
      let stands = there m whole structs kept written after _ into (declared_anew (d.array_type element c.first) c.between id after c.then_) in
      let long = length_said m l.type n c.first (there m whole structs kept written c.between _ (extends_then grows into) l.stands) in (
        λ sounds plains.
            array_zero m element c.first id n stands long
            ∙ ap (λ v. Many (replicate n v)) (zero (and_parts (nat_le 1 n && nat_lt n (2 ^ 32)) (sound (length structs) e) (subst IsTrue (sound_array_is e n) sounds)).1 (subst IsTrue (plain_array_is e n) plains))
            ∙ sym (over_array zero_meaning (numbered zero_meaning structs) e n),
        array_plain m element c.first id stands,
      )
    where
      sound_array_is : (e : Ty) (n : ℕ) → sound (length structs) (ty.Array e n) ≡ ((nat_le 1 n && nat_lt n (2 ^ 32)) && sound (length structs) e)
      sound_array_is e n = ap (sound (length structs)) (sym (rolls-Array e n)) ∙ fold-roll-Ty Bool (sound_kind (length structs)) (Ty-F.Array e n)

      plain_array_is : (e : Ty) (n : ℕ) → is_plain (ty.Array e n) ≡ is_plain e
      plain_array_is e n = ap is_plain (sym (rolls-Array e n)) ∙ fold-roll-Ty Bool is_plain_kind (Ty-F.Array e n)

  once_puts : (e : Ty) (n : ℕ) → PutsType e (value_type e) → PutsType (ty.Array e n) (once (ty.Array e n) (arrayed (value_type e) n))
  once_puts e n p known s r after = by (find_type (ty.Array e n) known) refl
    where
      by : (o : Option ℕ) → find_type (ty.Array e n) known ≡ o → id_or_put o (ty.Array e n) (arrayed (value_type e) n) known s ≡ Made r after → Types (ty.Array e n) known s r after
      by (Some id) found made = record {
        keeps = given_keeps m whole structs kept written id known s r after made;
        zero = λ into all. subst (HasZeros m whole structs kept written (ty.Array e n)) (ap (λ (z : ℕ × Known). z.0) (same_made (id, known) r s after made)) (told_of m whole structs kept written (ty.Array e n) id known found all).0;
      }
      by None found made =
          let c = came (arrayed (value_type e) n known s) (λ r. given (r.0, with_type (ty.Array e n) r.0 r.1)) r after made in
          let x = came (value_type e known s) (λ e. aside (array_of e.0 n) e.1) c.first c.between c.made in
          let y = came (array_of x.first.0 n x.between) (λ a. given (a, x.first.1)) c.first c.between x.then_ in
          let first = p known s x.first x.between x.made in
          let grows = array_of_adds x.first.0 n x.between y.first y.between y.made in
          let last = same_after (y.first, x.first.1) c.first y.between c.between y.then_ ∙ same_after (c.first.0, with_type (ty.Array e n) c.first.0 c.first.1) r c.between after c.then_ in
          let given_is : (y.first, x.first.1) ≡ c.first = same_made (y.first, x.first.1) c.first y.between c.between y.then_ in
          let r_is : (c.first.0, with_type (ty.Array e n) c.first.0 c.first.1) ≡ r = same_made (c.first.0, with_type (ty.Array e n) c.first.0 c.first.1) r c.between after c.then_ in
          ends y.first x.first.1 x.first.0 x.between y.between first grows last y.made (ap (λ (z : ℕ × Known). (z.0, with_type (ty.Array e n) z.0 z.1)) given_is ∙ r_is)
        where
          ends : (id : ℕ) (more : Known) (element : ℕ) (one two : Sections) → Types e known s (element, more) one → Extends one two → two ≡ after → array_of element n one ≡ Made id two → (id, with_type (ty.Array e n) id more) ≡ r → Types (ty.Array e n) known s r after
          ends id more element one two first grows same made is =
              subst (λ (z : ℕ × Known). Types (ty.Array e n) known s z after) is (subst (λ (x : Sections). Types (ty.Array e n) known s (id, with_type (ty.Array e n) id more) x) same (record {
                keeps = record {
                  extends = extends_then first.keeps.extends grows;
                  all = λ into all. told_more m whole structs kept written (ty.Array e n) id more (first.keeps.all (extends_then grows into) all) (array_put e n element one id two made into (first.zero (extends_then grows into) all));
                };
                zero = λ into all. (array_put e n element one id two made into (first.zero (extends_then grows into) all)).0;
              }))

  -- ---- every type

  abbrev Is : Ty → Type 0
  Is t = PutsType t (value_type t)

  no_zeros : (t : Ty) (id : ℕ) → is_plain t ≡ false → HasZeros m whole structs kept written t id
  no_zeros t id is sounds plains = absurd (false≢true (sym is ∙ plains))

  by_layer : (y : Ty-F ((t : Ty) × Is t)) → Is (roll-Ty (map-Ty _ _ (λ e. e.0) y))
  by_layer Ty-F.Void =
      subst Is (sym rolls-Void) (by_equation ty.Void (value_type ty.Void) (aside (id_by (call.plain_type plain.Void))) (λ known s. value-Void known s)
      (plain_puts ty.Void (id_by (call.plain_type plain.Void)) (interns_add (d.plain_type plain.Void)) (λ s id after made into. no_zeros ty.Void id (ap is_plain (sym rolls-Void) ∙ fold-roll-Ty Bool is_plain_kind Ty-F.Void))))
  by_layer (Ty-F.One x) =
      subst Is (sym (rolls-One x)) (by_equation (ty.One x) (value_type (ty.One x)) (aside (scalar_type x)) (λ known s. value-One known s x)
      (plain_puts (ty.One x) (scalar_type x) (scalar_adds x) (λ s id after made into sounds plains. scalar_is x s id after made into ∙ sym (over_one zero_meaning (numbered zero_meaning structs) x))))
  by_layer (Ty-F.Vector x n) =
      subst Is (sym (rolls-Vector x n)) (by_equation (ty.Vector x n) (value_type (ty.Vector x n)) (aside (type_of (x, n))) (λ known s. value-Vector known s x n)
      (plain_puts (ty.Vector x n) (type_of (x, n)) (shape_adds (x, n)) (λ s id after made into sounds plains. vector_is x n s id after (two n sounds) made into ∙ sym (over_vector zero_meaning (numbered zero_meaning structs) x n))))
    where
      two : (n : ℕ) → IsSound (length structs) (ty.Vector x n) → nat_le 2 n ≡ true
      two n sounds = (and_parts (nat_le 2 n) (nat_le n 4) (sym (ap (sound (length structs)) (sym (rolls-Vector x n)) ∙ fold-roll-Ty Bool (sound_kind (length structs)) (Ty-F.Vector x n)) ∙ sounds)).0
  by_layer (Ty-F.Array e n) =
      subst Is (sym (rolls-Array e.0 n)) (by_equation (ty.Array e.0 n) (value_type (ty.Array e.0 n)) (once (ty.Array e.0 n) (arrayed (value_type e.0) n)) (λ known s. value-Array known s e.0 n) (once_puts e.0 n e.1))
  by_layer (Ty-F.Runtime e) =
      subst Is (sym (rolls-Runtime e.0)) (by_equation (ty.Runtime e.0) (value_type (ty.Runtime e.0)) (value_type e.0) (λ known s. value-Runtime known s e.0)
      (λ known s r after made. record { keeps = (e.1 known s r after made).keeps; zero = λ into all. no_zeros (ty.Runtime e.0) r.0 (ap is_plain (sym (rolls-Runtime e.0)) ∙ fold-roll-Ty Bool is_plain_kind (Ty-F.Runtime e.0)) }))
  by_layer (Ty-F.Struct k) =
      subst Is (sym (rolls-Struct k)) (by_equation (ty.Struct k) (value_type (ty.Struct k)) (known_type (ty.Struct k)) (λ known s. value-Struct known s k)
      (λ known s r after. by known s r after (find_type (ty.Struct k) known) refl))
    where
      by : (known : Known) (s : Sections) (r : ℕ × Known) (after : Sections) (o : Option ℕ) → find_type (ty.Struct k) known ≡ o → id_or_lacking o known s ≡ Made r after → Types (ty.Struct k) known s r after
      by known s r after None found made = never r after made
      by known s r after (Some id) found made = record {
        keeps = given_keeps m whole structs kept written id known s r after made;
        zero = λ into all. subst (HasZeros m whole structs kept written (ty.Struct k)) (ap (λ (z : ℕ × Known). z.0) (same_made (id, known) r s after made)) (told_of m whole structs kept written (ty.Struct k) id known found all).0;
      }

  pub type_put : (t : Ty) → PutsType t (value_type t)
  type_put = ind-Ty Is (λ x y is. subst (λ z. Is (roll-Ty z)) is (by_layer y))
