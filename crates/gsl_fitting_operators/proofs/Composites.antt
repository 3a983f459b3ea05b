-- Instructions that put vectors together and take components out, where they may stand.
use Rattle.std.proofs.Common.{◌≡◌, ℕ, ◌+◌, ◌<◌, Bool, true, false, cond, ◌||◌, List, [], ◌∷◌, length, map, Some, None, refl, sym, ap, ◌∙◌, subst}
use Rattle.std.specs.Prelude.{◌==◌, nat_lt, sum}
use Rattle.std.specs.List.{AllByRecursion, list_all}
use Rattle.std.proofs.lemmas.Bool.{and_from, eq-eqb, lt-ltb, or_left, or_right}
use Rattle.gsl_instr.specs.Forms.{form_of}
use Rattle.gsl_instr.specs.declared.op.TheConstants as op
use Rattle.gsl_instr.specs.declared.form.Form.TheVariants as form
use Rattle.gsl_instr.specs.declared.instruction.Instruction.TheVariants as instruction
use Rattle.gsl_types.specs.declared.ty.Scalar.{Scalar}
use Rattle.gsl_tree.specs.Shapes.{Shape}
use Rattle.gsl_words.specs.declared.module.Module.{Module}
use Rattle.gsl_valid.specs.Kinds.{shape_of, type_of}
use Rattle.gsl_valid.specs.OperandRules as rules
use Rattle.gsl_valid.specs.Types.{defined_as, is_type}
use Rattle.gsl_spv.specs.Sections.{Sections}
use Rattle.gsl_fitting.specs.Fits.{Frame, is_known}
use Rattle.gsl_fitting_types.specs.Making.{AreSorted, IsScalarType, IsTypeBy, IsTypeOf, IsValue, IsVectorType, Stands, made}
use Rattle.gsl_fitting_operators.proofs.Forms.{known_type, stands_as}
use Rattle.gsl_fitting_types.proofs.Knowing.{lanes_are, one_type, some_is, vector_type_is}

module _ (whole : Sections) (main : ℕ) (local_size : List ℕ) (rank : ℕ → ℕ) (f : Frame) (sorted : AreSorted whole) where
  abbrev m : Module
  m = made whole main local_size rank f

  abbrev Value : List ℕ → Shape → ℕ → Type 0
  Value given shape id = IsValue whole main local_size rank f given shape id

  -- ids stand for scalars and vectors of one scalar type, of so many components each
  pub data AreValues (given : List ℕ) (s : Scalar) : List ℕ → List ℕ → Type 0 where
    none : AreValues given s [] []
    one : {count id : ℕ} {counts ids : List ℕ} → Value given (s, count) id → AreValues given s counts ids → AreValues given s (count ∷ counts) (id ∷ ids)

  -- the component of a type of several
  pub vector_at : (shape : Shape) (type : ℕ) → (shape.1 == 1) ≡ false → IsTypeOf whole shape type → IsVectorType whole shape type
  vector_at shape type several of = subst (λ b. IsTypeBy b whole shape type) several of

  part_scalar : (s : Scalar) (count component type : ℕ) → IsScalarType whole s component → IsTypeOf whole (s, count) type → rules.is_of_scalar m component (Some type) ≡ true
  part_scalar s count component type scalar of = by (count == 1) of
    where
      by : (b : Bool) → IsTypeBy b whole (s, count) type → (type == component || is_type component (rules.component_in (shape_of (defined_as m type)))) ≡ true
      by true is = or_left _ _ (eq-eqb type component (some_is type component (sym is ∙ scalar)))
      by false is =
          or_right (type == component) _
          (ap (λ x. is_type component (rules.component_in x)) (vector_type_is whole main local_size sorted is.component count type is.is) ∙ eq-eqb is.component component (some_is is.component component (sym is.scalar ∙ scalar)))

  parts_scalar : (given : List ℕ) (s : Scalar) (component : ℕ) (counts ids : List ℕ) → IsScalarType whole s component → AreValues given s counts ids → list_all (λ part. rules.is_of_scalar m component (type_of (defined_as m part))) ids ≡ true
  parts_scalar given s component _ _ scalar none = refl
  parts_scalar given s component _ _ scalar (one {count} {id} {counts} {ids} v all) =
      and_from _ _ (ap (rules.is_of_scalar m component) v.typed ∙ part_scalar s count component v.type scalar v.of) (parts_scalar given s component counts ids scalar all)

  parts_sizes : (given : List ℕ) (s : Scalar) (counts ids : List ℕ) → AreValues given s counts ids → map (rules.size_of m) ids ≡ counts
  parts_sizes given s _ _ none = refl
  parts_sizes given s _ _ (one {count} {id} {counts} {ids} v all) =
      let here : rules.size_of m id ≡ count = ap (rules.size_if m) v.typed ∙ ap rules.size_in (lanes_are whole main local_size sorted (s, count) v.type v.of) in
      ap (λ x. x ∷ map (rules.size_of m) ids) here ∙ ap (λ xs. count ∷ xs) (parts_sizes given s counts ids all)

  parts_known : (given : List ℕ) (s : Scalar) (counts ids : List ℕ) → AreValues given s counts ids → AllByRecursion (λ id. is_known m f given id ≡ true) ids
  parts_known given s _ _ none = tt
  parts_known given s _ _ (one {count} {id} {counts} {ids} v all) = (v.known, parts_known given s counts ids all)

  pub construct_stands : (given : List ℕ) (type : ℕ) (shape : Shape) (counts ids : List ℕ) → form_of op.COMPOSITE_CONSTRUCT ≡ Some form.CompositeConstruct → (shape.1 == 1) ≡ false → IsTypeOf whole shape type → AreValues given shape.0 counts ids → sum counts ≡ shape.1
      → Stands whole main local_size rank f given op.COMPOSITE_CONSTRUCT ids type
  construct_stands given type shape counts ids is several of all count =
      let v = vector_at shape type several of in
      stands_as whole main local_size rank f sorted given op.COMPOSITE_CONSTRUCT ids ids type form.CompositeConstruct (λ id. instruction.CompositeConstruct type id ids) is (λ id. refl) (λ id. refl) (λ id. refl) (λ id. refl) (λ id. refl) (λ id. refl)
      (known_type whole main local_size rank f sorted given shape type of, parts_known given shape.0 counts ids all)
      (λ id. ap (rules.is_built m ids) (vector_type_is whole main local_size sorted v.component shape.1 type v.is)
      ∙ and_from _ _ (parts_scalar given shape.0 v.component counts ids v.scalar all) (eq-eqb (sum (map (rules.size_of m) ids)) shape.1 (ap sum (parts_sizes given shape.0 counts ids all) ∙ count))) (λ id. refl) (λ id. refl) (λ id. refl) (λ id. refl)

  pub extract_stands : (given : List ℕ) (type a position : ℕ) (shape : Shape) → form_of op.COMPOSITE_EXTRACT ≡ Some form.CompositeExtract → (shape.1 == 1) ≡ false → position < shape.1 → IsTypeOf whole (shape.0, 1) type → Value given shape a
      → Stands whole main local_size rank f given op.COMPOSITE_EXTRACT (a ∷ position ∷ []) type
  extract_stands given type a position shape is several less of v =
      let x = vector_at shape v.type several v.of in
      stands_as whole main local_size rank f sorted given op.COMPOSITE_EXTRACT (a ∷ position ∷ []) (a ∷ []) type form.CompositeExtract (λ id. instruction.CompositeExtract type id a (position ∷ [])) is (λ id. refl) (λ id. refl) (λ id. refl) (λ id. refl) (λ id. refl) (λ id. refl)
      (known_type whole main local_size rank f sorted given (shape.0, 1) type of, (v.known, tt))
      (λ id. ap (λ t. rules.is_part type (rules.part_within m t (position ∷ []))) v.typed
      ∙ ap (λ s. rules.is_part type (rules.part_within m (rules.part_of_at m position s) [])) (vector_type_is whole main local_size sorted x.component shape.1 v.type x.is)
      ∙ ap (λ b. rules.is_part type (rules.part_within m (cond b (Some x.component) None) [])) (lt-ltb position shape.1 less)
      ∙ eq-eqb x.component type (some_is x.component type (sym x.scalar ∙ of))) (λ id. refl) (λ id. refl) (λ id. refl) (λ id. refl)

  pub shuffle_stands : (given : List ℕ) (type a b : ℕ) (shape from : Shape) (positions : List ℕ) → form_of op.VECTOR_SHUFFLE ≡ Some form.VectorShuffle → (shape.1 == 1) ≡ false → (from.1 == 1) ≡ false → shape.0 ≡ from.0 → length positions ≡ shape.1
      → list_all (λ k. nat_lt k (from.1 + from.1)) positions ≡ true → IsTypeOf whole shape type → Value given from a → Value given from b → Stands whole main local_size rank f given op.VECTOR_SHUFFLE (a ∷ b ∷ positions) type
  shuffle_stands given type a b shape from positions is several others same count within of v w =
      let x = vector_at shape type several of in
      let y = vector_at from v.type others v.of in
      stands_as whole main local_size rank f sorted given op.VECTOR_SHUFFLE (a ∷ b ∷ positions) (a ∷ b ∷ []) type form.VectorShuffle (λ id. instruction.VectorShuffle type id a b positions) is (λ id. refl) (λ id. refl) (λ id. refl) (λ id. refl) (λ id. refl) (λ id. refl)
      (known_type whole main local_size rank f sorted given shape type of, (v.known, (w.known, tt)))
      (λ id. ap (λ t. rules.is_shuffled m type positions t (type_of (defined_as m b))) v.typed ∙ ap (rules.is_shuffled m type positions (Some v.type)) w.typed
      ∙ and_from _ _ (eq-eqb w.type v.type (one_type whole from w.type v.type w.of v.of))
      (ap (λ s. rules.is_shuffled_as m positions s (shape_of (defined_as m v.type))) (vector_type_is whole main local_size sorted x.component shape.1 type x.is)
      ∙ ap (rules.are_shuffled positions x.component shape.1) (vector_type_is whole main local_size sorted y.component from.1 v.type y.is)
      ∙ and_from _ _ (and_from _ _ (eq-eqb y.component x.component (some_is y.component x.component (sym y.scalar ∙ subst (λ s. IsScalarType whole s x.component) same x.scalar))) (eq-eqb (length positions) shape.1 count)) within))
      (λ id. refl) (λ id. refl) (λ id. refl) (λ id. refl)
