-- What sorted sections say of the ids of the module that is made of them.
use Rattle.std.proofs.Common.{◌≡◌, ℕ, ◌+◌, ◌<◌, Bool, true, false, ◌||◌, List, [], ◌∷◌, ◌++◌, length, Some, refl, sym, ap, ◌∙◌, subst, inl, inr, zero, suc, arith}
use Rattle.std.specs.Prelude.{◌==◌}
use Rattle.std.specs.List.{AllByRecursion, Contains}
use Rattle.std.proofs.lemmas.Bool.{cond-false, eqb-true, or_left, or_right, true≢false}
use Rattle.std.proofs.lemmas.List.Elements.{Contains-append_left}
use Rattle.gsl_instr.specs.Forms.{form_of}
use Rattle.gsl_types.specs.declared.ty.Scalar.{Scalar}
use Rattle.gsl_types.specs.declared.ty.Scalar.TheVariants.{Bool as Boolean, Int, Uint}
use Rattle.gsl_tree.specs.Shapes.{Shape}
use Rattle.gsl_words.specs.declared.module.Instr.{Instr}
use Rattle.gsl_words.specs.declared.module.Module.{Module}
use Rattle.gsl_valid.specs.EntryRules.{is_among}
use Rattle.gsl_valid.specs.Ids.{defined, defines, result}
use Rattle.gsl_valid.specs.IdsDefinedOnce.{defines_once}
use Rattle.gsl_valid.specs.Instruction.{read}
use Rattle.gsl_valid.specs.Kinds.{OfBool, OfInt, OfVector, Shape as TypeShape, kind, shape_of}
use Rattle.gsl_valid.specs.Placed.{Code}
use Rattle.gsl_valid.specs.Search.{Passes, passed}
use Rattle.gsl_valid.specs.Types.{Scalar as Component, Truths, Words, before_functions, defined_as, lanes_of, lanes_with, outside_of, scalar_in}
use Rattle.gsl_valid.proofs.Lookups.{Has, definition_is, has_behind, has_defined, has_left, has_right}
use Rattle.gsl_spv.specs.Calls.{importing, imports_of, intern, known}
use Rattle.gsl_spv.specs.Declarations as d
use Rattle.gsl_spv.specs.Declarations.{Declaration, defining}
use Rattle.gsl_spv.specs.Finished.{module_of}
use Rattle.gsl_spv.specs.Growing.{Extends}
use Rattle.gsl_spv.specs.Once.{IsOnce, id_of, interface_of}
use Rattle.gsl_spv.specs.Sections.{Sections}
use Rattle.gsl_spv.specs.declared.plain.PlainType.TheVariants as plain
use Rattle.gsl_spv.proofs.Answering.{plain_once}
use Rattle.gsl_spv.proofs.Defining.{interned_stands}
use Rattle.gsl_spv.proofs.Lasting.{ids_last}
use Rattle.gsl_lower_values.specs.Types.{plain_scalar}
use Rattle.gsl_fitting.specs.Fits.{Frame, is_known}
use Rattle.gsl_fitting_code.specs.Kept.{is_outer}
use Rattle.gsl_fitting_code.proofs.Fronts.{outer_no_function}
use Rattle.gsl_fitting_sections.proofs.Heads.{head_outer}
use Rattle.gsl_fitting_sections.proofs.Once.{once_kept}
use Rattle.gsl_fitting_sections.proofs.Outside.{declares_outer}
use Rattle.gsl_fitting_sections.proofs.Parts.{front, head, parts_are}
use Rattle.gsl_fitting_sections.proofs.Whole.{all_append}
use Rattle.gsl_fitting_types.proofs.Anew.{never_zero}
use Rattle.gsl_fitting_types.specs.Making.{AreSorted, IsConstant, IsScalarType, IsTypeBy, IsTypeOf}

-- ---- lists

has_at : (code : Code) (i : Instr) → Contains code i → Has code i
has_at [] i (k, less, is) = absurd (let z : k < 0 = less in omega (arith, z))
has_at (j ∷ code) i (zero, less, is) = inl is
has_at (j ∷ code) i (suc k, less, is) = inr (has_at code i (k, (let z : suc k < suc (length code) = less in omega (arith, z)), is))

-- what stands among some declarations is defined behind them
pub defined_at : (code : Code) (i : Instr) (id : ℕ) → Contains code i → result (read i) ≡ Some id → defined (passed [] code) id ≡ true
defined_at code i id there named = has_behind [] code i id (has_at code i there) named

all_map : {P Q : Instr → Type 0} → ((i : Instr) → P i → Q i) → (code : Code) → AllByRecursion P code → AllByRecursion Q code
all_map f [] all = tt
all_map f (i ∷ code) all = (f i all.0, all_map f code all.1)

abbrev IsOuter : Instr → Type 0
IsOuter i = is_outer (kind (read i)) ≡ true

outer_front : (front rest : Code) (id : ℕ) → AllByRecursion IsOuter front → defined front id ≡ true → defined (before_functions (front ++ rest)) id ≡ true
outer_front [] rest id all h = absurd (true≢false (sym h))
outer_front (i ∷ code) rest id all h =
    ap (λ c. defined c id) (cond-false _ _ _ (outer_no_function (kind (read i)) all.0)) ∙ by (defines i id) (outer_front code rest id all.1) h
  where
    by : (b : Bool) → (defined code id ≡ true → defined (before_functions (code ++ rest)) id ≡ true) → (b || defined code id) ≡ true → (b || defined (before_functions (code ++ rest)) id) ≡ true
    by true more h = refl
    by false more h = more h

-- ---- sections

-- what is found stands there
pub found_stands : (dec : Declaration) (s : Sections) (id : ℕ) → IsOnce dec → id_of dec s.globals ≡ Some id → Contains s.globals (defining dec id)
unfolding intern
found_stands dec s id once found = subst (λ o. Contains (known o dec s).sections.globals (defining dec (known o dec s).id)) found (interned_stands dec s once)

pub contains_later : (a b : Sections) (i : Instr) → Extends a b → Contains a.globals i → Contains b.globals i
contains_later a b i extends there = subst (λ l. Contains l i) (sym extends.globals.is) (Contains-append_left a.globals extends.globals.more i there)

pub type_later : (a b : Sections) (shape : Shape) (id : ℕ) → Extends a b → IsTypeOf a shape id → IsTypeOf b shape id
type_later a b shape id extends is = by (shape.1 == 1) is
  where
    by : (one : Bool) → IsTypeBy one a shape id → IsTypeBy one b shape id
    by true is = ids_last a b (d.plain_type (plain_scalar shape.0)) id extends is
    by false is = record {
      component = is.component;
      scalar = ids_last a b (d.plain_type (plain_scalar shape.0)) is.component extends is.scalar;
      is = ids_last a b (d.plain_type (plain.Vector is.component shape.1)) id extends is.is;
    }

pub constant_later : (a b : Sections) (shape : Shape) (id : ℕ) → Extends a b → IsConstant a shape id → IsConstant b shape id
constant_later a b shape id extends is = record {
  type = is.type;
  of = type_later a b shape is.type extends is.of;
  i = is.i;
  stands = contains_later a b is.i extends is.stands;
  named = is.named;
  fixed = is.fixed;
  typed = is.typed;
}

pub some_is : {A : Type 0} (x y : A) → Some x ≡ Some y → x ≡ y
some_is x y e = cc

-- a shape has one type
pub one_type : (s : Sections) (shape : Shape) (a b : ℕ) → IsTypeOf s shape a → IsTypeOf s shape b → a ≡ b
one_type s shape a b first second = by (shape.1 == 1) first second
  where
    by : (one : Bool) → IsTypeBy one s shape a → IsTypeBy one s shape b → a ≡ b
    by true x y = some_is a b (sym x ∙ y)
    by false x y = some_is a b (sym x.is ∙ ap (λ c. id_of (d.plain_type (plain.Vector c shape.1)) s.globals) (some_is x.component y.component (sym x.scalar ∙ y.scalar)) ∙ y.is)

-- what a scalar type is
abbrev pub scalar_shape : Scalar → TypeShape
scalar_shape Boolean = OfBool
scalar_shape Int = OfInt 1
scalar_shape Uint = OfInt 0

abbrev pub component_of : Scalar → Component
component_of Boolean = Truths
component_of Int = Words 1
component_of Uint = Words 0

scalar_is : (s : Scalar) → scalar_in (scalar_shape s) ≡ Some (component_of s)
scalar_is Boolean = refl
scalar_is Int = refl
scalar_is Uint = refl

pub scalar_named : (s : Scalar) (id : ℕ) → (result (read (defining (d.plain_type (plain_scalar s)) id)) ≡ Some id) × (shape_of (read (defining (d.plain_type (plain_scalar s)) id)) ≡ scalar_shape s)
unfolding form_of
scalar_named Boolean id = (refl, refl)
scalar_named Int id = (refl, refl)
scalar_named Uint id = (refl, refl)

-- ---- the module

module _ (whole : Sections) (main : ℕ) (local_size : List ℕ) (sorted : AreSorted whole) where
  abbrev m : Module
  m = module_of whole main local_size

  all_once : Passes (defines_once (whole.last + 1)) [] m.instrs
  all_once = once_kept whole main local_size sorted.set sorted.imports sorted.apart

  global_has : (i : Instr) → Contains whole.globals i → Has m.instrs i
  global_has i there =
      subst (λ code. Has code i) (sym (parts_are whole main local_size sorted.set sorted.imports))
      (has_left (front whole main local_size sorted.set) whole.functions i (has_right (head whole main local_size sorted.set ++ whole.names ++ whole.decorations) whole.globals i (has_at whole.globals i there)))

  -- what a builder has declared defines nothing as 0
  pub has_in : (before : Sections) (j : Instr) → Extends before whole → Has before.globals j → result (read j) ≡ Some 0 → ⊥
  has_in before j inside has none =
      never_zero (whole.last + 1) [] m.instrs j all_once
      (subst (λ code. Has code j) (sym (parts_are whole main local_size sorted.set sorted.imports))
      (has_left (front whole main local_size sorted.set) whole.functions j
      (has_right (head whole main local_size sorted.set ++ whole.names ++ whole.decorations) whole.globals j (subst (λ code. Has code j) (sym inside.globals.is) (has_left before.globals inside.globals.more j has))))) none

  -- what is declared, is so in the module
  pub global_is : (i : Instr) (id : ℕ) → Contains whole.globals i → result (read i) ≡ Some id → defined_as m id ≡ read i
  global_is i id there named = definition_is (whole.last + 1) [] m.instrs i id all_once (global_has i there) named

  -- and so is what is put
  pub put_is : (i : Instr) (id : ℕ) → Contains whole.functions i → result (read i) ≡ Some id → defined_as m id ≡ read i
  put_is i id there named =
      definition_is (whole.last + 1) [] m.instrs i id all_once
      (subst (λ code. Has code i) (sym (parts_are whole main local_size sorted.set sorted.imports)) (has_right (front whole main local_size sorted.set) whole.functions i (has_at whole.functions i there))) named

  front_outer : AllByRecursion IsOuter (front whole main local_size sorted.set)
  front_outer =
      let top = head whole main local_size sorted.set in
      all_append IsOuter (top ++ whole.names ++ whole.decorations) whole.globals
      (all_append IsOuter (top ++ whole.names) whole.decorations
      (all_append IsOuter top whole.names (head_outer main local_size sorted.set whole.stage (interface_of whole.globals)) (all_map {Q = IsOuter} (λ i e. ap is_outer e) whole.names sorted.names))
      (all_map {Q = IsOuter} (λ i e. ap is_outer e.1) whole.decorations sorted.decorations))
      (all_map {Q = IsOuter} (λ i e. declares_outer (kind (read i)) e) whole.globals sorted.globals)

  -- what is declared stands outside functions
  pub global_outside : (i : Instr) (id : ℕ) → Contains whole.globals i → result (read i) ≡ Some id → defined (outside_of m) id ≡ true
  global_outside i id there named =
      ap (λ code. defined (before_functions code) id) (parts_are whole main local_size sorted.set sorted.imports)
      ∙ outer_front (front whole main local_size sorted.set) whole.functions id front_outer
      (has_defined (front whole main local_size sorted.set) i id (has_right (head whole main local_size sorted.set ++ whole.names ++ whole.decorations) whole.globals i (has_at whole.globals i there)) named)

  -- the import of the set of extended instructions
  import_has : (set : ℕ) → whole.imports ≡ imports_of (Some set) → Has (front whole main local_size (Some set)) (importing set)
  import_has set is =
      let top = head whole main local_size (Some set) in
      has_left (top ++ whole.names ++ whole.decorations) whole.globals (importing set) (has_left (top ++ whole.names) whole.decorations (importing set) (has_left top whole.names (importing set) (inr (inl refl))))

  pub import_is : (set : ℕ) → whole.imports ≡ imports_of (Some set) → defined_as m set ≡ read (importing set)
  unfolding form_of
  import_is set is =
      definition_is (whole.last + 1) [] m.instrs (importing set) set all_once
      (subst (λ code. Has code (importing set)) (sym (parts_are whole main local_size (Some set) is)) (has_left (front whole main local_size (Some set)) whole.functions (importing set) (import_has set is))) refl

  pub import_outside : (set : ℕ) → whole.imports ≡ imports_of (Some set) → defined (outside_of m) set ≡ true
  unfolding form_of
  import_outside set is =
      ap (λ code. defined (before_functions code) set) (parts_are whole main local_size (Some set) is)
      ∙ outer_front (front whole main local_size (Some set)) whole.functions set
      (all_append IsOuter (head whole main local_size (Some set) ++ whole.names ++ whole.decorations) whole.globals
      (all_append IsOuter (head whole main local_size (Some set) ++ whole.names) whole.decorations
      (all_append IsOuter (head whole main local_size (Some set)) whole.names (head_outer main local_size (Some set) whole.stage (interface_of whole.globals)) (all_map {Q = IsOuter} (λ i e. ap is_outer e) whole.names sorted.names))
      (all_map {Q = IsOuter} (λ i e. ap is_outer e.1) whole.decorations sorted.decorations))
      (all_map {Q = IsOuter} (λ i e. declares_outer (kind (read i)) e) whole.globals sorted.globals))
      (has_defined (front whole main local_size (Some set)) (importing set) set (import_has set is) refl)

  -- ---- types

  scalar_stands : (s : Scalar) (id : ℕ) → IsScalarType whole s id → Contains whole.globals (defining (d.plain_type (plain_scalar s)) id)
  scalar_stands s id is = found_stands (d.plain_type (plain_scalar s)) whole id (plain_once (plain_scalar s)) is

  pub scalar_type_is : (s : Scalar) (id : ℕ) → IsScalarType whole s id → shape_of (defined_as m id) ≡ scalar_shape s
  scalar_type_is s id is =
      ap shape_of (global_is (defining (d.plain_type (plain_scalar s)) id) id (scalar_stands s id is) (scalar_named s id).0) ∙ (scalar_named s id).1

  pub scalar_outside : (s : Scalar) (id : ℕ) → IsScalarType whole s id → defined (outside_of m) id ≡ true
  scalar_outside s id is = global_outside (defining (d.plain_type (plain_scalar s)) id) id (scalar_stands s id is) (scalar_named s id).0

  pub vector_type_is : (component count id : ℕ) → id_of (d.plain_type (plain.Vector component count)) whole.globals ≡ Some id → shape_of (defined_as m id) ≡ OfVector component count
  unfolding form_of
  vector_type_is component count id is =
      ap shape_of (global_is (defining (d.plain_type (plain.Vector component count)) id) id (found_stands (d.plain_type (plain.Vector component count)) whole id (plain_once (plain.Vector component count)) is) refl)

  pub vector_outside : (component count id : ℕ) → id_of (d.plain_type (plain.Vector component count)) whole.globals ≡ Some id → defined (outside_of m) id ≡ true
  unfolding form_of
  vector_outside component count id is =
      global_outside (defining (d.plain_type (plain.Vector component count)) id) id (found_stands (d.plain_type (plain.Vector component count)) whole id (plain_once (plain.Vector component count)) is) refl

  -- the components of a type
  pub lanes_are : (shape : Shape) (id : ℕ) → IsTypeOf whole shape id → lanes_of m id ≡ Some (record { scalar = component_of shape.0; size = shape.1 })
  lanes_are shape id is = by (shape.1 == 1) refl is
    where
      one : (s : Scalar) → shape_of (defined_as m id) ≡ scalar_shape s → lanes_of m id ≡ Some (record { scalar = component_of s; size = 1 })
      one Boolean e = rw (e) refl
      one Int e = rw (e) refl
      one Uint e = rw (e) refl

      by : (b : Bool) → (shape.1 == 1) ≡ b → IsTypeBy b whole shape id → lanes_of m id ≡ Some (record { scalar = component_of shape.0; size = shape.1 })
      by true e is = one shape.0 (scalar_type_is shape.0 id is) ∙ ap (λ n. Some (record { scalar = component_of shape.0; size = n })) (sym (eqb-true shape.1 1 e))
      by false e is =
          rw (vector_type_is is.component shape.1 id is.is)
          (ap (lanes_with shape.1) (ap scalar_in (scalar_type_is shape.0 is.component is.scalar) ∙ scalar_is shape.0))

  pub type_outside : (shape : Shape) (id : ℕ) → IsTypeOf whole shape id → defined (outside_of m) id ≡ true
  type_outside shape id is = by (shape.1 == 1) is
    where
      by : (b : Bool) → IsTypeBy b whole shape id → defined (outside_of m) id ≡ true
      by true is = scalar_outside shape.0 id is
      by false is = vector_outside is.component shape.1 id is.is

  -- ---- what a block may use

  module _ (f : Frame) where
    pub outside_known : (given : List ℕ) (id : ℕ) → defined (outside_of m) id ≡ true → is_known m f given id ≡ true
    outside_known given id h = or_right (is_among given id || is_among f.own id) _ h

    pub known_wider : (given now : List ℕ) (id : ℕ) → ((id : ℕ) → is_among given id ≡ true → is_among now id ≡ true) → is_known m f given id ≡ true → is_known m f now id ≡ true
    known_wider given now id wider h = by (is_among given id) refl h
      where
        by : (b : Bool) → is_among given id ≡ b → ((b || is_among f.own id) || defined (outside_of m) id) ≡ true → is_known m f now id ≡ true
        by true e h = or_left _ _ (or_left _ _ (wider id e))
        by false e h = still (is_among now id) h
          where
            still : (c : Bool) → (is_among f.own id || defined (outside_of m) id) ≡ true → ((c || is_among f.own id) || defined (outside_of m) id) ≡ true
            still true h = refl
            still false h = h

    pub first_known : (given : List ℕ) (id : ℕ) → is_known m f (id ∷ given) id ≡ true
    first_known given id = or_left _ _ (or_left _ _ (or_left _ _ (eq_self id)))
      where
        eq_self : (n : ℕ) → (n == n) ≡ true
        eq_self n = grind arith
