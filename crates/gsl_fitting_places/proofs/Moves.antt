-- Loads and stores.
use Rattle.std.proofs.Common.{◌≡◌, ℕ, ◌+◌, Bool, true, false, cond, ◌&&◌, ◌||◌, not, List, [], ◌∷◌, Option, Some, None, refl, sym, ap, ◌∙◌, ◌⊎◌, inl, inr, subst, arith}
use Rattle.std.specs.Prelude.{◌==◌}
use Rattle.std.specs.List.{list_any}
use Rattle.std.specs.Option.{option_map}
use Rattle.std.proofs.lemmas.Bool.{and_from, eq-eqb, eqb-true, not_from_false, true≢false}
use Rattle.gsl_instr.specs.Forms.{form_of}
use Rattle.gsl_instr.specs.Instructions.{read_as}
use Rattle.gsl_instr.specs.declared.op.TheConstants as op
use Rattle.gsl_instr.specs.declared.enumerant.decoration.TheConstants as decoration
use Rattle.gsl_instr.specs.declared.enumerant.storage_class.TheConstants as storage_class
use Rattle.gsl_instr.specs.declared.form.Form.TheVariants as form
use Rattle.gsl_instr.specs.declared.instruction.Instruction.TheVariants as instruction
use Rattle.gsl_types.specs.declared.ty.Scalar.{Scalar}
use Rattle.gsl_types.specs.declared.ty.Scalar.TheVariants.{Bool as Boolean, Int, Uint}
use Rattle.gsl_tree.specs.Shapes.{Shape, is_integer}
use Rattle.gsl_words.specs.declared.module.Instr.{Instr}
use Rattle.gsl_words.specs.declared.module.Module.{Module}
use Rattle.gsl_valid.specs.ConstantRules.{has_runtime}
use Rattle.gsl_valid.specs.Ids.{defines, is_id, result}
use Rattle.gsl_valid.specs.IdsDefinedOnce.{defines_once}
use Rattle.gsl_valid.specs.Instruction.{read}
use Rattle.gsl_valid.specs.Kinds.{Shape as TypeShape, OfBool, OfInt, OfVector, kind, shape_of}
use Rattle.gsl_valid.specs.MemoryRules.{is_moved, is_writable, leads_through, may_load, may_store}
use Rattle.gsl_valid.specs.Placed.{Code}
use Rattle.gsl_valid.specs.Search.{Passes, passed, whole as all_passed}
use Rattle.gsl_valid.specs.Types.{defined_as, has_in, has_type, is_ints, is_runtime, is_runtime_shape, parts_in, parts_of}
use Rattle.gsl_valid.proofs.Lookups.{Has, definition_is}
use Rattle.gsl_spv.specs.Declarations.{instr}
use Rattle.gsl_spv.specs.Growing.{Extends}
use Rattle.gsl_spv.specs.Sections.{Sections}
use Rattle.gsl_spv.proofs.Extending.{extends_then}
use Rattle.gsl_lower_law.proofs.Adding.{extends_put}
use Rattle.gsl_lower_values.specs.Building.{Built, Step, behind, giving, putting}
use Rattle.gsl_lower_values.specs.Constructors.{operand}
use Rattle.gsl_lower_values.specs.Operators.{converted}
use Rattle.gsl_lower_values.specs.Types as types
use Rattle.gsl_lower_places.specs.Reached.{is_block_class, stored_scalar, stored_shape}
use Rattle.gsl_lower_places.specs.Reading.{loaded, pointer}
use Rattle.gsl_lower_places.specs.Writing.{in_class, put_at}
use Rattle.gsl_lower_places.specs.declared.reached.Part.{Part}
use Rattle.gsl_fitting.specs.Fits.{Frame, is_known, works}
use Rattle.gsl_fitting_sections.proofs.Once.{once_kept}
use Rattle.gsl_fitting_steps.specs.Keeping.{Works}
use Rattle.gsl_fitting_steps.proofs.Giving.{putting_keeps}
use Rattle.gsl_fitting_types.specs.Making.{AreSorted, Comes, IsSized, IsTypeBy, IsTypeOf, Sorts, Stands, made}
use Rattle.gsl_fitting_types.proofs.Knowing.{one_type, scalar_shape, scalar_type_is, type_later, vector_type_is}
use Rattle.gsl_fitting_types.proofs.Sorting.{giving_sorts, putting_sorts, sorts_then}
use Rattle.gsl_fitting_types.proofs.Stepping.{Wider, comes_then, giving_comes, sits_read}
use Rattle.gsl_fitting_types.proofs.Types.{type_comes, type_sorts}
use Rattle.gsl_fitting_operators.proofs.Forms.{ints, known_type, same_type, stands_as}
use Rattle.gsl_fitting_operators.proofs.Operators.{Gives, Value, converted_fits, converted_sorts, value_later}
use Rattle.gsl_fitting_places.specs.Leading.{IsLed, IsPointer, Leads, Nothing, is_buffered, is_marked, may_change}
use Rattle.gsl_fitting_places.proofs.Chains.{held_type, leads_later, pointer_comes, pointer_sorts}
use Rattle.gsl_fitting_places.proofs.Ways.{At, stored_count}

-- ---- the steps, part by part

-- what is loaded through a pointer, as a value
abbrev pub load_from : ℕ → Shape → ℕ → ℕ → Step ℕ
load_from class shape type from s = behind (giving op.LOAD (from ∷ []) type s) (λ v. converted shape.0 (operand (stored_shape class shape) v))

abbrev pub load_by : ℕ → ℕ → Shape → List Part → ℕ → Step ℕ
load_by id class shape parts type s = behind (pointer id class type parts s) (load_from class shape type)

-- a word is stored through a pointer
abbrev pub store_by : ℕ → ℕ → List Part → ℕ → ℕ → Step (Unit {0})
store_by id class parts word type s = behind (pointer id class type parts s) (λ to. putting op.STORE (to ∷ word ∷ []))

abbrev pub store_word : ℕ → ℕ → Shape → List Part → ℕ → Step (Unit {0})
store_word id class shape parts word s = behind (types.type_of (stored_shape class shape) s) (store_by id class parts word)

-- ---- they sort

load_from_sorts : (class : ℕ) (shape : Shape) (type from : ℕ) (s : Sections) → Sorts s (load_from class shape type from s)
unfolding form_of
load_from_sorts class shape type from s =
    sorts_then s (giving op.LOAD (from ∷ []) type s) (λ v. converted shape.0 (operand (stored_shape class shape) v)) (giving_sorts op.LOAD (from ∷ []) type s (λ id. refl)) (λ v t. converted_sorts shape.0 (operand (stored_shape class shape) v) t)

load_by_sorts : (id class : ℕ) (shape : Shape) (parts : List Part) (type : ℕ) (s : Sections) → Sorts s (load_by id class shape parts type s)
load_by_sorts id class shape parts type s = sorts_then s (pointer id class type parts s) (load_from class shape type) (pointer_sorts id class type parts s) (λ from t. load_from_sorts class shape type from t)

pub loaded_sorts : (id class : ℕ) (shape : Shape) (parts : List Part) (s : Sections) → Sorts s (loaded id class shape parts s)
unfolding loaded
loaded_sorts id class shape parts s = sorts_then s (types.type_of (stored_shape class shape) s) (load_by id class shape parts) (type_sorts (stored_shape class shape) s) (λ type t. load_by_sorts id class shape parts type t)

pub store_sorts : (to word : ℕ) (s : Sections) → Sorts s (putting op.STORE (to ∷ word ∷ []) s)
unfolding form_of
store_sorts to word s = putting_sorts op.STORE (to ∷ word ∷ []) s refl

store_by_sorts : (id class : ℕ) (parts : List Part) (word type : ℕ) (s : Sections) → Sorts s (store_by id class parts word type s)
store_by_sorts id class parts word type s = sorts_then s (pointer id class type parts s) (λ to. putting op.STORE (to ∷ word ∷ [])) (pointer_sorts id class type parts s) (λ to t. store_sorts to word t)

store_word_sorts : (id class : ℕ) (shape : Shape) (parts : List Part) (word : ℕ) (s : Sections) → Sorts s (store_word id class shape parts word s)
store_word_sorts id class shape parts word s = sorts_then s (types.type_of (stored_shape class shape) s) (store_by id class parts word) (type_sorts (stored_shape class shape) s) (λ type t. store_by_sorts id class parts word type t)

pub in_class_sorts : (class : ℕ) (shape : Shape) (v : ℕ) (s : Sections) → Sorts s (in_class class shape v s)
unfolding in_class
in_class_sorts class shape v s = converted_sorts (stored_shape class shape).0 (operand shape v) s

pub put_sorts : (id class : ℕ) (shape : Shape) (parts : List Part) (v : ℕ) (s : Sections) → Sorts s (put_at id class shape parts v s)
unfolding put_at
put_sorts id class shape parts v s = sorts_then s (in_class class shape v s) (store_word id class shape parts) (in_class_sorts class shape v s) (λ word t. store_word_sorts id class shape parts word t)

-- ---- a type with no parts has no array without length in it

passed_has : (before code : Code) (i : Instr) → Has (passed before code) i → Has before i ⊎ Has code i
passed_has before [] i has = inl has
passed_has before (j ∷ code) i has = by (passed_has (j ∷ before) code i has)
  where
    by : Has (j ∷ before) i ⊎ Has code i → Has before i ⊎ Has (j ∷ code) i
    by (inl (inl same)) = inr (inl same)
    by (inl (inr there)) = inl there
    by (inr later) = inr (inr later)

some_id : (id : ℕ) (o : Option ℕ) → is_id id o ≡ true → o ≡ Some id
some_id id None h = absurd (true≢false (sym h))
some_id id (Some r) h = ap Some (eqb-true r id h)

none_in : (test : ℕ → Bool) (type : ℕ) → test type ≡ false → (code : Code) → ((i : Instr) → Has code i → result (read i) ≡ Some type → parts_of (read i) ≡ []) → has_in test code type ≡ false
none_in test type clear [] alone = refl
none_in test type clear (i ∷ before) alone = by (defines i type) refl (none_in test type clear before (λ j has named. alone j (inr has) named))
  where
    by : (b : Bool) → defines i type ≡ b → has_in test before type ≡ false → cond b (test type || list_any (has_in test before) (parts_of (read i))) (has_in test before type) ≡ false
    by true e later = ap (λ b. b || list_any (has_in test before) (parts_of (read i))) clear ∙ ap (list_any (has_in test before)) (alone i (inl refl) (some_id type (result (read i)) e))
    by false e later = later

stored_integer : (class : ℕ) (shape : Shape) → is_block_class class ≡ true → is_integer (stored_shape class shape).0 ≡ true
stored_integer class shape block = ap (λ b. is_integer (cond b (stored_scalar shape.0, shape.1) shape).0) block ∙ by shape.0
  where
    by : (s : Scalar) → is_integer (stored_scalar s) ≡ true
    by Boolean = refl
    by Int = refl
    by Uint = refl

pub stored_sized : (class : ℕ) (shape : Shape) → IsSized shape → IsSized (stored_shape class shape)
stored_sized class shape sized = let e = stored_count class shape in let some = sized.some in let few = sized.few in record { some = omega (arith, e, some); few = omega (arith, e, few) }

module _ (whole : Sections) (main : ℕ) (local_size : List ℕ) (rank : ℕ → ℕ) (f : Frame) (sorted : AreSorted whole) where
  abbrev m : Module
  m = made whole main local_size rank f

  abbrev pub V : List ℕ → Shape → ℕ → Type 0
  V given shape id = Value whole main local_size rank f sorted given shape id

  abbrev pub F : {A : Type 0} → List ℕ → (A → List ℕ → Sections → Type 0) → Sections → Built A → Type 0
  F given Is before built = Comes whole main local_size rank f given Is before built

  abbrev pub G : Shape → ℕ → List ℕ → Sections → Type 0
  G shape = Gives whole main local_size rank f sorted shape

  -- ---- what may be moved

  all_once : Passes (defines_once (whole.last + 1)) [] m.instrs
  all_once = once_kept whole main local_size sorted.set sorted.imports sorted.apart

  has_whole : (i : Instr) → Has (all_passed m) i → Has m.instrs i
  has_whole i has = by (passed_has [] m.instrs i has)
    where
      by : Has [] i ⊎ Has m.instrs i → Has m.instrs i
      by (inl none) = absurd none
      by (inr there) = there

  -- a shape of no parts
  plain_alone : (type : ℕ) (s : TypeShape) → shape_of (defined_as m type) ≡ s → parts_in s ≡ [] → is_runtime_shape s ≡ false → has_runtime m type ≡ false
  plain_alone type s is none bounded =
      none_in (is_runtime m) type (ap is_runtime_shape is ∙ bounded) (all_passed m)
      (λ i has named. ap (λ o. parts_of o) (sym (definition_is (whole.last + 1) [] m.instrs i type all_once (has_whole i has) named)) ∙ ap parts_in is ∙ none)

  no_runtime : (shape : Shape) (type : ℕ) → IsTypeOf whole shape type → has_runtime m type ≡ false
  no_runtime shape type of = by (shape.1 == 1) of
    where
      scalar : (s : Scalar) → shape_of (defined_as m type) ≡ scalar_shape s → has_runtime m type ≡ false
      scalar Boolean is = plain_alone type OfBool is refl refl
      scalar Int is = plain_alone type (OfInt 1) is refl refl
      scalar Uint is = plain_alone type (OfInt 0) is refl refl

      by : (b : Bool) → IsTypeBy b whole shape type → has_runtime m type ≡ false
      by true is = scalar shape.0 (scalar_type_is whole main local_size sorted shape.0 type is)
      by false is = plain_alone type (OfVector is.component shape.1) (vector_type_is whole main local_size sorted is.component shape.1 type is.is) refl refl

  pub moved : (class : ℕ) (shape : Shape) (type : ℕ) → IsTypeOf whole (stored_shape class shape) type → is_moved m (record { class = class; pointee = type }) ≡ true
  moved class shape type of = by (is_block_class class) refl
    where
      by : (b : Bool) → is_block_class class ≡ b → cond b (is_ints m type) (not (has_runtime m type)) ≡ true
      by true e = ints whole main local_size rank f sorted (stored_shape class shape) type (stored_integer class shape e) of
      by false e = not_from_false _ (no_runtime (stored_shape class shape) type of)

  -- ---- loads

  pub load_stands : (given : List ℕ) (class type from : ℕ) → form_of op.LOAD ≡ Some form.Load → IsPointer whole main local_size rank f given class type from → is_known m f given type ≡ true → is_moved m (record { class = class; pointee = type }) ≡ true
      → leads_through m decoration.NON_READABLE (defined_as m from) ≡ false → Stands whole main local_size rank f given op.LOAD (from ∷ []) type
  load_stands given class type from is p known may readable =
      stands_as whole main local_size rank f sorted given op.LOAD (from ∷ []) (from ∷ []) type form.Load (λ id. instruction.Load type id from) is (λ id. refl) (λ id. refl) (λ id. refl) (λ id. refl) (λ id. refl) (λ id. refl) (known, (p.known, tt)) (λ id. refl)
      (λ id. ap (may_load m type from) p.leads ∙ and_from _ _ (and_from _ _ (eq-eqb type type refl) may) (not_from_false _ readable)) (λ id. refl) (λ id. refl) (λ id. refl)

  pub loaded_fits : (given : List ℕ) (class id pointee : ℕ) (parts : List Part) (shape : Shape) (before : Sections) → At whole main local_size rank f sorted given class id pointee parts shape → is_marked m decoration.NON_READABLE id pointee parts ≡ false
      → F given (G shape) before (loaded id class shape parts before)
  unfolding loaded form_of
  loaded_fits given class id pointee parts shape before a readable =
      comes_then whole main local_size rank f given (λ type now after. IsTypeOf after lies type) (G shape) before (types.type_of lies before) (load_by id class shape parts) (type_sorts lies before)
      (type_comes whole main local_size rank f sorted given lies before (stored_sized class shape a.sized)) (λ type s. load_by_sorts id class shape parts type s)
      (λ type s now of wider extends inside. by_pointer type s now of wider inside)
    where
      lies : Shape
      lies = stored_shape class shape

      by_pointer : (type : ℕ) (s : Sections) (now : List ℕ) → IsTypeOf s lies type → Wider given now → Extends s whole → F now (G shape) s (load_by id class shape parts type s)
      by_pointer type s now of wider inside =
          let end = type_later s whole lies type inside of in
          let same = one_type whole lies a.type type a.of end in
          let l = leads_later whole main local_size rank f sorted given now class id pointee parts type wider (subst (Leads whole main local_size rank f given class id pointee parts) same a.leads) in
          comes_then whole main local_size rank f now (λ from now after. IsLed whole main local_size rank f now class id pointee parts type from) (G shape) s (pointer id class type parts s) (load_from class shape type) (pointer_sorts id class type parts s)
          (pointer_comes whole main local_size rank f sorted now class id pointee type parts s l a.along (held_type s lies type of)) (λ from t. load_from_sorts class shape type from t)
          (λ from t later to wider_on extends_on inside_on. by_load type from t later (type_later s t lies type extends_on of) to inside_on)
        where
          by_load : (type from : ℕ) (t : Sections) (now : List ℕ) → IsTypeOf t lies type → IsLed whole main local_size rank f now class id pointee parts type from → Extends t whole → F now (G shape) t (load_from class shape type from t)
          by_load type from t now of to inside =
              comes_then whole main local_size rank f now (G lies) (G shape) t (giving op.LOAD (from ∷ []) type t) (λ v. converted shape.0 (operand lies v)) (giving_sorts op.LOAD (from ∷ []) type t (λ id. refl))
              (giving_comes whole main local_size rank f now op.LOAD (from ∷ []) lies type t sorted of
              (λ start. load_stands now class type from refl to.pointer (known_type whole main local_size rank f sorted now lies type (type_later t whole lies type inside of)) (moved class shape type (type_later t whole lies type inside of)) (to.marked decoration.NON_READABLE ∙ readable)))
              (λ v u. converted_sorts shape.0 (operand lies v) u)
              (λ v u last is wider_on extends_on inside_on. subst (λ n. F last (G (shape.0, n)) u (converted shape.0 (operand lies v) u)) (stored_count class shape)
              (converted_fits whole main local_size rank f sorted last shape.0 (operand lies v) u (stored_sized class shape a.sized) is))

  -- ---- stores

  -- an instruction that gives nothing
  pub putting_comes : (given : List ℕ) (op : ℕ) (operands : List ℕ) (before : Sections) → (Extends before whole → Works m rank f given (instr op operands) None) → F given Nothing before (putting op operands before)
  putting_comes given op operands before works = λ inside. record { now = given; goes = putting_keeps m rank f given op operands before (works (extends_then (extends_put op operands before) inside)); is = tt }

  pub writable_is : (class id pointee type to : ℕ) (parts : List Part) (given : List ℕ) → IsLed whole main local_size rank f given class id pointee parts type to → is_writable m class (defined_as m to) ≡ may_change m class id pointee parts
  writable_is class id pointee type to parts given led =
      let block = class == storage_class.UNIFORM || class == storage_class.STORAGE_BUFFER in
      let others = list_any (λ c. c == class) (storage_class.OUTPUT ∷ storage_class.PRIVATE ∷ storage_class.FUNCTION ∷ []) in
      ap (λ b. cond block (b && not (leads_through m decoration.NON_WRITABLE (defined_as m to))) others) led.buffered ∙ ap (λ b. cond block (is_buffered m id parts && not b) others) (led.marked decoration.NON_WRITABLE)

  -- a word of a type is stored through a pointer to it
  pub store_works : (given : List ℕ) (class type to word : ℕ) → form_of op.STORE ≡ Some form.Store → IsPointer whole main local_size rank f given class type to → is_known m f given word ≡ true → has_type m type word ≡ true → is_moved m (record { class = class; pointee = type }) ≡ true
      → is_writable m class (defined_as m to) ≡ true → Works m rank f given (instr op.STORE (to ∷ word ∷ [])) None
  store_works given class type to word is p known typed may writable = record {
    works = ap (λ o. works (kind o)) reads;
    sits = sits_read whole main local_size rank f given (instr op.STORE (to ∷ word ∷ [])) (instruction.Store to word) reads refl (and_from _ _ p.known (and_from _ _ known refl)) refl refl
        (ap (may_store m to word) p.leads ∙ and_from _ _ (and_from _ _ typed may) writable) refl refl refl tt;
    gives = ap result reads;
  }
    where
      reads : read (instr op.STORE (to ∷ word ∷ [])) ≡ Some (instruction.Store to word)
      reads = ap (λ o. option_map (λ w. read_as w op.STORE (to ∷ word ∷ [])) o) is

  pub store_fits : (given : List ℕ) (class id pointee type to : ℕ) (parts : List Part) (shape : Shape) (word : ℕ) (before : Sections) → IsTypeOf before (stored_shape class shape) type → IsLed whole main local_size rank f given class id pointee parts type to → may_change m class id pointee parts ≡ true
      → V given (stored_shape class shape) word → F given Nothing before (putting op.STORE (to ∷ word ∷ []) before)
  unfolding form_of
  store_fits given class id pointee type to parts shape word before of led may v =
      putting_comes given op.STORE (to ∷ word ∷ []) before
      (λ inside. let end = type_later before whole (stored_shape class shape) type inside of in
      store_works given class type to word refl led.pointer v.known (same_type whole main local_size rank f sorted given (stored_shape class shape) type word end v) (moved class shape type end) (writable_is class id pointee type to parts given led ∙ may))

  store_word_fits : (given : List ℕ) (class id pointee : ℕ) (parts : List Part) (shape : Shape) (word : ℕ) (before : Sections) → At whole main local_size rank f sorted given class id pointee parts shape → may_change m class id pointee parts ≡ true → V given (stored_shape class shape) word
      → F given Nothing before (store_word id class shape parts word before)
  store_word_fits given class id pointee parts shape word before a may v =
      comes_then whole main local_size rank f given (λ type now after. IsTypeOf after lies type) Nothing before (types.type_of lies before) (store_by id class parts word) (type_sorts lies before)
      (type_comes whole main local_size rank f sorted given lies before (stored_sized class shape a.sized)) (λ type s. store_by_sorts id class parts word type s)
      (λ type s now of wider extends inside. by_pointer type s now of wider inside)
    where
      lies : Shape
      lies = stored_shape class shape

      by_pointer : (type : ℕ) (s : Sections) (now : List ℕ) → IsTypeOf s lies type → Wider given now → Extends s whole → F now Nothing s (store_by id class parts word type s)
      by_pointer type s now of wider inside =
          let end = type_later s whole lies type inside of in
          let same = one_type whole lies a.type type a.of end in
          let l = leads_later whole main local_size rank f sorted given now class id pointee parts type wider (subst (Leads whole main local_size rank f given class id pointee parts) same a.leads) in
          comes_then whole main local_size rank f now (λ to now after. IsLed whole main local_size rank f now class id pointee parts type to) Nothing s (pointer id class type parts s) (λ to. putting op.STORE (to ∷ word ∷ [])) (pointer_sorts id class type parts s)
          (pointer_comes whole main local_size rank f sorted now class id pointee type parts s l a.along (held_type s lies type of)) (λ to t. store_sorts to word t)
          (λ to t later led wider_on extends_on inside_on. store_fits later class id pointee type to parts shape word t (type_later s t lies type extends_on of) led may
          (value_later whole main local_size rank f sorted given later lies word (λ id h. wider_on id (wider id h)) v))

  -- a value in the shape in which it lies
  pub in_class_fits : (given : List ℕ) (class : ℕ) (shape : Shape) (v : ℕ) (before : Sections) → IsSized shape → V given shape v → F given (G (stored_shape class shape)) before (in_class class shape v before)
  unfolding in_class
  in_class_fits given class shape v before sized value =
      subst (λ n. F given (G ((stored_shape class shape).0, n)) before (converted (stored_shape class shape).0 (operand shape v) before)) (sym (stored_count class shape))
      (converted_fits whole main local_size rank f sorted given (stored_shape class shape).0 (operand shape v) before sized value)

  pub at_later : (given now : List ℕ) (class id pointee : ℕ) (parts : List Part) (shape : Shape) → Wider given now → At whole main local_size rank f sorted given class id pointee parts shape → At whole main local_size rank f sorted now class id pointee parts shape
  at_later given now class id pointee parts shape wider a = record { type = a.type; leads = leads_later whole main local_size rank f sorted given now class id pointee parts a.type wider a.leads; of = a.of; along = a.along; sized = a.sized }

  pub put_fits : (given : List ℕ) (class id pointee : ℕ) (parts : List Part) (shape : Shape) (v : ℕ) (before : Sections) → At whole main local_size rank f sorted given class id pointee parts shape → may_change m class id pointee parts ≡ true → V given shape v
      → F given Nothing before (put_at id class shape parts v before)
  unfolding put_at
  put_fits given class id pointee parts shape v before a may value =
      comes_then whole main local_size rank f given (G (stored_shape class shape)) Nothing before (in_class class shape v before) (store_word id class shape parts) (in_class_sorts class shape v before)
      (in_class_fits given class shape v before a.sized value) (λ word t. store_word_sorts id class shape parts word t)
      (λ word t now is wider extends inside. store_word_fits now class id pointee parts shape word t (at_later given now class id pointee parts shape wider a) may is)
