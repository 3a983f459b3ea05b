-- Indexes, types of pointers, and chains.
use Rattle.std.proofs.Common.{◌≡◌, ℕ, ◌+◌, ◌≤◌, Bool, true, false, cond, ◌||◌, List, [], ◌∷◌, ◌++◌, length, Option, Some, None, refl, sym, ap, ◌∙◌, subst, suc}
use Rattle.std.specs.Prelude.{◌==◌, nat_le}
use Rattle.std.specs.List.{AllByRecursion, Contains}
use Rattle.std.proofs.lemmas.Bool.{and_from, eq-eqb, le-leb, true≢false}
use Rattle.std.proofs.lemmas.List.Elements.{Contains-append_left, Contains-append_right}
use Rattle.gsl_instr.specs.Forms.{form_of}
use Rattle.gsl_instr.specs.declared.op.TheConstants as op
use Rattle.gsl_instr.specs.declared.form.Form.TheVariants as form
use Rattle.gsl_instr.specs.declared.instruction.Instruction.TheVariants as instruction
use Rattle.gsl_types.specs.declared.ty.Scalar.{Scalar}
use Rattle.gsl_types.specs.declared.ty.Scalar.TheVariants.{Bool as Boolean, Int, Uint}
use Rattle.gsl_tree.specs.Shapes.{Shape, is_integer}
use Rattle.gsl_words.specs.declared.module.Module.{Module}
use Rattle.gsl_valid.specs.CallRules.{points}
use Rattle.gsl_valid.specs.Instruction.{read}
use Rattle.gsl_valid.specs.Kinds.{Shape as TypeShape, OfVoid, OfBool, OfInt, OfVector, OfArray, OfRuntimeArray, OfStruct, OfPointer, OfFunction, NoType, kind, shape_of, type_of, value_of}
use Rattle.gsl_valid.specs.MemoryRules.{is_base, is_in_buffer, is_part, leads_through, leads_to, marks, part_at, part_by, passes_one, target_type}
use Rattle.gsl_valid.specs.LimitRules.{most_indexes}
use Rattle.gsl_valid.specs.MemoryRules as memory
use Rattle.gsl_valid.specs.Sections.{is_class}
use Rattle.gsl_valid.specs.Types.{defined_as, is_int, is_int_type, is_int_value, is_value_type, target_in, target_of, value_type}
use Rattle.gsl_spv.specs.Calls as call
use Rattle.gsl_spv.specs.Calls.{intern}
use Rattle.gsl_spv.specs.Declarations as d
use Rattle.gsl_spv.specs.Declarations.{Declaration, defining, instr}
use Rattle.gsl_spv.specs.Growing.{Extends}
use Rattle.gsl_spv.specs.Once.{id_of}
use Rattle.gsl_spv.specs.Sections.{Sections}
use Rattle.gsl_spv.specs.declared.plain.PlainConst.TheVariants as of
use Rattle.gsl_spv.specs.declared.plain.PlainType.TheVariants as plain
use Rattle.gsl_spv.specs.declared.refusal.TheConstants.{MOST_IDS}
use Rattle.gsl_spv.proofs.Answering.{constant_once, plain_once}
use Rattle.gsl_spv.proofs.Contained.{first_in}
use Rattle.gsl_spv.proofs.Extending.{extends_take, extends_then}
use Rattle.gsl_spv.proofs.Lasting.{ids_last, interned_known}
use Rattle.gsl_lower_law.proofs.Adding.{extends_put}
use Rattle.gsl_lower_values.specs.Building.{Built, Made, Full, Step, behind, given as give, giving, in_order, put_giving}
use Rattle.gsl_lower_values.specs.Types as types
use Rattle.gsl_lower_places.specs.Reading.{index, indexes, pointer, pointer_type}
use Rattle.gsl_lower_places.specs.declared.reached.Part.{Part}
use Rattle.gsl_lower_places.specs.declared.reached.Part.TheVariants.{Fixed, By}
use Rattle.gsl_fitting.specs.Fits.{Frame, is_known, works}
use Rattle.gsl_fitting_steps.specs.Keeping.{Keeps, MayDeclare, Works}
use Rattle.gsl_fitting_steps.proofs.Giving.{giving_keeps}
use Rattle.gsl_fitting_types.specs.Making.{AreSorted, Comes, IsConstant, IsScalarType, IsTypeBy, IsTypeOf, IsValue, Sorts, Stands, made}
use Rattle.gsl_fitting_types.proofs.Anew.{plain_first}
use Rattle.gsl_fitting_types.proofs.Knowing.{constant_later, contains_later, some_is, defined_at, first_known, found_stands, global_is, global_outside, has_in, known_wider, outside_known, put_is, scalar_type_is}
use Rattle.gsl_fitting_types.proofs.Sorting.{each_sorts, giving_sorts, sorts_then, stays_same}
use Rattle.gsl_fitting_types.proofs.Stepping.{Wider, comes_then, given_comes, intern_comes}
use Rattle.gsl_fitting_types.proofs.Types.{constant_value, plain_sorts, scalar_constant_comes, scalar_constant_sorts}
use Rattle.gsl_fitting_operators.proofs.Forms.{stands_as}
use Rattle.gsl_fitting_places.specs.Leading.{IsIndex, IsLed, IsValueType, IsWay, Leads, led, led_by, marked_by, told_number}

-- ---- they sort

pub index_sorts : (part : Part) (s : Sections) → Sorts s (index part s)
unfolding index
index_sorts (Fixed number) s = scalar_constant_sorts Int number s
index_sorts (By k id) s = stays_same s

pub indexes_sort : (parts : List Part) (s : Sections) → Sorts s (indexes parts s)
indexes_sort parts s = each_sorts index parts s index_sorts

pub pointer_type_sorts : (class pointee : ℕ) (s : Sections) → Sorts s (pointer_type class pointee s)
pointer_type_sorts class pointee s = plain_sorts (plain.Pointer class pointee) s

abbrev pub chain_by : ℕ → ℕ → ℕ → List ℕ → Step ℕ
chain_by id class pointee ids s = behind (pointer_type class pointee s) (giving op.ACCESS_CHAIN (id ∷ ids))

chain_sorts : (id class pointee : ℕ) (ids : List ℕ) (s : Sections) → Sorts s (chain_by id class pointee ids s)
unfolding form_of
chain_sorts id class pointee ids s = sorts_then s (pointer_type class pointee s) (giving op.ACCESS_CHAIN (id ∷ ids)) (pointer_type_sorts class pointee s) (λ type t. giving_sorts op.ACCESS_CHAIN (id ∷ ids) type t (λ to. refl))

pub pointer_sorts : (id class pointee : ℕ) (parts : List Part) (s : Sections) → Sorts s (pointer id class pointee parts s)
unfolding pointer
pointer_sorts id class pointee [] s = stays_same s
pointer_sorts id class pointee (part ∷ parts) s = sorts_then s (indexes (part ∷ parts) s) (chain_by id class pointee) (indexes_sort (part ∷ parts) s) (λ ids t. chain_sorts id class pointee ids t)

-- ---- types of values

-- so is the type of a scalar or vector
pub held_type : (at : Sections) (shape : Shape) (type : ℕ) → IsTypeOf at shape type → IsValueType at type
unfolding form_of
held_type at shape type of = by (shape.1 == 1) of
  where
    scalar : (s : Scalar) → IsScalarType at s type → IsValueType at type
    scalar Boolean is = record { i = defining (d.plain_type plain.Bool) type; stands = found_stands (d.plain_type plain.Bool) at type (plain_once plain.Bool) is; named = refl; value = refl }
    scalar Int is = record { i = defining (d.plain_type (plain.Int true)) type; stands = found_stands (d.plain_type (plain.Int true)) at type (plain_once (plain.Int true)) is; named = refl; value = refl }
    scalar Uint is = record { i = defining (d.plain_type (plain.Int false)) type; stands = found_stands (d.plain_type (plain.Int false)) at type (plain_once (plain.Int false)) is; named = refl; value = refl }

    by : (b : Bool) → IsTypeBy b at shape type → IsValueType at type
    by true is = scalar shape.0 is
    by false is = record {
      i = defining (d.plain_type (plain.Vector is.component shape.1)) type;
      stands = found_stands (d.plain_type (plain.Vector is.component shape.1)) at type (plain_once (plain.Vector is.component shape.1)) is.is;
      named = refl;
      value = refl;
    }

pub held_later : (a b : Sections) (type : ℕ) → Extends a b → IsValueType a type → IsValueType b type
held_later a b type extends h = record { i = h.i; stands = contains_later a b h.i extends h.stands; named = h.named; value = h.value }

-- ---- what constants are

-- what came of a step is so
abbrev pub Tells : {A : Type 0} → (A → Sections → Type 0) → Built A → Type 0
Tells So (Made a after) = So a after
Tells So Full = Unit {0}

-- ---- where parts lead, by ids

-- a part that is no member of a struct, or whose number is known
part_same : (v : Option ℕ) (shape : TypeShape) (type : ℕ) → part_by true None shape ≡ Some type → part_by true v shape ≡ Some type
part_same v OfVoid type e = e
part_same v OfBool type e = e
part_same v (OfInt signedness) type e = e
part_same v (OfVector component count) type e = e
part_same v (OfArray element length) type e = e
part_same v (OfRuntimeArray element) type e = e
part_same v (OfStruct id members) type e = absurd cc
part_same v (OfPointer class pointee) type e = e
part_same v (OfFunction returned parameters) type e = e
part_same v NoType type e = e

-- which is no member, so it has no mark
unmarked : (m : Module) (kind : ℕ) (v : Option ℕ) (shape : TypeShape) (type : ℕ) → part_by true None shape ≡ Some type → marks m kind v shape ≡ marks m kind None shape
unmarked m kind v OfVoid type e = refl
unmarked m kind v OfBool type e = refl
unmarked m kind v (OfInt signedness) type e = refl
unmarked m kind v (OfVector component count) type e = refl
unmarked m kind v (OfArray element length) type e = refl
unmarked m kind v (OfRuntimeArray element) type e = refl
unmarked m kind v (OfStruct id members) type e = absurd cc
unmarked m kind v (OfPointer class pointee) type e = refl
unmarked m kind v (OfFunction returned parameters) type e = refl
unmarked m kind v NoType type e = refl

-- parts that lead somewhere do so one by one
pub led_first : (m : Module) (type last : ℕ) (part : Part) (parts : List Part) → led m (Some type) (part ∷ parts) ≡ Some last → (next : ℕ) × (led_by m type part ≡ Some next) × (led m (Some next) parts ≡ Some last)
led_first m type last part parts e = by (led_by m type part) refl e
  where
    by : (o : Option ℕ) → led_by m type part ≡ o → led m o parts ≡ Some last → (next : ℕ) × (led_by m type part ≡ Some next) × (led m (Some next) parts ≡ Some last)
    by (Some next) is e = (next, is, e)
    by None is e = absurd cc

module _ (whole : Sections) (main : ℕ) (local_size : List ℕ) (rank : ℕ → ℕ) (f : Frame) (sorted : AreSorted whole) where
  abbrev m : Module
  m = made whole main local_size rank f

  -- ---- indexes

  -- An id serves as the index of a part.
  pub record Serves (given : List ℕ) (part : Part) (id : ℕ) : Type 0 where
    pub known : is_known m f given id ≡ true
    pub int : is_int_value m id ≡ true
    pub number : (n : ℕ) → told_number part ≡ Some n → value_of (defined_as m id) ≡ Some n

  pub int_is : (given : List ℕ) (s : Scalar) (id : ℕ) → is_integer s ≡ true → IsValue whole main local_size rank f given (s, 1) id → is_int_value m id ≡ true
  int_is given s id integer v = ap (is_int_type m) v.typed ∙ by s integer v.of
    where
      by : (s : Scalar) → is_integer s ≡ true → IsTypeOf whole (s, 1) v.type → is_int m v.type ≡ true
      by Boolean e of = absurd (true≢false (sym e))
      by Int e of = rw (scalar_type_is whole main local_size sorted Int v.type of) refl
      by Uint e of = rw (scalar_type_is whole main local_size sorted Uint v.type of) refl

  -- the word that was declared
  word_tells : (type number : ℕ) (s : Sections) → Tells (λ id after. Extends after whole → value_of (defined_as m id) ≡ Some number) (types.word_of_type number type s)
  unfolding form_of
  word_tells type number s = by (nat_le (intern (d.word type number) s).sections.last MOST_IDS)
    where
      by : (b : Bool) → Tells (λ id after. Extends after whole → value_of (defined_as m id) ≡ Some number) (cond b (Made (intern (d.word type number) s).id (intern (d.word type number) s).sections) Full)
      by true = λ inside.
          let id = (intern (d.word type number) s).id in
          let after = (intern (d.word type number) s).sections in
          let there = found_stands (d.word type number) after id (constant_once (of.Word type number) 0) (interned_known (d.word type number) s (constant_once (of.Word type number) 0)) in
          ap value_of (global_is whole main local_size sorted (defining (d.word type number) id) id (contains_later after whole (defining (d.word type number) id) inside there) refl)
      by false = tt

  constant_tells : (number : ℕ) (s : Sections) → Tells (λ id after. Extends after whole → value_of (defined_as m id) ≡ Some number) (types.scalar_constant Int number s)
  unfolding types.scalar_constant
  constant_tells number s = by (types.scalar_type Int s)
    where
      by : (built : Built ℕ) → Tells (λ id after. Extends after whole → value_of (defined_as m id) ≡ Some number) (behind built (types.word_of_type number))
      by (Made type t) = word_tells type number t
      by Full = tt

  with_told : {A : Type 0} (given : List ℕ) (Is : A → List ℕ → Sections → Type 0) (So : A → Sections → Type 0) (before : Sections) (built : Built A) → Comes whole main local_size rank f given Is before built → Tells (λ a after. Extends after whole → So a after) built
      → Comes whole main local_size rank f given (λ a now after. Is a now after × So a after) before built
  with_told given Is So before (Made a after) comes so = λ inside. let x = comes inside in record { now = x.now; goes = x.goes; is = (x.is, so inside) }
  with_told given Is So before Full comes so = tt

  comes_map : {A : Type 0} (given : List ℕ) (Is So : A → List ℕ → Sections → Type 0) (before : Sections) (built : Built A) → ((a : A) (now : List ℕ) (after : Sections) → Wider given now → Extends after whole → Is a now after → So a now after) → Comes whole main local_size rank f given Is before built
      → Comes whole main local_size rank f given So before built
  comes_map given Is So before (Made a after) so comes = λ inside. let x = comes inside in record { now = x.now; goes = x.goes; is = so a x.now after x.goes.puts.wider inside x.is }
  comes_map given Is So before Full so comes = tt

  pub index_comes : (given : List ℕ) (part : Part) (before : Sections) → IsIndex whole main local_size rank f given part → Comes whole main local_size rank f given (λ id now after. Serves now part id) before (index part before)
  unfolding index
  index_comes given (Fixed number) before is =
      comes_map given (λ id now after. IsConstant after (Int, 1) id × (value_of (defined_as m id) ≡ Some number)) (λ id now after. Serves now (Fixed number) id) before (types.scalar_constant Int number before)
      (λ id now after wider inside told.
      let v = constant_value whole main local_size rank f sorted now (Int, 1) id (constant_later after whole (Int, 1) id inside told.0) in
      record { known = v.known; int = int_is now Int id refl v; number = λ n e. told.1 ∙ e })
      (with_told given (λ id now after. IsConstant after (Int, 1) id) (λ id after. value_of (defined_as m id) ≡ Some number) before (types.scalar_constant Int number before) (scalar_constant_comes whole main local_size rank f sorted given Int number before) (constant_tells number before))
  index_comes given (By s id) before is =
      given_comes whole main local_size rank f given (λ to now after. Serves now (By s id) to) id before (λ inside. record { known = is.1.known; int = int_is given s id is.0 is.1; number = λ n e. absurd cc })

  -- the indexes of parts, in their order
  pub data ServeEach (given : List ℕ) : List Part → List ℕ → Type 0 where
    none : ServeEach given [] []
    one : {part : Part} {parts : List Part} {id : ℕ} {ids : List ℕ} → Serves given part id → ServeEach given parts ids → ServeEach given (part ∷ parts) (id ∷ ids)

  serves_later : (given now : List ℕ) (part : Part) (id : ℕ) → Wider given now → Serves given part id → Serves now part id
  serves_later given now part id wider s = record { known = known_wider whole main local_size sorted f given now id wider s.known; int = s.int; number = s.number }

  pub index_later : (given now : List ℕ) (part : Part) → Wider given now → IsIndex whole main local_size rank f given part → IsIndex whole main local_size rank f now part
  index_later given now (Fixed number) wider is = tt
  index_later given now (By s id) wider is = (is.0, record { type = is.1.type; of = is.1.of; typed = is.1.typed; known = known_wider whole main local_size sorted f given now id wider is.1.known })

  pub all_later : (given now : List ℕ) (parts : List Part) → Wider given now → AllByRecursion (IsIndex whole main local_size rank f given) parts → AllByRecursion (IsIndex whole main local_size rank f now) parts
  all_later given now [] wider all = tt
  all_later given now (part ∷ parts) wider all = (index_later given now part wider all.0, all_later given now parts wider all.1)

  pub indexes_come : (given : List ℕ) (parts : List Part) (before : Sections) → AllByRecursion (IsIndex whole main local_size rank f given) parts → Comes whole main local_size rank f given (λ ids now after. ServeEach now parts ids) before (indexes parts before)
  unfolding in_order
  indexes_come given [] before all = given_comes whole main local_size rank f given (λ ids now after. ServeEach now [] ids) [] before (λ inside. ServeEach.none)
  indexes_come given (part ∷ parts) before all =
      comes_then whole main local_size rank f given (λ id now after. Serves now part id) (λ ids now after. ServeEach now (part ∷ parts) ids) before (index part before) (λ id t. behind (indexes parts t) (λ ids. give (id ∷ ids))) (index_sorts part before)
      (index_comes given part before all.0) (λ id t. sorts_then t (indexes parts t) (λ ids. give (id ∷ ids)) (indexes_sort parts t) (λ ids u. stays_same u))
      (λ id t now is wider extends inside. comes_then whole main local_size rank f now (λ ids now after. ServeEach now parts ids) (λ ids now after. ServeEach now (part ∷ parts) ids) t (indexes parts t) (λ ids. give (id ∷ ids)) (indexes_sort parts t)
      (indexes_come now parts t (all_later given now parts wider all.1)) (λ ids u. stays_same u)
      (λ ids u later each wider_on extends_on inside_on. given_comes whole main local_size rank f later (λ ids now after. ServeEach now (part ∷ parts) ids) (id ∷ ids) u (λ inside. ServeEach.one (serves_later now later part id wider_on is) each)))

  all_known : (given : List ℕ) (parts : List Part) (ids : List ℕ) → ServeEach given parts ids → AllByRecursion (λ id. is_known m f given id ≡ true) ids
  all_known given _ _ none = tt
  all_known given _ _ (one {part} {parts} {id} {ids} s each) = (s.known, all_known given parts ids each)

  each_later : (given now : List ℕ) (parts : List Part) (ids : List ℕ) → Wider given now → ServeEach given parts ids → ServeEach now parts ids
  each_later given now _ _ wider none = ServeEach.none
  each_later given now _ _ wider (one {part} {parts} {id} {ids} s each) = ServeEach.one (serves_later given now part id wider s) (each_later given now parts ids wider each)

  same_length : (given : List ℕ) (parts : List Part) (ids : List ℕ) → ServeEach given parts ids → length ids ≡ length parts
  same_length given _ _ none = refl
  same_length given _ _ (one {part} {parts} {id} {ids} s each) = ap suc (same_length given parts ids each)

  index_same : (given : List ℕ) (part : Part) (id type next : ℕ) → Serves given part id → led_by m type part ≡ Some next → memory.part_of m type id ≡ Some next
  index_same given (Fixed number) id type next s e = ap (λ b. part_by b (value_of (defined_as m id)) (shape_of (defined_as m type))) s.int ∙ ap (λ v. part_by true v (shape_of (defined_as m type))) (s.number number refl) ∙ e
  index_same given (By k word) id type next s e = ap (λ b. part_by b (value_of (defined_as m id)) (shape_of (defined_as m type))) s.int ∙ part_same (value_of (defined_as m id)) (shape_of (defined_as m type)) next e

  mark_same : (given : List ℕ) (kind : ℕ) (part : Part) (id type next : ℕ) → Serves given part id → led_by m type part ≡ Some next → marks m kind (value_of (defined_as m id)) (shape_of (defined_as m type)) ≡ marks m kind (told_number part) (shape_of (defined_as m type))
  mark_same given kind (Fixed number) id type next s e = ap (λ v. marks m kind v (shape_of (defined_as m type))) (s.number number refl)
  mark_same given kind (By k word) id type next s e = unmarked m kind (value_of (defined_as m id)) (shape_of (defined_as m type)) next e

  chain_leads : (given : List ℕ) (parts : List Part) (ids : List ℕ) (type last : ℕ) → ServeEach given parts ids → led m (Some type) parts ≡ Some last → part_at m (Some type) ids ≡ Some last
  chain_leads given _ _ type last none e = e
  chain_leads given _ _ type last (one {part} {parts} {id} {ids} s each) e =
      let (next, first, more) = led_first m type last part parts e in
      ap (λ o. part_at m o ids) (index_same given part id type next s first) ∙ chain_leads given parts ids next last each more

  chain_passes : (given : List ℕ) (kind : ℕ) (parts : List Part) (ids : List ℕ) (type last : ℕ) → ServeEach given parts ids → led m (Some type) parts ≡ Some last → passes_one m kind (Some type) ids ≡ marked_by m kind (Some type) parts
  chain_passes given kind _ _ type last none e = refl
  chain_passes given kind _ _ type last (one {part} {parts} {id} {ids} s each) e =
      let (next, first, more) = led_first m type last part parts e in
      ap (λ b. b || passes_one m kind (memory.part_of m type id) ids) (mark_same given kind part id type next s first)
      ∙ ap (λ o. marks m kind (told_number part) (shape_of (defined_as m type)) || passes_one m kind o ids) (index_same given part id type next s first)
      ∙ ap (λ b. marks m kind (told_number part) (shape_of (defined_as m type)) || b) (chain_passes given kind parts ids next last each more)
      ∙ ap (λ o. marks m kind (told_number part) (shape_of (defined_as m type)) || marked_by m kind o parts) (sym first)

  -- ---- types of pointers

  abbrev pub IsPointerType : Sections → ℕ → ℕ → ℕ → Type 0
  IsPointerType at class pointee id = id_of (d.plain_type (plain.Pointer class pointee)) at.globals ≡ Some id

  pub value_type_is : (type : ℕ) → IsValueType whole type → is_value_type m type ≡ true
  value_type_is type h = ap value_type (global_is whole main local_size sorted h.i type h.stands h.named) ∙ h.value

  pointer_may : (class pointee : ℕ) (before : Sections) → is_class m.version class ≡ true → IsValueType before pointee → Extends before whole → MayDeclare m (d.plain_type (plain.Pointer class pointee)) before
  unfolding form_of
  pointer_may class pointee before may held inside = record {
    defines = λ id. refl;
    declares = λ none. record {
      is = refl;
      numbers = may;
      uses = and_from _ _ (defined_at before.globals held.i pointee held.stands held.named) refl;
      made = and_from _ _ (value_type_is pointee (held_later before whole pointee inside held)) (plain_first (plain.Pointer class pointee) before.globals (before.last + 1) (λ j has. has_in whole main local_size sorted before j inside has) none);
      fixed = refl;
      holds = refl;
      marked = refl;
      laid = refl;
      limits = refl;
    };
  }

  pub pointer_type_comes : (given : List ℕ) (class pointee : ℕ) (before : Sections) → is_class m.version class ≡ true → IsValueType before pointee → Comes whole main local_size rank f given (λ id now after. IsPointerType whole class pointee id) before (pointer_type class pointee before)
  pointer_type_comes given class pointee before may held =
      intern_comes whole main local_size rank f given (λ id now after. IsPointerType whole class pointee id) (d.plain_type (plain.Pointer class pointee)) before (plain_once (plain.Pointer class pointee)) (pointer_may class pointee before may held)
      (λ id after extends inside found. ids_last after whole (d.plain_type (plain.Pointer class pointee)) id inside found)

  pub pointer_type_is : (class pointee id : ℕ) → IsPointerType whole class pointee id → shape_of (defined_as m id) ≡ OfPointer class pointee
  unfolding form_of
  pointer_type_is class pointee id is =
      ap shape_of (global_is whole main local_size sorted (defining (d.plain_type (plain.Pointer class pointee)) id) id (found_stands (d.plain_type (plain.Pointer class pointee)) whole id (plain_once (plain.Pointer class pointee)) is) refl)

  pub pointer_type_known : (given : List ℕ) (class pointee id : ℕ) → IsPointerType whole class pointee id → is_known m f given id ≡ true
  unfolding form_of
  pointer_type_known given class pointee id is =
      outside_known whole main local_size sorted f given id
      (global_outside whole main local_size sorted (defining (d.plain_type (plain.Pointer class pointee)) id) id (found_stands (d.plain_type (plain.Pointer class pointee)) whole id (plain_once (plain.Pointer class pointee)) is) refl)

  -- ---- an instruction that gives what is no scalar and no vector

  pub giving_works : (given : List ℕ) (op : ℕ) (operands : List ℕ) (type : ℕ) (Is : ℕ → List ℕ → Sections → Type 0) (before : Sections) → (Extends before whole → (id : ℕ) → Works m rank f given (instr op (type ∷ id ∷ operands)) (Some id))
      → ((id : ℕ) (after : Sections) → Extends before whole → Extends after whole → defined_as m id ≡ read (instr op (type ∷ id ∷ operands)) → is_known m f (id ∷ given) id ≡ true → Is id (id ∷ given) after)
      → Comes whole main local_size rank f given Is before (giving op operands type before)
  unfolding giving
  giving_works given op operands type Is before does is =
      by (nat_le (before.last + 1) MOST_IDS) (λ inside. giving_keeps m rank f given op operands type before (does inside (before.last + 1)))
    where
      by : (b : Bool) → (Extends before whole → Keeps m rank f given (λ id. id ∷ given) before (behind (cond b (Made (before.last + 1) (record before { last = before.last + 1 })) Full) (put_giving op type operands)))
          → Comes whole main local_size rank f given Is before (behind (cond b (Made (before.last + 1) (record before { last = before.last + 1 })) Full) (put_giving op type operands))
      by true keeps = λ inside.
          let id = before.last + 1 in
          let i = instr op (type ∷ id ∷ operands) in
          let there : Contains whole.functions i = subst (λ l. Contains l i) (sym inside.functions.is) (Contains-append_left (before.functions ++ i ∷ []) inside.functions.more i (Contains-append_right before.functions (i ∷ []) i (first_in i []))) in
          let start = extends_then (extends_then (extends_take before) (extends_put op (type ∷ id ∷ operands) (call.take before).sections)) inside in
          record {
            now = id ∷ given;
            goes = keeps start;
            is = is id (call.put op (type ∷ id ∷ operands) (record before { last = before.last + 1 })) start inside (put_is whole main local_size sorted i id there (does start id).gives) (first_known whole main local_size sorted f given id);
          }
      by false keeps = tt

  pub giving_made : (given : List ℕ) (op : ℕ) (operands : List ℕ) (type : ℕ) (Is : ℕ → List ℕ → Sections → Type 0) (before : Sections) → (Extends before whole → Stands whole main local_size rank f given op operands type)
      → ((id : ℕ) (after : Sections) → Extends before whole → Extends after whole → defined_as m id ≡ read (instr op (type ∷ id ∷ operands)) → is_known m f (id ∷ given) id ≡ true → Is id (id ∷ given) after)
      → Comes whole main local_size rank f given Is before (giving op operands type before)
  giving_made given op operands type Is before stands is =
      giving_works given op operands type Is before (λ inside id. let s = stands inside in record { works = ap works (s.gives id); sits = s.sits id; gives = s.named id }) is

  -- ---- chains

  chain_stands : (given : List ℕ) (class id pointee type to_type : ℕ) (parts : List Part) (ids : List ℕ) → form_of op.ACCESS_CHAIN ≡ Some form.AccessChain → is_base (kind (defined_as m id)) ≡ true → length parts ≤ most_indexes → Leads whole main local_size rank f given class id pointee parts type
      → ServeEach given parts ids → IsPointerType whole class type to_type → Stands whole main local_size rank f given op.ACCESS_CHAIN (id ∷ ids) to_type
  chain_stands given class id pointee type to_type parts ids is base few l each of =
      stands_as whole main local_size rank f sorted given op.ACCESS_CHAIN (id ∷ ids) (id ∷ ids) to_type form.AccessChain (λ to. instruction.AccessChain to_type to id ids) is (λ to. refl) (λ to. refl) (λ to. refl) (λ to. refl) (λ to. refl) (λ to. refl)
      (pointer_type_known given class type to_type of, (l.pointer.known, all_known given parts ids each))
      (λ to. refl)
      (λ to. and_from _ _ base
      (ap (λ o. leads_to m o ids (target_of (defined_as m to_type))) l.pointer.leads
      ∙ ap (λ s. leads_to m (Some (record { class = class; pointee = pointee })) ids (target_in s)) (pointer_type_is class type to_type of)
      ∙ and_from _ _ (eq-eqb class class refl) (ap (is_part type) (chain_leads given parts ids pointee type each l.leads) ∙ eq-eqb type type refl)))
      (λ to. refl) (λ to. refl) (λ to. le-leb (length ids) most_indexes (subst (λ n. n ≤ most_indexes) (sym (same_length given parts ids each)) few))

  chain_led : (given : List ℕ) (class id pointee type to_type to : ℕ) (part : Part) (parts : List Part) (ids : List ℕ) → Leads whole main local_size rank f given class id pointee (part ∷ parts) type → ServeEach given (part ∷ parts) ids → IsPointerType whole class type to_type
      → defined_as m to ≡ read (instr op.ACCESS_CHAIN (to_type ∷ to ∷ id ∷ ids)) → is_known m f (to ∷ given) to ≡ true → IsLed whole main local_size rank f (to ∷ given) class id pointee (part ∷ parts) type to
  unfolding form_of
  chain_led given class id pointee type to_type to part parts ids l each of is known = record {
    pointer = record {
      leads = ap (λ o. points m (type_of o)) is ∙ ap target_in (pointer_type_is class type to_type of);
      known = known;
    };
    marked = λ kind. ap (leads_through m kind) is ∙ ap (λ o. passes_one m kind (target_type o) ids) l.pointer.leads ∙ chain_passes given kind (part ∷ parts) ids pointee type each l.leads;
    buffered = ap (is_in_buffer m) is;
  }

  pub leads_later : (given now : List ℕ) (class id pointee : ℕ) (parts : List Part) (type : ℕ) → Wider given now → Leads whole main local_size rank f given class id pointee parts type → Leads whole main local_size rank f now class id pointee parts type
  leads_later given now class id pointee parts type wider l = record {
    pointer = record { leads = l.pointer.leads; known = known_wider whole main local_size sorted f given now id wider l.pointer.known };
    indexes = all_later given now parts wider l.indexes;
    leads = l.leads;
  }

  same_end : (type last : ℕ) → led m (Some type) [] ≡ Some last → type ≡ last
  same_end type last e = some_is type last e

  pub pointer_comes : (given : List ℕ) (class id pointee type : ℕ) (parts : List Part) (before : Sections) → Leads whole main local_size rank f given class id pointee parts type → IsWay m class id parts → IsValueType before type
      → Comes whole main local_size rank f given (λ to now after. IsLed whole main local_size rank f now class id pointee parts type to) before (pointer id class type parts before)
  unfolding pointer form_of
  pointer_comes given class id pointee type [] before l way held =
      given_comes whole main local_size rank f given (λ to now after. IsLed whole main local_size rank f now class id pointee [] type to) id before
      (λ inside. record { pointer = record { leads = l.pointer.leads ∙ ap (λ t. Some (record { class = class; pointee = t })) (same_end pointee type l.leads); known = l.pointer.known }; marked = λ kind. refl; buffered = refl })
  pointer_comes given class id pointee type (part ∷ parts) before l way held =
      comes_then whole main local_size rank f given (λ ids now after. ServeEach now (part ∷ parts) ids) (λ to now after. IsLed whole main local_size rank f now class id pointee (part ∷ parts) type to) before (indexes (part ∷ parts) before) (chain_by id class type)
      (indexes_sort (part ∷ parts) before) (indexes_come given (part ∷ parts) before l.indexes) (λ ids t. chain_sorts id class type ids t)
      (λ ids t now each wider extends inside. comes_then whole main local_size rank f now (λ to_type now after. IsPointerType whole class type to_type) (λ to now after. IsLed whole main local_size rank f now class id pointee (part ∷ parts) type to) t (pointer_type class type t)
      (giving op.ACCESS_CHAIN (id ∷ ids)) (pointer_type_sorts class type t) (pointer_type_comes now class type t way.begins.1 (held_later before t type extends held)) (λ to_type u. giving_sorts op.ACCESS_CHAIN (id ∷ ids) to_type u (λ to. refl))
      (λ to_type u later of wider_on extends_on inside_on.
      let k = leads_later given later class id pointee (part ∷ parts) type (λ id h. wider_on id (wider id h)) l in
      let serve = each_later now later (part ∷ parts) ids wider_on each in
      giving_made later op.ACCESS_CHAIN (id ∷ ids) to_type (λ to now after. IsLed whole main local_size rank f now class id pointee (part ∷ parts) type to) u (λ start. chain_stands later class id pointee type to_type (part ∷ parts) ids refl way.begins.0 way.few k serve of)
      (λ to after start inside is known. chain_led later class id pointee type to_type to part parts ids k serve of is known)))

  pub led_later : (given now : List ℕ) (class id pointee : ℕ) (parts : List Part) (type to : ℕ) → Wider given now → IsLed whole main local_size rank f given class id pointee parts type to → IsLed whole main local_size rank f now class id pointee parts type to
  led_later given now class id pointee parts type to wider l = record {
    pointer = record { leads = l.pointer.leads; known = known_wider whole main local_size sorted f given now to wider l.pointer.known };
    marked = l.marked;
    buffered = l.buffered;
  }
