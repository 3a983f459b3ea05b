-- Parts behind parts, and components of vectors.
use Rattle.std.proofs.Common.{◌≡◌, ℕ, Bool, true, false, cond, ◌&&◌, ◌||◌, not, List, [], ◌∷◌, ◌++◌, Option, Some, None, refl, sym, ap, ◌∙◌, arith}
use Rattle.std.specs.Prelude.{◌==◌}
use Rattle.std.specs.List.{AllByRecursion, list_any}
use Rattle.std.proofs.lemmas.Bool.{and_from, and_parts, not-true, not_from_false, true≢false}
use Rattle.std.proofs.lemmas.List.{length-append}
use Rattle.gsl_instr.specs.declared.enumerant.decoration.TheConstants as decoration
use Rattle.gsl_instr.specs.declared.enumerant.storage_class.TheConstants as storage_class
use Rattle.gsl_instr.specs.declared.instruction.Instruction.{Instruction}
use Rattle.gsl_instr.specs.declared.instruction.Instruction.TheVariants as instruction
use Rattle.gsl_tree.specs.Shapes.{Shape}
use Rattle.gsl_words.specs.declared.module.Module.{Module}
use Rattle.gsl_valid.specs.Kinds.{kind, shape_of}
use Rattle.gsl_valid.specs.MemoryRules.{chain_of, is_base, is_stored, marks, part_by}
use Rattle.gsl_valid.specs.Sections.{is_class}
use Rattle.gsl_valid.specs.Types.{defined_as}
use Rattle.gsl_spv.specs.Sections.{Sections}
use Rattle.gsl_lower_places.specs.Reached.{is_block_class, stored_scalar, stored_shape}
use Rattle.gsl_lower_places.specs.declared.reached.Base.TheVariants.{Variable}
use Rattle.gsl_lower_places.specs.declared.reached.Part.{Part}
use Rattle.gsl_lower_places.specs.declared.reached.Part.TheVariants.{Fixed}
use Rattle.gsl_lower_places.specs.declared.reached.Picked.{Picked}
use Rattle.gsl_fitting.specs.Fits.{Frame}
use Rattle.gsl_fitting_types.specs.Making.{AreSorted, IsSized, IsTypeOf, made}
use Rattle.gsl_fitting_types.proofs.Knowing.{vector_type_is}
use Rattle.gsl_fitting_operators.proofs.Composites.{vector_at}
use Rattle.gsl_fitting_places.specs.Leading.{IsIndex, IsWay, Leads, MayBegin, is_buffered, is_marked, led, led_by, marked_by, may_change, told_number}
use Rattle.gsl_fitting_places.specs.Places.{IsChoice, IsPlace, TakesMore, way, way_by}
use Rattle.gsl_fitting_places.proofs.Chains.{led_first}

-- ---- parts behind parts

or_behind : (a b c : Bool) → (a || (b || c)) ≡ ((a || b) || c)
or_behind true b c = refl
or_behind false b c = refl

pub led_on : (m : Module) (type last : ℕ) (parts more : List Part) → led m (Some type) parts ≡ Some last → led m (Some type) (parts ++ more) ≡ led m (Some last) more
led_on m type last [] more e = ap (λ o. led m o more) e
led_on m type last (part ∷ parts) more e =
    let (next, first, rest) = led_first m type last part parts e in
    ap (λ o. led m o (parts ++ more)) first ∙ led_on m next last parts more rest

pub marked_on : (m : Module) (kind type last : ℕ) (parts more : List Part) → led m (Some type) parts ≡ Some last → marked_by m kind (Some type) (parts ++ more) ≡ (marked_by m kind (Some type) parts || marked_by m kind (Some last) more)
marked_on m kind type last [] more e = ap (λ o. marked_by m kind o more) e
marked_on m kind type last (part ∷ parts) more e =
    let (next, first, rest) = led_first m type last part parts e in
    let here = marks m kind (told_number part) (shape_of (defined_as m type)) in
    ap (λ o. here || marked_by m kind o (parts ++ more)) first ∙ ap (λ b. here || b) (marked_on m kind next last parts more rest)
    ∙ or_behind here (marked_by m kind (Some next) parts) (marked_by m kind (Some last) more) ∙ ap (λ o. (here || marked_by m kind o parts) || marked_by m kind (Some last) more) (sym first)

pub all_more : (P : Part → Type 0) (parts : List Part) (part : Part) → AllByRecursion P parts → P part → AllByRecursion P (parts ++ part ∷ [])
all_more P [] part all one = (one, tt)
all_more P (first ∷ parts) part all one = (all.0, all_more P parts part all.1 one)

-- what a chain may begin at is no chain
pub no_chain : (o : Option Instruction) → is_base (kind o) ≡ true → chain_of o ≡ None
no_chain None h = refl
no_chain (Some (instruction.AccessChain type result base indexes)) h = absurd (true≢false (sym h))
no_chain _ h = refl

-- ---- shapes that are stored

pub stored_count : (class : ℕ) (shape : Shape) → (stored_shape class shape).1 ≡ shape.1
stored_count class shape = by (is_block_class class)
  where
    by : (b : Bool) → (cond b (stored_scalar shape.0, shape.1) shape).1 ≡ shape.1
    by true = refl
    by false = refl

module _ (whole : Sections) (main : ℕ) (local_size : List ℕ) (rank : ℕ → ℕ) (f : Frame) (sorted : AreSorted whole) where
  abbrev m : Module
  m = made whole main local_size rank f

  -- A part of a type leads to a scalar, and through no member of a struct.
  pub record Component (type : ℕ) (part : Part) (shape : Shape) : Type 0 where
    pub id : ℕ
    pub leads : led_by m type part ≡ Some id
    pub is : IsTypeOf whole shape id
    pub unmarked : (kind : ℕ) → marks m kind (told_number part) (shape_of (defined_as m type)) ≡ false

  component_of : (shape : Shape) (type : ℕ) (part : Part) → (shape.1 == 1) ≡ false → IsTypeOf whole shape type → Component type part (shape.0, 1)
  component_of shape type part several of =
      let v = vector_at whole main local_size rank f sorted shape type several of in
      let is = vector_type_is whole main local_size sorted v.component shape.1 type v.is in
      record { id = v.component; leads = ap (part_by true (told_number part)) is; is = v.scalar; unmarked = λ kind. ap (marks m kind (told_number part)) is }

  pub stored_component : (class : ℕ) (shape : Shape) (type : ℕ) (part : Part) → (shape.1 == 1) ≡ false → IsTypeOf whole (stored_shape class shape) type → Component type part (stored_shape class (shape.0, 1))
  stored_component class shape type part several of = by (is_block_class class) of
    where
      by : (b : Bool) → IsTypeOf whole (cond b (stored_scalar shape.0, shape.1) shape) type → Component type part (cond b (stored_scalar shape.0, 1) (shape.0, 1))
      by true of = component_of (stored_scalar shape.0, shape.1) type part several of
      by false of = component_of shape type part several of

  -- Parts of what a pointer leads to lead to a scalar or vector.
  pub record At (given : List ℕ) (class id pointee : ℕ) (parts : List Part) (shape : Shape) : Type 0 where
    pub type : ℕ
    pub leads : Leads whole main local_size rank f given class id pointee parts type
    pub of : IsTypeOf whole (stored_shape class shape) type
    pub along : IsWay m class id parts
    pub sized : IsSized shape

  -- ---- one index more

  pub way_begins : (class id : ℕ) (parts : List Part) → (is_base (kind (defined_as m id)) ≡ true) × (is_class m.version class ≡ true) → MayBegin m class id parts
  way_begins class id [] both = tt
  way_begins class id (part ∷ parts) both = both

  pub way_one : (class id : ℕ) (parts : List Part) (part : Part) → TakesMore whole main local_size rank f (Variable id class) parts → IsWay m class id (parts ++ part ∷ [])
  way_one class id parts part more = record { few = let room = more.0 in let e = length-append parts (part ∷ []) in omega (arith, room, e); begins = way_begins class id (parts ++ part ∷ []) (more.1, more.2) }

  -- where there is one, there may be another in its place
  pub way_more : (class id : ℕ) (parts : List Part) (part : Part) → IsWay m class id (parts ++ part ∷ []) → TakesMore whole main local_size rank f (Variable id class) parts
  way_more class id parts part along = let begins = by parts along.begins in (let few = along.few in let e = length-append parts (part ∷ []) in omega (arith, few, e), begins.0, begins.1)
    where
      by : (parts : List Part) → MayBegin m class id (parts ++ part ∷ []) → (is_base (kind (defined_as m id)) ≡ true) × (is_class m.version class ≡ true)
      by [] begins = begins
      by (first ∷ parts) begins = begins

  -- ---- one component

  module _ (given : List ℕ) (class id pointee type : ℕ) (parts : List Part) (part : Part) (shape : Shape) (several : (shape.1 == 1) ≡ false) (l : Leads whole main local_size rank f given class id pointee parts type) (of : IsTypeOf whole (stored_shape class shape) type) where
    c : Component type part (stored_shape class (shape.0, 1))
    c = stored_component class shape type part several of

    one_led : led m (Some pointee) (parts ++ part ∷ []) ≡ Some c.id
    one_led = led_on m pointee type parts (part ∷ []) l.leads ∙ ap (λ o. led m o []) c.leads

    pub one_at : IsIndex whole main local_size rank f given part → IsWay m class id (parts ++ part ∷ []) → At given class id pointee (parts ++ part ∷ []) (shape.0, 1)
    one_at index along = record {
      type = c.id;
      leads = record { pointer = l.pointer; indexes = all_more (IsIndex whole main local_size rank f given) parts part l.indexes index; leads = one_led };
      of = c.is;
      along = along;
      sized = record { some = omega arith; few = omega arith };
    }

    one_clear : (kind : ℕ) → marked_by m kind (Some type) (part ∷ []) ≡ false
    one_clear kind = ap (λ b. b || marked_by m kind (led_by m type part) []) (c.unmarked kind) ∙ ap (λ o. marked_by m kind o []) c.leads

    marked_one : (kind : ℕ) → marked_by m kind (Some pointee) (parts ++ part ∷ []) ≡ (marked_by m kind (Some pointee) parts || false)
    marked_one kind = marked_on m kind pointee type parts (part ∷ []) l.leads ∙ ap (λ b. marked_by m kind (Some pointee) parts || b) (one_clear kind)

  or_none : (b : Bool) → b ≡ false → (b || false) ≡ false
  or_none b e = ap (λ b. b || false) e

  pub one_unmarked : (given : List ℕ) (class id pointee type : ℕ) (parts : List Part) (part : Part) (shape : Shape) → (shape.1 == 1) ≡ false → Leads whole main local_size rank f given class id pointee parts type → IsTypeOf whole (stored_shape class shape) type → (kind : ℕ)
      → is_marked m kind id pointee parts ≡ false → is_marked m kind id pointee (parts ++ part ∷ []) ≡ false
  one_unmarked given class id pointee type [] part shape several l of kind e = marked_one given class id pointee type [] part shape several l of kind
  one_unmarked given class id pointee type (first ∷ parts) part shape several l of kind e = marked_one given class id pointee type (first ∷ parts) part shape several l of kind ∙ or_none (marked_by m kind (Some pointee) (first ∷ parts)) e

  pub one_changes : (given : List ℕ) (class id pointee type : ℕ) (parts : List Part) (part : Part) (shape : Shape) → (shape.1 == 1) ≡ false → Leads whole main local_size rank f given class id pointee parts type → IsTypeOf whole (stored_shape class shape) type → MayBegin m class id (parts ++ part ∷ [])
      → may_change m class id pointee parts ≡ true → may_change m class id pointee (parts ++ part ∷ []) ≡ true
  one_changes given class id pointee type parts part shape several l of begins may = by (class == storage_class.UNIFORM || class == storage_class.STORAGE_BUFFER) may
    where
      there : List ℕ
      there = storage_class.OUTPUT ∷ storage_class.PRIVATE ∷ storage_class.FUNCTION ∷ []

      buffered : (parts : List Part) → MayBegin m class id (parts ++ part ∷ []) → is_buffered m id parts ≡ true → is_buffered m id (parts ++ part ∷ []) ≡ true
      buffered [] begins h = absurd (true≢false (sym h ∙ ap (is_stored m) (no_chain (defined_as m id) begins.0)))
      buffered (first ∷ parts) begins h = h

      by : (b : Bool) → cond b (is_buffered m id parts && not (is_marked m decoration.NON_WRITABLE id pointee parts)) (list_any (λ c. c == class) there) ≡ true
          → cond b (is_buffered m id (parts ++ part ∷ []) && not (is_marked m decoration.NON_WRITABLE id pointee (parts ++ part ∷ []))) (list_any (λ c. c == class) there) ≡ true
      by true h =
          let both = and_parts (is_buffered m id parts) (not (is_marked m decoration.NON_WRITABLE id pointee parts)) h in
          and_from _ _ (buffered parts begins both.0) (not_from_false _ (one_unmarked given class id pointee type parts part shape several l of decoration.NON_WRITABLE (not-true _ both.1)))
      by false h = h

  -- ---- what is picked

  -- the shape to which the pointer leads
  abbrev pub shape_by : Shape → Option Part → List ℕ → Shape
  shape_by shape None (position ∷ []) = (shape.0, 1)
  shape_by shape None positions = shape
  shape_by shape (Some by) positions = (shape.0, 1)

  abbrev pub way_shape : Shape → Option Picked → Shape
  way_shape shape None = shape
  way_shape shape (Some p) = cond (p.shape.1 == 1) p.shape (shape_by p.shape p.by p.positions)

  -- the pointer that serves leads to this, through no member that has the decoration, and may be stored through
  pub record Served (given : List ℕ) (class id pointee : ℕ) (from parts : List Part) (shape : Shape) : Type 0 where
    pub at : At given class id pointee parts shape
    pub unmarked : (kind : ℕ) → is_marked m kind id pointee from ≡ false → is_marked m kind id pointee parts ≡ false
    pub changes : may_change m class id pointee from ≡ true → may_change m class id pointee parts ≡ true

  served_same : (given : List ℕ) (class id : ℕ) (parts : List Part) (shape : Shape) (pointee type : ℕ) → Leads whole main local_size rank f given class id pointee parts type → IsTypeOf whole (stored_shape class shape) type → IsWay m class id parts → IsSized shape
      → Served given class id pointee parts parts shape
  served_same given class id parts shape pointee type l of along sized = record { at = record { type = type; leads = l; of = of; along = along; sized = sized }; unmarked = λ kind h. h; changes = λ h. h }

  served_one : (given : List ℕ) (class id : ℕ) (parts : List Part) (part : Part) (shape : Shape) (pointee type : ℕ) → (shape.1 == 1) ≡ false → Leads whole main local_size rank f given class id pointee parts type → IsTypeOf whole (stored_shape class shape) type → IsIndex whole main local_size rank f given part
      → IsWay m class id (parts ++ part ∷ []) → Served given class id pointee parts (parts ++ part ∷ []) (shape.0, 1)
  served_one given class id parts part shape pointee type several l of index along = record {
    at = one_at given class id pointee type parts part shape several l of index along;
    unmarked = λ kind h. one_unmarked given class id pointee type parts part shape several l of kind h;
    changes = λ h. one_changes given class id pointee type parts part shape several l of along.begins h;
  }

  pub served_by : (given : List ℕ) (class id : ℕ) (parts : List Part) (shape : Shape) (picked : Option Picked) → (p : IsPlace whole main local_size rank f given class id parts shape picked) → Served given class id p.pointee parts (way parts picked) (way_shape shape picked)
  served_by given class id parts shape None p = served_same given class id parts shape p.pointee p.type p.leads p.of p.along p.is
  served_by given class id parts shape (Some k) p = by (k.shape.1 == 1) refl p.along
    where
      by_part : (k.shape.1 == 1) ≡ false → (by : Option Part) → IsChoice whole main local_size rank f given by → (positions : List ℕ) → IsWay m class id (way_by parts by positions) → Served given class id p.pointee parts (way_by parts by positions) (shape_by k.shape by positions)
      by_part several None choice [] along = served_same given class id parts k.shape p.pointee p.type p.leads p.of along p.is.sized
      by_part several None choice (position ∷ []) along = served_one given class id parts (Fixed position) k.shape p.pointee p.type several p.leads p.of tt along
      by_part several None choice (position ∷ other ∷ positions) along = served_same given class id parts k.shape p.pointee p.type p.leads p.of along p.is.sized
      by_part several (Some part) choice positions along = served_one given class id parts part k.shape p.pointee p.type several p.leads p.of choice along

      by : (b : Bool) → (k.shape.1 == 1) ≡ b → IsWay m class id (cond b parts (way_by parts k.by k.positions)) → Served given class id p.pointee parts (cond b parts (way_by parts k.by k.positions)) (cond b k.shape (shape_by k.shape k.by k.positions))
      by true e along = served_same given class id parts k.shape p.pointee p.type p.leads p.of along p.is.sized
      by false e along = by_part e k.by p.is.by k.positions along
