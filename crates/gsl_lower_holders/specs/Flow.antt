-- What lowering works on: what a builder holds and the place in the function, and what a part of lowering comes to.
use Rattle.std.specs.Prelude.{◌≡◌, ℕ, if◌then◌else◌, List, [], ◌∷◌, ◌++◌, slice_get, Option, Some, None, Result, Ok, Err}
use Rattle.gsl_instr.specs.declared.op.TheConstants as op
use Rattle.gsl_types.specs.declared.ty.Ty.{Ty}
use Rattle.gsl_tree.specs.Shapes.{Shape, shape_of}
use Rattle.gsl_overload.specs.Identity.{identical}
use Rattle.gsl_spv.specs.Calls.{take}
use Rattle.gsl_spv.specs.Sections.{Sections}
use Rattle.gsl_lower_values.specs.Building.{Built, Made, Full, Step, giving, id_by, putting}
use Rattle.gsl_lower_values.specs.Types as types
use Rattle.gsl_lower_holders.specs.declared.place.FlowPlace.{FlowPlace}
use Rattle.gsl_spv.specs.declared.refusal.BuildRefusal.{BuildRefusal}
use Rattle.gsl_spv.specs.declared.refusal.BuildRefusal.TheVariants.{TooManyIds, Memory}

pub record Flow : Type 0 where
  pub sections : Sections
  pub place : FlowPlace

-- What is given, with what there is then; or an id, a holder or a type is wanting.
pub data Lowered (A : Type 0) : Type 0 where
  Gives : (given : A) (flow : Flow) → Lowered A
  Lacks : Lowered A

abbrev pub Emit : Type 0 → Type 0
Emit A = Flow → Lowered A

abbrev pub behind : {A B : Type 0} → Lowered A → (A → Emit B) → Lowered B
behind (Gives a flow) next = next a flow
behind Lacks next = Lacks

-- goes on with what was given
infixl 10 ◌>>=◌
abbrev pub ◌>>=◌ : {A B : Type 0} → Emit A → (A → Emit B) → Emit B
(first >>= next) flow = behind (first flow) next

abbrev pub given : {A : Type 0} → A → Emit A
given a flow = Gives a flow

abbrev pub lacking : {A : Type 0} → Emit A
lacking flow = Lacks

-- ---- one part for each of some items

-- what is given for items, in their order
unfoldable pub each : {A B : Type 0} → (A → Emit B) → List A → Emit (List B)
each emit [] = given []
each emit (a ∷ items) = emit a >>= (λ b. each emit items >>= (λ more. given (b ∷ more)))

-- what is given behind items that were given before
abbrev pub with_front : {A : Type 0} → List A → Lowered (List A) → Lowered (List A)
with_front front (Gives items flow) = Gives (front ++ items) flow
with_front front Lacks = Lacks

-- ---- steps of the builder

abbrev pub built_in : {A : Type 0} → FlowPlace → Built A → Lowered A
built_in place (Made a sections) = Gives a (record { sections = sections; place = place })
built_in place Full = Lacks

-- a step that leaves the place as it is
abbrev pub lift : {A : Type 0} → Step A → Emit A
lift step flow = built_in flow.place (step flow.sections)

abbrev pub putting_here : ℕ → List ℕ → Emit (Unit {0})
putting_here code operands = lift (putting code operands)

abbrev pub giving_here : ℕ → List ℕ → ℕ → Emit ℕ
giving_here code operands type = lift (giving code operands type)

-- a new id
abbrev pub fresh : Emit ℕ
fresh = lift (id_by take)

-- ---- what the place tells

-- an id of a list, by its number
abbrev pub id_at : Option ℕ → Emit ℕ
id_at None = lacking
id_at (Some id) = given id

abbrev pub told : (FlowPlace → List ℕ) → ℕ → Emit ℕ
told list number flow = id_at (slice_get (list flow.place) number) flow

abbrev pub find_type : Ty → List (Ty × ℕ) → Option ℕ
find_type ty [] = None
find_type ty (entry ∷ entries) = if identical ty entry.0 then Some entry.1 else find_type ty entries

abbrev pub composite_type : Ty → Emit ℕ
composite_type ty flow = id_at (find_type ty flow.place.composites) flow

abbrev pub type_by : Ty → Option Shape → Emit ℕ
type_by ty None = composite_type ty
type_by ty (Some shape) = lift (types.type_of shape)

-- the type that stands for one of the program outside blocks
unfoldable pub type_id : Ty → Emit ℕ
type_id ty = type_by ty (shape_of ty)

-- ---- blocks

-- a block begins
unfoldable pub opening : ℕ → Emit (Unit {0})
opening label = putting_here op.LABEL (label ∷ []) >>= (λ done flow. Gives tt (record flow { place = record flow.place { label = label } }))

-- ---- how a call of the code answers

-- A call that gives nothing would have had to give too great an id, or it wanted memory or what should have been declared.
abbrev pub Refuses : {A : Type 0} → BuildRefusal → Lowered A → Type 0
Refuses TooManyIds lowered = lowered ≡ Lacks
Refuses Memory lowered = Unit {0}

abbrev pub flow_of : Sections → FlowPlace → Flow
flow_of sections place = record { sections = sections; place = place }

-- Unless it wanted memory, it came to this, and left the builder and the place so.
abbrev pub Does : {A : Type 0} → Result A BuildRefusal → Sections → FlowPlace → Lowered A → Type 0
Does (Ok a) sections place lowered = lowered ≡ Gives a (flow_of sections place)
Does (Err refusal) sections place lowered = Refuses refusal lowered
