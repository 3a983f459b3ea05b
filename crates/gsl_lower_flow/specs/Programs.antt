-- The module that a program is lowered to, for a target (SPIR-V 1.0, 2.4).
use Rattle.std.specs.Prelude.{◌≡◌, ℕ, Bool, true, false, ◌||◌, ◌==◌, if◌then◌else◌, List, [], ◌∷◌, ◌++◌, Option, Some, None, Result, Ok, Err}
use Rattle.gsl_words.specs.declared.module.Module.{Module}
use Rattle.gsl_words.specs.declared.target.Target.{Target}
use Rattle.gsl_tree.specs.declared.expr.StageVar.{StageVar}
use Rattle.gsl_tree.specs.declared.expr.StageVar.TheVariants.{NumWorkGroups, WorkGroupId, LocalInvocationId, GlobalInvocationId, LocalInvocationIndex, VertexIndex, InstanceIndex}
use Rattle.gsl_tree.specs.declared.program.Program.{Program}
use Rattle.gsl_tree.specs.declared.unit.Function.{Function}
use Rattle.gsl_tree.specs.declared.unit.Prototype.{Prototype}
use Rattle.gsl_spv.specs.Calls as call
use Rattle.gsl_spv.specs.Finished.{module_of}
use Rattle.gsl_spv.specs.Sections.{Sections, empty}
use Rattle.gsl_spv.specs.declared.refusal.BuildRefusal.{BuildRefusal}
use Rattle.gsl_spv.specs.declared.refusal.BuildRefusal.TheVariants.{TooManyIds, Memory}
use Rattle.gsl_lower_values.specs.Building as steps
use Rattle.gsl_lower_values.specs.Building.{Built as Made-or-full, Made, Full, Step}
use Rattle.gsl_lower_holders.specs.declared.place.FlowPlace.{FlowPlace}
use Rattle.gsl_lower_holders.specs.Flow.{Emit, Lowered, Gives, Lacks, behind, ◌>>=◌, flow_of, given, told}
use Rattle.gsl_lower_types.specs.declared.blocks.LaidTypes.{LaidTypes}
use Rattle.gsl_lower_types.specs.Known.{Known, Put, all, only}
use Rattle.gsl_lower_types.specs.Values.{program_types, value_type}
use Rattle.gsl_lower_types.specs.Blocks.{blocks_put, classes_of}
use Rattle.gsl_lower_types.specs.Globals.{globals_put}
use Rattle.gsl_lower_types.specs.Interfaces.{interfaces_put, stage_put}
use Rattle.gsl_lower_expr.specs.Coming.{setting_of}
use Rattle.gsl_lower_expr.specs.Lowering.{Setting}
use Rattle.gsl_lower_expr.specs.Parts.{stage_number}
use Rattle.gsl_lower_needs.specs.declared.need.Need.{Need}
use Rattle.gsl_lower_needs.specs.declared.need.Need.TheVariants.{Holder, Built, Stage}
use Rattle.gsl_lower_needs.specs.Asking as asking
use Rattle.gsl_lower_needs.specs.Asking.{Ask}
use Rattle.gsl_lower_needs.specs.Bodies as needs
use Rattle.gsl_lower_flow.specs.Functions.{asked_of, function_put}
use Rattle.gsl_lower_flow.specs.Reaching.{is_lowered, main_head}

-- ---- what is asked for

abbrev pub asked_if : Bool → List Prototype → Function → Ask (Unit {0})
asked_if false prototypes f = asking.given tt
asked_if true prototypes f = asking.◌>>=◌ (needs.row prototypes f.body) (λ left. asking.given tt)

-- what some of these functions ask for, one after the other
unfoldable pub asked_all : (Function → Bool) → List Prototype → List Function → Ask (Unit {0})
asked_all is prototypes [] = asking.given tt
asked_all is prototypes (f ∷ functions) = asking.◌>>=◌ (asked_if (is f) prototypes f) (λ done. asked_all is prototypes functions)

abbrev pub asked_by : (Function → Bool) → Program → List Need
asked_by is p = asked_of (asked_all is p.prototypes p.functions [])

abbrev pub program_needs : Program → List Need
program_needs p = asked_by (is_lowered p) p

-- the type of what is built
unfoldable pub built_type : Need → Put (Unit {0})
built_type (Holder t) known = steps.given (tt, known)
built_type (Built t) known = only (value_type t) known
built_type (Stage var) known = steps.given (tt, known)

unfoldable pub built_types : List Need → Put (Unit {0})
built_types asked = all built_type asked

abbrev pub is_var : StageVar → Need → Bool
is_var var (Holder t) = false
is_var var (Built t) = false
is_var var (Stage other) = stage_number other == stage_number var

abbrev pub uses : List Need → StageVar → Bool
uses [] var = false
uses (one ∷ more) var = is_var var one || uses more var

-- the id of a built-in variable, where it is used
unfoldable pub stage_if : List Need → StageVar → Step ℕ
stage_if asked var = if uses asked var then stage_put var else steps.given 0

abbrev pub compute_stages : List Need → Step (List ℕ)
compute_stages asked =
    steps.◌>>=◌ (stage_if asked NumWorkGroups) (λ groups. steps.◌>>=◌ (stage_if asked WorkGroupId) (λ group. steps.◌>>=◌ (stage_if asked LocalInvocationId) (λ local.
    steps.◌>>=◌ (stage_if asked GlobalInvocationId) (λ global. steps.◌>>=◌ (stage_if asked LocalInvocationIndex) (λ index. steps.given (groups ∷ group ∷ local ∷ global ∷ index ∷ []))))))

abbrev pub vertex_stages : List Need → Step (List ℕ)
vertex_stages asked = steps.◌>>=◌ (stage_if asked VertexIndex) (λ vertex. steps.◌>>=◌ (stage_if asked InstanceIndex) (λ instance. steps.given (vertex ∷ instance ∷ [])))

-- the ids of the built-in variables by their numbers, and 0 for each that is not used
unfoldable pub stages : List Need → Step (List ℕ)
stages asked = steps.◌>>=◌ (compute_stages asked) (λ first. steps.◌>>=◌ (vertex_stages asked) (λ second. steps.given (first ++ second)))

-- ---- what stands outside functions

abbrev pub nothing_laid : LaidTypes
nothing_laid = record { std140 = []; std430 = [] }

abbrev pub place : List ℕ → Known → List ℕ → List ℕ → List ℕ → List ℕ → List ℕ → FlowPlace
place heads known blocks classes globals interfaces stages = record {
  label = 0;
  locals = [];
  params = [];
  globals = globals;
  blocks = blocks;
  classes = classes;
  interfaces = interfaces;
  stage_vars = stages;
  functions = heads;
  composites = known;
  holders = [];
  used = 0;
}

-- an id for each head, the types, and the variables outside functions
unfoldable pub declared : Target → Program → List Need → Step FlowPlace
declared target p asked =
    steps.◌>>=◌ (steps.in_order (λ (one : Prototype). steps.id_by call.take) p.prototypes) (λ heads.
    steps.◌>>=◌ (program_types p []) (λ types.
    steps.◌>>=◌ (built_types asked types.1) (λ built.
    steps.◌>>=◌ (blocks_put target p.structs p.blocks nothing_laid) (λ blocks.
    steps.◌>>=◌ (globals_put p.structs p.globals built.1) (λ globals.
    steps.◌>>=◌ (interfaces_put p.interfaces globals.1) (λ interfaces.
    steps.◌>>=◌ (stages asked) (λ ids.
    steps.given (place heads interfaces.1 blocks.0 (classes_of target p.blocks) globals.0 interfaces.0 ids))))))))

-- ---- the program

abbrev pub from_there : Made-or-full FlowPlace → Lowered (Unit {0})
from_there (Made p sections) = Gives tt (flow_of sections p)
from_there Full = Lacks

abbrev pub put_if : Bool → Setting → List Prototype → Function → Emit (Unit {0})
put_if false s prototypes f = given tt
put_if true s prototypes f = function_put s prototypes f

-- some of these functions, in their order
unfoldable pub functions_put : (Function → Bool) → Setting → List Prototype → List Function → Emit (Unit {0})
functions_put is s prototypes [] = given tt
functions_put is s prototypes (f ∷ functions) = put_if (is f) s prototypes f >>= (λ done. functions_put is s prototypes functions)

abbrev pub program_setting : Program → Setting
program_setting p = setting_of p.structs p.interfaces p.prototypes

abbrev pub told_main : Program → Emit ℕ
told_main p = told (λ place. place.functions) (main_head p)

-- the functions, and the id of `main`
abbrev pub put_by : (Function → Bool) → Program → Emit ℕ
put_by is p = functions_put is (program_setting p) p.prototypes p.functions >>= (λ done. told_main p)

abbrev pub lowered_by : (Function → Bool) → Target → Program → Sections → Lowered ℕ
lowered_by is target p sections = behind (from_there (declared target p (asked_by is p) sections)) (λ done. put_by is p)

unfoldable pub lowered : Target → Program → Sections → Lowered ℕ
lowered target p sections = lowered_by (is_lowered p) target p sections

abbrev pub module_by : Program → Lowered ℕ → Option Module
module_by p (Gives main flow) = Some (module_of flow.sections main p.local_size)
module_by p Lacks = None

-- the module of a program for a target, unless an id would be too great
unfoldable pub module_for : Target → Program → Option Module
module_for target p = module_by p (lowered target p (empty p.stage target))

-- how a call answers that makes the place anew
abbrev pub Gives-id : Result ℕ BuildRefusal → Sections → Lowered ℕ → Type 0
Gives-id (Ok id) sections lowered = (p : FlowPlace) × (lowered ≡ Gives id (flow_of sections p))
Gives-id (Err TooManyIds) sections lowered = lowered ≡ Lacks
Gives-id (Err Memory) sections lowered = Unit {0}

-- how a call answers that makes the module of what a builder holds
abbrev pub Finishes : Sections → ℕ → List ℕ → Result Module BuildRefusal → Type 0
Finishes sections main local_size (Ok m) = m ≡ module_of sections main local_size
Finishes sections main local_size (Err TooManyIds) = ⊥
Finishes sections main local_size (Err Memory) = Unit {0}

-- How the call answers, unless it wanted memory.
abbrev pub Answers : Target → Program → Result Module BuildRefusal → Type 0
Answers target p (Ok m) = module_for target p ≡ Some m
Answers target p (Err TooManyIds) = module_for target p ≡ None
Answers target p (Err Memory) = Unit {0}
