-- The variables of blocks and the inputs of a program are put in their order, and of those classes nothing else but built-in variables.
use Rattle.std.proofs.Common.{◌≡◌, refl, sym, ap, ◌∙◌, subst, ℕ, ◌+◌, Bool, true, false, List, [], ◌∷◌, ◌++◌, Option, Some, None, if◌then◌else◌, append-nil}
use Rattle.std.specs.Prelude.{option_to_list}
use Rattle.std.specs.List.{AllByRecursion, Contains, cons_option}
use Rattle.std.proofs.lemmas.Bool.{cond-true}
use Rattle.std.proofs.lemmas.List.Elements.{Contains-append_left, Contains-push}
use Rattle.gsl_instr.specs.declared.enumerant.decoration.TheConstants as decoration
use Rattle.gsl_instr.specs.declared.enumerant.storage_class.TheConstants as storage_class
use Rattle.gsl_types.specs.declared.ty.StructType.{StructType}
use Rattle.gsl_words.specs.declared.module.Instr.{Instr}
use Rattle.gsl_words.specs.declared.target.Target.{Target}
use Rattle.gsl_words.specs.declared.target.Target.TheVariants.{V10, V13}
use Rattle.gsl_tree.specs.Laying.{layout_of}
use Rattle.gsl_tree.specs.declared.expr.StageVar.{StageVar}
use Rattle.gsl_tree.specs.declared.expr.StageVar.TheVariants.{NumWorkGroups, WorkGroupId, LocalInvocationId, GlobalInvocationId, LocalInvocationIndex, VertexIndex, InstanceIndex}
use Rattle.gsl_tree.specs.declared.program.Program.{Program}
use Rattle.gsl_tree.specs.declared.unit.Block.{Block}
use Rattle.gsl_tree.specs.declared.unit.BlockKind.{BlockKind}
use Rattle.gsl_tree.specs.declared.unit.BlockKind.TheVariants.{Uniform, Buffer, Push}
use Rattle.gsl_tree.specs.declared.unit.Interface.{Interface}
use Rattle.gsl_tree.specs.declared.unit.Prototype.{Prototype}
use Rattle.gsl_valid.specs.Kinds.{Variable}
use Rattle.gsl_valid.specs.Placed.{Code}
use Rattle.gsl_spv.specs.Calls as call
use Rattle.gsl_spv.specs.Calls.{declare, decorating}
use Rattle.gsl_spv.specs.Declarations as d
use Rattle.gsl_spv.specs.Sections.{Sections}
use Rattle.gsl_spv.specs.declared.plain.PlainConst.TheVariants as of
use Rattle.gsl_spv.specs.declared.plain.PlainType.TheVariants as plain
use Rattle.gsl_lower_values.specs.Building.{Step, Made, ◌>>=◌, given, id_by, in_order}
use Rattle.gsl_lower_values.specs.Types.{type_of}
use Rattle.gsl_lower_holders.specs.declared.place.FlowPlace.{FlowPlace}
use Rattle.gsl_lower_needs.specs.declared.need.Need.{Need}
use Rattle.gsl_lower_needs.specs.declared.need.Need.TheVariants.{Holder, Built, Stage}
use Rattle.gsl_lower_places.specs.Reading.{pointer_type}
use Rattle.gsl_lower_types.specs.Blocks.{block_by, block_in, block_laid, block_marked, block_put, blocks_put, bound_by, by_rule, class_of, classes_of, with_std140, with_std430}
use Rattle.gsl_lower_types.specs.Declaring.{decorated, variable_in}
use Rattle.gsl_lower_types.specs.Globals.{globals_put}
use Rattle.gsl_lower_types.specs.Interfaces.{built_in_of, built_in_variable, flat_where, interface_put, interface_variable, interfaces_put, located, plain_variable, stage_put, stage_shape}
use Rattle.gsl_lower_types.specs.Known.{Known, all, aside, each}
use Rattle.gsl_lower_types.specs.Values.{program_types, value_type}
use Rattle.gsl_lower_types.specs.declared.blocks.LaidTypes.{LaidTypes}
use Rattle.gsl_lower_types.proofs.Finding.{came}
use Rattle.gsl_lower_flow.specs.Programs.{built_type, built_types, compute_stages, declared, nothing_laid, place, stage_if, stages, uses, vertex_stages}
use Rattle.gsl_lower_law_outputs.proofs.OfLawInputs.{made_by, same_after, same_made}
use Rattle.gsl_lower_law_outputs.proofs.Outputs.{Puts, puts_same, puts_then, quiet_walks, variable_put}
use Rattle.gsl_lower_law_outputs.proofs.Walking as walk
use Rattle.gsl_lower_law_outputs.proofs.Walking.{Walks}
use Rattle.gsl_lower_law_asking.specs.Asked.{is_asked}

abbrev Quiet : Sections → Sections → Type 0
Quiet s after = Puts is_asked s after []

still : Walks is_asked Quiet
still = quiet_walks is_asked

abbrev AddsQuiet : {A : Type 0} → Step A → Type 0
AddsQuiet {A} step = (s : Sections) (a : A) (after : Sections) → step s ≡ Made a after → Puts is_asked s after []

-- ---- a variable

-- One variable of a class is put, under an id.
record PutsVariable (class : ℕ) (s : Sections) (id : ℕ) (after : Sections) : Type 0 where
  variable : Variable
  puts : Puts is_asked s after (variable ∷ [])
  named : variable.id ≡ id
  classed : variable.class ≡ class

variable_is_put : (class type : ℕ) (init : Option ℕ) (s : Sections) (id : ℕ) (after : Sections) → is_asked class ≡ true → variable_in class type init s ≡ Made id after → PutsVariable class s id after
variable_is_put class type init s id after asked made =
    let x = came (pointer_type class type s) (λ pointer. id_by (call.global pointer class init)) id after made in
    let e = made_by (declare (d.variable x.first class init)) x.between id after x.then_ in
    let v : Variable = record { type = x.first; id = x.between.last + 1; class = class; initialiser = option_to_list init } in
    let pointer = walk.asks is_asked Quiet still (call.plain_type (plain.Pointer class type)) (walk.plain_type is_asked Quiet still (plain.Pointer class type)) s x.first x.between x.made in
    let here : Puts is_asked x.between (declare (d.variable x.first class init) x.between).sections (v ∷ []) =
    subst (Puts is_asked x.between (declare (d.variable x.first class init) x.between).sections) (ap (λ o. cons_option o []) (cond-true (is_asked class) (Some v) None asked)) (variable_put is_asked x.first class init x.between) in
    record { variable = v; puts = puts_then is_asked pointer (subst (λ t. Puts is_asked x.between t (v ∷ [])) e.1 here); named = e.0; classed = refl }

-- behind what puts none, and before what puts none
around : {class id : ℕ} {r s t after : Sections} → Puts is_asked r s [] → PutsVariable class s id t → Puts is_asked t after [] → PutsVariable class r id after
around before one behind = record { variable = one.variable; puts = puts_then is_asked before (puts_then is_asked one.puts behind); named = one.named; classed = one.classed }

-- ---- a block

class_asked : (target : Target) (kind : BlockKind) → is_asked (class_of target kind) ≡ true
class_asked target Uniform = refl
class_asked target Push = refl
class_asked V10 Buffer = refl
class_asked V13 Buffer = refl

block_by_is : (target : Target) (block : Block) (struct : ℕ) (s : Sections) (id : ℕ) (after : Sections) → block_by target block struct s ≡ Made id after → PutsVariable (class_of target block.kind) s id after
block_by_is target block struct s id after made =
    let a = came (block_marked target block struct s) _ id after made in
    let b = came (variable_in (class_of target block.kind) struct None a.between) (λ new. bound_by block.kind block.set block.binding new >>= (λ done. given new)) id after a.then_ in
    let c = came (bound_by block.kind block.set block.binding b.first b.between) (λ done. given b.first) id after b.then_ in
    let marks = walk.marks_add is_asked Quiet still target block struct s a.first a.between a.made in
    let one = variable_is_put (class_of target block.kind) struct None a.between b.first b.between (class_asked target block.kind) b.made in
    let bound = walk.bound_adds is_asked Quiet still block.kind block.set block.binding b.first b.between c.first c.between c.made in
    subst (λ n. PutsVariable (class_of target block.kind) s n after) (same_made b.first id c.between after c.then_)
    (around marks one (subst (λ t. Puts is_asked b.between t []) (same_after b.first id c.between after c.then_) bound))

block_is_put : (target : Target) (structs : List StructType) (block : Block) (known : Known) (s : Sections) (r : ℕ × Known) (after : Sections) → block_put target structs block known s ≡ Made r after → PutsVariable (class_of target block.kind) s r.0 after
unfolding block_put
block_is_put target structs block known s r after made =
    let c = came (block_laid structs (layout_of structs block) block known s) (λ r. aside (block_by target block r.0) r.1) r after made in
    let x = came (block_by target block c.first.0 c.between) (λ a. given (a, c.first.1)) r after c.then_ in
    let laid = walk.struct_laid_adds is_asked Quiet still structs block known s c.first c.between c.made in
    let one = block_by_is target block c.first.0 c.between x.first x.between x.made in
    subst (λ n. PutsVariable (class_of target block.kind) s n after) (ap (λ (z : ℕ × Known). z.0) (same_made (x.first, c.first.1) r x.between after x.then_))
    (around laid one (subst (λ t. Puts is_asked x.between t []) (same_after (x.first, c.first.1) r x.between after x.then_) (puts_same is_asked x.between)))

rule_is_put : (std140 : Bool) (target : Target) (structs : List StructType) (block : Block) (laid : LaidTypes) (s : Sections) (r : ℕ × LaidTypes) (after : Sections) → by_rule std140 (block_put target structs block) laid s ≡ Made r after → PutsVariable (class_of target block.kind) s r.0 after
rule_is_put true target structs block laid s r after made =
    let c = came (block_put target structs block laid.std140 s) (with_std140 laid) r after made in
    let one = block_is_put target structs block laid.std140 s c.first c.between c.made in
    subst (λ n. PutsVariable (class_of target block.kind) s n after) (ap (λ (z : ℕ × LaidTypes). z.0) (same_made (c.first.0, record laid { std140 = c.first.1 }) r c.between after c.then_))
    (around (puts_same is_asked s) one (subst (λ t. Puts is_asked c.between t []) (same_after (c.first.0, record laid { std140 = c.first.1 }) r c.between after c.then_) (puts_same is_asked c.between)))
rule_is_put false target structs block laid s r after made =
    let c = came (block_put target structs block laid.std430 s) (with_std430 laid) r after made in
    let one = block_is_put target structs block laid.std430 s c.first c.between c.made in
    subst (λ n. PutsVariable (class_of target block.kind) s n after) (ap (λ (z : ℕ × LaidTypes). z.0) (same_made (c.first.0, record laid { std430 = c.first.1 }) r c.between after c.then_))
    (around (puts_same is_asked s) one (subst (λ t. Puts is_asked c.between t []) (same_after (c.first.0, record laid { std430 = c.first.1 }) r c.between after c.then_) (puts_same is_asked c.between)))

-- These are the variables of blocks, in their order, by the ids of these.
pub data AreBlocks (target : Target) : List Block → List ℕ → List Variable → Type 0 where
  no_block : AreBlocks target [] [] []
  block : {b : Block} {blocks : List Block} {id : ℕ} {ids : List ℕ} {vs : List Variable} (v : Variable) → v.id ≡ id → v.class ≡ class_of target b.kind → AreBlocks target blocks ids vs → AreBlocks target (b ∷ blocks) (id ∷ ids) (v ∷ vs)

record PutsBlocks (target : Target) (blocks : List Block) (s : Sections) (ids : List ℕ) (after : Sections) : Type 0 where
  variables : List Variable
  puts : Puts is_asked s after variables
  are : AreBlocks target blocks ids variables

blocks_are : (target : Target) (structs : List StructType) (blocks : List Block) (laid : LaidTypes) (s : Sections) (r : List ℕ × LaidTypes) (after : Sections) → blocks_put target structs blocks laid s ≡ Made r after → PutsBlocks target blocks s r.0 after
unfolding blocks_put block_in
blocks_are target structs [] laid s r after made =
    subst (λ ids. PutsBlocks target [] s ids after) (ap (λ (z : List ℕ × LaidTypes). z.0) (same_made ([], laid) r s after made))
    (subst (PutsBlocks target [] s []) (same_after ([], laid) r s after made) (record { variables = []; puts = puts_same is_asked s; are = AreBlocks.no_block }))
blocks_are target structs (b ∷ blocks) laid s r after made =
    let c = came (by_rule b.std140 (block_put target structs b) laid s) (λ r. blocks_put target structs blocks r.1 >>= (λ rs. given (r.0 ∷ rs.0, rs.1))) r after made in
    let x = came (blocks_put target structs blocks c.first.1 c.between) (λ rs. given (c.first.0 ∷ rs.0, rs.1)) r after c.then_ in
    let first = rule_is_put b.std140 target structs b laid s c.first c.between c.made in
    let rest = blocks_are target structs blocks c.first.1 c.between x.first x.between x.made in
    subst (λ ids. PutsBlocks target (b ∷ blocks) s ids after) (ap (λ (z : List ℕ × LaidTypes). z.0) (same_made (c.first.0 ∷ x.first.0, x.first.1) r x.between after x.then_))
    (subst (PutsBlocks target (b ∷ blocks) s (c.first.0 ∷ x.first.0)) (same_after (c.first.0 ∷ x.first.0, x.first.1) r x.between after x.then_)
    (record { variables = first.variable ∷ rest.variables; puts = puts_then is_asked first.puts rest.puts; are = AreBlocks.block first.variable first.named first.classed rest.are }))

-- ---- an input or output

-- An output is none of them, and an input is one under its id.
abbrev IsInput : Bool → ℕ → List Variable → Type 0
IsInput true id vs = vs ≡ []
IsInput false id vs = (v : Variable) × (vs ≡ v ∷ []) × (v.id ≡ id) × (v.class ≡ storage_class.INPUT)

record PutsOne (output : Bool) (s : Sections) (id : ℕ) (after : Sections) : Type 0 where
  variables : List Variable
  puts : Puts is_asked s after variables
  are : IsInput output id variables

plain_is_put : (output : Bool) (type : ℕ) (s : Sections) (id : ℕ) (after : Sections) → plain_variable output type s ≡ Made id after → PutsOne output s id after
plain_is_put true type s id after made = record {
  variables = [];
  puts = walk.then_ is_asked Quiet still (id_by (call.constant (of.Null type))) (λ zero. variable_in storage_class.OUTPUT type (Some zero)) (walk.asks is_asked Quiet still (call.constant (of.Null type)) (walk.constant_grows is_asked Quiet still (of.Null type)))
      (λ zero. walk.variable_adds is_asked Quiet still storage_class.OUTPUT type (Some zero) refl) s id after made;
  are = refl;
}
plain_is_put false type s id after made =
    let one = variable_is_put storage_class.INPUT type None s id after refl made in
    record { variables = one.variable ∷ []; puts = one.puts; are = (one.variable, refl, one.named, one.classed) }

flat_quiet : (flat : Bool) (id : ℕ) → AddsQuiet (flat_where flat id)
flat_quiet true id = walk.decorated_adds is_asked Quiet still id None decoration.FLAT None
flat_quiet false id = walk.gives is_asked Quiet still tt

located_quiet : (i : Interface) (new : ℕ) (s : Sections) (id : ℕ) (after : Sections) → located i new s ≡ Made id after → Puts is_asked s after [] × (new ≡ id)
located_quiet i new s id after made =
    let c = came (decorated new None decoration.LOCATION (Some i.location) s) (λ a. flat_where i.flat new >>= (λ b. given new)) id after made in
    let x = came (flat_where i.flat new c.between) (λ b. given new) id after c.then_ in (
      puts_then is_asked (walk.decorated_adds is_asked Quiet still new None decoration.LOCATION (Some i.location) s c.first c.between c.made) (subst (λ t. Puts is_asked c.between t []) (same_after new id x.between after x.then_) (flat_quiet i.flat new c.between x.first x.between x.made)),
      same_made new id x.between after x.then_,
    )

interface_is_put : (i : Interface) (known : Known) (s : Sections) (r : ℕ × Known) (after : Sections) → interface_put i known s ≡ Made r after → PutsOne i.output s r.0 after
unfolding interface_put
interface_is_put i known s r after made =
    let c = came (value_type i.ty known s) (λ r. aside (interface_variable i r.0) r.1) r after made in
    let x = came (interface_variable i c.first.0 c.between) (λ a. given (a, c.first.1)) r after c.then_ in
    let y = came (plain_variable i.output c.first.0 c.between) (located i) x.first x.between x.made in
    let marked = located_quiet i y.first y.between x.first x.between y.then_ in
    let one = plain_is_put i.output c.first.0 c.between y.first y.between y.made in
    let id_is : y.first ≡ r.0 = marked.1 ∙ ap (λ (z : ℕ × Known). z.0) (same_made (x.first, c.first.1) r x.between after x.then_) in
    let behind : Puts is_asked y.between after [] = subst (λ t. Puts is_asked y.between t []) (same_after (x.first, c.first.1) r x.between after x.then_) marked.0 in
    record {
      variables = one.variables ++ [];
      puts = puts_then is_asked (walk.value_adds is_asked Quiet still i.ty known s c.first c.between c.made) (puts_then is_asked one.puts behind);
      are = subst (λ n. IsInput i.output n (one.variables ++ [])) id_is (subst (IsInput i.output y.first) (sym (append-nil one.variables)) one.are);
    }

-- These are the inputs among inputs and outputs, in their order, by the ids of these.
pub data AreInputs : List Interface → List ℕ → List Variable → Type 0 where
  no_more : AreInputs [] [] []
  output : {i : Interface} {interfaces : List Interface} {id : ℕ} {ids : List ℕ} {vs : List Variable} → i.output ≡ true → AreInputs interfaces ids vs → AreInputs (i ∷ interfaces) (id ∷ ids) vs
  input : {i : Interface} {interfaces : List Interface} {id : ℕ} {ids : List ℕ} {vs : List Variable} (v : Variable) → i.output ≡ false → v.id ≡ id → v.class ≡ storage_class.INPUT → AreInputs interfaces ids vs → AreInputs (i ∷ interfaces) (id ∷ ids) (v ∷ vs)

record PutsInputs (interfaces : List Interface) (s : Sections) (ids : List ℕ) (after : Sections) : Type 0 where
  variables : List Variable
  puts : Puts is_asked s after variables
  are : AreInputs interfaces ids variables

one_more : (i : Interface) (interfaces : List Interface) (id : ℕ) (ids : List ℕ) (xs ys : List Variable) (b : Bool) → i.output ≡ b → IsInput b id xs → AreInputs interfaces ids ys → AreInputs (i ∷ interfaces) (id ∷ ids) (xs ++ ys)
one_more i interfaces id ids xs ys true is are rest = subst (λ l. AreInputs (i ∷ interfaces) (id ∷ ids) (l ++ ys)) (sym are) (AreInputs.output is rest)
one_more i interfaces id ids xs ys false is (v, same, named, classed) rest = subst (λ l. AreInputs (i ∷ interfaces) (id ∷ ids) (l ++ ys)) (sym same) (AreInputs.input v is named classed rest)

inputs_are : (interfaces : List Interface) (known : Known) (s : Sections) (r : List ℕ × Known) (after : Sections) → each interface_put interfaces known s ≡ Made r after → PutsInputs interfaces s r.0 after
unfolding each
inputs_are [] known s r after made =
    subst (λ ids. PutsInputs [] s ids after) (ap (λ (z : List ℕ × Known). z.0) (same_made ([], known) r s after made))
    (subst (PutsInputs [] s []) (same_after ([], known) r s after made) (record { variables = []; puts = puts_same is_asked s; are = AreInputs.no_more }))
inputs_are (i ∷ interfaces) known s r after made =
    let c = came (interface_put i known s) (λ r. each interface_put interfaces r.1 >>= (λ rs. given (r.0 ∷ rs.0, rs.1))) r after made in
    let x = came (each interface_put interfaces c.first.1 c.between) (λ rs. given (c.first.0 ∷ rs.0, rs.1)) r after c.then_ in
    let first = interface_is_put i known s c.first c.between c.made in
    let rest = inputs_are interfaces c.first.1 c.between x.first x.between x.made in
    subst (λ ids. PutsInputs (i ∷ interfaces) s ids after) (ap (λ (z : List ℕ × Known). z.0) (same_made (c.first.0 ∷ x.first.0, x.first.1) r x.between after x.then_))
    (subst (PutsInputs (i ∷ interfaces) s (c.first.0 ∷ x.first.0)) (same_after (c.first.0 ∷ x.first.0, x.first.1) r x.between after x.then_)
    (record { variables = first.variables ++ rest.variables; puts = puts_then is_asked first.puts rest.puts; are = one_more i interfaces c.first.0 x.first.0 first.variables rest.variables i.output refl first.are rest.are }))

-- ---- built-in variables

-- An input is decorated as a built-in variable.
abbrev pub IsMarked : Code → Variable → Type 0
IsMarked decorations v = (v.class ≡ storage_class.INPUT) × ((number : ℕ) × Contains decorations (decorating v.id None decoration.BUILT_IN (Some number)))

-- Inputs are put, and each is decorated as a built-in variable.
record PutsMarked (s after : Sections) : Type 0 where
  variables : List Variable
  puts : Puts is_asked s after variables
  marked : AllByRecursion (IsMarked after.decorations) variables

pub marked_later : (decorations more : Code) (vs : List Variable) → AllByRecursion (IsMarked decorations) vs → AllByRecursion (IsMarked (decorations ++ more)) vs
marked_later decorations more [] all = tt
marked_later decorations more (v ∷ vs) all = ((all.0.0, (all.0.1.0, Contains-append_left decorations more (decorating v.id None decoration.BUILT_IN (Some all.0.1.0)) all.0.1.1)), marked_later decorations more vs all.1)

both_marked : (decorations : Code) (xs ys : List Variable) → AllByRecursion (IsMarked decorations) xs → AllByRecursion (IsMarked decorations) ys → AllByRecursion (IsMarked decorations) (xs ++ ys)
both_marked decorations [] ys first second = second
both_marked decorations (x ∷ xs) ys first second = (first.0, both_marked decorations xs ys first.1 second)

marked_then : {r s t : Sections} → PutsMarked r s → PutsMarked s t → PutsMarked r t
marked_then {r} {s} {t} p q = record {
  variables = p.variables ++ q.variables;
  puts = puts_then is_asked p.puts q.puts;
  marked = both_marked t.decorations p.variables q.variables (subst (λ l. AllByRecursion (IsMarked l) p.variables) (sym q.puts.decorations.is) (marked_later s.decorations q.puts.decorations.put p.variables p.marked)) q.marked;
}

still_marked : {s after : Sections} → Puts is_asked s after [] → PutsMarked s after
still_marked p = record { variables = []; puts = p; marked = tt }

abbrev AddsMarked : {A : Type 0} → Step A → Type 0
AddsMarked {A} step = (s : Sections) (a : A) (after : Sections) → step s ≡ Made a after → PutsMarked s after

then_marked : {A B : Type 0} (f : Step A) (g : A → Step B) → AddsMarked f → ((a : A) → AddsMarked (g a)) → AddsMarked (f >>= g)
then_marked f g p q s b after made = let x = came (f s) g b after made in marked_then (p s x.first x.between x.made) (q x.first x.between b after x.then_)

gives_marked : {A : Type 0} (a : A) → AddsMarked (given a)
gives_marked a s b after made = still_marked (walk.gives is_asked Quiet still a s b after made)

stage_marked : (var : StageVar) → AddsMarked (stage_put var)
unfolding stage_put
stage_marked var = then_marked (type_of (stage_shape var)) (built_in_variable var) (λ s type after made. still_marked (walk.type_adds is_asked Quiet still (stage_shape var) s type after made)) (λ type. here type)
  where
    here : (type : ℕ) → AddsMarked (built_in_variable var type)
    here type s id after made =
        let c = came (variable_in storage_class.INPUT type None s) (λ new. decorated new None decoration.BUILT_IN (Some (built_in_of var)) >>= (λ done. given new)) id after made in
        let x = came (decorated c.first None decoration.BUILT_IN (Some (built_in_of var)) c.between) (λ done. given c.first) id after c.then_ in
        let one = variable_is_put storage_class.INPUT type None s c.first c.between refl c.made in
        let i : Instr = decorating c.first None decoration.BUILT_IN (Some (built_in_of var)) in
        let there : Contains after.decorations i = subst (λ (t : Sections). Contains t.decorations i) (same_after tt x.first _ x.between x.made ∙ same_after c.first id x.between after x.then_) (Contains-push c.between.decorations i) in
        let behind : Puts is_asked c.between after [] = subst (λ t. Puts is_asked c.between t []) (same_after c.first id x.between after x.then_) (walk.decorated_adds is_asked Quiet still c.first None decoration.BUILT_IN (Some (built_in_of var)) c.between x.first x.between x.made) in
        record {
          variables = one.variable ∷ [];
          puts = puts_then is_asked one.puts behind;
          marked = ((one.classed, (built_in_of var, subst (λ n. Contains after.decorations (decorating n None decoration.BUILT_IN (Some (built_in_of var)))) (sym one.named) there)), tt);
        }

if_marked : (asked : List Need) (var : StageVar) → AddsMarked (stage_if asked var)
unfolding stage_if
if_marked asked var = by (uses asked var)
  where
    by : (b : Bool) → AddsMarked (if b then stage_put var else given 0)
    by true = stage_marked var
    by false = gives_marked 0

stages_marked : (asked : List Need) → AddsMarked (stages asked)
unfolding stages
stages_marked asked =
    then_marked (compute_stages asked) _
    (then_marked (stage_if asked NumWorkGroups) _ (if_marked asked NumWorkGroups) (λ groups. then_marked (stage_if asked WorkGroupId) _ (if_marked asked WorkGroupId) (λ group. then_marked (stage_if asked LocalInvocationId) _ (if_marked asked LocalInvocationId) (λ local.
    then_marked (stage_if asked GlobalInvocationId) _ (if_marked asked GlobalInvocationId) (λ global. then_marked (stage_if asked LocalInvocationIndex) _ (if_marked asked LocalInvocationIndex) (λ index. gives_marked (groups ∷ group ∷ local ∷ global ∷ index ∷ [])))))))
    (λ first. then_marked (vertex_stages asked) _
    (then_marked (stage_if asked VertexIndex) _ (if_marked asked VertexIndex) (λ vertex. then_marked (stage_if asked InstanceIndex) _ (if_marked asked InstanceIndex) (λ instance. gives_marked (vertex ∷ instance ∷ []))))
    (λ second. gives_marked _))

-- ---- all that stands outside functions

takes_quiet : {A : Type 0} (items : List A) → AddsQuiet (in_order (λ (one : A). id_by call.take) items)
unfolding in_order
takes_quiet [] = walk.gives is_asked Quiet still []
takes_quiet {A} (a ∷ items) = walk.then_ is_asked Quiet still (id_by call.take) _ (walk.asks is_asked Quiet still call.take still.takes) (λ id. walk.then_ is_asked Quiet still (in_order (λ (one : A). id_by call.take) items) _ (takes_quiet items) (λ ids. walk.gives is_asked Quiet still (id ∷ ids)))

built_quiet : (need : Need) (known : Known) → AddsQuiet (built_type need known)
unfolding built_type
built_quiet (Holder t) known = walk.gives is_asked Quiet still (tt, known)
built_quiet (Built t) known = walk.only_adds is_asked Quiet still t known
built_quiet (Stage var) known = walk.gives is_asked Quiet still (tt, known)

-- What stands outside functions puts the variables of the program's blocks, its inputs, and built-in variables.
pub record PutsAsked (target : Target) (p : Program) (s : Sections) (there : FlowPlace) (after : Sections) : Type 0 where
  pub blocks : List Variable
  pub inputs : List Variable
  pub stages : List Variable
  pub puts : Puts is_asked s after (blocks ++ (inputs ++ stages))
  pub are_blocks : AreBlocks target p.blocks there.blocks blocks
  pub are_inputs : AreInputs p.interfaces there.interfaces inputs
  pub are_marked : AllByRecursion (IsMarked after.decorations) stages

pub asked_put : (target : Target) (p : Program) (asked : List Need) (there : FlowPlace) (s after : Sections) → declared target p asked s ≡ Made there after → PutsAsked target p s there after
unfolding declared built_types
asked_put target p asked there s after made =
    let heads = came (in_order (λ (one : Prototype). id_by call.take) p.prototypes s) _ there after made in
    let types = came (program_types p [] heads.between) _ there after heads.then_ in
    let built = came (all built_type asked types.first.1 types.between) _ there after types.then_ in
    let blocks = came (blocks_put target p.structs p.blocks nothing_laid built.between) _ there after built.then_ in
    let globals = came (globals_put p.structs p.globals built.first.1 blocks.between) _ there after blocks.then_ in
    let interfaces = came (interfaces_put p.interfaces globals.first.1 globals.between) _ there after globals.then_ in
    let ids = came (stages asked interfaces.between) _ there after interfaces.then_ in
    let put : FlowPlace = place heads.first interfaces.first.1 blocks.first.0 (classes_of target p.blocks) globals.first.0 interfaces.first.0 ids.first in
    let one = takes_quiet p.prototypes s heads.first heads.between heads.made in
    let two = walk.program_adds is_asked Quiet still p [] heads.between types.first types.between types.made in
    let three = walk.all_add is_asked Quiet still built_type built_quiet asked types.first.1 types.between built.first built.between built.made in
    let four = blocks_are target p.structs p.blocks nothing_laid built.between blocks.first blocks.between blocks.made in
    let five = walk.globals_add is_asked Quiet still p.structs refl p.globals built.first.1 blocks.between globals.first globals.between globals.made in
    let six = inputs_are p.interfaces globals.first.1 globals.between interfaces.first interfaces.between interfaces.made in
    let seven = stages_marked asked interfaces.between ids.first ids.between ids.made in
    let all_ : Puts is_asked s ids.between (four.variables ++ (six.variables ++ seven.variables)) = puts_then is_asked one (puts_then is_asked two (puts_then is_asked three (puts_then is_asked four.puts (puts_then is_asked five (puts_then is_asked six.puts seven.puts))))) in
    ends put ids.between four.variables six.variables seven.variables all_ four.are six.are seven.marked (same_made put there ids.between after ids.then_) (same_after put there ids.between after ids.then_)
  where
    ends : (put : FlowPlace) (last : Sections) (bs is vs : List Variable) → Puts is_asked s last (bs ++ (is ++ vs)) → AreBlocks target p.blocks put.blocks bs → AreInputs p.interfaces put.interfaces is → AllByRecursion (IsMarked last.decorations) vs → put ≡ there → last ≡ after → PutsAsked target p s there after
    ends put last bs is vs puts blocks inputs marked place_is end_is = record {
      blocks = bs;
      inputs = is;
      stages = vs;
      puts = subst (λ t. Puts is_asked s t (bs ++ (is ++ vs))) end_is puts;
      are_blocks = subst (λ (f : FlowPlace). AreBlocks target p.blocks f.blocks bs) place_is blocks;
      are_inputs = subst (λ (f : FlowPlace). AreInputs p.interfaces f.interfaces is) place_is inputs;
      are_marked = subst (λ (t : Sections). AllByRecursion (IsMarked t.decorations) vs) end_is marked;
    }
