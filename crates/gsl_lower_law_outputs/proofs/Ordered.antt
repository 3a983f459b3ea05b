-- The outputs of a program are put in their order, and nothing else that stands outside functions is an output.
use Rattle.std.proofs.Common.{◌≡◌, refl, sym, ap, ◌∙◌, subst, ℕ, ◌+◌, Bool, true, false, List, [], ◌∷◌, ◌++◌, Some, None, if◌then◌else◌, append-nil}
use Rattle.gsl_instr.specs.declared.enumerant.decoration.TheConstants as decoration
use Rattle.gsl_instr.specs.declared.enumerant.storage_class.TheConstants as storage_class
use Rattle.gsl_words.specs.declared.target.Target.{Target}
use Rattle.gsl_words.specs.declared.target.Target.TheVariants.{V10, V13}
use Rattle.gsl_tree.specs.declared.expr.StageVar.{StageVar}
use Rattle.gsl_tree.specs.declared.expr.StageVar.TheVariants.{NumWorkGroups, WorkGroupId, LocalInvocationId, GlobalInvocationId, LocalInvocationIndex, VertexIndex, InstanceIndex}
use Rattle.gsl_tree.specs.declared.program.Program.{Program}
use Rattle.gsl_tree.specs.declared.unit.BlockKind.{BlockKind}
use Rattle.gsl_tree.specs.declared.unit.BlockKind.TheVariants.{Uniform, Buffer, Push}
use Rattle.gsl_tree.specs.declared.unit.Interface.{Interface}
use Rattle.gsl_tree.specs.declared.unit.Prototype.{Prototype}
use Rattle.gsl_valid.specs.Kinds.{Variable}
use Rattle.gsl_spv.specs.Calls as call
use Rattle.gsl_spv.specs.Calls.{declare}
use Rattle.gsl_spv.specs.Declarations as d
use Rattle.gsl_spv.specs.Sections.{Sections}
use Rattle.gsl_spv.specs.declared.plain.PlainConst.TheVariants as of
use Rattle.gsl_spv.specs.declared.plain.PlainType.TheVariants as plain
use Rattle.gsl_lower_values.specs.Building.{Step, Made, ◌>>=◌, given, id_by, in_order}
use Rattle.gsl_lower_values.specs.Types.{type_of}
use Rattle.gsl_lower_holders.specs.declared.place.FlowPlace.{FlowPlace}
use Rattle.gsl_lower_needs.specs.declared.need.Need.{Need}
use Rattle.gsl_lower_needs.specs.declared.need.Need.TheVariants.{Holder, Built, Stage}
use Rattle.gsl_lower_places.specs.Reading.{pointer_type}
use Rattle.gsl_lower_types.specs.Blocks.{blocks_put, class_of, classes_of}
use Rattle.gsl_lower_types.specs.Declaring.{decorated, variable_in}
use Rattle.gsl_lower_types.specs.Globals.{globals_put}
use Rattle.gsl_lower_types.specs.Interfaces.{built_in_of, built_in_variable, flat_where, interface_put, interface_variable, interfaces_put, located, plain_variable, stage_put, stage_shape}
use Rattle.gsl_lower_types.specs.Known.{Known, all, aside, each}
use Rattle.gsl_lower_types.specs.Values.{program_types, value_type}
use Rattle.gsl_lower_types.proofs.Finding.{came}
use Rattle.gsl_lower_flow.specs.Programs.{built_type, built_types, compute_stages, declared, nothing_laid, place, stage_if, stages, uses, vertex_stages}
use Rattle.gsl_lower_law_inputs.proofs.OfLawOutside.{made_by, same_after, same_made}
use Rattle.gsl_lower_law_outputs.specs.Outputs.{is_output}
use Rattle.gsl_lower_law_outputs.proofs.Outputs.{Puts, puts_same, puts_then, quiet_walks, variable_put}
use Rattle.gsl_lower_law_outputs.proofs.Walking as walk
use Rattle.gsl_lower_law_outputs.proofs.Walking.{Walks}

abbrev Quiet : Sections → Sections → Type 0
Quiet s after = Puts is_output s after []

out_walks : Walks is_output Quiet
out_walks = quiet_walks is_output

abbrev AddsQuiet : {A : Type 0} → Step A → Type 0
AddsQuiet {A} step = (s : Sections) (a : A) (after : Sections) → step s ≡ Made a after → Puts is_output s after []

-- ---- one input or output

-- An input is no output, and an output is one under its id.
abbrev pub IsOutput : Bool → ℕ → List Variable → Type 0
IsOutput false id vs = vs ≡ []
IsOutput true id vs = (v : Variable) × (vs ≡ v ∷ []) × (v.id ≡ id)

record PutsOne (output : Bool) (s : Sections) (id : ℕ) (after : Sections) : Type 0 where
  pub outputs : List Variable
  pub puts : Puts is_output s after outputs
  are : IsOutput output id outputs

plain_put : (output : Bool) (type : ℕ) (s : Sections) (id : ℕ) (after : Sections) → plain_variable output type s ≡ Made id after → PutsOne output s id after
plain_put true type s id after made =
    let c = came (id_by (call.constant (of.Null type)) s) (λ zero. variable_in storage_class.OUTPUT type (Some zero)) id after made in
    let x = came (pointer_type storage_class.OUTPUT type c.between) (λ pointer. id_by (call.global pointer storage_class.OUTPUT (Some c.first))) id after c.then_ in
    let e = made_by (declare (d.variable x.first storage_class.OUTPUT (Some c.first))) x.between id after x.then_ in
    let v : Variable = record { type = x.first; id = x.between.last + 1; class = storage_class.OUTPUT; initialiser = c.first ∷ [] } in
    let null = walk.asks is_output Quiet out_walks (call.constant (of.Null type)) (walk.constant_grows is_output Quiet out_walks (of.Null type)) s c.first c.between c.made in
    let pointer = walk.asks is_output Quiet out_walks (call.plain_type (plain.Pointer storage_class.OUTPUT type)) (walk.plain_type is_output Quiet out_walks (plain.Pointer storage_class.OUTPUT type)) c.between x.first x.between x.made in
    let put : Puts is_output x.between after (v ∷ []) = subst (λ t. Puts is_output x.between t (v ∷ [])) e.1 (variable_put is_output x.first storage_class.OUTPUT (Some c.first) x.between) in
    record { outputs = v ∷ []; puts = puts_then is_output null (puts_then is_output pointer put); are = (v, refl, e.0) }
plain_put false type s id after made = record { outputs = []; puts = walk.variable_adds is_output Quiet out_walks storage_class.INPUT type None refl s id after made; are = refl }

flat_quiet : (flat : Bool) (id : ℕ) → AddsQuiet (flat_where flat id)
flat_quiet true id = walk.decorated_adds is_output Quiet out_walks id None decoration.FLAT None
flat_quiet false id = walk.gives is_output Quiet out_walks tt

located_quiet : (i : Interface) (new : ℕ) (s : Sections) (id : ℕ) (after : Sections) → located i new s ≡ Made id after → Puts is_output s after [] × (new ≡ id)
located_quiet i new s id after made =
    let c = came (decorated new None decoration.LOCATION (Some i.location) s) (λ a. flat_where i.flat new >>= (λ b. given new)) id after made in
    let x = came (flat_where i.flat new c.between) (λ b. given new) id after c.then_ in (
      puts_then is_output (walk.decorated_adds is_output Quiet out_walks new None decoration.LOCATION (Some i.location) s c.first c.between c.made) (subst (λ t. Puts is_output c.between t []) (same_after new id x.between after x.then_) (flat_quiet i.flat new c.between x.first x.between x.made)),
      same_made new id x.between after x.then_,
    )

interface_put_is : (i : Interface) (known : Known) (s : Sections) (r : ℕ × Known) (after : Sections) → interface_put i known s ≡ Made r after → PutsOne i.output s r.0 after
unfolding interface_put
interface_put_is i known s r after made =
    let c = came (value_type i.ty known s) (λ r. aside (interface_variable i r.0) r.1) r after made in
    let x = came (interface_variable i c.first.0 c.between) (λ a. given (a, c.first.1)) r after c.then_ in
    let y = came (plain_variable i.output c.first.0 c.between) (located i) x.first x.between x.made in
    let marked = located_quiet i y.first y.between x.first x.between y.then_ in
    let one = plain_put i.output c.first.0 c.between y.first y.between y.made in
    let id_is : y.first ≡ r.0 = marked.1 ∙ ap (λ (z : ℕ × Known). z.0) (same_made (x.first, c.first.1) r x.between after x.then_) in
    let behind : Puts is_output y.between after [] = subst (λ t. Puts is_output y.between t []) (same_after (x.first, c.first.1) r x.between after x.then_) marked.0 in
    record {
      outputs = one.outputs ++ [];
      puts = puts_then is_output (walk.value_adds is_output Quiet out_walks i.ty known s c.first c.between c.made) (puts_then is_output one.puts behind);
      are = subst (λ n. IsOutput i.output n (one.outputs ++ [])) id_is (subst (IsOutput i.output y.first) (sym (append-nil one.outputs)) one.are);
    }

-- ---- all of them

-- These are the outputs among inputs and outputs, in their order, by the ids of these.
pub data AreOutputs : List Interface → List ℕ → List Variable → Type 0 where
  none : AreOutputs [] [] []
  input : {i : Interface} {interfaces : List Interface} {id : ℕ} {ids : List ℕ} {vs : List Variable} → i.output ≡ false → AreOutputs interfaces ids vs → AreOutputs (i ∷ interfaces) (id ∷ ids) vs
  output : {i : Interface} {interfaces : List Interface} {id : ℕ} {ids : List ℕ} {vs : List Variable} (v : Variable) → i.output ≡ true → v.id ≡ id → AreOutputs interfaces ids vs → AreOutputs (i ∷ interfaces) (id ∷ ids) (v ∷ vs)

pub record PutsAll (interfaces : List Interface) (s : Sections) (ids : List ℕ) (after : Sections) : Type 0 where
  pub outputs : List Variable
  pub puts : Puts is_output s after outputs
  pub are : AreOutputs interfaces ids outputs

one_more : (i : Interface) (interfaces : List Interface) (id : ℕ) (ids : List ℕ) (xs ys : List Variable) (b : Bool) → i.output ≡ b → IsOutput b id xs → AreOutputs interfaces ids ys → AreOutputs (i ∷ interfaces) (id ∷ ids) (xs ++ ys)
one_more i interfaces id ids xs ys false is are rest = subst (λ l. AreOutputs (i ∷ interfaces) (id ∷ ids) (l ++ ys)) (sym are) (AreOutputs.input is rest)
one_more i interfaces id ids xs ys true is (v, same, named) rest = subst (λ l. AreOutputs (i ∷ interfaces) (id ∷ ids) (l ++ ys)) (sym same) (AreOutputs.output v is named rest)

interfaces_are : (interfaces : List Interface) (known : Known) (s : Sections) (r : List ℕ × Known) (after : Sections) → each interface_put interfaces known s ≡ Made r after → PutsAll interfaces s r.0 after
unfolding each
interfaces_are [] known s r after made =
    let same = ap (λ (z : List ℕ × Known). z.0) (same_made ([], known) r s after made) in
    subst (λ ids. PutsAll [] s ids after) same (subst (PutsAll [] s []) (same_after ([], known) r s after made) (record { outputs = []; puts = puts_same is_output s; are = AreOutputs.none }))
interfaces_are (i ∷ interfaces) known s r after made =
    let c = came (interface_put i known s) (λ r. each interface_put interfaces r.1 >>= (λ rs. given (r.0 ∷ rs.0, rs.1))) r after made in
    let x = came (each interface_put interfaces c.first.1 c.between) (λ rs. given (c.first.0 ∷ rs.0, rs.1)) r after c.then_ in
    let first = interface_put_is i known s c.first c.between c.made in
    let rest = interfaces_are interfaces c.first.1 c.between x.first x.between x.made in
    subst (λ ids. PutsAll (i ∷ interfaces) s ids after) (ap (λ (z : List ℕ × Known). z.0) (same_made (c.first.0 ∷ x.first.0, x.first.1) r x.between after x.then_))
    (subst (PutsAll (i ∷ interfaces) s (c.first.0 ∷ x.first.0)) (same_after (c.first.0 ∷ x.first.0, x.first.1) r x.between after x.then_)
    (record { outputs = first.outputs ++ rest.outputs; puts = puts_then is_output first.puts rest.puts; are = one_more i interfaces c.first.0 x.first.0 first.outputs rest.outputs i.output refl first.are rest.are }))

-- ---- what else stands outside functions

stage_quiet : (var : StageVar) → AddsQuiet (stage_put var)
unfolding stage_put
stage_quiet var =
    walk.then_ is_output Quiet out_walks (type_of (stage_shape var)) (built_in_variable var) (walk.type_adds is_output Quiet out_walks (stage_shape var)) (λ type.
    walk.then_ is_output Quiet out_walks (variable_in storage_class.INPUT type None) (λ id. decorated id None decoration.BUILT_IN (Some (built_in_of var)) >>= (λ done. given id)) (walk.variable_adds is_output Quiet out_walks storage_class.INPUT type None refl) (λ id.
    walk.then_ is_output Quiet out_walks (decorated id None decoration.BUILT_IN (Some (built_in_of var))) (λ done. given id) (walk.decorated_adds is_output Quiet out_walks id None decoration.BUILT_IN (Some (built_in_of var))) (λ done. walk.gives is_output Quiet out_walks id)))

if_quiet : (asked : List Need) (var : StageVar) → AddsQuiet (stage_if asked var)
unfolding stage_if
if_quiet asked var = by (uses asked var)
  where
    by : (b : Bool) → AddsQuiet (if b then stage_put var else given 0)
    by true = stage_quiet var
    by false = walk.gives is_output Quiet out_walks 0

stages_quiet : (asked : List Need) → AddsQuiet (stages asked)
unfolding stages
stages_quiet asked =
    let one = if_quiet asked in
    walk.then_ is_output Quiet out_walks (compute_stages asked) _
    (walk.then_ is_output Quiet out_walks (stage_if asked NumWorkGroups) _ (one NumWorkGroups) (λ groups. walk.then_ is_output Quiet out_walks (stage_if asked WorkGroupId) _ (one WorkGroupId) (λ group. walk.then_ is_output Quiet out_walks (stage_if asked LocalInvocationId) _ (one LocalInvocationId) (λ local.
    walk.then_ is_output Quiet out_walks (stage_if asked GlobalInvocationId) _ (one GlobalInvocationId) (λ global. walk.then_ is_output Quiet out_walks (stage_if asked LocalInvocationIndex) _ (one LocalInvocationIndex) (λ index. walk.gives is_output Quiet out_walks (groups ∷ group ∷ local ∷ global ∷ index ∷ [])))))))
    (λ first. walk.then_ is_output Quiet out_walks (vertex_stages asked) _
    (walk.then_ is_output Quiet out_walks (stage_if asked VertexIndex) _ (one VertexIndex) (λ vertex. walk.then_ is_output Quiet out_walks (stage_if asked InstanceIndex) _ (one InstanceIndex) (λ instance. walk.gives is_output Quiet out_walks (vertex ∷ instance ∷ []))))
    (λ second. walk.gives is_output Quiet out_walks _))

takes_quiet : {A : Type 0} (items : List A) → AddsQuiet (in_order (λ (one : A). id_by call.take) items)
unfolding in_order
takes_quiet [] = walk.gives is_output Quiet out_walks []
takes_quiet {A} (a ∷ items) = walk.then_ is_output Quiet out_walks (id_by call.take) _ (walk.asks is_output Quiet out_walks call.take out_walks.takes) (λ id. walk.then_ is_output Quiet out_walks (in_order (λ (one : A). id_by call.take) items) _ (takes_quiet items) (λ ids. walk.gives is_output Quiet out_walks (id ∷ ids)))

built_quiet : (need : Need) (known : Known) → AddsQuiet (built_type need known)
unfolding built_type
built_quiet (Holder t) known = walk.gives is_output Quiet out_walks (tt, known)
built_quiet (Built t) known = walk.only_adds is_output Quiet out_walks t known
built_quiet (Stage var) known = walk.gives is_output Quiet out_walks (tt, known)

no_block : (target : Target) (kind : BlockKind) → is_output (class_of target kind) ≡ false
no_block target Uniform = refl
no_block target Push = refl
no_block V10 Buffer = refl
no_block V13 Buffer = refl

-- What stands outside functions puts the outputs of the program, and no other.
pub outputs_put : (target : Target) (p : Program) (asked : List Need) (there : FlowPlace) (s after : Sections) → declared target p asked s ≡ Made there after → PutsAll p.interfaces s there.interfaces after
unfolding declared built_types
outputs_put target p asked there s after made =
    let heads = came (in_order (λ (one : Prototype). id_by call.take) p.prototypes s) _ there after made in
    let types = came (program_types p [] heads.between) _ there after heads.then_ in
    let built = came (all built_type asked types.first.1 types.between) _ there after types.then_ in
    let blocks = came (blocks_put target p.structs p.blocks nothing_laid built.between) _ there after built.then_ in
    let globals = came (globals_put p.structs p.globals built.first.1 blocks.between) _ there after blocks.then_ in
    let interfaces = came (interfaces_put p.interfaces globals.first.1 globals.between) _ there after globals.then_ in
    let ids = came (stages asked interfaces.between) _ there after interfaces.then_ in
    let put : FlowPlace = place heads.first interfaces.first.1 blocks.first.0 (classes_of target p.blocks) globals.first.0 interfaces.first.0 ids.first in
    let one = takes_quiet p.prototypes s heads.first heads.between heads.made in
    let two = walk.program_adds is_output Quiet out_walks p [] heads.between types.first types.between types.made in
    let three = walk.all_add is_output Quiet out_walks built_type built_quiet asked types.first.1 types.between built.first built.between built.made in
    let four = walk.blocks_add is_output Quiet out_walks target p.structs p.blocks (no_block target) nothing_laid built.between blocks.first blocks.between blocks.made in
    let five = walk.globals_add is_output Quiet out_walks p.structs refl p.globals built.first.1 blocks.between globals.first globals.between globals.made in
    let six = interfaces_are p.interfaces globals.first.1 globals.between interfaces.first interfaces.between interfaces.made in
    let seven = stages_quiet asked interfaces.between ids.first ids.between ids.made in
    let all_ : Puts is_output s ids.between (six.outputs ++ []) = puts_then is_output one (puts_then is_output two (puts_then is_output three (puts_then is_output four (puts_then is_output five (puts_then is_output six.puts seven))))) in
    ends put ids.between six.outputs all_ six.are (same_made put there ids.between after ids.then_) (same_after put there ids.between after ids.then_)
  where
    ends : (put : FlowPlace) (last : Sections) (outputs : List Variable) → Puts is_output s last (outputs ++ []) → AreOutputs p.interfaces put.interfaces outputs → put ≡ there → last ≡ after → PutsAll p.interfaces s there.interfaces after
    ends put last outputs puts are place_is end_is = record {
      outputs = outputs;
      puts = subst (λ t. Puts is_output s t outputs) end_is (subst (Puts is_output s last) (append-nil outputs) puts);
      are = subst (λ (f : FlowPlace). AreOutputs p.interfaces f.interfaces outputs) place_is are;
    }
