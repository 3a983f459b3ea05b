-- All that stands outside functions, as it is put.
use Rattle.std.proofs.Common.{◌≡◌, refl, sym, ap, ◌∙◌, subst, ℕ, ◌+◌, Bool, true, false, List, [], ◌∷◌, map, slice_get, Option, Some, None, if◌then◌else◌, arith}
use Rattle.std.specs.List.{AllByRecursion}
use Rattle.gsl_instr.specs.declared.enumerant.decoration.TheConstants as decoration
use Rattle.gsl_instr.specs.declared.enumerant.storage_class.TheConstants as storage_class
use Rattle.gsl_types.specs.Known.{AreStructs}
use Rattle.gsl_types.specs.declared.ty.Scalar.{Scalar}
use Rattle.gsl_types.specs.declared.ty.Scalar.TheVariants.{Bool as Boolean, Int, Uint}
use Rattle.gsl_types.specs.declared.ty.StructType.{StructType}
use Rattle.gsl_types.specs.declared.ty.Ty.{Ty}
use Rattle.gsl_types.specs.declared.ty.Ty.TheOpen.{Ty-F}
use Rattle.gsl_types.specs.declared.ty.Ty.TheViews.{out-Ty}
use Rattle.gsl_words.specs.declared.module.Module.{Module}
use Rattle.gsl_words.specs.declared.target.Target.{Target}
use Rattle.gsl_values.specs.declared.value.Value.{Value}
use Rattle.gsl_values.specs.declared.value.Value.TheFolds.{fold-roll-Value, ind-Value, map-Value}
use Rattle.gsl_values.specs.declared.value.Value.TheOpen.{Value-F}
use Rattle.gsl_values.specs.declared.value.Value.TheViews.{roll-Value}
use Rattle.gsl_tree.specs.WellTyped.{AreWellTyped, IsStructDeclared, program_lists}
use Rattle.gsl_tree.specs.declared.expr.StageVar.{StageVar}
use Rattle.gsl_tree.specs.declared.expr.StageVar.TheVariants.{NumWorkGroups, WorkGroupId, LocalInvocationId, GlobalInvocationId, LocalInvocationIndex, VertexIndex, InstanceIndex}
use Rattle.gsl_tree.specs.declared.program.Program.{Program}
use Rattle.gsl_tree.specs.declared.unit.GlobalVar.{GlobalVar}
use Rattle.gsl_tree.specs.declared.unit.Interface.{Interface}
use Rattle.gsl_tree.specs.declared.unit.Prototype.{Prototype}
use Rattle.gsl_valid.specs.Valid.{Valid}
use Rattle.gsl_sound_code.proofs.Looks.{Kept, kept}
use Rattle.gsl_spv.specs.Calls as call
use Rattle.gsl_spv.specs.Declarations as d
use Rattle.gsl_spv.specs.Growing.{Extends}
use Rattle.gsl_spv.specs.Sections.{Sections}
use Rattle.gsl_spv.specs.declared.plain.PlainConst.{PlainConst}
use Rattle.gsl_spv.specs.declared.plain.PlainConst.TheVariants as of
use Rattle.gsl_spv.specs.declared.plain.PlainType.TheVariants as plain
use Rattle.gsl_spv.proofs.Extending.{extends_same, extends_take, extends_then}
use Rattle.gsl_lower_values.specs.Building.{Step, Made, ◌>>=◌, given, id_by, in_order}
use Rattle.gsl_lower_values.specs.Types.{composed, scalar_constant, scalar_type, truth_of, type_of, word_of_type}
use Rattle.gsl_lower_law.proofs.Adding.{extends_intern}
use Rattle.gsl_lower_text.specs.Written.{Written}
use Rattle.gsl_lower_holders.specs.declared.place.FlowPlace.{FlowPlace}
use Rattle.gsl_lower_needs.specs.declared.need.Need.{Need}
use Rattle.gsl_lower_needs.specs.declared.need.Need.TheVariants.{Holder, Built, Stage}
use Rattle.gsl_lower_places.specs.Reading.{pointer_type}
use Rattle.gsl_lower_types.specs.Blocks.{blocks_put, classes_of}
use Rattle.gsl_lower_types.specs.Declaring.{decorated, variable_in}
use Rattle.gsl_lower_types.specs.Globals.{beginning, composed_as, constant_layer, constant_of, global_put, globals_put, of_type, part_type, parts_put, variable_of, word_of}
use Rattle.gsl_lower_types.specs.Interfaces.{built_in_of, built_in_variable, flat_where, interface_put, interface_variable, interfaces_put, located, plain_variable, stage_put, stage_shape}
use Rattle.gsl_lower_types.specs.Known.{Known, Put, all, aside, each, lacking, only}
use Rattle.gsl_lower_types.specs.Values.{block_member_type, block_types, function_types, global_type, local_type, parameter_type, program_types, prototype_types, struct_types, value_type}
use Rattle.gsl_lower_types.proofs.Adding.{Adds, blocks_add, then_}
use Rattle.gsl_lower_types.proofs.Finding.{came, never}
use Rattle.gsl_lower_flow.specs.Programs.{built_type, built_types, compute_stages, declared, nothing_laid, place, stage_if, stages, uses, vertex_stages}
use Rattle.gsl_lower_law_outside.specs.Known.{AreTold}
use Rattle.gsl_lower_law_outside.proofs.Keeping.{AllTold, PutKeeps, aside_keeps, asks_add, extends_declare, given_keeps, interns_add, keeps_then, same_after, same_made, told_of}
use Rattle.gsl_lower_law_outside.proofs.Structs.{structs_keep}
use Rattle.gsl_lower_law_outside.proofs.Types.{scalar_adds, shape_adds, type_put}

-- ---- steps that put no array and no struct

pub gives_add : {A : Type 0} (a : A) → Adds (given a)
gives_add a s b after made = subst (Extends s) (same_after a b s after made) (extends_same s)

pub decorated_adds : (id : ℕ) (member : Option ℕ) (what : ℕ) (literal : Option ℕ) → Adds (decorated id member what literal)
decorated_adds id member what literal s a after made =
    let same = extends_same s in
    subst (Extends s) (same_after tt a _ after made)
    (record { stage = refl; target = refl; imports = same.imports; names = same.names; decorations = record { more = call.decorating id member what literal ∷ []; is = refl }; globals = same.globals; functions = same.functions; last = same.last; wanting = λ e. e })

variable_adds : (class type : ℕ) (init : Option ℕ) → Adds (variable_in class type init)
variable_adds class type init =
    then_ (pointer_type class type) (λ pointer. id_by (call.global pointer class init)) (interns_add (d.plain_type (plain.Pointer class type))) (λ pointer. asks_add (call.global pointer class init) (extends_declare (d.variable pointer class init)))

pub null_adds : (type : ℕ) → Adds (id_by (call.constant (of.Null type)))
null_adds type = interns_add (d.null type)

constant_grows : (c : PlainConst) (s : Sections) → Extends s (call.constant c s).sections
constant_grows of.True s = let truths = call.plain_type plain.Bool s in extends_then (extends_intern (d.plain_type plain.Bool) s) (extends_intern (d.truth true truths.id) truths.sections)
constant_grows of.False s = let truths = call.plain_type plain.Bool s in extends_then (extends_intern (d.plain_type plain.Bool) s) (extends_intern (d.truth false truths.id) truths.sections)
constant_grows (of.Word type bits) s = extends_intern (d.word type bits) s
constant_grows (of.Null type) s = extends_intern (d.null type) s

constant_adds : (x : Scalar) (word : ℕ) → Adds (scalar_constant x word)
unfolding scalar_constant
constant_adds Boolean word = asks_add (call.constant (truth_of word)) (constant_grows (truth_of word))
constant_adds Int word = then_ (scalar_type Int) (word_of_type word) (scalar_adds Int) (λ type. interns_add (d.word type word))
constant_adds Uint word = then_ (scalar_type Uint) (word_of_type word) (scalar_adds Uint) (λ type. interns_add (d.word type word))

plain_variable_adds : (output : Bool) (type : ℕ) → Adds (plain_variable output type)
plain_variable_adds true type = then_ (id_by (call.constant (of.Null type))) (λ null. variable_in storage_class.OUTPUT type (Some null)) (null_adds type) (λ null. variable_adds storage_class.OUTPUT type (Some null))
plain_variable_adds false type = variable_adds storage_class.INPUT type None

pub flat_adds : (flat : Bool) (id : ℕ) → Adds (flat_where flat id)
flat_adds true id = decorated_adds id None decoration.FLAT None
flat_adds false id = gives_add tt

interface_adds : (i : Interface) (type : ℕ) → Adds (interface_variable i type)
interface_adds i type =
    then_ (plain_variable i.output type) (located i) (plain_variable_adds i.output type) (λ id. then_ (decorated id None decoration.LOCATION (Some i.location)) (λ a. flat_where i.flat id >>= (λ b. given id)) (decorated_adds id None decoration.LOCATION (Some i.location)) (λ a.
    then_ (flat_where i.flat id) (λ b. given id) (flat_adds i.flat id) (λ b. gives_add id)))

stage_adds : (var : StageVar) → Adds (stage_put var)
unfolding stage_put
stage_adds var =
    then_ (type_of (stage_shape var)) (built_in_variable var) (shape_adds (stage_shape var)) (λ type. then_ (variable_in storage_class.INPUT type None) (λ id. decorated id None decoration.BUILT_IN (Some (built_in_of var)) >>= (λ done. given id)) (variable_adds storage_class.INPUT type None) (λ id.
    then_ (decorated id None decoration.BUILT_IN (Some (built_in_of var))) (λ done. given id) (decorated_adds id None decoration.BUILT_IN (Some (built_in_of var))) (λ done. gives_add id)))

stage_if_adds : (asked : List Need) (var : StageVar) → Adds (stage_if asked var)
unfolding stage_if
stage_if_adds asked var = by (uses asked var)
  where
    by : (b : Bool) → Adds (if b then stage_put var else given 0)
    by true = stage_adds var
    by false = gives_add 0

stages_add : (asked : List Need) → Adds (stages asked)
unfolding stages
stages_add asked =
    let if_ = stage_if_adds asked in
    then_ (compute_stages asked) _
    (then_ (stage_if asked NumWorkGroups) _ (if_ NumWorkGroups) (λ groups. then_ (stage_if asked WorkGroupId) _ (if_ WorkGroupId) (λ group. then_ (stage_if asked LocalInvocationId) _ (if_ LocalInvocationId) (λ local.
    then_ (stage_if asked GlobalInvocationId) _ (if_ GlobalInvocationId) (λ global. then_ (stage_if asked LocalInvocationIndex) _ (if_ LocalInvocationIndex) (λ index. gives_add (groups ∷ group ∷ local ∷ global ∷ index ∷ [])))))))
    (λ first. then_ (vertex_stages asked) _
    (then_ (stage_if asked VertexIndex) _ (if_ VertexIndex) (λ vertex. then_ (stage_if asked InstanceIndex) _ (if_ InstanceIndex) (λ instance. gives_add (vertex ∷ instance ∷ []))))
    (λ second. gives_add _))

pub takes_add : {A : Type 0} (items : List A) → Adds (in_order (λ (one : A). id_by call.take) items)
unfolding in_order
takes_add [] = gives_add []
takes_add {A} (a ∷ items) = then_ (id_by call.take) _ (asks_add call.take extends_take) (λ id. then_ (in_order (λ (one : A). id_by call.take) items) _ (takes_add items) (λ ids. gives_add (id ∷ ids)))

-- ---- what is kept

module _ (m : Module) (whole : Sections) (structs : List StructType) (held : Kept m) (written : Written m whole) where
  abbrev Keeping : {A : Type 0} → Put A → Type 0
  Keeping {A} put = PutKeeps m whole structs held written put

  -- one part behind another
  both : {A B : Type 0} (put : Put A) (next : A × Known → Step (B × Known)) → Keeping put → ((a : A) → Keeping (λ known. next (a, known))) → Keeping (λ known. put known >>= next)
  both put next p q known s r after made =
      let c = came (put known s) next r after made in
      keeps_then m whole structs held written (p known s c.first c.between c.made) (q c.first.0 c.first.1 c.between r after c.then_)

  gives : {A : Type 0} (a : A) → Keeping (λ known. given (a, known))
  gives a known s r after made = given_keeps m whole structs held written a known s r after made

  fails : {A : Type 0} → Keeping {A = A} (λ known. lacking)
  fails known s r after made = never r after made

  apart : {A : Type 0} (step : Step A) → Adds step → Keeping (aside step)
  apart step adds = aside_keeps m whole structs held written step adds

  value_keeps : (t : Ty) → Keeping (value_type t)
  value_keeps t known s r after made = (type_put m whole structs held written t known s r after made).keeps

  only_keeps : (t : Ty) → Keeping (only (value_type t))
  only_keeps t = both (value_type t) (λ r. given (tt, r.1)) (value_keeps t) (λ id. gives tt)

  pub all_keep : {A : Type 0} (put : A → Put (Unit {0})) → ((a : A) → Keeping (put a)) → (items : List A) → Keeping (all put items)
  unfolding all
  all_keep put p [] = gives tt
  all_keep put p (a ∷ items) = both (put a) (λ r. all put items r.1) (p a) (λ done. all_keep put p items)

  each_keep : {A : Type 0} (put : A → Put ℕ) → ((a : A) → Keeping (put a)) → (items : List A) → Keeping (each put items)
  unfolding each
  each_keep put p [] = gives []
  each_keep put p (a ∷ items) = both (put a) (λ r. each put items r.1 >>= (λ rs. given (r.0 ∷ rs.0, rs.1))) (p a) (λ id. both (each put items) (λ rs. given (id ∷ rs.0, rs.1)) (each_keep put p items) (λ ids. gives (id ∷ ids)))

  -- ---- constants and global variables

  word_keeps : (y : Ty-F Ty) (word : ℕ) → Keeping (word_of y word)
  word_keeps Ty-F.Void word = fails
  word_keeps (Ty-F.One x) word = apart (scalar_constant x word) (constant_adds x word)
  word_keeps (Ty-F.Vector x n) word = fails
  word_keeps (Ty-F.Array e n) word = fails
  word_keeps (Ty-F.Runtime e) word = fails
  word_keeps (Ty-F.Struct k) word = fails

  of_type_keeps : (o : Option Ty) (put : Ty → Put ℕ) → ((t : Ty) → Keeping (put t)) → Keeping (of_type o put)
  of_type_keeps None put p = fails
  of_type_keeps (Some t) put p = p t

  composed_keeps : (t : Ty) (parts : List ℕ) → Keeping (composed_as t parts)
  composed_keeps t parts = both (value_type t) (λ r. aside (composed parts r.0) r.1) (value_keeps t) (λ type. apart (composed parts type) (interns_add (d.composite type parts)))

  abbrev Constant : Value → Type 0
  Constant v = (t : Ty) → Keeping (constant_of structs v t)

  abbrev Part : Type 0
  Part = (v : Value) × Constant v

  parts_keep : (ps : List Part) (t : Ty) (n : ℕ) → Keeping (parts_put structs t n (map (λ (p : Part). constant_of structs p.0) ps))
  unfolding parts_put
  parts_keep [] t n = gives []
  parts_keep (p ∷ ps) t n =
      both (of_type (part_type structs t n) (constant_of structs p.0)) (λ r. parts_put structs t (n + 1) (map (λ (q : Part). constant_of structs q.0) ps) r.1 >>= (λ rs. given (r.0 ∷ rs.0, rs.1)))
      (of_type_keeps (part_type structs t n) (constant_of structs p.0) p.1)
      (λ id. both (parts_put structs t (n + 1) (map (λ (q : Part). constant_of structs q.0) ps)) (λ rs. given (id ∷ rs.0, rs.1)) (parts_keep ps t (n + 1)) (λ ids. gives (id ∷ ids)))

  both_maps : (ps : List Part) → map (constant_of structs) (map (λ (p : Part). p.0) ps) ≡ map (λ (p : Part). constant_of structs p.0) ps
  both_maps [] = refl
  both_maps (p ∷ ps) = ap (λ l. constant_of structs p.0 ∷ l) (both_maps ps)

  by_equation : {A : Type 0} (f g : Put A) → ((known : Known) (s : Sections) → f known s ≡ g known s) → Keeping g → Keeping f
  by_equation f g is p known s r after made = p known s r after (sym (is known s) ∙ made)

  of_value : (y : Value-F Part) → Constant (roll-Value (map-Value _ _ (λ e. e.0) y))
  of_value (Value-F.Word word) t =
      by_equation (constant_of structs (roll-Value (Value-F.Word word)) t) (word_of (out-Ty t) word)
      (λ known s. ap (λ (f : Ty → Put ℕ). f t known s) (fold-roll-Value (Ty → Put ℕ) (constant_layer structs) (Value-F.Word word))) (word_keeps (out-Ty t) word)
  of_value (Value-F.Many ps) t =
      by_equation (constant_of structs (roll-Value (Value-F.Many (map (λ (p : Part). p.0) ps))) t)
      (constant_layer structs (Value-F.Many (map (λ (p : Part). constant_of structs p.0) ps)) t)
      (λ known s. ap (λ (f : Ty → Put ℕ). f t known s) (fold-roll-Value (Ty → Put ℕ) (constant_layer structs) (Value-F.Many (map (λ (p : Part). p.0) ps)))
      ∙ ap (λ l. constant_layer structs (Value-F.Many l) t known s) (both_maps ps))
      (both (parts_put structs t 0 (map (λ (p : Part). constant_of structs p.0) ps)) (λ r. composed_as t r.0 r.1) (parts_keep ps t 0) (λ ids. composed_keeps t ids))

  constant_keeps : (v : Value) → Constant v
  constant_keeps = ind-Value Constant (λ x y is. subst (λ z. Constant (roll-Value z)) is (of_value y))

  pub begins_keep : (t : Ty) (type : ℕ) (o : Option Value) → Keeping (beginning structs t type o)
  begins_keep t type None = apart (id_by (call.constant (of.Null type))) (null_adds type)
  begins_keep t type (Some v) = constant_keeps v t

  global_keeps : (g : GlobalVar) → Keeping (global_put structs g)
  unfolding global_put
  global_keeps g =
      both (value_type g.ty) (λ r. variable_of structs g r.0 r.1) (value_keeps g.ty) (λ type. both (beginning structs g.ty type g.value) (λ r. aside (variable_in storage_class.PRIVATE type (Some r.0)) r.1) (begins_keep g.ty type g.value) (λ init.
      apart (variable_in storage_class.PRIVATE type (Some init)) (variable_adds storage_class.PRIVATE type (Some init))))

  interface_keeps : (i : Interface) → Keeping (interface_put i)
  unfolding interface_put
  interface_keeps i = both (value_type i.ty) (λ r. aside (interface_variable i r.0) r.1) (value_keeps i.ty) (λ type. apart (interface_variable i type) (interface_adds i type))

  -- ---- what a program declares and what it asks for

  types_keep : (p : Program) → p.structs ≡ structs → AreWellTyped (program_lists p) → Keeping (program_types p)
  unfolding program_types global_type block_types block_member_type prototype_types parameter_type function_types local_type
  types_keep p same typed =
      both (struct_types 0 p.structs) (λ a. all global_type p.globals a.1 >>= (λ b. all block_types p.blocks b.1 >>= (λ c. all prototype_types p.prototypes c.1 >>= (λ e. all function_types p.functions e.1))))
      (subst (λ l. Keeping (struct_types 0 l)) (sym same) (structs_keep m whole structs held written (subst AreStructs same typed.structs) structs 0 (λ k struct is. subst (λ n. slice_get structs n ≡ Some struct) (let e : k ≡ 0 + k = omega arith in e) is) (subst (λ l. AllByRecursion (IsStructDeclared l) l) same typed.declared)))
      (λ a. both (all global_type p.globals) (λ b. all block_types p.blocks b.1 >>= (λ c. all prototype_types p.prototypes c.1 >>= (λ e. all function_types p.functions e.1))) (all_keep global_type (λ g. only_keeps g.ty) p.globals)
      (λ b. both (all block_types p.blocks) (λ c. all prototype_types p.prototypes c.1 >>= (λ e. all function_types p.functions e.1)) (all_keep block_types (λ block. all_keep block_member_type (λ member. only_keeps member.ty) block.members) p.blocks)
      (λ c. both (all prototype_types p.prototypes) (λ e. all function_types p.functions e.1)
      (all_keep prototype_types (λ q. both (value_type q.result) (λ r. all parameter_type q.params r.1) (value_keeps q.result) (λ id. all_keep parameter_type (λ x. only_keeps x.1) q.params)) p.prototypes)
      (λ e. all_keep function_types (λ f. all_keep local_type (λ t. only_keeps t) f.locals) p.functions))))

  pub built_keeps : (need : Need) → Keeping (built_type need)
  unfolding built_type
  built_keeps (Holder t) = gives tt
  built_keeps (Built t) = only_keeps t
  built_keeps (Stage var) = gives tt

-- ---- all of it

-- what stands outside functions, taken apart
pub declared_told : (m : Module) (whole : Sections) (target : Target) (p : Program) (asked : List Need) (there : FlowPlace) (s after : Sections) → Valid m → Written m whole → AreWellTyped (program_lists p) → declared target p asked s ≡ Made there after → Extends after whole
    → AreTold m p.structs there.composites
unfolding declared built_types
declared_told m whole target p asked there s after valid written typed made into =
    let held = kept m valid in
    let heads = came (in_order (λ (one : Prototype). id_by call.take) p.prototypes s) _ there after made in
    let types = came (program_types p [] heads.between) _ there after heads.then_ in
    let built = came (all built_type asked types.first.1 types.between) _ there after types.then_ in
    let blocks = came (blocks_put target p.structs p.blocks nothing_laid built.between) _ there after built.then_ in
    let globals = came (globals_put p.structs p.globals built.first.1 blocks.between) _ there after blocks.then_ in
    let interfaces = came (interfaces_put p.interfaces globals.first.1 globals.between) _ there after globals.then_ in
    let ids = came (stages asked interfaces.between) _ there after interfaces.then_ in
    let one = types_keep m whole p.structs held written p refl typed [] heads.between types.first types.between types.made in
    let two = all_keep m whole p.structs held written built_type (built_keeps m whole p.structs held written) asked types.first.1 types.between built.first built.between built.made in
    let three = each_keep m whole p.structs held written (global_put p.structs) (global_keeps m whole p.structs held written) p.globals built.first.1 blocks.between globals.first globals.between globals.made in
    let four = each_keep m whole p.structs held written interface_put (interface_keeps m whole p.structs held written) p.interfaces globals.first.1 globals.between interfaces.first interfaces.between interfaces.made in
    let laid = blocks_add target p.structs p.blocks nothing_laid built.between blocks.first blocks.between blocks.made in
    let last = stages_add asked interfaces.between ids.first ids.between ids.made in
    let made_is = same_made (place heads.first interfaces.first.1 blocks.first.0 (classes_of target p.blocks) globals.first.0 interfaces.first.0 ids.first) there ids.between after ids.then_ in
    let end_is = same_after (place heads.first interfaces.first.1 blocks.first.0 (classes_of target p.blocks) globals.first.0 interfaces.first.0 ids.first) there ids.between after ids.then_ in
    let inside_ids : Extends ids.between whole = subst (λ (t : Sections). Extends t whole) (sym end_is) into in
    let inside_interfaces = extends_then last inside_ids in
    let inside_globals = extends_then four.extends inside_interfaces in
    let inside_blocks = extends_then three.extends inside_globals in
    let inside_built = extends_then laid inside_blocks in
    let inside_types = extends_then two.extends inside_built in
    let all = four.all inside_interfaces (three.all inside_globals (two.all inside_built (one.all inside_types tt))) in
    let known : AllTold m whole p.structs held written there.composites = subst (λ (f : FlowPlace). AllTold m whole p.structs held written f.composites) made_is all in
    record {
      zeros = λ t id is. (told_of m whole p.structs held written t id there.composites is known).0;
      vectors = λ t id is. (told_of m whole p.structs held written t id there.composites is known).1;
    }
