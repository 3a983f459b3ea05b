-- With which values variables outside functions begin.
use Rattle.std.proofs.Common.{◌≡◌, refl, sym, ap, ◌∙◌, subst, inl, inr, ℕ, zero, suc, Bool, true, false, if◌then◌else◌, List, [], ◌∷◌, ◌++◌, slice_get, take, unwrap_or, Option, Some, None, arith}
use Rattle.std.specs.Prelude.{option_to_list}
use Rattle.std.specs.List.{Contains}
use Rattle.std.proofs.lemmas.List.Elements.{Contains-append_left, Contains-append_right}
use Rattle.gsl_base.specs.declared.input.Input.{Input}
use Rattle.gsl_instr.specs.Forms.{form_of}
use Rattle.gsl_instr.specs.declared.enumerant.decoration.TheConstants as decoration
use Rattle.gsl_instr.specs.declared.enumerant.storage_class.TheConstants as storage_class
use Rattle.gsl_words.specs.declared.module.Instr.{Instr}
use Rattle.gsl_words.specs.declared.module.Module.{Module}
use Rattle.gsl_words.specs.declared.target.Target.{Target}
use Rattle.gsl_values.specs.declared.value.Value.{Value}
use Rattle.gsl_tree.specs.Values.{is_value_of, of_components, zero_value}
use Rattle.gsl_tree.specs.WellTyped.{IsInterface, IsLocalSize, IsProgram, IsVariableType}
use Rattle.gsl_tree.specs.declared.unit.GlobalVar.{GlobalVar}
use Rattle.gsl_tree.specs.declared.unit.Interface.{Interface}
use Rattle.gsl_tree.specs.declared.expr.StageVar.{StageVar}
use Rattle.gsl_tree.specs.declared.expr.StageVar.TheVariants.{NumWorkGroups, WorkGroupId, LocalInvocationId, GlobalInvocationId, LocalInvocationIndex, VertexIndex, InstanceIndex}
use Rattle.gsl_tree.specs.declared.program.Program.{Program}
use Rattle.gsl_meaning.specs.Shader.{begins, global_begins}
use Rattle.gsl_meaning.specs.Stages.{interface_begins, stage_value}
use Rattle.gsl_inputs.specs.Given.{words_at}
use Rattle.gsl_types.specs.Conversions.{components}
use Rattle.gsl_types.specs.declared.ty.Ty.{Ty}
use Rattle.gsl_valid.specs.Kinds.{Variable, variable_is}
use Rattle.gsl_valid.specs.DecorationRules.{pointee, pointee_of}
use Rattle.gsl_valid.specs.Types.{defined_as, lanes_of, target_of}
use Rattle.gsl_valid.specs.Valid.{Valid}
use Rattle.gsl_machine.specs.Constants.{constant}
use Rattle.gsl_machine.specs.Interfaces.{built_in_value, given, local_size, located, value_variables, variable_begins}
use Rattle.gsl_machine.specs.Memory.{size_of}
use Rattle.gsl_sound_code.proofs.Looks.{Kept, kept}
use Rattle.gsl_sound_ids.proofs.Globals.{among_values}
use Rattle.gsl_spv.specs.Calls.{decorating}
use Rattle.gsl_spv.specs.Declarations as d
use Rattle.gsl_spv.specs.Declarations.{defining}
use Rattle.gsl_spv.specs.Finished.{capabilities, entry_point, memory_models, modes, module_of}
use Rattle.gsl_spv.specs.Once.{interface_of}
use Rattle.gsl_spv.specs.Sections.{Sections, empty}
use Rattle.gsl_spv.specs.declared.plain.PlainType.TheVariants as plain
use Rattle.gsl_lower_text.specs.Written.{Written}
use Rattle.gsl_lower_text.proofs.Constants.{at}
use Rattle.gsl_lower_text.proofs.Finishes.{finished_written}
use Rattle.gsl_lower_holders.specs.Flow.{Flow}
use Rattle.gsl_lower_expr.specs.Parts.{stage_number}
use Rattle.gsl_lower_types.specs.Interfaces.{built_in_of}
use Rattle.gsl_lower_flow.specs.Programs.{program_needs}
use Rattle.gsl_lower_follows.specs.Frames.{Name, Global, Interface as Passed, Stage, id_if, id_of, value_of}
use Rattle.gsl_lower_law_outside.specs.OfLawReturns.{is_shared}
use Rattle.gsl_lower_law_outside.proofs.OfLawEntered.{among_at, mapped}
use Rattle.gsl_lower_law_outside.proofs.OfLawZeros.{null_begins}
use Rattle.gsl_lower_law_outside.specs.Beginning.{HaveOutside}
use Rattle.gsl_lower_law_outside.proofs.Held.{outer_held}
use Rattle.gsl_lower_law_outside.specs.Beginning.{BeginsWith}
use Rattle.gsl_lower_law_inputs.specs.Beginning.{AreInitialised, stage_given, stages_given, where_named}
use Rattle.gsl_lower_law_inputs.proofs.Declared.{AllStand, all_stand}
use Rattle.gsl_lower_law_inputs.proofs.Decorated.{no_built_in, number_found}
use Rattle.gsl_lower_law_inputs.proofs.Globals.{BeginsAs}
use Rattle.gsl_lower_law_inputs.proofs.Interfaces.{HasPassed}
use Rattle.gsl_lower_law_inputs.proofs.Passed.{at_number, components_are, shape_plain}
use Rattle.gsl_lower_law_inputs.proofs.Tells.{HasDecoration, HasGlobal}
use Rattle.gsl_lower_law_inputs.proofs.Types.{IsType}
use Rattle.gsl_lower_law_inputs.proofs.Sizes.{size_same}
use Rattle.gsl_lower_law_inputs.proofs.Stages.{HasStage}

module _ (target : Target) (p : Program) (main : ℕ) (flow : Flow) (program : IsProgram p) (valid : Valid (module_of flow.sections main p.local_size)) (h : HaveOutside target p main flow) (input : Input) where
  abbrev m : Module
  m = module_of flow.sections main p.local_size

  abbrev whole : Sections
  whole = flow.sections

  abbrev written : Written m whole
  written = finished_written whole main p.local_size

  abbrev keeps : Kept m
  keeps = kept m valid

  -- ---- what the module has

  variable_said : (pointer class id : ℕ) (init : Option ℕ) → Contains whole.globals (defining (d.variable pointer class init) id) → variable_is (defined_as m id) ≡ Some (record { type = pointer; id = id; class = class; initialiser = option_to_list init })
  unfolding form_of
  variable_said pointer class id init there =
      let i = defining (d.variable pointer class init) id in
      ap variable_is ((at m keeps i (written.globals i there)).keeps.own id refl)

  pub decorations_said : (i : Instr) → Contains whole.decorations i → Contains m.instrs i
  decorations_said i there =
      let front = capabilities ++ whole.imports ++ memory_models ++ entry_point whole.stage main (interface_of whole.globals) ∷ [] ++ modes whole.stage main p.local_size ++ whole.names in
      Contains-append_left (front ++ whole.decorations ++ whole.globals) whole.functions i (Contains-append_left (front ++ whole.decorations) whole.globals i (Contains-append_right front whole.decorations i there))

  pub stand : AllStand m whole p keeps written h.place h.told program.typed.structs
  stand = all_stand m whole p keeps written h.place h.told program.typed.structs target (program_needs p) (empty p.stage target) h.first h.outside h.extends

  -- a name begins with the value of its variable
  begins_as : (name : Name) (id : ℕ) (v : Variable) (w : Value) → is_shared name ≡ true → id_of h.place name ≡ Some id → variable_is (defined_as m id) ≡ Some v → variable_begins m input v ≡ w → BeginsWith m input h.place name w
  begins_as name id v w shared named is value =
      let x = outer_held m whole keeps written h.first id h.extends (h.outer.stand name id shared named) in
      let own = (among_values m keeps x.variable (among_at (value_variables m) x.position x.variable x.there)).0 in
      let same = the_same x.variable v (sym own ∙ ap (λ n. variable_is (defined_as m n)) x.same ∙ is) in
      record {
        position = x.position;
        variable = x.variable;
        there = x.there;
        named = named ∙ ap Some (sym x.same);
        value = ap (variable_begins m input) same ∙ value;
      }
    where
      the_same : (u v : Variable) → Some u ≡ Some v → u ≡ v
      the_same u v e = cc

  -- ---- built-in variables

  pub sized : local_size m ≡ p.local_size
  sized = size_same whole main p.local_size valid (subst (λ g. IsLocalSize g p.local_size) (sym stage_same) program.size)
    where
      stage_same : whole.stage ≡ p.stage
      stage_same = h.extends.stage ∙ h.outer.extends.stage

  same_value : (var : StageVar) → built_in_value p.local_size input (built_in_of var) ≡ stage_value p.local_size input var
  same_value NumWorkGroups = refl
  same_value WorkGroupId = refl
  same_value LocalInvocationId = refl
  same_value GlobalInvocationId = refl
  same_value LocalInvocationIndex = refl
  same_value VertexIndex = refl
  same_value InstanceIndex = refl

  stage_said : (var : StageVar) (id : ℕ) → HasStage whole var id → id_of h.place (Stage (stage_number var)) ≡ Some id → BeginsWith m input h.place (Stage (stage_number var)) (stage_value p.local_size input var)
  stage_said var id has named =
      let v : Variable = record { type = has.variable.pointer; id = id; class = storage_class.INPUT; initialiser = [] } in
      begins_as (Stage (stage_number var)) id v (stage_value p.local_size input var) refl named (variable_said has.variable.pointer storage_class.INPUT id None has.variable.stands)
      (ap (given m input v) (number_found m keeps id decoration.BUILT_IN (built_in_of var) (decorations_said _ has.marked)) ∙ ap (λ size. built_in_value size input (built_in_of var)) sized ∙ same_value var)

  stage_begun : (var : StageVar) (v : Value) → stage_given h.place.stage_vars p.local_size input var ≡ Some v → BeginsWith m input h.place (Stage (stage_number var)) v
  stage_begun var v is = by (slice_get h.place.stage_vars (stage_number var)) refl is
    where
      by : (o : Option ℕ) → slice_get h.place.stage_vars (stage_number var) ≡ o → where_named (id_if o) (stage_value p.local_size input var) ≡ Some v → BeginsWith m input h.place (Stage (stage_number var)) v
      by None at is = absurd (cc)
      by (Some zero) at is = absurd (cc)
      by (Some (suc k)) at is =
          let same : stage_value p.local_size input var ≡ v = cc in
          elim (stand.stages.each var (suc k) at) [
            | inl none ↦ absurd (let e : suc k ≡ 0 = none in omega (arith, e))
            | inr has ↦ subst (BeginsWith m input h.place (Stage (stage_number var))) same (stage_said var (suc k) has (ap id_if at))
          ]

  pub stages_begin : (number : ℕ) (v : Value) → value_of (stages_given h.place.stage_vars p.local_size input) (begins p input) (Stage number) ≡ Some v → BeginsWith m input h.place (Stage number) v
  stages_begin zero v is = stage_begun NumWorkGroups v is
  stages_begin (suc zero) v is = stage_begun WorkGroupId v is
  stages_begin (suc (suc zero)) v is = stage_begun LocalInvocationId v is
  stages_begin (suc (suc (suc zero))) v is = stage_begun GlobalInvocationId v is
  stages_begin (suc (suc (suc (suc zero)))) v is = stage_begun LocalInvocationIndex v is
  stages_begin (suc (suc (suc (suc (suc zero))))) v is = stage_begun VertexIndex v is
  stages_begin (suc (suc (suc (suc (suc (suc zero)))))) v is = stage_begun InstanceIndex v is
  stages_begin (suc (suc (suc (suc (suc (suc (suc number))))))) v is = absurd (cc)

  -- ---- global variables

  global_value : (t : Ty) (o : Option Value) (init : ℕ) → IsVariableType p.structs t → ((v : Value) → o ≡ Some v → is_value_of p.structs t v ≡ true) → BeginsAs m whole p.structs keeps written h.place.composites h.told program.typed.structs t o init
      → constant m init ≡ global_begins p.structs t o
  global_value t None init type typed begun = begun type.known type.plain
  global_value t (Some v) init type typed begun = begun (typed v refl)

  pub globals_begin : AreInitialised p → (stages : List (Option Value)) (number : ℕ) (v : Value) → value_of stages (begins p input) (Global number) ≡ Some v → BeginsWith m input h.place (Global number) v
  globals_begin initialised stages number v is =
      let x = mapped (λ (g : GlobalVar). global_begins p.structs g.ty g.value) p.globals number v is in
      let s = stand.globals.each number x.0 x.1 in
      let has = s.2 in
      begins_as (Global number) s.0 (record { type = has.variable.pointer; id = s.0; class = storage_class.PRIVATE; initialiser = has.init ∷ [] }) v refl s.1 (variable_said has.variable.pointer storage_class.PRIVATE s.0 (Some has.init) has.variable.stands)
      (global_value x.0.ty x.0.value has.init (program.typed.globals number x.0 x.1).type (λ w e. initialised number x.0 w x.1 e) has.begins ∙ x.2)

  -- ---- inputs and outputs

  pointee_said : (class type pointer : ℕ) → HasGlobal whole (defining (d.plain_type (plain.Pointer class type)) pointer) → pointee m pointer ≡ type
  unfolding form_of
  pointee_said class type pointer there = ap (λ o. pointee_of (target_of o)) ((at m keeps _ (written.globals _ there)).keeps.own pointer refl)

  -- A variable of an id begins with a value.
  record VariableBegins (id : ℕ) (w : Value) : Type 0 where
    variable : Variable
    is : variable_is (defined_as m id) ≡ Some variable
    begins_with : variable_begins m input variable ≡ w

  passed_begins : (i : Interface) (id type : ℕ) → IsInterface p.stage p.structs i → IsType m whole p.structs keeps written h.place.composites h.told i.ty type → HasDecoration whole id decoration.LOCATION i.location → (b : Bool) → HasPassed whole b type id
      → VariableBegins id (if b then zero_value p.structs i.ty else of_components (take (components i.ty) (unwrap_or (words_at input.ins i.location) [])))
  passed_begins i id type right is_type marked true has = record {
    variable = record { type = has.variable.pointer; id = id; class = storage_class.OUTPUT; initialiser = has.zero ∷ [] };
    is = variable_said has.variable.pointer storage_class.OUTPUT id (Some has.zero) has.variable.stands;
    begins_with = null_begins m type has.zero (at m keeps _ (written.globals _ has.null)) ∙ is_type.zero right.known (shape_plain i.ty right.type.0 right.type.1);
  }
  passed_begins i id type right is_type marked false has = record {
    variable = v;
    is = variable_said has.pointer storage_class.INPUT id None has.stands;
    begins_with =
        ap (given m input v) (no_built_in m keeps v i.location (variable_said has.pointer storage_class.INPUT id None has.stands) refl there)
        ∙ ap (located m input v) (number_found m keeps id decoration.LOCATION i.location there)
        ∙ ap (λ n. of_components (take n (unwrap_or (words_at input.ins i.location) [])))
        (ap (λ t. size_of (lanes_of m t)) (pointee_said storage_class.INPUT type has.pointer has.points) ∙ is_type.counted right.type.0 right.type.1 ∙ sym (components_are i.ty right.type.0 right.type.1));
  }
    where
      there : Contains m.instrs (decorating id None decoration.LOCATION (Some i.location))
      there = decorations_said _ marked

      v : Variable
      v = record { type = has.pointer; id = id; class = storage_class.INPUT; initialiser = [] }

  pub interfaces_begin : (stages : List (Option Value)) (number : ℕ) (v : Value) → value_of stages (begins p input) (Passed number) ≡ Some v → BeginsWith m input h.place (Passed number) v
  interfaces_begin stages number v is =
      let x = mapped (interface_begins p.structs input) p.interfaces number v is in
      let s = stand.interfaces.each number x.0 x.1 in
      let has = s.2 in
      let right = at_number (IsInterface p.stage p.structs) p.interfaces number x.0 program.typed.interfaces x.1 in
      let b = passed_begins x.0 s.0 has.type right has.is_type has.marked x.0.output has.passed in
      begins_as (Passed number) s.0 b.variable v refl s.1 b.is (b.begins_with ∙ x.2)

  -- an input has as many words as its type
  pub input_counted : (number : ℕ) (i : Interface) (v : Variable) → slice_get p.interfaces number ≡ Some i → i.output ≡ false → slice_get h.place.interfaces number ≡ Some v.id → variable_is (defined_as m v.id) ≡ Some v → size_of (lanes_of m (pointee m v.type)) ≡ components i.ty
  input_counted number i v at own named is =
      let s = stand.interfaces.each number i at in
      let has = s.2 in
      let right = at_number (IsInterface p.stage p.structs) p.interfaces number i program.typed.interfaces at in
      let variable = subst (λ b. HasPassed whole b has.type s.0) own has.passed in
      let same = the_id s.0 v.id (sym s.1 ∙ named) in
      let told = the_type v variable.pointer s.0 (sym is ∙ ap (λ n. variable_is (defined_as m n)) (sym same) ∙ variable_said variable.pointer storage_class.INPUT s.0 None variable.stands) in
      ap (λ n. size_of (lanes_of m (pointee m n))) told ∙ ap (λ n. size_of (lanes_of m n)) (pointee_said storage_class.INPUT has.type variable.pointer variable.points) ∙ has.is_type.counted right.type.0 right.type.1 ∙ sym (components_are i.ty right.type.0 right.type.1)
    where
      the_id : (a b : ℕ) → Some a ≡ Some b → a ≡ b
      the_id a b e = cc

      the_type : (u : Variable) (pointer id : ℕ) → Some u ≡ Some (record { type = pointer; id = id; class = storage_class.INPUT; initialiser = [] }) → u.type ≡ pointer
      the_type u pointer id e = let same : u ≡ record { type = pointer; id = id; class = storage_class.INPUT; initialiser = [] } = cc in ap (λ (x : Variable). x.type) same
