-- The outputs of a module are those of its program, in their order.
use Rattle.std.proofs.Common.{◌≡◌, ◌≢◌, refl, sym, ap, ◌∙◌, subst, inl, ℕ, zero, suc, ◌+◌, Bool, true, false, List, [], ◌∷◌, length, slice_get, Option, Some, None, if◌then◌else◌, arith}
use Rattle.std.specs.Prelude.{◌==◌, filter_map}
use Rattle.std.specs.List.{AllByRecursion, cons_option}
use Rattle.std.proofs.lemmas.Bool.{cond-false, cond-true, eqb-true, or_left, or_right, true≢false}
use Rattle.gsl_base.specs.declared.input.Input.{Input}
use Rattle.gsl_instr.specs.declared.enumerant.decoration.TheConstants as decoration
use Rattle.gsl_instr.specs.declared.enumerant.storage_class.TheConstants as storage_class
use Rattle.gsl_words.specs.declared.module.Module.{Module}
use Rattle.gsl_words.specs.declared.target.Target.{Target}
use Rattle.gsl_values.specs.declared.value.Value.{Value}
use Rattle.gsl_tree.specs.WellTyped.{IsProgram}
use Rattle.gsl_tree.specs.declared.program.Program.{Program}
use Rattle.gsl_tree.specs.declared.unit.Interface.{Interface as Declared}
use Rattle.gsl_valid.specs.Decorations.{number_on}
use Rattle.gsl_valid.specs.Ids.{defined, defines}
use Rattle.gsl_valid.specs.IdsDefinedOnce.{defines_once}
use Rattle.gsl_valid.specs.Instruction.{read}
use Rattle.gsl_valid.specs.Kinds.{Variable, variable_is}
use Rattle.gsl_valid.specs.Placed.{Code}
use Rattle.gsl_valid.specs.Search.{Passes}
use Rattle.gsl_valid.specs.Types.{before_functions, function_begins, is_block_class, outside_of}
use Rattle.gsl_valid.specs.Valid.{Valid}
use Rattle.gsl_valid.proofs.Lookups.{new_before}
use Rattle.gsl_machine.specs.Interfaces.{all_variables, holds_value, value_variables}
use Rattle.gsl_machine.specs.State.{InVariable, Points}
use Rattle.gsl_sound_code.proofs.Looks.{Kept, kept}
use Rattle.gsl_sound_ids.proofs.Variables.{variable_result}
use Rattle.gsl_sound_values.proofs.Unfolded.{result_defines}
use Rattle.gsl_spv.specs.Finished.{module_of}
use Rattle.gsl_spv.specs.Sections.{Sections, empty}
use Rattle.gsl_lower_holders.specs.Flow.{Flow}
use Rattle.gsl_lower_flow.specs.Programs.{program_needs}
use Rattle.gsl_lower_follows.specs.Frames.{Frame, Interface}
use Rattle.gsl_lower_frames.proofs.Numbers.{outer_position, value_points}
use Rattle.gsl_lower_law_inputs.specs.OfLawEntered.{IsFrame}
use Rattle.gsl_lower_law_inputs.proofs.OfLawEntered.{among_at}
use Rattle.gsl_lower_law_main.specs.Ending.{AreOuts, HasOutputs, out_at, outs_from}
use Rattle.gsl_lower_law_inputs.specs.OfLawOutside.{HaveOutside}
use Rattle.gsl_lower_law_outputs.specs.Outputs.{DeclaresNoOutput, chosen_if, is_output, out_of, outputs_in}
use Rattle.gsl_lower_law_inputs.proofs.Begun.{decorations_said, stand}
use Rattle.gsl_lower_law_inputs.proofs.Decorated.{number_found}
use Rattle.gsl_lower_law_outputs.proofs.Ordered.{AreOutputs, PutsAll, outputs_put}
use Rattle.gsl_lower_law_outputs.proofs.Front.{outside_chosen}

-- ---- outputs among variables that hold values

held_outputs : (code : Code) → filter_map out_of (filter_map holds_value (filter_map (λ i. variable_is (read i)) code)) ≡ outputs_in code
held_outputs [] = refl
held_outputs (i ∷ code) = by (variable_is (read i)) (held_outputs code)
  where
    rest : List Variable
    rest = filter_map (λ j. variable_is (read j)) code

    by_class : (v : Variable) (b : Bool) → (v.class == storage_class.OUTPUT) ≡ b → filter_map out_of (filter_map holds_value rest) ≡ outputs_in code → filter_map out_of (cons_option (holds_value v) (filter_map holds_value rest)) ≡ cons_option (out_of v) (outputs_in code)
    by_class v true is later =
        let held : holds_value v ≡ Some v = cond-false (is_block_class v.class) None (Some v) (ap is_block_class (eqb-true v.class storage_class.OUTPUT is)) in
        let out : out_of v ≡ Some v = cond-true (v.class == storage_class.OUTPUT) (Some v) None is in
        ap (λ o. filter_map out_of (cons_option o (filter_map holds_value rest))) held ∙ ap (λ o. cons_option o (filter_map out_of (filter_map holds_value rest))) out ∙ ap (λ l. v ∷ l) later ∙ ap (λ o. cons_option o (outputs_in code)) (sym out)
    by_class v false is later =
        let out : out_of v ≡ None = cond-false (v.class == storage_class.OUTPUT) (Some v) None is in
        skip (is_block_class v.class) out ∙ later ∙ ap (λ o. cons_option o (outputs_in code)) (sym out)
      where
        skip : (b : Bool) → out_of v ≡ None → filter_map out_of (cons_option (if b then None else Some v) (filter_map holds_value rest)) ≡ filter_map out_of (filter_map holds_value rest)
        skip true out = refl
        skip false out = ap (λ o. cons_option o (filter_map out_of (filter_map holds_value rest))) out

    by : (o : Option Variable) → filter_map out_of (filter_map holds_value rest) ≡ outputs_in code → filter_map out_of (filter_map holds_value (cons_option o rest)) ≡ cons_option (chosen_if is_output o) (outputs_in code)
    by None later = later
    by (Some v) later = by_class v (v.class == storage_class.OUTPUT) refl later

-- ---- each id stands once

-- no two variables have one id
abbrev AllApart : List Variable → Type 0
AllApart [] = Unit {0}
AllApart (v ∷ vs) = AllByRecursion (λ (w : Variable). w.id ≢ v.id) vs × AllApart vs

module _ (bound : ℕ) where
  others : (before code : Code) (id : ℕ) → Passes (defines_once bound) before code → defined before id ≡ true → AllByRecursion (λ (w : Variable). w.id ≢ id) (filter_map (λ i. variable_is (read i)) code)
  others before [] id all is = tt
  others before (i ∷ code) id all is = by (variable_is (read i)) refl (others (i ∷ before) code id all.1 (or_right (defines i id) (defined before id) is))
    where
      by : (o : Option Variable) → variable_is (read i) ≡ o → AllByRecursion (λ (w : Variable). w.id ≢ id) (filter_map (λ j. variable_is (read j)) code) → AllByRecursion (λ (w : Variable). w.id ≢ id) (cons_option o (filter_map (λ j. variable_is (read j)) code))
      by None e later = later
      by (Some w) e later = (
        λ same. true≢false (sym is ∙ ap (defined before) (sym same) ∙ new_before bound before (i ∷ code) i w.id all (inl refl) (variable_result (read i) w e)),
        later,
      )

  all_apart : (before code : Code) → Passes (defines_once bound) before code → AllApart (filter_map (λ i. variable_is (read i)) code)
  all_apart before [] all = tt
  all_apart before (i ∷ code) all = by (variable_is (read i)) refl (all_apart (i ∷ before) code all.1)
    where
      by : (o : Option Variable) → variable_is (read i) ≡ o → AllApart (filter_map (λ j. variable_is (read j)) code) → AllApart (cons_option o (filter_map (λ j. variable_is (read j)) code))
      by None e later = later
      by (Some v) e later = (others (i ∷ before) code v.id all.1 (or_left (defines i v.id) (defined before v.id) (result_defines i v.id (variable_result (read i) v e))), later)

  front_passes : (before code : Code) → Passes (defines_once bound) before code → Passes (defines_once bound) before (before_functions code)
  front_passes before [] all = tt
  front_passes before (i ∷ code) all = by (function_begins (read i)) (front_passes (i ∷ before) code all.1)
    where
      by : (b : Bool) → Passes (defines_once bound) (i ∷ before) (before_functions code) → Passes (defines_once bound) before (if b then [] else i ∷ before_functions code)
      by true later = tt
      by false later = (all.0, later)

held_others : (id : ℕ) (vs : List Variable) → AllByRecursion (λ (w : Variable). w.id ≢ id) vs → AllByRecursion (λ (w : Variable). w.id ≢ id) (filter_map holds_value vs)
held_others id [] all = tt
held_others id (v ∷ vs) all = by (is_block_class v.class) (held_others id vs all.1)
  where
    by : (b : Bool) → AllByRecursion (λ (w : Variable). w.id ≢ id) (filter_map holds_value vs) → AllByRecursion (λ (w : Variable). w.id ≢ id) (cons_option (if b then None else Some v) (filter_map holds_value vs))
    by true later = later
    by false later = (all.0, later)

held_apart : (vs : List Variable) → AllApart vs → AllApart (filter_map holds_value vs)
held_apart [] all = tt
held_apart (v ∷ vs) all = by (is_block_class v.class) (held_apart vs all.1)
  where
    by : (b : Bool) → AllApart (filter_map holds_value vs) → AllApart (cons_option (if b then None else Some v) (filter_map holds_value vs))
    by true later = later
    by false later = (held_others v.id vs all.0, later)

none_other : (id : ℕ) (vs : List Variable) (k : ℕ) (w : Variable) → AllByRecursion (λ (x : Variable). x.id ≢ id) vs → slice_get vs k ≡ Some w → w.id ≢ id
none_other id [] zero w all at same = cc
none_other id [] (suc k) w all at same = cc
none_other id (x ∷ vs) zero w all at same = let e : x ≡ w = cc in all.0 (ap (λ (y : Variable). y.id) e ∙ same)
none_other id (x ∷ vs) (suc k) w all at same = none_other id vs k w all.1 at same

one_position : (vs : List Variable) → AllApart vs → (j k : ℕ) (v w : Variable) → slice_get vs j ≡ Some v → slice_get vs k ≡ Some w → v.id ≡ w.id → j ≡ k
one_position [] all zero k v w at other same = absurd (cc)
one_position [] all (suc j) k v w at other same = absurd (cc)
one_position (x ∷ vs) all zero zero v w at other same = refl
one_position (x ∷ vs) all zero (suc k) v w at other same = let e : x ≡ v = cc in absurd (none_other x.id vs k w all.0 other (sym same ∙ ap (λ (y : Variable). y.id) (sym e)))
one_position (x ∷ vs) all (suc j) zero v w at other same = let e : x ≡ w = cc in absurd (none_other x.id vs j v all.0 at (same ∙ ap (λ (y : Variable). y.id) (sym e)))
one_position (x ∷ vs) all (suc j) (suc k) v w at other same = ap suc (one_position vs all.1 j k v w at other same)

-- ---- the module of a program

-- what comes of a list behind its first items
abbrev pub From : {A : Type 0} → List A → ℕ → List A → Type 0
From {A} all at rest = (k : ℕ) (x : A) → slice_get rest k ≡ Some x → slice_get all (at + k) ≡ Some x

pub from_next : {A : Type 0} (all : List A) (at : ℕ) (x : A) (rest : List A) → From all at (x ∷ rest) → From all (suc at) rest
from_next all at x rest from k y is = ap (slice_get all) (let e : suc at + k ≡ at + suc k = omega arith in e) ∙ from (suc k) y is

pub from_here : {A : Type 0} (all : List A) (at : ℕ) (x : A) (rest : List A) → From all at (x ∷ rest) → slice_get all at ≡ Some x
from_here all at x rest from = ap (slice_get all) (let e : at ≡ at + 0 = omega arith in e) ∙ from 0 x refl

pub from_all : {A : Type 0} (all : List A) → From all 0 all
from_all all k x is = ap (slice_get all) (let e : 0 + k ≡ k = omega arith in e) ∙ is

module _ (target : Target) (p : Program) (main : ℕ) (flow : Flow) (program : IsProgram p) (valid : Valid (module_of flow.sections main p.local_size)) (h : HaveOutside target p main flow) (rest : DeclaresNoOutput h.first flow.sections) where
  abbrev m : Module
  m = module_of flow.sections main p.local_size

  abbrev whole : Sections
  whole = flow.sections

  abbrev keeps : Kept m
  keeps = kept m valid

  puts : PutsAll p.interfaces (empty p.stage target) h.place.interfaces h.first
  puts = outputs_put target p (program_needs p) h.place (empty p.stage target) h.first h.outside

  outside_outputs : outputs_in (outside_of m) ≡ puts.outputs
  outside_outputs = outside_chosen is_output target p main flow h puts.outputs puts.puts rest

  value_outputs : filter_map out_of (value_variables m) ≡ puts.outputs
  value_outputs = held_outputs (outside_of m) ∙ outside_outputs

  apart : AllApart (value_variables m)
  apart = held_apart (all_variables m) (all_apart m.bound [] (outside_of m) (front_passes m.bound [] m.instrs keeps.once))

  module _ (input : Input) (stages : List (Option Value)) (f : Frame m input whole) (of_module : IsFrame m input whole h.place stages f) where
    -- the seat of an input or output is the position of its variable
    seated : (number position : ℕ) (id : ℕ) (v : Variable) → slice_get h.place.interfaces number ≡ Some id → slice_get (value_variables m) position ≡ Some v → v.id ≡ id → f.seat (Interface number) ≡ Some position
    seated number position id v named at same =
        let known = f.known (Interface number) id (ap (λ l. slice_get l number) of_module.knows.interfaces ∙ named) in
        let among = among_at (value_variables m) position v at in
        let points = value_points m keeps id v (length (value_variables m)) (omega arith) among same in
        let x = outer_position m id points.number points.is in
        let own = of_module.lasting.same id (Points (InVariable points.number [])) points.is in
        let seat : known.0 ≡ points.number = number_of known.0 points.number (sym known.2 ∙ own) in
        let position_is : points.number ≡ position = one_position (value_variables m) apart points.number position x.0 v x.1 at (x.2 ∙ sym same) in
        known.1 ∙ ap Some (seat ∙ position_is)
      where
        number_of : (a b : ℕ) → Some (Points (InVariable a [])) ≡ Some (Points (InVariable b [])) → a ≡ b
        number_of a b e = cc

    abbrev all_values : List Variable
    all_values = value_variables m

    located : (number id : ℕ) (i : Declared) → slice_get p.interfaces number ≡ Some i → slice_get h.place.interfaces number ≡ Some id → number_on m decoration.LOCATION id ≡ Some i.location
    located number id i at named =
        let s = (stand target p main flow program valid h input).interfaces.each number i at in
        let same : s.0 ≡ id = some s.0 id (sym s.1 ∙ named) in
        ap (number_on m decoration.LOCATION) (sym same) ∙ number_found m keeps s.0 decoration.LOCATION i.location (decorations_said target p main flow program valid h input _ s.2.marked)
      where
        some : (a b : ℕ) → Some a ≡ Some b → a ≡ b
        some a b e = cc

    -- variables from a position on, against inputs and outputs from a number on
    matched : (vs : List Variable) (position : ℕ) → From all_values position vs → (items : List Declared) (ids : List ℕ) (outs : List Variable) (number : ℕ) → From p.interfaces number items → From h.place.interfaces number ids → AreOutputs items ids outs → filter_map out_of vs ≡ outs
        → AreOuts f.seat number items (outs_from m position vs)
    matched [] position values items ids outs number declared named are is = ends items ids outs number declared named are (sym is)
      where
        ends : (items : List Declared) (ids : List ℕ) (outs : List Variable) (number : ℕ) → From p.interfaces number items → From h.place.interfaces number ids → AreOutputs items ids outs → outs ≡ [] → AreOuts f.seat number items []
        ends items ids outs number declared named AreOutputs.none is = AreOuts.none
        ends (i ∷ items) (id ∷ ids) outs number declared named (AreOutputs.input e more) is = AreOuts.input e (ends items ids outs (suc number) (from_next p.interfaces number i items declared) (from_next h.place.interfaces number id ids named) more is)
        ends (i ∷ items) (id ∷ ids) (v ∷ outs) number declared named (AreOutputs.output w e same more) is = absurd (cc)
    matched (v ∷ vs) position values items ids outs number declared named are is = by (v.class == storage_class.OUTPUT) refl (matched vs (suc position) (from_next all_values position v vs values))
      where
        Later : Type 0
        Later = (items : List Declared) (ids : List ℕ) (outs : List Variable) (number : ℕ) → From p.interfaces number items → From h.place.interfaces number ids → AreOutputs items ids outs → filter_map out_of vs ≡ outs → AreOuts f.seat number items (outs_from m (suc position) vs)

        unlocated : (o : Option ℕ) → (v.class == storage_class.OUTPUT) ≡ false → out_at position v.class o ≡ None
        unlocated None e = refl
        unlocated (Some n) e = cond-false (v.class == storage_class.OUTPUT) (Some (position, n)) None e

        first : (v.class == storage_class.OUTPUT) ≡ true → (items : List Declared) (ids : List ℕ) (outs : List Variable) (number : ℕ) → From p.interfaces number items → From h.place.interfaces number ids → AreOutputs items ids outs → v ∷ filter_map out_of vs ≡ outs → Later → AreOuts f.seat number items (outs_from m position (v ∷ vs))
        first class [] [] [] number declared named AreOutputs.none is later = absurd (cc)
        first class [] [] (w ∷ outs) number declared named are is later = elim are [ ]
        first class [] (id ∷ ids) outs number declared named are is later = elim are [ ]
        first class (i ∷ items) [] outs number declared named are is later = elim are [ ]
        first class (i ∷ items) (id ∷ ids) outs number declared named (AreOutputs.input e more) is later = AreOuts.input e (first class items ids outs (suc number) (from_next p.interfaces number i items declared) (from_next h.place.interfaces number id ids named) more is later)
        first class (i ∷ items) (id ∷ ids) (w ∷ outs) number declared named (AreOutputs.output x e same more) is later =
            let v_is : v ≡ w = cc in
            let rest_is : filter_map out_of vs ≡ outs = cc in
            let id_is : v.id ≡ id = ap (λ (y : Variable). y.id) v_is ∙ same in
            let at : number_on m decoration.LOCATION v.id ≡ Some i.location = ap (number_on m decoration.LOCATION) id_is ∙ located number id i (from_here p.interfaces number i items declared) (from_here h.place.interfaces number id ids named) in
            let out_is : out_at position v.class (number_on m decoration.LOCATION v.id) ≡ Some (position, i.location) = ap (out_at position v.class) at ∙ cond-true (v.class == storage_class.OUTPUT) (Some (position, i.location)) None class in
            subst (AreOuts f.seat number (i ∷ items)) (ap (λ o. cons_option o (outs_from m (suc position) vs)) (sym out_is))
            (AreOuts.output position e (seated number position id v (from_here h.place.interfaces number id ids named) (from_here all_values position v vs values) id_is)
            (later items ids outs (suc number) (from_next p.interfaces number i items declared) (from_next h.place.interfaces number id ids named) more rest_is))

        by : (b : Bool) → (v.class == storage_class.OUTPUT) ≡ b → Later → AreOuts f.seat number items (outs_from m position (v ∷ vs))
        by true e later = first e items ids outs number declared named are (ap (λ o. cons_option o (filter_map out_of vs)) (sym (cond-true (v.class == storage_class.OUTPUT) (Some v) None e)) ∙ is) later
        by false e later =
            subst (AreOuts f.seat number items) (ap (λ o. cons_option o (outs_from m (suc position) vs)) (sym (unlocated (number_on m decoration.LOCATION v.id) e)))
            (later items ids outs number declared named are (ap (λ o. cons_option o (filter_map out_of vs)) (sym (cond-false (v.class == storage_class.OUTPUT) (Some v) None e)) ∙ is))

    pub outputs_are : HasOutputs m input whole f p
    outputs_are = record {
      outs = matched all_values 0 (from_all all_values) p.interfaces h.place.interfaces puts.outputs 0 (from_all p.interfaces) (from_all h.place.interfaces) puts.are value_outputs;
      enough = of_module.room;
    }
