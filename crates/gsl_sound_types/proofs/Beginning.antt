-- What the variables of a module hold as a run begins, on an input that fits.
use Rattle.std.proofs.Common.{◌≡◌, refl, sym, ap, ◌∙◌, subst, ℕ, Bool, true, false, ◌&&◌, ◌||◌, not, is_some, if◌then◌else◌, nat_lt, List, [], ◌∷◌, length, map, take, unwrap_or, Option, Some, None, Ok, Err, arith, length-take}
use Rattle.std.specs.List.{AllByRecursion, cons_option, filter_map}
use Rattle.std.specs.Option.{option_map_or}
use Rattle.std.specs.Prelude.{◌==◌}
use Rattle.std.proofs.lemmas.Bool.{and_parts, cond-true, eqb-true, false≢true, ltb-false, true≢false}
use Rattle.gsl_base.specs.Ranges.{FitsTypes}
use Rattle.gsl_base.specs.declared.input.Input.{Input}
use Rattle.gsl_base.specs.declared.input.InputRefusal.TheVariants.{NoValue}
use Rattle.gsl_instr.specs.declared.enumerant.built_in.TheConstants as built_in
use Rattle.gsl_instr.specs.declared.enumerant.decoration.TheConstants as decoration
use Rattle.gsl_instr.specs.declared.enumerant.execution_model.TheConstants as execution_model
use Rattle.gsl_instr.specs.declared.enumerant.storage_class.TheConstants as storage_class
use Rattle.gsl_inputs.specs.Demands.{Met, all_met, and_met, has_words}
use Rattle.gsl_inputs.specs.Given.{global_id, global_part, local_index, vector_of, words_at}
use Rattle.gsl_words.specs.declared.module.Module.{Module}
use Rattle.gsl_values.specs.declared.value.Value.TheVariants.{Word}
use Rattle.gsl_tree.specs.Values.{of_components}
use Rattle.gsl_valid.specs.ConstantRules.{is_whole}
use Rattle.gsl_valid.specs.DecorationRules.{differ, is_decorated, pointee, pointee_of}
use Rattle.gsl_valid.specs.Decorations.{has, literals_if, literals_on, number_in, number_on, same_place, stands_on}
use Rattle.gsl_valid.specs.EntryRules.{are_words, are_words_of, entry_of, is_built_in, is_built_in_type, mark_kept, model_of}
use Rattle.gsl_valid.specs.GlobalRules.{begins_with, holds}
use Rattle.gsl_valid.specs.Instruction.{read}
use Rattle.gsl_valid.specs.Kinds.{Kind, Decorates, Place, On, OnMember, Decoration, Variable, decoration_in, decoration_of, kind, variable_is}
use Rattle.gsl_valid.specs.OperandRules.{size_in}
use Rattle.gsl_valid.specs.Placed.{Code}
use Rattle.gsl_valid.specs.Types.{Lanes, Scalar, Truths, Words, defined_as, initialises, is_block_class, is_ints, is_struct, is_words, lanes_of}
use Rattle.gsl_machine.specs.Fits.{Place as Demand, bound_met, bound_of, fits, ids_met, place_at, place_met, place_of, push_met, push_of, put_place, sorted_bounds, sorted_places}
use Rattle.gsl_machine.specs.Functions.{begins_as}
use Rattle.gsl_machine.specs.Interfaces.{block_variables, built_in_value, given, local_size, located, value_variables, variable_begins}
use Rattle.gsl_machine.specs.Memory.{size_of}
use Rattle.gsl_sound_code.specs.Rules.{KeepAll}
use Rattle.gsl_sound_code.proofs.Looks.{Kept}
use Rattle.gsl_sound_values.specs.Shaped.{is_shaped}
use Rattle.gsl_sound_values.proofs.Counted.{lanes_there, of_counted}
use Rattle.gsl_memory_law.specs.Typed.{HaveTypes}
use Rattle.gsl_sound_types.specs.Typed.{types_of}
use Rattle.gsl_sound_types.proofs.Entering.{IsGlobal, value_globals}
use Rattle.gsl_sound_types.proofs.Memories.{initial_shaped}

-- ---- what a fitting input gives at locations

abbrev taken : Met
taken = Ok tt

met_both : (a b : Met) → and_met a b ≡ Ok tt → (a ≡ Ok tt) × (b ≡ Ok tt)
met_both (Ok x) b is = (refl, is)
met_both (Err refusal) b is = absurd (cc)

module _ (demand : Demand → Met) where
  abbrev Meets : Demand → Type 0
  Meets place = demand place ≡ Ok tt

  put_meets : (p : Demand) (places : List Demand) → all_met demand (put_place p places) ≡ Ok tt → Meets p × (all_met demand places ≡ Ok tt)
  put_meets p [] is = met_both (demand p) (Ok tt) is
  put_meets p (next ∷ places) is = by_test (nat_lt p.location next.location) (put_meets p places) is
    where
      by_test : (b : Bool) → (all_met demand (put_place p places) ≡ Ok tt → Meets p × (all_met demand places ≡ Ok tt)) → all_met demand (if b then p ∷ next ∷ places else next ∷ put_place p places) ≡ Ok tt
          → Meets p × (all_met demand (next ∷ places) ≡ Ok tt)
      by_test true later is = met_both (demand p) (all_met demand (next ∷ places)) is
      by_test false later is =
          let both = met_both (demand next) (all_met demand (put_place p places)) is in
          let rest = later both.1 in
          (rest.0, ap (λ x. and_met x (all_met demand places)) both.0 ∙ rest.1)

  sorted_meet : (places : List Demand) → all_met demand (sorted_places places) ≡ Ok tt → AllByRecursion Meets places
  sorted_meet [] is = tt
  sorted_meet (p ∷ places) is = let both = put_meets p (sorted_places places) is in (both.0, sorted_meet places both.1)

  gathered_meet : (f : Variable → Option Demand) (vs : List Variable) → AllByRecursion Meets (filter_map f vs) → AllByRecursion (λ v. (place : Demand) → f v ≡ Some place → Meets place) vs
  gathered_meet f [] all = tt
  gathered_meet f (v ∷ vs) all = by_first (f v) refl all (gathered_meet f vs)
    where
      by_first : (o : Option Demand) → f v ≡ o → AllByRecursion Meets (cons_option o (filter_map f vs)) → (AllByRecursion Meets (filter_map f vs) → AllByRecursion (λ v. (place : Demand) → f v ≡ Some place → Meets place) vs)
          → AllByRecursion (λ v. (place : Demand) → f v ≡ Some place → Meets place) (v ∷ vs)
      by_first None e all later = (λ place is. let none : None ≡ Some place = sym e ∙ is in absurd (cc), later all)
      by_first (Some first) e all later = (λ place is. let both : Some first ≡ Some place = sym e ∙ is in let same : first ≡ place = cc in subst Meets same all.0, later all.1)

places_meet : (m : Module) (input : Input) → fits m input ≡ Ok tt → AllByRecursion (λ v. (place : Demand) → place_of m v ≡ Some place → place_met input place ≡ Ok tt) (value_variables m)
unfolding fits
places_meet m input fit =
    let first = met_both (all_met (bound_met input) (sorted_bounds (filter_map (bound_of m) (block_variables m)))) _ fit in
    let second = met_both (all_met (push_met input) (filter_map (push_of m) (block_variables m))) _ first.1 in
    let third = met_both (all_met (place_met input) (sorted_places (filter_map (place_of m) (value_variables m)))) (ids_met m input) second.1 in
    gathered_meet (place_met input) (place_of m) (value_variables m) (sorted_meet (place_met input) (filter_map (place_of m) (value_variables m)) third.0)

-- ---- decorations that stand on an id

marked : (m : Module) (before code : Code) (id wanted : ℕ) (literals : List ℕ) → KeepAll m before code → literals_on code (On id) wanted ≡ Some literals → (front : Code) × (mark_kept m front wanted literals (On id) ≡ true)
marked m before [] id wanted literals keep is = absurd (cc)
marked m before (i ∷ code) id wanted literals keep is = by_decoration (decoration_of (read i)) refl is (marked m (i ∷ before) code id wanted literals keep.1)
  where
    decorates : (k : Kind) (d : Decoration) → decoration_in k ≡ Some d → k ≡ Decorates d
    decorates (Decorates w) d e = ap Decorates (let same : Some w ≡ Some d = e in cc)
    decorates _ d e = absurd (cc)

    stands : (place : Place) → same_place place (On id) ≡ true → place ≡ On id
    stands (On t) same = ap On (eqb-true t id same)
    stands (OnMember t k) same = absurd (false≢true same)

    here : (d : Decoration) → decoration_of (read i) ≡ Some d → stands_on (On id) wanted d ≡ true → d.literals ≡ literals → mark_kept m before wanted literals (On id) ≡ true
    here d e on same =
        let both = and_parts (d.kind == wanted) (same_place d.place (On id)) on in
        let kept : mark_kept m before d.kind d.literals d.place ≡ true = ap (entry_of m before) (sym (decorates (kind (read i)) d e)) ∙ keep.0.entry in
        subst (λ k. mark_kept m before k literals (On id) ≡ true) (eqb-true d.kind wanted both.0)
        (subst (λ l. mark_kept m before d.kind l (On id) ≡ true) same (subst (λ pl. mark_kept m before d.kind d.literals pl ≡ true) (stands d.place both.1) kept))

    by_found : (d : Decoration) → decoration_of (read i) ≡ Some d → (b : Bool) → stands_on (On id) wanted d ≡ b → literals_if b (Some d) (literals_on code (On id) wanted) ≡ Some literals
        → (literals_on code (On id) wanted ≡ Some literals → (front : Code) × (mark_kept m front wanted literals (On id) ≡ true)) → (front : Code) × (mark_kept m front wanted literals (On id) ≡ true)
    by_found d e true on is later = (before, here d e on (let both : Some d.literals ≡ Some literals = is in cc))
    by_found d e false on is later = later is

    by_decoration : (o : Option Decoration) → decoration_of (read i) ≡ o → literals_if (option_map_or (stands_on (On id) wanted) o false) o (literals_on code (On id) wanted) ≡ Some literals
        → (literals_on code (On id) wanted ≡ Some literals → (front : Code) × (mark_kept m front wanted literals (On id) ≡ true)) → (front : Code) × (mark_kept m front wanted literals (On id) ≡ true)
    by_decoration None e is later = later is
    by_decoration (Some d) e is later = by_found d e (stands_on (On id) wanted d) refl is later

-- ---- words of a size

words_lanes : (sign size : ℕ) (o : Option Lanes) → are_words sign size o ≡ true → ((lanes : Lanes) × (o ≡ Some lanes)) × (size_in o ≡ size)
words_lanes sign size None is = absurd (false≢true is)
words_lanes sign size (Some lanes) is = ((lanes, refl), by_scalar lanes.scalar is)
  where
    by_scalar : (s : Scalar) → are_words_of sign size s lanes.size ≡ true → lanes.size ≡ size
    by_scalar Truths is = absurd (false≢true is)
    by_scalar (Words signedness) is = eqb-true lanes.size size (and_parts (signedness == sign) (lanes.size == size) is).1

vector_is : (words : List ℕ) → length words ≡ 3 → vector_of words ≡ of_components words
vector_is [] is = absurd (omega (arith, is))
vector_is (a ∷ []) is = absurd (omega (arith, is))
vector_is (a ∷ b ∷ words) is = refl

-- of two stages one has the variable: its words are the first, the second or the third
in_first : (compute vertex first second third : Bool) → (compute && (first || false && second) || vertex && false && third) ≡ true → first ≡ true
in_first true vertex true second third is = refl
in_first true true false second third is = absurd (false≢true is)
in_first true false false second third is = absurd (false≢true is)
in_first false true first second third is = absurd (false≢true is)
in_first false false first second third is = absurd (false≢true is)

in_second : (compute vertex first second third : Bool) → (compute && (false && first || second) || vertex && false && third) ≡ true → second ≡ true
in_second true vertex first true third is = refl
in_second true true first false third is = absurd (false≢true is)
in_second true false first false third is = absurd (false≢true is)
in_second false true first second third is = absurd (false≢true is)
in_second false false first second third is = absurd (false≢true is)

in_third : (compute vertex named first second third : Bool) → (compute && (false && first || false && second) || vertex && named && third) ≡ true → third ≡ true
in_third true true true first second third is = is
in_third true true false first second third is = absurd (false≢true is)
in_third true false named first second third is = absurd (false≢true is)
in_third false true true first second third is = is
in_third false true false first second third is = absurd (false≢true is)
in_third false false named first second third is = absurd (false≢true is)

-- what a stage has of a number, by which of the built-in variables it is
abbrev Built : (compute vertex named first second third a b c d e : Bool) → Bool
Built compute vertex named first second third a b c d e = compute && ((a || b || c || d) && first || e && second) || vertex && named && third

in_rest : (compute vertex named first second third a b c d e : Bool) → a ≡ false → b ≡ false → c ≡ false → d ≡ false → e ≡ false → Built compute vertex named first second third a b c d e ≡ true → third ≡ true
in_rest compute vertex named first second third a b c d e no_a no_b no_c no_d no_e is = in_third compute vertex named first second third
    (ap (λ x. Built compute vertex named first second third x false false false false) (sym no_a)
    ∙ ap (λ x. Built compute vertex named first second third a x false false false) (sym no_b)
    ∙ ap (λ x. Built compute vertex named first second third a b x false false) (sym no_c)
    ∙ ap (λ x. Built compute vertex named first second third a b c x false) (sym no_d)
    ∙ ap (λ x. Built compute vertex named first second third a b c d x) (sym no_e) ∙ is)

module _ (m : Module) (kept : Kept m) (input : Input) (ranges : FitsTypes input) where
  three_words : (type : ℕ) (words : List ℕ) → are_words 0 3 (lanes_of m type) ≡ true → length words ≡ 3 → is_shaped m type (vector_of words) ≡ true
  three_words type words is three =
      let l = words_lanes 0 3 (lanes_of m type) is in
      ap (is_shaped m type) (vector_is words three) ∙ of_counted m kept type words l.0 (three ∙ sym l.1)

  one_word : (sign type word : ℕ) → are_words sign 1 (lanes_of m type) ≡ true → is_shaped m type (Word word) ≡ true
  one_word sign type word is = let l = words_lanes sign 1 (lanes_of m type) is in of_counted m kept type (word ∷ []) l.0 (sym l.1)

  module _ (type number : ℕ) (is : is_built_in_type (model_of m.instrs) number (lanes_of m type) ≡ true) where
    abbrev At : ℕ → Type 0
    At n = is_built_in_type (model_of m.instrs) n (lanes_of m type) ≡ true

    number_at : (n : ℕ) → (number == n) ≡ true → At n
    number_at n e = subst At (eqb-true number n e) is

    abbrev First : Bool
    First = are_words 0 3 (lanes_of m type)

    abbrev Third : Bool
    Third = are_words 1 1 (lanes_of m type)

    -- a built-in variable
    built_in_shaped : is_shaped m type (built_in_value (local_size m) input number) ≡ true
    built_in_shaped = by_groups (number == built_in.NUM_WORKGROUPS) refl
      where
        by_vertex : (b : Bool) → Third ≡ true → is_shaped m type (if b then Word input.vertex else Word input.instance) ≡ true
        by_vertex true third = one_word 1 type input.vertex third
        by_vertex false third = one_word 1 type input.instance third

        by_index : (b : Bool) → (number == built_in.LOCAL_INVOCATION_INDEX) ≡ b → (number == built_in.NUM_WORKGROUPS) ≡ false → (number == built_in.WORKGROUP_ID) ≡ false → (number == built_in.LOCAL_INVOCATION_ID) ≡ false → (number == built_in.GLOBAL_INVOCATION_ID) ≡ false
            → is_shaped m type (if b then local_index (local_size m) input else if number == built_in.VERTEX_INDEX then Word input.vertex else Word input.instance) ≡ true
        by_index true e a b c d = one_word 0 type _ (in_second (model_of m.instrs == execution_model.GL_COMPUTE) (model_of m.instrs == execution_model.VERTEX) First (are_words 0 1 (lanes_of m type)) Third (number_at built_in.LOCAL_INVOCATION_INDEX e))
        by_index false e a b c d = by_vertex (number == built_in.VERTEX_INDEX)
            (in_rest (model_of m.instrs == execution_model.GL_COMPUTE) (model_of m.instrs == execution_model.VERTEX) (number == built_in.VERTEX_INDEX || number == built_in.INSTANCE_INDEX) First (are_words 0 1 (lanes_of m type)) Third _ _ _ _ _ a b c d e is)

        by_global : (b : Bool) → (number == built_in.GLOBAL_INVOCATION_ID) ≡ b → (number == built_in.NUM_WORKGROUPS) ≡ false → (number == built_in.WORKGROUP_ID) ≡ false → (number == built_in.LOCAL_INVOCATION_ID) ≡ false
            → is_shaped m type (if b then global_id (local_size m) input else if number == built_in.LOCAL_INVOCATION_INDEX then local_index (local_size m) input else if number == built_in.VERTEX_INDEX then Word input.vertex else Word input.instance) ≡ true
        by_global true e a b c = three_words type (global_part (local_size m) input 0 ∷ global_part (local_size m) input 1 ∷ global_part (local_size m) input 2 ∷ [])
            (in_first (model_of m.instrs == execution_model.GL_COMPUTE) (model_of m.instrs == execution_model.VERTEX) First (are_words 0 1 (lanes_of m type)) Third (number_at built_in.GLOBAL_INVOCATION_ID e)) refl
        by_global false e a b c = by_index (number == built_in.LOCAL_INVOCATION_INDEX) refl a b c e

        by_local : (b : Bool) → (number == built_in.LOCAL_INVOCATION_ID) ≡ b → (number == built_in.NUM_WORKGROUPS) ≡ false → (number == built_in.WORKGROUP_ID) ≡ false
            → is_shaped m type (if b then vector_of input.local else if number == built_in.GLOBAL_INVOCATION_ID then global_id (local_size m) input else if number == built_in.LOCAL_INVOCATION_INDEX then local_index (local_size m) input else if number == built_in.VERTEX_INDEX then Word input.vertex else Word input.instance) ≡ true
        by_local true e a b = three_words type input.local
            (in_first (model_of m.instrs == execution_model.GL_COMPUTE) (model_of m.instrs == execution_model.VERTEX) First (are_words 0 1 (lanes_of m type)) Third (number_at built_in.LOCAL_INVOCATION_ID e)) ranges.local.0
        by_local false e a b = by_global (number == built_in.GLOBAL_INVOCATION_ID) refl a b e

        by_group : (b : Bool) → (number == built_in.WORKGROUP_ID) ≡ b → (number == built_in.NUM_WORKGROUPS) ≡ false
            → is_shaped m type (if b then vector_of input.group else if number == built_in.LOCAL_INVOCATION_ID then vector_of input.local else if number == built_in.GLOBAL_INVOCATION_ID then global_id (local_size m) input else if number == built_in.LOCAL_INVOCATION_INDEX then local_index (local_size m) input else if number == built_in.VERTEX_INDEX then Word input.vertex else Word input.instance) ≡ true
        by_group true e a = three_words type input.group
            (in_first (model_of m.instrs == execution_model.GL_COMPUTE) (model_of m.instrs == execution_model.VERTEX) First (are_words 0 1 (lanes_of m type)) Third (number_at built_in.WORKGROUP_ID e)) ranges.group.0
        by_group false e a = by_local (number == built_in.LOCAL_INVOCATION_ID) refl a e

        by_groups : (b : Bool) → (number == built_in.NUM_WORKGROUPS) ≡ b
            → is_shaped m type (if b then vector_of input.groups else if number == built_in.WORKGROUP_ID then vector_of input.group else if number == built_in.LOCAL_INVOCATION_ID then vector_of input.local else if number == built_in.GLOBAL_INVOCATION_ID then global_id (local_size m) input else if number == built_in.LOCAL_INVOCATION_INDEX then local_index (local_size m) input else if number == built_in.VERTEX_INDEX then Word input.vertex else Word input.instance) ≡ true
        by_groups true e = three_words type input.groups
            (in_first (model_of m.instrs == execution_model.GL_COMPUTE) (model_of m.instrs == execution_model.VERTEX) First (are_words 0 1 (lanes_of m type)) Third (number_at built_in.NUM_WORKGROUPS e)) ranges.groups.0
        by_groups false e = by_group (number == built_in.WORKGROUP_ID) refl e

  -- ---- inputs

  -- words that are given at a location
  located_shaped : (v : Variable) (location : ℕ) → is_ints m (pointee m v.type) ≡ true → number_on m decoration.LOCATION v.id ≡ Some location → place_met input (record { location = location; count = size_of (lanes_of m (pointee m v.type)) }) ≡ Ok tt
      → is_shaped m (pointee m v.type) (located m input v (Some location)) ≡ true
  located_shaped v location ints at met = by_words (words_at input.ins location) met
    where
      same_size : (o : Option Lanes) → size_of o ≡ size_in o
      same_size None = refl
      same_size (Some lanes) = refl

      enough : (words : List ℕ) (count : ℕ) → (if not (nat_lt (length words) count) then taken else Err (NoValue location)) ≡ taken → length (take count words) ≡ count
      enough words count is = by_test (nat_lt (length words) count) refl is
        where
          by_test : (b : Bool) → nat_lt (length words) count ≡ b → (if not b then taken else Err (NoValue location)) ≡ taken → length (take count words) ≡ count
          by_test true low is = absurd (cc)
          by_test false low is = let size = length-take count words in let least = ltb-false (length words) count low in omega (arith, size, least)

      by_words : (o : Option (List ℕ)) → (if has_words (size_of (lanes_of m (pointee m v.type))) o then taken else Err (NoValue location)) ≡ taken
          → is_shaped m (pointee m v.type) (of_components (take (size_of (lanes_of m (pointee m v.type))) (unwrap_or o []))) ≡ true
      by_words None is = absurd (cc)
      by_words (Some words) is =
          of_counted m kept (pointee m v.type) (take (size_of (lanes_of m (pointee m v.type))) words) (lanes_there m is_words (pointee m v.type) ints)
          (enough words (size_of (lanes_of m (pointee m v.type))) is ∙ same_size (lanes_of m (pointee m v.type)))

  -- a variable of the module
  begins_shaped : (v : Variable) → IsGlobal m v → is_block_class v.class ≡ false → ((place : Demand) → place_of m v ≡ Some place → place_met input place ≡ Ok tt) → is_shaped m (pointee m v.type) (variable_begins m input v) ≡ true
  begins_shaped v g block met = by_input (v.class == storage_class.INPUT) refl
    where
      held : holds m v.class (pointee m v.type) ≡ true
      held = ap (λ t. holds m v.class (pointee_of t)) g.points ∙ g.holds

      begun : begins_with m v.class (pointee m v.type) v.initialiser ≡ true
      begun = ap (λ t. begins_with m v.class (pointee_of t) v.initialiser) g.points ∙ g.begins

      -- what is neither input nor of a block has an initialiser
      initialised : (output private block_class ints whole struct begins none : Bool) → (if output then ints else if private then whole else block_class && struct) ≡ true → block_class ≡ false → (if private || output then begins else none) ≡ true → begins ≡ true
      initialised true private block_class ints whole struct begins none has outside begin = sym (cond-true (private || true) begins none (always private)) ∙ begin
        where
          always : (b : Bool) → (b || true) ≡ true
          always true = refl
          always false = refl
      initialised false true block_class ints whole struct begins none has outside begin = begin
      initialised false false block_class ints whole struct begins none has outside begin = absurd (true≢false (sym (and_parts block_class struct has).0 ∙ outside))

      by_location : (location : Option ℕ) → number_on m decoration.LOCATION v.id ≡ location → is_ints m (pointee m v.type) ≡ true → (v.class == storage_class.INPUT) ≡ true → has m decoration.LOCATION v.id ≡ true → is_shaped m (pointee m v.type) (located m input v location) ≡ true
      by_location (Some location) at ints class here =
          located_shaped v location ints at (met (record { location = location; count = size_of (lanes_of m (pointee m v.type)) }) (cond-true (v.class == storage_class.INPUT) _ _ class ∙ ap (place_at m v) at))
      by_location None at ints class here = by_literals (literals_on m.instrs (On v.id) decoration.LOCATION) refl here at
        where
          by_literals : (o : Option (List ℕ)) → literals_on m.instrs (On v.id) decoration.LOCATION ≡ o → is_some o ≡ true → number_in o ≡ None → is_shaped m (pointee m v.type) (located m input v None) ≡ true
          by_literals None e here none = absurd (false≢true here)
          by_literals (Some []) e here none = absurd (false≢true (marked m [] m.instrs v.id decoration.LOCATION [] kept.all e).1)
          by_literals (Some (n ∷ literals)) e here none = absurd (cc)

      by_built_in : (o : Option (List ℕ)) → literals_on m.instrs (On v.id) decoration.BUILT_IN ≡ o → (v.class == storage_class.INPUT) ≡ true → is_ints m (pointee m v.type) ≡ true → differ (has m decoration.LOCATION v.id) (is_some o) ≡ true
          → is_shaped m (pointee m v.type) (given m input v (number_in o)) ≡ true
      by_built_in None e class ints one = by_location (number_on m decoration.LOCATION v.id) refl ints class (first (has m decoration.LOCATION v.id) one)
        where
          first : (b : Bool) → differ b false ≡ true → b ≡ true
          first true is = refl
          first false is = absurd (false≢true is)
      by_built_in (Some []) e class ints one = absurd (false≢true (marked m [] m.instrs v.id decoration.BUILT_IN [] kept.all e).1)
      by_built_in (Some (n ∷ literals)) e class ints one =
          let mark : is_built_in m n (variable_is (defined_as m v.id)) ≡ true = (marked m [] m.instrs v.id decoration.BUILT_IN (n ∷ literals) kept.all e).1 in
          built_in_shaped (pointee m v.type) n (and_parts (v.class == storage_class.INPUT) (is_built_in_type (model_of m.instrs) n (lanes_of m (pointee m v.type))) (ap (is_built_in m n) (sym g.is) ∙ mark)).1

      by_input : (b : Bool) → (v.class == storage_class.INPUT) ≡ b → is_shaped m (pointee m v.type) (if b then given m input v (number_on m decoration.BUILT_IN v.id) else begins_as m v) ≡ true
      by_input true class =
          let ints : is_ints m (pointee m v.type) ≡ true = sym (ap (λ b. if b || v.class == storage_class.OUTPUT then is_ints m (pointee m v.type) else if v.class == storage_class.PRIVATE then is_whole m (pointee m v.type) else (is_block_class v.class && is_struct m (pointee m v.type))) class) ∙ held in
          by_built_in (literals_on m.instrs (On v.id) decoration.BUILT_IN) refl class ints (subst (λ c. is_decorated m g.before v.type v.id c ≡ true) (eqb-true v.class storage_class.INPUT class) g.decorated)
      by_input false class =
          initial_shaped m kept v (pointee m v.type)
          (initialised (v.class == storage_class.OUTPUT) (v.class == storage_class.PRIVATE) (is_block_class v.class) (is_ints m (pointee m v.type)) (is_whole m (pointee m v.type)) (is_struct m (pointee m v.type)) (initialises m (pointee m v.type) v.initialiser) (length v.initialiser == 0)
          (ap (λ b. if b || v.class == storage_class.OUTPUT then is_ints m (pointee m v.type) else if v.class == storage_class.PRIVATE then is_whole m (pointee m v.type) else (is_block_class v.class && is_struct m (pointee m v.type))) (sym class) ∙ held) block begun)

  begin_each : (vs : List Variable) → AllByRecursion (λ v. IsGlobal m v × (is_block_class v.class ≡ false)) vs → AllByRecursion (λ v. (place : Demand) → place_of m v ≡ Some place → place_met input place ≡ Ok tt) vs → HaveTypes m (types_of m vs) (map (variable_begins m input) vs)
  begin_each [] all met = tt
  begin_each (v ∷ vs) all met = (begins_shaped v all.0.0 all.0.1 met.0, begin_each vs all.1 met.1)

  -- all of them
  pub globals_begin : fits m input ≡ Ok tt → HaveTypes m (types_of m (value_variables m)) (map (variable_begins m input) (value_variables m))
  globals_begin fit = begin_each (value_variables m) (value_globals m kept) (places_meet m input fit)
