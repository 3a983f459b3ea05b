-- On an input that fits, the variables of blocks have their bytes.
use Rattle.std.proofs.Common.{◌≡◌, refl, sym, ap, ◌∙◌, subst, ℕ, Bool, true, false, ◌&&◌, ◌||◌, if◌then◌else◌, List, [], ◌∷◌, length, is_some, unwrap_or, Option, Some, None, Ok, Err, ◌⊎◌, inl, inr}
use Rattle.std.specs.List.{cons_option, filter_map}
use Rattle.std.specs.Option.{option_map_or}
use Rattle.std.specs.Prelude.{◌==◌}
use Rattle.std.proofs.lemmas.Bool.{and_parts, cond-true, cond-false, eqb-true, or_from, false≢true}
use Rattle.gsl_base.specs.declared.input.Input.{Input}
use Rattle.gsl_base.specs.declared.input.InputRefusal.{InputRefusal}
use Rattle.gsl_base.specs.declared.input.InputRefusal.TheVariants.{NoBuffer, TooShort, NoPush, PushShort}
use Rattle.gsl_instr.specs.declared.enumerant.decoration.TheConstants as decoration
use Rattle.gsl_instr.specs.declared.enumerant.storage_class.TheConstants as storage_class
use Rattle.gsl_words.specs.declared.module.Module.{Module}
use Rattle.gsl_views.specs.Buffers.{bytes_at}
use Rattle.gsl_inputs.specs.Demands.{Met, all_met, and_met, bytes_met}
use Rattle.gsl_valid.specs.DecorationRules.{decoration_kept, has_literals, is_bound, is_decorated, is_one_of, variable_decorated, with_literal}
use Rattle.gsl_valid.specs.Decorations.{has, literals_if, literals_on, number_in, number_on, stands_on}
use Rattle.gsl_valid.specs.Instruction.{read}
use Rattle.gsl_valid.specs.Kinds.{Decoration, On, Variable, decoration_of, variable_is}
use Rattle.gsl_valid.specs.Placed.{Code}
use Rattle.gsl_valid.specs.Types.{defined_as, is_block_class, is_variable_of}
use Rattle.gsl_machine.specs.Fits.{Bound, bound_met, bound_of, fits, ids_met, need_of, place_met, place_of, push_met, push_of, put_bound, sorted_bounds, sorted_places, stands_before}
use Rattle.gsl_machine.specs.Interfaces.{block_variables, value_variables}
use Rattle.gsl_machine.specs.Memory.{bytes_if, is_push}
use Rattle.gsl_sound_code.specs.Rules.{KeepAll}
use Rattle.gsl_sound_ids.proofs.Globals.{Among, block_is_outer, in_blocks}
use Rattle.gsl_sound_code.proofs.Looks.{Kept}
use Rattle.gsl_sound_ids.proofs.Variables.{Outer, outer, own_id}
use Rattle.gsl_sound_ids.specs.Held.{HasBytes, HaveBytes, bytes_in}

-- ---- the buffers

met_first : (a b : Met) → and_met a b ≡ Ok tt → (a ≡ Ok tt) × (b ≡ Ok tt)
met_first (Ok x) b is = (refl, is)
met_first (Err refusal) b is = absurd (cc)

-- The list has it.
abbrev In : {A : Type 0} → A → List A → Type 0
In a [] = ⊥
In a (b ∷ list) = (b ≡ a) ⊎ In a list

all_met_at : {A : Type 0} (demand : A → Met) (a : A) (list : List A) → In a list → all_met demand list ≡ Ok tt → demand a ≡ Ok tt
all_met_at demand a [] has is = absurd has
all_met_at demand a (b ∷ list) (inl same) is = ap demand (sym same) ∙ (met_first (demand b) (all_met demand list) is).0
all_met_at demand a (b ∷ list) (inr later) is = all_met_at demand a list later (met_first (demand b) (all_met demand list) is).1

in_put : (a b : Bound) (bounds : List Bound) → (b ≡ a) ⊎ In a bounds → In a (put_bound b bounds)
in_put a b [] has = has
in_put a b (next ∷ bounds) has = by_test (stands_before b next) has (in_put a b bounds)
  where
    by_test : (t : Bool) → (b ≡ a) ⊎ In a (next ∷ bounds) → ((b ≡ a) ⊎ In a bounds → In a (put_bound b bounds)) → In a (if t then b ∷ next ∷ bounds else next ∷ put_bound b bounds)
    by_test true has later = has
    by_test false (inl same) later = inr (later (inl same))
    by_test false (inr (inl first)) later = inl first
    by_test false (inr (inr among)) later = inr (later (inr among))

in_sorted : (a : Bound) (bounds : List Bound) → In a bounds → In a (sorted_bounds bounds)
in_sorted a [] has = absurd has
in_sorted a (b ∷ bounds) (inl same) = in_put a b (sorted_bounds bounds) (inl same)
in_sorted a (b ∷ bounds) (inr later) = in_put a b (sorted_bounds bounds) (inr (in_sorted a bounds later))

in_gathered : {B : Type 0} (f : Variable → Option B) (v : Variable) (b : B) (vs : List Variable) → Among v vs → f v ≡ Some b → In b (filter_map f vs)
in_gathered f v b [] among is = absurd among
in_gathered f v b (w ∷ vs) (inl same) is = subst (λ o. In b (cons_option o (filter_map f vs))) (sym (ap f same ∙ is)) (inl refl)
in_gathered f v b (w ∷ vs) (inr later) is = skip (f w) (in_gathered f v b vs later is)
  where
    skip : (o : Option _) → In b (filter_map f vs) → In b (cons_option o (filter_map f vs))
    skip None has = has
    skip (Some c) has = inr has

bytes_are : (absent short : InputRefusal) (need : ℕ) (bytes : Option (List ℕ)) → bytes_met absent short need bytes ≡ Ok tt → HasBytes bytes
bytes_are absent short need None is = absurd (cc)
bytes_are absent short need (Some bytes) is = record { it = bytes; is = refl }

-- ---- sets and bindings

-- the literal of a decoration that must have one
literal_there : (m : Module) (before code : Code) (id wanted : ℕ) (literals : List ℕ) → KeepAll m before code → literals_on code (On id) wanted ≡ Some literals → is_one_of with_literal wanted ≡ true → (n : ℕ) × (number_in (Some literals) ≡ Some n)
literal_there m before [] id wanted literals keep is one = absurd (cc)
literal_there m before (i ∷ code) id wanted literals keep is one = by_decoration (decoration_of (read i)) refl is (λ e. literal_there m (i ∷ before) code id wanted literals keep.1 e one)
  where
    one_literal : (l : List ℕ) → (length l == 1) ≡ true → (n : ℕ) × (number_in (Some l) ≡ Some n)
    one_literal [] e = absurd (false≢true e)
    one_literal (n ∷ l) e = (n, refl)

    here : (d : Decoration) → decoration_of (read i) ≡ Some d → (d.kind == wanted) ≡ true → (n : ℕ) × (number_in (Some d.literals) ≡ Some n)
    here d e same =
        let keeps : decoration_kept m before d ≡ true = ap (λ o. option_map_or (decoration_kept m before) o true) (sym e) ∙ (and_parts (option_map_or (decoration_kept m before) (decoration_of (read i)) true) _ keep.0.decoration).0 in
        let literals : has_literals d.kind d.literals ≡ true = (and_parts _ (has_literals d.kind d.literals) (and_parts (_ && has_literals d.kind d.literals) _ keeps).0).1 in
        one_literal d.literals (ap (λ n. length d.literals == n) (sym (cond-true (is_one_of with_literal d.kind) 1 0 (ap (is_one_of with_literal) (eqb-true d.kind wanted same) ∙ one))) ∙ literals)

    by_found : (d : Decoration) → decoration_of (read i) ≡ Some d → (b : Bool) → stands_on (On id) wanted d ≡ b → literals_if b (Some d) (literals_on code (On id) wanted) ≡ Some literals
        → (literals_on code (On id) wanted ≡ Some literals → (n : ℕ) × (number_in (Some literals) ≡ Some n)) → (n : ℕ) × (number_in (Some literals) ≡ Some n)
    by_found d e true found is later =
        let same : d.literals ≡ literals = cc in
        let n = here d e (and_parts (d.kind == wanted) _ found).0 in (n.0, ap (λ l. number_in (Some l)) (sym same) ∙ n.1)
    by_found d e false found is later = later is

    by_decoration : (o : Option Decoration) → decoration_of (read i) ≡ o → literals_if (option_map_or (stands_on (On id) wanted) o false) o (literals_on code (On id) wanted) ≡ Some literals
        → (literals_on code (On id) wanted ≡ Some literals → (n : ℕ) × (number_in (Some literals) ≡ Some n)) → (n : ℕ) × (number_in (Some literals) ≡ Some n)
    by_decoration None e is later = later is
    by_decoration (Some d) e is later = by_found d e (stands_on (On id) wanted d) refl is later

module _ (m : Module) (kept : Kept m) where
  number_there : (wanted id : ℕ) → has m wanted id ≡ true → is_one_of with_literal wanted ≡ true → (n : ℕ) × (number_on m wanted id ≡ Some n)
  number_there wanted id is one = by_literals (literals_on m.instrs (On id) wanted) refl is
    where
      by_literals : (o : Option (List ℕ)) → literals_on m.instrs (On id) wanted ≡ o → is_some o ≡ true → (n : ℕ) × (number_in o ≡ Some n)
      by_literals None e is = absurd (false≢true is)
      by_literals (Some l) e is = literal_there m [] m.instrs id wanted l kept.all e one

  -- a block's variable that is not that of push constants has a set and a binding
  bound_there : (id : ℕ) (v : Variable) → Outer m id v → is_block_class v.class ≡ true → (v.class == storage_class.PUSH_CONSTANT) ≡ false → ((n : ℕ) × (number_on m decoration.DESCRIPTOR_SET v.id ≡ Some n)) × ((n : ℕ) × (number_on m decoration.BINDING v.id ≡ Some n))
  bound_there id v o block push =
      let decorated : variable_decorated m o.before (Some v) ≡ true = ap (variable_decorated m o.before) (sym o.is) ∙ (and_parts _ (variable_decorated m o.before (variable_is (read o.instr))) o.keeps.decoration).1 in
      let bound = by_class (v.class == storage_class.UNIFORM) (v.class == storage_class.STORAGE_BUFFER) refl refl (ap (λ b. b || is_decorated m o.before v.type v.id v.class) (sym o.inside) ∙ decorated) in
      let both = (and_parts (has m decoration.DESCRIPTOR_SET v.id && has m decoration.BINDING v.id) _ bound).0 in
      let parts = and_parts (has m decoration.DESCRIPTOR_SET v.id) (has m decoration.BINDING v.id) both in
      (number_there decoration.DESCRIPTOR_SET v.id parts.0 refl, number_there decoration.BINDING v.id parts.1 refl)
    where
      by_class : (uniform storage : Bool) → (v.class == storage_class.UNIFORM) ≡ uniform → (v.class == storage_class.STORAGE_BUFFER) ≡ storage → is_decorated m o.before v.type v.id v.class ≡ true → is_bound m o.before v.id ≡ true
      by_class true storage u s is = (and_parts _ (is_bound m o.before v.id) (sym (cond-true (v.class == storage_class.UNIFORM) _ _ u) ∙ is)).1
      by_class false true u s is = (and_parts _ (is_bound m o.before v.id) (sym (cond-true (v.class == storage_class.STORAGE_BUFFER) _ _ s) ∙ sym (cond-false (v.class == storage_class.UNIFORM) _ _ u) ∙ is)).1
      by_class false false u s is = absurd (false≢true (sym (or_from _ _ (or_from _ _ u s) push) ∙ block))

  -- on an input that fits each block's variable has its bytes
  pub bytes_fit : (input : Input) → fits m input ≡ Ok tt → HaveBytes m input input.buffers
  unfolding fits
  bytes_fit input fit = record { each = λ id block. by_push id block.variable (outer m kept id block.variable block.is (block_is_outer block.variable.class block.class)) block.is block.class (block.variable.class == storage_class.PUSH_CONSTANT) refl }
    where
      Further : Met
      Further = and_met (all_met (place_met input) (sorted_places (filter_map (place_of m) (value_variables m)))) (ids_met m input)

      blocks_met : all_met (bound_met input) (sorted_bounds (filter_map (bound_of m) (block_variables m))) ≡ Ok tt
      blocks_met = (met_first _ (and_met (all_met (push_met input) (filter_map (push_of m) (block_variables m))) Further) fit).0

      pushes_met : all_met (push_met input) (filter_map (push_of m) (block_variables m)) ≡ Ok tt
      pushes_met =
          (met_first (all_met (push_met input) (filter_map (push_of m) (block_variables m))) Further
          (met_first (all_met (bound_met input) (sorted_bounds (filter_map (bound_of m) (block_variables m)))) (and_met (all_met (push_met input) (filter_map (push_of m) (block_variables m))) Further) fit).1).0

      pushed : (v : Variable) → Among v (block_variables m) → (v.class == storage_class.PUSH_CONSTANT) ≡ true → HasBytes input.push
      pushed v among push = bytes_are NoPush PushShort (need_of m v) input.push
          (all_met_at (push_met input) (need_of m v) (filter_map (push_of m) (block_variables m)) (in_gathered (push_of m) v (need_of m v) (block_variables m) among (cond-true (v.class == storage_class.PUSH_CONSTANT) _ _ push)) pushes_met)

      bounded : (v : Variable) (set binding : ℕ) → Among v (block_variables m) → (v.class == storage_class.PUSH_CONSTANT) ≡ false → number_on m decoration.DESCRIPTOR_SET v.id ≡ Some set → number_on m decoration.BINDING v.id ≡ Some binding → HasBytes (bytes_at input.buffers set binding)
      bounded v set binding among push s b =
          let bound : Bound = record { set = set; binding = binding; need = need_of m v } in
          let is : bound_of m v ≡ Some bound =
          cond-false (v.class == storage_class.PUSH_CONSTANT) _ _ push
          ∙ ap (λ o. Some (record { set = unwrap_or o 0; binding = unwrap_or (number_on m decoration.BINDING v.id) 0; need = need_of m v })) s ∙ ap (λ o. Some (record { set = set; binding = unwrap_or o 0; need = need_of m v })) b in
          bytes_are (NoBuffer set binding) (TooShort set binding) (need_of m v) (bytes_at input.buffers set binding)
          (all_met_at (bound_met input) bound (sorted_bounds (filter_map (bound_of m) (block_variables m))) (in_sorted bound (filter_map (bound_of m) (block_variables m)) (in_gathered (bound_of m) v bound (block_variables m) among is)) blocks_met)

      by_push : (id : ℕ) (v : Variable) → Outer m id v → variable_is (defined_as m id) ≡ Some v → is_block_class v.class ≡ true → (b : Bool) → (v.class == storage_class.PUSH_CONSTANT) ≡ b → HasBytes (bytes_in m input input.buffers id)
      by_push id v o is block true push =
          subst HasBytes (sym (cond-true (is_push m id) _ _ (ap (is_variable_of storage_class.PUSH_CONSTANT) is ∙ push))) (pushed v (in_blocks m kept id v o block) push)
      by_push id v o is block false push =
          let numbers = bound_there id v o block push in
          let same = own_id m kept id v is in
          subst HasBytes (sym (cond-false (is_push m id) _ _ (ap (is_variable_of storage_class.PUSH_CONSTANT) is ∙ push) ∙ ap (λ n. bytes_if input.buffers (number_on m decoration.DESCRIPTOR_SET n) (number_on m decoration.BINDING n)) (sym same)
          ∙ ap (λ o. bytes_if input.buffers o (number_on m decoration.BINDING v.id)) numbers.0.1 ∙ ap (bytes_if input.buffers (Some numbers.0.0)) numbers.1.1))
          (bounded v numbers.0.0 numbers.1.0 (in_blocks m kept id v o block) push numbers.0.1 numbers.1.1)
