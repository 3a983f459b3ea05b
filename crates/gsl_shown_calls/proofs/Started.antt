-- A run begins.
use Rattle.std.proofs.Common.{◌≡◌, refl, sym, ap, ◌∙◌, subst, ℕ, ◌≤◌, true, List, [], ◌∷◌, ◌++◌, length, map, Some, None, arith}
use Rattle.std.specs.List.{sum_by}
use Rattle.std.proofs.lemmas.Bool.{false≢true}
use Rattle.gsl_base.specs.declared.input.Input.{Input}
use Rattle.gsl_words.specs.declared.module.Module.{Module}
use Rattle.gsl_valid.specs.EntryRules.{begins_main, is_main_shape}
use Rattle.gsl_valid.specs.IdsDefinedOnce.{ids_defined_once}
use Rattle.gsl_valid.specs.Kinds.{Begins, Kind, Shape, OfFunction, kind, shape_of}
use Rattle.gsl_valid.specs.Placed.{Placed}
use Rattle.gsl_valid.specs.Types.{defined_as, parameters_in, parameters_of}
use Rattle.gsl_ids.specs.Table.{number_of}
use Rattle.gsl_machine.specs.Functions.{begins_as, from_first_label, function_at, own_ids, variables_of}
use Rattle.gsl_machine.specs.Interfaces.{globals, value_variables, variable_begins}
use Rattle.gsl_machine.specs.Machine.{entering, entry_body, entry_of, start}
use Rattle.gsl_region.specs.Flat.{flat_all}
use Rattle.gsl_region.specs.Showing.{with_words}
use Rattle.gsl_region.specs.Showing.{Shows as ShowsVariables}
use Rattle.gsl_region.proofs.Focus.{begun}
use Rattle.gsl_leaves.specs.Leaves.{leaves}
use Rattle.gsl_memory_law.specs.Typed.{HaveTypes}
use Rattle.gsl_memory_law.proofs.Typed.{words_typed}
use Rattle.gsl_positions.specs.Positions.{left}
use Rattle.gsl_sound_code.specs.Spots.{AtLabel, IsBody}
use Rattle.gsl_sound_code.proofs.Entries.{enter_from}
use Rattle.gsl_sound_code.proofs.Functions.{body_of}
use Rattle.gsl_sound_code.proofs.Looks.{Kept}
use Rattle.gsl_sound_code.proofs.Walks.{enter}
use Rattle.gsl_sound_types.specs.Typed.{types_of}
use Rattle.gsl_frames.specs.Frames.{frame}
use Rattle.gsl_shown.specs.Shown.{Shows, ShowsIds, held_as}
use Rattle.gsl_shown_calls.proofs.Called.{first_is, parameters_fit}
use Rattle.gsl_shown_calls.proofs.Entered.{begun_shown, head}
use Rattle.gsl_shown_calls.proofs.Putting.{AreCounted, no_put}

no_parameters : (m : Module) (s : Shape) → is_main_shape m s ≡ true → parameters_in s ≡ []
no_parameters m (OfFunction returned []) is = refl
no_parameters m (OfFunction returned (type ∷ types)) is = absurd (false≢true is)
no_parameters m _ is = absurd (false≢true is)

module _ (m : Module) (kept : Kept m) (valid : ids_defined_once m ≡ None) (input : Input) (have : HaveTypes m (types_of m (value_variables m)) (map (variable_begins m input) (value_variables m))) (slots words : List ℕ)
    (shows : ShowsVariables words (map (variable_begins m input) (value_variables m))) where
  abbrev Below : List ℕ
  Below = types_of m (value_variables m)

  entry_shown : (function returned own function_type : ℕ) (begun_is : kind (defined_as m function) ≡ Begins returned own function_type) (b : IsBody m function returned function_type) → parameters_of (defined_as m function_type) ≡ []
      → (first : ℕ) → from_first_label b.body ≡ left m first → (frame m b.body).most ≤ length slots
      → Shows m (record { at = first; body = number_of m function; slots = 0; variables = sum_by (leaves m) Below }) [] slots (with_words words (sum_by (leaves m) Below) (flat_all (map (begins_as m) (variables_of b.body)))) input.buffers input.choices
      (entering m input (Some b.body))
  entry_shown function returned own function_type begun_is b none first found room =
      let own_types = types_of m (variables_of b.body) in
      let parameters = parameters_of (defined_as m function_type) in
      let fit = parameters_fit m kept valid function returned own function_type begun_is b in
      let h = head m kept valid function returned own function_type begun_is b in
      let arrived = (enter m kept b.body returned b.before b.body parameters b.spot b.begun).arrived in
      let at_first : h.first ≡ first = first_is m h.first first (sym h.is ∙ found) (subst AtLabel h.is arrived.label) in
      let count = length (map (variable_begins m input) (value_variables m)) in
      let counted : AreCounted m (held_as m (Below ++ own_types)) parameters [] = subst (λ types. AreCounted m (held_as m (Below ++ own_types)) types []) (sym none) tt in
      let ids = begun_shown m kept valid function returned own function_type begun_is b Below 0 slots [] count counted (omega (arith, room)) (omega (arith, fit, room)) in
      record {
        rest = found;
        ids = subst (λ s. ShowsIds m Below (record { at = first; body = number_of m function; slots = 0; variables = sum_by (leaves m) Below }) b.body s (own_ids (globals m) b.body [] count) (own_ids (globals m) b.body [] count)) (no_put slots 0)
            (subst (λ a. ShowsIds m Below (record { at = a; body = number_of m function; slots = 0; variables = sum_by (leaves m) Below }) b.body (with_words slots 0 []) (own_ids (globals m) b.body [] count) (own_ids (globals m) b.body [] count)) at_first ids);
        variables = subst (λ n. ShowsVariables (with_words words n (flat_all (map (begins_as m) (variables_of b.body)))) (map (variable_begins m input) (value_variables m) ++ map (begins_as m) (variables_of b.body))) (words_typed m Below (map (variable_begins m input) (value_variables m)) have)
            (begun words (map (variable_begins m input) (value_variables m)) (map (begins_as m) (variables_of b.body)) shows);
        waiting = tt;
        buffers_are = refl;
        choices_are = refl;
      }

  pub start_shown : (function : ℕ) (body : List Placed) (first : ℕ) → entry_of m.instrs ≡ Some function → function_at m function ≡ Some body → from_first_label body ≡ left m first → (frame m body).most ≤ length slots
      → Shows m (record { at = first; body = number_of m function; slots = 0; variables = sum_by (leaves m) Below }) [] slots (with_words words (sum_by (leaves m) Below) (flat_all (map (begins_as m) (variables_of body)))) input.buffers input.choices (start m input)
  unfolding start
  start_shown function body first entry at found room =
      let e = enter_from m kept [] m.instrs kept.all refl in
      let same : e.function ≡ function = (let both : Some e.function ≡ Some function = sym e.is ∙ entry in cc) in
      by_function (kind (defined_as m function)) refl (subst (λ k. begins_main m (kind (defined_as m k)) ≡ true) same e.main)
    where
      by_function : (k : Kind) → kind (defined_as m function) ≡ k → begins_main m k ≡ true
          → Shows m (record { at = first; body = number_of m function; slots = 0; variables = sum_by (leaves m) Below }) [] slots (with_words words (sum_by (leaves m) Below) (flat_all (map (begins_as m) (variables_of body)))) input.buffers input.choices (entering m input (entry_body m (entry_of m.instrs)))
      by_function (Begins returned own function_type) is main =
          let b = body_of m kept function returned own function_type is in
          let none = no_parameters m (shape_of (defined_as m function_type)) main in
          let same : b.body ≡ body = (let both : Some b.body ≡ Some body = sym b.found ∙ at in cc) in
          subst (λ o. Shows m (record { at = first; body = number_of m function; slots = 0; variables = sum_by (leaves m) Below }) [] slots (with_words words (sum_by (leaves m) Below) (flat_all (map (begins_as m) (variables_of body)))) input.buffers input.choices (entering m input o))
          (sym (ap (entry_body m) entry ∙ at))
          (subst (λ l. Shows m (record { at = first; body = number_of m function; slots = 0; variables = sum_by (leaves m) Below }) [] slots (with_words words (sum_by (leaves m) Below) (flat_all (map (begins_as m) (variables_of l)))) input.buffers input.choices (entering m input (Some l))) same
          (entry_shown function returned own function_type is b none first (ap from_first_label same ∙ found) (subst (λ l. (frame m l).most ≤ length slots) (sym same) room)))
      by_function _ is main = absurd (false≢true main)
