-- Calls of functions.
use Rattle.std.proofs.Common.{◌≡◌, ℕ, ◌<◌, ◌==◌, Bool, true, false, not, List, [], ◌∷◌, map, Option, Some, None, refl, sym, ap, ◌∙◌, subst, suc, arith}
use Rattle.std.specs.Prelude.{slice_get, ◌&&◌}
use Rattle.std.specs.List.{list_all, list_any}
use Rattle.std.specs.Option.{option_map}
use Rattle.std.proofs.lemmas.Bool.{and_from, eq-eqb, eqb-true, or_from, or_right}
use Rattle.gsl_instr.specs.Forms.{form_of}
use Rattle.gsl_instr.specs.Instructions.{read_as}
use Rattle.gsl_instr.specs.declared.enumerant.storage_class.TheConstants as storage_class
use Rattle.gsl_instr.specs.declared.form.Form.TheVariants as form
use Rattle.gsl_instr.specs.declared.instruction.Instruction.TheVariants as instruction
use Rattle.gsl_instr.specs.declared.op.TheConstants as op
use Rattle.gsl_types.specs.declared.ty.Direction.{Direction}
use Rattle.gsl_types.specs.declared.ty.StructType.{StructType}
use Rattle.gsl_types.specs.declared.ty.Ty.{Ty}
use Rattle.gsl_tree.specs.Weights.{params_of}
use Rattle.gsl_tree.specs.declared.unit.Prototype.{Prototype}
use Rattle.gsl_words.specs.declared.module.Module.{Module}
use Rattle.gsl_valid.specs.CallRules.{fits_function, is_pointer, pointers_differ}
use Rattle.gsl_valid.specs.ConstantRules.{have_each}
use Rattle.gsl_valid.specs.Ids.{result}
use Rattle.gsl_valid.specs.Instruction.{read}
use Rattle.gsl_valid.specs.Kinds.{kind, type_of}
use Rattle.gsl_valid.specs.Sections.{is_class}
use Rattle.gsl_valid.specs.Types.{has_type, is_type}
use Rattle.gsl_spv.specs.Declarations.{instr}
use Rattle.gsl_spv.specs.Sections.{Sections}
use Rattle.gsl_lower_values.specs.Building.{giving}
use Rattle.gsl_lower_holders.specs.Flow.{Emit, Flow, behind, given as give, giving_here, id_at}
use Rattle.gsl_lower_holders.specs.declared.place.FlowPlace.{FlowPlace}
use Rattle.gsl_lower_expr.specs.Calls.{all_back, called_by, called_with, calling, passing_all, pointers, result_type, tys}
use Rattle.gsl_lower_expr.specs.Parts.{Lower, any_splits}
use Rattle.gsl_fitting.specs.Fits.{Frame, MayCall, begins, is_known, is_lent, works}
use Rattle.gsl_fitting_steps.specs.Keeping.{Works}
use Rattle.gsl_fitting_types.specs.Making.{AreSorted, made}
use Rattle.gsl_fitting_types.proofs.Knowing.{outside_known}
use Rattle.gsl_fitting_types.proofs.Sorting.{giving_sorts}
use Rattle.gsl_fitting_types.proofs.Stepping.{sits_read}
use Rattle.gsl_fitting_places.proofs.Chains.{giving_works}
use Rattle.gsl_fitting_flow.specs.Flowing.{EmitStays, Flows, GivesNone, GivesOf, IsLater, IsOf, pointer_id}
use Rattle.gsl_fitting_flow.proofs.Following.{emit_then, flows_so, flows_then, later_of, later_then, lift_flows, lift_stays}
use Rattle.gsl_fitting_flow.proofs.Holding.{of_later, own_known}
use Rattle.gsl_fitting_expr.specs.Evaluating.{Evaluates}
use Rattle.gsl_fitting_expr.proofs.Yielding.{flows_map, stays_map, yields_last}
use Rattle.gsl_fitting_passed.specs.Arguments.{AreDifferent, ArePassed, IsCallable, IsResult, Way, asked_by_all, types_of}
use Rattle.gsl_fitting_passed.proofs.Passing.{AllSent, Passed, Rise, all_flow, all_later, all_stay}
use Rattle.gsl_fitting_passed.proofs.Returning.{all_back_flow, all_back_stay}
use Rattle.gsl_fitting_passed.proofs.Zeros.{result_flows, result_stays}

-- ---- pointers that differ

rise_later : (holders : List ℕ) (k number id : ℕ) (ids : List ℕ) → AreDifferent holders → k < number → slice_get holders k ≡ Some id → Rise holders number ids → list_any (λ other. other == id) ids ≡ false
rise_later holders k number id _ differ less there Rise.none_rises = refl
rise_later holders k bound other _ differ less there (Rise.one_rises {from} {number} {id} {ids} low here more) = or_from (id == other) _ (by (id == other) refl) (rise_later holders k (suc number) other ids differ (omega (arith, less, low)) there more)
  where
    by : (b : Bool) → (id == other) ≡ b → (id == other) ≡ false
    by true e = let same = differ k number other there (subst (λ z. slice_get holders number ≡ Some z) (eqb-true id other e) here) in absurd (omega (arith, same, low, less))
    by false e = e

and_false : (b c : Bool) → c ≡ false → not (b && c) ≡ true
and_false true c e = ap not e
and_false false c e = refl

rise_differ : (m : Module) (holders : List ℕ) (from : ℕ) (ids : List ℕ) → AreDifferent holders → Rise holders from ids → pointers_differ m ids ≡ true
rise_differ m holders from _ differ Rise.none_rises = refl
rise_differ m holders bound _ differ (Rise.one_rises {from} {number} {id} {ids} low here more) =
    and_from _ _ (and_false (is_pointer m id) (list_any (λ other. other == id) ids) (rise_later holders number (suc number) id ids differ (omega arith) here more)) (rise_differ m holders (suc number) ids differ more)

-- ---- what stays

abbrev call_of : ℕ → List Passed → ℕ → Emit ℕ
call_of function ps type = giving_here op.FUNCTION_CALL (function ∷ pointers ps) type

abbrev typed_of : Ty → List Passed → ℕ → Emit ℕ
typed_of t ps function u = behind (result_type t u) (call_of function ps)

abbrev back_of : List StructType → List (Direction × Ty) → List Ty → List Passed → ℕ → Emit ℕ
back_of structs params args ps id u = behind (all_back structs ps params args u) (λ done. give id)

call_stays : (function : ℕ) (ps : List Passed) (type : ℕ) (u : Flow) → EmitStays u (call_of function ps type u)
unfolding form_of
call_stays function ps type u = lift_stays u (giving op.FUNCTION_CALL (function ∷ pointers ps) type u.sections) (giving_sorts op.FUNCTION_CALL (function ∷ pointers ps) type u.sections (λ id. refl))

typed_stays : (t : Ty) (ps : List Passed) (function : ℕ) (u : Flow) → EmitStays u (typed_of t ps function u)
typed_stays t ps function u = emit_then u (result_type t u) (call_of function ps) (result_stays t u) (λ type v. call_stays function ps type v)

by_stays : (number : ℕ) (t : Ty) (ps : List Passed) (u : Flow) → EmitStays u (called_by number t ps u)
by_stays number t ps u = by (slice_get u.place.functions number)
  where
    by : (o : Option ℕ) → EmitStays u (behind (id_at o u) (typed_of t ps))
    by (Some function) = typed_stays t ps function u
    by None = tt

back_stays : (structs : List StructType) (params : List (Direction × Ty)) (args : List Ty) (ps : List Passed) (id : ℕ) (u : Flow) → EmitStays u (back_of structs params args ps id u)
back_stays structs params args ps id u = stays_map u (all_back structs ps params args u) (λ done. id) (all_back_stay structs ps params args u)

with_stays : (structs : List StructType) (number : ℕ) (params : List (Direction × Ty)) (args : List Ty) (t : Ty) (ps : List Passed) (u : Flow) → EmitStays u (called_with structs number params args t ps u)
unfolding called_with
with_stays structs number params args t ps u = emit_then u (called_by number t ps u) (back_of structs params args ps) (by_stays number t ps u) (λ id v. back_stays structs params args ps id v)

module _ (whole : Sections) (main : ℕ) (local_size : List ℕ) (rank : ℕ → ℕ) (f : Frame) (sorted : AreSorted whole) where
  abbrev m : Module
  m = made whole main local_size rank f

  abbrev Sent : List ℕ → List Lower → List Way → List Passed → Type 0
  Sent given args ways ps = AllSent whole main local_size rank f sorted given args ways ps

  -- ---- the instruction

  sent_known : (given : List ℕ) (args : List Lower) (ways : List Way) (ps : List Passed) → Sent given args ways ps → list_all (is_known m f given) (pointers ps) ≡ true
  sent_known given _ _ _ AllSent.none_sent = refl
  sent_known given _ _ _ (AllSent.one_sent {arg} {args} {way} {ways} {p} {ps} one more) = and_from _ _ (own_known whole main local_size rank f sorted given p.pointer one.holder.own) (sent_known given args ways ps more)

  sent_lent : (given : List ℕ) (args : List Lower) (ways : List Way) (ps : List Passed) → Sent given args ways ps → list_all (is_lent m f) (pointers ps) ≡ true
  sent_lent given _ _ _ AllSent.none_sent = refl
  sent_lent given _ _ _ (AllSent.one_sent {arg} {args} {way} {ways} {p} {ps} one more) = and_from _ _ (or_right (not (is_pointer m p.pointer)) _ one.holder.own) (sent_lent given args ways ps more)

  sent_typed : (given : List ℕ) (args : List Lower) (ways : List Way) (ps : List Passed) → Sent given args ways ps → have_each (has_type m) (map (pointer_id whole main local_size rank f) (types_of ways)) (pointers ps) ≡ true
  sent_typed given _ _ _ AllSent.none_sent = refl
  sent_typed given _ _ _ (AllSent.one_sent {arg} {args} {way} {ways} {p} {ps} one more) =
      let type = pointer_id whole main local_size rank f way.type in and_from _ _ (ap (is_type type) one.holder.typed ∙ eq-eqb type type refl) (sent_typed given args ways ps more)

  call_works : (given : List ℕ) (args : List Lower) (ways : List Way) (ps : List Passed) (type function id : ℕ) → form_of op.FUNCTION_CALL ≡ Some form.FunctionCall → is_known m f given type ≡ true → IsCallable whole main local_size rank f type (types_of ways) function → Sent given args ways ps
      → pointers_differ m (pointers ps) ≡ true → Works m rank f given (instr op.FUNCTION_CALL (type ∷ id ∷ (function ∷ pointers ps))) (Some id)
  call_works given args ways ps type function id is known callable sent differ = record {
    works = ap (λ o. works (kind o)) reads;
    sits = sits_read whole main local_size rank f given (instr op.FUNCTION_CALL (type ∷ id ∷ (function ∷ pointers ps))) (instruction.FunctionCall type id function (pointers ps)) reads refl (and_from _ _ known (sent_known given args ways ps sent)) (and_from _ _ (ap begins callable.begins) refl) refl refl refl refl
        refl may;
    gives = ap result reads;
  }
    where
      reads : read (instr op.FUNCTION_CALL (type ∷ id ∷ (function ∷ pointers ps))) ≡ Some (instruction.FunctionCall type id function (pointers ps))
      reads = ap (λ o. option_map (λ w. read_as w op.FUNCTION_CALL (type ∷ id ∷ (function ∷ pointers ps))) o) is

      may : MayCall m rank f type function (pointers ps)
      may = record {
        fits =
            ap (fits_function m type (pointers ps)) callable.begins
            ∙ and_from _ _ (eq-eqb type type refl) (ap (λ l. have_each (has_type m) l (pointers ps)) callable.takes ∙ sent_typed given args ways ps sent);
        lent = sent_lent given args ways ps sent;
        differ = differ;
        deeper = callable.deeper;
      }

  call_flows : (deep : ℕ) (given : List ℕ) (args : List Lower) (ways : List Way) (ps : List Passed) (type function : ℕ) (u : Flow) → is_known m f given type ≡ true → IsCallable whole main local_size rank f type (types_of ways) function → Sent given args ways ps → pointers_differ m (pointers ps) ≡ true
      → Flows whole main local_size rank f [] deep false given (GivesOf whole main local_size rank f type) u (call_of function ps type u)
  unfolding form_of
  call_flows deep given args ways ps type function u known callable sent differ =
      lift_flows whole main local_size rank f deep given (λ id now after. IsOf whole main local_size rank f now type id) u (giving op.FUNCTION_CALL (function ∷ pointers ps) type u.sections)
      (giving_works whole main local_size rank f sorted given op.FUNCTION_CALL (function ∷ pointers ps) type (λ id now after. IsOf whole main local_size rank f now type id) u.sections (λ inside id. call_works given args ways ps type function id refl known callable sent differ)
      (λ id after start inside is known. record { typed = ap type_of is; known = known }))

  typed_flows : (s : Flow) (deep : ℕ) (given : List ℕ) (t : Ty) (args : List Lower) (ways : List Way) (ps : List Passed) (type function : ℕ) (u : Flow) → IsLater s u → IsResult whole main local_size rank f s t type → IsCallable whole main local_size rank f type (types_of ways) function → Sent given args ways ps
      → pointers_differ m (pointers ps) ≡ true → Flows whole main local_size rank f [] deep false given (GivesOf whole main local_size rank f type) u (typed_of t ps function u)
  typed_flows s deep given t args ways ps type function u here res callable sent differ =
      flows_then whole main local_size rank f [] [] deep false false given (λ id now after. (id ≡ type) × Sent now args ways ps) (GivesOf whole main local_size rank f type) u (result_type t u) (call_of function ps) (result_stays t u)
      (flows_so whole main local_size rank f [] deep false given (λ id now after. id ≡ type) (λ id now after. (id ≡ type) × Sent now args ways ps) u (result_type t u) (λ id now after inside wider is. (is, all_later whole main local_size rank f sorted given now args ways ps (wider refl) sent))
      (result_flows whole main local_size rank f sorted s deep given t type u here res)) (λ id v. call_stays function ps id v)
      (λ id v now is wider on inside. subst (λ z. Flows whole main local_size rank f [] deep false now (GivesOf whole main local_size rank f type) v (call_of function ps z v)) (sym is.0)
      (call_flows deep now args ways ps type function v (outside_known whole main local_size sorted f now type res.declared) callable is.1 differ))

  by_flows : (s : Flow) (deep : ℕ) (given : List ℕ) (number : ℕ) (t : Ty) (args : List Lower) (ways : List Way) (ps : List Passed) (type : ℕ) (u : Flow) → IsLater s u → IsResult whole main local_size rank f s t type
      → ((id : ℕ) → slice_get s.place.functions number ≡ Some id → IsCallable whole main local_size rank f type (types_of ways) id) → Sent given args ways ps → pointers_differ m (pointers ps) ≡ true → Flows whole main local_size rank f [] deep false given (GivesOf whole main local_size rank f type) u (called_by number t ps u)
  by_flows s deep given number t args ways ps type u here res callable sent differ = by (slice_get u.place.functions number) (sym (ap (λ (p : FlowPlace). slice_get p.functions number) here.place))
    where
      by : (o : Option ℕ) → slice_get s.place.functions number ≡ o → Flows whole main local_size rank f [] deep false given (GivesOf whole main local_size rank f type) u (behind (id_at o u) (typed_of t ps))
      by (Some function) e = typed_flows s deep given t args ways ps type function u here res (callable function e) sent differ
      by None e = tt

  -- ---- the whole

  with_flows : (s : Flow) (deep : ℕ) (given : List ℕ) (structs : List StructType) (number : ℕ) (args : List Lower) (params : List (Direction × Ty)) (ways : List Way) (t : Ty) (type : ℕ) (ps : List Passed) (u : Flow) → IsLater s u → ArePassed whole main local_size rank f s deep structs args params ways
      → IsResult whole main local_size rank f s t type → ((id : ℕ) → slice_get s.place.functions number ≡ Some id → IsCallable whole main local_size rank f type (types_of ways) id) → Sent given args ways ps → pointers_differ m (pointers ps) ≡ true
      → Flows whole main local_size rank f [] deep false given (GivesOf whole main local_size rank f type) u (called_with structs number params (tys args) t ps u)
  unfolding called_with
  with_flows s deep given structs number args params ways t type ps u here are res callable sent differ =
      flows_then whole main local_size rank f [] [] deep false false given (λ id now after. IsOf whole main local_size rank f now type id × Sent now args ways ps) (GivesOf whole main local_size rank f type) u (called_by number t ps u) (back_of structs params (tys args) ps) (by_stays number t ps u)
      (flows_so whole main local_size rank f [] deep false given (GivesOf whole main local_size rank f type) (λ id now after. IsOf whole main local_size rank f now type id × Sent now args ways ps) u (called_by number t ps u)
      (λ id now after inside wider value. (value, all_later whole main local_size rank f sorted given now args ways ps (wider refl) sent)) (by_flows s deep given number t args ways ps type u here res callable sent differ)) (λ id v. back_stays structs params (tys args) ps id v)
      (λ id v now both wider on inside. flows_map whole main local_size rank f [] deep false now (GivesNone whole main local_size rank f) (GivesOf whole main local_size rank f type) v (all_back structs ps params (tys args) v) (λ done. id)
      (λ done then after end more nothing. of_later whole main local_size rank f sorted now then type id (more refl) both.0) (all_back_flow whole main local_size rank f sorted s deep structs args params ways are now ps v (later_then s u v here (later_of on)) both.1))

  given_params : (s : Flow) (deep : ℕ) (structs : List StructType) (number : ℕ) (args : List Lower) (params : List (Direction × Ty)) (ways : List Way) (t : Ty) (type : ℕ) → is_class m.version storage_class.FUNCTION ≡ true → AreDifferent s.place.holders → ArePassed whole main local_size rank f s deep structs args params ways
      → IsResult whole main local_size rank f s t type → ((id : ℕ) → slice_get s.place.functions number ≡ Some id → IsCallable whole main local_size rank f type (types_of ways) id)
      → Evaluates whole main local_size rank f s (asked_by_all ways) deep (any_splits args) type (λ u. behind (passing_all structs args params u) (called_with structs number params (tys args) t))
  given_params s deep structs number args params ways t type classed differ are res callable =
      yields_last whole main local_size rank f s (asked_by_all ways) deep (any_splits args) (λ ps now after. Sent now args ways ps × (pointers_differ m (pointers ps) ≡ true)) (GivesOf whole main local_size rank f type) (passing_all structs args params) (called_with structs number params (tys args) t)
      (record {
        stays = λ u. all_stay whole main local_size rank f sorted s deep structs args params ways are u;
        flows = λ given u here.
            flows_so whole main local_size rank f (asked_by_all ways) deep (any_splits args) given (λ ps now after. Sent now args ways ps × Rise u.place.holders u.place.used (pointers ps)) (λ ps now after. Sent now args ways ps × (pointers_differ m (pointers ps) ≡ true)) u (passing_all structs args params u)
            (λ ps now after inside wider sends. (sends.0, rise_differ m s.place.holders u.place.used (pointers ps) differ (subst (λ holders. Rise holders u.place.used (pointers ps)) (ap (λ (p : FlowPlace). p.holders) here.place) sends.1)))
            (all_flow whole main local_size rank f sorted s deep structs args params ways classed are given u here);
      })
      (λ ps u. with_stays structs number params (tys args) t ps u) (λ ps u now sends here inside. with_flows s deep now structs number args params ways t type ps u here are res callable sends.0 sends.1)

  pub call_evaluates : (s : Flow) (deep : ℕ) (structs : List StructType) (prototypes : List Prototype) (number : ℕ) (args : List Lower) (ways : List Way) (t : Ty) (type : ℕ) → is_class m.version storage_class.FUNCTION ≡ true → AreDifferent s.place.holders
      → ArePassed whole main local_size rank f s deep structs args (params_of (slice_get prototypes number)) ways → IsResult whole main local_size rank f s t type → ((id : ℕ) → slice_get s.place.functions number ≡ Some id → IsCallable whole main local_size rank f type (types_of ways) id)
      → Evaluates whole main local_size rank f s (asked_by_all ways) deep (any_splits args) type (calling structs prototypes number args t)
  call_evaluates s deep structs prototypes number args ways t type classed differ are res callable = given_params s deep structs number args (params_of (slice_get prototypes number)) ways t type classed differ are res callable
