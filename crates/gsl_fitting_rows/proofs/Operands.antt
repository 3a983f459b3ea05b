-- Constructors, built-in functions, and expressions in turn.
use Rattle.std.proofs.Common.{◌≡◌, ℕ, ◌+◌, ◌≤◌, Bool, true, false, ◌||◌, List, [], ◌∷◌, ◌++◌, length, map, Option, Some, None, refl, sym, ap, ◌∙◌, subst, suc, ◌⊎◌, inl, inr, arith}
use Rattle.std.specs.List.{AllByRecursion, list_all}
use Rattle.std.proofs.lemmas.Bool.{and_from, eq-eqb}
use Rattle.gsl_instr.specs.Forms.{form_of}
use Rattle.gsl_instr.specs.declared.form.Form.TheVariants as form
use Rattle.gsl_instr.specs.declared.instruction.Instruction.TheVariants as instruction
use Rattle.gsl_instr.specs.declared.op.TheConstants as op
use Rattle.gsl_types.specs.declared.ty.Ty.{Ty}
use Rattle.gsl_values.specs.declared.function.Builtin.{Builtin}
use Rattle.gsl_tree.specs.Shapes.{Shape, built_shape, shape_of}
use Rattle.gsl_words.specs.declared.module.Module.{Module}
use Rattle.gsl_valid.specs.ConstantRules.{have_all, have_each}
use Rattle.gsl_valid.specs.Kinds as kinds
use Rattle.gsl_valid.specs.Kinds.{type_of}
use Rattle.gsl_valid.specs.OperandRules as rules
use Rattle.gsl_valid.specs.Types.{defined_as, has_type, is_type}
use Rattle.gsl_spv.specs.Sections.{Sections}
use Rattle.gsl_lower_values.specs.Building.{giving}
use Rattle.gsl_lower_values.specs.Builtins as builtins
use Rattle.gsl_lower_values.specs.Constructors as constructors
use Rattle.gsl_lower_values.specs.declared.operand.Operand.{Operand}
use Rattle.gsl_lower_holders.specs.Flow.{Emit, Flow, behind, giving_here, lift, type_id}
use Rattle.gsl_lower_expr.specs.Parts.{Lower, any_splits, built_from, called_of, constructed, fetches, keeps, sequence, shape_or, typed}
use Rattle.gsl_fitting.specs.Fits.{Frame, is_known}
use Rattle.gsl_fitting_types.specs.Making.{AreSorted, Stands, made}
use Rattle.gsl_fitting_types.proofs.Knowing.{outside_known}
use Rattle.gsl_fitting_types.proofs.Sorting.{giving_sorts}
use Rattle.gsl_fitting_operators.proofs.Forms.{stands_as}
use Rattle.gsl_fitting_builtins.specs.Arguments.{AreArguments, AreEnough, in_all}
use Rattle.gsl_fitting_builtins.proofs.Building.{built_fits, built_sorts}
use Rattle.gsl_fitting_builtins.proofs.Built.{called_fits, called_sorts}
use Rattle.gsl_fitting_places.proofs.Chains.{giving_made}
use Rattle.gsl_fitting_flow.specs.Flowing.{EmitStays, Flows, GivesOf, IsLater, IsOf, IsTypeFor, Widens}
use Rattle.gsl_fitting_flow.proofs.Following.{emit_then, flow_same, flows_so, flows_then, given_flows, later_of, later_then, lift_flows, lift_stays}
use Rattle.gsl_fitting_flow.proofs.Holding.{of_later, type_flows, type_on, type_stays}
use Rattle.gsl_fitting_expr.specs.Evaluating.{Evaluates, IsPlain}
use Rattle.gsl_fitting_expr.proofs.Steps.{step_flows, value_of}
use Rattle.gsl_fitting_expr.proofs.Yielding.{flows_last, yields_last}
use Rattle.gsl_fitting_rows.specs.Rows.{AreOf, ArePlain, EvaluateEach, Fill, HasParts, HaveTypes, IsMadeOf, Row, asked_in, asked_in_turn, components_of, last_type, types_in}
use Rattle.gsl_fitting_rows.proofs.Waiting.{operands_yield}

-- ---- a step on ids

abbrev built_step : Shape → List Lower → List ℕ → Emit ℕ
built_step shape es ids = lift (constructors.built shape (typed es ids))

abbrev called_step : Builtin → List Lower → List ℕ → Emit ℕ
called_step which es ids = lift (builtins.called which (typed es ids))

abbrev put_together : Ty → List ℕ → Emit ℕ
put_together t ids u = behind (type_id t u) (giving_here op.COMPOSITE_CONSTRUCT ids)

-- ---- in turn

turn_stays : (e : Lower) (es : List Lower) (u : Flow) → ((u : Flow) → EmitStays u (e.value u)) → ((id : ℕ) (u : Flow) → EmitStays u (sequence id es u)) → EmitStays u (behind (e.value u) (λ id. sequence id es))
turn_stays e es u first more = emit_then u (e.value u) (λ id. sequence id es) (first u) more

module _ (whole : Sections) (main : ℕ) (local_size : List ℕ) (rank : ℕ → ℕ) (f : Frame) (sorted : AreSorted whole) where
  abbrev m : Module
  m = made whole main local_size rank f

  abbrev E : Flow → List ℕ → ℕ → Bool → ℕ → Emit ℕ → Type 0
  E s asks deep splits type value = Evaluates whole main local_size rank f s asks deep splits type value

  abbrev Each : Flow → ℕ → List Lower → Row → Type 0
  Each s deep es row = EvaluateEach whole main local_size rank f s deep es row

  -- ---- scalars and vectors

  arguments : (given : List ℕ) (s : Flow) (deep : ℕ) (es : List Lower) (row : Row) (ids : List ℕ) → Each s deep es row → ArePlain whole main local_size rank f es row → AreOf whole main local_size rank f given row ids → AreArguments whole main local_size rank f given (typed es ids)
  arguments given s deep [] (one ∷ row) ids each plain all = elim each [ ]
  arguments given s deep (e ∷ es) [] ids each plain all = elim each [ ]
  arguments given s deep [] [] (id ∷ ids) each plain all = elim all [ ]
  arguments given s deep (e ∷ es) (one ∷ row) [] each plain all = elim all [ ]
  arguments given s deep [] [] [] each plain all = tt
  arguments given s deep (e ∷ es) (one ∷ row) (id ∷ ids) each plain all =
      (record { sized = plain.0.sized; value = value_of whole main local_size rank f sorted given (shape_or e.ty) one.0 id plain.0 all.0 }, arguments given s deep es row ids each.1 plain.1 all.1)

  shapes : (given : List ℕ) (s : Flow) (deep : ℕ) (es : List Lower) (row : Row) (ids : List ℕ) → Each s deep es row → AreOf whole main local_size rank f given row ids → map (λ (a : Operand). a.shape) (typed es ids) ≡ map (λ (e : Lower). shape_or e.ty) es
  shapes given s deep [] (one ∷ row) ids each all = elim each [ ]
  shapes given s deep (e ∷ es) [] ids each all = elim each [ ]
  shapes given s deep [] [] (id ∷ ids) each all = elim all [ ]
  shapes given s deep (e ∷ es) (one ∷ row) [] each all = elim all [ ]
  shapes given s deep [] [] [] each all = refl
  shapes given s deep (e ∷ es) (one ∷ row) (id ∷ ids) each all = ap (λ more. shape_or e.ty ∷ more) (shapes given s deep es row ids each.1 all.1)

  counts : (given : List ℕ) (s : Flow) (deep : ℕ) (es : List Lower) (row : Row) (ids : List ℕ) → Each s deep es row → AreOf whole main local_size rank f given row ids → in_all (typed es ids) ≡ components_of es
  counts given s deep [] (one ∷ row) ids each all = elim each [ ]
  counts given s deep (e ∷ es) [] ids each all = elim each [ ]
  counts given s deep [] [] (id ∷ ids) each all = elim all [ ]
  counts given s deep (e ∷ es) (one ∷ row) [] each all = elim all [ ]
  counts given s deep [] [] [] each all = refl
  counts given s deep (e ∷ es) (one ∷ row) (id ∷ ids) each all = ap (λ n. (shape_or e.ty).1 + n) (counts given s deep es row ids each.1 all.1)

  enough : (shape : Shape) (es : List Lower) (args : List Operand) → in_all args ≡ components_of es → Fill shape es → AreEnough shape args
  enough shape es args same (inl many) = inl (subst (λ n. shape.1 ≤ n) (sym same) many)
  enough shape es args same (inr one) = inr (same ∙ one)

  pub called_evaluates : (s : Flow) (deep type : ℕ) (which : Builtin) (es : List Lower) (row : Row) (shape : Shape) → IsPlain whole main local_size rank f shape type → built_shape which (map (λ (e : Lower). shape_or e.ty) es) ≡ Some shape → Each s deep es row → HaveTypes whole main local_size rank f s es row
      → ArePlain whole main local_size rank f es row → E s (asked_in es row) deep (any_splits es) type (called_of which es)
  called_evaluates s deep type which es row shape of fits each types plain =
      yields_last whole main local_size rank f s (asked_in es row) deep (any_splits es) (λ ids now after. AreOf whole main local_size rank f now row ids) (GivesOf whole main local_size rank f type) (λ u. behind (keeps es u) (fetches es)) (called_step which es)
      (operands_yield whole main local_size rank f sorted s deep es row each types) (λ ids u. lift_stays u (builtins.called which (typed es ids) u.sections) (called_sorts which (typed es ids) u.sections))
      (λ ids u now all here inside. step_flows whole main local_size rank f sorted deep now shape type (builtins.called which (typed es ids)) u of
      (called_fits whole main local_size rank f sorted now which (typed es ids) shape u.sections (ap (built_shape which) (shapes now s deep es row ids each all) ∙ fits) (arguments now s deep es row ids each plain all)))

  pub built_evaluates : (s : Flow) (deep type : ℕ) (t : Ty) (es : List Lower) (row : Row) (shape : Shape) → shape_of t ≡ Some shape → IsPlain whole main local_size rank f shape type → Fill shape es → Each s deep es row → HaveTypes whole main local_size rank f s es row
      → ArePlain whole main local_size rank f es row → E s (asked_in es row) deep (any_splits es) type (constructed t es)
  built_evaluates s deep type t es row shape is of fill each types plain =
      subst (λ o. E s (asked_in es row) deep (any_splits es) type (λ u. behind (behind (keeps es u) (fetches es)) (λ ids. built_from t o ids (typed es ids)))) (sym is)
      (yields_last whole main local_size rank f s (asked_in es row) deep (any_splits es) (λ ids now after. AreOf whole main local_size rank f now row ids) (GivesOf whole main local_size rank f type) (λ u. behind (keeps es u) (fetches es)) (built_step shape es)
      (operands_yield whole main local_size rank f sorted s deep es row each types) (λ ids u. lift_stays u (constructors.built shape (typed es ids) u.sections) (built_sorts shape (typed es ids) u.sections))
      (λ ids u now all here inside. step_flows whole main local_size rank f sorted deep now shape type (constructors.built shape (typed es ids)) u of
      (built_fits whole main local_size rank f sorted now shape (typed es ids) u.sections of.sized (enough shape es (typed es ids) (counts now s deep es row ids each all) fill) (arguments now s deep es row ids each plain all))))

  -- ---- arrays and structs

  all_known : (given : List ℕ) (row : Row) (ids : List ℕ) → AreOf whole main local_size rank f given row ids → AllByRecursion (λ id. is_known m f given id ≡ true) ids
  all_known given [] (id ∷ ids) all = elim all [ ]
  all_known given (one ∷ row) [] all = elim all [ ]
  all_known given [] [] all = tt
  all_known given (one ∷ row) (id ∷ ids) all = (all.0.known, all_known given row ids all.1)

  same_length : (given : List ℕ) (row : Row) (ids : List ℕ) → AreOf whole main local_size rank f given row ids → length ids ≡ length (types_in row)
  same_length given [] (id ∷ ids) all = elim all [ ]
  same_length given (one ∷ row) [] all = elim all [ ]
  same_length given [] [] all = refl
  same_length given (one ∷ row) (id ∷ ids) all = ap suc (same_length given row ids all.1)

  has_one : (given : List ℕ) (type id : ℕ) → IsOf whole main local_size rank f given type id → has_type m type id ≡ true
  has_one given type id v = ap (is_type type) v.typed ∙ eq-eqb type type refl

  elements : (given : List ℕ) (element : ℕ) (row : Row) (ids : List ℕ) → AllByRecursion (λ type. type ≡ element) (types_in row) → AreOf whole main local_size rank f given row ids → list_all (has_type m element) ids ≡ true
  elements given element [] (id ∷ ids) same all = elim all [ ]
  elements given element (one ∷ row) [] same all = elim all [ ]
  elements given element [] [] same all = refl
  elements given element (one ∷ row) (id ∷ ids) same all = and_from _ _ (subst (λ type. has_type m type id ≡ true) same.0 (has_one given one.0 id all.0)) (elements given element row ids same.1 all.1)

  members : (given : List ℕ) (row : Row) (ids : List ℕ) → AreOf whole main local_size rank f given row ids → have_each (has_type m) (types_in row) ids ≡ true
  members given [] (id ∷ ids) all = elim all [ ]
  members given (one ∷ row) [] all = elim all [ ]
  members given [] [] all = refl
  members given (one ∷ row) (id ∷ ids) all = and_from _ _ (has_one given one.0 id all.0) (members given row ids all.1)

  is_built : (given : List ℕ) (row : Row) (ids : List ℕ) (shape : kinds.Shape) → HasParts m (types_in row) shape → AreOf whole main local_size rank f given row ids → rules.is_built m ids shape ≡ true
  is_built given row ids (kinds.OfArray element count) parts all =
      ap (λ n. have_all (has_type m) element n ids) parts.0 ∙ and_from _ _ (eq-eqb (length ids) (length (types_in row)) (same_length given row ids all)) (elements given element row ids parts.1 all)
  is_built given row ids kinds.OfVoid parts all = elim parts [ ]
  is_built given row ids kinds.OfBool parts all = elim parts [ ]
  is_built given row ids (kinds.OfInt signedness) parts all = elim parts [ ]
  is_built given row ids (kinds.OfVector component count) parts all = elim parts [ ]
  is_built given row ids (kinds.OfRuntimeArray element) parts all = elim parts [ ]
  is_built given row ids (kinds.OfPointer class pointee) parts all = elim parts [ ]
  is_built given row ids (kinds.OfFunction returned parameters) parts all = elim parts [ ]
  is_built given row ids kinds.NoType parts all = elim parts [ ]
  is_built given row ids (kinds.OfStruct id list) parts all = ap (λ l. have_each (has_type m) l ids) (sym parts) ∙ members given row ids all

  together_stands : (given : List ℕ) (type : ℕ) (row : Row) (ids : List ℕ) → form_of op.COMPOSITE_CONSTRUCT ≡ Some form.CompositeConstruct → IsMadeOf m (types_in row) type → AreOf whole main local_size rank f given row ids → Stands whole main local_size rank f given op.COMPOSITE_CONSTRUCT ids type
  together_stands given type row ids is made_of all =
      stands_as whole main local_size rank f sorted given op.COMPOSITE_CONSTRUCT ids ids type form.CompositeConstruct (λ id. instruction.CompositeConstruct type id ids) is (λ id. refl) (λ id. refl) (λ id. refl) (λ id. refl) (λ id. refl) (λ id. refl)
      (outside_known whole main local_size sorted f given type made_of.declared, all_known given row ids all) (λ id. is_built given row ids (kinds.shape_of (defined_as m type)) made_of.parts all) (λ id. refl) (λ id. refl) (λ id. refl) (λ id. refl)

  together_stays : (t : Ty) (ids : List ℕ) (u : Flow) → EmitStays u (put_together t ids u)
  unfolding form_of
  together_stays t ids u =
      emit_then u (type_id t u) (giving_here op.COMPOSITE_CONSTRUCT ids) (type_stays t u) (λ type v. lift_stays v (giving op.COMPOSITE_CONSTRUCT ids type v.sections) (giving_sorts op.COMPOSITE_CONSTRUCT ids type v.sections (λ id. refl)))

  together_flows : (deep : ℕ) (given : List ℕ) (t : Ty) (type : ℕ) (row : Row) (ids : List ℕ) (u : Flow) → IsTypeFor whole main local_size rank f u.place t type → IsMadeOf m (types_in row) type → AreOf whole main local_size rank f given row ids
      → Flows whole main local_size rank f [] deep false given (GivesOf whole main local_size rank f type) u (put_together t ids u)
  unfolding form_of
  together_flows deep given t type row ids u same made_of all =
      flows_then whole main local_size rank f [] [] deep false false given (λ id now after. (id ≡ type) × AreOf whole main local_size rank f now row ids) (GivesOf whole main local_size rank f type) u (type_id t u) (giving_here op.COMPOSITE_CONSTRUCT ids) (type_stays t u)
      (flows_so whole main local_size rank f [] deep false given (λ id now after. id ≡ type) (λ id now after. (id ≡ type) × AreOf whole main local_size rank f now row ids) u (type_id t u) (λ id now after inside wider is. (is, all_later given now row ids (wider refl) all))
      (type_flows whole main local_size rank f sorted deep given t type u same))
      (λ id v. lift_stays v (giving op.COMPOSITE_CONSTRUCT ids id v.sections) (giving_sorts op.COMPOSITE_CONSTRUCT ids id v.sections (λ id. refl)))
      (λ id v now is wider on inside. subst (λ z. Flows whole main local_size rank f [] deep false now (GivesOf whole main local_size rank f type) v (giving_here op.COMPOSITE_CONSTRUCT ids z v)) (sym is.0)
      (lift_flows whole main local_size rank f deep now (λ id now after. IsOf whole main local_size rank f now type id) v (giving op.COMPOSITE_CONSTRUCT ids type v.sections)
      (giving_made whole main local_size rank f sorted now op.COMPOSITE_CONSTRUCT ids type (λ id now after. IsOf whole main local_size rank f now type id) v.sections (λ start. together_stands now type row ids refl made_of is.1)
      (λ id after start inside read_as known. record { typed = ap type_of read_as; known = known }))))
    where
      all_later : (given now : List ℕ) (row : Row) (ids : List ℕ) → Widens given now → AreOf whole main local_size rank f given row ids → AreOf whole main local_size rank f now row ids
      all_later given now [] (id ∷ ids) wider all = elim all [ ]
      all_later given now (one ∷ row) [] wider all = elim all [ ]
      all_later given now [] [] wider all = tt
      all_later given now (one ∷ row) (id ∷ ids) wider all = (of_later whole main local_size rank f sorted given now one.0 id wider all.0, all_later given now row ids wider all.1)

  pub together_evaluates : (s : Flow) (deep type : ℕ) (t : Ty) (es : List Lower) (row : Row) → shape_of t ≡ None → IsTypeFor whole main local_size rank f s.place t type → IsMadeOf m (types_in row) type → Each s deep es row → HaveTypes whole main local_size rank f s es row
      → E s (asked_in es row) deep (any_splits es) type (constructed t es)
  together_evaluates s deep type t es row is same made_of each types =
      subst (λ o. E s (asked_in es row) deep (any_splits es) type (λ u. behind (behind (keeps es u) (fetches es)) (λ ids. built_from t o ids (typed es ids)))) (sym is)
      (yields_last whole main local_size rank f s (asked_in es row) deep (any_splits es) (λ ids now after. AreOf whole main local_size rank f now row ids) (GivesOf whole main local_size rank f type) (λ u. behind (keeps es u) (fetches es)) (put_together t)
      (operands_yield whole main local_size rank f sorted s deep es row each types) (λ ids u. together_stays t ids u)
      (λ ids u now all here inside. together_flows deep now t type row ids u (type_on whole main local_size rank f sorted s u t type here same) made_of all))

  -- ---- in turn

  sequence_stays : (s : Flow) (deep last : ℕ) (es : List Lower) (row : Row) → Each s deep es row → (u : Flow) → EmitStays u (sequence last es u)
  unfolding sequence
  sequence_stays s deep last [] (one ∷ row) each u = elim each [ ]
  sequence_stays s deep last (e ∷ es) [] each u = elim each [ ]
  sequence_stays s deep last [] [] each u = flow_same u
  sequence_stays s deep last (e ∷ es) (one ∷ row) each u =
      turn_stays e es u each.0.stays (λ id v. sequence_stays s deep id es row each.1 v)

  sequence_flows : (s : Flow) (deep type last : ℕ) (es : List Lower) (row : Row) → Each s deep es row → (given : List ℕ) (u : Flow) → IsLater s u → IsOf whole main local_size rank f given type last
      → Flows whole main local_size rank f (asked_in_turn row) deep (any_splits es) given (GivesOf whole main local_size rank f (last_type type row)) u (sequence last es u)
  unfolding sequence
  sequence_flows s deep type last [] (one ∷ row) each given u here v = elim each [ ]
  sequence_flows s deep type last (e ∷ es) [] each given u here v = elim each [ ]
  sequence_flows s deep type last [] [] each given u here v = given_flows whole main local_size rank f deep given (GivesOf whole main local_size rank f type) last u (λ inside. v)
  sequence_flows s deep type last (e ∷ es) (one ∷ row) each given u here v =
      flows_then whole main local_size rank f one.1 (asked_in_turn row) deep e.traits.splits (any_splits es) given (GivesOf whole main local_size rank f one.0) (GivesOf whole main local_size rank f (last_type one.0 row)) u (e.value u) (λ id. sequence id es)
      (each.0.stays u) (each.0.flows given u here) (λ id w. sequence_stays s deep id es row each.1 w) (λ id w now is wider on inside. sequence_flows s deep one.0 id es row each.1 now w (later_then s u w here (later_of on)) is)

  pub sequence_evaluates : (s : Flow) (deep : ℕ) (e : Lower) (es : List Lower) (one : ℕ × List ℕ) (row : Row) → Each s deep (e ∷ es) (one ∷ row) → E s (asked_in_turn (one ∷ row)) deep (any_splits (e ∷ es)) (last_type one.0 row) (sequence 0 (e ∷ es))
  unfolding sequence
  sequence_evaluates s deep e es one row each = record {
    stays = λ u. sequence_stays s deep 0 (e ∷ es) (one ∷ row) each u;
    flows = λ given u here.
        flows_then whole main local_size rank f one.1 (asked_in_turn row) deep e.traits.splits (any_splits es) given (GivesOf whole main local_size rank f one.0) (GivesOf whole main local_size rank f (last_type one.0 row)) u (e.value u) (λ id. sequence id es)
        (each.0.stays u) (each.0.flows given u here) (λ id w. sequence_stays s deep id es row each.1 w) (λ id w now is wider on inside. sequence_flows s deep one.0 id es row each.1 now w (later_then s u w here (later_of on)) is);
  }
