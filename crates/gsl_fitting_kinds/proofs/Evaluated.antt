-- Lengths, built-in variables, and equality of arrays and structs.
use Rattle.std.proofs.Common.{◌≡◌, ℕ, ◌<◌, Bool, true, false, cond, ◌||◌, List, [], ◌∷◌, ◌++◌, Option, Some, None, refl, sym, subst, arith}
use Rattle.std.specs.Prelude.{slice_get}
use Rattle.std.specs.List.{AllByRecursion}
use Rattle.std.proofs.lemmas.Bool.{and_from}
use Rattle.gsl_instr.specs.Forms.{form_of}
use Rattle.gsl_instr.specs.declared.enumerant.storage_class.TheConstants as storage_class
use Rattle.gsl_instr.specs.declared.form.Form.TheVariants as form
use Rattle.gsl_instr.specs.declared.instruction.Instruction.TheVariants as instruction
use Rattle.gsl_instr.specs.declared.op.TheConstants as op
use Rattle.gsl_types.specs.declared.ty.Scalar.TheVariants.{Int, Uint}
use Rattle.gsl_types.specs.declared.ty.StructType.{StructType}
use Rattle.gsl_types.specs.declared.ty.Ty.{Ty}
use Rattle.gsl_values.specs.declared.op.BinaryOp.{BinaryOp}
use Rattle.gsl_tree.specs.Operations.{has_fixed_length, length_of}
use Rattle.gsl_tree.specs.Shapes.{Shape, flag, shape_of}
use Rattle.gsl_tree.specs.declared.expr.StageVar.{StageVar}
use Rattle.gsl_words.specs.declared.module.Module.{Module}
use Rattle.gsl_valid.specs.LimitRules.{most_indexes}
use Rattle.gsl_spv.specs.Sections.{Sections}
use Rattle.gsl_lower_values.specs.Building.{Step, behind, giving}
use Rattle.gsl_lower_values.specs.Constructors.{operand}
use Rattle.gsl_lower_values.specs.Operators as operators
use Rattle.gsl_lower_values.specs.Types as types
use Rattle.gsl_lower_leaves.specs.Leaves.{leaves_of}
use Rattle.gsl_lower_leaves.specs.declared.leaf.Leaf.{Leaf}
use Rattle.gsl_lower_places.specs.Reached.{whole as whole_of}
use Rattle.gsl_lower_places.specs.Reading.{read}
use Rattle.gsl_lower_places.specs.declared.reached.Base.TheVariants.{Variable}
use Rattle.gsl_lower_holders.specs.Flow.{Emit, Flow, id_at, lift, told}
use Rattle.gsl_lower_holders.specs.Flow as flows
use Rattle.gsl_lower_holders.specs.declared.place.FlowPlace.{FlowPlace}
use Rattle.gsl_lower_expr.specs.Parts.{Lower, binary_by, binary_of, block_length, counted, counted_in, shape_or, stage_number, stage_value}
use Rattle.gsl_lower_expr.specs.Parts as parts
use Rattle.gsl_fitting.specs.Fits.{Frame}
use Rattle.gsl_fitting_types.specs.Making.{AreSorted, Comes, GivesValue, IsConstant, IsTypeOf, Sorts, Stands, made}
use Rattle.gsl_fitting_types.proofs.Knowing.{scalar_type_is, type_later}
use Rattle.gsl_fitting_types.proofs.Sorting.{giving_sorts, sorts_then}
use Rattle.gsl_fitting_types.proofs.Stepping.{comes_so, comes_then, giving_comes}
use Rattle.gsl_fitting_types.proofs.Types.{scalar_constant_comes, scalar_constant_sorts, type_comes, type_sorts}
use Rattle.gsl_fitting_operators.proofs.Forms.{known_type, stands_as}
use Rattle.gsl_fitting_operators.proofs.Operators.{converted_fits, converted_sorts, fixed_value}
use Rattle.gsl_fitting_places.proofs.Parting.{read_fits, read_sorts}
use Rattle.gsl_fitting_flow.specs.Flowing.{EmitStays, Flows, GivesOf, IsOf, IsTypeFor, asked_if}
use Rattle.gsl_fitting_flow.proofs.Following.{lift_stays}
use Rattle.gsl_fitting_leaves.specs.Wholes.{Equates, HaveLeaves}
use Rattle.gsl_fitting_leaves.proofs.Comparing.{equality_comes, equality_sorts}
use Rattle.gsl_fitting_expr.specs.Evaluating.{Evaluates, IsPlain}
use Rattle.gsl_fitting_expr.proofs.Steps.{step_flows, two_evaluate}
use Rattle.gsl_fitting_reaching.specs.Reached.{IsVariable, May, Stands as StandsThere}
use Rattle.gsl_fitting_reaching.proofs.Names.{known_everywhere, told_later, variable_reached}
use Rattle.gsl_fitting_reaching.proofs.Serving.{may_read}
use Rattle.gsl_fitting_reads.specs.Moving.{GivesLeaf}
use Rattle.gsl_fitting_reads.proofs.Leaves.{leaf_of_value}
use Rattle.gsl_fitting_kinds.specs.Lengths.{HasLength}

-- ---- what stays

lifted_stays : (o : Option ℕ) (u : Flow) (step : ℕ → Step ℕ) → ((id : ℕ) (s : Sections) → Sorts s (step id s)) → EmitStays u (flows.behind (id_at o u) (λ id. lift (step id)))
lifted_stays (Some id) u step sorts = lift_stays u (step id u.sections) (sorts id u.sections)
lifted_stays None u step sorts = tt

abbrev length_of_type : ℕ → ℕ → Step ℕ
length_of_type id number s = behind (types.type_of (Uint, 1) s) (giving op.ARRAY_LENGTH (id ∷ number ∷ []))

length_sorts : (id number : ℕ) (s : Sections) → Sorts s (length_of_type id number s)
unfolding form_of
length_sorts id number s = sorts_then s (types.type_of (Uint, 1) s) (giving op.ARRAY_LENGTH (id ∷ number ∷ [])) (type_sorts (Uint, 1) s) (λ type t. giving_sorts op.ARRAY_LENGTH (id ∷ number ∷ []) type t (λ to. refl))

count_sorts : (id number : ℕ) (s : Sections) → Sorts s (counted_in id number s)
count_sorts id number s = sorts_then s (length_of_type id number s) (λ count. operators.converted Int (operand (Uint, 1) count)) (length_sorts id number s) (λ count t. converted_sorts Int (operand (Uint, 1) count) t)

module _ (whole : Sections) (main : ℕ) (local_size : List ℕ) (rank : ℕ → ℕ) (f : Frame) (sorted : AreSorted whole) where
  abbrev m : Module
  m = made whole main local_size rank f

  abbrev E : Flow → List ℕ → ℕ → Bool → ℕ → Emit ℕ → Type 0
  E s asks deep splits type value = Evaluates whole main local_size rank f s asks deep splits type value

  -- a step on an id that the place tells
  told_evaluates : (s : Flow) (deep type : ℕ) (shape : Shape) (list : FlowPlace → List ℕ) (number : ℕ) (step : ℕ → Step ℕ) → ((p : FlowPlace) (label used : ℕ) → list (record p { label = label; used = used }) ≡ list p) → IsPlain whole main local_size rank f shape type → ((id : ℕ) (s : Sections) → Sorts s (step id s))
      → ((id : ℕ) (given : List ℕ) (before : Sections) → slice_get (list s.place) number ≡ Some id → Comes whole main local_size rank f given (GivesValue whole main local_size rank f shape) before (step id before)) → E s [] deep false type (λ u. flows.behind (told list number u) (λ id. lift (step id)))
  told_evaluates s deep type shape list number step lasts plain sorts comes = record {
    stays = λ u. lifted_stays (slice_get (list u.place) number) u step sorts;
    flows = λ given u here. by given u (slice_get (list u.place) number) (sym (told_later list number s u lasts here));
  }
    where
      by : (given : List ℕ) (u : Flow) (o : Option ℕ) → slice_get (list s.place) number ≡ o → Flows whole main local_size rank f [] deep false given (GivesOf whole main local_size rank f type) u (flows.behind (id_at o u) (λ id. lift (step id)))
      by given u (Some id) e = step_flows whole main local_size rank f sorted deep given shape type (step id) u plain (comes id given u.sections e)
      by given u None e = tt

  -- ---- built-in variables

  pub stage_evaluates : (s : Flow) (deep type : ℕ) (var : StageVar) (t : Ty) (may : May) (pointee room : ℕ) → IsPlain whole main local_size rank f (shape_or t) type → may.reads ≡ true → StandsThere whole main local_size rank f (Some storage_class.INPUT) (Some (shape_or t)) pointee
      → ((id : ℕ) → slice_get s.place.stage_vars (stage_number var) ≡ Some id → IsVariable whole main local_size rank f may storage_class.INPUT pointee room id) → E s [] deep false type (stage_value var t)
  stage_evaluates s deep type var t may pointee room plain reading stands is =
      told_evaluates s deep type (shape_or t) (λ (p : FlowPlace). p.stage_vars) (stage_number var) (λ id. read (shape_or t) (whole_of (Variable id storage_class.INPUT))) (λ p label used. refl) plain (λ id s. read_sorts (shape_or t) (whole_of (Variable id storage_class.INPUT)) s)
      (λ id given before e. read_fits whole main local_size rank f sorted given (shape_or t) (whole_of (Variable id storage_class.INPUT)) before
      (may_read whole main local_size rank f sorted given (record { home = Some storage_class.INPUT; may = may; shape = Some (shape_or t); type = pointee; room = room; held = []; picked = None }) (shape_or t) (whole_of (Variable id storage_class.INPUT)) refl
      (variable_reached whole main local_size rank f sorted given storage_class.INPUT may (Some (shape_or t)) pointee room id (is id e) stands) reading))

  -- ---- lengths

  length_stands : (given : List ℕ) (type number id : ℕ) → form_of op.ARRAY_LENGTH ≡ Some form.ArrayLength → IsTypeOf whole (Uint, 1) type → HasLength whole main local_size rank f number id → Stands whole main local_size rank f given op.ARRAY_LENGTH (id ∷ number ∷ []) type
  length_stands given type number id is of has =
      stands_as whole main local_size rank f sorted given op.ARRAY_LENGTH (id ∷ number ∷ []) (id ∷ []) type form.ArrayLength (λ to. instruction.ArrayLength type to id number) is (λ to. refl) (λ to. refl) (λ to. refl) (λ to. refl) (λ to. refl) (λ to. refl)
      (known_type whole main local_size rank f sorted given (Uint, 1) type of, (known_everywhere whole main local_size rank f sorted given id has.known, tt)) (λ to. refl)
      (λ to. and_from _ _ (and_from _ _ (rw (scalar_type_is whole main local_size sorted Uint type of) refl) has.stores) has.grows) (λ to. refl) (λ to. refl) (λ to. refl)

  count_comes : (given : List ℕ) (number id : ℕ) (before : Sections) → HasLength whole main local_size rank f number id → Comes whole main local_size rank f given (GivesValue whole main local_size rank f (Int, 1)) before (counted_in id number before)
  unfolding form_of
  count_comes given number id before has =
      comes_then whole main local_size rank f given (GivesValue whole main local_size rank f (Uint, 1)) (GivesValue whole main local_size rank f (Int, 1)) before (length_of_type id number before) (λ count. operators.converted Int (operand (Uint, 1) count)) (length_sorts id number before)
      (comes_then whole main local_size rank f given (λ type now after. IsTypeOf after (Uint, 1) type) (GivesValue whole main local_size rank f (Uint, 1)) before (types.type_of (Uint, 1) before) (giving op.ARRAY_LENGTH (id ∷ number ∷ [])) (type_sorts (Uint, 1) before)
      (type_comes whole main local_size rank f sorted given (Uint, 1) before (record { some = omega arith; few = omega arith })) (λ type t. giving_sorts op.ARRAY_LENGTH (id ∷ number ∷ []) type t (λ to. refl))
      (λ type t now of wider extends inside. giving_comes whole main local_size rank f now op.ARRAY_LENGTH (id ∷ number ∷ []) (Uint, 1) type t sorted of (λ start. length_stands now type number id refl (type_later t whole (Uint, 1) type start of) has)))
      (λ count t. converted_sorts Int (operand (Uint, 1) count) t)
      (λ count t now is wider extends inside. converted_fits whole main local_size rank f sorted now Int (operand (Uint, 1) count) t (record { some = omega arith; few = omega arith }) is)

  pub length_evaluates : (s : Flow) (deep type block number : ℕ) → IsPlain whole main local_size rank f (Int, 1) type → ((id : ℕ) → slice_get s.place.blocks block ≡ Some id → HasLength whole main local_size rank f number id) → E s [] deep false type (block_length block number)
  length_evaluates s deep type block number plain has =
      told_evaluates s deep type (Int, 1) (λ (p : FlowPlace). p.blocks) block (λ id. counted_in id number) (λ p label used. refl) plain (λ id s. count_sorts id number s) (λ id given before e. count_comes given number id before (has id e))

  fixed_comes : (given : List ℕ) (count : ℕ) (before : Sections) → Comes whole main local_size rank f given (GivesValue whole main local_size rank f (Int, 1)) before (types.scalar_constant Int count before)
  fixed_comes given count before =
      comes_so whole main local_size rank f given (λ id now after. IsConstant after (Int, 1) id) (GivesValue whole main local_size rank f (Int, 1)) before (types.scalar_constant Int count before)
      (λ id now after inside is. fixed_value whole main local_size rank f sorted now (Int, 1) id after is inside) (scalar_constant_comes whole main local_size rank f sorted given Int count before)

  pub counted_evaluates : (s : Flow) (deep type : ℕ) (a : Lower) → IsPlain whole main local_size rank f (Int, 1) type → (has_fixed_length a.ty ≡ false → E s [] deep false type a.length) → E s [] deep false type (counted a)
  counted_evaluates s deep type a plain other = by (has_fixed_length a.ty) refl
    where
      by : (b : Bool) → has_fixed_length a.ty ≡ b → E s [] deep false type (cond b (lift (types.scalar_constant Int (length_of a.ty))) a.length)
      by true e = record {
        stays = λ u. lift_stays u (types.scalar_constant Int (length_of a.ty) u.sections) (scalar_constant_sorts Int (length_of a.ty) u.sections);
        flows = λ given u here. step_flows whole main local_size rank f sorted deep given (Int, 1) type (types.scalar_constant Int (length_of a.ty)) u plain (fixed_comes given (length_of a.ty) u.sections);
      }
      by false e = other e

  -- ---- equality of arrays and structs

  have_leaves : (given : List ℕ) (type other room x y : ℕ) (leaves : List Leaf) → room < most_indexes → AllByRecursion (GivesLeaf whole main local_size rank f type room) leaves → AllByRecursion (GivesLeaf whole main local_size rank f other room) leaves → IsOf whole main local_size rank f given type x
      → IsOf whole main local_size rank f given other y → HaveLeaves whole main local_size rank f given x y leaves
  have_leaves given type other room x y [] few a b v w = tt
  have_leaves given type other room x y (one ∷ leaves) few a b v w = (
    record { first = leaf_of_value whole main local_size rank f sorted given type room x one few v a.0; second = leaf_of_value whole main local_size rank f sorted given other room y one few w b.0 },
    have_leaves given type other room x y leaves few a.1 b.1 v w,
  )

  pub equality_evaluates : (s : Flow) (asks more : List ℕ) (deep room : ℕ) (one_splits : Bool) (type second_type other : ℕ) (structs : List StructType) (which : BinaryOp) (a b : Lower) → shape_of a.ty ≡ None → Equates which → room < most_indexes → IsTypeFor whole main local_size rank f s.place a.ty type
      → IsPlain whole main local_size rank f flag other → AllByRecursion (GivesLeaf whole main local_size rank f type room) (leaves_of structs a.ty) → AllByRecursion (GivesLeaf whole main local_size rank f second_type room) (leaves_of structs a.ty) → E s asks deep one_splits type a.value
      → E s more deep b.traits.splits second_type b.value → E s (asks ++ (asked_if b.traits.splits type ++ more)) deep (one_splits || b.traits.splits) other (parts.binary structs which a b)
  equality_evaluates s asks more deep room one_splits type second_type other structs which a b composite equates few same plain left right first_value second_value =
      two_evaluate whole main local_size rank f sorted s asks more deep one_splits b.traits.splits a.ty type second_type other flag a.value b.value (λ x y. binary_of structs which a.ty b.ty x y) first_value second_value same plain
      (λ x y s. subst (λ o. Sorts s (binary_by structs which a.ty b.ty x y o s)) (sym composite) (equality_sorts which x y (leaves_of structs a.ty) s))
      (λ given x y s v w. subst (λ o. Comes whole main local_size rank f given (GivesValue whole main local_size rank f flag) s (binary_by structs which a.ty b.ty x y o s)) (sym composite)
      (equality_comes whole main local_size rank f sorted given which x y (leaves_of structs a.ty) s equates (have_leaves given type second_type room x y (leaves_of structs a.ty) few left right v w)))
