-- The numbers of a unit among units without fault: what they name is what the old ones named.
use Rattle.std.proofs.Common.{◌≡◌, refl, sym, ap, ◌∙◌, subst, ℕ, zero, suc, ◌+◌, ◌≤◌, inl, inr, not, bytes_eq, List, [], ◌∷◌, ◌++◌, map, length, slice_get, Some, None, arith}
use Rattle.std.specs.Prelude.{filter}
use Rattle.std.specs.List.{AllByRecursion}
use Rattle.std.proofs.lemmas.Bool.{not-false}
use Rattle.std.proofs.lemmas.Option.{none-some, same_Some}
use Rattle.gsl_base.specs.declared.fault.Place.{Place}
use Rattle.gsl_base.specs.declared.stage.Stage.{Stage}
use Rattle.gsl_base.specs.declared.stage.Stage.TheVariants.{Vertex, Fragment, Compute}
use Rattle.gsl_types.specs.Known.{AreStructs, IsSound}
use Rattle.gsl_types.specs.declared.ty.Direction.{Direction}
use Rattle.gsl_types.specs.declared.ty.StructType.{StructType}
use Rattle.gsl_types.specs.declared.ty.Ty.{Ty}
use Rattle.gsl_tree.specs.declared.unit.BlockKind.{BlockKind}
use Rattle.gsl_tree.specs.declared.unit.BlockMember.{BlockMember}
use Rattle.gsl_tree.specs.declared.unit.Function.{Function}
use Rattle.gsl_tree.specs.declared.unit.LocalSize.{LocalSize}
use Rattle.gsl_tree.specs.declared.unit.TypedUnit.{TypedUnit}
use Rattle.gsl_tree.specs.Statements.{IsBody, most_deep}
use Rattle.gsl_tree.specs.WellTyped.{Lists, unit_lists, program_lists, around_body, IsVariableType, IsBlock, AreBlockMembers, IsInterface, IsPrototype, IsFunction, IsUnit}
use Rattle.gsl_link_units.specs.Types.{retyped}
use Rattle.gsl_link_units.specs.Structs.{joined_structs, struct_numbers}
use Rattle.gsl_link_units.specs.Declarations.{Side, side_of, sides_by, sides_of, retyped_global, retyped_block, retyped_interface, retyped_prototype, retyped_param}
use Rattle.gsl_link_whole.specs.Numbers.{Numbering, numbering}
use Rattle.gsl_link_whole.specs.Renumbering.{renumbered_function, renumbered_stmt}
use Rattle.gsl_link_whole.specs.Whole.{all_sizes, first_size, local_size, from_each, functions_of, joined_functions, whole}
use Rattle.gsl_link.specs.Rows.{disagreement, size_disagreement, size_fault}
use Rattle.gsl_link.specs.Units.{IsNamedOnce}
use Rattle.gsl_link_units.specs.Firsts.{first_place}
use Rattle.gsl_link_law.specs.Placed.{IsPlaced, AllPlaced}
use Rattle.gsl_link_law.specs.Renumbered.{IsRenumbered, HasTypes}
use Rattle.gsl_link_law.proofs.Agreed.{Across, across_from, names_same}
use Rattle.gsl_link_law.proofs.Declared.{variable_placed}
use Rattle.gsl_link_law.proofs.Exprs.{at_mapped}
use Rattle.gsl_link_law.proofs.Joining.{in_flat, mapped_from, block_stands, interface_stands, head_stands, block_from, interface_from, head_from}
use Rattle.gsl_link_law.proofs.Members.{In, in_get, all_in, filter_none}
use Rattle.gsl_link_law.proofs.Stmts.{body_new, body_deep}
use Rattle.gsl_link_law.proofs.Structs.{joined_structs_are, all_placed}
use Rattle.gsl_link_law.proofs.Typed.{known_units}
use Rattle.gsl_link_law.proofs.Variables.{variable_stands}

-- Units that are well typed, whose declarations agree, within each and across them, and so do their local sizes.
pub record AreAgreed (stage : Stage) (units : List TypedUnit) : Type 0 where
  pub typed : AllByRecursion (IsUnit stage) units
  pub named : AllByRecursion IsNamedOnce (sides_of units)
  pub agreed : disagreement (joined_structs units) (sides_of units) ≡ None
  pub sizes : size_disagreement stage (all_sizes units) ≡ None

-- ---- each side is a unit's

-- a side is that of a unit
pub record IsOfUnit (stage : Stage) (units : List TypedUnit) (side : Side) : Type 0 where
  pub numbers : List ℕ
  pub unit : TypedUnit
  pub is : side ≡ side_of numbers unit
  pub placed : IsPlaced (joined_structs units) numbers unit
  pub typed : IsUnit stage unit
  pub member : In unit units

side_from : (stage : Stage) (all units : List TypedUnit) (numbers : List (List ℕ)) → ((unit : TypedUnit) → In unit units → In unit all) → AllByRecursion (IsUnit stage) units
    → AllPlaced (joined_structs all) numbers units → (j : ℕ) (side : Side) → slice_get (sides_by numbers units) j ≡ Some side → IsOfUnit stage all side
side_from stage all [] [] among typed placed j side at = elim (none-some side at) [ ]
side_from stage all (unit ∷ units) [] among typed placed j side at = elim placed [ ]
side_from stage all [] (ns ∷ numbers) among typed placed j side at = elim placed [ ]
side_from stage all (unit ∷ units) (ns ∷ numbers) among typed placed zero side at = record {
  numbers = ns;
  unit = unit;
  is = sym (same_Some (side_of ns unit) side at);
  placed = placed.0;
  typed = typed.0;
  member = among unit (inl refl);
}
side_from stage all (unit ∷ units) (ns ∷ numbers) among typed placed (suc j) side at = side_from stage all units numbers (λ u is. among u (inr is)) typed.1 placed.1 j side at

pub side_is : (stage : Stage) (units : List TypedUnit) → AllByRecursion (IsUnit stage) units → (j : ℕ) (side : Side) → slice_get (sides_of units) j ≡ Some side → IsOfUnit stage units side
side_is stage units typed j side at = side_from stage units units (struct_numbers units) (λ u is. is) typed (all_placed units (known_units stage units typed)) j side at

-- ---- sizes

no_first : (places : List Place) → first_place places ≡ None → places ≡ []
no_first [] is = refl
no_first (place ∷ places) is = cc

none_mapped : {A B : Type 0} (f : A → B) (xs : List A) → map f xs ≡ [] → xs ≡ []
none_mapped f [] is = refl
none_mapped f (x ∷ xs) is = cc

-- all sizes are the first one
pub sizes_same : (sizes : List LocalSize) → size_fault sizes ≡ None → (size : LocalSize) → In size sizes → first_size sizes ≡ size.parts
sizes_same [] none size at = elim at [ ]
sizes_same (first ∷ sizes) none size (inl at) = ap (λ (s : LocalSize). s.parts) at
sizes_same (first ∷ sizes) none size (inr at) =
    let test = λ (other : LocalSize). not (bytes_eq other.parts first.parts) in
    let empty = none_mapped (λ (other : LocalSize). other.place) (filter test sizes) (no_first (map (λ (other : LocalSize). other.place) (filter test sizes)) none) in
    sym (names_same size.parts first.parts (not-false _ (filter_none test sizes empty size at)))

-- ---- the numbers of one unit

member_at : (structs : List StructType) (kind : BlockKind) (members : List BlockMember) → AreBlockMembers structs kind members → (k : ℕ) (m : BlockMember) → slice_get members k ≡ Some m → IsSound (length structs) m.ty
member_at structs kind [] all k m at = elim (none-some m at) [ ]
member_at structs kind (x ∷ []) all zero m at = subst (λ (w : BlockMember). IsSound (length structs) w.ty) (same_Some x m at) all.known
member_at structs kind (x ∷ []) all (suc k) m at = elim (none-some m at) [ ]
member_at structs kind (x ∷ y ∷ members) all zero m at = subst (λ (w : BlockMember). IsSound (length structs) w.ty) (same_Some x m at) all.0.known
member_at structs kind (x ∷ y ∷ members) all (suc k) m at = member_at structs kind (y ∷ members) all.1 k m at

module _ (stage : Stage) (units : List TypedUnit) (facts : AreAgreed stage units) where
  abbrev sides : List Side
  sides = sides_of units

  abbrev joined : List StructType
  joined = joined_structs units

  abbrev program : Lists
  program = program_lists (whole stage units)

  pub structs_known : AreStructs joined
  structs_known = joined_structs_are units (known_units stage units facts.typed)

  across : Across joined sides
  across = across_from joined sides facts.agreed

  module _ (j : ℕ) (numbers : List ℕ) (unit : TypedUnit) (at : slice_get sides j ≡ Some (side_of numbers unit)) (placed : IsPlaced joined numbers unit) (typed : IsUnit stage unit) (member : In unit units) where
    abbrev n : Numbering
    n = numbering sides j (side_of numbers unit)

    abbrev old : Lists
    old = unit_lists stage unit

    size_stands : stage ≡ Compute → (k : ℕ) (size : List ℕ) → slice_get old.sizes k ≡ Some size → (i : ℕ) × (slice_get program.sizes i ≡ Some size)
    size_stands compute k size there =
        let found = mapped_from (λ (s : LocalSize). s.parts) unit.local_sizes k size there in
        let among = in_flat (λ (u : TypedUnit). u.local_sizes) units unit found.0 member (in_get unit.local_sizes k found.0 found.1.0) in
        by_stage stage compute facts.sizes found.0 among found.1.1
      where
        by_stage : (s : Stage) → s ≡ Compute → size_disagreement s (all_sizes units) ≡ None → (found : LocalSize) → In found (all_sizes units) → found.parts ≡ size → (i : ℕ) × (slice_get (local_size s (all_sizes units) ∷ []) i ≡ Some size)
        by_stage Vertex is none found among same = let never : ⊥ = cc in elim never [ ]
        by_stage Fragment is none found among same = let never : ⊥ = cc in elim never [ ]
        by_stage Compute is none found among same = (0, ap Some (sizes_same (all_sizes units) none found among ∙ same))

    -- what the unit's numbers name in a function
    pub renumbered : (params : List (Direction × Ty)) (locals : List Ty)
        → IsRenumbered n (around_body old params locals) (around_body program (map (retyped_param numbers) params) (map (retyped numbers) locals))
    renumbered params locals = record {
      stage = refl;
      own = typed.typed.structs;
      known = structs_known;
      count = placed.count;
      structs = placed.placed;
      globals = λ k g there.
          let s = variable_stands joined sides facts.named across j (side_of numbers unit) at k (retyped_global numbers g) (at_mapped (retyped_global numbers) unit.globals k g there) in
          (s.0, s.1, s.2, record { type = s.3.type; constant = s.3.constant; known = s.3.known });
      blocks = λ k block there.
          let s = block_stands joined sides facts.named across (side_of numbers unit) (in_get sides j (side_of numbers unit) at) k (retyped_block numbers block) (at_mapped (retyped_block numbers) unit.blocks k block there) in
          (s.0, s.1, s.2, block_from numbers block s.1 s.3);
      interfaces = λ k i there.
          let s = interface_stands joined sides facts.named across (side_of numbers unit) (in_get sides j (side_of numbers unit) at) k (retyped_interface numbers i) (at_mapped (retyped_interface numbers) unit.interfaces k i there) in
          (s.0, s.1, s.2, interface_from numbers i s.1 s.3);
      prototypes = λ k p there.
          let s = head_stands joined sides facts.named across (side_of numbers unit) (in_get sides j (side_of numbers unit) at) k (retyped_prototype numbers p) (at_mapped (retyped_prototype numbers) unit.prototypes k p there) in
          (s.0, s.1, s.2, head_from numbers p s.1 s.3);
      sizes = size_stands;
      params = refl;
      locals = refl;
    }

    -- the types of what the unit declares
    pub has_types : (params : List (Direction × Ty)) (locals : List Ty) → AllByRecursion (λ (param : Direction × Ty). IsVariableType unit.structs param.1) params
        → AllByRecursion (IsVariableType unit.structs) locals → HasTypes (around_body old params locals)
    has_types params locals all_params all_locals = record {
      globals = λ k g there. (typed.typed.globals k g there).type.known;
      blocks = λ k block there i m is. member_at unit.structs block.kind block.members (all_in (IsBlock unit.structs) unit.blocks typed.typed.blocks block (in_get unit.blocks k block there)).members i m is;
      interfaces = λ k i there. (all_in (IsInterface stage unit.structs) unit.interfaces typed.typed.interfaces i (in_get unit.interfaces k i there)).known;
      prototypes = λ k p there. (all_in (IsPrototype unit.structs) unit.prototypes typed.typed.prototypes p (in_get unit.prototypes k p there)).result;
      params = λ k param there. (all_in (λ (q : Direction × Ty). IsVariableType unit.structs q.1) params all_params param (in_get params k param there)).known;
      locals = λ k t there. (all_in (IsVariableType unit.structs) locals all_locals t (in_get locals k t there)).known;
    }

    -- the type of a variable
    pub variable_new : (t : Ty) → IsVariableType unit.structs t → IsVariableType joined (retyped numbers t)
    variable_new t is =
        variable_placed unit.structs joined numbers (let count = placed.count in omega (arith, count)) typed.typed.structs structs_known placed.placed t
        (subst (λ k. IsSound k t) (sym placed.count) is.known) is

    pub variables_new : (ts : List Ty) → AllByRecursion (IsVariableType unit.structs) ts → AllByRecursion (IsVariableType joined) (map (retyped numbers) ts)
    variables_new [] all = tt
    variables_new (t ∷ ts) all = (variable_new t all.0, variables_new ts all.1)

    -- a function by the new numbers is well typed
    pub function_new : (f : Function) → IsFunction old f → IsFunction program (renumbered_function n f)
    function_new f is =
        let params = is.prototype.params in
        let declared = (all_in (IsPrototype unit.structs) unit.prototypes typed.typed.prototypes is.prototype (in_get unit.prototypes f.prototype is.prototype is.declared)) in
        let around = renumbered params f.locals in
        let types = has_types params f.locals declared.params is.locals in
        let head = around.prototypes f.prototype is.prototype is.declared in
        let few = around_body old params f.locals in
        let many = around_body program (map (retyped_param numbers) params) (map (retyped numbers) f.locals) in
        record {
          prototype = head.1;
          declared = head.2;
          locals = variables_new f.locals is.locals;
          body = subst (λ ps. IsBody (around_body program ps (map (retyped numbers) f.locals)) head.1.result (map (renumbered_stmt n) f.body)) (sym head.3.params)
              (subst (λ t. IsBody many t (map (renumbered_stmt n) f.body)) (sym head.3.result) (body_new n few many around types is.prototype.result f.body is.body));
          depth = subst (λ d. d ≤ most_deep) (sym (body_deep n few many around types is.prototype.result f.body is.body)) is.depth;
        }

    functions_new : (fs : List Function) → AllByRecursion (IsFunction old) fs → AllByRecursion (IsFunction program) (map (renumbered_function n) fs)
    functions_new [] all = tt
    functions_new (f ∷ fs) all = (function_new f all.0, functions_new fs all.1)

    pub unit_functions : AllByRecursion (IsFunction program) (functions_of sides j (side_of numbers unit))
    unit_functions = functions_new unit.functions typed.typed.functions

  -- ---- the functions of all units

  all_append : {A : Type 0} (P : A → Type 0) (xs ys : List A) → AllByRecursion P xs → AllByRecursion P ys → AllByRecursion P (xs ++ ys)
  all_append P [] ys first second = second
  all_append P (x ∷ xs) ys first second = (first.0, all_append P xs ys first.1 second)

  each_from : {A : Type 0} (P : A → Type 0) (part : ℕ → Side → List A) (unit : ℕ) (rest : List Side)
      → ((j : ℕ) (side : Side) → slice_get rest j ≡ Some side → AllByRecursion P (part (unit + j) side)) → AllByRecursion P (from_each part unit rest)
  each_from P part unit [] each = tt
  each_from P part unit (side ∷ rest) each =
      all_append P (part unit side) (from_each part (unit + 1) rest) (subst (λ u. AllByRecursion P (part u side)) (let same : unit + 0 ≡ unit = omega arith in same) (each 0 side refl))
      (each_from P part (unit + 1) rest (λ j other at. subst (λ u. AllByRecursion P (part u other)) (let same : unit + suc j ≡ (unit + 1) + j = omega arith in same) (each (suc j) other at)))

  side_functions : (j : ℕ) (side : Side) → slice_get sides j ≡ Some side → AllByRecursion (IsFunction program) (functions_of sides j side)
  side_functions j side at =
      let is = side_is stage units facts.typed j side at in
      subst (λ s. AllByRecursion (IsFunction program) (functions_of sides j s)) (sym is.is) (unit_functions j is.numbers is.unit (at ∙ ap Some is.is) is.placed is.typed is.member)

  -- the functions of the program are well typed
  pub functions_typed : AllByRecursion (IsFunction program) (joined_functions sides)
  functions_typed = each_from (IsFunction program) (functions_of sides) 0 sides (λ j side at. subst (λ u. AllByRecursion (IsFunction program) (functions_of sides u side)) (let same : j ≡ 0 + j = omega arith in same) (side_functions j side at))
