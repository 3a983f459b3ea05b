-- Units that the checker answers may be linked.
use Rattle.std.proofs.Common.{◌≡◌, refl, sym, ap, ◌∙◌, subst, ℕ, ◌≤◌, Bool, true, false, not, IsTrue, List, [], ◌∷◌, length, map, slice_get, Option, Some, None, Ok, arith}
use Rattle.std.specs.Prelude.{filter}
use Rattle.std.specs.List.{AllByRecursion}
use Rattle.std.specs.Str.{bytes_eq}
use Rattle.std.proofs.lemmas.Bool.{and_from, and_parts, true≢false}
use Rattle.std.proofs.lemmas.Option.{slice_get_within}
use Rattle.gsl_base.specs.declared.stage.Stage.{Stage}
use Rattle.gsl_syntax.specs.declared.statement.Global.{Global}
use Rattle.gsl_types.specs.declared.ty.Direction.{Direction}
use Rattle.gsl_types.specs.declared.ty.StructType.{StructType}
use Rattle.gsl_types.specs.declared.ty.Ty.{Ty}
use Rattle.gsl_names.specs.Scopes.{Scope}
use Rattle.gsl_overload.specs.Identity.{identical}
use Rattle.gsl_overload.proofs.Same.{same_itself}
use Rattle.gsl_tree.specs.declared.program.Program.{Program}
use Rattle.gsl_tree.specs.declared.unit.Prototype.{Prototype}
use Rattle.gsl_tree.specs.declared.unit.TypedUnit.{TypedUnit}
use Rattle.gsl_tree.specs.WellTyped.{IsUnit}
use Rattle.gsl_check_heads.specs.Heads.{same_types}
use Rattle.gsl_check.specs.Units.{checked}
use Rattle.gsl_formed.specs.Formed.{IsParsed}
use Rattle.gsl_check_law.proofs.Wholes.{checked_is}
use Rattle.gsl_link_units.specs.Agreement.{agree_functions, same_function, same_params}
use Rattle.gsl_link_units.specs.Declarations.{is_shared, retyped_block, retyped_global, retyped_interface, retyped_param, retyped_prototype, side_of, sides_by}
use Rattle.gsl_link_units.specs.Structs.{joined_structs, struct_numbers}
use Rattle.gsl_link_units.specs.Types.{new_number, retyped, same_type}
use Rattle.gsl_link_whole.specs.Numbers.{same_block, same_interface, same_shared}
use Rattle.gsl_link.specs.Joined.{IsLinked, joined}
use Rattle.gsl_link.specs.Units.{AreUnits, IsNamedOnce, is_other_head, most_units}
use Rattle.gsl_link_law.specs.Placed.{AllPlaced, IsPlaced}
use Rattle.gsl_link_law.proofs.Agreed.{names_swap}
use Rattle.gsl_link_law.proofs.Same.{type_is, type_itself}
use Rattle.gsl_link_law.proofs.Structs.{all_placed}
use Rattle.gsl_link_law.proofs.Typed.{known_units}
use Rattle.gsl_link_alone.proofs.Faultless.{joined_linked}
use Rattle.gsl_link_alone.proofs.Unlike.{Unlike, again_unlike, falls}
use Rattle.gsl_link_checked.specs.Answers.{AreAnswers, DeclaresOnce}
use Rattle.gsl_link_checked.proofs.Named.{AreParams, Names, same_head}
use Rattle.gsl_link_checked.proofs.Over.{retyped_one}
use Rattle.gsl_link_checked.proofs.Standing.{one_struct, stands, struct_there}
use Rattle.gsl_link_checked.proofs.Unlikes.{all_any, unlike_each, unlike_other, unlike_passing}
use Rattle.gsl_link_checked.proofs.Wholes.{UnitNamed, checked_named}

-- ---- in a unit

types_same : (a b : List (Direction × Ty)) → same_params a b ≡ true → same_types b a ≡ true
types_same [] [] is = refl
types_same [] (y ∷ b) is = is
types_same (x ∷ a) [] is = is
types_same (x ∷ a) (y ∷ b) is =
    let parts = and_parts (same_type x.1 y.1) (same_params a b) is in
    and_from (identical y.1 x.1) (same_types b a) (subst (λ (t : Ty). IsTrue (identical t x.1)) (type_is x.1 y.1 parts.0) (same_itself x.1)) (types_same a b parts.1)

-- heads that the checker keeps apart are those of two functions
function_apart : (a b : Prototype) → same_head a b ≡ false → same_function a b ≡ false
function_apart a b apart = falls (same_function a b) (λ is.
    let parts = and_parts (bytes_eq a.name b.name) (same_params a.params b.params) is in
    let names = names_swap a.name b.name parts.0 in
    true≢false (sym (and_from (bytes_eq b.name a.name) (same_types b.params a.params) names (types_same a.params b.params parts.1)) ∙ apart))

functions_apart : (heads : List Prototype) → Unlike same_head heads → Unlike same_function heads
functions_apart heads unlike = unlike_other same_head same_function function_apart heads unlike

once_in : (unit : TypedUnit) → UnitNamed unit → DeclaresOnce unit
once_in unit named = record {
  variables = again_unlike same_shared (filter is_shared unit.globals) (unlike_passing same_shared is_shared unit.globals named.1.globals_apart);
  blocks = again_unlike same_block unit.blocks named.1.blocks_apart;
  interfaces = again_unlike same_interface unit.interfaces named.1.interfaces_apart;
  heads = again_unlike same_function unit.prototypes (functions_apart unit.prototypes named.1.heads_apart);
}

pub declares_once : (stage : Stage) (tree : List Global) (unit : TypedUnit) → IsParsed tree → checked stage tree ≡ Ok unit → DeclaresOnce unit
declares_once stage tree unit parsed is = once_in unit (checked_named stage tree unit parsed is)

-- ---- by new numbers

module _ (known : List StructType) (numbers : List ℕ) (unit : TypedUnit) (placed : IsPlaced known numbers unit) (scope : Scope) (names : Names unit.structs scope unit.globals unit.blocks unit.interfaces unit.prototypes) where
  abbrev test : ℕ → Bool
  test = stands scope

  named_at : (k : ℕ) (s t : StructType) → slice_get unit.structs k ≡ Some s → slice_get known (new_number numbers k) ≡ Some t → t.name ≡ s.name
  named_at k s t here there =
      let within = slice_get_within unit.structs k s here in
      let count = placed.count in
      let at = placed.placed k s (omega (arith, within, count)) here in
      ap (λ (o : Option StructType). name_of o t) (sym there ∙ at.there) ∙ at.name
    where
      name_of : Option StructType → StructType → List ℕ
      name_of None other = other.name
      name_of (Some u) other = u.name

  -- structs that stand in the scope have two names, and so two new numbers
  numbers_apart : (k l : ℕ) → test k ≡ true → test l ≡ true → new_number numbers k ≡ new_number numbers l → k ≡ l
  numbers_apart k l first second same =
      let s = struct_there unit.structs scope names.rows k first in
      let t = struct_there unit.structs scope names.rows l second in
      let within = slice_get_within unit.structs k s.0 s.1 in
      let count = placed.count in
      let at = placed.placed k s.0 (omega (arith, within, count)) s.1 in
      one_struct unit.structs scope names.rows k l s.0 t.0 first second s.1 t.1
      (sym at.name ∙ named_at l t.0 at.struct t.1 (ap (slice_get known) (sym same) ∙ at.there))

  params_back : (a b : List (Direction × Ty)) → AreParams scope a → AreParams scope b → same_params (map (retyped_param numbers) a) (map (retyped_param numbers) b) ≡ true → same_params a b ≡ true
  params_back [] [] first second is = refl
  params_back [] (y ∷ b) first second is = is
  params_back (x ∷ a) [] first second is = is
  params_back (x ∷ a) (y ∷ b) first second is =
      let parts = and_parts (same_type (retyped numbers x.1) (retyped numbers y.1)) (same_params (map (retyped_param numbers) a) (map (retyped_param numbers) b)) is in
      let same = retyped_one numbers test numbers_apart x.1 y.1 first.0 second.0 (type_is (retyped numbers x.1) (retyped numbers y.1) parts.0) in
      and_from (same_type x.1 y.1) (same_params a b) (subst (λ (t : Ty). same_type x.1 t ≡ true) same (type_itself x.1)) (params_back a b first.1 second.1 parts.1)

  heads_back : (a b : Prototype) → AreParams scope a.params → AreParams scope b.params → same_function a b ≡ false → is_other_head (retyped_prototype numbers a) (retyped_prototype numbers b) ≡ false
  heads_back a b first second apart =
      let c = retyped_prototype numbers a in
      let d = retyped_prototype numbers b in
      falls (is_other_head c d) (λ is.
      let one = (and_parts (same_function c d) (not (agree_functions c d)) is).0 in
      let parts = and_parts (bytes_eq a.name b.name) (same_params c.params d.params) one in
      true≢false (sym (and_from (bytes_eq a.name b.name) (same_params a.params b.params) parts.0 (params_back a.params b.params first second parts.1)) ∙ apart))

  -- so names stay names of their own by new numbers
  pub side_named : IsNamedOnce (side_of numbers unit)
  side_named = record {
    variables = again_unlike same_shared (filter is_shared (map (retyped_global numbers) unit.globals)) (unlike_passing same_shared is_shared (map (retyped_global numbers) unit.globals)
        (unlike_each (retyped_global numbers) (λ _. Unit {0}) same_shared same_shared (λ x y _ _ is. is) unit.globals (all_any unit.globals) names.globals_apart));
    blocks = again_unlike same_block (map (retyped_block numbers) unit.blocks) (unlike_each (retyped_block numbers) (λ _. Unit {0}) same_block same_block (λ x y _ _ is. is) unit.blocks (all_any unit.blocks) names.blocks_apart);
    interfaces = again_unlike same_interface (map (retyped_interface numbers) unit.interfaces)
        (unlike_each (retyped_interface numbers) (λ _. Unit {0}) same_interface same_interface (λ x y _ _ is. is) unit.interfaces (all_any unit.interfaces) names.interfaces_apart);
    heads = again_unlike is_other_head (map (retyped_prototype numbers) unit.prototypes)
        (unlike_each (retyped_prototype numbers) (λ (p : Prototype). AreParams scope p.params) same_function is_other_head heads_back unit.prototypes names.heads_there
        (functions_apart unit.prototypes names.heads_apart));
  }

-- ---- all units

sides_named : (known : List StructType) (numbers : List (List ℕ)) (units : List TypedUnit) → AllPlaced known numbers units → AllByRecursion UnitNamed units → AllByRecursion IsNamedOnce (sides_by numbers units)
sides_named known [] [] placed all = tt
sides_named known [] (unit ∷ units) placed all = elim placed [ ]
sides_named known (ns ∷ numbers) [] placed all = elim placed [ ]
sides_named known (ns ∷ numbers) (unit ∷ units) placed all = (side_named known ns unit placed.0 all.0.0 all.0.1, sides_named known numbers units placed.1 all.1)

all_typed : (stage : Stage) (trees : List (List Global)) (units : List TypedUnit) → AreAnswers stage trees units → AllByRecursion (IsUnit stage) units
all_typed stage [] [] answers = tt
all_typed stage [] (unit ∷ units) answers = elim answers [ ]
all_typed stage (tree ∷ trees) [] answers = elim answers [ ]
all_typed stage (tree ∷ trees) (unit ∷ units) answers = (checked_is stage tree unit answers.0 answers.1, all_typed stage trees units answers.2)

units_named : (stage : Stage) (trees : List (List Global)) (units : List TypedUnit) → AreAnswers stage trees units → AllByRecursion UnitNamed units
units_named stage [] [] answers = tt
units_named stage [] (unit ∷ units) answers = elim answers [ ]
units_named stage (tree ∷ trees) [] answers = elim answers [ ]
units_named stage (tree ∷ trees) (unit ∷ units) answers = (checked_named stage tree unit answers.0 answers.1, units_named stage trees units answers.2)

pub answers_are : (stage : Stage) (trees : List (List Global)) (units : List TypedUnit) → AreAnswers stage trees units → length units ≤ most_units → AreUnits stage units
answers_are stage trees units answers few =
    let typed = all_typed stage trees units answers in
    record {
      few = few;
      typed = typed;
      named = sides_named (joined_structs units) (struct_numbers units) units (all_placed units (known_units stage units typed)) (units_named stage trees units answers);
    }

pub answers_linked : (stage : Stage) (trees : List (List Global)) (units : List TypedUnit) (p : Program) → AreAnswers stage trees units → length units ≤ most_units → joined stage units ≡ Ok p → IsLinked p
answers_linked stage trees units p answers few is = joined_linked stage units p (answers_are stage trees units answers few) is
