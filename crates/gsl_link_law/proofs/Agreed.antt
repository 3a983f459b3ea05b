-- Declarations of one thing look alike, where units have no fault.
use Rattle.std.proofs.Common.{◌≡◌, refl, sym, ap, ◌∙◌, subst, ℕ, ◌⊎◌, inl, inr, Bool, true, false, not, ◌&&◌, ◌||◌, bytes_eq, List, [], ◌∷◌, ◌++◌, map, None}
use Rattle.std.specs.Prelude.{filter, if◌then◌else◌}
use Rattle.std.specs.List.{AllByRecursion, list_any}
use Rattle.std.proofs.lemmas.Bool.{and_parts, and_from, true≢false}
use Rattle.std.proofs.lemmas.Slice.Eq.{bytes_eq-Decides}
use Rattle.gsl_base.specs.declared.fault.Place.{Place}
use Rattle.gsl_types.specs.declared.ty.Direction.{Direction}
use Rattle.gsl_types.specs.declared.ty.Direction.TheVariants.{In as GoesIn, Out, InOut}
use Rattle.gsl_types.specs.declared.ty.StructType.{StructType}
use Rattle.gsl_types.specs.declared.ty.Ty.{Ty}
use Rattle.gsl_tree.specs.declared.unit.Block.{Block}
use Rattle.gsl_tree.specs.declared.unit.BlockKind.{BlockKind}
use Rattle.gsl_tree.specs.declared.unit.BlockKind.TheVariants.{Uniform, Buffer, Push}
use Rattle.gsl_tree.specs.declared.unit.BlockMember.{BlockMember}
use Rattle.gsl_tree.specs.declared.unit.GlobalVar.{GlobalVar}
use Rattle.gsl_tree.specs.declared.unit.Interface.{Interface}
use Rattle.gsl_tree.specs.declared.unit.Prototype.{Prototype}
use Rattle.gsl_link_units.specs.Types.{same_type}
use Rattle.gsl_link_units.specs.Firsts.{earliest}
use Rattle.gsl_link_units.specs.Declarations.{Declaration, OfVariable, OfInterface, OfBlock, OfFunction, Side, declarations, declared_at, is_shared}
use Rattle.gsl_link_units.specs.Agreement.{both_or_neither, same_initial, agree_variables, agree_interfaces, same_direction, same_params, same_directions, same_function, agree_functions, same_kind, same_qualifiers, agree_member, agree_members, agree_blocks, is_against, is_against_any}
use Rattle.gsl_link_whole.specs.Numbers.{same_block, same_interface, same_shared}
use Rattle.gsl_link_names.specs.Earlier.{against_earlier}
use Rattle.gsl_link.specs.Rows.{disagreement}
use Rattle.gsl_link.specs.Units.{is_other_head, IsNamedOnce}
use Rattle.gsl_link_law.proofs.Same.{type_is, type_itself}
use Rattle.gsl_link_law.proofs.Members.{In, in_front, in_behind, in_map, any_in, filter_none, apart_behind}

-- ---- what declarations of one thing have in common

abbrev pub member_looks : BlockMember → Ty × (Bool × Bool)
member_looks m = (m.ty, (m.readonly, m.writeonly))

abbrev pub block_looks : Block → BlockKind × List (Ty × (Bool × Bool))
block_looks block = (block.kind, map member_looks block.members)

abbrev pub interface_looks : Interface → Ty × Bool
interface_looks i = (i.ty, i.output)

abbrev pub head_looks : Prototype → Ty × List (Direction × Ty)
head_looks p = (p.result, p.params)

abbrev pub variable_looks : GlobalVar → Ty
variable_looks g = g.ty

both_are : (a b : Bool) → both_or_neither a b ≡ true → a ≡ b
both_are true true is = refl
both_are true false is = sym is
both_are false true is = is
both_are false false is = refl

no : {X : Type 0} → false ≡ true → X
no is = let never : ⊥ = true≢false (sym is) in elim never [ ]

kind_is : (a b : BlockKind) → same_kind a b ≡ true → a ≡ b
kind_is Uniform Uniform is = refl
kind_is Buffer Buffer is = refl
kind_is Push Push is = refl
kind_is Uniform Buffer is = no is
kind_is Uniform Push is = no is
kind_is Buffer Uniform is = no is
kind_is Buffer Push is = no is
kind_is Push Uniform is = no is
kind_is Push Buffer is = no is

direction_is : (a b : Direction) → same_direction a b ≡ true → a ≡ b
direction_is GoesIn GoesIn is = refl
direction_is Out Out is = refl
direction_is InOut InOut is = refl
direction_is GoesIn Out is = no is
direction_is GoesIn InOut is = no is
direction_is Out GoesIn is = no is
direction_is Out InOut is = no is
direction_is InOut GoesIn is = no is
direction_is InOut Out is = no is

pair_is : {A B : Type 0} (a b : A) (c d : B) → a ≡ b → c ≡ d → ◌≡◌ {A = A × B} (a, c) (b, d)
pair_is a b c d first second = ap (λ x. (x, c)) first ∙ ap (λ y. (b, y)) second

params_are : (a b : List (Direction × Ty)) → same_params a b ≡ true → same_directions a b ≡ true → a ≡ b
params_are [] [] types ways = refl
params_are [] (b ∷ bs) types ways = no types
params_are (a ∷ others) [] types ways = no types
params_are (a ∷ others) (b ∷ bs) types ways =
    let first = and_parts (same_type a.1 b.1) (same_params others bs) types in
    let second = and_parts (same_direction a.0 b.0) (same_directions others bs) ways in
    ap (λ p. p ∷ others) (pair_is a.0 b.0 a.1 b.1 (direction_is a.0 b.0 second.0) (type_is a.1 b.1 first.0)) ∙ ap (λ l. b ∷ l) (params_are others bs first.1 second.1)

member_look : (a b : BlockMember) → agree_member a b ≡ true → member_looks a ≡ member_looks b
member_look a b is =
    let all = and_parts (bytes_eq a.name b.name && same_type a.ty b.ty) (same_qualifiers a b) is in
    let type = and_parts (bytes_eq a.name b.name) (same_type a.ty b.ty) all.0 in
    let first = and_parts _ _ all.1 in
    let second = and_parts _ _ first.0 in
    let third = and_parts _ _ second.0 in
    let fourth = and_parts (both_or_neither a.readonly b.readonly) (both_or_neither a.writeonly b.writeonly) third.0 in
    pair_is a.ty b.ty (a.readonly, a.writeonly) (b.readonly, b.writeonly) (type_is a.ty b.ty type.1)
    (pair_is a.readonly b.readonly a.writeonly b.writeonly (both_are a.readonly b.readonly fourth.0) (both_are a.writeonly b.writeonly fourth.1))

members_look : (a b : List BlockMember) → agree_members a b ≡ true → map member_looks a ≡ map member_looks b
members_look [] [] is = refl
members_look [] (b ∷ bs) is = no is
members_look (a ∷ others) [] is = no is
members_look (a ∷ others) (b ∷ bs) is =
    let p = and_parts (agree_member a b) (agree_members others bs) is in
    ap (λ m. m ∷ map member_looks others) (member_look a b p.0) ∙ ap (λ l. member_looks b ∷ l) (members_look others bs p.1)

block_look : (structs : List StructType) (a b : Block) → agree_blocks structs a b ≡ true → block_looks a ≡ block_looks b
block_look structs a b is =
    let first = and_parts _ _ is in
    let second = and_parts _ _ first.0 in
    let third = and_parts _ _ second.0 in
    let fourth = and_parts _ _ third.0 in
    let fifth = and_parts _ _ fourth.0 in
    let sixth = and_parts _ _ fifth.0 in
    pair_is a.kind b.kind (map member_looks a.members) (map member_looks b.members) (kind_is a.kind b.kind sixth.0) (members_look a.members b.members second.1)

interface_look : (a b : Interface) → agree_interfaces a b ≡ true → interface_looks a ≡ interface_looks b
interface_look a b is =
    let first = and_parts _ _ is in
    let second = and_parts _ _ first.0 in
    let third = and_parts (same_type a.ty b.ty) (both_or_neither a.output b.output) second.0 in
    pair_is a.ty b.ty a.output b.output (type_is a.ty b.ty third.0) (both_are a.output b.output third.1)

head_look : (a b : Prototype) → same_function a b ≡ true → agree_functions a b ≡ true → head_looks a ≡ head_looks b
head_look a b alike is = by_cases (same_params a.params b.params) (and_parts (bytes_eq a.name b.name) (same_params a.params b.params) alike).1 refl is
  where
    by_cases : (c : Bool) → c ≡ true → same_params a.params b.params ≡ c → (not c || (same_type a.result b.result && same_directions a.params b.params)) ≡ true → head_looks a ≡ head_looks b
    by_cases false e same agrees = no e
    by_cases true e same agrees =
        let p = and_parts (same_type a.result b.result) (same_directions a.params b.params) agrees in
        pair_is a.result b.result a.params b.params (type_is a.result b.result p.0) (params_are a.params b.params same p.1)

variable_look : (a b : GlobalVar) → agree_variables a b ≡ true → variable_looks a ≡ variable_looks b
variable_look a b is = type_is a.ty b.ty (and_parts (same_type a.ty b.ty) (same_initial a.value b.value) is).0

-- ---- names

pub names_same : (a b : List ℕ) → bytes_eq a b ≡ true → a ≡ b
names_same a b is = (bytes_eq-Decides a b).0 is

pub name_itself : (a b : List ℕ) → a ≡ b → bytes_eq a b ≡ true
name_itself a b is = (bytes_eq-Decides a b).1 is

pub names_swap : (a b : List ℕ) → bytes_eq a b ≡ true → bytes_eq b a ≡ true
names_swap a b is = name_itself b a (sym (names_same a b is))

pub names_then : (a b c : List ℕ) → bytes_eq a b ≡ true → bytes_eq b c ≡ true → bytes_eq a c ≡ true
names_then a b c first second = name_itself a c (names_same a b first ∙ names_same b c second)

params_swap : (a b : List (Direction × Ty)) → same_params a b ≡ true → same_params b a ≡ true
params_swap [] [] is = refl
params_swap [] (b ∷ bs) is = no is
params_swap (a ∷ others) [] is = no is
params_swap (a ∷ others) (b ∷ bs) is =
    let p = and_parts (same_type a.1 b.1) (same_params others bs) is in
    and_from (same_type b.1 a.1) (same_params bs others) (ap (same_type b.1) (type_is a.1 b.1 p.0) ∙ type_itself b.1) (params_swap others bs p.1)

params_then : (a b c : List (Direction × Ty)) → same_params a b ≡ true → same_params b c ≡ true → same_params a c ≡ true
params_then [] [] c first second = second
params_then [] (b ∷ bs) c first second = no first
params_then (a ∷ others) [] c first second = no first
params_then (a ∷ others) (b ∷ bs) [] first second = no second
params_then (a ∷ others) (b ∷ bs) (c ∷ cs) first second =
    let p = and_parts (same_type a.1 b.1) (same_params others bs) first in
    let q = and_parts (same_type b.1 c.1) (same_params bs cs) second in
    and_from (same_type a.1 c.1) (same_params others cs) (ap (λ t. same_type t c.1) (type_is a.1 b.1 p.0) ∙ q.0) (params_then others bs cs p.1 q.1)

params_itself : (a : List (Direction × Ty)) → same_params a a ≡ true
params_itself [] = refl
params_itself (a ∷ others) = and_from (same_type a.1 a.1) (same_params others others) (type_itself a.1) (params_itself others)

pub function_itself : (a : Prototype) → same_function a a ≡ true
function_itself a = and_from (bytes_eq a.name a.name) (same_params a.params a.params) (name_itself a.name a.name refl) (params_itself a.params)

pub function_swap : (a b : Prototype) → same_function a b ≡ true → same_function b a ≡ true
function_swap a b is =
    let p = and_parts (bytes_eq a.name b.name) (same_params a.params b.params) is in
    and_from (bytes_eq b.name a.name) (same_params b.params a.params) (names_swap a.name b.name p.0) (params_swap a.params b.params p.1)

pub function_then : (a b c : Prototype) → same_function a b ≡ true → same_function b c ≡ true → same_function a c ≡ true
function_then a b c first second =
    let p = and_parts (bytes_eq a.name b.name) (same_params a.params b.params) first in
    let q = and_parts (bytes_eq b.name c.name) (same_params b.params c.params) second in
    and_from (bytes_eq a.name c.name) (same_params a.params c.params) (names_then a.name b.name c.name p.0 q.0) (params_then a.params b.params c.params p.1 q.1)

-- ---- declarations of different units

-- no declaration is against one of an earlier unit
abbrev pub Across : List StructType → List Side → Type 0
Across structs [] = Unit {0}
Across structs (side ∷ sides) =
    ((t : Side) → In t sides → (d : Declaration) → In d (declarations t) → (e : Declaration) → In e (declarations side) → is_against structs d e ≡ false) × Across structs sides

none_of : {A : Type 0} (p : A → Bool) (xs : List A) (x : A) → In x xs → list_any p xs ≡ false → p x ≡ false
none_of p xs x is none = by_cases (p x) refl
  where
    by_cases : (b : Bool) → p x ≡ b → p x ≡ false
    by_cases true here = let never : ⊥ = true≢false (sym (any_in p xs x is here) ∙ none) in elim never [ ]
    by_cases false here = here

pub both_empty : {A : Type 0} (xs ys : List A) → xs ++ ys ≡ [] → (xs ≡ []) × (ys ≡ [])
both_empty [] ys is = (refl, is)
both_empty (x ∷ xs) ys is = cc

pub none_mapped : {A B : Type 0} (f : A → B) (xs : List A) → map f xs ≡ [] → xs ≡ []
none_mapped f [] is = refl
none_mapped f (x ∷ xs) is = cc

pub no_place : (places : List Place) → earliest places ≡ None → places ≡ []
no_place [] is = refl
no_place (place ∷ places) is = cc

none_earlier : (structs : List StructType) (earlier : List Declaration) (sides : List Side) → against_earlier structs earlier sides ≡ []
    → (t : Side) → In t sides → (d : Declaration) → In d (declarations t) → (e : Declaration) → In e earlier → is_against structs d e ≡ false
none_earlier structs earlier [] none t at d stands e before = elim at [ ]
none_earlier structs earlier (side ∷ sides) none t (inl at) d stands e before =
    let empty = both_empty (filter (is_against_any structs earlier) (declarations side)) (against_earlier structs (earlier ++ declarations side) sides) none in
    none_of (is_against structs d) earlier e before (filter_none (is_against_any structs earlier) (declarations side) empty.0 d (subst (λ w. In d (declarations w)) (sym at) stands))
none_earlier structs earlier (side ∷ sides) none t (inr at) d stands e before =
    let empty = both_empty (filter (is_against_any structs earlier) (declarations side)) (against_earlier structs (earlier ++ declarations side) sides) none in
    none_earlier structs (earlier ++ declarations side) sides empty.1 t at d stands e (in_front e earlier (declarations side) before)

across_behind : (structs : List StructType) (earlier : List Declaration) (sides : List Side) → against_earlier structs earlier sides ≡ [] → Across structs sides
across_behind structs earlier [] none = tt
across_behind structs earlier (side ∷ sides) none =
    let empty = both_empty (filter (is_against_any structs earlier) (declarations side)) (against_earlier structs (earlier ++ declarations side) sides) none in (
      (λ t at d stands e before. none_earlier structs (earlier ++ declarations side) sides empty.1 t at d stands e (in_behind e earlier (declarations side) before)),
      across_behind structs (earlier ++ declarations side) sides empty.1,
    )

pub across_from : (structs : List StructType) (sides : List Side) → disagreement structs sides ≡ None → Across structs sides
across_from structs sides none = across_behind structs [] sides (none_mapped declared_at (against_earlier structs [] sides) (no_place (map declared_at (against_earlier structs [] sides)) none))

-- ---- of two that are alike

module _ {A L : Type 0} (part : Side → List A) (embed : A → Declaration) (alike : A → A → Bool) (looks : A → L)
    (embedded : (s : Side) (x : A) → In x (part s) → In (embed x) (declarations s)) (swap : (x y : A) → alike x y ≡ true → alike y x ≡ true)
    (agreed : (structs : List StructType) (x y : A) → alike x y ≡ true → is_against structs (embed x) (embed y) ≡ false → looks x ≡ looks y)
    (Once : Side → Type 0) (alone : (s : Side) → Once s → (x y : A) → In x (part s) → In y (part s) → alike x y ≡ true → looks x ≡ looks y) where
  pub look_alike : (structs : List StructType) (sides : List Side) → AllByRecursion Once sides → Across structs sides
      → (s t : Side) → In s sides → In t sides → (x y : A) → In x (part s) → In y (part t) → alike x y ≡ true → looks x ≡ looks y
  look_alike structs [] once across s t first second x y at_x at_y same = elim first [ ]
  look_alike structs (side ∷ sides) once across s t (inl first) (inl second) x y at_x at_y same =
      alone side once.0 x y (subst (λ w. In x (part w)) (sym first) at_x) (subst (λ w. In y (part w)) (sym second) at_y) same
  look_alike structs (side ∷ sides) once across s t (inl first) (inr second) x y at_x at_y same =
      sym (agreed structs y x (swap x y same) (across.0 t second (embed y) (embedded t y at_y) (embed x) (embedded side x (subst (λ w. In x (part w)) (sym first) at_x))))
  look_alike structs (side ∷ sides) once across s t (inr first) (inl second) x y at_x at_y same =
      agreed structs x y same (across.0 s first (embed x) (embedded s x at_x) (embed y) (embedded side y (subst (λ w. In y (part w)) (sym second) at_y)))
  look_alike structs (side ∷ sides) once across s t (inr first) (inr second) x y at_x at_y same = look_alike structs sides once.1 across.1 s t first second x y at_x at_y same

unlike : {X : Type 0} (b : Bool) → b ≡ true → b ≡ false → X
unlike b yes_ no_ = let never : ⊥ = true≢false (sym yes_ ∙ no_) in elim never [ ]

of_agreement : (structs : List StructType) (named against : Bool) (agrees : Bool) → named ≡ true → (if named then not agrees else against) ≡ false → agrees ≡ true
of_agreement structs true against true e is = refl
of_agreement structs true against false e is = sym is
of_agreement structs false against agrees e is = no e

one_of : {A L : Type 0} (alike : A → A → Bool) (looks : A → L) (swap : (x y : A) → alike x y ≡ true → alike y x ≡ true) (x y : A) → alike x y ≡ true
    → (x ≡ y) ⊎ ((alike x y ≡ false) ⊎ (alike y x ≡ false)) → looks x ≡ looks y
one_of alike looks swap x y same (inl is) = ap looks is
one_of alike looks swap x y same (inr (inl differ)) = unlike (alike x y) same differ
one_of alike looks swap x y same (inr (inr differ)) = unlike (alike y x) (swap x y same) differ

-- ---- blocks

abbrev pub blocks_in : Side → List Block
blocks_in side = side.unit.blocks

pub blocks_swap : (x y : Block) → same_block x y ≡ true → same_block y x ≡ true
blocks_swap x y is = names_swap x.name y.name is

pub blocks_embedded : (s : Side) (x : Block) → In x (blocks_in s) → In (OfBlock x) (declarations s)
blocks_embedded s x at =
    in_front (OfBlock x) (map OfVariable (filter is_shared s.unit.globals) ++ map OfInterface s.unit.interfaces ++ map OfBlock s.unit.blocks) (map OfFunction s.unit.prototypes)
    (in_behind (OfBlock x) (map OfVariable (filter is_shared s.unit.globals) ++ map OfInterface s.unit.interfaces) (map OfBlock s.unit.blocks) (in_map OfBlock s.unit.blocks x at))

pub blocks_alike : (structs : List StructType) (sides : List Side) → AllByRecursion IsNamedOnce sides → Across structs sides
    → (s t : Side) → In s sides → In t sides → (x y : Block) → In x (blocks_in s) → In y (blocks_in t) → same_block x y ≡ true → block_looks x ≡ block_looks y
blocks_alike =
    look_alike blocks_in OfBlock same_block block_looks blocks_embedded blocks_swap
    (λ structs x y same is. block_look structs x y (of_agreement structs (bytes_eq x.name y.name) _ (agree_blocks structs x y) same is))
    IsNamedOnce (λ s once x y at_x at_y same. one_of same_block block_looks blocks_swap x y same (apart_behind same_block [] s.unit.blocks once.blocks x y at_x at_y))

-- ---- inputs and outputs

abbrev pub interfaces_in : Side → List Interface
interfaces_in side = side.unit.interfaces

pub interfaces_swap : (x y : Interface) → same_interface x y ≡ true → same_interface y x ≡ true
interfaces_swap x y is = names_swap x.name y.name is

interfaces_embedded : (s : Side) (x : Interface) → In x (interfaces_in s) → In (OfInterface x) (declarations s)
interfaces_embedded s x at =
    in_front (OfInterface x) (map OfVariable (filter is_shared s.unit.globals) ++ map OfInterface s.unit.interfaces ++ map OfBlock s.unit.blocks) (map OfFunction s.unit.prototypes)
    (in_front (OfInterface x) (map OfVariable (filter is_shared s.unit.globals) ++ map OfInterface s.unit.interfaces) (map OfBlock s.unit.blocks)
    (in_behind (OfInterface x) (map OfVariable (filter is_shared s.unit.globals)) (map OfInterface s.unit.interfaces) (in_map OfInterface s.unit.interfaces x at)))

pub interfaces_alike : (structs : List StructType) (sides : List Side) → AllByRecursion IsNamedOnce sides → Across structs sides
    → (s t : Side) → In s sides → In t sides → (x y : Interface) → In x (interfaces_in s) → In y (interfaces_in t) → same_interface x y ≡ true → interface_looks x ≡ interface_looks y
interfaces_alike =
    look_alike interfaces_in OfInterface same_interface interface_looks interfaces_embedded interfaces_swap
    (λ structs x y same is. interface_look x y (of_agreement structs (bytes_eq x.name y.name) _ (agree_interfaces x y) same is))
    IsNamedOnce (λ s once x y at_x at_y same. one_of same_interface interface_looks interfaces_swap x y same (apart_behind same_interface [] s.unit.interfaces once.interfaces x y at_x at_y))

-- ---- heads of functions

abbrev pub heads_in : Side → List Prototype
heads_in side = side.unit.prototypes

heads_embedded : (s : Side) (x : Prototype) → In x (heads_in s) → In (OfFunction x) (declarations s)
heads_embedded s x at =
    in_behind (OfFunction x) (map OfVariable (filter is_shared s.unit.globals) ++ map OfInterface s.unit.interfaces ++ map OfBlock s.unit.blocks) (map OfFunction s.unit.prototypes)
    (in_map OfFunction s.unit.prototypes x at)

not_other : (a b : Prototype) → same_function a b ≡ true → is_other_head a b ≡ false → agree_functions a b ≡ true
not_other a b same is = by_cases (same_function a b) (agree_functions a b) same is
  where
    by_cases : (s g : Bool) → s ≡ true → (s && not g) ≡ false → g ≡ true
    by_cases true true e f = refl
    by_cases true false e f = sym f
    by_cases false g e f = no e

heads_alone : (s : Side) → IsNamedOnce s → (x y : Prototype) → In x (heads_in s) → In y (heads_in s) → same_function x y ≡ true → head_looks x ≡ head_looks y
heads_alone s once x y at_x at_y same = by_cases (apart_behind is_other_head [] s.unit.prototypes once.heads x y at_x at_y)
  where
    by_cases : (x ≡ y) ⊎ ((is_other_head x y ≡ false) ⊎ (is_other_head y x ≡ false)) → head_looks x ≡ head_looks y
    by_cases (inl is) = ap head_looks is
    by_cases (inr (inl agrees)) = head_look x y same (not_other x y same agrees)
    by_cases (inr (inr agrees)) = sym (head_look y x (function_swap x y same) (not_other y x (function_swap x y same) agrees))

pub heads_alike : (structs : List StructType) (sides : List Side) → AllByRecursion IsNamedOnce sides → Across structs sides
    → (s t : Side) → In s sides → In t sides → (x y : Prototype) → In x (heads_in s) → In y (heads_in t) → same_function x y ≡ true → head_looks x ≡ head_looks y
heads_alike =
    look_alike heads_in OfFunction same_function head_looks heads_embedded function_swap
    (λ structs x y same is. head_look x y same
    (of_agreement structs (bytes_eq x.name y.name) _ (agree_functions x y) (and_parts (bytes_eq x.name y.name) (same_params x.params y.params) same).0 is))
    IsNamedOnce heads_alone

-- ---- variables that units share

abbrev pub variables_in : Side → List GlobalVar
variables_in side = filter is_shared side.unit.globals

shared_parts : (x y : GlobalVar) → same_shared x y ≡ true → bytes_eq x.name y.name ≡ true
shared_parts x y is = (and_parts (not x.constant && not y.constant) (bytes_eq x.name y.name) is).1

pub shared_swap : (x y : GlobalVar) → same_shared x y ≡ true → same_shared y x ≡ true
shared_swap x y is =
    let p = and_parts (not x.constant && not y.constant) (bytes_eq x.name y.name) is in
    let q = and_parts (not x.constant) (not y.constant) p.0 in
    and_from (not y.constant && not x.constant) (bytes_eq y.name x.name) (and_from (not y.constant) (not x.constant) q.1 q.0) (names_swap x.name y.name p.1)

variables_embedded : (s : Side) (x : GlobalVar) → In x (variables_in s) → In (OfVariable x) (declarations s)
variables_embedded s x at =
    in_front (OfVariable x) (map OfVariable (filter is_shared s.unit.globals) ++ map OfInterface s.unit.interfaces ++ map OfBlock s.unit.blocks) (map OfFunction s.unit.prototypes)
    (in_front (OfVariable x) (map OfVariable (filter is_shared s.unit.globals) ++ map OfInterface s.unit.interfaces) (map OfBlock s.unit.blocks)
    (in_front (OfVariable x) (map OfVariable (filter is_shared s.unit.globals)) (map OfInterface s.unit.interfaces) (in_map OfVariable (filter is_shared s.unit.globals) x at)))

pub variables_alike : (structs : List StructType) (sides : List Side) → AllByRecursion IsNamedOnce sides → Across structs sides
    → (s t : Side) → In s sides → In t sides → (x y : GlobalVar) → In x (variables_in s) → In y (variables_in t) → same_shared x y ≡ true → variable_looks x ≡ variable_looks y
variables_alike =
    look_alike variables_in OfVariable same_shared variable_looks variables_embedded shared_swap
    (λ structs x y same is. variable_look x y (of_agreement structs (bytes_eq x.name y.name) _ (agree_variables x y) (shared_parts x y same) is))
    IsNamedOnce (λ s once x y at_x at_y same. one_of same_shared variable_looks shared_swap x y same (apart_behind same_shared [] (filter is_shared s.unit.globals) once.variables x y at_x at_y))
