-- What ids stand for as a function begins, and what its variables hold.
use Rattle.std.proofs.Common.{◌≡◌, refl, sym, ap, ◌∙◌, subst, ℕ, zero, suc, ◌+◌, Bool, true, false, ◌&&◌, ◌||◌, is_some, if◌then◌else◌, List, [], ◌∷◌, ◌++◌, length, map, slice_get, Option, Some, None, arith}
use Rattle.std.specs.List.{AllByRecursion, cons_option, filter_map}
use Rattle.std.specs.Prelude.{◌==◌}
use Rattle.std.proofs.lemmas.Bool.{and_parts, eqb-true, false≢true}
use Rattle.std.proofs.lemmas.Option.{none-some}
use Rattle.gsl_instr.specs.declared.enumerant.storage_class.TheConstants as storage_class
use Rattle.gsl_words.specs.declared.module.Instr.{Instr}
use Rattle.gsl_words.specs.declared.module.Module.{Module}
use Rattle.gsl_valid.specs.DecorationRules.{is_decorated, pointee, pointee_of, variable_decorated}
use Rattle.gsl_valid.specs.FunctionRules.{outside}
use Rattle.gsl_valid.specs.GlobalRules.{begins_with, holds, is_global, is_global_of}
use Rattle.gsl_valid.specs.Instruction.{read}
use Rattle.gsl_valid.specs.Kinds.{Kind, Fixes, Holds, Value as Fixed, Variable, constant_in, constant_is, kind, type_in, variable_is}
use Rattle.gsl_valid.specs.Placed.{Code, Placed}
use Rattle.gsl_valid.specs.Types.{Target, before_functions, defined_as, function_begins, initialises, is_block_class, outside_of, parameters_of, target_of}
use Rattle.gsl_valid.specs.Where.{in_function_after, where_at}
use Rattle.gsl_machine.specs.Constants.{constant}
use Rattle.gsl_machine.specs.Functions as machine
use Rattle.gsl_machine.specs.Functions.{begins_as, entered, give_each, own_ids, point_each, variables_of}
use Rattle.gsl_machine.specs.Interfaces.{all_variables, block_variables, constant_held, globals, holds_block, holds_value, if_there, point_blocks, value_variables}
use Rattle.gsl_machine.specs.State.{Held, Ids, InBlock, InVariable, Points, State, Waiting, Whole, give}
use Rattle.gsl_sound_code.specs.Rules.{KeepAll, Keeps}
use Rattle.gsl_sound_code.specs.Spots.{IsBody, Spot}
use Rattle.gsl_sound_code.proofs.Looks.{Kept}
use Rattle.gsl_sound_code.proofs.Walks.{AreTaken, enter, walk}
use Rattle.gsl_sound_ids.proofs.Globals.{block_held, value_held}
use Rattle.gsl_sound_ids.proofs.Variables.{stays_out, variable_result}
use Rattle.gsl_sound_values.proofs.Constants.{constant_shaped}
use Rattle.gsl_memory_law.specs.Typed.{HaveTypes}
use Rattle.gsl_sound_types.specs.Typed.{FrameEach, HoldTypes, IsOfType, Typed, types_below, types_of}
use Rattle.gsl_memory_law.proofs.Typed.{more_typed}
use Rattle.gsl_sound_types.proofs.Holding.{hold_give, hold_more, length_same, of_more, pointer_of_type, value_of_type}
use Rattle.gsl_sound_types.proofs.Memories.{IsLocal, initial_shaped, local_one, variable_kind}

-- ---- lists

all_gathered : {A : Type 0} (f : A → Option Variable) (P : Variable → Type 0) (xs : List A) → AllByRecursion (λ a. (v : Variable) → f a ≡ Some v → P v) xs → AllByRecursion P (filter_map f xs)
all_gathered f P [] all = tt
all_gathered f P (a ∷ xs) all = by_first (f a) refl (all_gathered f P xs all.1)
  where
    by_first : (o : Option Variable) → f a ≡ o → AllByRecursion P (filter_map f xs) → AllByRecursion P (cons_option o (filter_map f xs))
    by_first None is later = later
    by_first (Some v) is later = (all.0 v is, later)

all_from : {A : Type 0} (P Q : A → Type 0) (xs : List A) → ((a : A) → P a → Q a) → AllByRecursion P xs → AllByRecursion Q xs
all_from P Q [] each all = tt
all_from P Q (a ∷ xs) each all = (each a all.0, all_from P Q xs each all.1)

get_behind : (front types : List ℕ) (k : ℕ) → slice_get (front ++ types) (length front + k) ≡ slice_get types k
get_behind [] types k = ap (slice_get types) (let e : 0 + k ≡ k = omega arith in e)
get_behind (t ∷ front) types k = ap (slice_get (t ∷ front ++ types)) (let e : suc (length front) + k ≡ suc (length front + k) = omega arith in e) ∙ get_behind front types k

get_mapped : (f : Variable → ℕ) (vs : List Variable) (k : ℕ) (v : Variable) → slice_get vs k ≡ Some v → slice_get (map f vs) k ≡ Some (f v)
get_mapped f [] k v is = absurd (none-some v is)
get_mapped f (w ∷ vs) zero v is = let same : w ≡ v = cc in ap (λ x. Some (f x)) same
get_mapped f (w ∷ vs) (suc k) v is = get_mapped f vs k v is

-- ---- variables of the module

-- A variable stands outside functions, where the rules are kept.
pub record IsGlobal (m : Module) (v : Variable) : Type 0 where
  pub is : variable_is (defined_as m v.id) ≡ Some v
  pub target : Target
  pub points : target_of (defined_as m v.type) ≡ Some target
  pub class : target.class ≡ v.class
  pub holds : holds m v.class target.pointee ≡ true
  pub begins : begins_with m v.class target.pointee v.initialiser ≡ true
  pub before : Code
  pub decorated : is_decorated m before v.type v.id v.class ≡ true

module _ (m : Module) where
  global_here : (before : Code) (i : Instr) (code : Code) → Keeps m before i code → (where_at m before).inside ≡ false → (v : Variable) → variable_is (read i) ≡ Some v → IsGlobal m v
  global_here before i code keeps out v is = by_target (target_of (defined_as m v.type)) refl (ap (is_global m) (sym is) ∙ ap (λ b. b || is_global m (variable_is (read i))) (sym out) ∙ keeps.global)
    where
      by_target : (o : Option Target) → target_of (defined_as m v.type) ≡ o → is_global_of m v.class v.initialiser o ≡ true → IsGlobal m v
      by_target None e may = absurd (false≢true may)
      by_target (Some t) e may =
          let last = and_parts (t.class == v.class && holds m v.class t.pointee) (begins_with m v.class t.pointee v.initialiser) may in
          let first = and_parts (t.class == v.class) (holds m v.class t.pointee) last.0 in
          record {
            is = ap variable_is (keeps.own v.id (variable_result (read i) v is)) ∙ is;
            target = t;
            points = e;
            class = eqb-true t.class v.class first.0;
            holds = first.1;
            begins = last.1;
            before = before;
            decorated = ap (λ b. b || is_decorated m before v.type v.id v.class) (sym out) ∙ ap (variable_decorated m before) (sym is) ∙ (and_parts _ (variable_decorated m before (variable_is (read i))) keeps.decoration).1;
          }

  outer_all : (before code : Code) → KeepAll m before code → (where_at m before).inside ≡ false → AllByRecursion (λ i. (v : Variable) → variable_is (read i) ≡ Some v → IsGlobal m v) (before_functions code)
  outer_all before [] keep out = tt
  outer_all before (i ∷ code) keep out =
      by_test (function_begins (read i)) refl (λ here. outer_all (i ∷ before) code keep.1 (ap (λ b. in_function_after b (read i)) out ∙ stays_out (kind (read i)) here))
    where
      by_test : (b : Bool) → function_begins (read i) ≡ b → (function_begins (read i) ≡ false → AllByRecursion (λ i. (v : Variable) → variable_is (read i) ≡ Some v → IsGlobal m v) (before_functions code))
          → AllByRecursion (λ i. (v : Variable) → variable_is (read i) ≡ Some v → IsGlobal m v) (if b then [] else i ∷ before_functions code)
      by_test true here later = tt
      by_test false here later = (global_here before i code keep.0 out, later here)

module _ (m : Module) (kept : Kept m) where
  all_globals : AllByRecursion (IsGlobal m) (all_variables m)
  all_globals = all_gathered (λ i. variable_is (read i)) (IsGlobal m) (outside_of m) (outer_all m [] m.instrs kept.all refl)

  pub value_globals : AllByRecursion (λ v. IsGlobal m v × (is_block_class v.class ≡ false)) (value_variables m)
  value_globals = all_gathered holds_value (λ v. IsGlobal m v × (is_block_class v.class ≡ false)) (all_variables m) (all_from (IsGlobal m) (λ w. (v : Variable) → holds_value w ≡ Some v → IsGlobal m v × (is_block_class v.class ≡ false)) (all_variables m)
      (λ w global v is. let h = value_held m kept w v is in (subst (IsGlobal m) h.0 global, h.1)) all_globals)

  block_globals : AllByRecursion (λ v. IsGlobal m v × (is_block_class v.class ≡ true)) (block_variables m)
  block_globals = all_gathered holds_block (λ v. IsGlobal m v × (is_block_class v.class ≡ true)) (all_variables m) (all_from (IsGlobal m) (λ w. (v : Variable) → holds_block w ≡ Some v → IsGlobal m v × (is_block_class v.class ≡ true)) (all_variables m)
      (λ w global v is. let h = block_held m kept w v is in (subst (IsGlobal m) h.0 global, h.1)) all_globals)

-- ---- ids

-- A variable's id is of its type, which points to something of a class.
record IsPlace (m : Module) (block : Bool) (v : Variable) : Type 0 where
  kind_is : kind (defined_as m v.id) ≡ Holds v
  target : Target
  points : target_of (defined_as m v.type) ≡ Some target
  class : is_block_class target.class ≡ block

module _ (m : Module) (kept : Kept m) (types : List ℕ) where
  global_place : (block : Bool) (v : Variable) → IsGlobal m v → is_block_class v.class ≡ block → IsPlace m block v
  global_place block v g class = record { kind_is = variable_kind (kind (defined_as m v.id)) v g.is; target = g.target; points = g.points; class = ap is_block_class g.class ∙ class }

  hold_place : (ids : Ids) (block : Bool) (v : Variable) (held : Held) → HoldTypes m types ids → (p : IsPlace m block v) → IsOfType m types v.type held → HoldTypes m types (give ids v.id held)
  hold_place ids block v held hold p of = hold_give m kept types ids v.id held hold
      (λ type known. let both : Some v.type ≡ Some type = ap type_in (sym p.kind_is) ∙ known in let same : v.type ≡ type = cc in subst (λ t. IsOfType m types t held) same of)
      (ap (λ k. is_some (constant_in k)) p.kind_is)

  hold_points : (ids : Ids) (number : ℕ) (vs : List Variable) → HoldTypes m types ids → AllByRecursion (IsPlace m false) vs → ((k : ℕ) (v : Variable) → slice_get vs k ≡ Some v → slice_get types (number + k) ≡ Some (pointee m v.type))
      → HoldTypes m types (point_each ids number vs)
  hold_points ids number [] hold all seats = hold
  hold_points ids number (v ∷ vs) hold all seats =
      let place = all.0 in
      let seat : slice_get types number ≡ Some (pointee m v.type) = ap (slice_get types) (let e : number ≡ number + 0 = omega arith in e) ∙ seats 0 v refl in
      hold_points (give ids v.id (Points (InVariable number []))) (number + 1) vs
      (hold_place ids false v (Points (InVariable number [])) hold place (pointer_of_type m kept types v.type place.target (InVariable number []) place.points
      (place.class, record { type = pointee m v.type; is = seat; leads = ap (λ t. Some (pointee_of t)) place.points })))
      all.1 (λ k w is. ap (slice_get types) (let e : number + 1 + k ≡ number + suc k = omega arith in e) ∙ seats (suc k) w is)

  hold_blocks : (ids : Ids) (vs : List Variable) → HoldTypes m types ids → AllByRecursion (IsPlace m true) vs → HoldTypes m types (point_blocks m ids vs)
  hold_blocks ids [] hold all = hold
  hold_blocks ids (v ∷ vs) hold all =
      let place = all.0 in
      hold_blocks (give ids v.id (Points (InBlock v.id 0 (pointee m v.type)))) vs
      (hold_place ids true v (Points (InBlock v.id 0 (pointee m v.type))) hold place (pointer_of_type m kept types v.type place.target (InBlock v.id 0 (pointee m v.type)) place.points (place.class, ap pointee_of place.points))) all.1

  constants_hold : HoldTypes m types (constant_held m)
  constants_hold = record { each = λ id type held is typed. by_kind id type held (kind (defined_as m id)) refl is typed; constants = λ id held is there. by_constant id held (constant_is (defined_as m id)) is }
    where
      by_kind : (id type : ℕ) (held : Held) (k : Kind) → kind (defined_as m id) ≡ k → if_there (constant_in k) (Whole (constant m id)) ≡ Some held → type_in k ≡ Some type → IsOfType m types type held
      by_kind id type held (Fixes t value) e is typed =
          let same : t ≡ type = (let both : Some t ≡ Some type = typed in cc) in
          let it : Whole (constant m id) ≡ held = cc in
          subst (IsOfType m types type) it (value_of_type m kept types type (constant m id) (constant_shaped m kept id type value (ap constant_in e ∙ ap (λ n. Some (n, value)) same)))
      by_kind id type held _ e is typed = absurd (none-some held is)

      by_constant : (id : ℕ) (held : Held) (o : Option (ℕ × Fixed)) → if_there o (Whole (constant m id)) ≡ Some held → held ≡ Whole (constant m id)
      by_constant id held None is = absurd (none-some held is)
      by_constant id held (Some c) is = let it : Whole (constant m id) ≡ held = cc in sym it

module _ (m : Module) (kept : Kept m) where
  -- constants and the module's variables
  globals_base : HoldTypes m (types_of m (value_variables m)) (globals m)
  globals_base =
      let types = types_of m (value_variables m) in
      hold_blocks m kept types (point_each (constant_held m) 0 (value_variables m)) (block_variables m)
      (hold_points m kept types (constant_held m) 0 (value_variables m) (constants_hold m kept types)
      (all_from (λ v. IsGlobal m v × (is_block_class v.class ≡ false)) (IsPlace m false) (value_variables m) (λ v g. global_place m kept types false v g.0 g.1) (value_globals m kept))
      (λ k v is. ap (slice_get types) (let e : 0 + k ≡ k = omega arith in e) ∙ get_mapped (λ v. pointee m v.type) (value_variables m) k v is))
      (all_from (λ v. IsGlobal m v × (is_block_class v.class ≡ true)) (IsPlace m true) (block_variables m) (λ v g. global_place m kept types true v g.0 g.1) (block_globals m kept))

  pub globals_hold : (waiting : List Waiting) → HoldTypes m (types_below m waiting) (globals m)
  globals_hold [] = globals_base
  globals_hold (call ∷ calls) = hold_more m (types_below m calls) (types_of m (variables_of call.body)) (globals m) (globals_hold calls)

-- What is held is of these types.
abbrev pub AreOfTypes : Module → List ℕ → List ℕ → List Held → Type 0
AreOfTypes m below [] [] = Unit {0}
AreOfTypes m below [] (h ∷ held) = ⊥
AreOfTypes m below (type ∷ types) [] = ⊥
AreOfTypes m below (type ∷ types) (h ∷ held) = IsOfType m below type h × AreOfTypes m below types held

module _ (m : Module) (kept : Kept m) (below more : List ℕ) where
  hold_parameters : (ids : Ids) (types parameters : List ℕ) (held : List Held) → AreTaken m types parameters → AreOfTypes m below types held → HoldTypes m (below ++ more) ids → HoldTypes m (below ++ more) (give_each ids parameters held)
  hold_parameters ids types [] held taken are hold = hold
  hold_parameters ids [] (p ∷ ps) held taken are hold = absurd taken
  hold_parameters ids (type ∷ types) (p ∷ ps) [] taken are hold = absurd are
  hold_parameters ids (type ∷ types) (p ∷ ps) (h ∷ held) taken are hold =
      hold_parameters (give ids p h) types ps held taken.1 are.1
      (hold_give m kept (below ++ more) ids p h hold
      (λ t known. let both : Some type ≡ Some t = ap type_in (sym taken.0) ∙ known in let same : type ≡ t = cc in subst (λ t. IsOfType m (below ++ more) t h) same (of_more m below more type h are.0))
      (ap (λ k. is_some (constant_in k)) taken.0))

-- A variable of a function, found by its id.
pub record IsOwn (m : Module) (v : Variable) : Type 0 where
  pub local : IsLocal m v
  pub is : variable_is (defined_as m v.id) ≡ Some v

module _ (m : Module) (kept : Kept m) (returned : ℕ) (body : List Placed) (start : Code) (spot : Spot m body returned start body) where
  pub own_variables : AllByRecursion (IsOwn m) (variables_of body)
  own_variables = all_gathered (λ p. variable_is (read p.instr)) (IsOwn m) body (walk m kept body returned (λ p. (v : Variable) → variable_is (read p.instr) ≡ Some v → IsOwn m v)
      (λ before p code keeps started v is. record { local = local_one m before p.instr code v keeps started is; is = ap variable_is (keeps.own v.id (variable_result (read p.instr) v is)) ∙ is }) start body spot)

  own_place : (v : Variable) → IsOwn m v → IsPlace m false v
  own_place v own = record {
    kind_is = variable_kind (kind (defined_as m v.id)) v own.is;
    target = own.local.target;
    points = own.local.points;
    class = ap is_block_class (eqb-true own.local.target.class storage_class.FUNCTION own.local.class);
  }

  -- what the variables begin as
  pub begin_typed : (vs : List Variable) → AllByRecursion (IsOwn m) vs → HaveTypes m (types_of m vs) (map (begins_as m) vs)
  begin_typed [] all = tt
  begin_typed (v ∷ vs) all =
      (initial_shaped m kept v (pointee m v.type) (ap (λ t. initialises m (pointee_of t) v.initialiser) all.0.local.points ∙ all.0.local.begins), begin_typed vs all.1)

  own_hold : (waiting : List Waiting) (types : List ℕ) (held : List Held) (count : ℕ) → count ≡ length (types_below m waiting) → AreTaken m types (machine.parameters_of body) → AreOfTypes m (types_below m waiting) types held
      → HoldTypes m (types_below m waiting ++ types_of m (variables_of body)) (own_ids (globals m) body held count)
  own_hold waiting types held count same taken are =
      let below = types_below m waiting in
      let more = types_of m (variables_of body) in
      hold_points m kept (below ++ more) (give_each (globals m) (machine.parameters_of body) held) count (variables_of body)
      (hold_parameters m kept below more (globals m) types (machine.parameters_of body) held taken are (hold_more m below more (globals m) (globals_hold m kept waiting)))
      (all_from (IsOwn m) (IsPlace m false) (variables_of body) own_place own_variables)
      (λ k v is. ap (λ n. slice_get (below ++ more) (n + k)) same ∙ get_behind below more k ∙ get_mapped (λ v. pointee m v.type) (variables_of body) k v is)

-- A function begins, with what its parameters take.
pub typed_entered : (m : Module) (kept : Kept m) (id returned function_type : ℕ) (b : IsBody m id returned function_type) (held : List Held) (waiting : List Waiting) (state : State) → HaveTypes m (types_below m waiting) state.variables → FrameEach m waiting
    → AreOfTypes m (types_below m waiting) (parameters_of (defined_as m function_type)) held → Typed m (entered m (globals m) b.body held waiting state)
typed_entered m kept id returned function_type b held waiting state have frames are =
    let types = parameters_of (defined_as m function_type) in
    let taken = (enter m kept b.body returned b.before b.body types b.spot b.begun).taken in
    let size = length_same m (types_below m waiting) state.variables have in
    let own = own_hold m kept returned b.body b.before b.spot waiting types held (length state.variables) (sym size) taken are in
    record {
      variables = more_typed m (types_below m waiting) (types_of m (variables_of b.body)) state.variables (map (begins_as m) (variables_of b.body)) have
          (begin_typed m kept returned b.body b.before b.spot (variables_of b.body) (own_variables m kept returned b.body b.before b.spot));
      frame = record {
        held = own;
        lasting = own;
        lasts = record { arguments = held; own_is = ap (own_ids (globals m) b.body held) (sym size); same = λ id lasting. refl };
      };
      waiting = frames;
    }
