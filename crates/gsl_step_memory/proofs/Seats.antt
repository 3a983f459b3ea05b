-- Which variables ids point to.
use Rattle.std.proofs.Common.{◌≡◌, refl, sym, ap, ◌∙◌, subst, ℕ, zero, suc, ◌+◌, Bool, true, false, if◌then◌else◌, ◌⊎◌, List, [], ◌∷◌, ◌++◌, Option, Some, None, inl, inr, arith, append_assoc, append-nil}
use Rattle.std.specs.List.{AllByRecursion, cons_option}
use Rattle.std.specs.Prelude.{◌==◌, slice_get}
use Rattle.std.proofs.lemmas.Bool.{and_parts, cases_Bool, cond-false, cond-true, eqb-true, false≢true, true≢false}
use Rattle.gsl_instr.specs.declared.enumerant.storage_class.TheConstants as storage_class
use Rattle.gsl_instr.specs.declared.op.TheConstants as op
use Rattle.gsl_words.specs.declared.module.Module.{Module}
use Rattle.gsl_valid.specs.DecorationRules.{pointee}
use Rattle.gsl_valid.specs.FunctionRules.{outside}
use Rattle.gsl_valid.specs.GlobalRules.{holds}
use Rattle.gsl_valid.specs.Ids.{result}
use Rattle.gsl_valid.specs.Instruction.{read}
use Rattle.gsl_valid.specs.Kinds.{Value as Fixed, Variable, constant_is, variable_is}
use Rattle.gsl_valid.specs.Placed.{Code, Placed}
use Rattle.gsl_valid.specs.Types.{defined_as, is_block_class}
use Rattle.gsl_valid.specs.Where.{where_at}
use Rattle.gsl_values.specs.declared.value.Value.{Value}
use Rattle.gsl_machine.specs.Constants.{constant}
use Rattle.gsl_machine.specs.Functions.{give_each, parameter_of, parameters_of, point_each, variables_of}
use Rattle.gsl_machine.specs.Interfaces.{block_variables, constant_held, globals, if_there, point_blocks, value_variables}
use Rattle.gsl_machine.specs.State.{Held, Ids, InBlock, InVariable, Pointer, Points, Waiting, Whole, give}
use Rattle.gsl_sound_code.specs.Rules.{Keeps}
use Rattle.gsl_sound_code.specs.Spots.{Spot}
use Rattle.gsl_sound_code.proofs.Looks.{Kept}
use Rattle.gsl_sound_code.proofs.Opcodes.{reads_parameter}
use Rattle.gsl_sound_code.proofs.Walks.{walk}
use Rattle.gsl_sound_ids.proofs.Variables.{local_variable, variable_result}
use Rattle.gsl_sound_types.specs.Typed.{types_below, types_of}
use Rattle.gsl_sound_types.proofs.Entering.{IsGlobal, value_globals}

-- An id is that of a variable among some, and leads to it, where the first of them has a number.
pub record Seat (vs : List Variable) (number id : ℕ) (to : Pointer) : Type 0 where
  pub at : ℕ
  pub v : Variable
  pub is : slice_get vs at ≡ Some v
  pub named : v.id ≡ id
  pub leads : to ≡ InVariable (number + at) []

pub seat_in : (ids : Ids) (number : ℕ) (vs : List Variable) (id : ℕ) (to : Pointer) → point_each ids number vs id ≡ Some (Points to) → Seat vs number id to ⊎ (ids id ≡ Some (Points to))
seat_in ids number [] id to is = inr is
seat_in ids number (v ∷ vs) id to is = elim (seat_in (give ids v.id (Points (InVariable number []))) (number + 1) vs id to is) [
  | inl s ↦ inl (record { at = suc s.at; v = s.v; is = s.is; named = s.named; leads = s.leads ∙ ap (λ n. InVariable n []) (let e : number + 1 + s.at ≡ number + suc s.at = omega arith in e) })
  | inr here ↦ by_same (id == v.id) refl here
]
  where
    by_same : (b : Bool) → (id == v.id) ≡ b → (if b then Some (Points (InVariable number [])) else ids id) ≡ Some (Points to) → Seat (v ∷ vs) number id to ⊎ (ids id ≡ Some (Points to))
    by_same true same here =
        let e : InVariable number [] ≡ to = cc in
        inl (record { at = 0; v = v; is = refl; named = sym (eqb-true id v.id same); leads = sym e ∙ ap (λ n. InVariable n []) (let z : number ≡ number + 0 = omega arith in z) })
    by_same false differ here = inr here

-- ---- an id that is no parameter's

abbrev AreOthers : ℕ → List ℕ → Type 0
AreOthers id others = AllByRecursion (λ other. (id == other) ≡ false) others

ungiven : (ids : Ids) (others : List ℕ) (held : List Held) (id : ℕ) → AreOthers id others → give_each ids others held id ≡ ids id
ungiven ids [] held id apart = refl
ungiven ids (other ∷ others) [] id apart = refl
ungiven ids (other ∷ others) (h ∷ held) id apart = ungiven (give ids other h) others held id apart.1 ∙ cond-false (id == other) (Some h) (ids id) apart.0

-- What an instruction of a function defines is found by its id, and its variables are of functions.
record IsOwn (m : Module) (p : Placed) : Type 0 where
  own : (id : ℕ) → result (read p.instr) ≡ Some id → defined_as m id ≡ read p.instr
  local : (v : Variable) → variable_is (read p.instr) ≡ Some v → (v.class == storage_class.FUNCTION) ≡ true

own_one : (m : Module) (before : Code) (p : Placed) (code : Code) → Keeps m before p.instr code → outside (where_at m before).standing ≡ false → IsOwn m p
own_one m before p code keeps started = record { own = keeps.own; local = λ v is. (local_variable m before p.instr code v keeps started is).0 }

module _ (m : Module) (kept : Kept m) (returned : ℕ) (body : List Placed) (start : Code) (spot : Spot m body returned start body) (id : ℕ) (v : Variable) (known : variable_is (defined_as m id) ≡ Some v) where
  -- the variable of an id is not among the parameters of a function
  no_parameter : (rest : List Placed) → AllByRecursion (IsOwn m) rest → AreOthers id (parameters_of rest)
  no_parameter [] all = tt
  no_parameter (p ∷ rest) all = by_op (p.instr.op == op.FUNCTION_PARAMETER) refl (no_parameter rest all.1)
    where
      by_result : (p.instr.op == op.FUNCTION_PARAMETER) ≡ true → (o : Option ℕ) → result (read p.instr) ≡ o → AreOthers id (parameters_of rest) → AreOthers id (cons_option o (parameters_of rest))
      by_result is None gives later = later
      by_result is (Some other) gives later = (
        elim (cases_Bool (id == other)) [
          | inl same ↦ (
              let over : None ≡ Some v = sym (ap variable_is (all.0.own other gives ∙ reads_parameter p.instr is)) ∙ ap (λ n. variable_is (defined_as m n)) (sym (eqb-true id other same)) ∙ known in
              absurd (cc)
              )
          | inr differ ↦ differ
        ],
        later,
      )

      by_op : (b : Bool) → (p.instr.op == op.FUNCTION_PARAMETER) ≡ b → AreOthers id (parameters_of rest) → AreOthers id (cons_option (if b then result (read p.instr) else None) (parameters_of rest))
      by_op true is later = by_result is (result (read p.instr)) refl later
      by_op false is later = later

  -- a variable of the function is the one of its id
  local_seat : (rest : List Placed) → AllByRecursion (IsOwn m) rest → (number : ℕ) (w : Variable) → slice_get (variables_of rest) number ≡ Some w → w.id ≡ id → (w ≡ v) × ((v.class == storage_class.FUNCTION) ≡ true)
  local_seat [] all zero w is same = absurd (cc)
  local_seat [] all (suc number) w is same = absurd (cc)
  local_seat (p ∷ rest) all number w is same = by_first (variable_is (read p.instr)) refl (local_seat rest all.1) number is
    where
      by_first : (o : Option Variable) → variable_is (read p.instr) ≡ o → ((number : ℕ) (w : Variable) → slice_get (variables_of rest) number ≡ Some w → w.id ≡ id → (w ≡ v) × ((v.class == storage_class.FUNCTION) ≡ true)) → (number : ℕ) → slice_get (cons_option o (variables_of rest)) number ≡ Some w
          → (w ≡ v) × ((v.class == storage_class.FUNCTION) ≡ true)
      by_first None gives later number is = later number w is same
      by_first (Some x) gives later zero is =
          let e : x ≡ w = cc in
          let here : variable_is (read p.instr) ≡ Some w = gives ∙ ap Some e in
          let both : Some w ≡ Some v = sym (ap variable_is (all.0.own w.id (variable_result (read p.instr) w here)) ∙ here) ∙ ap (λ n. variable_is (defined_as m n)) same ∙ known in
          let one : w ≡ v = cc in
          (one, ap (λ (x : Variable). x.class == storage_class.FUNCTION) (sym one) ∙ all.0.local w here)
      by_first (Some x) gives later (suc number) is = later number w is same

  -- one of the module's variables is, too
  in_blocks : (ids : Ids) (vs : List Variable) (number : ℕ) (path : List ℕ) → point_blocks m ids vs id ≡ Some (Points (InVariable number path)) → ids id ≡ Some (Points (InVariable number path))
  in_blocks ids [] number path is = is
  in_blocks ids (w ∷ vs) number path is = by_same (id == w.id) (in_blocks (give ids w.id (Points (InBlock w.id 0 (pointee m w.type)))) vs number path is)
    where
      by_same : (b : Bool) → (if b then Some (Points (InBlock w.id 0 (pointee m w.type))) else ids id) ≡ Some (Points (InVariable number path)) → ids id ≡ Some (Points (InVariable number path))
      by_same true is = absurd (cc)
      by_same false is = is

  no_constant : (o : Option (ℕ × Fixed)) (value : Value) (to : Pointer) → if_there o (Whole value) ≡ Some (Points to) → ⊥
  no_constant None value to is = cc
  no_constant (Some c) value to is = cc

  outer_class : (class type : ℕ) → holds m class type ≡ true → is_block_class class ≡ false → (class == storage_class.FUNCTION) ≡ false
  outer_class class type is plain = elim (cases_Bool (class == storage_class.FUNCTION)) [
    | inl same ↦ absurd (false≢true (ap (λ n. holds m n type) (sym (eqb-true class storage_class.FUNCTION same)) ∙ is))
    | inr differ ↦ differ
  ]

  outer_seat : (vs : List Variable) → AllByRecursion (λ v. IsGlobal m v × (is_block_class v.class ≡ false)) vs → (number : ℕ) (w : Variable) → slice_get vs number ≡ Some w → w.id ≡ id → (w ≡ v) × ((v.class == storage_class.FUNCTION) ≡ false)
  outer_seat [] all zero w is same = absurd (cc)
  outer_seat [] all (suc number) w is same = absurd (cc)
  outer_seat (x ∷ vs) all zero w is same =
      let e : x ≡ w = cc in
      let g = all.0 in
      let here : variable_is (defined_as m w.id) ≡ Some w = subst (λ (y : Variable). variable_is (defined_as m y.id) ≡ Some y) e g.0.is in
      let both : Some w ≡ Some v = sym here ∙ ap (λ n. variable_is (defined_as m n)) same ∙ known in
      let one : w ≡ v = cc in
      (one, ap (λ (y : Variable). y.class == storage_class.FUNCTION) (sym (e ∙ one)) ∙ outer_class x.class g.0.target.pointee g.0.holds g.1)
  outer_seat (x ∷ vs) all (suc number) w is same = outer_seat vs all.1 number w is same

  -- where the id of a variable leads: to one of the function, or to one of the module
  pub variable_seat : (arguments : List Held) (count number : ℕ) (path : List ℕ) → point_each (give_each (globals m) (parameters_of body) arguments) count (variables_of body) id ≡ Some (Points (InVariable number path))
      → (((v.class == storage_class.FUNCTION) ≡ true) × ((at : ℕ) × (slice_get (variables_of body) at ≡ Some v) × (InVariable number path ≡ InVariable (count + at) [])))
      ⊎ (((v.class == storage_class.FUNCTION) ≡ false) × ((at : ℕ) × (slice_get (value_variables m) at ≡ Some v) × (InVariable number path ≡ InVariable (0 + at) [])))
  variable_seat arguments count number path is = elim (seat_in (give_each (globals m) (parameters_of body) arguments) count (variables_of body) id (InVariable number path) is) [
    | inl s ↦ (let l = local_seat body all s.at s.v s.is s.named in inl (l.1, (s.at, s.is ∙ ap Some l.0, s.leads)))
    | inr given ↦ (
        let outer : globals m id ≡ Some (Points (InVariable number path)) = sym (ungiven (globals m) (parameters_of body) arguments id (no_parameter body all)) ∙ given in
        elim (seat_in (constant_held m) 0 (value_variables m) id (InVariable number path) (in_blocks (point_each (constant_held m) 0 (value_variables m)) (block_variables m) number path outer)) [
          | inl s ↦ (let l = outer_seat (value_variables m) (value_globals m kept) s.at s.v s.is s.named in inr (l.1, (s.at, s.is ∙ ap Some l.0, s.leads)))
          | inr fixed ↦ absurd (no_constant (constant_is (defined_as m id)) (constant m id) (InVariable number path) fixed)
        ]
        )
  ]
    where
      all : AllByRecursion (IsOwn m) body
      all = walk m kept body returned (IsOwn m) (own_one m) start body spot

-- the module's variables come first
pub module_first : (m : Module) (waiting : List Waiting) → (more : List ℕ) × (types_below m waiting ≡ types_of m (value_variables m) ++ more)
module_first m [] = ([], sym (append-nil (types_of m (value_variables m))))
module_first m (call ∷ calls) =
    let below = module_first m calls in
    (below.0 ++ types_of m (variables_of call.body), ap (λ l. l ++ types_of m (variables_of call.body)) below.1 ∙ append_assoc (types_of m (value_variables m)) below.0 (types_of m (variables_of call.body)))
