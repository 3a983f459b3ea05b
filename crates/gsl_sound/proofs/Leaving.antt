-- Branches, calls and returns.
use Rattle.std.proofs.Common.{◌≡◌, refl, sym, ap, ◌∙◌, subst, ℕ, ◌≤◌, Bool, true, false, ◌&&◌, ◌||◌, not, if◌then◌else◌, List, [], ◌∷◌, length, take, Some, inl, inr, arith, length-take}
use Rattle.std.specs.List.{AllByRecursion, list_all}
use Rattle.std.specs.Prelude.{◌==◌}
use Rattle.std.proofs.lemmas.Bool.{and_parts, eqb-true, true≢false, false≢true, not-true, cond-false, or_cases}
use Rattle.gsl_base.specs.declared.input.Input.{Input}
use Rattle.gsl_instr.specs.declared.enumerant.storage_class.TheConstants as storage_class
use Rattle.gsl_instr.specs.declared.instruction.Instruction.{Instruction}
use Rattle.gsl_instr.specs.declared.instruction.Instruction.TheVariants as instruction
use Rattle.gsl_instr.specs.Instructions as table
use Rattle.gsl_instr.specs.Instructions.{seconds}
use Rattle.gsl_words.specs.declared.module.Module.{Module}
use Rattle.gsl_values.specs.declared.value.Value.{Value}
use Rattle.gsl_tree.specs.Values.{word_in}
use Rattle.gsl_blocks.specs.Blocks.{role_or}
use Rattle.gsl_valid.specs.CallRules.{call_of, fits_function, may_call}
use Rattle.gsl_valid.specs.ConstantRules.{have_each}
use Rattle.gsl_valid.specs.Ids.{defined, mentions, result}
use Rattle.gsl_valid.specs.IdsDefinedOnce.{is_new}
use Rattle.gsl_valid.specs.Instruction.{passes_if, read}
use Rattle.gsl_valid.specs.Kinds.{Kind, Begins, Calls, Shape, OfVoid, OfFunction, kind, shape_of, type_in, type_of}
use Rattle.gsl_valid.specs.LocalityRules.{gives_value}
use Rattle.gsl_valid.specs.OperandRules.{is_bool_value}
use Rattle.gsl_valid.specs.Placed.{Code, Placed}
use Rattle.gsl_valid.specs.ReturnRules as return
use Rattle.gsl_valid.specs.TypeRules.{is_made, is_returned, is_taken}
use Rattle.gsl_valid.specs.Types.{defined_as, has_type, is_target_of, is_value_shape, is_value_type, is_void, is_void_shape, parameters_in, parameters_of, target_in}
use Rattle.gsl_valid.specs.Where.{bounds, bounds_block, bounds_one, stands_after, where_at}
use Rattle.gsl_valid.specs.FunctionRules.{in_block}
use Rattle.gsl_machine.specs.Functions.{back_in, call_from, function_at}
use Rattle.gsl_machine.specs.Interfaces.{value_variables}
use Rattle.gsl_machine.specs.State.{Going, Held, Ids, Outcome, State, Waiting, Whole, give, on}
use Rattle.gsl_machine.specs.Steps.{act, branching, calling, in_new_block, label_for, on_each, returning, with_value, without_value}
use Rattle.gsl_sound_ids.specs.Held.{Agrees, IsOf, usable_as, HaveBytes}
use Rattle.gsl_sound.specs.Sound.{Fine, Good, Runs, WaitEach, Waits}
use Rattle.gsl_sound_code.specs.Spots.{IsLabel, IsTarget, LeadsIn, bare}
use Rattle.gsl_sound_ids.proofs.Agreeing.{agree_give, agree_same}
use Rattle.gsl_sound.proofs.Entering.{enters}
use Rattle.gsl_sound_code.proofs.Looks.{Kept, defined_found, defines_result, made_at}
use Rattle.gsl_sound_ids.proofs.Plain.{IsPlain, bool_type_plain, has_type_is, int_value, points_nowhere, value_by, value_of_type, value_plain}
use Rattle.gsl_sound.proofs.Ready.{Ready, usable}
use Rattle.gsl_sound.proofs.Valued.{operands, with_value_of}
use Rattle.gsl_sound_code.proofs.Walks.{at_label}
use Rattle.gsl_sound_ids.proofs.Locals.{AreHeld}
use Rattle.gsl_sound_code.proofs.Functions.{body_of}

-- ids begin at 1
zero_undefined : (m : Module) (kept : Kept m) → defined m.instrs 0 ≡ true → ⊥
zero_undefined m kept is = let f = defined_found m [] m.instrs 0 kept.all is in false≢true (ap (λ o. is_new m.bound f.before o) (sym f.gives) ∙ f.keeps.once)

target_label : (m : Module) (kept : Kept m) (body : List Placed) (id : ℕ) → defined m.instrs id ≡ true → IsTarget body id → IsLabel body id
target_label m kept body id is (inl none) = absurd (zero_undefined m kept (ap (defined m.instrs) (sym none) ∙ is))
target_label m kept body id is (inr label) = label

labels_of : (m : Module) (kept : Kept m) (body : List Placed) (ids : List ℕ) → list_all (defined m.instrs) ids ≡ true → AllByRecursion (IsTarget body) ids → AllByRecursion (IsLabel body) ids
labels_of m kept body [] are all = tt
labels_of m kept body (id ∷ ids) are all =
    let parts = and_parts (defined m.instrs id) (list_all (defined m.instrs) ids) are in (target_label m kept body id parts.0 all.0, labels_of m kept body ids parts.1 all.1)

-- the label for a word is one of those of a switch
label_among : (P : ℕ → Type 0) (word default : ℕ) (targets : List ℕ) → P default → AllByRecursion P (seconds targets) → P (label_for word default targets)
label_among P word default [] first all = first
label_among P word default (literal ∷ []) first all = first
label_among P word default (literal ∷ label ∷ targets) first all = by_test (literal == word) (label_among P word default targets first all.1)
  where
    by_test : (b : Bool) → P (label_for word default targets) → P (if b then label else label_for word default targets)
    by_test true later = all.0
    by_test false later = later

module _ (m : Module) (kept : Kept m) (input : Input) (before : Code) (p : Placed) (state : State) where
  -- ---- branches

  branches : (d : Instruction) → Ready m input before p d state → (label : ℕ) → IsLabel state.body label → Fine m input (branching state label)
  branches d r label is =
      let a = at_label m kept state.body r.returned r.start state.body label is.rest r.first is.is in
      subst (λ o. Fine m input (on o (λ code. Going (in_new_block (record state { rest = code }))))) (sym is.is)
      (record {
        bytes = r.bytes;
        returned = r.returned;
        waiting = r.waiting;
        enough = r.enough;
        runs = record { start = r.start; first = r.first; lasting = r.lasting; before = a.before; spot = a.spot; now = inr a.label };
      })

  leads_here : (d : Instruction) → Ready m input before p d state → LeadsIn (IsTarget state.body) (role_or (Some d))
  leads_here d r = subst (λ x. LeadsIn (IsTarget state.body) (role_or x)) r.reads r.spot.leads.0

  mentioned_here : (d : Instruction) → Ready m input before p d state → list_all (defined m.instrs) (table.mentions d) ≡ true
  mentioned_here d r = ap (λ x. list_all (defined m.instrs) (mentions x)) (sym r.reads) ∙ (and_parts _ (list_all (defined m.instrs) (mentions (read p.instr))) r.step.keeps.uses).1

  pub branch : (label : ℕ) → Ready m input before p (instruction.Branch label) state → Fine m input (act m input p.at state (instruction.Branch label))
  branch label r =
      let d = instruction.Branch label in
      branches d r label (target_label m kept state.body label (and_parts (defined m.instrs label) _ (mentioned_here d r)).0 (leads_here d r))

  pub branch_if : (condition on_true on_false : ℕ) → Ready m input before p (instruction.BranchConditional condition on_true on_false) state → Fine m input (act m input p.at state (instruction.BranchConditional condition on_true on_false))
  branch_if condition on_true on_false r =
      let d = instruction.BranchConditional condition on_true on_false in
      let u = usable m kept input before p d state r in
      let named = and_parts (defined m.instrs on_true) _ (mentioned_here d r) in
      let leads = leads_here d r in
      let yes_label = target_label m kept state.body on_true named.0 leads.0 in
      let no_label = target_label m kept state.body on_false (and_parts (defined m.instrs on_false) _ named.1).0 leads.1 in
      with_value_of m kept input before p state d r condition (λ c. if word_in c == 0 then branching state on_false else branching state on_true) u.0
      (value_by m (is_bool_value m) condition refl (λ type is. bool_type_plain m type is) (operands m kept input before p state d r)) (λ c. by_test (word_in c == 0) yes_label no_label)
    where
      by_test : (b : Bool) → IsLabel state.body on_true → IsLabel state.body on_false → Fine m input (if b then branching state on_false else branching state on_true)
      by_test true yes_label no_label = branches (instruction.BranchConditional condition on_true on_false) r on_false no_label
      by_test false yes_label no_label = branches (instruction.BranchConditional condition on_true on_false) r on_true yes_label

  pub switch : (selector default : ℕ) (targets : List ℕ) → Ready m input before p (instruction.Switch selector default targets) state → Fine m input (act m input p.at state (instruction.Switch selector default targets))
  switch selector default targets r =
      let d = instruction.Switch selector default targets in
      let u = usable m kept input before p d state r in
      let named = and_parts (defined m.instrs default) (list_all (defined m.instrs) (seconds targets)) (mentioned_here d r) in
      let leads = leads_here d r in
      let first = target_label m kept state.body default named.0 leads.0 in
      let all = labels_of m kept state.body (seconds targets) named.1 leads.1 in
      with_value_of m kept input before p state d r selector (λ v. branching state (label_for (word_in v) default targets)) u.0 (int_value m selector (operands m kept input before p state d r))
      (λ v. branches d r (label_for (word_in v) default targets) (label_among (IsLabel state.body) (word_in v) default targets first all))

  -- ---- calls

  -- what is held is of the types of parameters
  arguments_held : (d : Instruction) → Ready m input before p d state → (types ids : List ℕ) (go : List Held → Outcome) → AllByRecursion (λ id. usable_as (bare state.body) (where_at m before).block id (defined_as m id) ≡ true) ids → have_each (has_type m) types ids ≡ true
      → list_all (is_taken m) types ≡ true → ((held : List Held) → AreHeld m (length state.variables) types held → Fine m input (go held)) → Fine m input (on_each state ids go)
  arguments_held d r [] [] go all typed taken fine = fine [] tt
  arguments_held d r [] (id ∷ ids) go all typed taken fine = absurd (false≢true typed)
  arguments_held d r (type ∷ types) [] go all typed taken fine = absurd (false≢true typed)
  arguments_held d r (type ∷ types) (id ∷ ids) go all typed taken fine =
      let here = and_parts (has_type m type id) (have_each (has_type m) types ids) typed in
      let may = and_parts (is_taken m type) (list_all (is_taken m) types) taken in
      let g = r.agrees.given id type (has_type_is m type id here.0) (taken_full type may.0) all.0 in
      subst (λ o. Fine m input (on o (λ held. on_each state ids (λ more. go (held ∷ more))))) (sym g.is)
      (arguments_held d r types ids (λ more. go (g.it ∷ more)) all.1 here.1 may.1 (λ more are. fine (g.it ∷ more) (g.of, are)))
    where
      shape_full : (s : Shape) → (is_value_shape s || is_target_of storage_class.FUNCTION (target_in s)) ≡ true → is_void_shape s ≡ false
      shape_full OfVoid is = absurd (false≢true is)
      shape_full _ is = refl

      taken_full : (type : ℕ) → is_taken m type ≡ true → is_void m type ≡ false
      taken_full type is = shape_full (shape_of (defined_as m type)) is

  -- a call waits for its value
  waits : (type id function : ℕ) (arguments : List ℕ) → (r : Ready m input before p (instruction.FunctionCall type id function arguments) state) → Waits m type r.returned (call_from id state)
  waits type id function arguments r =
      let k : kind (read p.instr) ≡ Calls type function arguments = ap kind r.reads in
      let gives : result (read p.instr) ≡ Some id = ap result r.reads in
      record {
        start = r.start;
        first = r.first;
        lasting = r.lasting;
        before = before;
        instr = p.instr;
        function = function;
        arguments = arguments;
        is = k;
        gives = gives;
        own = r.step.keeps.own id gives;
        spot = r.step.goes (ap bounds_one k);
        ids = r.agrees;
      }

  parameters_taken : (s : Shape) → ((first : Bool) × (is_made m first s ≡ true)) → list_all (is_taken m) (parameters_in s) ≡ true
  parameters_taken (OfFunction returned parameters) made =
      (and_parts (is_returned m returned) (list_all (is_taken m) parameters) (and_parts (is_returned m returned && list_all (is_taken m) parameters) made.0 made.1).0).1
  parameters_taken _ made = refl

  pub calls : (type id function : ℕ) (arguments : List ℕ) → Ready m input before p (instruction.FunctionCall type id function arguments) state → Fine m input (act m input p.at state (instruction.FunctionCall type id function arguments))
  calls type id function arguments r =
      let d = instruction.FunctionCall type id function arguments in
      let may : may_call m (where_at m before) type function arguments ≡ true = ap (λ x. call_of m before (kind x)) (sym r.reads) ∙ r.step.keeps.call in
      let third = and_parts _ _ may in
      let second = and_parts _ _ third.0 in
      let first = and_parts (fits_function m type arguments (kind (defined_as m function))) _ second.0 in
      by_function (kind (defined_as m function)) refl first.0
    where
      by_function : (k : Kind) → kind (defined_as m function) ≡ k → fits_function m type arguments k ≡ true → Fine m input (act m input p.at state (instruction.FunctionCall type id function arguments))
      by_function (Begins given own function_type) e is =
          let d = instruction.FunctionCall type id function arguments in
          let u = usable m kept input before p d state r in
          let both = and_parts (given == type) (have_each (has_type m) (parameters_of (defined_as m function_type)) arguments) is in
          let same = eqb-true given type both.0 in
          let b = body_of m kept function type own function_type (e ∙ ap (λ t. Begins t own function_type) same) in
          arguments_held d r (parameters_of (defined_as m function_type)) arguments (λ held. on (function_at m function) (calling m state id held)) u.1 both.1
          (parameters_taken (shape_of (defined_as m function_type)) (made_at m kept function_type))
          (λ held are. subst (λ o. Fine m input (on o (calling m state id held))) (sym b.found)
          (enters m input kept function type function_type b held (call_from id state ∷ state.waiting) state r.bytes r.enough are
          (r.returned, waits type id function arguments r, r.enough, omega arith, r.waiting)))
      by_function _ e is = absurd (false≢true is)

  -- ---- returns

  -- the function goes on that called
  back : (returned outer : ℕ) (call : Waiting) (ids : Ids) → (w : Waits m returned outer call) → Agrees m call.count (bare call.body) (w.instr ∷ (where_at m w.before).block) ids → Runs m call.count outer call.rest call.body call.own ids
  back returned outer call ids w agrees = record {
    start = w.start;
    first = w.first;
    lasting = w.lasting;
    before = w.instr ∷ w.before;
    spot = w.spot;
    now = inl (
      ap (λ k. in_block (stands_after m (where_at m w.before).standing k)) w.is,
      subst (λ l. Agrees m call.count (bare call.body) l ids) (sym (cond-false (bounds_block (read w.instr)) [] (w.instr ∷ (where_at m w.before).block) (ap bounds w.is))) agrees,
    );
  }

  comes_back : (returned outer : ℕ) (call : Waiting) (waiting : List Waiting) (ids : Ids) → HaveBytes m input state.buffers → Runs m call.count outer call.rest call.body call.own ids → length (value_variables m) ≤ call.count → call.count ≤ length state.variables
      → WaitEach m call.count outer waiting → Good m input (record (back_in call waiting state) { ids = ids })
  comes_back returned outer call waiting ids bytes runs enough below waits =
      let size = length-take call.count state.variables in
      let same : call.count ≡ length (take call.count state.variables) = omega (arith, size, below) in
      record {
        bytes = bytes;
        returned = outer;
        runs = subst (λ n. Runs m n outer call.rest call.body call.own ids) same runs;
        waiting = subst (λ n. WaitEach m n outer waiting) same waits;
        enough = subst (λ n. length (value_variables m) ≤ n) same enough;
      }

  returns_nothing : (returned : ℕ) (waiting : List Waiting) → HaveBytes m input state.buffers → is_void m returned ≡ true → WaitEach m (length state.variables) returned waiting → Fine m input (returning m state waiting without_value)
  returns_nothing returned [] bytes void waits = tt
  returns_nothing returned (call ∷ waiting) bytes void waits =
      let w = waits.1 in
      comes_back returned waits.0 call waiting call.ids bytes
      (back returned waits.0 call call.ids w (agree_same m call.count (bare call.body) (where_at m w.before).block call.ids w.instr w.ids (λ id type here block typed full.
      let one : Some id ≡ Some call.result = sym (defines_result w.instr id here) ∙ w.gives in
      let same : id ≡ call.result = cc in
      let both : Some type ≡ Some returned = sym typed ∙ ap (λ n. type_of (defined_as m n)) same ∙ ap type_of w.own ∙ ap type_in w.is in
      let types : type ≡ returned = cc in
      true≢false (sym void ∙ ap (is_void m) (sym types) ∙ full)))) waits.2 waits.3 waits.4

  returns_one : (returned : ℕ) (waiting : List Waiting) (v : Value) → HaveBytes m input state.buffers → IsPlain m returned → WaitEach m (length state.variables) returned waiting → Fine m input (returning m state waiting (with_value v))
  returns_one returned [] v bytes plain waits = tt
  returns_one returned (call ∷ waiting) v bytes plain waits =
      let w = waits.1 in
      comes_back returned waits.0 call waiting (give call.ids call.result (Whole v)) bytes
      (back returned waits.0 call (give call.ids call.result (Whole v)) w (agree_give m call.count (bare call.body) (where_at m w.before).block call.ids w.instr call.result returned (Whole v) w.ids w.gives w.own (ap gives_value w.is) (ap type_in w.is)
      (subst (λ t. IsOf m call.count t (Whole v)) (sym (points_nowhere m returned plain)) tt))) waits.2 waits.3 waits.4

  pub returns : Ready m input before p instruction.Return state → Fine m input (act m input p.at state instruction.Return)
  returns r =
      let void : is_void m r.returned ≡ true = ap (return.begins_void m) (sym r.spot.function) ∙ ap (passes_if (return.may_return m before)) (sym r.reads) ∙ r.step.keeps.returns in
      returns_nothing r.returned state.waiting r.bytes void r.waiting

  pub returns_value : (value : ℕ) → Ready m input before p (instruction.ReturnValue value) state → Fine m input (act m input p.at state (instruction.ReturnValue value))
  returns_value value r =
      let d = instruction.ReturnValue value in
      let u = usable m kept input before p d state r in
      let both = and_parts (not (is_void m r.returned)) (has_type m r.returned value) (ap (return.begins_value m value) (sym r.spot.function) ∙ ap (passes_if (return.may_return m before)) (sym r.reads) ∙ r.step.keeps.returns) in
      let full = not-true (is_void m r.returned) both.0 in
      let valued : is_value_type m r.returned ≡ true = elim (or_cases (is_void m r.returned) (is_value_type m r.returned) r.spot.gives) [ inl void ↦ absurd (true≢false (sym void ∙ full)) | inr valued ↦ valued ] in
      let plain = value_plain (shape_of (defined_as m r.returned)) valued in
      with_value_of m kept input before p state d r value (λ v. returning m state state.waiting (with_value v)) u.0 (value_of_type m r.returned value both.1 plain)
      (λ v. returns_one r.returned state.waiting v r.bytes plain r.waiting)
