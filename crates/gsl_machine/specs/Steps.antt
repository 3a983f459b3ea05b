-- What each instruction of a function does.
use Rattle.std.specs.Prelude.{ℕ, true, false, ◌==◌, if◌then◌else◌, List, [], ◌∷◌, slice_get, Option, Some, None}
use Rattle.gsl_base.specs.declared.input.Input.{Input}
use Rattle.gsl_instr.specs.declared.instruction.Instruction.{Instruction}
use Rattle.gsl_instr.specs.declared.instruction.Instruction.TheVariants as instruction
use Rattle.gsl_words.specs.declared.module.Module.{Module}
use Rattle.gsl_values.specs.declared.value.Value.{Value}
use Rattle.gsl_values.specs.declared.value.Value.TheVariants.{Word}
use Rattle.gsl_tree.specs.Operations.{value_at, with_value_at}
use Rattle.gsl_tree.specs.Values.{parts_in, word_in}
use Rattle.gsl_valid.specs.Kinds.{Variable, shape_of}
use Rattle.gsl_valid.specs.OperandRules.{is_vector}
use Rattle.gsl_valid.specs.Placed.{Placed}
use Rattle.gsl_valid.specs.Types.{defined_as}
use Rattle.gsl_machine.specs.Functions.{back_in, begins_as, call_from, entered, from_label, function_at}
use Rattle.gsl_machine.specs.Interfaces.{globals, output_of}
use Rattle.gsl_machine.specs.Memory.{along, counting, loading, storing}
use Rattle.gsl_machine.specs.Operations.{arithmetic, binary, comparison, constructed, extend, extracted, inserted, logical, select, shift, shuffled, unary, Operator}
use Rattle.gsl_machine.specs.State.{Held, Outcome, Going, Ended, Strayed, Stuck, Points, State, Waiting, giving, giving_value, on, on_pointer, on_whole}

-- an operation that may draw choices
abbrev pub drawing : State → ℕ → (List ℕ → Value × List ℕ) → Outcome
drawing state id draw = giving_value (record state { choices = (draw state.choices).1 }) id (draw state.choices).0

-- an operation on two values
abbrev pub on_two : State → ℕ → ℕ → ℕ → Operator → Outcome
on_two state id a b operator = on_whole (state.ids a) (λ x. on_whole (state.ids b) (λ y. drawing state id (binary operator x y)))

-- goes on with the values of ids in their order
abbrev pub on_all : State → List ℕ → (List Value → Outcome) → Outcome
on_all state [] go = go []
on_all state (id ∷ ids) go = on_whole (state.ids id) (λ v. on_all state ids (λ vs. go (v ∷ vs)))

-- and with what they stand for, values and pointers alike
abbrev pub on_each : State → List ℕ → (List Held → Outcome) → Outcome
on_each state [] go = go []
on_each state (id ∷ ids) go = on (state.ids id) (λ held. on_each state ids (λ more. go (held ∷ more)))

-- a block begins with nothing but what lasts for the whole function
abbrev pub in_new_block : State → State
in_new_block state = record state { ids = state.own }

-- a branch leads to a label of the function
abbrev pub branching : State → ℕ → Outcome
branching state label = on (from_label state.body label) (λ code. Going (in_new_block (record state { rest = code })))

-- the label that a word is for, among literals with their labels
abbrev pub label_for : ℕ → ℕ → List ℕ → ℕ
label_for word default [] = default
label_for word default (literal ∷ []) = default
label_for word default (literal ∷ label ∷ targets) = if literal == word then label else label_for word default targets

-- the return of the function that was called last, or of `main`
abbrev pub returning : Module → State → List Waiting → (Waiting → State → Outcome) → Outcome
returning m state [] go = Ended (output_of m false state)
returning m state (call ∷ calls) go = go call (back_in call calls state)

-- a call with no value leaves its id without one
abbrev pub without_value : Waiting → State → Outcome
without_value call state = Going state

abbrev pub with_value : Value → Waiting → State → Outcome
with_value v call state = giving_value state call.result v

abbrev pub calling : Module → State → ℕ → List Held → List Placed → Outcome
calling m state id arguments body = Going (entered m (globals m) body arguments (call_from id state ∷ state.waiting) state)

-- a variable of a function has its initialiser again where it stands
abbrev pub declaring : Module → Input → State → Variable → Outcome
declaring m input state v = on_pointer (state.ids v.id) (λ to. storing m input state to (begins_as m v) Going)

-- the component at an index, which strays where it is out of bounds
abbrev pub picking : ℕ → State → ℕ → Value → Option Value → Outcome
picking place state id vector None = Strayed place
picking place state id vector (Some component) = giving_value state id component

-- What an instruction does that stands at a place, with the instructions behind it still to come. What stands outside blocks does nothing.
abbrev pub act : Module → Input → ℕ → State → Instruction → Outcome
act m input place state (instruction.Name target text) = Stuck
act m input place state (instruction.MemberName target member text) = Stuck
act m input place state (instruction.ExtInstImport result name) = Stuck
act m input place state (instruction.ExtInst type result set number operands) = on_all state operands (λ vs. giving_value state result (extend number vs))
act m input place state (instruction.MemoryModel addressing memory) = Stuck
act m input place state (instruction.EntryPoint model function name interface) = Stuck
act m input place state (instruction.ExecutionMode function mode parts) = Stuck
act m input place state (instruction.Capability capability) = Stuck
act m input place state (instruction.TypeVoid result) = Stuck
act m input place state (instruction.TypeBool result) = Stuck
act m input place state (instruction.TypeInt result width signedness) = Stuck
act m input place state (instruction.TypeVector result component count) = Stuck
act m input place state (instruction.TypeArray result element length) = Stuck
act m input place state (instruction.TypeRuntimeArray result element) = Stuck
act m input place state (instruction.TypeStruct result members) = Stuck
act m input place state (instruction.TypePointer result class pointee) = Stuck
act m input place state (instruction.TypeFunction result returned parameters) = Stuck
act m input place state (instruction.ConstantTrue type result) = Stuck
act m input place state (instruction.ConstantFalse type result) = Stuck
act m input place state (instruction.ConstantNull type result) = Stuck
act m input place state (instruction.Constant type result value) = Stuck
act m input place state (instruction.ConstantComposite type result parts) = Stuck
act m input place state (instruction.CompositeConstruct type result parts) =
    on_all state parts (λ vs. giving_value state result (constructed (is_vector (shape_of (defined_as m type))) vs))
act m input place state (instruction.Function type result control function_type) = Stuck
act m input place state (instruction.FunctionParameter type result) = Stuck
act m input place state instruction.FunctionEnd = Stuck
act m input place state (instruction.FunctionCall type result function arguments) =
    on_each state arguments (λ held. on (function_at m function) (calling m state result held))
act m input place state (instruction.Variable type result class initialiser) =
    declaring m input state (record { type = type; id = result; class = class; initialiser = initialiser })
act m input place state (instruction.Load type result pointer) = on_pointer (state.ids pointer) (λ from. loading m input state from (giving_value state result))
act m input place state (instruction.Store pointer value) =
    on_pointer (state.ids pointer) (λ to. on_whole (state.ids value) (λ v. storing m input state to v Going))
act m input place state (instruction.AccessChain type result base indexes) =
    on_pointer (state.ids base) (λ from. along m input place state from indexes (λ to. giving state result (Points to)))
act m input place state (instruction.ArrayLength type result pointer member) =
    on_pointer (state.ids pointer) (λ from. counting m input state from member (λ count. giving_value state result (Word count)))
act m input place state (instruction.Decorate target decoration literals) = Stuck
act m input place state (instruction.MemberDecorate target member decoration literals) = Stuck
act m input place state (instruction.VectorExtractDynamic type result vector index) =
    on_whole (state.ids vector) (λ v. on_whole (state.ids index) (λ i. picking place state result v (slice_get (parts_in v) (word_in i))))
act m input place state (instruction.VectorShuffle type result first second components) =
    on_whole (state.ids first) (λ a. on_whole (state.ids second) (λ b. giving_value state result (shuffled a b components)))
act m input place state (instruction.CompositeExtract type result composite indexes) =
    on_whole (state.ids composite) (λ v. giving_value state result (value_at v indexes))
act m input place state (instruction.CompositeInsert type result part composite indexes) =
    on_whole (state.ids part) (λ p. on_whole (state.ids composite) (λ v. giving_value state result (with_value_at v indexes p)))
act m input place state (instruction.Unary op type result a) = on_whole (state.ids a) (λ v. giving_value state result (unary op v))
act m input place state (instruction.Arithmetic op type result a b) = on_two state result a b (arithmetic op)
act m input place state (instruction.Shift op type result base amount) = on_two state result base amount (shift op)
act m input place state (instruction.Logical op type result a b) = on_two state result a b (logical op)
act m input place state (instruction.Comparison op type result a b) = on_two state result a b (comparison op)
act m input place state (instruction.Select type result condition a b) =
    on_whole (state.ids condition) (λ c. on_whole (state.ids a) (λ x. on_whole (state.ids b) (λ y. giving_value state result (select c x y))))
act m input place state (instruction.BitFieldInsert type result base insert offset count) =
    on_whole (state.ids base) (λ x. on_whole (state.ids insert) (λ y. on_whole (state.ids offset) (λ at. on_whole (state.ids count) (λ n. drawing state result (inserted x y at n)))))
act m input place state (instruction.BitFieldExtract op type result base offset count) =
    on_whole (state.ids base) (λ x. on_whole (state.ids offset) (λ at. on_whole (state.ids count) (λ n. drawing state result (extracted op x at n))))
act m input place state (instruction.LoopMerge merge continue_target control) = Going state
act m input place state (instruction.SelectionMerge merge control) = Going state
act m input place state (instruction.Label result) = Going (in_new_block state)
act m input place state (instruction.Branch target) = branching state target
act m input place state (instruction.BranchConditional condition on_true on_false) =
    on_whole (state.ids condition) (λ c. if word_in c == 0 then branching state on_false else branching state on_true)
act m input place state (instruction.Switch selector default targets) = on_whole (state.ids selector) (λ v. branching state (label_for (word_in v) default targets))
act m input place state instruction.Kill = Ended (output_of m true state)
act m input place state instruction.Return = returning m state state.waiting without_value
act m input place state (instruction.ReturnValue value) = on_whole (state.ids value) (λ v. returning m state state.waiting (with_value v))
