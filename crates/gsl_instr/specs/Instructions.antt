-- Instructions by the roles of their operands, and the ids that they define and use.
use Rattle.std.specs.Prelude.{ℕ, List, [], ◌∷◌, drop, Option, Some, None, slice_index}
use Rattle.std.specs.Option.{option_map}
use Rattle.gsl_instr.specs.declared.form.Form.{Form}
use Rattle.gsl_instr.specs.declared.form.Form.TheVariants as form
use Rattle.gsl_instr.specs.declared.instruction.Instruction.{Instruction}
use Rattle.gsl_instr.specs.declared.instruction.Instruction.TheVariants as instruction
use Rattle.gsl_instr.specs.Forms.{form_of}
use Rattle.gsl_instr.specs.Texts.{text_words, after_text}

-- an operand by its place, 0 where there is none
abbrev pub arg : List ℕ → ℕ → ℕ
arg args k = slice_index args k

-- the instruction of a form and its operand words
abbrev pub read_as : Form → ℕ → List ℕ → Instruction
read_as form.Name op args = instruction.Name (arg args 0) (drop 1 args)
read_as form.MemberName op args = instruction.MemberName (arg args 0) (arg args 1) (drop 2 args)
read_as form.ExtInstImport op args = instruction.ExtInstImport (arg args 0) (drop 1 args)
read_as form.ExtInst op args = instruction.ExtInst (arg args 0) (arg args 1) (arg args 2) (arg args 3) (drop 4 args)
read_as form.MemoryModel op args = instruction.MemoryModel (arg args 0) (arg args 1)
read_as form.EntryPoint op args = instruction.EntryPoint (arg args 0) (arg args 1) (text_words (drop 2 args)) (after_text (drop 2 args))
read_as form.ExecutionMode op args = instruction.ExecutionMode (arg args 0) (arg args 1) (drop 2 args)
read_as form.Capability op args = instruction.Capability (arg args 0)
read_as form.TypeVoid op args = instruction.TypeVoid (arg args 0)
read_as form.TypeBool op args = instruction.TypeBool (arg args 0)
read_as form.TypeInt op args = instruction.TypeInt (arg args 0) (arg args 1) (arg args 2)
read_as form.TypeVector op args = instruction.TypeVector (arg args 0) (arg args 1) (arg args 2)
read_as form.TypeArray op args = instruction.TypeArray (arg args 0) (arg args 1) (arg args 2)
read_as form.TypeRuntimeArray op args = instruction.TypeRuntimeArray (arg args 0) (arg args 1)
read_as form.TypeStruct op args = instruction.TypeStruct (arg args 0) (drop 1 args)
read_as form.TypePointer op args = instruction.TypePointer (arg args 0) (arg args 1) (arg args 2)
read_as form.TypeFunction op args = instruction.TypeFunction (arg args 0) (arg args 1) (drop 2 args)
read_as form.ConstantTrue op args = instruction.ConstantTrue (arg args 0) (arg args 1)
read_as form.ConstantFalse op args = instruction.ConstantFalse (arg args 0) (arg args 1)
read_as form.ConstantNull op args = instruction.ConstantNull (arg args 0) (arg args 1)
read_as form.Constant op args = instruction.Constant (arg args 0) (arg args 1) (arg args 2)
read_as form.ConstantComposite op args = instruction.ConstantComposite (arg args 0) (arg args 1) (drop 2 args)
read_as form.CompositeConstruct op args = instruction.CompositeConstruct (arg args 0) (arg args 1) (drop 2 args)
read_as form.Function op args = instruction.Function (arg args 0) (arg args 1) (arg args 2) (arg args 3)
read_as form.FunctionParameter op args = instruction.FunctionParameter (arg args 0) (arg args 1)
read_as form.FunctionEnd op args = instruction.FunctionEnd
read_as form.FunctionCall op args = instruction.FunctionCall (arg args 0) (arg args 1) (arg args 2) (drop 3 args)
read_as form.Variable op args = instruction.Variable (arg args 0) (arg args 1) (arg args 2) (drop 3 args)
read_as form.Load op args = instruction.Load (arg args 0) (arg args 1) (arg args 2)
read_as form.Store op args = instruction.Store (arg args 0) (arg args 1)
read_as form.AccessChain op args = instruction.AccessChain (arg args 0) (arg args 1) (arg args 2) (drop 3 args)
read_as form.ArrayLength op args = instruction.ArrayLength (arg args 0) (arg args 1) (arg args 2) (arg args 3)
read_as form.Decorate op args = instruction.Decorate (arg args 0) (arg args 1) (drop 2 args)
read_as form.MemberDecorate op args = instruction.MemberDecorate (arg args 0) (arg args 1) (arg args 2) (drop 3 args)
read_as form.VectorExtractDynamic op args = instruction.VectorExtractDynamic (arg args 0) (arg args 1) (arg args 2) (arg args 3)
read_as form.VectorShuffle op args = instruction.VectorShuffle (arg args 0) (arg args 1) (arg args 2) (arg args 3) (drop 4 args)
read_as form.CompositeExtract op args = instruction.CompositeExtract (arg args 0) (arg args 1) (arg args 2) (drop 3 args)
read_as form.CompositeInsert op args = instruction.CompositeInsert (arg args 0) (arg args 1) (arg args 2) (arg args 3) (drop 4 args)
read_as form.Unary op args = instruction.Unary op (arg args 0) (arg args 1) (arg args 2)
read_as form.Arithmetic op args = instruction.Arithmetic op (arg args 0) (arg args 1) (arg args 2) (arg args 3)
read_as form.Shift op args = instruction.Shift op (arg args 0) (arg args 1) (arg args 2) (arg args 3)
read_as form.Logical op args = instruction.Logical op (arg args 0) (arg args 1) (arg args 2) (arg args 3)
read_as form.Comparison op args = instruction.Comparison op (arg args 0) (arg args 1) (arg args 2) (arg args 3)
read_as form.Select op args = instruction.Select (arg args 0) (arg args 1) (arg args 2) (arg args 3) (arg args 4)
read_as form.BitFieldInsert op args = instruction.BitFieldInsert (arg args 0) (arg args 1) (arg args 2) (arg args 3) (arg args 4) (arg args 5)
read_as form.BitFieldExtract op args = instruction.BitFieldExtract op (arg args 0) (arg args 1) (arg args 2) (arg args 3) (arg args 4)
read_as form.LoopMerge op args = instruction.LoopMerge (arg args 0) (arg args 1) (arg args 2)
read_as form.SelectionMerge op args = instruction.SelectionMerge (arg args 0) (arg args 1)
read_as form.Label op args = instruction.Label (arg args 0)
read_as form.Branch op args = instruction.Branch (arg args 0)
read_as form.BranchConditional op args = instruction.BranchConditional (arg args 0) (arg args 1) (arg args 2)
read_as form.Switch op args = instruction.Switch (arg args 0) (arg args 1) (drop 2 args)
read_as form.Kill op args = instruction.Kill
read_as form.Return op args = instruction.Return
read_as form.ReturnValue op args = instruction.ReturnValue (arg args 0)

-- the instruction of an opcode and its operand words
abbrev pub read : ℕ → List ℕ → Option Instruction
read op args = option_map (λ form. read_as form op args) (form_of op)

-- the id that an instruction defines
abbrev pub result_of : Instruction → Option ℕ
result_of (instruction.Name target text) = None
result_of (instruction.MemberName target member text) = None
result_of (instruction.ExtInstImport result name) = Some result
result_of (instruction.ExtInst type result set number operands) = Some result
result_of (instruction.MemoryModel addressing memory) = None
result_of (instruction.EntryPoint model function name interface) = None
result_of (instruction.ExecutionMode function mode parts) = None
result_of (instruction.Capability capability) = None
result_of (instruction.TypeVoid result) = Some result
result_of (instruction.TypeBool result) = Some result
result_of (instruction.TypeInt result width signedness) = Some result
result_of (instruction.TypeVector result component count) = Some result
result_of (instruction.TypeArray result element length) = Some result
result_of (instruction.TypeRuntimeArray result element) = Some result
result_of (instruction.TypeStruct result members) = Some result
result_of (instruction.TypePointer result class pointee) = Some result
result_of (instruction.TypeFunction result returned parameters) = Some result
result_of (instruction.ConstantTrue type result) = Some result
result_of (instruction.ConstantFalse type result) = Some result
result_of (instruction.ConstantNull type result) = Some result
result_of (instruction.Constant type result value) = Some result
result_of (instruction.ConstantComposite type result parts) = Some result
result_of (instruction.CompositeConstruct type result parts) = Some result
result_of (instruction.Function type result control function_type) = Some result
result_of (instruction.FunctionParameter type result) = Some result
result_of instruction.FunctionEnd = None
result_of (instruction.FunctionCall type result function arguments) = Some result
result_of (instruction.Variable type result class initialiser) = Some result
result_of (instruction.Load type result pointer) = Some result
result_of (instruction.Store pointer value) = None
result_of (instruction.AccessChain type result base indexes) = Some result
result_of (instruction.ArrayLength type result pointer member) = Some result
result_of (instruction.Decorate target decoration literals) = None
result_of (instruction.MemberDecorate target member decoration literals) = None
result_of (instruction.VectorExtractDynamic type result vector index) = Some result
result_of (instruction.VectorShuffle type result first second components) = Some result
result_of (instruction.CompositeExtract type result composite indexes) = Some result
result_of (instruction.CompositeInsert type result part composite indexes) = Some result
result_of (instruction.Unary op type result a) = Some result
result_of (instruction.Arithmetic op type result a b) = Some result
result_of (instruction.Shift op type result base shift) = Some result
result_of (instruction.Logical op type result a b) = Some result
result_of (instruction.Comparison op type result a b) = Some result
result_of (instruction.Select type result condition a b) = Some result
result_of (instruction.BitFieldInsert type result base insert offset count) = Some result
result_of (instruction.BitFieldExtract op type result base offset count) = Some result
result_of (instruction.LoopMerge merge continue_target control) = None
result_of (instruction.SelectionMerge merge control) = None
result_of (instruction.Label result) = Some result
result_of (instruction.Branch target) = None
result_of (instruction.BranchConditional condition on_true on_false) = None
result_of (instruction.Switch selector default targets) = None
result_of instruction.Kill = None
result_of instruction.Return = None
result_of (instruction.ReturnValue value) = None

-- every second one of some words
abbrev pub seconds : List ℕ → List ℕ
seconds [] = []
seconds (word ∷ []) = []
seconds (word ∷ second ∷ words) = second ∷ seconds words

-- the ids that an instruction uses and that are defined before it
abbrev pub needs : Instruction → List ℕ
needs (instruction.Name target text) = []
needs (instruction.MemberName target member text) = []
needs (instruction.ExtInstImport result name) = []
needs (instruction.ExtInst type result set number operands) = type ∷ set ∷ operands
needs (instruction.MemoryModel addressing memory) = []
needs (instruction.EntryPoint model function name interface) = []
needs (instruction.ExecutionMode function mode parts) = []
needs (instruction.Capability capability) = []
needs (instruction.TypeVoid result) = []
needs (instruction.TypeBool result) = []
needs (instruction.TypeInt result width signedness) = []
needs (instruction.TypeVector result component count) = component ∷ []
needs (instruction.TypeArray result element length) = element ∷ length ∷ []
needs (instruction.TypeRuntimeArray result element) = element ∷ []
needs (instruction.TypeStruct result members) = members
needs (instruction.TypePointer result class pointee) = pointee ∷ []
needs (instruction.TypeFunction result returned parameters) = returned ∷ parameters
needs (instruction.ConstantTrue type result) = type ∷ []
needs (instruction.ConstantFalse type result) = type ∷ []
needs (instruction.ConstantNull type result) = type ∷ []
needs (instruction.Constant type result value) = type ∷ []
needs (instruction.ConstantComposite type result parts) = type ∷ parts
needs (instruction.CompositeConstruct type result parts) = type ∷ parts
needs (instruction.Function type result control function_type) = type ∷ function_type ∷ []
needs (instruction.FunctionParameter type result) = type ∷ []
needs instruction.FunctionEnd = []
needs (instruction.FunctionCall type result function arguments) = type ∷ arguments
needs (instruction.Variable type result class initialiser) = type ∷ initialiser
needs (instruction.Load type result pointer) = type ∷ pointer ∷ []
needs (instruction.Store pointer value) = pointer ∷ value ∷ []
needs (instruction.AccessChain type result base indexes) = type ∷ base ∷ indexes
needs (instruction.ArrayLength type result pointer member) = type ∷ pointer ∷ []
needs (instruction.Decorate target decoration literals) = []
needs (instruction.MemberDecorate target member decoration literals) = []
needs (instruction.VectorExtractDynamic type result vector index) = type ∷ vector ∷ index ∷ []
needs (instruction.VectorShuffle type result first second components) = type ∷ first ∷ second ∷ []
needs (instruction.CompositeExtract type result composite indexes) = type ∷ composite ∷ []
needs (instruction.CompositeInsert type result part composite indexes) = type ∷ part ∷ composite ∷ []
needs (instruction.Unary op type result a) = type ∷ a ∷ []
needs (instruction.Arithmetic op type result a b) = type ∷ a ∷ b ∷ []
needs (instruction.Shift op type result base shift) = type ∷ base ∷ shift ∷ []
needs (instruction.Logical op type result a b) = type ∷ a ∷ b ∷ []
needs (instruction.Comparison op type result a b) = type ∷ a ∷ b ∷ []
needs (instruction.Select type result condition a b) = type ∷ condition ∷ a ∷ b ∷ []
needs (instruction.BitFieldInsert type result base insert offset count) = type ∷ base ∷ insert ∷ offset ∷ count ∷ []
needs (instruction.BitFieldExtract op type result base offset count) = type ∷ base ∷ offset ∷ count ∷ []
needs (instruction.LoopMerge merge continue_target control) = []
needs (instruction.SelectionMerge merge control) = []
needs (instruction.Label result) = []
needs (instruction.Branch target) = []
needs (instruction.BranchConditional condition on_true on_false) = condition ∷ []
needs (instruction.Switch selector default targets) = selector ∷ []
needs instruction.Kill = []
needs instruction.Return = []
needs (instruction.ReturnValue value) = value ∷ []

-- the ids that it uses and that may be defined later: what names, decorations and entry points speak of, callees and labels
abbrev pub mentions : Instruction → List ℕ
mentions (instruction.Name target text) = target ∷ []
mentions (instruction.MemberName target member text) = target ∷ []
mentions (instruction.ExtInstImport result name) = []
mentions (instruction.ExtInst type result set number operands) = []
mentions (instruction.MemoryModel addressing memory) = []
mentions (instruction.EntryPoint model function name interface) = function ∷ interface
mentions (instruction.ExecutionMode function mode parts) = function ∷ []
mentions (instruction.Capability capability) = []
mentions (instruction.TypeVoid result) = []
mentions (instruction.TypeBool result) = []
mentions (instruction.TypeInt result width signedness) = []
mentions (instruction.TypeVector result component count) = []
mentions (instruction.TypeArray result element length) = []
mentions (instruction.TypeRuntimeArray result element) = []
mentions (instruction.TypeStruct result members) = []
mentions (instruction.TypePointer result class pointee) = []
mentions (instruction.TypeFunction result returned parameters) = []
mentions (instruction.ConstantTrue type result) = []
mentions (instruction.ConstantFalse type result) = []
mentions (instruction.ConstantNull type result) = []
mentions (instruction.Constant type result value) = []
mentions (instruction.ConstantComposite type result parts) = []
mentions (instruction.CompositeConstruct type result parts) = []
mentions (instruction.Function type result control function_type) = []
mentions (instruction.FunctionParameter type result) = []
mentions instruction.FunctionEnd = []
mentions (instruction.FunctionCall type result function arguments) = function ∷ []
mentions (instruction.Variable type result class initialiser) = []
mentions (instruction.Load type result pointer) = []
mentions (instruction.Store pointer value) = []
mentions (instruction.AccessChain type result base indexes) = []
mentions (instruction.ArrayLength type result pointer member) = []
mentions (instruction.Decorate target decoration literals) = target ∷ []
mentions (instruction.MemberDecorate target member decoration literals) = target ∷ []
mentions (instruction.VectorExtractDynamic type result vector index) = []
mentions (instruction.VectorShuffle type result first second components) = []
mentions (instruction.CompositeExtract type result composite indexes) = []
mentions (instruction.CompositeInsert type result part composite indexes) = []
mentions (instruction.Unary op type result a) = []
mentions (instruction.Arithmetic op type result a b) = []
mentions (instruction.Shift op type result base shift) = []
mentions (instruction.Logical op type result a b) = []
mentions (instruction.Comparison op type result a b) = []
mentions (instruction.Select type result condition a b) = []
mentions (instruction.BitFieldInsert type result base insert offset count) = []
mentions (instruction.BitFieldExtract op type result base offset count) = []
mentions (instruction.LoopMerge merge continue_target control) = merge ∷ continue_target ∷ []
mentions (instruction.SelectionMerge merge control) = merge ∷ []
mentions (instruction.Label result) = []
mentions (instruction.Branch target) = target ∷ []
mentions (instruction.BranchConditional condition on_true on_false) = on_true ∷ on_false ∷ []
mentions (instruction.Switch selector default targets) = default ∷ seconds targets
mentions instruction.Kill = []
mentions instruction.Return = []
mentions (instruction.ReturnValue value) = []
