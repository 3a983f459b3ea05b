-- The operands of each form of instructions (SPIR-V 1.0, 3.32), and how many of them there may be.
use Rattle.std.specs.Prelude.{ℕ, ◌-◌, ◌%◌, Bool, true, false, ◌==◌, ◌&&◌, ◌||◌, nat_le, List, [], ◌∷◌, length, find, Option}
use Rattle.std.specs.List.{list_any}
use Rattle.std.specs.Option.{option_map}
use Rattle.gsl_instr.specs.declared.slot.Enumeration.TheVariants.{Capability as OfCapability, Addressing, Memory, Model, Mode, Class, Decoration}
use Rattle.gsl_instr.specs.declared.slot.Slot.{Slot}
use Rattle.gsl_instr.specs.declared.slot.Slot.TheVariants.{Result, Id, Forward, Number, Named, OfDecoration, Text}
use Rattle.gsl_instr.specs.declared.slot.Rest.{Rest}
use Rattle.gsl_instr.specs.declared.slot.Rest.TheVariants.{Nothing, Maybe, Many, Any, NoneOrThree, Pairs}
use Rattle.gsl_instr.specs.declared.form.Form.{Form}
use Rattle.gsl_instr.specs.declared.form.Form.TheVariants as form
use Rattle.gsl_instr.specs.declared.form.TheConstants.{TABLE}

-- the form of an opcode
unfoldable pub form_of : ℕ → Option Form
form_of op = option_map (λ row. row.form) (find (λ row. row.op == op) TABLE)

-- The operands that every instruction of a form has. A type's id comes first, then the result's.
abbrev pub slots : Form → List Slot
slots form.Name = Forward ∷ Text ∷ []
slots form.MemberName = Forward ∷ Number ∷ Text ∷ []
slots form.ExtInstImport = Result ∷ Text ∷ []
slots form.ExtInst = Id ∷ Result ∷ Id ∷ Number ∷ []
slots form.MemoryModel = (Named Addressing) ∷ (Named Memory) ∷ []
slots form.EntryPoint = (Named Model) ∷ Forward ∷ Text ∷ []
slots form.ExecutionMode = Forward ∷ (Named Mode) ∷ []
slots form.Capability = (Named OfCapability) ∷ []
slots form.TypeVoid = Result ∷ []
slots form.TypeBool = Result ∷ []
slots form.TypeInt = Result ∷ Number ∷ Number ∷ []
slots form.TypeVector = Result ∷ Id ∷ Number ∷ []
slots form.TypeArray = Result ∷ Id ∷ Id ∷ []
slots form.TypeRuntimeArray = Result ∷ Id ∷ []
slots form.TypeStruct = Result ∷ []
slots form.TypePointer = Result ∷ (Named Class) ∷ Id ∷ []
slots form.TypeFunction = Result ∷ Id ∷ []
slots form.ConstantTrue = Id ∷ Result ∷ []
slots form.ConstantFalse = Id ∷ Result ∷ []
slots form.ConstantNull = Id ∷ Result ∷ []
slots form.Constant = Id ∷ Result ∷ Number ∷ []
slots form.ConstantComposite = Id ∷ Result ∷ []
slots form.CompositeConstruct = Id ∷ Result ∷ []
slots form.Function = Id ∷ Result ∷ Number ∷ Id ∷ []
slots form.FunctionParameter = Id ∷ Result ∷ []
slots form.FunctionEnd = []
slots form.FunctionCall = Id ∷ Result ∷ Forward ∷ []
slots form.Variable = Id ∷ Result ∷ (Named Class) ∷ []
slots form.Load = Id ∷ Result ∷ Id ∷ []
slots form.Store = Id ∷ Id ∷ []
slots form.AccessChain = Id ∷ Result ∷ Id ∷ []
slots form.ArrayLength = Id ∷ Result ∷ Id ∷ Number ∷ []
slots form.Decorate = Forward ∷ (Named Decoration) ∷ []
slots form.MemberDecorate = Forward ∷ Number ∷ (Named Decoration) ∷ []
slots form.VectorExtractDynamic = Id ∷ Result ∷ Id ∷ Id ∷ []
slots form.VectorShuffle = Id ∷ Result ∷ Id ∷ Id ∷ []
slots form.CompositeExtract = Id ∷ Result ∷ Id ∷ []
slots form.CompositeInsert = Id ∷ Result ∷ Id ∷ Id ∷ []
slots form.Unary = Id ∷ Result ∷ Id ∷ []
slots form.Arithmetic = Id ∷ Result ∷ Id ∷ Id ∷ []
slots form.Shift = Id ∷ Result ∷ Id ∷ Id ∷ []
slots form.Logical = Id ∷ Result ∷ Id ∷ Id ∷ []
slots form.Comparison = Id ∷ Result ∷ Id ∷ Id ∷ []
slots form.Select = Id ∷ Result ∷ Id ∷ Id ∷ Id ∷ []
slots form.BitFieldInsert = Id ∷ Result ∷ Id ∷ Id ∷ Id ∷ Id ∷ []
slots form.BitFieldExtract = Id ∷ Result ∷ Id ∷ Id ∷ Id ∷ []
slots form.LoopMerge = Forward ∷ Forward ∷ Number ∷ []
slots form.SelectionMerge = Forward ∷ Number ∷ []
slots form.Label = Result ∷ []
slots form.Branch = Forward ∷ []
slots form.BranchConditional = Id ∷ Forward ∷ Forward ∷ []
slots form.Switch = Id ∷ Forward ∷ []
slots form.Kill = []
slots form.Return = []
slots form.ReturnValue = Id ∷ []

-- what follows them
abbrev pub rest : Form → Rest
rest form.Name = Nothing
rest form.MemberName = Nothing
rest form.ExtInstImport = Nothing
rest form.ExtInst = Many Id 1 3
rest form.MemoryModel = Nothing
rest form.EntryPoint = Any Forward 0
rest form.ExecutionMode = NoneOrThree
rest form.Capability = Nothing
rest form.TypeVoid = Nothing
rest form.TypeBool = Nothing
rest form.TypeInt = Nothing
rest form.TypeVector = Nothing
rest form.TypeArray = Nothing
rest form.TypeRuntimeArray = Nothing
rest form.TypeStruct = Any Id 1
rest form.TypePointer = Nothing
rest form.TypeFunction = Any Id 0
rest form.ConstantTrue = Nothing
rest form.ConstantFalse = Nothing
rest form.ConstantNull = Nothing
rest form.Constant = Nothing
rest form.ConstantComposite = Any Id 1
rest form.CompositeConstruct = Any Id 1
rest form.Function = Nothing
rest form.FunctionParameter = Nothing
rest form.FunctionEnd = Nothing
rest form.FunctionCall = Any Id 0
rest form.Variable = Maybe Id
rest form.Load = Nothing
rest form.Store = Nothing
rest form.AccessChain = Any Id 1
rest form.ArrayLength = Nothing
rest form.Decorate = Maybe OfDecoration
rest form.MemberDecorate = Maybe OfDecoration
rest form.VectorExtractDynamic = Nothing
rest form.VectorShuffle = Many Number 2 4
rest form.CompositeExtract = Any Number 1
rest form.CompositeInsert = Any Number 1
rest form.Unary = Nothing
rest form.Arithmetic = Nothing
rest form.Shift = Nothing
rest form.Logical = Nothing
rest form.Comparison = Nothing
rest form.Select = Nothing
rest form.BitFieldInsert = Nothing
rest form.BitFieldExtract = Nothing
rest form.LoopMerge = Nothing
rest form.SelectionMerge = Nothing
rest form.Label = Nothing
rest form.Branch = Nothing
rest form.BranchConditional = Nothing
rest form.Switch = Pairs
rest form.Kill = Nothing
rest form.Return = Nothing
rest form.ReturnValue = Nothing

-- whether so many operands may follow
abbrev pub allows : Rest → ℕ → Bool
allows Nothing n = n == 0
allows (Maybe slot) n = nat_le n 1
allows (Many slot least most) n = nat_le least n && nat_le n most
allows (Any slot least) n = nat_le least n
allows NoneOrThree n = n == 0 || n == 3
allows Pairs n = n % 2 == 0

-- what the next of them is, of pairs the first or the second
abbrev pub next_of : Rest → Bool → Slot
next_of Nothing second = Number
next_of (Maybe slot) second = slot
next_of (Many slot least most) second = slot
next_of (Any slot least) second = slot
next_of NoneOrThree second = Number
next_of Pairs false = Number
next_of Pairs true = Forward

-- whether an operand is a text, which is the only one that may fill several words
abbrev pub is_text : Slot → Bool
is_text Result = false
is_text Id = false
is_text Forward = false
is_text Number = false
is_text (Named enumeration) = false
is_text OfDecoration = false
is_text Text = true

-- whether a form has a text
abbrev pub has_text : Form → Bool
has_text form = list_any is_text (slots form)

-- Whether an instruction of a form may have so many operand words. With a text any count will do that has
-- a word for each operand.
abbrev pub allows_words : Form → ℕ → Bool
allows_words form n = nat_le (length (slots form)) n && (has_text form || allows (rest form) (n - length (slots form)))
