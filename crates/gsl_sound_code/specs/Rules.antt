-- What the rules of validity ask of each instruction of a module.
use Rattle.std.specs.Prelude.{◌≡◌, ℕ, true, [], ◌∷◌, Some}
use Rattle.gsl_words.specs.Instructions.{IsInTable}
use Rattle.gsl_words.specs.declared.module.Instr.{Instr}
use Rattle.gsl_words.specs.declared.module.Module.{Module}
use Rattle.gsl_valid.specs.CallRules.{call_kept}
use Rattle.gsl_valid.specs.ConstantRules.{constant_typed}
use Rattle.gsl_valid.specs.DecorationRules.{decorated}
use Rattle.gsl_valid.specs.DefinedBeforeUse.{uses_defined}
use Rattle.gsl_valid.specs.EntryRules.{entry_kept}
use Rattle.gsl_valid.specs.ExtendedRules as extended
use Rattle.gsl_valid.specs.FunctionRules.{in_shape}
use Rattle.gsl_valid.specs.GlobalRules.{global_kept}
use Rattle.gsl_valid.specs.Ids.{result}
use Rattle.gsl_valid.specs.IdsDefinedOnce.{defines_once}
use Rattle.gsl_valid.specs.Instruction.{read}
use Rattle.gsl_valid.specs.LayoutRules.{laid}
use Rattle.gsl_valid.specs.LocalityRules.{uses_near}
use Rattle.gsl_valid.specs.MemoryRules.{memory_kept}
use Rattle.gsl_valid.specs.OperandRules.{typed}
use Rattle.gsl_valid.specs.Placed.{Code}
use Rattle.gsl_valid.specs.ReturnRules.{returns_kept}
use Rattle.gsl_valid.specs.Search.{from_here, whole}
use Rattle.gsl_valid.specs.Sections.{in_section}
use Rattle.gsl_valid.specs.StructureRules.{begins_structured}
use Rattle.gsl_valid.specs.TypeRules.{type_made}
use Rattle.gsl_valid.specs.Types.{defined_as}

-- The instruction, which stands behind these, the last first, and before this code, keeps the rules.
pub record Keeps (m : Module) (before : Code) (i : Instr) (code : Code) : Type 0 where
  pub table : IsInTable i
  pub section : in_section m before i ≡ true
  pub once : defines_once m.bound before i ≡ true
  pub uses : uses_defined m before i ≡ true
  pub made : type_made m before i ≡ true
  pub constant : constant_typed m before i ≡ true
  pub global : global_kept m before i ≡ true
  pub decoration : decorated m before i ≡ true
  pub layout : laid m before i ≡ true
  pub entry : entry_kept m before i ≡ true
  pub shape : in_shape m before i ≡ true
  pub call : call_kept m before i ≡ true
  pub structure : begins_structured m before i ≡ true
  pub near : uses_near m before i ≡ true
  pub operands : typed m before i ≡ true
  pub memory : memory_kept m before i ≡ true
  pub returns : returns_kept m before i ≡ true
  pub extension : extended.extended_kept m before i ≡ true
  -- what it defines is found by its id, and it is where it is
  pub own : (id : ℕ) → result (read i) ≡ Some id → defined_as m id ≡ read i
  pub here : from_here m before ≡ i ∷ code

-- Each instruction of the code keeps the rules, and the module ends with it.
abbrev pub KeepAll : Module → Code → Code → Type 0
KeepAll m before [] = before ≡ whole m
KeepAll m before (i ∷ code) = Keeps m before i code × KeepAll m (i ∷ before) code
