-- What a valid module has at an id, and what its instructions keep.
use Rattle.std.proofs.Common.{◌≡◌, refl, sym, ap, ◌∙◌, subst, ℕ, Bool, true, false, ◌||◌, if◌then◌else◌, [], ◌∷◌, ◌++◌, length, drop, Option, Some, None, inl, append_assoc}
use Rattle.std.specs.Prelude.{All}
use Rattle.std.proofs.lemmas.List.Elements.{All-head, All-tail}
use Rattle.std.proofs.lemmas.Bool.{eqb-true, or_right, true≢false}
use Rattle.gsl_words.specs.declared.module.Instr.{Instr}
use Rattle.gsl_words.specs.declared.module.Module.{Module}
use Rattle.gsl_words.specs.Instructions.{HasFile, IsInTable}
use Rattle.gsl_instr.specs.declared.instruction.Instruction.{Instruction}
use Rattle.gsl_valid.specs.Ids.{defined, definition, defines, is_id, result}
use Rattle.gsl_valid.specs.Instruction.{read}
use Rattle.gsl_valid.specs.Placed.{Code}
use Rattle.gsl_valid.specs.Search.{Passes, passed, unless, whole, ◌otherwise◌}
use Rattle.gsl_valid.specs.Valid.{Valid, KeepsEach}
use Rattle.gsl_valid.proofs.Lookups.{Has, definition_is, has_right}
use Rattle.gsl_valid.proofs.Rules.{valid_each}
use Rattle.gsl_valid.proofs.Searching.{behind_front, each_passes, passed_append}
use Rattle.gsl_sound_code.specs.Rules.{KeepAll, Keeps}
use Rattle.gsl_valid.specs.CallRules.{call_kept}
use Rattle.gsl_valid.specs.ConstantRules.{constant_typed, is_constant}
use Rattle.gsl_valid.specs.DecorationRules.{decorated}
use Rattle.gsl_valid.specs.DefinedBeforeUse.{uses_defined}
use Rattle.gsl_valid.specs.EntryRules.{entry_kept}
use Rattle.gsl_valid.specs.ExtendedRules as extended
use Rattle.gsl_valid.specs.FunctionRules.{in_shape, outside}
use Rattle.gsl_valid.specs.GlobalRules.{global_kept}
use Rattle.gsl_valid.specs.IdsDefinedOnce.{defines_once}
use Rattle.gsl_valid.specs.LayoutRules.{laid}
use Rattle.gsl_valid.specs.LocalityRules.{uses_near}
use Rattle.gsl_valid.specs.MemoryRules.{memory_kept}
use Rattle.gsl_valid.specs.OperandRules.{typed}
use Rattle.gsl_valid.specs.ReturnRules.{returns_kept}
use Rattle.gsl_valid.specs.Sections.{in_section, is_complete}
use Rattle.gsl_valid.specs.StructureRules.{begins_structured}
use Rattle.gsl_valid.specs.TypeRules.{type_made, is_first, is_made}
use Rattle.gsl_valid.specs.Where.{where_at}
use Rattle.gsl_valid.specs.Kinds.{constant_is, shape_of}
use Rattle.gsl_valid.specs.Types.{defined_as}

-- ---- what an instruction defines

-- an id that an instruction defines is its result
pub defines_result : (i : Instr) (id : ℕ) → defines i id ≡ true → result (read i) ≡ Some id
defines_result i id is = by_result (result (read i)) is
  where
    by_result : (o : Option ℕ) → is_id id o ≡ true → o ≡ Some id
    by_result None is = absurd (true≢false (sym is))
    by_result (Some r) is = ap Some (eqb-true r id is)

-- Among some code an instruction defines an id, and keeps the rules.
pub record Found (m : Module) (id : ℕ) (d : Option Instruction) : Type 0 where
  pub instr : Instr
  pub before : Code
  pub code : Code
  pub reads : read instr ≡ d
  pub gives : result (read instr) ≡ Some id
  pub keeps : Keeps m before instr code
  pub later : KeepAll m (instr ∷ before) code

pub found : (m : Module) (before code : Code) (id : ℕ) (d : Instruction) → KeepAll m before code → definition code id ≡ Some d → Found m id (Some d)
found m before [] id d keep is = absurd (cc)
found m before (i ∷ code) id d keep is = by_test (defines i id) refl (found m (i ∷ before) code id d keep.1) is
  where
    by_test : (b : Bool) → defines i id ≡ b → (definition code id ≡ Some d → Found m id (Some d)) → (if b then read i else definition code id) ≡ Some d → Found m id (Some d)
    by_test true here later is = record { instr = i; before = before; code = code; reads = is; gives = defines_result i id here; keeps = keep.0; later = keep.1 }
    by_test false here later is = later is

-- an id that some code defines is found
pub defined_found : (m : Module) (before code : Code) (id : ℕ) → KeepAll m before code → defined code id ≡ true → Found m id (definition code id)
defined_found m before [] id keep is = absurd (true≢false (sym is))
defined_found m before (i ∷ code) id keep is = by_test (defines i id) refl (defined_found m (i ∷ before) code id keep.1) is
  where
    by_test : (b : Bool) → defines i id ≡ b → (defined code id ≡ true → Found m id (definition code id)) → (b || defined code id) ≡ true → Found m id (if b then read i else definition code id)
    by_test true here later is = record { instr = i; before = before; code = code; reads = refl; gives = defines_result i id here; keeps = keep.0; later = keep.1 }
    by_test false here later is = later is

-- what is defined stays defined
pub kept_behind : (m : Module) (before code : Code) (id : ℕ) → KeepAll m before code → defined before id ≡ true → defined (whole m) id ≡ true
kept_behind m before [] id keep is = ap (λ l. defined l id) (sym keep) ∙ is
kept_behind m before (i ∷ code) id keep is = kept_behind m (i ∷ before) code id keep.1 (or_right (defines i id) _ is)

-- ---- what a valid module keeps

-- Each instruction of the code passes each rule.
record PassEach (m : Module) (before code : Code) : Type 0 where
  section : Passes (in_section m) before code
  once : Passes (defines_once m.bound) before code
  uses : Passes (uses_defined m) before code
  made : Passes (type_made m) before code
  constant : Passes (constant_typed m) before code
  global : Passes (global_kept m) before code
  decoration : Passes (decorated m) before code
  layout : Passes (laid m) before code
  entry : Passes (entry_kept m) before code
  shape : Passes (in_shape m) before code
  call : Passes (call_kept m) before code
  structure : Passes (begins_structured m) before code
  near : Passes (uses_near m) before code
  operands : Passes (typed m) before code
  memory : Passes (memory_kept m) before code
  returns : Passes (returns_kept m) before code
  extension : Passes (extended.extended_kept m) before code

behind_one : (m : Module) (before : Code) (i : Instr) (code : Code) → PassEach m before (i ∷ code) → PassEach m (i ∷ before) code
behind_one m before i code p = record {
  section = p.section.1;
  once = p.once.1;
  uses = p.uses.1;
  made = p.made.1;
  constant = p.constant.1;
  global = p.global.1;
  decoration = p.decoration.1;
  layout = p.layout.1;
  entry = p.entry.1;
  shape = p.shape.1;
  call = p.call.1;
  structure = p.structure.1;
  near = p.near.1;
  operands = p.operands.1;
  memory = p.memory.1;
  returns = p.returns.1;
  extension = p.extension.1;
}

module _ (m : Module) (once : Passes (defines_once m.bound) [] m.instrs) where
  keep_from : (front code : Code) → m.instrs ≡ front ++ code → All IsInTable code → PassEach m (passed [] front) code → KeepAll m (passed [] front) code
  keep_from front [] split table p = sym (passed_append [] front []) ∙ ap (passed []) (sym split)
  keep_from front (i ∷ code) split table p = (
    record {
      table = All-head IsInTable i code table;
      section = p.section.0;
      once = p.once.0;
      uses = p.uses.0;
      made = p.made.0;
      constant = p.constant.0;
      global = p.global.0;
      decoration = p.decoration.0;
      layout = p.layout.0;
      entry = p.entry.0;
      shape = p.shape.0;
      call = p.call.0;
      structure = p.structure.0;
      near = p.near.0;
      operands = p.operands.0;
      memory = p.memory.0;
      returns = p.returns.0;
      extension = p.extension.0;
      own = λ id is. definition_is m.bound [] m.instrs i id once (subst (λ l. Has l i) (sym split) (has_right front (i ∷ code) i (inl refl))) is;
      here = ap (λ l. drop (length (passed [] front)) l) split ∙ behind_front front (i ∷ code);
    },
    subst (λ l. KeepAll m l code) (passed_append [] front (i ∷ []))
        (keep_from (front ++ i ∷ []) code (split ∙ sym (append_assoc front (i ∷ []) code)) (All-tail IsInTable i code table)
        (subst (λ l. PassEach m l code) (sym (passed_append [] front (i ∷ []))) (behind_one m (passed [] front) i code p))),
  )

-- of two places neither is given
otherwise_none : (a b : Option ℕ) → (a otherwise b) ≡ None → (a ≡ None) × (b ≡ None)
otherwise_none None b none = (refl, none)
otherwise_none (Some at) b none = absurd (cc)

unless_none : (b : Bool) (at : ℕ) → unless b at ≡ None → b ≡ true
unless_none true at none = refl
unless_none false at none = absurd (cc)

-- What a valid module keeps.
pub record Kept (m : Module) : Type 0 where
  pub all : KeepAll m [] m.instrs
  pub complete : is_complete m ≡ true
  pub closed : outside (where_at m (whole m)).standing ≡ true
  pub once : Passes (defines_once m.bound) [] m.instrs

pub kept : (m : Module) → Valid m → Kept m
kept m valid =
    let both : HasFile m × KeepsEach m = (valid_each m).0 valid in
    let r = both.1 in
    let first = otherwise_none _ _ r.0 in
    let header = otherwise_none _ _ first.0 in
    let tenth = otherwise_none _ _ r.1.1.1.1.1.1.1.1.1.0 in
    let once = each_passes _ m r.1.0 in
    record {
      all = keep_from m once [] m.instrs refl both.0.instrs (record {
        section = each_passes _ m header.1;
        once = once;
        uses = each_passes _ m r.1.1.0;
        made = each_passes _ m r.1.1.1.0;
        constant = each_passes _ m r.1.1.1.1.0;
        global = each_passes _ m r.1.1.1.1.1.0;
        decoration = each_passes _ m r.1.1.1.1.1.1.0;
        layout = each_passes _ m r.1.1.1.1.1.1.1.0;
        entry = each_passes _ m r.1.1.1.1.1.1.1.1.0;
        shape = each_passes _ m tenth.0;
        call = each_passes _ m r.1.1.1.1.1.1.1.1.1.1.0;
        structure = each_passes _ m r.1.1.1.1.1.1.1.1.1.1.1.0;
        near = each_passes _ m r.1.1.1.1.1.1.1.1.1.1.1.1.0;
        operands = each_passes _ m r.1.1.1.1.1.1.1.1.1.1.1.1.1.0;
        memory = each_passes _ m r.1.1.1.1.1.1.1.1.1.1.1.1.1.1.0;
        returns = each_passes _ m r.1.1.1.1.1.1.1.1.1.1.1.1.1.1.1.0;
        extension = each_passes _ m r.1.1.1.1.1.1.1.1.1.1.1.1.1.1.1.1.0;
      });
      complete = unless_none _ _ first.1;
      closed = unless_none _ _ tenth.1;
      once = once;
    }

-- ---- types and constants

module _ (m : Module) (kept : Kept m) where
  -- a type is made as it may be
  pub made_at : (type : ℕ) → (first : Bool) × (is_made m first (shape_of (defined_as m type)) ≡ true)
  made_at type = by_definition (defined_as m type) refl
    where
      by_definition : (d : Option Instruction) → defined_as m type ≡ d → (first : Bool) × (is_made m first (shape_of d) ≡ true)
      by_definition None is = (true, refl)
      by_definition (Some d) is = let f = found m [] m.instrs type d kept.all is in (is_first f.before f.instr, ap (λ x. is_made m (is_first f.before f.instr) (shape_of x)) (sym f.reads) ∙ f.keeps.made)

  pub constant_at : (id : ℕ) → is_constant m (constant_is (defined_as m id)) ≡ true
  constant_at id = by_definition (defined_as m id) refl
    where
      by_definition : (d : Option Instruction) → defined_as m id ≡ d → is_constant m (constant_is d) ≡ true
      by_definition None is = refl
      by_definition (Some d) is = let f = found m [] m.instrs id d kept.all is in ap (λ x. is_constant m (constant_is x)) (sym f.reads) ∙ f.keeps.constant
