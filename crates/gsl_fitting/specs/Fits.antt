-- One judgement of a function's code that is still to come: its blocks are the runs that are due, and each of its instructions may
-- stand where it does. Nothing is said of how the code was made.
use Rattle.std.specs.Prelude.{◌≡◌, ℕ, ◌<◌, Bool, true, false, ◌==◌, ◌||◌, not, List, [], ◌∷◌, ◌++◌, Some, option_to_list}
use Rattle.std.specs.List.{list_all}
use Rattle.gsl_words.specs.declared.module.Instr.{Instr}
use Rattle.gsl_words.specs.declared.module.Module.{Module}
use Rattle.gsl_instr.specs.declared.enumerant.execution_model.TheConstants as execution_model
use Rattle.gsl_instr.specs.declared.instruction.Instruction.{Instruction}
use Rattle.gsl_instr.specs.declared.instruction.Instruction.TheVariants as instruction
use Rattle.gsl_blocks.specs.declared.around.Around.{Around}
use Rattle.gsl_blocks.specs.declared.around.Due.{Due}
use Rattle.gsl_blocks.specs.declared.block.Merge.TheVariants.{Selection, Loop}
use Rattle.gsl_blocks.specs.declared.block.End.TheVariants.{Branch, Conditional, Switch, Leave}
use Rattle.gsl_blocks.specs.declared.block.Role.TheVariants.{Opens, Merges, Ends}
use Rattle.gsl_blocks.specs.Around.{may_end, may_turn}
use Rattle.gsl_blocks.specs.Blocks.{role_at}
use Rattle.gsl_blocks.specs.Order.{run, arm, cases, parts_of_loop, may_fork}
use Rattle.gsl_blocks.specs.Targets.{firsts, all_differ, mentioned, lone_default, AreArms}
use Rattle.gsl_valid.specs.CallRules.{fits_function, is_pointer, pointers_differ}
use Rattle.gsl_valid.specs.EntryRules.{is_among, model_of}
use Rattle.gsl_valid.specs.ExtendedRules.{extended_of}
use Rattle.gsl_valid.specs.Ids.{defined, mentions, needs, result}
use Rattle.gsl_valid.specs.Instruction.{is_such, passes_if, read}
use Rattle.gsl_valid.specs.Kinds as kinds
use Rattle.gsl_valid.specs.Kinds.{Kind, kind}
use Rattle.gsl_valid.specs.LimitRules.{is_within, most_constructs}
use Rattle.gsl_valid.specs.MemoryRules.{memory_of}
use Rattle.gsl_valid.specs.OperandRules.{operands_typed}
use Rattle.gsl_valid.specs.Placed.{Code}
use Rattle.gsl_valid.specs.ReturnRules.{gives_value, gives_void}
use Rattle.gsl_valid.specs.Sections.{has_numbers}
use Rattle.gsl_valid.specs.Types.{defined_as, outside_of}

-- The function that code stands in.
pub record Frame : Type 0 where
  -- the Function that begins it, and its id
  pub function : Instruction
  pub id : ℕ
  -- the label of its first block
  pub first : ℕ
  -- its parameters and the variables at its head
  pub own : List ℕ

-- Where the rest of a function's code stands, and the runs of blocks that are due behind the run that is open.
pub data At : Type 0 where
  -- in the block of a label, with what is around its run, and with the ids that the block has given so far
  In : (label : ℕ) (around : Around) (given : List ℕ) (due : List Due) → At
  -- behind a block
  Behind : (due : List Due) → At

-- One instruction ------------------------------------------------------------------------------------------------

-- whether it works in a block: it gives a value or does something, and the block goes on
abbrev pub works : Kind → Bool
works (kinds.Calls type function arguments) = true
works (kinds.Gives type) = true
works kinds.Does = true
works _ = false

-- whether it begins a function or a block
abbrev pub begins : Kind → Bool
begins (kinds.Begins type id function_type) = true
begins kinds.Opens = true
begins _ = false

-- the ids that a block has given behind an instruction
abbrev pub given_behind : List ℕ → Instr → List ℕ
given_behind given i = option_to_list (result (read i)) ++ given

module _ (m : Module) where
  -- whether an id is that of a function or of a label, which may be named before it stands there
  abbrev pub is_mark : ℕ → Bool
  is_mark id = begins (kind (defined_as m id))

  -- whether a function's instruction may use an id: of its block so far, of its function, or from outside functions
  abbrev pub is_known : Frame → List ℕ → ℕ → Bool
  is_known f given id = is_among given id || is_among f.own id || defined (outside_of m) id

  -- whether an instruction may leave a function, if it does
  abbrev pub may_leave : Frame → Instruction → Bool
  may_leave f instruction.Kill = model_of m.instrs == execution_model.FRAGMENT
  may_leave f instruction.Return = gives_void m (Some f.function)
  may_leave f (instruction.ReturnValue value) = gives_value m value (Some f.function)
  may_leave f _ = true

  -- whether an argument, if it is a pointer, is a parameter or variable of the caller
  abbrev pub is_lent : Frame → ℕ → Bool
  is_lent f id = not (is_pointer m id) || is_among f.own id

  -- A call of a function that stands deeper, with the arguments that it takes.
  pub record MayCall (rank : ℕ → ℕ) (f : Frame) (type function : ℕ) (arguments : List ℕ) : Type 0 where
    pub fits : fits_function m type arguments (kind (defined_as m function)) ≡ true
    pub lent : list_all (is_lent f) arguments ≡ true
    pub differ : pointers_differ m arguments ≡ true
    pub deeper : rank function < rank f.id

  -- An instruction calls such a function, if it calls one.
  abbrev pub CallsOne : (ℕ → ℕ) → Frame → Kind → Type 0
  CallsOne rank f (kinds.Calls type function arguments) = MayCall rank f type function arguments
  CallsOne rank f _ = Unit {0}

  -- An instruction may stand in a block of a function, which has given these ids. `rank` orders the functions.
  pub record Sits (rank : ℕ → ℕ) (f : Frame) (given : List ℕ) (i : Instr) : Type 0 where
    pub numbers : is_such (has_numbers m) (read i) ≡ true
    pub uses : list_all (is_known f given) (needs (read i)) ≡ true
    pub names : list_all is_mark (mentions (read i)) ≡ true
    pub operands : passes_if (operands_typed m) (read i) ≡ true
    pub memory : passes_if (memory_of m) (read i) ≡ true
    pub extended : passes_if (extended_of m) (read i) ≡ true
    pub leaves : passes_if (may_leave f) (read i) ≡ true
    pub limits : passes_if (is_within m []) (read i) ≡ true
    pub calls : CallsOne rank f (kind (read i))

-- The code --------------------------------------------------------------------------------------------------------

-- The rest of a function's code fits where it stands (SPIR-V 1.0, 2.11, 2.16).
module _ (m : Module) (rank : ℕ → ℕ) (f : Frame) where
  pub data Fits : Code → At → Type 0 where
    -- no run is due
    over : Fits [] (Behind [])
    -- the first block of the run that is due
    opens : {i : Instr} {code : Code} {l : ℕ} {c : Around} {ds : List Due} → role_at i.op i.args ≡ Opens l → Fits code (In l c [] ds) → Fits (i ∷ code) (Behind (run l c ∷ ds))
    -- the block goes on
    goes : {i : Instr} {code : Code} {l : ℕ} {c : Around} {given : List ℕ} {ds : List Due} → works (kind (read i)) ≡ true → Sits m rank f given i
        → Fits code (In l c (given_behind given i) ds) → Fits (i ∷ code) (In l c given ds)
    -- to the follow or an exit
    ends : {i : Instr} {code : Code} {l : ℕ} {c : Around} {given : List ℕ} {ds : List Due} (t : ℕ) → role_at i.op i.args ≡ Ends (Branch t) → may_end c t ≡ true → Sits m rank f given i
        → Fits code (Behind ds) → Fits (i ∷ code) (In l c given ds)
    -- to the next block of its run
    leads : {i : Instr} {code : Code} {l : ℕ} {c : Around} {given : List ℕ} {ds : List Due} (t : ℕ) → role_at i.op i.args ≡ Ends (Branch t) → may_end c t ≡ false → Sits m rank f given i
        → Fits code (Behind (run t c ∷ ds)) → Fits (i ∷ code) (In l c given ds)
    -- back to the loop or behind it
    turns : {i : Instr} {code : Code} {l : ℕ} {c : Around} {given : List ℕ} {ds : List Due} (t u : ℕ) → role_at i.op i.args ≡ Ends (Conditional t u) → may_turn c t u ≡ true → Sits m rank f given i
        → Fits code (Behind ds) → Fits (i ∷ code) (In l c given ds)
    -- out of the function
    leaves : {i : Instr} {code : Code} {l : ℕ} {c : Around} {given : List ℕ} {ds : List Due} → role_at i.op i.args ≡ Ends Leave → c.leaves ≡ true → Sits m rank f given i
        → Fits code (Behind ds) → Fits (i ∷ code) (In l c given ds)
    -- a selection with two arms
    selects : {i j : Instr} {code : Code} {l : ℕ} {c : Around} {given : List ℕ} {ds : List Due} (n t u : ℕ) → role_at i.op i.args ≡ Merges (Selection n) → role_at j.op j.args ≡ Ends (Conditional t u)
        → may_fork c n t u ≡ true → c.depth < most_constructs → Sits m rank f given i → Sits m rank f given j
        → Fits code (Behind (arm c n t (arm c n u (run n c ∷ ds)))) → Fits (i ∷ j ∷ code) (In l c given ds)
    -- a switch
    chooses : {i j : Instr} {code : Code} {l : ℕ} {c : Around} {given : List ℕ} {ds : List Due} (n default : ℕ) (targets arms : List ℕ) → role_at i.op i.args ≡ Merges (Selection n)
        → role_at j.op j.args ≡ Ends (Switch default targets) → all_differ (firsts targets) ≡ true → AreArms (mentioned c n targets) (lone_default c n default targets) arms
        → c.depth < most_constructs → Sits m rank f given i → Sits m rank f given j
        → Fits code (Behind (cases c n n arms (run n c ∷ ds))) → Fits (i ∷ j ∷ code) (In l c given ds)
    -- a loop
    loops : {i j : Instr} {code : Code} {l : ℕ} {c : Around} {given : List ℕ} {ds : List Due} (n k b : ℕ) → role_at i.op i.args ≡ Merges (Loop n k) → role_at j.op j.args ≡ Ends (Branch b)
        → (l == f.first) ≡ false → c.depth < most_constructs → Sits m rank f given i → Sits m rank f given j
        → Fits code (Behind (parts_of_loop c l n k b ds)) → Fits (i ∷ j ∷ code) (In l c given ds)
