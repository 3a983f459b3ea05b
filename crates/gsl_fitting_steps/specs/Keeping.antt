-- What it is for a step of lowering to keep the judgement, and what a builder holds on the way.
use Rattle.std.specs.Prelude.{◌≡◌, ℕ, ◌+◌, ◌≤◌, true, false, List, [], ◌++◌, Option, Some, None}
use Rattle.std.specs.List.{AllByRecursion, list_any}
use Rattle.gsl_words.specs.declared.module.Instr.{Instr}
use Rattle.gsl_words.specs.declared.module.Module.{Module}
use Rattle.gsl_blocks.specs.declared.around.Around.{Around}
use Rattle.gsl_blocks.specs.declared.around.Due.{Due}
use Rattle.gsl_valid.specs.CallRules.{most_calls}
use Rattle.gsl_valid.specs.EntryRules.{is_among, is_call_of, is_main}
use Rattle.gsl_valid.specs.Ids.{result}
use Rattle.gsl_valid.specs.Instruction.{read}
use Rattle.gsl_valid.specs.Kinds.{kind}
use Rattle.gsl_valid.specs.Placed.{Code}
use Rattle.gsl_valid.specs.Search.{passed}
use Rattle.gsl_valid.specs.Sections.{most_bound}
use Rattle.gsl_valid.specs.Types.{defined_as}
use Rattle.gsl_spv.specs.Calls.{imports_of}
use Rattle.gsl_spv.specs.Declarations.{Declaration, defining}
use Rattle.gsl_spv.specs.Finished.{module_of}
use Rattle.gsl_spv.specs.Growing.{all_of}
use Rattle.gsl_spv.specs.Once.{id_of}
use Rattle.gsl_spv.specs.Sections.{Sections}
use Rattle.gsl_lower_values.specs.Building.{Built, Made, Full}
use Rattle.gsl_fitting.specs.Fits.{Fits, Frame, In, Sits, works}
use Rattle.gsl_fitting.specs.Functions.{AreFunctions}
use Rattle.gsl_fitting_sections.specs.Sections.{AreApart, count_of, Each, HasSizes, IsDeclaration, IsDecoration, IsName}

-- the id that an instruction defines
abbrev pub defined_by : Instr → Option ℕ
defined_by i = result (read i)

-- What a builder holds so far may stand in a module.
pub record Fine (m : Module) (s : Sections) : Type 0 where
  pub set : Option ℕ
  pub imports : s.imports ≡ imports_of set
  pub names : AllByRecursion (IsName m) s.names
  pub decorations : Each (IsDecoration m) [] s.decorations
  pub globals : Each (IsDeclaration m) [] s.globals
  pub apart : AreApart (s.last + 1) (all_of s)

-- The instructions that were put from one builder to the next fit in the block that is open, which has given some ids, before any code
-- that fits behind them, where the block has given these.
pub record Puts (m : Module) (rank : ℕ → ℕ) (f : Frame) (given now : List ℕ) (before after : Sections) : Type 0 where
  pub code : Code
  pub puts : after.functions ≡ before.functions ++ code
  pub wider : (id : ℕ) → is_among given id ≡ true → is_among now id ≡ true
  pub fits : (follows : Code) (l : ℕ) (c : Around) (ds : List Due) → Fits m rank f follows (In l c now ds) → Fits m rank f (code ++ follows) (In l c given ds)

-- What a builder holds stays fine, and what was put fits.
pub record Goes (m : Module) (rank : ℕ → ℕ) (f : Frame) (given now : List ℕ) (before after : Sections) : Type 0 where
  pub fine : Fine m before → Fine m after
  pub puts : Puts m rank f given now before after

-- A step keeps the judgement, where it comes to something. What the block has given then hangs on what the step gives.
abbrev pub Keeps : Module → (ℕ → ℕ) → Frame → List ℕ → {A : Type 0} → (A → List ℕ) → Sections → Built A → Type 0
Keeps m rank f given now before (Made a after) = Goes m rank f given (now a) before after
Keeps m rank f given now before Full = Unit {0}

-- An instruction works where the block has given these ids, and defines this one or none.
pub record Works (m : Module) (rank : ℕ → ℕ) (f : Frame) (given : List ℕ) (i : Instr) (id : Option ℕ) : Type 0 where
  pub works : works (kind (read i)) ≡ true
  pub sits : Sits m rank f given i
  pub gives : defined_by i ≡ id

-- A declaration may be added to what a builder holds, if it is not there.
pub record MayDeclare (m : Module) (d : Declaration) (s : Sections) : Type 0 where
  pub declares : id_of d s.globals ≡ None → IsDeclaration m (passed [] s.globals) (defining d (s.last + 1))
  pub defines : (id : ℕ) → defined_by (defining d id) ≡ Some id

-- An id has been taken, and nothing defines it yet.
pub record IsOwed (s : Sections) (id : ℕ) : Type 0 where
  pub least : 1 ≤ id
  pub taken : id ≤ s.last
  pub none : count_of id (all_of s) ≡ 0

-- An instruction that is put defines an id that is owed, if it defines one: a label or a variable of a function.
abbrev pub DefinesOwed : Sections → Option ℕ → Type 0
DefinesOwed s None = Unit {0}
DefinesOwed s (Some id) = IsOwed s id

-- What else sections have to be, once all has been put.
pub record IsWhole (s : Sections) (main : ℕ) (local_size : List ℕ) : Type 0 where
  pub rank : ℕ → ℕ
  pub bound : s.last + 1 ≤ most_bound
  pub functions : AreFunctions (module_of s main local_size) rank s.functions
  pub shallow : (id : ℕ) → rank id ≤ most_calls
  pub main_is : is_main (module_of s main local_size) (defined_as (module_of s main local_size) main) ≡ true
  pub uncalled : list_any (λ i. is_call_of main (read i)) s.functions ≡ false
  pub sizes : HasSizes s.stage local_size
