-- Where the instructions of a function stand, and what they do there.
use Rattle.std.proofs.Common.{◌≡◌, ℕ, Bool, true, false, ◌||◌, List, [], ◌∷◌, ◌++◌, drop, length, Option, Some, None, refl, sym, ap, ◌∙◌, subst, ◌⊎◌}
use Rattle.std.specs.Prelude.{option_to_list, ◌==◌}
use Rattle.std.proofs.lemmas.Bool.{cond-false, or_left, or_right, true≢false}
use Rattle.gsl_words.specs.declared.module.Instr.{Instr}
use Rattle.gsl_words.specs.declared.module.Module.{Module}
use Rattle.gsl_instr.specs.declared.instruction.Instruction.{Instruction}
use Rattle.gsl_instr.specs.declared.instruction.Instruction.TheVariants as instruction
use Rattle.gsl_blocks.specs.Blocks.{blocks_of}
use Rattle.gsl_valid.specs.CallRules.{id_in}
use Rattle.gsl_valid.specs.EntryRules.{is_among}
use Rattle.gsl_valid.specs.FunctionRules.{block_ends, gives, in_block, may_begin, may_take, outside}
use Rattle.gsl_valid.specs.Ids.{defined, defines, is_id, result}
use Rattle.gsl_valid.specs.Instruction.{read}
use Rattle.gsl_valid.specs.Kinds as kinds
use Rattle.gsl_valid.specs.Kinds.{Kind, kind}
use Rattle.gsl_valid.specs.LocalityRules.{of_function}
use Rattle.gsl_valid.specs.Placed.{Code}
use Rattle.gsl_valid.specs.Search.{from_here, passed}
use Rattle.gsl_valid.specs.Sections.{may_come}
use Rattle.gsl_valid.specs.Types.{begins, defined_as, outside_of}
use Rattle.gsl_valid.specs.Where.{Standing, AtHead, Behind, bounds, bounds_one, functions, inside_after, section_in, stands_after, where_at}
use Rattle.gsl_fitting.specs.Fits.{Frame, Sits, given_behind, works}
use Rattle.gsl_fitting.specs.Functions.{IsLocal}
use Rattle.gsl_fitting_code.proofs.Fronts.{drop_more}
use Rattle.gsl_fitting_code.proofs.Nests.{Nests}

module _ (m : Module) where
  abbrev pub standing_at : Code → Standing
  standing_at before = (where_at m before).standing

  -- What is defined outside functions is defined before these instructions.
  abbrev pub Outer : Code → Type 0
  Outer before = (id : ℕ) → defined (outside_of m) id ≡ true → defined before id ≡ true

  -- Code stands in a function.
  pub record Within (function : Instruction) (before : Code) : Type 0 where
    pub section : (where_at m before).section ≡ functions
    pub inside : (where_at m before).inside ≡ true
    pub holder : (where_at m before).function ≡ Some function
    pub outer : Outer before

  -- Code stands in a block that has given these ids.
  pub record Block (function : Instruction) (given : List ℕ) (before : Code) : Type 0 where
    pub within : Within function before
    pub standing : in_block (standing_at before) ≡ true
    pub gave : (id : ℕ) → is_among given id ≡ true → defined (where_at m before).block id ≡ true

  -- The ids of a function are defined in it so far, and no block gives them.
  pub record Owns (own : List ℕ) (before : Code) : Type 0 where
    pub holds : (id : ℕ) → is_among own id ≡ true → defined (where_at m before).body id ≡ true

  -- One instruction ----------------------------------------------------------------------------------------------------

  section_step : (i : Instr) (before : Code) (k : Kind) → kind (read i) ≡ k → (where_at m before).inside ≡ true → section_in true k ≡ functions → (where_at m (i ∷ before)).section ≡ functions
  section_step i before k is inside h = ap (λ b. section_in b (kind (read i))) inside ∙ ap (section_in true) is ∙ h

  stays_inside : (k : Kind) → bounds_one k ≡ false → inside_after true k ≡ true
  stays_inside kinds.Ended h = absurd (true≢false h)
  stays_inside _ h = refl

  stays_in : (k : Kind) → bounds_one k ≡ false → begins k ≡ false
  stays_in (kinds.Begins type id function_type) h = absurd (true≢false h)
  stays_in _ h = refl

  pub outer_step : (i : Instr) (before : Code) → Outer before → Outer (i ∷ before)
  outer_step i before h = λ id o. or_right (defines i id) _ (h id o)

  pub within_step : {function : Instruction} (i : Instr) (before : Code) (k : Kind) → kind (read i) ≡ k → bounds_one k ≡ false → section_in true k ≡ functions → Within function before → Within function (i ∷ before)
  within_step i before k is none section w = record {
    section = section_step i before k is w.inside section;
    inside = ap (λ b. inside_after b (kind (read i))) w.inside ∙ ap (inside_after true) is ∙ stays_inside k none;
    holder = cond-false _ _ _ (ap begins is ∙ stays_in k none) ∙ w.holder;
    outer = outer_step i before w.outer;
  }

  pub body_step : (i : Instr) (before : Code) (k : Kind) (id : ℕ) → kind (read i) ≡ k → bounds_one k ≡ false → defined (where_at m before).body id ≡ true → defined (where_at m (i ∷ before)).body id ≡ true
  body_step i before k id is none h = subst (λ c. defined c id ≡ true) (sym (cond-false _ _ _ (ap bounds_one is ∙ none))) (or_right (defines i id) _ h)

  pub body_own : (i : Instr) (before : Code) (k : Kind) (id : ℕ) → kind (read i) ≡ k → bounds_one k ≡ false → defines i id ≡ true → defined (where_at m (i ∷ before)).body id ≡ true
  body_own i before k id is none h = subst (λ c. defined c id ≡ true) (sym (cond-false _ _ _ (ap bounds_one is ∙ none))) (or_left (defines i id) _ h)

  pub owns_step : {own : List ℕ} (i : Instr) (before : Code) (k : Kind) → kind (read i) ≡ k → bounds_one k ≡ false → Owns own before → Owns own (i ∷ before)
  owns_step i before k is none o = record { holds = λ id h. body_step i before k id is none (o.holds id h) }

  given_step : (o : Option ℕ) (given : List ℕ) (id : ℕ) (there : Bool) → (is_among given id ≡ true → there ≡ true) → is_among (option_to_list o ++ given) id ≡ true → (is_id id o || there) ≡ true
  given_step None given id there more h = more h
  given_step (Some r) given id there more h = by_case (r == id) h
    where
      by_case : (b : Bool) → (b || is_among given id) ≡ true → (b || there) ≡ true
      by_case true h = refl
      by_case false h = more h

  -- the next instruction of a block
  pub block_step : {function : Instruction} {given : List ℕ} (i : Instr) (before : Code) (k : Kind) → kind (read i) ≡ k → bounds k ≡ false → bounds_one k ≡ false → section_in true k ≡ functions
      → in_block (stands_after m (standing_at before) k) ≡ true → Block function given before → Block function (given_behind given i) (i ∷ before)
  block_step {given = given} i before k is none no_function section stands b = record {
    within = within_step i before k is no_function section b.within;
    standing = ap (λ k. in_block (stands_after m (standing_at before) k)) is ∙ stands;
    gave = λ id h. subst (λ c. defined c id ≡ true) (sym (cond-false _ _ _ (ap bounds is ∙ none))) (given_step (result (read i)) given id (defined (where_at m before).block id) (b.gave id) h);
  }

  pub here_step : (before : Code) (i : Instr) (code : Code) → from_here m before ≡ i ∷ code → from_here m (i ∷ before) ≡ code
  here_step before i code h = drop_more (length before) m.instrs ∙ ap (drop 1) h

  pub here_behind : (before a b : Code) → from_here m before ≡ a ++ b → from_here m (passed before a) ≡ b
  here_behind before [] b h = h
  here_behind before (i ∷ a) b h = here_behind (i ∷ before) a b (here_step before i (a ++ b) h)

  -- What instructions are ----------------------------------------------------------------------------------------------

  -- A function begins.
  pub record Starts (before : Code) (i : Instr) : Type 0 where
    pub type : ℕ
    pub id : ℕ
    pub function_type : ℕ
    pub reads : read i ≡ Some (instruction.Function type id 0 function_type)
    pub result : gives type (defined_as m function_type) ≡ true
    pub type_known : defined (outside_of m) type ≡ true
    pub function_known : defined (outside_of m) function_type ≡ true
    pub standing : outside (standing_at before) ≡ true
    pub section : may_come (where_at m before).section functions ≡ true
    pub outer : Outer before
    pub nests : Nests (blocks_of (from_here m before))

  -- It takes a parameter.
  pub record Taken (before : Code) (i : Instr) : Type 0 where
    pub function : Instruction
    pub type : ℕ
    pub id : ℕ
    pub reads : read i ≡ Some (instruction.FunctionParameter type id)
    pub known : defined (outside_of m) type ≡ true
    pub standing : may_take type (standing_at before) ≡ true
    pub within : Within function before

  -- A block begins.
  pub record Opened (before : Code) (i : Instr) : Type 0 where
    pub function : Instruction
    pub label : ℕ
    pub reads : read i ≡ Some (instruction.Label label)
    pub standing : may_begin (standing_at before) ≡ true
    pub within : Within function before

  -- A variable stands at the head.
  pub record Held (before : Code) (i : Instr) : Type 0 where
    pub function : Instruction
    pub holds : IsLocal m i
    pub standing : standing_at before ≡ AtHead
    pub within : Within function before

  -- It stands in a block, and works there, merges it or leaves it.
  pub record Sat (rank : ℕ → ℕ) (before : Code) (i : Instr) : Type 0 where
    pub frame : Frame
    pub given : List ℕ
    pub is : (works (kind (read i)) ≡ true) ⊎ ((kind (read i) ≡ kinds.Leaves) ⊎ ((kind (read i) ≡ kinds.Merges) × (block_ends (drop 1 (from_here m before)) ≡ true)))
    pub sits : Sits m rank frame given i
    pub block : Block frame.function given before
    pub owns : Owns frame.own before
    -- what is its function's own is defined as such
    pub own : (id : ℕ) → is_among frame.own id ≡ true → of_function (defined_as m id) ≡ true
    pub id : id_in (kind (Some frame.function)) ≡ Some frame.id

  -- The function ends.
  pub record Over (before : Code) (i : Instr) : Type 0 where
    pub function : Instruction
    pub reads : read i ≡ Some instruction.FunctionEnd
    pub standing : standing_at before ≡ Behind
    pub within : Within function before

  pub data Plays (rank : ℕ → ℕ) (before : Code) (i : Instr) : Type 0 where
    starting : Starts before i → Plays rank before i
    parameter : Taken before i → Plays rank before i
    opening : Opened before i → Plays rank before i
    variable : Held before i → Plays rank before i
    inside : Sat rank before i → Plays rank before i
    ending : Over before i → Plays rank before i
