-- What a shader does: the meaning of `main` on an input, with a budget of loop turns and calls (GLSL 4.50, chapters 5
-- and 6).
use Rattle.std.specs.Prelude.{ℕ, Bool, true, false, List, [], ◌∷◌, length, set, slice_index, unwrap_or}
use Rattle.gsl_base.specs.declared.input.Input.{Input}
use Rattle.gsl_base.specs.declared.input.Output.{Output}
use Rattle.gsl_form.specs.declared.program.Term.{Term}
use Rattle.gsl_form.specs.declared.program.Term.TheVariants.{Member, Literal}
use Rattle.gsl_form.specs.declared.program.Statement.{Statement}
use Rattle.gsl_form.specs.declared.program.Program.{Program}
use Rattle.gsl_cmd.specs.Words.{word_sum}
use Rattle.gsl_cmd.specs.Buffers.{bytes_at, with_bytes, seen, put_words}

-- What the shader works on: the words of its block, and the choices that are left.
pub record Store : Type 0 where
  pub words : List ℕ
  pub choices : List ℕ

-- What a part of the shader comes to: a value, with the store and the units that are left; or `discard` ended all, an
-- index strayed, or a unit was wanting.
pub data Ran (A : Type 0) : Type 0 where
  Got : (value : A) (store : Store) (units : ℕ) → Ran A
  Ends : (store : Store) → Ran A
  Strays : Ran A
  Goes : Ran A

-- goes on with what a part gave
abbrev pub bind : {A B : Type 0} → Ran A → (A → Store → ℕ → Ran B) → Ran B
bind (Got value store units) go = go value store units
bind (Ends store) go = Ends store
bind Strays go = Strays
bind Goes go = Goes

-- the word of a member, or the bit pattern of a literal
abbrev pub eval_term : Term → Store → ℕ → Ran ℕ
eval_term (Member i) store units = Got (slice_index store.words i) store units
eval_term (Literal n) store units = Got n store units

-- adds terms to the value so far, from left to right
abbrev pub eval_more : ℕ → List Term → Store → ℕ → Ran ℕ
eval_more value [] store units = Got value store units
eval_more value (term ∷ terms) store units =
    bind (eval_term term store units) (λ right store units. eval_more (word_sum value right) terms store units)

-- the terms are evaluated and added from left to right
abbrev pub eval_sum : List Term → Store → ℕ → Ran ℕ
eval_sum [] store units = Got 0 store units
eval_sum (term ∷ terms) store units = bind (eval_term term store units) (λ value store units. eval_more value terms store units)

-- How a statement was left.
pub data Flow : Type 0 where
  Normal : Flow

-- the right side, and then the store to the target
abbrev pub run_statement : Statement → Store → ℕ → Ran Flow
run_statement s store units =
    bind (eval_sum s.terms store units) (λ value store units. Got Normal (record store { words = set store.words s.target value }) units)

-- goes on behind a statement that was left so
abbrev pub behind : Flow → (Store → ℕ → Ran Flow) → Store → ℕ → Ran Flow
behind Normal go store units = go store units

-- one statement after the other
abbrev pub run_statements : List Statement → Store → ℕ → Ran Flow
run_statements [] store units = Got Normal store units
run_statements (s ∷ statements) store units =
    bind (run_statement s store units) (λ flow store units. behind flow (run_statements statements) store units)

-- What the shader comes to on an input.
pub data Outcome : Type 0 where
  Ended : (output : Output) → Outcome
  Strayed : Outcome
  Going : Outcome

-- The block is the one at set 0 and binding 0.
abbrev pub SET : ℕ
SET = 0

abbrev pub BINDING : ℕ
BINDING = 0

-- the bytes of the block's buffer
abbrev pub block_bytes : Input → List ℕ
block_bytes input = unwrap_or (bytes_at input.buffers SET BINDING) []

-- the block begins as it is seen in its buffer
abbrev pub begin : Program → Input → Store
begin p input = record { words = seen (length p.members) (block_bytes input); choices = input.choices }

-- all given buffers, with each word of the block put
abbrev pub output_of : Input → Bool → Store → Output
output_of input killed store = record {
  buffers = with_bytes input.buffers SET BINDING (put_words 0 store.words (block_bytes input));
  outs = [];
  killed = killed;
  rest = length store.choices;
}

-- what `main` came to, as an outcome
abbrev pub outcome_of : Input → Ran Flow → Outcome
outcome_of input (Got flow store units) = Ended (output_of input false store)
outcome_of input (Ends store) = Ended (output_of input true store)
outcome_of input Strays = Strayed
outcome_of input Goes = Going

-- the shader on an input, with so many loop turns and calls
abbrev pub shader : Program → ℕ → Input → Outcome
shader p units input = outcome_of input (run_statements p.statements (begin p input) units)
