-- Modules with what they do, so that a wrong definition is seen.
use Rattle.std.proofs.Common.{◌≡◌, ℕ, Bool, true, false, List, [], ◌∷◌, ◌++◌, None, refl}
use Rattle.std.specs.Prelude.{Ok, Err}
use Rattle.gsl_base.specs.declared.input.Input.{Input}
use Rattle.gsl_instr.specs.declared.enumerant.storage_class.TheConstants as storage_class
use Rattle.gsl_instr.specs.declared.op.TheConstants as op
use Rattle.gsl_instr.specs.Forms.{form_of}
use Rattle.gsl_words.specs.Words.{put_word, word_at}
use Rattle.gsl_words.specs.declared.module.Module.{Module}
use Rattle.gsl_values.specs.Operators.{binary_answer}
use Rattle.gsl_values.specs.declared.value.Value.TheVariants.{outs-Many, outs-Word}
use Rattle.gsl_valid.proofs.Example.{begun, decorations, ended, front, globals, i, module_with, returned, store, sum}
use Rattle.gsl_valid.specs.Placed.{Code}
use Rattle.gsl_base.specs.declared.input.InputRefusal.TheVariants.{BadIds, NoBuffer, TooShort}
use Rattle.gsl_machine.specs.Fits.{fits}
use Rattle.gsl_machine.specs.Machine.{after, start}
use Rattle.gsl_machine.specs.State.{Ended, Going, Outcome, Strayed, Stuck}

-- `main` with this code, other functions behind it, and more types and constants
abbrev with_code : Code → Code → Code → Module
with_code more code others = module_with 60 (front ++ decorations ++ globals ++ more ++ begun 1 4 ++ code ++ returned ++ ended ++ others)

ruleset computes = (outs-Word, outs-Many)

-- a word in the buffer, and choices
abbrev over : ℕ → List ℕ → Input
over word choices = record {
  buffers = record { set = 0; binding = 0; bytes = word ∷ 0 ∷ 0 ∷ 0 ∷ [] } ∷ [];
  push = None;
  ins = [];
  group = 0 ∷ 0 ∷ 0 ∷ [];
  local = 0 ∷ 0 ∷ 0 ∷ [];
  groups = 1 ∷ 1 ∷ 1 ∷ [];
  vertex = 0;
  instance = 0;
  choices = choices;
}

abbrev gives : ℕ → ℕ → Outcome
gives word rest = Ended (record { buffers = record { set = 0; binding = 0; bytes = word ∷ 0 ∷ 0 ∷ 0 ∷ [] } ∷ []; outs = []; killed = false; rest = rest })

abbrev goes_on : Outcome → Bool
goes_on (Going state) = true
goes_on (Ended output) = false
goes_on (Strayed place) = false
goes_on Stuck = false

-- the member is doubled: a label, a chain, a load, a sum, a store and the return
abbrev doubled : Module
doubled = with_code [] (sum 12 12 ++ store 13) []

it_ends : after doubled 6 (over 7 []) ≡ gives 14 0
unfolding after start form_of put_word word_at binary_answer
it_ends = simp computes refl

it_goes_on : goes_on (after doubled 5 (over 7 [])) ≡ true
unfolding after start form_of put_word word_at binary_answer
it_goes_on = simp computes refl

it_ends_once : after doubled 9 (over 7 []) ≡ gives 14 0
unfolding after start form_of put_word word_at binary_answer
it_ends_once = simp computes refl

-- a function of an `int`, which gives its double, is called: the result of the call is stored
abbrev more : Code
more = i op.TYPE_FUNCTION (21 ∷ 5 ∷ 5 ∷ []) ∷ i op.TYPE_POINTER (22 ∷ storage_class.FUNCTION ∷ 5 ∷ []) ∷ i op.CONSTANT (5 ∷ 25 ∷ 9 ∷ []) ∷ i op.TYPE_BOOL (26 ∷ []) ∷ []

abbrev double : Code
double =
    i op.FUNCTION (5 ∷ 20 ∷ 0 ∷ 21 ∷ []) ∷ i op.FUNCTION_PARAMETER (5 ∷ 23 ∷ []) ∷ i op.LABEL (24 ∷ []) ∷ i op.I_ADD (5 ∷ 27 ∷ 23 ∷ 23 ∷ []) ∷ i op.RETURN_VALUE (27 ∷ [])
    ∷ ended

abbrev called : Module
called = with_code more (sum 12 10 ++ i op.FUNCTION_CALL (5 ∷ 28 ∷ 20 ∷ 13 ∷ []) ∷ store 28) double

the_call_returns : after called 10 (over 7 []) ≡ gives 14 0
unfolding after start form_of put_word word_at binary_answer
the_call_returns = simp computes refl

-- a variable begins as its initialiser, 9, and is added to what is loaded
abbrev kept : Module
kept =
    with_code more
    (i op.VARIABLE (22 ∷ 30 ∷ storage_class.FUNCTION ∷ 25 ∷ []) ∷ sum 12 10 ++ i op.LOAD (5 ∷ 31 ∷ 30 ∷ []) ∷ i op.I_ADD (5 ∷ 32 ∷ 31 ∷ 13 ∷ []) ∷ store 32) []

variables_begin : after kept 9 (over 7 []) ≡ gives 16 0
unfolding after start form_of put_word word_at binary_answer
variables_begin = simp computes refl

-- a quotient by 0 draws a choice
abbrev divided : Module
divided = with_code [] (sum 12 10 ++ i op.S_DIV (5 ∷ 30 ∷ 12 ∷ 10 ∷ []) ∷ store 30) []

quotients_draw : after divided 7 (over 7 (5 ∷ 8 ∷ [])) ≡ gives 5 1
unfolding after start form_of put_word word_at binary_answer
quotients_draw = simp computes refl

-- an index that is not below the count of members strays, at the place of its chain
abbrev outside : Module
outside = with_code more (i op.ACCESS_CHAIN (8 ∷ 11 ∷ 9 ∷ 25 ∷ []) ∷ []) []

it_strays : after outside 2 (over 7 []) ≡ Strayed 93
unfolding after start form_of put_word word_at binary_answer
it_strays = simp computes refl

-- a branch leads to a label, and a temporary of the block before is no more
abbrev branched : Module
branched = with_code [] (sum 12 12 ++ i op.BRANCH (40 ∷ []) ∷ i op.LABEL (40 ∷ []) ∷ i op.ACCESS_CHAIN (8 ∷ 41 ∷ 9 ∷ 10 ∷ []) ∷ i op.STORE (41 ∷ 10 ∷ []) ∷ []) []

branches_lead : after branched 9 (over 7 []) ≡ gives 0 0
unfolding after start form_of put_word word_at binary_answer
branches_lead = simp computes refl

no_temporary : after (with_code [] (sum 12 12 ++ i op.BRANCH (40 ∷ []) ∷ i op.LABEL (40 ∷ []) ∷ store 13) []) 7 (over 7 []) ≡ Stuck
unfolding after start form_of put_word word_at binary_answer
no_temporary = simp computes refl

-- ---- which inputs fit

it_fits : fits doubled (over 7 []) ≡ Ok tt
unfolding fits form_of
it_fits = refl

no_buffer : fits doubled (record (over 7 []) { buffers = [] }) ≡ Err (NoBuffer 0 0)
unfolding fits form_of
no_buffer = refl

a_byte_is_missing : fits doubled (record (over 7 []) { buffers = record { set = 0; binding = 0; bytes = 7 ∷ 0 ∷ 0 ∷ [] } ∷ [] }) ≡ Err (TooShort 0 0)
unfolding fits form_of
a_byte_is_missing = refl

no_such_invocation : fits doubled (record (over 7 []) { local = 1 ∷ 0 ∷ 0 ∷ [] }) ≡ Err BadIds
unfolding fits form_of
no_such_invocation = refl
