-- What the sections of a program's module say.
use Rattle.std.proofs.Common.{◌≡◌, ◌≢◌, ◌⊎◌, inl, inr, ℕ, zero, suc, ◌+◌, ◌-◌, ◌*◌, ◌<◌, ◌≤◌, List, [], ◌∷◌, ◌++◌, length, get_or, map, drop, Option, Some, None, Bool, true, false, cond, ◌==◌, ◌&&◌, eq-eqb, ne_eqb, refl, ap, ◌∙◌, arith}
use Rattle.std.specs.Option.{is_some, option_map, option_and_then}
use Rattle.std.specs.List.{range_with_len, AllByRecursion, filter_map, cons_option}
use Rattle.std.proofs.Math.ListN.{replicate}
use Rattle.std.proofs.lemmas.Bool.{cases_eq}
use Rattle.std.proofs.lemmas.List.{length-replicate, get_or-replicate}
use Rattle.std.proofs.lemmas.List.Elements.{filter_map-append}
use Rattle.gsl_words.specs.declared.module.Instr.{Instr}
use Rattle.gsl_instr.specs.declared.op.TheConstants as op
use Rattle.gsl_instr.specs.declared.enumerant.execution_mode.TheConstants as execution_mode
use Rattle.gsl_instr.specs.declared.enumerant.decoration.TheConstants as decoration
use Rattle.gsl_form.specs.declared.program.Term.{Term}
use Rattle.gsl_form.specs.declared.program.Term.TheVariants.{Member, Literal}
use Rattle.gsl_form.specs.declared.program.Statement.{Statement}
use Rattle.gsl_form.specs.declared.program.Program.{Program}
use Rattle.gsl_cmd.specs.declared.lowering.id.TheConstants as id
use Rattle.gsl_form.specs.Form.{Name, IsProgram}
use Rattle.gsl_cmd.specs.Lowering.{Code, instr, constants_of, constant_id, term_code, term_ids, more_code, sum_code, statements_code, statement_ids, first_id, function_code, constant_code, preamble, name_code, decoration_code, type_code, variable_code, code_of, module_of}
use Rattle.gsl_cmd.specs.Buffers.{word_offset}
use Rattle.gsl_cmd.specs.Sections.{has_at, begin_with, operands, operand, decoration_of, member_decoration_of, is_int, members_of, pointee_of, constant_of, variable_type_of}
use Rattle.gsl_cmd.specs.Shader.{SET, BINDING}
use Rattle.gsl_cmd.specs.Machine.{Word, Points, globals, global_of, in_function, from_label, entry_code, entry, words_of}
use Rattle.gsl_cmd.specs.Needs.{Block, Needs}
use Rattle.gsl_cmd.specs.Fits.{needs_of, in_order, member_end, need_of, variable_block, operands_block, block_of, size_of_entry, local_size_of, module_needs}
use Rattle.gsl_cmd.proofs.Simulation.{Knows, whole_block}
use Rattle.gsl_cmd.proofs.Among.{value_at}

-- Any code ----------------------------------------------------------------------------------------------

-- No instruction has the opcode.
abbrev Lacks : ℕ → Code → Type 0
Lacks opcode code = AllByRecursion (λ i. (i.op == opcode) ≡ false) code

lacks_both : (opcode : ℕ) (code more : Code) → Lacks opcode code → Lacks opcode more → Lacks opcode (code ++ more)
lacks_both opcode [] more none later = later
lacks_both opcode (i ∷ code) more none later = (none.0, lacks_both opcode code more none.1 later)

lacks_range : (opcode : ℕ) (f : ℕ → Instr) (a n : ℕ) → ((i : ℕ) → ((f i).op == opcode) ≡ false) → Lacks opcode (map f (range_with_len a n))
lacks_range opcode f a zero each = tt
lacks_range opcode f a (suc n) each = (each a, lacks_range opcode f (a + 1) n each)

-- the instruction does not pass
passed_over : (opcode : ℕ) (test : List ℕ → Bool) (i : Instr) (code : Code) → (i.op == opcode && test i.args) ≡ false → operands opcode test (i ∷ code) ≡ operands opcode test code
passed_over opcode test i code e = ap (λ b. cond b (Some i.args) (operands opcode test code)) e

skip : (opcode : ℕ) (test : List ℕ → Bool) (code more : Code) → Lacks opcode code → operands opcode test (code ++ more) ≡ operands opcode test more
skip opcode test [] more none = refl
skip opcode test (i ∷ code) more none = passed_over opcode test i (code ++ more) (ap (λ b. b && test i.args) none.0) ∙ skip opcode test code more none.1

found : (opcode : ℕ) (test : List ℕ → Bool) (code more : Code) (args : List ℕ) → operands opcode test code ≡ Some args → operands opcode test (code ++ more) ≡ Some args
found opcode test [] more args e = absurd (cc)
found opcode test (i ∷ code) more args e = by_test (i.op == opcode && test i.args) (found opcode test code more args) e
  where
    by_test : (b : Bool) → (operands opcode test code ≡ Some args → operands opcode test (code ++ more) ≡ Some args) →
        cond b (Some i.args) (operands opcode test code) ≡ Some args → cond b (Some i.args) (operands opcode test (code ++ more)) ≡ Some args
    by_test true again e = e
    by_test false again e = again e

absent : (opcode : ℕ) (test : List ℕ → Bool) (code : Code) → Lacks opcode code → operands opcode test code ≡ None
absent opcode test [] none = refl
absent opcode test (i ∷ code) none = passed_over opcode test i code (ap (λ b. b && test i.args) none.0) ∙ absent opcode test code none.1

absent_both : (opcode : ℕ) (test : List ℕ → Bool) (code more : Code) → operands opcode test code ≡ None → operands opcode test more ≡ None → operands opcode test (code ++ more) ≡ None
absent_both opcode test [] more e f = f
absent_both opcode test (i ∷ code) more e f = by_test (i.op == opcode && test i.args) (λ e. absent_both opcode test code more e f) e
  where
    by_test : (b : Bool) → (operands opcode test code ≡ None → operands opcode test (code ++ more) ≡ None) →
        cond b (Some i.args) (operands opcode test code) ≡ None → cond b (Some i.args) (operands opcode test (code ++ more)) ≡ None
    by_test true again e = absurd (cc)
    by_test false again e = again e

-- the one that passes among instructions by number
in_range : (opcode : ℕ) (test : List ℕ → Bool) (f : ℕ → Instr) (a n i : ℕ) → ((f i).op == opcode && test (f i).args) ≡ true →
    ((j : ℕ) → j ≢ i → ((f j).op == opcode && test (f j).args) ≡ false) → a ≤ i → i < a + n →
    operands opcode test (map f (range_with_len a n)) ≡ Some (f i).args
in_range opcode test f a zero i passes others low high = absurd (omega arith)
in_range opcode test f a (suc n) i passes others low high = by_cases (cases_eq a i) (λ low. in_range opcode test f (a + 1) n i passes others low (omega arith))
  where
    by_cases : (a ≡ i) ⊎ (a ≢ i) → (a + 1 ≤ i → operands opcode test (map f (range_with_len (a + 1) n)) ≡ Some (f i).args) →
        operands opcode test (f a ∷ map f (range_with_len (a + 1) n)) ≡ Some (f i).args
    by_cases (inl e) again =
        ap (λ k. operands opcode test (f k ∷ map f (range_with_len (a + 1) n))) e
        ∙ ap (λ b. cond b (Some (f i).args) (operands opcode test (map f (range_with_len (a + 1) n)))) passes
    by_cases (inr ne) again = passed_over opcode test (f a) _ (others a ne) ∙ again (omega arith)

-- none among instructions by number
none_in_range : (opcode : ℕ) (test : List ℕ → Bool) (f : ℕ → Instr) (a n : ℕ) → ((j : ℕ) → ((f j).op == opcode && test (f j).args) ≡ false) →
    operands opcode test (map f (range_with_len a n)) ≡ None
none_in_range opcode test f a zero none = refl
none_in_range opcode test f a (suc n) none = passed_over opcode test (f a) _ (none a) ∙ none_in_range opcode test f (a + 1) n none

-- the code from a label in a function on is no longer
function_words : (function : ℕ) (code : Code) → words_of (in_function function code) ≤ words_of code
function_words function [] = omega arith
function_words function (i ∷ code) = by_test (i.op == op.FUNCTION && get_or i.args 1 0 == function) (function_words function code)
  where
    by_test : (b : Bool) → words_of (in_function function code) ≤ words_of code → words_of (cond b code (in_function function code)) ≤ words_of (i ∷ code)
    by_test true again = omega arith
    by_test false again = omega arith

label_words : (code : Code) → words_of (from_label code) ≤ words_of code
label_words [] = omega arith
label_words (i ∷ code) = by_test (i.op == op.LABEL) (label_words code)
  where
    by_test : (b : Bool) → words_of (from_label code) ≤ words_of code → words_of (cond b (i ∷ code) (from_label code)) ≤ words_of (i ∷ code)
    by_test true again = omega arith
    by_test false again = omega arith

pub entry_words : (code : Code) → words_of (entry code) ≤ words_of code
entry_words code = by_option (operand 1 op.ENTRY_POINT (λ args. true) code)
  where
    by_option : (o : Option ℕ) → words_of (entry_code code o) ≤ words_of code
    by_option None = omega arith
    by_option (Some function) = omega (arith, label_words (in_function function code), function_words function code)

function_skip : (function : ℕ) (code more : Code) → Lacks op.FUNCTION code → in_function function (code ++ more) ≡ in_function function more
function_skip function [] more none = refl
function_skip function (i ∷ code) more none =
    ap (λ b. cond (b && get_or i.args 1 0 == function) (code ++ more) (in_function function (code ++ more))) none.0 ∙ function_skip function code more none.1

no_blocks : (whole code : Code) → Lacks op.VARIABLE code → filter_map (block_of whole) code ≡ []
no_blocks whole [] none = refl
no_blocks whole (i ∷ code) none =
    ap (λ o. cons_option o (filter_map (block_of whole) code)) (ap (λ b. cond b (operands_block whole i.args) None) none.0) ∙ no_blocks whole code none.1

-- Each section --------------------------------------------------------------------------------------------

names_lack : (opcode : ℕ) (members : List Name) → (op.NAME == opcode) ≡ false → (op.MEMBER_NAME == opcode) ≡ false → Lacks opcode (name_code members)
names_lack opcode members e f = (e, lacks_range opcode _ 0 (length members) (λ i. f))

decorations_lack : (opcode members : ℕ) → (op.DECORATE == opcode) ≡ false → (op.MEMBER_DECORATE == opcode) ≡ false → Lacks opcode (decoration_code members)
decorations_lack opcode members e f = (e, lacks_both opcode _ _ (lacks_range opcode _ 0 members (λ i. f)) (e, (e, tt)))

constants_lack : (opcode : ℕ) (constants : List ℕ) → (op.CONSTANT == opcode) ≡ false → Lacks opcode (constant_code constants)
constants_lack opcode constants e = lacks_range opcode _ 0 (length constants) (λ i. e)

-- The opcode is none of a function's code.
record IsOutside (opcode : ℕ) : Type 0 where
  function : (op.FUNCTION == opcode) ≡ false
  label : (op.LABEL == opcode) ≡ false
  chain : (op.ACCESS_CHAIN == opcode) ≡ false
  load : (op.LOAD == opcode) ≡ false
  add : (op.I_ADD == opcode) ≡ false
  store : (op.STORE == opcode) ≡ false
  return : (op.RETURN == opcode) ≡ false
  end : (op.FUNCTION_END == opcode) ≡ false

module _ (opcode : ℕ) (outside : IsOutside opcode) (constants : List ℕ) where
  term_lacks : (next : ℕ) (t : Term) (follows : Code) → Lacks opcode follows → Lacks opcode (term_code constants next t follows)
  term_lacks next (Member i) follows none = (outside.chain, (outside.load, none))
  term_lacks next (Literal n) follows none = none

  more_lacks : (next value : ℕ) (terms : List Term) (follows : Code) → Lacks opcode follows → Lacks opcode (more_code constants next value terms follows)
  more_lacks next value [] follows none = none
  more_lacks next value (t ∷ terms) follows none =
      let sum = next + term_ids constants t in
      term_lacks next t _ (outside.add, more_lacks (sum + 1) sum terms follows none)

  sum_lacks : (next : ℕ) (terms : List Term) (follows : Code) → Lacks opcode follows → Lacks opcode (sum_code constants next terms follows)
  sum_lacks next [] follows none = none
  sum_lacks next (t ∷ terms) follows none = term_lacks next t _ (more_lacks _ _ terms follows none)

  statements_lack : (next : ℕ) (statements : List Statement) (follows : Code) → Lacks opcode follows → Lacks opcode (statements_code constants next statements follows)
  statements_lack next [] follows none = none
  statements_lack next (s ∷ statements) follows none =
      sum_lacks next s.terms _ (outside.chain, (outside.store, statements_lack (next + statement_ids constants s) statements follows none))

  function_lacks : (statements : List Statement) → Lacks opcode (function_code constants statements)
  function_lacks statements = (outside.function, (outside.label, statements_lack _ statements _ (outside.return, (outside.end, tt))))

-- A program's module --------------------------------------------------------------------------------------

module _ (p : Program) (fits : IsProgram p) where
  abbrev members : ℕ
  members = length p.members

  abbrev constants : List ℕ
  constants = constants_of p

  abbrev named : Code
  named = preamble ++ name_code p.members

  abbrev decorated : Code
  decorated = named ++ decoration_code members

  abbrev typed : Code
  typed = decorated ++ type_code members

  abbrev before_variables : Code
  before_variables = typed ++ constant_code constants

  abbrev before_function : Code
  before_function = before_variables ++ variable_code

  from_decorated : (opcode : ℕ) (test : List ℕ → Bool) (args : List ℕ) → operands opcode test decorated ≡ Some args → operands opcode test (code_of p) ≡ Some args
  from_decorated opcode test args e =
      found opcode test before_function _ args (found opcode test before_variables variable_code args (found opcode test typed (constant_code constants) args (found opcode test decorated (type_code members) args e)))

  from_typed : (opcode : ℕ) (test : List ℕ → Bool) (args : List ℕ) → operands opcode test typed ≡ Some args → operands opcode test (code_of p) ≡ Some args
  from_typed opcode test args e =
      found opcode test before_function _ args (found opcode test before_variables variable_code args (found opcode test typed (constant_code constants) args e))

  in_types : (opcode : ℕ) (test : List ℕ → Bool) (args : List ℕ) → Lacks opcode decorated → operands opcode test (type_code members) ≡ Some args → operands opcode test (code_of p) ≡ Some args
  in_types opcode test args none e = from_typed opcode test args (skip opcode test decorated (type_code members) none ∙ e)

  in_decorations : (opcode : ℕ) (test : List ℕ → Bool) (args : List ℕ) → Lacks opcode named → operands opcode test (decoration_code members) ≡ Some args → operands opcode test (code_of p) ≡ Some args
  in_decorations opcode test args none e = from_decorated opcode test args (skip opcode test named (decoration_code members) none ∙ e)

  in_preamble : (opcode : ℕ) (test : List ℕ → Bool) (args : List ℕ) → operands opcode test preamble ≡ Some args → operands opcode test (code_of p) ≡ Some args
  in_preamble opcode test args e =
      from_decorated opcode test args (found opcode test named (decoration_code members) args (found opcode test preamble (name_code p.members) args e))

  named_lacks : (opcode : ℕ) → Lacks opcode preamble → (op.NAME == opcode) ≡ false → (op.MEMBER_NAME == opcode) ≡ false → Lacks opcode named
  named_lacks opcode none e f = lacks_both opcode preamble (name_code p.members) none (names_lack opcode p.members e f)

  decorated_lacks : (opcode : ℕ) → Lacks opcode preamble → (op.NAME == opcode) ≡ false → (op.MEMBER_NAME == opcode) ≡ false → (op.DECORATE == opcode) ≡ false → (op.MEMBER_DECORATE == opcode) ≡ false → Lacks opcode decorated
  decorated_lacks opcode none e f g h =
      lacks_both opcode named (decoration_code members) (named_lacks opcode none e f) (decorations_lack opcode members g h)

  typed_lacks : (opcode : ℕ) → Lacks opcode decorated → Lacks opcode (type_code members) → Lacks opcode typed
  typed_lacks opcode none types = lacks_both opcode decorated (type_code members) none types

  int_is : is_int (code_of p) id.INT ≡ true
  int_is = ap is_some (in_types op.TYPE_INT (has_at 0 id.INT) _ (decorated_lacks op.TYPE_INT (refl, (refl, (refl, (refl, tt)))) refl refl refl refl) refl)

  block_is : members_of (code_of p) id.BLOCK ≡ Some (replicate members id.INT)
  block_is = ap (option_map (drop 1)) (in_types op.TYPE_STRUCT (has_at 0 id.BLOCK) _ (decorated_lacks op.TYPE_STRUCT (refl, (refl, (refl, (refl, tt)))) refl refl refl refl) refl)

  pointee_is : pointee_of (code_of p) id.BLOCK_POINTER ≡ Some id.BLOCK
  pointee_is =
      ap (option_map (λ args. get_or args 2 0)) (in_types op.TYPE_POINTER (has_at 0 id.BLOCK_POINTER) _ (decorated_lacks op.TYPE_POINTER (refl, (refl, (refl, (refl, tt)))) refl refl refl refl) refl)

  abbrev member_decorations : Code
  member_decorations = map (λ i. instr op.MEMBER_DECORATE (id.BLOCK ∷ i ∷ decoration.OFFSET ∷ (4 * i) ∷ [])) (range_with_len 0 members)

  abbrev buffer_decorations : Code
  buffer_decorations = instr op.DECORATE (id.BUFFER ∷ decoration.DESCRIPTOR_SET ∷ 0 ∷ []) ∷ instr op.DECORATE (id.BUFFER ∷ decoration.BINDING ∷ 0 ∷ []) ∷ []

  offset_is : (i : ℕ) → i < members → member_decoration_of (code_of p) id.BLOCK i decoration.OFFSET ≡ Some (word_offset i)
  offset_is i h =
      let test = begin_with (id.BLOCK ∷ i ∷ decoration.OFFSET ∷ []) in
      ap (option_map (λ args. get_or args 3 0))
      (in_decorations op.MEMBER_DECORATE test _ (named_lacks op.MEMBER_DECORATE (refl, (refl, (refl, (refl, tt)))) refl refl)
      (found op.MEMBER_DECORATE test member_decorations buffer_decorations _
      (in_range op.MEMBER_DECORATE test (λ i. instr op.MEMBER_DECORATE (id.BLOCK ∷ i ∷ decoration.OFFSET ∷ (4 * i) ∷ [])) 0 members i
      (ap (λ b. b && true) (eq-eqb i i refl)) (λ j ne. ap (λ b. b && true) (ne_eqb j i ne)) (omega arith) (omega arith))))

  -- a decoration of the buffer
  buffer_decoration_is : (kind literal : ℕ) → operands op.DECORATE (begin_with (id.BUFFER ∷ kind ∷ [])) buffer_decorations ≡ Some (id.BUFFER ∷ kind ∷ literal ∷ []) →
      decoration_of (code_of p) id.BUFFER kind ≡ Some literal
  buffer_decoration_is kind literal e =
      let test = begin_with (id.BUFFER ∷ kind ∷ []) in
      ap (option_map (λ args. get_or args 2 0))
      (in_decorations op.DECORATE test _ (named_lacks op.DECORATE (refl, (refl, (refl, (refl, tt)))) refl refl)
      (skip op.DECORATE test member_decorations buffer_decorations (lacks_range op.DECORATE _ 0 members (λ i. refl)) ∙ e))

  set_is : decoration_of (code_of p) id.BUFFER decoration.DESCRIPTOR_SET ≡ Some SET
  set_is = buffer_decoration_is decoration.DESCRIPTOR_SET SET refl

  binding_is : decoration_of (code_of p) id.BUFFER decoration.BINDING ≡ Some BINDING
  binding_is = buffer_decoration_is decoration.BINDING BINDING refl

  abbrev constant_at : ℕ → Instr
  constant_at i = instr op.CONSTANT (id.INT ∷ (id.FIRST_CONSTANT + i) ∷ get_or constants i 0 ∷ [])

  none_before_constants : Lacks op.CONSTANT typed
  none_before_constants =
      typed_lacks op.CONSTANT (decorated_lacks op.CONSTANT (refl, (refl, (refl, (refl, tt)))) refl refl refl refl) (refl, (refl, (refl, (refl, (refl, (refl, tt))))))

  constant_is : (place : ℕ) → place < length constants → constant_of (code_of p) (id.FIRST_CONSTANT + place) ≡ Some (get_or constants place 0)
  constant_is place h =
      let test = has_at 1 (id.FIRST_CONSTANT + place) in
      ap (option_map (λ args. get_or args 2 0))
      (found op.CONSTANT test before_function _ _
      (found op.CONSTANT test before_variables variable_code _
      (skip op.CONSTANT test typed (constant_code constants) none_before_constants
      ∙ in_range op.CONSTANT test constant_at 0 (length constants) place (eq-eqb (id.FIRST_CONSTANT + place) (id.FIRST_CONSTANT + place) refl)
      (λ j ne. ne_eqb (id.FIRST_CONSTANT + j) (id.FIRST_CONSTANT + place) (omega arith)) (omega arith) (omega arith))))

  no_constant : constant_of (code_of p) id.BUFFER ≡ None
  no_constant =
      let test = has_at 1 id.BUFFER in
      ap (option_map (λ args. get_or args 2 0))
      (absent_both op.CONSTANT test before_function _
      (absent_both op.CONSTANT test before_variables variable_code
      (absent_both op.CONSTANT test typed (constant_code constants) (absent op.CONSTANT test typed none_before_constants)
      (none_in_range op.CONSTANT test constant_at 0 (length constants) (λ j. ne_eqb (id.FIRST_CONSTANT + j) id.BUFFER (omega arith)))) refl)
      (absent op.CONSTANT test (function_code constants p.statements) (function_lacks op.CONSTANT (record { function = refl; label = refl; chain = refl; load = refl; add = refl; store = refl; return = refl; end = refl }) constants p.statements)))

  none_before_variables : Lacks op.VARIABLE before_variables
  none_before_variables =
      lacks_both op.VARIABLE typed (constant_code constants)
      (typed_lacks op.VARIABLE (decorated_lacks op.VARIABLE (refl, (refl, (refl, (refl, tt)))) refl refl refl refl) (refl, (refl, (refl, (refl, (refl, (refl, tt)))))))
      (constants_lack op.VARIABLE constants refl)

  variable_is : variable_type_of (code_of p) id.BUFFER ≡ Some id.BLOCK_POINTER
  variable_is =
      let test = has_at 1 id.BUFFER in
      ap (option_map (λ args. get_or args 0 0))
      (found op.VARIABLE test before_function _ _ (skip op.VARIABLE test before_variables variable_code none_before_variables))

  buffer_is : globals (code_of p) id.BUFFER ≡ Some (Points whole_block)
  buffer_is =
      ap (global_of (code_of p) id.BUFFER) no_constant
      ∙ ap (λ o. option_map (λ pointee. Points (record { variable = id.BUFFER; offset = 0; pointee = pointee })) (option_and_then (pointee_of (code_of p)) o)) variable_is
      ∙ ap (option_map (λ pointee. Points (record { variable = id.BUFFER; offset = 0; pointee = pointee }))) pointee_is

  pub module_knows : Knows (module_of p) members constants
  module_knows = record {
    int = int_is;
    block = block_is;
    offset = offset_is;
    set = set_is;
    binding = binding_is;
    buffer = buffer_is;
    constant = λ value among.
        ap (global_of (code_of p) (constant_id constants value)) (constant_is _ among.at) ∙ ap (λ v. Some (Word v)) (value_at constants value among.at);
  }

  -- The entry ------------------------------------------------------------------------------------------------

  pub entry_is : entry (code_of p) ≡
      instr op.LABEL (id.ENTRY ∷ []) ∷ statements_code constants (first_id constants) p.statements (instr op.RETURN [] ∷ instr op.FUNCTION_END [] ∷ [])
  entry_is =
      ap (entry_code (code_of p)) (ap (option_map (λ args. get_or args 1 0)) (in_preamble op.ENTRY_POINT (λ args. true) _ refl))
      ∙ ap from_label
      (function_skip id.MAIN before_function (function_code constants p.statements)
      (lacks_both op.FUNCTION before_variables variable_code
      (lacks_both op.FUNCTION typed (constant_code constants)
      (typed_lacks op.FUNCTION (decorated_lacks op.FUNCTION (refl, (refl, (refl, (refl, tt)))) refl refl refl refl) (refl, (refl, (refl, (refl, (refl, (refl, tt)))))))
      (constants_lack op.FUNCTION constants refl)) (refl, tt)))

  -- What it asks of an input ---------------------------------------------------------------------------------

  last_is : member_end (code_of p) id.BLOCK (replicate members id.INT) (members - 1) ≡ Some (word_offset members)
  last_is =
      let some = fits.some in
      let within : members - 1 < members = omega arith in
      let ends : word_offset (members - 1) + 4 ≡ word_offset members = omega arith in
      let end = option_map (λ offset. offset + 4) (member_decoration_of (code_of p) id.BLOCK (members - 1) decoration.OFFSET) in
      ap (λ type. cond (is_int (code_of p) type) end None) (get_or-replicate members (members - 1) id.INT 0 within)
      ∙ ap (λ b. cond b end None) int_is ∙ ap (option_map (λ offset. offset + 4)) (offset_is (members - 1) within) ∙ ap Some ends

  need_is : need_of (code_of p) id.BLOCK ≡ Some (word_offset members)
  need_is =
      ap (option_and_then (λ types. member_end (code_of p) id.BLOCK types (length types - 1))) block_is
      ∙ ap (λ count. member_end (code_of p) id.BLOCK (replicate members id.INT) (count - 1)) (length-replicate members id.INT) ∙ last_is

  abbrev the_block : ℕ → ℕ → ℕ → Block
  the_block set binding need = record { set = set; binding = binding; need = need }

  block_of_variable : variable_block (code_of p) id.BUFFER id.BLOCK ≡ Some (the_block SET BINDING (word_offset members))
  block_of_variable =
      let need = need_of (code_of p) id.BLOCK in
      ap (option_and_then (λ set. option_and_then (λ binding. option_map (the_block set binding) need) (decoration_of (code_of p) id.BUFFER decoration.BINDING))) set_is
      ∙ ap (option_and_then (λ binding. option_map (the_block SET binding) need)) binding_is ∙ ap (option_map (the_block SET BINDING)) need_is

  blocks_are : filter_map (block_of (code_of p)) (code_of p) ≡ the_block SET BINDING (word_offset members) ∷ []
  blocks_are =
      let block = block_of (code_of p) in
      let variable = filter_map block variable_code in
      filter_map-append block before_function (function_code constants p.statements)
      ∙ ap (λ l. filter_map block before_function ++ l)
      (no_blocks (code_of p) (function_code constants p.statements) (function_lacks op.VARIABLE (record { function = refl; label = refl; chain = refl; load = refl; add = refl; store = refl; return = refl; end = refl }) constants p.statements))
      ∙ ap (λ l. l ++ []) (filter_map-append block before_variables variable_code)
      ∙ ap (λ l. (l ++ variable) ++ []) (no_blocks (code_of p) before_variables none_before_variables)
      ∙ ap (λ o. cons_option (option_and_then (variable_block (code_of p) id.BUFFER) o) [] ++ []) pointee_is
      ∙ ap (λ o. cons_option o [] ++ []) block_of_variable

  size_is : local_size_of (code_of p) ≡ Some (1 ∷ 1 ∷ 1 ∷ [])
  size_is =
      ap (size_of_entry (code_of p)) (in_preamble op.ENTRY_POINT (λ args. true) _ refl)
      ∙ ap (option_map (drop 2)) (in_preamble op.EXECUTION_MODE (begin_with (id.MAIN ∷ execution_mode.LOCAL_SIZE ∷ [])) _ refl)

  pub needs_are : module_needs (code_of p) ≡ needs_of p
  needs_are =
      ap (λ blocks. let needs : Needs = record { blocks = in_order blocks; local_size = local_size_of (code_of p) } in needs) blocks_are
      ∙ ap (λ size. let needs : Needs = record { blocks = the_block SET BINDING (word_offset members) ∷ []; local_size = size } in needs) size_is
