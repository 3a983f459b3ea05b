-- A loop that looks for an instruction.
use Rattle.std.proofs.Common.{◌≡◌, ◌≢◌, ℕ, zero, suc, ◌+◌, List, [], ◌∷◌, length, get_or, drop, Some, Bool, true, false, cond, ◌==◌, ◌&&◌, eq-eqb, ne_eqb, ap, sym, ◌∙◌, arith}
use Rattle.std.specs.Prelude.{slice_get, IsSomeAnd}
use Rattle.gsl_cmd.specs.Lowering.{Code, instr}
use Rattle.gsl_words.specs.declared.module.Module.{Module}
use Rattle.gsl_instr.specs.declared.op.TheConstants as op
use Rattle.gsl_cmd.specs.Sections.{operands}
use Rattle.gsl_cmd.specs.Machine.{State, words_of, from_label, in_function, step_on, act, place_of, action_of}

-- the instruction at an index is found, or passed over
pub looked_at : (opcode : ℕ) (test : List ℕ → Bool) (code : Code) (i o : ℕ) (args : List ℕ) →
    IsSomeAnd (slice_get code i) (λ instr. o ≡ instr.op) → IsSomeAnd (slice_get code i) (λ instr. args ≡ instr.args) →
    operands opcode test (drop i code) ≡ cond (o == opcode && test args) (Some args) (operands opcode test (drop (i + 1) code))
looked_at opcode test [] i o args is_op are_args = absurd is_op
looked_at opcode test (x ∷ code) zero o args is_op are_args =
    sym (ap (λ v. cond (v == opcode && test args) (Some args) (operands opcode test code)) is_op
    ∙ ap (λ a. cond (x.op == opcode && test a) (Some a) (operands opcode test code)) are_args)
looked_at opcode test (x ∷ code) (suc i) o args is_op are_args =
    let next : suc i + 1 ≡ suc (i + 1) = omega arith in
    looked_at opcode test code i o args is_op are_args
    ∙ ap (λ k. cond (o == opcode && test args) (Some args) (operands opcode test (drop k (x ∷ code)))) (sym next)

-- the code from an index on
pub dropped : (code : Code) (i o : ℕ) (args : List ℕ) → IsSomeAnd (slice_get code i) (λ instr. o ≡ instr.op) → IsSomeAnd (slice_get code i) (λ instr. args ≡ instr.args) →
    drop i code ≡ instr o args ∷ drop (i + 1) code
dropped [] i o args is_op are_args = absurd is_op
dropped (x ∷ code) zero o args is_op are_args = sym (ap (λ v. instr v args ∷ code) is_op ∙ ap (λ a. instr x.op a ∷ code) are_args)
dropped (x ∷ code) (suc i) o args is_op are_args =
    let next : suc i + 1 ≡ suc (i + 1) = omega arith in
    dropped code i o args is_op are_args ∙ ap (λ k. instr o args ∷ drop k (x ∷ code)) (sym next)

module _ (opcode : ℕ) (test : List ℕ → Bool) (code : Code) (i o : ℕ) (args : List ℕ) (is_op : IsSomeAnd (slice_get code i) (λ instr. o ≡ instr.op)) (are_args : IsSomeAnd (slice_get code i) (λ instr. args ≡ instr.args)) where
  pub passed_op : o ≢ opcode → operands opcode test (drop (i + 1) code) ≡ operands opcode test (drop i code)
  passed_op ne =
      sym (looked_at opcode test code i o args is_op are_args
      ∙ ap (λ b. cond (b && test args) (Some args) (operands opcode test (drop (i + 1) code))) (ne_eqb o opcode ne))

  pub passed_test : o ≡ opcode → test args ≡ false → operands opcode test (drop (i + 1) code) ≡ operands opcode test (drop i code)
  passed_test e fails =
      sym (looked_at opcode test code i o args is_op are_args
      ∙ ap (λ b. cond (b && test args) (Some args) (operands opcode test (drop (i + 1) code))) (eq-eqb o opcode e)
      ∙ ap (λ b. cond b (Some args) (operands opcode test (drop (i + 1) code))) fails)

  pub met : o ≡ opcode → test args ≡ true → Some args ≡ operands opcode test (drop i code)
  met e passes =
      sym (looked_at opcode test code i o args is_op are_args
      ∙ ap (λ b. cond (b && test args) (Some args) (operands opcode test (drop (i + 1) code))) (eq-eqb o opcode e)
      ∙ ap (λ b. cond b (Some args) (operands opcode test (drop (i + 1) code))) passes)

-- the words from an index on
pub words_dropped : (code : Code) (i : ℕ) (args : List ℕ) → IsSomeAnd (slice_get code i) (λ instr. args ≡ instr.args) → words_of (drop i code) ≡ 1 + length args + words_of (drop (i + 1) code)
words_dropped [] i args are_args = absurd are_args
words_dropped (x ∷ code) zero args are_args = ap (λ (a : List ℕ). 1 + length a + words_of code) (sym are_args)
words_dropped (x ∷ code) (suc i) args are_args =
    let next : suc i + 1 ≡ suc (i + 1) = omega arith in
    words_dropped code i args are_args ∙ ap (λ k. 1 + length args + words_of (drop k (x ∷ code))) (sym next)

-- whether an instruction at an index is a label
pub label_at : (code : Code) (i o : ℕ) → IsSomeAnd (slice_get code i) (λ instr. o ≡ instr.op) → from_label (drop i code) ≡ cond (o == op.LABEL) (drop i code) (from_label (drop (i + 1) code))
label_at [] i o is_op = absurd is_op
label_at (x ∷ code) zero o is_op = ap (λ v. cond (v == op.LABEL) (x ∷ code) (from_label code)) (sym is_op)
label_at (x ∷ code) (suc i) o is_op =
    let next : suc i + 1 ≡ suc (i + 1) = omega arith in
    label_at code i o is_op ∙ ap (λ k. cond (o == op.LABEL) (drop i code) (from_label (drop k (x ∷ code)))) (sym next)

pub label_here : (code : Code) (i o : ℕ) → IsSomeAnd (slice_get code i) (λ instr. o ≡ instr.op) → o ≡ op.LABEL → drop i code ≡ from_label (drop i code)
label_here code i o is_op e =
    sym (label_at code i o is_op ∙ ap (λ b. cond b (drop i code) (from_label (drop (i + 1) code))) (eq-eqb o op.LABEL e))

pub label_passed : (code : Code) (i o : ℕ) → IsSomeAnd (slice_get code i) (λ instr. o ≡ instr.op) → o ≢ op.LABEL → from_label (drop (i + 1) code) ≡ from_label (drop i code)
label_passed code i o is_op ne =
    sym (label_at code i o is_op ∙ ap (λ b. cond b (drop i code) (from_label (drop (i + 1) code))) (ne_eqb o op.LABEL ne))

module _ (function : ℕ) (code : Code) (i o : ℕ) (args : List ℕ) (is_op : IsSomeAnd (slice_get code i) (λ instr. o ≡ instr.op)) (are_args : IsSomeAnd (slice_get code i) (λ instr. args ≡ instr.args)) where
  looked : in_function function (drop i code) ≡ cond (o == op.FUNCTION && get_or args 1 0 == function) (drop (i + 1) code) (in_function function (drop (i + 1) code))
  looked = ap (in_function function) (dropped code i o args is_op are_args)

  pub function_here : o ≡ op.FUNCTION → get_or args 1 0 ≡ function → drop (i + 1) code ≡ in_function function (drop i code)
  function_here e f =
      sym (looked ∙ ap (λ b. cond (b && get_or args 1 0 == function) (drop (i + 1) code) (in_function function (drop (i + 1) code))) (eq-eqb o op.FUNCTION e)
      ∙ ap (λ b. cond b (drop (i + 1) code) (in_function function (drop (i + 1) code))) (eq-eqb _ function f))

  pub function_passed_op : o ≢ op.FUNCTION → in_function function (drop (i + 1) code) ≡ in_function function (drop i code)
  function_passed_op ne =
      sym (looked ∙ ap (λ b. cond (b && get_or args 1 0 == function) (drop (i + 1) code) (in_function function (drop (i + 1) code))) (ne_eqb o op.FUNCTION ne))

  pub function_passed : o ≡ op.FUNCTION → get_or args 1 0 ≢ function → in_function function (drop (i + 1) code) ≡ in_function function (drop i code)
  function_passed e ne =
      sym (looked ∙ ap (λ b. cond (b && get_or args 1 0 == function) (drop (i + 1) code) (in_function function (drop (i + 1) code))) (eq-eqb o op.FUNCTION e)
      ∙ ap (λ b. cond b (drop (i + 1) code) (in_function function (drop (i + 1) code))) (ne_eqb _ function ne))

-- one step of a run that stands at an index
pub step_here : (m : Module) (s : State) (i o : ℕ) (args : List ℕ) → IsSomeAnd (slice_get m.instrs i) (λ instr. o ≡ instr.op) → IsSomeAnd (slice_get m.instrs i) (λ instr. args ≡ instr.args) →
    step_on m s (drop i m.instrs) ≡ act m.instrs (place_of m (drop i m.instrs)) (record s { rest = drop (i + 1) m.instrs }) (action_of (instr o args))
step_here m s i o args is_op are_args =
    let here = dropped m.instrs i o args is_op are_args in
    ap (step_on m s) here ∙ ap (λ code. act m.instrs (place_of m code) (record s { rest = drop (i + 1) m.instrs }) (action_of (instr o args))) (sym here)
