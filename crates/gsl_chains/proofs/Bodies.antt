-- The body of the function of an id, by what defines the id.
use Rattle.std.proofs.Common.{◌≡◌, refl, sym, ap, ◌∙◌, ℕ, ◌+◌, ◌<◌, ◌≤◌, Bool, true, false, ◌&&◌, ◌||◌, if◌then◌else◌, List, [], ◌∷◌, length, Option, Some, None, arith}
use Rattle.std.specs.Prelude.{◌==◌, is_some, nat_le, nat_lt, not}
use Rattle.std.proofs.lemmas.Bool.{and_from, and_parts, cond-false, cond-true, false≢true, ltb-true, or_left, true≢false}
use Rattle.gsl_instr.specs.declared.instruction.Instruction.{Instruction}
use Rattle.gsl_instr.specs.declared.op.TheConstants as op
use Rattle.gsl_instr.specs.Forms.{form_of}
use Rattle.gsl_instr.specs.Instructions.{read_as}
use Rattle.std.specs.Option.{option_map}
use Rattle.std.proofs.lemmas.Bool.{eqb-true}
use Rattle.gsl_words.specs.declared.module.Instr.{Instr}
use Rattle.gsl_words.specs.declared.module.Module.{Module}
use Rattle.gsl_words.specs.Instructions.{word_count}
use Rattle.gsl_valid.specs.Ids.{defined, definition, defines}
use Rattle.gsl_valid.specs.IdsDefinedOnce.{defines_once, ids_defined_once, is_new}
use Rattle.gsl_valid.specs.Instruction.{read}
use Rattle.gsl_valid.specs.Kinds.{kind}
use Rattle.gsl_valid.specs.Placed.{Code, Placed, header_size, placed_from}
use Rattle.gsl_valid.specs.Search.{Passes}
use Rattle.gsl_valid.specs.Types.{begins, defined_as}
use Rattle.gsl_valid.proofs.Searching.{each_passes}
use Rattle.gsl_ids.specs.Table.{number_of}
use Rattle.gsl_ids.proofs.Bodies.{never_again}
use Rattle.gsl_machine.specs.Functions.{function_at, function_in, up_to_end}
use Rattle.gsl_positions.specs.Positions.{left}
use Rattle.gsl_positions.proofs.Standing.{function_stands, nothing_left}
use Rattle.gsl_sound_code.proofs.Looks.{defines_result}
use Rattle.gsl_sound_code.proofs.Opcodes.{function_op}
use Rattle.gsl_chains.specs.Chains.{body_of, body_or}

reads_function : (i : Instr) → (i.op == op.FUNCTION) ≡ true → begins (kind (read i)) ≡ true
unfolding form_of
reads_function i is = ap (λ n. begins (kind (option_map (λ f. read_as f i.op i.args) (form_of n)))) (eqb-true i.op op.FUNCTION is)

begins_op : (i : Instr) (d : Option Instruction) → read i ≡ d → begins (kind d) ≡ true → (i.op == op.FUNCTION) ≡ true
begins_op i None is begun = absurd (false≢true begun)
begins_op i (Some d) is begun = function_op i d is begun

-- an instruction has the opcode exactly where it begins a function
pub opcode_tells : (i : Instr) → (i.op == op.FUNCTION) ≡ begins (kind (read i))
opcode_tells i = by_test (i.op == op.FUNCTION) (begins (kind (read i))) (λ is. reads_function i is) (λ is. begins_op i (read i) refl is)
  where
    by_test : (a b : Bool) → (a ≡ true → b ≡ true) → (b ≡ true → a ≡ true) → a ≡ b
    by_test true b to from = sym (to refl)
    by_test false true to from = from refl
    by_test false false to from = refl

never : (b c : Bool) → c ≡ false → (b && c) ≡ false
never true c is = is
never false c is = refl

nothing_defined : (code : Code) (place id : ℕ) → defined code id ≡ false → function_in (placed_from place code) id ≡ None
nothing_defined [] place id is = refl
nothing_defined (i ∷ code) place id is = by_test (defines i id) refl is (nothing_defined code (place + word_count i) id)
  where
    by_test : (b : Bool) → defines i id ≡ b → (b || defined code id) ≡ false → (defined code id ≡ false → function_in (placed_from (place + word_count i) code) id ≡ None) → function_in (placed_from place (i ∷ code)) id ≡ None
    by_test true here is later = absurd (true≢false is)
    by_test false here is later = cond-false (i.op == op.FUNCTION && defines i id) _ _ (never (i.op == op.FUNCTION) (defines i id) here) ∙ later is

module _ (bound : ℕ) where
  small : (before : Code) (i : Instr) (id : ℕ) → defines_once bound before i ≡ true → defines i id ≡ true → id < bound
  small before i id new is =
      let p : is_new bound before (Some id) ≡ true = ap (is_new bound before) (sym (defines_result i id is)) ∙ new in
      ltb-true id bound (and_parts (nat_le 1 id) (nat_lt id bound) (and_parts (nat_le 1 id && nat_lt id bound) (not (defined before id)) p).0).1

  -- an id that is not below the bound is that of no function
  beyond : (before code : Code) (place id : ℕ) → Passes (defines_once bound) before code → bound ≤ id → function_in (placed_from place code) id ≡ None
  beyond before [] place id all over = refl
  beyond before (i ∷ code) place id all over = by_test (defines i id) refl (beyond (i ∷ before) code (place + word_count i) id all.1 over)
    where
      by_test : (b : Bool) → defines i id ≡ b → function_in (placed_from (place + word_count i) code) id ≡ None → function_in (placed_from place (i ∷ code)) id ≡ None
      by_test true here later = absurd (let low = small before i id all.0 here in omega (arith, low, over))
      by_test false here later = cond-false (i.op == op.FUNCTION && defines i id) _ _ (never (i.op == op.FUNCTION) (defines i id) here) ∙ later

  -- an id is that of a function exactly where what defines it begins one
  is_one : (before code : Code) (place id : ℕ) → Passes (defines_once bound) before code → is_some (function_in (placed_from place code) id) ≡ begins (kind (definition code id))
  is_one before [] place id all = refl
  is_one before (i ∷ code) place id all = by_test (defines i id) refl (is_one (i ∷ before) code (place + word_count i) id all.1)
    where
      by_op : (b : Bool) → (i.op == op.FUNCTION) ≡ b → defines i id ≡ true → is_some (function_in (placed_from place (i ∷ code)) id) ≡ b
      by_op true is here = ap is_some (cond-true (i.op == op.FUNCTION && defines i id) (Some (up_to_end (placed_from (place + word_count i) code))) (function_in (placed_from (place + word_count i) code) id) (and_from _ _ is here))
      by_op false is here =
          ap is_some
          (ap (λ b. if b && defines i id then Some (up_to_end (placed_from (place + word_count i) code)) else function_in (placed_from (place + word_count i) code) id) is
          ∙ nothing_defined code (place + word_count i) id (never_again bound (i ∷ before) code id all.1 (or_left (defines i id) _ here)))

      by_test : (b : Bool) → defines i id ≡ b → is_some (function_in (placed_from (place + word_count i) code) id) ≡ begins (kind (definition code id)) → is_some (function_in (placed_from place (i ∷ code)) id) ≡ begins (kind (definition (i ∷ code) id))
      by_test true here later = by_op (i.op == op.FUNCTION) refl here ∙ opcode_tells i ∙ ap (λ d. begins (kind d)) (sym (cond-true (defines i id) (read i) (definition code id) here))
      by_test false here later =
          ap is_some (cond-false (i.op == op.FUNCTION && defines i id) (Some (up_to_end (placed_from (place + word_count i) code))) (function_in (placed_from (place + word_count i) code) id) (never (i.op == op.FUNCTION) (defines i id) here))
          ∙ later ∙ ap (λ d. begins (kind d)) (sym (cond-false (defines i id) (read i) (definition code id) here))

module _ (m : Module) (once : ids_defined_once m ≡ None) where
  all_once : Passes (defines_once m.bound) [] m.instrs
  all_once = each_passes (defines_once m.bound) m once

  begun_is : (id : ℕ) → is_some (function_at m id) ≡ begins (kind (defined_as m id))
  begun_is id = is_one m.bound [] m.instrs header_size id all_once

  -- where an id is that of a function, its body stands behind what defines it
  pub there : (id : ℕ) → begins (kind (defined_as m id)) ≡ true → left m (number_of m id) ≡ body_of m id
  there id is = by_body (function_at m id) refl (begun_is id ∙ is)
    where
      by_body : (o : Option (List Placed)) → function_at m id ≡ o → is_some o ≡ true → left m (number_of m id) ≡ body_or (function_at m id)
      by_body None here is = absurd (false≢true is)
      by_body (Some body) here is = sym (function_stands m once id body here) ∙ ap body_or (sym here)

  -- and else there is none
  pub nowhere : (id : ℕ) → begins (kind (defined_as m id)) ≡ false → left m (length m.instrs) ≡ body_of m id
  nowhere id is = by_body (function_at m id) refl (begun_is id ∙ is)
    where
      by_body : (o : Option (List Placed)) → function_at m id ≡ o → is_some o ≡ false → left m (length m.instrs) ≡ body_or (function_at m id)
      by_body None here is = nothing_left m (length m.instrs) (omega arith) ∙ ap body_or (sym here)
      by_body (Some body) here is = absurd (true≢false is)

  pub no_body : (id : ℕ) → m.bound ≤ id → body_of m id ≡ []
  no_body id over = ap body_or (beyond m.bound [] m.instrs header_size id all_once over)
