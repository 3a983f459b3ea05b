-- The module of a program places it.
use Rattle.std.proofs.Common.{◌≡◌, ℕ, suc, ◌+◌, ◌*◌, Bool, not, Option, Some, None, true, List, [], ◌∷◌, ◌++◌, length, append_assoc, append-nil, map, refl, ap, sym, ◌∙◌, arith}
use Rattle.std.specs.Prelude.{codes}
use Rattle.std.specs.List.{range_with_len, cons_option}
use Rattle.std.proofs.lemmas.Bool.{cond-false, not-true}
use Rattle.gsl_instr.specs.declared.op.TheConstants as op
use Rattle.gsl_instr.specs.declared.enumerant.execution_model.TheConstants as execution_model
use Rattle.gsl_instr.specs.declared.enumerant.execution_mode.TheConstants as execution_mode
use Rattle.gsl_instr.specs.declared.enumerant.storage_class.TheConstants as storage_class
use Rattle.gsl_instr.specs.declared.enumerant.decoration.TheConstants as decoration
use Rattle.gsl_instr.specs.Strings.{string_words}
use Rattle.gsl_instr.specs.declared.instruction.Instruction.{Instruction}
use Rattle.gsl_instr.specs.declared.instruction.Instruction.TheVariants as instruction
use Rattle.gsl_instr.specs.Forms.{form_of}
use Rattle.gsl_valid.specs.Instruction.{read, is_such}
use Rattle.gsl_valid.specs.Search.{Test, Passes}
use Rattle.gsl_valid.specs.Decorations.{number_in}
use Rattle.gsl_form.specs.declared.program.Program.{Program}
use Rattle.gsl_cmd.specs.declared.lowering.id.TheConstants as id
use Rattle.gsl_form.specs.Form.{IsProgram, name_of, Name as Text}
use Rattle.gsl_cmd.specs.Lowering.{Code, instr, code_of, constants_of, constant_code, decoration_code, module_of, name_code, type_code, variable_code}
use Rattle.gsl_cmd.specs.Layout.{MemberType, Int, first_multiple, offsets_from, offsets, need, block_size, member_types}
use Rattle.gsl_cmd.specs.Places.{Places, if_such, those, is_entry, is_mode, is_variable, is_name, is_of_member, member_names, member_offsets}
use Rattle.gsl_cmd.proofs.Parts.{member_offset, before_names, before_decorations, before_types, before_constants, before_variable, before_function, from_names, from_decorations, from_types, from_constants, from_variable, the_function, in_parts, passes_from_names}
use Rattle.gsl_cmd.proofs.Facts.{facts}
use Rattle.gsl_cmd.proofs.Quiet.{set_decoration, binding_decoration, names_pass, decorations_pass, constants_pass, function_pass}
use Rattle.gsl_cmd.proofs.Decorated.{block_is_buffer, buffer_set, buffer_binding}

module _ (of_class : Instruction → Bool) where
  -- no instruction is of the class
  abbrev none_of_class : Test
  none_of_class before i = not (is_such of_class (read i))

  no_such : (d : Option Instruction) → not (is_such of_class d) ≡ true → if_such of_class d ≡ None
  unfolding form_of
  no_such None e = refl
  no_such (Some i) e = cond-false _ _ _ (not-true _ e)

  skipped : (before a b : Code) → Passes none_of_class before a → those of_class (a ++ b) ≡ those of_class b
  unfolding form_of
  skipped before [] b none = refl
  skipped before (i ∷ a) b none = ap (λ o. cons_option o (those of_class (a ++ b))) (no_such (read i) none.0) ∙ skipped (i ∷ before) a b none.1

  none_there : (before code : Code) → Passes none_of_class before code → those of_class code ≡ []
  unfolding form_of
  none_there before code none = sym (ap (those of_class) (append-nil code)) ∙ skipped before code [] none

-- The offsets are four bytes apart.
offsets_are : (first : ℕ) (members : List Text) (rest : Code) →
    those is_of_member (map member_offset (range_with_len first (length members)) ++ rest)
    ≡ member_offsets id.BLOCK first (offsets_from (4 * first) (map (λ name. Int) members)) ++ those is_of_member rest
unfolding form_of
offsets_are first [] rest = refl
offsets_are first (name ∷ members) rest =
    let here : 4 * first ≡ first_multiple 4 (4 * first) = omega arith in
    let next : 4 * (first + 1) ≡ first_multiple 4 (4 * first) + 4 = omega arith in
    ap (λ later. instruction.MemberDecorate id.BLOCK first decoration.OFFSET (4 * first ∷ []) ∷ later) (offsets_are (first + 1) members rest)
    ∙ ap (λ o. instruction.MemberDecorate id.BLOCK first decoration.OFFSET (o ∷ []) ∷ (member_offsets id.BLOCK (first + 1) (offsets_from (4 * (first + 1)) (map (λ name. Int) members)) ++ those is_of_member rest)) here
    ∙ ap (λ end. instruction.MemberDecorate id.BLOCK first decoration.OFFSET (first_multiple 4 (4 * first) ∷ []) ∷ (member_offsets id.BLOCK (first + 1) (offsets_from end (map (λ name. Int) members)) ++ those is_of_member rest)) next

-- The names are the members'.
names_are : (f : ℕ → Text) (first : ℕ) (members : List Text) (rest : Code) → ((j : ℕ) → f (first + j) ≡ name_of members j) →
    those is_name (map (λ i. instr op.MEMBER_NAME (id.BLOCK ∷ i ∷ string_words (f i))) (range_with_len first (length members)) ++ rest)
    ≡ member_names id.BLOCK first members ++ those is_name rest
unfolding form_of
names_are f first [] rest named = refl
names_are f first (name ∷ members) rest named =
    let here : f first ≡ name = ap f (let e : first ≡ first + 0 = omega arith in e) ∙ named 0 in
    let later : (j : ℕ) → f ((first + 1) + j) ≡ name_of members j = λ j. ap f (let e : (first + 1) + j ≡ first + suc j = omega arith in e) ∙ named (suc j) in
    ap (λ t. instruction.MemberName id.BLOCK first (string_words t) ∷ those is_name (map (λ i. instr op.MEMBER_NAME (id.BLOCK ∷ i ∷ string_words (f i))) (range_with_len (first + 1) (length members)) ++ rest)) here
    ∙ ap (λ names. instruction.MemberName id.BLOCK first (string_words name) ∷ names) (names_are f (first + 1) members rest later)

module _ (p : Program) (fits : IsProgram p) where
  entry_is : those is_entry (code_of p) ≡ instruction.EntryPoint execution_model.GL_COMPUTE id.MAIN (string_words (codes "main")) [] ∷ []
  unfolding form_of
  entry_is =
      let test = none_of_class is_entry in
      ap (those is_entry) (in_parts p)
      ∙ ap (λ others. instruction.EntryPoint execution_model.GL_COMPUTE id.MAIN (string_words (codes "main")) [] ∷ others)
      (none_there is_entry before_names (from_names p)
      (passes_from_names p test (names_pass test p.members before_names (λ b. refl) (λ k b. refl))
      (decorations_pass test (length p.members) (before_decorations p) (λ b. refl) (λ k within b. refl) (λ b. refl) (λ b. refl))
      (refl, (refl, (refl, (refl, (refl, (refl, tt)))))) (constants_pass test (constants_of p) (before_constants p) (λ k within b. refl)) (refl, tt)
      (function_pass test p fits (before_function p) (λ b. refl) (λ b. refl) (λ n k b. refl) (λ n q b. refl) (λ n a c b. refl) (λ q v b. refl) (λ b. refl) (λ b. refl))))

  mode_is : those is_mode (code_of p) ≡ instruction.ExecutionMode id.MAIN execution_mode.LOCAL_SIZE (1 ∷ 1 ∷ 1 ∷ []) ∷ []
  unfolding form_of
  mode_is =
      let test = none_of_class is_mode in
      ap (those is_mode) (in_parts p)
      ∙ ap (λ others. instruction.ExecutionMode id.MAIN execution_mode.LOCAL_SIZE (1 ∷ 1 ∷ 1 ∷ []) ∷ others)
      (none_there is_mode before_names (from_names p)
      (passes_from_names p test (names_pass test p.members before_names (λ b. refl) (λ k b. refl))
      (decorations_pass test (length p.members) (before_decorations p) (λ b. refl) (λ k within b. refl) (λ b. refl) (λ b. refl))
      (refl, (refl, (refl, (refl, (refl, (refl, tt)))))) (constants_pass test (constants_of p) (before_constants p) (λ k within b. refl)) (refl, tt)
      (function_pass test p fits (before_function p) (λ b. refl) (λ b. refl) (λ n k b. refl) (λ n q b. refl) (λ n a c b. refl) (λ q v b. refl) (λ b. refl) (λ b. refl))))

  variable_is : those is_variable (code_of p) ≡ instruction.Variable id.BLOCK_POINTER id.BUFFER storage_class.UNIFORM [] ∷ []
  unfolding form_of
  variable_is =
      let test = none_of_class is_variable in
      ap (those is_variable) (in_parts p)
      ∙ skipped is_variable before_names (name_code p.members) (from_decorations p) (names_pass test p.members before_names (λ b. refl) (λ k b. refl))
      ∙ skipped is_variable (before_decorations p) (decoration_code (length p.members)) (from_types p)
      (decorations_pass test (length p.members) (before_decorations p) (λ b. refl) (λ k within b. refl) (λ b. refl) (λ b. refl))
      ∙ skipped is_variable (before_constants p) (constant_code (constants_of p)) (from_variable p)
      (constants_pass test (constants_of p) (before_constants p) (λ k within b. refl))
      ∙ ap (λ others. instruction.Variable id.BLOCK_POINTER id.BUFFER storage_class.UNIFORM [] ∷ others)
      (none_there is_variable (before_function p) (the_function p)
      (function_pass test p fits (before_function p) (λ b. refl) (λ b. refl) (λ n k b. refl) (λ n q b. refl) (λ n a c b. refl) (λ q v b. refl) (λ b. refl) (λ b. refl)))

  -- no instruction from the types on
  none_from_types : (of_class : Instruction → Bool) → Passes (none_of_class of_class) (before_types p) (type_code (length p.members)) →
      Passes (none_of_class of_class) (before_constants p) (constant_code (constants_of p)) → Passes (none_of_class of_class) (before_variable p) variable_code →
      Passes (none_of_class of_class) (before_function p) (the_function p) → those of_class (from_types p) ≡ []
  unfolding form_of
  none_from_types of_class types constants variable function =
      skipped of_class (before_types p) (type_code (length p.members)) (from_constants p) types
      ∙ skipped of_class (before_constants p) (constant_code (constants_of p)) (from_variable p) constants
      ∙ skipped of_class (before_variable p) variable_code (the_function p) variable ∙ none_there of_class (before_function p) (the_function p) function

  offsets_placed : those is_of_member (code_of p) ≡ member_offsets id.BLOCK 0 (offsets (member_types p))
  unfolding form_of
  offsets_placed =
      let test = none_of_class is_of_member in
      let all = map member_offset (range_with_len 0 (length p.members)) in
      ap (those is_of_member) (in_parts p)
      ∙ skipped is_of_member before_names (name_code p.members) (from_decorations p) (names_pass test p.members before_names (λ b. refl) (λ k b. refl))
      ∙ ap (those is_of_member) (append_assoc all (set_decoration ∷ binding_decoration ∷ []) (from_types p))
      ∙ offsets_are 0 p.members (set_decoration ∷ binding_decoration ∷ from_types p)
      ∙ ap (λ others. member_offsets id.BLOCK 0 (offsets (member_types p)) ++ others)
      (none_from_types is_of_member (refl, (refl, (refl, (refl, (refl, (refl, tt)))))) (constants_pass test (constants_of p) (before_constants p) (λ k within b. refl)) (refl, tt)
      (function_pass test p fits (before_function p) (λ b. refl) (λ b. refl) (λ n k b. refl) (λ n q b. refl) (λ n a c b. refl) (λ q v b. refl) (λ b. refl) (λ b. refl)))
      ∙ append-nil (member_offsets id.BLOCK 0 (offsets (member_types p)))

  names_placed : those is_name (code_of p) ≡ instruction.Name id.BLOCK (string_words (codes "B")) ∷ member_names id.BLOCK 0 p.members
  unfolding form_of
  names_placed =
      let test = none_of_class is_name in
      let block = instruction.Name id.BLOCK (string_words (codes "B")) in
      ap (those is_name) (in_parts p)
      ∙ ap (λ others. block ∷ others) (names_are (name_of p.members) 0 p.members (from_decorations p) (λ j. ap (name_of p.members) (let e : 0 + j ≡ j = omega arith in e)))
      ∙ ap (λ others. block ∷ (member_names id.BLOCK 0 p.members ++ others))
      (skipped is_name (before_decorations p) (decoration_code (length p.members)) (from_types p)
      (decorations_pass test (length p.members) (before_decorations p) (λ b. refl) (λ k within b. refl) (λ b. refl) (λ b. refl))
      ∙ none_from_types is_name (refl, (refl, (refl, (refl, (refl, (refl, tt)))))) (constants_pass test (constants_of p) (before_constants p) (λ k within b. refl)) (refl, tt)
      (function_pass test p fits (before_function p) (λ b. refl) (λ b. refl) (λ n k b. refl) (λ n q b. refl) (λ n a c b. refl) (λ q v b. refl) (λ b. refl) (λ b. refl)))
      ∙ ap (λ names. block ∷ names) (append-nil (member_names id.BLOCK 0 p.members))

  pub module_placed : Places (module_of p) p
  unfolding form_of
  module_placed =
      let known = facts p fits in
      record {
        main = id.MAIN;
        int = id.INT;
        block = id.BLOCK;
        pointer = id.BLOCK_POINTER;
        buffer = id.BUFFER;
        entry = entry_is;
        mode = mode_is;
        variable = variable_is;
        points = known.block_pointer;
        set = ap number_in (buffer_set p);
        binding = ap number_in (buffer_binding p);
        buffer_block = block_is_buffer p;
        struct = known.block;
        ints = known.int;
        offset = offsets_placed;
        names = names_placed;
      }

-- Three members, by the layout's equations -------------------------------------------------------------------------

three : List MemberType
unfolding form_of
three = Int ∷ Int ∷ Int ∷ []

three_offsets : (offsets three ≡ 0 ∷ 4 ∷ 8 ∷ []) × (need three ≡ 12) × (block_size three ≡ 12)
unfolding three form_of
three_offsets = (refl, refl, refl)
