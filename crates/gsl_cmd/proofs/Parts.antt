-- The sections of a program's module, one behind the other.
use Rattle.std.proofs.Common.{◌≡◌, ℕ, zero, suc, ◌+◌, ◌<◌, ◌≤◌, Bool, false, List, [], ◌∷◌, ◌++◌, length, drop, get_or, map, append_assoc, refl, ap, sym, subst, ◌∙◌, inl, inr, arith}
use Rattle.std.specs.List.{list_any, range_with_len}
use Rattle.std.proofs.lemmas.List.Folds.{list_any-append}
use Rattle.std.proofs.lemmas.Bool.{or_from, or_parts, cases_order}
use Rattle.std.proofs.Common.{◌*◌}
use Rattle.std.specs.Prelude.{codes}
use Rattle.gsl_words.specs.declared.module.Instr.{Instr}
use Rattle.gsl_instr.specs.declared.op.TheConstants as op
use Rattle.gsl_instr.specs.declared.enumerant.decoration.TheConstants as decoration
use Rattle.gsl_instr.specs.Strings.{string_words}
use Rattle.gsl_valid.specs.Search.{Test, passed, from_here, Passes}
use Rattle.gsl_valid.proofs.Searching.{passed_append, passes_append, behind_front}
use Rattle.gsl_valid.proofs.Lookups.{Has, has_left, has_right}
use Rattle.gsl_form.specs.declared.program.Program.{Program}
use Rattle.gsl_cmd.specs.declared.lowering.id.TheConstants as id
use Rattle.gsl_form.specs.Form.{Name, name_of}
use Rattle.gsl_cmd.specs.Lowering.{Code, instr, function_code, constant_code, preamble, name_code, decoration_code, type_code, variable_code, code_of, constants_of, module_of}

-- the instructions of sections that are made from numbers
abbrev pub member_name : List Name → ℕ → Instr
member_name members i = instr op.MEMBER_NAME (id.BLOCK ∷ i ∷ string_words (name_of members i))

abbrev pub member_offset : ℕ → Instr
member_offset i = instr op.MEMBER_DECORATE (id.BLOCK ∷ i ∷ decoration.OFFSET ∷ (4 * i) ∷ [])

abbrev pub constant_at : List ℕ → ℕ → Instr
constant_at constants i = instr op.CONSTANT (id.INT ∷ (id.FIRST_CONSTANT + i) ∷ get_or constants i 0 ∷ [])

-- what stands behind the function's statements
abbrev pub ending : Code
ending = instr op.RETURN [] ∷ instr op.FUNCTION_END [] ∷ []

-- what stands before each section, the last first
abbrev pub before_names : Code
before_names = passed [] preamble

module _ (p : Program) where
  abbrev pub before_decorations : Code
  before_decorations = passed before_names (name_code p.members)

  abbrev pub before_types : Code
  before_types = passed before_decorations (decoration_code (length p.members))

  abbrev pub before_constants : Code
  before_constants = passed before_types (type_code (length p.members))

  abbrev pub before_variable : Code
  before_variable = passed before_constants (constant_code (constants_of p))

  abbrev pub before_function : Code
  before_function = passed before_variable variable_code

  -- what stands before the function's statements
  abbrev pub before_code : Code
  before_code = instr op.LABEL (id.ENTRY ∷ []) ∷ instr op.FUNCTION (id.VOID ∷ id.MAIN ∷ 0 ∷ id.MAIN_TYPE ∷ []) ∷ before_function

  abbrev pub the_function : Code
  the_function = function_code (constants_of p) p.statements

  -- the sections, each before the others that follow it
  abbrev pub from_variable : Code
  from_variable = variable_code ++ the_function

  abbrev pub from_constants : Code
  from_constants = constant_code (constants_of p) ++ from_variable

  abbrev pub from_types : Code
  from_types = type_code (length p.members) ++ from_constants

  abbrev pub from_decorations : Code
  from_decorations = decoration_code (length p.members) ++ from_types

  abbrev pub from_names : Code
  from_names = name_code p.members ++ from_decorations

  abbrev pub parts : Code
  parts = preamble ++ from_names

  pub in_parts : code_of p ≡ parts
  in_parts =
      let a = preamble in
      let b = name_code p.members in
      let c = decoration_code (length p.members) in
      let d = type_code (length p.members) in
      let e = constant_code (constants_of p) in
      let f = variable_code in
      let g = the_function in
      append_assoc ((((a ++ b) ++ c) ++ d) ++ e) f g ∙ append_assoc (((a ++ b) ++ c) ++ d) e (f ++ g)
      ∙ append_assoc ((a ++ b) ++ c) d (e ++ (f ++ g)) ∙ append_assoc (a ++ b) c (d ++ (e ++ (f ++ g))) ∙ append_assoc a b (c ++ (d ++ (e ++ (f ++ g))))

  -- all sections before the function
  abbrev pub front : Code
  front = ((((preamble ++ name_code p.members) ++ decoration_code (length p.members)) ++ type_code (length p.members)) ++ constant_code (constants_of p)) ++ variable_code

  front_is : passed [] front ≡ before_function
  front_is =
      let a = preamble in
      let b = name_code p.members in
      let c = decoration_code (length p.members) in
      let d = type_code (length p.members) in
      let e = constant_code (constants_of p) in
      let f = variable_code in
      passed_append [] ((((a ++ b) ++ c) ++ d) ++ e) f
      ∙ ap (λ z. passed z f)
      (passed_append [] (((a ++ b) ++ c) ++ d) e
      ∙ ap (λ z. passed z e) (passed_append [] ((a ++ b) ++ c) d ∙ ap (λ z. passed z d) (passed_append [] (a ++ b) c ∙ ap (λ z. passed z c) (passed_append [] a b))))

  -- Behind them stands the function.
  pub from_function : from_here (module_of p) before_function ≡ the_function
  from_function = ap (λ z. drop (length z) (code_of p)) (sym front_is) ∙ behind_front front the_function

  -- What passes section by section passes.
  pub passes_from_names : (test : Test) → Passes test before_names (name_code p.members) →
      Passes test before_decorations (decoration_code (length p.members)) → Passes test before_types (type_code (length p.members)) →
      Passes test before_constants (constant_code (constants_of p)) → Passes test before_variable variable_code → Passes test before_function the_function →
      Passes test before_names from_names
  passes_from_names test b c d e f g =
      passes_append test before_names (name_code p.members) from_decorations b
      (passes_append test before_decorations (decoration_code (length p.members)) from_types c
      (passes_append test before_types (type_code (length p.members)) from_constants d
      (passes_append test before_constants (constant_code (constants_of p)) from_variable e
      (passes_append test before_variable variable_code the_function f g))))

  pub passes_parts : (test : Test) → Passes test [] preamble → Passes test before_names (name_code p.members) →
      Passes test before_decorations (decoration_code (length p.members)) → Passes test before_types (type_code (length p.members)) →
      Passes test before_constants (constant_code (constants_of p)) → Passes test before_variable variable_code → Passes test before_function the_function →
      Passes test [] (code_of p)
  passes_parts test a b c d e f g =
      subst (Passes test []) (sym in_parts) (passes_append test [] preamble from_names a (passes_from_names test b c d e f g))

  -- What a section has, the code has.
  has_part : (i : Instr) → Has parts i → Has (code_of p) i
  has_part i has = subst (λ code. Has code i) (sym in_parts) has

  pub in_preamble : (i : Instr) → Has preamble i → Has (code_of p) i
  in_preamble i has = has_part i (has_left preamble from_names i has)

  behind_names : (i : Instr) → Has from_decorations i → Has (code_of p) i
  behind_names i has = has_part i (has_right preamble from_names i (has_right (name_code p.members) from_decorations i has))

  pub in_decorations : (i : Instr) → Has (decoration_code (length p.members)) i → Has (code_of p) i
  in_decorations i has = behind_names i (has_left (decoration_code (length p.members)) from_types i has)

  behind_decorations : (i : Instr) → Has from_types i → Has (code_of p) i
  behind_decorations i has = behind_names i (has_right (decoration_code (length p.members)) from_types i has)

  pub in_types : (i : Instr) → Has (type_code (length p.members)) i → Has (code_of p) i
  in_types i has = behind_decorations i (has_left (type_code (length p.members)) from_constants i has)

  behind_types : (i : Instr) → Has from_constants i → Has (code_of p) i
  behind_types i has = behind_decorations i (has_right (type_code (length p.members)) from_constants i has)

  pub in_constants : (i : Instr) → Has (constant_code (constants_of p)) i → Has (code_of p) i
  in_constants i has = behind_types i (has_left (constant_code (constants_of p)) from_variable i has)

  pub in_variable : (i : Instr) → Has variable_code i → Has (code_of p) i
  in_variable i has = behind_types i (has_right (constant_code (constants_of p)) from_variable i (has_left variable_code the_function i has))

  pub in_main : (i : Instr) → Has the_function i → Has (code_of p) i
  in_main i has = behind_types i (has_right (constant_code (constants_of p)) from_variable i (has_right variable_code the_function i has))

pub has_range : (f : ℕ → Instr) (first count k : ℕ) → first ≤ k → k < first + count → Has (map f (range_with_len first count)) (f k)
has_range f first zero k low high = absurd (omega arith)
has_range f first (suc count) k low high =
    elim (cases_order first k) [
      | inl same ↦ inl (ap f same)
      | inr (inl below) ↦ inr (has_range f (first + 1) count k (omega arith) (omega arith))
      | inr (inr above) ↦ absurd (omega arith)
    ]

-- Code in which nothing passes a test ---------------------------------------------------------------------------

pub none_passed : (f : Instr → Bool) (before code : Code) → list_any f before ≡ false → list_any f code ≡ false → list_any f (passed before code) ≡ false
none_passed f before [] none later = none
none_passed f before (i ∷ code) none later =
    let parts = or_parts (f i) (list_any f code) later in none_passed f (i ∷ before) code (or_from (f i) (list_any f before) parts.0 none) parts.1

pub none_in_range : (f : Instr → Bool) (g : ℕ → Instr) (first count : ℕ) → ((k : ℕ) → first ≤ k → k < first + count → f (g k) ≡ false) →
    list_any f (map g (range_with_len first count)) ≡ false
none_in_range f g first zero none = refl
none_in_range f g first (suc count) none =
    or_from (f (g first)) _ (none first (omega arith) (omega arith)) (none_in_range f g (first + 1) count (λ k low high. none k (omega arith) (omega arith)))

module _ (p : Program) (f : Instr → Bool) where
  -- no name passes
  pub none_in_names : f (instr op.NAME (id.BLOCK ∷ string_words (codes "B"))) ≡ false → ((k : ℕ) → f (member_name p.members k) ≡ false) → list_any f (name_code p.members) ≡ false
  none_in_names one each =
      or_from (f (instr op.NAME (id.BLOCK ∷ string_words (codes "B")))) _ one
      (none_in_range f (member_name p.members) 0 (length p.members) (λ k low high. each k))

  -- no instruction before the decorations passes
  pub none_before_decorations : list_any f preamble ≡ false → f (instr op.NAME (id.BLOCK ∷ string_words (codes "B"))) ≡ false → ((k : ℕ) → f (member_name p.members k) ≡ false) →
      list_any f (before_decorations p) ≡ false
  none_before_decorations first one each = none_passed f before_names (name_code p.members) (none_passed f [] preamble refl first) (none_in_names one each)

  -- no instruction before the types passes
  pub none_before_types : list_any f preamble ≡ false → f (instr op.NAME (id.BLOCK ∷ string_words (codes "B"))) ≡ false → ((k : ℕ) → f (member_name p.members k) ≡ false) →
      list_any f (decoration_code (length p.members)) ≡ false → list_any f (before_types p) ≡ false
  none_before_types first one each last =
      none_passed f (before_decorations p) (decoration_code (length p.members))
      (none_passed f before_names (name_code p.members) (none_passed f [] preamble refl first) (none_in_names one each)) last

  -- no decoration passes
  pub none_in_decorations : f (instr op.DECORATE (id.BLOCK ∷ decoration.BUFFER_BLOCK ∷ [])) ≡ false → ((k : ℕ) → f (member_offset k) ≡ false) →
      f (instr op.DECORATE (id.BUFFER ∷ decoration.DESCRIPTOR_SET ∷ 0 ∷ [])) ≡ false → f (instr op.DECORATE (id.BUFFER ∷ decoration.BINDING ∷ 0 ∷ [])) ≡ false →
      list_any f (decoration_code (length p.members)) ≡ false
  none_in_decorations block each set binding =
      let last = instr op.DECORATE (id.BUFFER ∷ decoration.BINDING ∷ 0 ∷ []) ∷ [] in
      let behind = instr op.DECORATE (id.BUFFER ∷ decoration.DESCRIPTOR_SET ∷ 0 ∷ []) ∷ last in
      let members = map member_offset (range_with_len 0 (length p.members)) in
      or_from (f (instr op.DECORATE (id.BLOCK ∷ decoration.BUFFER_BLOCK ∷ []))) (list_any f (members ++ behind)) block
      (list_any-append f members behind
      ∙ or_from (list_any f members) (list_any f behind) (none_in_range f member_offset 0 (length p.members) (λ k low high. each k))
      (or_from (f (instr op.DECORATE (id.BUFFER ∷ decoration.DESCRIPTOR_SET ∷ 0 ∷ []))) (list_any f last) set
      (or_from (f (instr op.DECORATE (id.BUFFER ∷ decoration.BINDING ∷ 0 ∷ []))) false binding refl)))

  -- no instruction before the variable passes
  pub none_before_variable : list_any f (before_constants p) ≡ false → ((k : ℕ) → f (constant_at (constants_of p) k) ≡ false) → list_any f (before_variable p) ≡ false
  none_before_variable first each =
      none_passed f (before_constants p) (constant_code (constants_of p)) first
      (none_in_range f (constant_at (constants_of p)) 0 (length (constants_of p)) (λ k low high. each k))
