-- The decorations of a program's module, found by what they stand on.
use Rattle.std.proofs.Common.{◌≡◌, ℕ, zero, suc, ◌+◌, ◌*◌, ◌<◌, ◌≤◌, Bool, false, cond, not, eqb, List, [], ◌∷◌, ◌++◌, length, append_assoc, append-nil, map, Option, Some, None, refl, ap, sym, ◌∙◌, inl, inr, arith}
use Rattle.std.specs.List.{list_any, range_with_len}
use Rattle.std.specs.Option.{option_map_or}
use Rattle.std.proofs.lemmas.Bool.{and_left, and_right, or_from, or_parts, cases_order, eq-eqb, ne_eqb, not-true, not_from_false}
use Rattle.gsl_words.specs.declared.module.Instr.{Instr}
use Rattle.gsl_instr.specs.declared.enumerant.decoration.TheConstants as decoration
use Rattle.gsl_instr.specs.Forms.{form_of}
use Rattle.gsl_valid.specs.Instruction.{read}
use Rattle.gsl_valid.specs.Search.{Test, Passes}
use Rattle.gsl_valid.specs.Kinds.{Place, On, OnMember, Decoration, decoration_of}
use Rattle.gsl_valid.specs.Decorations.{stands_on, literals_on, literals_if}
use Rattle.gsl_form.specs.declared.program.Program.{Program}
use Rattle.gsl_cmd.specs.declared.lowering.id.TheConstants as id
use Rattle.gsl_form.specs.Form.{IsProgram}
use Rattle.gsl_cmd.specs.Lowering.{Code, code_of, constants_of, decoration_code, name_code}
use Rattle.gsl_cmd.proofs.Parts.{member_offset, before_names, before_decorations, before_constants, before_function, from_types, in_parts, passes_parts, none_in_names, none_in_range}
use Rattle.gsl_cmd.proofs.Quiet.{block_decoration, set_decoration, binding_decoration, names_pass, decorations_pass, constants_pass, function_pass}

-- whether an instruction decorates a place with a kind
abbrev pub is_on : Place → ℕ → Instr → Bool
is_on place kind i = option_map_or (stands_on place kind) (decoration_of (read i)) false

no_literals : (d : Option Decoration) (later : Option (List ℕ)) → literals_if false d later ≡ later
unfolding form_of
no_literals None later = refl
no_literals (Some d) later = refl

module _ (place : Place) (kind : ℕ) where
  -- code with no such decoration is passed over
  passed_over : (a b : Code) → list_any (is_on place kind) a ≡ false → literals_on (a ++ b) place kind ≡ literals_on b place kind
  unfolding form_of
  passed_over [] b none = refl
  passed_over (i ∷ a) b none =
      let parts = or_parts (is_on place kind i) _ none in
      ap (λ found. literals_if found (decoration_of (read i)) (literals_on (a ++ b) place kind)) parts.0
      ∙ no_literals (decoration_of (read i)) _ ∙ passed_over a b parts.1

  none_found : (code : Code) → list_any (is_on place kind) code ≡ false → literals_on code place kind ≡ None
  unfolding form_of
  none_found code none = sym (ap (λ c. literals_on c place kind) (append-nil code)) ∙ passed_over code [] none

  none_such : (before code : Code) → Passes (λ b i. not (is_on place kind i)) before code → list_any (is_on place kind) code ≡ false
  unfolding form_of
  none_such before [] all = refl
  none_such before (i ∷ code) all = or_from (is_on place kind i) _ (not-true _ all.0) (none_such (i ∷ before) code all.1)

module _ (p : Program) (place : Place) (kind : ℕ) where
  -- what is looked for among the decorations
  among_decorations : literals_on (code_of p) place kind ≡ literals_on (decoration_code (length p.members) ++ from_types p) place kind
  unfolding form_of
  among_decorations =
      ap (λ code. literals_on code place kind) (in_parts p)
      ∙ passed_over place kind (name_code p.members) (decoration_code (length p.members) ++ from_types p) (none_in_names p (is_on place kind) refl (λ k. refl))

  -- a place that no decoration is on
  pub not_on : IsProgram p → is_on place kind block_decoration ≡ false → ((k : ℕ) → is_on place kind (member_offset k) ≡ false) →
      is_on place kind set_decoration ≡ false → is_on place kind binding_decoration ≡ false → literals_on (code_of p) place kind ≡ None
  unfolding form_of
  not_on fits block each set binding =
      let test : Test = λ b i. not (is_on place kind i) in
      none_found place kind (code_of p)
      (none_such place kind [] (code_of p)
      (passes_parts p test (refl, (refl, (refl, (refl, tt)))) (names_pass test p.members before_names (λ b. refl) (λ k b. refl))
      (decorations_pass test (length p.members) (before_decorations p) (λ b. not_from_false _ block) (λ k within b. not_from_false _ (each k))
      (λ b. not_from_false _ set) (λ b. not_from_false _ binding)) (refl, (refl, (refl, (refl, (refl, (refl, tt))))))
      (constants_pass test (constants_of p) (before_constants p) (λ k within b. refl)) (refl, tt)
      (function_pass test p fits (before_function p) (λ b. refl) (λ b. refl) (λ n k b. refl) (λ n q b. refl) (λ n a c b. refl) (λ q v b. refl) (λ b. refl) (λ b. refl))))

  -- behind the block's own
  behind_block : is_on place kind block_decoration ≡ false →
      literals_on (code_of p) place kind ≡ literals_on (map member_offset (range_with_len 0 (length p.members)) ++ (set_decoration ∷ binding_decoration ∷ from_types p)) place kind
  unfolding form_of
  behind_block none =
      let offsets = map member_offset (range_with_len 0 (length p.members)) in
      among_decorations
      ∙ passed_over place kind (block_decoration ∷ []) ((offsets ++ set_decoration ∷ binding_decoration ∷ []) ++ from_types p) (or_from (is_on place kind block_decoration) false none refl)
      ∙ ap (λ code. literals_on code place kind) (append_assoc offsets (set_decoration ∷ binding_decoration ∷ []) (from_types p))

  behind_offsets : is_on place kind block_decoration ≡ false → ((k : ℕ) → is_on place kind (member_offset k) ≡ false) →
      literals_on (code_of p) place kind ≡ literals_on (set_decoration ∷ binding_decoration ∷ from_types p) place kind
  unfolding form_of
  behind_offsets none each =
      let offsets = map member_offset (range_with_len 0 (length p.members)) in
      behind_block none ∙ passed_over place kind offsets (set_decoration ∷ binding_decoration ∷ from_types p) (none_in_range (is_on place kind) member_offset 0 (length p.members) (λ k low high. each k))

offset_in_range : (first count k : ℕ) (rest : Code) → first ≤ k → k < first + count →
    literals_on (map member_offset (range_with_len first count) ++ rest) (OnMember id.BLOCK k) decoration.OFFSET ≡ Some (4 * k ∷ [])
unfolding form_of
offset_in_range first zero k rest low high = absurd (omega arith)
offset_in_range first (suc count) k rest low high =
    let later = literals_on (map member_offset (range_with_len (first + 1) count) ++ rest) (OnMember id.BLOCK k) decoration.OFFSET in
    let found = λ (b : Bool). cond b (Some (4 * first ∷ [])) later in
    elim (cases_order first k) [
      | inl same ↦ ap found (eq-eqb first k same) ∙ ap (λ n. Some (4 * n ∷ [])) same
      | inr (inl below) ↦
          ap found (ne_eqb first k (λ e. omega arith)) ∙ offset_in_range (first + 1) count k rest (omega arith) (omega arith)
      | inr (inr above) ↦ absurd (omega arith)
    ]

module _ (p : Program) where
  pub block_is_buffer : literals_on (code_of p) (On id.BLOCK) decoration.BUFFER_BLOCK ≡ Some []
  unfolding form_of
  block_is_buffer = among_decorations p (On id.BLOCK) decoration.BUFFER_BLOCK

  pub block_is_no_block : IsProgram p → literals_on (code_of p) (On id.BLOCK) decoration.BLOCK ≡ None
  unfolding form_of
  block_is_no_block fits = not_on p (On id.BLOCK) decoration.BLOCK fits refl (λ k. refl) refl refl

  pub buffer_set : literals_on (code_of p) (On id.BUFFER) decoration.DESCRIPTOR_SET ≡ Some (0 ∷ [])
  unfolding form_of
  buffer_set = behind_offsets p (On id.BUFFER) decoration.DESCRIPTOR_SET refl (λ k. refl)

  pub buffer_binding : literals_on (code_of p) (On id.BUFFER) decoration.BINDING ≡ Some (0 ∷ [])
  unfolding form_of
  buffer_binding = behind_offsets p (On id.BUFFER) decoration.BINDING refl (λ k. refl)

  pub member_is_at : (k : ℕ) → k < length p.members → literals_on (code_of p) (OnMember id.BLOCK k) decoration.OFFSET ≡ Some (4 * k ∷ [])
  unfolding form_of
  member_is_at k within =
      behind_block p (OnMember id.BLOCK k) decoration.OFFSET refl
      ∙ offset_in_range 0 (length p.members) k (set_decoration ∷ binding_decoration ∷ from_types p) (omega arith) (omega arith)

  pub member_has_no : (k kind : ℕ) → IsProgram p → eqb decoration.OFFSET kind ≡ false → literals_on (code_of p) (OnMember id.BLOCK k) kind ≡ None
  unfolding form_of
  member_has_no k kind fits other = not_on p (OnMember id.BLOCK k) kind fits (and_right _ _ refl) (λ j. and_left _ _ other) (and_right _ _ refl) (and_right _ _ refl)
