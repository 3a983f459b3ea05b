-- Sections pass a test where each of their instructions does, whatever stands before it.
use Rattle.std.proofs.Common.{ℕ, ◌<◌, IsTrue, List, [], ◌∷◌, ◌++◌, length, map, sym, subst, arith}
use Rattle.std.specs.Prelude.{codes, replicate}
use Rattle.std.specs.List.{range_with_len}
use Rattle.gsl_words.specs.declared.module.Instr.{Instr}
use Rattle.gsl_instr.specs.declared.op.TheConstants as op
use Rattle.gsl_instr.specs.declared.enumerant.decoration.TheConstants as decoration
use Rattle.gsl_instr.specs.declared.enumerant.execution_model.TheConstants as execution_model
use Rattle.gsl_instr.specs.declared.enumerant.execution_mode.TheConstants as execution_mode
use Rattle.gsl_instr.specs.declared.enumerant.storage_class.TheConstants as storage_class
use Rattle.gsl_instr.specs.Strings.{string_words}
use Rattle.gsl_instr.specs.Forms.{form_of}
use Rattle.gsl_valid.specs.Search.{Test, passed, Passes}
use Rattle.gsl_valid.proofs.Searching.{passed_append, passes_append, passes_range}
use Rattle.gsl_form.specs.declared.program.Program.{Program}
use Rattle.gsl_cmd.specs.declared.lowering.id.TheConstants as id
use Rattle.gsl_form.specs.Form.{Name, IsProgram}
use Rattle.gsl_cmd.specs.Lowering.{Code, instr, code_of, constants_of, constant_code, decoration_code, first_id, name_code, pointer, preamble, statements_code, type_code, variable_code}
use Rattle.gsl_cmd.proofs.Known.{program_known}
use Rattle.gsl_cmd.proofs.Walks.{Walk, load, add, store, statements_pass, behind_statements}
use Rattle.gsl_cmd.proofs.Parts.{member_name, member_offset, constant_at, ending, the_function}
use Rattle.gsl_cmd.proofs.ValidIds.{bound_of}

abbrev pub block_name : Instr
block_name = instr op.NAME (id.BLOCK ∷ string_words (codes "B"))

abbrev pub block_decoration : Instr
block_decoration = instr op.DECORATE (id.BLOCK ∷ decoration.BUFFER_BLOCK ∷ [])

abbrev pub set_decoration : Instr
set_decoration = instr op.DECORATE (id.BUFFER ∷ decoration.DESCRIPTOR_SET ∷ 0 ∷ [])

abbrev pub binding_decoration : Instr
binding_decoration = instr op.DECORATE (id.BUFFER ∷ decoration.BINDING ∷ 0 ∷ [])

-- the types that are declared
abbrev pub void_made : Instr
void_made = instr op.TYPE_VOID (id.VOID ∷ [])

abbrev pub main_made : Instr
main_made = instr op.TYPE_FUNCTION (id.MAIN_TYPE ∷ id.VOID ∷ [])

abbrev pub int_made : Instr
int_made = instr op.TYPE_INT (id.INT ∷ 32 ∷ 1 ∷ [])

abbrev pub block_made : ℕ → Instr
block_made members = instr op.TYPE_STRUCT (id.BLOCK ∷ replicate members id.INT)

abbrev pub block_pointer_made : Instr
block_pointer_made = instr op.TYPE_POINTER (id.BLOCK_POINTER ∷ storage_class.UNIFORM ∷ id.BLOCK ∷ [])

abbrev pub member_pointer_made : Instr
member_pointer_made = instr op.TYPE_POINTER (id.MEMBER_POINTER ∷ storage_class.UNIFORM ∷ id.INT ∷ [])

-- the entry point and its mode
abbrev pub main_entry : Instr
main_entry = instr op.ENTRY_POINT (execution_model.GL_COMPUTE ∷ id.MAIN ∷ string_words (codes "main"))

abbrev pub main_mode : Instr
main_mode = instr op.EXECUTION_MODE (id.MAIN ∷ execution_mode.LOCAL_SIZE ∷ 1 ∷ 1 ∷ 1 ∷ [])

abbrev pub main_function : Instr
main_function = instr op.FUNCTION (id.VOID ∷ id.MAIN ∷ 0 ∷ id.MAIN_TYPE ∷ [])

abbrev pub main_label : Instr
main_label = instr op.LABEL (id.ENTRY ∷ [])

-- the statements and the end of the function
abbrev pub the_code : Program → Code
the_code p = statements_code (constants_of p) (first_id (constants_of p)) p.statements ending

module _ (test : Test) where
  -- An instruction passes behind any others.
  abbrev pub Always : Instr → Type 0
  Always i = (before : Code) → IsTrue (test before i)

  pub range_passes : (f : ℕ → Instr) (count : ℕ) (before : Code) → ((k : ℕ) → k < count → Always (f k)) → Passes test before (map f (range_with_len 0 count))
  unfolding form_of
  range_passes f count before each =
      (passes_range test (λ k b. Unit {0}) f 0 count (λ k b low high now. (each k (omega arith) b, tt)) before tt).0

  pub names_pass : (members : List Name) (before : Code) → Always block_name → ((k : ℕ) → Always (member_name members k)) → Passes test before (name_code members)
  unfolding form_of
  names_pass members before block each = (block before, range_passes (member_name members) (length members) (block_name ∷ before) (λ k within. each k))

  pub decorations_pass : (members : ℕ) (before : Code) → Always block_decoration → ((k : ℕ) → k < members → Always (member_offset k)) →
      Always set_decoration → Always binding_decoration → Passes test before (decoration_code members)
  unfolding form_of
  decorations_pass members before block each set binding =
      let offsets = map member_offset (range_with_len 0 members) in
      let behind = passed (block_decoration ∷ before) offsets in (
        block before,
        passes_append test (block_decoration ∷ before) offsets (set_decoration ∷ binding_decoration ∷ [])
            (range_passes member_offset members (block_decoration ∷ before) each) (set behind, (binding (set_decoration ∷ behind), tt)),
      )

  pub types_pass : (members : ℕ) (before : Code) → Always void_made → Always main_made → Always int_made → Always (block_made members) → Always block_pointer_made →
      Always member_pointer_made → Passes test before (type_code members)
  unfolding form_of
  types_pass members before void main int block block_pointer member_pointer =
      let first = void_made ∷ before in
      let second = main_made ∷ first in
      let third = int_made ∷ second in
      let fourth = block_made members ∷ third in
      let fifth = block_pointer_made ∷ fourth in
      (void before, (main first, (int second, (block third, (block_pointer fourth, (member_pointer fifth, tt))))))

  pub constants_pass : (constants : List ℕ) (before : Code) → ((k : ℕ) → k < length constants → Always (constant_at constants k)) → Passes test before (constant_code constants)
  unfolding form_of
  constants_pass constants before each = range_passes (constant_at constants) (length constants) before each

  pub code_pass : (p : Program) → IsProgram p → (before : Code) →
      ((n k : ℕ) → Always (pointer (constants_of p) n k)) → ((n q : ℕ) → Always (load n q)) → ((n a b : ℕ) → Always (add n a b)) → ((q v : ℕ) → Always (store q v)) →
      Always (instr op.RETURN []) → Always (instr op.FUNCTION_END []) → Passes test before (the_code p)
  unfolding form_of
  code_pass p fits before chains loads adds stores returns ends =
      let walk : Walk (constants_of p) (length p.members) (bound_of p) (λ i. Unit {0}) test = record {
        ready = λ n b. Unit {0};
        value = λ v b. Unit {0};
        points = λ v b. Unit {0};
        chain = λ n k b within room here now. (chains n k b, tt, tt);
        chain_keeps = λ n k v b held. tt;
        load_passes = λ n q b room here now at. (loads n q b, tt, tt);
        load_keeps = λ n q v b held. tt;
        add_passes = λ n x y b room here now one other. (adds n x y b, tt, tt);
        store_passes = λ n q v b here now at held. (stores q v b, tt);
        literal = λ n v b known now. tt;
      } in
      statements_pass (constants_of p) (length p.members) (bound_of p) (λ i. Unit {0}) test walk (first_id (constants_of p)) p.statements ending before
      (program_known p fits) (omega arith) (λ i has. tt) tt (λ end behind e now. (returns behind, (ends (instr op.RETURN [] ∷ behind), tt)))

  pub function_pass : (p : Program) → IsProgram p → (before : Code) → Always main_function → Always main_label →
      ((n k : ℕ) → Always (pointer (constants_of p) n k)) → ((n q : ℕ) → Always (load n q)) → ((n a b : ℕ) → Always (add n a b)) → ((q v : ℕ) → Always (store q v)) →
      Always (instr op.RETURN []) → Always (instr op.FUNCTION_END []) → Passes test before (the_function p)
  unfolding form_of
  function_pass p fits before function label chains loads adds stores returns ends =
      (function before, (label (main_function ∷ before), code_pass p fits (main_label ∷ main_function ∷ before) chains loads adds stores returns ends))

-- What holds behind any code and then the end of the function, holds behind the whole module.
pub behind_all : (p : Program) (P : Code → Type 0) → ((before : Code) → P (passed before ending)) → P (passed [] (code_of p))
unfolding form_of
behind_all p P last =
    let front = ((((preamble ++ name_code p.members) ++ decoration_code (length p.members)) ++ type_code (length p.members)) ++ constant_code (constants_of p)) ++ variable_code in
    subst P (sym (passed_append [] front (the_function p)))
    (behind_statements (constants_of p) P (first_id (constants_of p)) p.statements ending last (main_label ∷ main_function ∷ passed [] front))
