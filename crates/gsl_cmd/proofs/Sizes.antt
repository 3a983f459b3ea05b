-- The module of a program is small for its weight.
use Rattle.std.proofs.Common.{◌≡◌, ℕ, zero, suc, ◌+◌, ◌*◌, ◌<◌, ◌≤◌, IsTrue, List, [], ◌∷◌, ◌++◌, length, map, refl, arith}
use Rattle.std.specs.Prelude.{replicate}
use Rattle.std.specs.List.{range_with_len}
use Rattle.std.proofs.Math.ListN.{length-replicate}
use Rattle.gsl_words.specs.declared.module.Instr.{Instr}
use Rattle.gsl_instr.specs.declared.op.TheConstants as op
use Rattle.gsl_words.specs.Instructions.{word_count}
use Rattle.gsl_valid.specs.Placed.{words_from, header_size, count_of_words}
use Rattle.gsl_form.specs.declared.program.Term.{Term}
use Rattle.gsl_form.specs.declared.program.Term.TheVariants.{Member, Literal}
use Rattle.gsl_form.specs.declared.program.Statement.{Statement}
use Rattle.gsl_form.specs.declared.program.Program.{Program}
use Rattle.gsl_cmd.specs.declared.lowering.id.TheConstants as id
use Rattle.gsl_form.specs.Form.{name_of, is_name, IsProgram}
use Rattle.gsl_cmd.specs.Lowering.{Code, instr, pointer, sum_ids, sum_value, term_code, term_ids, term_value, more_code, sum_code, statement_ids, statements_code, first_id, constants_of, constant_code, decoration_code, module_of, name_code, preamble, type_code, variable_code}
use Rattle.gsl_cmd.specs.Weight.{statements_weight, IsSmall}
use Rattle.std.proofs.Math.Nat.{mul-suc}
use Rattle.gsl_cmd.proofs.Encodable.{words_few, name_plain}
use Rattle.gsl_cmd.proofs.All.{all_at}
use Rattle.gsl_cmd.proofs.Parts.{member_name, member_offset, constant_at, ending, the_function}
use Rattle.gsl_cmd.proofs.Counts.{bound_few}
use Rattle.gsl_cmd.proofs.Quiet.{set_decoration, binding_decoration}

-- The code has at most so many words.
abbrev Words : ℕ → Code → Type 0
Words count code = (at : ℕ) → words_from at code ≤ at + count

words_seam : (a b : Code) (at : ℕ) → words_from at (a ++ b) ≡ words_from (words_from at a) b
words_seam [] b at = refl
words_seam (i ∷ a) b at = words_seam a b (at + word_count i)

words_append : (a b : Code) (m n : ℕ) → Words m a → Words n b → Words (m + n) (a ++ b)
words_append a b m n first last at = omega (arith, words_seam a b at, first at, last (words_from at a))

-- instructions made from numbers in a row, each of so many words
words_range : (f : ℕ → Instr) (each first count : ℕ) → ((k : ℕ) → first ≤ k → k < first + count → word_count (f k) ≤ each) → (at : ℕ) →
    words_from at (map f (range_with_len first count)) ≤ at + each * count
words_range f each first zero short at = omega arith
words_range f each first (suc count) short at =
    let here = short first (omega arith) (omega arith) in
    let later = words_range f each (first + 1) count (λ k low high. short k (omega arith) (omega arith)) (at + word_count (f first)) in
    let more : each * suc count ≡ each * count + each = mul-suc each count in
    omega arith

-- Names -----------------------------------------------------------------------------------------------------------

-- Statements ------------------------------------------------------------------------------------------------------

module _ (constants : List ℕ) where
  words_term : (next : ℕ) (term : Term) (follows : Code) (n : ℕ) → Words n follows → Words (9 + n) (term_code constants next term follows)
  words_term next (Member k) follows n last at = omega (arith, last (at + 5 + 4))
  words_term next (Literal v) follows n last at = omega (arith, last at)

  words_more : (next value : ℕ) (terms : List Term) (follows : Code) (n : ℕ) → Words n follows → Words (14 * length terms + n) (more_code constants next value terms follows)
  words_more next value [] follows n last at = omega (arith, last at)
  words_more next value (term ∷ terms) follows n last at =
      let sum = next + term_ids constants term in
      let rest = more_code constants (sum + 1) sum terms follows in
      let added = instr op.I_ADD (id.INT ∷ sum ∷ value ∷ term_value constants next term ∷ []) in
      let later : Words (5 + (14 * length terms + n)) (added ∷ rest) = λ at. omega (arith, words_more (sum + 1) sum terms follows n last (at + 5)) in
      omega (arith, words_term next term (added ∷ rest) (5 + (14 * length terms + n)) later at)

  words_sum : (next : ℕ) (terms : List Term) (follows : Code) (n : ℕ) → Words n follows → Words (14 * length terms + n) (sum_code constants next terms follows)
  words_sum next [] follows n last at = omega (arith, last at)
  words_sum next (term ∷ terms) follows n last at =
      let rest = more_code constants (next + term_ids constants term) (term_value constants next term) terms follows in
      omega (arith, words_term next term rest (14 * length terms + n) (words_more (next + term_ids constants term) (term_value constants next term) terms follows n last) at)

  words_statements : (next : ℕ) (statements : List Statement) (follows : Code) (n : ℕ) → Words n follows →
      Words (14 * statements_weight statements + n) (statements_code constants next statements follows)
  words_statements next [] follows n last at = omega (arith, last at)
  words_statements next (s ∷ statements) follows n last at =
      let target = next + sum_ids constants s.terms in
      let rest = statements_code constants (next + statement_ids constants s) statements follows in
      let ends = pointer constants target s.target ∷ instr op.STORE (target ∷ sum_value constants next s.terms ∷ []) ∷ rest in
      let later : Words (8 + (14 * statements_weight statements + n)) ends = λ at.
      omega (arith, words_statements (next + statement_ids constants s) statements follows n last (at + 5 + 3)) in
      omega (arith, words_sum next s.terms ends (8 + (14 * statements_weight statements + n)) later at)

module _ (p : Program) (fits : IsProgram p) where
  words_function : Words (9 + 14 * statements_weight p.statements) (the_function p)
  words_function at =
      let ends : Words 2 ending = λ at. omega arith in
      omega (arith, words_statements (constants_of p) (first_id (constants_of p)) p.statements ending 2 ends (at + 5 + 2))

  words_names : Words (3 + 8 * length p.members) (name_code p.members)
  words_names at =
      let each : (k : ℕ) → 0 ≤ k → k < 0 + length p.members → word_count (member_name p.members k) ≤ 8 = λ k low high.
      let short = (name_plain (name_of p.members k) (all_at (λ name. IsTrue (is_name name)) p.members k [] fits.names (omega arith))).1 in
      omega (arith, words_few (name_of p.members k)) in
      omega (arith, words_range (member_name p.members) 8 0 (length p.members) each (at + 3))

  words_decorations : Words (11 + 5 * length p.members) (decoration_code (length p.members))
  words_decorations at =
      let all = map member_offset (range_with_len 0 (length p.members)) in
      let last = set_decoration ∷ binding_decoration ∷ [] in
      let each : Words (5 * length p.members) all = words_range member_offset 5 0 (length p.members) (λ k low high. omega arith) in
      let two : Words 8 last = λ at. omega arith in
      omega (arith, words_append all last (5 * length p.members) 8 each two (at + 3))

  words_types : Words (19 + length p.members) (type_code (length p.members))
  words_types at = let count : length (replicate (length p.members) id.INT) ≡ length p.members = length-replicate (length p.members) id.INT in omega arith

  words_constants : Words (4 * length (constants_of p)) (constant_code (constants_of p))
  words_constants = words_range (constant_at (constants_of p)) 4 0 (length (constants_of p)) (λ k low high. omega arith)

  words_all : count_of_words (module_of p) ≤ 67 + 14 * length p.members + 4 * length (constants_of p) + 14 * statements_weight p.statements
  words_all =
      let members = length p.members in
      let first : Words 16 preamble = λ at. omega arith in
      let variable : Words 4 variable_code = λ at. omega arith in
      let ab = preamble ++ name_code p.members in
      let abc = ab ++ decoration_code members in
      let abcd = abc ++ type_code members in
      let abcde = abcd ++ constant_code (constants_of p) in
      let n = words_append preamble (name_code p.members) 16 (3 + 8 * members) first words_names in
      let d = words_append ab (decoration_code members) (16 + (3 + 8 * members)) (11 + 5 * members) n words_decorations in
      let t = words_append abc (type_code members) (16 + (3 + 8 * members) + (11 + 5 * members)) (19 + members) d words_types in
      let c = words_append abcd (constant_code (constants_of p)) (16 + (3 + 8 * members) + (11 + 5 * members) + (19 + members)) (4 * length (constants_of p)) t words_constants in
      let v = words_append abcde variable_code (16 + (3 + 8 * members) + (11 + 5 * members) + (19 + members) + 4 * length (constants_of p)) 4 c variable in
      let f = words_append (abcde ++ variable_code) (the_function p) (16 + (3 + 8 * members) + (11 + 5 * members) + (19 + members) + 4 * length (constants_of p) + 4) (9 + 14 * statements_weight p.statements) v words_function in
      omega (arith, f header_size)

  pub module_small : IsSmall (module_of p) p
  module_small = record {
    ids = omega (arith, bound_few p);
    words = omega (arith, bound_few p, words_all);
  }
