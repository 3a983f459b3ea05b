-- The function of a program's module is one block, in which no construct stands.
use Rattle.std.proofs.Common.{◌≡◌, ℕ, ◌+◌, List, [], ◌∷◌, length, Some, refl, ap, ◌∙◌}
use Rattle.gsl_instr.specs.Forms.{form_of}
use Rattle.gsl_blocks.specs.declared.block.Merge.{Merge}
use Rattle.gsl_blocks.specs.declared.block.Merge.TheVariants.{Nothing}
use Rattle.gsl_blocks.specs.declared.block.End.TheVariants.{Leave}
use Rattle.gsl_blocks.specs.Blocks.{blocks_from, blocks_of}
use Rattle.gsl_blocks.specs.Order.{block}
use Rattle.gsl_blocks.specs.Reading.{reads, nesting_of}
use Rattle.gsl_valid.specs.StructureRules.{nesting, begins_structured, is_structured}
use Rattle.gsl_valid.specs.Search.{Passes}
use Rattle.gsl_form.specs.declared.program.Term.{Term}
use Rattle.gsl_form.specs.declared.program.Term.TheVariants.{Member, Literal}
use Rattle.gsl_form.specs.declared.program.Statement.{Statement}
use Rattle.gsl_form.specs.declared.program.Program.{Program}
use Rattle.gsl_form.specs.Form.{IsProgram}
use Rattle.gsl_cmd.specs.declared.lowering.id.TheConstants as id
use Rattle.gsl_cmd.specs.Lowering.{Code, code_of, constants_of, first_id, module_of, pointer, term_code, term_ids, term_value, more_code, sum_code, sum_ids, sum_value, statement_ids, statements_code}
use Rattle.gsl_cmd.proofs.Parts.{before_names, before_decorations, before_constants, before_function, ending, the_function, from_function, passes_parts}
use Rattle.gsl_cmd.proofs.Quiet.{main_function, main_label, names_pass, decorations_pass, constants_pass, code_pass}
use Rattle.gsl_cmd.proofs.Walks.{add, store}

-- No instruction of statements begins, merges or ends a block.
module _ (constants : List ℕ) where
  over_term : (next : ℕ) (term : Term) (follows : Code) (label : ℕ) (met : Merge) → blocks_from (term_code constants next term follows) label met ≡ blocks_from follows label met
  unfolding form_of blocks_from
  over_term next (Member k) follows label met = refl
  over_term next (Literal n) follows label met = refl

  over_more : (next value : ℕ) (terms : List Term) (follows : Code) (label : ℕ) (met : Merge) → blocks_from (more_code constants next value terms follows) label met ≡ blocks_from follows label met
  unfolding form_of blocks_from
  over_more next value [] follows label met = refl
  over_more next value (term ∷ terms) follows label met =
      let sum = next + term_ids constants term in
      let rest = more_code constants (sum + 1) sum terms follows in
      over_term next term (add sum value (term_value constants next term) ∷ rest) label met ∙ over_more (sum + 1) sum terms follows label met

  over_sum : (next : ℕ) (terms : List Term) (follows : Code) (label : ℕ) (met : Merge) → blocks_from (sum_code constants next terms follows) label met ≡ blocks_from follows label met
  unfolding form_of
  over_sum next [] follows label met = refl
  over_sum next (term ∷ terms) follows label met =
      over_term next term (more_code constants (next + term_ids constants term) (term_value constants next term) terms follows) label met
      ∙ over_more (next + term_ids constants term) (term_value constants next term) terms follows label met

  over_statements : (next : ℕ) (statements : List Statement) (follows : Code) (label : ℕ) (met : Merge) → blocks_from (statements_code constants next statements follows) label met ≡ blocks_from follows label met
  unfolding form_of blocks_from
  over_statements next [] follows label met = refl
  over_statements next (s ∷ statements) follows label met =
      let target = next + sum_ids constants s.terms in
      let rest = statements_code constants (next + statement_ids constants s) statements follows in
      over_sum next s.terms (pointer constants target s.target ∷ store target (sum_value constants next s.terms) ∷ rest) label met
      ∙ over_statements (next + statement_ids constants s) statements follows label met

one_block : (p : Program) → blocks_of (the_function p) ≡ block id.ENTRY Nothing Leave ∷ []
unfolding form_of blocks_from
one_block p = over_statements (constants_of p) (first_id (constants_of p)) p.statements ending id.ENTRY Nothing

none_nested : nesting_of (block id.ENTRY Nothing Leave ∷ []) ≡ Some 0
unfolding reads form_of
none_nested = refl

pub nesting_is : (p : Program) → nesting (module_of p) (before_function p) ≡ Some 0
unfolding form_of
nesting_is p = ap (λ code. nesting_of (blocks_of code)) (from_function p) ∙ ap nesting_of (one_block p) ∙ none_nested

pub order_kept : (p : Program) → IsProgram p → Passes (begins_structured (module_of p)) [] (code_of p)
unfolding form_of
order_kept p fits =
    let test = begins_structured (module_of p) in
    passes_parts p test (refl, (refl, (refl, (refl, tt)))) (names_pass test p.members before_names (λ b. refl) (λ k b. refl))
    (decorations_pass test (length p.members) (before_decorations p) (λ b. refl) (λ k within b. refl) (λ b. refl) (λ b. refl))
    (refl, (refl, (refl, (refl, (refl, (refl, tt))))))
    (constants_pass test (constants_of p) (before_constants p) (λ k within b. refl)) (refl, tt) (
      ap is_structured (nesting_is p),
      (refl, code_pass test p fits (main_label ∷ main_function ∷ before_function p) (λ n k b. refl) (λ n q b. refl) (λ n x y b. refl) (λ q v b. refl) (λ b. refl) (λ b. refl)),
    )
