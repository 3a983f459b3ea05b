-- The instructions of a function branch to labels of it.
use Rattle.std.proofs.Common.{◌≡◌, refl, sym, ap, ◌∙◌, subst, ℕ, ◌+◌, Bool, true, false, ◌&&◌, if◌then◌else◌, List, [], ◌∷◌, Option, Some, None, ◌⊎◌, inl, inr}
use Rattle.std.specs.List.{AllByRecursion}
use Rattle.std.specs.Prelude.{◌==◌}
use Rattle.std.proofs.lemmas.Bool.{cond-true, cond-false, eq-eqb, cases_Bool}
use Rattle.gsl_instr.specs.declared.instruction.Instruction.{Instruction}
use Rattle.gsl_instr.specs.declared.instruction.Instruction.TheVariants as instruction
use Rattle.gsl_instr.specs.declared.op.TheConstants as op
use Rattle.gsl_words.specs.declared.module.Instr.{Instr}
use Rattle.gsl_words.specs.Instructions.{word_count}
use Rattle.gsl_blocks.specs.declared.block.Block.{Block}
use Rattle.gsl_blocks.specs.declared.block.Merge.{Merge}
use Rattle.gsl_blocks.specs.declared.block.Merge.TheVariants.{Nothing}
use Rattle.gsl_blocks.specs.declared.block.Role.{Role}
use Rattle.gsl_blocks.specs.declared.block.Role.TheVariants.{Opens, Merges, Ends, Closes, Inside}
use Rattle.gsl_blocks.specs.Blocks.{blocks_from, role_at, role_or, with_role}
use Rattle.gsl_blocks.specs.Reading.{nesting_of}
use Rattle.gsl_valid.specs.Ids.{defines, is_id, result}
use Rattle.gsl_valid.specs.Instruction.{read}
use Rattle.gsl_valid.specs.Placed.{Code, Placed, placed_from}
use Rattle.gsl_machine.specs.Functions.{from_label, up_to_end}
use Rattle.gsl_sound_code.specs.Spots.{EndsIn, IsLabel, IsTarget, Leads, LeadsIn}
use Rattle.gsl_sound_code.proofs.Opcodes.{end_op, label_op, reads_end}
use Rattle.gsl_sound_code.proofs.Targets.{structured_end}

-- an instruction that begins a block is a label
opened : (d : Option Instruction) (l : ℕ) → role_or d ≡ Opens l → d ≡ Some (instruction.Label l)
opened None l is = absurd (cc)
opened (Some (instruction.Label r)) l is = ap (λ k. Some (instruction.Label k)) (let e : ◌≡◌ {A = Role} (Opens r) (Opens l) = is in cc)
opened (Some d) l is = absurd (cc)

-- what the end of a function does to its blocks
closes : (i : Instr) (r : Role) → role_at i.op i.args ≡ r → (i.op == op.FUNCTION_END) ≡ true → r ≡ Closes
closes i r is ends = sym is ∙ ap role_or (reads_end i ends)

-- code goes on behind an instruction that does not end the function
goes_on : (i : Instr) (at : ℕ) (code : List Placed) → ((i.op == op.FUNCTION_END) ≡ true → ⊥) → up_to_end (record { at = at; instr = i } ∷ code) ≡ record { at = at; instr = i } ∷ up_to_end code
goes_on i at code never = elim (cases_Bool (i.op == op.FUNCTION_END)) [ inl ends ↦ absurd (never ends) | inr on ↦ cond-false _ _ _ on ]

-- ---- labels

-- a label further on is one
label_later : (p : Placed) (code : List Placed) (l : ℕ) → IsLabel code l → IsLabel (p ∷ code) l
label_later p code l label = let t = by_test (p.instr.op == op.LABEL && defines p.instr l) in record { rest = t.0; is = t.1 }
  where
    by_test : (b : Bool) → (rest : List Placed) × ((if b then Some (p ∷ code) else from_label code l) ≡ Some rest)
    by_test true = (p ∷ code, refl)
    by_test false = (label.rest, label.is)

label_here : (p : Placed) (code : List Placed) (l : ℕ) → read p.instr ≡ Some (instruction.Label l) → IsLabel (p ∷ code) l
label_here p code l is = record {
  rest = p ∷ code;
  is = cond-true _ _ _ (ap (λ b. b && defines p.instr l) (label_op p.instr (instruction.Label l) is refl) ∙ ap (λ d. is_id l (result d)) is ∙ eq-eqb l l refl);
}

all_blocks : (P Q : Block → Type 0) → ((b : Block) → P b → Q b) → (bs : List Block) → AllByRecursion P bs → AllByRecursion Q bs
all_blocks P Q follow [] all = tt
all_blocks P Q follow (b ∷ bs) all = (follow b all.0, all_blocks P Q follow bs all.1)

-- The blocks of some code have its labels, but for the one that is open.
Named : Code → ℕ → ℕ → Block → Type 0
Named code at label b = (b.label ≡ label) ⊎ IsLabel (up_to_end (placed_from at code)) b.label

named : (code : Code) (at label : ℕ) (met : Merge) → AllByRecursion (Named code at label) (blocks_from code label met)
unfolding blocks_from Named
named [] at label met = tt
named (i ∷ code) at label met = by_role (role_at i.op i.args) refl (named code (at + word_count i))
  where
    further : (r : Role) → role_at i.op i.args ≡ r → (r ≡ Closes → ⊥) → (l : ℕ) → IsLabel (up_to_end (placed_from (at + word_count i) code)) l → IsLabel (up_to_end (placed_from at (i ∷ code))) l
    further r is never l label = subst (λ body. IsLabel body l) (sym (goes_on i at (placed_from (at + word_count i) code) (λ ends. never (closes i r is ends)))) (label_later (record { at = at; instr = i }) _ l label)

    first : (next : ℕ) → role_at i.op i.args ≡ Opens next → IsLabel (up_to_end (placed_from at (i ∷ code))) next
    first next is =
        subst (λ body. IsLabel body next) (sym (goes_on i at (placed_from (at + word_count i) code) (λ ends. let e : Opens next ≡ Closes = closes i (Opens next) is ends in cc)))
        (label_here (record { at = at; instr = i }) _ next (opened (read i) next is))

    by_role : (r : Role) → role_at i.op i.args ≡ r → ((l : ℕ) (met : Merge) → AllByRecursion (Named code (at + word_count i) l) (blocks_from code l met)) → AllByRecursion (Named (i ∷ code) at label) (with_role r label met (blocks_from code))
    by_role (Opens next) is later =
        all_blocks (Named code (at + word_count i) next) (Named (i ∷ code) at label)
        (λ b n. inr (elim n [ inl same ↦ subst (IsLabel (up_to_end (placed_from at (i ∷ code)))) (sym same) (first next is) | inr label ↦ further (Opens next) is (λ e. let never : Opens next ≡ Closes = e in cc) b.label label ]))
        (blocks_from code next Nothing) (later next Nothing)
    by_role (Merges next) is later =
        all_blocks (Named code (at + word_count i) label) (Named (i ∷ code) at label)
        (λ b n. elim n [ inl same ↦ inl same | inr label ↦ inr (further (Merges next) is (λ e. let never : Merges next ≡ Closes = e in cc) b.label label) ]) (blocks_from code label next) (later label next)
    by_role (Ends end) is later = (
      inl refl,
      all_blocks (Named code (at + word_count i) label) (Named (i ∷ code) at label)
          (λ b n. elim n [ inl same ↦ inl same | inr label ↦ inr (further (Ends end) is (λ e. let never : Ends end ≡ Closes = e in cc) b.label label) ]) (blocks_from code label met) (later label met),
    )
    by_role Closes is later = tt
    by_role Inside is later =
        all_blocks (Named code (at + word_count i) label) (Named (i ∷ code) at label)
        (λ b n. elim n [ inl same ↦ inl same | inr label ↦ inr (further Inside is (λ e. let never : Inside ≡ Closes = e in cc) b.label label) ]) (blocks_from code label met) (later label met)

-- ---- ends

closed : (d : Option Instruction) → role_or d ≡ Closes → d ≡ Some instruction.FunctionEnd
closed None is = absurd (cc)
closed (Some instruction.FunctionEnd) is = refl
closed (Some d) is = absurd (cc)

-- where the ends of all blocks have a property, the instructions that end them do
module _ (P : ℕ → Type 0) where
  lead : (code : Code) (at label : ℕ) (met : Merge) → AllByRecursion (λ b. EndsIn P b.end) (blocks_from code label met) → AllByRecursion (λ p. LeadsIn P (role_or (read p.instr))) (up_to_end (placed_from at code))
  unfolding blocks_from
  lead [] at label met all = tt
  lead (i ∷ code) at label met all = by_role (role_at i.op i.args) refl (lead code (at + word_count i)) all
    where
      on : (r : Role) → role_at i.op i.args ≡ r → (r ≡ Closes → ⊥) → LeadsIn P r → AllByRecursion (λ p. LeadsIn P (role_or (read p.instr))) (up_to_end (placed_from (at + word_count i) code))
          → AllByRecursion (λ p. LeadsIn P (role_or (read p.instr))) (up_to_end (placed_from at (i ∷ code)))
      on r is never here later =
          subst (AllByRecursion (λ p. LeadsIn P (role_or (read p.instr)))) (sym (goes_on i at (placed_from (at + word_count i) code) (λ ends. never (closes i r is ends)))) (subst (LeadsIn P) (sym is) here, later)

      by_role : (r : Role) → role_at i.op i.args ≡ r
          → ((l : ℕ) (met : Merge) → AllByRecursion (λ b. EndsIn P b.end) (blocks_from code l met) → AllByRecursion (λ p. LeadsIn P (role_or (read p.instr))) (up_to_end (placed_from (at + word_count i) code)))
          → AllByRecursion (λ b. EndsIn P b.end) (with_role r label met (blocks_from code)) → AllByRecursion (λ p. LeadsIn P (role_or (read p.instr))) (up_to_end (placed_from at (i ∷ code)))
      by_role (Opens next) is later all = on (Opens next) is (λ e. let never : Opens next ≡ Closes = e in cc) tt (later next Nothing all)
      by_role (Merges next) is later all = on (Merges next) is (λ e. let never : Merges next ≡ Closes = e in cc) tt (later label next all)
      by_role (Ends end) is later all = on (Ends end) is (λ e. let never : Ends end ≡ Closes = e in cc) all.0 (later label met all.1)
      by_role Closes is later all =
          subst (AllByRecursion (λ p. LeadsIn P (role_or (read p.instr)))) (sym (cond-true _ _ _ (end_op i instruction.FunctionEnd (closed (read i) is) refl))) (subst (LeadsIn P) (sym is) tt, tt)
      by_role Inside is later all = on Inside is (λ e. let never : Inside ≡ Closes = e in cc) tt (later label met all)

-- the code of a function whose blocks are structured
pub body_leads : (code : Code) (at n : ℕ) → nesting_of (blocks_from code 0 Nothing) ≡ Some n → AllByRecursion (Leads (up_to_end (placed_from at code))) (up_to_end (placed_from at code))
unfolding Named
body_leads code at n is = lead (IsTarget (up_to_end (placed_from at code))) code at 0 Nothing (structured_end (IsTarget (up_to_end (placed_from at code))) (blocks_from code 0 Nothing) n is (named code at 0 Nothing))
