-- The blocks of some code, instruction by instruction.
use Rattle.std.proofs.Common.{◌≡◌, ℕ, zero, suc, ◌+◌, ◌≤◌, ◌<◌, List, [], ◌∷◌, length, drop, refl, ap, ◌∙◌, subst, arith}
use Rattle.std.specs.Prelude.{slice_get, IsSomeAnd}
use Rattle.gsl_words.specs.declared.module.Instr.{Instr}
use Rattle.gsl_blocks.specs.declared.block.Merge.{Merge}
use Rattle.gsl_blocks.specs.declared.block.Merge.TheVariants.{Nothing}
use Rattle.gsl_blocks.specs.declared.block.Role.{Role}
use Rattle.gsl_blocks.specs.declared.block.Role.TheVariants.{Opens, Merges, Ends, Closes, Inside}
use Rattle.gsl_blocks.specs.Blocks.{role_at, with_role, blocks_from}

-- an instruction of this opcode and these operands, which has a role
pub at_role : (code : List Instr) (at op label : ℕ) (args : List ℕ) (met : Merge) (role : Role) → IsSomeAnd (slice_get code at) (λ i. op ≡ i.op) → IsSomeAnd (slice_get code at) (λ i. args ≡ i.args) → role ≡ role_at op args →
    with_role role label met (blocks_from (drop (at + 1) code)) ≡ blocks_from (drop at code) label met
unfolding blocks_from
at_role [] at op label args met role o a r = absurd o
at_role (i ∷ code) zero op label args met role o a r = ap (λ x. with_role x label met (blocks_from code)) (r ∙ ap (λ x. role_at x args) o ∙ ap (λ x. role_at i.op x) a)
at_role (i ∷ code) (suc at) op label args met role o a r =
    let next : suc (at + 1) ≡ suc at + 1 = omega arith in
    subst (λ n. with_role role label met (blocks_from (drop n (i ∷ code))) ≡ blocks_from (drop at code) label met) next (at_role code at op label args met role o a r)

-- behind the last instruction
pub at_end : (code : List Instr) (at label : ℕ) (met : Merge) → length code ≤ at → blocks_from (drop at code) label met ≡ []
unfolding blocks_from
at_end [] zero label met h = refl
at_end [] (suc at) label met h = refl
at_end (i ∷ code) zero label met h = absurd (omega arith)
at_end (i ∷ code) (suc at) label met h = at_end code at label met (omega arith)

-- There are no more blocks than instructions.
pub blocks_few : (code : List Instr) (label : ℕ) (met : Merge) → length (blocks_from code label met) ≤ length code
unfolding blocks_from
blocks_few [] label met = omega arith
blocks_few (i ∷ code) label met = by_role (role_at i.op i.args) (blocks_few code)
  where
    by_role : (role : Role) → ((l : ℕ) (m : Merge) → length (blocks_from code l m) ≤ length code) → length (with_role role label met (blocks_from code)) ≤ length (i ∷ code)
    by_role (Opens l) few = let h = few l Nothing in omega (arith, h)
    by_role (Merges m) few = let h = few label m in omega (arith, h)
    by_role (Ends e) few = let h = few label met in omega (arith, h)
    by_role Closes few = omega arith
    by_role Inside few = let h = few label met in omega (arith, h)

pub blocks_fewer : (code : List Instr) (at bound : ℕ) → length code < bound → length (blocks_from (drop at code) 0 Nothing) < bound
blocks_fewer code at bound h =
    let few = blocks_few (drop at code) 0 Nothing in
    let less = drop_less at code in
    omega (arith, h, few, less)
  where
    drop_less : (n : ℕ) (xs : List Instr) → length (drop n xs) ≤ length xs
    drop_less zero xs = omega arith
    drop_less (suc n) [] = omega arith
    drop_less (suc n) (x ∷ xs) = let h = drop_less n xs in omega (arith, h)
