-- What an instruction is to its blocks says what it is to its function.
use Rattle.std.proofs.Common.{◌≡◌, ℕ, true, false, Option, Some, None, refl, sym, subst}
use Rattle.std.proofs.lemmas.Bool.{true≢false}
use Rattle.gsl_instr.specs.declared.instruction.Instruction.{Instruction}
use Rattle.gsl_instr.specs.declared.instruction.Instruction.TheVariants as instruction
use Rattle.gsl_blocks.specs.declared.block.End.{End}
use Rattle.gsl_blocks.specs.declared.block.Merge.{Merge}
use Rattle.gsl_blocks.specs.declared.block.Role.{Role}
use Rattle.gsl_blocks.specs.declared.block.Role.TheVariants.{Opens, Merges, Ends, Closes, Inside}
use Rattle.gsl_blocks.specs.Blocks.{role_or}
use Rattle.gsl_valid.specs.Kinds as kinds
use Rattle.gsl_valid.specs.Kinds.{Kind, kind}
use Rattle.gsl_valid.specs.Types.{begins}
use Rattle.gsl_fitting.specs.Fits.{works}

-- what works stands inside its block
pub works_inside : (d : Option Instruction) → works (kind d) ≡ true → role_or d ≡ Inside
works_inside None h = refl
works_inside (Some instruction.Kill) h = absurd (true≢false (sym h))
works_inside (Some _) h = cc

-- and begins no function
pub works_no_function : (k : Kind) → works k ≡ true → begins k ≡ false
works_no_function (kinds.Begins type id function_type) h = absurd (true≢false (sym h))
works_no_function _ h = refl

-- what a role says of the kind
abbrev pub Says : Role → Option Instruction → Type 0
Says (Opens l) d = d ≡ Some (instruction.Label l)
Says (Merges n) d = kind d ≡ kinds.Merges
Says (Ends e) d = kind d ≡ kinds.Leaves
Says Closes d = d ≡ Some instruction.FunctionEnd
Says Inside d = Unit {0}

pub says : (d : Option Instruction) → Says (role_or d) d
says None = tt
says (Some instruction.Kill) = refl
says (Some (instruction.Label l)) = refl
says (Some instruction.FunctionEnd) = refl
says (Some (instruction.LoopMerge merge continue_target control)) = refl
says (Some (instruction.SelectionMerge merge control)) = refl
says (Some (instruction.Branch target)) = refl
says (Some (instruction.BranchConditional condition on_true on_false)) = refl
says (Some (instruction.Switch selector default targets)) = refl
says (Some instruction.Return) = refl
says (Some (instruction.ReturnValue value)) = refl
says (Some _) = tt

pub opens_label : (d : Option Instruction) (l : ℕ) → role_or d ≡ Opens l → d ≡ Some (instruction.Label l)
opens_label d l e = subst (λ r. Says r d) e (says d)

pub merges_kind : (d : Option Instruction) (n : Merge) → role_or d ≡ Merges n → kind d ≡ kinds.Merges
merges_kind d n e = subst (λ r. Says r d) e (says d)

pub ends_kind : (d : Option Instruction) (e : End) → role_or d ≡ Ends e → kind d ≡ kinds.Leaves
ends_kind d e is = subst (λ r. Says r d) is (says d)
