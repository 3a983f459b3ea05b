-- The blocks of a function are in order.
use Rattle.std.proofs.Common.{◌≡◌, ℕ, List, [], ◌∷◌, ◌++◌, refl, sym, ap, ◌∙◌, subst, append_assoc, arith}
use Rattle.std.specs.List.{AllByRecursion}
use Rattle.gsl_words.specs.declared.module.Instr.{Instr}
use Rattle.gsl_words.specs.declared.module.Module.{Module}
use Rattle.gsl_blocks.specs.declared.block.Block.{Block}
use Rattle.gsl_blocks.specs.declared.block.Merge.{Merge}
use Rattle.gsl_blocks.specs.declared.block.Merge.TheVariants.{Nothing}
use Rattle.gsl_blocks.specs.declared.block.Role.{Role}
use Rattle.gsl_blocks.specs.declared.block.Role.TheVariants.{Opens, Inside, Closes}
use Rattle.gsl_blocks.specs.Around.{outside}
use Rattle.gsl_blocks.specs.Blocks.{blocks_from, blocks_of, role_or, with_role}
use Rattle.gsl_blocks.specs.Order.{IsOrdered, IsRun, run}
use Rattle.gsl_blocks.specs.Order as order
use Rattle.gsl_blocks.proofs.Sound.{one}
use Rattle.gsl_valid.specs.Instruction.{read}
use Rattle.gsl_valid.specs.Placed.{Code}
use Rattle.gsl_fitting.specs.Fits.{In}
use Rattle.gsl_fitting.specs.Functions.{AreParameters, IsFunction, IsLocal}
use Rattle.gsl_fitting_code.specs.Kept.{AreOrdered}
use Rattle.gsl_fitting_code.proofs.Ordered.{Runs, are_runs}

-- over an instruction with a role
over : (i : Instr) (code : Code) (l : ℕ) (met : Merge) (r : Role) → role_or (read i) ≡ r → blocks_from (i ∷ code) l met ≡ with_role r l met (blocks_from code)
unfolding blocks_from
over i code l met r e = ap (λ r. with_role r l met (blocks_from code)) e

module _ (m : Module) where
  over_parameters : (types : List ℕ) (code later : Code) (l : ℕ) (met : Merge) → AreParameters m types code → blocks_from (code ++ later) l met ≡ blocks_from later l met
  over_parameters _ _ later l met AreParameters.none = refl
  over_parameters _ _ later l met (AreParameters.one {types = types} {i = i} {code = code} id is known more) =
      over i (code ++ later) l met Inside (ap role_or is) ∙ over_parameters types code later l met more

  over_variables : (code later : Code) (l : ℕ) (met : Merge) → AllByRecursion (IsLocal m) code → blocks_from (code ++ later) l met ≡ blocks_from later l met
  over_variables [] later l met all = refl
  over_variables (i ∷ code) later l met all = over i (code ++ later) l met Inside (ap role_or all.0.reads) ∙ over_variables code later l met all.1

-- the first block's label is that of the run
ordered_blocks : (first : ℕ) (bs : List Block) → Runs first (run first outside ∷ []) bs → AreOrdered bs
ordered_blocks first bs r = by_blocks bs (one [] first (run first outside) r.deepest bs r.runs)
  where
    by_blocks : (bs : List Block) → IsRun first first outside r.deepest bs → AreOrdered bs
    by_blocks bs is = record { deepest = r.deepest; ordered = begun r.deepest bs is; low = r.low }
      where
        begun : (n : ℕ) (bs : List Block) → IsRun first first outside n bs → IsOrdered bs n
        begun _ _ (order.ends t h) = IsOrdered.ordered (order.ends t h)
        begun _ _ (order.leaves h) = IsOrdered.ordered (order.leaves h)
        begun _ _ (order.turns t f h) = IsOrdered.ordered (order.turns t f h)
        begun _ _ (order.selects n t f h r) = IsOrdered.ordered (order.selects n t f h r)
        begun _ _ (order.chooses n d ts arms h a r) = IsOrdered.ordered (order.chooses n d ts arms h a r)
        begun _ _ (order.loops n k b h r) = IsOrdered.ordered (order.loops n k b h r)
        begun _ _ (order.goes t h r) = IsOrdered.ordered (order.goes t h r)

module _ (m : Module) (rank : ℕ → ℕ) (code later : Code) (f : IsFunction m rank code) where
  pub tail_ends : (l : ℕ) (met : Merge) → blocks_from ((f.ending ∷ []) ++ later) l met ≡ []
  tail_ends l met = over f.ending later l met Closes (ap role_or f.ends)

  -- the function's blocks are those of its body
  pub blocks_are : blocks_of (code ++ later) ≡ blocks_from (f.body ++ ((f.ending ∷ []) ++ later)) f.label Nothing
  blocks_are =
      let tail = f.variables ++ (f.body ++ (f.ending ∷ [])) in
      ap (λ z. blocks_of (z ++ later)) f.is
      ∙ over f.begin ((f.parameters ++ (f.opening ∷ tail)) ++ later) 0 Nothing Inside (ap role_or f.begins)
      ∙ ap (λ z. blocks_from z 0 Nothing) (append_assoc f.parameters (f.opening ∷ tail) later)
      ∙ over_parameters m _ f.parameters (f.opening ∷ (tail ++ later)) 0 Nothing f.takes
      ∙ over f.opening (tail ++ later) 0 Nothing (Opens f.label) (ap role_or f.opens)
      ∙ ap (λ z. blocks_from z f.label Nothing) (append_assoc f.variables (f.body ++ (f.ending ∷ [])) later)
      ∙ over_variables m f.variables ((f.body ++ (f.ending ∷ [])) ++ later) f.label Nothing f.holds
      ∙ ap (λ z. blocks_from z f.label Nothing) (append_assoc f.body (f.ending ∷ []) later)

  pub function_ordered : AreOrdered (blocks_of (code ++ later))
  function_ordered =
      subst AreOrdered (sym blocks_are)
      (ordered_blocks f.label _ (are_runs m rank _ ((f.ending ∷ []) ++ later) tail_ends f.body (In f.label outside [] []) f.fits (omega arith) tt))
