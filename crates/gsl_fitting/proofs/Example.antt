-- A function with a selection fits in a small module.
use Rattle.std.proofs.Common.{ℕ, [], ◌∷◌, ◌++◌, refl, arith}
use Rattle.gsl_words.specs.declared.module.Module.{Module}
use Rattle.gsl_instr.specs.declared.op.TheConstants as op
use Rattle.gsl_instr.specs.Forms.{form_of}
use Rattle.gsl_valid.specs.Placed.{Code}
use Rattle.gsl_valid.proofs.Example.{decorations, front, globals, i, module_with}
use Rattle.gsl_fitting.specs.Fits.{Fits}
use Rattle.gsl_fitting.specs.Functions.{AreParameters, IsFunction}

-- if (b.a < 0) b.a = 0;
abbrev body : Code
body =
    i op.ACCESS_CHAIN (8 ∷ 11 ∷ 9 ∷ 10 ∷ []) ∷ i op.LOAD (5 ∷ 12 ∷ 11 ∷ []) ∷ i op.S_LESS_THAN (40 ∷ 13 ∷ 12 ∷ 10 ∷ []) ∷ i op.SELECTION_MERGE (20 ∷ 0 ∷ [])
    ∷ i op.BRANCH_CONDITIONAL (13 ∷ 21 ∷ 20 ∷ []) ∷ i op.LABEL (21 ∷ []) ∷ i op.ACCESS_CHAIN (8 ∷ 14 ∷ 9 ∷ 10 ∷ []) ∷ i op.STORE (14 ∷ 10 ∷ []) ∷ i op.BRANCH (20 ∷ []) ∷ i op.LABEL (20 ∷ []) ∷ i op.RETURN []
    ∷ []

abbrev main : Code
main = i op.FUNCTION (2 ∷ 1 ∷ 0 ∷ 3 ∷ []) ∷ i op.LABEL (4 ∷ []) ∷ body ++ i op.FUNCTION_END [] ∷ []

abbrev whole : Module
whole = module_with 41 (front ++ decorations ++ globals ++ i op.TYPE_BOOL (40 ∷ []) ∷ main)

-- No function calls another.
abbrev rank : ℕ → ℕ
rank id = 0

example_fits : IsFunction whole rank main
unfolding form_of
example_fits = record {
  type = 2;
  id = 1;
  function_type = 3;
  label = 4;
  begin = i op.FUNCTION (2 ∷ 1 ∷ 0 ∷ 3 ∷ []);
  parameters = [];
  opening = i op.LABEL (4 ∷ []);
  variables = [];
  body = body;
  ending = i op.FUNCTION_END [];
  is = refl;
  begins = refl;
  result = refl;
  uses = refl;
  takes = AreParameters.none;
  opens = refl;
  holds = tt;
  fits =
      Fits.goes refl (record { numbers = refl; uses = refl; names = refl; operands = refl; memory = refl; extended = refl; leaves = refl; limits = refl; calls = tt }) (Fits.goes refl (record { numbers = refl; uses = refl; names = refl; operands = refl; memory = refl; extended = refl; leaves = refl; limits = refl; calls = tt }) (Fits.goes refl (record { numbers = refl; uses = refl; names = refl; operands = refl; memory = refl; extended = refl; leaves = refl; limits = refl; calls = tt }) (Fits.selects 20 21 20 refl refl refl (omega arith) (record { numbers = refl; uses = refl; names = refl; operands = refl; memory = refl; extended = refl; leaves = refl; limits = refl; calls = tt }) (record { numbers = refl; uses = refl; names = refl; operands = refl; memory = refl; extended = refl; leaves = refl; limits = refl; calls = tt }) (Fits.opens refl (Fits.goes refl (record { numbers = refl; uses = refl; names = refl; operands = refl; memory = refl; extended = refl; leaves = refl; limits = refl; calls = tt }) (Fits.goes refl (record { numbers = refl; uses = refl; names = refl; operands = refl; memory = refl; extended = refl; leaves = refl; limits = refl; calls = tt }) (Fits.ends 20 refl refl (record { numbers = refl; uses = refl; names = refl; operands = refl; memory = refl; extended = refl; leaves = refl; limits = refl; calls = tt }) (Fits.opens refl (Fits.leaves refl refl (record { numbers = refl; uses = refl; names = refl; operands = refl; memory = refl; extended = refl; leaves = refl; limits = refl; calls = tt }) Fits.over)))))))));
  ends = refl;
}
