-- Instructions shown one by one.
use Rattle.std.proofs.Common.{◌≡◌, ℕ, zero, suc, ◌+◌, List, [], ◌∷◌, ◌++◌, take, Option, Some, None, ap, sym, subst, ◌∙◌, append-nil, append_assoc, add-one}
use Rattle.std.specs.Prelude.{slice_get, IsSomeAnd}
use Rattle.std.specs.List.{flat_map, AllByRecursion}
use Rattle.gsl_words.specs.declared.target.Target.{Target}
use Rattle.gsl_words.specs.declared.module.Instr.{Instr}
use Rattle.gsl_words.specs.Faults.{FitsInstr}
use Rattle.gsl_asm.specs.Shown.{instr_text}

flat_take : (f : Instr → List ℕ) (code : List Instr) (i : ℕ) (instr : Instr) → slice_get code i ≡ Some instr → flat_map f (take (suc i) code) ≡ flat_map f (take i code) ++ f instr
flat_take f [] i instr e = absurd (cc)
flat_take f (j ∷ code) zero instr e = let same : j ≡ instr = cc in append-nil (f j) ∙ ap f same
flat_take f (j ∷ code) (suc i) instr e = ap (λ l. f j ++ l) (flat_take f code i instr e) ∙ sym (append_assoc (f j) (flat_map f (take i code)) (f instr))

pub one_more : (target : Target) (code : List Instr) (i op : ℕ) (args start old new : List ℕ) → (found : Option Instr) → slice_get code i ≡ found →
    IsSomeAnd found (λ instr. op ≡ instr.op) → IsSomeAnd found (λ instr. args ≡ instr.args) → old ≡ start ++ flat_map (instr_text target) (take i code) →
    new ≡ old ++ instr_text target (record { op = op; args = args }) → new ≡ start ++ flat_map (instr_text target) (take (i + 1) code)
one_more target code i op args start old new None is o a so_far put = absurd o
one_more target code i op args start old new (Some instr) is o a so_far put =
    let same : record { op = op; args = args } ≡ instr = ap (λ x. record { op = x; args = args }) o ∙ ap (λ x. record { op = instr.op; args = x }) a in
    put ∙ ap (λ x. old ++ instr_text target x) same ∙ ap (λ l. l ++ instr_text target instr) so_far ∙ append_assoc start (flat_map (instr_text target) (take i code)) (instr_text target instr)
    ∙ ap (λ l. start ++ l) (sym (flat_take (instr_text target) code i instr is)) ∙ ap (λ k. start ++ flat_map (instr_text target) (take k code)) (sym (add-one i))

-- the numbers of instructions one by one
pub fits_one_more : (code : List Instr) (i op : ℕ) (args : List ℕ) (found : Option Instr) → slice_get code i ≡ found → IsSomeAnd found (λ instr. op ≡ instr.op) → IsSomeAnd found (λ instr. args ≡ instr.args) →
    AllByRecursion FitsInstr (take i code) → FitsInstr (record { op = op; args = args }) → AllByRecursion FitsInstr (take (i + 1) code)
fits_one_more code i op args None is o a so_far fits = absurd o
fits_one_more code i op args (Some instr) is o a so_far fits =
    let same : record { op = op; args = args } ≡ instr = ap (λ x. record { op = x; args = args }) o ∙ ap (λ x. record { op = instr.op; args = x }) a in
    subst (λ k. AllByRecursion FitsInstr (take k code)) (sym (add-one i)) (onto code i instr is so_far (subst FitsInstr same fits))
  where
    onto : (code : List Instr) (i : ℕ) (instr : Instr) → slice_get code i ≡ Some instr → AllByRecursion FitsInstr (take i code) → FitsInstr instr → AllByRecursion FitsInstr (take (suc i) code)
    onto [] i instr is so_far fits = absurd (cc)
    onto (j ∷ code) zero instr is so_far fits = let same : instr ≡ j = cc in (subst FitsInstr same fits, tt)
    onto (j ∷ code) (suc i) instr is so_far fits = (so_far.0, onto code i instr is so_far.1 fits)
