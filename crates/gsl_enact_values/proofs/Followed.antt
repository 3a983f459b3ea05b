-- Parts of values, step by step.
use Rattle.std.proofs.Common.{◌≡◌, refl, sym, ap, ◌∙◌, ℕ, suc, ◌<◌, ◌≤◌, List, [], ◌∷◌, length, drop, get_or}
use Rattle.std.proofs.lemmas.List.{get_or_past}
use Rattle.std.proofs.Math.Seq.{drop-cons}
use Rattle.gsl_values.specs.declared.value.Value.{Value}
use Rattle.gsl_values.specs.declared.value.Value.TheVariants.{Word, outs-Word}
use Rattle.gsl_tree.specs.Operations.{value_at}
use Rattle.gsl_tree.specs.Values.{parts_in, parts_layer}

-- a word has no parts, and what stands for them has none either
pub zero_at : (path : List ℕ) → value_at (Word 0) path ≡ Word 0
zero_at [] = refl
zero_at (number ∷ path) = ap (λ l. value_at (get_or (parts_layer l) number (Word 0)) path) (outs-Word 0) ∙ zero_at path

-- a path that leads to no part
pub none_at : (at whole : Value) (parts : List Value) (path : List ℕ) (k : ℕ) → parts ≡ parts_in at → k < length path → length parts ≤ get_or path k 0 → value_at at (drop k path) ≡ whole → whole ≡ Word 0
none_at at whole parts path k is below past so_far =
    sym so_far ∙ ap (value_at at) (drop-cons path k 0 below)
    ∙ ap (λ l. value_at (get_or l (get_or path k 0) (Word 0)) (drop (suc k) path)) (sym is) ∙ ap (λ v. value_at v (drop (suc k) path)) (get_or_past parts (get_or path k 0) (Word 0) past) ∙ zero_at (drop (suc k) path)
