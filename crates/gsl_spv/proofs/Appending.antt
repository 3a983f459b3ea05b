-- Instructions put one by one.
use Rattle.std.proofs.Common.{◌≡◌, ℕ, ◌+◌, List, [], ◌∷◌, ◌++◌, take, Option, Some, None, ap, sym, ◌∙◌, append_assoc}
use Rattle.std.proofs.lemmas.List.{take_more}
use Rattle.std.proofs.lemmas.Option.{slice_get_within, get_or_from_slice_get}
use Rattle.std.specs.Prelude.{slice_get, IsSomeAnd}
use Rattle.gsl_words.specs.declared.module.Instr.{Instr}

take_one : (code : List Instr) (i : ℕ) (x : Instr) → slice_get code i ≡ Some x → take (i + 1) code ≡ take i code ++ x ∷ []
take_one code i x found = take_more code i x (slice_get_within code i x found) ∙ ap (λ z. take i code ++ z ∷ []) (get_or_from_slice_get code i x x found)

-- one more of the first instructions of a section
pub one_more : (code : List Instr) (i op : ℕ) (args : List ℕ) (start old new : List Instr) (found : Option Instr) → slice_get code i ≡ found
    → IsSomeAnd found (λ x. op ≡ x.op) → IsSomeAnd found (λ x. args ≡ x.args) → old ≡ start ++ take i code
    → new ≡ old ++ record { op = op; args = args } ∷ [] → new ≡ start ++ take (i + 1) code
one_more code i op args start old new None is o a so_far put = absurd o
one_more code i op args start old new (Some x) is o a so_far put =
    let same : record { op = op; args = args } ≡ x = ap (λ n. record { op = n; args = args }) o ∙ ap (λ l. record { op = x.op; args = l }) a in
    put ∙ ap (λ z. old ++ z ∷ []) same ∙ ap (λ l. l ++ x ∷ []) so_far ∙ append_assoc start (take i code) (x ∷ [])
    ∙ ap (λ l. start ++ l) (sym (take_one code i x is))
