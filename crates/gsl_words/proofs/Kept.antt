-- What was written first stays through what is written later.
use Rattle.std.proofs.Common.{◌≡◌, ℕ, List, ◌++◌, length, take, drop, ap, sym, ◌∙◌, append_assoc}
use Rattle.std.proofs.Math.Seq.{take-append_seam}
use Rattle.std.proofs.lemmas.List.{take-append-drop}

pub take_kept : (first then later more : List ℕ) → then ≡ first ++ more → take (length then) later ≡ then → take (length first) later ≡ first
take_kept first then later more e kept =
    let whole : later ≡ first ++ (more ++ drop (length then) later) =
    sym (take-append-drop (length then) later) ∙ ap (λ x. x ++ drop (length then) later) (kept ∙ e)
    ∙ append_assoc first more (drop (length then) later) in
    ap (take (length first)) whole ∙ take-append_seam first (more ++ drop (length then) later)
