use Rattle.std.proofs.Common.{◌≡◌, ◌∙◌, ap, arith, ◌+◌, ◌∷◌, drop}
use Rattle.std.proofs.lemmas.List.{drop_more}
use Rattle.std.proofs.lemmas.Option.{slice_get_within, get_or_from_slice_get}
use Rattle.gsl_types.specs.Leaves.{counting, leaves_together, leaves_of}
use Rattle.gsl_types.specs.Structs.{members_meaning}
use Rattle.gsl_types.proofs.declare.leaves_of_all.Goals as goal

pub loop-k-preserved : goal.loop-k-preserved
loop-k-preserved c =
    let structs = c.args.structs.now in
    let members = c.args.members.now in
    let k = c.loop-k.k in
    let x = c.index.result.now in
    let split : leaves_together (members_meaning counting structs (drop k members)) ≡ leaves_of structs x.ty + leaves_together (members_meaning counting structs (drop (k + 1) members))
    = ap (λ ms. leaves_together (members_meaning counting structs ms)) (drop_more members k x (slice_get_within members k x c.index.ensures)
    ∙ ap (λ m. m ∷ drop (k + 1) members) (get_or_from_slice_get members k x x c.index.ensures)) in
    (omega (arith, c.min-total.ensures), omega (arith, c.min-total.ensures, c.leaves.ensures, split, c.loop-k.invariant.0, c.loop-k.invariant.1))
