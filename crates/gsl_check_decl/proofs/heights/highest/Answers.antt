use Rattle.std.proofs.Common.{◌≡◌, ◌∙◌, ◌+◌, ◌<◌, ◌∷◌, ap, sym, subst, drop}
use Rattle.std.proofs.lemmas.List.{drop_more}
use Rattle.gsl_types.specs.declared.ty.Member.{Member}
use Rattle.gsl_tree.specs.Weights.{height_of}
use Rattle.gsl_check_decl.proofs.Pushed.{above_all}
use Rattle.gsl_check_decl.proofs.heights.highest.Goals as goal

pub returns-in-None : goal.returns-in-None
returns-in-None c =
    let members = c.args.members.now in
    let k = c.loop-k.k in
    let x = c.index-members-k.result in
    let split : drop k members ≡ x ∷ drop (k + 1) members = drop_more members k x c.loop-k-test.true ∙ ap (λ y. y ∷ drop (k + 1) members) (sym c.index-members-k.is) in
    above_all c.args.env.now.scene.structs members k c.loop-k.top c.args.most x split c.loop-k.invariant.0
    (subst (λ (m : Member). c.args.most < height_of c.args.env.now.scene.structs m.ty) (sym c.index-members-k.is) c.in-None.ensures)
