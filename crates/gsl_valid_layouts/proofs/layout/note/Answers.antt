use Rattle.std.proofs.Common.{◌≡◌, ℕ, List, set, ◌+◌, sym, subst, ap, ◌∙◌, arith}
use Rattle.gsl_kinds.specs.Runtimes.{front}
use Rattle.gsl_kinds.specs.Seen.{shape_seen}
use Rattle.gsl_ids.proofs.Places.{made}
use Rattle.gsl_ids.proofs.Rows.{below}
use Rattle.gsl_valid.specs.Kinds.{shape_in}
use Rattle.gsl_valid.specs.Placed.{Code}
use Rattle.gsl_valid.specs.LayoutRules.{need, need_as, extent, extent_as}
use Rattle.gsl_valid_layouts.specs.Sizes.{told, told_of, TellSizes}
use Rattle.gsl_valid_layouts.proofs.Laying.{one_more}
use Rattle.gsl_valid_layouts.proofs.Sizing.{needs_stay, needs_grow, extents_stay, extents_grow}
use Rattle.gsl_valid_layouts.proofs.layout.note.Goals as goal

pub returns-in-Some-clause-needs_behind : goal.returns-in-Some-clause-needs_behind
returns-in-Some-clause-needs_behind c =
    let m = c.args.decorations.now in
    let i = made c.args.op c.args.args.now in
    let r = c.in-Some.id in
    let rows = c.args.needs.now.items in
    let made_it = sym c.defined_by.ensures ∙ c.in-Some.is in
    let small = below m c.args.at i r c.requires.here made_it c.requires.once in
    let is =
    c.need_of-need.ensures ∙ ap (λ l. told (need_as m (told_of l) r (shape_seen c.shape_in-shape.result))) c.deref.ensures.value
    ∙ ap (λ s. told (need_as m (told_of rows) r s)) (c.shape_in-shape.ensures ∙ ap shape_in c.kind_at.ensures) in
    let room = c.requires.needs_room in
    let ok = c.args.needs.now.ok in
    subst (λ (l : List ℕ). TellSizes l (need m (front m (c.args.at + 1)))) (sym c.put.ensures)
    (subst (λ (b : Code). TellSizes (set rows r c.need_of-need.result) (need m b)) (sym (one_more m c.args.at i c.requires.here))
    (needs_grow m (front m c.args.at) i rows r c.need_of-need.result (omega (arith, small, room, ok)) made_it is c.requires.needs_before))

pub returns-in-Some-clause-extents_behind : goal.returns-in-Some-clause-extents_behind
returns-in-Some-clause-extents_behind c =
    let m = c.args.decorations.now in
    let i = made c.args.op c.args.args.now in
    let r = c.in-Some.id in
    let rows = c.args.extents.now.items in
    let made_it = sym c.defined_by.ensures ∙ c.in-Some.is in
    let small = below m c.args.at i r c.requires.here made_it c.requires.once in
    let is =
    c.extent_of-extent.ensures ∙ ap (λ l. told (extent_as m (told_of l) r (shape_seen c.shape_in-shape.result))) c.deref-in-Some.ensures.value
    ∙ ap (λ s. told (extent_as m (told_of rows) r s)) (c.shape_in-shape.ensures ∙ ap shape_in c.kind_at.ensures) in
    let room = c.requires.extents_room in
    let ok = c.args.extents.now.ok in
    subst (λ (l : List ℕ). TellSizes l (extent m (front m (c.args.at + 1)))) (sym c.put-in-Some.ensures)
    (subst (λ (b : Code). TellSizes (set rows r c.extent_of-extent.result) (extent m b)) (sym (one_more m c.args.at i c.requires.here))
    (extents_grow m (front m c.args.at) i rows r c.extent_of-extent.result (omega (arith, small, room, ok)) made_it is c.requires.extents_before))

pub returns-in_default-clause-needs_behind : goal.returns-in_default-clause-needs_behind
returns-in_default-clause-needs_behind c =
    let m = c.args.decorations.now in
    let i = made c.args.op c.args.args.now in
    subst (λ (b : Code). TellSizes c.args.needs.now.items (need m b)) (sym (one_more m c.args.at i c.requires.here))
    (needs_stay m (front m c.args.at) i c.args.needs.now.items (sym c.defined_by.ensures ∙ c.in_default.is) c.requires.needs_before)

pub returns-in_default-clause-extents_behind : goal.returns-in_default-clause-extents_behind
returns-in_default-clause-extents_behind c =
    let m = c.args.decorations.now in
    let i = made c.args.op c.args.args.now in
    subst (λ (b : Code). TellSizes c.args.extents.now.items (extent m b)) (sym (one_more m c.args.at i c.requires.here))
    (extents_stay m (front m c.args.at) i c.args.extents.now.items (sym c.defined_by.ensures ∙ c.in_default.is) c.requires.extents_before)
