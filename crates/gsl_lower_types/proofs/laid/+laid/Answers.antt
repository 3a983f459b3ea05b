use Rattle.std.proofs.Common.{sym, ◌∙◌, subst, arith}
use Rattle.std.proofs.lemmas.Result.{err_from_is_err_and}
use Rattle.gsl_block_words.proofs.Seeing.{has_part, part_smaller}
use Rattle.gsl_layout.specs.Layout.{members_of}
use Rattle.gsl_lower_types.specs.Known.{Does}
use Rattle.gsl_lower_types.specs.Laid.{types_laid}
use Rattle.gsl_lower_types.proofs.Layouts.{array_anew, array_typed, group_anew, group_typed, types_end, types_on, types_stop}
use Rattle.gsl_lower_types.proofs.laid.+laid.Goals as goal

pub anew-returns-in-Array : goal.anew-returns-in-Array
anew-returns-in-Array t c =
    subst (λ r. Does c.strided.result c.strided.new.b c.strided.new.known r)
    (sym (array_anew c.args.structs.now c.args.ty.now c.args.known.now c.args.b.now c.args.laid.now c.part.result.now c.stride.result (sym c.kind.ensures ∙ c.in-Array.is) c.stride.ensures c.part.ensures)) c.strided.ensures

pub anew-returns-in_ok-types-in-Group : goal.anew-returns-in_ok-types-in-Group
anew-returns-in_ok-types-in-Group t c =
    subst (λ r. Does c.grouped.result c.grouped.new.b c.grouped.new.known r)
    (sym (group_anew c.args.structs.now c.args.ty.now c.args.known.now c.args.b.now c.args.laid.now c.in-Group.count c.in_ok-types-in-Group.types (sym c.kind.ensures ∙ c.in-Group.is) c.in_ok-types-in-Group.ensures)) c.grouped.ensures

pub type_laid-returns-in-Array : goal.type_laid-returns-in-Array
type_laid-returns-in-Array t c =
    subst (λ r. Does c.once_laid.result c.once_laid.new.b c.once_laid.new.known r)
    (sym (array_typed c.args.structs.now c.args.ty.now c.args.known.now c.args.b.now c.args.laid.now (sym c.kind.ensures ∙ c.in-Array.is))) c.once_laid.ensures

pub type_laid-returns-in-Group : goal.type_laid-returns-in-Group
type_laid-returns-in-Group t c =
    subst (λ r. Does c.once_laid-in-Group.result c.once_laid-in-Group.new.b c.once_laid-in-Group.new.known r)
    (sym (group_typed c.args.structs.now c.args.ty.now c.args.known.now c.args.b.now c.args.laid.now c.in-Group.field-0 (sym c.kind.ensures ∙ c.in-Group.is))) c.once_laid-in-Group.ensures

pub types_laid-part-requires : goal.types_laid-part-requires
types_laid-part-requires t c = has_part c.args.laid.now c.args.count c.loop-i.i c.requires c.loop-i-test.true

pub types_laid-type_laid-requires : goal.types_laid-type_laid-requires
types_laid-type_laid-requires t c = omega (arith, c.decreases, part_smaller c.args.laid.now c.part.result.now c.args.count c.loop-i.i c.requires c.part.ensures)

pub types_laid-returns-in_err-type_laid : goal.types_laid-returns-in_err-type_laid
types_laid-returns-in_err-type_laid t c =
    let p = err_from_is_err_and c.from_residual.result c.from_residual.ensures.1 in
    rw (p.1, p.2) (types_stop c.args.structs.now c.args.laid.now c.args.count c.requires c.args.types.now c.loop-i.i c.part.result.now c.index.result.now c.loop-i.ids _ c.loop-i.known c.loop-i.b
    (types_laid c.args.structs.now (members_of c.args.laid.now) c.args.types.now c.args.known.now c.args.b.now) c.part.ensures c.index.ensures c.in_err-type_laid.ensures c.loop-i.invariant)

pub types_laid-loop-i-preserved : goal.types_laid-loop-i-preserved
types_laid-loop-i-preserved t c =
    types_on c.args.structs.now c.args.laid.now c.args.count c.requires c.args.types.now c.loop-i.i c.part.result.now c.index.result.now c.loop-i.ids c.push.new.self c.in_ok-type_laid.field-0 c.loop-i.known c.type_laid.new.known c.loop-i.b c.type_laid.new.b
    (types_laid c.args.structs.now (members_of c.args.laid.now) c.args.types.now c.args.known.now c.args.b.now) c.part.ensures c.index.ensures c.in_ok-type_laid.ensures c.in_ok-push.ensures.ok c.loop-i.invariant

pub types_laid-returns : goal.types_laid-returns
types_laid-returns t c = types_end c.args.structs.now c.args.laid.now c.args.count c.requires c.args.types.now c.loop-i.i c.loop-i.ids c.loop-i.known c.loop-i.b _ c.loop-i-test.false c.loop-i.invariant
