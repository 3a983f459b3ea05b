use Rattle.std.proofs.Common.{◌∙◌, sym, ap, subst, length, arith, ◌≡◌, ◌^◌}
use Rattle.std.specs.Prelude.{IfOk}
use Rattle.gsl_values.specs.declared.value.Value.{Value}
use Rattle.gsl_values.specs.declared.value.Value.TheVariants.{Many}
use Rattle.gsl_block_words.specs.Reading.{elements_at}
use Rattle.gsl_block_words.proofs.Seeing as seeing
use Rattle.gsl_block_words.proofs.reading.+read.Goals as goal

pub read_at-elements-requires : goal.read_at-elements-requires
read_at-elements-requires t c = (omega (arith, c.decreases, seeing.element_smaller c.args.laid.now c.part.result.now (seeing.array_is c.args.laid.now (sym c.kind.ensures ∙ c.in-Array.is)) c.part.ensures), λ i below. seeing.element_ends c.args.laid.now c.keeps.ensures c.args.at (length c.args.bytes.now) i c.stride.result c.part.result.now (omega (arith, below, c.count_at-count.ensures)) c.stride.ensures c.part.ensures (2 ^ 64) c.requires (omega arith))

pub read_at-returns-in_ok-all-in-Array : goal.read_at-returns-in_ok-all-in-Array
read_at-returns-in_ok-all-in-Array t c =
    ap Many (c.in_ok-all-in-Array.ensures ∙ ap (λ n. elements_at c.part.result.now c.stride.result n c.args.at c.args.bytes.now) c.count_at-count.ensures)
    ∙ sym (seeing.array_shown c.args.laid.now c.part.result.now c.stride.result c.args.at c.args.bytes.now (seeing.array_is c.args.laid.now (sym c.kind.ensures ∙ c.in-Array.is)) c.stride.ensures c.part.ensures)

pub read_at-returns-in_ok-all-in-Group : goal.read_at-returns-in_ok-all-in-Group
read_at-returns-in_ok-all-in-Group t c =
    ap Many c.in_ok-all-in-Group.ensures ∙ sym (seeing.group_shown c.args.laid.now c.in-Group.count c.args.at c.args.bytes.now (sym c.kind.ensures ∙ c.in-Group.is))

pub read_at-returns-in-Leaf : goal.read_at-returns-in-Leaf
read_at-returns-in-Leaf t c = subst (λ (x : Value). IfOk c.run.result (λ v. v ≡ x)) (sym (seeing.leaf_shown c.args.laid.now c.in-Leaf.count c.args.at c.args.bytes.now (sym c.kind.ensures ∙ c.in-Leaf.is))) c.run.ensures

pub elements-loop-i-init : goal.elements-loop-i-init
elements-loop-i-init t c = seeing.no_elements c.args.element.now c.args.stride c.args.at c.args.bytes.now c.new-all.result c.new-all.ensures

pub elements-loop-i-preserved : goal.elements-loop-i-preserved
elements-loop-i-preserved t c = seeing.elements_on c.args.element.now c.args.stride c.loop-i.i c.args.at c.args.bytes.now c.loop-i.all c.push.new.self c.in_ok-v.v c.loop-i.invariant c.in_ok-push.ensures.ok c.in_ok-v.ensures

pub members-loop-i-init : goal.members-loop-i-init
members-loop-i-init t c = seeing.no_members c.args.laid.now c.args.at c.args.bytes.now c.new-all.result c.new-all.ensures

pub members-part-requires : goal.members-part-requires
members-part-requires t c = seeing.has_part c.args.laid.now c.args.count c.loop-i.i c.requires.group c.loop-i-test.true

pub members-offset-requires : goal.members-offset-requires
members-offset-requires t c = seeing.has_offset c.args.laid.now c.args.count c.loop-i.i c.requires.group c.loop-i-test.true

pub members-overflow_add-at : goal.members-overflow_add-at
members-overflow_add-at t c = omega (arith, c.requires.end, seeing.part_need c.args.laid.now c.part.result.now c.args.count c.loop-i.i c.offset.result c.requires.group c.part.ensures c.offset.ensures)

pub members-read_at-requires : goal.members-read_at-requires
members-read_at-requires t c = (
  omega (arith, c.decreases, seeing.part_smaller c.args.laid.now c.part.result.now c.args.count c.loop-i.i c.requires.group c.part.ensures),
  omega (arith, c.requires.end, seeing.part_need c.args.laid.now c.part.result.now c.args.count c.loop-i.i c.offset.result c.requires.group c.part.ensures c.offset.ensures),
)

pub members-loop-i-preserved : goal.members-loop-i-preserved
members-loop-i-preserved t c =
    seeing.members_on c.args.laid.now c.part.result.now c.args.count c.loop-i.i c.offset.result c.args.at c.args.bytes.now c.loop-i.all c.push.new.self c.in_ok-v.v c.requires.group c.part.ensures c.offset.ensures c.loop-i.invariant c.in_ok-push.ensures.ok
    c.in_ok-v.ensures
