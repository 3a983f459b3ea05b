use Rattle.std.proofs.Common.{◌∙◌, sym, ap, arith}
use Rattle.gsl_layout.specs.Layout.{members_of}
use Rattle.gsl_values.specs.declared.value.Value.{Value}
use Rattle.gsl_block_words.specs.Writing as spec
use Rattle.gsl_block_words.proofs.Seeing as seeing
use Rattle.gsl_block_words.proofs.Puts as puts
use Rattle.std.proofs.Common.{List}
use Rattle.gsl_block_words.proofs.putting.+put.Goals as goal

pub put_at-returns-then-at-bytes : goal.put_at-returns-then-at-bytes
put_at-returns-then-at-bytes t c = puts.nothing_put c.args.laid.now c.args.at c.args.v.now c.args.bytes.now c.if-at-bytes.true

pub put_at-returns-in-Leaf : goal.put_at-returns-in-Leaf
put_at-returns-in-Leaf t c = puts.leaf_put c.args.laid.now c.in-Leaf.field-0 c.args.at c.args.v.now c.args.bytes.now c.put_run.new.bytes (sym c.kind.ensures ∙ c.in-Leaf.is) c.put_run.ensures

pub put_at-returns-in-Array : goal.put_at-returns-in-Array
put_at-returns-in-Array t c =
    puts.array_put c.args.laid.now c.part.result.now c.stride.result c.args.at c.args.v.now c.args.bytes.now c.put_elements.new.bytes (seeing.array_is c.args.laid.now (sym c.kind.ensures ∙ c.in-Array.is)) c.stride.ensures c.part.ensures
    (c.put_elements.ensures ∙ ap (λ (l : List Value). spec.put_elements c.part.result.now c.stride.result c.args.at l c.args.bytes.now) c.parts_of-parts.ensures)

pub put_at-returns-in-Group : goal.put_at-returns-in-Group
put_at-returns-in-Group t c =
    puts.group_put c.args.laid.now c.in-Group.count c.args.at c.args.v.now c.args.bytes.now c.put_parts.new.bytes (sym c.kind.ensures ∙ c.in-Group.is)
    (c.put_parts.ensures ∙ ap (λ (l : List Value). spec.put_parts (members_of c.args.laid.now) c.args.at l c.args.bytes.now) c.parts_of.ensures)

pub put_elements-returns-then-place-bytes : goal.put_elements-returns-then-place-bytes
put_elements-returns-then-place-bytes t c =
    puts.elements_stop c.args.element.now c.args.parts.now c.args.stride c.loop-k.k c.loop-k.place c.loop-k.bytes (spec.put_elements c.args.element.now c.args.stride c.args.at c.args.parts.now c.args.bytes.now) c.if-place-bytes.true c.loop-k.invariant

pub put_elements-loop-k-preserved : goal.put_elements-loop-k-preserved
put_elements-loop-k-preserved t c =
    puts.elements_put c.args.element.now c.args.parts.now c.args.stride c.loop-k.k c.loop-k.place c.index-parts-k.result c.loop-k.bytes c.put_at.new.bytes (spec.put_elements c.args.element.now c.args.stride c.args.at c.args.parts.now c.args.bytes.now)
    (puts.item_at c.args.parts.now c.loop-k.k c.index-parts-k.result c.loop-k-test.true c.index-parts-k.is) c.put_at.ensures c.loop-k.invariant

pub put_elements-returns : goal.put_elements-returns
put_elements-returns t c =
    puts.elements_end c.args.element.now c.args.parts.now c.args.stride c.loop-k.k c.loop-k.place c.loop-k.bytes (spec.put_elements c.args.element.now c.args.stride c.args.at c.args.parts.now c.args.bytes.now) c.loop-k-test.false c.loop-k.invariant

pub put_parts-returns-then-i-parts : goal.put_parts-returns-then-i-parts
put_parts-returns-then-i-parts t c =
    puts.members_stop c.args.laid.now c.args.parts.now c.loop-i.i c.args.at c.loop-i.bytes (spec.put_parts (members_of c.args.laid.now) c.args.at c.args.parts.now c.args.bytes.now) c.if-i-parts.true c.loop-i.invariant

pub put_parts-offset-requires : goal.put_parts-offset-requires
put_parts-offset-requires t c = seeing.has_offset c.args.laid.now c.args.count c.loop-i.i c.requires.group c.loop-i-test.true

pub put_parts-part-requires : goal.put_parts-part-requires
put_parts-part-requires t c = seeing.has_part c.args.laid.now c.args.count c.loop-i.i c.requires.group c.loop-i-test.true

pub put_parts-put_at-requires : goal.put_parts-put_at-requires
put_parts-put_at-requires t c = omega (arith, c.decreases, seeing.part_smaller c.args.laid.now c.part.result.now c.args.count c.loop-i.i c.requires.group c.part.ensures)

pub put_parts-loop-i-preserved : goal.put_parts-loop-i-preserved
put_parts-loop-i-preserved t c =
    puts.members_put c.args.laid.now c.part.result.now c.args.parts.now c.args.count c.loop-i.i c.offset.result c.args.at c.index-parts-i.result c.loop-i.bytes c.put_at.new.bytes
    (spec.put_parts (members_of c.args.laid.now) c.args.at c.args.parts.now c.args.bytes.now) c.requires.group c.part.ensures c.offset.ensures
    (puts.item_at c.args.parts.now c.loop-i.i c.index-parts-i.result c.if-i-parts.false c.index-parts-i.is) c.put_at.ensures c.loop-i.invariant

pub put_parts-returns : goal.put_parts-returns
put_parts-returns t c =
    puts.members_end c.args.laid.now c.args.parts.now c.args.count c.loop-i.i c.args.at c.loop-i.bytes (spec.put_parts (members_of c.args.laid.now) c.args.at c.args.parts.now c.args.bytes.now) c.requires.group c.loop-i-test.false c.loop-i.invariant
