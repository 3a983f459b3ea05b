use Rattle.gsl_layout.specs.Layout.{members_of}
use Rattle.gsl_block_words.proofs.Seeing.{has_offset}
use Rattle.gsl_lower_types.specs.Laid as spec
use Rattle.gsl_lower_types.proofs.Layouts.{offsets_end, offsets_on}
use Rattle.gsl_lower_types.proofs.laid.offsets.Goals as goal

pub offset-requires : goal.offset-requires
offset-requires c = has_offset c.args.laid.now c.args.count c.loop-i.i c.requires c.loop-i-test.true

pub loop-i-preserved : goal.loop-i-preserved
loop-i-preserved c =
    offsets_on (members_of c.args.laid.now) c.loop-i.i c.offset.result c.args.id c.loop-i.b c.decorate.new.self (spec.offsets c.args.id 0 (members_of c.args.laid.now) c.args.b.now) c.offset.ensures c.in_ok-decorate.ensures.answer.1 c.loop-i.invariant

pub returns : goal.returns
returns c = offsets_end c.args.laid.now c.args.count c.loop-i.i c.args.id c.loop-i.b _ c.requires c.loop-i-test.false c.loop-i.invariant
