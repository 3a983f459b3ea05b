use Rattle.std.proofs.Common.{arith, ap, length}
use Rattle.gsl_valid.specs.Placed.{header_size}
use Rattle.gsl_ids.proofs.Places.{all_words, each_short}
use Rattle.gsl_ids.proofs.each.count_of_words.Goals as goal

pub words-requires : goal.words-requires
words-requires c = each_short c.args.of.now.instrs c.requires.file.instrs

pub overflow_cast-result : goal.overflow_cast-result
overflow_cast-result c = let e = ap length c.words.ensures in omega (arith, e, all_words header_size c.args.of.now.instrs, c.requires.words)

pub overflow_add-result : goal.overflow_add-result
overflow_add-result c = let e = ap length c.words.ensures in omega (arith, e, all_words header_size c.args.of.now.instrs, c.requires.words)

pub returns : goal.returns
returns c = let e = ap length c.words.ensures in omega (arith, e, all_words header_size c.args.of.now.instrs)
