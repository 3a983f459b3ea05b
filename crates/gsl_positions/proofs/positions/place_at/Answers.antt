use Rattle.std.proofs.Common.{◌∙◌, ◌≡◌, ap, arith, take}
use Rattle.gsl_positions.specs.Positions.{place_of}
use Rattle.gsl_valid.specs.Placed.{header_size, words_from}
use Rattle.gsl_positions.proofs.Standing.{next_place}
use Rattle.gsl_positions.proofs.positions.place_at.Goals as goal

pub overflow_cast-place : goal.overflow_cast-place
overflow_cast-place c = let n = next_place c.args.of.now c.loop-k.k c.args-in-loop-k.result.now c.args-in-loop-k.ensures c.requires.words in omega (arith, n.1)

pub overflow_add-place : goal.overflow_add-place
overflow_add-place c = let n = next_place c.args.of.now c.loop-k.k c.args-in-loop-k.result.now c.args-in-loop-k.ensures c.requires.words in omega (arith, n.1)

pub overflow_add-place-in-loop-k : goal.overflow_add-place-in-loop-k
overflow_add-place-in-loop-k c = let n = next_place c.args.of.now c.loop-k.k c.args-in-loop-k.result.now c.args-in-loop-k.ensures c.requires.words in omega (arith, n.1, c.loop-k.invariant)

pub loop-k-preserved : goal.loop-k-preserved
loop-k-preserved c = let n = next_place c.args.of.now c.loop-k.k c.args-in-loop-k.result.now c.args-in-loop-k.ensures c.requires.words in omega (arith, n.0, c.loop-k.invariant)

pub returns : goal.returns
unfolding place_of
returns c =
    let all : c.loop-k.k ≡ c.args.at = omega arith in
    c.loop-k.invariant ∙ ap (λ n. words_from header_size (take n c.args.of.now.instrs)) all
