use Rattle.std.proofs.Common.{ℕ, ◌<◌, ◌≤◌, cond, length, ap, sym, ◌∙◌, arith}
use Rattle.std.specs.Prelude.{Ok, Err}
use Rattle.std.proofs.lemmas.Bool.{lt-ltb, le-ltb}
use Rattle.gsl_base.specs.declared.input.Buffer.{Buffer}
use Rattle.gsl_base.specs.declared.input.InputRefusal.TheVariants.{TooShort}
use Rattle.gsl_cmd.specs.Buffers.{word_offset}
use Rattle.gsl_cmd.specs.Needs.{Block, Met, given}
use Rattle.gsl_slow.proofs.Places.{none_at, some_at}
use Rattle.gsl_slow.proofs.shader.block_given.Goals as goal

abbrev block : ℕ → Block
block members = record { set = 0; binding = 0; need = word_offset members }

abbrev short : Met
short = Err (TooShort 0 0)

abbrev met : Met
met = Ok tt

pub returns-in-None : goal.returns-in-None
returns-in-None c = ap (given (block (length c.args.program.now.members))) (none_at 0 0 c.args.buffers.now c.in-None.ensures)

pub returns-then-len : goal.returns-then-len
returns-then-len c =
    let before = c.index-buffers-place.result in
    let lower : length before.bytes < word_offset (length c.args.program.now.members) = omega (arith, ap (λ (b : Buffer). length b.bytes) c.index-buffers-place.is) in
    sym (ap (λ b. cond b short met) (lt-ltb _ _ lower))
    ∙ ap (given (block (length c.args.program.now.members))) (some_at 0 0 c.in-Some.place c.args.buffers.now before c.in-Some.ensures c.index-buffers-place.is)

pub returns-else-len : goal.returns-else-len
returns-else-len c =
    let before = c.index-buffers-place.result in
    let enough : word_offset (length c.args.program.now.members) ≤ length before.bytes = omega (arith, ap (λ (b : Buffer). length b.bytes) c.index-buffers-place.is) in
    sym (ap (λ b. cond b short met) (le-ltb _ _ enough))
    ∙ ap (given (block (length c.args.program.now.members))) (some_at 0 0 c.in-Some.place c.args.buffers.now before c.in-Some.ensures c.index-buffers-place.is)
