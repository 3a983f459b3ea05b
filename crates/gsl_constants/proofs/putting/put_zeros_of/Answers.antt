use Rattle.std.proofs.Common.{◌≡◌, ◌++◌, replicate, subst, arith}
use Rattle.std.specs.Prelude.{OnOk}
use Rattle.gsl_constants.proofs.Put.{told_whole}
use Rattle.gsl_constants.proofs.putting.put_zeros_of.Goals as goal

pub returns : goal.returns
returns c =
    subst (λ n. OnOk c.put_zeros.result (c.put_zeros.new.words.items ≡ c.args.words.now.items ++ replicate n 0))
    (told_whole _ c.leaves-count.result c.leaves-count.ensures (omega (arith, c.if-count-ge-MOST.false))) c.put_zeros.ensures
