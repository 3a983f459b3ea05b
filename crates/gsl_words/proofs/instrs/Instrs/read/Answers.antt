use Rattle.std.proofs.Common.{sym, subst, ap, ◌∙◌}
use Rattle.std.specs.Prelude.{All}
use Rattle.std.specs.List.{flat_map}
use Rattle.gsl_words.specs.Bytes.{instr_words}
use Rattle.gsl_words.specs.Instructions.{IsInTable}
use Rattle.gsl_words.specs.Faults.{AreRead}
use Rattle.gsl_words.proofs.Found.{flat_read, Flat}
use Rattle.gsl_words.proofs.instrs.Instrs.read.Goals as goal

read_of : (c : goal.After-into_vec) → Flat c.args.words.items c.into_vec.result.items
read_of c =
    flat_read c.args.words.items c.into_vec.result.items
    (subst (λ starts. AreRead c.args.words.items starts) (sym c.into_vec.ensures) (subst (λ words. AreRead words c.in_ok-starts.starts) c.as_slice.ensures.value c.in_ok-starts.ensures.ok))

pub invariant_of-result : goal.invariant_of-result
invariant_of-result c = (read_of c).flat

pub returns-clause-ok : goal.returns-clause-ok
returns-clause-ok c =
    let f = read_of c in
    (subst (λ code. All IsInTable code) (sym f.view) f.whole, f.words_are ∙ ap (flat_map instr_words) (sym f.view), f.flat.ops)
