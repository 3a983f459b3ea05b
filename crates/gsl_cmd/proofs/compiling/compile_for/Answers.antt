use Rattle.std.proofs.Common.{subst, sym, ◌∙◌, ap}
use Rattle.gsl_words.specs.Bytes.{bytes_of}
use Rattle.gsl_words.specs.Instructions.{HasFile}
use Rattle.gsl_cmd.proofs.Compiled.{compiled, uncompiled}
use Rattle.gsl_cmd.proofs.compiling.compile_for.Goals as goal

pub file_of-requires : goal.file_of-requires
file_of-requires c = subst HasFile (sym c.module.ensures.is) c.module.ensures.valid.file

pub returns-in-Ok-file_of : goal.returns-in-Ok-file_of
returns-in-Ok-file_of c = compiled c.args.target c.args.stage c.args.sources.now c.in-Ok.valid c.in-Ok-file_of.bytes c.in-Ok.ensures (c.in-Ok-file_of.ensures ∙ ap bytes_of c.module.ensures.is)

pub returns : goal.returns
returns c = uncompiled c.args.target c.args.stage c.args.sources.now c.in-Err.refusal c.in-Err.ensures
