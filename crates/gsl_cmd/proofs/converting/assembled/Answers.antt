use Rattle.std.proofs.Common.{◌++◌, Ok, Err, refl, ap, ◌∙◌}
use Rattle.gsl_words.specs.Bytes.{bytes_of}
use Rattle.gsl_cmd.specs.Converting.{Assembles}
use Rattle.gsl_cmd.specs.Texts.{line_text}
use Rattle.gsl_cmd.proofs.Conversions.{told_gives}
use Rattle.gsl_cmd.proofs.converting.assembled.Goals as goal

pub returns-in-Ok-encode : goal.returns-in-Ok-encode
returns-in-Ok-encode c =
    (Ok c.in-Ok.module, c.in-Ok.ensures.text, ap Ok (c.in-Ok-encode.ensures.ok ∙ ap (λ l. l ++ bytes_of c.in-Ok.module) c.new-file.ensures))

pub returns-in-Err-Line : goal.returns-in-Err-Line
returns-in-Err-Line c =
    told_gives (Assembles c.args.name.now c.args.bytes.now) c.line_text.result (line_text c.args.name.now c.in-Err-Line.line) c.told.result
    (Err c.in-Err-Line.line, (rw c.in-Err-Line.field-0-is at c.in-Err-Line.ensures.text), refl) c.line_text.ensures c.told.ensures
