use Rattle.std.proofs.Common.{◌+◌, ◌<◌, ◌∷◌, get_or, drop, sym, ap, ◌∙◌, arith}
use Rattle.gsl_lex.specs.Lines.{end_len, text_from}
use Rattle.gsl_lex.proofs.Lines.{text_empty, text_first, text_end, on, drop_rest}
use Rattle.gsl_lex.proofs.text.first_at.Goals as goal

pub returns-in_default : goal.returns-in_default
returns-in_default c = text_empty c.args.line c.args.bytes.now c.in_default.len_below

pub returns-in-0 : goal.returns-in-0
returns-in-0 c = (
  text_first c.args.line c.args.bytes.now c.in-len1-up.len_at_least c.requires.first (sym c.end_len.ensures.value ∙ c.in-0.is)
      ∙ ap (λ rest. on c.args.line (get_or c.args.bytes.now 0 0) ∷ rest) (ap (text_from c.args.line) (drop_rest 1 c.args.bytes.now) ∙ sym c.at.ensures),
  omega (arith, c.requires.room, c.in-len1-up.len_at_least),
)

pub returns-in_default-end_len : goal.returns-in_default-end_len
returns-in_default-end_len c =
    let some : 0 < end_len c.args.bytes.now = omega (arith, c.end_len.ensures.value) in (
      text_end c.args.line c.args.bytes.now some
          ∙ ap (λ rest. on c.args.line 10 ∷ rest)
          (ap (λ n. text_from (c.args.line + 1) (drop n c.args.bytes.now)) (sym c.end_len.ensures.value) ∙ ap (text_from (c.args.line + 1)) (drop_rest c.end_len.result c.args.bytes.now) ∙ sym c.at-in_default-end_len.ensures),
      omega (arith, c.requires.room, c.in-len1-up.len_at_least),
    )
