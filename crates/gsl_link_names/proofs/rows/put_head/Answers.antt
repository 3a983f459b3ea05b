use Rattle.std.proofs.Common.{ap, ◌∙◌, ◌∷◌, ◌++◌, []}
use Rattle.gsl_link_structs.specs.Keys.{head_words}
use Rattle.gsl_link_names.proofs.Tables.{put_row}
use Rattle.gsl_link_names.proofs.rows.put_head.Goals as goal

pub returns : goal.returns
returns c =
    put_row c.args.rows.now.entries c.taken_heads.new.rows.entries c.insert.new.self.entries (head_words c.args.head.now) c.in_ok-key.key c.in_ok-row.row c.push.new.self c.args.head.now
    c.in_ok-row.ensures.rows c.in_ok-row.ensures.row c.in_ok-key.ensures (c.in_ok-push.ensures.ok ∙ ap (λ x. c.in_ok-row.row ++ x ∷ []) c.new.ensures) c.in_ok-insert.ensures.entries
