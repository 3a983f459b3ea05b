use Rattle.std.proofs.Common.{◌∙◌}
use Rattle.gsl_link_names.proofs.Tables.{put_row}
use Rattle.gsl_link_names.proofs.rows.put_named.Goals as goal

pub returns : goal.returns
returns c =
    put_row c.args.rows.now.entries c.taken_named.new.rows.entries c.insert.new.self.entries c.args.name.now c.in_ok-key.key c.in_ok-row.row c.push.new.self c.args.x c.in_ok-row.ensures.rows
    c.in_ok-row.ensures.row (c.in_ok-key.ensures ∙ c.as_str.ensures) c.in_ok-push.ensures.ok c.in_ok-insert.ensures.entries
