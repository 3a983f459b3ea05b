use Rattle.std.proofs.Common.{◌∙◌, ◌+◌, ◌*◌, sym, ap, Some}
use Rattle.gsl_views.proofs.Parts.{component_seen}
use Rattle.gsl_views.proofs.Words.{word_is}
use Rattle.gsl_views.proofs.view_mut.ViewMut.read_word.Goals as goal

pub returns : goal.returns
returns c =
    let view = c.args.self.now in
    component_seen view.laid.now view.start view.bytes.now c.args.c c.requires
    ∙ ap Some (word_is view.bytes.now (view.start + 4 * c.args.c) ∙ sym c.from_le_bytes.ensures)
