use Rattle.std.proofs.Common.{◌≡◌, ◌∙◌, ◌+◌, ◌*◌, ◌/◌, ◌%◌, ◌∷◌, [], List, ℕ, refl, ap, set, get_or}
use Rattle.gsl_words.specs.Words.{put_word}
use Rattle.gsl_views.proofs.view_mut.ViewMut.write_word.Goals as goal

abbrev four_set : List ℕ → ℕ → List ℕ → List ℕ
four_set bytes at four = set (set (set (set bytes at (get_or four 0 0)) (at + 1) (get_or four 1 0)) (at + 2) (get_or four 2 0)) (at + 3) (get_or four 3 0)

put_is : (bytes : List ℕ) (at word : ℕ) → four_set bytes at (word % 256 ∷ word / 256 % 256 ∷ word / 65536 % 256 ∷ word / 16777216 % 256 ∷ []) ≡ put_word bytes at word
unfolding put_word
put_is bytes at word = refl

pub returns-clause-bytes : goal.returns-clause-bytes
returns-clause-bytes c =
    let view = c.args.self.now in
    ap (four_set view.bytes.now (view.start + 4 * c.args.c)) c.to_le_bytes.ensures ∙ put_is view.bytes.now (view.start + 4 * c.args.c) c.args.word
