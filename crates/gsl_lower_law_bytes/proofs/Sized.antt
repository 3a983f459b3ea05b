-- What is put into bytes leaves them as long as they were.
use Rattle.std.proofs.Common.{◌≡◌, refl, ◌∙◌, ℕ, ◌+◌, List, [], ◌∷◌, length}
use Rattle.gsl_layout.specs.Layout.{Layout, Leaf, Array, Runtime, Group, Parts, End, Part}
use Rattle.gsl_words.specs.Words.{put_word}
use Rattle.gsl_words.proofs.Bytes.{put-length}
use Rattle.gsl_values.specs.declared.value.Value.{Value}
use Rattle.gsl_tree.specs.Values.{components_in, parts_in}
use Rattle.gsl_views.specs.Buffers.{put_words}
use Rattle.gsl_meaning.specs.Blocks.{put_members, put_row, put_value}

pub words_length : (at : ℕ) (words bytes : List ℕ) → length (put_words at words bytes) ≡ length bytes
words_length at [] bytes = refl
words_length at (word ∷ words) bytes = words_length (at + 4) words (put_word bytes at word) ∙ put-length bytes at word

pub row_length : (put : ℕ → Value → List ℕ → List ℕ) → ((at : ℕ) (v : Value) (bytes : List ℕ) → length (put at v bytes) ≡ length bytes) → (stride at : ℕ) (vs : List Value) (bytes : List ℕ) → length (put_row put stride at vs bytes) ≡ length bytes
row_length put same stride at [] bytes = refl
row_length put same stride at (v ∷ vs) bytes = row_length put same stride (at + stride) vs (put at v bytes) ∙ same at v bytes

mutual
  pub value_length : (l : Layout) (at : ℕ) (v : Value) (bytes : List ℕ) → length (put_value l at v bytes) ≡ length bytes
  value_length (Leaf components) at v bytes = words_length at (components_in v) bytes
  value_length (Array stride count element) at v bytes = row_length (λ at v bytes. put_value element at v bytes) (λ at v bytes. value_length element at v bytes) stride at (parts_in v) bytes
  value_length (Runtime stride element) at v bytes = row_length (λ at v bytes. put_value element at v bytes) (λ at v bytes. value_length element at v bytes) stride at (parts_in v) bytes
  value_length (Group members all) at v bytes = members_length members at (parts_in v) bytes

  pub members_length : (members : Parts) (at : ℕ) (vs : List Value) (bytes : List ℕ) → length (put_members members at vs bytes) ≡ length bytes
  members_length End at vs bytes = refl
  members_length (Part offset l rest) at [] bytes = refl
  members_length (Part offset l rest) at (v ∷ vs) bytes = members_length rest at vs (put_value l (at + offset) v bytes) ∙ value_length l (at + offset) v bytes
