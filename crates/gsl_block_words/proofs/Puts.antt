-- What is put into bytes, piece by piece.
use Rattle.std.proofs.Common.{◌≡◌, refl, sym, ap, ◌∙◌, ℕ, zero, suc, ◌+◌, ◌<◌, ◌≤◌, List, [], ◌∷◌, map, set, drop, length, get_or, slice_get, Some, arith}
use Rattle.std.proofs.lemmas.List.{drop_all}
use Rattle.std.proofs.lemmas.Option.{none-some, slice_get-get_or}
use Rattle.std.proofs.lemmas.Bool.{true≢false}
use Rattle.gsl_compute.proofs.Loops.{opened}
use Rattle.gsl_layout.specs.Kinds.{kind_of, part_count}
use Rattle.gsl_layout.specs.Layout.{Layout, Leaf, Array, Runtime, Group, Parts, End, Part, members_of, part_at, part_of, offset_at, stride_of}
use Rattle.gsl_layout.specs.declared.kind.Kind.TheVariants as kind
use Rattle.gsl_layout.proofs.Order.{layout_or, number_or}
use Rattle.gsl_views.specs.Buffers.{put_words}
use Rattle.gsl_views.specs.Viewed.{IsArray}
use Rattle.gsl_values.specs.declared.value.Value.{Value}
use Rattle.gsl_values.specs.declared.value.Value.TheVariants.{Word, Many, outs-Word, outs-Many}
use Rattle.gsl_tree.specs.Values.{components_in, components_layer, parts_in, word_in}
use Rattle.gsl_words.specs.Words.{put_word}
use Rattle.gsl_meaning.specs.Blocks.{put_members, put_row, put_value}
use Rattle.gsl_block_words.specs.Writing.{put_scalars, put_run, put_at, put_elements, put_parts, parts_from}
use Rattle.gsl_block_words.proofs.Seeing.{group_is, is_array, is_leaf}

pub item_at : (vs : List Value) (k : ℕ) (v : Value) → k < length vs → v ≡ get_or vs k v → slice_get vs k ≡ Some v
item_at vs k v below is = slice_get-get_or vs k v below ∙ ap Some (sym is)

-- ---- past the end

set_past : (bytes : List ℕ) (at byte : ℕ) → length bytes ≤ at → set bytes at byte ≡ bytes
set_past [] zero byte past = refl
set_past [] (suc at) byte past = refl
set_past (b ∷ bytes) zero byte past = let never : ⊥ = omega (arith, past) in elim never [ ]
set_past (b ∷ bytes) (suc at) byte past = ap (λ l. b ∷ l) (set_past bytes at byte (omega (arith, past)))

word_past : (bytes : List ℕ) (at word : ℕ) → length bytes ≤ at → put_word bytes at word ≡ bytes
unfolding put_word
word_past bytes at word past = rw (set_past bytes at _ past, set_past bytes (at + 1) _ (omega (arith, past)), set_past bytes (at + 2) _ (omega (arith, past)), set_past bytes (at + 3) _ (omega (arith, past))) refl

words_past : (words : List ℕ) (at : ℕ) (bytes : List ℕ) → length bytes ≤ at → put_words at words bytes ≡ bytes
words_past [] at bytes past = refl
words_past (word ∷ words) at bytes past = ap (put_words (at + 4) words) (word_past bytes at word past) ∙ words_past words (at + 4) bytes (omega (arith, past))

row_past : (put : ℕ → Value → List ℕ → List ℕ) → ((at : ℕ) (v : Value) (bytes : List ℕ) → length bytes ≤ at → put at v bytes ≡ bytes)
    → (stride at : ℕ) (vs : List Value) (bytes : List ℕ) → length bytes ≤ at → put_row put stride at vs bytes ≡ bytes
row_past put same stride at [] bytes past = refl
row_past put same stride at (v ∷ vs) bytes past = ap (put_row put stride (at + stride) vs) (same at v bytes past) ∙ row_past put same stride (at + stride) vs bytes (omega (arith, past))

mutual
  value_past : (l : Layout) (at : ℕ) (v : Value) (bytes : List ℕ) → length bytes ≤ at → put_value l at v bytes ≡ bytes
  value_past (Leaf components) at v bytes past = words_past (components_in v) at bytes past
  value_past (Array stride count element) at v bytes past = row_past (λ place w rest. put_value element place w rest) (value_past element) stride at (parts_in v) bytes past
  value_past (Runtime stride element) at v bytes past = row_past (λ place w rest. put_value element place w rest) (value_past element) stride at (parts_in v) bytes past
  value_past (Group members all) at v bytes past = members_past members at (parts_in v) bytes past

  members_past : (members : Parts) (at : ℕ) (vs : List Value) (bytes : List ℕ) → length bytes ≤ at → put_members members at vs bytes ≡ bytes
  members_past End at vs bytes past = refl
  members_past (Part offset layout rest) at [] bytes past = refl
  members_past (Part offset layout rest) at (v ∷ vs) bytes past = ap (put_members rest at vs) (value_past layout (at + offset) v bytes (omega (arith, past))) ∙ members_past rest at vs bytes past

pub nothing_put : (l : Layout) (at : ℕ) (v : Value) (bytes : List ℕ) → length bytes ≤ at → bytes ≡ put_at l at v bytes
unfolding put_at
nothing_put l at v bytes past = sym (value_past l at v bytes past)

-- ---- runs

pub scalars_on : (vs : List Value) (k at : ℕ) (v : Value) (word : ℕ) (bytes new whole : List ℕ) → slice_get vs k ≡ Some v → word ≡ word_in v → new ≡ put_word bytes at word
    → put_scalars at (drop k vs) bytes ≡ whole → put_scalars (at + 4) (drop (k + 1) vs) new ≡ whole
unfolding put_scalars
scalars_on vs k at v word bytes new whole found told is same =
    ap (λ b. put_words (at + 4) (map word_in (drop (k + 1) vs)) b) (is ∙ ap (put_word bytes at) told) ∙ sym (ap (λ l. put_words at (map word_in l) bytes) (opened vs k v found)) ∙ same

pub scalars_stop : (vs : List Value) (k at : ℕ) (bytes whole : List ℕ) → length bytes ≤ at → put_scalars at (drop k vs) bytes ≡ whole → bytes ≡ whole
unfolding put_scalars
scalars_stop vs k at bytes whole past same = sym (words_past (map word_in (drop k vs)) at bytes past) ∙ same

pub word_put : (v : Value) (w at : ℕ) (bytes new : List ℕ) → v ≡ Word w → new ≡ put_word bytes at w → new ≡ put_run at v bytes
unfolding put_run
word_put v w at bytes new is put = put ∙ sym (ap (λ (x : Value). put_words at (components_in x) bytes) is ∙ ap (λ l. put_words at (components_layer l) bytes) (outs-Word w))

pub many_put : (v : Value) (parts items : List Value) (at : ℕ) (bytes new : List ℕ) → v ≡ Many parts → items ≡ parts → new ≡ put_scalars at items bytes → new ≡ put_run at v bytes
unfolding put_run put_scalars
many_put v parts items at bytes new is same put =
    put ∙ ap (λ l. put_words at (map word_in l) bytes) same ∙ sym (ap (λ (x : Value). put_words at (components_in x) bytes) is ∙ ap (λ l. put_words at (components_layer l) bytes) (outs-Many parts))

pub scalars_end : (vs : List Value) (k at : ℕ) (bytes whole : List ℕ) → length vs ≤ k → put_scalars at (drop k vs) bytes ≡ whole → bytes ≡ whole
unfolding put_scalars
scalars_end vs k at bytes whole past same = sym (ap (λ l. put_words at (map word_in l) bytes) (drop_all k vs past)) ∙ same

-- ---- elements

pub elements_put : (e : Layout) (vs : List Value) (s k at : ℕ) (v : Value) (bytes new whole : List ℕ) → slice_get vs k ≡ Some v → new ≡ put_at e at v bytes
    → put_elements e s at (drop k vs) bytes ≡ whole → put_elements e s (at + s) (drop (k + 1) vs) new ≡ whole
unfolding put_elements put_at
elements_put e vs s k at v bytes new whole found is same =
    ap (put_row (λ place w rest. put_value e place w rest) s (at + s) (drop (k + 1) vs)) is ∙ sym (ap (λ l. put_row (λ place w rest. put_value e place w rest) s at l bytes) (opened vs k v found)) ∙ same

pub elements_stop : (e : Layout) (vs : List Value) (s k at : ℕ) (bytes whole : List ℕ) → length bytes ≤ at → put_elements e s at (drop k vs) bytes ≡ whole → bytes ≡ whole
unfolding put_elements
elements_stop e vs s k at bytes whole past same = sym (row_past (λ place w rest. put_value e place w rest) (value_past e) s at (drop k vs) bytes past) ∙ same

pub elements_end : (e : Layout) (vs : List Value) (s k at : ℕ) (bytes whole : List ℕ) → length vs ≤ k → put_elements e s at (drop k vs) bytes ≡ whole → bytes ≡ whole
unfolding put_elements
elements_end e vs s k at bytes whole past same = sym (ap (λ l. put_row (λ place w rest. put_value e place w rest) s at l bytes) (drop_all k vs past)) ∙ same

-- ---- members

pub opened_part : (parts : Parts) (i o : ℕ) (m : Layout) → part_at parts i ≡ Some m → offset_at parts i ≡ Some o → parts_from i parts ≡ Part o m (parts_from (suc i) parts)
opened_part End i o m part offset = let never : ⊥ = none-some _ part in elim never [ ]
opened_part (Part p l rest) zero o m part offset = ap (λ n. Part n l rest) (ap (number_or o) offset) ∙ ap (λ x. Part o x rest) (ap (layout_or m) part)
opened_part (Part p l rest) (suc i) o m part offset = opened_part rest i o m part offset

pub all_parts : (parts : Parts) (i : ℕ) → part_count parts ≤ i → parts_from i parts ≡ End
all_parts End zero past = refl
all_parts End (suc i) past = refl
all_parts (Part p l rest) zero past = let never : ⊥ = omega (arith, past) in elim never [ ]
all_parts (Part p l rest) (suc i) past = all_parts rest i (omega (arith, past))

no_values : (parts : Parts) (at : ℕ) (bytes : List ℕ) → put_members parts at [] bytes ≡ bytes
no_values End at bytes = refl
no_values (Part p l rest) at bytes = refl

pub members_put : (l m : Layout) (vs : List Value) (n i o at : ℕ) (v : Value) (bytes new whole : List ℕ) → kind_of l ≡ kind.Group n → part_of l i ≡ Some m → offset_at (members_of l) i ≡ Some o
    → slice_get vs i ≡ Some v → new ≡ put_at m (at + o) v bytes
    → put_parts (parts_from i (members_of l)) at (drop i vs) bytes ≡ whole → put_parts (parts_from (i + 1) (members_of l)) at (drop (i + 1) vs) new ≡ whole
unfolding put_parts put_at
members_put l m vs n i o at v bytes new whole group part offset found is same =
    ap (put_members (parts_from (i + 1) (members_of l)) at (drop (i + 1) vs)) is
    ∙ ap (λ k. put_members (parts_from k (members_of l)) at (drop (i + 1) vs) (put_value m (at + o) v bytes)) (let e : i + 1 ≡ suc i = omega arith in e)
    ∙ sym (ap (λ p. put_members p at (drop i vs) bytes) (opened_part (members_of l) i o m (sym ((group_is l n group).parts i) ∙ part) offset)
    ∙ ap (λ w. put_members (Part o m (parts_from (suc i) (members_of l))) at w bytes) (opened vs i v found))
    ∙ same

pub members_stop : (l : Layout) (vs : List Value) (i at : ℕ) (bytes whole : List ℕ) → length vs ≤ i → put_parts (parts_from i (members_of l)) at (drop i vs) bytes ≡ whole → bytes ≡ whole
unfolding put_parts
members_stop l vs i at bytes whole past same = sym (ap (λ w. put_members (parts_from i (members_of l)) at w bytes) (drop_all i vs past) ∙ no_values (parts_from i (members_of l)) at bytes) ∙ same

pub members_end : (l : Layout) (vs : List Value) (n i at : ℕ) (bytes whole : List ℕ) → kind_of l ≡ kind.Group n → n ≤ i → put_parts (parts_from i (members_of l)) at (drop i vs) bytes ≡ whole → bytes ≡ whole
unfolding put_parts
members_end l vs n i at bytes whole group past same =
    sym (ap (λ p. put_members p at (drop i vs) bytes) (all_parts (members_of l) i (omega (arith, past, (group_is l n group).counted)))) ∙ same

-- ---- by what stands at the top

pub leaf_put : (l : Layout) (n at : ℕ) (v : Value) (bytes new : List ℕ) → kind_of l ≡ kind.Leaf n → new ≡ put_run at v bytes → new ≡ put_at l at v bytes
unfolding put_at put_run
leaf_put (Leaf components) n at v bytes new is put = put
leaf_put (Array stride count element) n at v bytes new is put = let never : ⊥ = true≢false (sym (ap is_leaf is)) in elim never [ ]
leaf_put (Runtime stride element) n at v bytes new is put = let never : ⊥ = true≢false (sym (ap is_leaf is)) in elim never [ ]
leaf_put (Group members all) n at v bytes new is put = let never : ⊥ = true≢false (sym (ap is_leaf is)) in elim never [ ]

pub array_put : (l e : Layout) (s at : ℕ) (v : Value) (bytes new : List ℕ) → IsArray l → stride_of l ≡ Some s → part_of l 0 ≡ Some e → new ≡ put_elements e s at (parts_in v) bytes → new ≡ put_at l at v bytes
unfolding put_at put_elements
array_put (Leaf components) e s at v bytes new is strided part put = elim is [ ]
array_put (Array stride count element) e s at v bytes new is strided part put =
    put ∙ ap (λ k. put_row (λ place w rest. put_value e place w rest) k at (parts_in v) bytes) (sym (ap (number_or s) strided))
    ∙ ap (λ m. put_row (λ place w rest. put_value m place w rest) stride at (parts_in v) bytes) (sym (ap (layout_or e) part))
array_put (Runtime stride element) e s at v bytes new is strided part put =
    put ∙ ap (λ k. put_row (λ place w rest. put_value e place w rest) k at (parts_in v) bytes) (sym (ap (number_or s) strided))
    ∙ ap (λ m. put_row (λ place w rest. put_value m place w rest) stride at (parts_in v) bytes) (sym (ap (layout_or e) part))
array_put (Group members all) e s at v bytes new is strided part put = elim is [ ]

pub group_put : (l : Layout) (n at : ℕ) (v : Value) (bytes new : List ℕ) → kind_of l ≡ kind.Group n → new ≡ put_parts (members_of l) at (parts_in v) bytes → new ≡ put_at l at v bytes
unfolding put_at put_parts
group_put (Leaf components) n at v bytes new is put = let never : ⊥ = true≢false (ap is_leaf is) in elim never [ ]
group_put (Array stride count element) n at v bytes new is put = let never : ⊥ = true≢false (ap is_array is) in elim never [ ]
group_put (Runtime stride element) n at v bytes new is put = let never : ⊥ = true≢false (ap is_array is) in elim never [ ]
group_put (Group members all) n at v bytes new is put = put
