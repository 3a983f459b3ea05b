-- Items joined one by one are the first of each.
use Rattle.std.proofs.Common.{◌≡◌, refl, sym, ap, ◌∙◌, ℕ, Bool, true, false, cond, not, ◌||◌, ◌+◌, List, [], ◌∷◌, ◌++◌, map, append_assoc, append-nil}
use Rattle.std.specs.Prelude.{bytes_eq, flat_map}
use Rattle.std.specs.List.{list_any, position_or_len}
use Rattle.std.proofs.lemmas.List.Folds.{list_any-append}
use Rattle.std.specs.Cmp.Lexicographic.{bytes_decides}
use Rattle.indexmap.specs.IndexSet.{insert_key, insert_all}
use Rattle.gsl_tree.specs.declared.unit.Block.{Block}
use Rattle.gsl_tree.specs.declared.unit.Interface.{Interface}
use Rattle.gsl_tree.specs.declared.unit.Prototype.{Prototype}
use Rattle.gsl_link_units.specs.Declarations.{Side}
use Rattle.gsl_link_units.specs.Firsts.{firsts_behind, firsts}
use Rattle.gsl_link_units.specs.Agreement.{same_function}
use Rattle.gsl_link_whole.specs.Numbers.{same_block, same_interface, declared_blocks, joined_interfaces, joined_heads}
use Rattle.gsl_link_structs.specs.Keys.{head_words}
use Rattle.gsl_link_numbers.specs.Joining.{blocks_behind, interfaces_behind, heads_behind, block_names, interface_names, head_keys}
use Rattle.gsl_link_structs.proofs.Distinguished.{heads_tell}

all_append : {K : Type 0} (eq : K → K → Bool) (ks xs ys : List K) → insert_all eq ks (xs ++ ys) ≡ insert_all eq (insert_all eq ks xs) ys
all_append eq ks [] ys = refl
all_append eq ks (x ∷ xs) ys = all_append eq (insert_key eq ks x) xs ys

or_false : (b : Bool) → (b || false) ≡ b
or_false true = refl
or_false false = refl

or_same : (a b : Bool) → (b ≡ true → a ≡ true) → a ≡ (a || b)
or_same true b to = refl
or_same false true to = to refl
or_same false false to = refl

-- items of which two are alike where their keys are the same
module _ {A : Type 0} (alike : A → A → Bool) (key : A → List ℕ) (tells : (x y : A) → bytes_eq (key x) (key y) ≡ alike x y) (same_is : (k l : List ℕ) → bytes_eq k l ≡ true → k ≡ l) where
  -- whether one is like any of them is told by the keys
  pub any_key : (x : A) (items : List A) → list_any (bytes_eq (key x)) (map key items) ≡ list_any (alike x) items
  any_key x [] = refl
  any_key x (y ∷ items) = ap (λ b. b || list_any (bytes_eq (key x)) (map key items)) (tells x y) ∙ ap (λ b. alike x y || b) (any_key x items)

  pub place_of_key : (x : A) (items : List A) → position_or_len (bytes_eq (key x)) (map key items) ≡ position_or_len (alike x) items
  place_of_key x [] = refl
  place_of_key x (y ∷ items) =
      ap (λ b. cond (not b) (1 + position_or_len (bytes_eq (key x)) (map key items)) 0) (tells x y)
      ∙ ap (λ n. cond (not (alike x y)) (1 + n) 0) (place_of_key x items)

  -- those that stand before are like the same items as the first of each
  abbrev Seen : List A → List A → Type 0
  Seen found before = (x : A) → list_any (alike x) found ≡ list_any (alike x) before

  alike_as : (x y z : A) → alike x y ≡ true → alike x z ≡ alike y z
  alike_as x y z e = sym (tells x z) ∙ ap (λ k. bytes_eq k (key z)) (same_is (key x) (key y) (tells x y ∙ e)) ∙ tells y z

  any_as : (x y : A) (items : List A) → alike x y ≡ true → list_any (alike x) items ≡ list_any (alike y) items
  any_as x y [] e = refl
  any_as x y (z ∷ items) e = ap (λ b. b || list_any (alike x) items) (alike_as x y z e) ∙ ap (λ b. alike y z || b) (any_as x y items e)

  seen_more : (found before : List A) (y : A) → Seen found before → Seen (insert_key alike found y) (before ++ y ∷ [])
  seen_more found before y seen x = by_cases (list_any (alike y) found) refl ∙ sym (list_any-append (alike x) before (y ∷ []))
    where
      by_cases : (b : Bool) → list_any (alike y) found ≡ b → list_any (alike x) (cond b found (found ++ y ∷ [])) ≡ (list_any (alike x) before || (alike x y || false))
      by_cases true e =
          or_same (list_any (alike x) found) (alike x y) (λ same. any_as x y found same ∙ e)
          ∙ ap (λ b. b || alike x y) (seen x) ∙ ap (λ b. list_any (alike x) before || b) (sym (or_false (alike x y)))
      by_cases false e = list_any-append (alike x) found (y ∷ []) ∙ ap (λ b. b || (alike x y || false)) (seen x)

  firsts_from : (found before items : List A) → Seen found before → insert_all alike found items ≡ found ++ firsts_behind alike before items
  firsts_from found before [] seen = sym (append-nil found)
  firsts_from found before (y ∷ items) seen =
      by_cases (firsts_behind alike (before ++ y ∷ []) items) (list_any (alike y) found) (seen y) (firsts_from (insert_key alike found y) (before ++ y ∷ []) items (seen_more found before y seen))
    where
      by_cases : (rest : List A) (b : Bool) → b ≡ list_any (alike y) before
          → insert_all alike (cond b found (found ++ y ∷ [])) items ≡ cond b found (found ++ y ∷ []) ++ rest
          → insert_all alike (cond b found (found ++ y ∷ [])) items ≡ found ++ cond (list_any (alike y) before) rest (y ∷ rest)
      by_cases rest true e later = later ∙ ap (λ c. found ++ cond c rest (y ∷ rest)) e
      by_cases rest false e later = later ∙ append_assoc found (y ∷ []) rest ∙ ap (λ c. found ++ cond c rest (y ∷ rest)) e

  -- an item is put where its key is not among those of the others
  seen_new : (x : A) (word : List ℕ) (names : List (List ℕ)) (items : List A) (new : Bool) → word ≡ key x → names ≡ map key items → new ≡ not (list_any (bytes_eq word) names)
      → new ≡ not (list_any (alike x) items)
  seen_new x word names items new w are e = e ∙ ap (λ l. not (list_any (bytes_eq l) names)) w ∙ ap (λ ks. not (list_any (bytes_eq (key x)) ks)) are ∙ ap not (any_key x items)

  put_by : (x : A) (items : List A) (b new : Bool) → new ≡ not b → cond new (items ++ x ∷ []) items ≡ cond b items (items ++ x ∷ [])
  put_by x items true new e = ap (λ c. cond c (items ++ x ∷ []) items) e
  put_by x items false new e = ap (λ c. cond c (items ++ x ∷ []) items) e

  pub put_new : (x : A) (word : List ℕ) (names : List (List ℕ)) (items : List A) (new : Bool) → word ≡ key x → names ≡ map key items → new ≡ not (list_any (bytes_eq word) names)
      → new ≡ true → items ++ x ∷ [] ≡ insert_key alike items x
  put_new x word names items new w are e is = ap (λ c. cond c (items ++ x ∷ []) items) (sym is) ∙ put_by x items (list_any (alike x) items) new (seen_new x word names items new w are e)

  pub put_old : (x : A) (word : List ℕ) (names : List (List ℕ)) (items : List A) (new : Bool) → word ≡ key x → names ≡ map key items → new ≡ not (list_any (bytes_eq word) names)
      → new ≡ false → items ≡ insert_key alike items x
  put_old x word names items new w are e is = ap (λ c. cond c (items ++ x ∷ []) items) (sym is) ∙ put_by x items (list_any (alike x) items) new (seen_new x word names items new w are e)

  pub firsts_are : (items : List A) → insert_all alike [] items ≡ firsts alike items
  firsts_are items = firsts_from [] [] items (λ x. refl)

-- ---- of each kind

pub same_words : (k l : List ℕ) → bytes_eq k l ≡ true → k ≡ l
same_words k l = (bytes_decides k l).0

blocks_from : (blocks : List Block) (sides : List Side) → blocks_behind blocks sides ≡ insert_all same_block blocks (flat_map (λ (side : Side). side.unit.blocks) sides)
blocks_from blocks [] = refl
blocks_from blocks (side ∷ sides) =
    blocks_from (insert_all same_block blocks side.unit.blocks) sides
    ∙ sym (all_append same_block blocks side.unit.blocks (flat_map (λ (s : Side). s.unit.blocks) sides))

pub blocks_are : (sides : List Side) → blocks_behind [] sides ≡ declared_blocks sides
blocks_are sides = blocks_from [] sides ∙ firsts_are same_block (λ b. b.name) (λ x y. refl) same_words (flat_map (λ (side : Side). side.unit.blocks) sides)

interfaces_from : (interfaces : List Interface) (sides : List Side) → interfaces_behind interfaces sides ≡ insert_all same_interface interfaces (flat_map (λ (side : Side). side.unit.interfaces) sides)
interfaces_from interfaces [] = refl
interfaces_from interfaces (side ∷ sides) =
    interfaces_from (insert_all same_interface interfaces side.unit.interfaces) sides
    ∙ sym (all_append same_interface interfaces side.unit.interfaces (flat_map (λ (s : Side). s.unit.interfaces) sides))

pub interfaces_are : (sides : List Side) → interfaces_behind [] sides ≡ joined_interfaces sides
interfaces_are sides = interfaces_from [] sides ∙ firsts_are same_interface (λ i. i.name) (λ x y. refl) same_words (flat_map (λ (side : Side). side.unit.interfaces) sides)

heads_from : (heads : List Prototype) (sides : List Side) → heads_behind heads sides ≡ insert_all same_function heads (flat_map (λ (side : Side). side.unit.prototypes) sides)
heads_from heads [] = refl
heads_from heads (side ∷ sides) =
    heads_from (insert_all same_function heads side.unit.prototypes) sides
    ∙ sym (all_append same_function heads side.unit.prototypes (flat_map (λ (s : Side). s.unit.prototypes) sides))

pub heads_are : (sides : List Side) → heads_behind [] sides ≡ joined_heads sides
heads_are sides = heads_from [] sides ∙ firsts_are same_function head_words heads_tell same_words (flat_map (λ (side : Side). side.unit.prototypes) sides)

-- one more of each kind

pub interface_put : (x : Interface) (word : List ℕ) (names : List (List ℕ)) (items : List Interface) (new : Bool) → word ≡ x.name → names ≡ interface_names items
    → new ≡ not (list_any (bytes_eq word) names) → new ≡ true → items ++ x ∷ [] ≡ insert_key same_interface items x
interface_put = put_new same_interface (λ i. i.name) (λ x y. refl) same_words

pub interface_kept : (x : Interface) (word : List ℕ) (names : List (List ℕ)) (items : List Interface) (new : Bool) → word ≡ x.name → names ≡ interface_names items
    → new ≡ not (list_any (bytes_eq word) names) → new ≡ false → items ≡ insert_key same_interface items x
interface_kept = put_old same_interface (λ i. i.name) (λ x y. refl) same_words

pub block_put : (x : Block) (word : List ℕ) (names : List (List ℕ)) (items : List Block) (new : Bool) → word ≡ x.name → names ≡ block_names items
    → new ≡ not (list_any (bytes_eq word) names) → new ≡ true → items ++ x ∷ [] ≡ insert_key same_block items x
block_put = put_new same_block (λ b. b.name) (λ x y. refl) same_words

pub block_kept : (x : Block) (word : List ℕ) (names : List (List ℕ)) (items : List Block) (new : Bool) → word ≡ x.name → names ≡ block_names items
    → new ≡ not (list_any (bytes_eq word) names) → new ≡ false → items ≡ insert_key same_block items x
block_kept = put_old same_block (λ b. b.name) (λ x y. refl) same_words

pub head_put : (x : Prototype) (word : List ℕ) (keys : List (List ℕ)) (items : List Prototype) (new : Bool) → word ≡ head_words x → keys ≡ head_keys items
    → new ≡ not (list_any (bytes_eq word) keys) → new ≡ true → items ++ x ∷ [] ≡ insert_key same_function items x
head_put = put_new same_function head_words heads_tell same_words

pub head_kept : (x : Prototype) (word : List ℕ) (keys : List (List ℕ)) (items : List Prototype) (new : Bool) → word ≡ head_words x → keys ≡ head_keys items
    → new ≡ not (list_any (bytes_eq word) keys) → new ≡ false → items ≡ insert_key same_function items x
head_kept = put_old same_function head_words heads_tell same_words

-- ---- places

pub interface_place : (x : Interface) (items : List Interface) → position_or_len (bytes_eq x.name) (interface_names items) ≡ position_or_len (same_interface x) items
interface_place = place_of_key same_interface (λ i. i.name) (λ x y. refl) same_words

pub block_place : (x : Block) (items : List Block) → position_or_len (bytes_eq x.name) (block_names items) ≡ position_or_len (same_block x) items
block_place = place_of_key same_block (λ b. b.name) (λ x y. refl) same_words

pub head_place : (x : Prototype) (items : List Prototype) → position_or_len (bytes_eq (head_words x)) (head_keys items) ≡ position_or_len (same_function x) items
head_place = place_of_key same_function head_words heads_tell same_words
