-- A part of a value among the words of the value.
use Rattle.std.proofs.Common.{◌≡◌, refl, sym, ap, ◌∙◌, subst, ℕ, zero, suc, ◌+◌, ◌<◌, ◌≤◌, List, [], ◌∷◌, ◌++◌, length, take, drop, set, slice_get, slice_index_or, Some, append_assoc, append-nil, length-append, arith}
use Rattle.std.proofs.Math.Seq.{take-append_seam, drop-append_seam}
use Rattle.std.proofs.lemmas.List.{take-append-drop}
use Rattle.std.proofs.lemmas.List.Concat.{flat_map-append}
use Rattle.std.proofs.lemmas.List.Folds.{flat_map-map}
use Rattle.std.proofs.lemmas.Option.{none-some}
use Rattle.gsl_values.specs.declared.value.Value.{Value}
use Rattle.gsl_values.specs.declared.value.Value.TheOpen.{Value-F}
use Rattle.gsl_values.specs.declared.value.Value.TheViews.{out-Value, roll-Value, roll-out-Value}
use Rattle.gsl_values.specs.declared.value.Value.TheFolds.{fold-roll-Value}
use Rattle.gsl_values.specs.declared.value.Value.TheVariants.{Word, Many, rolls-Many, rolls-Word}
use Rattle.gsl_tree.specs.Operations.{member_value, value_at, with_value_at}
use Rattle.gsl_tree.specs.Values.{parts_in, parts_layer}
use Rattle.gsl_region.specs.Flat.{flat, flat_all, flat_layer}
use Rattle.gsl_region.specs.Places.{LeadsIn, in_front, place}
use Rattle.gsl_region.specs.Showing.{Shows, with_words}

-- ---- the words of a value by its parts

pub flat_word : (word : ℕ) → flat (Word word) ≡ word ∷ []
unfolding flat
flat_word word = ap flat (sym (rolls-Word word)) ∙ fold-roll-Value (List ℕ) flat_layer (Value-F.Word word)

pub flat_many : (vs : List Value) → flat (Many vs) ≡ flat_all vs
unfolding flat
flat_many vs = ap flat (sym (rolls-Many vs)) ∙ fold-roll-Value (List ℕ) flat_layer (Value-F.Many vs) ∙ flat_map-map (λ words. words) flat vs

by_layer : (v : Value) (layer : Value-F Value) → roll-Value layer ≡ v → 0 < length (parts_layer layer) → flat v ≡ flat_all (parts_layer layer)
by_layer v (Value-F.Word word) is some = absurd (omega (arith, some))
by_layer v (Value-F.Many vs) is some = ap flat (sym is ∙ rolls-Many vs) ∙ flat_many vs

pub flat_parts : (v : Value) → 0 < length (parts_in v) → flat v ≡ flat_all (parts_in v)
flat_parts v some = by_layer v (out-Value v) (roll-out-Value v) some

-- ---- one of some values

pub flat_split : (vs : List Value) (k : ℕ) (d : Value) → k < length vs → flat_all vs ≡ flat_all (take k vs) ++ (flat (slice_index_or vs k d) ++ flat_all (drop (suc k) vs))
flat_split [] k d below = absurd (omega (arith, below))
flat_split (v ∷ vs) zero d below = refl
flat_split (v ∷ vs) (suc k) d below = ap (λ l. flat v ++ l) (flat_split vs k d (omega (arith, below))) ∙ sym (append_assoc (flat v) (flat_all (take k vs)) _)

pub flat_set : (vs : List Value) (k : ℕ) (new : Value) → k < length vs → flat_all (set vs k new) ≡ flat_all (take k vs) ++ (flat new ++ flat_all (drop (suc k) vs))
flat_set [] k new below = absurd (omega (arith, below))
flat_set (v ∷ vs) zero new below = refl
flat_set (v ∷ vs) (suc k) new below = ap (λ l. flat v ++ l) (flat_set vs k new (omega (arith, below))) ∙ sym (append_assoc (flat v) (flat_all (take k vs)) _)

-- ---- a part at the end of a path

-- A path leads to a part, whose words stand behind so many others; with another in its place all else is as before.
pub record Focus (v : Value) (path : List ℕ) : Type 0 where
  pub front : List ℕ
  pub behind : List ℕ
  pub at : length front ≡ in_front v path
  pub is : flat v ≡ front ++ (flat (value_at v path) ++ behind)
  pub put : (new : Value) → flat (with_value_at v path new) ≡ front ++ (flat new ++ behind)

wrapped : (a front part behind c : List ℕ) → a ++ ((front ++ (part ++ behind)) ++ c) ≡ (a ++ front) ++ (part ++ (behind ++ c))
wrapped a front part behind c = simp append_assoc

pub focus : (v : Value) (path : List ℕ) → LeadsIn v path → Focus v path
unfolding in_front
focus v [] leads = record { front = []; behind = []; at = refl; is = sym (append-nil (flat v)); put = λ new. sym (append-nil (flat new)) }
focus v (k ∷ path) leads =
    let inner : Focus (member_value v k) path = focus (member_value v k) path leads.1 in
    let before = flat_all (take k (parts_in v)) in
    let after = flat_all (drop (suc k) (parts_in v)) in
    record {
      front = before ++ inner.front;
      behind = inner.behind ++ after;
      at = omega (arith, length-append before inner.front, inner.at);
      is = flat_parts v (omega (arith, leads.0)) ∙ flat_split (parts_in v) k (Word 0) leads.0 ∙ ap (λ l. before ++ (l ++ after)) inner.is ∙ wrapped before inner.front _ inner.behind after;
      put = λ new. flat_many (set (parts_in v) k (with_value_at (member_value v k) path new)) ∙ flat_set (parts_in v) k _ leads.0 ∙ ap (λ l. before ++ (l ++ after)) (inner.put new) ∙ wrapped before inner.front _ inner.behind after;
    }

-- ---- a part of a variable

-- The same among the words of all variables.
pub record Stands (variables : List Value) (number : ℕ) (v : Value) (path : List ℕ) : Type 0 where
  pub front : List ℕ
  pub behind : List ℕ
  pub at : length front ≡ place variables number path
  pub is : flat_all variables ≡ front ++ (flat (value_at v path) ++ behind)
  pub put : (new : Value) → flat_all (set variables number (with_value_at v path new)) ≡ front ++ (flat new ++ behind)

found_at : (vs : List Value) (k : ℕ) (v d : Value) → slice_get vs k ≡ Some v → (k < length vs) × (slice_index_or vs k d ≡ v)
found_at [] k v d is = absurd (none-some v is)
found_at (w ∷ vs) zero v d is = (omega arith, cc)
found_at (w ∷ vs) (suc k) v d is = let more = found_at vs k v d is in (omega (arith, more.0), more.1)

pub stands : (variables : List Value) (number : ℕ) (v : Value) (path : List ℕ) → slice_get variables number ≡ Some v → LeadsIn v path → Stands variables number v path
stands variables number v path is leads =
    let at = found_at variables number v (Word 0) is in
    let f : Focus v path = focus v path leads in
    let before = flat_all (take number variables) in
    let after = flat_all (drop (suc number) variables) in
    record {
      front = before ++ f.front;
      behind = f.behind ++ after;
      at = omega (arith, length-append before f.front, f.at, ap (λ w. in_front w path) at.1);
      is = flat_split variables number (Word 0) at.0 ∙ ap (λ w. before ++ (flat w ++ after)) at.1 ∙ ap (λ l. before ++ (l ++ after)) f.is ∙ wrapped before f.front _ f.behind after;
      put = λ new. flat_set variables number _ at.0 ∙ ap (λ l. before ++ (l ++ after)) (f.put new) ∙ wrapped before f.front _ f.behind after;
    }

-- ---- words among others

pub middle : (front part behind : List ℕ) (p n : ℕ) → length front ≡ p → length part ≡ n → take n (drop p (front ++ (part ++ behind))) ≡ part
middle front part behind p n at many =
    subst (λ k. take n (drop k (front ++ (part ++ behind))) ≡ part) at
    (subst (λ k. take k (drop (length front) (front ++ (part ++ behind))) ≡ part) many
    (ap (take (length part)) (drop-append_seam front (part ++ behind)) ∙ take-append_seam part behind))

pub put_middle : (front part behind new : List ℕ) (p : ℕ) → length front ≡ p → length new ≡ length part → with_words (front ++ (part ++ behind)) p new ≡ front ++ (new ++ behind)
put_middle front part behind new p at many =
    subst (λ k. with_words (front ++ (part ++ behind)) k new ≡ front ++ (new ++ behind)) at
    (ap (λ l. l ++ (new ++ drop (length front + length new) (front ++ (part ++ behind)))) (take-append_seam front (part ++ behind))
    ∙ ap (λ l. front ++ (new ++ l)) behind_is)
  where
    behind_is : drop (length front + length new) (front ++ (part ++ behind)) ≡ behind
    behind_is = ap (λ l. drop (length front + length new) l) (sym (append_assoc front part behind)) ∙ ap (λ n. drop n ((front ++ part) ++ behind)) (omega (arith, many, length-append front part)) ∙ drop-append_seam (front ++ part) behind

-- ---- what words show

pub read_at : (words : List ℕ) (variables : List Value) (number : ℕ) (v : Value) (path : List ℕ) → Shows words variables → slice_get variables number ≡ Some v → LeadsIn v path
    → (place variables number path + length (flat (value_at v path)) ≤ length words) × (take (length (flat (value_at v path))) (drop (place variables number path) words) ≡ flat (value_at v path))
read_at words variables number v path shows is leads =
    let s : Stands variables number v path = stands variables number v path is leads in
    let part = flat (value_at v path) in
    let all : words ≡ s.front ++ (part ++ (s.behind ++ shows.rest)) = shows.is ∙ ap (λ l. l ++ shows.rest) s.is ∙ simp append_assoc in (
      omega (arith, ap length all, length-append s.front (part ++ (s.behind ++ shows.rest)), length-append part (s.behind ++ shows.rest), s.at),
      ap (λ l. take (length part) (drop (place variables number path) l)) all ∙ middle s.front part (s.behind ++ shows.rest) _ _ s.at refl,
    )

pub written_at : (words : List ℕ) (variables : List Value) (number : ℕ) (v new : Value) (path : List ℕ) → Shows words variables → slice_get variables number ≡ Some v → LeadsIn v path → length (flat new) ≡ length (flat (value_at v path))
    → Shows (with_words words (place variables number path) (flat new)) (set variables number (with_value_at v path new))
written_at words variables number v new path shows is leads many =
    let s : Stands variables number v path = stands variables number v path is leads in
    let part = flat (value_at v path) in
    let all : words ≡ s.front ++ (part ++ (s.behind ++ shows.rest)) = shows.is ∙ ap (λ l. l ++ shows.rest) s.is ∙ simp append_assoc in
    record {
      rest = shows.rest;
      is = ap (λ l. with_words l (place variables number path) (flat new)) all ∙ put_middle s.front part (s.behind ++ shows.rest) (flat new) _ s.at many
          ∙ sym (ap (λ l. l ++ shows.rest) (s.put new) ∙ simp append_assoc);
    }

pub begun : (words : List ℕ) (variables new : List Value) → Shows words variables → Shows (with_words words (length (flat_all variables)) (flat_all new)) (variables ++ new)
begun words variables new shows = record {
  rest = drop (length (flat_all variables) + length (flat_all new)) words;
  is = ap (λ l. l ++ (flat_all new ++ drop (length (flat_all variables) + length (flat_all new)) words)) (ap (take (length (flat_all variables))) shows.is ∙ take-append_seam (flat_all variables) shows.rest)
      ∙ sym (append_assoc (flat_all variables) (flat_all new) _) ∙ ap (λ l. l ++ drop (length (flat_all variables) + length (flat_all new)) words) (sym (flat_map-append flat variables new));
}

pub ended : (words : List ℕ) (variables : List Value) (count : ℕ) → Shows words variables → Shows words (take count variables)
ended words variables count shows = record {
  rest = flat_all (drop count variables) ++ shows.rest;
  is = shows.is ∙ ap (λ l. l ++ shows.rest) (ap flat_all (sym (take-append-drop count variables)) ∙ flat_map-append flat (take count variables) (drop count variables)) ∙ append_assoc (flat_all (take count variables)) (flat_all (drop count variables)) shows.rest;
}

-- ---- paths that go on

pub leads_on : (path more : List ℕ) (v : Value) → LeadsIn v path → LeadsIn (value_at v path) more → LeadsIn v (path ++ more)
leads_on [] more v leads on = on
leads_on (k ∷ path) more v leads on = (leads.0, leads_on path more (member_value v k) leads.1 on)

pub value_on : (path more : List ℕ) (v : Value) → value_at v (path ++ more) ≡ value_at (value_at v path) more
value_on [] more v = refl
value_on (k ∷ path) more v = value_on path more (member_value v k)

pub front_on : (path more : List ℕ) (v : Value) → in_front v (path ++ more) ≡ in_front v path + in_front (value_at v path) more
unfolding in_front
front_on [] more v = omega arith
front_on (k ∷ path) more v = omega (arith, front_on path more (member_value v k))
