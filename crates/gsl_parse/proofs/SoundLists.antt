-- Lists of items stand for the tokens that were taken, where each item does.
use Rattle.std.proofs.Common.{◌≡◌, ℕ, zero, suc, Bool, true, false, cond, List, [], ◌∷◌, ◌++◌, length, Ok, refl, sym, ap, subst, ◌∙◌, append_assoc}
use Rattle.std.proofs.lemmas.List.{append-nil}
use Rattle.gsl_base.specs.declared.fault.Place.{Place}
use Rattle.gsl_base.specs.declared.token.Punct.TheVariants as punct
use Rattle.gsl_syntax.specs.Phrases.{sign}
use Rattle.gsl_syntax.specs.Declarations.{Commas, Row, Some_of}
use Rattle.gsl_syntax.specs.Declarations.Commas.{one, more}
use Rattle.gsl_syntax.specs.Declarations.Row.{done, next}
use Rattle.gsl_syntax.specs.Declarations.Some_of.{these}
use Rattle.gsl_expr.specs.Reading.{Tokens, Parser, and_then, ◌>>=◌, take_one, sees}
use Rattle.gsl_parse.specs.Lists.{row, row_of, some_of, further, further_of, commas_of}
use Rattle.gsl_expr.proofs.Taken.{Good, good_ok, good_weaken, good_then, good_sign}

-- Others stand in a row behind those that were found before.
pub record Grew {A : Type 0} (Item : A → Tokens → Type 0) (found all : List A) (zs : Tokens) : Type 0 where
  pub others : List A
  pub all_is : all ≡ found ++ others
  pub row : Row Item others zs

-- one or more, each behind a comma
pub record Behind {A : Type 0} (Item : A → Tokens → Type 0) (bs : List A) (zs : Tokens) : Type 0 where
  pub place : Place
  pub ys : Tokens
  pub zs_is : zs ≡ sign place punct.Comma ∷ ys
  pub commas : Commas Item bs ys

-- any number, each behind a comma
abbrev pub Tailed : {A : Type 0} → (A → Tokens → Type 0) → List A → Tokens → Type 0
Tailed Item [] zs = zs ≡ []
Tailed Item (b ∷ bs) zs = Behind Item (b ∷ bs) zs

-- Others stand behind commas, behind those that were found before.
pub record Added {A : Type 0} (Item : A → Tokens → Type 0) (found all : List A) (zs : Tokens) : Type 0 where
  pub others : List A
  pub all_is : all ≡ found ++ others
  pub tailed : Tailed Item others zs

pub commas_by : {A : Type 0} (Item : A → Tokens → Type 0) (a : A) (xs : Tokens) (bs : List A) (zs : Tokens) → Item a xs → Tailed Item bs zs → Commas Item (a ∷ bs) (xs ++ zs)
commas_by Item a xs [] zs w h = subst (λ (z : Tokens). Commas Item (a ∷ []) z) (sym (ap (λ (z : Tokens). xs ++ z) h ∙ append-nil xs)) (one w)
commas_by Item a xs (b ∷ bs) zs w h = subst (λ (z : Tokens). Commas Item (a ∷ (b ∷ bs)) (xs ++ z)) (sym h.zs_is) (more h.place w h.commas)

pub no_more : {A : Type 0} (Item : A → Tokens → Type 0) (found : List A) → Added Item found found []
no_more Item found = record { others = []; all_is = sym (append-nil found); tailed = refl }

pub one_more : {A : Type 0} (Item : A → Tokens → Type 0) (found : List A) (p : Place) (a : A) (xs : Tokens) (bs : List A) (zs : Tokens) → Item a xs → Added Item (found ++ a ∷ []) bs zs
    → Added Item found bs (sign p punct.Comma ∷ (xs ++ zs))
one_more Item found p a xs bs zs w r = record {
  others = a ∷ r.others;
  all_is = r.all_is ∙ append_assoc found (a ∷ []) r.others;
  tailed = record { place = p; ys = xs ++ zs; zs_is = refl; commas = commas_by Item a xs r.others zs w r.tailed };
}

pub none_grew : {A : Type 0} (Item : A → Tokens → Type 0) (found : List A) → Grew Item found found []
none_grew Item found = record { others = []; all_is = sym (append-nil found); row = done }

pub one_grew : {A : Type 0} (Item : A → Tokens → Type 0) (found : List A) (a : A) (xs : Tokens) (bs : List A) (zs : Tokens) → Item a xs → Grew Item (found ++ a ∷ []) bs zs
    → Grew Item found bs (xs ++ zs)
one_grew Item found a xs bs zs w r = record { others = a ∷ r.others; all_is = r.all_is ∙ append_assoc found (a ∷ []) r.others; row = next w r.row }

module _ {A : Type 0} (Item : A → Tokens → Type 0) (item : Parser A) (each : (ts : Tokens) → Good Item ts (item ts)) where
  pub row_sound : (begins : Tokens → Bool) (n : ℕ) (found : List A) (ts : Tokens) → Good (Grew Item found) ts (row begins item n found ts)
  unfolding row
  row_sound begins zero found ts = good_ok (Grew Item found) ts found (none_grew Item found)
  row_sound begins (suc n) found ts = go (begins ts) (row_sound begins n)
    where
      go : (b : Bool) → ((found : List A) (us : Tokens) → Good (Grew Item found) us (row begins item n found us))
          → Good (Grew Item found) ts (cond b (and_then (item ts) (λ a. row begins item n (found ++ a ∷ []))) (Ok (found, ts)))
      go false ih = good_ok (Grew Item found) ts found (none_grew Item found)
      go true ih =
          good_then Item (Grew Item found) ts (item ts) (λ a. row begins item n (found ++ a ∷ [])) (each ts)
          (λ a xs rest split w. good_weaken (Grew Item (found ++ a ∷ [])) (λ bs zs. Grew Item found bs (xs ++ zs)) rest (row begins item n (found ++ a ∷ []) rest) (ih (found ++ a ∷ []) rest)
          (λ bs zs r. one_grew Item found a xs bs zs w r))

  pub row_of_sound : (begins : Tokens → Bool) (ts : Tokens) → Good (Row Item) ts (row_of begins item ts)
  row_of_sound begins ts =
      good_weaken (Grew Item []) (Row Item) ts (row begins item (length ts) [] ts) (row_sound begins (length ts) [] ts) (λ bs zs r. subst (λ (cs : List A). Row Item cs zs) (sym r.all_is) r.row)

  pub some_of_sound : (begins : Tokens → Bool) (ts : Tokens) → Good (Some_of Item) ts (some_of begins item ts)
  some_of_sound begins ts =
      good_then Item (Some_of Item) ts (item ts) (λ a ts. row begins item (length ts) (a ∷ []) ts) (each ts)
      (λ a xs rest split w. good_weaken (Grew Item (a ∷ [])) (λ bs zs. Some_of Item bs (xs ++ zs)) rest (row begins item (length rest) (a ∷ []) rest) (row_sound begins (length rest) (a ∷ []) rest)
      (λ bs zs r. subst (λ (cs : List A). Some_of Item cs (xs ++ zs)) (sym r.all_is) (these w r.row)))

  pub further_sound : (n : ℕ) (found : List A) (ts : Tokens) → Good (Added Item found) ts (further item n found ts)
  unfolding further
  further_sound zero found ts = good_ok (Added Item found) ts found (no_more Item found)
  further_sound (suc n) found ts = go (sees punct.Comma ts) refl (further_sound n)
    where
      go : (b : Bool) → sees punct.Comma ts ≡ b → ((found : List A) (us : Tokens) → Good (Added Item found) us (further item n found us))
          → Good (Added Item found) ts (cond b (and_then (take_one ts) (λ _. item >>= λ a. further item n (found ++ a ∷ []))) (Ok (found, ts)))
      go false h ih = good_ok (Added Item found) ts found (no_more Item found)
      go true h ih =
          good_sign (Added Item found) punct.Comma ts (λ _. item >>= λ a. further item n (found ++ a ∷ [])) h
          (λ p rest split. good_then Item (λ bs ys. Added Item found bs (sign p punct.Comma ∷ ys)) rest (item rest) (λ a. further item n (found ++ a ∷ [])) (each rest)
          (λ a xs after split2 w. good_weaken (Added Item (found ++ a ∷ [])) (λ bs ys. Added Item found bs (sign p punct.Comma ∷ (xs ++ ys))) after (further item n (found ++ a ∷ []) after) (ih (found ++ a ∷ []) after)
          (λ bs zs r. one_more Item found p a xs bs zs w r)))

  pub further_of_sound : (a : A) (xs ts : Tokens) → Item a xs → Good (λ bs zs. Commas Item bs (xs ++ zs)) ts (further_of item a ts)
  further_of_sound a xs ts w =
      good_weaken (Added Item (a ∷ [])) (λ bs zs. Commas Item bs (xs ++ zs)) ts (further item (length ts) (a ∷ []) ts) (further_sound (length ts) (a ∷ []) ts)
      (λ bs zs r. subst (λ (cs : List A). Commas Item cs (xs ++ zs)) (sym r.all_is) (commas_by Item a xs r.others zs w r.tailed))

  pub commas_of_sound : (ts : Tokens) → Good (Commas Item) ts (commas_of item ts)
  commas_of_sound ts = good_then Item (Commas Item) ts (item ts) (further_of item) (each ts) (λ a xs rest split w. further_of_sound a xs rest w)
