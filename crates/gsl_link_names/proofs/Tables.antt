-- What tables with one more declaration tell.
use Rattle.std.proofs.Common.{◌≡◌, refl, sym, ap, subst, ◌∙◌, ℕ, zero, suc, ◌<◌, arith, length, get_or, Bool, true, false, cond, ◌&&◌, ◌||◌, List, [], ◌∷◌, ◌++◌}
use Rattle.std.specs.Prelude.{bytes_eq, Option, Some, if◌then◌else◌}
use Rattle.std.specs.List.{list_any, AllByRecursion}
use Rattle.std.specs.Map.{lookup}
use Rattle.std.specs.Cmp.Lexicographic.{bytes_decides}
use Rattle.std.proofs.lemmas.Bool.{true≢false}
use Rattle.std.proofs.lemmas.List.Folds.{list_any-append}
use Rattle.indexmap.specs.IndexMap.{insert_entry}
use Rattle.indexmap.specs.IndexSet.{insert_key}
use Rattle.gsl_link_names.specs.Rows.{or_none, row_of, with_one}

pub same_words : (k l : List ℕ) → bytes_eq k l ≡ true → k ≡ l
same_words k l = (bytes_decides k l).0

pub itself : (k : List ℕ) → bytes_eq k k ≡ true
itself k = (bytes_decides k k).1 refl

-- ---- tests of all items

pub or_false : (b : Bool) → (b || false) ≡ b
or_false true = refl
or_false false = refl

module _ {A : Type 0} where
  pub any_or : (f g : A → Bool) (xs : List A) → list_any (λ x. f x || g x) xs ≡ (list_any f xs || list_any g xs)
  any_or f g [] = refl
  any_or f g (x ∷ xs) = ap (λ b. (f x || g x) || b) (any_or f g xs) ∙ turned (f x) (g x) (list_any f xs) (list_any g xs)
    where
      turned : (a b c d : Bool) → ((a || b) || (c || d)) ≡ ((a || c) || (b || d))
      turned true b c d = refl
      turned false true true d = refl
      turned false true false d = refl
      turned false false c d = refl

  pub any_and : (b : Bool) (f : A → Bool) (xs : List A) → list_any (λ x. b && f x) xs ≡ (b && list_any f xs)
  any_and true f xs = refl
  any_and false f [] = refl
  any_and false f (x ∷ xs) = any_and false f xs

  pub any_alike : (f g : A → Bool) → ((x : A) → f x ≡ g x) → (xs : List A) → list_any f xs ≡ list_any g xs
  any_alike f g alike xs = ap (λ h. list_any h xs) (λ j x. alike x j)

  -- with one more behind them
  pub any_behind : (f : A → Bool) (xs : List A) (x : A) → list_any f (xs ++ x ∷ []) ≡ (list_any f xs || f x)
  any_behind f xs x = list_any-append f xs (x ∷ []) ∙ ap (λ b. list_any f xs || b) (or_false (f x))

-- ---- one of items that all are so

pub all_at : {A : Type 0} (P : A → Type 0) (xs : List A) (k : ℕ) (x : A) → AllByRecursion P xs → k < length xs → x ≡ get_or xs k x → P x
all_at P [] k x all below at = absurd (omega (arith, below))
all_at P (y ∷ xs) zero x all below at = subst P (sym at) all.0
all_at P (y ∷ xs) (suc k) x all below at = all_at P xs k x all.1 (omega (arith, below)) at

-- ---- a table with one more entry

module _ {V : Type 0} where
  abbrev With : List (List ℕ × V) → List ℕ → V → List ℕ → Type 0
  With rows n v name = lookup (bytes_eq name) (insert_entry bytes_eq rows n v) ≡ cond (bytes_eq name n) (Some v) (lookup (bytes_eq name) rows)

  with_entry : (rows : List (List ℕ × V)) (n : List ℕ) (v : V) (name : List ℕ) → With rows n v name
  with_entry [] n v name = refl
  with_entry (e ∷ rows) n v name = by_cases (bytes_eq n e.0) refl (with_entry rows n v name)
    where
      rest : Option V
      rest = lookup (bytes_eq name) rows

      same : (c : Bool) → cond c (Some v) rest ≡ cond c (Some v) (cond c (Some e.1) rest)
      same true = refl
      same false = refl

      apart : (c d : Bool) → (c ≡ true → d ≡ false) → cond c (Some e.1) (cond d (Some v) rest) ≡ cond d (Some v) (cond c (Some e.1) rest)
      apart true true differ = absurd (true≢false (differ refl))
      apart true false differ = refl
      apart false d differ = refl

      off : (d : Bool) → bytes_eq n e.0 ≡ false → bytes_eq name n ≡ d → name ≡ e.0 → d ≡ false
      off true is d at = absurd (true≢false (sym (ap (bytes_eq n) (sym at ∙ same_words name n d) ∙ itself n) ∙ is))
      off false is d at = refl

      by_cases : (b : Bool) → bytes_eq n e.0 ≡ b → With rows n v name
          → lookup (bytes_eq name) (if b then (e.0, v) ∷ rows else e ∷ insert_entry bytes_eq rows n v) ≡ cond (bytes_eq name n) (Some v) (cond (bytes_eq name e.0) (Some e.1) rest)
      by_cases true is later =
          same (bytes_eq name e.0) ∙ ap (λ k. cond (bytes_eq name k) (Some v) (cond (bytes_eq name e.0) (Some e.1) rest)) (sym (same_words n e.0 is))
      by_cases false is later =
          ap (cond (bytes_eq name e.0) (Some e.1)) later
          ∙ apart (bytes_eq name e.0) (bytes_eq name n) (λ at. off (bytes_eq name n) is refl (same_words name e.0 at))

  -- what is put twice stands once
  pub put_again : (rows : List (List ℕ × V)) (n : List ℕ) (v w : V) → insert_entry bytes_eq (insert_entry bytes_eq rows n v) n w ≡ insert_entry bytes_eq rows n w
  put_again [] n v w = ap (λ b. if b then (n, w) ∷ [] else (n, v) ∷ (n, w) ∷ []) (itself n)
  put_again (e ∷ rows) n v w = by_cases (bytes_eq n e.0) refl (put_again rows n v w)
    where
      by_cases : (b : Bool) → bytes_eq n e.0 ≡ b → insert_entry bytes_eq (insert_entry bytes_eq rows n v) n w ≡ insert_entry bytes_eq rows n w
          → insert_entry bytes_eq (if b then (e.0, v) ∷ rows else e ∷ insert_entry bytes_eq rows n v) n w ≡ (if b then (e.0, w) ∷ rows else e ∷ insert_entry bytes_eq rows n w)
      by_cases true is later = ap (λ b. if b then (e.0, w) ∷ rows else (e.0, v) ∷ insert_entry bytes_eq rows n w) is
      by_cases false is later =
          ap (λ b. if b then (e.0, w) ∷ insert_entry bytes_eq rows n v else e ∷ insert_entry bytes_eq (insert_entry bytes_eq rows n v) n w) is ∙ ap (λ l. e ∷ l) later

module _ {A : Type 0} where
  row_more : (rows : List (List ℕ × List A)) (n : List ℕ) (x : A) (name : List ℕ)
      → row_of (with_one rows n x) name ≡ cond (bytes_eq name n) (row_of rows name ++ x ∷ []) (row_of rows name)
  row_more rows n x name = ap or_none (with_entry rows n (row_of rows n ++ x ∷ []) name) ∙ by_cases (bytes_eq name n) refl
    where
      by_cases : (b : Bool) → bytes_eq name n ≡ b
          → or_none (cond b (Some (row_of rows n ++ x ∷ [])) (lookup (bytes_eq name) rows)) ≡ cond b (row_of rows name ++ x ∷ []) (row_of rows name)
      by_cases true is = ap (λ k. row_of rows k ++ x ∷ []) (sym (same_words name n is))
      by_cases false is = refl

  pub any_more : (f : A → Bool) (rows : List (List ℕ × List A)) (n : List ℕ) (x : A) (name : List ℕ)
      → list_any f (row_of (with_one rows n x) name) ≡ (list_any f (row_of rows name) || (f x && bytes_eq name n))
  any_more f rows n x name = ap (list_any f) (row_more rows n x name) ∙ by_cases (bytes_eq name n) (f x) refl
    where
      by_cases : (b c : Bool) → f x ≡ c → list_any f (cond b (row_of rows name ++ x ∷ []) (row_of rows name)) ≡ (list_any f (row_of rows name) || (c && b))
      by_cases true true is = any_behind f (row_of rows name) x ∙ ap (λ c. list_any f (row_of rows name) || c) is
      by_cases true false is = any_behind f (row_of rows name) x ∙ ap (λ c. list_any f (row_of rows name) || c) is
      by_cases false true is = sym (or_false (list_any f (row_of rows name)))
      by_cases false false is = sym (or_false (list_any f (row_of rows name)))

  -- a row that is taken out, and put back with one more
  pub put_row : (rows taken done : List (List ℕ × List A)) (n key : List ℕ) (row longer : List A) (x : A) → taken ≡ insert_entry bytes_eq rows n [] → row ≡ row_of rows n
      → key ≡ n → longer ≡ row ++ x ∷ [] → done ≡ insert_entry bytes_eq taken key longer → done ≡ with_one rows n x
  put_row rows taken done n key row longer x is_taken is_row same is_longer is =
      is ∙ ap (λ t. insert_entry bytes_eq t key longer) is_taken ∙ ap (λ k. insert_entry bytes_eq (insert_entry bytes_eq rows n []) k longer) same
      ∙ put_again rows n [] longer ∙ ap (insert_entry bytes_eq rows n) (is_longer ∙ ap (λ l. l ++ x ∷ []) is_row)

-- a set of names with one more
pub any_put : (names : List (List ℕ)) (n name : List ℕ) → list_any (bytes_eq name) (insert_key bytes_eq names n) ≡ (list_any (bytes_eq name) names || bytes_eq name n)
any_put names n name = by_cases (list_any (bytes_eq n) names) refl
  where
    had : (ks : List (List ℕ)) → list_any (bytes_eq n) ks ≡ true → name ≡ n → list_any (bytes_eq name) ks ≡ true
    had ks is same = ap (λ k. list_any (bytes_eq k) ks) same ∙ is

    or_had : (b c : Bool) → (c ≡ true → b ≡ true) → b ≡ (b || c)
    or_had true c to = refl
    or_had false true to = to refl
    or_had false false to = refl

    by_cases : (b : Bool) → list_any (bytes_eq n) names ≡ b → list_any (bytes_eq name) (cond b names (names ++ n ∷ [])) ≡ (list_any (bytes_eq name) names || bytes_eq name n)
    by_cases true is = or_had (list_any (bytes_eq name) names) (bytes_eq name n) (λ same. had names is (same_words name n same))
    by_cases false is = any_behind (bytes_eq name) names n
