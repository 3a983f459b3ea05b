-- Rows of ids, with one more at their end.
use Rattle.std.proofs.Common.{◌≡◌, refl, sym, ap, ◌∙◌, ℕ, ◌+◌, ◌-◌, ◌<◌, ◌≤◌, if◌then◌else◌, List, [], ◌∷◌, ◌++◌, take, length, get_or, Option, Some, arith}
use Rattle.std.proofs.lemmas.List.{take_more}
use Rattle.std.proofs.lemmas.Bool.{eq-eqb, ne_eqb}
use Rattle.gsl_words.specs.declared.module.Module.{Module}
use Rattle.gsl_machine.specs.State.{Held, Ids, give}
use Rattle.gsl_enact_state.specs.declared.state.Given.{Given}
use Rattle.gsl_enact_state.specs.Seen.{given, held_seen, ids_seen, own_seen}

pub given_push : (ids : Ids) (rows : List Given) (row : Given) → given ids (rows ++ row ∷ []) ≡ give (given ids rows) row.id (held_seen row.held)
unfolding given
given_push ids [] row = refl
given_push ids (r ∷ rows) row = given_push (give ids r.id (held_seen r.held)) rows row

pub ids_push : (m : Module) (own rows new : List Given) (row : Given) → new ≡ rows ++ row ∷ [] → ids_seen m own new ≡ give (ids_seen m own rows) row.id (held_seen row.held)
unfolding ids_seen
ids_push m own rows new row is = ap (given (own_seen m own)) is ∙ given_push (own_seen m own) rows row

pub ids_none : (m : Module) (own new : List Given) → new ≡ [] → ids_seen m own new ≡ own_seen m own
unfolding ids_seen given
ids_none m own new is = ap (given (own_seen m own)) is

-- ---- the last row of an id

take_one : (rows : List Given) (k : ℕ) (row : Given) → k < length rows → row ≡ get_or rows k row → take (k + 1) rows ≡ take k rows ++ row ∷ []
take_one rows k row below is = take_more rows k row below ∙ ap (λ r. take k rows ++ r ∷ []) (sym is)

-- what rows in front of one say with it
with_one : (rows : List Given) (at id : ℕ) (row : Given) → 0 < at → at ≤ length rows → row ≡ get_or rows (at - 1) row → (ids : Ids) → given ids (take at rows) id ≡ give (given ids (take (at - 1) rows)) row.id (held_seen row.held) id
with_one rows at id row some within is ids =
    ap (λ n. given ids (take n rows) id) (let e : at ≡ at - 1 + 1 = omega (arith, some) in e) ∙ ap (λ l. given ids l id) (take_one rows (at - 1) row (omega (arith, some, within)) is) ∙ ap (λ f. f id) (given_push ids (take (at - 1) rows) row)

pub row_here : (rows : List Given) (at id : ℕ) (row : Given) (whole : Ids → Option Held) → 0 < at → at ≤ length rows → row ≡ get_or rows (at - 1) row → id ≡ row.id → ((ids : Ids) → whole ids ≡ given ids (take at rows) id) → (ids : Ids) → whole ids ≡ Some (held_seen row.held)
row_here rows at id row whole some within is same so_far ids =
    so_far ids ∙ with_one rows at id row some within is ids ∙ ap (λ t. if t then Some (held_seen row.held) else given ids (take (at - 1) rows) id) (eq-eqb id row.id same)

pub row_before : (rows : List Given) (at id : ℕ) (row : Given) (whole : Ids → Option Held) → 0 < at → at ≤ length rows → row ≡ get_or rows (at - 1) row → (id ≡ row.id → ⊥) → ((ids : Ids) → whole ids ≡ given ids (take at rows) id)
    → (ids : Ids) → whole ids ≡ given ids (take (at - 1) rows) id
row_before rows at id row whole some within is differs so_far ids =
    so_far ids ∙ with_one rows at id row some within is ids ∙ ap (λ t. if t then Some (held_seen row.held) else given ids (take (at - 1) rows) id) (ne_eqb id row.id differs)

pub no_row : (rows : List Given) (at id : ℕ) (whole : Ids → Option Held) → at ≤ 0 → ((ids : Ids) → whole ids ≡ given ids (take at rows) id) → (ids : Ids) → whole ids ≡ ids id
unfolding given
no_row rows at id whole none so_far ids = so_far ids ∙ ap (λ n. given ids (take n rows) id) (let e : at ≡ 0 = omega (arith, none) in e)
