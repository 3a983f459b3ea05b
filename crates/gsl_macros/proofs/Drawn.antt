-- What is drawn from a list of tokens, step by step.
use Rattle.std.proofs.Common.{◌≡◌, ℕ, suc, ◌-◌, ◌<◌, true, not, List, ◌∷◌, Option, Some, None, is_some, Ok, Err, if◌then◌else◌, refl, ap, ◌∙◌, arith}
use Rattle.std.proofs.lemmas.Bool.{lt-ltb}
use Rattle.gsl_base.specs.Checked.{Refuses}
use Rattle.gsl_base.specs.declared.fault.Code.TheVariants.{E0901}
use Rattle.gsl_base.specs.declared.fault.Place.{Place}
use Rattle.gsl_base.specs.declared.fault.Refusal.{Refusal}
use Rattle.gsl_base.specs.declared.fault.Refusal.TheVariants.{Source, Memory}
use Rattle.gsl_base.specs.declared.token.Raw.{Raw}
use Rattle.gsl_macros.specs.declared.stream.Hid.{Hid}
use Rattle.gsl_macros.specs.declared.table.Macros.{Macros}
use Rattle.gsl_macros.specs.Tables.{Entries}
use Rattle.gsl_macros.specs.Expanding.{Numbered, Seen, Trace, at, expander, fresh, give, if_used, named, replaced, taken, traced, use_of, whole}
use Rattle.gsl_macros.specs.Steps.{Draws, is_plain}
use Rattle.gsl_macros.proofs.Fuel.{traced_uncounted, traced_gives, traced_faults, expander_is}

-- a token that the count does not allow
pub draws_uncounted : (macros : Macros) (depth : ℕ) (t : Hid) (rest : Seen) (left : ℕ) (before later : Trace) (n : ℕ) (refusal : Refusal) →
    before ≡ traced macros depth (t ∷ rest) left → Refuses refusal (taken t left) → Draws (Err refusal) before later n
draws_uncounted macros depth t rest left before later n (Source fault) e r = e ∙ traced_uncounted macros depth t rest left fault r
draws_uncounted macros depth t rest left before later n Memory e r = tt

-- a replacement that is refused
pub draws_fault : (macros : Macros) (depth : ℕ) (t : Hid) (m : Numbered) (rest : Seen) (left now : ℕ) (before later : Trace) (n : ℕ) (refusal : Refusal) →
    before ≡ traced macros depth (t ∷ rest) left → taken t left ≡ Ok now → use_of macros.table t rest ≡ Some m → Refuses refusal (replaced (expander macros depth) macros t m rest now) → Draws (Err refusal) before later n
draws_fault macros depth t m rest left now before later n (Source fault) e c u r = e ∙ traced_faults macros depth t m rest left now fault c u r
draws_fault macros depth t m rest left now before later n Memory e c u r = tt

-- arguments are expanded where they may nest deeper
pub expander_below : (macros : Macros) (depth : ℕ) (place : Place) (tokens : Seen) (left : ℕ) → 0 < depth → expander macros depth place tokens left ≡ whole (traced macros (depth - 1) tokens left)
expander_below macros depth place tokens left h =
    let e : depth ≡ suc (depth - 1) = omega arith in ap (λ d. expander macros d place tokens left) e ∙ expander_is macros (depth - 1) place tokens left

-- a token of the source that names no macro
none_of : (x : Option Numbered) → not (is_some x) ≡ true → x ≡ None
none_of None e = refl
none_of (Some m) e = absurd cc

pub plain_names : (table : Entries) (raw : Raw) (rest : List Raw) → is_plain table (raw ∷ rest) ≡ true → named table (fresh raw) ≡ None
plain_names table raw rest e = none_of (named table (fresh raw)) e

plain_taken : (raw : Raw) (left : ℕ) → 0 < left → taken (fresh raw) left ≡ Ok (left - 1)
plain_taken raw left h = ap (λ b. if b then Ok (left - 1) else Err (at raw.place E0901)) (lt-ltb 0 left h)

plain_unused : (table : Entries) (raw : Raw) (rest : Seen) → named table (fresh raw) ≡ None → use_of table (fresh raw) rest ≡ None
unfolding use_of
plain_unused table raw rest e = ap (λ m. if_used m rest) e

-- it is given out
pub gives_plain : (macros : Macros) (raw : Raw) (tokens rest : Seen) (left : ℕ) → tokens ≡ fresh raw ∷ rest → named macros.table (fresh raw) ≡ None → 0 < left →
    (depth : ℕ) → traced macros depth tokens left ≡ give (fresh raw) (traced macros depth rest (left - 1))
gives_plain macros raw tokens rest left e n h depth =
    ap (λ s. traced macros depth s left) e
    ∙ traced_gives macros depth (fresh raw) rest left (left - 1) (plain_taken raw left h) (plain_unused macros.table raw rest n)
