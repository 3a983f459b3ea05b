-- The targets of a switch that have runs.
use Rattle.std.proofs.Common.{◌≡◌, ℕ, ◌<◌, Bool, true, false, cond, List, [], ◌∷◌, ◌++◌, length, Option, Some, None, refl, ap, sym, ◌∙◌, subst, arith}
use Rattle.std.specs.Prelude.{nat_eq, nat_lt}
use Rattle.std.specs.List.{list_any, position_or_len}
use Rattle.std.proofs.lemmas.Bool.{or_left, or_right, eq-eqb}
use Rattle.std.proofs.lemmas.Bool.{lt-ltb, le-ltb}
use Rattle.gsl_blocks.specs.Reading.{stands_before, is_earlier, put_in}
use Rattle.gsl_blocks.specs.Targets.{AreArms, alone, with_default}
use Rattle.gsl_blocks.proofs.Apart.{Apart, StandIn, this, later, places}

-- The first of some words stands before another of them, and not the other way round.
pub first_before : (x y : ℕ) (xs ls : List ℕ) → StandIn (x ∷ xs) ls → Apart ls → list_any (nat_eq y) xs ≡ true → (stands_before ls x y ≡ true) × (stands_before ls y x ≡ false)
first_before x y xs ls s differ h =
    let p = places x y xs ls s differ h in
    by_places (position_or_len (nat_eq x) ls) (position_or_len (nat_eq y) ls) (length ls) p.0 p.1
  where
    by_places : (i j n : ℕ) → i < j → j < n → (is_earlier (cond (nat_lt i n) (Some i) None) (cond (nat_lt j n) (Some j) None) ≡ true) × (is_earlier (cond (nat_lt j n) (Some j) None) (cond (nat_lt i n) (Some i) None) ≡ false)
    by_places i j n low high =
        let e = lt-ltb i n (omega (arith, low, high)) in
        let f = lt-ltb j n high in (
          ap (λ b. is_earlier (cond b (Some i) None) (cond (nat_lt j n) (Some j) None)) e ∙ ap (λ b. is_earlier (Some i) (cond b (Some j) None)) f ∙ lt-ltb i j low,
          ap (λ b. is_earlier (cond b (Some j) None) (cond (nat_lt i n) (Some i) None)) f ∙ ap (λ b. is_earlier (Some j) (cond b (Some i) None)) e ∙ le-ltb j i (omega (arith, low)),
        )

behind_front : (x : ℕ) (xs ls : List ℕ) → StandIn (x ∷ xs) ls → StandIn xs ls
behind_front x xs _ (this {ls = ls} s) = later s
behind_front x xs _ (later {ls = ls} s) = later (behind_front x xs ls s)

among_joined : (x : ℕ) (before behind : List ℕ) → list_any (nat_eq x) (before ++ x ∷ behind) ≡ true
among_joined x [] behind = or_left (nat_eq x x) (list_any (nat_eq x) behind) (eq-eqb x x refl)
among_joined x (b ∷ before) behind = or_right (nat_eq x b) (list_any (nat_eq x) (before ++ x ∷ behind)) (among_joined x before behind)

-- The default goes where it stands.
put_where : (default : ℕ) (before behind ls : List ℕ) → StandIn (before ++ default ∷ behind) ls → Apart ls → put_in ls (Some default) (before ++ behind) ≡ before ++ default ∷ behind
put_where d [] [] ls s differ = refl
put_where d [] (t ∷ behind) ls s differ =
    ap (λ b. cond b (d ∷ t ∷ behind) (t ∷ put_in ls (Some d) behind)) (first_before d t (t ∷ behind) ls s differ (or_left (nat_eq t t) (list_any (nat_eq t) behind) (eq-eqb t t refl))).0
put_where d (b ∷ before) behind ls s differ =
    ap (λ z. cond z (d ∷ b ∷ (before ++ behind)) (b ∷ put_in ls (Some d) (before ++ behind))) (first_before b d (before ++ d ∷ behind) ls s differ (among_joined d before behind)).1
    ∙ ap (λ z. b ∷ z) (put_where d before behind ls (behind_front b (before ++ d ∷ behind) ls s) differ)

-- Arms that stand in the order of the labels are those that are found.
pub found : (ls named : List ℕ) (lone : Option ℕ) (arms : List ℕ) → AreArms named lone arms → StandIn arms ls → Apart ls → put_in ls lone named ≡ arms
found ls named _ _ alone s differ = refl
found ls named _ _ (with_default d before behind e) s differ = ap (put_in ls (Some d)) e ∙ put_where d before behind ls s differ

-- What is found are arms.
cut : (ls : List ℕ) (d : ℕ) (named : List ℕ) → AreArms named (Some d) (put_in ls (Some d) named)
cut ls d [] = with_default d [] [] refl
cut ls d (t ∷ named) = by_case (stands_before ls d t) (put_in ls (Some d) named) (Some d) refl (cut ls d named)
  where
    by_case : (b : Bool) (rest : List ℕ) (which : Option ℕ) → which ≡ Some d → AreArms named which rest → AreArms (t ∷ named) (Some d) (cond b (d ∷ t ∷ named) (t ∷ rest))
    by_case true rest which e a = with_default d [] (t ∷ named) refl
    by_case false _ _ e alone = absurd cc
    by_case false _ _ e (with_default x before behind same) =
        let same_default : x ≡ d = ap (λ o. or_zero o) e in
        subst (λ z. AreArms (t ∷ named) (Some d) (t ∷ (before ++ z ∷ behind))) (sym same_default) (with_default d (t ∷ before) behind (ap (λ z. t ∷ z) same))
      where
        or_zero : Option ℕ → ℕ
        or_zero None = 0
        or_zero (Some n) = n

pub are_arms : (ls named : List ℕ) (lone : Option ℕ) → AreArms named lone (put_in ls lone named)
are_arms ls named None = alone
are_arms ls named (Some d) = cut ls d named
