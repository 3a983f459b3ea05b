-- Ids stay apart where a builder takes or defines one.
use Rattle.std.proofs.Common.{◌≡◌, ℕ, ◌+◌, ◌<◌, ◌≤◌, Bool, true, false, refl, sym, ap, ◌∙◌, arith}
use Rattle.std.specs.Prelude.{zero, suc, ◌==◌}
use Rattle.std.proofs.lemmas.Bool.{eqb-true}
use Rattle.gsl_valid.specs.Placed.{Code}
use Rattle.gsl_fitting_sections.specs.Sections.{AreApart, count_of, one_if}

-- a greater bound
pub apart_wider : (least most : ℕ) (code : Code) → least ≤ most → AreApart least code → AreApart most code
apart_wider least most code le a = record { once = a.once; least = a.least; below = λ id h. let low = a.below id h in omega (arith, low, le) }

-- the same ids
pub apart_same : (bound : ℕ) (code other : Code) → ((id : ℕ) → count_of id other ≡ count_of id code) → AreApart bound code → AreApart bound other
apart_same bound code other same a = record {
  once = λ id. let o = a.once id in let e = same id in omega (arith, o, e);
  least = λ id h. let e = same id in a.least id (omega (arith, e, h));
  below = λ id h. let e = same id in a.below id (omega (arith, e, h));
}

one_most : (b : Bool) → one_if b ≤ 1
one_most true = omega arith
one_most false = omega arith

one_none : (b : Bool) → 1 ≤ one_if b → b ≡ true
one_none true h = refl
one_none false h = absurd (omega (arith, h))

-- one more id, which none was before
pub apart_more : (bound : ℕ) (code other : Code) (new : ℕ) → 1 ≤ new → bound ≤ new → ((id : ℕ) → count_of id other ≡ count_of id code + one_if (new == id)) → AreApart bound code → AreApart (new + 1) other
apart_more bound code other new least high more a = record {
  once = λ id. by_case id (new == id) refl;
  least = λ id h. least_is id (new == id) refl h;
  below = λ id h. below_is id (new == id) refl h;
}
  where
    fresh : (id : ℕ) → new ≡ id → count_of id code ≤ 0
    fresh id same = by_count (count_of id code) refl
      where
        by_count : (n : ℕ) → count_of id code ≡ n → count_of id code ≤ 0
        by_count zero e = omega (arith, e)
        by_count (suc n) e = let low = a.below id (omega (arith, e)) in absurd (omega (arith, low, high, same))

    by_case : (id : ℕ) (b : Bool) → (new == id) ≡ b → count_of id other ≤ 1
    by_case id true e = let none = fresh id (eqb-true new id e) in let c = more id in let one = one_most (new == id) in omega (arith, none, c, one)
    by_case id false e = let o = a.once id in let c = more id in let none : one_if (new == id) ≡ 0 = ap one_if e in omega (arith, o, c, none)

    least_is : (id : ℕ) (b : Bool) → (new == id) ≡ b → 1 ≤ count_of id other → 1 ≤ id
    least_is id true e h = let same = eqb-true new id e in omega (arith, same, least)
    least_is id false e h = let c = more id in let none : one_if (new == id) ≡ 0 = ap one_if e in a.least id (omega (arith, c, none, h))

    below_is : (id : ℕ) (b : Bool) → (new == id) ≡ b → 1 ≤ count_of id other → id < new + 1
    below_is id true e h = let same = eqb-true new id e in omega (arith, same)
    below_is id false e h = let c = more id in let none : one_if (new == id) ≡ 0 = ap one_if e in let low = a.below id (omega (arith, c, none, h)) in omega (arith, low, high)

-- an id that was taken and is defined now
pub apart_owed : (bound : ℕ) (code other : Code) (new : ℕ) → 1 ≤ new → new < bound → count_of new code ≡ 0 → ((id : ℕ) → count_of id other ≡ count_of id code + one_if (new == id)) → AreApart bound code → AreApart bound other
apart_owed bound code other new least low none more a = record {
  once = λ id. by_case id (new == id) refl;
  least = λ id h. least_is id (new == id) refl h;
  below = λ id h. below_is id (new == id) refl h;
}
  where
    by_case : (id : ℕ) (b : Bool) → (new == id) ≡ b → count_of id other ≤ 1
    by_case id true e = let zero = ap (λ x. count_of x code) (sym (eqb-true new id e)) ∙ none in let c = more id in let one = one_most (new == id) in omega (arith, zero, c, one)
    by_case id false e = let o = a.once id in let c = more id in let zero : one_if (new == id) ≡ 0 = ap one_if e in omega (arith, o, c, zero)

    least_is : (id : ℕ) (b : Bool) → (new == id) ≡ b → 1 ≤ count_of id other → 1 ≤ id
    least_is id true e h = let same = eqb-true new id e in omega (arith, same, least)
    least_is id false e h = let c = more id in let zero : one_if (new == id) ≡ 0 = ap one_if e in a.least id (omega (arith, c, zero, h))

    below_is : (id : ℕ) (b : Bool) → (new == id) ≡ b → 1 ≤ count_of id other → id < bound
    below_is id true e h = let same = eqb-true new id e in omega (arith, same, low)
    below_is id false e h = let c = more id in let zero : one_if (new == id) ≡ 0 = ap one_if e in a.below id (omega (arith, c, zero, h))
