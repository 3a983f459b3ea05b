-- Names that are equal as bytes tie in the order of the files, and no others do.
use Rattle.std.proofs.Common.{◌≡◌, ◌≢◌, ℕ, Bool, true, false, cond, List, ◌∷◌, Some, refl, ap, sym, ◌∙◌}
use Rattle.std.specs.Bool.{one_answer}
use Rattle.std.specs.Str.{bytes_eq}
use Rattle.std.specs.Ordering.{nat_cmp, is_eq, eq_by_cmp}
use Rattle.std.specs.Cmp.{tied_itself, Equal-is}
use Rattle.std.specs.Cmp.Lexicographic.{slice_cmp, nat_list_cmp_total}
use Rattle.std.specs.FinMap.{find, get, insert, get-insert, nat_cmp-IsAntisymmetric, slice_cmp-IsAntisymmetric}
use Rattle.std.proofs.lemmas.Slice.Eq.{bytes_eq-Decides}
use Rattle.gsl_host.specs.Outside.{Files, Name}

bytes_eq-tie : (a b : List ℕ) → bytes_eq a b ≡ eq_by_cmp (slice_cmp nat_cmp) b a
bytes_eq-tie a b =
    one_answer _ _ (bytes_eq-Decides a b) (
      (λ tie. sym (slice_cmp-IsAntisymmetric nat_cmp-IsAntisymmetric b a ((Equal-is (slice_cmp nat_cmp b a)).0 tie))),
      (λ same. ap (λ x. eq_by_cmp (slice_cmp nat_cmp) b x) same ∙ ap is_eq (tied_itself nat_list_cmp_total b)),
    )

-- what a search finds at an entry, by the test of its name
pub find_at : (name : List ℕ) (e : List ℕ × List ℕ) (rest : List (List ℕ × List ℕ)) (same : Bool) → bytes_eq e.0 name ≡ same →
    find (slice_cmp nat_cmp) name (e ∷ rest) ≡ cond same (Some e.1) (find (slice_cmp nat_cmp) name rest)
find_at name e rest same is = ap (λ b. cond b (Some e.1) (find (slice_cmp nat_cmp) name rest)) (sym (bytes_eq-tie e.0 name) ∙ is)

not_true : (b : Bool) → b ≢ true → b ≡ false
not_true true other = absurd (other refl)
not_true false other = refl

-- setting a file keeps the others
pub get_other-insert : (files : Files) (name : Name) (bytes : List ℕ) (q : Name) → q ≢ name → get (insert files name bytes) q ≡ get files q
get_other-insert files name bytes q apart =
    let untied = sym (bytes_eq-tie name q) ∙ not_true _ (λ e. apart (sym ((bytes_eq-Decides name q).0 e))) in
    get-insert nat_list_cmp_total files name bytes q ∙ ap (λ b. cond b (Some bytes) (get files q)) untied

pub ruleset other_files = (get_other-insert)
