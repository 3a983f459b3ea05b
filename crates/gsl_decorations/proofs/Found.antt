-- What the number of the first decoration of a mark gives is what the search for it finds.
use Rattle.std.proofs.Common.{◌≡◌, ℕ, zero, suc, ◌+◌, Bool, true, false, cond, [], ◌∷◌, drop, Option, Some, None, refl, ap, sym, ◌∙◌}
use Rattle.std.specs.Prelude.{slice_get}
use Rattle.std.specs.Option.{option_map_or}
use Rattle.std.proofs.lemmas.List.{drop-drop}
use Rattle.gsl_words.specs.declared.module.Instr.{Instr}
use Rattle.gsl_valid.specs.Instruction.{read}
use Rattle.gsl_valid.specs.Kinds.{Place, On, OnMember, Decoration, decoration_of}
use Rattle.gsl_valid.specs.Placed.{Code}
use Rattle.gsl_valid.specs.Decorations.{stands_on, literals_if, literals_on}
use Rattle.gsl_decorations.specs.Firsts.{first_from}
use Rattle.gsl_decorations.specs.Marks.{mark_on, has_mark, literals_in, literals_of, literals_numbered}

at_front : (whole code : Code) (at : ℕ) (i : Instr) → drop at whole ≡ i ∷ code → slice_get whole at ≡ Some i
at_front [] code zero i e = absurd (cc)
at_front [] code (suc at) i e = absurd (cc)
at_front (j ∷ whole) code zero i e = let same : j ≡ i = cc in ap Some same
at_front (j ∷ whole) code (suc at) i e = at_front whole code at i e

abbrev pub stands : Place → ℕ → Instr → Bool
stands place kind i = option_map_or (stands_on place kind) (decoration_of (read i)) false

module _ (place : Place) (kind : ℕ) (whole : Code) where
  pub found : (code : Code) (at : ℕ) → drop at whole ≡ code → literals_numbered whole (first_from (stands place kind) at code) ≡ literals_on code place kind
  unfolding first_from
  found [] at e = refl
  found (i ∷ code) at e = by_decoration (decoration_of (read i)) refl (found code (at + 1) (sym (drop-drop 1 at whole) ∙ ap (drop 1) e))
    where
      by_test : (b : Bool) (d : Decoration) → decoration_of (read i) ≡ Some d → literals_numbered whole (first_from (stands place kind) (at + 1) code) ≡ literals_on code place kind →
          literals_numbered whole (cond b (Some at) (first_from (stands place kind) (at + 1) code)) ≡ literals_if b (Some d) (literals_on code place kind)
      by_test true d is later = ap literals_of (at_front whole code at i e) ∙ ap literals_in is
      by_test false d is later = later

      by_decoration : (d : Option Decoration) → decoration_of (read i) ≡ d → literals_numbered whole (first_from (stands place kind) (at + 1) code) ≡ literals_on code place kind →
          literals_numbered whole (cond (option_map_or (stands_on place kind) d false) (Some at) (first_from (stands place kind) (at + 1) code))
          ≡ literals_if (option_map_or (stands_on place kind) d false) d (literals_on code place kind)
      by_decoration None is later = later
      by_decoration (Some d) is later = by_test (stands_on place kind d) d is later

-- the place of a mark on a place is that
pub place_back : (place : Place) (kind : ℕ) → has_mark (mark_on place kind) ≡ stands place kind
place_back (On target) kind = refl
place_back (OnMember target member) kind = refl
