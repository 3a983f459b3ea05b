-- What an id stands for has as many words as its type tells.
use Rattle.std.proofs.Common.{◌≡◌, refl, sym, ap, ◌∙◌, ℕ, List, length, Option, Some, None}
use Rattle.gsl_words.specs.declared.module.Module.{Module}
use Rattle.gsl_valid.specs.Search.{whole}
use Rattle.gsl_valid.specs.Types.{Target, defined_as, target_of}
use Rattle.gsl_machine.specs.State.{Held, InBlock, InVariable, Pointer, Points, Whole}
use Rattle.gsl_leaves_law.proofs.Counted.{counted_in}
use Rattle.gsl_sound_code.proofs.Looks.{Kept}
use Rattle.gsl_sound_types.specs.Typed.{IsAs, IsOfType}
use Rattle.gsl_sound_types.proofs.Holding.{of_value, shaped_nowhere}
use Rattle.gsl_frames.specs.Frames.{held_words, words_by}
use Rattle.gsl_shown.specs.Shown.{held_as}

pub held_counted : (m : Module) (kept : Kept m) (types : List ℕ) (type : ℕ) (held : Held) → IsOfType m types type held → length (held_as m types held) ≡ held_words m type
held_counted m kept types type (Whole v) of =
    let shaped = of_value m kept types type v of in
    counted_in m (whole m) type v shaped ∙ sym (ap (words_by m type) (shaped_nowhere m kept types type v shaped))
held_counted m kept types type (Points to) of = by_target (target_of (defined_as m type)) of ∙ refl
  where
    three : (to : Pointer) → length (held_as m types (Points to)) ≡ 3
    three (InBlock variable offset pointee) = refl
    three (InVariable number path) = refl

    by_target : (o : Option Target) → IsAs m types type o (Points to) → length (held_as m types (Points to)) ≡ words_by m type o
    by_target None of = absurd of
    by_target (Some t) of = three to
