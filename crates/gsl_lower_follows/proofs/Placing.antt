-- Where code stands that a builder holds.
use Rattle.std.proofs.Common.{◌≡◌, refl, sym, ap, ◌∙◌, ℕ, suc, ◌+◌, ◌-◌, [], ◌∷◌, ◌++◌, drop, length, append_assoc, arith}
use Rattle.std.proofs.lemmas.List.{append_cancel_left, length-append}
use Rattle.gsl_base.specs.declared.input.Input.{Input}
use Rattle.gsl_words.specs.Instructions.{word_count}
use Rattle.gsl_words.specs.declared.module.Module.{Module}
use Rattle.gsl_valid.specs.Placed.{Code, placed_from, words_from}
use Rattle.gsl_spv.specs.Growing.{Extends}
use Rattle.gsl_spv.specs.Sections.{Sections}
use Rattle.gsl_spv.proofs.Extending.{extends_then}
use Rattle.gsl_lower_follows.specs.Frames.{Frame, Inside, body, coming}

drop_placed : (first : ℕ) (a b : Code) → drop (length a) (placed_from first (a ++ b)) ≡ placed_from (words_from first a) b
drop_placed first [] b = refl
drop_placed first (i ∷ a) b = drop_placed (first + word_count i) a b

pub placed_length : (first : ℕ) (code : Code) → length (placed_from first code) ≡ length code
placed_length first [] = refl
placed_length first (i ∷ code) = ap suc (placed_length (first + word_count i) code)

pub placed_join : (first : ℕ) (a b : Code) → placed_from first (a ++ b) ≡ placed_from first a ++ placed_from (words_from first a) b
placed_join first [] b = refl
placed_join first (i ∷ a) b = ap (λ l. record { at = first; instr = i } ∷ l) (placed_join (first + word_count i) a b)

module _ (m : Module) (input : Input) (whole : Sections) (f : Frame m input whole) where
  -- what is still to come behind what a builder holds
  pub coming_is : (b : Sections) (here : Inside m input whole f b) → coming m input whole f b ≡ placed_from (words_from f.first here.done) here.more
  coming_is b here =
      let n : length b.functions - length f.before ≡ length here.done = (let e : length b.functions ≡ length f.before + length here.done = ap length here.is ∙ length-append f.before here.done in omega (arith, e)) in
      ap (λ k. drop k (body m input whole f)) n ∙ ap (λ l. drop (length here.done) (placed_from f.first l)) here.all ∙ drop_placed f.first here.done here.more

  -- what is held between two that are inside, is inside
  pub inside_between : (b between later : Sections) → Inside m input whole f b → Inside m input whole f later → Extends b between → Extends between later → Inside m input whole f between
  inside_between b between later first last p q = record {
    extends = extends_then q last.extends;
    done = first.done ++ p.functions.more;
    more = q.functions.more ++ last.more;
    is = held;
    all = last.all ∙ ap (λ l. l ++ last.more) (append_cancel_left f.before last.done ((first.done ++ p.functions.more) ++ q.functions.more)
        (sym last.is ∙ q.functions.is ∙ ap (λ l. l ++ q.functions.more) held ∙ append_assoc f.before (first.done ++ p.functions.more) q.functions.more))
        ∙ append_assoc (first.done ++ p.functions.more) q.functions.more last.more;
  }
    where
      held : between.functions ≡ f.before ++ (first.done ++ p.functions.more)
      held = p.functions.is ∙ ap (λ l. l ++ p.functions.more) first.is ∙ append_assoc f.before first.done p.functions.more

  -- what is still to come before instructions that were put, is these and what is to come behind them
  pub coming_before : (b later : Sections) (code : Code) → Inside m input whole f b → Inside m input whole f later → later.functions ≡ b.functions ++ code
      → (at : ℕ) × (coming m input whole f b ≡ placed_from at code ++ coming m input whole f later)
  coming_before b later code here there puts =
      let at = words_from f.first here.done in
      let done : there.done ≡ here.done ++ code = append_cancel_left f.before there.done (here.done ++ code) (sym there.is ∙ puts ∙ ap (λ l. l ++ code) here.is ∙ append_assoc f.before here.done code) in
      let more : here.more ≡ code ++ there.more = append_cancel_left here.done here.more (code ++ there.more) (sym here.all ∙ there.all ∙ ap (λ l. l ++ there.more) done ∙ append_assoc here.done code there.more) in
      let words : words_from at code ≡ words_from f.first there.done = sym (words_on f.first here.done code) ∙ ap (words_from f.first) (sym done) in
      (at, coming_is b here ∙ ap (placed_from at) more ∙ placed_join at code there.more ∙ ap (λ l. placed_from at code ++ l) (ap (λ n. placed_from n there.more) words ∙ sym (coming_is later there)))
    where
      words_on : (first : ℕ) (a b : Code) → words_from first (a ++ b) ≡ words_from (words_from first a) b
      words_on first [] b = refl
      words_on first (i ∷ a) b = words_on (first + word_count i) a b
