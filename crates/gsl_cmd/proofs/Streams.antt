-- What streams gained, and faults that rose.
use Rattle.std.proofs.Common.{◌≡◌, ℕ, List, [], ◌++◌, Option, Some, None, ap, sym, subst, ◌∙◌, arith, inl, inr, append-nil, length}
use Rattle.std.specs.Option.{option_map}
use Rattle.std.proofs.Math.Seq.{take-length}
use Rattle.gsl_host.specs.declared.target.Stream.TheVariants as stream
use Rattle.gsl_host.specs.declared.target.Target.{Target}
use Rattle.gsl_host.specs.declared.target.Target.TheVariants.{Printing}
use Rattle.gsl_host.specs.Outside.{Appends, AppendsSome, NeverFall, Rose}
use Rattle.gsl_cmd.specs.Performs.{Prints}

pub appends_none : (before after : Option (List ℕ)) → after ≡ before → Appends before after []
appends_none None after same = same
appends_none (Some shown) after same = same ∙ ap Some (sym (append-nil shown))

-- nothing was printed
pub appends_no_text : (before after : Option (List ℕ)) (text : List ℕ) → text ≡ [] → after ≡ before → Appends before after text
appends_no_text before after text none same = subst (Appends before after) (sym none) (appends_none before after same)

pub appends_some : (before after : Option (List ℕ)) (text : List ℕ) → after ≡ before → AppendsSome before after text
appends_some before after text same = (0, appends_none before after same)

-- what has gained all has gained some first part
pub appends_part : (before after : Option (List ℕ)) (text : List ℕ) → Appends before after text → AppendsSome before after text
appends_part before after text all = (length text, all ∙ ap (λ (t : List ℕ). option_map (λ shown. shown ++ t) before) (sym (take-length text)))

-- what rises later has risen over all
pub later_rise : (first then last : Target → ℕ) (target : Target) → NeverFall first then → Rose then last target → Rose first last target
later_rise first then last target never rose = omega (arith, never target)

-- what rose earlier has risen over all
pub earlier_rise : (first then last : Target → ℕ) (target : Target) → Rose first then target → NeverFall then last → Rose first last target
earlier_rise first then last target rose never = omega (arith, never target)

-- what was printed later was printed over all
pub prints_over : (first then last : Target → ℕ) (before after : Option (List ℕ)) (text : List ℕ) → NeverFall first then →
    Prints then last stream.Err before after text → Prints first last stream.Err before after text
prints_over first then last before after text never (inl whole) = inl whole
prints_over first then last before after text never (inr (rose, part)) = inr (later_rise first then last (Printing stream.Err) never rose, part)
