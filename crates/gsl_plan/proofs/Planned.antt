-- From what clap finds to a plan.
use Rattle.std.proofs.Common.{◌∙◌, ◌≡◌, ◌≢◌, ◌⊎◌, Bool, true, false, refl, sym, ap, subst, List, [], ◌∷◌, Option, Some, None, Result, Ok, Err, IfOk, IfErr, inl, inr, true≢false, codes, option_map}
use Rattle.std.specs.Prelude.{unwrap_or, option_and_then}
use Rattle.std.specs.Bool.{one_answer}
use Rattle.std.specs.List.{All}
use Rattle.std.specs.Str.{IsUtf8, bytes_eq}
use Rattle.std.proofs.lemmas.Slice.Eq.{bytes_eq-Decides}
use Rattle.clap.specs.Kinds.{FailsBy, HasKind, Kinds}
use Rattle.clap.specs.Faults.{fault_of, is_simple_and_free}
use Rattle.clap.specs.Matches.{matched_of, raw_values}
use Rattle.clap.specs.Simple.{App, HasMatchesOf, is_simple, subcommand_of, subcommand_rows_of}
use Rattle.clap.specs.Values.{kind_of}
use Rattle.clap.specs.Walk.{Row, Text, rows_of}
use Rattle.clap.specs.declared.error.Error.{Error}
use Rattle.clap.specs.declared.error.kind.ErrorKind.TheVariants.{OutOfMemory}
use Rattle.clap.specs.declared.parser.matches.ArgMatches.{ArgMatches}
use Rattle.clap.specs.declared.parser.matches.Found.{Found}
use Rattle.clap.proofs.OnLiterals.{clap_on_literals}
use Rattle.clap.proofs.WalkLemmas.{raw_values-rows}
use Rattle.gsl_plan.specs.Plan.{Arguments, Name, Plan, arguments, given, named, no_plan, plan_in, plan_of}
use Rattle.gsl_plan.specs.declared.command.Command.{Command}
use Rattle.gsl_base.specs.declared.memory.Memory.{Memory}
use Rattle.std.proofs.lemmas.Result.{IfOk-weaker}
use Rattle.gsl_plan.specs.Found.{arguments_in, found_in, grammar, operands_in, taken}
use Rattle.gsl_plan.proofs.Understood.{Understands, understood}
use Rattle.gsl_plan.proofs.Walked.{fails}

simple : is_simple grammar ≡ true
unfolding clap_on_literals
simple = refl

simple_and_free : is_simple_and_free grammar ≡ true
unfolding clap_on_literals
simple_and_free = refl

found_is : (o : Option (Name × Arguments)) (kinds : Kinds) (sub : Option (Text × List Row)) (m : ArgMatches) → Understands o kinds sub → kinds ≡ [] → subcommand_rows_of m ≡ sub
    → found_in m ≡ o
found_is None kinds sub m is none met = absurd (true≢false (sym is ∙ ap fails none))
found_is (Some p) kinds sub m is none met = ap (option_map (λ (q : Text × List Row). (q.0, arguments_in q.1))) met ∙ is.1

refused_is : (o : Option (Name × Arguments)) (kinds : Kinds) (sub : Option (Text × List Row)) (e : Error) → Understands o kinds sub → HasKind kinds e
    → (kind_of e ≡ OutOfMemory) ⊎ (o ≡ None)
refused_is o kinds sub e is (inl memory) = inl memory
refused_is None kinds sub e is (inr among) = inr refl
refused_is (Some p) [] sub e is (inr among) = absurd among
refused_is (Some p) (k ∷ ks) sub e is (inr among) = absurd (true≢false (ap fails is.0))

module _ (r : Result ArgMatches Error) (a : App) (words : List Name) (is : a ≡ grammar) (utf8 : All IsUtf8 words)
    (kinds : is_simple_and_free a ≡ true → FailsBy (fault_of a words) r) where
  faults : FailsBy (fault_of grammar words) r
  faults = subst (λ b. FailsBy (fault_of b words) r) is (kinds (ap is_simple_and_free is ∙ simple_and_free))

  pub matched : IfOk r (HasMatchesOf a words) → IfOk r (λ m. found_in m ≡ taken words)
  matched = go r faults
    where
      go : (s : Result ArgMatches Error) → FailsBy (fault_of grammar words) s → IfOk s (HasMatchesOf a words) → IfOk s (λ m. found_in m ≡ taken words)
      go (Ok m) none has = found_is (taken words) _ _ m (understood words utf8) none ((has (ap is_simple is ∙ simple)).1 ∙ ap (λ b. subcommand_of b words) is)
      go (Err e) none has = tt

  pub refused : IfErr r (λ e. (kind_of e ≡ OutOfMemory) ⊎ (taken words ≡ None))
  refused = go r faults
    where
      go : (s : Result ArgMatches Error) → FailsBy (fault_of grammar words) s → IfErr s (λ e. (kind_of e ≡ OutOfMemory) ⊎ (taken words ≡ None))
      go (Ok m) none = tt
      go (Err e) some = refused_is (taken words) _ _ e (understood words utf8) some

-- ---- what is found is the plan

pub operands_are : (f : Found) (o : Option (List Name)) → o ≡ option_map raw_values (matched_of f (codes "operands")) → unwrap_or o [] ≡ operands_in (rows_of f)
operands_are f o is = ap (λ (x : Option (List Name)). unwrap_or x []) (is ∙ raw_values-rows f (codes "operands"))

turned : (known word : Name) → bytes_eq word known ≡ bytes_eq known word
turned known word = one_answer _ _ (bytes_eq-Decides word known) (λ is. sym ((bytes_eq-Decides known word).0 is), λ is. (bytes_eq-Decides known word).1 (sym is))

abbrev pub planned : Option (Name × Arguments) → Option Plan
planned = option_and_then (λ p. named p.0 p.1.0 p.1.1)

pub planned_is : (words : List Name) → planned (taken words) ≡ plan_of words
planned_is [] = refl
planned_is (name ∷ []) = refl
planned_is (name ∷ command ∷ words) =
    go (bytes_eq (codes "compile") command) (bytes_eq (codes "dis") command) (bytes_eq (codes "asm") command) (bytes_eq (codes "check") command)
    (bytes_eq (codes "exec") command) (bytes_eq (codes "run") command) refl refl refl refl refl refl
  where
    each : (o : Option Arguments) → planned (option_map (λ p. (command, p)) o) ≡ given o (named command)
    each None = refl
    each (Some p) = refl

    no_other : (o : Option Arguments) → ((value : Option Name) (more : List Name) → named command value more ≡ None) → None ≡ given o (named command)
    no_other None none = refl
    no_other (Some p) none = sym (none p.0 p.1)

    not_named : (known : Name) → bytes_eq known command ≡ false → bytes_eq command known ≡ false
    not_named known is = turned known command ∙ is

    go : (c d a k x r : Bool) → bytes_eq (codes "compile") command ≡ c → bytes_eq (codes "dis") command ≡ d → bytes_eq (codes "asm") command ≡ a
        → bytes_eq (codes "check") command ≡ k → bytes_eq (codes "exec") command ≡ x → bytes_eq (codes "run") command ≡ r → planned (taken (name ∷ command ∷ words)) ≡ plan_of (name ∷ command ∷ words)
    go true d a k x r is_c is_d is_a is_k is_x is_r = rw is_c (each (arguments command words))
    go false true a k x r is_c is_d is_a is_k is_x is_r = rw (is_c, is_d) (each (arguments command words))
    go false false true k x r is_c is_d is_a is_k is_x is_r = rw (is_c, is_d, is_a) (each (arguments command words))
    go false false false true x r is_c is_d is_a is_k is_x is_r = rw (is_c, is_d, is_a, is_k) (each (arguments command words))
    go false false false false true r is_c is_d is_a is_k is_x is_r = rw (is_c, is_d, is_a, is_k, is_x) (each (arguments command words))
    go false false false false false true is_c is_d is_a is_k is_x is_r = rw (is_c, is_d, is_a, is_k, is_x, is_r) (each (arguments command words))
    go false false false false false false is_c is_d is_a is_k is_x is_r =
        rw (is_c, is_d, is_a, is_k, is_x, is_r) (no_other (arguments command words) (λ value more.
        rw (not_named (codes "compile") is_c, not_named (codes "dis") is_d, not_named (codes "asm") is_a, not_named (codes "check") is_k, not_named (codes "exec") is_x, not_named (codes "run") is_r)
        refl))

pub found_plan : (words : List Name) (r : Result Command Memory) (o : Option (Name × Arguments)) → o ≡ taken words → IfOk r (λ found. plan_in found ≡ planned o)
    → IfOk r (λ found. plan_in found ≡ plan_of words)
found_plan words r o is made = IfOk-weaker r _ _ (λ found here. here ∙ ap planned is ∙ planned_is words) made

pub refused_plan : (words : List Name) (r : Result Command Memory) (e : Error) → (kind_of e ≡ OutOfMemory) ⊎ (taken words ≡ None) → IfOk r (λ found. plan_in found ≡ no_plan)
    → IfOk r (λ found. kind_of e ≢ OutOfMemory) → IfOk r (λ found. plan_in found ≡ plan_of words)
refused_plan words (Err m) e why none cause = tt
refused_plan words (Ok found) e (inl memory) none cause = absurd (cause memory)
refused_plan words (Ok found) e (inr is) none cause = none ∙ ap planned (sym is) ∙ planned_is words
