-- What the body of a `switch` stands for is well typed.
use Rattle.std.proofs.Common.{◌≡◌, refl, sym, ap, ◌∙◌, subst, ℕ, ◌+◌, ◌≤◌, ◌<◌, List, [], ◌∷◌, ◌++◌, length, Option, Some, None, is_some, Bool, true, false, not, ◌&&◌, ◌||◌, IsTrue, Ok, arith, if◌then◌else◌, nat_eq, append_assoc, append-nil, ◌^◌}
use Rattle.std.specs.List.{AllByRecursion, list_any, list_all}
use Rattle.std.proofs.lemmas.Bool.{and_parts, or_parts, or_from, leb-true}
use Rattle.gsl_base.specs.Checked.{◌>>=◌}
use Rattle.gsl_base.specs.declared.fault.Place.{Place}
use Rattle.gsl_base.specs.declared.fault.Code.TheVariants.{E0504, E0507, E0511, E0601, E0602, E0908}
use Rattle.gsl_syntax.specs.declared.expr.Expr.{Expr as Phrase}
use Rattle.gsl_types.specs.declared.ty.Ty.{Ty}
use Rattle.gsl_types.proofs.Layers.{sound_stays}
use Rattle.gsl_overload.proofs.Same.{no_more}
use Rattle.gsl_tree.specs.declared.folded.Folded.{Folded}
use Rattle.gsl_tree.specs.declared.folded.Folded.TheVariants.{Known, NotConstant, Free}
use Rattle.gsl_tree.specs.declared.stmt.Stmt.{Stmt}
use Rattle.gsl_tree.specs.declared.stmt.Stmt.TheOpen.{Stmt-F}
use Rattle.gsl_tree.specs.declared.stmt.Stmt.TheVariants as stmt
use Rattle.gsl_tree.specs.declared.stmt.Stmt.TheVariants.{outs-Switch}
use Rattle.gsl_tree.specs.declared.stmt.Arm.{Arm, out-Arm}
use Rattle.gsl_tree.specs.Constants.{constant_of}
use Rattle.gsl_tree.specs.Trees.{Exits, Placed, with_exits, bodies, AlongAll}
use Rattle.gsl_tree.specs.Trees as trees
use Rattle.gsl_tree.specs.Paths.{repeats}
use Rattle.gsl_tree.specs.Statements.{labels_of, defaults_in, one_more, most_labels, IsArm, AreArms, IsStep, IsStmt}
use Rattle.gsl_typing.specs.declared.scene.Scene.{Scene}
use Rattle.gsl_typing.specs.declared.scene.Part.{Part}
use Rattle.gsl_typing.specs.Scene.{around, type_in}
use Rattle.gsl_typing.specs.Conversions.{serves_as}
use Rattle.gsl_typing.specs.Uses.{is_unread}
use Rattle.gsl_makers.specs.Paths.{is_index}
use Rattle.gsl_check_expr.specs.declared.env.Env.{Env}
use Rattle.gsl_check_expr.specs.Expressions.{taken_expression}
use Rattle.gsl_check_expr.specs.Sizes.{is_not_constant, is_left_open, word_of}
use Rattle.gsl_check_decl.specs.Declaring.{is_empty}
use Rattle.gsl_check_decl.specs.Steps.{opened, closed}
use Rattle.gsl_check_decl.proofs.Gathering.{Holds, holds_after}
use Rattle.gsl_check_stmt.specs.declared.within.Within.{Within}
use Rattle.gsl_check_stmt.specs.declared.gathered.Gathered.{Gathered}
use Rattle.gsl_check_stmt.specs.Switches.{nothing, last_arm, behind_arm, at_label, with_case, with_default, with_stmt, is_blank, all_arms, is_known, has_word, constant_word, case_word, default_label, is_arm, are_arms, has_many, switched}
use Rattle.gsl_check_stmt.specs.Statements.{Label, Case, Default, Answer, case_label, labelled, stated, item, items, arms, switch_head, switch, in_switch}
use Rattle.gsl_formed.specs.Formed.{IsFormed}
use Rattle.gsl_check_law.specs.Labels.{exits_of, AreWords}
use Rattle.gsl_check_law.specs.Parts.{IsTaken}
use Rattle.gsl_check_law.specs.Scenes.{IsScene, IsEnv}
use Rattle.gsl_check_law.proofs.Rows.{row, not_false, both}
use Rattle.gsl_check_law.proofs.Places.{index_is, index_settled}
use Rattle.gsl_check_law.proofs.Parts.{may_be_read}
use Rattle.gsl_check_law.proofs.Phrases.{taken_is}
use Rattle.gsl_check_law.proofs.Longer.{Grows, grows_itself, grows_then}
use Rattle.gsl_check_law.proofs.Growing.{expr_grows, written_grows}
use Rattle.gsl_check_law.proofs.Standing.{stmts_grow}
use Rattle.gsl_check_law.proofs.Declarators.{Did, stmt_at}
use Rattle.gsl_check_law.proofs.Stated.{opened_env, closed_env, HasResult, keeps_result, StepIs}
use Rattle.gsl_check_law.specs.Small.{IsSmallFolded}
use Rattle.gsl_check_law.proofs.Counted.{constant_small}
use Rattle.gsl_check_law.proofs.Sizing.{word_of_small}

-- ---- labels that differ

any_push : (p : ℕ) (ws : List ℕ) (w : ℕ) → list_any (λ q. nat_eq p q) ws ≡ false → nat_eq p w ≡ false → list_any (λ q. nat_eq p q) (ws ++ w ∷ []) ≡ false
any_push p [] w none differ = or_from (nat_eq p w) false differ refl
any_push p (x ∷ ws) w none differ =
    let parts = or_parts (nat_eq p x) (list_any (λ q. nat_eq p q) ws) none in
    or_from (nat_eq p x) (list_any (λ q. nat_eq p q) (ws ++ w ∷ [])) parts.0 (any_push p ws w parts.1 differ)

pub differ_push : (ws : List ℕ) (w : ℕ) → repeats ws ≡ false → has_word ws w ≡ false → repeats (ws ++ w ∷ []) ≡ false
differ_push [] w apart new = refl
differ_push (p ∷ ws) w apart new =
    let parts = or_parts (list_any (λ q. nat_eq p q) ws) (repeats ws) apart in
    let news = or_parts (nat_eq p w) (list_any (λ other. nat_eq other w) ws) new in
    or_from (list_any (λ q. nat_eq p q) (ws ++ w ∷ [])) (repeats (ws ++ w ∷ [])) (any_push p ws w parts.0 news.0) (differ_push ws w parts.1 news.1)

-- ---- arms with one more

labels_push : (all : List Arm) (a : Arm) → labels_of (all ++ a ∷ []) ≡ labels_of all ++ (out-Arm a).labels
labels_push [] a = append-nil (out-Arm a).labels
labels_push (x ∷ all) a = ap (λ l. (out-Arm x).labels ++ l) (labels_push all a) ∙ sym (append_assoc (out-Arm x).labels (labels_of all) (out-Arm a).labels)

one_more_is : (b : Bool) (n : ℕ) → one_more b n ≡ n + one_more b 0
one_more_is true n = omega arith
one_more_is false n = omega arith

defaults_push : (all : List Arm) (a : Arm) → defaults_in (all ++ a ∷ []) ≡ defaults_in all + one_more (out-Arm a).is_default 0
defaults_push [] a = one_more_is (out-Arm a).is_default 0
defaults_push (x ∷ all) a =
    ap (one_more (out-Arm x).is_default) (defaults_push all a) ∙ one_more_is (out-Arm x).is_default (defaults_in all + one_more (out-Arm a).is_default 0)
    ∙ (let n = defaults_in all in
    let m = one_more (out-Arm a).is_default 0 in
    let k = one_more (out-Arm x).is_default 0 in
    let e : (n + m) + k ≡ (n + k) + m = omega arith in e)
    ∙ ap (λ n. n + one_more (out-Arm a).is_default 0) (sym (one_more_is (out-Arm x).is_default (defaults_in all)))

bodies_push : (all : List Arm) (a : Arm) → bodies (all ++ a ∷ []) ≡ bodies all ++ (out-Arm a).body
bodies_push [] a = append-nil (out-Arm a).body
bodies_push (x ∷ all) a = ap (λ l. (out-Arm x).body ++ l) (bodies_push all a) ∙ sym (append_assoc (out-Arm x).body (bodies all) (out-Arm a).body)

-- ---- what is read so far

-- the labels are those of the arms and of the one that is read, they differ, and at most one is `default`
pub record Labelled (g : Gathered) : Type 0 where
  pub words : labels_of g.arms ++ g.labels ≡ g.words
  pub differ : repeats g.words ≡ false
  pub defaults : defaults_in g.arms + one_more g.is_default 0 ≡ one_more g.has_default 0
  pub small : AreWords g.words

nothing_labelled : Labelled nothing
nothing_labelled = record { words = refl; differ = refl; defaults = omega arith; small = tt }

behind_labelled : (g : Gathered) → Labelled g → Labelled (behind_arm g)
behind_labelled g is = record {
  words = append-nil (labels_of (g.arms ++ last_arm g ∷ [])) ∙ labels_push g.arms (last_arm g) ∙ is.words;
  differ = is.differ;
  defaults = (let e : defaults_in (g.arms ++ last_arm g ∷ []) + 0 ≡ defaults_in (g.arms ++ last_arm g ∷ []) = omega arith in e) ∙ defaults_push g.arms (last_arm g) ∙ is.defaults;
  small = is.small;
}

at_labelled : (g : Gathered) (b : Bool) → Labelled g → Labelled (if b then g else behind_arm g)
at_labelled g true is = is
at_labelled g false is = behind_labelled g is

words_kept : (g : Gathered) (b : Bool) → (if b then g else behind_arm g).words ≡ g.words
words_kept g true = refl
words_kept g false = refl

has_kept : (g : Gathered) (b : Bool) → (if b then g else behind_arm g).has_default ≡ g.has_default
has_kept g true = refl
has_kept g false = refl

words_push : (ws : List ℕ) (w : ℕ) → AreWords ws → w < 2 ^ 32 → AreWords (ws ++ w ∷ [])
words_push [] w all few = (few, tt)
words_push (x ∷ ws) w all few = (all.0, words_push ws w all.1 few)

case_labelled : (g : Gathered) (w : ℕ) → w < 2 ^ 32 → Labelled g → has_word g.words w ≡ false → Labelled (with_case g w)
unfolding with_case
case_labelled g w few is new =
    let h = at_label g in
    let there = at_labelled g (is_empty g.body) is in
    let same : h.words ≡ g.words = words_kept g (is_empty g.body) in
    record {
      words = sym (append_assoc (labels_of h.arms) h.labels (w ∷ [])) ∙ ap (λ l. l ++ w ∷ []) there.words;
      differ = differ_push h.words w there.differ (ap (λ ws. has_word ws w) same ∙ new);
      defaults = there.defaults;
      small = words_push h.words w there.small few;
    }

no_default : (d n : Bool) → d ≡ false → (k : ℕ) → k + one_more n 0 ≡ one_more d 0 → k + 1 ≡ 1
no_default true n is k same = no_more (sym is)
no_default false n is k same = omega (arith, same)

default_labelled : (g : Gathered) → Labelled g → g.has_default ≡ false → Labelled (with_default g)
unfolding with_default
default_labelled g is new =
    let h = at_label g in
    let there = at_labelled g (is_empty g.body) is in
    record {
      words = there.words;
      differ = there.differ;
      defaults = no_default h.has_default h.is_default (has_kept g (is_empty g.body) ∙ new) (defaults_in h.arms) there.defaults;
      small = there.small;
    }

stmt_labelled : (g : Gathered) (s : Stmt) → Labelled g → Labelled (with_stmt g s)
unfolding with_stmt
stmt_labelled g s is = record { words = is.words; differ = is.differ; defaults = is.defaults; small = is.small }

-- ---- the arms at the end

empty_is : {A : Type 0} (xs : List A) → IsTrue (is_empty xs) → xs ≡ []
empty_is [] is = refl
empty_is (x ∷ xs) is = no_more is

some_is : {A : Type 0} (xs : List A) → IsTrue (not (is_empty xs)) → 0 < length xs
some_is [] is = no_more is
some_is (x ∷ xs) is = omega arith

labels_some : (d : Bool) (labels : List ℕ) → IsTrue (not (is_empty labels) || d) → 0 < one_more d (length labels)
labels_some true labels is = omega arith
labels_some false [] is = no_more is
labels_some false (w ∷ labels) is = omega arith

front_words : (xs ys : List ℕ) → AreWords (xs ++ ys) → AreWords xs × AreWords ys
front_words [] ys all = (tt, all)
front_words (x ∷ xs) ys all = let rest = front_words xs ys all.1 in ((all.0, rest.0), rest.1)

arm_is : (a : Arm) → IsTrue (is_arm a) → AreWords (out-Arm a).labels → IsArm a
arm_is a is words =
    let parts = and_parts (not (is_empty (out-Arm a).labels) || (out-Arm a).is_default) (not (is_empty (out-Arm a).body)) is in
    record { labelled = labels_some (out-Arm a).is_default (out-Arm a).labels parts.0; words = words; filled = some_is (out-Arm a).body parts.1 }

all_arms_are : (all : List Arm) → IsTrue (list_all is_arm all) → AreWords (labels_of all) → AllByRecursion IsArm all
all_arms_are [] is words = tt
all_arms_are (a ∷ all) is words =
    let parts = and_parts (is_arm a) (list_all is_arm all) is in
    let both_are = front_words (out-Arm a).labels (labels_of all) words in
    (arm_is a parts.0 both_are.0, all_arms_are all parts.1 both_are.1)

-- what all arms have together
pub record Together (g : Gathered) (all : List Arm) : Type 0 where
  pub words : labels_of all ≡ g.words
  pub defaults : defaults_in all ≡ one_more g.has_default 0
  pub bodies_are : bodies all ≡ bodies g.arms ++ g.body

together_by : (g : Gathered) (b : Bool) → is_blank g ≡ b → Labelled g → Together g (if b then g.arms else (behind_arm g).arms)
together_by g false blank is = record {
  words = labels_push g.arms (last_arm g) ∙ is.words;
  defaults = defaults_push g.arms (last_arm g) ∙ is.defaults;
  bodies_are = bodies_push g.arms (last_arm g);
}
together_by g true blank is =
    let parts = and_parts (is_empty g.labels && not g.is_default) (is_empty g.body) blank in
    let front = and_parts (is_empty g.labels) (not g.is_default) parts.0 in
    record {
      words = sym (append-nil (labels_of g.arms)) ∙ ap (λ l. labels_of g.arms ++ l) (sym (empty_is g.labels front.0)) ∙ is.words;
      defaults = none_more (defaults_in g.arms) g.is_default front.1 ∙ is.defaults;
      bodies_are = sym (append-nil (bodies g.arms)) ∙ ap (λ l. bodies g.arms ++ l) (sym (empty_is g.body parts.1));
    }
  where
    none_more : (k : ℕ) (d : Bool) → IsTrue (not d) → k ≡ k + one_more d 0
    none_more k false is = omega arith
    none_more k true is = no_more is

together : (g : Gathered) → Labelled g → Together g (all_arms g)
unfolding all_arms
together g is = together_by g (is_blank g) refl is

one_default : (b : Bool) → one_more b 0 ≤ 1
one_default true = omega arith
one_default false = omega arith

arms_are : (g : Gathered) → Labelled g → IsTrue (are_arms (all_arms g)) → has_many g.words g.has_default ≡ false → AreArms (all_arms g)
unfolding are_arms has_many
arms_are g is each few =
    let all = together g is in
    let most = leb-true (one_more g.has_default (length g.words)) most_labels (not_false _ few) in
    record {
      each = all_arms_are (all_arms g) each (subst AreWords (sym all.words) is.small);
      differ = ap (λ ws. not (repeats ws)) all.words ∙ ap not is.differ;
      default = subst (λ n. n ≤ 1) (sym all.defaults) (one_default g.has_default);
      count = subst (λ n. n ≤ most_labels) (one_more_is g.has_default (length g.words) ∙ ap (λ n. n + one_more g.has_default 0) (ap (λ (l : List ℕ). length l) (sym all.words)) ∙ ap (λ n. length (labels_of (all_arms g)) + n) (sym all.defaults)) most;
    }

-- ---- statements along

with_append : (exits : Exits) (xs ys : List Stmt) (P : Exits → Stmt → Type 0) → AlongAll P (with_exits exits xs) → AlongAll P (with_exits exits ys) → AlongAll P (with_exits exits (xs ++ ys))
with_append exits [] ys P first second = second
with_append exits (x ∷ xs) ys P (AlongAll.more _ _ is rest) second = AlongAll.more (exits, x) (with_exits exits (xs ++ ys)) is (with_append exits xs ys P rest second)

module _ (result : Ty) (within : Within) where
  abbrev exits : Exits
  exits = exits_of within

  abbrev inner : Exits
  inner = trees.in_switch (exits_of within)

  -- what is read so far, over what was declared before the body
  record Read (before : Env) (done : Gathered × Env) : Type 0 where
    env : IsEnv done.1
    grows : Grows before.scene done.1.scene
    labelled : Labelled done.0
    arms : AlongAll (IsStep (around done.1.scene) result) (with_exits inner (bodies done.0.arms))
    body : AlongAll (IsStep (around done.1.scene) result) (with_exits inner done.0.body)

  -- behind a label
  moved : (before : Env) (g : Gathered) (env : Env) (b : Bool) → Read before (g, env) → AlongAll (IsStep (around env.scene) result) (with_exits inner (bodies (if b then g else behind_arm g).arms)) × AlongAll (IsStep (around env.scene) result) (with_exits inner (if b then g else behind_arm g).body)
  moved before g env true is = (is.arms, is.body)
  moved before g env false is =
      (subst (λ l. AlongAll (IsStep (around env.scene) result) (with_exits inner l)) (sym (bodies_push g.arms (last_arm g))) (with_append inner (bodies g.arms) g.body (IsStep (around env.scene) result) is.arms is.body), AlongAll.none)

  read_case : (before : Env) (g : Gathered) (env : Env) (w : ℕ) → w < 2 ^ 32 → Read before (g, env) → has_word g.words w ≡ false → Read before (with_case g w, env)
  unfolding with_case
  read_case before g env w few is new =
      let m = moved before g env (is_empty g.body) is in
      let l = case_labelled g w few is.labelled new in
      record { env = is.env; grows = is.grows; labelled = l; arms = m.0; body = m.1 }

  read_default : (before : Env) (g : Gathered) (env : Env) → Read before (g, env) → g.has_default ≡ false → Read before (with_default g, env)
  unfolding with_default
  read_default before g env is new =
      let m = moved before g env (is_empty g.body) is in
      let l = default_labelled g is.labelled new in
      record { env = is.env; grows = is.grows; labelled = l; arms = m.0; body = m.1 }

  read_stmt : (before : Env) (g : Gathered) (env : Env) (done : Stmt × Env) → Read before (g, env) → Did result inner env done → Read before (with_stmt g done.0, done.1)
  unfolding with_stmt
  read_stmt before g env done is did =
      let grow = stmts_grow env.scene done.1.scene is.env.scene did.grows result in
      record {
        env = did.env;
        grows = grows_then before.scene env.scene done.1.scene is.grows did.grows;
        labelled = stmt_labelled g done.0 is.labelled;
        arms = grow (with_exits inner (bodies g.arms)) is.arms;
        body = with_append inner g.body (done.0 ∷ []) (IsStep (around done.1.scene) result) (grow (with_exits inner g.body) is.body) (AlongAll.more (inner, done.0) [] did.stmt AlongAll.none);
      }

  known_new : (f : Folded) (h : Bool) → (is_known f && h) ≡ false → is_not_constant f ≡ false → is_left_open f ≡ false → h ≡ false
  known_new (Known v) h both not_constant open_ = both
  known_new NotConstant h both not_constant open_ = no_more (sym not_constant)
  known_new Free h both not_constant open_ = no_more (sym open_)

  -- a word below 2^32 that none of these is
  abbrev NewWord : List ℕ → ℕ → Type 0
  NewWord words w = (has_word words w ≡ false) × (w < 2 ^ 32)

  word_new : (scene : Scene) (words : List ℕ) (place : Place) (x : Part) → IsSmallFolded (constant_of scene.consts x.expr) → Holds (NewWord words) (constant_word scene words place x)
  word_new scene words place x small =
      row (NewWord words) place E0511 (is_known (constant_of scene.consts x.expr) && has_word words (word_of scene x)) ((E0601, is_not_constant (constant_of scene.consts x.expr)) ∷ (E0602, is_left_open (constant_of scene.consts x.expr)) ∷ []) (Ok (word_of scene x))
      (λ new. row (NewWord words) place E0601 (is_not_constant (constant_of scene.consts x.expr)) ((E0602, is_left_open (constant_of scene.consts x.expr)) ∷ []) (Ok (word_of scene x))
      (λ constant. row (NewWord words) place E0602 (is_left_open (constant_of scene.consts x.expr)) [] (Ok (word_of scene x))
      (λ settled. (known_new (constant_of scene.consts x.expr) (has_word words (word_of scene x)) new constant settled, word_of_small scene x small))))

  case_new : (scene : Scene) (selector : Ty) (g : Gathered) (place : Place) (x : Part) → IsSmallFolded (constant_of scene.consts x.expr) → Holds (NewWord g.words) (case_word scene selector g place x)
  unfolding case_word
  case_new scene selector g place x small =
      row (NewWord g.words) place E0504 (not (serves_as (type_in x) selector)) ((E0507, is_unread scene x) ∷ []) (constant_word scene g.words place x)
      (λ _. row (NewWord g.words) place E0507 (is_unread scene x) [] (constant_word scene g.words place x) (λ _. word_new scene g.words place x small))

  -- the label that a statement is, if it is one
  abbrev pub LabelIs : Option Label → Type 0
  LabelIs None = Unit {0}
  LabelIs (Some (Case place e)) = IsFormed e
  LabelIs (Some (Default place)) = Unit {0}

  label_read : (before : Env) (selector : Ty) (label : Option Label) (g : Gathered) (env : Env) → LabelIs label → Read before (g, env) → Holds (λ (h : Gathered). Read before (h, env)) (labelled selector label g env)
  unfolding labelled case_label default_label
  label_read before selector None g env formed is = is
  label_read before selector (Some (Case place e)) g env formed is =
      holds_after (IsTaken env.scene) (λ (h : Gathered). Read before (h, env)) (taken_expression env e) (λ x. case_word env.scene selector g place x >>= (λ word. Ok (with_case g word))) (taken_is env is.env e formed)
      (λ x taken. holds_after (NewWord g.words) (λ (h : Gathered). Read before (h, env)) (case_word env.scene selector g place x) (λ word. Ok (with_case g word)) (case_new env.scene selector g place x (constant_small env.scene is.env.scene is.env.counted x.expr taken.part.expr))
      (λ w new. read_case before g env w new.1 is new.0))
  label_read before selector (Some (Default place)) g env formed is =
      row (λ (h : Gathered). Read before (h, env)) place E0511 g.has_default [] (Ok (with_default g)) (λ new. read_default before g env is new)

  abbrev StandsIn : Answer → Type 0
  StandsIn a = StepIs result inner (a.step (in_switch within)) × LabelIs a.label

  item_read : (before : Env) (selector : Ty) (a : Answer) (g : Gathered) (env : Env) → HasResult result env → StandsIn a → Read before (g, env) → (b : Bool)
      → Holds (Read before) (if b then labelled selector a.label g env >>= (λ more. Ok (more, env)) else stated (in_switch within) a.step g env)
  unfolding stated
  item_read before selector a g env has stands is true =
      holds_after (λ (h : Gathered). Read before (h, env)) (Read before) (labelled selector a.label g env) (λ more. Ok (more, env)) (label_read before selector a.label g env stands.1 is) (λ more read. read)
  item_read before selector a g env has stands is false =
      holds_after (Did result inner env) (Read before) (a.step (in_switch within) env) (λ done. Ok (with_stmt g done.0, done.1)) (stands.0 env is.env has) (λ done did. read_stmt before g env done is did)

  items_read : (before : Env) (selector : Ty) (answers : List Answer) (g : Gathered) (env : Env) → HasResult result before → AllByRecursion StandsIn answers → Read before (g, env) → Holds (Read before) (items (in_switch within) selector answers g env)
  items_read before selector [] g env has all is = is
  items_read before selector (a ∷ answers) g env has all is =
      holds_after (Read before) (Read before) (item (in_switch within) selector a g env) (λ done. items (in_switch within) selector answers done.0 done.1)
      (item_read before selector a g env (keeps_result result before env is.grows has) all.0 is (is_some a.label))
      (λ done read. items_read before selector answers done.0 done.1 has all.1 read)

  -- ---- the whole

  taken_grows : (s t : Scene) → IsScene s → Grows s t → (x : Part) → IsTaken s x → IsTaken t x
  taken_grows s t fine grows x is = record {
    part = record { expr = expr_grows s t fine grows x.expr is.part.expr; sound = sound_stays (length s.structs) (length t.structs) grows.count (type_in x) is.part.sound };
    small = written_grows s t fine grows x.expr is.part.expr is.small;
  }

  switched_is : (before : Env) (place : Place) (selector : Part) (g : Gathered) (env : Env) → IsTaken before.scene selector → IsScene before.scene → Read before (g, env)
      → Holds (λ (s : Stmt). IsStmt (around env.scene) result exits s) (switched env.scene place selector g)
  unfolding switched
  switched_is before place selector g env taken fine is =
      row (λ (s : Stmt). IsStmt (around env.scene) result exits s) place E0507 (is_unread env.scene selector) ((E0511, not (is_index selector && are_arms (all_arms g))) ∷ (E0908, has_many g.words g.has_default) ∷ []) (Ok (stmt.Switch selector.expr (all_arms g)))
      (λ read. row (λ (s : Stmt). IsStmt (around env.scene) result exits s) place E0511 (not (is_index selector && are_arms (all_arms g))) ((E0908, has_many g.words g.has_default) ∷ []) (Ok (stmt.Switch selector.expr (all_arms g)))
      (λ right. row (λ (s : Stmt). IsStmt (around env.scene) result exits s) place E0908 (has_many g.words g.has_default) [] (Ok (stmt.Switch selector.expr (all_arms g)))
      (λ few.
      let parts = both (is_index selector) (are_arms (all_arms g)) right in
      let here = taken_grows before.scene env.scene fine is.grows selector taken in
      let reads = may_be_read env.scene selector here read (index_settled selector parts.0) in
      let all = together g is.labelled in
      stmt_at (around env.scene) result exits (stmt.Switch selector.expr (all_arms g)) (Stmt-F.Switch selector.expr (all_arms g)) (outs-Switch selector.expr (all_arms g))
      (index_is selector parts.0, arms_are g is.labelled parts.1 few) (here.part.expr, tt) (reads, tt)
      (subst (λ l. AlongAll (IsStep (around env.scene) result) (with_exits inner l)) (sym all.bodies_are) (with_append inner (bodies g.arms) g.body (IsStep (around env.scene) result) is.arms is.body)))))

  pub switch_is : (place : Place) (e : Phrase) (answers : List Answer) → IsFormed e → AllByRecursion StandsIn answers → StepIs result exits (switch place e answers within)
  unfolding switch switch_head arms
  switch_is place e answers formed all env fine has =
      holds_after (λ (head : Part × Env). IsTaken env.scene head.0 × (opened env ≡ head.1)) (Did result exits env) (switch_head e env)
      (λ head. items (in_switch within) (type_in head.0) answers nothing head.1 >>= (λ done. arms place head.0 done.0 done.1))
      (holds_after (IsTaken env.scene) (λ (head : Part × Env). IsTaken env.scene head.0 × (opened env ≡ head.1)) (taken_expression env e) (λ selector. Ok (selector, opened env)) (taken_is env fine e formed) (λ selector taken. (taken, refl)))
      (λ head is. subst (λ (h : Env). Holds (Did result exits env) (items (in_switch within) (type_in head.0) answers nothing h >>= (λ done. arms place head.0 done.0 done.1))) is.1
      (holds_after (Read (opened env)) (Did result exits env) (items (in_switch within) (type_in head.0) answers nothing (opened env)) (λ done. arms place head.0 done.0 done.1)
      (items_read (opened env) (type_in head.0) answers nothing (opened env) has all (record { env = opened_env env fine; grows = grows_itself env.scene; labelled = nothing_labelled; arms = AlongAll.none; body = AlongAll.none }))
      (λ done read. holds_after (λ (s : Stmt). IsStmt (around done.1.scene) result exits s) (Did result exits env) (switched done.1.scene place head.0 done.0) (λ s. Ok (s, closed done.1)) (switched_is (opened env) place head.0 done.0 done.1 is.0 fine.scene read)
      (λ s typed. record { env = closed_env done.1 read.env; grows = read.grows; stmt = typed }))))
