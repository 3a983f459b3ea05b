-- The body of a `switch` (GLSL 4.50, 6.2): labels, and statements behind them.
use Rattle.std.specs.Prelude.{ℕ, Bool, true, false, not, ◌&&◌, ◌||◌, nat_le, nat_eq, List, [], ◌∷◌, ◌++◌, length, Ok, if◌then◌else◌}
use Rattle.std.specs.List.{list_any, list_all}
use Rattle.gsl_base.specs.Checked.{Checked}
use Rattle.gsl_base.specs.declared.fault.Place.{Place}
use Rattle.gsl_base.specs.declared.fault.Code.TheVariants.{E0504, E0507, E0511, E0601, E0602, E0908}
use Rattle.gsl_types.specs.declared.ty.Ty.{Ty}
use Rattle.gsl_tree.specs.declared.folded.Folded.{Folded}
use Rattle.gsl_tree.specs.declared.folded.Folded.TheVariants.{Known, NotConstant, Free}
use Rattle.gsl_tree.specs.declared.stmt.Stmt.{Stmt}
use Rattle.gsl_tree.specs.declared.stmt.Stmt.TheVariants as stmt
use Rattle.gsl_tree.specs.declared.stmt.Arm.{Arm, out-Arm, roll-Arm}
use Rattle.gsl_tree.specs.Constants.{constant_of}
use Rattle.gsl_tree.specs.Statements.{one_more, most_labels}
use Rattle.gsl_typing.specs.declared.scene.Scene.{Scene}
use Rattle.gsl_typing.specs.declared.scene.Part.{Part}
use Rattle.gsl_typing.specs.Rows.{fault, unless}
use Rattle.gsl_typing.specs.Scene.{type_in}
use Rattle.gsl_typing.specs.Conversions.{serves_as}
use Rattle.gsl_typing.specs.Uses.{is_unread}
use Rattle.gsl_makers.specs.Paths.{is_index}
use Rattle.gsl_check_expr.specs.Sizes.{is_not_constant, is_left_open, word_of}
use Rattle.gsl_check_decl.specs.Declaring.{is_empty}
use Rattle.gsl_check_stmt.specs.declared.gathered.Gathered.{Gathered}

-- ---- arms, as they are read from left to right

-- no arm, and no label
abbrev pub nothing : Gathered
nothing = record { arms = []; labels = []; is_default = false; body = []; words = []; has_default = false }

-- the arm that is read
abbrev pub last_arm : Gathered → Arm
last_arm g = roll-Arm (record { labels = g.labels; is_default = g.is_default; body = g.body })

-- behind the end of the arm that is read
abbrev pub behind_arm : Gathered → Gathered
behind_arm g = record g { arms = g.arms ++ last_arm g ∷ []; labels = []; is_default = false; body = [] }

-- where a label may be put: statements behind labels end their arm
abbrev pub at_label : Gathered → Gathered
at_label g = if is_empty g.body then g else behind_arm g

-- with a label of a word
unfoldable pub with_case : Gathered → ℕ → Gathered
with_case g word = record (at_label g) { labels = (at_label g).labels ++ word ∷ []; words = (at_label g).words ++ word ∷ [] }

-- with `default`
unfoldable pub with_default : Gathered → Gathered
with_default g = record (at_label g) { is_default = true; has_default = true }

-- with a statement
unfoldable pub with_stmt : Gathered → Stmt → Gathered
with_stmt g s = record g { body = g.body ++ s ∷ [] }

-- neither a label nor a statement
abbrev pub is_blank : Gathered → Bool
is_blank g = is_empty g.labels && not g.is_default && is_empty g.body

-- all arms
unfoldable pub all_arms : Gathered → List Arm
all_arms g = if is_blank g then g.arms else (behind_arm g).arms

-- ---- labels

abbrev pub is_known : Folded → Bool
is_known (Known v) = true
is_known NotConstant = false
is_known Free = false

-- an earlier label has this word
abbrev pub has_word : List ℕ → ℕ → Bool
has_word words word = list_any (λ other. nat_eq other word) words

-- the word of a constant that no earlier label has
abbrev pub constant_word : Scene → List ℕ → Place → Part → Checked ℕ
constant_word scene words place x = unless place (
    (E0511, is_known (constant_of scene.consts x.expr) && has_word words (word_of scene x))
    ∷ (E0601, is_not_constant (constant_of scene.consts x.expr))
    ∷ (E0602, is_left_open (constant_of scene.consts x.expr))
    ∷ []
    )
    (Ok (word_of scene x))

-- the word of a `case`, beside a selector of this type
unfoldable pub case_word : Scene → Ty → Gathered → Place → Part → Checked ℕ
case_word scene selector g place x = unless place ((E0504, not (serves_as (type_in x) selector)) ∷ (E0507, is_unread scene x) ∷ [])
    (constant_word scene g.words place x)

-- `default`, once
unfoldable pub default_label : Gathered → Place → Checked Gathered
default_label g place = unless place ((E0511, g.has_default) ∷ []) (Ok (with_default g))

-- ---- where labels may not stand

unfoldable pub misplaced_case : Scene → Place → Part → Checked Stmt
misplaced_case scene place x = unless place ((E0507, is_unread scene x) ∷ []) (fault place E0511)

unfoldable pub misplaced_default : Place → Checked Stmt
misplaced_default place = fault place E0511

-- ---- the whole

-- an arm begins with a label, and has a statement behind its labels
abbrev pub is_arm : Arm → Bool
is_arm arm = (not (is_empty (out-Arm arm).labels) || (out-Arm arm).is_default) && not (is_empty (out-Arm arm).body)

-- no statement stands before the first label, and no label before the closing brace
unfoldable pub are_arms : List Arm → Bool
are_arms arms = list_all is_arm arms

-- more labels than a `switch` may have
unfoldable pub has_many : List ℕ → Bool → Bool
has_many words has_default = not (nat_le (one_more has_default (length words)) most_labels)

-- a `switch` over the arms of its body
unfoldable pub switched : Scene → Place → Part → Gathered → Checked Stmt
switched scene place selector g = unless place (
    (E0507, is_unread scene selector)
    ∷ (E0511, not (is_index selector && are_arms (all_arms g)))
    ∷ (E0908, has_many g.words g.has_default)
    ∷ []
    )
    (Ok (stmt.Switch selector.expr (all_arms g)))
