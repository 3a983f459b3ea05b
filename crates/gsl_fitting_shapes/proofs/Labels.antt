-- Which labels end runs.
use Rattle.std.proofs.Common.{◌≡◌, ℕ, ◌<◌, ◌≤◌, Bool, true, false, ◌||◌, refl, arith}
use Rattle.std.specs.Prelude.{◌==◌}
use Rattle.std.proofs.lemmas.Bool.{and_from, eq-eqb, eqb-true, or_from, or_left, or_parts, or_right}
use Rattle.gsl_blocks.specs.declared.around.Around.{Around}
use Rattle.gsl_blocks.specs.Around.{in_arm, in_body, in_case, in_continue, is_exit, is_id, may_end, may_turn, outside}
use Rattle.gsl_fitting_shapes.specs.Fresh.{Fresh}

-- a smaller label is another
pub other : (a b : ℕ) → a < b → (a == b) ≡ false
other a b lt = by_case (a == b) refl
  where
    by_case : (c : Bool) → (a == b) ≡ c → (a == b) ≡ false
    by_case true e = let same = eqb-true a b e in absurd (omega (arith, same, lt))
    by_case false e = e

pub in_function : (least : ℕ) → Fresh outside least
in_function least = record { ends = λ label le. refl }

pub later : (c : Around) (least more : ℕ) → least ≤ more → Fresh c least → Fresh c more
later c least more le fresh = record { ends = λ label low. fresh.ends label (omega (arith, le, low)) }

-- no label that is new is an exit
pub no_exit : (c : Around) (least label : ℕ) → Fresh c least → least ≤ label → is_exit c label ≡ false
no_exit c least label fresh le = (or_parts (is_id c.follow label) (is_exit c label) (fresh.ends label le)).1

pub arm_fresh : (c : Around) (least merge : ℕ) → merge < least → Fresh c least → Fresh (in_arm c merge) least
arm_fresh c least merge lt fresh = record { ends = λ label le. or_from (merge == label) _ (other merge label (omega (arith, lt, le))) (no_exit c least label fresh le) }

pub case_fresh : (c : Around) (least merge next : ℕ) → merge < least → next < least → Fresh c least → Fresh (in_case c merge next) least
case_fresh c least merge next lt lt' fresh = record {
  ends = λ label le.
      let exits = or_parts (is_id c.loop_merge label || is_id c.loop_continue label) (is_id c.switch_merge label) (no_exit c least label fresh le) in
      or_from (next == label) _ (other next label (omega (arith, lt', le))) (or_from (is_id c.loop_merge label || is_id c.loop_continue label) _ exits.0 (other merge label (omega (arith, lt, le))));
}

pub body_fresh : (c : Around) (least merge target : ℕ) → merge < least → target < least → Fresh (in_body c merge target) least
body_fresh c least merge target lt lt' = record {
  ends = λ label le.
      let a = other merge label (omega (arith, lt, le)) in
      let b = other target label (omega (arith, lt', le)) in
      or_from (target == label) _ b (or_from ((merge == label) || (target == label)) _ (or_from (merge == label) _ a b) refl);
}

pub continue_fresh : (c : Around) (least label merge : ℕ) → label < least → Fresh (in_continue c label merge) least
continue_fresh c least label merge lt = record { ends = λ l le. or_from (label == l) _ (other label l (omega (arith, lt, le))) refl }

-- Ends of runs --------------------------------------------------------------------------------------------------------------

own : (l : ℕ) → (l == l) ≡ true
own l = eq-eqb l l refl

pub arm_ends : (c : Around) (merge : ℕ) → may_end (in_arm c merge) merge ≡ true
arm_ends c merge = or_left _ _ (own merge)

pub arm_exits : (c : Around) (merge label : ℕ) → is_exit c label ≡ true → may_end (in_arm c merge) label ≡ true
arm_exits c merge label exits = or_right (merge == label) _ exits

pub case_ends : (c : Around) (merge next : ℕ) → may_end (in_case c merge next) next ≡ true
case_ends c merge next = or_left _ _ (own next)

pub case_breaks : (c : Around) (merge next : ℕ) → may_end (in_case c merge next) merge ≡ true
case_breaks c merge next = or_right (next == merge) _ (or_right (is_id c.loop_merge merge || is_id c.loop_continue merge) _ (own merge))

pub body_ends : (c : Around) (merge target : ℕ) → may_end (in_body c merge target) target ≡ true
body_ends c merge target = or_left _ _ (own target)

pub body_leaves : (c : Around) (merge target : ℕ) → may_end (in_body c merge target) merge ≡ true
body_leaves c merge target = or_right (target == merge) _ (or_left _ _ (or_left _ _ (own merge)))

pub continue_turns : (c : Around) (label merge : ℕ) → may_turn (in_continue c label merge) label merge ≡ true
continue_turns c label merge = or_left _ _ (and_from _ _ (own label) (own merge))

pub continue_back : (c : Around) (label merge : ℕ) → may_end (in_continue c label merge) label ≡ true
continue_back c label merge = or_left _ _ (own label)
