-- Functions whose blocks are in order, with how many constructs stand within each other, and some whose blocks are not.
use Rattle.std.proofs.Common.{◌≡◌, [], ◌∷◌, Some, None, refl}
use Rattle.gsl_blocks.specs.declared.block.Merge.TheVariants.{Nothing, Selection, Loop}
use Rattle.gsl_blocks.specs.declared.block.End.TheVariants.{Branch, Conditional, Switch, Leave}
use Rattle.gsl_blocks.specs.Order.{block}
use Rattle.gsl_blocks.specs.Reading.{reads, nesting_of}

-- while (a && b) { if (c) break; }
broken_off : nesting_of (block 1 Nothing (Branch 2) ∷ block 2 (Loop 9 8) (Branch 3) ∷ block 3 (Selection 5) (Conditional 4 5) ∷ block 4 Nothing (Branch 5) ∷ block 5 (Selection 6) (Conditional 6 9) ∷ block 6 (Selection 7) (Conditional 9 7) ∷ block 7 Nothing (Branch 8) ∷ block 8 Nothing (Branch 2) ∷ block 9 Nothing Leave ∷ []) ≡ Some 2
unfolding reads
broken_off = refl

-- do { } while (c)
tested_last : nesting_of (block 1 Nothing (Branch 2) ∷ block 2 (Loop 4 3) (Branch 5) ∷ block 5 Nothing (Branch 3) ∷ block 3 Nothing (Conditional 2 4) ∷ block 4 Nothing Leave ∷ []) ≡ Some 1
unfolding reads
tested_last = refl

-- a switch whose default stands in the middle, with a case that falls through
falls_through : nesting_of (block 1 (Selection 9) (Switch 3 (10 ∷ 2 ∷ 20 ∷ 4 ∷ 30 ∷ 2 ∷ [])) ∷ block 2 Nothing (Branch 3) ∷ block 3 Nothing (Branch 9) ∷ block 4 Nothing Leave ∷ block 9 Nothing Leave ∷ []) ≡ Some 1
unfolding reads
falls_through = refl

-- a switch in a loop: a case goes on with the loop, another leaves the switch
goes_on : nesting_of (block 1 Nothing (Branch 2) ∷ block 2 (Loop 9 8) (Branch 3) ∷ block 3 (Selection 7) (Switch 7 (1 ∷ 8 ∷ 2 ∷ 4 ∷ [])) ∷ block 4 (Selection 5) (Conditional 8 5) ∷ block 5 Nothing (Branch 7) ∷ block 7 Nothing (Branch 8) ∷ block 8 Nothing (Branch 2) ∷ block 9 Nothing Leave ∷ []) ≡ Some 3
unfolding reads
goes_on = refl

-- A switch in a switch may not leave the outer one.
leaves_two : nesting_of (block 1 (Selection 9) (Switch 9 (1 ∷ 2 ∷ [])) ∷ block 2 (Selection 8) (Switch 8 (1 ∷ 3 ∷ [])) ∷ block 3 Nothing (Branch 9) ∷ block 8 Nothing (Branch 9) ∷ block 9 Nothing Leave ∷ []) ≡ None
unfolding reads
leaves_two = refl

-- code behind a break
unreached : nesting_of (block 1 Nothing (Branch 2) ∷ block 2 (Loop 9 8) (Branch 3) ∷ block 3 Nothing (Branch 9) ∷ block 4 Nothing (Branch 8) ∷ block 8 Nothing (Branch 2) ∷ block 9 Nothing Leave ∷ []) ≡ None
unfolding reads
unreached = refl

-- both targets the same arm
same_arm : nesting_of (block 1 (Selection 3) (Conditional 2 2) ∷ block 2 Nothing (Branch 3) ∷ block 3 Nothing Leave ∷ []) ≡ None
unfolding reads
same_arm = refl

-- both targets the merge
no_arm : nesting_of (block 1 (Selection 3) (Conditional 3 3) ∷ block 3 Nothing Leave ∷ []) ≡ Some 1
unfolding reads
no_arm = refl
