-- Whole values that are copied and compared leaf by leaf, in a block that has given some ids.
use Rattle.std.specs.Prelude.{◌≡◌, ℕ, ◌⊎◌, List, ◌++◌, None}
use Rattle.std.specs.List.{AllByRecursion}
use Rattle.gsl_instr.specs.declared.enumerant.storage_class.TheConstants as storage_class
use Rattle.gsl_values.specs.declared.op.BinaryOp.{BinaryOp}
use Rattle.gsl_values.specs.declared.op.BinaryOp.TheVariants.{Equal, Unequal}
use Rattle.gsl_spv.specs.Sections.{Sections}
use Rattle.gsl_lower_leaves.specs.declared.leaf.Leaf.{Leaf}
use Rattle.gsl_lower_places.specs.declared.reached.Part.{Part}
use Rattle.gsl_fitting.specs.Fits.{Frame}
use Rattle.gsl_fitting_places.specs.Places.{IsPartOf, ReadsPlace, StoresPlace}

-- An operator is one of equality.
abbrev pub Equates : BinaryOp → Type 0
Equates which = (which ≡ Equal) ⊎ (which ≡ Unequal)

module _ (whole : Sections) (main : ℕ) (local_size : List ℕ) (rank : ℕ → ℕ) (f : Frame) where
  -- A leaf of what parts of a block's variable lead to may be read, and stored to the same leaf of a variable of the function.
  pub record LeavesBlock (given : List ℕ) (class block : ℕ) (parts : List Part) (variable : ℕ) (one : Leaf) : Type 0 where
    pub from : ReadsPlace whole main local_size rank f given class block (parts ++ one.path) one.shape None
    pub to : StoresPlace whole main local_size rank f given storage_class.FUNCTION variable one.path one.shape None

  -- A leaf of a value may be stored to the same leaf of what parts of a block's variable lead to.
  pub record EntersBlock (given : List ℕ) (class block : ℕ) (parts : List Part) (value : ℕ) (one : Leaf) : Type 0 where
    pub from : IsPartOf whole main local_size rank f given value one.path one.shape None
    pub to : StoresPlace whole main local_size rank f given class block (parts ++ one.path) one.shape None

  -- Two values have a leaf of one shape.
  pub record HaveLeaf (given : List ℕ) (a b : ℕ) (one : Leaf) : Type 0 where
    pub first : IsPartOf whole main local_size rank f given a one.path one.shape None
    pub second : IsPartOf whole main local_size rank f given b one.path one.shape None

  abbrev pub LeaveBlock : List ℕ → ℕ → ℕ → List Part → ℕ → List Leaf → Type 0
  LeaveBlock given class block parts variable leaves = AllByRecursion (LeavesBlock given class block parts variable) leaves

  abbrev pub EnterBlock : List ℕ → ℕ → ℕ → List Part → ℕ → List Leaf → Type 0
  EnterBlock given class block parts value leaves = AllByRecursion (EntersBlock given class block parts value) leaves

  abbrev pub HaveLeaves : List ℕ → ℕ → ℕ → List Leaf → Type 0
  HaveLeaves given a b leaves = AllByRecursion (HaveLeaf given a b) leaves
