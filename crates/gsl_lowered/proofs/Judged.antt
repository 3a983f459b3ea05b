-- What is judged of a module, from the answers of its parts.
use Rattle.std.proofs.Common.{◌≡◌, ℕ, true, false, Option, Some, None, sym, ◌∙◌}
use Rattle.gsl_tree.specs.declared.program.Program.{Program}
use Rattle.gsl_valid.specs.Valid.{broken}
use Rattle.gsl_words.specs.declared.module.Module.{Module}
use Rattle.gsl_words.specs.declared.target.Target.{Target}
use Rattle.gsl_lowered.specs.Sound.{IsLowered, IsSound}
use Rattle.gsl_lowered.specs.Filing.{is_writable}
use Rattle.gsl_lowered.proofs.Filed.{writable_gives}

same_some : {A : Type 0} {a b : A} → ◌≡◌ {A = Option A} (Some a) (Some b) → a ≡ b
same_some e = cc

-- a module that has no file is not sound
pub unwritable : (m : Module) → is_writable m ≡ false → IsSound m → ⊥
unwritable m never sound = let fine : is_writable m ≡ true = writable_gives m sound.valid.file sound.few in cc

-- nor is one that breaks a rule
pub breaks : (m : Module) (what : ℕ × ℕ) → broken m ≡ Some what → IsSound m → ⊥
breaks m what is sound = let never : None ≡ Some what = sym sound.valid.kept ∙ is in cc

-- a program has no other module
pub one_lowered : (target : Target) (p : Program) (m n : Module) → IsLowered target p m → IsLowered target p n → m ≡ n
one_lowered target p m n ms ns = same_some (sym ms.made ∙ ns.made)
