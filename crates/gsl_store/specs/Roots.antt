-- What accesses begin at, as the code has it.
use Rattle.gsl_store.specs.declared.root.Root.{Root as Held}
use Rattle.gsl_store.specs.declared.root.Root.TheVariants as held
use Rattle.gsl_meaning.specs.Accesses.{Root, Global, Block, Interface, Param, Local, Loose}

abbrev pub root_of : Held → Root
root_of (held.Global number) = Global number
root_of (held.Block number) = Block number
root_of (held.Interface number) = Interface number
root_of (held.Param number) = Param number
root_of (held.Local number) = Local number
root_of (held.Loose value) = Loose value
