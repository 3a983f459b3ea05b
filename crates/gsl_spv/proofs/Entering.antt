-- An instruction more among the globals.
use Rattle.std.proofs.Common.{◌≡◌, ℕ, List, [], ◌∷◌, ◌++◌, None, sym, ap, ◌∙◌, append-nil}
use Rattle.std.proofs.lemmas.List.{flat_map_more}
use Rattle.std.specs.Map.{lookup}
use Rattle.indexmap.specs.IndexMap.{IndexMap, insert_entry}
use Rattle.indexmap.proofs.CallerLemmas.{insert_entry-new}
use Rattle.gsl_words.specs.declared.module.Instr.{Instr}
use Rattle.gsl_spv.specs.Once.{Key, entries, entry_of, interface_at, interface_of, same}

-- what is inserted into the table is what the instruction declares
pub entered : {S : Type 0} (before : IndexMap Key ℕ S) (known : List (Key × ℕ)) (code code' : List Instr) (i : Instr) (key : Key) (id : ℕ)
    → before.entries ≡ entries code → known ≡ insert_entry same before.entries key id → lookup (same key) (entries code) ≡ None
    → entry_of i ≡ (key, id) ∷ [] → code' ≡ code ++ i ∷ [] → known ≡ entries code'
entered before known code code' i key id are inserted new declares more =
    inserted
    ∙ insert_entry-new same before key id (ap (lookup (same key)) are ∙ new)
    ∙ ap (λ l. l ++ (key, id) ∷ []) are
    ∙ ap (λ l. entries code ++ l) (sym declares)
    ∙ flat_map_more entry_of [] code i
    ∙ ap entries (sym more)

-- an instruction that is no input or output variable leaves the interface
pub interface_stays : (interface : List ℕ) (code code' : List Instr) (i : Instr) → interface ≡ interface_of code → interface_at i ≡ [] → code' ≡ code ++ i ∷ []
    → interface ≡ interface_of code'
interface_stays interface code code' i are none more =
    are ∙ sym (append-nil (interface_of code)) ∙ ap (λ l. interface_of code ++ l) (sym none) ∙ flat_map_more interface_at [] code i ∙ ap interface_of (sym more)
