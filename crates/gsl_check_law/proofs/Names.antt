-- Names as a parser gives them are names.
use Rattle.std.proofs.Common.{◌≢◌, sym, ◌∙◌, ap, ℕ, IsTrue, nat_le, nat_lt, List, [], ◌∷◌, length}
use Rattle.std.specs.List.{AllByRecursion, list_all}
use Rattle.std.proofs.lemmas.Bool.{and_parts, leb-true, true≢false}
use Rattle.gsl_tree.specs.WellTyped.{IsName}
use Rattle.gsl_formed.specs.Formed.{is_name}

nonzero : (byte : ℕ) → IsTrue (nat_lt 0 byte) → byte ≢ 0
nonzero byte is = λ zero_is. true≢false (sym is ∙ ap (λ n. nat_lt 0 n) zero_is)

bytes_are : (name : List ℕ) → IsTrue (list_all (λ byte. nat_lt 0 byte) name) → AllByRecursion (λ byte. byte ≢ 0) name
bytes_are [] is = tt
bytes_are (byte ∷ name) is = let parts = and_parts (nat_lt 0 byte) (list_all (λ byte. nat_lt 0 byte) name) is in (nonzero byte parts.0, bytes_are name parts.1)

pub name_is : (name : List ℕ) → IsTrue (is_name name) → IsName name
name_is name is =
    let parts = and_parts (nat_le (length name) 1024) (list_all (λ byte. nat_lt 0 byte) name) is in
    record { short = leb-true (length name) 1024 parts.0; nonzero = bytes_are name parts.1 }
