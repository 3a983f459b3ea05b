use Rattle.std.proofs.Common.{arith, sym, subst, ◌∙◌}
use Rattle.std.proofs.lemmas.Result.{err_from_is_err_and}
use Rattle.gsl_words.specs.Faults.{Ends, HasFault}
use Rattle.gsl_words.proofs.Decoded.{IsRead, no_fault, read_is, read_only, behind_header, are_bytes, body_words, body_few}
use Rattle.gsl_words.proofs.decoding.decode.Goals as goal

pub returns-in_err-version-clause-only : goal.returns-in_err-version-clause-only
returns-in_err-version-clause-only c =
    let p = err_from_is_err_and c.from_residual.result c.from_residual.ensures.1 in
    rw (p.1, p.2) (λ m file fits is. no_fault c.args.bytes.now m c.in_err-version.field-0.0 file fits is c.in_err-version.ensures.fault)

pub read-requires : goal.read-requires
read-requires c = body_few c.args.bytes.now c.in_ok-words.words.items c.requires c.in_ok-words.ensures

fault_of : (c : goal.After-from_residual-in_err-instrs) → HasFault c.args.bytes.now c.in_err-instrs.field-0.0
fault_of c =
    let h = c.in_ok-version.ensures.ok in
    behind_header c.args.bytes.now c.in_err-instrs.field-0.0 h.0 h.1 h.2
    (subst (λ w. Ends w c.in_err-instrs.field-0.0) (body_words c.args.bytes.now c.in_ok-words.words.items h.0.enough c.in_ok-words.ensures) c.in_err-instrs.ensures.fault)

pub returns-in_err-instrs-clause-only : goal.returns-in_err-instrs-clause-only
returns-in_err-instrs-clause-only c =
    let p = err_from_is_err_and c.from_residual-in_err-instrs.result c.from_residual-in_err-instrs.ensures.1 in
    rw (p.1, p.2) (λ m file fits is. no_fault c.args.bytes.now m c.in_err-instrs.field-0.0 file fits is (fault_of c))

pub returns-in_err-instrs-clause-fault : goal.returns-in_err-instrs-clause-fault
returns-in_err-instrs-clause-fault c =
    let p = err_from_is_err_and c.from_residual-in_err-instrs.result c.from_residual-in_err-instrs.ensures.1 in
    rw (p.1, p.2) (fault_of c)

read_of : (c : goal.In_ok-instrs) → IsRead c.args.bytes.now c.in_ok-version.version c.in_ok-version.bound c.in_ok-instrs.instrs
read_of c =
    let h = c.in_ok-version.ensures.ok in
    let i = c.in_ok-instrs.ensures.ok in
    record {
      whole = h.0;
      first = h.1;
      header = h.2;
      version_is = h.3;
      bound_is = h.4;
      all = i.0;
      words_are = sym (body_words c.args.bytes.now c.in_ok-words.words.items h.0.enough c.in_ok-words.ensures) ∙ i.1;
      ops = i.2;
    }

pub returns-clause-found : goal.returns-clause-found
returns-clause-found c = read_is c.args.bytes.now c.in_ok-version.version c.in_ok-version.bound c.in_ok-instrs.instrs (are_bytes c.args.bytes.now (λ i. omega (arith, c.type_inv.bytes i))) (read_of c)

pub returns-clause-only : goal.returns-clause-only
returns-clause-only c = read_only c.args.bytes.now c.in_ok-version.version c.in_ok-version.bound c.in_ok-instrs.instrs (read_of c)
