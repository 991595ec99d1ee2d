-- What is compared in words is what the definition says of the ticket. Each `rw` waits for the code's formula: so a wrong test is refused
-- where it is used.
use Prim.Native.Nat.{◌+◌, ◌*◌}
use borrow.Author.Tests.{eqb-true, eq-eqb, leb-true, le-leb}
use Rattle.ranges.proofs.Tests.{and_both, both_and, unless_equal, unless_equal_by}
use Rattle.ticket_log.proofs.Seeing.{plain_by, one_differs, differs_one}
use Rattle.ticket_log.proofs.is_plain.Goals as goal

pub returns : goal.returns
returns c =
    let i = c.args.i in
    let byte = c.shared_slice_known-1.given in
    let first_is = c.word-first.ensures in
    let gross-is = c.word-gross.ensures in
    let tare-is = c.word.ensures in
    let lot-is = c.word-2.ensures in
    plain_by c.args.page.now i c.args.lot c.args.bag c.requires (byte (i * 16)).fits (byte (i * 16 + 1)).fits _
    (rw (first_is, gross-is, tare-is, lot-is)
    (λ e.
    let both = and_both _ _ e in
    let front = and_both _ _ both.0 in
    record {
      kind = λ d. let two = and_both _ _ (unless_equal _ _ _ front.0 d) in (eqb-true _ _ two.0, eqb-true _ _ two.1);
      weights = leb-true _ _ front.1;
      other = one_differs _ _ _ _ both.1;
    }))
    (rw (first_is, gross-is, tare-is, lot-is)
    (λ h.
    both_and
    (both_and (unless_equal_by _ _ _ (λ d. both_and (eq-eqb _ _ (h.kind d).0) (eq-eqb _ _ (h.kind d).1))) (le-leb _ _ h.weights))
    (differs_one _ _ _ _ h.other)))
