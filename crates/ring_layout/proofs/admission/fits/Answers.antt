use Rattle.std.proofs.Common.{◌∙◌, arith, le-leb}
use Rattle.ring_layout.{specs.History.span, proofs.PlaceLemmas.end_after_rises}
use Rattle.ring_layout.proofs.admission.fits.Goals as goal

pub returns-clause-lasting : goal.returns-clause-lasting
returns-clause-lasting c = λ later le fits.
    let rises = end_after_rises c.args.capacity c.args.tail later (span c.args.len)
    (omega (arith, c.requires.capacity.least)) le in
    c.has_room.ensures ∙ le-leb _ _ (omega (arith, c.place_record-end.ensures.end, rises, fits))
