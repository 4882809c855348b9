use Rattle.std.proofs.Common.{◌<◌, ap, sym, ◌∙◌, subst, MatchOption, Option}
use Rattle.ring_board.specs.declared.board.RawRecord.{RawRecord}
use Rattle.ring_board.specs.{Receiving.GotNothing, Receiving.GotRecord, Receiving.IsInBuffer, Views.Sat}
use Rattle.ring_board.proofs.RawLemmas.{answered_more, answered_same, answered_last}
use Rattle.ring_board.proofs.board.Receiver.receive_next.Goals as goal

abbrev Got : Sat → Sat → Option RawRecord → Type 0
Got m m' o = MatchOption o (GotNothing m m') (λ r. GotRecord r m m' × IsInBuffer m.0.capacity r)

pub returns-in-Ok-None-clause-kept : goal.returns-in-Ok-None-clause-kept
returns-in-Ok-None-clause-kept c = let got =
    subst (Got c.args.self.now.seat.me c.next_raw.new.seat.me) c.in-Ok-None.field-0-is c.in-Ok-None.ensures.got in
    λ r h. answered_same _ _ r (ap (λ (m : Sat). m.0.capacity) got.1) (ap (λ (m : Sat). m.0.copies) got.1) h

pub returns-in-Ok-Some-clause-got : goal.returns-in-Ok-Some-clause-got
returns-in-Ok-Some-clause-got c = let got =
    subst (Got c.args.self.now.seat.me c.next_raw.new.seat.me) c.in-Ok-Some.field-0-is c.in-Ok-Some.ensures.got in
    (got.0, answered_last c.args.self.now.seat.me c.next_raw.new.seat.me c.in-Ok-Some.record got.0 got.1)

pub returns-in-Ok-Some-clause-kept : goal.returns-in-Ok-Some-clause-kept
returns-in-Ok-Some-clause-kept c = let got =
    subst (Got c.args.self.now.seat.me c.next_raw.new.seat.me) c.in-Ok-Some.field-0-is
    c.in-Ok-Some.ensures.got in let copy = got.0.1 in
    λ r h. answered_more _ _ _ r (ap (λ (m : Sat). m.0.capacity) copy.1) (ap (λ (m : Sat). m.0.copies) copy.1) h

pub returns-in-Err-clause-returned : goal.returns-in-Err-clause-returned
returns-in-Err-clause-returned c =
    let got = c.go_to_latest-place.ensures.lapped c.args.self.now.seat.me c.in-Err.ensures.got in let new = got.7 in (
      ap (λ (m : Sat). m.0.copies) new,
      ap (λ (m : Sat). m.0.count) new,
      subst (λ (m : Sat). c.go_to_latest-place.result.1.place < m.0.at) (sym new) got.6,
    )

pub returns-in-Err-clause-kept : goal.returns-in-Err-clause-kept
returns-in-Err-clause-kept c = let got = c.in-Err.ensures.got in let new = c.go_to_latest-place.ensures.seen in
    λ r h. answered_same _ _ r (ap (λ (m : Sat). m.0.capacity) new.1 ∙ ap (λ (m : Sat). m.0.capacity) got.1)
    (ap (λ (m : Sat). m.0.copies) new.1 ∙ ap (λ (m : Sat). m.0.copies) got.1) h
