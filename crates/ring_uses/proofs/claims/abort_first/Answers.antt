use Rattle.std.proofs.Common.{◌∙◌, [], ◌∷◌, pos, ap, sym}
use Rattle.ring_rings.specs.Ring.{message}
use Rattle.ring_ends.specs.{End.received, End.sent, Ending.Last}
use Rattle.ring_uses.specs.Numbers.{sum_of}
use Rattle.ring_uses.proofs.{ClaimLemmas.commit_sends, ClosedLemmas.whole_in, SumLemmas.sums}
use Rattle.ring_uses.proofs.claims.abort_first.Goals as goal

pub returns : goal.returns
returns c =
    let begins = c.in_ok-producer.ensures.begins in
    let none = c.in_ok-claim-2.ensures.sent ∙ c.abort.ensures.sent ∙ c.in_ok-claim.ensures.sent ∙ begins.0 in
    let sends = commit_sends c.claim_filled-2.new.producer c.commit.new.self c.in_ok-claim-2.claim
    (message (pos 1) c.to_le_bytes-2.result) c.commit.ensures.others.rising c.in_ok-claim-2.ensures.message
    c.commit.ensures.sent none in
    let only = sends ∙ ap (λ l. message (pos 1) l ∷ []) c.to_le_bytes-2.ensures in
    let r = c.read.ensures.received in
    let closed = c.in_ok-closed.ensures in
    record {
      sends = ap (λ (x : Last). sent x.producer) closed.ends ∙ only;
      whole = whole_in c.commit.new.self c.read.new.self c.in_ok-closed.closed closed;
      sum = sums (record { sum = 0 }) c.read.new.handler (received c.in_ok-producer.consumer) r.messages r.actions r.handled
          (sym (ap sum_of begins.1)) ∙ sym (ap sum_of r.more)
          ∙ ap sum_of (sym (ap (λ (x : Last). received x.consumer) closed.ends));
    }
