use Rattle.std.proofs.Common.{ℕ, List, [], refl, sym, ap, ◌∙◌, append-nil}
use Rattle.ring_layout.specs.History.{overwritten}
use Rattle.ring_table.specs.{declared.claim.StagedClaim.StagedClaim, declared.view.View.View, Views.with_claims}
use Rattle.ring_table.specs.Changes.{changed, with_body}
use Rattle.ring_rings.{specs.Bodies.put_at, proofs.PutLemmas.changed_alike}
use Rattle.ring_rings.proofs.slots.InSlotsBodies.put_bytes.Goals as goal

pub returns-clause-put : goal.returns-clause-put
returns-clause-put c =
    let h = c.requires.claim in
    let v : View = c.args.seat.now.me.0 in
    let new : List ℕ = overwritten c.args.offset c.args.bytes.now h.claim.message.body in
    let f : StagedClaim → StagedClaim = put_at c.args.offset c.args.bytes.now in
    record {
      loads = [];
      view = c.put_slots.ensures.view h.nth h.claim h.there h.at_place
          ∙ ap (λ (l : List StagedClaim). with_claims l v)
          (changed_alike c.args.place (with_body new) f v.producer.claims h.nth h.claim c.put_slots.ensures.rising
          h.there h.at_place refl)
          ∙ ap (λ (l : List (ℕ × ℕ)). with_claims (changed c.args.place f v.producer.claims) (record v { log = l })) (sym (append-nil v.log));
    }
