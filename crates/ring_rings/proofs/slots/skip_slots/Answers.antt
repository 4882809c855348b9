use Rattle.std.proofs.Common.{◌≤◌, sym, ap, ◌∙◌, subst}
use Rattle.ring_table.specs.declared.view.View.{View}
use Rattle.ring_rings.proofs.slots.skip_slots.Goals as goal

pub return_body-requires-clause-last : goal.return_body-requires-clause-last
return_body-requires-clause-last c =
    let l = c.requires.last in
    let t = c.lend_body.ensures.lends l.front l.message l.got in
    record {
      last = record {
        front = l.front;
        message = l.message;
        got = ap (λ (v : View). v.consumer.got) t.0 ∙ l.got;
        place_is = l.place_is;
        ahead = subst (λ n. n ≤ l.message.place) (sym (ap (λ (v : View). v.consumer.cleared) t.0)) l.ahead;
      };
      out_is = ap (λ (v : View). v.out) t.0;
      slots = t.1;
    }
