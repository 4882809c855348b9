use Rattle.std.proofs.Common.{◌≡◌, ℕ, ◌-◌, ◌*◌, List, length, refl, sym, ap, ◌∙◌, inl, inr, arith, w64, slice_range}
use Rattle.std.specs.Int.{from_le_bytes, to_le_bytes}
use Rattle.ring_layout.{specs.History.overwritten, proofs.WordBytes.length-overwritten}
use Rattle.ring_table.specs.{SlotSteps.words_of, Staged.body_word}
use Rattle.ring_table.proofs.PuttingLemmas.{put_end, put_front, put_more, put_same, put_start, word_kept, word_put}
use Rattle.ring_table.proofs.putting.merge_slots.Goals as goal

pub loop-j-init : goal.loop-j-init
loop-j-init c = record {
  seat = record { table = refl; id = refl; view = refl };
  putting = λ body t. put_start c.args.first c.args.len body (overwritten c.args.offset c.args.bytes.now body)
      c.args.seat.now.me.1 t;
}

pub look_slot-requires-clause-front : goal.look_slot-requires-clause-front
look_slot-requires-clause-front c =
    let t = c.requires.takes in
    let f = put_front c.args.first (words_of c.args.len) t.0 (overwritten c.args.offset c.args.bytes.now t.0) c.loop-j.j
    c.loop-j.seat.me.1 (omega arith) (c.loop-j.invariant.putting t.0 t.1) in
    (body_word t.0 (8 * c.loop-j.j), f.0, f.1)

pub loop-j-preserved : goal.loop-j-preserved
loop-j-preserved c =
    let inv = c.loop-j.invariant in
    let s = c.look_slot.ensures.seat in
    record {
      seat = record { table = s.table ∙ inv.seat.table; id = s.id ∙ inv.seat.id; view = s.view ∙ inv.seat.view };
      putting = λ body t.
          put_same c.args.first (words_of c.args.len) body (overwritten c.args.offset c.args.bytes.now body) c.loop-j.j
          c.loop-j.seat.me.1 (omega arith) (inv.putting body t) c.look_slot.new.seat.me.1
          (word_kept c.args.offset c.args.bytes.now body (omega arith) c.loop-j.j (inl (omega arith)))
          (λ y rest e. (c.look_slot.ensures.keeps y rest e).1);
    }

pub merge_slot-requires-clause-front : goal.merge_slot-requires-clause-front
merge_slot-requires-clause-front c =
    let t = c.requires.takes in
    let f = put_front c.args.first (words_of c.args.len) t.0 (overwritten c.args.offset c.args.bytes.now t.0) c.loop-k.k
    c.loop-k.seat.me.1 (omega arith) (c.loop-k.invariant.putting t.0 t.1) in
    (body_word t.0 (8 * c.loop-k.k), f.0, f.1)

pub loop-k-preserved : goal.loop-k-preserved
loop-k-preserved c =
    let inv = c.loop-k.invariant in
    let s = c.merge_slot.ensures.seat in
    let k : ℕ = c.loop-k.k in
    let from : ℕ = c.max-from.result in
    let to : ℕ = c.min-to.result in
    let bytes : List ℕ = c.args.bytes.now in
    let offset : ℕ = c.args.offset in
    record {
      seat = record { table = s.table ∙ inv.seat.table; id = s.id ∙ inv.seat.id; view = s.view ∙ inv.seat.view };
      putting = λ body t.
          put_more c.args.first (words_of c.args.len) body (overwritten offset bytes body) k c.loop-k.seat.me.1
          (omega arith) (inv.putting body t)
          (from_le_bytes w64 (overwritten (from - 8 * k) (slice_range bytes (from - offset) (to - offset))
          (to_le_bytes w64 (body_word body (8 * k))))) c.merge_slot.new.seat.me.1
          (word_put offset bytes body (omega arith) k t.bytes from to (omega arith) (omega arith) (omega arith)
          (omega arith) (omega arith) (λ j on before. omega arith) (λ j inside past. omega arith) (from - 8 * k)
          (omega arith))
          (λ rest e. c.merge_slot.ensures.puts (body_word body (8 * k)) rest e);
    }

pub look_slot-requires-in-loop-i-clause-front : goal.look_slot-requires-in-loop-i-clause-front
look_slot-requires-in-loop-i-clause-front c =
    let t = c.requires.takes in
    let f = put_front c.args.first (words_of c.args.len) t.0 (overwritten c.args.offset c.args.bytes.now t.0) c.loop-i.i
    c.loop-i.seat.me.1 (omega arith) (c.loop-i.invariant.putting t.0 t.1) in
    (body_word t.0 (8 * c.loop-i.i), f.0, f.1)

pub loop-i-preserved : goal.loop-i-preserved
loop-i-preserved c =
    let inv = c.loop-i.invariant in
    let s = c.look_slot-in-loop-i.ensures.seat in
    record {
      seat = record { table = s.table ∙ inv.seat.table; id = s.id ∙ inv.seat.id; view = s.view ∙ inv.seat.view };
      putting = λ body t.
          put_same c.args.first (words_of c.args.len) body (overwritten c.args.offset c.args.bytes.now body) c.loop-i.i
          c.loop-i.seat.me.1 (omega arith) (inv.putting body t) c.look_slot-in-loop-i.new.seat.me.1
          (word_kept c.args.offset c.args.bytes.now body (omega arith) c.loop-i.i (inr (omega arith)))
          (λ y rest e. (c.look_slot-in-loop-i.ensures.keeps y rest e).1);
    }

pub returns-clause-has : goal.returns-clause-has
returns-clause-has c body t =
    let long = t.long in
    let new : List ℕ = overwritten c.args.offset c.args.bytes.now body in
    let same : length new ≡ length body = length-overwritten c.args.offset c.args.bytes.now body (omega arith) in
    put_end c.args.first (words_of c.args.len) body new c.loop-i.i c.loop-i.seat.me.1 (omega arith)
    (ap words_of (sym (same ∙ t.long))) (c.loop-i.invariant.putting body t)
