use Rattle.std.proofs.Common.{◌≡◌, ℕ, ◌+◌, ◌*◌, ◌<◌, ◌≤◌, List, [], ◌∷◌, ◌++◌, length, refl, subst, sym, ap, ◌∙◌, arith}
use Rattle.std.specs.Int.{to_le_bytes, w64}
use Rattle.ring_layout.{specs.History.overwritten, proofs.WordBytes.length-overwritten}
use Rattle.ring_table.specs.Filling.{Copying}
use Rattle.ring_table.proofs.FillLemmas.{copy_first, copy_front, copy_start, copy_more, copy_end}
use Rattle.ring_table.proofs.bodies.copy_slots.Goals as goal

-- the scratch with a word more
abbrev put : ℕ → ℕ → List ℕ → List ℕ
put k w scratch = overwritten (8 * k) (to_le_bytes w64 w) scratch

long_put : (k w : ℕ) (scratch : List ℕ) → 8 * k + 8 ≤ length scratch → length (put k w scratch) ≡ length scratch
long_put k w scratch room =
    length-overwritten (8 * k) (to_le_bytes w64 w) scratch (omega arith)

-- the words that were read so far in a turn, as if each was stored
abbrev Reads : ℕ → List (ℕ × ℕ) → List (ℕ × ℕ) → ℕ → Type 0
Reads slot held held' w = (old : ℕ) (rest : List (ℕ × ℕ)) → held ≡ (slot, old) ∷ rest
    → (w ≡ old) × (held' ≡ rest ++ (slot, old) ∷ [])

module _ (first k n : ℕ) (scratch : List ℕ) (before h0 : List (ℕ × ℕ)) (less : k + 1 + 1 + 1 < n)
    (room : 8 * n ≤ length scratch) (t : Copying first k n scratch before h0) where
  module _ (w : ℕ) (h1 : List (ℕ × ℕ)) (read : Reads (first + 1 + k) h0 h1 w) where
    one : Copying first (k + 1) n (put k w scratch) before h1
    one = copy_more first k n w scratch before h0 h1 (omega arith) (omega arith) t read

    module _ (x : ℕ) (h2 : List (ℕ × ℕ)) (read_x : Reads (first + 1 + (k + 1)) h1 h2 x) where
      two : Copying first (k + 1 + 1) n (put (k + 1) x (put k w scratch)) before h2
      two =
          let long = long_put k w scratch (omega arith) in
          copy_more first (k + 1) n x (put k w scratch) before h1 h2 (omega arith) (omega arith) one read_x

      module _ (y : ℕ) (h3 : List (ℕ × ℕ)) (read_y : Reads (first + 1 + (k + 1 + 1)) h2 h3 y) where
        three : Copying first (k + 1 + 1 + 1) n (put (k + 1 + 1) y (put (k + 1) x (put k w scratch))) before h3
        three =
            let long = long_put k w scratch (omega arith) in
            let long_x = long_put (k + 1) x (put k w scratch) (omega arith) in
            copy_more first (k + 1 + 1) n y (put (k + 1) x (put k w scratch)) before h2 h3 (omega arith) (omega arith)
            two read_y

        four : (z : ℕ) (h4 : List (ℕ × ℕ)) → Reads (first + 1 + (k + 1 + 1 + 1)) h3 h4 z
            → Copying first (k + 1 + 1 + 1 + 1) n
            (put (k + 1 + 1 + 1) z (put (k + 1 + 1) y (put (k + 1) x (put k w scratch)))) before h4
        four z h4 read_z =
            let long = long_put k w scratch (omega arith) in
            let long_x = long_put (k + 1) x (put k w scratch) (omega arith) in
            let long_y = long_put (k + 1 + 1) y (put (k + 1) x (put k w scratch)) (omega arith) in
            copy_more first (k + 1 + 1 + 1) n z (put (k + 1 + 1) y (put (k + 1) x (put k w scratch))) before h3 h4
            (omega arith) (omega arith) three read_z

pub look_slot-requires-clause-front : goal.look_slot-requires-clause-front
look_slot-requires-clause-front c = copy_first c.args.first c.args.count c.args.seat.now.me.1 c.requires.has

pub loop-turn-init : goal.loop-turn-init
loop-turn-init c = (
  copy_start c.args.first c.args.count c.args.scratch.now c.args.seat.now.me.1 c.look_slot.new.seat.me.1 c.requires.has
      (λ old rest e. (c.look_slot.ensures.keeps old rest e).1),
  c.look_slot.ensures.seat,
  refl,
)

pub look_slot-w-requires-clause-front : goal.look_slot-w-requires-clause-front
look_slot-w-requires-clause-front c =
    let k : ℕ = 4 * c.loop-turn.turn in
    let inv = c.loop-turn.invariant in
    let held : List (ℕ × ℕ) = c.args.seat.now.me.1 in
    let n : ℕ = c.args.count in
    copy_front c.args.first k n c.loop-turn.scratch held c.loop-turn.seat.me.1 (omega arith) inv.0

pub look_slot-x-requires-clause-front : goal.look_slot-x-requires-clause-front
look_slot-x-requires-clause-front c =
    let k : ℕ = 4 * c.loop-turn.turn in
    let inv = c.loop-turn.invariant in
    let held : List (ℕ × ℕ) = c.args.seat.now.me.1 in
    let n : ℕ = c.args.count in
    copy_front c.args.first (k + 1) n _ held c.look_slot-w.new.seat.me.1 (omega arith)
    (one c.args.first k n c.loop-turn.scratch held c.loop-turn.seat.me.1 (omega arith) (omega arith) inv.0
    c.look_slot-w.result c.look_slot-w.new.seat.me.1 c.look_slot-w.ensures.keeps)

pub look_slot-y-requires-clause-front : goal.look_slot-y-requires-clause-front
look_slot-y-requires-clause-front c =
    let k : ℕ = 4 * c.loop-turn.turn in
    let inv = c.loop-turn.invariant in
    let held : List (ℕ × ℕ) = c.args.seat.now.me.1 in
    let n : ℕ = c.args.count in
    copy_front c.args.first (k + 1 + 1) n _ held c.look_slot-x.new.seat.me.1 (omega arith)
    (two c.args.first k n c.loop-turn.scratch held c.loop-turn.seat.me.1 (omega arith) (omega arith) inv.0
    c.look_slot-w.result c.look_slot-w.new.seat.me.1 c.look_slot-w.ensures.keeps
    c.look_slot-x.result c.look_slot-x.new.seat.me.1 c.look_slot-x.ensures.keeps)

pub look_slot-z-requires-clause-front : goal.look_slot-z-requires-clause-front
look_slot-z-requires-clause-front c =
    let k : ℕ = 4 * c.loop-turn.turn in
    let inv = c.loop-turn.invariant in
    let held : List (ℕ × ℕ) = c.args.seat.now.me.1 in
    let n : ℕ = c.args.count in
    copy_front c.args.first (k + 1 + 1 + 1) n _ held c.look_slot-y.new.seat.me.1 (omega arith)
    (three c.args.first k n c.loop-turn.scratch held c.loop-turn.seat.me.1 (omega arith) (omega arith) inv.0
    c.look_slot-w.result c.look_slot-w.new.seat.me.1 c.look_slot-w.ensures.keeps
    c.look_slot-x.result c.look_slot-x.new.seat.me.1 c.look_slot-x.ensures.keeps
    c.look_slot-y.result c.look_slot-y.new.seat.me.1 c.look_slot-y.ensures.keeps)

pub loop-turn-preserved : goal.loop-turn-preserved
loop-turn-preserved c =
    let k : ℕ = 4 * c.loop-turn.turn in
    let inv = c.loop-turn.invariant in
    let held : List (ℕ × ℕ) = c.args.seat.now.me.1 in
    let n : ℕ = c.args.count in
    let all = four c.args.first k n c.loop-turn.scratch held c.loop-turn.seat.me.1 (omega arith) (omega arith) inv.0
    c.look_slot-w.result c.look_slot-w.new.seat.me.1 c.look_slot-w.ensures.keeps
    c.look_slot-x.result c.look_slot-x.new.seat.me.1 c.look_slot-x.ensures.keeps
    c.look_slot-y.result c.look_slot-y.new.seat.me.1 c.look_slot-y.ensures.keeps
    c.look_slot-z.result c.look_slot-z.new.seat.me.1 c.look_slot-z.ensures.keeps in
    let next : k + 1 + 1 + 1 + 1 ≡ 4 * (c.loop-turn.turn + 1) = omega arith in
    let stored = c.put_word-in-loop-turn-3.ensures
    ∙ ap (put (k + 1 + 1 + 1) c.look_slot-z.result) (c.put_word-in-loop-turn-2.ensures
    ∙ ap (put (k + 1 + 1) c.look_slot-y.result) (c.put_word-in-loop-turn.ensures
    ∙ ap (put (k + 1) c.look_slot-x.result) c.put_word.ensures)) in
    let s = c.look_slot-w.ensures.seat in
    let s2 = c.look_slot-x.ensures.seat in
    let s3 = c.look_slot-y.ensures.seat in
    let s4 = c.look_slot-z.ensures.seat in (
      subst (λ (z : ℕ × List ℕ). Copying c.args.first z.0 n z.1 held c.look_slot-z.new.seat.me.1)
          (λ i. (next i, sym stored i)) all,
      record {
        table = s4.table ∙ s3.table ∙ s2.table ∙ s.table ∙ inv.1.table;
        id = s4.id ∙ s3.id ∙ s2.id ∙ s.id ∙ inv.1.id;
        view = s4.view ∙ s3.view ∙ s2.view ∙ s.view ∙ inv.1.view;
      },
      c.put_word-in-loop-turn-3.auto.bytes ∙ c.put_word-in-loop-turn-2.auto.bytes ∙ c.put_word-in-loop-turn.auto.bytes
          ∙ c.put_word.auto.bytes ∙ inv.2,
    )

pub look_slot-word-requires-clause-front : goal.look_slot-word-requires-clause-front
look_slot-word-requires-clause-front c =
    copy_front c.args.first c.loop-k.k c.args.count c.loop-k.scratch c.args.seat.now.me.1 c.loop-k.seat.me.1 c.loop-k-test.true c.loop-k.invariant.0

pub loop-k-preserved : goal.loop-k-preserved
loop-k-preserved c =
    let inv = c.loop-k.invariant in
    let s = c.look_slot-word.ensures.seat in (
      subst (λ (l : List ℕ). Copying c.args.first (c.loop-k.k + 1) c.args.count l c.args.seat.now.me.1 c.look_slot-word.new.seat.me.1) (sym c.put_word-in-loop-k.ensures)
          (copy_more c.args.first c.loop-k.k c.args.count c.look_slot-word.result c.loop-k.scratch c.args.seat.now.me.1 c.loop-k.seat.me.1
          c.look_slot-word.new.seat.me.1 c.loop-k-test.true (omega arith) inv.0 c.look_slot-word.ensures.keeps),
      record { table = s.table ∙ inv.1.table; id = s.id ∙ inv.1.id; view = s.view ∙ inv.1.view },
      c.put_word-in-loop-k.auto.bytes ∙ inv.2,
    )

pub returns-clause-copies : goal.returns-clause-copies
returns-clause-copies c =
    (copy_end c.args.first c.loop-k.k c.args.count c.loop-k.scratch c.args.seat.now.me.1 c.loop-k.seat.me.1 (omega arith) c.loop-k.invariant.0).1

pub returns-clause-same : goal.returns-clause-same
returns-clause-same c =
    (copy_end c.args.first c.loop-k.k c.args.count c.loop-k.scratch c.args.seat.now.me.1 c.loop-k.seat.me.1 (omega arith) c.loop-k.invariant.0).0
