use Rattle.std.proofs.Common.{◌≡◌, ◌≢◌, ◌+◌, ◌/◌, ◌^◌, ◌<◌, ◌≤◌, ℕ, FitsSigned, refl, ap, eqb, arith, subst, length, ◌∙◌, ℤ, to_z, of_z, w32}
use Rattle.std.proofs.lemmas.{Int.to_z-of_z, List.length-replicate}
use Rattle.std.proofs.Math.{Logic.dite, Option.some, Decide.ℕ_discrete}
use prog.Atomic.{either}
use Rattle.ring_layout.specs.Headers.{open_header}
use Rattle.ring_table.specs.{Changes.blank, Views.Logs, Views.Wanted, ProducerSteps.MovesTail}
use Rattle.ring_table.proofs.{MarkSteps.same_reader, ClaimLemmas.moves_tail}
use Rattle.ring_table.proofs.Calls.{same_seat, trailer_step, leaves_claim, leaves_same, of_as}
use Rattle.ring_table.proofs.steps.producer.move_tail.Goals as goal

header_is : (type_id : ℤ) (len x : ℕ) → FitsSigned w32 type_id → x ≡ open_header (to_z w32 (of_z w32 type_id)) len → x ≡ open_header type_id len
header_is type_id len x fits e = e ∙ ap (λ z. open_header z len) (to_z-of_z w32 type_id fits)

pub compare_exchange_with-requires : goal.compare_exchange_with-requires
compare_exchange_with-requires g c =
    let old : ℕ = c.args.old in
    let new : ℕ = c.args.new in
    let zeros : length (blank c.args.wanted.type_id c.args.wanted.len).body ≡ c.args.wanted.len =
    length-replicate c.args.wanted.len 0 in
    let short : c.args.wanted.len ≤ c.args.capacity / 8 = omega (arith, c.requires.room.message.short) in
    trailer_step g.M.Mode.bodies c.requires.seat _ 16 (omega arith) c.trailer_word-tail.ensures (λ n. either (eqb n old) new n)
    (λ k me n me'. (me'.1 ≡ me.1) × ((said : Wanted) → FitsSigned w32 said.type_id → 8 + said.len < 2 ^ 31
    → some c.open_header-said.result ≡ some (open_header said.type_id said.len)
    → MovesTail me.0.capacity old new said me.0 n me'.0) × (n ≢ old → Logs k n me.0 me'.0))
    (λ n _ t _ _ _.
    let told = t.1 c.args.wanted c.requires.room.message.type_fits (omega arith) (ap some (header_is
    c.args.wanted.type_id c.args.wanted.len _ c.requires.room.message.type_fits c.open_header-said.ensures)) in (
      t.0,
      dite (ℕ_discrete n old) (λ hit. leaves_claim g.M.Mode.bodies _ _ _ _ _ (told.hit hit))
          (λ missed. leaves_same g.M.Mode.bodies (told.miss missed) refl refl refl (same_reader refl)),
    ))
    (moves_tail g.M.Mode.bodies c.args.capacity c.args.ring.now.key.start _ _ c.args.producer.now.me c.requires.seat.view_is old new
    c.args.wanted c.open_header-said.result
    (header_is c.args.wanted.type_id c.args.wanted.len _ c.requires.room.message.type_fits c.open_header-said.ensures) c.requires.share c.requires.room)

pub returns-clause-told : goal.returns-clause-told
returns-clause-told g c =
    let zeros : length (blank c.args.wanted.type_id c.args.wanted.len).body ≡ c.args.wanted.len = length-replicate c.args.wanted.len 0 in
    let short : c.args.wanted.len ≤ c.args.capacity / 8 = omega (arith, c.requires.room.message.short) in
    let told = c.compare_exchange_with.ensures.2.1 c.args.wanted c.requires.room.message.type_fits (omega arith)
    (ap some (header_is c.args.wanted.type_id c.args.wanted.len _ c.requires.room.message.type_fits c.open_header-said.ensures)) in
    subst (λ (k : ℕ). MovesTail k c.args.old c.args.new c.args.wanted c.args.producer.now.me.0
    c.compare_exchange_with.result c.compare_exchange_with.new.seat.me.0) c.requires.seat.view_is told

pub returns-clause-seat : goal.returns-clause-seat
returns-clause-seat g c =
    let h = c.compare_exchange_with.ensures in
    let told = returns-clause-told g c in
    same_seat h.0 h.1 h.2.0 (dite (ℕ_discrete c.compare_exchange_with.result c.args.old)
    (λ hit. of_as (told.hit hit) refl refl) (λ missed. of_as (told.miss missed) refl refl))
