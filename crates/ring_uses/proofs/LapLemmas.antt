-- What a receiver has after each call.
use Rattle.std.proofs.Common.{◌≡◌, ◌∙◌, ◌+◌, ◌%◌, ◌^◌, ◌≤◌, ℕ, [], ◌∷◌, sym, ap, subst, arith, Ok, Err, Some, None, Option, Result}
use Rattle.std.proofs.lemmas.List.{map-append, Elements.All-push}
use Rattle.ring_board.specs.declared.{board.Copied.Copied, board.CopyReceiver.CopyReceiver, shared.view.Taken.Taken}
use Rattle.ring_board.specs.declared.fault.Lapped.{Lapped}
use Rattle.ring_board.specs.Board.{copied, lapped_count_of, new_copy, CopiesNext}
use Rattle.ring_uses.specs.{Laps.messages_of, Laps.AreWithin, Numbers.number_of, Numbers.sum_of}
use Rattle.ring_uses.proofs.SumLemmas.{sum_more}

within_at : (old new : CopyReceiver) → copied new ≡ copied old → lapped_count_of old ≤ lapped_count_of new
    → AreWithin (lapped_count_of old) (copied old) → AreWithin (lapped_count_of new) (copied new)
within_at old new same le h =
    subst (AreWithin (lapped_count_of new)) (sym same) (λ k d lt. let one = h k d lt in omega arith)

pub within_next : (old new : CopyReceiver) (r : Result (Option Copied) Lapped) → CopiesNext old new r
    → AreWithin (lapped_count_of old) (copied old) → AreWithin (lapped_count_of new) (copied new)
within_next old new (Ok None) h w = let e = h.0 in within_at old new h.1 (omega arith) w
within_next old new (Ok (Some c)) h w =
    let e = h.0 in
    subst (AreWithin (lapped_count_of new)) (sym h.1)
    (All-push (λ (c : Taken). c.count ≤ lapped_count_of new) (copied old)
    (new_copy c.place c.type_id c.body.now (lapped_count_of old))
    (λ k d lt. let one = w k d lt in omega arith) (omega arith))
within_next old new (Err l) h w = let e = h.1 in within_at old new h.0 (omega arith) w

pub sum_next : (old new : CopyReceiver) (c : Copied) (sum : ℕ) → CopiesNext old new (Ok (Some c))
    → sum ≡ sum_of (messages_of (copied old))
    → (sum + number_of c.body.now) % 2 ^ 64 ≡ sum_of (messages_of (copied new))
sum_next old new c sum h is =
    let one = new_copy c.place c.type_id c.body.now (lapped_count_of old) in
    ap (λ n. (n + number_of c.body.now) % 2 ^ 64) is ∙ sum_more (messages_of (copied old)) one.message
    ∙ ap sum_of (sym (ap messages_of h.1 ∙ map-append (λ (c : Taken). c.message) (copied old) (one ∷ [])))
