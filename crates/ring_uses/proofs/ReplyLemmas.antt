-- One request, and its reply.
use Rattle.std.proofs.Common.{◌≡◌, ◌∙◌, ℕ, zero, suc, List, [], ◌∷◌, ◌++◌, inl, inr, length, sym, ap, arith}
use Rattle.std.proofs.Math.{Option.some, Option.some-injective, Option.some-ne-none, ListN.get_elem?}
use Rattle.ring_layout.specs.declared.message.Message.{Message}
use Rattle.ring_board.specs.declared.board.CopyReceiver.{CopyReceiver}
use Rattle.ring_board.specs.{declared.shared.view.Record.Record, declared.shared.view.Taken.Taken, Runs.AreRuns}
use Rattle.ring_board.specs.Board.{copied, lapped_count_of, new_copy}
use Rattle.ring_rings.specs.Ring.{AreMerged}
use Rattle.ring_protocol.specs.{declared.reply.Reply.Reply, Reply.spelling_of, Reply.type_id_of}
use Rattle.ring_service.specs.{Account.messages_in, Account.reply_message, Service.CopiesMessage}
use Rattle.ring_uses.specs.{Laps.messages_of, Reply.replies_to}

-- what is merged with nothing is as it was
pub merged_alone : {A : Type 0} (ys zs : List A) → AreMerged [] ys zs → zs ≡ ys
merged_alone ys [] m = sym m.1
merged_alone ys (z ∷ zs) (inl m) = let clash = m.1 in absurd cc
merged_alone ys (z ∷ zs) (inr m) = ap (λ l. z ∷ l) (merged_alone m.0 zs m.2) ∙ sym m.1

-- a reply that was received is the message of a transmitted record
pub record IsTransmitted (records : List Record) (m : Message) : Type 0 where
  pub nth : ℕ
  pub entry : Record
  pub there : get_elem? records nth ≡ some entry
  pub is : entry.message ≡ m

-- the one copy after a reply was received
pub one_copy : (reply : Reply) (old new : CopyReceiver) → copied old ≡ [] → CopiesMessage old new (reply_message reply)
    → messages_of (copied new) ≡ reply_message reply ∷ []
one_copy reply old new none copies =
    let copy : Taken = new_copy copies.1 (type_id_of reply) (spelling_of reply) (lapped_count_of old) in
    ap messages_of (copies.2 ∙ ap (λ l. l ++ copy ∷ []) none)

pub copied_is_transmitted : (records : List Record) (from : ℕ) (reply : Reply) (old new : CopyReceiver) → copied old ≡ []
    → CopiesMessage old new (reply_message reply) → AreRuns records from (copied new)
    → IsTransmitted records (reply_message reply)
copied_is_transmitted records from reply old new none copies runs =
    let copy : Taken = new_copy copies.1 (type_id_of reply) (spelling_of reply) (lapped_count_of old) in
    let all = copies.2 ∙ ap (λ l. l ++ copy ∷ []) none in
    let entry = runs.entries 0 copy (ap (λ l. get_elem? l 0) all) in
    record { nth = entry.0; entry = entry.1; there = entry.2; is = sym entry.3.message }

-- one request was sent, and a reply was transmitted: so the request was received, and that reply is the only one
pub one_reply : (request : Message) (received unread : List Message) (records : List Record) (m : Message)
    → received ++ unread ≡ request ∷ [] → messages_in records ≡ replies_to received → IsTransmitted records m
    → (received ≡ request ∷ []) × (messages_in records ≡ m ∷ [])
one_reply request [] unread [] m all replies t = absurd (some-ne-none t.entry (sym t.there))
one_reply request [] unread (r ∷ records) m all replies t =
    (let l = ap length replies in absurd (omega (arith, l)))
one_reply request (x ∷ []) [] [] m all replies t = absurd (some-ne-none t.entry (sym t.there))
one_reply request (x ∷ []) [] (r ∷ []) m all replies t = (all, only t.nth t.there)
  where
    only : (k : ℕ) → get_elem? (r ∷ []) k ≡ some t.entry → r.message ∷ [] ≡ m ∷ []
    only zero there = ap (λ (z : Record). z.message ∷ []) (some-injective r t.entry there) ∙ ap (λ z. z ∷ []) t.is
    only (suc k) there = absurd (some-ne-none t.entry (sym there))
one_reply request (x ∷ []) [] (r ∷ s ∷ records) m all replies t =
    (let l = ap length replies in absurd (omega (arith, l)))
one_reply request (x ∷ []) (u ∷ unread) records m all replies t = (let l = ap length all in absurd (omega (arith, l)))
one_reply request (x ∷ y ∷ received) unread records m all replies t =
    (let l = ap length all in absurd (omega (arith, l)))
