-- The service in a caller's words.
use Rattle.std.proofs.Common.{◌≡◌, ◌∙◌, ℕ, ℤ, List, [], ◌∷◌, ◌++◌, sym, ap}
use Rattle.ring_layout.specs.declared.message.Message.{Message}
use Rattle.ring_rings.specs.{Reading.messages_of, Ring.message}
use Rattle.ring_rings.proofs.{ReceivedLemmas.lengths, SentLemmas.messages_of-append}
use Rattle.ring_protocol.specs.Command.{Instruction, spelling_of, type_id_of}
use Rattle.ring_service.specs.{declared.conductor.Conductor.Conductor, declared.conductor.Work.Work, Fold.at_moment}
use Rattle.ring_service.specs.Conducting.{ledger_of, ring_view, Works}
use Rattle.ring_service.specs.Service.{account_in, command_message, Serves}
use Rattle.ring_service.proofs.AccountLemmas.{same_fold}

-- a message of this type id and body is that of the command which they spell
pub sends_command : (c : Instruction) (t : ℤ) (body : List ℕ) (old new : List Message) → t ≡ type_id_of c
    → body ≡ spelling_of c → new ≡ old ++ message t body ∷ [] → new ≡ old ++ command_message c ∷ []
sends_command c t body old new type_is body_is more = more ∙ (λ i. old ++ message (type_is i) (body_is i) ∷ [])

pub works_serve : (now limit : ℕ) (old new : Conductor) (done : Work)
    → Works now limit (ring_view old) (ring_view new) (ledger_of old) (ledger_of new) done
    → Serves now old new done.messages
works_serve now limit old new done w = record {
  messages = messages_of w.messages;
  counted = w.counted ∙ sym (lengths w.messages);
  more = ap messages_of w.received ∙ messages_of-append (ring_view old).consumer.taken w.messages;
  folded = ap account_in w.folded ∙ same_fold (ledger_of old) (at_moment now (messages_of w.messages));
}
