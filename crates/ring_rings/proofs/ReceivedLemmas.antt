-- What reads receive, by what they do to views.
use Rattle.std.proofs.Common.{◌≡◌, ◌⊎◌, ◌∙◌, ◌+◌, ℕ, suc, List, [], ◌∷◌, ◌++◌, length, length-append, refl, sym, ap, subst, append_assoc, inl, inr}
use Rattle.ring_layout.specs.{declared.message.Message.Message, Handles.Handles}
use Rattle.ring_words.specs.declared.read.{action.Action.Action, end.ReadEnd.ReadEnd}
use Rattle.ring_table.specs.declared.claim.PlacedMessage.{PlacedMessage}
use Rattle.ring_rings.specs.{declared.ring.Consumer.Consumer, Reading.Controls, Reading.Reads, Reading.messages_of}
use Rattle.ring_rings.specs.{Ring.received, Ring.Leaves, Ring.Receives, Seats.consumer_view}
use Rattle.ring_rings.proofs.SentLemmas.{messages_of-append}

pub lengths : (ms : List PlacedMessage) → length (messages_of ms) ≡ length ms
lengths [] = refl
lengths (m ∷ ms) = ap suc (lengths ms)

module _ {S : Type 0} (step : S → Message → S → Action → Type 0) where
  pub reads_receive : (limit : ℕ) (old new : Consumer) (s t : S) (count : ℕ)
      → Reads step limit (consumer_view old) (consumer_view new) s t count → Receives step old new s t count
  reads_receive limit old new s t count r = record {
    messages = messages_of r.messages;
    actions = r.actions;
    handled = r.handled;
    counted = r.counted ∙ sym (lengths r.messages);
    more = ap messages_of r.taken ∙ messages_of-append (consumer_view old).consumer.taken r.messages;
  }

  pub controls_receive : (limit : ℕ) (old new : Consumer) (s t : S) (end : ReadEnd)
      → Controls step limit (consumer_view old) (consumer_view new) s t end
      → Receives step old new s t end.messages ⊎ Leaves step old new s t end.messages
  controls_receive limit old new s t end (inl on) = inl (reads_receive limit old new s t end.messages on.reads.reads)
  controls_receive limit old new s t end (inr (inl broke)) =
      inl (reads_receive limit old new s t end.messages broke.reads.reads)
  controls_receive limit old new s t end (inr (inr cut)) = inr (record {
    between = cut.before;
    message = cut.message;
    receives = reads_receive limit old new s cut.before end.messages cut.reads.reads;
    next = cut.next;
    aborted = cut.aborted;
  })

  handles_both : (s u t : S) (ms ns : List Message) (actions more : List Action) → Handles step s ms actions u
      → Handles step u ns more t → Handles step s (ms ++ ns) (actions ++ more) t
  handles_both s u t [] ns [] more first second = subst (λ (x : S). Handles step x ns more t) (sym first) second
  handles_both s u t [] ns (a ∷ actions) more first second = absurd first
  handles_both s u t (m ∷ ms) ns [] more first second = absurd first
  handles_both s u t (m ∷ ms) ns (a ∷ actions) more first second =
      (first.0, first.1, handles_both first.0 u t ms ns actions more first.2 second)

  -- one read after another
  pub receives_both : (old between new : Consumer) (s u t : S) (n k : ℕ) → Receives step old between s u n
      → Receives step between new u t k → Receives step old new s t (n + k)
  receives_both old between new s u t n k first second = record {
    messages = first.messages ++ second.messages;
    actions = first.actions ++ second.actions;
    handled = handles_both s u t first.messages second.messages first.actions second.actions first.handled second.handled;
    counted = (λ i. first.counted i + second.counted i) ∙ sym (length-append first.messages second.messages);
    more = second.more ∙ ap (λ l. l ++ second.messages) first.more
        ∙ append_assoc (received old) first.messages second.messages;
  }
