-- What a read took, by the handler's actions.
use Rattle.std.proofs.Common.{◌≡◌, ℕ, List, true, false, subst, refl}
use Rattle.ring_layout.specs.{declared.message.Message.Message, Handles.Handles}
use Rattle.ring_words.specs.{declared.read.action.Action.Action, declared.read.end.ReadEnd.ReadEnd, Controlled.heeded}
use Rattle.ring_words.specs.{Read.Controls, Read.Reads, Read.stop_of, Ring.Ring, Ring.head_of}
use Rattle.ring_words.proofs.HeedLemmas.{ends_heard, ends_unheard, handles_heard, handles_unheard, no_break}

module _ {S : Type 0} (step : S → Message → S → Action → Type 0) (limit : ℕ) (old new : Ring) (s : S) where
  reads_heard : (t : S) (count : ℕ) → Reads (heeded true step) limit old new s t count
      → Reads step limit old new s t count
  reads_heard t count r = record {
    messages = r.messages;
    actions = r.actions;
    handled = handles_heard step s r.messages r.actions t r.handled;
    counted = r.counted;
    moves = r.moves;
    passes = r.passes;
  }

  pub controls_heard : (t : S) (end : ReadEnd) → Controls (heeded true step) limit old new s t end
      → Controls step limit old new s t end
  unfolding reads_heard
  controls_heard t end h = ends_heard step limit reads_heard (λ u n r. refl) (λ u n r tight. tight) h

  pub reads_unheard : (t : S) (end : ReadEnd) → Controls (heeded false step) limit old new s t end
      → Reads step limit old new s t end.messages
      × (end.stopped ≡ stop_of new.capacity limit end.messages (head_of new) end.bytes)
  reads_unheard t end h =
      let on = ends_unheard step limit (λ n r before is. no_break step s r.messages before t
      (subst (λ (l : List Action). Handles (heeded false step) s r.messages l t) is r.handled)) h in
      let shown = handles_unheard step s on.0.messages on.0.actions t on.0.handled in (
        record {
          messages = on.0.messages;
          actions = shown.0;
          handled = shown.1;
          counted = on.0.counted;
          moves = on.0.moves;
          passes = on.0.passes;
        },
        on.1,
      )
