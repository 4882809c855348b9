-- A controlled read that copies one message into a buffer, and takes it or leaves it.
use Rattle.std.proofs.Common.{◌≡◌, ◌+◌, ◌<◌, inl, inr, ℕ, List, [], ◌∷◌, ◌++◌, ℤ, Bool, true, false, drop, length, take, refl, sym, ap, ◌∙◌, subst, take_at}
use Rattle.ring_layout.specs.declared.message.Message.{Message}
use Rattle.ring_words.specs.declared.read.action.Action.{Action, TheVariants.Abort, TheVariants.Break}
use Rattle.ring_words.specs.{declared.read.end.ReadEnd.ReadEnd, Controlled.GoesOn}
use Rattle.ring_words.specs.declared.read.end.Stop.{Stop, TheVariants.Block, TheVariants.Unpublished}
use Rattle.ring_table.specs.declared.{claim.PlacedMessage.PlacedMessage, view.View.View}
use Rattle.ring_rings.specs.Reading.{Controls, FoundUnsettled, IsNext, messages_of}
use Rattle.ring_rings.{specs.Ring.message, proofs.SentLemmas.messages_of-append}
use Rattle.ring_ends.specs.declared.copying.{Copying.Copying, NextMessage.NextMessage}
use Rattle.ring_ends.specs.declared.copying.NextMessage.TheVariants.{Copied, Nothing, TooLong}
use Rattle.ring_ends.specs.{End.received, End.End, Handlers.after_copy, Handlers.Copies, Handlers.CopiesIn}
use Rattle.ring_ends.specs.Next.{CopiesIt, CopiesNext, CopiesOne, HadNone, IsAtFront, RanOut, ReceivesNext, Shows, Took}
use Rattle.ring_ends.proofs.ShownLemmas.{none_more, shown_none, shown_one, uncounted}
use Rattle.ring_ends.proofs.StopLemmas.{both, next_on, none_twice, ran_out}

ends : (takes : Bool) → GoesOn (after_copy takes) → ⊥
ends true on = on
ends false on = on

-- it never goes on after a message
never_on : (s t : Copying) (m : Message) (a : Action) → Copies s m t a → GoesOn a → ⊥
never_on s t m a (inl fits) on = ends s.takes (subst GoesOn fits.action on)
never_on s t m a (inr exceeds) on = subst GoesOn exceeds.action on

-- Break is not Abort
broken : (s t : Copying) (m : Message) → Copies s m t Break → CopiesIn s m t Break
broken s t m (inl fits) = fits
broken s t m (inr exceeds) = let clash : Break ≡ Abort = exceeds.action in absurd cc

-- after Break it was taken, and after Abort it stays
taken : {v w : View} {type_id : ℤ} {len : ℕ} {b b' : List ℕ} (takes : Bool) → Break ≡ after_copy takes
    → Took v w type_id len b b' → CopiesIt takes v w type_id len b b'
taken true is took = took
taken false is took = let clash : Break ≡ Abort = is in absurd cc

stayed : {v w : View} {type_id : ℤ} {len : ℕ} {b b' : List ℕ} (takes : Bool) → Abort ≡ after_copy takes
    → Shows v w type_id len b b' → CopiesIt takes v w type_id len b b'
stayed false is shows = shows
stayed true is shows = let clash : Abort ≡ Break = is in absurd cc

-- Of the consumer ----------------------------------------------------------------

front : (s t : Copying) (m : Message) (a : Action) → CopiesIn s m t a
    → IsAtFront m m.type_id (length m.body) s.buffer.now t.buffer.now
front s t m a fits = record { room = fits.room; head = record { type_is = refl; len_is = refl }; buffer = fits.buffer }

-- the message at the new head stays, copied or too long
left : (Why : View → View → Type 0) (v w : View) (s t : Copying) (m : Message)
    → w.consumer.taken ≡ v.consumer.taken → IsNext v w m → Copies s m t Abort
    → CopiesOne s.takes Why s.buffer.now t.buffer.now v t.found w
left Why v w s t m taken next (inl fits) =
    subst (λ (found : NextMessage). CopiesOne s.takes Why s.buffer.now t.buffer.now v found w) (sym fits.found)
    (stayed s.takes fits.action record { taken = taken; message = m; next = next; front = front s t m Abort fits })
left Why v w s t m taken next (inr exceeds) =
    subst (λ (found : NextMessage). CopiesOne s.takes Why s.buffer.now t.buffer.now v found w) (sym exceeds.found) (
      record {
        taken = taken;
        message = m;
        next = next;
        head = record { type_is = refl; len_is = refl };
        short = exceeds.short;
      },
      exceeds.buffer,
    )

-- it copied one message, or none, or left one that is too long
pub copied_one : (v w : View) (s t : Copying) (end : ReadEnd) → s.found ≡ Nothing
    → v.consumer.head + end.bytes ≡ w.consumer.head → (end.stopped ≡ Unpublished → FoundUnsettled v w)
    → Controls Copies 1 v w s t end
    → CopiesOne s.takes (RanOut 1 end.stopped) s.buffer.now t.buffer.now v t.found w
copied_one v w s t end waits bytes blocked (inl on) =
    let none = shown_none Copies never_on s t on.reads.reads.messages on.reads.reads.actions on.reads.reads.handled on.went_on in
    subst (λ (found : NextMessage). CopiesOne s.takes (RanOut 1 end.stopped) s.buffer.now t.buffer.now v found w)
    (sym waits ∙ ap (λ (u : Copying). u.found) none.1) (
      record {
        taken = none_more v w on.reads.reads.messages on.reads.reads.taken none.0;
        why = ran_out Copies 1 v w s t end on
            (uncounted end.messages on.reads.reads.messages on.reads.reads.counted none.0) bytes blocked;
      },
      ap (λ (u : Copying). u.buffer.now) (sym none.1),
    )
copied_one v w s t end waits bytes blocked (inr (inl broke)) =
    let one = shown_one Copies never_on s t broke.reads.reads.messages broke.reads.reads.actions broke.before broke.reads.reads.handled broke.went_on
    broke.broke in
    let fits = broken s t one.0.message one.2 in
    subst (λ (found : NextMessage). CopiesOne s.takes (RanOut 1 end.stopped) s.buffer.now t.buffer.now v found w)
    (sym fits.found)
    (taken s.takes fits.action record {
      message = one.0;
      taken = broke.reads.reads.taken ∙ ap (λ (ns : List PlacedMessage). v.consumer.taken ++ ns) one.1;
      front = front s t one.0.message Break fits;
    })
copied_one v w s t end waits bytes blocked (inr (inr aborts)) =
    let none =
    shown_none Copies never_on s aborts.before aborts.reads.reads.messages aborts.reads.reads.actions aborts.reads.reads.handled aborts.went_on in
    left (RanOut 1 end.stopped) v w s t aborts.message
    (none_more v w aborts.reads.reads.messages aborts.reads.reads.taken none.0) aborts.next
    (subst (λ (u : Copying). Copies u aborts.message t Abort) (sym none.1) aborts.aborted)

same_copies : (s t : Copying) (m : Message) {a : Action} → Copies s m t a → t.buffer.ghost_name ≡ s.buffer.ghost_name
same_copies s t m (inl fits) = fits.borrow
same_copies s t m (inr exceeds) = exceeds.borrow

-- the buffer is the same one
pub same_borrow : (limit : ℕ) (v w : View) (s t : Copying) (end : ReadEnd) → Controls Copies limit v w s t end
    → t.buffer.ghost_name ≡ s.buffer.ghost_name
same_borrow limit v w s t end (inl on) =
    ap (λ (u : Copying). u.buffer.ghost_name)
    (sym (shown_none Copies never_on s t on.reads.reads.messages on.reads.reads.actions on.reads.reads.handled on.went_on).1)
same_borrow limit v w s t end (inr (inl broke)) =
    let one = shown_one Copies never_on s t broke.reads.reads.messages broke.reads.reads.actions broke.before broke.reads.reads.handled broke.went_on
    broke.broke in
    (broken s t one.0.message one.2).borrow
same_borrow limit v w s t end (inr (inr aborts)) =
    let none =
    shown_none Copies never_on s aborts.before aborts.reads.reads.messages aborts.reads.reads.actions aborts.reads.reads.handled aborts.went_on in
    same_copies s t aborts.message (subst (λ (u : Copying). Copies u aborts.message t Abort) (sym none.1) aborts.aborted)

-- Two reads as one -----------------------------------------------------------------

module _ (takes : Bool) (one two : Stop) (b b' b'' : List ℕ) (v u w : View) (ended : one ≡ Block) where
  -- what another read found after one that came to the end of the buffer
  found_then : (found : NextMessage) → CopiesNext takes (RanOut 1 one) b b' v Nothing u
      → CopiesNext takes (RanOut 1 two) b' b'' u found w → CopiesNext takes (HadNone 1) b b'' v found w
  found_then (Copied type_id len) first then = (
    both v u w first.0 then.0,
    again takes (subst (λ (x : List ℕ). CopiesIt takes u w type_id len x b'') first.1.1 then.1),
  )
    where
      again : (takes : Bool) → CopiesIt takes u w type_id len b b'' → CopiesIt takes v w type_id len b b''
      again true k = record {
        message = k.message;
        taken = k.taken ∙ ap (λ (ms : List PlacedMessage). ms ++ k.message ∷ []) first.1.0.taken;
        front = k.front;
      }
      again false k = record {
        taken = k.taken ∙ first.1.0.taken;
        message = k.message;
        next = next_on v u w first.0 k.message k.next;
        front = k.front;
      }
  found_then (TooLong type_id len) first then =
      let k = then.1.0 in (
        both v u w first.0 then.0,
        (
          record {
            taken = k.taken ∙ first.1.0.taken;
            message = k.message;
            next = next_on v u w first.0 k.message k.next;
            head = k.head;
            short = subst (λ (x : List ℕ). length x < length k.message.body) first.1.1 k.short;
          },
          then.1.1 ∙ first.1.1,
        ),
      )
  found_then Nothing first then = (
    both v u w first.0 then.0,
    (none_twice 1 one two v u w first.0 then.0 ended first.1.0 then.1.0, then.1.1 ∙ first.1.1),
  )

  pub copied_twice : (first found : NextMessage) → first ≡ Nothing → CopiesNext takes (RanOut 1 one) b b' v first u
      → CopiesNext takes (RanOut 1 two) b' b'' u found w → CopiesNext takes (HadNone 1) b b'' v found w
  copied_twice first found is did =
      found_then found (subst (λ (x : NextMessage). CopiesNext takes (RanOut 1 one) b b' v x u) is did)

-- What was received ----------------------------------------------------------------

-- the message at the front of a buffer
in_front : (m : Message) (type_id : ℤ) (len : ℕ) (b b' : List ℕ) → IsAtFront m type_id len b b'
    → m ≡ message type_id (take len b')
in_front m type_id len b b' f =
    let body = (λ i. take (f.head.len_is i) (f.buffer i)) ∙ take_at m.body (drop (0 + length m.body) b) (length m.body) refl in
    λ i. record { type_id = sym f.head.type_is i; body = sym body i }

pub received_next : (p q : End) (Why : View → View → Type 0) (b b' : List ℕ) (found : NextMessage)
    → CopiesOne true Why b b' p.view found q.view → ReceivesNext b' p found q
received_next p q Why b b' (Copied type_id len) k = ap messages_of k.taken
    ∙ messages_of-append p.view.consumer.taken (k.message ∷ [])
    ∙ ap (λ (m : Message). received p ++ m ∷ []) (in_front k.message.message type_id len b b' k.front)
received_next p q Why b b' (TooLong type_id len) k = ap messages_of k.0.taken
received_next p q Why b b' Nothing k = ap messages_of k.0.taken
