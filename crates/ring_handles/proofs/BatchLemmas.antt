-- A controlled read of messages into a buffer, one after another.
use Rattle.std.proofs.Common.{◌≡◌, ◌≢◌, ◌⊎◌, inl, inr, ℕ, zero, suc, ◌+◌, ◌<◌, ◌≤◌, true, false, arith, ℤ, pos, List, [], ◌∷◌, ◌++◌, All, length, refl, sym, ap, ◌∙◌, subst, append-nil}
use Rattle.std.proofs.lemmas.List.Elements.{All-head, All-tail}
use Rattle.ring_layout.specs.{declared.message.Message.Message, Handles.Handles}
use Rattle.ring_words.specs.{declared.read.action.Action.Action, declared.read.end.ReadEnd.ReadEnd, Controlled.GoesOn}
use Rattle.ring_words.specs.declared.read.action.Action.TheVariants.{Abort, Break, Continue}
use Rattle.ring_words.specs.declared.read.end.Stop.{Stop, TheVariants.Block, TheVariants.Unpublished}
use Rattle.ring_table.specs.declared.{claim.PlacedMessage.PlacedMessage, view.View.View}
use Rattle.ring_rings.specs.Reading.{Controls, EndsAt, FoundUnsettled, Reads, messages_of}
use Rattle.ring_handles.specs.{declared.batch.Laying.Laying, Side.Reading}
use Rattle.ring_rings.proofs.{ReceivedLemmas.lengths, SentLemmas.messages_of-append}
use Rattle.ring_ends.specs.Next.{CameToEnd, HadNone, RanOut, TookNone}
use Rattle.ring_ends.proofs.EndLemmas.{one_ring}
use Rattle.ring_ends.proofs.StopLemmas.{blocked_on, both, next_on, none_twice, over, ran_out}
use Rattle.ring_handles.specs.Batch.{Batch, HasNoRoomAt, IsShort, LaidNone, LaysIn, Lays, LeavesOut, NoMoreCame, ReadBatch, ReadsBatch, ReceivesBatch, TookBatch, TookSome, batch, laid, laid_end, span_in}
use Rattle.ring_handles.proofs.ConsumerLemmas.{not_zero, same_digits}

-- these messages were laid after what was used
record WereLaid (s : Laying) (ms : List PlacedMessage) (t : Laying) : Type 0 where
  pub buffer : t.buffer.now ≡ laid s.used (messages_of ms) s.buffer.now
  pub used : t.used ≡ laid_end s.used (messages_of ms)
  pub room : t.used ≤ length s.buffer.now
  pub full : t.is_full ≡ s.is_full
  pub size : length t.buffer.now ≡ length s.buffer.now
  pub borrow : t.buffer.ghost_name ≡ s.buffer.ghost_name

-- to go on means that the message was added
added : (s u : Laying) (m : Message) (a : Action) → Lays s m u a → GoesOn a → LaysIn s m u a
added s u m a (inl adds) on = adds
added s u m a (inr leaves) on = absurd (subst GoesOn leaves.action on)

-- a handler that goes on has laid what it was shown
were_laid : (s t : Laying) (ms : List PlacedMessage) (actions : List Action)
    → Handles Lays s (messages_of ms) actions t → All GoesOn actions → s.used ≤ length s.buffer.now → WereLaid s ms t
were_laid s t [] [] handled on room =
    subst (λ (u : Laying). WereLaid s [] u) handled
    (record { buffer = refl; used = refl; room = room; full = refl; size = refl; borrow = refl })
were_laid s t [] (a ∷ actions) handled on room = absurd handled
were_laid s t (m ∷ ms) [] handled on room = absurd handled
were_laid s t (m ∷ ms) (a ∷ actions) handled on room =
    let u = handled.0 in
    let adds = added s u m.message a handled.1 (All-head GoesOn a actions on) in
    let fits : u.used ≤ length u.buffer.now = subst (λ (n : ℕ). u.used ≤ n) (sym adds.size)
    (subst (λ (n : ℕ). n ≤ length s.buffer.now) (sym adds.used) adds.room) in
    let rest = were_laid u t ms actions handled.2 (All-tail GoesOn a actions on) fits in
    record {
      buffer = rest.buffer ∙ (λ i. laid (adds.used i) (messages_of ms) (adds.buffer i));
      used = rest.used ∙ (λ i. laid_end (adds.used i) (messages_of ms));
      room = subst (λ (n : ℕ). t.used ≤ n) adds.size rest.room;
      full = rest.full ∙ adds.full;
      size = rest.size ∙ adds.size;
      borrow = rest.borrow ∙ adds.borrow;
    }

-- it never breaks
no_break : (s t : Laying) (m : Message) → Lays s m t Break → ⊥
no_break s t m (inl adds) = let clash : Break ≡ Continue = adds.action in absurd cc
no_break s t m (inr leaves) = let clash : Break ≡ Abort = leaves.action in absurd cc

never_broke : (s t : Laying) (ms : List PlacedMessage) (before : List Action)
    → Handles Lays s (messages_of ms) (before ++ Break ∷ []) t → ⊥
never_broke s t [] [] handled = handled
never_broke s t [] (a ∷ before) handled = handled
never_broke s t (m ∷ ms) [] handled = no_break s handled.0 m.message handled.1
never_broke s t (m ∷ ms) (a ∷ before) handled = never_broke handled.0 t ms before handled.2

-- Abort is not Continue
left : (s t : Laying) (m : Message) → Lays s m t Abort → LeavesOut s m t Abort
left s t m (inr leaves) = leaves
left s t m (inl adds) = let clash : Abort ≡ Continue = adds.action in absurd cc

-- How a read ends ---------------------------------------------------------------

below : (n m : ℕ) → n ≡ 0 → n ≤ m
below n m is = subst (λ (k : ℕ). k ≤ m) (sym is) (omega arith)

-- messages were laid, and then one more had no room, or none came
record Ends (limit : ℕ) (v w : View) (s t : Laying) (end : ReadEnd) : Type 0 where
  pub between : Laying
  pub reads : Reads Lays limit v w s between end.messages
  pub were : WereLaid s reads.messages between
  pub buffer : t.buffer.now ≡ between.buffer.now
  pub used : t.used ≡ between.used
  pub borrow : t.buffer.ghost_name ≡ between.buffer.ghost_name
  pub full : (t.is_full ≡ between.is_full) ⊎ HasNoRoomAt between.used between.buffer.now v w
  pub stops : EndsAt limit v w end → (end.messages ≡ limit)
      ⊎ (HasNoRoomAt between.used between.buffer.now v w ⊎ (FoundUnsettled v w ⊎ CameToEnd v w))

-- the same among more reasons
why_over : {All R A B C D : Type 0} → All ⊎ ((A × B) ⊎ (C × D)) → All ⊎ (R ⊎ (B ⊎ D))
why_over (inl all) = inl all
why_over (inr (inl (is, found))) = inr (inr (inl found))
why_over (inr (inr (is, came))) = inr (inr (inr came))

ends : (limit : ℕ) (v w : View) (s t : Laying) (end : ReadEnd) → s.used ≡ 0 → Controls Lays limit v w s t end
    → Ends limit v w s t end
ends limit v w s t end fresh (inl on) = record {
  between = t;
  reads = on.reads.reads;
  were = were_laid s t on.reads.reads.messages on.reads.reads.actions on.reads.reads.handled on.went_on (below s.used _ fresh);
  buffer = refl;
  used = refl;
  borrow = refl;
  full = inl refl;
  stops = λ to. why_over (over Lays limit v w s t end on to.bytes to.blocked);
}
ends limit v w s t end fresh (inr (inl broke)) =
    absurd (never_broke s t broke.reads.reads.messages broke.before
    (subst (λ (answers : List Action). Handles Lays s (messages_of broke.reads.reads.messages) answers t) broke.broke
    broke.reads.reads.handled))
ends limit v w s t end fresh (inr (inr aborts)) =
    let leaves = left aborts.before t aborts.message aborts.aborted in
    let short : HasNoRoomAt aborts.before.used aborts.before.buffer.now v w =
    record { message = aborts.message; next = aborts.next; short = leaves.short } in
    record {
      between = aborts.before;
      reads = aborts.reads.reads;
      were = were_laid s aborts.before aborts.reads.reads.messages aborts.reads.reads.actions aborts.reads.reads.handled aborts.went_on
          (below s.used _ fresh);
      buffer = leaves.buffer;
      used = leaves.used;
      borrow = leaves.borrow;
      full = inr short;
      stops = λ to. inr (inl short);
    }

-- the buffer is the same one
pub same_borrow : (limit : ℕ) (v w : View) (s t : Laying) (end : ReadEnd) → s.used ≡ 0
    → Controls Lays limit v w s t end → t.buffer.ghost_name ≡ s.buffer.ghost_name
same_borrow limit v w s t end fresh controls =
    let e = ends limit v w s t end fresh controls in
    e.borrow ∙ e.were.borrow

no_messages : (ms : List PlacedMessage) (n : ℕ) → n ≡ length ms → n ≡ 0 → ms ≡ []
no_messages [] n counted none = refl
no_messages (m ∷ ms) n counted none = let clash : suc (length ms) ≡ zero = sym counted ∙ none in absurd cc

-- the same of the bytes before, and of the messages that were laid
no_more : {limit used : ℕ} {v w : View} (ms : List PlacedMessage) (bytes now : List ℕ) (n : ℕ)
    → n ≡ length ms → used ≡ laid_end 0 (messages_of ms) → length now ≡ length bytes
    → (n ≡ limit) ⊎ (HasNoRoomAt used now v w ⊎ (FoundUnsettled v w ⊎ CameToEnd v w))
    → NoMoreCame limit v w bytes ms
no_more ms bytes now n counted is size (inl all) = inl (sym counted ∙ all)
no_more ms bytes now n counted is size (inr (inl full)) = inr (inl (record {
  message = full.message;
  next = full.next;
  short = subst (λ (k : ℕ). k < laid_end 0 (messages_of ms) + span_in (length full.message.body)) size
      (subst (λ (k : ℕ). length now < k + span_in (length full.message.body)) is full.short);
}))
no_more ms bytes now n counted is size (inr (inr rest)) = inr (inr rest)

-- some messages were taken
pub some_taken : (limit : ℕ) (v w : View) (s t : Laying) (end : ReadEnd) → s.used ≡ 0 → EndsAt limit v w end
    → Controls Lays limit v w s t end → end.messages ≢ 0
    → TookSome limit v w s.buffer.now (batch end.messages t.used t.buffer.now)
some_taken limit v w s t end fresh to controls some =
    let e = ends limit v w s t end fresh controls in
    let ms = messages_of e.reads.messages in
    let used : t.used ≡ laid_end 0 ms = e.used ∙ (e.were.used ∙ ap (λ (n : ℕ). laid_end n ms) fresh) in
    let buffer : t.buffer.now ≡ laid 0 ms s.buffer.now =
    e.buffer ∙ (e.were.buffer ∙ ap (λ (n : ℕ). laid n ms s.buffer.now) fresh) in
    record {
      messages = e.reads.messages;
      some = λ none. some (e.reads.counted ∙ ap length none);
      taken = e.reads.taken;
      within = subst (λ (n : ℕ). n ≤ limit) e.reads.counted to.within;
      room = subst (λ (n : ℕ). n ≤ length s.buffer.now) (sym e.used ∙ used) e.were.room;
      stops = no_more e.reads.messages s.buffer.now e.between.buffer.now end.messages e.reads.counted (sym e.used ∙ used) e.were.size (e.stops to);
      outs = λ i. batch (e.reads.counted i) (used i) (buffer i);
    }

-- none was taken, and the buffer is as before
none_taken : (limit : ℕ) (v w : View) (s t : Laying) (end : ReadEnd) → s.used ≡ 0
    → Controls Lays limit v w s t end → end.messages ≡ 0
    → (w.consumer.taken ≡ v.consumer.taken) × (t.buffer.now ≡ s.buffer.now)
none_taken limit v w s t end fresh controls none =
    let e = ends limit v w s t end fresh controls in
    let empty = no_messages e.reads.messages end.messages e.reads.counted none in (
      e.reads.taken ∙ (ap (λ (ns : List PlacedMessage). v.consumer.taken ++ ns) empty ∙ append-nil v.consumer.taken),
      e.buffer ∙ (e.were.buffer ∙ ap (λ (ns : List PlacedMessage). laid s.used (messages_of ns) s.buffer.now) empty),
    )

-- the first message had no room
none_fits : (limit : ℕ) (v w : View) (s t : Laying) (end : ReadEnd) → s.used ≡ 0 → s.is_full ≡ false
    → Controls Lays limit v w s t end → end.messages ≡ 0 → t.is_full ≡ true → IsShort s.buffer.now v w
none_fits limit v w s t end fresh open_yet controls none is_full =
    let e = ends limit v w s t end fresh controls in
    let empty = no_messages e.reads.messages end.messages e.reads.counted none in
    let nothing_used : e.between.used ≡ 0 =
    e.were.used ∙ (ap (λ (ns : List PlacedMessage). laid_end s.used (messages_of ns)) empty ∙ fresh) in
    short e nothing_used e.full
  where
    short : (e : Ends limit v w s t end) → e.between.used ≡ 0
        → (t.is_full ≡ e.between.is_full) ⊎ HasNoRoomAt e.between.used e.between.buffer.now v w
        → IsShort s.buffer.now v w
    short e used (inl same) =
        let clash : true ≡ false = sym is_full ∙ (same ∙ (e.were.full ∙ open_yet)) in absurd cc
    short e used (inr full) = record {
      message = full.message;
      next = full.next;
      short = subst (λ (n : ℕ). n < 0 + span_in (length full.message.body)) e.were.size
          (subst (λ (n : ℕ). length e.between.buffer.now < n + span_in (length full.message.body)) used full.short);
    }

-- no message came
none_came : (limit : ℕ) (v w : View) (s t : Laying) (end : ReadEnd)
    → v.consumer.head + end.bytes ≡ w.consumer.head → (end.stopped ≡ Unpublished → FoundUnsettled v w)
    → Controls Lays limit v w s t end → end.messages ≡ 0 → t.is_full ≡ false → RanOut limit end.stopped v w
none_came limit v w s t end bytes blocked (inl on) none open_yet = ran_out Lays limit v w s t end on none bytes blocked
none_came limit v w s t end bytes blocked (inr (inl broke)) none open_yet =
    absurd (never_broke s t broke.reads.reads.messages broke.before
    (subst (λ (answers : List Action). Handles Lays s (messages_of broke.reads.reads.messages) answers t) broke.broke
    broke.reads.reads.handled))
none_came limit v w s t end bytes blocked (inr (inr aborts)) none open_yet =
    let clash : true ≡ false = sym (left aborts.before t aborts.message aborts.aborted).full ∙ open_yet in absurd cc

-- none was laid
pub laid_none : (limit : ℕ) (v w : View) (s t : Laying) (end : ReadEnd) → (s.used ≡ 0) × (s.is_full ≡ false)
    → EndsAt limit v w end → Controls Lays limit v w s t end → end.messages ≡ 0 → LaidNone limit end.stopped v w s t
laid_none limit v w s t end fresh ends controls none =
    let same = none_taken limit v w s t end fresh.0 controls none in
    record {
      taken = same.0;
      buffer = same.1;
      full = none_fits limit v w s t end fresh.0 fresh.1 controls none;
      out = none_came limit v w s t end ends.bytes ends.blocked controls none;
    }

-- Two reads as one -----------------------------------------------------------------

-- the code says that nothing was there
none_of : {A N S M : Type 0} (code : ℤ) → code ≡ pos 105
    → ((code ≡ pos 0) × A) ⊎ (((code ≡ pos 105) × N × M) ⊎ ((code ≡ pos 106) × S × M)) → N × M
none_of code is (inl (done, a)) = absurd (not_zero code 105 (omega arith) is done)
none_of code is (inr (inl (same, none, outs))) = (none, outs)
none_of code is (inr (inr (short, s, outs))) = absurd (other (same_digits 105 106 (sym is ∙ short)))
  where
    other : ◌≡◌ {A = ℕ} 105 106 → ⊥
    other e = omega arith

-- one read that came to the end of the buffer and took none, and another
pub batch_twice : (limit : ℕ) (one two : Stop) (o o' o'' : Batch) (r s t : Reading) (first code : ℤ) → first ≡ pos 105
    → one ≡ Block → ReadsBatch (RanOut limit one) limit o o' r s first
    → ReadsBatch (RanOut limit two) limit o' o'' s t code → ReadBatch limit o o'' r t code
batch_twice limit one two o o' o'' r s t first code is ended (same, ring, on, took) (same', ring', on', took') = (
  same' ∙ ap (λ (x : Reading). record x { end = t.end }) same,
  one_ring r.end s.end t.end ring ring',
  both v u w on on',
  again (subst (λ (x : Batch). TookBatch (RanOut limit two) limit u w x o'' code) none.1 took'),
)
  where
    v : View
    v = r.end.view

    u : View
    u = s.end.view

    w : View
    w = t.end.view

    none : TookNone (RanOut limit one) v u × (o' ≡ o)
    none = none_of first is took

    no_room : {used : ℕ} {bytes : List ℕ} → HasNoRoomAt used bytes u w → HasNoRoomAt used bytes v w
    no_room full = record {
      message = full.message;
      next = next_on v u w on full.message full.next;
      short = full.short;
    }

    stops : {bytes : List ℕ} (ms : List PlacedMessage) → NoMoreCame limit u w bytes ms → NoMoreCame limit v w bytes ms
    stops ms (inl all) = inl all
    stops ms (inr (inl full)) = inr (inl (no_room full))
    stops ms (inr (inr (inl found))) = inr (inr (inl (blocked_on v u w on found)))
    stops ms (inr (inr (inr came))) = inr (inr (inr (record { on = omega (arith, on.on, came.on); end = came.end })))

    takes : TookSome limit u w o.buffer o'' → TookSome limit v w o.buffer o''
    takes k = record {
      messages = k.messages;
      some = k.some;
      taken = k.taken ∙ ap (λ (ms : List PlacedMessage). ms ++ k.messages) none.0.taken;
      within = k.within;
      room = k.room;
      stops = stops k.messages k.stops;
      outs = k.outs;
    }

    again : TookBatch (RanOut limit two) limit u w o o'' code → TookBatch (HadNone limit) limit v w o o'' code
    again (inl (done, k)) = inl (done, takes k)
    again (inr (inl (code_is, k, outs))) =
        inr (inl (code_is, none_twice limit one two v u w on on' ended none.0 k, outs))
    again (inr (inr (code_is, k, outs))) =
        inr (inr (code_is, record { taken = k.taken ∙ none.0.taken; why = no_room k.why }, outs))

-- what was received
pub received_batch : (Why : View → View → Type 0) (limit : ℕ) (o o' : Batch) (r s : Reading) (code : ℤ)
    → TookBatch Why limit r.end.view s.end.view o o' code → ReceivesBatch o o' r s code
received_batch Why limit o o' r s code (inl (done, k)) = inl (
  done,
  (
    messages_of k.messages,
    (ap (λ (b : Batch). b.count) k.outs ∙ sym (lengths k.messages), ap (λ (b : Batch). b.buffer) k.outs),
    ap messages_of k.taken ∙ messages_of-append r.end.view.consumer.taken k.messages,
  ),
)
received_batch Why limit o o' r s code (inr (inl (is, k, outs))) =
    inr (not_zero code 105 (omega arith) is, ap messages_of k.taken)
received_batch Why limit o o' r s code (inr (inr (is, k, outs))) =
    inr (not_zero code 106 (omega arith) is, ap messages_of k.taken)
