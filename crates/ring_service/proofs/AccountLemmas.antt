-- Counters, value writes and replies stay the fold of all messages.
use Rattle.std.proofs.Common.{◌≡◌, ◌∙◌, ℕ, ◌≤◌, ◌^◌, List, [], ◌∷◌, ◌++◌, refl, sym, ap, append_assoc, inl, inr, All}
use Rattle.std.proofs.lemmas.List.{append-nil, Elements.All-cons, Elements.All-nil, Elements.All-append}
use Rattle.ring_layout.specs.{declared.message.Message.Message, Lists.Begins}
use Rattle.ring_table.specs.declared.{claim.PlacedMessage.PlacedMessage, view.View.View}
use Rattle.ring_rings.{specs.Reading.messages_of, proofs.SentLemmas.messages_of-append}
use Rattle.ring_board.specs.declared.shared.view.{Record.Record, Joined.Joined, Taken.Taken}
use Rattle.ring_board.specs.Seats.{next_record}
use Rattle.ring_counters.specs.declared.values.view.ValueWrite.{ValueWrite}
use Rattle.ring_counters.specs.Registry.{Registry, count_of, fresh_registry}
use Rattle.ring_service.specs.declared.conductor.{Cycle.Cycle, Work.Work, WorkStop.WorkStop}
use Rattle.ring_protocol.specs.Reply.{type_id_of, spelling_of}
use Rattle.ring_service.specs.{Applied.applied, Conducting.Works, Running.Runs, Service.account_in}
use Rattle.ring_service.specs.Fold.{Ledger, fold_of, served, at_moment, with_receivers}
use Rattle.ring_service.specs.Account.{Account, IsFoldOf, account_of, entered, fresh_account, messages_in, untimed}
use Rattle.ring_service.proofs.SizeLemmas.{folds_size, fresh_again}

messages_in-append : (a b : List Record) → messages_in (a ++ b) ≡ messages_in a ++ messages_in b
messages_in-append [] b = refl
messages_in-append (r ∷ a) b = ap (λ l. r.message ∷ l) (messages_in-append a b)

-- the same by its parts
pub account_as : (l : Ledger) {registry : Registry} {writes : List ValueWrite} {sent : List Record}
    → l.registry ≡ registry → l.writes ≡ writes → l.board.sent ≡ sent
    → account_in l ≡ record { registry = registry; writes = writes; replies = messages_in sent }
account_as l r w s = λ i. record { registry = r i; writes = w i; replies = messages_in (s i) }

entered_once : (l : Ledger) (now : ℕ) (m : Message) → account_in (served l now m) ≡ entered (account_in l) now m
entered_once l now m =
    let o = applied now l.registry m in
    let record_of : Record = next_record l.board.capacity l.board.at (type_id_of o.reply) (spelling_of o.reply) in
    ap (λ (ms : List Message). let a : Account =
    record { registry = o.registry; writes = l.writes ++ o.writes; replies = ms } in a)
    (messages_in-append l.board.sent (record_of ∷ []))

pub same_fold : (l : Ledger) (ps : List (ℕ × Message)) → account_in (fold_of l ps) ≡ account_of (account_in l) ps
same_fold l [] = refl
same_fold l (p ∷ ps) = same_fold (served l p.0 p.1) ps ∙ ap (λ (a : Account). account_of a ps) (entered_once l p.0 p.1)

pub account_of-append : (a : Account) (ps qs : List (ℕ × Message))
    → account_of a (ps ++ qs) ≡ account_of (account_of a ps) qs
account_of-append a [] qs = refl
account_of-append a (p ∷ ps) qs = account_of-append (entered a p.0 p.1) ps qs

untimed-append : (ps qs : List (ℕ × Message)) → untimed (ps ++ qs) ≡ untimed ps ++ untimed qs
untimed-append [] qs = refl
untimed-append (p ∷ ps) qs = ap (λ l. p.1 ∷ l) (untimed-append ps qs)

untimed-at_moment : (now : ℕ) (ms : List Message) → untimed (at_moment now ms) ≡ ms
untimed-at_moment now [] = refl
untimed-at_moment now (m ∷ ms) = ap (λ l. m ∷ l) (untimed-at_moment now ms)

-- a moment that may be given
abbrev IsMoment : ℕ × Message → Type 0
IsMoment p = p.0 ≤ 2 ^ 62

all_at_moment : (now : ℕ) (ms : List Message) → now ≤ 2 ^ 62 → All IsMoment (at_moment now ms)
all_at_moment now [] le = All-nil IsMoment
all_at_moment now (m ∷ ms) le = All-cons IsMoment (now, m) (at_moment now ms) le (all_at_moment now ms le)

-- nothing was taken, allocated or transmitted
pub folds_none : (taken : List PlacedMessage) (registry : Registry) (writes : List ValueWrite) (sent : List Record)
    → taken ≡ [] → sent ≡ []
    → ((count : ℕ) × (reuse_ms : ℕ) × (registry ≡ fresh_registry count reuse_ms)) × (writes ≡ [])
    → IsFoldOf (messages_of taken) registry writes (messages_in sent)
folds_none taken registry writes sent none unsent unused = record {
  timed = [];
  each = sym (ap messages_of none);
  moments = All-nil IsMoment;
  folded = λ i. record {
    registry = fresh_again registry unused.0.0 unused.0.1 unused.0.2 i;
    writes =
        sym unused.1 i;
    replies = sym (ap messages_in unsent) i;
  };
}

-- more messages, all at one moment
pub folds_on : (ms : List Message) (l k : Ledger) (now : ℕ) (more : List Message) → now ≤ 2 ^ 62
    → k ≡ fold_of l (at_moment now more)
    → IsFoldOf ms l.registry l.writes (messages_in l.board.sent)
    → IsFoldOf (ms ++ more) k.registry k.writes (messages_in k.board.sent)
folds_on ms l k now more le e f =
    let next = at_moment now more in
    let size = folds_size l next in
    let fresh : fresh_account (count_of k.registry) k.registry.reuse_ms
    ≡ fresh_account (count_of l.registry) l.registry.reuse_ms =
    (λ i. fresh_account (count_of (e i).registry) (e i).registry.reuse_ms)
    ∙ (λ i. fresh_account (size.count i) (size.reuse_ms i)) in
    record {
      timed = f.timed ++ next;
      each = untimed-append f.timed next ∙ (λ i. f.each i ++ untimed-at_moment now more i);
      moments = All-append IsMoment f.timed next f.moments (all_at_moment now more le);
      folded = ap (λ (a : Account). account_of a (f.timed ++ next)) fresh
          ∙ account_of-append (fresh_account (count_of l.registry) l.registry.reuse_ms) f.timed next
          ∙ (ap (λ (a : Account). account_of a next) f.folded ∙ (sym (same_fold l next) ∙ sym (ap account_in e)));
    }

module _ (now limit : ℕ) (v w : View) (l k : Ledger) (done : Work) (works : Works now limit v w l k done) where
  -- after the work it is the fold of all messages that were taken
  pub works_on : now ≤ 2 ^ 62 → IsFoldOf (messages_of v.consumer.taken) l.registry l.writes (messages_in l.board.sent)
      → IsFoldOf (messages_of w.consumer.taken) k.registry k.writes (messages_in k.board.sent)
  works_on le f =
      let all = ap messages_of works.received ∙ messages_of-append v.consumer.taken works.messages in
      let on = folds_on (messages_of v.consumer.taken) l k now (messages_of works.messages) le works.folded f in
      record { timed = on.timed; each = on.each ∙ sym all; moments = on.moments; folded = on.folded }

-- What a fold keeps --------------------------------------------------------

pub fold_of-append : (l : Ledger) (ps qs : List (ℕ × Message)) → fold_of l (ps ++ qs) ≡ fold_of (fold_of l ps) qs
fold_of-append l [] qs = refl
fold_of-append l (p ∷ ps) qs = fold_of-append (served l p.0 p.1) ps qs

-- the transmitted list only gets longer
pub lengthens : (l : Ledger) (ps : List (ℕ × Message))
    → (more : List Record) × ((fold_of l ps).board.sent ≡ l.board.sent ++ more)
lengthens l [] = ([], sym (append-nil l.board.sent))
lengthens l (p ∷ ps) =
    let o = applied p.0 l.registry p.1 in
    let one : List Record = next_record l.board.capacity l.board.at (type_id_of o.reply) (spelling_of o.reply) ∷ [] in
    let others = lengthens (served l p.0 p.1) ps in
    (one ++ others.0, others.1 ∙ append_assoc l.board.sent one others.0)

-- receivers don't matter
pub ignores_receivers : (l : Ledger) (shares from : ℕ) (copies : List Taken) (heard : List Joined)
    (ps : List (ℕ × Message))
    → fold_of (with_receivers shares from copies heard l) ps ≡ with_receivers shares from copies heard (fold_of l ps)
ignores_receivers l shares from copies heard [] = refl
ignores_receivers l shares from copies heard (p ∷ ps) = ignores_receivers (served l p.0 p.1) shares from copies heard ps

-- no receiver is joined by a fold
keeps_heard : (l : Ledger) (ps : List (ℕ × Message)) → (fold_of l ps).board.heard ≡ l.board.heard
keeps_heard l [] = refl
keeps_heard l (p ∷ ps) = keeps_heard (served l p.0 p.1) ps

-- nor does a receiver subscribe
keeps_shares : (l : Ledger) (ps : List (ℕ × Message)) → (fold_of l ps).board.shares ≡ l.board.shares
keeps_shares l [] = refl
keeps_shares l (p ∷ ps) = keeps_shares (served l p.0 p.1) ps

module _ (now limit : ℕ) (v w : View) (l k : Ledger) (done : Work) (works : Works now limit v w l k done) where
  pub works_grow : Begins l.board.sent k.board.sent
  works_grow =
      let on = lengthens l (at_moment now (messages_of works.messages)) in
      (on.0, ap (λ (x : Ledger). x.board.sent) works.folded ∙ on.1)

  pub works_heard : k.board.heard ≡ l.board.heard
  works_heard =
      ap (λ (x : Ledger). x.board.heard) works.folded ∙ keeps_heard l (at_moment now (messages_of works.messages))

  pub work_shares : k.board.shares ≡ l.board.shares
  work_shares =
      ap (λ (x : Ledger). x.board.shares) works.folded ∙ keeps_shares l (at_moment now (messages_of works.messages))

grows_twice : (a b c : List Record) → Begins a b → Begins b c → Begins a c
grows_twice a b c one two = (one.0 ++ two.0, two.1 ∙ (ap (λ l. l ++ two.0) one.1 ∙ append_assoc a one.0 two.0))

pub runs_grow : (cs : List Cycle) (last : WorkStop) (v w : View) (l k : Ledger) (done : Work)
    → Runs cs last v w l k done → Begins l.board.sent k.board.sent
runs_grow [] last v w l k done r = ([], ap (λ (x : Ledger). x.board.sent) r.1 ∙ sym (append-nil l.board.sent))
runs_grow (c ∷ cs) last v w l k done (u, j, first, works, inl out) =
    let on = works_grow c.now c.limit v u l j first works in
    (on.0, ap (λ (x : Ledger). x.board.sent) out.2 ∙ on.1)
runs_grow (c ∷ cs) last v w l k done (u, j, first, works, inr on) =
    grows_twice l.board.sent j.board.sent k.board.sent (works_grow c.now c.limit v u l j first works)
    (runs_grow cs first.stopped u w j k on.1.0 on.1.1)

pub runs_heard : (cs : List Cycle) (last : WorkStop) (v w : View) (l k : Ledger) (done : Work)
    → Runs cs last v w l k done → k.board.heard ≡ l.board.heard
runs_heard [] last v w l k done r = ap (λ (x : Ledger). x.board.heard) r.1
runs_heard (c ∷ cs) last v w l k done (u, j, first, works, inl out) =
    ap (λ (x : Ledger). x.board.heard) out.2 ∙ works_heard c.now c.limit v u l j first works
runs_heard (c ∷ cs) last v w l k done (u, j, first, works, inr on) =
    runs_heard cs first.stopped u w j k on.1.0 on.1.1 ∙ works_heard c.now c.limit v u l j first works
