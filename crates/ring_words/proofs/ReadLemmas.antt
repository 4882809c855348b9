-- The turns of a read.
use Rattle.std.proofs.Common.{◌≡◌, ◌≢◌, ℕ, ◌+◌, ◌-◌, ◌%◌, ◌<◌, ◌≤◌, List, [], ◌∷◌, ◌++◌, length, refl, ap, sym, ◌∙◌, subst, arith, inl, inr, ℤ, pos, ◌≤ℤ◌, All, Some, append-nil, append_assoc}
use Rattle.std.proofs.lemmas.{Int.ints, Bool.cases_lt, List.length_push, Nat.mod_below}
use Rattle.std.proofs.lemmas.List.Elements.{All-nil, All-push, All-head, All-tail, All-cons}
use Rattle.ring_words.specs.declared.read.action.Action.{Action, TheVariants.Abort, TheVariants.Break}
use Rattle.ring_words.specs.declared.read.{head.Settled.Settled, end.ReadEnd.ReadEnd, end.Stop.Stop}
use Rattle.ring_layout.specs.declared.message.{Claim.Claim, Message.Message}
use Rattle.ring_layout.specs.declared.message.ClaimState.TheVariants.{Open, Committed, Aborted}
use Rattle.ring_layout.specs.{History.IsMessage, History.shown, History.committed_of, History.span_of, Handles.Handles}
use Rattle.ring_layout.specs.{Places.room, Places.next_place, Places.end_after, Places.end_of, Headers.padding_type}
use Rattle.ring_words.specs.{Ring.Ring, Ring.Has, Ring.IsRing, Ring.head_of, Open.ClaimAt, Open.IsOpen, Open.IsOpenIn}
use Rattle.ring_words.specs.Reading.{Sees, SeesCommitted, IsAtHead, Leaves, MovesHead}
use Rattle.ring_words.{specs.Controlled.GoesOn, proofs.OpenLemmas.open_after}
use Rattle.ring_words.specs.Read.{Reads, Passes, IsHeadAfter, IsTight, IsNext, WentOn, Broke, Aborts, stop_of}
use Rattle.ring_layout.proofs.Laps.{mod_step, mod_room}
use Rattle.ring_layout.proofs.PlaceLemmas.{next_fixed, span_bounds, end_of-append}

pub Handles-push : {S : Type 0} (step : S → Message → S → Action → Type 0) (s : S) (ms : List Message)
    (as' : List Action) (u : S) (m : Message) (a : Action) (v : S)
    → Handles step s ms as' u → step u m v a → Handles step s (ms ++ m ∷ []) (as' ++ a ∷ []) v
Handles-push {S} step s [] [] u m a v h k = (v, subst (λ (w : S). step w m v a) (sym h) k, refl)
Handles-push step s [] (b ∷ as') u m a v h k = absurd h
Handles-push step s (x ∷ ms) [] u m a v h k = absurd h
Handles-push step s (x ∷ ms) (b ∷ as') u m a v h k = (h.0, h.1, Handles-push step h.0 ms as' u m a v h.2 k)

pub committed_of-append : (xs ys : List Claim) → committed_of (xs ++ ys) ≡ committed_of xs ++ committed_of ys
committed_of-append [] ys = refl
committed_of-append (x ∷ xs) ys = ap (λ l. shown x ++ l) (committed_of-append xs ys)
    ∙ sym (append_assoc (shown x) (committed_of xs) (committed_of ys))

shown_none : (c : Claim) → c.state ≡ Aborted → shown c ≡ []
shown_none c e = rw e refl

shown_one : (c : Claim) → c.state ≡ Committed → shown c ≡ c.message ∷ []
shown_one c e = rw e refl

-- the next claim is where the head is
head_at : (C e h : ℕ) (passed rest : List Claim) (c : Claim) (others : List Claim) → 0 < C → span_of c ≤ C
    → rest ≡ c ∷ others → IsHeadAfter C e passed rest h
    → next_place C h (span_of c) ≡ next_place C (end_of C e passed) (span_of c)
head_at C e h passed rest c others some short is at =
    elim at as (λ _. next_place C h (span_of c) ≡ next_place C (end_of C e passed) (span_of c)) [
      | inl same ↦ ap (λ k. next_place C k (span_of c)) same
      | inr placed ↦
          let one : c ∷ others ≡ placed.0 ∷ placed.1 = sym is ∙ placed.2 in
          let claim : c ≡ placed.0 = cc in
          let there : h ≡ next_place C (end_of C e passed) (span_of c) =
          placed.3 ∙ ap (λ k. next_place C (end_of C e passed) (span_of k)) (sym claim) in
          ap (λ k. next_place C k (span_of c)) there ∙ next_fixed C (end_of C e passed) (span_of c) some short
    ]

-- one turn of a read: at mid, after the messages so far, padding or a claim is passed
module _ (limit : ℕ) (old mid new : Ring) (h : List Claim) (messages : List Message) (s : Settled) (ok : IsRing mid)
    (same : mid.capacity ≡ old.capacity)
    (p : Passes limit old h mid messages) (l : Leaves mid p.rest s new) where
  c : Claim
  c = l.0

  some : 0 < old.capacity
  some = omega (arith, same, ok.capacity.least)

  has_mid : Has mid (l.0 ∷ l.1)
  has_mid = subst (λ (x : List Claim). Has mid x) l.2 p.left

  lawful : IsMessage mid.capacity l.0.message
  lawful = All-head (λ (x : Claim). IsMessage mid.capacity x.message) l.0 l.1 has_mid.lawful

  short : span_of l.0 ≤ old.capacity
  short = omega (arith, lawful.short, span_bounds (length l.0.message.body), ok.capacity.least, same)

  place : next_place old.capacity (head_of mid) (span_of l.0)
      ≡ next_place old.capacity (end_of old.capacity (head_of old) p.passed) (span_of l.0)
  place = head_at old.capacity (head_of old) (head_of mid) p.passed p.rest l.0 l.1 some short l.2 p.head

  -- the passed claims with c are the history's front
  whole_more : h ≡ (p.passed ++ l.0 ∷ []) ++ l.1
  whole_more = p.whole ∙ ap (λ r. p.passed ++ r) l.2 ∙ sym (append_assoc p.passed (l.0 ∷ []) l.1)

  head_more : IsAtHead mid l.0 → head_of new ≡ head_of mid + span_of l.0
      → head_of new ≡ end_of old.capacity (head_of old) (p.passed ++ l.0 ∷ [])
  head_more at moved =
      let at' : next_place old.capacity (head_of mid) (span_of l.0) ≡ head_of mid =
      ap (λ k. next_place k (head_of mid) (span_of l.0)) (sym same) ∙ at in
      let end : end_after old.capacity (end_of old.capacity (head_of old) p.passed) (span_of l.0)
      ≡ head_of mid + span_of l.0 = omega (arith, at', place) in
      moved ∙ sym end ∙ sym (end_of-append old.capacity (head_of old) p.passed (l.0 ∷ []))

  -- padding or an aborted claim
  pub passes_quiet : s.type_id ≡ padding_type → (length messages ≡ limit → ⊥) → Passes limit old h new messages
  passes_quiet quiet below =
      elim l.3 as (λ _. Passes limit old h new messages) [
        | inl pad ↦ record {
          passed = p.passed;
          rest = p.rest;
          whole = p.whole;
          settled = p.settled;
          shown = p.shown;
          left = pad.1;
          head = inr (l.0, l.1, l.2, pad.2 ∙ ap (λ k. next_place k (head_of mid) (span_of l.0)) same ∙ place);
          tight = λ e. absurd (below e);
        }
        | inr claim ↦
            elim claim.0 as (λ _. Passes limit old h new messages) [
              | inl aborted ↦ record {
                passed = p.passed ++ l.0 ∷ [];
                rest = l.1;
                whole = whole_more;
                settled = All-push (λ (x : Claim). x.state ≢ Open) p.passed l.0 p.settled
                    (λ e. let bad : Open ≡ Aborted = sym e ∙ aborted.aborted in cc);
                shown = committed_of-append p.passed (l.0 ∷ [])
                    ∙ ap (λ x. committed_of p.passed ++ (x ++ [])) (shown_none l.0 aborted.aborted)
                    ∙ append-nil (committed_of p.passed) ∙ p.shown;
                left = claim.1;
                head = inl (head_more aborted.at_head claim.2);
                tight = λ e. absurd (below e);
              }
              | inr message ↦
                  let low = lawful.type_id in
                  let bad : pos 1 ≤ℤ padding_type =
                  rw (sym message.type_id ∙ quiet) at low in absurd (omega (arith, ints, bad))
            ]
      ]

  -- a committed claim, whose message m was shown, and nothing after it
  pub passes_last : (m : Message) → (s.type_id ≡ padding_type → ⊥)
      → ((x : Claim) (r : List Claim) → Has mid (x ∷ r) → SeesCommitted mid x s → x.message ≡ m)
      → (q : Passes limit old h new (messages ++ m ∷ [])) × IsTight old.capacity (head_of old) q.passed (head_of new)
  passes_last m loud shows =
      elim l.3 as (λ _. (q : Passes limit old h new (messages ++ m ∷ []))
      × IsTight old.capacity (head_of old) q.passed (head_of new)) [
        | inl pad ↦ absurd (loud pad.0.type_id)
        | inr claim ↦
            elim claim.0 as (λ _. (q : Passes limit old h new (messages ++ m ∷ []))
            × IsTight old.capacity (head_of old) q.passed (head_of new)) [
              | inl aborted ↦ absurd (loud aborted.type_id)
              | inr message ↦ (
                record {
                  passed = p.passed ++ l.0 ∷ [];
                  rest = l.1;
                  whole = whole_more;
                  settled = All-push (λ (x : Claim). x.state ≢ Open) p.passed l.0 p.settled
                      (λ e. let bad : Open ≡ Committed = sym e ∙ message.committed in cc);
                  shown =
                      committed_of-append p.passed (l.0 ∷ []) ∙ ap (λ x. committed_of p.passed ++ (x ++ []))
                      (shown_one l.0 message.committed)
                      ∙ ap (λ x. x ++ l.0.message ∷ []) p.shown
                      ∙ ap (λ x. messages ++ x ∷ []) (shows l.0 l.1 has_mid message);
                  left = claim.1;
                  head = inl (head_more message.at_head claim.2);
                  tight = λ e. inr (p.passed, l.0, refl, message.committed, head_more message.at_head claim.2);
                },
                inr (p.passed, l.0, refl, message.committed, head_more message.at_head claim.2),
              )
            ]
      ]

pub moves_none : (r : Ring) → MovesHead r r
moves_none r =
    record { capacity = refl; length = refl; trailer = λ i le ne. refl; on = omega arith; within = omega arith }

-- two moves of the head, if the first did not reach the end of the buffer
pub moves_more : (old mid new : Ring) → 0 < old.capacity → MovesHead old mid → MovesHead mid new
    → (head_of old < head_of mid → head_of mid % old.capacity ≢ 0) → MovesHead old new
moves_more old mid new some a b inside =
    let C : ℕ = old.capacity in
    let low = mod_below (head_of old) C some in
    let reach : head_of new ≤ head_of mid + (C - head_of mid % C) =
    subst (λ (k : ℕ). head_of new ≤ head_of mid + (k - head_of mid % k)) a.capacity b.within in
    record {
      capacity = b.capacity ∙ a.capacity;
      length = b.length ∙ a.length;
      trailer = λ i le ne. b.trailer i (rw a.capacity le) (rw a.capacity ne) ∙ a.trailer i le ne;
      on = omega (arith, a.on, b.on);
      within =
          elim (cases_lt (head_of old) (head_of mid)) as (λ _. head_of new ≤ head_of old + room C (head_of old)) [
            | inr none ↦ let same : head_of mid ≡ head_of old = omega (arith, a.on) in rw same at reach
            | inl some_way ↦
                elim (cases_lt (head_of mid) (head_of old + (C - head_of old % C))) as (λ _. head_of new
                ≤ head_of old + room C (head_of old)) [
                  | inr end ↦
                      let at_end : head_of mid ≡ head_of old + (C - head_of old % C) = omega (arith, a.within) in
                      absurd (inside some_way (ap (λ k. k % C) at_end ∙ mod_room C (head_of old) some))
                  | inl within ↦
                      let step = mod_step C (head_of old) (head_of mid - head_of old) (omega arith) in
                      let there : head_of old + (head_of mid - head_of old) ≡ head_of mid = omega arith in
                      let lap : head_of mid % C ≡ head_of old % C + (head_of mid - head_of old) =
                      ap (λ k. k % C) (sym there) ∙ step in
                      omega (arith, reach, lap)
                ]
          ];
    }

module _ {S : Type 0} (step : S → Message → S → Action → Type 0) (limit : ℕ) where
  pub reads_none : (old : Ring) (s : S) → Reads step limit old old s s 0
  reads_none old s = record {
    messages = [];
    actions = [];
    handled = refl;
    counted = refl;
    moves = moves_none old;
    passes = λ h has. record {
      passed = [];
      rest = h;
      whole = refl;
      settled = All-nil (λ (x : Claim). x.state ≢ Open);
      shown = refl;
      left = has;
      head = inl refl;
      tight = λ e. inl (refl, refl);
    };
  }

  module _ (old mid new : Ring) (s t : S) (count : ℕ) (settled : Settled) (ok : IsRing mid)
      (reads : Reads step limit old mid s t count) (below : count ≢ limit)
      (inside : head_of old < head_of mid → head_of mid % old.capacity ≢ 0) (moved : MovesHead mid new)
      (left : (h : List Claim) → Has mid h → Leaves mid h settled new) where
    same : mid.capacity ≡ old.capacity
    same = reads.moves.capacity

    pub reads_quiet : settled.type_id ≡ padding_type → Reads step limit old new s t count
    reads_quiet quiet = record {
      messages = reads.messages;
      actions = reads.actions;
      handled = reads.handled;
      counted = reads.counted;
      moves = moves_more old mid new (omega (arith, same, ok.capacity.least)) reads.moves moved inside;
      passes = λ h has.
          let p = reads.passes h has in
          passes_quiet limit old mid new h reads.messages settled ok same p (left p.rest p.left) quiet
          (λ e. below (reads.counted ∙ e));
    }

    pub reads_message : (m : Message) (a : Action) (u : S) → settled.type_id ≢ padding_type → step t m u a
        → ((x : Claim) (r : List Claim) → Has mid (x ∷ r) → SeesCommitted mid x settled → x.message ≡ m)
        → Reads step limit old new s u (count + 1)
    reads_message m a u loud stepped shows = record {
      messages = reads.messages ++ m ∷ [];
      actions = reads.actions ++ a ∷ [];
      handled = Handles-push step s reads.messages reads.actions t m a u reads.handled stepped;
      counted = ap (λ k. k + 1) reads.counted ∙ sym (length_push reads.messages m);
      moves = moves_more old mid new (omega (arith, same, ok.capacity.least)) reads.moves moved inside;
      passes = λ h has.
          let p = reads.passes h has in
          (passes_last limit old mid new h reads.messages settled ok same p (left p.rest p.left) m loud shows).0;
    }

-- the count, in another form
counted_as : {S : Type 0} {step : S → Message → S → Action → Type 0} {limit : ℕ} {old new : Ring} {s u : S} {n m : ℕ}
    → Reads step limit old new s u n → m ≡ n → Reads step limit old new s u m
counted_as r is = record {
  messages = r.messages;
  actions = r.actions;
  handled = r.handled;
  counted = is ∙ r.counted;
  moves = r.moves;
  passes = r.passes;
}

-- the same of a read that the handler lets go on
module _ {S : Type 0} (step : S → Message → S → Action → Type 0) (limit : ℕ) where
  abbrev pub ReadsOn : Ring → Ring → S → S → ℕ → Type 0
  ReadsOn old new s t count = (r : Reads step limit old new s t count) × All GoesOn r.actions

  pub reads_on_none : (old : Ring) (s : S) → ReadsOn old old s s 0
  unfolding reads_none
  reads_on_none old s = (reads_none step limit old s, All-nil GoesOn)

  module _ (old mid new : Ring) (s t : S) (count : ℕ) (settled : Settled) (ok : IsRing mid)
      (reads : ReadsOn old mid s t count) (below : count ≢ limit)
      (inside : head_of old < head_of mid → head_of mid % old.capacity ≢ 0) (moved : MovesHead mid new)
      (left : (h : List Claim) → Has mid h → Leaves mid h settled new) where
    pub reads_on_quiet : settled.type_id ≡ padding_type → ReadsOn old new s t count
    unfolding reads_quiet
    reads_on_quiet quiet =
        (reads_quiet step limit old mid new s t count settled ok reads.0 below inside moved left quiet, reads.1)

    module _ (m : Message) (a : Action) (u : S) (loud : settled.type_id ≢ padding_type) (stepped : step t m u a)
        (shows : (x : Claim) (r : List Claim) → Has mid (x ∷ r) → SeesCommitted mid x settled → x.message ≡ m) where
      pub reads_on_message : GoesOn a → ReadsOn old new s u (count + 1)
      unfolding reads_message
      reads_on_message goes = (
        reads_message step limit old mid new s t count settled ok reads.0 below inside moved left m a u loud stepped
            shows,
        All-push GoesOn reads.0.actions a reads.1 goes,
      )

      -- the message was the last
      pub broke : (end : ReadEnd) → a ≡ Break → end.messages ≡ count + 1 → end.stopped ≡ Stop.Action
          → Broke step limit old new s u end
      unfolding reads_message counted_as
      broke end is n stop =
          let r = reads_message step limit old mid new s t count settled ok reads.0 below inside moved left m a u loud
          stepped shows in
          record {
            reads = counted_as r n;
            before = reads.0.actions;
            went_on = reads.1;
            broke = ap (λ x. reads.0.actions ++ x ∷ []) is;
            tight = λ h has.
                let p = reads.0.passes h has in
                (passes_last limit old mid new h reads.0.messages settled ok
                (same step limit old mid new s t count settled ok reads.0 below inside moved left) p
                (left p.rest p.left) m loud shows).1;
            stopped = stop;
          }

-- a message at the head is the next
pub next_is : (r : Ring) (m : Message) (s : Settled) → (s.type_id ≡ padding_type → ⊥)
    → ((h : List Claim) → Has r h → Sees r h (Some s))
    → ((x : Claim) (rest : List Claim) → Has r (x ∷ rest) → SeesCommitted r x s → x.message ≡ m) → IsNext r m
next_is r m s loud sees shows = λ h has.
    let seen = sees h has in
    elim seen.3 as (λ _. (c : Claim) × (rest : List Claim) × (h ≡ c ∷ rest) × (c.state ≡ Committed) × (c.message ≡ m)
    × IsAtHead r c) [
      | inl pad ↦ absurd (loud pad.type_id)
      | inr claim ↦ elim claim as (λ _. (c : Claim) × (rest : List Claim) × (h ≡ c ∷ rest) × (c.state ≡ Committed)
          × (c.message ≡ m) × IsAtHead r c) [
            | inl aborted ↦ absurd (loud aborted.type_id)
            | inr message ↦ (
              seen.0,
              seen.1,
              seen.2,
              message.committed,
              shows seen.0 seen.1
                  (subst (λ (l : List Claim). Has r l) seen.2 has) message,
              message.at_head,
            )
          ]
    ]

short_all : (C : ℕ) (h : List Claim) → 128 ≤ C → All (λ (x : Claim). IsMessage C x.message) h
    → All (λ (x : Claim). span_of x ≤ C) h
short_all C [] low lawful = All-nil (λ (x : Claim). span_of x ≤ C)
short_all C (c ∷ h) low lawful =
    let m = All-head (λ (x : Claim). IsMessage C x.message) c h lawful in
    All-cons (λ (x : Claim). span_of x ≤ C) c h (omega (arith, m.short, span_bounds (length c.message.body)))
    (short_all C h low (All-tail (λ (x : Claim). IsMessage C x.message) c h lawful))

-- open claims stay
pub reads_keeps : {S : Type 0} {step : S → Message → S → Action → Type 0} {limit : ℕ} {old new : Ring} {s u : S}
    {count : ℕ} → IsRing old → Reads step limit old new s u count → (t : ClaimAt) → IsOpen old t → IsOpen new t
reads_keeps {S} {step} {limit} {old} {new} {s} {u} {count} ok reads t o =
    let p = reads.passes o.history o.has in
    let C : ℕ = old.capacity in
    let same : new.capacity ≡ old.capacity = reads.moves.capacity in
    let lawful : All (λ (x : Claim). IsMessage C x.message) p.rest =
    subst (λ (k : ℕ). All (λ (x : Claim). IsMessage k x.message) p.rest) same p.left.lawful in
    let at = subst (λ (l : List Claim). IsOpenIn C (head_of old) l t) p.whole o.is_open in
    let left = open_after C (head_of old) (head_of new) p.passed p.rest t (omega (arith, ok.capacity.least))
    (short_all C p.rest ok.capacity.least lawful) p.settled p.head at in
    record {
      index = o.index ∙ ap (λ n. t.place % n + 8) (sym same);
      history = p.rest;
      has = p.left;
      is_open = subst (λ (k : ℕ). IsOpenIn k (head_of new) p.rest t) (sym same) left;
    }

-- the handler let each message go
pub went_on : {S : Type 0} {step : S → Message → S → Action → Type 0} {limit : ℕ} {old new : Ring} {s u : S} {n : ℕ}
    {end : ReadEnd} → ReadsOn step limit old new s u n → end.messages ≡ n
    → end.stopped ≡ stop_of new.capacity limit end.messages (head_of new) end.bytes → WentOn step limit old new s u end
unfolding counted_as
went_on on is stop = record { reads = counted_as on.0 is; went_on = on.1; stopped = stop }

-- or it left one more
pub aborts : {S : Type 0} {step : S → Message → S → Action → Type 0} {limit : ℕ} {old new : Ring} {s u v : S} {n : ℕ}
    {m : Message} {a : Action} {end : ReadEnd} → ReadsOn step limit old new s u n → end.messages ≡ n
    → a ≡ Abort → step u m v a → IsNext new m → n < limit → (head_of old < head_of new → head_of new % new.capacity ≢ 0)
    → end.stopped ≡ Stop.Action → Aborts step limit old new s v end
unfolding counted_as
aborts {S} {step} {limit} {old} {new} {s} {u} {v} {n} {m} on is abort stepped next below inside stop = record {
  before = u;
  reads = counted_as on.0 is;
  went_on = on.1;
  message = m;
  aborted = subst (λ (x : Action). step u m v x) abort stepped;
  next = next;
  before_limit = omega (arith, is, below);
  before_end = inside;
  stopped = stop;
}
