-- What the commands of a storm make of the counters: each client's counter has the last number that it set.
use Rattle.std.proofs.Common.{◌≡◌, ◌∙◌, ◌⊎◌, ℕ, suc, ◌+◌, ◌<◌, ◌≤◌, ◌^◌, true, true≢false, cond, if◌then◌else◌, pos, List, [], ◌∷◌, ◌++◌, length, Option, Some, None, inl, inr, refl, sym, ap, subst, arith, get_or-set_other, get_or-set_same, slice_index_or, slice_set, eq-eqb, ne_eqb}
use Rattle.std.proofs.lemmas.Bool.{cases_eq, cases_lt, lt-leb}
use Rattle.std.proofs.lemmas.List.{get_or_past, Quantifiers.position-Some}
use Rattle.ring_layout.specs.declared.message.Message.{Message}
use Rattle.ring_table.specs.{declared.claim.StagedClaim.StagedClaim, Passing.placed_committed_of, Services.times}
use Rattle.ring_rings.specs.Reading.{messages_of}
use Rattle.ring_counters.specs.declared.fault.IdFault.TheVariants.{BadId, NotAllocated}
use Rattle.ring_counters.specs.{Counter.Counter, Counter.unused_counter, Views.value_write}
use Rattle.ring_counters.specs.Registry.{Registry, count_of, counter_at, given, id_refusal_of, is_allocated, new_counter, status_at, unused_id, with_value}
use Rattle.ring_protocol.specs.{declared.reply.Reply.Reply, Command.Instruction, Command.with_id}
use Rattle.ring_protocol.specs.declared.reply.Reply.TheVariants as told
use Rattle.ring_protocol.specs.declared.command.Request.TheVariants.{Allocate, Set}
use Rattle.ring_protocol.specs.Command as command
use Rattle.ring_protocol.specs.Reply as reply
use Rattle.ring_protocol.proofs.{ReadCommands.spelled_again, ReadReplies.one}
use Rattle.ring_service.specs.Account.{Account, account_of, entered, reply_message, untimed}
use Rattle.ring_service.specs.Applied.{Outcome, allocated, applied, done_unless, obeyed, obeyed_if_read}
use Rattle.ring_storm.specs.Turns.{counter_told, label_of, last_set, turn_of}
use Rattle.ring_service.proofs.DrawLemmas.{same_one}
use Rattle.ring_storm.proofs.LiveLemmas.{Ask, HasLive, IsAsked, gives, idle_from_unused, is_free, is_live, known_correlation, lawful_label, none_unused, one_served}
use Rattle.ring_storm.proofs.OrderLemmas.{AllRest, Has, Step, all_sent, next, put, put_here, put_there}
use Rattle.ring_storm.proofs.StampLemmas.{reply_begins, same_head, same_tail, shown, stamp, stamps}

-- Replies ----------------------------------------------------------------------------

has_left : (m : Message) (a b : List Message) → Has m a → Has m (a ++ b)
has_left m (n ∷ a) b (inl e) = inl e
has_left m (n ∷ a) b (inr h) = inr (has_left m a b h)
has_left m [] b h = absurd h

has_last : (m : Message) (a : List Message) → Has m (a ++ m ∷ [])
has_last m [] = inl refl
has_last m (n ∷ a) = inr (has_last m a)

still_has : (m : Message) (a : Account) (ts : List (ℕ × Message)) → Has m a.replies → Has m (account_of a ts).replies
still_has m a [] h = h
still_has m a (t ∷ ts) h = still_has m (entered a t.0 t.1) ts
    (has_left m a.replies (reply_message (applied t.0 a.registry t.1).reply ∷ []) h)

counted : (m : Message) (x : ℕ) (ms : List Message) → stamp m ≡ x → Has m ms → 1 ≤ times x (stamps ms)
counted m x (n ∷ ms) e (inl h) =
    let same : stamp n ≡ x = sym (ap stamp h) ∙ e in
    let here = same_one (stamp n) x same in
    omega arith
counted m x (n ∷ ms) e (inr h) = let rest = counted m x ms e h in omega arith
counted m x [] e h = absurd h

-- if each correlation id occurs once, it identifies the reply
unique : (m n : Message) (ms : List Message) → ((x : ℕ) → times x (stamps ms) ≤ 1) → Has m ms → Has n ms
    → stamp m ≡ stamp n → m ≡ n
unique m n [] once h k same = absurd h
unique m n (a ∷ ms) once (inl e) (inl f) same = e ∙ sym f
unique m n (a ∷ ms) once (inl e) (inr k) same =
    let rest = counted n (stamp n) ms refl k in
    let is : stamp a ≡ stamp n = sym (ap stamp e) ∙ same in
    let here = same_one (stamp a) (stamp n) is in
    let most = once (stamp n) in
    absurd (omega arith)
unique m n (a ∷ ms) once (inr h) (inl f) same =
    let rest = counted m (stamp m) ms refl h in
    let is : stamp a ≡ stamp m = sym (ap stamp f) ∙ sym same in
    let here = same_one (stamp a) (stamp m) is in
    let most = once (stamp m) in
    absurd (omega arith)
unique m n (a ∷ ms) once (inr h) (inr k) same =
    unique m n ms (λ x. let most = once x in omega arith) h k same

-- the reply that a client received is the one that its command got
told_is : (all : List Message) → ((x : ℕ) → times x (stamps all) ≤ 1) → (client number counter : ℕ) (c : StagedClaim)
    (step : Step all client number counter c) (r : Reply) → reply.HasSpelling r
    → reply.correlation_id_of r ≡ step.correlation → Has (reply_message r) all → step.told ≡ r
told_is all once client number counter c step r spelled answers has =
    let low = known_correlation step.told step.spells.has_spelling in
    let low_too = known_correlation r spelled in
    let mine : stamp step.heard ≡ step.correlation =
    ap (λ (b : List ℕ). stamp (record { type_id = pos 0; body = b })) (sym step.spells.spelled)
    ∙ (reply_begins step.told low ∙ step.answers) in
    let other : stamp (reply_message r) ≡ step.correlation = reply_begins r low_too ∙ answers in
    let same = unique step.heard (reply_message r) all once step.among has (mine ∙ sym other) in
    one step.heard.type_id step.heard.body step.told r step.spells record {
      has_spelling = spelled;
      of_type = sym (ap (λ (m : Message). m.type_id) same);
      spelled = sym (ap (λ (m : Message). m.body) same);
    }

-- Whose counter it is ------------------------------------------------------------------

abbrev at : List Counter → ℕ → Counter
at cs id = slice_index_or cs id unused_counter

-- a counter in use, with the client's label and the last number that it set by this many commands
pub record IsOwn (cs : List Counter) (client id sent : ℕ) : Type 0 where
  pub live : is_live (at cs id) ≡ true
  pub label : (at cs id).metadata.label ≡ label_of client
  pub value : (at cs id).values.value ≡ pos (last_set sent)

-- the counters in use are those of the clients that sent a command, each its own
pub record Holds (clients : ℕ) (cs : List Counter) (sent counters : ℕ → ℕ) : Type 0 where
  pub own : (c : ℕ) → c < clients → 1 ≤ sent c → IsOwn cs c (counters c) (sent c)
  pub apart : (c d : ℕ) → c < clients → d < clients → 1 ≤ sent c → 1 ≤ sent d → counters c ≡ counters d → c ≡ d
  pub owned : (id : ℕ) → is_live (at cs id) ≡ true → (c : ℕ) × (c < clients) × (1 ≤ sent c) × (counters c ≡ id)

inside : (cs : List Counter) (id : ℕ) → is_live (at cs id) ≡ true → id < length cs
inside cs id live = elim (cases_lt id (length cs)) as (λ _. id < length cs) [
  | inl less ↦ less
  | inr more ↦ absurd (let none = ap is_live (get_or_past cs id unused_counter more) in cc)
]

-- one client's counter becomes another, and everything else stays
module _ (clients : ℕ) (cs : List Counter) (p q p' q' : ℕ → ℕ) (holds : Holds clients cs p q) (c id : ℕ) (new : Counter)
    (below : c < clients) (less : id < length cs) (live : is_live new ≡ true)
    (label : new.metadata.label ≡ label_of c) (value : new.values.value ≡ pos (last_set (p' c)))
    (sent : 1 ≤ p' c) (here : q' c ≡ id)
    (apart : (d : ℕ) → d < clients → 1 ≤ p d → (d ≡ c → ⊥) → q d ≡ id → ⊥) (before : 1 ≤ p c → q c ≡ id)
    (same_sent : (d : ℕ) → (d ≡ c → ⊥) → p' d ≡ p d) (same_counter : (d : ℕ) → (d ≡ c → ⊥) → q' d ≡ q d) where
  at_new : at (slice_set cs id new) id ≡ new
  at_new = get_or-set_same cs id new unused_counter less

  at_other : (k : ℕ) → (k ≡ id → ⊥) → at (slice_set cs id new) k ≡ at cs k
  at_other k ne = get_or-set_other cs id k new unused_counter ne

  own_new : (d : ℕ) → d < clients → 1 ≤ p' d → (d ≡ c) ⊎ (d ≡ c → ⊥) → IsOwn (slice_set cs id new) d (q' d) (p' d)
  own_new d low some (inl e) =
      let at_it : at (slice_set cs id new) (q' d) ≡ new =
      ap (at (slice_set cs id new)) (ap q' e ∙ here) ∙ at_new in
      record {
        live = ap is_live at_it ∙ live;
        label = ap (λ (k : Counter). k.metadata.label) at_it ∙ (label ∙ ap label_of (sym e));
        value = ap (λ (k : Counter). k.values.value) at_it ∙ (value ∙ ap (λ n. pos (last_set (p' n))) (sym e));
      }
  own_new d low some (inr e) =
      let was : 1 ≤ p d = subst (λ n. 1 ≤ n) (same_sent d e) some in
      let old = holds.own d low was in
      let at_it : at (slice_set cs id new) (q' d) ≡ at cs (q d) =
      ap (at (slice_set cs id new)) (same_counter d e) ∙ at_other (q d) (apart d low was e) in
      record {
        live = ap is_live at_it ∙ old.live;
        label = ap (λ (k : Counter). k.metadata.label) at_it ∙ old.label;
        value = ap (λ (k : Counter). k.values.value) at_it
            ∙ (old.value ∙ ap (λ n. pos (last_set n)) (sym (same_sent d e)));
      }

  apart_new : (d e : ℕ) → (d < clients) × (1 ≤ p' d) → (e < clients) × (1 ≤ p' e) → q' d ≡ q' e
      → (d ≡ c) ⊎ (d ≡ c → ⊥) → (e ≡ c) ⊎ (e ≡ c → ⊥) → d ≡ e
  apart_new d e one other same (inl f) (inl g) = f ∙ sym g
  apart_new d e one other same (inl f) (inr g) =
      absurd (apart e other.0 (subst (λ n. 1 ≤ n) (same_sent e g) other.1) g
      (sym (same_counter e g) ∙ (sym same ∙ (ap q' f ∙ here))))
  apart_new d e one other same (inr f) (inl g) =
      absurd (apart d one.0 (subst (λ n. 1 ≤ n) (same_sent d f) one.1) f
      (sym (same_counter d f) ∙ (same ∙ (ap q' g ∙ here))))
  apart_new d e one other same (inr f) (inr g) =
      holds.apart d e one.0 other.0 (subst (λ n. 1 ≤ n) (same_sent d f) one.1)
      (subst (λ n. 1 ≤ n) (same_sent e g) other.1)
      (sym (same_counter d f) ∙ (same ∙ same_counter e g))

  owned_new : (k : ℕ) → is_live (at (slice_set cs id new) k) ≡ true → (k ≡ id) ⊎ (k ≡ id → ⊥)
      → (d : ℕ) × (d < clients) × (1 ≤ p' d) × (q' d ≡ k)
  owned_new k is (inl e) = (c, below, sent, here ∙ sym e)
  owned_new k is (inr e) =
      let old = holds.owned k (sym (ap is_live (at_other k e)) ∙ is) in
      let other : old.0 ≡ c → ⊥ = λ f. e (sym old.3 ∙ (ap q f ∙ before (subst (λ n. 1 ≤ p n) f old.2))) in (
        old.0,
        old.1,
        subst (λ n. 1 ≤ n) (sym (same_sent old.0 other)) old.2,
        same_counter old.0 other ∙ old.3,
      )

  still_holds : Holds clients (slice_set cs id new) p' q'
  still_holds = record {
    own = λ d low some. own_new d low some (cases_eq d c);
    apart = λ d e low low_too some some_too same.
        apart_new d e (low, some) (low_too, some_too) same (cases_eq d c) (cases_eq e c);
    owned = λ k is. owned_new k is (cases_eq k id);
  }

-- One command --------------------------------------------------------------------------

is_first : (client counter number correlation : ℕ) → number ≡ 1
    → turn_of client counter number correlation ≡ with_id correlation (Allocate (pos 1) [] (label_of client))
is_first client counter number correlation e =
    ap (λ b. with_id correlation (cond b (Allocate (pos 1) [] (label_of client)) (Set counter (pos number))))
    (eq-eqb number 1 e)

is_later : (client counter number correlation : ℕ) → (number ≡ 1 → ⊥)
    → turn_of client counter number correlation ≡ with_id correlation (Set counter (pos number))
is_later client counter number correlation e =
    ap (λ b. with_id correlation (cond b (Allocate (pos 1) [] (label_of client)) (Set counter (pos number))))
    (ne_eqb number 1 e)

-- it is read as it was meant
does : (now : ℕ) (r : Registry) (m : Message) (c d : Instruction) → c ≡ d → command.Spells m.type_id m.body c
    → applied now r m ≡ obeyed now r d.correlation d.request
does now r m c d e says =
    ap (obeyed_if_read now r) (spelled_again m.type_id m.body d (subst (command.Spells m.type_id m.body) e says))

accepted : (r : Registry) (id : ℕ) → id < count_of r → is_live (counter_at r id) ≡ true → id_refusal_of r id ≡ None
accepted r id less live =
    ap (λ b. if b then Some BadId else (if is_allocated (status_at r id) then None else Some NotAllocated))
    (lt-leb (count_of r) id less) ∙ ap (λ b. cond b None (Some NotAllocated)) live

module _ (clients : ℕ) (few : clients ≤ 64) (all : List Message) (once : (x : ℕ) → times x (stamps all) ≤ 1)
    (now : ℕ) (r : Registry) (p q : ℕ → ℕ) (c : StagedClaim) (client : ℕ) (below : client < clients)
    (step : Step all client (suc (p client)) (q client) c) (live one_asked : ℕ) (alive : HasLive clients r live)
    (asked : IsAsked c.message one_asked) (room : live + one_asked ≤ clients) (holds : Holds clients r.counters p q)
    (answered : Has (reply_message (applied now r c.message).reply) all) where
  abbrev sent_then : ℕ → ℕ
  sent_then = put client (suc (p client)) p

  abbrev counters_then : ℕ → ℕ
  counters_then = put client (counter_told step.told (q client)) q

  -- what must be shown of an outcome
  abbrev Does : Outcome → Type 0
  Does o = Holds clients o.registry.counters sent_then counters_then

  known : step.correlation < 2 ^ 64
  known = subst (λ n. n < 2 ^ 64) step.answers (known_correlation step.told step.spells.has_spelling)

  -- the client's counter after this command
  record IsClients (new : Counter) : Type 0 where
    pub in_use : is_live new ≡ true
    pub label : new.metadata.label ≡ label_of client
    pub value : new.values.value ≡ pos (last_set (suc (p client)))

  -- the counter of the client becomes this one
  becomes : (id : ℕ) (new : Counter) → id < count_of r → IsClients new
      → counter_told step.told (q client) ≡ id
      → ((d : ℕ) → d < clients → 1 ≤ p d → (d ≡ client → ⊥) → q d ≡ id → ⊥) → (1 ≤ p client → q client ≡ id)
      → Holds clients (slice_set r.counters id new) sent_then counters_then
  becomes id new less its told apart before =
      let now_sent = put_here client (suc (p client)) p client refl in
      still_holds clients r.counters p q sent_then counters_then holds client id new below less its.in_use its.label
      (its.value ∙ ap (λ n. pos (last_set n)) (sym now_sent)) (omega arith)
      (put_here client (counter_told step.told (q client)) q client refl ∙ told) apart before
      (put_there client (suc (p client)) p) (put_there client (counter_told step.told (q client)) q)

  first : p client ≡ 0 → Does (applied now r c.message)
  first none =
      let number : suc (p client) ≡ 1 = ap suc none in
      let asks = is_first client (q client) (suc (p client)) step.correlation number in
      let new = new_counter (pos 1) [] (label_of client) step.correlation 0 in
      let o = does now r c.message (turn_of client (q client) (suc (p client)) step.correlation)
      (with_id step.correlation (Allocate (pos 1) [] (label_of client))) asks step.says
      ∙ ap (allocated r step.correlation new) (gives clients live r alive now (label_of client)
      (lawful_label client (omega arith))) in
      subst Does (sym o) (by (unused_id r) refl (subst (λ (x : Outcome). Has (reply_message x.reply) all) o answered))
    where
      is_one : IsAsked c.message one_asked → one_asked ≡ 1
      is_one (inl a) = absurd (
          let said = step.says.of_type in
          let asks = is_first client (q client) (suc (p client)) step.correlation (ap suc none) in
          let kind = ap command.type_id_of asks in
          let other = a.1 in
          cc
          )
      is_one (inr a) = a.0

      apart_from_free : (id : ℕ) → is_free (counter_at r id) ≡ true → (d : ℕ) → d < clients → 1 ≤ p d → q d ≡ id → ⊥
      apart_from_free id free d low some same =
          let idle = idle_from_unused (status_at r id) free in
          let used = (holds.own d low some).live in
          let here = ap (λ k. is_live (at r.counters k)) same in
          true≢false (sym used ∙ (here ∙ idle))

      by : (found : Option ℕ) → unused_id r ≡ found
          → let new = new_counter (pos 1) [] (label_of client) step.correlation 0 in
          Has (reply_message (allocated r step.correlation new (given None found)).reply) all
          → Does (allocated r step.correlation new (given None found))
      by None e has =
          let free = none_unused r e in
          let others = alive.others in
          let here = is_one asked in
          absurd (omega arith)
      by (Some id) e has =
          let found = position-Some is_free r.counters id unused_counter e in
          let count = alive.counted in
          let told = told_is all once client (suc (p client)) (q client) c step (told.Allocated step.correlation id)
          (known, omega arith) refl has in
          becomes id (new_counter (pos 1) [] (label_of client) step.correlation 0) found.0
          (record { in_use = refl; label = refl; value = ap (λ n. pos (last_set (suc n))) (sym none) })
          (ap (λ t. counter_told t (q client)) told)
          (λ d low some other same. apart_from_free id found.1 d low some same) (λ some. absurd (omega arith))

  later : 1 ≤ p client → Does (applied now r c.message)
  later some =
      let own = holds.own client below some in
      let less = inside r.counters (q client) own.live in
      let sets = is_later client (q client) (suc (p client)) step.correlation (λ e. omega arith) in
      let o = does now r c.message (turn_of client (q client) (suc (p client)) step.correlation)
      (with_id step.correlation (Set (q client) (pos (suc (p client))))) sets step.says
      ∙ ap (λ refusal. done_unless refusal r step.correlation (with_value r (q client) (pos (suc (p client))))
      (value_write (q client) (pos (suc (p client))) ∷ [])) (accepted r (q client) less own.live) in
      let told = told_is all once client (suc (p client)) (q client) c step (told.Done step.correlation) known refl
      (subst (λ (x : Outcome). Has (reply_message x.reply) all) o answered) in
      let value : pos (suc (p client)) ≡ pos (last_set (suc (p client))) =
      ap (λ b. pos (cond b 0 (suc (p client)))) (sym (ne_eqb (suc (p client)) 1 (λ e. omega arith))) in
      subst Does (sym o) (becomes (q client)
      (let k = counter_at r (q client) in record k { values = record k.values { value = pos (suc (p client)) } })
      less (record { in_use = own.live; label = own.label; value = value })
      (ap (λ t. counter_told t (q client)) told)
      (λ d low some_too other same. other (holds.apart d client low below some_too some same)) (λ s. refl))

  pub one_done : Holds clients (applied now r c.message).registry.counters sent_then counters_then
  one_done = elim (cases_lt 0 (p client)) as (λ _. Does (applied now r c.message)) [
    | inl some ↦ later some
    | inr none ↦ first (omega arith)
  ]

-- All commands -------------------------------------------------------------------------

-- this many clients have sent this many commands each
pub record Ends (clients commands live : ℕ) (r : Registry) : Type 0 where
  pub sent : ℕ → ℕ
  pub counters : ℕ → ℕ
  pub holds : Holds clients r.counters sent counters
  pub all_were : (c : ℕ) → c < clients → sent c ≡ commands
  pub live_are : HasLive clients r live

module _ (clients commands : ℕ) (few : clients ≤ 64) (all : List Message)
    (once : (x : ℕ) → times x (stamps all) ≤ 1) where
  pub all_done : (a : Account) (ts : List (ℕ × Message)) (cs : List StagedClaim) (p q : ℕ → ℕ) (live asked : ℕ)
      → untimed ts ≡ messages_of (placed_committed_of cs) → AllRest all commands p q clients cs
      → HasLive clients a.registry live × Holds clients a.registry.counters p q → Ask cs asked ×
      (live + asked ≤ clients)
      → ((m : Message) → Has m (account_of a ts).replies → Has m all)
      → Ends clients commands (live + asked) (account_of a ts).registry
  all_done a [] [] p q live asked e rest hold ask has = record {
    sent = p;
    counters = q;
    holds = hold.1;
    all_were = all_sent all commands p q clients rest;
    live_are = subst (HasLive clients a.registry) (omega arith) hold.0;
  }
  all_done a (t ∷ ts) [] p q live asked e rest hold ask has = absurd cc
  all_done a [] (c ∷ cs) p q live asked e rest hold ask has =
      absurd (let clash = e ∙ shown c cs ask.0.2 in cc)
  all_done a (t ∷ ts) (c ∷ cs) p q live asked e rest hold asking has =
      let alive = hold.0 in
      let holds = hold.1 in
      let ask = asking.0 in
      let room = asking.1 in
      let sum = ask.5 in
      let lists = e ∙ shown c cs ask.2 in
      let here : t.1 ≡ c.message = same_head t.1 c.message (untimed ts) (messages_of (placed_committed_of cs)) lists in
      let others = same_tail t.1 c.message (untimed ts) (messages_of (placed_committed_of cs)) lists in
      let first = next all commands p q clients c cs rest in
      let reply = reply_message (applied t.0 a.registry t.1).reply in
      let heard : Has (reply_message (applied t.0 a.registry c.message).reply) all =
      subst (λ m. Has (reply_message (applied t.0 a.registry m).reply) all) here
      (has reply (still_has reply (entered a t.0 t.1) ts (has_last reply a.replies))) in
      let done = one_done clients few all once t.0 a.registry p q c first.client first.below first.step live ask.0 alive
      ask.3 (omega arith) holds heard in
      let alive_then = one_served clients live ask.0 t.0 a.registry c.message alive ask.3 (omega arith) in
      subst (λ n. Ends clients commands n (account_of a (t ∷ ts)).registry) (omega arith)
      (all_done (entered a t.0 t.1) ts cs (put first.client (suc (p first.client)) p)
      (put first.client (counter_told first.step.told (q first.client)) q) (live + ask.0) ask.1 others first.rest (
        subst (λ m. HasLive clients (applied t.0 a.registry m).registry (live + ask.0)) (sym here) alive_then,
        subst (λ m. Holds clients (applied t.0 a.registry m).registry.counters
            (put first.client (suc (p first.client)) p)
            (put first.client (counter_told first.step.told (q first.client)) q)) (sym here) done,
      )
      (ask.4, omega arith) has)
