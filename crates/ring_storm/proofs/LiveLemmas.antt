-- The number of counters in use after a storm: one for each client.
use Rattle.std.proofs.Common.{◌≡◌, ◌∙◌, ◌⊎◌, ℕ, zero, suc, ◌+◌, ◌<◌, ◌≤◌, ◌^◌, ◌%◌, ◌==◌, Bool, true, false, cond, if◌then◌else◌, ℤ, pos, List, [], ◌∷◌, ◌++◌, length, map, Option, Some, None, Ok, add-one, inl, inr, refl, sym, ap, subst, arith, All, count_by, find, not, nat_lt, decimal, length-set, le-ltb, lt-ltb, ne_eqb}
use Rattle.std.{specs.List.position_or_len, specs.List.list_all, proofs.lemmas.Str.Ascii.All-from_ascii}
use Rattle.std.proofs.lemmas.{Bool.cases_lt, Bool.cond-true, Fmt.IsAscii-decimal, Fmt.length-decimal-le}
use Rattle.std.proofs.lemmas.List.{length-map, length-replicate, Folds.sum_by-replicate}
use Rattle.std.proofs.lemmas.List.{Elements.All-cons, Elements.All-nil, Elements.All-weaker, Quantifiers.position-Some}
use Rattle.std.proofs.lemmas.List.{FromFn.fill_by_all, Sums.length-filter, Sums.list_all-from_AllPass, Sums.sum_by-cons}
use Rattle.ring_layout.specs.declared.message.{Message.Message, ClaimState.TheVariants.Committed}
use Rattle.ring_table.specs.declared.claim.{StagedClaim.StagedClaim, Stage.Stage, Stage.TheVariants.Stored}
use Rattle.ring_table.specs.{Owners.insert_claim, Owners.interleaved, declared.view.Service.Service}
use Rattle.ring_table.specs.Passing.{placed_committed_of, placed_message, shown_at}
use Rattle.ring_rings.specs.Reading.{messages_of}
use Rattle.ring_board.specs.declared.shared.view.Joined.{Joined}
use Rattle.ring_counters.specs.declared.fault.AllocateRefused.TheVariants.{LabelNotAscii, LabelTooLong}
use Rattle.ring_counters.specs.{declared.fault.IdFault.IdFault, Views.value_write}
use Rattle.ring_counters.specs.Counter.{Status, Unused, Allocated, Reclaimed, Counter, unused_counter}
use Rattle.ring_layout.specs.Lists.{or_else}
use Rattle.ring_counters.specs.Registry.{Registry, allocated_in, allocation_of, answer, count_of, counter_at, fresh_registry, given, id_refusal_of, ids_of, is_allocated, is_due, is_unused, live_ids, live_of, new_counter, status_at, text_refusal_of, unused_id, with_value, without}
use Rattle.ring_counters.proofs.AgreeLemmas.{accepted_inside}
use Rattle.ring_counters.proofs.QueueLemmas.{count_less, count_more, count_same, used_from_allocated}
use Rattle.ring_protocol.specs.{declared.reply.Reply.Reply, Reading.command_of, Reading.set_of}
use Rattle.ring_protocol.specs.declared.reply.Reply.TheVariants as told
use Rattle.ring_protocol.specs.{Bad.or_malformed, Field.◌>>=◌, Field.◌⊗◌, Field.i64_at, Field.u32_at, Field.u64_at}
use Rattle.ring_protocol.specs.declared.command.Request.TheVariants.{Allocate, Set}
use Rattle.ring_protocol.specs.Command.{Instruction, HasSpelling, spelling_of, type_id_of, with_id}
use Rattle.ring_protocol.specs.Reply as reply
use Rattle.ring_protocol.proofs.ReadCommands.{command_again}
use Rattle.ring_storm.specs.{declared.plan.StormPlan.StormPlan, Storming.counters_after, Storming.storm_counters}
use Rattle.ring_service.specs.Applied.{allocated, applied, done_unless, obeyed, obeyed_if_read}
use Rattle.ring_storm.specs.Turns.{AreAllTurns, AreTurns, ClientHistory, Turns, label_of}

-- Counters of which none was freed ---------------------------------------------

abbrev pub is_live : Counter → Bool
is_live c = is_allocated c.metadata.status

abbrev pub is_free : Counter → Bool
is_free c = is_unused c.metadata.status

-- of this many counters this many are in use, and no other was ever used
pub record HasLive (count : ℕ) (r : Registry) (live : ℕ) : Type 0 where
  pub none_freed : r.freed ≡ []
  pub counted : count_of r ≡ count
  pub in_use : count_by is_live r.counters ≡ live
  pub others : live + count_by is_free r.counters ≡ count

pub fresh : (count reuse_ms : ℕ) → HasLive count (fresh_registry count reuse_ms) 0
fresh count reuse_ms =
    let live = sum_by-replicate (λ c. cond (is_live c) 1 0) count unused_counter in
    let free = sum_by-replicate (λ c. cond (is_free c) 1 0) count unused_counter in
    record {
      none_freed = refl;
      counted = length-replicate count unused_counter;
      in_use = omega arith;
      others = omega arith;
    }

count_map : (p : Counter → Bool) (f : ℕ → Counter) (ids : List ℕ)
    → count_by p (map f ids) ≡ count_by (λ id. p (f id)) ids
count_map p f [] = refl
count_map p f (id ∷ ids) = sum_by-cons (λ c. cond (p c) 1 0) (f id) (map f ids)
    ∙ (ap (λ n. cond (p (f id)) 1 0 + n) (count_map p f ids) ∙ sym (sum_by-cons (λ k. cond (p (f k)) 1 0) id ids))

pub live_counted : (r : Registry) → length (live_of r) ≡ count_by is_live r.counters
live_counted r =
    let whole : r.counters ≡ map (counter_at r) (ids_of r) =
    fill_by_all (counter_at r) r.counters (count_of r) unused_counter refl (λ k less. refl) in
    length-map (live_ids r) (λ id. (id, counter_at r id))
    ∙ (length-filter (λ id. is_live (counter_at r id)) (ids_of r)
    ∙ (sym (count_map is_live (counter_at r) (ids_of r)) ∙ sym (ap (count_by is_live) whole)))

pub idle_from_unused : (s : Status) → is_unused s ≡ true → is_allocated s ≡ false
idle_from_unused Unused e = refl
idle_from_unused Allocated e = absurd cc
idle_from_unused (Reclaimed deadline) e = refl

-- if no counter passes a test, none is counted
none_passes : (p : Counter → Bool) (cs : List Counter) → length cs ≤ position_or_len p cs → count_by p cs ≡ 0
none_passes p [] h = refl
none_passes p (c ∷ cs) h = sum_by-cons (λ x. cond (p x) 1 0) c cs ∙ by (p c) (none_passes p cs) h
  where
    by : (b : Bool) → (length cs ≤ position_or_len p cs → count_by p cs ≡ 0)
        → length (c ∷ cs) ≤ cond (not b) (1 + position_or_len p cs) 0 → cond b 1 0 + count_by p cs ≡ 0
    by true rest h = absurd (omega arith)
    by false rest h = let others = rest (omega arith) in omega arith

pub none_unused : (r : Registry) → unused_id r ≡ None → count_by is_free r.counters ≡ 0
none_unused r e =
    let n = position_or_len is_free r.counters in
    let total = count_of r in
    elim (cases_lt n total) as (λ _. count_by is_free r.counters ≡ 0) [
      | inl less ↦ absurd (let f : Some n ≡ None = sym (cond-true _ (Some n) None (lt-ltb n total less)) ∙ e in cc)
      | inr more ↦ none_passes is_free r.counters more
    ]

-- What commands do to them -----------------------------------------------------

module _ (count live : ℕ) (r : Registry) (h : HasLive count r live) where
  -- an id that was never used is given
  given_unused : (id : ℕ) (c : Counter) → id < count_of r → is_free (counter_at r id) ≡ true → is_live c ≡ true
      → HasLive count (allocated_in r id c) (live + 1)
  given_unused id c less was is =
      let more = count_more is_live r.counters id c less (idle_from_unused (status_at r id) was) is in
      let fewer = count_less is_free r.counters id c less was (used_from_allocated c.metadata.status is) in
      let same = length-set r.counters id c in
      let n = h.counted in
      let used = h.in_use in
      let all = h.others in
      record {
        none_freed = ap (without id) h.none_freed;
        counted = same ∙ n;
        in_use = omega arith;
        others = omega arith;
      }

  allocates : (correlation : ℕ) (c : Counter) (o : Option ℕ) → unused_id r ≡ o → live < count → is_live c ≡ true
      → HasLive count (allocated r correlation c (given None o)).registry (live + 1)
  allocates correlation c (Some id) e room is =
      let found = position-Some is_free r.counters id unused_counter e in
      given_unused id c found.0 found.1 is
  allocates correlation c None e room is =
      let none = none_unused r e in
      let all = h.others in
      absurd (omega arith)

  -- what an allocation with a valid label gives
  pub gives : (now : ℕ) (label : List ℕ) → text_refusal_of [] label ≡ None
      → allocation_of r now [] label ≡ given None (unused_id r)
  gives now label text i =
      given (text i) (or_else (find (λ id. is_due now (status_at r id)) (h.none_freed i)) (unused_id r))

  -- the command for a counter with a valid label is served, as long as there is one
  one_more : (now correlation : ℕ) (label : List ℕ) → text_refusal_of [] label ≡ None → live < count
      → HasLive count (obeyed now r correlation (Allocate (pos 1) [] label)).registry (live + 1)
  one_more now correlation label text room =
      let c = new_counter (pos 1) [] label correlation 0 in
      let found = gives now label text in
      subst (λ a. HasLive count (allocated r correlation c a).registry (live + 1)) (sym found)
      (allocates correlation c (unused_id r) refl room refl)

  sets : (correlation id : ℕ) (value : ℤ) (o : Option IdFault) → id_refusal_of r id ≡ o
      → HasLive count (done_unless o r correlation (with_value r id value) (value_write id value ∷ [])).registry live
  sets correlation id value (Some fault) e = h
  sets correlation id value None e =
      let less = accepted_inside r id (sym (ap (λ o. answer o tt) e)) in
      let c = counter_at r id in
      let new : Counter = record c { values = record c.values { value = value } } in
      record {
        none_freed = h.none_freed;
        counted = length-set r.counters id new ∙ h.counted;
        in_use = count_same is_live r.counters id new less refl ∙ h.in_use;
        others = ap (λ n. live + n) (count_same is_free r.counters id new less refl) ∙ h.others;
      }

  -- a command to set a counter leaves the number, served or not
  none_more : (now : ℕ) (body : List ℕ) → HasLive count (obeyed_if_read now r (command_of (pos 3) body)).registry live
  unfolding command_of set_of
  none_more now body = by ((u64_at ⊗ (u32_at ⊗ i64_at)) body)
    where
      of_rest : (b : Bool) (v : ℕ × (ℕ × ℤ))
          → HasLive count (obeyed_if_read now r
          (or_malformed body (if b then Some (with_id v.0 (Set v.1.0 v.1.1)) else None))).registry live
      of_rest true v = sets v.0 v.1.0 v.1.1 (id_refusal_of r v.1.0) refl
      of_rest false v = h

      by : (o : Option ((ℕ × (ℕ × ℤ)) × List ℕ))
          → HasLive count (obeyed_if_read now r (or_malformed body
          (o >>= λ v. if length v.1 == 0 then Some (with_id v.0.0 (Set v.0.1.0 v.0.1.1)) else None))).registry live
      by (Some v) = of_rest (length v.1 == 0) v.0
      by None = h

-- What claims ask ----------------------------------------------------------------

-- the message asks for one counter with a valid label, or for none and sets one
abbrev pub IsAsked : Message → ℕ → Type 0
IsAsked m asked = ((asked ≡ 0) × (m.type_id ≡ pos 3))
    ⊎ ((asked ≡ 1) × (correlation : ℕ) × (label : List ℕ) × (text_refusal_of [] label ≡ None)
    × (command_of m.type_id m.body ≡ Ok (with_id correlation (Allocate (pos 1) [] label))))

-- the claims are committed, and ask for this many counters
abbrev pub Ask : List StagedClaim → ℕ → Type 0
Ask [] asked = asked ≡ 0
Ask (c ∷ cs) asked = (one : ℕ) × (others : ℕ) × (c.stage ≡ Stored Committed) × IsAsked c.message one × Ask cs others
    × (asked ≡ one + others)

module _ (c : StagedClaim) (one : ℕ) (committed : c.stage ≡ Stored Committed) (asked : IsAsked c.message one) where
  ask_inserted : (cs : List StagedClaim) (n : ℕ) → Ask cs n → Ask (insert_claim c cs) (one + n)
  ask_inserted [] n h = (one, n, committed, asked, h, refl)
  ask_inserted (d ∷ ds) n h = by (nat_lt c.place d.place) (ask_inserted ds h.1 h.4)
    where
      by : (b : Bool) → Ask (insert_claim c ds) (one + h.1)
          → Ask (if b then c ∷ d ∷ ds else d ∷ insert_claim c ds) (one + n)
      by true others = (one, n, committed, asked, h, refl)
      by false others = (h.0, one + h.1, h.2, h.3, others, (let sum = h.5 in omega arith))

  ask_behind : (cs : List StagedClaim) (n : ℕ) → Ask cs n → Ask (cs ++ c ∷ []) (n + one)
  ask_behind [] n h = (one, 0, committed, asked, refl, omega arith)
  ask_behind (d ∷ ds) n h = (h.0, h.1 + one, h.2, h.3, ask_behind ds h.1 h.4, (let sum = h.5 in omega arith))

ask_interleaved : (cs ds : List StagedClaim) (n m : ℕ) → Ask cs n → Ask ds m → Ask (interleaved cs ds) (n + m)
ask_interleaved cs [] n m a b = subst (Ask cs) (omega arith) a
ask_interleaved cs (d ∷ ds) n m a b =
    let same : b.0 + (n + b.1) ≡ n + m = let sum = b.5 in omega arith in
    subst (Ask (insert_claim d (interleaved cs ds))) same
    (ask_inserted d b.0 b.2 b.3 (interleaved cs ds) (n + b.1) (ask_interleaved cs ds n b.1 a b.4))

-- A client's commands ------------------------------------------------------------

pub known_correlation : (r : Reply) → reply.HasSpelling r → reply.correlation_id_of r < 2 ^ 64
known_correlation (told.Allocated correlation id) h = h.0
known_correlation (told.Done correlation) h = h
known_correlation (told.Refused correlation code) h = h.0
known_correlation (told.Closed correlation freed) h = h.0

module _ (client : ℕ) (few : client < 64) where
  ascii_label : All (λ b. b < 128) (label_of client)
  ascii_label = All-cons (λ b. b < 128) 99 (decimal client) (omega arith)
      (All-from_ascii (decimal client) (IsAscii-decimal client (omega arith)))

  short_label : length (label_of client) ≤ 3
  short_label = let digits = length-decimal-le 2 client (omega arith) (omega arith) (omega arith) in omega arith

  pub lawful_label : text_refusal_of [] (label_of client) ≡ None
  lawful_label =
      let label = label_of client in
      let few = short_label in
      let short : nat_lt 380 (length label) ≡ false = le-ltb 380 (length label) (omega arith) in
      let ascii : list_all (λ b. nat_lt b 128) label ≡ true = list_all-from_AllPass (λ b. nat_lt b 128) label
      (All-weaker (λ b. b < 128) (λ b. nat_lt b 128 ≡ true) (λ b low. lt-ltb b 128 low) label ascii_label) in
      λ i. if short i then Some LabelTooLong else (if ascii i then None else Some LabelNotAscii)

  -- the command that allocates has a spelling
  pub is_spelled : (correlation : ℕ) → correlation < 2 ^ 64
      → HasSpelling (with_id correlation (Allocate (pos 1) [] (label_of client)))
  is_spelled correlation low =
      let label = label_of client in
      let bytes = All-weaker (λ b. b < 128) (λ b. b < 256) (λ b ascii. omega arith) label ascii_label in
      let short = short_label in
      (low, (record { sfits = omega arith }, (All-nil (λ b. b < 256), omega arith), (bytes, omega arith)))

  -- it is read as it was meant
  read_again : (correlation : ℕ) → correlation < 2 ^ 64
      → let c = with_id correlation (Allocate (pos 1) [] (label_of client)) in command_of (type_id_of c) (spelling_of c) ≡ Ok c
  read_again correlation low = command_again (with_id correlation (Allocate (pos 1) [] (label_of client)))
      (is_spelled correlation low)

  abbrev asked_at : ℕ → ℕ
  asked_at number = cond (number == 1) 1 0

  turn_asks : (number : ℕ) (old new : ClientHistory) (turn : Turns client number old new)
      → IsAsked turn.sent.claim.message (asked_at number)
  turn_asks number old new turn = by (number == 1) turn.sent.message
    where
      spelled : Instruction → Message
      spelled c = record { type_id = type_id_of c; body = spelling_of c }

      low : turn.draw % 2 ^ 64 < 2 ^ 64
      low = subst (λ n. n < 2 ^ 64) turn.heard.answers (known_correlation turn.told turn.heard.spells.has_spelling)

      by : (b : Bool) → turn.sent.claim.message
          ≡ spelled (with_id (turn.draw % 2 ^ 64) (if b then Allocate (pos 1) [] (label_of client)
          else Set old.counter (pos number))) → IsAsked turn.sent.claim.message (cond b 1 0)
      by true e = inr (
        refl,
        turn.draw % 2 ^ 64,
        label_of client,
        lawful_label,
        ap (λ (m : Message). command_of m.type_id m.body) e ∙ read_again (turn.draw % 2 ^ 64) low,
      )
      by false e = inl (refl, ap (λ (m : Message). m.type_id) e)

  -- a client that sends commands asks for one counter
  abbrev asked_by : ℕ → ℕ
  asked_by zero = 0
  asked_by (suc n) = 1

  one_at_first : (n : ℕ) → asked_by n + asked_at (suc n) ≡ 1
  one_at_first zero = refl
  one_at_first (suc n) = ap (λ b. 1 + cond b 1 0) (ne_eqb (suc (suc n)) 1 (λ e. omega arith))

  turns_ask : (n : ℕ) (d : ClientHistory) → AreTurns client n d → Ask d.claims (asked_by n)
  turns_ask zero d h = subst (λ l. Ask l 0) (sym h.0) refl
  turns_ask (suc n) d h =
      let turn = h.2 in
      let asked = turn_asks (suc n) h.0 d turn in
      let all = ask_behind turn.sent.claim (asked_at (suc n)) turn.sent.committed asked h.0.claims (asked_by n)
      (turns_ask n h.0 h.1) in
      subst (λ l. Ask l 1) (sym turn.sent.added)
      (subst (Ask (h.0.claims ++ turn.sent.claim ∷ [])) (one_at_first n) all)

  some_asked : (n : ℕ) → 1 ≤ n → asked_by n ≡ 1
  some_asked zero h = absurd (omega arith)
  some_asked (suc n) h = refl

-- The claims of all clients ------------------------------------------------------

pub all_ask : (commands clients : ℕ) (claims : List StagedClaim) (receivers : List Joined) (services : List Service)
    → 1 ≤ commands → clients ≤ 64 → AreAllTurns commands clients claims receivers services → Ask claims clients
all_ask commands zero claims receivers services some few h = subst (λ l. Ask l 0) (sym h.0) refl
all_ask commands (suc client) claims receivers services some few h =
    let below : client < 64 = omega arith in
    let one = h.4 in
    let own = subst (Ask one.own.claims) (some_asked client below commands some)
    (turns_ask client below commands one.own one.turns) in
    subst (λ l. Ask l (suc client)) (sym one.together)
    (subst (Ask (interleaved h.0 one.own.claims)) (add-one client)
    (ask_interleaved h.0 one.own.claims client 1 (all_ask commands client h.0 h.1 h.2 some (omega arith) h.3) own))

-- What they make of the counters -------------------------------------------------

pub one_served : (count live asked now : ℕ) (r : Registry) (m : Message) → HasLive count r live → IsAsked m asked
    → live + asked ≤ count → HasLive count (applied now r m).registry (live + asked)
one_served count live asked now r m h (inl a) room =
    let none = a.0 in
    let same : live ≡ live + asked = omega arith in
    subst (HasLive count (applied now r m).registry) same
    (subst (λ t. HasLive count (obeyed_if_read now r (command_of t m.body)).registry live) (sym a.1)
    (none_more count live r h now m.body))
one_served count live asked now r m h (inr a) room =
    let one = a.0 in
    let same : live + 1 ≡ live + asked = omega arith in
    subst (HasLive count (applied now r m).registry) same
    (subst (λ c. HasLive count (obeyed_if_read now r c).registry (live + 1)) (sym a.4)
    (one_more count live r h now a.1 a.2 a.3 (omega arith)))

all_served : (count live asked : ℕ) (r : Registry) (cs : List StagedClaim) → HasLive count r live → Ask cs asked
    → live + asked ≤ count → HasLive count (counters_after r (messages_of (placed_committed_of cs))) (live + asked)
all_served count live asked r [] h a room = subst (HasLive count r) (omega arith) h
all_served count live asked r (c ∷ cs) h a room =
    let sum = a.5 in
    let next = one_served count live a.0 0 r c.message h a.3 (omega arith) in
    let same : live + a.0 + a.1 ≡ live + asked = omega arith in
    subst (λ (s : Stage). HasLive count
    (counters_after r (messages_of (shown_at s (placed_message c) ++ placed_committed_of cs))) (live + asked)) (sym a.2)
    (subst (HasLive count (counters_after (applied 0 r c.message).registry (messages_of (placed_committed_of cs)))) same
    (all_served count (live + a.0) a.1 (applied 0 r c.message).registry cs next a.4 (omega arith)))

-- one counter for each client is in use
pub storm_live : (p : StormPlan) (claims : List StagedClaim) (receivers : List Joined) (services : List Service)
    → 1 ≤ p.commands → p.clients ≤ 64 → AreAllTurns p.commands p.clients claims receivers services
    → length (live_of (storm_counters p (messages_of (placed_committed_of claims)))) ≡ p.clients
storm_live p claims receivers services some few turns =
    let asked = all_ask p.commands p.clients claims receivers services some few turns in
    let all = all_served p.clients 0 p.clients (fresh_registry p.clients 0) claims (fresh p.clients 0) asked
    (omega arith) in
    let used = all.in_use in
    let counted = live_counted (storm_counters p (messages_of (placed_committed_of claims))) in
    omega arith
