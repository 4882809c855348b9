-- The sum of the counters after a storm: each client's counter has the last number that it set.
use Rattle.std.proofs.Common.{◌≡◌, ◌∙◌, ℕ, zero, suc, ◌+◌, ◌-◌, ◌*◌, ◌<◌, ◌≤◌, ◌^◌, ◌%◌, ◌==◌, Bool, true, false, if◌then◌else◌, ◌+ℤ◌, pos, List, [], ◌∷◌, ◌++◌, length, fold, map, min, replicate, inl, inr, refl, sym, ap, subst, arith, filter, slice_index_or, w64}
use Rattle.std.specs.Int.{saturate_signed}
use Rattle.std.proofs.{Math.IntN.ℤ_set, Math.Logic.∥∥₁_elim, Math.Logic.∥∥₁_map, lemmas.Bool.cases_lt}
use Rattle.std.proofs.lemmas.List.{get_or-replicate, get_or_past, length-map, length-replicate}
use Rattle.ring_layout.{specs.declared.message.Message.Message, proofs.Sums.total-append}
use Rattle.ring_table.specs.declared.{claim.StagedClaim.StagedClaim, view.Service.Service}
use Rattle.ring_table.specs.{Passing.placed_committed_of, Services.once_below, Services.times}
use Rattle.ring_rings.specs.Reading.{messages_of}
use Rattle.ring_board.specs.{declared.shared.view.Joined.Joined, declared.shared.view.Record.Record, Runs.AreAllRuns}
use Rattle.ring_counters.specs.{declared.values.view.ValueWrite.ValueWrite, Counter.Counter, Counter.unused_counter}
use Rattle.ring_counters.specs.Registry.{Registry, count_of, counter_at, fresh_registry, ids_of, live_ids, live_of, value_at}
use Rattle.ring_service.specs.Account.{Account, IsFoldOf, account_of, fresh_account, messages_in, untimed}
use Rattle.ring_storm.specs.Storming.{sum_of, with_value_of, HasOwnCounter}
use Rattle.ring_service.specs.Asking.{drawn_in}
use Rattle.ring_storm.specs.Turns.{AreAllTurns, AreTurns, ClientHistory, last_set, turn_of}
use Rattle.ring_service.proofs.DrawLemmas.{all_drawn, drawn_below, draws_in, one_at_most}
use Rattle.ring_storm.proofs.{HoldLemmas.Ends, HoldLemmas.Holds, HoldLemmas.all_done, TurnLemmas.drew_all}
use Rattle.ring_storm.proofs.LiveLemmas.{HasLive, all_ask, fresh, is_live, live_counted}
use Rattle.ring_storm.proofs.OrderLemmas.{Has, at_first, runs_heard, turn_says_in}
use Rattle.ring_storm.proofs.ReducedLemmas.{drawn_reduced, none_reduced, reduced, reduced-append}
use Rattle.ring_storm.proofs.StampLemmas.{Each, IsSaid, all_stamped, command_begins, each_behind, each_interleaved, messages_by, messages_by-append, stamp, stamped, stamped_interleaved, stamps, stamps-append}

-- Correlation ids ------------------------------------------------------------------------

module _ (client : ℕ) (few : client < 64) where
  -- a client's claims have its draws for correlation ids, one each
  own_stamped : (n : ℕ) (d : ClientHistory) → n ≤ 10000 → AreTurns client n d → stamps (messages_by d.claims) ≡ reduced d.draws
  own_stamped zero d short h = ap (λ l. stamps (messages_by l)) h.0 ∙ sym (ap reduced h.1)
  own_stamped (suc n) d short h =
      let turn = h.2 in
      let before = h.0 in
      let says = turn_says_in client few n d (omega arith) h in
      let c = turn_of client before.counter (suc n) (turn.draw % 2 ^ 64) in
      let here : stamp turn.sent.claim.message ≡ turn.draw % 2 ^ 64 =
      ap (λ (b : List ℕ). stamp (record { type_id = pos 0; body = b })) (sym says.spelled)
      ∙ command_begins c says.has_spelling.0 in
      let rest = own_stamped n before (omega arith) h.1 in
      ap (λ l. stamps (messages_by l)) turn.sent.added
      ∙ (ap stamps (messages_by-append before.claims (turn.sent.claim ∷ []))
      ∙ (stamps-append (messages_by before.claims) (turn.sent.claim.message ∷ [])
      ∙ ((λ i. rest i ++ here i ∷ [])
      ∙ (sym (reduced-append before.draws (turn.draw ∷ [])) ∙ sym (ap reduced turn.drawn)))))

  own_said : (n : ℕ) (d : ClientHistory) → n ≤ 10000 → AreTurns client n d → Each IsSaid d.claims
  own_said zero d short h = subst (Each IsSaid) (sym h.0) tt
  own_said (suc n) d short h =
      let turn = h.2 in
      subst (Each IsSaid) (sym turn.sent.added)
      (each_behind IsSaid h.0.claims turn.sent.claim (own_said n h.0 (omega arith) h.1) (
        turn.sent.committed,
        turn_of client h.0.counter (suc n) (turn.draw % 2 ^ 64),
        turn_says_in client few n d (omega arith) h,
      ))

module _ (commands : ℕ) (short : commands ≤ 10000) where
  all_said : (clients : ℕ) (claims : List StagedClaim) (receivers : List Joined) (services : List Service)
      → clients ≤ 64 → AreAllTurns commands clients claims receivers services → Each IsSaid claims
  all_said zero claims receivers services few h = subst (Each IsSaid) (sym h.0) tt
  all_said (suc n) claims receivers services few h =
      let one = h.4 in
      subst (Each IsSaid) (sym one.together) (each_interleaved IsSaid h.0 one.own.claims
      (all_said n h.0 h.1 h.2 (omega arith) h.3) (own_said n (omega arith) commands one.own short one.turns))

  -- a correlation id is claimed as often as it was drawn
  all_stamps : (x clients : ℕ) (claims : List StagedClaim) (receivers : List Joined) (services : List Service)
      → clients ≤ 64 → AreAllTurns commands clients claims receivers services
      → stamped x claims ≡ drawn_reduced x services
  all_stamps x zero claims receivers services few h = ap (stamped x) h.0 ∙ sym (ap (drawn_reduced x) h.2)
  all_stamps x (suc n) claims receivers services few h =
      let one = h.4 in
      let own = ap (times x) (own_stamped n (omega arith) commands one.own short one.turns
      ∙ sym (ap reduced one.draws)) in
      let rest = all_stamps x n h.0 h.1 h.2 (omega arith) h.3 in
      let both = stamped_interleaved x h.0 one.own.claims in
      let more = total-append (λ (s : Service). times x (reduced s.draws)) h.2 (one.service ∷ []) in
      ap (stamped x) one.together ∙ ((omega arith) ∙ sym (ap (drawn_reduced x) one.served))

-- each client drew one number for each of its commands
pub all_draws : (commands clients : ℕ) (claims : List StagedClaim) (receivers : List Joined) (services : List Service)
    → AreAllTurns commands clients claims receivers services → draws_in services ≡ clients * commands
all_draws commands zero claims receivers services h = let none = ap draws_in h.2 in omega arith
all_draws commands (suc n) claims receivers services h =
    let one = h.4 in
    let own = ap length one.draws ∙ drew_all n commands one.own one.turns in
    let rest = all_draws commands n h.0 h.1 h.2 h.3 in
    let more = total-append (λ (s : Service). length s.draws) h.2 (one.service ∷ []) in
    ap draws_in one.served ∙ (omega arith)

-- The counters -----------------------------------------------------------------------------

abbrev fresh_at : ℕ → ℕ → Counter
fresh_at n id = slice_index_or (replicate n unused_counter) id unused_counter

none_live : (n id : ℕ) → is_live (fresh_at n id) ≡ false
none_live n id = elim (cases_lt id n) as (λ _. is_live (fresh_at n id) ≡ false) [
  | inl less ↦ ap is_live (get_or-replicate n id unused_counter unused_counter less)
  | inr more ↦
      let long = length-replicate n unused_counter in
      ap is_live (get_or_past (replicate n unused_counter) id unused_counter (omega arith))
]

none_held : (clients count reuse_ms : ℕ) → Holds clients (fresh_registry count reuse_ms).counters (λ c. 0) (λ c. 0)
none_held clients count reuse_ms = record {
  own = λ c low some. absurd (omega arith);
  apart = λ c d low low_too some some_too same. absurd (omega arith);
  owned = λ id live. absurd (let none = none_live count id in cc);
}

-- The sum ------------------------------------------------------------------------------------

one_more : (s v : ℕ) → s + v < 2 ^ 63 → saturate_signed w64 (pos s +ℤ pos v) ≡ pos (s + v)
one_more s v low = let fits : min (s + v) (2 ^ 63 - 1) ≡ s + v = omega arith in ap pos fits

module _ (r : Registry) (v : ℕ) (each : (id : ℕ) → is_live (counter_at r id) ≡ true → value_at r id ≡ pos v) where
  abbrev listed : List ℕ → List ℕ
  listed ids = filter (λ id. is_live (counter_at r id)) ids

  abbrev entry : ℕ → ℕ × Counter
  entry id = (id, counter_at r id)

  live_sum : (ids : List ℕ) (s : ℕ) → s + length (listed ids) * v < 2 ^ 63
      → fold with_value_of (pos s) (map entry (listed ids)) ≡ pos (s + length (listed ids) * v)
  live_sum [] s low = ap pos (omega arith)
  live_sum (id ∷ ids) s low = by (is_live (counter_at r id)) (each id) (live_sum ids) low
    where
      by : (b : Bool) → (b ≡ true → value_at r id ≡ pos v)
          → ((s : ℕ) → s + length (listed ids) * v < 2 ^ 63
          → fold with_value_of (pos s) (map entry (listed ids)) ≡ pos (s + length (listed ids) * v))
          → let l = if b then id ∷ listed ids else listed ids in
          s + length l * v < 2 ^ 63 → fold with_value_of (pos s) (map entry l) ≡ pos (s + length l * v)
      by true is deeper low =
          let same : s + v + length (listed ids) * v ≡ s + length (id ∷ listed ids) * v = omega arith in
          ap (λ z. fold with_value_of (saturate_signed w64 (pos s +ℤ z)) (map entry (listed ids))) (is refl)
          ∙ (ap (λ z. fold with_value_of z (map entry (listed ids))) (one_more s v (omega arith))
          ∙ (deeper (s + v) (omega arith) ∙ ap pos same))
      by false is deeper low = deeper s low

  -- this many counters in use, each with that value
  all_sum : (live : ℕ) → length (live_of r) ≡ live → live * v < 2 ^ 63 → sum_of (live_of r) ≡ pos (live * v)
  all_sum live counted low =
      let long : length (listed (ids_of r)) ≡ live = sym (length-map (live_ids r) entry) ∙ counted in
      let same : length (listed (ids_of r)) * v ≡ live * v = ap (λ n. n * v) long in
      let total : 0 + length (listed (ids_of r)) * v ≡ live * v = omega arith in
      live_sum (ids_of r) 0 (omega arith) ∙ ap pos total

few_in_all : (a b : ℕ) → a ≤ 64 → b ≤ 10000 → a * b ≤ 640000
few_in_all a b few short = grind arith

small_last : (n : ℕ) → n ≤ 10000 → last_set n ≤ 10000
small_last n short = by (n == 1)
  where
    by : (b : Bool) → (if b then 0 else n) ≤ 10000
    by true = omega arith
    by false = short

-- The storm --------------------------------------------------------------------------------

module _ (clients commands : ℕ) (claims : List StagedClaim) (receivers : List Joined) (services : List Service)
    (sent : List Record) (few : clients ≤ 64) (some : 1 ≤ commands) (short : commands ≤ 10000)
    (turns : AreAllTurns commands clients claims receivers services) (runs : AreAllRuns sent receivers)
    (n : ℕ) (once : (x : ℕ) → drawn_in x services ≡ once_below x n) where
  few_draws : n ≤ 2 ^ 64
  few_draws =
      let all = all_drawn n services once in
      let each = all_draws commands clients claims receivers services turns in
      let product = few_in_all clients commands few short in
      omega arith

  -- each reply has a correlation id of its own
  told_once : (a : Account) (ts : List (ℕ × Message)) → untimed ts ≡ messages_of (placed_committed_of claims)
      → a.replies ≡ [] → (x : ℕ) → times x (stamps (account_of a ts).replies) ≤ 1
  told_once a ts each none x =
      let said = all_said commands short clients claims receivers services few turns in
      let replies = all_stamped a ts claims said each in
      let from_claims : stamps (account_of a ts).replies ≡ stamps (messages_by claims) =
      replies ∙ ap (λ l. stamps l ++ stamps (messages_by claims)) none in
      let claimed = all_stamps commands short x clients claims receivers services few turns in
      let all = few_draws in
      let drawn = none_reduced services (λ y h. let low = drawn_below n services once y h in omega arith) x in
      let most = one_at_most x n in
      let same = ap (times x) from_claims in
      let is = once x in
      omega arith

  -- what all commands made of the counters
  folded_ends : (registry : Registry) (writes : List ValueWrite) → count_of registry ≡ clients
      → IsFoldOf (messages_of (placed_committed_of claims)) registry writes (messages_in sent)
      → Ends clients commands (0 + clients) registry
  folded_ends registry writes counted f =
      let a = fresh_account (count_of registry) registry.reuse_ms in
      let replies : (account_of a f.timed).replies ≡ messages_in sent = ap (λ (b : Account). b.replies) f.folded in
      let after : (account_of a f.timed).registry ≡ registry = ap (λ (b : Account). b.registry) f.folded in
      let all = messages_in sent in
      let unique : (x : ℕ) → times x (stamps all) ≤ 1 =
      λ x. subst (λ l. times x (stamps l) ≤ 1) replies (told_once a f.timed f.each refl x) in
      let alive : HasLive clients a.registry 0 = subst (λ k. HasLive k a.registry 0) counted
      (fresh (count_of registry) registry.reuse_ms) in
      let ends = all_done clients commands few all unique a f.timed claims (λ c. 0) (λ c. 0) 0 clients f.each
      (at_first all commands short clients claims receivers services few (runs_heard sent receivers runs) turns)
      (alive, none_held clients (count_of registry) registry.reuse_ms)
      (all_ask commands clients claims receivers services some few turns, omega arith)
      (λ m h. subst (Has m) replies h) in
      subst (Ends clients commands (0 + clients)) after ends

  ended_sum : (r : Registry) → Ends clients commands (0 + clients) r
      → sum_of (live_of r) ≡ pos (clients * last_set commands)
  ended_sum r over =
      let in_use = over.live_are.in_use in
      let live = live_counted r in
      let product = few_in_all clients (last_set commands) few (small_last commands short) in
      all_sum r (last_set commands) last_value clients (omega arith) (omega arith)
    where
      last_value : (id : ℕ) → is_live (counter_at r id) ≡ true → value_at r id ≡ pos (last_set commands)
      last_value id live =
          let mine = over.holds.owned id live in
          let own = over.holds.own mine.0 mine.1 mine.2 in
          ap (λ k. value_at r k) (sym mine.3) ∙ (own.value ∙ ap (λ k. pos (last_set k)) (over.all_were mine.0 mine.1))

  ended_own : (r : Registry) → Ends clients commands (0 + clients) r → (c : ℕ) → c < clients
      → HasOwnCounter c (last_set commands) r
  ended_own r over c low =
      let sent = over.all_were c low in
      let own = over.holds.own c low (subst (λ n. 1 ≤ n) (sym sent) some) in
      record {
        id = over.counters c;
        in_use = own.live;
        label = own.label;
        value = own.value ∙ ap (λ k. pos (last_set k)) sent;
      }

  pub storm_sum : (registry : Registry) (writes : List ValueWrite) → count_of registry ≡ clients
      → ∥ IsFoldOf (messages_of (placed_committed_of claims)) registry writes (messages_in sent) ∥₁
      → sum_of (live_of registry) ≡ pos (clients * last_set commands)
  storm_sum registry writes counted f =
      ∥∥₁_elim f (ℤ_set _ _) (λ g. ended_sum registry (folded_ends registry writes counted g))

  pub storm_own : (registry : Registry) (writes : List ValueWrite) → count_of registry ≡ clients
      → ∥ IsFoldOf (messages_of (placed_committed_of claims)) registry writes (messages_in sent) ∥₁
      → (c : ℕ) → c < clients → ∥ HasOwnCounter c (last_set commands) registry ∥₁
  storm_own registry writes counted f c low =
      ∥∥₁_map f (λ g. ended_own registry (folded_ends registry writes counted g) c low)
