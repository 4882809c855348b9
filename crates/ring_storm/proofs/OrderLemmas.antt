-- The commands of a storm in the order of their claims: the next one is some client's next.
use Rattle.std.proofs.Common.{◌≡◌, ◌∙◌, ◌⊎◌, ℕ, zero, suc, ◌<◌, ◌≤◌, ◌^◌, ◌%◌, ◌==◌, Bool, true, false, cond, if◌then◌else◌, pos, List, [], ◌∷◌, ◌++◌, length, append_assoc, inl, inr, refl, sym, ap, subst, arith, eq-eqb, ne_eqb, append-nil}
use Rattle.std.proofs.Math.{Option.some, Option.some-injective, Option.some-ne-none, ListN.get_elem?}
use Rattle.std.proofs.lemmas.Bool.{cases_eq}
use Rattle.ring_layout.specs.declared.message.{Message.Message, ClaimState.TheVariants.Committed}
use Rattle.ring_table.specs.declared.claim.{StagedClaim.StagedClaim, Stage.TheVariants.Stored}
use Rattle.ring_table.specs.declared.view.Service.{Service}
use Rattle.ring_board.specs.declared.shared.view.{Joined.Joined, Record.Record, Taken.Taken}
use Rattle.ring_board.specs.Runs.{AreAllRuns}
use Rattle.ring_protocol.specs.declared.reply.Reply.{Reply}
use Rattle.ring_protocol.specs.declared.reply.Reply.TheVariants as told
use Rattle.ring_protocol.specs.declared.command.Request.TheVariants.{Allocate, Set}
use Rattle.ring_protocol.specs.Command as command
use Rattle.ring_protocol.specs.Reply as reply
use Rattle.ring_service.specs.Account.{messages_in}
use Rattle.ring_storm.specs.Turns.{AreAllTurns, AreTurns, ClientHistory, Turns, counter_told, label_of, turn_of}
use Rattle.ring_storm.proofs.LiveLemmas.{is_spelled, known_correlation}
use Rattle.ring_storm.proofs.MergeLemmas.{IsMerged, merged}

-- Lists ----------------------------------------------------------------------------

abbrev pub Has : Message → List Message → Type 0
Has m [] = ⊥
Has m (n ∷ ns) = (m ≡ n) ⊎ Has m ns

-- an entry of a list
abbrev IsIn : {A : Type 0} → A → List A → Type 0
IsIn x xs = (front : List _) × (back : List _) × (xs ≡ front ++ x ∷ back)

in_longer : {A : Type 0} (x : A) (xs more all : List A) → all ≡ xs ++ more → IsIn x xs → IsIn x all
in_longer x xs more all is h =
    (h.0, h.1 ++ more, is ∙ (ap (λ l. l ++ more) h.2 ∙ append_assoc h.0 (x ∷ h.1) more))

in_last : {A : Type 0} (x : A) (xs all : List A) → all ≡ xs ++ x ∷ [] → IsIn x all
in_last x xs all is = (xs, [], is)

at_index : {A : Type 0} (x : A) (front back : List A) → get_elem? (front ++ x ∷ back) (length front) ≡ some x
at_index x [] back = refl
at_index x (y ∷ front) back = at_index x front back

has_message : (sent : List Record) (k : ℕ) (r : Record) → get_elem? sent k ≡ some r → Has r.message (messages_in sent)
has_message [] k r e = absurd (some-ne-none r (sym e))
has_message (s ∷ sent) zero r e = inl (sym (ap (λ (x : Record). x.message) (some-injective s r e)))
has_message (s ∷ sent) (suc k) r e = inr (has_message sent k r e)

-- A client's commands ----------------------------------------------------------------

-- this message is a reply
abbrev pub IsHeard : List Message → List Taken → Type 0
IsHeard all copies = (c : Taken) → IsIn c copies → Has c.message all

-- a committed claim is a client's command, and a reply to it is among all
pub record Step (all : List Message) (client number counter : ℕ) (c : StagedClaim) : Type 0 where
  pub correlation : ℕ
  pub committed : c.stage ≡ Stored Committed
  pub says : command.Spells c.message.type_id c.message.body (turn_of client counter number correlation)
  pub told : Reply
  pub heard : Message
  pub among : Has heard all
  pub spells : reply.Spells heard.type_id heard.body told
  pub answers : reply.correlation_id_of told ≡ correlation

-- the claims are a client's commands after this number, to the last one, if it knows this counter
abbrev pub Rest : List Message → ℕ → ℕ → ℕ → ℕ → List StagedClaim → Type 0
Rest all commands client number counter [] = number ≡ commands
Rest all commands client number counter (c ∷ cs) = (step : Step all client (suc number) counter c)
    × Rest all commands client (suc number) (counter_told step.told counter) cs

counter_low : (r : Reply) (counter : ℕ) → reply.HasSpelling r → counter < 2 ^ 32 → counter_told r counter < 2 ^ 32
counter_low (told.Allocated correlation id) counter h low = h.1
counter_low (told.Done correlation) counter h low = low
counter_low (told.Refused correlation code) counter h low = low
counter_low (told.Closed correlation freed) counter h low = low

module _ (client : ℕ) (few : client < 64) where
  counter_fits : (n : ℕ) (d : ClientHistory) → AreTurns client n d → d.counter < 2 ^ 32
  counter_fits zero d h = subst (λ c. c < 2 ^ 32) (sym h.2) (omega arith)
  counter_fits (suc n) d h = subst (λ c. c < 2 ^ 32) (sym h.2.counter)
      (counter_low h.2.told h.0.counter h.2.heard.spells.has_spelling (counter_fits n h.0 h.1))

  turn_says : (number : ℕ) (old new : ClientHistory) (turn : Turns client number old new) → number ≤ 10000
      → old.counter < 2 ^ 32 → let m = turn.sent.claim.message in
      command.Spells m.type_id m.body (turn_of client old.counter number (turn.draw % 2 ^ 64))
  turn_says number old new turn short low = record {
    has_spelling = by (number == 1);
    of_type = sym (ap (λ (m : Message). m.type_id) turn.sent.message);
    spelled = sym (ap (λ (m : Message). m.body) turn.sent.message);
  }
    where
      known : turn.draw % 2 ^ 64 < 2 ^ 64
      known = subst (λ n. n < 2 ^ 64) turn.heard.answers (known_correlation turn.told turn.heard.spells.has_spelling)

      by : (b : Bool) → command.HasSpelling (command.with_id (turn.draw % 2 ^ 64)
          (if b then Allocate (pos 1) [] (label_of client) else Set old.counter (pos number)))
      by true = is_spelled client few (turn.draw % 2 ^ 64) known
      by false = (known, (low, record { sfits = omega arith }))

  pub turn_says_in : (n : ℕ) (d : ClientHistory) → n ≤ 9999 → (h : AreTurns client (suc n) d)
      → let m = h.2.sent.claim.message in
      command.Spells m.type_id m.body (turn_of client h.0.counter (suc n) (h.2.draw % 2 ^ 64))
  turn_says_in n d short h = turn_says (suc n) h.0 d h.2 (omega arith) (counter_fits n h.0 h.1)

  module _ (all : List Message) (commands : ℕ) (short : commands ≤ 10000) where
    rest_of : (n : ℕ) (d : ClientHistory) (cs : List StagedClaim) → n ≤ commands → AreTurns client n d → IsHeard all d.copies
        → Rest all commands client n d.counter cs → Rest all commands client 0 0 (d.claims ++ cs)
    rest_of zero d cs le h heard rest =
        subst (λ l. Rest all commands client 0 0 (l ++ cs)) (sym h.0)
        (subst (λ k. Rest all commands client 0 k cs) h.2 rest)
    rest_of (suc n) d cs le h heard rest =
        let turn = h.2 in
        let before = h.0 in
        let copy = turn.heard.copy in
        let last : d.copies ≡ (before.copies ++ turn.heard.passed) ++ copy ∷ [] =
        turn.heard.added ∙ sym (append_assoc before.copies turn.heard.passed (copy ∷ [])) in
        let step : Step all client (suc n) before.counter turn.sent.claim = record {
          correlation = turn.draw % 2 ^ 64;
          committed = turn.sent.committed;
          says = turn_says_in n d (omega arith) h;
          told = turn.told;
          heard = copy.message;
          among = heard copy (in_last copy (before.copies ++ turn.heard.passed) d.copies last);
          spells = turn.heard.spells;
          answers = turn.heard.answers;
        } in
        let here : Rest all commands client n before.counter (turn.sent.claim ∷ cs) =
        (step, subst (λ k. Rest all commands client (suc n) k cs) turn.counter rest) in
        let joined : d.claims ++ cs ≡ before.claims ++ turn.sent.claim ∷ cs =
        ap (λ l. l ++ cs) turn.sent.added ∙ append_assoc before.claims (turn.sent.claim ∷ []) cs in
        subst (Rest all commands client 0 0) (sym joined)
        (rest_of n before (turn.sent.claim ∷ cs) (omega arith) h.1
        (λ c k. heard c (in_longer c before.copies (turn.heard.passed ++ copy ∷ []) d.copies turn.heard.added k)) here)

-- All clients' commands ----------------------------------------------------------------

-- the value at this number is another
abbrev pub put : ℕ → ℕ → (ℕ → ℕ) → ℕ → ℕ
put c v f d = if d == c then v else f d

pub put_here : (c v : ℕ) (f : ℕ → ℕ) (d : ℕ) → d ≡ c → put c v f d ≡ v
put_here c v f d e = ap (λ b. cond b v (f d)) (eq-eqb d c e)

pub put_there : (c v : ℕ) (f : ℕ → ℕ) (d : ℕ) → (d ≡ c → ⊥) → put c v f d ≡ f d
put_there c v f d e = ap (λ b. cond b v (f d)) (ne_eqb d c e)

module _ (all : List Message) (commands : ℕ) where
  -- the claims are those commands of the clients below a number that come after the first `sent`, if they know these
  -- counters
  abbrev pub AllRest : (ℕ → ℕ) → (ℕ → ℕ) → ℕ → List StagedClaim → Type 0
  AllRest sent counters zero cs = cs ≡ []
  AllRest sent counters (suc n) cs = (others : List StagedClaim) × (own : List StagedClaim)
      × AllRest sent counters n others × Rest all commands n (sent n) (counters n) own × IsMerged others own cs

  agree : (p p' q q' : ℕ → ℕ) (n : ℕ) (cs : List StagedClaim) → ((c : ℕ) → c < n → p c ≡ p' c)
      → ((c : ℕ) → c < n → q c ≡ q' c) → AllRest p q n cs → AllRest p' q' n cs
  agree p p' q q' zero cs same also h = h
  agree p p' q q' (suc n) cs same also h = (
    h.0,
    h.1,
    agree p p' q q' n h.0 (λ c less. same c (omega arith)) (λ c less. also c (omega arith)) h.2,
    subst (λ k. Rest all commands n (p' n) k h.1) (also n (omega arith))
        (subst (λ k. Rest all commands n k (q n) h.1) (same n (omega arith)) h.3),
    h.4,
  )

  -- the first claim is some client's next command
  pub record Next (p q : ℕ → ℕ) (n : ℕ) (c : StagedClaim) (cs : List StagedClaim) : Type 0 where
    pub client : ℕ
    pub below : client < n
    pub step : Step all client (suc (p client)) (q client) c
    pub rest : AllRest (put client (suc (p client)) p) (put client (counter_told step.told (q client)) q) n cs

  pub next : (p q : ℕ → ℕ) (n : ℕ) (c : StagedClaim) (cs : List StagedClaim) → AllRest p q n (c ∷ cs)
      → Next p q n c cs
  next p q zero c cs h = absurd cc
  next p q (suc n) c cs h = by h.4 (λ others k. next p q n c others k)
    where
      by : IsMerged h.0 h.1 (c ∷ cs)
          → ((others : List StagedClaim) → AllRest p q n (c ∷ others) → Next p q n c others) → Next p q (suc n) c cs
      by (inl m) deeper =
          let first = deeper m.0 (subst (AllRest p q n) m.1 h.2) in
          let d = first.client in
          let less = first.below in
          let other : n ≡ d → ⊥ = λ e. omega arith in
          let v = counter_told first.step.told (q d) in
          record {
            client = d;
            below = omega arith;
            step = first.step;
            rest = (
              m.0,
              h.1,
              first.rest,
              subst (λ k. Rest all commands n (put d (suc (p d)) p n) k h.1) (sym (put_there d v q n other))
                  (subst (λ k. Rest all commands n k (q n) h.1) (sym (put_there d (suc (p d)) p n other)) h.3),
              m.2,
            );
          }
      by (inr m) deeper =
          let own : Rest all commands n (p n) (q n) (c ∷ m.0) = subst (Rest all commands n (p n) (q n)) m.1 h.3 in
          let v = counter_told own.0.told (q n) in
          record {
            client = n;
            below = omega arith;
            step = own.0;
            rest = (
              h.0,
              m.0,
              agree p (put n (suc (p n)) p) q (put n v q) n h.0
                  (λ d less. sym (put_there n (suc (p n)) p d (λ e. omega arith)))
                  (λ d less. sym (put_there n v q d (λ e. omega arith))) h.2,
              subst (λ k. Rest all commands n (put n (suc (p n)) p n) k m.0) (sym (put_here n v q n refl))
                  (subst (λ k. Rest all commands n k v m.0) (sym (put_here n (suc (p n)) p n refl)) own.1),
              m.2,
            );
          }

  -- if no claim is left each client has sent all
  pub all_sent : (p q : ℕ → ℕ) (n : ℕ) → AllRest p q n [] → (c : ℕ) → c < n → p c ≡ commands
  all_sent p q zero h c less = absurd (omega arith)
  all_sent p q (suc n) h c less = by (cases_eq c n) (λ below. all_sent p q n (subst (AllRest p q n) h.4.0 h.2) c below)
    where
      by : (c ≡ n) ⊎ (c ≡ n → ⊥) → (c < n → p c ≡ commands) → p c ≡ commands
      by (inl e) deeper = ap p e ∙ subst (Rest all commands n (p n) (q n)) h.4.1 h.3
      by (inr e) deeper = deeper (omega arith)

  module _ (short : commands ≤ 10000) where
    -- before the first command
    pub at_first : (n : ℕ) (claims : List StagedClaim) (receivers : List Joined) (services : List Service) → n ≤ 64
        → ((j : Joined) → IsIn j receivers → IsHeard all j.copies) → AreAllTurns commands n claims receivers services
        → AllRest (λ c. 0) (λ c. 0) n claims
    at_first zero claims receivers services few heard h = h.0
    at_first (suc n) claims receivers services few heard h =
        let one = h.4 in
        let own = one.own in
        let others = at_first n h.0 h.1 h.2 (omega arith)
        (λ j k. heard j (in_longer j h.1 (one.receiver ∷ []) receivers one.joined k)) h.3 in
        let hears : IsHeard all own.copies = λ c k. heard one.receiver (in_last one.receiver h.1 receivers one.joined) c
        (in_longer c own.copies one.copies.0 one.receiver.copies one.copies.1 k) in
        let rest = rest_of n (omega arith) all commands short commands own [] (omega arith) one.turns hears refl in (
          h.0,
          own.claims,
          others,
          subst (Rest all commands n 0 0) (append-nil own.claims) rest,
          subst (IsMerged h.0 own.claims) (sym one.together) (merged h.0 own.claims one.rising),
        )

-- what receivers copied are messages of the replies
pub runs_heard : (sent : List Record) (receivers : List Joined) → AreAllRuns sent receivers → (j : Joined)
    → IsIn j receivers → IsHeard (messages_in sent) j.copies
runs_heard sent receivers runs j in_all c in_copies =
    let run = runs (length in_all.0) j
    (ap (λ l. get_elem? l (length in_all.0)) in_all.2 ∙ at_index j in_all.0 in_all.1) in
    let entry = run.entries (length in_copies.0) c
    (ap (λ l. get_elem? l (length in_copies.0)) in_copies.2 ∙ at_index c in_copies.0 in_copies.1) in
    subst (λ m. Has m (messages_in sent)) (sym entry.3.message) (has_message sent entry.0 entry.1 entry.2)
