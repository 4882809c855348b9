-- What a client's calls add to its claims and its copies.
use Rattle.std.proofs.Common.{◌≡◌, ◌∙◌, ℕ, zero, suc, ◌+◌, ◌≤◌, List, [], ◌∷◌, ◌++◌, append_assoc, Bool, true, true≢false, Option, Some, None, is_some, OnSome, Result, Ok, Err, IfErr, OnOk, is_ok, add-one, length, length-append, inl, inr, refl, sym, ap, subst, arith, append-nil}
use Rattle.std.specs.Bool.{OnFalse, OnTrue}
use Rattle.ring_table.specs.declared.{claim.StagedClaim.StagedClaim, view.View.View, view.Service.Service}
use Rattle.ring_table.specs.{Owners.interleaved, Staged.AreRising}
use Rattle.ring_board.specs.{declared.shared.view.Joined.Joined, Views.Sat}
use Rattle.ring_rings.specs.Claiming.{RefusesTry, Writes, record_behind}
use Rattle.ring_rings.specs.declared.fault.TryFault.{TryFault, TheVariants.Refused, TheVariants.Contended}
use Rattle.ring_service.specs.declared.client.{Polled.Polled, SendFault.SendFault}
use Rattle.ring_service.specs.declared.client.Polled.TheVariants.{Answered, Another, NoReply, Nothing, Lapped}
use Rattle.ring_service.specs.declared.client.SendFault.TheVariants as fault
use Rattle.ring_service.specs.Asking.{IsHeard, IsSendable, RefusesAs, SendsAs}
use Rattle.ring_protocol.specs.Command.{LentRequest as Request, Instruction, asked, spelling_of, type_id_of}
use Rattle.ring_storm.specs.Turns.{Adds, AreAllTurns, AreAnswered, AreTurns, ClientHistory, Extends, Lengthens, Turns}

-- Longer lists -------------------------------------------------------------------

pub same_length : {A : Type 0} (a : List A) → Lengthens a a
same_length a = ([], sym (append-nil a))

pub longer : {A : Type 0} (a b c : List A) → Lengthens a b → Lengthens b c → Lengthens a c
longer a b c one two = (one.0 ++ two.0, two.1 ∙ (ap (λ l. l ++ two.0) one.1 ∙ append_assoc a one.0 two.0))

pub nothing : {A : Type 0} (l : List A) → length l ≤ 0 → l ≡ []
nothing [] few = refl
nothing (x ∷ xs) few = let clash : ⊥ = omega (arith, few) in absurd clash

-- Sending ------------------------------------------------------------------------

written : (C : ℕ) (c : Instruction) (v w : View) → Writes true C (type_id_of c) (spelling_of c) v w
    → Adds c v.producer.claims w.producer.claims
written C c v w h = record {
  claim = record_behind C h.tail (type_id_of c) (spelling_of c);
  added = ap (λ (u : View). u.producer.claims) h.view;
  message = refl;
  committed = refl;
}

refused : (C : ℕ) (c : Instruction) (v : View) (f : TryFault) (w : View)
    → RefusesTry true C (type_id_of c) (length (spelling_of c)) v f w → w.producer.claims ≡ v.producer.claims
refused C c v (Refused f) w (inl h) = ap (λ (u : View). u.producer.claims) h.1
refused C c v (Refused f) w (inr (inl h)) = ap (λ (u : View). u.producer.claims) h.view
refused C c v (Refused f) w (inr (inr h)) = ap (λ (u : View). u.producer.claims) h.view
refused C c v (Contended tail seen) w h = ap (λ (u : View). u.producer.claims) h.view

module _ {T : Type 0} (C id : ℕ) (r : Request) (v w : View) where
  -- a try adds the command if it succeeds
  adds : (result : Result T SendFault) → OnOk result (IsSendable r × SendsAs (Writes true) C id r v w)
      → OnTrue (is_ok result) (Adds (asked r id) v.producer.claims w.producer.claims)
  adds (Ok done) h = written C (asked r id) v w h.1
  adds (Err f) h = tt

  -- and otherwise nothing
  keeps : (result : Result T SendFault) → IfErr result (λ f. RefusesAs (RefusesTry true) C id r v f w)
      → OnFalse (is_ok result) (w.producer.claims ≡ v.producer.claims)
  keeps (Ok done) h = tt
  keeps (Err fault.TooLong) h = ap (λ (u : View). u.producer.claims) h.1
  keeps (Err (fault.Refused correlation reason)) h = refused C (asked r id) v reason w h.2

  pub adds_where : (result : Result T SendFault) (b : Bool) → b ≡ is_ok result
      → OnOk result (IsSendable r × SendsAs (Writes true) C id r v w)
      → OnTrue b (Adds (asked r id) v.producer.claims w.producer.claims)
  adds_where result b is h =
      subst (λ x. OnTrue x (Adds (asked r id) v.producer.claims w.producer.claims)) (sym is) (adds result h)

  pub keeps_where : (result : Result T SendFault) (b : Bool) → b ≡ is_ok result
      → IfErr result (λ f. RefusesAs (RefusesTry true) C id r v f w) → OnFalse b (w.producer.claims ≡ v.producer.claims)
  keeps_where result b is h = subst (λ x. OnFalse x (w.producer.claims ≡ v.producer.claims)) (sym is) (keeps result h)

-- Hearing ------------------------------------------------------------------------

-- whatever is returned, no copy is lost
pub hears_more : (correlation : ℕ) (old new : Sat) (told : Polled) → IsHeard correlation old new told
    → Lengthens old.0.copies new.0.copies
hears_more correlation old new (Answered r) h = (_, ap (λ (m : Sat). m.0.copies) h.0.copied.1)
hears_more correlation old new (Another r) h = (_, ap (λ (m : Sat). m.0.copies) h.0.copied.1)
hears_more correlation old new NoReply h = (_, ap (λ (m : Sat). m.0.copies) h.copied.1)
hears_more correlation old new Nothing h = ([], ap (λ (m : Sat). m.0.copies) h.1 ∙ sym (append-nil old.0.copies))
hears_more correlation old new (Lapped l) h = ([], ap (λ (m : Sat). m.0.copies) h.7 ∙ sym (append-nil old.0.copies))

-- Turns --------------------------------------------------------------------------

pub same_history : (d : ClientHistory) → Extends d d
same_history d =
    record { claims = same_length d.claims; draws = same_length d.draws; copies = same_length d.copies }

-- before the first turn
pub no_turn : (client n : ℕ) (d : ClientHistory) → n ≡ 0 → length d.claims ≡ 0 → d.draws ≡ [] → d.counter ≡ 0
    → AreTurns client n d
no_turn client n d none sent drawn counter =
    subst (λ k. AreTurns client k d) (sym none) (nothing d.claims (omega arith), drawn, counter)

pub turns_as : (client other n m : ℕ) (d : ClientHistory) → other ≡ client → m ≡ n → AreTurns client n d → AreTurns other m d
turns_as client other n m d same_client same h =
    subst (λ k. AreTurns k m d) (sym same_client) (subst (λ k. AreTurns client k d) (sym same) h)

-- one more, of a client that is otherwise the same
pub next_turn : (client other n m number : ℕ) (old new : ClientHistory) → other ≡ client → m ≡ n → number ≡ n + 1
    → Turns client number old new → AreTurns client n old → AreTurns other (m + 1) new
next_turn client other n m number old new same_client same is turn h =
    turns_as client other (suc n) (m + 1) new same_client (ap (λ k. k + 1) same ∙ add-one n)
    (old, h, subst (λ k. Turns client k old new) (is ∙ add-one n) turn)

-- Nothing else -------------------------------------------------------------------

sent_all : (client n : ℕ) (d : ClientHistory) → AreTurns client n d → length d.claims ≡ n
sent_all client zero d h = ap length h.0
sent_all client (suc n) d h =
    let before = sent_all client n h.0 h.1 in
    let all = ap length h.2.sent.added ∙ length-append h.0.claims (h.2.sent.claim ∷ []) in
    omega arith

pub drew_all : (client n : ℕ) (d : ClientHistory) → AreTurns client n d → length d.draws ≡ n
drew_all client zero d h = ap length h.1
drew_all client (suc n) d h =
    let before = drew_all client n h.0 h.1 in
    let all = ap length h.2.drawn ∙ length-append h.0.draws (h.2.draw ∷ []) in
    omega arith

-- a list that is no longer than its beginning is that
no_more : {A : Type 0} (old new : List A) → Lengthens old new → length new ≤ length old → new ≡ old
no_more old new more few =
    let both = ap length more.1 ∙ length-append old more.0 in
    more.1 ∙ (ap (λ l. old ++ l) (nothing more.0 (omega arith)) ∙ append-nil old)

-- a client did all that it had to, and each of its commands had its reply
pub record HasDoneAll (commands client seen : ℕ) (d : ClientHistory) : Type 0 where
  pub answered : AreAnswered client seen d
  pub counted : seen ≡ commands
  pub few : (length d.claims ≤ commands) × (length d.draws ≤ commands)
  pub rising : AreRising d.claims

-- the history of a client is put among those of others: its claims by place, receiver and service after the others
pub record PutAmong (d : ClientHistory) (claims others : List StagedClaim) (receivers before : List Joined) (receiver : Joined)
    (services served : List Service) (service : Service) : Type 0 where
  pub together : claims ≡ interleaved others d.claims
  pub joined : receivers ≡ before ++ receiver ∷ []
  pub copies : receiver.copies ≡ d.copies
  pub more : services ≡ served ++ service ∷ []
  pub draws : service.draws ≡ d.draws

-- the turns of one client more, which had all its replies: it made no more claims and draws than it had replies, so
-- that they are those of its turns
pub all_turns : (commands client seen : ℕ) (d : ClientHistory) (claims others : List StagedClaim)
    (receivers before : List Joined) (receiver : Joined) (services served : List Service) (service : Service)
    → AreAllTurns commands client others before served → HasDoneAll commands client seen d
    → PutAmong d claims others receivers before receiver services served service
    → AreAllTurns commands (client + 1) claims receivers services
all_turns commands client seen d claims others receivers before receiver services served service rest done among =
    let answered = done.answered in
    let counted = done.counted in
    let few = done.few in
    let own = answered.before in
    let turns = subst (λ k. AreTurns client k own) counted answered.turns in
    let sent = sent_all client commands own turns in
    let drew = drew_all client commands own turns in
    let same = no_more own.claims d.claims answered.more.claims (omega arith) in
    let same_draws = no_more own.draws d.draws answered.more.draws (omega arith) in
    subst (λ k. AreAllTurns commands k claims receivers services) (sym (add-one client)) (
      others,
      before,
      served,
      rest,
      record {
        own = own;
        turns = turns;
        rising = subst AreRising same done.rising;
        together = among.together ∙ ap (interleaved others) same;
        receiver = receiver;
        joined = among.joined;
        copies = subst (Lengthens own.copies) (sym among.copies) answered.more.copies;
        service = service;
        served = among.more;
        draws = among.draws ∙ same_draws;
      },
    )

-- what is said of a success
pub of_some : {T : Type 0} (o : Option T) (P : Type 0) → is_some o ≡ true → OnSome o P → P
of_some (Some x) P e h = h
of_some None P e h = absurd (true≢false (sym e))
