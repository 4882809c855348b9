-- One run: two commands sent, two calls of `do_work`, and listeners coming and going between them.
use Rattle.std.proofs.Common.{◌≡◌, ◌∙◌, ℕ, ◌<◌, List, [], ◌∷◌, ◌++◌, length, map, Result, Err, IsOk, refl, sym, ap, subst, true, true≢false, arith}
use Rattle.ring_layout.specs.{declared.message.Message.Message, Refusals.all_shares}
use Rattle.ring_table.specs.declared.{claim.PlacedMessage.PlacedMessage, view.Service.Service, view.View.View}
use Rattle.ring_table.specs.Views.{no_service}
use Rattle.ring_table.specs.Services.{AreRisingBelow, once_below, times, times_drawn}
use Rattle.ring_rings.specs.{Claiming.Writes, Claiming.record_behind, Closing.IsRefusedAs, Reading.messages_of}
use Rattle.ring_protocol.specs.Command.{LentRequest as Request, asked, spelling_of, type_id_of}
use Rattle.ring_service.specs.{declared.finishing.fault.FinishFault.FinishFault, Whole.committed, Whole.settled_message}
use Rattle.ring_service.specs.{Finishing.finish_refusal_of, Asking.drawn_in, Asking.Sends, Service.account_in}
use Rattle.ring_service.specs.{Account.Account, Account.account_of, Fold.Ledger, Fold.at_moment, Fold.fold_of}
use Rattle.ring_service.proofs.AccountLemmas.{account_of-append, same_fold}
use Rattle.ring_service.proofs.DrawLemmas.{all_drawn, drawn_below, same_one}
use Rattle.ring_rings.proofs.SentLemmas.{messages_of-append}

-- Sending ------------------------------------------------------------------------

module _ (C : ℕ) (r : Request) (v : View) (correlation : ℕ) (w : View) (s : Sends (Writes true) C r v correlation w) where
  one_claim : w.producer.claims ≡ v.producer.claims
      ++ record_behind C s.sent.tail (type_id_of (asked r correlation)) (spelling_of (asked r correlation)) ∷ []
  one_claim = let command = record_behind C s.sent.tail (type_id_of (asked r correlation))
      (spelling_of (asked r correlation)) in
      ap (λ (x : View). x.producer.claims) s.sent.view
      ∙ ap (λ (x : View). x.producer.claims ++ command ∷ []) s.draws.view

  one_draw : w.producer.service
      ≡ record v.producer.service { draws = v.producer.service.draws ++ s.draws.number ∷ [] }
  one_draw = ap (λ (x : View). x.producer.service) s.sent.view ∙ ap (λ (x : View). x.producer.service) s.draws.view

  none_joined : w.producer.joined ≡ v.producer.joined
  none_joined = ap (λ (x : View). x.producer.joined) s.sent.view
      ∙ ap (λ (x : View). x.producer.joined) s.draws.view

two_ids : (n m drawn : ℕ) (s : Service) → s.draws ≡ n ∷ m ∷ [] → n < m
    → ((x : ℕ) → drawn_in x (s ∷ []) ≡ once_below x drawn) → (n ≡ 0) × (m ≡ 1)
two_ids n m drawn s draws rising once =
    let two = all_drawn drawn (s ∷ []) once in
    let count = ap length draws in
    let first = same_one n n refl in
    let second = same_one m m refl in
    let n_in = ap (times n) draws in
    let m_in = ap (times m) draws in
    let n_below = drawn_below drawn (s ∷ []) once n (omega arith) in
    let m_below = drawn_below drawn (s ∷ []) once m (omega arith) in
    (omega arith, omega arith)

-- two commands were sent by the only producer of a ring, which drew no other id: the first is its claim, and then both
-- are. It loaded no heartbeat
pub two_sent : (C drawn : ℕ) (r q : Request) (v w u : View) (a b : ℕ) → v.producer.claims ≡ []
    → v.producer.service ≡ no_service → v.producer.joined ≡ []
    → Sends (Writes true) C r v a w → Sends (Writes true) C q w b u
    → ((x : ℕ) → times_drawn x u.producer ≡ once_below x drawn)
    → (a ≡ 0) × (map settled_message w.producer.claims ≡ committed (asked r 0) ∷ [])
    × (map settled_message u.producer.claims ≡ committed (asked r 0) ∷ committed (asked q 1) ∷ [])
    × (u.producer.service ≡ record { draws = 0 ∷ 1 ∷ []; heartbeats = [] }) × (u.producer.joined ≡ [])
two_sent C drawn r q v w u a b no_claims no_draws alone s t once =
    let draw = λ (n : ℕ) (x : Service). let it : Service = record x { draws = x.draws ++ n ∷ [] } in it in
    let served = one_draw C r v a w s ∙ ap (draw s.draws.number) no_draws in
    let all_served = one_draw C q w b u t ∙ ap (draw t.draws.number) served in
    let one = ap (λ (x : Service). x.draws) served in
    let two = ap (λ (x : Service). x.draws) all_served in
    let rising : AreRisingBelow 0 t.draws.number (s.draws.number ∷ []) =
    subst (AreRisingBelow 0 t.draws.number) one t.draws.rising in
    let mine : u.producer.joined ≡ [] = none_joined C q w b u t ∙ (none_joined C r v a w s ∙ alone) in
    let ids = two_ids s.draws.number t.draws.number drawn u.producer.service two (omega arith)
    (λ x. ap (λ l. drawn_in x (u.producer.service ∷ l)) (sym mine) ∙ once x) in
    let first : s.draws.number ≡ 0 = ids.0 in
    let second : t.draws.number ≡ 1 = ids.1 in
    let first_id = s.draws.id in
    let second_id = t.draws.id in
    let a_is : a ≡ 0 = omega arith in
    let b_is : b ≡ 1 = omega arith in
    let claim = one_claim C r v a w s ∙ ap
    (λ l. l ++ record_behind C s.sent.tail (type_id_of (asked r a)) (spelling_of (asked r a)) ∷ []) no_claims in
    let claims = one_claim C q w b u t ∙ ap
    (λ l. l ++ record_behind C t.sent.tail (type_id_of (asked q b)) (spelling_of (asked q b)) ∷ []) claim in (
      a_is,
      ap (map settled_message) claim ∙ (λ i. committed (asked r (a_is i)) ∷ []),
      ap (map settled_message) claims ∙ (λ i. committed (asked r (a_is i)) ∷ committed (asked q (b_is i)) ∷ []),
      all_served ∙ (λ i. let it : Service = record { draws = first i ∷ second i ∷ []; heartbeats = [] } in it),
      mine,
    )

-- The end ------------------------------------------------------------------------

pub two_reads : (r s t u first others : List PlacedMessage) → r ≡ [] → s ≡ r ++ first → t ≡ s → u ≡ t ++ others
    → messages_of u ≡ messages_of first ++ messages_of others
two_reads r s t u first others none one same two =
    ap messages_of (two ∙ ap (λ l. l ++ others) (same ∙ (one ∙ ap (λ l. l ++ first) none)))
    ∙ messages_of-append first others

pub two_folds : (l k j i : Ledger) (a : Account) (early late : ℕ) (first others : List Message) → account_in l ≡ a
    → k ≡ fold_of l (at_moment early first)
    → account_in j ≡ account_in k → i ≡ fold_of j (at_moment late others)
    → account_of a (at_moment early first ++ at_moment late others) ≡ account_in i
two_folds l k j i a early late first others start one same two =
    let p = at_moment early first in
    let q = at_moment late others in
    let after : account_of a p ≡ account_in j =
    ap (λ x. account_of x p) (sym start) ∙ (sym (same_fold l p) ∙ (sym (ap account_in one) ∙ sym same)) in
    account_of-append a p q ∙ (ap (λ x. account_of x q) after ∙ (sym (same_fold j q) ∙ sym (ap account_in two)))

pub two_joined : {A : Type 0} (l m n : List A) (a b : A) → l ≡ [] → m ≡ l ++ a ∷ [] → n ≡ m ++ b ∷ []
    → n ≡ a ∷ b ∷ []
two_joined l m n a b none one two = two ∙ ap (λ x. x ++ b ∷ []) (one ∙ ap (λ x. x ++ a ∷ []) none)

-- a conductor finishes if no claim is open and all shares are back
pub never_refused : {T E : Type 0} (error : FinishFault → E) (open_claims producing transmitting : ℕ)
    (result : Result T E) (e : E) → open_claims ≡ 0 → producing ≡ all_shares → transmitting ≡ all_shares
    → IsRefusedAs error (finish_refusal_of open_claims producing transmitting) result → result ≡ Err e → ⊥
never_refused {T} {E} error open_claims producing transmitting result e settled all_producing all_transmitting h is =
    let one = subst (λ n. IsRefusedAs error (finish_refusal_of open_claims producing n) result) all_transmitting h in
    let two = subst (λ n. IsRefusedAs error (finish_refusal_of open_claims n all_shares) result) all_producing one in
    let ok : IsOk result =
    subst (λ n. IsRefusedAs error (finish_refusal_of n all_shares all_shares) result) settled two in
    let bad : IsOk {T = T} {E = E} (Err e) = subst IsOk is ok in true≢false (sym bad)
