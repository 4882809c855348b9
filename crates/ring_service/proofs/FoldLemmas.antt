-- A handler that serves each message folds them.
use Rattle.std.proofs.Common.{◌≡◌, ◌∙◌, ℕ, ◌+◌, ◌*◌, ◌≤◌, List, [], ◌∷◌, ◌++◌, length, refl, subst, arith, All}
use Rattle.std.proofs.lemmas.List.Elements.{All-head, All-tail}
use Rattle.ring_words.specs.{declared.read.action.Action.Action, Controlled.GoesOn}
use Rattle.ring_words.specs.declared.read.action.Action.TheVariants.{Abort, Break, Commit, Continue}
use Rattle.ring_layout.specs.{declared.message.Message.Message, Handles.Handles, History.span}
use Rattle.ring_table.specs.declared.claim.PlacedMessage.{PlacedMessage}
use Rattle.ring_rings.specs.Reading.{commit_ends, messages_of}
use Rattle.ring_service.specs.declared.conductor.working.Serving.{Serving}
use Rattle.ring_layout.proofs.PlaceLemmas.{next_le, span_bounds}
use Rattle.ring_board.specs.declared.shared.view.View.{View}
use Rattle.ring_protocol.specs.{declared.reply.Reply.Reply, Reply.spelling_of}
use Rattle.ring_service.specs.{Applied.applied, Fold.Ledger, Fold.fold_of, Fold.at_moment, Fold.replied, Fold.served}
use Rattle.ring_service.specs.Serving.{ledger_of, HaveRoom, IsSameHandler, ActsOn}

same_twice : (s t u : Serving) → IsSameHandler s t → IsSameHandler t u → IsSameHandler s u
same_twice s t u a b = record {
  moment = b.moment ∙ a.moment;
  board = b.board ∙ a.board;
  values = b.values ∙ a.values;
  counters = b.counters ∙ a.counters;
  transmitter = b.transmitter ∙ a.transmitter;
  value_shares = b.value_shares ∙ a.value_shares;
}

same_once : (s : Serving) → IsSameHandler s s
same_once s =
    record { moment = refl; board = refl; values = refl; counters = refl; transmitter = refl; value_shares = refl }

abbrev pub Folds : Serving → List Message → Serving → Type 0
Folds s ms t =
    IsSameHandler s t × (ledger_of t ≡ fold_of (ledger_of s) (at_moment s.now ms)) × HaveRoom s.now (ledger_of s) ms

one_more : (s u t : Serving) (m : Message) (ms : List Message) → ActsOn s m u Continue → Folds u ms t
    → Folds s (m ∷ ms) t
one_more s u t m ms w f =
    let at_once = subst (λ (n : ℕ). HaveRoom n (ledger_of u) ms) w.0.moment f.2 in (
      same_twice s u t w.0 f.0,
      f.1 ∙ (λ i. fold_of (w.1 i) (at_moment (w.0.moment i) ms)),
      (w.2, subst (λ (l : Ledger). HaveRoom s.now l ms) w.1 at_once),
    )

-- a read that goes on after each message
pub folded : (s t : Serving) (ms : List Message) (actions : List Action) → Handles ActsOn s ms actions t
    → All GoesOn actions → Folds s ms t
folded s t [] [] h on = subst (λ (x : Serving). Folds s [] x) h (same_once s, refl, tt)
folded s t [] (a ∷ actions) h on = absurd h
folded s t (m ∷ ms) [] h on = absurd h
folded s t (m ∷ ms) (Abort ∷ actions) h on = absurd (All-head GoesOn Abort actions on)
folded s t (m ∷ ms) (Break ∷ actions) h on = absurd (All-head GoesOn Break actions on)
folded s t (m ∷ ms) (Commit ∷ actions) h on = absurd h.1
folded s t (m ∷ ms) (Continue ∷ actions) h on =
    one_more s h.0 t m ms h.1 (folded h.0 t ms actions h.2 (All-tail GoesOn Continue actions on))

-- and stores no head on the way
pub no_commits : (s t : Serving) (ms : List PlacedMessage) (actions : List Action)
    → Handles ActsOn s (messages_of ms) actions t → All GoesOn actions → commit_ends ms actions ≡ []
no_commits s t [] actions h on = refl
no_commits s t (m ∷ ms) [] h on = refl
no_commits s t (m ∷ ms) (Abort ∷ actions) h on = absurd (All-head GoesOn Abort actions on)
no_commits s t (m ∷ ms) (Break ∷ actions) h on = absurd (All-head GoesOn Break actions on)
no_commits s t (m ∷ ms) (Commit ∷ actions) h on = absurd h.1
no_commits s t (m ∷ ms) (Continue ∷ actions) h on =
    no_commits h.0 t ms actions h.2 (All-tail GoesOn Continue actions on)

-- it never breaks
pub never_breaks : (s t : Serving) (ms : List Message) (before : List Action)
    → Handles ActsOn s ms (before ++ Break ∷ []) t → ⊥
never_breaks s t [] [] h = h
never_breaks s t [] (a ∷ before) h = h
never_breaks s t (m ∷ ms) [] h = h.1
never_breaks s t (m ∷ ms) (a ∷ before) h = never_breaks h.0 t ms before h.2

-- a message that is left changes nothing
pub left : (s u t : Serving) (m : Message) (ms : List Message) → Folds s ms u → ActsOn u m t Abort → Folds s ms t
left s u t m ms f w = (same_twice s u t f.0 w.0, w.1 ∙ f.1, f.2)

-- Each reply takes room on the broadcast buffer ------------------------------

replied_on : (v : View) (reply : Reply) → v.at + 8 ≤ (replied v reply).at
replied_on v reply =
    let n = length (spelling_of reply) in
    let place = next_le v.capacity v.at (span n) in
    let bytes = (span_bounds n).1 in
    omega arith

pub answered : (l : Ledger) (now : ℕ) (ms : List Message)
    → l.board.at + 8 * length ms ≤ (fold_of l (at_moment now ms)).board.at
answered l now [] = omega arith
answered l now (m ∷ ms) =
    let one = replied_on l.board (applied now l.registry m).reply in
    let others = answered (served l now m) now ms in
    omega arith
