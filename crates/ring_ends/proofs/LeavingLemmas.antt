-- How all receivers that are here leave, one after another.
use Rattle.std.proofs.Common.{◌≡◌, ℕ, ◌+◌, ◌<◌, IfNone, List, [], ◌∷◌, OnSome, Option, Some, None, refl, ap}
use Rattle.ring_board.specs.{declared.board.CopyReceiver.CopyReceiver, declared.shared.view.View.View, Views.joined}
use Rattle.ring_board.specs.Seats.{receiver_view, view_of}
use Rattle.ring_ends.specs.{Held.IsFree, Receivers.NumberedReceivers, Receivers.LeavesAt, Receivers.all_left}
use Rattle.ring_ends.proofs.HeldLemmas.{GoneTo, none_goes, one_goes}

-- of the receivers that were here, those below an index have left
abbrev pub LeftTo : NumberedReceivers → ℕ → ℕ → NumberedReceivers → Type 0
LeftTo start drawn n now = GoneTo (λ r v. joined v (receiver_view r)) start.receivers (view_of start.transmitter)
    drawn n now.receivers (view_of now.transmitter)

-- the receiver at the index left, if one is here
pub left_on : {T : Type 0} (start : NumberedReceivers) (drawn n : ℕ) (now : NumberedReceivers) → LeftTo start drawn n now → n < drawn
    → (next : NumberedReceivers) (r : Option T)
    → IfNone r ((next.transmitter ≡ now.transmitter) × (next.receivers ≡ now.receivers))
    → OnSome r (LeavesAt now (n + 1) next) → IfNone r (IsFree now.receivers (n + 1))
    → LeftTo start drawn (n + 1) next
left_on start drawn n now so_far inside next None same did free =
    none_goes _ _ _ drawn n _ _ so_far inside _ _ same.1 (ap view_of same.0) free
left_on start drawn n now so_far inside next (Some x) same did free =
    one_goes _ _ _ drawn n _ _ so_far inside _ _ did.receiver did.goes did.share

-- leaving adds nothing to the transmitted list
pub sent_stays : (receivers : List (Option CopyReceiver)) (v : View) → (all_left receivers v).sent ≡ v.sent
sent_stays [] v = refl
sent_stays (None ∷ more) v = sent_stays more v
sent_stays (Some r ∷ more) v = sent_stays more (joined v (receiver_view r))
