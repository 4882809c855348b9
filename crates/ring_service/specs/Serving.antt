-- The work of the conductor on a message.
use Rattle.std.specs.Prelude.{◌≡◌, ℕ, ◌<◌, ◌≤◌, ◌^◌, List, [], ◌∷◌}
use Rattle.ring_words.specs.declared.read.action.Action.{Action}
use Rattle.ring_words.specs.declared.read.action.Action.TheVariants.{Abort, Break, Commit, Continue}
use Rattle.ring_layout.specs.{declared.message.Message.Message, History.span, Places.max_position, Places.end_after}
use Rattle.ring_board.specs.{Seats.IsTransmitterOf, Seats.view_of, declared.shared.view.View.View}
use Rattle.ring_counters.specs.Manager.{registry_of, writes_of, shares_of, IsManagerOf}
use Rattle.ring_service.specs.{declared.conductor.working.Serving.Serving, Fold.Ledger, Fold.served}

-- a reply of 12 bytes would end above the greatest position
abbrev pub IsAtEnd : View → Type 0
IsAtEnd v = max_position < end_after v.capacity v.at (span 12)

-- the messages are served one after another at a moment, and there was room for a reply of 12 bytes at each of them
abbrev pub HaveRoom : ℕ → Ledger → List Message → Type 0
HaveRoom now l [] = Unit {0}
HaveRoom now l (m ∷ ms) = (IsAtEnd l.board → ⊥) × HaveRoom now (served l now m) ms

abbrev pub ledger_of : Serving → Ledger
ledger_of s = record {
  registry = registry_of s.counters.now;
  writes = writes_of s.counters.now;
  board =
      view_of s.transmitter.now;
}

-- the transmitter and the counters belong to the broadcast buffer and the values
pub record IsReady (s : Serving) : Type 0 where
  pub board : IsTransmitterOf s.board.now s.transmitter.now
  pub values : IsManagerOf s.values.now s.counters.now
  pub moment : s.now ≤ 2 ^ 62

-- the handler is the same, with all shares as before
pub record IsSameHandler (s t : Serving) : Type 0 where
  pub moment : t.now ≡ s.now
  pub board : t.board ≡ s.board
  pub values : t.values ≡ s.values
  pub counters : t.counters.ghost_name ≡ s.counters.ghost_name
  pub transmitter : t.transmitter.ghost_name ≡ s.transmitter.ghost_name
  pub value_shares : shares_of t.counters.now ≡ shares_of s.counters.now

-- A message is served if a reply of 12 bytes has room on the broadcast buffer. Otherwise nothing is done.
abbrev pub ActsOn : Serving → Message → Serving → Action → Type 0
ActsOn s m t Abort = IsSameHandler s t × (ledger_of t ≡ ledger_of s) × IsAtEnd (ledger_of s).board
ActsOn s m t Break = ⊥
ActsOn s m t Commit = ⊥
ActsOn s m t Continue =
    IsSameHandler s t × (ledger_of t ≡ served (ledger_of s) s.now m) × (IsAtEnd (ledger_of s).board → ⊥)
