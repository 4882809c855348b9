-- The receiver after the copy that borrows it is gone.
use Rattle.std.specs.Prelude.{⊤}
use Rattle.std.specs.Borrow.{follows_so, MutBor, Fml}
use mathlib.Core.Option.{none}
use Rattle.ring_board.specs.declared.board.CopyReceiver.{CopyReceiver}
use Rattle.ring_board.specs.contracts.board.CopyReceiver.{the_row}

-- the receiver has the property P when the borrow ends
abbrev pub Rests : MutBor CopyReceiver → (CopyReceiver → Type 0) → Fml
Rests r P = follows_so the_row the_row r.ghost_name none (λ _ _. ⊤) P
